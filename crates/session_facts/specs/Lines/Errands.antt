-- What session 0 does at a line of its own: it settles, or it sweeps a tree.
use Rattle.std.specs.Prelude.{ℕ, ◌≡◌, List}
use Rattle.client_work.specs.Session.{Acting, settling_session, sweeping_session}
use Rattle.client_work.specs.declared.work.Work.{Work}
use Rattle.client_work.specs.declared.work.Work.TheVariants.{Settling, Sweeping}
use Rattle.cloud_trait.specs.Caller.{Caller}
use Rattle.cloud_trait.specs.declared.state.Landing.{Landing}
use Rattle.event_text.specs.declared.event.Event.{Event}
use Rattle.event_text.specs.declared.event.Event.TheVariants as event
use Rattle.replay_meaning.specs.Kinds.{IsOfSettler, IsOfSweep}
use Rattle.replay_meaning.specs.Standing.{Line}
use Rattle.session_facts.specs.Lines.Running.{PutsSettled}

pub data Errand : Type 0 where
  settles : Errand
  sweeps : (tree : ℕ) → Errand

-- the line that asks it
abbrev pub event_for : Errand → Event
event_for settles = event.Settle
event_for (sweeps tree) = event.Sweep tree

-- the session with it at work, before its first call
abbrev pub session_for : Errand → Acting
session_for settles = settling_session
session_for (sweeps tree) = sweeping_session tree

-- it is at work; a settling puts no head but settled ones
abbrev pub WorksOn : Errand → Work → Type 0
WorksOn settles (Settling m) = PutsSettled m.part
WorksOn (sweeps tree) (Sweeping m) = m.tree ≡ tree
WorksOn errand work = ⊥

-- the row is of session 0, at a line that asks it
abbrev pub IsRowOf : Errand → List Line → Landing → Type 0
IsRowOf settles lines row = IsOfSettler lines row
IsRowOf (sweeps tree) lines row = IsOfSweep lines row tree

-- each row of this caller is
abbrev pub AreRowsOf : Errand → List Line → Caller → Type 0
AreRowsOf errand lines who = (row : Landing) → row.who ≡ who → IsRowOf errand lines row
