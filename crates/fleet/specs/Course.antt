-- A course of a fleet: acts, one behind the other, and what was committed and applied on the way.
use Rattle.std.specs.Prelude.{ℕ, ◌≡◌, true, List, [], ◌∷◌, ◌++◌}
use Rattle.std.specs.List.{AllByRecursion}
use Rattle.client_work.specs.Session.{is_working}
use Rattle.cloud_trait.specs.State.{newest}
use Rattle.fleet.specs.Acts.{Act, calls, Does}
use Rattle.fleet.specs.Fleet.{Fleet}
use Rattle.history.specs.Audited.{Audited}
use Rattle.report_types.specs.declared.entry.Entry.{Entry}
use Rattle.session_facts.specs.Sessions.Audited.{audited}

-- an act, and the fleet behind it
pub record Done : Type 0 where
  pub act : Act
  pub fleet : Fleet

abbrev pub done : Act → Fleet → Done
done act fleet = record { act = act; fleet = fleet }

-- the fleet behind acts, of which the newest is first
abbrev pub now : Fleet → List Done → Fleet
now start [] = start
now start (x ∷ h) = x.fleet

-- each act leads on from where the one before led
abbrev pub Course : Fleet → List Done → Type 0
Course start [] = Unit {0}
Course start (x ∷ h) = Course start h × Does x.act (now start h) x.fleet

-- ---- what was committed and applied

-- where the put of a call landed, the changes that it commits, or the records that it applies
abbrev pub history_by : Act → Fleet → Fleet → Audited → Audited
history_by (calls d) from to a = audited (newest from.state) (newest to.state) d.old.work a
history_by act from to a = a

-- all that was committed and applied on a course, each in its order
abbrev pub history : Fleet → List Done → Audited
history start [] = record { committed = []; order = [] }
history start (x ∷ h) = history_by x.act (now start h) x.fleet (history start h)

-- ---- whose it is

-- a call of the program
abbrev pub IsCallOf : ℕ → Act → Type 0
IsCallOf program (calls d) = d.program ≡ program
IsCallOf program act = ⊥

-- the program has a call in hand then
abbrev pub IsAtWork : ℕ → Done → Type 0
IsAtWork program x = is_working (x.fleet.sessions program).work ≡ true

-- A call of the program put these entries at the end of what was committed, and behind it and each later act the program was at work. So the call is
-- one of the operation at which it is.
pub record HasCommitted (start : Fleet) (program : ℕ) (entries : List Entry) (h : List Done) : Type 0 where
  pub since : List Done
  pub put : Done
  pub earlier : List Done
  pub there : h ≡ since ++ put ∷ earlier
  pub own : IsCallOf program put.act
  pub adds : (history start (put ∷ earlier)).committed ≡ (history start earlier).committed ++ entries
  pub works : AllByRecursion (IsAtWork program) (since ++ put ∷ [])
