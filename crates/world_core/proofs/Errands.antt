-- Session 0 begins to go on an errand.
use Rattle.std.proofs.Common.{◌≡◌, ℕ, List, refl}
use Rattle.cloud_facts.specs.Words.{IsTree, Entry, CloudState, Book, at}
use Rattle.client_work.specs.Session.{closed_session}
use Rattle.replay_meaning.specs.Standing.{Standing, after_own}
use Rattle.reply_text.specs.declared.reply.Reply.{Reply}
use Rattle.session_facts.proofs.Sessions.Begins.{settling_begins_session, sweeping_begins_session}
use Rattle.session_facts.specs.Lines.Errands.{Errand, settles, sweeps, event_for, session_for, WorksOn}
use Rattle.session_facts.specs.Sessions.Knows.{Sessions, SessionsStand}

-- a sweep is of a tree
abbrev pub IsRightErrand : Errand → Type 0
IsRightErrand settles = Unit {0}
IsRightErrand (sweeps tree) = IsTree tree

-- the errand is what is at work then
pub works_first : (errand : Errand) → WorksOn errand (session_for errand).work
works_first settles = refl
works_first (sweeps tree) = refl

-- a session that is closed begins to go on it
pub begins_errand : (errand : Errand) → IsRightErrand errand → (book : Book) (order : List Entry) (s : CloudState) (sessions : Sessions) (session : ℕ) → sessions session ≡ closed_session
    → SessionsStand book order s sessions → SessionsStand book order s (at session (session_for errand) sessions)
begins_errand settles right book order s sessions session closed stand = settling_begins_session book order s sessions session closed stand
begins_errand (sweeps tree) right book order s sessions session closed stand = sweeping_begins_session tree right book order s sessions session closed stand

-- its line changes nothing of how session 0 stands
pub still_stands : (errand : Errand) (r : Reply) (s : Standing) → after_own (event_for errand) r s ≡ s
still_stands settles r s = refl
still_stands (sweeps tree) r s = refl
