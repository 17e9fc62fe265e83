-- Why an opening stops: once its lease is given back, for the trouble that was in hand, or at its take.
use Rattle.std.proofs.Common.{◌≡◌, ℕ, subst}
use Rattle.cloud_facts.specs.Words.{Trouble, Answer, Goes, Ends, Stops, Store}
use Rattle.db_base.specs.declared.names.Lock.TheVariants as lock
use Rattle.cloud_facts.specs.Homes.Homes.{Part}
use Rattle.session_facts.specs.Machines.Openings.Knows.{MayStopOpening, MayEnd, KnowsOpeningAt, KnowsOpening}
use Rattle.session_facts.proofs.Machines.Openings.Refusals.{opening_refusals}
use Rattle.session_facts.proofs.Machines.Refusals.{given_may}
use Rattle.recover_run.proofs.Turns.{Turns, turns_to}
use Rattle.recover_run.proofs.Turns as turn
use Rattle.recover_run.specs.Recovery.{Recovery, Step, recovery_next}

-- a step that stops does so for such a trouble
abbrev MayNext : Step → Type 0
MayNext (Goes r) = Unit {0}
MayNext (Ends r a) = Unit {0}
MayNext (Stops r t) = MayStopOpening t

may : (st : Store) (now : ℕ) (part : Part) {r : Recovery} {a : Answer} {next : Step} → Turns r a next → KnowsOpeningAt r.stage st now r part → MayNext next
may st now part (turn.refused r a t e) k = given_may opening_refusals (λ k until. tt) (lock.Client r.client) a t e
may st now part (turn.stopped r a t e) k = subst MayEnd e k.2
may st now part (turn.astray r a e) k = absurd (subst MayEnd e k.2)
may st now part (turn.nothing r a) k = absurd k
may st now part c k = tt

-- why it stops, whatever was answered: for no head and no message that is damaged
pub opening_stops : (st : Store) (now : ℕ) (r : Recovery) (part : Part) (reply : Answer) → KnowsOpening st now r part → (n : Recovery) (t : Trouble)
    → recovery_next r reply ≡ Stops n t → MayStopOpening t
opening_stops st now r part reply k n t e = may st now part (turns_to r reply (Stops n t) e) k.at
