-- The head that a recovery puts is settled, whatever its aim.
use Rattle.std.proofs.Common.{◌≡◌}
use Rattle.cloud_trait.specs.declared.answer.Answer.{Answer}
use Rattle.cloud_trait.specs.Machine.{Goes, Ends, Stops}
use Rattle.recover_run.specs.Recovery.{Recovery, Step, recovery_next}
use Rattle.session_facts.specs.Lines.Running.{IsSettledHead}
use Rattle.recover_run.proofs.Turns.{Turns, turns_to}
use Rattle.recover_run.proofs.Turns as turn

-- where a step goes on, the head stays settled
abbrev KeepsSettled : Step → Type 0
KeepsSettled (Goes r) = IsSettledHead r
KeepsSettled (Ends r answer) = Unit {0}
KeepsSettled (Stops r t) = Unit {0}

keeps : {r : Recovery} {a : Answer} {next : Step} → Turns r a next → IsSettledHead r → KeepsSettled next
keeps (turn.gives_old r a) h = h
keeps (turn.takes r l) h = h
keeps (turn.works n w goes) h = w.settled h
keeps (turn.halts q ending w may) h = w.settled h
keeps c h = tt

pub settled_on : (r n : Recovery) (a : Answer) → recovery_next r a ≡ Goes n → IsSettledHead r → IsSettledHead n
settled_on r n a goes h = keeps (turns_to r a (Goes n) goes) h
