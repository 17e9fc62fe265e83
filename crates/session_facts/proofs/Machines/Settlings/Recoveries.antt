-- A recovery keeps its client and its aim, and that of a settling leaves no client open.
use Rattle.std.proofs.Common.{◌≡◌, None, refl, sym, ◌∙◌}
use Rattle.cloud_trait.specs.declared.answer.Answer.{Answer}
use Rattle.cloud_trait.specs.Machine.{Goes, Ends, Stops}
use Rattle.recover_run.specs.declared.stage.Aim.TheVariants.{Opening, Settling}
use Rattle.recover_run.specs.Recovery.{Recovery, Step, recovery_next, home_of}
use Rattle.recover_run.proofs.Turns.{Turns, turns}
use Rattle.recover_run.proofs.Turns as turn

-- where a step leads the client and the aim are as they were, and where it ends for a settling no client is open
abbrev pub KeepsClient : Recovery → Step → Type 0
KeepsClient r (Goes n) = (n.client ≡ r.client) × (n.aim ≡ r.aim)
KeepsClient r (Ends n a) = r.aim ≡ Settling → home_of n ≡ None
KeepsClient r (Stops n t) = Unit {0}

keeps : {r : Recovery} {a : Answer} {next : Step} → Turns r a next → KeepsClient r next
keeps (turn.gives_old r a) = (refl, refl)
keeps (turn.takes r l) = (refl, refl)
keeps (turn.works n w goes) = (w.client, w.aim)
keeps (turn.halts q ending w may) = (w.client, w.aim)
keeps (turn.opens q epoch w opens) = λ settles. absurd (let other : Opening ≡ Settling = sym opens ∙ settles in cc (other))
keeps (turn.ends r a answer e) = λ settles. refl
keeps c = tt

pub recovery_keeps : (r : Recovery) (a : Answer) → KeepsClient r (recovery_next r a)
recovery_keeps r a = keeps (turns r a)
