-- A sweep that goes on came from its first call on: it stays that of its tree.
use Rattle.std.proofs.Common.{◌≡◌, ◌∷◌, refl, ap, sym, subst}
use Rattle.cloud_trait.specs.declared.answer.Answer.{Answer}
use Rattle.cloud_trait.specs.declared.turn.Turn.{Turn}
use Rattle.cloud_trait.specs.declared.turn.Turn.TheVariants.{More}
use Rattle.cloud_trait.specs.Caller.{Caller}
use Rattle.cloud_trait.specs.Machine.{Goes, Ends, Stops, LeadsBy, Deed, Came, Steps, Took, occasion_of}
use Rattle.cloud_trait.specs.Seen.{Seen}
use Rattle.orphan_sweep.specs.declared.swept.Swept.{Swept}
use Rattle.orphan_sweep.specs.Leases.{fresh}
use Rattle.orphan_sweep.specs.Sweeping.{Sweeping, Step, new_sweeping, sweep_ask, sweep_next, KeepsLease, sweep_machine}
use Rattle.orphan_sweep.proofs.Outcomes as outcome
use Rattle.client_work.specs.Sweeping.{IsSweeping}
use Rattle.client_work.proofs.Settles.{untold, made_untold, follows_untold}

-- ---- a sweep stays that of its tree

clears_same : {s q : Sweeping} {a : Answer} → outcome.Clears s a q → q.tree ≡ s.tree
clears_same (outcome.listed s held pages) = refl
clears_same (outcome.removed s held) = refl

abbrev GoesSame : Sweeping → Step → Type 0
GoesSame s (Goes q) = q.tree ≡ s.tree
GoesSame s (Ends q x) = Unit {0}
GoesSame s (Stops q t) = Unit {0}

comes_same : {s : Sweeping} {a : Answer} {next : Step} → outcome.Comes s a next → GoesSame s next
comes_same (outcome.takes s held l) = refl
comes_same (outcome.refused s held a t e) = tt
comes_same (outcome.stops t fails) = refl
comes_same (outcome.reads_on spot on new) = refl
comes_same (outcome.has_read on) = refl
comes_same (outcome.removes q page clears some) = clears_same clears
comes_same (outcome.rests q clears none) = clears_same clears
comes_same (outcome.ends s held a none) = tt
comes_same (outcome.stopped s held a t kept) = tt
comes_same (outcome.nothing s held a) = tt

pub fresh_again : (s q : Sweeping) (a : Answer) → LeadsBy sweep_next s a (Goes q) → fresh s ≡ fresh q
fresh_again s q a leads = let same : q.tree ≡ s.tree = comes_same (outcome.came_by s a (Goes q) leads) in ap new_sweeping (sym same)

-- ---- .. and goes on

pub sweeps_on : (who : Caller) (before after : Seen) (old new : Sweeping) (turn : Turn Swept) → Steps sweep_machine (occasion_of who before after) old new turn → turn ≡ More
    → IsSweeping old → IsSweeping new
sweeps_on who before after old new turn steps more (h, went, is) =
    let At : Turn Swept → Type 0 = Took (LeadsBy sweep_next) KeepsLease old steps.answer new in
    let leads : LeadsBy sweep_next old steps.answer (Goes new) = subst At more steps.took in
    let from : Came sweep_ask (LeadsBy sweep_next) (fresh new) h old =
    subst (λ (start : Sweeping). Came sweep_ask (LeadsBy sweep_next) start h old) (fresh_again old new steps.answer leads) went in
    let d : Deed = record { who = who; ask = sweep_ask old; answer = steps.answer; before = untold before; after = untold after } in
    (d ∷ h, (old, from, refl, made_untold who (sweep_ask old) steps.answer before after steps.made, leads, follows_untold h d is), refl)
