-- A sweep ends: each step that goes on leaves fewer calls.
use Rattle.std.proofs.Common.{◌≡◌, ℕ, ◌<◌, ◌≤◌, ◌+◌, ◌-◌, ◌^◌, [], ◌∷◌, ◌++◌, length, length-append, Option, Some, subst, arith}
use Rattle.std.proofs.lemmas.Option.{slice_get_within}
use Rattle.orphan_sweep.specs.End.{calls_left}
use Rattle.orphan_sweep.specs.Sweeping.{Sweeping, Step, next_orphan, sweep_next, KeepsLease}
use Rattle.orphan_sweep.proofs.Words.{Trouble, Answer, Turn, More, Goes, Ends, Stops, LeadsBy, Took, Spot, Swept}
use Rattle.orphan_sweep.proofs.Outcomes.{Onward, Clears, Fails, Comes, came_by}
use Rattle.orphan_sweep.proofs.Outcomes as step

onward_many : {s : Sweeping} {a : Answer} {o : Option Spot} → Onward s a o → (2 ^ 64 - length s.visited) + 2 ^ 64 + 4 ≤ calls_left s
onward_many (step.from_root s held got root e) = omega arith
onward_many (step.from_page s held got paths e) = omega arith

clears_many : {s q : Sweeping} {a : Answer} → Clears s a q → 2 ≤ calls_left s
clears_many (step.listed s held pages) = omega arith
clears_many (step.removed s held) = omega arith

-- an orphan that was removed is none that is left
clears_less : {s q : Sweeping} {a : Answer} (page : ℕ) → Clears s a q → next_orphan q ≡ Some page → length q.orphans ≤ 2 ^ 64
    → (length q.orphans - q.removed) + 2 < calls_left s
clears_less page (step.listed s held pages) e few = omega (arith, few)
clears_less page (step.removed s held) e few = omega (arith, slice_get_within s.orphans (s.removed + 1) page e)

fails_many : {s : Sweeping} {a : Answer} {t : Trouble} → Fails s a t → 2 ≤ calls_left s
fails_many (step.round spot on seen) = omega (arith, onward_many on)
fails_many f = omega arith

-- where a step goes on, fewer calls are left than this, unless there are too many pages
abbrev Below : ℕ → Step → Type 0
Below n (Goes s) = length s.visited ≤ 2 ^ 64 → length s.orphans ≤ 2 ^ 64 → calls_left s < n
Below n (Ends s x) = Unit {0}
Below n (Stops s t) = Unit {0}

below : {s : Sweeping} {a : Answer} {next : Step} → Comes s a next → Below (calls_left s) next
below (step.takes s held l) = λ visited orphans. omega arith
below (step.refused s held a t e) = tt
below (step.stops t f) = λ visited orphans. omega (arith, fails_many f)
below {s = s} (step.reads_on spot on new) = λ visited orphans.
    let one : length (s.visited ++ spot.page ∷ []) ≡ length s.visited + 1 = length-append s.visited (spot.page ∷ []) in
    omega (arith, onward_many on, visited, one)
below (step.has_read on) = λ visited orphans. omega (arith, onward_many on)
below (step.removes q page c e) = λ visited orphans. clears_less page c e orphans
below (step.rests q c e) = λ visited orphans. omega (arith, clears_many c)
below (step.ends s held a e) = tt
below (step.stopped s held a t e) = tt
below (step.nothing s held a) = tt

less : (s n : Sweeping) (a : Answer) → length n.visited ≤ 2 ^ 64 → length n.orphans ≤ 2 ^ 64 → sweep_next s a ≡ Goes n → calls_left n < calls_left s
less s n a visited orphans leads = below (came_by s a (Goes n) leads) visited orphans

-- the same of the code's step
pub took_less : (old new : Sweeping) (a : Answer) (turn : Turn Swept) → length new.visited ≤ 2 ^ 64 → length new.orphans ≤ 2 ^ 64
    → Took (LeadsBy sweep_next) KeepsLease old a new turn → turn ≡ More → calls_left new < calls_left old
took_less old new a turn visited orphans took more =
    let At : Turn Swept → Type 0 = Took (LeadsBy sweep_next) KeepsLease old a new in
    less old new a visited orphans (subst At more took)
