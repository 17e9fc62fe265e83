-- A counter is put in its place among ascending ones.
use Rattle.std.proofs.Common.{◌≡◌, ℕ, ◌+◌, ◌<◌, List, ◌∷◌, ◌++◌, length, take, drop, set, ap, sym, ◌∙◌, arith, slice_index_or}
use Rattle.std.specs.declared.cmp.Ordering.TheVariants.{Equal}
use Rattle.std.proofs.lemmas.List.{take-append-drop, take-set, drop-set-lt, get_or-set_same, length-set}
use Rattle.head_codec.specs.declared.lists.QueueCount.{QueueCount}
use Rattle.route_plan.specs.Heads.{counter_cmp, put_counter, with_counter}
use Rattle.route_plan.proofs.Places.{drop-at}

-- the counters up to a place are below the one that is put, so it is put among the others
pub record GoesBehind (counters : List QueueCount) (counter : QueueCount) (place : ℕ) : Type 0 where
  pub behind : with_counter counters counter ≡ take place counters ++ with_counter (drop place counters) counter

-- a list with another item at a place
set-parts : {X : Type 0} (xs : List X) (k : ℕ) (y : X) → k < length xs → set xs k y ≡ take k xs ++ y ∷ drop (k + 1) xs
set-parts xs k y below =
    let inside : k < length (set xs k y) = omega (arith, length-set xs k y) in
    sym (take-append-drop k (set xs k y))
    ∙ (ap (λ l. l ++ drop k (set xs k y)) (take-set xs k y)
    ∙ (ap (λ l. take k xs ++ l) (drop-at (set xs k y) k y inside (get_or-set_same xs k y y below))
    ∙ ap (λ l. take k xs ++ y ∷ l) (drop-set-lt (k + 1) xs k y (omega arith))))

pub replaces : (counters : List QueueCount) (counter : QueueCount) (place : ℕ) (item : QueueCount)
    → GoesBehind counters counter place → place < length counters → item ≡ slice_index_or counters place item → counter_cmp counter item ≡ Equal
    → set counters place counter ≡ with_counter counters counter
replaces counters counter place item h below at is =
    set-parts counters place counter below
    ∙ sym (h.behind ∙ (ap (λ l. take place counters ++ with_counter l counter) (drop-at counters place item below (sym at))
    ∙ ap (λ p. take place counters ++ put_counter p counter item (drop (place + 1) counters) (with_counter (drop (place + 1) counters) counter)) is))
