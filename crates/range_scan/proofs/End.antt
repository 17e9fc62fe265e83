-- A scan ends: it has fewer calls left behind each leaf from which it goes on.
use Rattle.std.proofs.Common.{◌≡◌, ℕ, ◌+◌, ◌-◌, ◌^◌, ◌<◌, Bool, true, false, List, [], ◌∷◌, length, Option, Some, None, Result, Ok, Err, refl, ap, subst, arith, length-append, ◌∙◌}
use Rattle.std.specs.Prelude.{if◌then◌else◌, is_some}
use Rattle.byte_format.specs.Order.{below_bound}
use Rattle.range_scan.proofs.Words.{Ends, Next, Answer, Turn, Ended, Trouble, Leaf}
use Rattle.cloud_trait.specs.declared.answer.Answer.TheVariants.{Got}
use Rattle.page_cache.specs.Cache.{Cache}
use Rattle.tree_walk.specs.Moves.{MovesBeside}
use Rattle.tree_walk.specs.Walk.{Spot}
use Rattle.range_scan.specs.Scan.{Scan, is_wanted, goes_on, moved_on, scan_beside, right_got, next_at, scan_next}
use Rattle.range_scan.specs.End.{calls_left_at, calls_left}
use Rattle.range_scan.proofs.Outcomes as step
use Rattle.range_scan.proofs.Outcomes.{Reaches, EndsAt, came_by}

-- behind a leaf a right page is in hand
moved_left : (s : Scan) → goes_on s ≡ true → calls_left (moved_on s) ≡ 2 ^ 64 - length s.passed
moved_left s h = on s.next h where
  at : (o : Option Spot) (b : Bool) → is_some o ≡ true → b ≡ true → calls_left (if b then record s { spot = o; next = None } else s) ≡ 2 ^ 64 - length s.passed
  at (Some spot) true some e = refl
  at o false some e = absurd (cc (e))
  at None true some e = absurd (cc (some))

  on : (o : Option Spot) → is_wanted s.to o ≡ true → calls_left (if is_wanted s.to o then record s { spot = o; next = None } else s) ≡ 2 ^ 64 - length s.passed
  on None e = absurd (cc (e))
  on (Some next) e = at (Some next) (below_bound next.low s.to) refl e

-- where it ended with a right page in hand, it came to one more of them
right_passed : (m : Scan × Cache) (a : Answer) (spot : Spot) (s : Scan) (c : Cache) (l : Leaf) (page : ℕ) → m.0.spot ≡ Some spot → Reaches m a s c l page → length s.passed ≡ length m.0.passed + 1
right_passed m a spot _ _ _ _ some (step.first w page l none ends kept) = absurd (cc (some, none))
right_passed m a spot _ _ _ _ some (step.right at c l read same) = length-append m.0.passed (at.page ∷ [])

right_falls : (m n : Scan × Cache) (a : Answer) (spot : Spot) (page : ℕ) → m.0.spot ≡ Some spot → length m.0.passed < 2 ^ 64 → scan_next m a ≡ Ends n page → goes_on n.0 ≡ true
    → calls_left (moved_on n.0) < calls_left m.0
right_falls m n a spot page some few leads on =
    let o : EndsAt m a n page = came_by m a (Ends n page) leads in
    let more : length n.0.passed ≡ length m.0.passed + 1 = ap (λ (s : Scan). length s.passed) o.leaves.is ∙ right_passed m a spot o.at n.1 o.leaf o.at_page some o.reached in
    let old : calls_left m.0 ≡ 2 ^ 64 - length m.0.passed = ap (calls_left_at m.0) some in
    omega (arith, few, more, old, moved_left n.0 on)

-- the same of the code's step
pub right_further : (s : Scan) (c : Cache) (g : Result (Option (List ℕ)) Trouble) (new : Scan) (d : Cache) (result : Turn ℕ) (page : ℕ) → is_some s.spot ≡ true
    → length s.passed < 2 ^ 64 → MovesBeside (right_got s c g) new d result → result ≡ Ended page → goes_on new ≡ true
    → calls_left (moved_on new) < calls_left s
right_further s c g new d result page some few moved ended on =
    let At : Turn ℕ → Type 0 = MovesBeside (right_got s c g) new d in
    by g (spot_of s.spot some) (subst At ended moved)
  where
    spot_of : (o : Option Spot) → is_some o ≡ true → (spot : Spot) × (o ≡ Some spot)
    spot_of None e = absurd (cc (e))
    spot_of (Some spot) e = (spot, refl)

    by : (g : Result (Option (List ℕ)) Trouble) → (spot : Spot) × (s.spot ≡ Some spot) → MovesBeside (right_got s c g) new d (Ended page) → calls_left (moved_on new) < calls_left s
    by (Err t) at (ends, beside) = absurd (cc (ends))
    by (Ok got) (spot, at) (ends, beside) =
        let leads : scan_next (s, c) (Got got) ≡ Ends (new, d) page =
        ap (λ (o : Option Spot). next_at o (s, c) (Got got)) at ∙ ap (λ (x : Next Scan ℕ). scan_beside (x, (right_got s c (Ok got)).1)) ends ∙ ap (λ (k : Cache). Ends (new, k) page) beside in
        right_falls (s, c) (new, d) (Got got) spot page at few leads on
