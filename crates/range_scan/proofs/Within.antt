-- A scan comes to each of its pages once, and to one more at least with each call that it goes on from.
use Rattle.std.proofs.Common.{◌≡◌, ℕ, ◌+◌, ◌≤◌, ◌<◌, Bool, true, false, List, [], ◌∷◌, ◌++◌, length, Option, Some, None, refl, ap, sym, subst, arith, length-append, ◌∙◌}
use Rattle.std.specs.Prelude.{◌||◌, ◌==◌, if◌then◌else◌}
use Rattle.std.specs.List.{IsDistinct}
use Rattle.std.proofs.lemmas.Bool.{eqb-true}
use Rattle.byte_format.specs.Order.{below_bound}
use Rattle.range_scan.proofs.Words.{Ends, Goes, Next, Stops, Answer, Leaf}
use Rattle.page_cache.specs.Cache.{Cache}
use Rattle.tree_walk.specs.Walk.{Spot, Walk, is_page, is_among, came_to, use_of, rested, pages, spots}
use Rattle.tree_walk.specs.Within.{AreOnce, IsOnce}
use Rattle.tree_walk.proofs.End.{more_pages}
use Rattle.tree_walk.proofs.Within.{or_false, once_push, among_push, once_goes, once_begun}
use Rattle.tree_walk.proofs.Served.{ended_as}
use Rattle.range_scan.specs.Scan.{Scan, scan_came_to, is_wanted, goes_on, moved_on, scan_next}
use Rattle.range_scan.specs.Meaning.{Range, scan_of, Move, LedTo, Scanned}
use Rattle.range_scan.specs.Within.{scan_pages, IsScannedOnce, ScansWithin}
use Rattle.range_scan.proofs.Outcomes as step
use Rattle.range_scan.proofs.Outcomes.{Leaves, Reaches, EndsAt, GoesOn, Comes, comes, Readies, scan_readies}

-- ---- what holds where a step leads

-- each page of the walk and each right page that it got was come to once
record IsPassed (w : Walk) (passed : List ℕ) : Type 0 where
  walk : IsOnce w
  pages_once : AreOnce passed
  apart : (page : ℕ) → is_among passed page ≡ true → came_to w page ≡ false

-- the page to the right, where it is one to go on to, is none of them
abbrev IsNewPage : Scan → Option Spot → Type 0
IsNewPage s None = Unit {0}
IsNewPage s (Some next) = below_bound next.low s.to ≡ true → (came_to s.walk next.page || is_among s.passed next.page) ≡ false

-- it came to each of its pages once, and to so many at least; while its walk is in hand, it got no right page
record IsCounted (n : ℕ) (s : Scan) : Type 0 where
  once : IsScannedOnce s
  few : n ≤ scan_pages s
  first : s.spot ≡ None → s.passed ≡ []

record IsCountedAt (n : ℕ) (s : Scan) : Type 0 where
  passed : IsPassed s.walk s.passed
  right : IsNewPage s s.next
  few : n ≤ pages s.walk + length s.passed + 1

-- where the scan goes on, and where it ended
abbrev LeadsWithin : ℕ → Next (Scan × Cache) ℕ → Type 0
LeadsWithin n (Goes m) = IsCounted n m.0
LeadsWithin n (Ends m page) = IsCountedAt n m.0
LeadsWithin n (Stops m t) = Unit {0}

none_came : (a b c : Bool) → (a || (b || c)) ≡ false → (b || c) ≡ false
none_came true b c e = absurd (cc (e))
none_came false b c e = e

-- ---- the walk

same_once : (w v : Walk) → v ≡ use_of (rested w) → IsOnce w → IsOnce v
same_once w v is h =
    let once : IsOnce (use_of (rested w)) = record { passed = record { nodes = h.passed.nodes; leaves = h.passed.leaves; apart = h.passed.apart }; in_hand = h.in_hand } in
    subst IsOnce (sym is) once

-- while the walk is in hand, it got no right page
record IsFirst (s : Scan) : Type 0 where
  none : s.spot ≡ None
  empty : s.passed ≡ []

first_apart : (s : Scan) (v : Walk) → IsFirst s → (page : ℕ) → is_among s.passed page ≡ true → came_to v page ≡ false
first_apart s v h page among = let never : is_among [] page ≡ true = ap (λ (ps : List ℕ). is_among ps page) (sym h.empty) ∙ among in absurd (cc (never))

-- a walk that came to each of its pages once
walk_counted : (n : ℕ) (s : Scan) (v : Walk) → IsFirst s → AreOnce s.passed → IsOnce v → n ≤ pages v → IsCounted n (record s { walk = v })
walk_counted n s v h passed once few = record {
  once = record { walk = once; passed = passed; apart = first_apart s v h; in_hand = no_hand };
  few = omega (arith, few);
  first = λ none. h.empty;
}
  where
    no_hand : (spot : Spot) → s.spot ≡ Some spot → (came_to v spot.page || is_among s.passed spot.page) ≡ false
    no_hand spot e = let never : ◌≡◌ {A = Option Spot} None (Some spot) = sym h.none ∙ e in absurd (cc (never))

-- ---- where it ends

-- the leaf at which it is: its pages were come to once, and are one more
record IsReached (n : ℕ) (s : Scan) : Type 0 where
  passed : IsPassed s.walk s.passed
  few : n ≤ pages s.walk + length s.passed

first_reached : (n : ℕ) (m : Scan × Cache) (w : Walk) → m.0.spot ≡ None → w ≡ use_of (rested m.0.walk) → IsCounted n m.0 → IsReached n (record m.0 { walk = w })
first_reached n m w none is h =
    let same : pages w ≡ pages m.0.walk = ap pages is in
    let none_there : spots m.0.spot ≡ 0 = ap spots none in
    record {
      passed = record { walk = same_once m.0.walk w is h.once.walk; pages_once = h.once.passed; apart = first_apart m.0 w (record { none = none; empty = h.first none }) };
      few = omega (arith, same, none_there, h.few);
    }

right_reached : (n : ℕ) (s : Scan) (spot : Spot) → s.spot ≡ Some spot → IsCounted n s → IsReached n (record s { passed = s.passed ++ spot.page ∷ [] })
right_reached n s spot some h = record { passed = record { walk = h.once.walk; pages_once = once_push s.passed spot.page h.once.passed apart.1; apart = other }; few = omega (arith, longer, one_there, h.few) }
  where
    one_there : spots s.spot ≡ 1
    one_there = ap spots some

    longer : length (s.passed ++ spot.page ∷ []) ≡ length s.passed + 1
    longer = length-append s.passed (spot.page ∷ [])

    apart : (came_to s.walk spot.page ≡ false) × (is_among s.passed spot.page ≡ false)
    apart = or_false (came_to s.walk spot.page) (is_among s.passed spot.page) (h.once.in_hand spot some)

    among : (page : ℕ) (a : Bool) → is_among s.passed page ≡ a → (b : Bool) → (spot.page == page) ≡ b → (a || (b || false)) ≡ true → came_to s.walk page ≡ false
    among page true e b f there = h.once.apart page e
    among page false e true f there = subst (λ (p : ℕ). came_to s.walk p ≡ false) (eqb-true spot.page page f) apart.0
    among page false e false f there = absurd (cc (there))

    other : (page : ℕ) → is_among (s.passed ++ spot.page ∷ []) page ≡ true → came_to s.walk page ≡ false
    other page e = among page (is_among s.passed page) refl (spot.page == page) refl (sym (among_push s.passed spot.page page) ∙ e)

reached : (n : ℕ) (m : Scan × Cache) (a : Answer) (s : Scan) (c : Cache) (l : Leaf) (page : ℕ) → IsCounted n m.0 → Reaches m a s c l page → IsReached n s
reached n m a _ _ _ _ h (step.first w page l none e kept) = first_reached n m w.0 none (ended_as (m.0.walk, m.1) w a page e) h
reached n m a _ _ _ _ h (step.right spot c l read same) = right_reached n m.0 spot read.in_hand h

left_counted : (n : ℕ) (s k : Scan) (l : Leaf) (page p : ℕ) → IsReached n s → Leaves s l page k p → IsCountedAt (n + 1) k
left_counted n s k l page p h leaves = subst (IsCountedAt (n + 1)) (sym leaves.is) (record { passed = h.passed; right = new _ leaves.new; few = omega (arith, h.few) }) where
  new : (o : Option Spot) → ((next : Spot) → o ≡ Some next → below_bound next.low s.to ≡ true → scan_came_to s next.page ≡ false) → IsNewPage (record s { next = o }) o
  new None more = tt
  new (Some next) more = λ wanted. none_came (is_page next.page s.spot) (came_to s.walk next.page) (is_among s.passed next.page) (more next refl wanted)

-- ---- turns

next_leads : (n : ℕ) (m : Scan × Cache) (a : Answer) → IsCounted n m.0 → LeadsWithin (n + 1) (scan_next m a)
next_leads n m a h = on (scan_next m a) (comes m a) where
  on : (x : Next (Scan × Cache) ℕ) → Comes m a x → LeadsWithin (n + 1) x
  on (Goes k) o =
      let more : pages m.0.walk < pages k.0.walk = more_pages (m.0.walk, m.1) (k.0.walk, k.1) a o.walk in
      let empty : m.0.passed ≡ [] = h.first o.none in
      let none_passed : length m.0.passed ≡ 0 = ap length empty in
      let none_there : spots m.0.spot ≡ 0 = ap spots o.none in
      let once : IsOnce k.0.walk = once_goes (m.0.walk, m.1) (k.0.walk, k.1) a h.once.walk o.walk in
      subst (IsCounted (n + 1)) (sym o.is)
      (walk_counted (n + 1) m.0 k.0.walk (record { none = o.none; empty = empty }) h.once.passed once (omega (arith, more, none_passed, none_there, h.few)))
  on (Ends k page) o = left_counted n o.at k.0 o.leaf o.at_page page (reached n m a o.at k.1 o.leaf o.at_page h o.reached) o.leaves
  on (Stops k t) o = tt

-- the scan behind a leaf, where it goes on
moved_counted : (n : ℕ) (s : Scan) → IsCountedAt n s → goes_on s ≡ true → IsCounted n (moved_on s)
moved_counted n s h going =
    let is : moved_on s ≡ record s { spot = s.next; next = None } = ap (λ (b : Bool). if b then record s { spot = s.next; next = None } else s) going in
    subst (IsCounted n) (sym is) (record { once = once; few = few s.next going; first = λ none. absurd (there s.next going none) }) where
      there : (o : Option Spot) → is_wanted s.to o ≡ true → o ≡ None → ⊥
      there None w e = absurd (cc (w))
      there (Some spot) w e = absurd (cc (e))

      few : (o : Option Spot) → is_wanted s.to o ≡ true → n ≤ pages s.walk + (length s.passed + spots o)
      few None w = absurd (cc (w))
      few (Some spot) w = omega (arith, h.few)

      new : (spot : Spot) → s.next ≡ Some spot → (came_to s.walk spot.page || is_among s.passed spot.page) ≡ false
      new spot e = let N : Option Spot → Type 0 = IsNewPage s in subst N e h.right (ap (is_wanted s.to) (sym e) ∙ going)

      once : IsScannedOnce (record s { spot = s.next; next = None })
      once = record { walk = h.passed.walk; passed = h.passed.pages_once; apart = h.passed.apart; in_hand = new }

led_counted : (n : ℕ) (m k : Scan × Cache) (a : Answer) (o : Option Leaf) → IsCounted n m.0 → LedTo m a o k → IsCounted (n + 1) k.0
led_counted n m k a None h e = subst (LeadsWithin (n + 1)) e (next_leads n m a h)
led_counted n m k a (Some l) h (s, (page, e, kept, going, moved)) =
    let at : IsCountedAt (n + 1) s = subst (LeadsWithin (n + 1)) e (next_leads n m a h) in
    subst (IsCounted (n + 1)) (sym moved) (moved_counted (n + 1) s at going)

scanned_counted : (r : Range) (h : List Move) (m : Scan × Cache) → Scanned r h m → IsCounted (length h) m.0
unfolding IsDistinct
scanned_counted r [] m (c, e) =
    let (ready, is) = subst (Readies (scan_of r, c)) e (scan_readies (scan_of r, c)) in
    let once : IsOnce m.0.walk = once_begun (m.0.walk, m.1) (r.tree, r.from, false, c, ready) in
    let none_once : AreOnce [] = tt in
    subst (IsCounted 0) (sym is) (walk_counted 0 (scan_of r) m.0.walk (record { none = refl; empty = refl }) none_once once (omega arith))
scanned_counted r (x ∷ h) m (from, came, asked, made, led) =
    let before : IsCounted (length h) from.0 = scanned_counted r h from came in
    let after : IsCounted (length h + 1) m.0 = led_counted (length h) from m x.deed.answer x.behind before led in
    record { once = after.once; few = omega (arith, after.few); first = after.first }

pub scanned_within : (r : Range) (h : List Move) (m : Scan × Cache) → Scanned r h m → ScansWithin (length h + 1) m.0
scanned_within r h m came =
    let counted : IsCounted (length h) m.0 = scanned_counted r h m came in
    record { once = counted.once; bound = omega (arith, counted.few) }
