-- Each node that was got and that a link of below goes to is put.
use Rattle.std.proofs.Common.{◌≡◌, ◌<◌, ◌≤◌, ℕ, zero, suc, ◌+◌, Bool, true, false, cond, List, [], ◌∷◌, ◌++◌, length, Some, None, Ok, refl, sym, ap, subst, ◌∙◌, inl, inr, ◌⊎◌, arith}
use Rattle.std.specs.Prelude.{◌==◌, ◌||◌, ◌&&◌, not, nat_le, nat_lt, take, drop, insert, slice_get}
use Rattle.std.specs.List.{AllByRecursion}
use Rattle.std.proofs.lemmas.Bool.{eqb-true, ltb-true, ltb-false, ne_eqb}
use Rattle.std.proofs.lemmas.List.{take-append-drop}
use Rattle.std.proofs.lemmas.List.Folds.{list_any-append}
use Rattle.byte_format.specs.Order.{bytes_below, below_bound}
use Rattle.byte_format.specs.Whole.{offset}
use Rattle.node_codec.specs.Inner.{Inner, inner_of, inner_format}
use Rattle.tree_phases.specs.Kept.{stands_before, place_of, with_kept, links_at}
use Rattle.tree_phases.specs.Read.{inner_or, inner_read}
use Rattle.tree_phases.specs.Nodes.{goes_to, is_touched, touched_by, touches, touched_at}
use Rattle.tree_ckpt.specs.Working.{Climb, links_above, IsPut, HasLevel}
use Rattle.tree_ckpt.proofs.Words.{NewEntry, KeptNode, Link}

-- ---- level by level

-- the nodes stand in the order of their levels
abbrev pub AreRising : List KeptNode → Type 0
AreRising [] = Unit {0}
AreRising (k ∷ ks) = AllByRecursion (λ m. k.level ≤ m.level) ks × AreRising ks

-- each node from a place on
abbrev pub AllFrom : (KeptNode → Type 0) → List KeptNode → ℕ → Type 0
AllFrom P [] at = Unit {0}
AllFrom P (k ∷ ks) zero = P k × AllFrom P ks zero
AllFrom P (k ∷ ks) (suc at) = AllFrom P ks at

each_from : (P : KeptNode → Type 0) (ks : List KeptNode) → AllByRecursion P ks → AllFrom P ks zero
each_from P [] h = tt
each_from P (k ∷ ks) h = (h.0, each_from P ks h.1)

pub from_later : (P : KeptNode → Type 0) (ks : List KeptNode) (at more : ℕ) → AllFrom P ks at → AllFrom P ks (at + more)
from_later P [] at more h = tt
from_later P (k ∷ ks) (suc at) more h =
    let same : suc (at + more) ≡ suc at + more = omega arith in
    subst (AllFrom P (k ∷ ks)) same (from_later P ks at more h)
from_later P (k ∷ ks) zero zero h = h
from_later P (k ∷ ks) zero (suc more) h =
    let same : suc (0 + more) ≡ 0 + suc more = omega arith in
    subst (AllFrom P (k ∷ ks)) same (from_later P ks 0 more h.1)

pub from_there : (P : KeptNode → Type 0) (ks : List KeptNode) (at : ℕ) (n : KeptNode) → AllFrom P ks at → slice_get ks at ≡ Some n → P n
from_there P [] at n h e = absurd (cc (e))
from_there P (k ∷ ks) zero n h e = let same : k ≡ n = cc (e) in subst P same h.0
from_there P (k ∷ ks) (suc at) n h e = from_there P ks at n h e

-- behind a node there are none of a lower level
pub rising_from : (ks : List KeptNode) (at : ℕ) (n : KeptNode) → AreRising ks → slice_get ks at ≡ Some n → AllFrom (λ k. n.level ≤ k.level) ks (at + 1)
rising_from [] at n h e = tt
rising_from (k ∷ ks) zero n h e = let same : k ≡ n = cc (e) in each_from (λ m. n.level ≤ m.level) ks (subst (λ (x : KeptNode). AllByRecursion (λ m. x.level ≤ m.level) ks) same h.0)
rising_from (k ∷ ks) (suc at) n h e =
    let same : suc (at + 1) ≡ suc at + 1 = omega arith in
    subst (AllFrom (λ m. n.level ≤ m.level) (k ∷ ks)) same (rising_from ks at n h.1 e)

with_cons : (k m : KeptNode) (ms : List KeptNode) → with_kept k (m ∷ ms) ≡ cond (stands_before k m) (k ∷ m ∷ ms) (m ∷ with_kept k ms)
with_cons k m ms = on (stands_before k m) where
  behind : (n : ℕ) → suc (place_of k ms) ≡ n → insert (m ∷ ms) n k ≡ m ∷ insert ms (place_of k ms) k
  behind n e = subst (λ (x : ℕ). insert (m ∷ ms) x k ≡ m ∷ insert ms (place_of k ms) k) e refl

  on : (b : Bool) → insert (m ∷ ms) (cond b 0 (place_of k ms + 1)) k ≡ cond b (k ∷ m ∷ ms) (m ∷ insert ms (place_of k ms) k)
  on true = refl
  on false = behind (place_of k ms + 1) (omega arith)

all_with : (P : KeptNode → Type 0) (k : KeptNode) (ks : List KeptNode) → P k → AllByRecursion P ks → AllByRecursion P (with_kept k ks)
all_with P k [] new old = (new, tt)
all_with P k (m ∷ ms) new old = subst (AllByRecursion P) (sym (with_cons k m ms)) (on (stands_before k m) (all_with P k ms new old.1)) where
  on : (b : Bool) → AllByRecursion P (with_kept k ms) → AllByRecursion P (cond b (k ∷ m ∷ ms) (m ∷ with_kept k ms))
  on true rest = (new, old)
  on false rest = (old.0, rest)

all_least : (a b : ℕ) (ks : List KeptNode) → a ≤ b → AllByRecursion (λ m. b ≤ m.level) ks → AllByRecursion (λ m. a ≤ m.level) ks
all_least a b [] e h = tt
all_least a b (k ∷ ks) e h = (omega (arith, e, h.0), all_least a b ks e h.1)

before_least : (k m : KeptNode) → stands_before k m ≡ true → k.level ≤ m.level
before_least k m e = on (nat_lt k.level m.level) (k.level == m.level) refl refl e where
  on : (b c : Bool) → nat_lt k.level m.level ≡ b → (k.level == m.level) ≡ c → (b || (c && bytes_below k.low m.low)) ≡ true → k.level ≤ m.level
  on true c e f g = let less : k.level < m.level = ltb-true k.level m.level e in omega (arith, less)
  on false true e f g = let same : k.level ≡ m.level = eqb-true k.level m.level f in omega (arith, same)
  on false false e f g = absurd (cc (g))

behind_least : (k m : KeptNode) → stands_before k m ≡ false → m.level ≤ k.level
behind_least k m e = on (nat_lt k.level m.level) refl e where
  on : (b : Bool) → nat_lt k.level m.level ≡ b → (b || ((k.level == m.level) && bytes_below k.low m.low)) ≡ false → m.level ≤ k.level
  on true f g = absurd (cc (g))
  on false f g = ltb-false k.level m.level f

pub rising_with : (k : KeptNode) (ks : List KeptNode) → AreRising ks → AreRising (with_kept k ks)
rising_with k [] h = (tt, tt)
rising_with k (m ∷ ms) h = subst AreRising (sym (with_cons k m ms)) (on (stands_before k m) refl (rising_with k ms h.1)) where
  on : (b : Bool) → stands_before k m ≡ b → AreRising (with_kept k ms) → AreRising (cond b (k ∷ m ∷ ms) (m ∷ with_kept k ms))
  on true e rest = let least : k.level ≤ m.level = before_least k m e in ((least, all_least k.level m.level ms least h.0), h)
  on false e rest = (all_with (λ x. m.level ≤ x.level) k ms (behind_least k m e) h.0, rest)

-- ---- links that are known early are known late

-- links of a level above the node's own do not go to it
no_higher : (n : Inner) (level : ℕ) (es : List NewEntry) → n.level ≤ level → is_touched n (links_at (level + 1) es) ≡ false
no_higher n level [] up = refl
no_higher n level (e ∷ es) up =
    let other : ((level + 1) == n.level) ≡ false = ne_eqb (level + 1) n.level (λ same. omega (arith, up, same)) in
    ap (λ (b : Bool). (b && (nat_le (length e.low) 64 && (not (bytes_below e.low n.low) && below_bound e.low n.high))) || is_touched n (links_at (level + 1) es)) other
    ∙ no_higher n level es up

or_none : (a b : Bool) → b ≡ false → (a || b) ≡ a
or_none true b e = refl
or_none false b e = e

touched_before : (n : Inner) (level : ℕ) (ls : List Link) (es : List NewEntry) → n.level ≤ level → is_touched n (ls ++ links_at (level + 1) es) ≡ is_touched n ls
touched_before n level ls es up =
    list_any-append (goes_to n) ls (links_at (level + 1) es) ∙ or_none (is_touched n ls) (is_touched n (links_at (level + 1) es)) (no_higher n level es up)

reads : (tree : ℕ) (k : KeptNode) (n : Inner) → inner_of k.bytes ≡ Some n → inner_read tree k.page k.bytes ≡ Ok n
reads tree k n e = ap (inner_or tree k.page (offset inner_format k.bytes)) e

touches_before : (tree : ℕ) (ls : List Link) (level : ℕ) (es : List NewEntry) (k : KeptNode) → HasLevel k → k.level ≤ level
    → touches tree (ls ++ links_at (level + 1) es) k ≡ true → touches tree ls k ≡ true
touches_before tree ls level es k is up e =
    let low : is.0.level ≤ level = omega (arith, up, is.2) in
    ap (touched_by ls) (reads tree k is.0 is.1)
    ∙ (sym (touched_before is.0 level ls es low) ∙ (sym (ap (touched_by (ls ++ links_at (level + 1) es)) (reads tree k is.0 is.1)) ∙ e))

-- ---- nodes that were passed on the way up

module _ (tree : ℕ) (first : List Link) where
  -- a node that a link goes to is put
  abbrev pub IsPlacedIn : List Climb → KeptNode → Type 0
  IsPlacedIn climbs k = touches tree (links_above first climbs) k ≡ true → IsPut k.page k.bytes climbs

  -- so are all nodes before a place
  abbrev pub PlacedTo : List Climb → List KeptNode → ℕ → Type 0
  PlacedTo climbs [] at = Unit {0}
  PlacedTo climbs (k ∷ ks) zero = Unit {0}
  PlacedTo climbs (k ∷ ks) (suc at) = IsPlacedIn climbs k × PlacedTo climbs ks at

  pub none_placed : (climbs : List Climb) (ks : List KeptNode) → PlacedTo climbs ks 0
  none_placed climbs [] = tt
  none_placed climbs (k ∷ ks) = tt

  placed_suc : (climbs : List Climb) (k : KeptNode) (ks : List KeptNode) (at : ℕ) → IsPlacedIn climbs k → PlacedTo climbs ks at → PlacedTo climbs (k ∷ ks) (at + 1)
  placed_suc climbs k ks at h g =
      let same : suc at ≡ at + 1 = omega arith in
      subst (PlacedTo climbs (k ∷ ks)) same (h, g)

  -- those that no link goes to are passed
  passed_untouched : (climbs : List Climb) (ks : List KeptNode) → PlacedTo climbs ks (touched_at tree (links_above first climbs) ks)
  passed_untouched climbs [] = tt
  passed_untouched climbs (k ∷ ks) = on (touches tree (links_above first climbs) k) refl (passed_untouched climbs ks) where
    on : (b : Bool) → touches tree (links_above first climbs) k ≡ b → PlacedTo climbs ks (touched_at tree (links_above first climbs) ks)
        → PlacedTo climbs (k ∷ ks) (cond b 0 (touched_at tree (links_above first climbs) ks + 1))
    on true e h = tt
    on false e h = placed_suc climbs k ks (touched_at tree (links_above first climbs) ks) (λ f. absurd (cc)) h

  pub placed_next : (climbs : List Climb) (ks : List KeptNode) (at : ℕ) → PlacedTo climbs ks at
      → PlacedTo climbs ks (at + touched_at tree (links_above first climbs) (drop at ks))
  placed_next climbs [] at h = tt
  placed_next climbs (k ∷ ks) zero h =
      let same : touched_at tree (links_above first climbs) (k ∷ ks) ≡ 0 + touched_at tree (links_above first climbs) (k ∷ ks) = omega arith in
      subst (PlacedTo climbs (k ∷ ks)) same (passed_untouched climbs (k ∷ ks))
  placed_next climbs (k ∷ ks) (suc at) h =
      let same : (at + touched_at tree (links_above first climbs) (drop at ks)) + 1 ≡ suc at + touched_at tree (links_above first climbs) (drop at ks) = omega arith in
      subst (PlacedTo climbs (k ∷ ks)) same
      (placed_suc climbs k ks (at + touched_at tree (links_above first climbs) (drop at ks)) h.0 (placed_next climbs ks at h.1))

  -- the node at the place is put; the links of its pieces go to none before it
  pub placed_there : (u : Climb) (climbs : List Climb) (ks : List KeptNode) (at : ℕ) → AreRising ks → AllByRecursion HasLevel ks → PlacedTo climbs ks at
      → slice_get ks at ≡ Some u.node → PlacedTo (u ∷ climbs) ks (at + 1)
  placed_there u climbs [] at rising levels h e = tt
  placed_there u climbs (k ∷ ks) zero rising levels h e =
      let same : k ≡ u.node = cc (e) in
      placed_suc (u ∷ climbs) k ks 0 (λ f. inl (ap (λ (m : KeptNode). m.page) (sym same), ap (λ (m : KeptNode). m.bytes) (sym same))) (none_placed (u ∷ climbs) ks)
  placed_there u climbs (k ∷ ks) (suc at) rising levels h e =
      let same : (at + 1) + 1 ≡ suc at + 1 = omega arith in
      let up : k.level ≤ u.node.level = all_there ks at rising.0 e in
      subst (PlacedTo (u ∷ climbs) (k ∷ ks)) same
      (placed_suc (u ∷ climbs) k ks (at + 1) (λ f. inr (h.0 (touches_before tree (links_above first climbs) u.node.level u.plan.entries k levels.0 up f)))
      (placed_there u climbs ks at rising.1 levels.1 h.1 e)) where
        all_there : (ms : List KeptNode) (m : ℕ) → AllByRecursion (λ x. k.level ≤ x.level) ms → slice_get ms m ≡ Some u.node → k.level ≤ u.node.level
        all_there [] m all g = absurd (cc (g))
        all_there (x ∷ xs) zero all g = let is : x ≡ u.node = cc (g) in subst (λ (y : KeptNode). k.level ≤ y.level) is all.0
        all_there (x ∷ xs) (suc m) all g = all_there xs m all.1 g

  -- behind the last place all are
  pub all_placed : (climbs : List Climb) (ks : List KeptNode) (at : ℕ) → PlacedTo climbs ks at → slice_get ks at ≡ None → AllByRecursion (IsPlacedIn climbs) ks
  all_placed climbs [] at h e = tt
  all_placed climbs (k ∷ ks) zero h e = absurd (cc (e))
  all_placed climbs (k ∷ ks) (suc at) h e = (h.0, all_placed climbs ks at h.1 e)

-- ---- what was got was kept

-- a node of this page and bytes is kept
abbrev pub IsNoted : ℕ → List ℕ → List KeptNode → Type 0
IsNoted page bytes [] = ⊥
IsNoted page bytes (k ∷ ks) = ((k.page ≡ page) × (k.bytes ≡ bytes)) ⊎ IsNoted page bytes ks

noted_apart : (page : ℕ) (bytes : List ℕ) (xs ys : List KeptNode) → IsNoted page bytes (xs ++ ys) → IsNoted page bytes xs ⊎ IsNoted page bytes ys
noted_apart page bytes [] ys h = inr h
noted_apart page bytes (x ∷ xs) ys (inl h) = inl (inl h)
noted_apart page bytes (x ∷ xs) ys (inr h) = on (noted_apart page bytes xs ys h) where
  on : IsNoted page bytes xs ⊎ IsNoted page bytes ys → IsNoted page bytes (x ∷ xs) ⊎ IsNoted page bytes ys
  on (inl g) = inl (inr g)
  on (inr g) = inr g

noted_front : (page : ℕ) (bytes : List ℕ) (xs ys : List KeptNode) → IsNoted page bytes xs → IsNoted page bytes (xs ++ ys)
noted_front page bytes [] ys h = absurd h
noted_front page bytes (x ∷ xs) ys (inl h) = inl h
noted_front page bytes (x ∷ xs) ys (inr h) = inr (noted_front page bytes xs ys h)

noted_back : (page : ℕ) (bytes : List ℕ) (xs ys : List KeptNode) → IsNoted page bytes ys → IsNoted page bytes (xs ++ ys)
noted_back page bytes [] ys h = h
noted_back page bytes (x ∷ xs) ys h = inr (noted_back page bytes xs ys h)

pub noted_new : (k : KeptNode) (ks : List KeptNode) → IsNoted k.page k.bytes (with_kept k ks)
noted_new k ks = noted_back k.page k.bytes (take (place_of k ks) ks) (k ∷ drop (place_of k ks) ks) (inl (refl, refl))

pub noted_with : (page : ℕ) (bytes : List ℕ) (k : KeptNode) (ks : List KeptNode) → IsNoted page bytes ks → IsNoted page bytes (with_kept k ks)
noted_with page bytes k ks h =
    on (noted_apart page bytes (take (place_of k ks) ks) (drop (place_of k ks) ks)
    (subst (IsNoted page bytes) (sym (take-append-drop (place_of k ks) ks)) h)) where
      on : IsNoted page bytes (take (place_of k ks) ks) ⊎ IsNoted page bytes (drop (place_of k ks) ks) → IsNoted page bytes (with_kept k ks)
      on (inl g) = noted_front page bytes (take (place_of k ks) ks) (k ∷ drop (place_of k ks) ks) g
      on (inr g) = noted_back page bytes (take (place_of k ks) ks) (k ∷ drop (place_of k ks) ks) (inr g)

-- of those that are kept, each that a link goes to is put
pub noted_put : (tree : ℕ) (first : List Link) (climbs : List Climb) (ks : List KeptNode) (page : ℕ) (bytes : List ℕ) (n : Inner) → AllByRecursion (IsPlacedIn tree first climbs) ks
    → IsNoted page bytes ks → inner_of bytes ≡ Some n → is_touched n (links_above first climbs) ≡ true → IsPut page bytes climbs
noted_put tree first climbs [] page bytes n all h e touched = absurd h
noted_put tree first climbs (k ∷ ks) page bytes n all (inr h) e touched = noted_put tree first climbs ks page bytes n all.1 h e touched
noted_put tree first climbs (k ∷ ks) page bytes n all (inl h) e touched =
    subst (λ (p : ℕ). IsPut p bytes climbs) h.0 (subst (λ (b : List ℕ). IsPut k.page b climbs) h.1 (all.0 goes)) where
      read : inner_read tree k.page k.bytes ≡ Ok n
      read = ap (inner_or tree k.page (offset inner_format k.bytes)) (ap inner_of h.1 ∙ e)

      goes : touches tree (links_above first climbs) k ≡ true
      goes = ap (touched_by (links_above first climbs)) read ∙ touched
