-- Where a record stands in its part, and the part among the parts.
use Rattle.std.proofs.Common.{◌≡◌, ◌≤◌, ◌<◌, ◌+◌, ◌*◌, ◌/◌, ◌%◌, ◌⊎◌, inl, inr, ℕ, zero, suc, List, length, take, drop, Some, refl, sym, ap, subst, ◌∙◌, arith}
use Rattle.std.specs.Prelude.{slice_get}
use Rattle.std.proofs.lemmas.Bool.{cases_lt}
use Rattle.std.proofs.lemmas.List.{length-take, length-drop, take-append-drop}
use Rattle.cloud_facts.proofs.Book.Places.{get_cases, get_behind, get_within}
use Rattle.cloud_facts.proofs.Numbers.Lists.{take_there}
use Rattle.load_plan.specs.Events.{Placed, parts}

-- what stands behind the first 200
dropped_there : (ps : List Placed) (k : ℕ) (p : Placed) → slice_get (drop 200 ps) k ≡ Some p → slice_get ps (200 + k) ≡ Some p
dropped_there ps k p at = on (cases_lt (length ps) 200)
  where
    whole : (n : ℕ) → length (take 200 ps) ≡ n → slice_get ps (n + k) ≡ Some p
    whole n e =
        subst (λ m. slice_get ps (m + k) ≡ Some p) e
        (subst (λ qs. slice_get qs (length (take 200 ps) + k) ≡ Some p) (take-append-drop 200 ps) (get_behind (take 200 ps) (drop 200 ps) k p at))

    on : (length ps < 200) ⊎ (200 ≤ length ps) → slice_get ps (200 + k) ≡ Some p
    on (inl short) = let within = get_within (drop 200 ps) k p at in absurd (omega (arith, within, length-drop 200 ps, short))
    on (inr long) = whole 200 (omega (arith, length-take 200 ps, long))

-- the record at a place of a part stands in the whole
pub part_place : (n : ℕ) (ps : List Placed) (k : ℕ) (part : List Placed) (q : ℕ) (p : Placed) → slice_get (parts n ps) k ≡ Some part → slice_get part q ≡ Some p
    → (q < 200) × (slice_get ps (200 * k + q) ≡ Some p)
part_place zero ps k part q p at there = absurd (cc)
part_place (suc n) ps zero part q p at there =
    let same : take 200 ps ≡ part = cc in
    let own : slice_get (take 200 ps) q ≡ Some p = ap (λ (l : List Placed). slice_get l q) same ∙ there in
    let within = get_within (take 200 ps) q p own in
    (omega (arith, within, length-take 200 ps), subst (λ m. slice_get ps m ≡ Some p) (omega arith) (take_there 200 ps q p own))
part_place (suc n) ps (suc k) part q p at there =
    let later = part_place n (drop 200 ps) k part q p at there in
    (later.0, subst (λ m. slice_get ps m ≡ Some p) (omega arith) (dropped_there ps (200 * k + q) p later.1))

-- a record of the whole stands in a part
pub record StandsInPart (n : ℕ) (ps : List Placed) (place : ℕ) (p : Placed) : Type 0 where
  pub at : ℕ
  pub within : ℕ
  pub is : place ≡ 200 * at + within
  pub small : within < 200
  pub part : List Placed
  pub part_at : slice_get (parts n ps) at ≡ Some part
  pub there : slice_get part within ≡ Some p

pub in_part_at : (n : ℕ) (ps : List Placed) (place : ℕ) (p : Placed) → length ps ≤ 200 * n → slice_get ps place ≡ Some p → StandsInPart n ps place p
in_part_at zero ps place p enough at = let within = get_within ps place p at in absurd (omega (arith, within, enough))
in_part_at (suc n) ps place p enough at =
    on (λ k h. in_part_at n (drop 200 ps) k p (omega (arith, length-drop 200 ps, enough)) h)
    (get_cases (take 200 ps) (drop 200 ps) place p (subst (λ qs. slice_get qs place ≡ Some p) (sym (take-append-drop 200 ps)) at))
  where
    on : ((k : ℕ) → slice_get (drop 200 ps) k ≡ Some p → StandsInPart n (drop 200 ps) k p)
        → (slice_get (take 200 ps) place ≡ Some p) ⊎ ((k : ℕ) × (place ≡ length (take 200 ps) + k) × (slice_get (drop 200 ps) k ≡ Some p)) → StandsInPart (suc n) ps place p
    on again (inl first) =
        let within = get_within (take 200 ps) place p first in
        record { at = 0; within = place; is = omega arith; small = omega (arith, within, length-take 200 ps); part = take 200 ps; part_at = refl; there = first }
    on again (inr later) =
        let s = again later.0 later.2 in
        let inside = get_within (drop 200 ps) later.0 p later.2 in
        let is = s.is in
        let e = later.1 in
        record {
          at = suc s.at;
          within = s.within;
          is = omega (arith, e, is, length-take 200 ps, length-drop 200 ps, inside);
          small = s.small;
          part = s.part;
          part_at = s.part_at;
          there = s.there;
        }

-- its place tells both
pub place_tells : (place k q : ℕ) → place ≡ 200 * k + q → q < 200 → (place / 200 ≡ k) × (place % 200 ≡ q)
place_tells place k q is small = (omega (arith, is, small), omega (arith, is, small))
