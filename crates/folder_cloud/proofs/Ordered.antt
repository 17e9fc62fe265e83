-- Pages that were sorted, and of which each stays once.
use Rattle.std.proofs.Common.{◌≡◌, ◌≤◌, ◌↔◌, ℕ, List, [], ◌∷◌, length, slice_index_or, take, arith}
use Rattle.std.specs.List.{Contains}
use Rattle.std.specs.List.Sorted.{IsPermutation, IsSorted, IsStrictlySortedBy}
use Rattle.std.specs.List.Retain.{IsFiltered, DiffersFromLast}
use Rattle.std.specs.Bool.{◌==◌}
use Rattle.std.specs.Ordering.{nat_cmp}
use Rattle.std.proofs.lemmas.List.Filters.{dedup_is}
use Rattle.std.proofs.lemmas.List.Kept.{Contains-dedup_nat, Contains-from_dedup}
use Rattle.std.proofs.lemmas.List.Sorted.{Contains-permutation, IsPermutation-sym}
use Rattle.std.proofs.lemmas.Map.Keys.{IsStrictlyIncreasing-dedup, below_from_sorted, sorted_from_strictly_increasing, sorted_tail}
use Rattle.cloud_trait.specs.Listing.{AscendAbove}

-- numbers in order, each once, the first above this one
ascends : (low : ℕ) (ns : List ℕ) → AscendAbove low (take 1 ns) → IsStrictlySortedBy nat_cmp ns → AscendAbove low ns
ascends low [] first sorted = tt
ascends low (n ∷ []) first sorted = (first.0, tt)
ascends low (n ∷ m ∷ ns) first sorted =
    let next = below_from_sorted (n ∷ m ∷ ns) 0 1 0 sorted (omega arith) (omega arith) in
    (first.0, ascends n (m ∷ ns) (next, tt) (sorted_tail nat_cmp n (m ∷ ns) sorted))

-- a first number that is above 0
pub first_above : (ns : List ℕ) (n : ℕ) → 1 ≤ length ns → n ≡ slice_index_or ns 0 n → 1 ≤ n → AscendAbove 0 (take 1 ns)
first_above [] n many is above = absurd (omega (arith, many))
first_above (m ∷ ns) n many is above = (omega (arith, is, above), tt)

pub in_order : (ys zs : List ℕ) → IsSorted nat_cmp ys → IsFiltered (DiffersFromLast (λ x y. x == y)) [] ys zs → AscendAbove 0 (take 1 zs) → AscendAbove 0 zs
in_order ys zs sorted kept first = ascends 0 zs first (rw (dedup_is (λ x y. x == y) ys zs kept) (sorted_from_strictly_increasing _ (IsStrictlyIncreasing-dedup ys sorted)))

pub same_pages : (xs ys zs : List ℕ) → IsPermutation xs ys → IsFiltered (DiffersFromLast (λ x y. x == y)) [] ys zs → (page : ℕ) → Contains xs page ↔ Contains zs page
same_pages xs ys zs moved kept page =
    let is = dedup_is (λ x y. x == y) ys zs kept in (
      (λ h. rw is (Contains-dedup_nat ys page (Contains-permutation xs ys page moved h))),
      λ h. Contains-permutation ys xs page (IsPermutation-sym xs ys moved) (Contains-from_dedup (λ x y. x == y) ys page (rw is at h)),
    )
