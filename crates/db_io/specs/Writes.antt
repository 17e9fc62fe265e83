-- What a sink tells, and what a write does to it.
use Rattle.std.specs.Prelude.{◌≡◌, ◌⊎◌, ℕ, List, [], ◌∷◌, ◌++◌, Option, Some, None}
use Rattle.std.specs.List.{concat}

-- the writes that were made to it, one by one, where it tells them, and how many of its calls failed
pub record Written : Type 0 where
  pub writes : Option (List (List ℕ))
  pub faults : ℕ

-- what is told where only the count of faults is
abbrev pub untold : ℕ → Written
untold faults = record { writes = None; faults = faults }

-- ---- write by write

-- each of these texts is written, in one write, and nothing else
abbrev pub AddsEach : Written → Written → List (List ℕ) → Type 0
AddsEach old new texts = (all : List (List ℕ)) → old.writes ≡ Some all → new.writes ≡ Some (all ++ texts)

-- this text is written, in one write
abbrev pub AddsOne : Written → Written → List ℕ → Type 0
AddsOne old new text = AddsEach old new (text ∷ [])

-- nothing is written of this text, or a first part of it in one write
abbrev pub AddsPart : Written → Written → List ℕ → Type 0
AddsPart old new text = (all : List (List ℕ)) → old.writes ≡ Some all
    → (new.writes ≡ Some all) ⊎ ((front : List ℕ) × (back : List ℕ) × (text ≡ front ++ back) × (new.writes ≡ Some (all ++ front ∷ [])))

-- ---- as a whole

-- the writes joined, where they are told
abbrev pub joined : Option (List (List ℕ)) → Option (List ℕ)
joined None = None
joined (Some writes) = Some (concat writes)

abbrev pub whole : Written → Option (List ℕ)
whole written = joined written.writes

-- what was written grows by these bytes
abbrev pub Adds : Written → Written → List ℕ → Type 0
Adds old new bytes = (all : List ℕ) → whole old ≡ Some all → whole new ≡ Some (all ++ bytes)

-- what was written grows by the first of these bytes, by all of them, or by none
abbrev pub AddsPrefix : Written → Written → List ℕ → Type 0
AddsPrefix old new bytes = (all : List ℕ) → whole old ≡ Some all
    → (front : List ℕ) × (back : List ℕ) × (bytes ≡ front ++ back) × (whole new ≡ Some (all ++ front))
