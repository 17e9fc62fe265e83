-- A page cut into pieces.
use Rattle.std.specs.Prelude.{◌≡◌, ℕ, ◌+◌, List, [], ◌∷◌, Some, length, map, take, drop}
use Rattle.std.specs.List.{AllByRecursion, flat_map}
use Rattle.split_plan.specs.Part.{Part}
use Rattle.split_plan.specs.Sizes.{cuts_of, sizes_of}

-- the key of the first item
abbrev pub first_key_of : {A : Type 0} → (A → List ℕ) → List A → List ℕ
first_key_of key [] = []
first_key_of key (x ∷ xs) = key x

-- ---- what a cut is

-- a piece names the page of the next one, which is `free`, and ends where that begins; the last one ends as the whole does
abbrev pub EndsAt : {A X : Type 0} → ℕ → Part A X → Part A X → List (Part A X) → Type 0
EndsAt free whole p [] = (p.right ≡ whole.right) × (p.high ≡ whole.high)
EndsAt free whole p (next ∷ ps) = (p.right ≡ free) × (p.high ≡ Some next.low)

-- the fences of pieces from left to right meet, where those behind the first stand on the pages from `free` on
abbrev pub FencesMeet : {A X : Type 0} → ℕ → Part A X → List (Part A X) → Type 0
FencesMeet free whole [] = Unit {0}
FencesMeet free whole (p ∷ ps) = EndsAt free whole p ps × FencesMeet (free + 1) whole ps

-- a page that was never put, from its first item on
pub record IsNewPart {A X : Type 0} (key : A → List ℕ) (p : Part A X) : Type 0 where
  pub version : p.version ≡ 1
  pub low : p.low ≡ first_key_of key p.items

-- the first piece begins as the whole does, and is the whole's next version; the others are new
abbrev pub BeginAs : {A X : Type 0} → (A → List ℕ) → Part A X → List (Part A X) → Type 0
BeginAs key whole [] = ⊥
BeginAs key whole (p ∷ ps) = (p.version ≡ whole.version) × (p.low ≡ whole.low) × AllByRecursion (IsNewPart key) ps

-- the pieces of a page from left to right; those behind the first stand on the pages from `free` on
pub record IsCut {A X : Type 0} (key : A → List ℕ) (free : ℕ) (whole : Part A X) (ps : List (Part A X)) : Type 0 where
  pub items : flat_map (λ p. p.items) ps ≡ whole.items
  pub sizes : map (λ p. length p.items) ps ≡ sizes_of (length whole.items)
  pub common : AllByRecursion (λ p. p.common ≡ whole.common) ps
  pub begins : BeginAs key whole ps
  pub fences : FencesMeet free whole ps

-- ---- the one cut of a page

-- the first n items, with another page to the right
abbrev pub front_part : {A X : Type 0} → (A → List ℕ) → ℕ → ℕ → Part A X → Part A X
front_part key n right p = record p { right = right; high = Some (first_key_of key (drop n p.items)); items = take n p.items }

-- the items behind the first n, as a new page
abbrev pub back_part : {A X : Type 0} → (A → List ℕ) → ℕ → Part A X → Part A X
back_part key n p = record p { version = 1; low = first_key_of key (drop n p.items); items = drop n p.items }

-- pieces of these sizes, and a last one
abbrev pub cut_by : {A X : Type 0} → (A → List ℕ) → List ℕ → ℕ → Part A X → List (Part A X)
cut_by key [] free p = p ∷ []
cut_by key (n ∷ sizes) free p = front_part key n free p ∷ cut_by key sizes (free + 1) (back_part key n p)

-- the pieces of a page
abbrev pub pieces_of : {A X : Type 0} → (A → List ℕ) → ℕ → Part A X → List (Part A X)
pieces_of key free whole = cut_by key (cuts_of (length whole.items)) free whole
