-- Lists whose items ask for nothing of the item before them.
use Rattle.std.specs.Prelude.{◌≡◌, ℕ, true, List, [], ◌∷◌, Ok, Err, None}
use Rattle.byte_format.specs.Format.{Reading, Format, list_at}
use Rattle.byte_format.specs.Whole.{IsBytes}

-- a list at the front of bytes
abbrev pub plain_list : {A : Type 0} → Format A → List ℕ → Reading (List A)
plain_list f bytes = list_at true (λ _. f) None bytes

abbrev pub items_read : {A : Type 0} → Reading (List A) → List A
items_read (Ok x) = x.0
items_read (Err left) = []

abbrev pub rest_read : {A : Type 0} → Reading (List A) → List ℕ
rest_read (Ok x) = x.1
rest_read (Err left) = []

-- the items of the list at the front of bytes
unfoldable pub items_of : {A : Type 0} → Format A → List ℕ → List A
items_of f bytes = items_read (plain_list f bytes)

-- the bytes behind that list
unfoldable pub behind_of : {A : Type 0} → Format A → List ℕ → List ℕ
behind_of f bytes = rest_read (plain_list f bytes)

-- a list stands at the front of bytes
pub record IsList {A : Type 0} (f : Format A) (bytes : List ℕ) : Type 0 where
  pub reads : plain_list f bytes ≡ Ok (items_of f bytes, behind_of f bytes)

-- a list, and nothing behind it
pub record IsWholeList {A : Type 0} (f : Format A) (bytes : List ℕ) : Type 0 where
  pub reads : plain_list f bytes ≡ Ok (items_of f bytes, [])

-- the first item, and the list behind it
pub record IsFirst {A : Type 0} (f : Format A) (bytes : List ℕ) (x : A) (after : List ℕ) : Type 0 where
  pub items : items_of f bytes ≡ x ∷ items_of f after
  pub behind : behind_of f bytes ≡ behind_of f after
  pub list : IsList f after
  pub fits : IsBytes after

-- the bytes begin with a list, and the rest is behind it
abbrev pub StartsList : {A : Type 0} → Format A → List ℕ → List ℕ → Type 0
StartsList f bytes rest = plain_list f bytes ≡ Ok (items_of f bytes, rest)
