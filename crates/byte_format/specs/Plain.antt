-- Lists whose items are not told of one another, as a view reads them again once they were checked.
use Rattle.std.specs.Prelude.{ℕ, true, List, [], None, Ok, Err, IsOk}
use Rattle.byte_format.specs.Format.{Reading, Format, list_at, list_of}

abbrev pub plain_list : {A : Type 0} → Format A → Format (List A)
plain_list f = list_of true (λ _. f) None

abbrev pub items_of : {A : Type 0} → Reading (List A) → List A
items_of (Ok x) = x.0
items_of (Err left) = []

-- the items of the list at the front of bytes
abbrev pub items_in : {A : Type 0} → Format A → List ℕ → List A
items_in f bytes = items_of (list_at true (λ _. f) None bytes)

-- a list stands at the front of bytes
abbrev pub IsListed : {A : Type 0} → Format A → List ℕ → Type 0
IsListed f bytes = IsOk (list_at true (λ _. f) None bytes)
