-- A leaf cut in two.
use Rattle.std.specs.Prelude.{◌≡◌, ℕ, ◌-◌, ◌<◌, List, [], ◌∷◌, Some}
use Rattle.std.specs.Prelude.{take as front, drop as behind}
use Rattle.leaf_view.specs.Leaf.{Entry, Leaf}

-- the key of the first record
abbrev pub first_key : List Entry → List ℕ
first_key [] = []
first_key (e ∷ es) = e.key

-- the first n records, in format 2: the right page and the high key are those of the other part
abbrev pub left_part : ℕ → ℕ → Leaf → Leaf
left_part n right l = record l { format = 2; right = right; high = Some (first_key (behind n l.records)); records = front n l.records }

-- the records behind the first n, in format 2: a new page with the whole table
abbrev pub right_part : ℕ → Leaf → Leaf
right_part n l = record l { format = 2; version = 1; low = first_key (behind n l.records); records = behind n l.records }

-- one more of the first n records
pub record TakesOne (n : ℕ) (es : List Entry) (e : Entry) (rest : List Entry) : Type 0 where
  pub some : 0 < n
  pub is : es ≡ e ∷ rest
  pub taken : front n es ≡ e ∷ front (n - 1) rest
  pub dropped : behind n es ≡ behind (n - 1) rest

-- none is left of the first n records
pub record TakesNone (n : ℕ) (es : List Entry) : Type 0 where
  pub taken : front n es ≡ []
  pub dropped : behind n es ≡ es
