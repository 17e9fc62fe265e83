-- Where the parts of a leaf lie.
use Rattle.std.specs.Prelude.{◌≡◌, ℕ, List, ◌++◌, IfSome}
use Rattle.std.specs.List.{AllByRecursion}
use Rattle.leaf_view.specs.Leaf.{Leaf}

-- part is a piece of bytes
abbrev pub LiesIn : List ℕ → List ℕ → Type 0
LiesIn bytes part = (front : List ℕ) × (rest : List ℕ) × (bytes ≡ front ++ part ++ rest)

pub record PartsLieIn (bytes : List ℕ) (l : Leaf) : Type 0 where
  pub low : LiesIn bytes l.low
  pub high : IfSome l.high (LiesIn bytes)
  pub keys : AllByRecursion (λ e. LiesIn bytes e.key) l.records
  pub payloads : AllByRecursion (λ e. LiesIn bytes e.value.payload) l.records
  pub attrs : AllByRecursion (λ e. IfSome e.value.attr (LiesIn bytes)) l.records
