-- The greatest entry at most a key.
use Rattle.std.specs.Prelude.{◌≡◌, ℕ, true, false, List, ◌∷◌, ◌++◌, Some}
use Rattle.std.specs.List.{AllByRecursion}
use Rattle.byte_format.specs.Order.{bytes_below}
use Rattle.node_codec.specs.Node.{Entry, child_of}

-- the entry stands in the list, its low key is at most the key, those before it have lower ones, and those behind it are above the key
pub record IsGreatestAtMost (key : List ℕ) (e : Entry) (entries : List Entry) : Type 0 where
  pub front : List Entry
  pub back : List Entry
  pub parts : entries ≡ front ++ e ∷ back
  pub at_most : bytes_below key e.0 ≡ false
  pub before : AllByRecursion (λ x. bytes_below x.0 e.0 ≡ true) front
  pub behind : AllByRecursion (λ x. bytes_below key x.0 ≡ true) back

-- the child of a key is the greatest one at most the key
abbrev pub FindsGreatest : List ℕ → List Entry → Type 0
FindsGreatest key entries = (e : Entry) → child_of key entries ≡ Some e → IsGreatestAtMost key e entries
