-- Bytes that spell a leaf.
use Rattle.std.proofs.Common.{◌≡◌, ℕ, List, sym, ap, subst}
use Rattle.byte_format.proofs.Wholes.{whole_only}
use Rattle.leaf_view.specs.Leaf.{Leaf, IsLeaf, leaf}
use Rattle.leaf_view.proofs.Exact.{leaf_exact}
use Rattle.leaf_edit.specs.Buffer.{leaf_from, leaf_in, IsWritten}

pub leaf_in_is : (bytes : List ℕ) (l : Leaf) → IsLeaf bytes l → leaf_in bytes ≡ l
leaf_in_is bytes l is = ap leaf_from (whole_only leaf leaf_exact bytes l is)

-- they spell the leaf in them
pub spells_it : (bytes : List ℕ) (l : Leaf) → IsLeaf bytes l → IsLeaf bytes (leaf_in bytes)
spells_it bytes l is = subst (IsLeaf bytes) (sym (leaf_in_is bytes l is)) is

-- it is of format 2 where that one is
pub written : (bytes : List ℕ) (l : Leaf) → IsLeaf bytes l → l.format ≡ 2 → IsWritten bytes
written bytes l is format = record {
  spelled = spells_it bytes l is;
  format = subst (λ (l : Leaf). l.format ≡ 2) (sym (leaf_in_is bytes l is)) format;
}
