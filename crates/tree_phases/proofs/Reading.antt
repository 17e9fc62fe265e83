-- What is read of bytes, and what is read of bytes that are in no spelling.
use Rattle.std.proofs.Common.{◌≡◌, ℕ, List, Option, Some, None, Result, Ok, Err, refl, sym, ap}
use Rattle.std.specs.Prelude.{unwrap_or}
use Rattle.byte_format.specs.Whole.{whole, offset, IsBytes}
use Rattle.byte_format.proofs.Wholes.{whole_only, whole_found}
use Rattle.leaf_view.specs.Leaf.{Leaf, IsLeaf, leaf}
use Rattle.leaf_view.proofs.Exact.{leaf_exact}
use Rattle.node_codec.specs.Inner.{Inner, IsInner, inner_of, inner_format}
use Rattle.node_codec.specs.Tree.{Tree, IsTree, tree_bytes, tree_of, empty_tree}
use Rattle.node_codec.proofs.SpellingLaws.{tree_only, tree_found, inner_only, inner_found}
use Rattle.tree_phases.specs.Read.{tree_held, damaged, inner_or, inner_read, leaf_or, leaf_read}

pub tree_is : (bytes : List ℕ) (t : Tree) → IsTree bytes t → t ≡ tree_held (Some bytes)
tree_is bytes t is = sym (ap (λ (o : Option Tree). unwrap_or o empty_tree) (tree_only bytes t is))

pub tree_is_none : (bytes : List ℕ) → IsBytes bytes → ((t : Tree) → IsTree bytes t → ⊥) → tree_of bytes ≡ None
tree_is_none bytes fits none = on (tree_of bytes) refl where
  on : (o : Option Tree) → tree_of bytes ≡ o → o ≡ None
  on None e = refl
  on (Some t) e = absurd (none t (tree_found bytes t fits e))

pub inner_is : (tree page : ℕ) (bytes : List ℕ) (n : Inner) → IsInner bytes n → Ok n ≡ inner_read tree page bytes
inner_is tree page bytes n is = sym (ap (inner_or tree page (offset inner_format bytes)) (inner_only bytes n is))

pub inner_is_none : (tree page : ℕ) (bytes : List ℕ) (at : ℕ) → IsBytes bytes → ((n : Inner) → IsInner bytes n → ⊥) → at ≡ offset inner_format bytes
    → Err (damaged tree page at) ≡ inner_read tree page bytes
inner_is_none tree page bytes at fits none e = on (inner_of bytes) refl where
  on : (o : Option Inner) → inner_of bytes ≡ o → Err (damaged tree page at) ≡ inner_or tree page (offset inner_format bytes) o
  on None f = ap (λ (n : ℕ). Err (damaged tree page n)) e
  on (Some n) f = absurd (none n (inner_found bytes n fits f))

pub leaf_is : (tree page : ℕ) (bytes : List ℕ) (l : Leaf) → IsLeaf bytes l → Ok l ≡ leaf_read tree page bytes
leaf_is tree page bytes l is = sym (ap (leaf_or tree page (offset leaf bytes)) (whole_only leaf leaf_exact bytes l is))

pub leaf_is_none : (tree page : ℕ) (bytes : List ℕ) (at : ℕ) → IsBytes bytes → ((l : Leaf) → IsLeaf bytes l → ⊥) → at ≡ offset leaf bytes
    → Err (damaged tree page at) ≡ leaf_read tree page bytes
leaf_is_none tree page bytes at fits none e = on (whole leaf bytes) refl where
  on : (r : Result Leaf ℕ) → whole leaf bytes ≡ r → Err (damaged tree page at) ≡ leaf_or tree page (offset leaf bytes) r
  on (Err left) f = ap (λ (n : ℕ). Err (damaged tree page n)) e
  on (Ok l) f = absurd (none l (whole_found leaf leaf_exact bytes l fits f))

pub tree_spelling : (bytes : List ℕ) (t : Tree) → IsTree bytes t → bytes ≡ tree_bytes t
unfolding tree_bytes
tree_spelling bytes t is = is.is
