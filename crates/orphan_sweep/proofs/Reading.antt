-- What is read of the bytes of a tree object.
use Rattle.std.proofs.Common.{◌≡◌, ℕ, List, Option, Some, None, Ok, Err, refl, sym, ap}
use Rattle.db_base.specs.declared.names.ObjName.TheVariants as object
use Rattle.db_base.specs.declared.names.Place.TheVariants as place
use Rattle.db_base.specs.declared.trouble.Trouble.TheVariants as trouble
use Rattle.byte_format.specs.Whole.{offset, IsBytes}
use Rattle.node_codec.specs.Tree.{Tree, IsTree, tree_of, tree_format}
use Rattle.node_codec.proofs.SpellingLaws.{tree_only, tree_found}
use Rattle.orphan_sweep.specs.Pages.{root_or, root_read}

pub root_is : (tree : ℕ) (bytes : List ℕ) (t : Tree) → IsTree bytes t → Ok t ≡ root_read tree bytes
root_is tree bytes t is = sym (ap (root_or tree bytes) (tree_only bytes t is))

pub root_is_none : (tree : ℕ) (bytes : List ℕ) (at : ℕ) → IsBytes bytes → ((t : Tree) → IsTree bytes t → ⊥) → at ≡ offset tree_format bytes
    → Err (trouble.Damaged (place.Object (object.Tree tree)) at) ≡ root_read tree bytes
root_is_none tree bytes at fits none e = on (tree_of bytes) refl where
  on : (o : Option Tree) → tree_of bytes ≡ o → Err (trouble.Damaged (place.Object (object.Tree tree)) at) ≡ root_or tree bytes o
  on None f = ap (λ (n : ℕ). Err (trouble.Damaged (place.Object (object.Tree tree)) n)) e
  on (Some t) f = absurd (none t (tree_found bytes t fits f))
