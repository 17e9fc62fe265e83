-- What is read of bytes, by what the readers of their formats answer.
use Rattle.std.proofs.Common.{◌≡◌, ℕ, true, false, List, Some, None, Result, Ok, Err, refl, ap, inl, inr}
use Rattle.std.specs.Result.{result_ok}
use Rattle.byte_format.specs.Format.{Format, mark_at}
use Rattle.byte_format.specs.Whole.{whole, offset, IsSpelling, IsBytes, IsExact}
use Rattle.byte_format.proofs.Wholes.{whole_only, whole_found}
use Rattle.leaf_view.specs.Leaf.{Leaf, IsLeaf, leaf, leaf_head}
use Rattle.leaf_view.proofs.Exact.{leaf_exact}
use Rattle.node_codec.specs.Inner.{Inner, IsInner, inner_format, inner_of}
use Rattle.node_codec.specs.Tree.{Tree as Root, IsTree, tree_format, tree_of}
use Rattle.node_codec.proofs.InnerLemmas.{inner_exact}
use Rattle.node_codec.proofs.TreeLemmas.{tree_exact}
use Rattle.page_cache.specs.Held.{leaf_in}
use Rattle.page_cache.specs.Spelled.{version_or, is_marked, IsPageSpelled}

module _ {A : Type 0} (f : Format A) (exact : IsExact f) (bytes : List ℕ) where
  -- the version of bytes that spell a value
  pub version_spelled : (version : A → ℕ) (v : A) → IsSpelling f bytes v → version_or version (offset f bytes) (whole f bytes) ≡ Ok (version v)
  version_spelled version v s = ap (version_or version (offset f bytes)) (whole_only f exact bytes v s)

  -- the offset of the fault of bytes that spell none
  pub fault_found : (version : A → ℕ) → IsBytes bytes → ((v : A) → IsSpelling f bytes v → ⊥) → version_or version (offset f bytes) (whole f bytes) ≡ Err (offset f bytes)
  fault_found version fits never = on (whole f bytes) refl
    where
      on : (r : Result A ℕ) → whole f bytes ≡ r → version_or version (offset f bytes) r ≡ Err (offset f bytes)
      on (Ok v) is = absurd (never v (whole_found f exact bytes v fits is))
      on (Err left) is = refl

-- the bytes of a leaf begin with its mark, and those of an inner node do not
pub leaf_marked : (bytes : List ℕ) (l : Leaf) → IsLeaf bytes l → is_marked bytes ≡ true
unfolding leaf leaf_head mark_at
leaf_marked bytes l s = rw s.is refl

pub inner_unmarked : (bytes : List ℕ) (n : Inner) → IsInner bytes n → is_marked bytes ≡ false
unfolding mark_at
inner_unmarked bytes n s = rw s.is refl

no_leaf : (bytes : List ℕ) (n : Inner) → IsInner bytes n → leaf_in bytes ≡ None
unfolding leaf_in leaf leaf_head mark_at
no_leaf bytes n s = rw s.is refl

-- of the bytes of a page: those that begin as a leaf spell one
pub marked_leaf : (bytes : List ℕ) → IsPageSpelled bytes → is_marked bytes ≡ true → (l : Leaf) × IsLeaf bytes l
marked_leaf bytes (inl leaf) h = leaf
marked_leaf bytes (inr inner) h = absurd cc (h, inner_unmarked bytes inner.0 inner.1)

-- and the others spell none
pub unmarked_none : (bytes : List ℕ) → IsPageSpelled bytes → is_marked bytes ≡ false → leaf_in bytes ≡ None
unmarked_none bytes (inl leaf) h = absurd cc (h, leaf_marked bytes leaf.0 leaf.1)
unmarked_none bytes (inr inner) h = no_leaf bytes inner.0 inner.1

pub is_leaf_in : (bytes : List ℕ) (l : Leaf) → IsLeaf bytes l → leaf_in bytes ≡ Some l
unfolding leaf_in
is_leaf_in bytes l s = ap result_ok (whole_only leaf leaf_exact bytes l s)

no_inner : (bytes : List ℕ) (l : Leaf) → IsLeaf bytes l → inner_of bytes ≡ None
unfolding inner_of leaf leaf_head mark_at
no_inner bytes l s = rw s.is refl

-- of the bytes of a page: those that do not begin as a leaf spell an inner node
pub unmarked_inner : (bytes : List ℕ) → IsPageSpelled bytes → is_marked bytes ≡ false → (n : Inner) × IsInner bytes n
unmarked_inner bytes (inl leaf) h = absurd cc (h, leaf_marked bytes leaf.0 leaf.1)
unmarked_inner bytes (inr inner) h = inner

-- and the others spell none
pub marked_none : (bytes : List ℕ) → IsPageSpelled bytes → is_marked bytes ≡ true → inner_of bytes ≡ None
marked_none bytes (inl leaf) h = no_inner bytes leaf.0 leaf.1
marked_none bytes (inr inner) h = absurd cc (h, inner_unmarked bytes inner.0 inner.1)

pub is_inner_of : (bytes : List ℕ) (n : Inner) → IsInner bytes n → inner_of bytes ≡ Some n
unfolding inner_of
is_inner_of bytes n s = ap result_ok (whole_only inner_format inner_exact bytes n s)

pub is_tree_of : (bytes : List ℕ) (t : Root) → IsTree bytes t → tree_of bytes ≡ Some t
unfolding tree_of
is_tree_of bytes t s = ap result_ok (whole_only tree_format tree_exact bytes t s)
