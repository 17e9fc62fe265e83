-- What bytes are read as.
use Rattle.std.proofs.Common.{◌≡◌, ℕ, List, ◌∷◌, Option, Some, None, refl, ap, ◌∙◌}
use Rattle.std.specs.Option.{option_and_then}
use Rattle.std.specs.Prelude.{unwrap_or}
use Rattle.std.specs.Result.{result_ok}
use Rattle.byte_format.specs.Format.{mark_at}
use Rattle.byte_format.proofs.Wholes.{whole_only}
use Rattle.cloud_facts.specs.Words.{Head, Leaf, Inner, Tree, Version, Node, Leafy, Branch}
use Rattle.head_codec.specs.Head.{empty_head}
use Rattle.head_codec.specs.Spelling.{head_of}
use Rattle.leaf_view.specs.Leaf.{leaf, leaf_head, IsLeaf}
use Rattle.leaf_view.proofs.Exact.{leaf_exact}
use Rattle.node_codec.specs.Inner.{IsInner}
use Rattle.node_codec.specs.Tree.{empty_tree, tree_of, IsTree}
use Rattle.node_codec.proofs.SpellingLaws.{tree_only, inner_only}
use Rattle.cloud_facts.specs.Book.Telling.{head_in, root_in, node_in, node_of_bytes, node_or, branch_or, leaf_of_bytes}
use Rattle.cloud_facts.specs.Decoding.Kinds.{IsNode}

-- bytes that spell a leaf are read as it
pub leaf_only : (bytes : List ℕ) (l : Leaf) → IsLeaf bytes l → leaf_of_bytes bytes ≡ Some l
unfolding leaf_of_bytes
leaf_only bytes l s = ap result_ok (whole_only leaf leaf_exact bytes l s)

-- bytes with the mark of an inner node are no leaf
marked_no_leaf : (rest : List ℕ) → leaf_of_bytes (0x49 ∷ rest) ≡ None
unfolding leaf_of_bytes leaf leaf_head mark_at
marked_no_leaf rest = refl

inner_no_leaf : (bytes : List ℕ) (n : Inner) → IsInner bytes n → leaf_of_bytes bytes ≡ None
inner_no_leaf bytes n s = ap leaf_of_bytes s.is ∙ marked_no_leaf _

-- the bytes of a page
pub node_spelled : (bytes : List ℕ) (node : Node) → IsNode bytes node → node_or (leaf_of_bytes bytes) bytes ≡ node
node_spelled bytes (Leafy l) s = ap (λ (o : Option Leaf). node_or o bytes) (leaf_only bytes l s)
node_spelled bytes (Branch n) s = ap (λ (o : Option Leaf). node_or o bytes) (inner_no_leaf bytes n s) ∙ ap branch_or (inner_only bytes n s)

-- a version of a page by its bytes
pub node_reads : (v : Version) (bytes : List ℕ) (node : Node) → v.bytes ≡ Some bytes → IsNode bytes node → node_in v ≡ node
node_reads v bytes node e s = ap node_of_bytes e ∙ node_spelled bytes node s

-- a version of a root, and of a head
pub root_reads : (v : Version) (bytes : List ℕ) (t : Tree) → v.bytes ≡ Some bytes → IsTree bytes t → root_in v ≡ t
root_reads v bytes t e s =
    ap (λ (b : Option (List ℕ)). unwrap_or (option_and_then tree_of b) empty_tree) e ∙ ap (λ (o : Option Tree). unwrap_or o empty_tree) (tree_only bytes t s)

pub head_reads : (v : Version) (bytes : List ℕ) (h : Head) → v.bytes ≡ Some bytes → head_of bytes ≡ Some h → head_in v ≡ h
head_reads v bytes h e reads =
    ap (λ (b : Option (List ℕ)). unwrap_or (option_and_then head_of b) empty_head) e ∙ ap (λ (o : Option Head). unwrap_or o empty_head) reads
