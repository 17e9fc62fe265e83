-- What a get answers at a page where a walk is: any landed version is read, and is of the level and of the low key that led there.
use Rattle.std.proofs.Common.{◌≡◌, ℕ, suc, List, Some, arith}
use Rattle.cloud_facts.specs.Words.{CloudState, Link, Node, Leafy, Branch, IsIn, nodes_of, roots_of}
use Rattle.cloud_trait.specs.State.{version_at}
use Rattle.db_base.specs.declared.names.ObjName.TheVariants as object
use Rattle.cloud_facts.specs.Book.Tally.{low_of}
use Rattle.cloud_facts.specs.Chains.Chain.{IsChained}
use Rattle.cloud_facts.specs.Chains.Links.{IsOfLevel}
use Rattle.cloud_facts.specs.Decoding.Decodes.{Decodes}
use Rattle.cloud_facts.specs.Decoding.Kinds.{IsNode}
use Rattle.cloud_facts.proofs.Decoding.Values.{version_decodes, read_node, read_root}
use Rattle.cloud_facts.specs.Meanings.Got.{IsGotLeaf, IsGotInner, IsGotRoot}
use Rattle.cloud_facts.specs.Meanings.Meets.{IsAt}

leaf_by : (s : CloudState) (tree page : ℕ) (low bytes : List ℕ) (node : Node) → IsOfLevel 0 node → IsNode bytes node → IsIn (nodes_of s tree page) node
    → low_of node ≡ low → IsGotLeaf s tree page low bytes
leaf_by s tree page low bytes (Leafy l) level is landed low_is = record { leaf = l; spells = is; landed = landed; low_is = low_is }
leaf_by s tree page low bytes (Branch n) level is landed low_is = absurd (omega (arith, level.1))

inner_by : (s : CloudState) (tree level page : ℕ) (low bytes : List ℕ) (node : Node) → IsOfLevel (suc level) node → IsNode bytes node
    → IsIn (nodes_of s tree page) node → low_of node ≡ low → IsGotInner s tree (suc level) page low bytes
inner_by s tree level page low bytes (Leafy l) is_level is landed low_is = absurd (omega (arith, is_level))
inner_by s tree level page low bytes (Branch n) is_level is landed low_is =
    record { inner = n; spells = is; landed = landed; level_is = is_level.0; low_is = low_is }

pub got_root : (s : CloudState) (tree n : ℕ) (bytes : List ℕ) → Decodes s → version_at (s.versions (object.Tree tree)) n ≡ Some bytes → IsGotRoot s tree bytes
got_root s tree n bytes d got =
    let t = version_decodes s (object.Tree tree) n bytes d got in
    record { root = t.0; spells = t.1; landed = read_root s tree n bytes t.0 got t.1 }

module _ (s : CloudState) (tree : ℕ) (chain : ℕ → List Link) (done : List ℕ → ℕ → ℕ → ℕ) (cursor : ℕ → ℕ)
    (h : IsChained chain (nodes_of s tree) (roots_of s tree) done cursor) (d : Decodes s) where
  pub got_leaf : (page n : ℕ) (low key bytes : List ℕ) → IsAt chain 0 page low key → version_at (s.versions (object.Page tree page)) n ≡ Some bytes
      → IsGotLeaf s tree page low bytes
  got_leaf page n low key bytes at got =
      let node = version_decodes s (object.Page tree page) n bytes d got in
      let landed = read_node s tree page n bytes node.0 got node.1 in
      let v = h.versions 0 (record { low = low; page = page }) node.0 at.linked landed in
      leaf_by s tree page low bytes node.0 v.level_is node.1 landed v.low

  pub got_inner : (level page n : ℕ) (low key bytes : List ℕ) → IsAt chain (suc level) page low key
      → version_at (s.versions (object.Page tree page)) n ≡ Some bytes
      → IsGotInner s tree (suc level) page low bytes
  got_inner level page n low key bytes at got =
      let node = version_decodes s (object.Page tree page) n bytes d got in
      let landed = read_node s tree page n bytes node.0 got node.1 in
      let v = h.versions (suc level) (record { low = low; page = page }) node.0 at.linked landed in
      inner_by s tree level page low bytes node.0 v.level_is node.1 landed v.low
