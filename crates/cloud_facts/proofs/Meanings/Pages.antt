-- The newest bytes of the pages of links: leaves at the lowest level, and inner nodes above.
use Rattle.std.proofs.Common.{◌≡◌, ◌≢◌, false, ℕ, suc, List, [], map, Option, Some, None, Ok, refl, sym, ap, subst, ◌∙◌, arith}
use Rattle.std.specs.Prelude.{slice_get}
use Rattle.std.specs.List.{AllByRecursion}
use Rattle.cloud_facts.specs.Words.{Leaf, Inner, Version, CloudState, newest, Link, Node, Leafy, Branch, IsIn, StandsAt, nodes_of, roots_of}
use Rattle.db_base.specs.declared.names.ObjName.TheVariants as object
use Rattle.leaf_view.specs.Fits.{IsEntryIn, Ascend, entry_below}
use Rattle.leaf_view.specs.Leaf.{IsLeaf}
use Rattle.leaf_view.specs.Lookup.{empty_leaf}
use Rattle.leaf_view.proofs.Split.{leaf_fits}
use Rattle.node_codec.specs.Tree.{empty_tree}
use Rattle.cloud_facts.specs.Book.Tally.{low_of}
use Rattle.cloud_facts.specs.Book.Telling.{last_or, leaf_in, newest_leaf, node_in, with_bytes, root_in, gone_of, newest_root}
use Rattle.cloud_facts.specs.Chains.Chain.{IsChained}
use Rattle.cloud_facts.specs.Chains.Gones.{AreKept}
use Rattle.cloud_facts.specs.Chains.Links.{newest_node, IsOfLevel, EndsBefore}
use Rattle.cloud_facts.proofs.Chains.Names.{plus_one}
use Rattle.cloud_facts.proofs.Chains.Newest.{IsNewestOf, newest_is, last_in}
use Rattle.cloud_facts.specs.Decoding.Decodes.{Decodes}
use Rattle.cloud_facts.specs.Decoding.Kinds.{IsNode}
use Rattle.cloud_facts.proofs.Decoding.Newest.{never_gone, no_version}
use Rattle.cloud_facts.proofs.Decoding.Values.{newest_page_decodes, newest_root_decodes}
use Rattle.replay_meaning.specs.Chain.{IsReadAs, IsNewestLeaf}
use Rattle.replay_meaning.specs.Index.{IsNewestInner, IsRootIn}

-- ---- nodes

-- a node of the lowest level is a leaf, and one above is an inner node
leaf_is : (node : Node) → IsOfLevel 0 node → node ≡ Leafy (leaf_in node)
leaf_is (Leafy l) level = refl
leaf_is (Branch n) level = absurd (omega (arith, level.1))

inner_is : (level : ℕ) (node : Node) → IsOfLevel (suc level) node → (n : Inner) × (node ≡ Branch n)
inner_is level (Leafy l) is = absurd (omega (arith, is))
inner_is level (Branch n) is = (n, refl)

read_as : (tree page : ℕ) (bytes : Option (List ℕ)) (l : Leaf) → (bytes ≡ None → (page ≡ 1) × (l ≡ empty_leaf))
    → ((b : List ℕ) → bytes ≡ Some b → IsLeaf b l) → IsReadAs tree page bytes (Ok l)
read_as tree page None l none some = none refl
read_as tree page (Some b) l none some = some b refl

-- records of a leaf that was read are in its range
pub read_range : (tree page : ℕ) (bytes : Option (List ℕ)) (l : Leaf) → IsReadAs tree page bytes (Ok l) → AllByRecursion (IsEntryIn l.low l.high) l.records
read_range tree page None l is = subst (λ (x : Leaf). AllByRecursion (IsEntryIn x.low x.high) x.records) (sym is.1) tt
read_range tree page (Some bytes) l is = (leaf_fits l is.fits).1.records

-- and ascend
pub read_ascends : (tree page : ℕ) (bytes : Option (List ℕ)) (l : Leaf) → IsReadAs tree page bytes (Ok l) → Ascend entry_below None l.records
read_ascends tree page None l is = subst (λ (x : Leaf). Ascend entry_below None x.records) (sym is.1) tt
read_ascends tree page (Some bytes) l is = (leaf_fits l is.fits).1.records_ascend

-- ---- the pages of links

-- the newest inner node of a page
pub record IsInnerAt (s : CloudState) (tree : ℕ) (link : Link) (next : Option Link) : Type 0 where
  pub node : Inner
  pub newest : IsNewestInner s tree link.page node
  pub landed : IsIn (nodes_of s tree link.page) (Branch node)
  pub ends : EndsBefore (Branch node) next

-- the newest leaf of a page
pub record IsLeafAt (s : CloudState) (tree : ℕ) (leaf : ℕ → Leaf) (link : Link) (next : Option Link) : Type 0 where
  pub newest : IsNewestLeaf s tree link.page (leaf link.page)
  pub low : (leaf link.page).low ≡ link.low
  pub ends : EndsBefore (Leafy (leaf link.page)) next

module _ (s : CloudState) (tree : ℕ) (chain : ℕ → List Link) (done : List ℕ → ℕ → ℕ → ℕ) (cursor : ℕ → ℕ)
    (h : IsChained chain (nodes_of s tree) (roots_of s tree) done cursor) (kept : AreKept chain (gone_of s tree)) (d : Decodes s) where
  newest_of_link : (level : ℕ) (link : Link) → IsIn (chain level) link → IsNewestOf level link (newest_node (nodes_of s tree) link.page)
  newest_of_link level link linked =
      newest_is chain (nodes_of s tree) (newest_root (roots_of s) tree).level h.levels h.versions h.newest level link linked

  none_landed : (page : ℕ) → gone_of s tree page ≡ false → newest s (object.Page tree page) ≡ None → nodes_of s tree page ≡ []
  none_landed page there none =
      ap (λ (vs : List Version). map node_in (with_bytes vs))
      (no_version (object.Page tree page) (s.versions (object.Page tree page)) (d.versions (object.Page tree page)) there none)

  ends_next : (level place : ℕ) (link : Link) → StandsAt (chain level) place link
      → EndsBefore (newest_node (nodes_of s tree) link.page) (slice_get (chain level) (suc place))
  ends_next level place link there =
      subst (λ (n : ℕ). EndsBefore (newest_node (nodes_of s tree) link.page) (slice_get (chain level) n)) (sym (plus_one place))
      (h.newest.ends level place link there)

  -- the newest version of a link of the leaf chain is the leaf that is told
  pub leaf_at : (place : ℕ) (link : Link) → StandsAt (chain 0) place link
      → IsLeafAt s tree (newest_leaf (nodes_of s) tree) link (slice_get (chain 0) (suc place))
  leaf_at place link there = record {
    newest = read_as tree link.page (newest s (object.Page tree link.page)) (newest_leaf (nodes_of s) tree link.page) absent present;
    low = ap low_of (sym leaf) ∙ is.low;
    ends = subst (λ (n : Node). EndsBefore n (slice_get (chain 0) (suc place))) leaf (ends_next 0 place link there);
  }
    where
      is : IsNewestOf 0 link (newest_node (nodes_of s tree) link.page)
      is = newest_of_link 0 link (place, there)

      leaf : newest_node (nodes_of s tree) link.page ≡ Leafy (newest_leaf (nodes_of s) tree link.page)
      leaf = leaf_is (newest_node (nodes_of s tree) link.page) is.level_is

      absent : newest s (object.Page tree link.page) ≡ None → (link.page ≡ 1) × (newest_leaf (nodes_of s) tree link.page ≡ empty_leaf)
      absent none =
          let nothing = none_landed link.page (kept 0 link (place, there)) none in
          ((h.newest.absent 0 link (place, there) nothing).1, ap (λ (ns : List Node). leaf_in (last_or (Leafy empty_leaf) ns)) nothing)

      present : (bytes : List ℕ) → newest s (object.Page tree link.page) ≡ Some bytes → IsLeaf bytes (newest_leaf (nodes_of s) tree link.page)
      present bytes e = subst (λ (n : Node). IsNode bytes n) leaf (newest_page_decodes s tree link.page bytes d e)

  -- that of a link above is an inner node
  pub inner_at : (level place : ℕ) (link : Link) → StandsAt (chain (suc level)) place link
      → IsInnerAt s tree link (slice_get (chain (suc level)) (suc place))
  inner_at level place link there = on (newest s (object.Page tree link.page)) refl
    where
      is : IsNewestOf (suc level) link (newest_node (nodes_of s tree) link.page)
      is = newest_of_link (suc level) link (place, there)

      inner : (n : Inner) × (newest_node (nodes_of s tree) link.page ≡ Branch n)
      inner = inner_is level (newest_node (nodes_of s tree) link.page) is.level_is

      some : nodes_of s tree link.page ≢ []
      some e = absurd (omega (arith, (h.newest.absent (suc level) link (place, there) e).0))

      on : (bytes : Option (List ℕ)) → newest s (object.Page tree link.page) ≡ bytes → IsInnerAt s tree link (slice_get (chain (suc level)) (suc place))
      on None e = absurd (some (none_landed link.page (kept (suc level) link (place, there)) e))
      on (Some bytes) e = record {
        node = inner.0;
        newest = (bytes, e, subst (λ (n : Node). IsNode bytes n) inner.1 (newest_page_decodes s tree link.page bytes d e));
        landed = subst (λ (n : Node). IsIn (nodes_of s tree link.page) n) inner.1 (last_in (Leafy empty_leaf) (nodes_of s tree link.page) some);
        ends = subst (λ (n : Node). EndsBefore n (slice_get (chain (suc level)) (suc place))) inner.1 (ends_next (suc level) place link there);
      }

-- the newest root is the one that is told
pub root_at : (s : CloudState) (tree : ℕ) → Decodes s → IsRootIn (newest s (object.Tree tree)) (newest_root (roots_of s) tree)
root_at s tree d = on (newest s (object.Tree tree)) refl
  where
    on : (bytes : Option (List ℕ)) → newest s (object.Tree tree) ≡ bytes → IsRootIn bytes (newest_root (roots_of s) tree)
    on None e =
        ap (λ (vs : List Version). last_or empty_tree (map root_in vs))
        (no_version (object.Tree tree) (s.versions (object.Tree tree)) (d.versions (object.Tree tree))
        (never_gone (object.Tree tree) (s.versions (object.Tree tree)) (λ no. no) (d.versions (object.Tree tree))) e)
    on (Some bytes) e = newest_root_decodes s tree bytes d e
