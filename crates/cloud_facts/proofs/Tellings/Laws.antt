-- What is told after each put, by what holds of the chains and of all bytes.
use Rattle.std.proofs.Common.{◌≡◌, ◌≢◌, ◌+◌, ◌-◌, ℕ, List, [], ◌∷◌, length, true, false, refl, sym, ap, subst, ◌∙◌, ◌⊎◌, inl, inr, arith}
use Rattle.std.specs.Prelude.{slice_get}
use Rattle.std.specs.List.{AllByRecursion}
use Rattle.cloud_facts.specs.Words.{IsTree, Entry, PuItem, Leaf, Inner, Tree, CloudState, Caller, Book, Link, Node, Leafy, Branch, IsIn, nodes_of, roots_of, store_of}
use Rattle.db_base.specs.declared.names.ObjName.TheVariants as object
use Rattle.cloud_trait.specs.State.{landed as put}
use Rattle.leaf_edit.specs.Applied.{applied}
use Rattle.leaf_view.specs.Leaf.{IsLeaf}
use Rattle.leaf_view.specs.Lookup.{empty_leaf, holds, number_of as done_number}
use Rattle.node_codec.specs.Inner.{IsInner}
use Rattle.node_codec.specs.Tree.{IsTree as IsRoot}
use Rattle.split_plan.specs.Part.{part_of_leaf, record_key}
use Rattle.split_plan.specs.Plan.{leaf_pieces}
use Rattle.split_plan.specs.Sizes.{cuts_of}
use Rattle.split_plan.proofs.Counting.{can-cuts}
use Rattle.cloud_facts.specs.Book.Effects.{after_page, after_leaf, after_inner, after_raise, done_after}
use Rattle.cloud_facts.specs.Book.Premises.{Ranges, LandsFirst}
use Rattle.cloud_facts.specs.Book.Tally.{version_of}
use Rattle.cloud_facts.specs.Book.Telling.{tally_of, last_or, leaf_in, newest_leaf, gone_of, newest_root, cursor_of}
use Rattle.cloud_facts.specs.Chains.Chain.{ChainHolds, IsChained, IsUnlinked}
use Rattle.cloud_facts.specs.Chains.Landing.{LandsLeaf, LandsInner, Raises}
use Rattle.cloud_facts.specs.Chains.Links.{first_link, newest_node, IsOfLevel}
use Rattle.cloud_facts.proofs.Chains.Pieces.{none_in}
use Rattle.cloud_facts.specs.Decoding.Decodes.{Decodes, IsNext}
use Rattle.cloud_facts.specs.Decoding.Kinds.{IsNode}
use Rattle.cloud_facts.proofs.Decoding.Newest.{IsLast, last_cases}
use Rattle.cloud_facts.proofs.Decoding.Values.{leaf_next}
use Rattle.cloud_facts.specs.Chains.Cuts.{HaveLanded, leaf_node}
use Rattle.cloud_facts.specs.Tellings.Pieces.{first_part, right_of, leaf_parts, left_leaf, leaf_links}
use Rattle.cloud_facts.specs.Tellings.Taking.{leaf_take, AreClients, IsLinked, LandsTaken, taking_of}
use Rattle.cloud_facts.specs.Tellings.Told.{Tells, own_of}
use Rattle.cloud_facts.proofs.Tellings.Fences.{Rises, all_parts}
use Rattle.cloud_facts.proofs.Tellings.Finding.{ranges_are}
use Rattle.cloud_facts.proofs.Tellings.Leaves.{leaf_tells, table_is, lands_leaf}
use Rattle.cloud_facts.proofs.Tellings.Leaves as leaves
use Rattle.cloud_facts.proofs.Tellings.Nodes.{IsNoLeaf, page_told, inner_told, raise_told}
use Rattle.cloud_facts.proofs.Tellings.Ranges.{last_is, newest_version}
use Rattle.cloud_facts.proofs.Tellings.Sound.{newest_sound, leaf_rises, pieces_rise}

-- ---- how a leaf lands

-- the whole leaf lands
pub whole_taken : (chain : ℕ → List Link) (nodes : ℕ → List Node) (page : ℕ) (l : Leaf) (queue : ℕ) (run : List PuItem) (free : ℕ) → AreClients run
    → IsLinked (chain 0) page
    → LandsTaken chain nodes (leaf_take page l queue run [] free)
whole_taken chain nodes page l queue run free clients linked = record {
  clients = clients;
  linked = linked;
  last = length (applied l queue run).records;
  can = refl;
  landed = tt;
  unlinked = λ piece h. absurd (none_in piece h);
}

-- the first of the pieces of a leaf lands
pub cut_taken : (chain : ℕ → List Link) (nodes : ℕ → List Node) (page : ℕ) (l : Leaf) (queue : ℕ) (run : List PuItem) (free : ℕ) → AreClients run
    → IsLinked (chain 0) page
    → HaveLanded leaf_node nodes free (right_of (leaf_pieces free (applied l queue run)))
    → ((piece : Link) → IsIn (leaf_links (cuts_of (length (applied l queue run).records)) free (applied l queue run)) piece → IsUnlinked chain piece.page)
    → LandsTaken chain nodes (leaf_take page l queue run (cuts_of (length (applied l queue run).records)) free)
cut_taken chain nodes page l queue run free clients linked landed unlinked = record {
  clients = clients;
  linked = linked;
  last = _;
  can = can-cuts (length (applied l queue run).records);
  landed = landed;
  unlinked = unlinked;
}

module _ (book : Book) (order : List Entry) (s : CloudState) (tree : ℕ) (of_tree : IsTree tree) (h : ChainHolds (store_of book order s)) (d : Decodes s) where
  abbrev chained : IsChained (book.chain tree) (nodes_of s tree) (roots_of s tree) ((tally_of book s).done tree) (cursor_of s tree 0)
  chained = h tree of_tree

  page_some : (level page : ℕ) (link : Link) → IsIn (book.chain tree level) link → link.page ≡ page → page ≢ 0
  page_some level page link linked is e = let p = (chained.pages.linked level link linked).0 in omega (arith, p, is, e)

  -- ---- a leaf that takes a run

  module _ (who : Caller) (page : ℕ) (queue : ℕ) (run : List PuItem) (sizes : List ℕ) (free : ℕ) (bytes : List ℕ)
      (takes : LandsTaken (book.chain tree) (nodes_of s tree) (leaf_take page (newest_leaf (nodes_of s) tree page) queue run sizes free))
      (is : IsLeaf bytes (left_leaf sizes free (applied (newest_leaf (nodes_of s) tree page) queue run))) where
    abbrev old : Leaf
    old = newest_leaf (nodes_of s) tree page

    linked : IsIn (book.chain tree 0) takes.linked.link
    linked = (takes.linked.place, takes.linked.linked)

    some : page ≢ 0
    some = page_some 0 page takes.linked.link linked takes.linked.page_is

    rise : AllByRecursion Rises (leaf_parts sizes free (applied old queue run))
    rise =
        all_parts Rises record_key (part_of_leaf (applied old queue run)) sizes free (part_of_leaf (applied old queue run))
        (leaf_rises bytes (first_part (part_of_leaf (applied old queue run)) (leaf_parts sizes free (applied old queue run))) is)
        (pieces_rise s tree free (right_of (leaf_parts sizes free (applied old queue run))) d takes.landed)

    pub taken_tells : gone_of s tree page ≡ false → Tells (put who (object.Page tree page) bytes s) (after_leaf (taking_of tree (leaf_take page old queue run sizes free)) (store_of book order s))
    taken_tells there =
        leaf_tells who book order s tree page queue run sizes free bytes
        (newest_root (roots_of s) tree).level chained.levels chained.versions chained.newest some (newest_sound s tree page d) takes rise is there

    pub taken_lands : LandsLeaf (store_of book order s) (taking_of tree (leaf_take page old queue run sizes free))
    taken_lands =
        lands_leaf who book order s tree page queue run sizes free bytes
        (newest_root (roots_of s) tree).level chained.levels chained.versions chained.newest some (newest_sound s tree page d) takes rise is

    pub taken_ranges : Ranges book tree page (holds old)
    taken_ranges = ranges_are book s tree page (newest_root (roots_of s) tree).level chained.levels chained.versions chained.newest takes.linked

    pub taken_table : (key : List ℕ) → holds old key ≡ true → (q c : ℕ)
        → done_number (left_leaf sizes free (applied old queue run)).done q c
        ≡ done_after (taking_of tree (leaf_take page old queue run sizes free)) (tally_of book s).done tree key q c
    taken_table =
        table_is who book order s tree page queue run sizes free bytes
        (newest_root (roots_of s) tree).level chained.levels chained.versions chained.newest some (newest_sound s tree page d) takes rise is

    pub taken_next : gone_of s tree page ≡ false → IsNext s (object.Page tree page) bytes
    taken_next there = leaf_next s tree page bytes (left_leaf sizes free (applied old queue run)) d there is
        (leaves.left_version who book order s tree page queue run sizes free bytes (newest_root (roots_of s) tree).level
        chained.levels chained.versions chained.newest some (newest_sound s tree page d) takes rise is
        ∙ ap (λ (n : ℕ). n + 1) (sym version))
      where
        version : version_of (newest_node (nodes_of s tree) page) ≡ old.version
        version =
            subst (λ (p : ℕ). version_of (newest_node (nodes_of s tree) p) ≡ (newest_leaf (nodes_of s) tree p).version) takes.linked.page_is
            (newest_version (book.chain tree) (nodes_of s tree) (newest_root (roots_of s) tree).level
            chained.levels chained.versions chained.newest takes.linked.place takes.linked.link takes.linked.linked)

  -- ---- inner nodes

  -- a page of a level above the leaves has no leaf
  no_leaf : (level : ℕ) (link : Link) → IsIn (book.chain tree level) link → level ≢ 0
      → (nodes_of s tree link.page ≡ []) ⊎ ((x : Node) × IsLast (nodes_of s tree link.page) x)
      → newest_leaf (nodes_of s) tree link.page ≡ empty_leaf
  no_leaf level link there above (inl e) = ap (λ (ns : List Node). leaf_in (last_or (Leafy empty_leaf) ns)) e
  no_leaf level link there above (inr p) =
      ap leaf_in (last_is (Leafy empty_leaf) (nodes_of s tree link.page) p.0 p.1)
      ∙ branch p.0 (chained.versions level link p.0 there (length (nodes_of s tree link.page) - 1, p.1)).level_is
    where
      branch : (x : Node) → IsOfLevel level x → leaf_in x ≡ empty_leaf
      branch (Leafy l) is = absurd (above is)
      branch (Branch n) is = refl

  pub inner_tells : (who : Caller) (page : ℕ) (bytes : List ℕ) (inner : Inner) (pieces : List Link) → IsInner bytes inner → gone_of s tree page ≡ false
      → LandsInner (store_of book order s) tree page inner pieces
      → Tells (put who (object.Page tree page) bytes s) (after_inner tree page inner pieces (store_of book order s))
  inner_tells who page bytes inner pieces is there lands =
      inner_told who tree page bytes inner pieces book order s is there (page_some inner.level page lands.link linked lands.page_is) first above others
      (subst (λ (p : ℕ). newest_leaf (nodes_of s) tree p ≡ empty_leaf) lands.page_is
      (no_leaf inner.level lands.link linked above (last_cases (nodes_of s tree lands.link.page))))
    where
      linked : IsIn (book.chain tree inner.level) lands.link
      linked = (lands.place, lands.linked)

      above : inner.level ≢ 0
      above e = let p = lands.level_is.1 in omega (arith, p, e)

      others : IsNoLeaf book tree page
      others link k e = above (sym (chained.levels.once 0 inner.level link lands.link k linked (e ∙ sym lands.page_is)).0)

      first : page ≢ 1
      first e = others first_link (0, ap (λ (ls : List Link). slice_get ls 0) chained.levels.leaves.1) (sym e)

  -- ---- other pages, and roots

  pub page_tells : (who : Caller) (page : ℕ) (bytes : List ℕ) (node : Node) → IsNode bytes node → gone_of s tree page ≡ false
      → LandsFirst (store_of book order s) tree page (own_of page node)
      → Tells (put who (object.Page tree page) bytes s) (after_page tree page node (own_of page node) (store_of book order s))
  page_tells who page bytes node is there first = page_told who tree page bytes node book order s is there first.page_is (λ link k. first.unlinked 0 link k)

  pub raise_tells : (who : Caller) (bytes : List ℕ) (root : Tree) (level : ℕ) (links : List Link) → IsRoot bytes root
      → Raises (store_of book order s) tree root level links
      → Tells (put who (object.Tree tree) bytes s) (after_raise tree root level links (store_of book order s))
  raise_tells who bytes root level links is raises = raise_told who tree bytes root level links book order s is above
    where
      above : level ≢ 0
      above e =
          let none = chained.levels.above 0 (omega (arith, e, raises.level_is)) in
          let some = chained.levels.leaves.1 in
          let no : first_link ∷ chained.levels.leaves.0 ≡ [] = sym some ∙ none in
          absurd cc
