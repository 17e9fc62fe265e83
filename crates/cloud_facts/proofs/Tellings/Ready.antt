-- What must be known before a put lands, where it follows from how pages are cut.
use Rattle.std.proofs.Common.{◌≡◌, ◌≢◌, ◌+◌, ◌-◌, ◌<◌, ◌≤◌, ℕ, false, List, [], ◌∷◌, length, map, None, refl, sym, ap, subst, ◌∙◌, ◌⊎◌, inl, inr, arith, max, cond}
use Rattle.std.specs.Prelude.{IsSorted, slice_get}
use Rattle.std.proofs.lemmas.Bool.{ne_eqb, cases_lt}
use Rattle.std.specs.List.{AllByRecursion}
use Rattle.db_base.specs.Change.{key_of}
use Rattle.cloud_facts.specs.Words.{IsClient, IsTree, Entry, PuItem, Leaf, Inner, Tree, CloudState, Caller, Book, Link, Node, Leafy, Branch, IsIn, nodes_of, roots_of, store_of}
use Rattle.db_base.specs.declared.names.ObjName.TheVariants as object
use Rattle.leaf_edit.specs.Applied.{applied}
use Rattle.leaf_edit.specs.Raised.{greatest_of, raised}
use Rattle.leaf_view.specs.Leaf.{IsLeaf}
use Rattle.leaf_view.specs.Lookup.{empty_leaf, holds, number_of as done_number}
use Rattle.node_codec.specs.Inner.{IsInner, node_of_root, first_low_of}
use Rattle.node_codec.specs.Node.{Entry as NodeEntry}
use Rattle.log_codec.specs.Order.{item_cmp}
use Rattle.split_plan.specs.Part.{part_of_node, entry_key}
use Rattle.cloud_facts.specs.Book.Premises.{Takes, IsItemOf, IsConsecutive, LandsFirst}
use Rattle.cloud_facts.specs.Book.Tally.{version_of, low_of, right_of as right_page, high_of}
use Rattle.cloud_facts.specs.Book.Telling.{tally_of, last_or, newest_leaf, gone_of, newest_root, cursor_of}
use Rattle.cloud_facts.specs.Chains.Chain.{ChainHolds, IsChained, IsUnlinked}
use Rattle.cloud_facts.specs.Chains.Landing.{LandsOn, LandsInner, Raises}
use Rattle.cloud_facts.specs.Chains.Links.{first_link, link_of, newest_node, NodeNames}
use Rattle.cloud_facts.proofs.Chains.Pieces.{in_first, in_rest, in_cases, none_in}
use Rattle.cloud_facts.specs.Decoding.Decodes.{Decodes, IsNext}
use Rattle.cloud_facts.specs.Decoding.Kinds.{IsNode}
use Rattle.cloud_facts.proofs.Decoding.Newest.{IsLast, last_cases}
use Rattle.cloud_facts.proofs.Decoding.Values.{node_next, inner_next}
use Rattle.cloud_facts.proofs.Decoding.Versions.{none_there}
use Rattle.cloud_facts.specs.Chains.Cuts.{links_on, HaveLanded, inner_node}
use Rattle.cloud_facts.specs.Tellings.Pieces.{first_part, right_of, node_parts, left_inner, node_links, left_leaf}
use Rattle.cloud_facts.specs.Tellings.Taking.{leaf_take, AreClients, IsLinked, LandsTaken, taking_of}
use Rattle.cloud_facts.specs.Tellings.Told.{own_of}
use Rattle.cloud_facts.proofs.Tellings.Fences.{Rises, all_parts, cut_common, cut_version, cut_lands, cut_links, level_pieces, level_ascends, pages_distinct}
use Rattle.cloud_facts.proofs.Tellings.Finding.{found_before}
use Rattle.cloud_facts.proofs.Tellings.Laws.{taken_ranges, taken_table}
use Rattle.cloud_facts.proofs.Tellings.Ranges.{last_is}
use Rattle.cloud_facts.proofs.Tellings.Sound.{newest_sound, newest_holds, inner_rises, nodes_rise}
use Rattle.cloud_facts.proofs.Tellings.Tables.{raises_all}

-- an inner node with the fences and the level of another, as one with more entries has
pub record HasFences (old whole : Inner) : Type 0 where
  pub level : whole.level ≡ old.level
  pub low : whole.low ≡ old.low
  pub right : whole.right ≡ old.right
  pub high : whole.high ≡ old.high

module _ (book : Book) (order : List Entry) (s : CloudState) (tree : ℕ) (of_tree : IsTree tree) (h : ChainHolds (store_of book order s)) (d : Decodes s) where
  abbrev chained : IsChained (book.chain tree) (nodes_of s tree) (roots_of s tree) ((tally_of book s).done tree) (cursor_of s tree 0)
  chained = h tree of_tree

  -- ---- a leaf that takes a run

  -- the run's items are records of its queue; that the leaf is its page's with the run follows
  pub taken_takes : (who : Caller) (page queue : ℕ) (run : List PuItem) (sizes : List ℕ) (free : ℕ) (bytes : List ℕ)
      → LandsTaken (book.chain tree) (nodes_of s tree) (leaf_take page (newest_leaf (nodes_of s) tree page) queue run sizes free)
      → IsLeaf bytes (left_leaf sizes free (applied (newest_leaf (nodes_of s) tree page) queue run))
      → ((x : PuItem) → IsIn run x → IsItemOf (store_of book order s) tree queue x)
      → ((client : ℕ) → IsClient client → (from : ℕ) × IsConsecutive (store_of book order s) tree queue run client from)
      → IsSorted item_cmp run
      → (queue ≡ page → (x : PuItem) → IsIn run x → holds (newest_leaf (nodes_of s) tree page) (key_of x.rec.change) ≡ false
      → x.rec.number ≤ (tally_of book s).done tree (key_of x.rec.change) queue x.rec.client)
      → Takes (store_of book order s) (taking_of tree (leaf_take page (newest_leaf (nodes_of s) tree page) queue run sizes free))
  taken_takes who page queue run sizes free bytes takes is items consecutive sorted home_last = record {
    is_tree = of_tree;
    ranges = taken_ranges book order s tree of_tree h d who page queue run sizes free bytes takes is;
    items = items;
    consecutive = consecutive;
    sorted = sorted;
    home_last = home_last;
    table = λ key range q c client. taken_table book order s tree of_tree h d who page queue run sizes free bytes takes is key range q c;
  }

  -- a piece of the leaf lands first on its page, which is not that of the run's queue
  pub piece_first : (page queue : ℕ) (run : List PuItem) (fresh : ℕ) (l : Leaf) → IsLinked (book.chain tree 0) page → AreClients run
      → l.done ≡ raised (newest_leaf (nodes_of s) tree page).done queue run → fresh ≢ queue → 1 < fresh → IsUnlinked (book.chain tree) fresh
      → LandsFirst (store_of book order s) tree fresh (own_of fresh (Leafy l))
  piece_first page queue run fresh l at clients table other above unlinked = record {
    page_is = above;
    unlinked = unlinked;
    own_within = λ client _.
        let e = own client in
        (old.low, omega (arith, e));
  }
    where
      old : Leaf
      old = newest_leaf (nodes_of s) tree page

      own : (client : ℕ) → done_number l.done fresh client ≡ (tally_of book s).done tree old.low fresh client
      own client =
          ap (λ ds. done_number ds fresh client) table
          ∙ raises_all old.done queue run (newest_sound s tree page d).clients clients fresh client
          ∙ ap (λ b. cond b (max (done_number old.done fresh client) (greatest_of run client)) (done_number old.done fresh client)) (ne_eqb fresh queue other)
          ∙ ap (λ (m : Leaf). done_number m.done fresh client)
          (sym (found_before book s tree page (newest_root (roots_of s) tree).level
          chained.levels chained.versions chained.newest at old.low (newest_holds s tree page d)))

  -- an inner node lands first
  pub branch_first : (fresh : ℕ) (n : Inner) → 1 < fresh → IsUnlinked (book.chain tree) fresh
      → LandsFirst (store_of book order s) tree fresh (own_of fresh (Branch n))
  branch_first fresh n above unlinked = record { page_is = above; unlinked = unlinked; own_within = λ client _. ([], omega arith) }

  -- a page that has no version gets its first
  pub first_next : (fresh : ℕ) (bytes : List ℕ) (node : Node) → nodes_of s tree fresh ≡ [] → IsNode bytes node → version_of node ≡ 1
      → IsNext s (object.Page tree fresh) bytes
  first_next fresh bytes node none is one =
      node_next s tree fresh bytes node d (none_there s tree fresh d none) is (one ∙ ap (λ (ns : List Node). version_of (last_or (Leafy empty_leaf) ns) + 1) (sym none))

  -- ---- an inner node with more entries

  module _ (page : ℕ) (old whole : Inner) (sizes : List ℕ) (free : ℕ) (bytes : List ℕ) (at : IsLinked (book.chain tree whole.level) page)
      (newest : newest_node (nodes_of s tree) page ≡ Branch old)
      (fences : HasFences old whole) (is : IsInner bytes (left_inner sizes free whole))
      (landed : HaveLanded inner_node (nodes_of s tree) free (right_of (node_parts sizes free whole))) where
    rise : AllByRecursion Rises (node_parts sizes free whole)
    rise =
        all_parts Rises entry_key (part_of_node whole) sizes free (part_of_node whole)
        (inner_rises bytes (first_part (part_of_node whole) (node_parts sizes free whole)) is)
        (nodes_rise s tree free (right_of (node_parts sizes free whole)) d landed)

    -- the newest version of the link's page
    newest_link : newest_node (nodes_of s tree) at.link.page ≡ Branch old
    newest_link = ap (newest_node (nodes_of s tree)) at.page_is ∙ newest

    pub inner_version : gone_of s tree page ≡ false → whole.version ≡ old.version + 1 → IsNext s (object.Page tree page) bytes
    inner_version there next =
        inner_next s tree page bytes (left_inner sizes free whole) d there is
        (cut_version entry_key (part_of_node whole) sizes free (part_of_node whole) ∙ next ∙ ap (λ (n : Node). version_of n + 1) (sym newest))

    low_is : (nodes_of s tree at.link.page ≡ []) ⊎ ((x : Node) × IsLast (nodes_of s tree at.link.page) x) → old.low ≡ at.link.low
    low_is (inl e) =
        let no : Leafy empty_leaf ≡ Branch old = ap (λ (ns : List Node). last_or (Leafy empty_leaf) ns) (sym e) ∙ newest_link in
        absurd cc
    low_is (inr p) =
        let same : p.0 ≡ Branch old = sym (last_is (Leafy empty_leaf) (nodes_of s tree at.link.page) p.0 p.1) ∙ newest_link in
        ap low_of (sym same) ∙ (chained.versions whole.level at.link p.0 (at.place, at.linked) (length (nodes_of s tree at.link.page) - 1, p.1)).low

    pub inner_lands : 0 < whole.level → NodeNames (book.chain tree) (Branch (left_inner sizes free whole))
        → ((piece : Link) → IsIn (node_links sizes free whole) piece → IsUnlinked (book.chain tree) piece.page)
        → LandsInner (store_of book order s) tree page (left_inner sizes free whole) (node_links sizes free whole)
    inner_lands above names unlinked =
        let ends = chained.newest.ends whole.level at.place at.link at.linked in
        subst (λ (level : ℕ). LandsOn (book.chain tree) (nodes_of s tree) level page (Branch (left_inner sizes free whole)) (node_links sizes free whole))
        (sym (cut_common entry_key (part_of_node whole) sizes free (part_of_node whole)))
        (subst (λ (p : ℕ). LandsOn (book.chain tree) (nodes_of s tree) whole.level p (Branch (left_inner sizes free whole))
        (node_links sizes free whole)) at.page_is
        (cut_lands entry_key inner_node (record { low = λ p. refl; right = λ p. refl; high = λ p. refl })
        (book.chain tree) (nodes_of s tree) whole.level sizes free (part_of_node whole)
        (λ q e. (e, above)) at.place at.link at.linked (fences.low ∙ low_is (last_cases (nodes_of s tree at.link.page)))
        (record {
          right = fences.right ∙ ap right_page (sym newest_link) ∙ ends.right;
          high = fences.high ∙ ap high_of (sym newest_link) ∙ ends.high;
        }) rise names landed unlinked))

  -- ---- a root that is one level higher

  -- what an entry of the new root says of a link
  abbrev pub entry_for : Link → NodeEntry
  entry_for a = (a.low, a.page)

  abbrev top : Tree
  top = newest_root (roots_of s) tree

  -- the links of the pieces of the root, from a first page on
  abbrev pub raised_links : List ℕ → ℕ → List Link
  raised_links sizes first = links_on first (node_parts sizes (first + 1) (node_of_root top))

  entries_name : (links : List Link) (e : NodeEntry) → IsIn (map entry_for links) e → IsIn links (link_of e)
  entries_name [] e is = absurd (none_in e is)
  entries_name (a ∷ links) e is = on (entries_name links e) (in_cases (entry_for a) (map entry_for links) e is)
    where
      on : (IsIn (map entry_for links) e → IsIn links (link_of e)) → (entry_for a ≡ e) ⊎ IsIn (map entry_for links) e → IsIn (a ∷ links) (link_of e)
      on again (inl same) = subst (λ (x : NodeEntry). IsIn (a ∷ links) (link_of x)) same (in_first a links)
      on again (inr k) = in_rest a links (link_of e) (again k)

  pub raises : (root : Tree) (sizes : List ℕ) (first : ℕ) → HaveLanded inner_node (nodes_of s tree) first (node_parts sizes (first + 1) (node_of_root top))
      → ((piece : Link) → IsIn (raised_links sizes first) piece → IsUnlinked (book.chain tree) piece.page)
      → root.level ≡ top.level + 1 → root.next ≡ top.next → root.entries ≡ map entry_for (raised_links sizes first)
      → Raises (store_of book order s) tree root top.level (raised_links sizes first)
  raises root sizes first landed unlinked height next entries = record {
    level_is = refl;
    height = height;
    next = next;
    names = record {
      names = λ e is. entries_name (raised_links sizes first) e (subst (λ (es : List NodeEntry). IsIn es e) entries is);
      first = ap first_low_of entries ∙ ap (λ (ls : List Link). first_low_of (map entry_for ls)) links_are;
    };
    begins = (record { low = []; page = first }, ap (λ (ls : List Link). slice_get ls 0) links_are, refl);
    ascends =
        level_ascends entry_key sizes first (first + 1) (part_of_node (node_of_root top))
        (nodes_rise s tree first (node_parts sizes (first + 1) (node_of_root top)) d landed);
    pieces_are =
        level_pieces entry_key inner_node (record { low = λ p. refl; right = λ p. refl; high = λ p. refl }) (nodes_of s tree) top.level sizes first
        (part_of_node (node_of_root top))
        (λ q e. (e, above)) None (record { right = refl; high = refl }) landed;
    new = record { unlinked = unlinked; distinct = pages_distinct first (node_parts sizes (first + 1) (node_of_root top)) };
  }
    where
      links_are : raised_links sizes first
          ≡ record { low = []; page = first } ∷ links_on (first + 1) (right_of (node_parts sizes (first + 1) (node_of_root top)))
      links_are = cut_links entry_key sizes first (first + 1) (part_of_node (node_of_root top))

      above : 0 < top.level
      above = on (cases_lt 0 top.level)
        where
          on : (0 < top.level) ⊎ (top.level ≤ 0) → 0 < top.level
          on (inl less) = less
          on (inr none) =
              let no : first_link ∷ chained.levels.leaves.0 ≡ [] = sym chained.levels.leaves.1 ∙ chained.levels.above 0 none in
              absurd cc
