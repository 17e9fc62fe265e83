-- What is reached of a tree are just the pages of its links that have bytes.
use Rattle.std.proofs.Common.{◌≡◌, ◌≢◌, ◌+◌, ◌-◌, ◌<◌, ◌≤◌, inl, inr, ℕ, zero, suc, nat_lt, Bool, true, false, List, [], ◌∷◌, Option, Some, None, refl, sym, ap, subst, ◌∙◌, arith}
use Rattle.std.specs.Prelude.{slice_get}
use Rattle.std.proofs.lemmas.Bool.{ltb-true, ltb-false}
use Rattle.cloud_facts.specs.Words.{IsTree, Entry, Tree, CloudState, newest, Book, Link, Store, Node, Leafy, Branch, IsIn, StandsAt, nodes_of, roots_of, store_of, StandsUnder}
use Rattle.cloud_facts.specs.Book.Tally.{low_of, right_of}
use Rattle.cloud_facts.specs.Book.Telling.{last_or, node_in, with_bytes, newest_root}
use Rattle.cloud_facts.specs.Chains.Chain.{IsChained}
use Rattle.cloud_facts.specs.Chains.Links.{first_link, link_of, newest_node, top_of, page_after, IsOfLevel, NamesBelow, NodeNames}
use Rattle.cloud_facts.specs.Decoding.Kinds.{IsNode}
use Rattle.cloud_facts.proofs.Book.Places.{get_map}
use Rattle.cloud_facts.proofs.Calls.Pages.{none_landed, no_root}
use Rattle.cloud_facts.proofs.Chains.GoneLemmas.{links_kept}
use Rattle.cloud_facts.proofs.Chains.Names.{plus_one}
use Rattle.cloud_facts.proofs.Chains.Newest.{IsNewestOf, newest_is, last_in}
use Rattle.cloud_facts.proofs.Chains.Pieces.{none_in}
use Rattle.cloud_facts.proofs.Decoding.Newest.{newest_last}
use Rattle.cloud_facts.proofs.Decoding.Reading.{node_reads}
use Rattle.cloud_facts.proofs.Decoding.Values.{newest_page_decodes, newest_root_decodes}
use Rattle.cloud_facts.proofs.Decoding.Versions.{among_those}
use Rattle.db_base.specs.declared.names.ObjName.TheVariants as object
use Rattle.leaf_view.specs.Lookup.{empty_leaf}
use Rattle.node_codec.specs.Node.{Entry as Child}
use Rattle.node_codec.specs.Tree.{IsTree as SpellsTree}
use Rattle.node_codec.proofs.SpellingLaws.{tree_only}
use Rattle.orphan_sweep.specs.Pages.{first_page as leftmost_child}
use Rattle.session_facts.specs.Machines.Sweeps.Places.{IsOfLink}
use Rattle.session_facts.specs.Machines.Sweeps.Reached.{HasBytes, IsNamedIn, IsChildOf, NamesPage, RootNames, PageNames, IsReached, first_page, from_root, from_page}
use Rattle.session_facts.proofs.Machines.Sweeps.Firsts.{first_below}
use Rattle.session_facts.proofs.Machines.Sweeps.Onward.{first_leaf, top_names}
use Rattle.session_facts.proofs.Machines.Sweeps.Places.{before_end, one_thing}

module _ (book : Book) (order : List Entry) (s : CloudState) (stands : StandsUnder book order s) (tree : ℕ) (of_tree : IsTree tree) where
  abbrev st : Store
  st = store_of book order s

  abbrev chain : ℕ → List Link
  chain = book.chain tree

  abbrev root : Tree
  root = top_of (roots_of s tree)

  chained : IsChained chain (nodes_of s tree) (roots_of s tree) (st.tally.done tree) (st.tally.cursor tree 0)
  chained = stands.holds.chains tree of_tree

  leaf_linked : IsIn (chain 0) first_link
  leaf_linked = first_leaf chain (nodes_of s tree) (roots_of s tree) (st.tally.done tree) (st.tally.cursor tree 0) chained

  root_below : NamesBelow chain root.level [] root.entries
  root_below = top_names chain (nodes_of s tree) (roots_of s tree) (st.tally.done tree) (st.tally.cursor tree 0) chained

  -- ---- what is reached is a link's

  -- the root that the newest bytes spell is the one that is told
  root_is : (bytes : List ℕ) (r : Tree) → newest s (object.Tree tree) ≡ Some bytes → SpellsTree bytes r → r ≡ root
  root_is bytes r e is =
      let both : Some r ≡ Some root = sym (tree_only bytes r is) ∙ tree_only bytes (newest_root (roots_of s) tree) (newest_root_decodes s tree bytes stands.decodes e) in
      cc (both)

  root_links : (page : ℕ) → RootNames s tree page → IsOfLink chain page
  root_links page r =
      let named : IsNamedIn root.entries page = subst (λ (t : Tree). IsNamedIn t.entries page) (root_is r.bytes r.root r.newest_is r.spells) r.names in
      record { level = root.level - 1; link = link_of named.0; linked = root_below.links.names named.0 named.1; page_is = named.2 }

  -- the node that the newest bytes spell landed
  node_landed : (page : ℕ) (bytes : List ℕ) (node : Node) → newest s (object.Page tree page) ≡ Some bytes → IsNode bytes node → IsIn (nodes_of s tree page) node
  node_landed page bytes node e is =
      let last = newest_last (s.versions (object.Page tree page)) bytes e in
      let among = among_those (s.versions (object.Page tree page)) _ last.0 bytes last.1 last.2 in (
        among.0,
        get_map node_in (with_bytes (s.versions (object.Page tree page))) among.0 last.0 among.1 ∙ ap (λ (x : Node). Some x) (node_reads last.0 bytes node last.2 is),
      )

  child_links : (page : ℕ) (node : Node) → NodeNames chain node → IsChildOf node page → IsOfLink chain page
  child_links page (Leafy l) names never = absurd never
  child_links page (Branch n) names c = record { level = n.level - 1; link = link_of c.0; linked = names.links.names c.0 c.1; page_is = c.2 }

  page_links : (from page : ℕ) → IsOfLink chain from → PageNames s tree from page → IsOfLink chain page
  page_links from page o n = by n.names
    where
      landed : IsIn (nodes_of s tree o.link.page) n.node
      landed = subst (λ (p : ℕ). IsIn (nodes_of s tree p) n.node) (sym o.page_is) (node_landed from n.bytes n.node n.newest_is n.spells)

      by : NamesPage n.node page → IsOfLink chain page
      by (inl c) = child_links page n.node (chained.entries.of_nodes o.link.page n.node landed) c
      by (inr r) =
          let next = (chained.versions o.level o.link n.node o.linked landed).right (λ z. omega (arith, r.0, r.1, z)) in
          record { level = o.level; link = next.next; linked = next.linked; page_is = next.page_is ∙ r.0 }

  pub reached_links : (page : ℕ) → IsReached s tree page → IsOfLink chain page
  reached_links _ (first_page has) = record { level = 0; link = first_link; linked = leaf_linked; page_is = refl }
  reached_links _ (from_root page names has) = root_links page names
  reached_links _ (from_page from page reached names has) = page_links from page (reached_links from reached) names

  -- ---- a link's page with bytes is reached

  -- a page of a link that landed has bytes
  pub landed_bytes : (level : ℕ) (link : Link) → IsIn (chain level) link → nodes_of s tree link.page ≢ [] → HasBytes s tree link.page
  landed_bytes level link linked some = on (newest s (object.Page tree link.page)) refl
    where
      on : (o : Option (List ℕ)) → newest s (object.Page tree link.page) ≡ o → HasBytes s tree link.page
      on (Some bytes) e = (bytes, e)
      on None e = absurd (some (none_landed s tree link.page stands.decodes (links_kept st stands.holds.gones tree level link linked) e))

  above_none : (level : ℕ) (link : Link) → IsIn (chain level) link → 1 ≤ link.page
  above_none level link linked = (chained.pages.linked level link linked).0

  -- a page with one on its right names that one, and landed
  module _ (level place : ℕ) (link next : Link) (there : StandsAt (chain level) place link) (here : StandsAt (chain level) (place + 1) next) where
    right : right_of (newest_node (nodes_of s tree) link.page) ≡ next.page
    right = (chained.newest.ends level place link there).right ∙ ap page_after here

    some_left : nodes_of s tree link.page ≢ []
    some_left none =
        let never : 0 ≡ next.page = sym (ap (λ (ns : List Node). right_of (last_or (Leafy empty_leaf) ns)) none) ∙ right in
        let above = above_none level next (place + 1, here) in
        omega (arith, never, above)

    names_right : HasBytes s tree link.page → PageNames s tree link.page next.page
    names_right has = record {
      bytes = has.0;
      newest_is = has.1;
      node = newest_node (nodes_of s tree) link.page;
      spells = newest_page_decodes s tree link.page has.0 stands.decodes has.1;
      names = inr (right, above_none level next (place + 1, here));
    }

  -- from the first link of a level on to the right
  along : (level : ℕ) (first : Link) → StandsAt (chain level) 0 first → (HasBytes s tree first.page → IsReached s tree first.page) → (place : ℕ) (link : Link)
      → StandsAt (chain level) place link → HasBytes s tree link.page → IsReached s tree link.page
  along level first here start zero link there has =
      subst (λ (l : Link). HasBytes s tree l.page → IsReached s tree l.page) (one_thing (chain level) 0 0 first link refl here there) start has
  along level first here start (suc place) link there has = on (slice_get (chain level) place) refl (along level first here start place)
    where
      on : (o : Option Link) → slice_get (chain level) place ≡ o
          → ((before : Link) → StandsAt (chain level) place before → HasBytes s tree before.page → IsReached s tree before.page) → IsReached s tree link.page
      on None e again = let never = before_end (chain level) place (suc place) link e there in absurd (omega (arith, never))
      on (Some before) e again =
          let next : StandsAt (chain level) (place + 1) link = subst (λ (n : ℕ). StandsAt (chain level) n link) (plus_one place) there in
          let had = landed_bytes level before (place, e) (some_left level place before link e next) in
          from_page before.page link.page (again before e had) (names_right level place before link e next had) has

  -- entries that name a level from its left end on name its first page
  names_first : (level : ℕ) (entries : List Child) (link : Link) → NamesBelow chain level [] entries → StandsAt (chain (level - 1)) 0 link → IsNamedIn entries link.page
  names_first level [] link n there = let no : None ≡ Some [] = n.links.first in absurd (cc (no))
  names_first level (e ∷ es) link n there =
      let first = first_below chain (nodes_of s tree) (roots_of s tree) (st.tally.done tree) (st.tally.cursor tree 0) chained level (e ∷ es) n in (
        e,
        (zero, refl),
        ap (λ (l : Link). l.page) (one_thing (chain (level - 1)) 0 0 (record { low = []; page = leftmost_child (e ∷ es) }) link refl first there),
      )

  names_child : (level : ℕ) (link : Link) (node : Node) → 0 < level → IsOfLevel level node → low_of node ≡ [] → NodeNames chain node → StandsAt (chain (level - 1)) 0 link
      → IsChildOf node link.page
  names_child level link (Leafy l) above is low names there = absurd (omega (arith, above, is))
  names_child level link (Branch n) above is low names there =
      names_first level n.entries link
      (subst (λ (k : List ℕ). NamesBelow chain level k n.entries) low (subst (λ (k : ℕ). NamesBelow chain k n.low n.entries) is.0 names)) there

  -- the first leaf is page 1
  leaf_reached : (level : ℕ) (link : Link) → level ≡ 0 → StandsAt (chain level) 0 link → HasBytes s tree link.page → IsReached s tree link.page
  leaf_reached level link e there has =
      let at : StandsAt (chain 0) 0 link = subst (λ (n : ℕ). StandsAt (chain n) 0 link) e there in
      let leftmost : StandsAt (chain 0) 0 first_link = ap (λ (ls : List Link). slice_get ls 0) chained.levels.leaves.1 in
      subst (λ (l : Link). HasBytes s tree l.page → IsReached s tree l.page) (one_thing (chain 0) 0 0 first_link link refl leftmost at) (λ some. first_page some) has

  -- so many levels below the highest
  first_reached : (above level : ℕ) (link : Link) → (level + 1) + above ≡ root.level → StandsAt (chain level) 0 link → HasBytes s tree link.page → IsReached s tree link.page
  first_reached zero level link e there has = on (newest s (object.Tree tree)) refl
    where
      on : (o : Option (List ℕ)) → newest s (object.Tree tree) ≡ o → IsReached s tree link.page
      on None f =
          let low : root.level ≡ 1 = ap (λ (t : Tree). t.level) (no_root s tree stands.decodes f) in
          leaf_reached level link (omega (arith, e, low)) there has
      on (Some bytes) f =
          let below : level ≡ root.level - 1 = omega (arith, e) in
          from_root link.page (record {
            bytes = bytes;
            newest_is = f;
            root = root;
            spells = newest_root_decodes s tree bytes stands.decodes f;
            names = names_first root.level root.entries link root_below (subst (λ (n : ℕ). StandsAt (chain n) 0 link) below there);
          }) has
  first_reached (suc above) level link e there has =
      from_page parent.0.page link.page (first_reached above (level + 1) parent.0 (omega (arith, e)) parent.1 had) (record {
        bytes = had.0;
        newest_is = had.1;
        node = node;
        spells = newest_page_decodes s tree parent.0.page had.0 stands.decodes had.1;
        names = inl (names_child (level + 1) link node (omega arith) is.level_is (is.low ∙ parent.2) names (subst (λ (n : ℕ). StandsAt (chain n) 0 link) back there));
      }) has
    where
      parent : (p : Link) × StandsAt (chain (level + 1)) 0 p × (p.low ≡ [])
      parent = chained.levels.begins (level + 1) (omega (arith, e))

      linked : IsIn (chain (level + 1)) parent.0
      linked = (0, parent.1)

      some : nodes_of s tree parent.0.page ≢ []
      some none = let low = chained.newest.absent (level + 1) parent.0 linked none in omega (arith, low.0)

      had : HasBytes s tree parent.0.page
      had = landed_bytes (level + 1) parent.0 linked some

      node : Node
      node = newest_node (nodes_of s tree) parent.0.page

      is : IsNewestOf (level + 1) parent.0 node
      is = newest_is chain (nodes_of s tree) root.level chained.levels chained.versions chained.newest (level + 1) parent.0 linked

      names : NodeNames chain node
      names = chained.entries.of_nodes parent.0.page node (last_in (Leafy empty_leaf) (nodes_of s tree parent.0.page) some)

      back : level ≡ (level + 1) - 1
      back = omega arith

  pub links_reached : (page : ℕ) → IsOfLink chain page → HasBytes s tree page → IsReached s tree page
  links_reached page o has = subst (λ (p : ℕ). IsReached s tree p) o.page_is (on (nat_lt o.level root.level) refl)
    where
      had : HasBytes s tree o.link.page
      had = subst (λ (p : ℕ). HasBytes s tree p) (sym o.page_is) has

      on : (b : Bool) → nat_lt o.level root.level ≡ b → IsReached s tree o.link.page
      on false e =
          absurd (none_in o.link (subst (λ (ls : List Link). IsIn ls o.link) (chained.levels.above o.level (ltb-false o.level root.level e)) o.linked))
      on true e =
          let less = ltb-true o.level root.level e in
          let begins = chained.levels.begins o.level less in
          along o.level begins.0 begins.1 (λ some. first_reached (root.level - (o.level + 1)) o.level begins.0 (omega (arith, less)) begins.1 some) o.linked.0 o.link o.linked.1 had

-- a page that is reached has bytes
pub reached_bytes : (s : CloudState) (tree page : ℕ) → IsReached s tree page → HasBytes s tree page
reached_bytes s tree _ (first_page has) = has
reached_bytes s tree _ (from_root page names has) = has
reached_bytes s tree _ (from_page from page reached names has) = has
