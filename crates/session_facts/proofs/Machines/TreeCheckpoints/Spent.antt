-- Where a checkpoint of a tree finds a version spent, the cloud tells so: what is to be put next was got, or put by the checkpoint, and it landed.
use Rattle.std.proofs.Common.{◌≡◌, ◌+◌, ◌-◌, ◌*◌, ◌^◌, ◌<◌, ◌≤◌, ◌==◌, ◌⊎◌, inl, inr, ℕ, Bool, true, false, cond, nat_lt, List, [], ◌∷◌, ◌++◌, length, map, drop, Option, Some, None, refl, sym, ap, subst, ◌∙◌, arith}
use Rattle.std.specs.Prelude.{◌&&◌, is_none, is_some, reverse, slice_get}
use Rattle.std.proofs.lemmas.Bool.{eqb-true}
use Rattle.std.proofs.lemmas.List.{append-nil, length-reverse, length-map}
use Rattle.byte_format.specs.Format.{greatest}
use Rattle.cloud_facts.specs.Words.{IsTree, Trouble, PuItem, Leaf, Inner, Tree, CloudState, newest, Claim, Store, Leafy, Branch, IsIn, nodes_of, roots_of}
use Rattle.cloud_facts.specs.Chains.Chain.{IsChained}
use Rattle.cloud_facts.specs.Tellings.Taking.{IsLinked}
use Rattle.cloud_facts.proofs.Chains.Pieces.{none_in}
use Rattle.db_base.specs.declared.names.ObjName.TheVariants as object
use Rattle.db_base.specs.declared.names.QueueName.TheVariants.{TreePu}
use Rattle.db_base.specs.declared.trouble.Counter.{Counter}
use Rattle.db_base.specs.declared.trouble.Counter.TheVariants as counter
use Rattle.db_base.specs.declared.trouble.Trouble.TheVariants as trouble
use Rattle.leaf_edit.specs.Applied.{applied}
use Rattle.tree_phases.specs.declared.folding.Folding.{Folding}
use Rattle.leaf_view.specs.Lookup.{empty_leaf}
use Rattle.node_codec.specs.Inner.{HasInnerSpelling, inner_of}
use Rattle.node_codec.specs.Node.{raised as raised_cursor}
use Rattle.node_codec.specs.Tree.{empty_tree}
use Rattle.node_codec.proofs.SpellingLaws.{inner_only}
use Rattle.run_cursor.specs.Run.{Taken}
use Rattle.session_facts.specs.Sessions.Spent.{HasLastPage, HasLastPages, HasLastRoot, IsLeafOf, MayNeed, IsSpentInTree}
use Rattle.session_facts.specs.Machines.Runs.Knows.{TookRun}
use Rattle.session_facts.specs.Machines.Trees.Charts.{IsRootOf, AreFound, KnowsChart, KnowsNode, KnowsRoot}
use Rattle.session_facts.specs.Machines.Trees.Leaves.{KnowsLeaf}
use Rattle.session_facts.specs.Machines.Risings.Knows.{IsLastVersion, piece_links, risen_node, PutsCut, PutsNode, PutsOf, whole as whole_root, cut, KnowsRising}
use Rattle.session_facts.proofs.Sessions.Spent.{IsToldBy, last_leaf, whole_landed, whole_newest}
use Rattle.session_facts.proofs.Machines.TreeCheckpoints.EntryCounts.{few_in_node, few_in_root, few_known, few_landed, few_links, few_pieces, pieces_more, pieces_noted}
use Rattle.session_facts.proofs.Machines.TreeCheckpoints.RunLengths.{run_length}
use Rattle.tree_ckpt.proofs.RunLengths.{applied_records}
use Rattle.session_facts.proofs.Machines.TreeCheckpoints.Troubles.{MeetsSpent, SpendsBehind, SpendsLeaf, SpendsUp}
use Rattle.session_facts.proofs.Sessions.Shows.{IsFree}
use Rattle.session_facts.proofs.Machines.Trees.Reserves.{root_names}
use Rattle.session_facts.proofs.Machines.Risings.Grounds.{get_dropped}
use Rattle.session_facts.proofs.Machines.Risings.Spells.{root_sound}
use Rattle.split_plan.specs.declared.put_list.PagePut.{PagePut}
use Rattle.split_plan.specs.Part.{NodePart}
use Rattle.split_plan.specs.Plan.{put_of, on_pages, node_bytes}
use Rattle.split_plan.specs.Sizes.{count_of}
use Rattle.tree_ckpt.specs.Working.{HoldsLeaf}
use Rattle.tree_ckpt.specs.Due.{Due, LeafDue, NodeDue, RootDue, IsSpent, pages_of, pages_of_root, raised, root_of, version_of}
use Rattle.tree_ckpt.specs.Moves.{chart_of}
use Rattle.tree_phases.specs.declared.chart.Chart.{Chart}
use Rattle.tree_phases.specs.declared.kept.KeptNode.{KeptNode}
use Rattle.tree_phases.specs.declared.link.Link.{Link as Found}
use Rattle.tree_phases.specs.Placing.{root_after, puts_after, has_nothing}
use Rattle.tree_phases.specs.Read.{tree_held}
use Rattle.tree_phases.specs.Reserve.{version_spent}
use Rattle.tree_phases.specs.declared.rising.Rising.{Rising}
use Rattle.tree_phases.specs.Nodes.{touched_at, with_links}
use Rattle.tree_phases.specs.Rising.{landed, next_touched, touched_node}
use Rattle.tree_phases.specs.Rising as up

-- no reservation is in hand where pages are put and the put in hand is the last
none_reserved : (r : Rising) → 1 ≤ length r.placing.puts → has_nothing (landed r).placing ≡ true → r.placing.reserved ≡ None
none_reserved r some nothing = on r.placing.reserved refl
  where
    on : (o : Option (List ℕ)) → r.placing.reserved ≡ o → r.placing.reserved ≡ None
    on None e = e
    on (Some bytes) e =
        let left : (length (puts_after (Some bytes) r.placing.puts) == 0) ≡ true = subst (λ (x : Option (List ℕ)). (length (puts_after x r.placing.puts) == 0) ≡ true) e nothing in
        let none : length r.placing.puts ≡ 0 = eqb-true (length r.placing.puts) 0 left in
        absurd (omega (arith, none, some))

-- as many pages are put as there are pieces
puts_many : (page first : ℕ) (ps : List NodePart) (puts : List PagePut) → puts ≡ reverse (map (put_of node_bytes) (on_pages page first ps)) → length puts ≡ length (on_pages page first ps)
puts_many page first ps puts e =
    ap (λ (xs : List PagePut). length xs) e ∙ (length-reverse (map (put_of node_bytes) (on_pages page first ps)) ∙ length-map (on_pages page first ps) (put_of node_bytes))

some_pages : (page first : ℕ) (ps : List NodePart) → 1 ≤ length ps → 1 ≤ length (on_pages page first ps)
some_pages page first [] some = absurd (omega (arith, some))
some_pages page first (p ∷ ps) some = omega arith

module _ (st : Store) (now : ℕ) (s t : CloudState) (tells : IsToldBy st s t) (tree : ℕ) (of_tree : IsTree tree) (lease : Claim) where
  -- ---- what landed last

  last_root : (root : Tree) → KnowsRoot st now lease tree root → root.version ≡ greatest → HasLastRoot t tree
  last_root root k last = on k.landed
    where
      on : IsRootOf (st.tally.roots tree) root → HasLastRoot t tree
      on (inl empty) = absurd (let none : 0 ≡ greatest = sym (ap (λ (x : Tree). x.version) empty) ∙ last in cc (none))
      on (inr landed) = record { root = root; landed = tells.roots tree root landed; last = last }

  read_node : (k : KeptNode) (n : Inner) (known : KnowsNode st now lease tree k) → inner_of k.bytes ≡ Some n → known.inner ≡ n
  read_node k n known reads = some_inner known.inner n (sym (inner_only k.bytes known.inner known.spells) ∙ reads)
    where
      some_inner : (a b : Inner) → Some a ≡ Some b → a ≡ b
      some_inner a b e = cc

  last_node : (k : KeptNode) (n : Inner) → KnowsNode st now lease tree k → inner_of k.bytes ≡ Some n → n.version ≡ greatest → HasLastPage t tree
  last_node k n known reads last =
      let same : known.inner ≡ n = read_node k n known reads in
      record { page = k.page; node = Branch n; landed = subst (λ (x : Inner). IsIn (nodes_of t tree k.page) (Branch x)) same (tells.pages tree k.page (Branch known.inner) known.landed); last = last }

  -- ---- numbers of pages

  -- so near the end is the next page of the tree object that stands
  last_pages : (root : Tree) → KnowsRoot st now lease tree root → (pages : ℕ) → MayNeed t tree pages → greatest < root.next + pages → HasLastPages t tree
  last_pages root k pages need last = record { root = root; landed = on k.landed; pages = pages; needed = need; last = last }
    where
      on : IsRootOf (st.tally.roots tree) root → (root ≡ empty_tree) ⊎ IsIn (roots_of t tree) root
      on (inl empty) = inl empty
      on (inr landed) = inr (tells.roots tree root landed)

  -- what a leaf needs that takes a run
  leaf_needs : (page : ℕ) (l : Leaf) (run : List PuItem) → (l ≡ empty_leaf) ⊎ IsIn (nodes_of t tree page) (Leafy l) → length l.records ≤ 200 * length t.trace
      → length run ≤ length (st.tally.posts tree 0) → MayNeed t tree (count_of (length (applied l 0 run).records) - 1)
  leaf_needs page l run there own few =
      let records = applied_records l run in
      let posts = tells.posts tree in
      let sent = tells.sent tree in
      let pieces = pieces_more (length (applied l 0 run).records) (length l.records + length (t.messages (TreePu tree))) (omega (arith, records, few, posts)) in
      record { cut = inr (l, on there, omega (arith, pieces)); few = omega (arith, records, own, few, sent) }
    where
      on : (l ≡ empty_leaf) ⊎ IsIn (nodes_of t tree page) (Leafy l) → IsLeafOf t tree l
      on (inl empty) = inl empty
      on (inr landed) = inr (page, landed)

  chained : IsChained (st.book.chain tree) (st.tally.nodes tree) (st.tally.roots tree) (st.tally.done tree) (st.tally.cursor tree 0)
  chained = tells.chains tree of_tree

  -- links that were found, and behind them those of the new pieces of a page
  record AreKnown (links : List Found) : Type 0 where
    known : List Found
    more : List Found
    links_are : links ≡ known ++ more
    found : AreFound (st.book.chain tree) known
    items : ℕ
    pieces : length more ≤ count_of items - 1
    most : items ≤ greatest
    few : items ≤ length t.trace + 1

  all_found : (links : List Found) → AreFound (st.book.chain tree) links → AreKnown links
  all_found links found =
      record { known = links; more = []; links_are = sym (append-nil links); found = found; items = 0; pieces = omega arith; most = omega arith; few = omega arith }

  -- a level has few links
  most_links : (level : ℕ) → length (st.book.chain tree level) ≤ greatest
  most_links level = few_links (st.book.chain tree) (st.tally.nodes tree) (st.tally.roots tree) (st.tally.done tree) (st.tally.cursor tree 0) chained (tells.next tree of_tree) level

  noted_links : (k : KeptNode) (first : ℕ) (n : Inner) (known : List Found) → HasInnerSpelling n → IsIn (st.tally.nodes tree k.page) (Branch n) → AreFound (st.book.chain tree) known
      → (links : List Found) → links ≡ known ++ piece_links k first (risen_node n known) → AreKnown links
  noted_links k first n known spells landed found links is = record {
    known = known;
    more = piece_links k first (risen_node n known);
    links_are = is;
    found = found;
    items = length (with_links n known n.entries);
    pieces = let count = pieces_noted k first (risen_node n known) in omega (arith, count);
    most = let links = most_links (n.level - 1) in omega (arith, named, links);
    few = let links = tells.links tree (n.level - 1) of_tree in omega (arith, named, links);
  }
    where
      named : length (with_links n known n.entries) ≤ length (st.book.chain tree (n.level - 1))
      named =
          few_known (st.book.chain tree) (st.tally.nodes tree) (st.tally.roots tree) (st.tally.done tree) (st.tally.cursor tree 0) chained (tells.next tree of_tree) n known spells
          (chained.entries.of_nodes k.page (Branch n) landed) found

  -- entries of links of a level, and of pieces
  pieces_need : (level entries more items : ℕ) → entries ≤ length (st.book.chain tree level) + more → more ≤ count_of items - 1 → items ≤ greatest → items ≤ length t.trace + 1
      → (count_of entries ≤ 2 ^ 59) × (count_of entries ≤ 4 * length t.trace + 1)
  pieces_need level entries more items own pieces most few =
      let links = most_links level in
      let rows = tells.links tree level of_tree in
      (few_pieces entries more items (omega (arith, own, links)) pieces most, few_landed entries more items (length t.trace) (omega (arith, own, rows)) pieces few)

  -- what a node and a tree object need that take them
  node_needs : (k : KeptNode) (known : KnowsNode st now lease tree k) (links : List Found) → AreKnown links
      → MayNeed t tree (count_of (length (with_links known.inner links known.inner.entries)) - 1)
  node_needs k known links l =
      let own =
      subst (λ (ls : List Found). length (with_links known.inner ls known.inner.entries) ≤ length (st.book.chain tree (known.inner.level - 1)) + length l.more) (sym l.links_are)
      (few_in_node (st.book.chain tree) (st.tally.nodes tree) (st.tally.roots tree) (st.tally.done tree) (st.tally.cursor tree 0) chained (tells.next tree of_tree)
      known.inner l.known l.more known.spells.fits (chained.entries.of_nodes k.page (Branch known.inner) known.landed) l.found) in
      let need = pieces_need (known.inner.level - 1) (length (with_links known.inner links known.inner.entries)) (length l.more) l.items own l.pieces l.most l.few in
      let most = need.0 in
      let few = need.1 in
      record { cut = inl (omega (arith, most)); few = omega (arith, few) }

  root_needs : (root : Tree) → KnowsRoot st now lease tree root → (links : List Found) (top : List (ℕ × ℕ)) → AreKnown links → MayNeed t tree (pages_of_root root (raised root links top))
  root_needs root k links top l =
      let need = on (nat_lt 64 (length (raised root links top).entries) && nat_lt root.level 255) in
      record { cut = inl need.0; few = need.1 }
    where
      own : length (raised root links top).entries ≤ length (st.book.chain tree (root.level - 1)) + length l.more
      own =
          subst (λ (ls : List Found). length (raised root ls top).entries ≤ length (st.book.chain tree (root.level - 1)) + length l.more) (sym l.links_are)
          (few_in_root (st.book.chain tree) (st.tally.nodes tree) (st.tally.roots tree) (st.tally.done tree) (st.tally.cursor tree 0) chained (tells.next tree of_tree)
          root (record (record root { version = root.version + 1 }) { cursor = raised_cursor root.cursor top }) l.known l.more (root_sound root k.spelled)
          (root_names (st.book.chain tree) (st.tally.nodes tree) (st.tally.roots tree) (st.tally.done tree) (st.tally.cursor tree 0) chained root k.landed) l.found refl refl)

      on : (b : Bool) → (cond b (count_of (length (raised root links top).entries)) 0 ≤ 2 ^ 59) × (cond b (count_of (length (raised root links top).entries)) 0 ≤ 4 * length t.trace + 1)
      on true = pieces_need (root.level - 1) (length (raised root links top).entries) (length l.more) l.items own l.pieces l.most l.few
      on false = (omega arith, omega arith)

  -- ---- what is due

  module _ (Met : Trouble → Type 0) (free : (k : Trouble) → IsFree k → Met k) (own : (what : Counter) → IsSpentInTree tree t what → Met (trouble.Exhausted what)) where
    due_spent : (due : Due) → KnowsRoot st now lease tree (root_of due) → (version_of due ≡ greatest → IsSpentInTree tree t counter.Version) → IsSpent due → IsSpentInTree tree t counter.Version
    due_spent due root last (inl spent) = last spent
    due_spent due root last (inr (reserves, spent)) = inl (last_root (root_of due) root spent)

    meets_spent : (due : Due) → KnowsRoot st now lease tree (root_of due) → (version_of due ≡ greatest → IsSpentInTree tree t counter.Version) → MayNeed t tree (pages_of due)
        → MeetsSpent Met due
    meets_spent due root last need (trouble.Exhausted counter.Version) spent = own counter.Version (due_spent due root last spent)
    meets_spent due root last need (trouble.Exhausted counter.Pages) (reserves, spare, more) = own counter.Pages (last_pages (root_of due) root (pages_of due) need more)
    meets_spent due root last need k never = absurd never

    -- ---- a leaf

    leaf_spent : (f : Folding) (page : ℕ) (l : Leaf) → KnowsRoot st now lease tree (tree_held f.chart.root) → length f.chart.run.items ≤ length (st.tally.posts tree 0)
        → (l ≡ empty_leaf) ⊎ IsIn (nodes_of t tree page) (Leafy l) → length l.records ≤ 200 * length t.trace → MeetsSpent Met (LeafDue (tree_held f.chart.root) l f.chart.run.items)
    leaf_spent f page l root few there own =
        meets_spent (LeafDue (tree_held f.chart.root) l f.chart.run.items) root (λ last. inr (last_leaf t tree page l there last)) (leaf_needs page l f.chart.run.items there own few)

    -- whatever the get of the page brought
    pub spends_leaf : (f : Folding) (ids : List ℕ) → f.chart.tree ≡ tree → KnowsLeaf st now lease f ids → (got : Option (List ℕ)) → newest t (object.Page tree f.page) ≡ got
        → newest s (object.Page tree f.page) ≡ got → SpendsLeaf Met free f got
    spends_leaf f ids same known got told was l holds = leaf_spent f f.page l root few (there got told holds) (records got was holds)
      where
        root_of_leaf : KnowsLeaf st now lease f ids → KnowsRoot st now lease f.chart.tree (tree_held f.chart.root)
        root_of_leaf (inl reading) = reading.at.chart.root
        root_of_leaf (inr putting) = putting.root

        root : KnowsRoot st now lease tree (tree_held f.chart.root)
        root = subst (λ (n : ℕ). KnowsRoot st now lease n (tree_held f.chart.root)) same (root_of_leaf known)

        run_of_leaf : KnowsLeaf st now lease f ids → TookRun st f.chart.tree 0 (tree_held f.chart.root).cursor f.chart.run ids
        run_of_leaf (inl reading) = reading.run.took
        run_of_leaf (inr putting) = putting.took

        few : length f.chart.run.items ≤ length (st.tally.posts tree 0)
        few =
            subst (λ (n : ℕ). length f.chart.run.items ≤ length (st.tally.posts n 0)) same
            (run_length st f.chart.tree (tree_held f.chart.root).cursor f.chart.run ids (run_of_leaf known))

        linked_leaf : KnowsLeaf st now lease f ids → IsLinked (st.book.chain f.chart.tree 0) f.page
        linked_leaf (inl reading) = let at = reading.at.way.at.linked in record { place = at.0; link = record { low = f.low; page = f.page }; linked = at.1; page_is = refl }
        linked_leaf (inr putting) = putting.puts.linked

        linked : IsLinked (st.book.chain tree 0) f.page
        linked = subst (λ (n : ℕ). IsLinked (st.book.chain n 0) f.page) same (linked_leaf known)

        records : (got : Option (List ℕ)) → newest s (object.Page tree f.page) ≡ got → HoldsLeaf f.page l got → length l.records ≤ 200 * length t.trace
        records (Some bytes) was holds =
            subst (λ (m : Leaf). length m.records ≤ 200 * length t.trace) (whole_newest s tree f.page bytes l tells.decodes was holds) (tells.leaves tree f.page of_tree linked)
        records None was holds = subst (λ (m : Leaf). length m.records ≤ 200 * length t.trace) (sym holds.1) (omega arith)

        there : (got : Option (List ℕ)) → newest t (object.Page tree f.page) ≡ got → HoldsLeaf f.page l got → (l ≡ empty_leaf) ⊎ IsIn (nodes_of t tree f.page) (Leafy l)
        there (Some bytes) told holds = inr (whole_landed t tree f.page bytes l told holds)
        there None told holds = inl holds.1

    -- ---- the way up

    spends_up : (r : Rising) → KnowsRoot st now lease tree (tree_held r.chart.root) → ((k : KeptNode) → touched_node r ≡ Some k → KnowsNode st now lease tree k) → AreKnown r.chart.links
        → SpendsUp Met free r
    spends_up r root nodes links = record {
      node = λ k next n reads.
          meets_spent (NodeDue (tree_held r.chart.root) n r.chart.links) root (λ last. inr (last_node k n (nodes k next) reads last))
          (subst (λ (m : Inner). MayNeed t tree (count_of (length (with_links m r.chart.links m.entries)) - 1)) (read_node k n (nodes k next) reads)
          (node_needs k (nodes k next) r.chart.links links));
      root =
          meets_spent (RootDue (tree_held r.chart.root) r.chart.links r.chart.run.top) root (λ last. inl (last_root (tree_held r.chart.root) root last))
          (root_needs (tree_held r.chart.root) root r.chart.links r.chart.run.top links);
    }

    -- behind the last leaf
    pub spends_begun : (c : Chart) → c.tree ≡ tree → KnowsChart st now lease c → SpendsUp Met free (up.begun c)
    spends_begun c same k =
        spends_up (up.begun c) (subst (λ (n : ℕ). KnowsRoot st now lease n (tree_held c.root)) same k.root)
        (λ kept next. subst (λ (n : ℕ). KnowsNode st now lease n kept) same (k.nodes kept (next_touched (up.begun c), next)))
        (all_found c.links (subst (λ (n : ℕ). AreFound (st.book.chain n) c.links) same k.links))

    -- a chart without nodes
    pub spends_bare : (root : Option (List ℕ)) (run : Taken) → KnowsRoot st now lease tree (tree_held root) → SpendsUp Met free (up.begun (chart_of tree root run))
    spends_bare root run known = spends_up (up.begun (chart_of tree root run)) known (λ kept next. absurd (never (next_touched (up.begun (chart_of tree root run))) kept next))
        (all_found [] (λ l there. absurd (none_in l there)))
      where
        never : (n : ℕ) (kept : KeptNode) → slice_get [] n ≡ Some kept → ⊥
        never n kept e = cc (e)

    -- behind a put
    pub spends_behind : (r : Rising) (ids : List ℕ) → r.chart.tree ≡ tree → KnowsRising st now lease r ids → SpendsBehind Met free r
    spends_behind r ids same k = record { short = λ some nothing last spent. short r.last k.puts refl some nothing last spent; between = λ nothing none. between nothing none }
      where
        known_root : KnowsRoot st now lease tree (tree_held r.chart.root)
        known_root = subst (λ (n : ℕ). KnowsRoot st now lease n (tree_held r.chart.root)) same k.root

        -- the reservation of a cut landed, and took the last version
        cut_short : (bytes : List ℕ) → PutsCut st now lease r bytes → has_nothing (landed r).placing ≡ true → r.is_spent ≡ true → Met version_spent
        cut_short bytes p nothing spent =
            let many : length r.placing.puts ≡ length (on_pages p.first (p.first + 1) p.middle) = puts_many p.first (p.first + 1) p.middle r.placing.puts p.puts_are in
            let some = some_pages p.first (p.first + 1) p.middle (p.left spent) in
            let none : r.placing.reserved ≡ None = none_reserved r (omega (arith, many, some)) nothing in
            own counter.Version (inl (last_root (tree_held r.chart.root) known_root (subst (IsLastVersion (tree_held r.chart.root)) none (p.spent spent))))

        short : (last : Option (List ℕ)) → PutsOf st now lease r last → r.last ≡ last → has_nothing r.placing ≡ false → has_nothing (landed r).placing ≡ true → is_some r.last ≡ true
            → r.is_spent ≡ true → Met version_spent
        short None p e some nothing last spent = absurd (let none : is_some r.last ≡ false = ap (λ (o : Option (List ℕ)). is_some o) e in cc (none, last))
        short (Some bytes) (whole_root p) e some nothing last spent =
            absurd (let none : has_nothing r.placing ≡ true = both p.nothing_reserved p.no_page in cc (none, some))
          where
            both : r.placing.reserved ≡ None → r.placing.puts ≡ [] → has_nothing r.placing ≡ true
            both f g = ap (λ (o : Option (List ℕ)). is_none o && (length r.placing.puts == 0)) f ∙ ap (λ (l : List PagePut). length l == 0) g
        short (Some bytes) (cut p) e some nothing last spent = cut_short bytes p nothing spent

        between : has_nothing (landed r).placing ≡ true → r.last ≡ None → SpendsUp Met free (landed r)
        between nothing none =
            spends_up (landed r) (subst (KnowsRoot st now lease tree) (sym held) known_root)
            (λ kept next.
            subst (λ (n : ℕ). KnowsNode st now lease n kept) same
            (p.nodes kept (touched_at r.chart.tree r.chart.links (drop r.at r.chart.nodes), get_dropped r.at (touched_at r.chart.tree r.chart.links (drop r.at r.chart.nodes)) r.chart.nodes kept next)))
            (noted_links p.kept p.first p.node.inner p.known p.node.spells.fits (subst (λ (n : ℕ). IsIn (st.tally.nodes n p.kept.page) (Branch p.node.inner)) same p.node.landed)
            (subst (λ (n : ℕ). AreFound (st.book.chain n) p.known) same p.found) r.chart.links p.links_are)
          where
            p : PutsNode st now lease r
            p = subst (PutsOf st now lease r) none k.puts

            many : length r.placing.puts ≡ length (on_pages p.kept.page p.first (p.placing.front ∷ p.placing.middle))
            many = puts_many p.kept.page p.first (p.placing.front ∷ p.placing.middle) r.placing.puts p.placing.puts_are

            some : 1 ≤ length r.placing.puts
            some = let e = many in omega (arith, e)

            held : tree_held (landed r).chart.root ≡ tree_held r.chart.root
            held = ap (λ (o : Option (List ℕ)). tree_held (root_after o r.chart.root)) (none_reserved r some nothing)
