-- The puts of a node's pieces on the way up: a new piece lands on its number, and the left one, the last of them, on the node's page.
use Rattle.std.proofs.Common.{◌≡◌, ◌≢◌, ◌+◌, ◌-◌, ◌<◌, ◌==◌, ◌⊎◌, inl, inr, ℕ, zero, Bool, true, false, List, [], ◌∷◌, ◌++◌, length, map, reverse, drop, Option, Some, None, refl, sym, ap, subst, ◌∙◌, arith, append_assoc, length-append}
use Rattle.std.specs.Prelude.{slice_get}
use Rattle.std.proofs.lemmas.Bool.{eqb-true, eqb-false}
use Rattle.cloud_facts.specs.Calls.Acting.{footing}
use Rattle.cloud_facts.specs.Chains.Chain.{IsChained, IsUnlinked, IsVersionOf}
use Rattle.cloud_facts.specs.Chains.Cuts.{links_on, HaveLanded, inner_node}
use Rattle.cloud_facts.specs.Chains.Links.{top_of, newest_node, NamesLinks, NamesBelow}
use Rattle.cloud_facts.proofs.Chains.Pieces.{in_first, in_rest, in_cases, none_in, joined_has}
use Rattle.cloud_facts.specs.Words.{Entry, Inner, CloudState, Caller, Claim, Lasts, PutHeld, Goes, Book, Link, Store, Node, Branch, IsIn, nodes_of, roots_of, store_of, StandsUnder}
use Rattle.cloud_facts.proofs.Calls.Passing.{landing_passes}
use Rattle.db_base.specs.declared.names.Lock.TheVariants as lock
use Rattle.db_base.specs.declared.names.ObjName.TheVariants as object
use Rattle.cloud_facts.specs.Homes.Homes.{Part as Home}
use Rattle.cloud_facts.specs.Landings.Landing.{Landing, puts_inner}
use Rattle.node_codec.specs.Inner.{IsInner}
use Rattle.session_facts.specs.Machines.Runs.Knows.{TookRun}
use Rattle.session_facts.proofs.Machines.Runs.Received.{each_in}
use Rattle.split_plan.proofs.Cutting.{pieces-are-a-cut}
use Rattle.split_plan.specs.declared.put_list.PagePut.{PagePut}
use Rattle.split_plan.specs.Cut.{IsNewPart, BeginAs, IsCut}
use Rattle.split_plan.specs.Part.{NodePart, part_of_node, node_of_part, entry_key}
use Rattle.split_plan.specs.Plan.{IsNodePart, put_of, entry_of, on_pages, node_bytes, node_pieces}
use Rattle.split_plan.specs.Sizes.{cuts_of}
use Rattle.cloud_facts.specs.Book.Book.{with_pieces}
use Rattle.cloud_facts.specs.Book.Effects.{after_inner}
use Rattle.cloud_facts.specs.Book.Growth.{Grows}
use Rattle.cloud_facts.specs.Book.Premises.{AreThere}
use Rattle.cloud_facts.specs.Book.Tally.{version_of}
use Rattle.cloud_facts.specs.Book.Telling.{gone_of}
use Rattle.cloud_facts.proofs.Book.Places.{in_either, in_front, in_behind}
use Rattle.cloud_facts.proofs.Tellings.Fences.{cut_common, cut_version}
use Rattle.cloud_facts.proofs.Tellings.Names.{at2_same, at2_beside}
use Rattle.cloud_facts.specs.Tellings.Pieces.{first_part, right_of, node_parts, left_inner, node_links}
use Rattle.tree_phases.specs.declared.link.Link.{Link as Found}
use Rattle.tree_phases.specs.Kept.{links_at}
use Rattle.tree_phases.specs.Placing.{root_after, puts_after}
use Rattle.tree_phases.specs.Read.{tree_held}
use Rattle.tree_phases.specs.declared.rising.Rising.{Rising}
use Rattle.tree_phases.specs.Rising.{rise, landed, put_landed}
use Rattle.session_facts.specs.Machines.Trees.Charts.{KnowsRoot, IsFound, AreFound}
use Rattle.session_facts.specs.Machines.Trees.Placings.{AreReserved, numbered}
use Rattle.session_facts.specs.Machines.Risings.Knows.{AppliesRun, KnowsUpward, ReservesNodes, PutsNode, PutsOf, KnowsRising, RisesOn, risen_node, piece_links}
use Rattle.session_facts.proofs.Machines.Trees.Others.{root_stays, KeepsNodes, nodes_stay, links_stay}
use Rattle.session_facts.proofs.Machines.Risings.Pieces.{risen_names, risen_lands}
use Rattle.session_facts.proofs.Machines.Trees.Placings.{puts_more, on_range, piece_landed}
use Rattle.session_facts.proofs.Machines.Risings.Effects.{holder, ascent, RisingEffect, goes_on, goes_up, has_page, some_puts, inner_spelled, no_branch, piece_after, piece_lands}
use Rattle.session_facts.proofs.Machines.Risings.Others.{applies_stays, node_stays}
use Rattle.session_facts.proofs.Machines.Risings.Nexts.{rise_leads}

-- ---- a put of a page leaves the root

module _ (st su : Store) (now : ℕ) (lease : Claim) (r : Rising) (ids : List ℕ) (k : KnowsRising st now lease r ids) (grows : Grows st su)
    (roots : su.tally.roots r.chart.tree ≡ st.tally.roots r.chart.tree) (none : r.placing.reserved ≡ None) where
  pub root_is : (landed r).chart.root ≡ r.chart.root
  root_is = ap (λ (o : Option (List ℕ)). root_after o r.chart.root) none

  pub root_behind : KnowsRoot su now lease r.chart.tree (tree_held (landed r).chart.root)
  root_behind =
      subst (λ (o : Option (List ℕ)). KnowsRoot su now lease r.chart.tree (tree_held o)) (sym root_is)
      (root_stays st su now now lease r.chart.tree (tree_held r.chart.root) (omega arith) grows (λ lasts. roots) k.root)

  pub run_behind : AppliesRun su (landed r).chart ids
  run_behind =
      let run = applies_stays st su r.chart ids grows k.run in
      record {
        took = subst (λ (o : Option (List ℕ)). TookRun su r.chart.tree 0 (tree_held o).cursor r.chart.run ids) (sym root_is) run.took;
        done = run.done;
      }

-- a page that had no version holds no node that was got
pub beside_fresh : (st su : Store) (now tree number : ℕ) (lease : Claim) → st.tally.nodes tree number ≡ [] → ((q : ℕ) → q ≢ number → su.tally.nodes tree q ≡ st.tally.nodes tree q)
    → KeepsNodes st su now tree lease
beside_fresh st su now tree number lease absent stays lasts page n is = on (page == number) refl
  where
    on : (b : Bool) → (page == number) ≡ b → su.tally.nodes tree page ≡ st.tally.nodes tree page
    on true e =
        absurd (no_branch (st.tally.nodes tree) page n (ap (λ (q : ℕ). st.tally.nodes tree q) (eqb-true page number e) ∙ absent) is)
    on false e = stays page (eqb-false page number e)

-- ---- links of pieces

-- a link is of a level, and that of one of these pieces
abbrev IsHere : ℕ → ℕ → NodePart → List NodePart → Found → Type 0
IsHere level free p ps x = (x.level ≡ level) × IsIn (record { low = p.low; page = free } ∷ links_on (free + 1) ps) (record { low = x.low; page = x.page })

pieces_found : (level free : ℕ) (ps : List NodePart) (l : Found) → IsIn (links_at level (map entry_of (on_pages free (free + 1) ps))) l
    → (l.level ≡ level) × IsIn (links_on free ps) (record { low = l.low; page = l.page })
pieces_found level free [] l there = absurd (none_in l there)
pieces_found level free (p ∷ ps) l there =
    on (pieces_found level (free + 1) ps l) (in_cases (record { level = level; low = p.low; page = free }) (links_at level (map entry_of (on_pages (free + 1) (free + 1 + 1) ps))) l there)
  where
    on : (IsIn (links_at level (map entry_of (on_pages (free + 1) (free + 1 + 1) ps))) l → (l.level ≡ level) × IsIn (links_on (free + 1) ps) (record { low = l.low; page = l.page }))
        → (record { level = level; low = p.low; page = free } ≡ l) ⊎ IsIn (links_at level (map entry_of (on_pages (free + 1) (free + 1 + 1) ps))) l → IsHere level free p ps l
    on again (inl same) = subst (IsHere level free p ps) same (refl, in_first (record { low = p.low; page = free }) (links_on (free + 1) ps))
    on again (inr rest) = let q = again rest in (q.0, in_rest (record { low = p.low; page = free }) (links_on (free + 1) ps) (record { low = l.low; page = l.page }) q.1)

found_both : (chain : ℕ → List Link) (xs ys : List Found) → AreFound chain xs → AreFound chain ys → AreFound chain (xs ++ ys)
found_both chain xs ys a b l there = on (in_either xs ys l there)
  where
    on : IsIn xs l ⊎ IsIn ys l → IsFound chain l
    on (inl x) = a l x
    on (inr y) = b l y

module _ (book : Book) (order : List Entry) (s : CloudState) (stands : StandsUnder book order s) (who : Caller) (own : Home) (mine : List Claim) (now : ℕ) (lease : Claim) (r : Rising) (ids : List ℕ)
    (k : KnowsRising (store_of book order s) now lease r ids) (lasts : Lasts now lease) (none : r.placing.reserved ≡ None) (p : PutsNode (store_of book order s) now lease r)
    (no_last : r.last ≡ None) where
  abbrev st : Store
  st = store_of book order s

  abbrev tree : ℕ
  tree = r.chart.tree

  abbrev risen : Inner
  risen = risen_node p.node.inner p.known

  abbrev front : NodePart
  front = p.placing.front

  abbrev behind : List NodePart
  behind = p.placing.behind

  abbrev Free : List NodePart → List NodePart → Type 0
  Free ps qs = AreReserved inner_node (book.chain tree) (nodes_of s tree) (gone_of s tree) (top_of (roots_of s tree)).next (numbered p.first ps qs)

  reserved : Free p.placing.middle behind
  reserved = subst (λ (o : Option (List ℕ)). ReservesNodes st (Lasts now lease) tree (tree_held r.chart.root) (numbered p.first p.placing.middle behind) o) none p.reserves lasts

  chained : IsChained (book.chain tree) (nodes_of s tree) (roots_of s tree) (st.tally.done tree) (st.tally.cursor tree 0)
  chained = stands.holds.chains tree k.tree

  version : IsVersionOf (book.chain tree p.kept.level) p.kept.level (record { low = p.kept.low; page = p.kept.page }) (Branch p.node.inner)
  version = chained.versions p.kept.level (record { low = p.kept.low; page = p.kept.page }) (Branch p.node.inner) p.node.linked p.node.landed

  is_cut : IsCut entry_key p.first (part_of_node risen) (node_pieces p.first risen)
  is_cut = pieces-are-a-cut entry_key p.first (part_of_node risen)

  -- ---- a new piece

  module _ (middle : List NodePart) (last : NodePart) (is : p.placing.middle ≡ middle ++ last ∷ []) where
    abbrev number : ℕ
    number = p.first + length middle

    abbrev others : List PagePut
    others = reverse (map (put_of node_bytes) (on_pages p.kept.page p.first (front ∷ middle)))

    pub piece_puts : r.placing.puts ≡ record { page = number; bytes = node_bytes last } ∷ others
    piece_puts =
        p.placing.puts_are
        ∙ (ap (λ (m : List NodePart). reverse (map (put_of node_bytes) (on_pages p.kept.page p.first (front ∷ m)))) is
        ∙ puts_more node_bytes p.kept.page p.first front middle last)

    reserved_last : Free (middle ++ last ∷ []) behind
    reserved_last = subst (λ (m : List NodePart). Free m behind) is reserved

    within : number < p.first + length (middle ++ last ∷ [])
    within = let more = length-append middle (last ∷ []) in omega (arith, more)

    in_all : number < p.first + (length (middle ++ last ∷ []) + length behind)
    in_all = let w = within in omega (arith, w)

    pieces : node_pieces p.first risen ≡ front ∷ ((middle ++ last ∷ []) ++ behind)
    pieces = p.placing.pieces_are ∙ ap (λ (m : List NodePart). front ∷ (m ++ behind)) is

    beside : IsIn ((middle ++ last ∷ []) ++ behind) last
    beside = in_front (middle ++ last ∷ []) behind last (in_behind middle (last ∷ []) last (zero, refl))

    there : IsIn (node_pieces p.first risen) last
    there = subst (λ (ps : List NodePart). IsIn ps last) (sym pieces) (in_rest front ((middle ++ last ∷ []) ++ behind) last beside)

    fits : IsNodePart last
    fits = each_in IsNodePart (node_pieces p.first risen) p.fit last there

    is_new : last.version ≡ 1
    is_new =
        (each_in (IsNewPart entry_key) ((middle ++ last ∷ []) ++ behind) (subst (BeginAs entry_key (part_of_node risen)) pieces is_cut.begins).2 last beside).version

    level : last.common ≡ p.node.inner.level
    level = each_in (λ (q : NodePart). q.common ≡ risen.level) (node_pieces p.first risen) is_cut.common last there

    names : NamesBelow (book.chain tree) last.common last.low last.items
    names =
        subst (λ (l : ℕ). NamesBelow (book.chain tree) l last.low last.items) (sym level)
        (record {
          height = let l = version.level_is in let e = l.0 in let some = l.1 in omega (arith, e, some);
          links = each_in (λ (q : NodePart). NamesLinks (book.chain tree (p.node.inner.level - 1)) q.low q.items) (node_pieces p.first risen)
              (risen_names book order s stands now lease tree k.tree p.kept p.node lasts p.known p.found p.first) last there;
        })

    absent : nodes_of s tree number ≡ []
    absent = reserved_last.absent number (omega arith) within

    unlinked : IsUnlinked (book.chain tree) number
    unlinked = reserved_last.unlinked number (omega arith) in_all

    above : 1 < number
    above = reserved_last.above number (omega arith) in_all

    below : number < (top_of (roots_of s tree)).next
    below = let w = reserved_last.within in let i = in_all in omega (arith, w, i)

    abbrev su : Store
    su = piece_after book order s stands tree k.tree number last fits names absent above unlinked below

    abbrev lands : Landing who st (PutHeld (object.Page tree number) (node_bytes last) lease None) su
    lands = piece_lands book order s stands tree k.tree number last fits names absent above unlinked below who lease None

    grows : Grows st su
    grows = (landing_passes who st (PutHeld (object.Page tree number) (node_bytes last) lease None) su stands.holds lands).grows

    page_stays : (q : ℕ) → q ≢ number → su.tally.nodes tree q ≡ nodes_of s tree q
    page_stays q ne = at2_beside tree number (nodes_of s tree number ++ inner_node last ∷ []) (nodes_of s) tree q ne

    keeps : KeepsNodes st su now tree lease
    keeps = beside_fresh st su now tree number lease absent page_stays

    own_page : p.kept.page ≢ number
    own_page = unlinked p.kept.level (record { low = p.kept.low; page = p.kept.page }) p.node.linked

    left_is : (landed r).placing.puts ≡ others
    left_is = ap (λ (o : Option (List ℕ)). puts_after o r.placing.puts) none ∙ ap (λ (l : List PagePut). drop 1 l) piece_puts

    puts_then : PutsNode su now lease (landed r)
    puts_then = record {
      kept = p.kept;
      node = node_stays st su now now lease tree p.kept (omega arith) grows (λ still. page_stays p.kept.page own_page) p.node;
      nodes = nodes_stay st su now now lease tree (drop r.at r.chart.nodes) (omega arith) grows keeps p.nodes;
      apart = p.apart;
      known = p.known;
      found = links_stay st su tree p.known grows p.found;
      first = p.first;
      links_are = p.links_are;
      fit = p.fit;
      placing = record {
        front = front;
        middle = middle;
        behind = last ∷ behind;
        pieces_are = pieces ∙ ap (λ (l : List NodePart). front ∷ l) (append_assoc middle (last ∷ []) behind);
        puts_are = left_is;
      };
      reserves = λ still.
          piece_landed inner_node (book.chain tree) (nodes_of s tree) (su.tally.nodes tree) (gone_of s tree) (top_of (roots_of s tree)).next p.first middle last behind
          (at2_same tree number (nodes_of s tree number ++ inner_node last ∷ []) (nodes_of s) tree number refl refl) page_stays reserved_last;
    }

    leads : put_landed r ≡ Goes (landed r)
    leads =
        goes_on r (has_page r (λ e. some_puts node_bytes p.kept.page p.first front p.placing.middle (sym p.placing.puts_are ∙ e)))
        (λ e. some_puts node_bytes p.kept.page p.first front middle (sym left_is ∙ e))

    then_known : KnowsRising su now lease (landed r) ids
    then_known = record {
      tree = k.tree;
      root = root_behind st su now lease r ids k grows refl none;
      run = run_behind st su now lease r ids k grows refl none;
      puts = subst (λ (o : Option (List ℕ)). PutsOf su now lease (landed r) o) (sym no_last) puts_then;
    }

    pub piece_effect : RisingEffect (footing book order s) who (holder own mine now) (ascent lease r ids) (object.Page tree number) (node_bytes last)
    piece_effect = record {
      after = su;
      lands = lands;
      follows = is_new;
      commits = tt;
      owes = tt;
      heads = refl;
      logged = refl;
      noted = refl;
      known = λ u stands_then told. subst (RisesOn su now lease ids) (sym leads) then_known;
    }

  -- ---- the left piece, on the node's page

  module _ (is : p.placing.middle ≡ []) (held : IsIn mine lease) (lock_is : lease.lock ≡ lock.Tree tree) where
    abbrev sizes : List ℕ
    sizes = cuts_of (length risen.entries)

    abbrev left : Inner
    left = left_inner sizes p.first risen

    abbrev links : List Link
    links = node_links sizes p.first risen

    pub left_puts : r.placing.puts ≡ record { page = p.kept.page; bytes = node_bytes front } ∷ []
    left_puts = p.placing.puts_are ∙ ap (λ (m : List NodePart). reverse (map (put_of node_bytes) (on_pages p.kept.page p.first (front ∷ m)))) is

    pieces_left : node_pieces p.first risen ≡ front ∷ behind
    pieces_left = p.placing.pieces_are ∙ ap (λ (m : List NodePart). front ∷ (m ++ behind)) is

    rest : right_of (node_pieces p.first risen) ≡ behind
    rest = ap right_of pieces_left

    reserved_none : Free [] behind
    reserved_none = subst (λ (m : List NodePart). Free m behind) is reserved

    pieces_landed : HaveLanded inner_node (nodes_of s tree) p.first (right_of (node_parts sizes p.first risen))
    pieces_landed =
        subst (λ (ps : List NodePart). HaveLanded inner_node (nodes_of s tree) p.first ps) (sym rest)
        (let start : p.first + 0 ≡ p.first = omega arith in subst (λ (n : ℕ). HaveLanded inner_node (nodes_of s tree) n behind) start reserved_none.landed)

    new_links : (piece : Link) → IsIn links piece → IsUnlinked (book.chain tree) piece.page
    new_links piece there =
        let q = on_range p.first behind piece (subst (λ (ps : List NodePart). IsIn (links_on p.first ps) piece) rest there) in
        let high = q.1 in
        reserved_none.unlinked piece.page q.0 (omega (arith, high))

    links_there : AreThere st tree links
    links_there piece there =
        let q = on_range p.first behind piece (subst (λ (ps : List NodePart). IsIn (links_on p.first ps) piece) rest there) in
        let high = q.1 in
        reserved_none.there piece.page q.0 (omega (arith, high))

    front_is : node_of_part front ≡ left
    front_is = ap (λ (ps : List NodePart). node_of_part (first_part (part_of_node risen) ps)) (sym pieces_left)

    spelled : IsInner (node_bytes front) left
    spelled =
        subst (IsInner (node_bytes front)) front_is
        (inner_spelled (node_of_part front)
        (each_in IsNodePart (node_pieces p.first risen) p.fit front (subst (λ (ps : List NodePart). IsIn ps front) (sym pieces_left) (in_first front behind))).fits)

    abbrev left_after : Store
    left_after = after_inner tree p.kept.page left links st

    abbrev left_lands : Landing who st (PutHeld (object.Page tree p.kept.page) (node_bytes front) lease None) left_after
    left_lands =
        puts_inner tree p.kept.page left links (node_bytes front) lease None k.tree spelled
        (risen_lands book order s stands now lease tree k.tree p.kept p.node lasts p.known p.found p.first (node_bytes front) spelled pieces_landed new_links) links_there

    left_grows : Grows st left_after
    left_grows = (landing_passes who st (PutHeld (object.Page tree p.kept.page) (node_bytes front) lease None) left_after stands.holds left_lands).grows

    follows : left.version ≡ version_of (newest_node (nodes_of s tree) p.kept.page) + 1
    follows =
        cut_version entry_key (part_of_node risen) sizes p.first (part_of_node risen)
        ∙ ap (λ (n : Node). version_of n + 1) (sym (p.node.newest lasts))

    level_is : p.kept.level ≡ left.level
    level_is = sym (cut_common entry_key (part_of_node risen) sizes p.first (part_of_node risen) ∙ version.level_is.0)

    left_stays : (q : ℕ) → q ≢ p.kept.page → left_after.tally.nodes tree q ≡ nodes_of s tree q
    left_stays q ne = at2_beside tree p.kept.page (nodes_of s tree p.kept.page ++ Branch left ∷ []) (nodes_of s) tree q ne

    -- the new pieces have joined the node's level
    level_then : left_after.book.chain tree p.kept.level ≡ with_pieces p.kept.page links (book.chain tree left.level)
    level_then = at2_same tree left.level (with_pieces p.kept.page links (book.chain tree left.level)) book.chain tree p.kept.level refl level_is

    joined : (a : Link) → IsIn (links_on p.first behind) a → IsIn (left_after.book.chain tree p.kept.level) a
    joined a there =
        subst (λ (ls : List Link). IsIn ls a) (sym level_then)
        (joined_has p.kept.page links (book.chain tree left.level) p.node.linked.0 (record { low = p.kept.low; page = p.kept.page }) a
        (subst (λ (l : ℕ). slice_get (book.chain tree l) p.node.linked.0 ≡ Some (record { low = p.kept.low; page = p.kept.page })) level_is p.node.linked.1) refl
        (subst (λ (ps : List NodePart). IsIn (links_on p.first ps) a) (sym rest) there))

    new_is : piece_links p.kept p.first risen ≡ links_at (p.kept.level + 1) (map entry_of (on_pages p.first (p.first + 1) behind))
    new_is = ap (λ (ps : List NodePart). links_at (p.kept.level + 1) (drop 1 (map entry_of (on_pages p.kept.page p.first ps)))) pieces_left

    new_found : AreFound (left_after.book.chain tree) (piece_links p.kept p.first risen)
    new_found l there =
        let q = pieces_found (p.kept.level + 1) p.first behind l (subst (λ (ls : List Found). IsIn ls l) new_is there) in
        let at = q.0 in
        let same : p.kept.level ≡ l.level - 1 = omega (arith, at) in
        record {
          above = omega (arith, at);
          linked = subst (λ (n : ℕ). IsIn (left_after.book.chain tree n) (record { low = l.low; page = l.page })) same (joined (record { low = l.low; page = l.page }) q.1);
        }

    upward : KnowsUpward left_after now lease (landed r).chart (landed r).at ids
    upward = record {
      tree = k.tree;
      root = root_behind st left_after now lease r ids k left_grows refl none;
      run = run_behind st left_after now lease r ids k left_grows refl none;
      nodes = λ m there. node_stays st left_after now now lease tree m (omega arith) left_grows (λ still. left_stays m.page (p.apart.0 m there)) (p.nodes m there);
      apart = p.apart.1;
      links = subst (AreFound (left_after.book.chain tree)) (sym p.links_are)
          (found_both (left_after.book.chain tree) p.known (piece_links p.kept p.first risen) (links_stay st left_after tree p.known left_grows p.found) new_found);
    }

    left_leads : put_landed r ≡ rise (landed r)
    left_leads =
        goes_up r (has_page r (λ e. some_puts node_bytes p.kept.page p.first front p.placing.middle (sym p.placing.puts_are ∙ e)))
        (ap (λ (o : Option (List ℕ)). puts_after o r.placing.puts) none ∙ ap (λ (l : List PagePut). drop 1 l) left_puts) no_last

    pub left_effect : RisingEffect (footing book order s) who (holder own mine now) (ascent lease r ids) (object.Page tree p.kept.page) (node_bytes front)
    left_effect = record {
      after = left_after;
      lands = left_lands;
      follows = follows;
      commits = tt;
      owes = record { lease = lease; held = held; lock_is = lock_is; lasts = lasts };
      heads = refl;
      logged = refl;
      noted = refl;
      known = λ u stands_then told.
          subst (RisesOn left_after now lease ids) (sym left_leads)
          (subst (λ (x : Store). RisesOn x now lease ids (rise (landed r))) told
          (rise_leads left_after.book left_after.order u stands_then now lease (landed r) ids
          (subst (λ (x : Store). KnowsUpward x now lease (landed r).chart (landed r).at ids) (sym told) upward) no_last));
    }
