-- The last puts of the way up: the pieces of a root that is cut, and the root itself.
use Rattle.std.proofs.Common.{◌≡◌, ◌≢◌, ◌+◌, ◌-◌, ◌<◌, ◌≤◌, ◌==◌, ◌&&◌, ℕ, zero, suc, Bool, true, false, List, [], ◌∷◌, ◌++◌, length, map, reverse, drop, Option, Some, None, refl, sym, ap, subst, ◌∙◌, arith, append_assoc, length-append}
use Rattle.std.specs.List.{AllByRecursion}
use Rattle.cloud_facts.specs.Calls.Acting.{footing}
use Rattle.cloud_facts.specs.Chains.Chain.{IsUnlinked}
use Rattle.cloud_facts.specs.Chains.Cuts.{links_on, HaveLanded, inner_node}
use Rattle.cloud_facts.specs.Chains.Links.{top_of, NamesLinks, NamesBelow}
use Rattle.cloud_facts.specs.Words.{Entry, Tree, CloudState, Caller, Claim, Lasts, PutHeld, Book, Link, Store, IsIn, nodes_of, roots_of, store_of, StandsUnder}
use Rattle.cloud_facts.proofs.Calls.Passing.{landing_passes}
use Rattle.db_base.specs.declared.names.Lock.TheVariants as lock
use Rattle.db_base.specs.declared.names.ObjName.TheVariants as object
use Rattle.cloud_facts.specs.Homes.Homes.{Part as Home}
use Rattle.cloud_facts.specs.Landings.Landing.{Landing}
use Rattle.node_codec.specs.Inner.{node_of_root}
use Rattle.node_codec.specs.Tree.{IsTree as SpellsTree}
use Rattle.session_facts.proofs.Machines.Runs.Received.{each_in}
use Rattle.split_plan.proofs.Counting.{can-cuts}
use Rattle.split_plan.proofs.Cutting.{pieces-are-a-cut}
use Rattle.split_plan.specs.declared.put_list.PagePut.{PagePut}
use Rattle.split_plan.specs.Cut.{IsNewPart, BeginAs, IsCut}
use Rattle.split_plan.specs.Part.{NodePart, part_of_node, entry_key}
use Rattle.split_plan.specs.Plan.{IsNodePart, put_of, on_pages, node_bytes, root_pieces, root_above}
use Rattle.split_plan.specs.Sizes.{cuts_of}
use Rattle.cloud_facts.specs.Book.Effects.{after_root, after_raise}
use Rattle.cloud_facts.specs.Book.Growth.{Grows}
use Rattle.cloud_facts.specs.Book.Premises.{AreThere}
use Rattle.cloud_facts.specs.Book.Telling.{gone_of}
use Rattle.cloud_facts.proofs.Book.Places.{in_front, in_behind}
use Rattle.cloud_facts.proofs.Tellings.Names.{at2_same, at2_beside}
use Rattle.tree_phases.specs.Placing.{puts_after, has_nothing}
use Rattle.tree_phases.specs.Read.{tree_held}
use Rattle.tree_phases.specs.declared.rising.Rising.{Rising}
use Rattle.tree_phases.specs.Rising.{landed, put_landed}
use Rattle.tree_phases.specs.Root.{new_pages}
use Rattle.session_facts.specs.Machines.Trees.Placings.{AreReserved, numbered}
use Rattle.session_facts.specs.Machines.Risings.Knows.{IsLastVersion, IsRaised, PutsWhole, PutsCut, cut, PutsOf, KnowsRising, RisesOn, Succeeds, ReservesNodes}
use Rattle.session_facts.proofs.Machines.Risings.LastRoot.{last_landing, raise_landing, may_delete}
use Rattle.session_facts.proofs.Machines.Risings.Pieces.{pieces_name}
use Rattle.session_facts.proofs.Machines.Trees.Placings.{puts_more, on_range, piece_landed}
use Rattle.session_facts.proofs.Machines.Trees.Reserves.{spelled_root}
use Rattle.session_facts.proofs.Machines.Risings.Effects.{holder, ascent, RisingEffect, goes_last, ends_now, has_page, piece_after, piece_lands, stops_last}
use Rattle.session_facts.proofs.Machines.Risings.Others.{raised_stays}
use Rattle.session_facts.proofs.Machines.Risings.Puts.{root_is, root_behind, run_behind}

-- ---- pieces that are all new

-- the rightmost is put first
pub new_puts : (bytes : NodePart → List ℕ) (first : ℕ) (middle : List NodePart) (last : NodePart)
    → reverse (map (put_of bytes) (on_pages first (first + 1) (middle ++ last ∷ [])))
    ≡ record { page = first + length middle; bytes = bytes last } ∷ reverse (map (put_of bytes) (on_pages first (first + 1) middle))
new_puts bytes first [] last =
    let n : first ≡ first + 0 = omega arith in
    ap (λ (m : ℕ). let p : PagePut = record { page = m; bytes = bytes last } in p ∷ []) n
new_puts bytes first (f ∷ middle) last =
    let n : first + 1 + length middle ≡ first + length (f ∷ middle) = omega arith in
    puts_more bytes first (first + 1) f middle last
    ∙ ap (λ (m : ℕ). let p : PagePut = record { page = m; bytes = bytes last } in p ∷ reverse (map (put_of bytes) (on_pages first (first + 1) (f ∷ middle)))) n

-- each is of version 1
new_version : (whole : NodePart) (ps : List NodePart) → BeginAs entry_key whole ps → whole.version ≡ 1 → (p : NodePart) → IsIn ps p → p.version ≡ 1
new_version whole [] begins one p there = absurd begins
new_version whole (q ∷ ps) begins one p (zero, there) = let same : q ≡ p = cc in ap (λ (x : NodePart). x.version) (sym same) ∙ (begins.0 ∙ one)
new_version whole (q ∷ ps) begins one p (suc place, there) = (each_in (IsNewPart entry_key) ps begins.2 p (place, there)).version

module _ (book : Book) (order : List Entry) (s : CloudState) (stands : StandsUnder book order s) (who : Caller) (own : Home) (mine : List Claim) (now : ℕ) (lease : Claim) (r : Rising) (ids : List ℕ)
    (k : KnowsRising (store_of book order s) now lease r ids) (lasts : Lasts now lease) (none : r.placing.reserved ≡ None) (bytes : List ℕ) (is_last : r.last ≡ Some bytes) where
  abbrev st : Store
  st = store_of book order s

  abbrev tree : ℕ
  tree = r.chart.tree

  abbrev root : Tree
  root = tree_held r.chart.root

  newest : top_of (roots_of s tree) ≡ root
  newest = k.root.newest lasts

  -- ---- a root that is put whole

  pub whole_effect : (p : PutsWhole st r bytes) → RisingEffect (footing book order s) who (holder own mine now) (ascent lease r ids) (object.Tree tree) bytes
  whole_effect p = record {
    after = after_root tree p.root st;
    lands = last_landing book order s stands tree k.tree root newest r.chart.run.top p.root p.raises p.next k.run.took.received r.chart.run.items
        k.run.took.is_run k.run.took.items k.run.done who bytes lease None (subst (λ (b : List ℕ). SpellsTree b p.root) (sym p.bytes_are) (spelled_root p.root p.fits));
    follows = p.version ∙ ap (λ (t : Tree). t.version + 1) (sym newest);
    commits = tt;
    owes = tt;
    heads = refl;
    logged = refl;
    noted = refl;
    known = λ u stands_then told.
        subst (RisesOn (after_root tree p.root st) now lease ids) (sym (ends_now r none p.no_page))
        (may_delete book order s stands tree k.tree root newest r.chart.run.top p.root p.raises p.next k.run.took.received r.chart.run.items
        k.run.took.is_run k.run.took.items k.run.done p.root refl ids k.run.took.covers);
  }

  -- ---- a root that is cut

  module _ (p : PutsCut st now lease r bytes) where
    abbrev Free : List NodePart → List NodePart → Type 0
    Free ps qs = AreReserved inner_node (book.chain tree) (nodes_of s tree) (gone_of s tree) (top_of (roots_of s tree)).next (numbered p.first ps qs)

    planned : (r.is_spent ≡ false → p.root.version ≡ root.version + 1) × (p.root.next ≡ root.next) × (Lasts now lease → Free p.middle p.behind)
    planned =
        let next = subst (Succeeds r.is_spent root p.root (length p.middle)) none p.succeeds in
        (next.0, next.1, subst (ReservesNodes st (Lasts now lease) tree root (numbered p.first p.middle p.behind)) none p.reserves)

    abbrev node : NodePart
    node = part_of_node (node_of_root p.root)

    is_cut : IsCut entry_key (p.first + 1) node (root_pieces p.first p.root)
    is_cut = pieces-are-a-cut entry_key (p.first + 1) node

    named : AllByRecursion (λ (q : NodePart). NamesLinks (book.chain tree (p.root.level - 1)) q.low q.items) (root_pieces p.first p.root)
    named = pieces_name (book.chain tree (p.root.level - 1)) (cuts_of (length p.root.entries)) _ (p.first + 1) node (can-cuts (length p.root.entries)) p.raises.names.links

    -- ---- a piece

    module _ (middle : List NodePart) (last : NodePart) (is : p.middle ≡ middle ++ last ∷ []) where
      abbrev number : ℕ
      number = p.first + length middle

      abbrev others : List PagePut
      others = reverse (map (put_of node_bytes) (on_pages p.first (p.first + 1) middle))

      pub cut_puts : r.placing.puts ≡ record { page = number; bytes = node_bytes last } ∷ others
      cut_puts =
          p.puts_are
          ∙ (ap (λ (m : List NodePart). reverse (map (put_of node_bytes) (on_pages p.first (p.first + 1) m))) is ∙ new_puts node_bytes p.first middle last)

      reserved_last : Free (middle ++ last ∷ []) p.behind
      reserved_last = subst (λ (m : List NodePart). Free m p.behind) is (planned.2 lasts)

      within : number < p.first + length (middle ++ last ∷ [])
      within = let more = length-append middle (last ∷ []) in omega (arith, more)

      in_all : number < p.first + (length (middle ++ last ∷ []) + length p.behind)
      in_all = let w = within in omega (arith, w)

      pieces : root_pieces p.first p.root ≡ (middle ++ last ∷ []) ++ p.behind
      pieces = p.pieces_are ∙ ap (λ (m : List NodePart). m ++ p.behind) is

      there : IsIn (root_pieces p.first p.root) last
      there = subst (λ (ps : List NodePart). IsIn ps last) (sym pieces) (in_front (middle ++ last ∷ []) p.behind last (in_behind middle (last ∷ []) last (zero, refl)))

      fits : IsNodePart last
      fits = each_in IsNodePart (root_pieces p.first p.root) p.fit last there

      is_new : last.version ≡ 1
      is_new = new_version node (root_pieces p.first p.root) is_cut.begins refl last there

      level : last.common ≡ p.root.level
      level = each_in (λ (q : NodePart). q.common ≡ p.root.level) (root_pieces p.first p.root) is_cut.common last there

      names : NamesBelow (book.chain tree) last.common last.low last.items
      names =
          subst (λ (l : ℕ). NamesBelow (book.chain tree) l last.low last.items) (sym level)
          (record {
            height = p.raises.names.height;
            links = each_in (λ (q : NodePart). NamesLinks (book.chain tree (p.root.level - 1)) q.low q.items) (root_pieces p.first p.root) named last there;
          })

      absent : nodes_of s tree number ≡ []
      absent = reserved_last.absent number (omega arith) within

      unlinked : IsUnlinked (book.chain tree) number
      unlinked = reserved_last.unlinked number (omega arith) in_all

      above : 1 < number
      above = reserved_last.above number (omega arith) in_all

      below : number < (top_of (roots_of s tree)).next
      below = let w = reserved_last.within in let i = in_all in omega (arith, w, i)

      abbrev su : Store
      su = piece_after book order s stands tree k.tree number last fits names absent above unlinked below

      abbrev lands : Landing who st (PutHeld (object.Page tree number) (node_bytes last) lease None) su
      lands = piece_lands book order s stands tree k.tree number last fits names absent above unlinked below who lease None

      grows : Grows st su
      grows = (landing_passes who st (PutHeld (object.Page tree number) (node_bytes last) lease None) su stands.holds lands).grows

      page_stays : (q : ℕ) → q ≢ number → su.tally.nodes tree q ≡ nodes_of s tree q
      page_stays q ne = at2_beside tree number (nodes_of s tree number ++ inner_node last ∷ []) (nodes_of s) tree q ne

      same_root : tree_held (landed r).chart.root ≡ root
      same_root = ap (λ (o : Option (List ℕ)). tree_held o) (root_is st su now lease r ids k grows refl none)

      puts_then : (r.is_spent ≡ true → 1 ≤ length middle) → PutsCut su now lease (landed r) bytes
      puts_then left = record {
        root = p.root;
        raises = subst (λ (t : Tree). IsRaised (su.book.chain tree) t r.chart.run.top p.root) (sym same_root) (raised_stays st su tree root r.chart.run.top p.root grows p.raises);
        first = p.first;
        fits = p.fits;
        bytes_are = p.bytes_are;
        middle = middle;
        behind = last ∷ p.behind;
        pieces_are = pieces ∙ append_assoc middle (last ∷ []) p.behind;
        puts_are = ap (λ (o : Option (List ℕ)). puts_after o r.placing.puts) none ∙ ap (λ (l : List PagePut). drop 1 l) cut_puts;
        fit = p.fit;
        left = left;
        spent = λ e. ap (λ (t : Tree). t.version) same_root ∙ subst (IsLastVersion root) none (p.spent e);
        succeeds = (λ whole. planned.0 whole ∙ ap (λ (t : Tree). t.version + 1) (sym same_root), planned.1 ∙ ap (λ (t : Tree). t.next) (sym same_root));
        reserves = λ still.
            piece_landed inner_node (book.chain tree) (nodes_of s tree) (su.tally.nodes tree) (gone_of s tree) (top_of (roots_of s tree)).next p.first middle last p.behind
            (at2_same tree number (nodes_of s tree number ++ inner_node last ∷ []) (nodes_of s) tree number refl refl) page_stays reserved_last;
      }

      full : has_nothing r.placing ≡ false
      full = has_page r (λ e. never (sym cut_puts ∙ e))
        where
          never : record { page = number; bytes = node_bytes last } ∷ others ≡ [] → ⊥
          never e = cc

      then_known : (r.is_spent ≡ true → 1 ≤ length middle) → KnowsRising su now lease (landed r) ids
      then_known left = record {
        tree = k.tree;
        root = root_behind st su now lease r ids k grows refl none;
        run = run_behind st su now lease r ids k grows refl none;
        puts = subst (λ (o : Option (List ℕ)). PutsOf su now lease (landed r) o) (sym is_last) (cut (puts_then left));
      }

      -- where the last version is reserved and a piece is left, one is to be put
      piece_left : (has_nothing (landed r).placing && r.is_spent) ≡ false → r.is_spent ≡ true → 1 ≤ length middle
      piece_left more spent = on middle (ap (λ (o : Option (List ℕ)). puts_after o r.placing.puts) none ∙ ap (λ (l : List PagePut). drop 1 l) cut_puts)
        where
          on : (ms : List NodePart) → (landed r).placing.puts ≡ reverse (map (put_of node_bytes) (on_pages p.first (p.first + 1) ms)) → 1 ≤ length ms
          on (m ∷ ms) e = omega arith
          on [] e =
              let empty : has_nothing (landed r).placing ≡ true = ap (λ (l : List PagePut). length l == 0) e in
              absurd (let both : true ≡ false = sym (ap (λ (b : Bool). b && r.is_spent) empty ∙ spent) ∙ more in cc (both))

      -- it goes on, or no version is left behind the last piece
      then_leads : (b : Bool) → (has_nothing (landed r).placing && r.is_spent) ≡ b → RisesOn su now lease ids (put_landed r)
      then_leads false more = subst (RisesOn su now lease ids) (sym (goes_last r bytes full is_last more)) (then_known (piece_left more))
      then_leads true end = subst (RisesOn su now lease ids) (sym (stops_last r bytes full is_last end)) tt

      pub cut_piece_effect : RisingEffect (footing book order s) who (holder own mine now) (ascent lease r ids) (object.Page tree number) (node_bytes last)
      cut_piece_effect = record {
        after = su;
        lands = lands;
        follows = is_new;
        commits = tt;
        owes = tt;
        heads = refl;
        logged = refl;
        noted = refl;
        known = λ u stands_then told. then_leads (has_nothing (landed r).placing && r.is_spent) refl;
      }

    -- ---- the root above them

    module _ (is : p.middle ≡ []) (held : IsIn mine lease) (lock_is : lease.lock ≡ lock.Tree tree) where
      abbrev above_root : Tree
      above_root = root_above (new_pages p.first p.root) p.root

      pub no_page : r.placing.puts ≡ []
      no_page = p.puts_are ∙ ap (λ (m : List NodePart). reverse (map (put_of node_bytes) (on_pages p.first (p.first + 1) m))) is

      all_pieces : root_pieces p.first p.root ≡ p.behind
      all_pieces = p.pieces_are ∙ ap (λ (m : List NodePart). m ++ p.behind) is

      reserved_none : Free [] p.behind
      reserved_none = subst (λ (m : List NodePart). Free m p.behind) is (planned.2 lasts)

      pieces_landed : HaveLanded inner_node (nodes_of s tree) p.first (root_pieces p.first p.root)
      pieces_landed =
          subst (λ (ps : List NodePart). HaveLanded inner_node (nodes_of s tree) p.first ps) (sym all_pieces)
          (let start : p.first + 0 ≡ p.first = omega arith in subst (λ (n : ℕ). HaveLanded inner_node (nodes_of s tree) n p.behind) start reserved_none.landed)

      abbrev links : List Link
      links = links_on p.first (root_pieces p.first p.root)

      new_links : (piece : Link) → IsIn links piece → IsUnlinked (book.chain tree) piece.page
      new_links piece at =
          let q = on_range p.first p.behind piece (subst (λ (ps : List NodePart). IsIn (links_on p.first ps) piece) all_pieces at) in
          let high = q.1 in
          reserved_none.unlinked piece.page q.0 (omega (arith, high))

      links_there : AreThere st tree links
      links_there piece at =
          let q = on_range p.first p.behind piece (subst (λ (ps : List NodePart). IsIn (links_on p.first ps) piece) all_pieces at) in
          let high = q.1 in
          reserved_none.there piece.page q.0 (omega (arith, high))

      -- it is put, since no piece is left
      put_whole : r.is_spent ≡ false
      put_whole = on r.is_spent refl
        where
          on : (b : Bool) → r.is_spent ≡ b → r.is_spent ≡ false
          on false e = e
          on true e = let some = p.left e in let n = ap length is in absurd (omega (arith, some, n))

      pub above_effect : RisingEffect (footing book order s) who (holder own mine now) (ascent lease r ids) (object.Tree tree) bytes
      above_effect = record {
        after = after_raise tree above_root p.root.level links st;
        lands = raise_landing book order s stands tree k.tree root newest r.chart.run.top p.root p.raises planned.1 k.run.took.received r.chart.run.items k.run.took.is_run k.run.took.items
            k.run.done who bytes lease None p.first pieces_landed new_links links_there (subst (λ (b : List ℕ). SpellsTree b above_root) (sym p.bytes_are) (spelled_root above_root p.fits));
        follows = planned.0 put_whole ∙ ap (λ (t : Tree). t.version + 1) (sym newest);
        commits = tt;
        owes = record { lease = lease; held = held; lock_is = lock_is; lasts = lasts };
        heads = refl;
        logged = refl;
        noted = refl;
        known = λ u stands_then told.
            subst (RisesOn (after_raise tree above_root p.root.level links st) now lease ids) (sym (ends_now r none no_page))
            (may_delete book order s stands tree k.tree root newest r.chart.run.top p.root p.raises planned.1 k.run.took.received r.chart.run.items k.run.took.is_run k.run.took.items k.run.done
            above_root refl ids k.run.took.covers);
      }
