-- The put that reserves the numbers of new pieces on the way up, of a node's and of the root's.
use Rattle.std.proofs.Common.{◌≡◌, ◌+◌, ◌-◌, ◌&&◌, inr, ℕ, Bool, true, false, List, [], length, length-append, drop, Option, Some, None, refl, sym, ap, subst, ◌∙◌, arith}
use Rattle.cloud_facts.specs.Calls.Acting.{footing}
use Rattle.cloud_facts.specs.Words.{Entry, Tree, CloudState, Caller, Claim, Lasts, PutHeld, Goes, Book, Store, Branch, nodes_of, roots_of, store_of, StandsUnder}
use Rattle.cloud_facts.specs.Chains.Chain.{IsChained}
use Rattle.cloud_facts.specs.Chains.Cuts.{inner_node}
use Rattle.cloud_facts.specs.Chains.Landing.{MayReserve}
use Rattle.cloud_facts.specs.Chains.Links.{top_of}
use Rattle.cloud_facts.proofs.Calls.Passing.{landing_passes}
use Rattle.db_base.specs.declared.names.ObjName.TheVariants as object
use Rattle.cloud_facts.specs.Homes.Homes.{Part as Home}
use Rattle.cloud_facts.specs.Landings.Landing.{Landing}
use Rattle.node_codec.specs.Inner.{node_of_root}
use Rattle.session_facts.specs.Machines.Runs.Knows.{TookRun}
use Rattle.session_facts.proofs.Machines.Runs.Marks.{run_stays}
use Rattle.split_plan.specs.Part.{NodePart, entry_key, part_of_node}
use Rattle.split_plan.specs.Plan.{node_bytes}
use Rattle.cloud_facts.specs.Book.Effects.{after_root}
use Rattle.cloud_facts.specs.Book.Growth.{Grows}
use Rattle.tree_phases.specs.Placing.{root_after, puts_after, has_nothing}
use Rattle.tree_phases.specs.Read.{tree_held}
use Rattle.tree_phases.specs.declared.rising.Rising.{Rising}
use Rattle.tree_phases.specs.Nodes.{with_links}
use Rattle.tree_phases.specs.Rising.{landed, put_landed}
use Rattle.session_facts.specs.Machines.Trees.Charts.{KnowsRoot}
use Rattle.session_facts.specs.Machines.Trees.Placings.{AreReserved, IsReservation, reserving, numbered}
use Rattle.session_facts.specs.Machines.Risings.Knows.{IsLastVersion, AppliesRun, ReservesNodes, PutsNode, IsRaised, PutsCut, cut, PutsOf, risen_node, KnowsRising, RisesOn, Succeeds}
use Rattle.session_facts.proofs.Machines.TreeCheckpoints.EntryCounts.{few_entries, few_known, pieces_more}
use Rattle.session_facts.proofs.Machines.Trees.Others.{nodes_stay}
use Rattle.session_facts.proofs.Machines.Folds.Others.{done_stays}
use Rattle.session_facts.proofs.Machines.Trees.Reserves.{reservation_landing, reservation_held, reserved_then, root_known}
use Rattle.session_facts.proofs.Machines.Risings.Grounds.{top_most}
use Rattle.session_facts.proofs.Machines.Risings.Places.{parts_count}
use Rattle.session_facts.proofs.Machines.Risings.Effects.{holder, ascent, RisingEffect, has_reservation, goes_on, goes_last, some_puts, some_left, never_both, no_puts}
use Rattle.session_facts.proofs.Machines.Risings.Others.{node_stays}

module _ (book : Book) (order : List Entry) (s : CloudState) (stands : StandsUnder book order s) (who : Caller) (own : Home) (mine : List Claim) (now : ℕ) (lease : Claim) (r : Rising) (ids : List ℕ)
    (k : KnowsRising (store_of book order s) now lease r ids) (newest : top_of (roots_of s r.chart.tree) ≡ tree_held r.chart.root) (bytes : List ℕ) (some : r.placing.reserved ≡ Some bytes) where
  abbrev st : Store
  st = store_of book order s

  abbrev tree : ℕ
  tree = r.chart.tree

  abbrev root : Tree
  root = tree_held r.chart.root

  chained : IsChained (book.chain tree) (nodes_of s tree) (roots_of s tree) (st.tally.done tree) (st.tally.cursor tree 0)
  chained = stands.holds.chains tree k.tree

  module _ (count first : ℕ) (is : IsReservation root count first bytes) (may : MayReserve st tree count) where
    abbrev new : Tree
    new = reserving count root

    abbrev su : Store
    su = after_root tree new st

    abbrev lands : Landing who st (PutHeld (object.Tree tree) bytes lease None) su
    lands = reservation_landing book order s stands tree k.tree who lease None root newest count first bytes is may

    grows : Grows st su
    grows = (landing_passes who st (PutHeld (object.Tree tree) bytes lease None) su stands.holds lands).grows

    held : tree_held (landed r).chart.root ≡ new
    held =
        ap (λ (o : Option (List ℕ)). tree_held (root_after o r.chart.root)) some
        ∙ reservation_held book order s stands tree k.tree who lease None root newest count first bytes is

    root_then : KnowsRoot su now lease tree (tree_held (landed r).chart.root)
    root_then = subst (KnowsRoot su now lease tree) (sym held) (root_known book order s stands tree k.tree now lease new is.fits)

    run_then : AppliesRun su (landed r).chart ids
    run_then = record {
      took = subst (λ (t : Tree). TookRun su tree 0 t.cursor r.chart.run ids) (sym held) (run_stays st su tree 0 root.cursor r.chart.run ids grows k.run.took);
      done = λ x there. done_stays st su tree x grows (k.run.took.clients x there) (k.run.done x there);
    }

    left_is : (landed r).placing.puts ≡ r.placing.puts
    left_is = ap (λ (o : Option (List ℕ)). puts_after o r.placing.puts) some

    raised_then : (t : Tree) → IsRaised (st.book.chain tree) root r.chart.run.top t → IsRaised (su.book.chain tree) (tree_held (landed r).chart.root) r.chart.run.top t
    raised_then t x = subst (λ (q : Tree). IsRaised (book.chain tree) q r.chart.run.top t) (sym held) (record { level = x.level; cursor = x.cursor; names = x.names; ascends = x.ascends })

    free : (middle : List NodePart) → length middle ≡ count
        → AreReserved inner_node (su.book.chain tree) (su.tally.nodes tree) (su.tally.gone tree) (top_of (su.tally.roots tree)).next (numbered first middle [])
    free middle many = reserved_then book order s stands tree k.tree who lease None root newest count first bytes is inner_node middle many

    node_then : (p : PutsNode st now lease r) → (p.placing.behind ≡ []) → length p.placing.middle ≡ count → p.first ≡ first → PutsNode su now lease (landed r)
    node_then p none many at = record {
      kept = p.kept;
      node = node_stays st su now now lease tree p.kept (omega arith) grows (λ lasts. refl) p.node;
      nodes = nodes_stay st su now now lease tree (drop r.at r.chart.nodes) (omega arith) grows (λ lasts page n e. refl) p.nodes;
      apart = p.apart;
      known = p.known;
      found = p.found;
      first = p.first;
      links_are = p.links_are;
      fit = p.fit;
      placing = record {
        front = p.placing.front;
        middle = p.placing.middle;
        behind = p.placing.behind;
        pieces_are = p.placing.pieces_are;
        puts_are = left_is ∙ p.placing.puts_are;
      };
      reserves = λ still.
          subst (λ (b : List NodePart). AreReserved inner_node (su.book.chain tree) (su.tally.nodes tree) (su.tally.gone tree) (top_of (su.tally.roots tree)).next (numbered p.first p.placing.middle b)) (sym none)
          (subst (λ (n : ℕ). AreReserved inner_node (su.book.chain tree) (su.tally.nodes tree) (su.tally.gone tree) (top_of (su.tally.roots tree)).next (numbered n p.placing.middle [])) (sym at) (free p.placing.middle many));
    }

    cut_then : (last : List ℕ) (p : PutsCut st now lease r last) → (p.behind ≡ []) → length p.middle ≡ count → p.first ≡ first → (r.is_spent ≡ false → p.root.version ≡ root.version + 1 + 1) → p.root.next ≡ root.next + count
        → PutsCut su now lease (landed r) last
    cut_then last p none many at version next = record {
      root = p.root;
      raises = raised_then p.root p.raises;
      first = p.first;
      fits = p.fits;
      bytes_are = p.bytes_are;
      middle = p.middle;
      behind = p.behind;
      pieces_are = p.pieces_are;
      puts_are = left_is ∙ p.puts_are;
      fit = p.fit;
      left = p.left;
      spent = λ e. ap (λ (t : Tree). t.version) held ∙ subst (IsLastVersion root) some (p.spent e);
      succeeds = (λ whole. version whole ∙ ap (λ (t : Tree). t.version + 1) (sym held), next ∙ ap (λ (t : Tree). t.next) (sym held));
      reserves = λ still.
          subst (λ (b : List NodePart). AreReserved inner_node (su.book.chain tree) (su.tally.nodes tree) (su.tally.gone tree) (top_of (su.tally.roots tree)).next (numbered p.first p.middle b)) (sym none)
          (subst (λ (n : ℕ). AreReserved inner_node (su.book.chain tree) (su.tally.nodes tree) (su.tally.gone tree) (top_of (su.tally.roots tree)).next (numbered n p.middle [])) (sym at) (free p.middle many));
    }

    known : PutsOf su now lease (landed r) r.last → KnowsRising su now lease (landed r) ids
    known puts = record { tree = k.tree; root = root_then; run = run_then; puts = puts }

    effect : RisesOn su now lease ids (put_landed r) → RisingEffect (footing book order s) who (holder own mine now) (ascent lease r ids) (object.Tree tree) bytes
    effect leads = record {
      after = su;
      lands = lands;
      follows = ap (λ (t : Tree). t.version + 1) (sym newest);
      commits = tt;
      owes = tt;
      heads = refl;
      logged = refl;
      noted = refl;
      known = λ u stands_then told. leads;
    }

  -- ---- of a node, and of the root

  pub node_reserves : (p : PutsNode st now lease r) → r.last ≡ None → RisingEffect (footing book order s) who (holder own mine now) (ascent lease r ids) (object.Tree tree) bytes
  node_reserves p none = effect (length p.placing.middle) p.first planned.1 may (subst (RisesOn after now lease ids) (sym leads) then_known)
    where
      planned : (p.placing.behind ≡ []) × IsReservation root (length p.placing.middle) p.first bytes
      planned = subst (λ (o : Option (List ℕ)). ReservesNodes st (Lasts now lease) tree root (numbered p.first p.placing.middle p.placing.behind) o) some p.reserves

      -- the entries of its pieces are links of the level below
      may : MayReserve st tree (length p.placing.middle)
      may =
          let inner = p.node.inner in
          let pieces = ap length p.placing.pieces_are in
          let all = parts_count entry_key p.first (part_of_node (risen_node inner p.known)) in
          let others = length-append p.placing.middle p.placing.behind in
          let few = few_known (book.chain tree) (nodes_of s tree) (roots_of s tree) (st.tally.done tree) (st.tally.cursor tree 0) chained (top_most book order s stands tree k.tree) inner p.known p.node.spells.fits
          (chained.entries.of_nodes p.kept.page (Branch inner) p.node.landed) p.found in
          let more = pieces_more (length (with_links inner p.known inner.entries)) (length (book.chain tree (inner.level - 1))) few in
          inr (inner.level - 1, omega (arith, pieces, all, others, more))

      after : Store
      after = after_root tree (reserving (length p.placing.middle) root) st

      leads : put_landed r ≡ Goes (landed r)
      leads =
          goes_on r (has_reservation r bytes some)
          (λ e. some_puts node_bytes p.kept.page p.first p.placing.front p.placing.middle
          (sym p.placing.puts_are ∙ (sym (left_is (length p.placing.middle) p.first planned.1 may) ∙ e)))

      then_known : KnowsRising after now lease (landed r) ids
      then_known =
          known (length p.placing.middle) p.first planned.1 may
          (subst (λ (o : Option (List ℕ)). PutsOf after now lease (landed r) o) (sym none) (node_then (length p.placing.middle) p.first planned.1 may p planned.0 refl refl))

  pub root_reserves : (last : List ℕ) (p : PutsCut st now lease r last) → r.last ≡ Some last → RisingEffect (footing book order s) who (holder own mine now) (ascent lease r ids) (object.Tree tree) bytes
  root_reserves last p is_last = effect (length p.middle) p.first planned.1 may (subst (RisesOn after now lease ids) (sym leads) then_known)
    where
      planned : (p.behind ≡ []) × IsReservation root (length p.middle) p.first bytes × (r.is_spent ≡ false → p.root.version ≡ root.version + 1 + 1) × (p.root.next ≡ root.next + length p.middle)
      planned =
          let own = subst (ReservesNodes st (Lasts now lease) tree root (numbered p.first p.middle p.behind)) some p.reserves in
          let next = subst (Succeeds r.is_spent root p.root (length p.middle)) some p.succeeds in (own.0, own.1, next.0, next.1)

      may : MayReserve st tree (length p.middle)
      may =
          let pieces = ap length p.pieces_are in
          let all = parts_count entry_key (p.first + 1) (part_of_node (node_of_root p.root)) in
          let others = length-append p.middle p.behind in
          let few = few_entries (book.chain tree (p.root.level - 1)) p.root.entries p.raises.ascends p.raises.names.links.names in
          let more = pieces_more (length p.root.entries) (length (book.chain tree (p.root.level - 1))) few in
          inr (p.root.level - 1, omega (arith, pieces, all, others, more))

      after : Store
      after = after_root tree (reserving (length p.middle) root) st

      leads : put_landed r ≡ Goes (landed r)
      leads = goes_last r last (has_reservation r bytes some) is_last (on r.is_spent refl)
        where
          pages : r.is_spent ≡ true → (landed r).placing.puts ≡ [] → ⊥
          pages spent e =
              no_puts node_bytes p.first (p.first + 1) p.middle (p.left spent) (sym p.puts_are ∙ (sym (left_is (length p.middle) p.first planned.1 may) ∙ e))

          on : (b : Bool) → r.is_spent ≡ b → (has_nothing (landed r).placing && r.is_spent) ≡ false
          on true e = ap (λ (c : Bool). c && r.is_spent) (some_left (landed r).placing.puts (pages e))
          on false e = never_both (has_nothing (landed r).placing) r.is_spent e

      then_known : KnowsRising after now lease (landed r) ids
      then_known =
          known (length p.middle) p.first planned.1 may
          (subst (λ (o : Option (List ℕ)). PutsOf after now lease (landed r) o) (sym is_last)
          (cut (cut_then (length p.middle) p.first planned.1 may last p planned.0 refl refl planned.2 planned.3)))
