-- The put that reserves the numbers of a leaf's new pieces: what it rests on, and what is known behind it.
use Rattle.std.proofs.Common.{◌≡◌, ◌+◌, ◌≤◌, inl, ℕ, List, [], length, length-append, Option, Some, None, refl, sym, ap, subst, ◌∙◌, arith}
use Rattle.cloud_facts.specs.Chains.Landing.{MayReserve}
use Rattle.cloud_facts.specs.Chains.Cuts.{leaf_node}
use Rattle.cloud_facts.specs.Chains.Links.{top_of}
use Rattle.cloud_facts.specs.Words.{IsTree, Entry, PuItem, Tree, CloudState, Caller, Claim, Lasts, PutHeld, Book, Store, roots_of, store_of, StandsUnder}
use Rattle.db_base.specs.declared.names.ObjName.TheVariants as object
use Rattle.cloud_facts.specs.Landings.Landing.{Landing}
use Rattle.leaf_edit.specs.Applied.{applied}
use Rattle.tree_phases.specs.declared.folding.Folding.{Folding}
use Rattle.tree_phases.specs.Folding.{landed}
use Rattle.split_plan.specs.Part.{LeafPart}
use Rattle.cloud_facts.specs.Book.Effects.{after_root}
use Rattle.tree_phases.specs.Placing.{root_after, puts_after}
use Rattle.tree_phases.specs.Read.{tree_held}
use Rattle.session_facts.specs.Machines.Trees.Charts.{KnowsRoot}
use Rattle.session_facts.specs.Machines.Folds.Knows.{Reserves, PutsPieces}
use Rattle.session_facts.specs.Machines.Trees.Placings.{AreReserved, IsReservation, reserving, numbered}
use Rattle.session_facts.proofs.Machines.TreeCheckpoints.EntryCounts.{pieces_more}
use Rattle.tree_ckpt.proofs.RunLengths.{applied_records}
use Rattle.session_facts.proofs.Machines.Folds.Cuts.{pieces_count}
use Rattle.session_facts.proofs.Machines.Trees.Reserves.{reservation_landing, reservation_held, reserved_then, root_known}

module _ (book : Book) (order : List Entry) (s : CloudState) (stands : StandsUnder book order s) (now : ℕ) (lease : Claim) (f : Folding) (of_tree : IsTree f.chart.tree) (run : List PuItem)
    (k : PutsPieces (store_of book order s) now lease f run) (newest : top_of (roots_of s f.chart.tree) ≡ tree_held f.chart.root) (bytes : List ℕ) (some : f.placing.reserved ≡ Some bytes) where
  abbrev st : Store
  st = store_of book order s

  abbrev tree : ℕ
  tree = f.chart.tree

  abbrev root : Tree
  root = tree_held f.chart.root

  abbrev count : ℕ
  count = length k.placing.middle

  pub planned : (k.placing.behind ≡ []) × IsReservation root count k.first bytes
  planned = subst (λ (o : Option (List ℕ)). Reserves st (Lasts now lease) tree root (numbered k.first k.placing.middle k.placing.behind) o) some k.reserves

  abbrev pub reserving_after : Store
  reserving_after = after_root tree (reserving count root) st

  -- the records of the pieces were committed, or are those of the run
  pub few : length run ≤ length (st.tally.posts tree 0) → MayReserve st tree count
  few sent =
      let pieces = ap length k.placing.pieces_are in
      let all = pieces_count k.first (applied k.leaf 0 run) in
      let others = length-append k.placing.middle k.placing.behind in
      let records = applied_records k.leaf run in
      let committed = k.few in
      let more = pieces_more (length (applied k.leaf 0 run).records) (length book.log + length (st.tally.posts tree 0)) (omega (arith, records, committed, sent)) in
      inl (omega (arith, pieces, all, others, more))

  abbrev pub reserving_lands : (who : Caller) → length run ≤ length (st.tally.posts tree 0) → Landing who st (PutHeld (object.Tree tree) bytes lease None) reserving_after
  reserving_lands who sent = reservation_landing book order s stands tree of_tree who lease None root newest count k.first bytes planned.1 (few sent)

  pub reserving_version : (reserving count root).version ≡ (top_of (roots_of s tree)).version + 1
  reserving_version = ap (λ (t : Tree). t.version + 1) (sym newest)

  -- the root that was put is the one that is held then
  pub held : tree_held (landed f).chart.root ≡ reserving count root
  held =
      ap (λ (o : Option (List ℕ)). tree_held (root_after o f.chart.root)) some
      ∙ reservation_held book order s stands tree of_tree (record { session = 0; event = 0 }) lease None root newest count k.first bytes planned.1

  pub reserving_root : KnowsRoot reserving_after now lease tree (tree_held (landed f).chart.root)
  reserving_root = subst (KnowsRoot reserving_after now lease tree) (sym held) (root_known book order s stands tree of_tree now lease (reserving count root) planned.1.fits)

  abbrev pub reserving_known : PutsPieces reserving_after now lease (landed f) run
  reserving_known = record {
    leaf = k.leaf;
    linked = k.linked;
    newest = k.newest;
    few = k.few;
    first = k.first;
    fit = k.fit;
    placing = record {
      front = k.placing.front;
      middle = k.placing.middle;
      behind = k.placing.behind;
      pieces_are = k.placing.pieces_are;
      puts_are = ap (λ (o : Option (List ℕ)). puts_after o f.placing.puts) some ∙ k.placing.puts_are;
    };
    reserves = λ still.
        subst (λ (b : List LeafPart). AreReserved leaf_node (reserving_after.book.chain tree) (reserving_after.tally.nodes tree) (reserving_after.tally.gone tree) (top_of (reserving_after.tally.roots tree)).next (numbered k.first k.placing.middle b))
        (sym planned.0)
        (reserved_then book order s stands tree of_tree (record { session = 0; event = 0 }) lease None root newest count k.first bytes planned.1 leaf_node k.placing.middle refl);
    lacks = k.lacks;
    rest = k.rest;
  }
