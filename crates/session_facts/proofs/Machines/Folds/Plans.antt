-- A leaf that was read and lacks records of the run: what is planned are its pieces with the run applied.
use Rattle.std.proofs.Common.{◌≡◌, ◌≢◌, ◌+◌, ◌-◌, ◌≤◌, ◌==◌, ◌⊎◌, inl, inr, ℕ, Bool, true, false, cond, not, List, [], ◌∷◌, length, map, Result, Ok, Err, refl, sym, ap, subst, ◌∙◌, arith}
use Rattle.std.specs.List.{AllByRecursion}
use Rattle.std.proofs.lemmas.Bool.{eqb-false, and_from}
use Rattle.byte_format.specs.Format.{greatest}
use Rattle.byte_format.specs.Order.{bytes_below, bytes_same, below_bound}
use Rattle.byte_format.proofs.OrderLemmas.{same_is}
use Rattle.cloud_facts.proofs.Meanings.Keys.{few_records}
use Rattle.cloud_facts.specs.Chains.Chain.{IsChained}
use Rattle.cloud_facts.specs.Chains.Links.{top_of}
use Rattle.cloud_facts.specs.Words.{Trouble, Entry, PuItem, Leaf, Tree, Version, CloudState, Claim, Lasts, Book, Store, Node, Leafy, Branch, IsIn, nodes_of, roots_of, store_of, StandsUnder}
use Rattle.db_base.specs.Change.{key_of}
use Rattle.db_base.specs.declared.names.ObjName.TheVariants as object
use Rattle.cloud_facts.specs.Decoding.Kinds.{IsNode}
use Rattle.cloud_facts.proofs.Decoding.Newest.{IsLast, last_cases, last_map}
use Rattle.cloud_facts.proofs.Decoding.Reading.{node_reads}
use Rattle.cloud_facts.proofs.Decoding.Versions.{among_nth}
use Rattle.leaf_edit.proofs.Whole.{applied-formed}
use Rattle.leaf_edit.specs.Applied.{applied}
use Rattle.leaf_edit.specs.Lacked.{lacked}
use Rattle.tree_phases.specs.declared.folding.Folding.{Folding}
use Rattle.tree_phases.specs.declared.page_plan.PagePlan.{PagePlan}
use Rattle.tree_phases.specs.Folding.{handled_to, put_planned}
use Rattle.tree_phases.specs.Plan.{in_pieces, planned_by, planned, leaf_plan}
use Rattle.leaf_view.specs.Fits.{IsWellFormed, IsVersion}
use Rattle.leaf_view.specs.Lookup.{empty_leaf, holds}
use Rattle.leaf_view.proofs.Split.{leaf_fits}
use Rattle.log_codec.specs.Order.{IsOrdered}
use Rattle.node_codec.proofs.EntryLemmas.{above, below_chain}
use Rattle.node_codec.proofs.NodeLemmas.{in_range_parts}
use Rattle.node_codec.proofs.TreeLemmas.{tree_fits}
use Rattle.node_codec.specs.Tree.{HasTreeSpelling, empty_tree}
use Rattle.split_plan.specs.Part.{LeafPart}
use Rattle.split_plan.specs.Plan.{IsLeafPart, leaf_pieces}
use Rattle.split_plan.specs.Sizes.{count_of}
use Rattle.cloud_facts.specs.Book.Telling.{last_or, leaf_in, node_in, with_bytes, gone_of, newest_leaf}
use Rattle.tree_phases.specs.declared.reserve.Reserved.{Reserved}
use Rattle.tree_phases.specs.Read.{tree_held}
use Rattle.tree_phases.specs.Reserve.{version_spent, reservation}
use Rattle.session_facts.specs.Machines.Folds.Knows.{IsDone, AreDoneTo, KnowsRun, IsLeast, IsAtLeaf, Reserves, PutsPieces}
use Rattle.session_facts.specs.Machines.Trees.Leaves.{IsPutting}
use Rattle.session_facts.specs.Machines.Trees.Placings.{AreReserved, IsReservation, numbered}
use Rattle.session_facts.specs.Machines.Risings.Knows.{AreApart}
use Rattle.session_facts.proofs.Machines.Folds.Reads.{Reserving, none, some, reservation_is}
use Rattle.session_facts.proofs.Machines.Folds.Leaves.{leaf_newest, leaf_low, leaf_absent, leaf_linked, nothing_lacked}
use Rattle.session_facts.proofs.Machines.Folds.Cuts.{run_ordered, pieces_fit, pieces_placed, pieces_count}
use Rattle.session_facts.proofs.Machines.Trees.Placings.{none_reserved}
use Rattle.cloud_facts.specs.Chains.Cuts.{leaf_node}

-- ---- keys

-- a key not below one that is not below a low key is not below it either
pub not_below : (key least low : List ℕ) → bytes_below key least ≡ false → bytes_below least low ≡ false → bytes_below key low ≡ false
not_below key least low from at = on (bytes_below key low) refl
  where
    never : bytes_below key low ≡ true → (b : Bool) → bytes_same key least ≡ b → ⊥
    never under true same =
        let is : key ≡ least = same_is key least same in
        let no : bytes_below key low ≡ false = ap (λ (k : List ℕ). bytes_below k low) is ∙ at in
        cc
    never under false differ =
        let under_key : bytes_below least key ≡ true = above key least from differ in
        let no : bytes_below least low ≡ true = below_chain least key low under_key under in
        cc

    on : (b : Bool) → bytes_below key low ≡ b → b ≡ false
    on true e = absurd (never e (bytes_same key least) refl)
    on false e = refl

abbrev made : PagePlan → Result PagePlan Trouble
made p = Ok p

-- ---- the leaf that was read

empty_formed : IsWellFormed empty_leaf
empty_formed = record { format = inl refl; low = omega arith; right = omega arith; high = refl; done = tt; done_ascends = tt; records = tt; records_ascend = tt }

-- the newest leaf of a page is well formed, and of a version that may be put but where it is absent
node_formed : (bytes : List ℕ) (node : Node) → IsNode bytes node → (IsWellFormed (leaf_in node)) × ((leaf_in node).version ≤ greatest)
node_formed bytes (Leafy l) is = let f = leaf_fits l is.fits in (f.1, (f.0).most)
node_formed bytes (Branch n) is = (empty_formed, omega arith)

pub newest_formed : (book : Book) (order : List Entry) (s : CloudState) (tree page : ℕ) → StandsUnder book order s
    → IsWellFormed (newest_leaf (nodes_of s) tree page) × ((newest_leaf (nodes_of s) tree page).version ≤ greatest)
newest_formed book order s tree page stands = on (last_cases vs)
  where
    vs : List Version
    vs = with_bytes (s.versions (object.Page tree page))

    on : (vs ≡ []) ⊎ ((v : Version) × IsLast vs v) → IsWellFormed (newest_leaf (nodes_of s) tree page) × ((newest_leaf (nodes_of s) tree page).version ≤ greatest)
    on (inl e) =
        subst (λ (l : Leaf). IsWellFormed l × (l.version ≤ greatest)) (sym (ap (λ (xs : List Version). leaf_in (last_or (Leafy empty_leaf) (map node_in xs))) e)) (empty_formed, omega arith)
    on (inr p) =
        let k = (among_nth (object.Page tree page) (s.versions (object.Page tree page)) (length vs - 1) p.0 (stands.decodes.versions (object.Page tree page)) p.1).1 in
        subst (λ (n : Node). IsWellFormed (leaf_in n) × ((leaf_in n).version ≤ greatest)) (sym (last_map node_in (Leafy empty_leaf) vs p.0 p.1 ∙ node_reads p.0 k.0 k.2.0 k.1 k.2.1)) (node_formed k.0 k.2.0 k.2.1)

module _ (book : Book) (order : List Entry) (s : CloudState) (stands : StandsUnder book order s) (now : ℕ) (lease : Claim) (f : Folding) (ids : List ℕ)
    (at : IsAtLeaf (store_of book order s) now lease f) (run : KnowsRun (store_of book order s) f.chart ids) (apart : AreApart f.chart.nodes) (least : IsLeast f.chart) where
  abbrev st : Store
  st = store_of book order s

  abbrev tree : ℕ
  tree = f.chart.tree

  abbrev leaf : Leaf
  leaf = newest_leaf (nodes_of s) tree f.page

  abbrev items : List PuItem
  items = f.chart.run.items

  abbrev whole : Leaf
  whole = applied leaf 0 items

  low_is : leaf.low ≡ f.low
  low_is = leaf_low book order s stands tree at.chart.tree f.page f.low f.chart.key f.visited at.way

  -- of the records below the high key those that are not handled are in the leaf's range
  pub handled_here : (x : PuItem) → IsIn items x → below_bound (key_of x.rec.change) leaf.high ≡ true → IsDone st tree x ⊎ (holds leaf (key_of x.rec.change) ≡ true)
  handled_here x there below = on (least x there)
    where
      on : (below_bound (key_of x.rec.change) f.chart.from ≡ true) ⊎ (bytes_below (key_of x.rec.change) f.chart.key ≡ false)
          → IsDone st tree x ⊎ (holds leaf (key_of x.rec.change) ≡ true)
      on (inl before) = inl (run.done x there before)
      on (inr from) =
          inr (and_from (not (bytes_below (key_of x.rec.change) leaf.low)) (below_bound (key_of x.rec.change) leaf.high)
          (ap not (ap (bytes_below (key_of x.rec.change)) low_is ∙ not_below (key_of x.rec.change) f.chart.key f.low from at.way.at.from)) below)

  pub formed : IsWellFormed leaf × (leaf.version ≤ greatest)
  formed = newest_formed book order s tree f.page stands

  ordered : IsOrdered items
  ordered = run_ordered st tree 0 (tree_held f.chart.root).cursor run.took.received items f.chart.run.top run.took.is_run run.took.items

  pub whole_formed : IsWellFormed whole
  whole_formed = applied-formed leaf 0 items (omega arith) formed.0 ordered

  -- ---- a leaf that lacks nothing stays as it is

  pub nothing_left : lacked leaf 0 items ≡ [] → AreDoneTo st tree items leaf.high
  nothing_left empty x there below = on (handled_here x there below)
    where
      on : IsDone st tree x ⊎ (holds leaf (key_of x.rec.change) ≡ true) → IsDone st tree x
      on (inl done) = done
      on (inr range) = nothing_lacked book order s stands tree at.chart.tree f.page f.low f.chart.key f.visited at.way items empty x there range

  -- ---- what is planned

  abbrev pub pieces_known : (r : Reserved) → Reserving (tree_held f.chart.root) f.page (count_of (length whole.records) - 1) r → leaf.version ≢ greatest
      → PutsPieces st now lease (put_planned (handled_to f leaf.high) (lacked leaf 0 items) (in_pieces f.page whole r)) items
  pieces_known r reserves spare = record {
    leaf = leaf;
    linked = leaf_linked book order s stands tree at.chart.tree f.page f.low f.chart.key f.visited at.way;
    newest = λ lasts. record {
      is = leaf_newest book order s stands tree at.chart.tree f.page f.low f.chart.key f.visited at.way;
      absent = leaf_absent book order s stands tree at.chart.tree f.page f.low f.chart.key f.visited at.way;
    };
    few = few_records book order s stands tree at.chart.tree f.page (leaf_linked book order s stands tree at.chart.tree f.page f.low f.chart.key f.visited at.way);
    first = r.first;
    fit = fit r reserves;
    placing = (pieces_placed f.page r.first whole).placing;
    reserves = reserved r reserves;
    lacks = refl;
    rest = handled_here;
  }
    where
      version : IsVersion whole.version
      version = let most = formed.1 in record { some = omega arith; most = omega (arith, most, spare) }

      chained : IsChained (book.chain tree) (nodes_of s tree) (roots_of s tree) (st.tally.done tree) (st.tally.cursor tree 0)
      chained = stands.holds.chains tree at.chart.tree

      -- page 0 is never reserved
      root_next : (root : Tree) → (root ≡ empty_tree) ⊎ HasTreeSpelling root → 1 ≤ root.next
      root_next root (inl e) = let n : root.next ≡ 2 = ap (λ (t : Tree). t.next) e in omega (arith, n)
      root_next root (inr fits) = let n = (in_range_parts 2 greatest root.next (tree_fits root fits).next).0 in omega (arith, n)

      numbers : (q : Reserved) → Reserving (tree_held f.chart.root) f.page (count_of (length whole.records) - 1) q → (count_of (length whole.records) - 1 ≡ 0 → ⊥)
          → (1 ≤ q.first) × (q.first + (count_of (length whole.records) - 1) ≤ greatest)
      numbers q (none e) any = absurd (any e)
      numbers q (some any_of bytes first is room) any = (
        subst (λ (n : ℕ). 1 ≤ n) (sym is.first_is) (root_next (tree_held f.chart.root) at.chart.root.spelled),
        subst (λ (n : ℕ). n + (count_of (length whole.records) - 1) ≤ greatest) (sym is.first_is) room,
      )

      fit : (q : Reserved) → Reserving (tree_held f.chart.root) f.page (count_of (length whole.records) - 1) q → AllByRecursion IsLeafPart (leaf_pieces q.first whole)
      fit q e = pieces_fit q.first whole (numbers q e) version whole_formed

      middle_count : (first : ℕ) → length (pieces_placed f.page first whole).placing.middle + 1 ≡ count_of (length whole.records)
      middle_count first = (pieces_placed f.page first whole).count ∙ pieces_count first whole

      none_in_middle : (ps : List LeafPart) → length ps ≡ 0 → ps ≡ []
      none_in_middle [] e = refl
      none_in_middle (p ∷ ps) e = absurd (omega (arith, e))

      page_below : f.page ≤ (top_of (roots_of s tree)).next
      page_below = let less = (chained.pages.linked 0 (record { low = f.low; page = f.page }) at.way.at.linked).1 in omega (arith, less)

      alone : (ps qs : List LeafPart) → length ps ≡ 0 → qs ≡ [] → AreReserved leaf_node (book.chain tree) (nodes_of s tree) (gone_of s tree) (top_of (roots_of s tree)).next (numbered f.page ps qs)
      alone ps qs e g =
          subst (λ (l : List LeafPart). AreReserved leaf_node (book.chain tree) (nodes_of s tree) (gone_of s tree) (top_of (roots_of s tree)).next (numbered f.page l qs)) (sym (none_in_middle ps e))
          (subst (λ (l : List LeafPart). AreReserved leaf_node (book.chain tree) (nodes_of s tree) (gone_of s tree) (top_of (roots_of s tree)).next (numbered f.page [] l)) (sym g)
          (none_reserved leaf_node (book.chain tree) (nodes_of s tree) (gone_of s tree) (top_of (roots_of s tree)).next f.page page_below))

      reserved : (q : Reserved) → Reserving (tree_held f.chart.root) f.page (count_of (length whole.records) - 1) q
          → Reserves st (Lasts now lease) tree (tree_held f.chart.root) (numbered q.first (pieces_placed f.page q.first whole).placing.middle (pieces_placed f.page q.first whole).placing.behind) q.put
      reserved q (none e) = λ lasts.
          alone (pieces_placed f.page f.page whole).placing.middle (pieces_placed f.page f.page whole).placing.behind (let n = middle_count f.page in omega (arith, n, e))
          (pieces_placed f.page f.page whole).none
      reserved q (some any bytes first is room) = (
        (pieces_placed f.page first whole).none,
        subst (λ (n : ℕ). IsReservation (tree_held f.chart.root) n first bytes) (let n = middle_count first in omega (arith, n)) is,
      )

  -- so a plan that was made is one of pieces, and the new ones are noted
  pieces_put : (r : Reserved) → Reserving (tree_held f.chart.root) f.page (count_of (length whole.records) - 1) r → leaf.version ≢ greatest
      → IsPutting st now lease (put_planned (handled_to f leaf.high) (lacked leaf 0 items) (in_pieces f.page whole r)) ids
  pieces_put r reserves spare = record {
    tree = at.chart.tree;
    root = at.chart.root;
    nodes = at.chart.nodes;
    apart = apart;
    took = run.took;
    lock_is = at.lock_is;
    puts = pieces_known r reserves spare;
    notes = record { found = f.chart.links; are_found = at.chart.links; links_are = refl };
  }

  pub plan_known : (p : PagePlan) → leaf_plan (tree_held f.chart.root) f.page leaf items ≡ Ok p
      → IsPutting st now lease (put_planned (handled_to f leaf.high) (lacked leaf 0 items) p) ids
  plan_known p e = on (leaf.version == 18446744073709551615) refl e
    where
      by_pieces : leaf.version ≢ greatest → (o : Result Reserved Trouble) → reservation (tree_held f.chart.root) f.page (count_of (length whole.records) - 1) ≡ o
          → planned_by f.page whole o ≡ Ok p → IsPutting st now lease (put_planned (handled_to f leaf.high) (lacked leaf 0 items) p) ids
      by_pieces spare (Err t) g h = absurd (cc)
      by_pieces spare (Ok r) g h =
          subst (λ (q : PagePlan). IsPutting st now lease (put_planned (handled_to f leaf.high) (lacked leaf 0 items) q) ids) (one (in_pieces f.page whole r) p h)
          (pieces_put r (reservation_is (tree_held f.chart.root) f.page (count_of (length whole.records) - 1) at.chart.root.spelled r g) spare)
        where
          one : (a b : PagePlan) → made a ≡ made b → a ≡ b
          one a b q = cc

      on : (b : Bool) → (leaf.version == 18446744073709551615) ≡ b → cond b (Err version_spent) (planned (tree_held f.chart.root) f.page whole) ≡ Ok p
          → IsPutting st now lease (put_planned (handled_to f leaf.high) (lacked leaf 0 items) p) ids
      on true g h = absurd (cc)
      on false g h =
          by_pieces (eqb-false leaf.version 18446744073709551615 g) (reservation (tree_held f.chart.root) f.page (count_of (length whole.records) - 1)) refl h
