-- What a checkpoint of a tree knows leaves room for its calls: it got no node and visited no page twice, and no page is at or above the next free one.
use Rattle.std.proofs.Common.{◌≡◌, ◌+◌, ◌<◌, ◌≤◌, ◌⊎◌, inl, inr, ℕ, Bool, true, false, List, [], ◌∷◌, length, map, Option, Some, None, refl, sym, ap, subst, ◌∙◌, arith}
use Rattle.std.specs.Option.{option_and_then}
use Rattle.std.specs.Prelude.{unwrap_or}
use Rattle.std.proofs.lemmas.List.{length-map}
use Rattle.cloud_facts.proofs.Chains.Pieces.{none_in, in_first, in_rest, in_cases}
use Rattle.cloud_facts.proofs.Decoding.Newest.{IsLast, last_cases, last_map}
use Rattle.cloud_facts.proofs.Meanings.Steps.{not_passed}
use Rattle.cloud_facts.specs.Words.{IsTree, Entry, Tree, Version, CloudState, newest, Claim, Lasts, Book, Store, IsIn, nodes_of, roots_of, store_of, StandsUnder}
use Rattle.cloud_facts.specs.Book.Records.{Apart}
use Rattle.cloud_facts.specs.Book.Telling.{root_in}
use Rattle.cloud_facts.specs.Chains.Chain.{IsChained}
use Rattle.cloud_facts.specs.Chains.Links.{top_of}
use Rattle.cloud_trait.specs.State.{newest_of}
use Rattle.db_base.specs.declared.names.ObjName.TheVariants as object
use Rattle.tree_phases.specs.declared.folding.Folding.{Folding}
use Rattle.node_codec.specs.Tree.{empty_tree, tree_of}
use Rattle.run_cursor.specs.Covered.{is_seen}
use Rattle.session_facts.proofs.Settling.Trees.Calls.{HasRoom, Reserving, own_of, FitsLeaf, FitsWork}
use Rattle.session_facts.proofs.Settling.Trees.Lists.{pages_fit}
use Rattle.session_facts.proofs.Settling.Trees.Pieces.{puts_as_many}
use Rattle.session_facts.proofs.Settling.Trees.Visits.{IsUnvisited}
use Rattle.session_facts.proofs.Machines.Trees.Seen.{seen_in}
use Rattle.session_facts.specs.Machines.TreeCheckpoints.Knows.{IsUnder, KnowsWork}
use Rattle.session_facts.specs.Machines.TreeCheckpoints.Counting.{next_of, HasRoot, Once}
use Rattle.session_facts.specs.Machines.Trees.Charts.{KnowsNodes}
use Rattle.session_facts.specs.Machines.Folds.Knows.{Reserves}
use Rattle.session_facts.specs.Machines.Trees.Leaves.{KnowsRest, IsCome, IsPutting, KnowsLeaf}
use Rattle.session_facts.specs.Machines.Trees.Placings.{reserving, IsReservation, numbered}
use Rattle.session_facts.specs.Machines.Risings.Knows.{AreApart, ReservesNodes, whole, cut, PutsOf}
use Rattle.session_facts.specs.Machines.Trees.Ways.{IsOnWay}
use Rattle.split_plan.specs.Part.{LeafPart, NodePart}
use Rattle.split_plan.specs.Plan.{leaf_bytes, node_bytes}
use Rattle.tree_ckpt.proofs.Tours.{page_left as has_page}
use Rattle.tree_ckpt.specs.declared.work.Coming.{Coming}
use Rattle.tree_ckpt.specs.declared.work.Held.{Held}
use Rattle.tree_ckpt.specs.declared.work.Onward.TheVariants as onward
use Rattle.tree_ckpt.specs.declared.work.Work.{Work}
use Rattle.tree_ckpt.specs.declared.work.Work.TheVariants as work
use Rattle.tree_phases.specs.declared.chart.Chart.{Chart}
use Rattle.tree_phases.specs.declared.kept.KeptNode.{KeptNode}
use Rattle.tree_phases.specs.declared.placing.Placing.{Placing}
use Rattle.tree_phases.specs.Placing.{has_nothing}
use Rattle.tree_phases.specs.Read.{tree_held}
use Rattle.tree_phases.specs.declared.rising.Rising.{Rising}
use Rattle.tree_phases.proofs.Held.{held_spelled}

-- ---- the newest tree object

abbrev pub top_at : CloudState → ℕ → Tree
top_at s tree = top_of (roots_of s tree)

held_root : (bytes : Option (List ℕ)) → tree_held bytes ≡ unwrap_or (option_and_then tree_of bytes) empty_tree
held_root None = refl
held_root (Some bytes) = refl

newest_top : (vs : List Version) → tree_held (newest_of vs) ≡ top_of (map root_in vs)
newest_top vs = on (last_cases vs)
  where
    on : (vs ≡ []) ⊎ ((v : Version) × IsLast vs v) → tree_held (newest_of vs) ≡ top_of (map root_in vs)
    on (inl e) = subst (λ (ws : List Version). tree_held (newest_of ws) ≡ top_of (map root_in ws)) (sym e) refl
    on (inr (v, last)) =
        ap (λ (o : Option Version). tree_held (option_and_then (λ (w : Version). w.bytes) o)) last ∙ held_root v.bytes ∙ sym (last_map root_in empty_tree vs v last)

pub held_tree : (s : CloudState) (tree : ℕ) (got : Option (List ℕ)) → got ≡ newest s (object.Tree tree) → tree_held got ≡ top_at s tree
held_tree s tree got e = ap tree_held e ∙ newest_top (s.versions (object.Tree tree))

pub held_top : (s : CloudState) (tree : ℕ) (got : Option (List ℕ)) → got ≡ newest s (object.Tree tree) → (tree_held got).next ≡ (top_at s tree).next
held_top s tree got e = ap (λ (t : Tree). t.next) (held_tree s tree got e)

-- ---- reservations

-- a reservation raises the next free page by so many
pub reserved_next : (root : Tree) (count first : ℕ) (bytes : List ℕ) → IsReservation root count first bytes → (tree_held (Some bytes)).next ≡ root.next + count
reserved_next root count first bytes r =
    ap (λ (b : List ℕ). (tree_held (Some b)).next) r.bytes_are ∙ ap (λ (t : Tree). t.next) (held_spelled (reserving count root) r.fits)

-- ---- pages

-- the pages of nodes that are apart
page_in : (ks : List KeptNode) (page : ℕ) → IsIn (map (λ (k : KeptNode). k.page) ks) page → (k : KeptNode) × IsIn ks k × (k.page ≡ page)
page_in [] page is = absurd (none_in page is)
page_in (k ∷ ks) page is = on (page_in ks page) (in_cases k.page (map (λ (m : KeptNode). m.page) ks) page is)
  where
    on : (IsIn (map (λ (m : KeptNode). m.page) ks) page → (m : KeptNode) × IsIn ks m × (m.page ≡ page))
        → (k.page ≡ page) ⊎ IsIn (map (λ (m : KeptNode). m.page) ks) page
        → (m : KeptNode) × IsIn (k ∷ ks) m × (m.page ≡ page)
    on again (inl same) = (k, in_first k ks, same)
    on again (inr there) = let m = again there in (m.0, in_rest k ks m.0 m.1, m.2)

pages_apart : (ks : List KeptNode) → AreApart ks → Apart (map (λ (k : KeptNode). k.page) ks)
pages_apart [] apart = tt
pages_apart (k ∷ ks) apart = (λ page is. let m = page_in ks page is in (λ same. apart.0 m.0 m.1 (m.2 ∙ same)), pages_apart ks apart.1)

module _ (book : Book) (order : List Entry) (s : CloudState) (stands : StandsUnder book order s) (now p tree : ℕ) (of_tree : IsTree tree)
    (room : (top_of (roots_of s tree)).next ≤ p + 1) where
  abbrev st : Store
  st = store_of book order s

  chained : IsChained (book.chain tree) (nodes_of s tree) (roots_of s tree) (st.tally.done tree) (st.tally.cursor tree 0)
  chained = stands.holds.chains tree of_tree

  nodes_fit : (lease : Claim) (nodes : List KeptNode) → KnowsNodes st now lease tree nodes → AreApart nodes → length nodes ≤ p
  nodes_fit lease nodes known apart =
      let few = pages_fit (map (λ (k : KeptNode). k.page) nodes) p (top_of (roots_of s tree)).next (pages_apart nodes apart) within room in
      let many = length-map nodes (λ (k : KeptNode). k.page) in
      omega (arith, few, many)
    where
      within : (page : ℕ) → IsIn (map (λ (k : KeptNode). k.page) nodes) page → (1 ≤ page) × (page < (top_of (roots_of s tree)).next)
      within page is =
          let k = page_in nodes page is in
          subst (λ (n : ℕ). (1 ≤ n) × (n < (top_of (roots_of s tree)).next)) k.2
          (chained.pages.linked k.0.level (record { low = k.0.low; page = k.0.page }) (known k.0 k.1).linked)

  visits_fit : (level page : ℕ) (low key : List ℕ) (visited : List ℕ) → IsOnWay (book.chain tree) level page low key visited → Apart visited → length visited ≤ p
  visits_fit level page low key visited w apart = pages_fit visited p (top_of (roots_of s tree)).next apart within room
    where
      within : (n : ℕ) → IsIn visited n → (1 ≤ n) × (n < (top_of (roots_of s tree)).next)
      within n is =
          let k = w.behind n is in
          subst (λ (m : ℕ). (1 ≤ m) × (m < (top_of (roots_of s tree)).next)) k.page_is (chained.pages.linked k.height k.link k.linked)

  unseen : (level page : ℕ) (low key : List ℕ) (visited : List ℕ) → IsOnWay (book.chain tree) level page low key visited → is_seen visited page ≡ false
  unseen level page low key visited w = on (is_seen visited page) refl
    where
      on : (b : Bool) → is_seen visited page ≡ b → b ≡ false
      on true e =
          absurd (not_passed (book.chain tree) (nodes_of s tree) (roots_of s tree) (st.tally.done tree) (st.tally.cursor tree 0) chained level page low key w.at
          (w.behind page (seen_in visited page e)))
      on false e = refl

  -- ---- a chart

  chart_fits : (lease : Claim) (c : Chart) → next_of c ≤ p + 1 → KnowsNodes st now lease tree c.nodes → AreApart c.nodes → HasRoom p c
  chart_fits lease c next known apart = record { nodes = nodes_fit lease c.nodes known apart; next = next }

-- ---- what is put

leaf_reserves : (st : Store) (now : ℕ) (lease : Claim) (tree : ℕ) (c : Chart) (page first : ℕ) (front : LeafPart) (middle behind : List LeafPart) (placing : Placing)
    → length placing.puts ≡ length (front ∷ middle) → Reserves st (Lasts now lease) tree (tree_held c.root) (numbered first middle behind) placing.reserved → Reserving 1 c placing
leaf_reserves st now lease tree c page first front middle behind placing many reserves bytes e =
    let r = subst (Reserves st (Lasts now lease) tree (tree_held c.root) (numbered first middle behind)) e reserves in
    let next = reserved_next (tree_held c.root) (length middle) first bytes r.1 in
    omega (arith, many, next)

node_reserves : (st : Store) (now : ℕ) (lease : Claim) (tree : ℕ) (c : Chart) (first : ℕ) (front : NodePart) (middle behind : List NodePart) (placing : Placing)
    → length placing.puts ≡ length (front ∷ middle) → ReservesNodes st (Lasts now lease) tree (tree_held c.root) (numbered first middle behind) placing.reserved → Reserving 1 c placing
node_reserves st now lease tree c first front middle behind placing many reserves bytes e =
    let r = subst (ReservesNodes st (Lasts now lease) tree (tree_held c.root) (numbered first middle behind)) e reserves in
    let next = reserved_next (tree_held c.root) (length middle) first bytes r.1 in
    omega (arith, many, next)

root_reserves : (st : Store) (still : Type 0) (tree : ℕ) (c : Chart) (first : ℕ) (middle behind : List NodePart) (placing : Placing)
    → length placing.puts ≡ length middle → ReservesNodes st still tree (tree_held c.root) (numbered first middle behind) placing.reserved → Reserving 0 c placing
root_reserves st still tree c first middle behind placing many reserves bytes e =
    let r = subst (ReservesNodes st still tree (tree_held c.root) (numbered first middle behind)) e reserves in
    let next = reserved_next (tree_held c.root) (length middle) first bytes r.1 in
    omega (arith, many, next)

pub leaf_put_some : (st : Store) (now : ℕ) (lease : Claim) (f : Folding) (ids : List ℕ) → IsPutting st now lease f ids → 0 < length f.placing.puts
leaf_put_some st now lease f ids k =
    let puts = k.puts in
    let many = ap length puts.placing.puts_are ∙ puts_as_many leaf_bytes f.page puts.first (puts.placing.front ∷ puts.placing.middle) in
    omega (arith, many)

pub leaf_put_reserves : (st : Store) (now : ℕ) (lease : Claim) (f : Folding) (ids : List ℕ) → IsPutting st now lease f ids → Reserving 1 f.chart f.placing
leaf_put_reserves st now lease f ids k =
    let puts = k.puts in
    leaf_reserves st now lease f.chart.tree f.chart f.page puts.first puts.placing.front puts.placing.middle puts.placing.behind f.placing
    (ap length puts.placing.puts_are ∙ puts_as_many leaf_bytes f.page puts.first (puts.placing.front ∷ puts.placing.middle)) puts.reserves

leaf_put_fits : (st : Store) (now p : ℕ) (lease : Claim) (f : Folding) (ids : List ℕ) → IsPutting st now lease f ids → FitsLeaf p f
leaf_put_fits st now p lease f ids k = inr (leaf_put_some st now lease f ids k, leaf_put_reserves st now lease f ids k)

pub up_fits : (st : Store) (now : ℕ) (lease : Claim) (r : Rising) (last : Option (List ℕ)) → PutsOf st now lease r last → Reserving (own_of last) r.chart r.placing
up_fits st now lease r None k =
    node_reserves st now lease r.chart.tree r.chart k.first k.placing.front k.placing.middle k.placing.behind r.placing
    (ap length k.placing.puts_are ∙ puts_as_many node_bytes k.kept.page k.first (k.placing.front ∷ k.placing.middle)) k.reserves
up_fits st now lease r (Some bytes) (whole k) = λ b e. absurd (let none : Some b ≡ None = sym e ∙ k.nothing_reserved in cc)
up_fits st now lease r (Some bytes) (cut k) =
    root_reserves st (Lasts now lease) r.chart.tree r.chart k.first k.middle k.behind r.placing
    (ap length k.puts_are ∙ puts_as_many node_bytes k.first (k.first + 1) k.middle) k.reserves

-- ---- wherever it stands

module _ (book : Book) (order : List Entry) (s : CloudState) (stands : StandsUnder book order s) (now p tree : ℕ) where
  abbrev at : Store
  at = store_of book order s

  module _ (room : (top_of (roots_of s tree)).next ≤ p + 1) where
    room_at : (known : ℕ) → known ≡ tree → (top_of (roots_of s known)).next ≤ p + 1
    room_at known same = subst (λ (n : ℕ). (top_of (roots_of s n)).next ≤ p + 1) (sym same) room

    module _ (got : Option (List ℕ)) (within : (tree_held got).next ≤ (top_of (roots_of s tree)).next) where
      -- no tree object in hand has more pages
      next_fits : (c : Chart) → c.root ≡ got → next_of c ≤ p + 1
      next_fits c root = let same = ap (λ (g : Option (List ℕ)). (tree_held g).next) root in omega (arith, same, within, room)

      rest_fits : (lease : Claim) (c : Chart) (ids : List ℕ) → IsUnder tree lease c.tree → c.root ≡ got
          → KnowsRest at now lease c ids → HasRoom p c
      rest_fits lease c ids under root k =
          chart_fits book order s stands now p c.tree k.chart.tree (room_at c.tree under.tree_is) lease c
          (next_fits c root) k.chart.nodes k.apart

      come_fits : (lease : Claim) (c : Coming) (ids : List ℕ) → IsUnder tree lease c.chart.tree → c.chart.root ≡ got → Apart c.visited
          → IsCome at now lease c ids → HasRoom p c.chart × (length c.visited ≤ p)
      come_fits lease c ids under root once k = (
        rest_fits lease c.chart ids under root k.rest,
        visits_fit book order s stands now p c.chart.tree k.rest.chart.tree (room_at c.chart.tree under.tree_is) 0 c.page c.low c.chart.key c.visited k.way once,
      )

      leaf_fits : (h : Held) (f : Folding) → IsUnder tree h.lease f.chart.tree → f.chart.root ≡ got → Apart f.visited
          → KnowsLeaf at now h.lease f h.deletions.ids → HasRoom p f.chart × FitsLeaf p f
      leaf_fits h f under root once (inl k) = (
        chart_fits book order s stands now p f.chart.tree k.at.chart.tree (room_at f.chart.tree under.tree_is) h.lease f.chart
            (next_fits f.chart root) k.at.chart.nodes k.apart,
        inl (
          k.placing_is,
          visits_fit book order s stands now p f.chart.tree k.at.chart.tree (room_at f.chart.tree under.tree_is) 0 f.page f.low f.chart.key f.visited k.at.way once,
        ),
      )
      leaf_fits h f under root once (inr k) = (
        chart_fits book order s stands now p f.chart.tree k.tree (room_at f.chart.tree under.tree_is) h.lease f.chart
            (next_fits f.chart root) k.nodes k.apart,
        leaf_put_fits at now p h.lease f h.deletions.ids k,
      )

      pub work_fits : (w : Work) → HasRoot got w → Once w → KnowsWork at now tree w → FitsWork p w
      work_fits work.TakingTree root once k = tt
      work_fits (work.GettingTree l) root once k = tt
      work_fits (work.Receiving l got) root once k = tt
      work_fits (work.Descending h d) root once k = rest_fits h.lease d.chart h.deletions.ids k.0 root k.1.rest
      work_fits (work.TakingPage h c) root once k = come_fits h.lease c h.deletions.ids k.0 root once k.1
      work_fits (work.Folding h f) root once k = leaf_fits h f k.0 root once k.1
      work_fits (work.ReleasingPage h l (onward.Right c)) root once k = come_fits h.lease c h.deletions.ids k.1.0 root once k.1.1
      work_fits (work.ReleasingPage h l (onward.Handled c)) root once k = rest_fits h.lease c h.deletions.ids k.1.0 root k.1.1
      work_fits (work.LeftPage h o) root once k = absurd k
      work_fits (work.Rising h r) root once k = (
        next_fits r.chart root,
        up_fits at now h.lease r r.last k.1.puts,
      )
      work_fits (work.Deleting h applied) root once k = tt
      work_fits (work.Releasing held end) root once k = tt
      work_fits work.Finished root once k = tt

    pub work_new : (w : Work) → KnowsWork at now tree w → IsUnvisited w
    work_new work.TakingTree k = tt
    work_new (work.GettingTree l) k = tt
    work_new (work.Receiving l got) k = tt
    work_new (work.Descending h d) k =
        unseen book order s stands now p d.chart.tree k.1.rest.chart.tree (room_at d.chart.tree k.0.tree_is) d.level d.page d.low d.chart.key d.visited k.1.way
    work_new (work.TakingPage h c) k = tt
    work_new (work.Folding h f) k = on k.1
      where
        on : KnowsLeaf at now h.lease f h.deletions.ids → has_nothing f.placing ≡ true → is_seen f.visited f.page ≡ false
        on (inl r) none =
            unseen book order s stands now p f.chart.tree r.at.chart.tree (room_at f.chart.tree k.0.tree_is) 0 f.page f.low f.chart.key f.visited r.at.way
        on (inr r) none = absurd (let some : has_nothing f.placing ≡ false = has_page f.placing (leaf_put_some at now h.lease f h.deletions.ids r) in cc)
    work_new (work.ReleasingPage h l o) k = tt
    work_new (work.LeftPage h o) k = tt
    work_new (work.Rising h r) k = tt
    work_new (work.Deleting h applied) k = tt
    work_new (work.Releasing held end) k = tt
    work_new work.Finished k = tt
