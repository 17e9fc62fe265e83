-- Where the chains of a tree hold and every version decodes, no damage stops a report of it.
use Rattle.std.proofs.Common.{◌≡◌, ℕ, suc, List, [], ◌∷◌, ◌++◌, length, Some, None, Ok, refl, sym, ap, subst, ◌∙◌, inl, inr}
use Rattle.std.specs.Prelude.{slice_get}
use Rattle.cloud_facts.specs.Words.{IsTree, Trouble, Leaf, CloudState, newest, Link, Store, IsIn, StandsAt, nodes_of, roots_of}
use Rattle.db_base.specs.declared.names.ObjName.TheVariants as object
use Rattle.cloud_facts.specs.Book.Tally.{Tally}
use Rattle.cloud_facts.specs.Book.Telling.{tally_of, newest_leaf, newest_root, gone_of}
use Rattle.cloud_facts.specs.Chains.Chain.{IsChained, ChainHolds}
use Rattle.cloud_facts.specs.Chains.Gones.{Gones, AreKept}
use Rattle.cloud_facts.proofs.Chains.GoneLemmas.{links_kept}
use Rattle.cloud_facts.specs.Chains.Links.{page_after, low_after, Ascends}
use Rattle.cloud_facts.proofs.Chains.Pieces.{in_front}
use Rattle.cloud_facts.specs.Decoding.Decodes.{Decodes}
use Rattle.cloud_facts.proofs.Decoding.Values.{newest_head_decodes, newest_root_decodes}
use Rattle.replay_meaning.specs.Chain.{IsReadAs}
use Rattle.world_audit.specs.Stop.{pages_of, Meet, Comes, StopsWalk, ChainStops, HeadStops, RootStops, FirstDamage, Stopped}
use Rattle.cloud_facts.specs.Meanings.Contents.{leaves_of, IsAlong}
use Rattle.cloud_facts.proofs.Meanings.Leaves.{leads_along}
use Rattle.cloud_facts.proofs.Meanings.Pages.{IsLeafAt, leaf_at}
use Rattle.cloud_facts.proofs.Meanings.Stale.{never_again}
use Rattle.cloud_facts.specs.Audits.Slip.{IsSlip}
use Rattle.cloud_facts.proofs.Audits.Visits.{AreAt, meets, visited, front_below, no_stop}

module _ (s : CloudState) (tree : ℕ) (chain : ℕ → List Link) (done : List ℕ → ℕ → ℕ → ℕ) (cursor : ℕ → ℕ)
    (h : IsChained chain (nodes_of s tree) (roots_of s tree) done cursor) (kept : AreKept chain (gone_of s tree)) (d : Decodes s) where
  abbrev leaf : ℕ → Leaf
  leaf page = newest_leaf (nodes_of s) tree page

  -- at a link behind the links that were passed
  stands_behind : (front rest : List Link) (y : Link) → StandsAt (front ++ y ∷ rest) (length front) y
  stands_behind [] rest y = refl
  stands_behind (x ∷ front) rest y = stands_behind front rest y

  at_link : (pages : List ℕ) (page : ℕ) (low : List ℕ) (leaves : List Leaf) (front rest : List Link) (y : Link) → chain 0 ≡ front ++ y ∷ rest
      → leaves ≡ leaves_of leaf front → page ≡ y.page → pages ≡ pages_of 1 leaves → y.low ≡ low
      → (trouble : Trouble) → StopsWalk tree pages page low (newest s (object.Page tree page)) trouble → ⊥
  at_link pages page low leaves front rest y is leaves_are page_is over low_is trouble why =
      no_stop tree pages page low (newest s (object.Page tree page)) (leaf page) reads lows new trouble why
    where
      there : StandsAt (chain 0) (length front) y
      there = subst (λ (ls : List Link). StandsAt ls (length front) y) (sym is) (stands_behind front rest y)

      at : IsLeafAt s tree leaf y (slice_get (chain 0) (suc (length front)))
      at = leaf_at s tree chain done cursor h kept d (length front) y there

      reads : IsReadAs tree page (newest s (object.Page tree page)) (Ok (leaf page))
      reads = subst (λ (p : ℕ). IsReadAs tree p (newest s (object.Page tree p)) (Ok (leaf p))) (sym page_is) at.newest

      lows : (leaf page).low ≡ low
      lows = ap (λ (p : ℕ). (leaf p).low) page_is ∙ at.low ∙ low_is

      first : 1 ≡ page_after (slice_get (front ++ y ∷ rest) 0)
      first = sym (ap (λ (ls : List Link). page_after (slice_get ls 0)) (sym is ∙ h.levels.leaves.1))

      each : AreAt s tree leaf (front ++ y ∷ rest)
      each = subst (AreAt s tree leaf) is (leaf_at s tree chain done cursor h kept d)

      new : IsIn pages page → ⊥
      new k =
          let k_there : IsIn (pages_of 1 (leaves_of leaf front)) page = subst (λ (ps : List ℕ). IsIn ps page) (over ∙ ap (pages_of 1) leaves_are) k in
          let a = visited s tree leaf front (y ∷ rest) each 1 page first k_there in
          let below = front_below None front y rest (subst Ascends is (h.levels.ascends 0)) a.0 a.1 in
          let linked : IsIn (chain 0) a.0 = subst (λ (ls : List Link). IsIn ls a.0) (sym is) (in_front front (y ∷ rest) a.0 a.1) in
          never_again chain (nodes_of s tree) (roots_of s tree) done cursor h 0 a.0 y linked (length front, there) below (a.2 ∙ page_is)

  no_chain_stops : (trouble : Trouble) → ChainStops s tree trouble → ⊥
  no_chain_stops trouble stops = on way.rest refl
    where
      comes : Comes s tree stops.pages stops.page stops.low
      comes = stops.comes

      way : IsAlong leaf (chain 0) comes.leaves stops.page
      way = leads_along s tree chain done cursor h kept d comes.leaves stops.page comes.lead

      begins : low_after (slice_get (way.front ++ way.rest) 0) ≡ Some []
      begins = ap (λ (ls : List Link). low_after (slice_get ls 0)) (sym way.is ∙ h.levels.leaves.1)

      low : low_after (slice_get way.rest 0) ≡ Some stops.low
      low = meets s tree leaf way.front way.rest (subst (AreAt s tree leaf) way.is (leaf_at s tree chain done cursor h kept d)) [] stops.low begins
          (subst (λ (ls : List Leaf). Meet [] ls stops.low) way.leaves_are comes.meet)

      on : (rest : List Link) → way.rest ≡ rest → ⊥
      on [] e = let clash : None ≡ Some stops.low = sym (ap (λ (ls : List Link). low_after (slice_get ls 0)) e) ∙ low in absurd (cc)
      on (y ∷ rest) e =
          let some : Some y.low ≡ Some stops.low = sym (ap (λ (ls : List Link). low_after (slice_get ls 0)) e) ∙ low in
          at_link stops.pages stops.page stops.low comes.leaves way.front rest y (way.is ∙ ap (λ (ls : List Link). way.front ++ ls) e) way.leaves_are
          (way.page_is ∙ ap (λ (ls : List Link). page_after (slice_get ls 0)) e) comes.over (cc) trouble stops.why

no_head_stops : (s : CloudState) (trouble : Trouble) → Decodes s → HeadStops s trouble → ⊥
no_head_stops s trouble d stops = let reads = newest_head_decodes s stops.client stops.is_none.bytes d stops.is_none.put in absurd (cc)

no_root_stops : (s : CloudState) (tree : ℕ) (trouble : Trouble) → Decodes s → RootStops s tree trouble → ⊥
no_root_stops s tree trouble d stops = stops.none (newest_root (roots_of s) tree) (newest_root_decodes s tree stops.bytes d stops.put)

-- no part of the tree is damaged
pub no_damage : (s : CloudState) (tree : ℕ) (chain : ℕ → List Link) (done : List ℕ → ℕ → ℕ → ℕ) (cursor : ℕ → ℕ)
    → IsChained chain (nodes_of s tree) (roots_of s tree) done cursor → AreKept chain (gone_of s tree) → Decodes s → (trouble : Trouble) → FirstDamage s tree trouble → ⊥
no_damage s tree chain done cursor h kept d trouble (inl stops) = no_chain_stops s tree chain done cursor h kept d trouble stops
no_damage s tree chain done cursor h kept d trouble (inr (inl p)) = no_head_stops s trouble d p.1
no_damage s tree chain done cursor h kept d trouble (inr (inr p)) = no_root_stops s tree trouble d p.2

-- a report of a cloud that tells a store whose chains hold stops only where a look failed or memory ran out
pub only_slips : (s : CloudState) (st : Store) (tree : ℕ) → tally_of st.book s ≡ st.tally → ChainHolds st → Gones st → IsTree tree → Decodes s → (trouble : Trouble)
    → Stopped s tree trouble → IsSlip trouble
only_slips s st tree e h gones is d trouble (inl failed) = inl failed
only_slips s st tree e h gones is d trouble (inr (inl memory)) = inr memory
only_slips s st tree e h gones is d trouble (inr (inr damage)) =
    absurd (no_damage s tree (st.book.chain tree) ((tally_of st.book s).done tree) ((tally_of st.book s).cursor tree 0)
    (subst (λ (t : Tally). IsChained (st.book.chain tree) (t.nodes tree) (t.roots tree) (t.done tree) (t.cursor tree 0)) (sym e) (h tree is))
    (subst (λ (t : Tally). AreKept (st.book.chain tree) (t.gone tree)) (sym e) (links_kept st gones tree)) d trouble damage)
