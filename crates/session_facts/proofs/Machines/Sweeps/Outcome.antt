-- What each call of a sweep leaves, whatever it was answered and whether it landed or not.
use Rattle.std.proofs.Common.{◌≡◌, ◌⊎◌, inl, inr, ℕ, zero, List, [], ◌∷◌, Option, Some, None, Ok, refl, sym, subst, ◌∙◌, arith}
use Rattle.std.specs.Prelude.{slice_get}
use Rattle.std.proofs.lemmas.Option.{slice_get_within}
use Rattle.cloud_facts.specs.Words.{IsTree, Trouble, ObjName, Entry, Tree, Answer, CloudState, called, Caller, Claim, Lasts, Ask, Stops, done_of, Book, Store, at, nodes_of, roots_of, store_of, IsCall, StandsUnder}
use Rattle.cloud_facts.specs.Book.Effects.{after_removal}
use Rattle.cloud_facts.specs.Calls.Acting.{footing, actor, Setting, Outcome}
use Rattle.cloud_facts.specs.Chains.Chain.{IsChained}
use Rattle.cloud_facts.specs.Chains.Links.{top_of}
use Rattle.cloud_facts.specs.Homes.Homes.{Part, Parts, HomesHold}
use Rattle.cloud_facts.specs.Landings.Landing.{removes}
use Rattle.cloud_facts.proofs.Calls.Outcomes.{stays, other_landed, quiet}
use Rattle.cloud_facts.proofs.Homes.HomeLemmas.{keeps_part, aside_keeps}
use Rattle.cloud_trait.specs.declared.answer.Answer.TheVariants.{Got, Sent, Received, Listed, Done, Given, Held, Renewed, Late, Failed, Memory}
use Rattle.cloud_trait.specs.Ask.{RemoveHeld, Lands, PutsNothing, TouchesNoMessage}
use Rattle.db_base.specs.declared.names.ObjName.TheVariants as object
use Rattle.orphan_sweep.proofs.Outcomes.{leased, Onward, Clears, Fails, comes}
use Rattle.orphan_sweep.proofs.Outcomes as step
use Rattle.orphan_sweep.specs.declared.paths.Paths.{Paths}
use Rattle.orphan_sweep.specs.declared.spot.Spot.{Spot}
use Rattle.orphan_sweep.specs.declared.stage.Stage.{Stage}
use Rattle.orphan_sweep.specs.declared.stage.Stage.TheVariants.{TakingTree, GettingTree, Reading, Listing, Removing, Releasing, Finished}
use Rattle.orphan_sweep.specs.Pages.{top_spot, onward}
use Rattle.orphan_sweep.specs.Leases.{claims_of}
use Rattle.orphan_sweep.specs.Sweeping.{Sweeping, next_orphan, remove_next, ask_at, sweep_ask, handed, absorbed_at, sweep_next}
use Rattle.session_facts.specs.Machines.Sweeps.Knows.{IsClearing, MayStopSweep, KnowsAt, KnowsSweep, KnowsNext, KnowsAfter, leases_of_sweep}
use Rattle.session_facts.proofs.Machines.Sweeps.Clears.{listing_clears, removal_clears}
use Rattle.session_facts.proofs.Machines.Sweeps.Onward.{GoesOnTo, begins_at, page_goes}
use Rattle.session_facts.proofs.Machines.Sweeps.Nexts.{Stands, sweep_refusals, leads}
use Rattle.session_facts.proofs.Machines.Refusals.{got_may, listed_may, done_may}
use Rattle.session_facts.proofs.Machines.Sweeps.Reads.{root_reads, page_reads}
use Rattle.session_facts.proofs.Machines.Sweeps.Others.{sweep_later}

-- ---- what an answer shows

-- a removal landed, or it did not and was not done
pub removal_cases : (who : Caller) (name : ObjName) (l : Claim) (a : Answer) (s t : CloudState) → IsCall who (RemoveHeld name l) a s t
    → ((t ≡ called who t.now s) × (done_of a ≡ Ok tt → ⊥)) ⊎ Lands who (RemoveHeld name l) (called who t.now s) t
removal_cases who name l Done s t c = inr c.row
removal_cases who name l (Late e n) s t c = inl (c.row.0, λ done. cc (done))
removal_cases who name l Memory s t c = inl (c.row, λ done. cc (done))
removal_cases who name l Failed s t c = on c.row
  where
    on : (t ≡ called who t.now s) ⊎ Lands who (RemoveHeld name l) (called who t.now s) t
        → ((t ≡ called who t.now s) × (done_of Failed ≡ Ok tt → ⊥)) ⊎ Lands who (RemoveHeld name l) (called who t.now s) t
    on (inl e) = inl (e, λ done. cc (done))
    on (inr lands) = inr lands
removal_cases who name l (Got v) s t c = absurd c.row
removal_cases who name l (Sent id) s t c = absurd c.row
removal_cases who name l (Received ms) s t c = absurd c.row
removal_cases who name l (Listed ps) s t c = absurd c.row
removal_cases who name l (Given m) s t c = absurd c.row
removal_cases who name l (Held until) s t c = absurd c.row
removal_cases who name l (Renewed e) s t c = absurd c.row

-- ---- where what was read leads

module _ (who : Caller) (s t : CloudState) (book : Book) (order : List Entry) (stands : StandsUnder book order s) where
  abbrev Knew : Sweeping → Type 0
  Knew m = KnowsAt m.stage (store_of book order s) t.now m

  chained : (tree : ℕ) → IsTree tree → IsChained (book.chain tree) (nodes_of s tree) (roots_of s tree) ((store_of book order s).tally.done tree) ((store_of book order s).tally.cursor tree 0)
  chained tree of_tree = stands.holds.chains tree of_tree

  onward_goes : {m : Sweeping} {a : Answer} → IsTree m.tree → Knew m → IsCall who (sweep_ask m) a s t → (o : Option Spot) → Onward m a o → GoesOnTo (book.chain m.tree) m.visited o
  onward_goes of_tree k call o (step.from_root m None got root e) = absurd k.0
  onward_goes of_tree k call o (step.from_root m (Some l) got root e) =
      let both : Ok root ≡ Ok (top_of (roots_of s m.tree)) = sym e ∙ root_reads book order s stands m.tree of_tree got call.row.2 in
      let same : root ≡ top_of (roots_of s m.tree) = cc (both) in
      subst (λ (r : Tree). GoesOnTo (book.chain m.tree) m.visited (Some (top_spot r))) (sym same)
      (subst (λ (ps : List ℕ). GoesOnTo (book.chain m.tree) ps (Some (top_spot (top_of (roots_of s m.tree))))) (sym k.1)
      (begins_at (book.chain m.tree) (nodes_of s m.tree) (roots_of s m.tree) _ _ (chained m.tree of_tree)))
  onward_goes of_tree k call o (step.from_page m None got paths e) = absurd k
  onward_goes of_tree k call o (step.from_page m (Some l) got paths e) =
      let at = k.1 call.row.1 in
      let r = page_reads book order s stands m.tree of_tree m.at m.visited at got call.row.2 in
      let both : Ok r.0 ≡ Ok paths = sym r.1 ∙ e in
      let same : r.0 ≡ paths = cc (both) in
      subst (λ (p : Paths). GoesOnTo (book.chain m.tree) m.visited (onward m.at p)) same
      (page_goes (book.chain m.tree) (nodes_of s m.tree) (roots_of s m.tree) _ _ (chained m.tree of_tree) m.at m.visited at r.0 r.2)

  fails_may : {m : Sweeping} {a : Answer} → IsTree m.tree → Knew m → IsCall who (sweep_ask m) a s t → (why : Trouble) → Fails m a why → MayStopSweep why
  fails_may of_tree k call why (step.no_root m held a x e) = got_may sweep_refusals a x e
  fails_may of_tree k call why (step.no_page m held a x e) = got_may sweep_refusals a x e
  fails_may of_tree k call why (step.no_list m held a x e) = listed_may sweep_refusals a x e
  fails_may of_tree k call why (step.not_removed m held a x e) = done_may sweep_refusals a x e
  fails_may of_tree k call why (step.bad_root m None got x e) = absurd k.0
  fails_may of_tree k call why (step.bad_root m (Some l) got x e) = let is = root_reads book order s stands m.tree of_tree got call.row.2 in absurd (cc (e, is))
  fails_may of_tree k call why (step.bad_page m None got x e) = absurd k
  fails_may of_tree k call why (step.bad_page m (Some l) got x e) =
      let is = (page_reads book order s stands m.tree of_tree m.at m.visited (k.1 call.row.1) got call.row.2).1 in absurd (cc (e, is))
  fails_may of_tree k call why (step.round spot on seen) = let new = (onward_goes of_tree k call (Some spot) on).1 in absurd (cc (seen, new))

  clears_stand : {m : Sweeping} {a : Answer} → Knew m → IsCall who (sweep_ask m) a s t → (m.stage ≡ Removing → done_of a ≡ Ok tt → ⊥) → (q : Sweeping) → Clears m a q
      → Stands (store_of book order s) q
  clears_stand k call never q (step.listed m None pages) = absurd k
  clears_stand k call never q (step.listed m (Some l) pages) =
      let row = call.row.2 in
      (omega arith, listing_clears book order s stands m.tree m.visited pages (k.1 call.row.1) (record { ascending = row.ascending; have = row.have; whole = row.whole }))
  clears_stand k call never q (step.removed m held) = absurd (never refl refl)

-- behind a removal that landed
removal_stands : (st : Store) {m : Sweeping} {a : Answer} (page : ℕ) → m.stage ≡ Removing → IsClearing st m.tree m.visited m.orphans m.removed → slice_get m.orphans m.removed ≡ Some page
    → (q : Sweeping) → Clears m a q → Stands (after_removal m.tree page st) q
removal_stands st page removing known next q (step.listed m held pages) = absurd (cc (removing))
removal_stands st page removing known next q (step.removed m held) =
    let within = slice_get_within m.orphans m.removed page next in
    (omega (arith, within), removal_clears st m.tree m.visited m.orphans m.removed page known next)

-- ---- what it leaves

module _ (who : Caller) (s t : CloudState) (book : Book) (order : List Entry) (parts : Parts) (m : Sweeping) (reply : Answer) (stands : StandsUnder book order s)
    (homes : HomesHold (store_of book order s).tally t.now parts) where
  abbrev st : Store
  st = store_of book order s

  abbrev own : Part
  own = parts who.session

  still : HomesHold st.tally t.now (at who.session own parts)
  still = keeps_part st.tally t.now parts who.session own refl homes

  -- what is known behind a call where it stood so, wherever the answer leads
  abbrev After : Stage → Option Claim → Store → ℕ → Part → Type 0
  After stage held u now part = KnowsNext (absorbed_at stage (handed (leased m stage held)) reply) u now part

  abbrev OutBy : Stage → Option Claim → Ask → Type 0
  OutBy stage held ask = Outcome (footing book order s) t (actor parts who.session (claims_of held)) ask (λ a. a) (After stage held)

  -- ---- by where it stands

  module _ (stage : Stage) (held : Option Claim) (k : KnowsSweep st t.now (leased m stage held) own) (call : IsCall who (ask_at stage (leased m stage held)) reply s t) where
    abbrev n : Sweeping
    n = leased m stage held

    -- where the answer leads in a cloud with these chains
    after_in : (u : Store) → u.book ≡ book → ((q : Sweeping) → Clears n reply q → Stands u q) → After stage held u t.now own
    after_in u same clears =
        leads who s t st u own k call (fails_may who s t book order stands k.tree k.at call)
        (λ o on. subst (λ (b : Book). GoesOnTo (b.chain m.tree) m.visited o) (sym same) (onward_goes who s t book order stands k.tree k.at call o on)) clears (comes n reply)

    -- nothing is removed
    after : (stage ≡ Removing → done_of reply ≡ Ok tt → ⊥) → After stage held st t.now own
    after never = after_in st refl (clears_stand who s t book order stands k.at call never)

    quietly : (stage ≡ Removing → ⊥) → PutsNothing (ask_at stage n) → TouchesNoMessage (ask_at stage n) → OutBy stage held (ask_at stage n)
    quietly never puts touches =
        quiet who book order s t parts (claims_of held) (ask_at stage n) (λ a. a) (After stage held) reply call puts touches stands own still (after (λ at. absurd (never at)))

  -- a removal, where it landed and where it did not
  module _ (l : Claim) (k : KnowsSweep st t.now (leased m Removing (Some l)) own) (call : IsCall who (ask_at Removing (leased m Removing (Some l))) reply s t) where
    abbrev page : ℕ
    page = k.at.1.0

    next : next_orphan m ≡ Some page
    next = k.at.1.1

    abbrev remove : Ask
    remove = RemoveHeld (object.Page m.tree page) l

    abbrev su : Store
    su = after_removal m.tree page st

    removing : OutBy Removing (Some l) remove
    removing = on (removal_cases who (object.Page m.tree page) l reply s t (subst (λ (o : Option ℕ). IsCall who (remove_next (leased m Removing (Some l)) l o) reply s t) next call))
      where
        on : ((t ≡ called who t.now s) × (done_of reply ≡ Ok tt → ⊥)) ⊎ Lands who remove (called who t.now s) t → OutBy Removing (Some l) remove
        on (inl (e, never)) =
            stays who book order s t parts (l ∷ []) remove (λ a. a) (After Removing (Some l)) e stands own still (after Removing (Some l) k call (λ at. never))
        on (inr lands) =
            let lasts : Lasts t.now l = lands.1 in
            let clearing : IsClearing st m.tree m.visited m.orphans m.removed = k.at.0.1 lasts in
            other_landed who book order s t parts (l ∷ []) remove (λ a. a) (After Removing (Some l)) su lands stands
            (removes m.tree page l k.tree (clearing.left m.removed page (omega arith) next)) tt tt
            (record { lease = l; held = (zero, refl); lock_is = k.at.0.0; lasts = lasts }) own
            (aside_keeps st.tally su.tally t.now (at who.session own parts) refl refl still)
            (after_in Removing (Some l) k call su refl (removal_stands st page refl clearing next)) (λ look new. refl) refl

  -- ---- wherever it stands

  at_stage : (stage : Stage) (held : Option Claim) → KnowsSweep st t.now (leased m stage held) own → IsCall who (ask_at stage (leased m stage held)) reply s t
      → OutBy stage held (ask_at stage (leased m stage held))
  at_stage TakingTree None k call = quietly TakingTree None k call (λ e. cc (e)) tt tt
  at_stage TakingTree (Some l) k call = absurd k.at.0
  at_stage GettingTree (Some l) k call = quietly GettingTree (Some l) k call (λ e. cc (e)) tt tt
  at_stage GettingTree None k call = absurd k.at.0
  at_stage Reading (Some l) k call = quietly Reading (Some l) k call (λ e. cc (e)) tt tt
  at_stage Reading None k call = absurd k.at
  at_stage Listing (Some l) k call = quietly Listing (Some l) k call (λ e. cc (e)) tt tt
  at_stage Listing None k call = absurd k.at
  at_stage Removing (Some l) k call =
      let next : next_orphan m ≡ Some k.at.1.0 = k.at.1.1 in
      subst (λ (o : Option ℕ). OutBy Removing (Some l) (remove_next (leased m Removing (Some l)) l o)) (sym next) (removing l k call)
  at_stage Removing None k call = absurd k.at.0
  at_stage Releasing (Some l) k call = quietly Releasing (Some l) k call (λ e. cc (e)) tt tt
  at_stage Releasing None k call = absurd k.at
  at_stage Finished held k call = absurd k.at

-- a call of a sweep
pub sweep_outcome : (who : Caller) (s t : CloudState) (book : Book) (order : List Entry) (parts : Parts) (m : Sweeping) (reply : Answer)
    → Setting (footing book order s) t.now (actor parts who.session (leases_of_sweep m)) → KnowsSweep (store_of book order s) s.now m (parts who.session)
    → IsCall who (sweep_ask m) reply s t → Outcome (footing book order s) t (actor parts who.session (leases_of_sweep m)) (sweep_ask m) (λ a. a) (KnowsAfter m reply)
sweep_outcome who s t book order parts m reply setting k call =
    at_stage who s t book order parts m reply setting.cloud setting.homes m.stage m.held (sweep_later (store_of book order s) s.now t.now m (parts who.session) call.later k) call

-- it stops for no fault of the tree
pub sweep_stops : (who : Caller) (s t : CloudState) (book : Book) (order : List Entry) (parts : Parts) (reply : Answer) (m : Sweeping)
    → Setting (footing book order s) t.now (actor parts who.session (leases_of_sweep m)) → KnowsSweep (store_of book order s) s.now m (parts who.session)
    → IsCall who (sweep_ask m) reply s t → (n : Sweeping) (k : Trouble) → sweep_next m reply ≡ Stops n k → MayStopSweep k
sweep_stops who s t book order parts reply m setting knows call n k leads =
    let o = sweep_outcome who s t book order parts m reply setting knows call in
    (subst (λ x. KnowsNext x (store_of o.book_after o.order_after t) t.now o.part) leads o.knows).1
