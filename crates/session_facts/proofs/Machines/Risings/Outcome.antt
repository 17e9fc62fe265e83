-- What each put of the way up leaves, whether it landed or not.
use Rattle.std.proofs.Common.{◌≡◌, ◌+◌, ◌⊎◌, inl, inr, ℕ, List, [], ◌∷◌, ◌++◌, length, map, reverse, Option, Some, None, Result, Ok, Err, refl, sym, ap, subst, ◌∙◌}
use Rattle.cloud_facts.specs.Calls.Acting.{footing, actor, Aside, Setting, Outcome}
use Rattle.cloud_facts.specs.Words.{Trouble, ObjName, Entry, Head, Answer, CloudState, called, Caller, Claim, Lasts, Ask, PutHeld, done_of, Book, Store, at, IsIn, store_of, IsCall, StandsUnder}
use Rattle.cloud_facts.specs.Calls.Looks.{audit_of}
use Rattle.cloud_facts.proofs.Calls.Calls.{put_cases, put_lasts}
use Rattle.cloud_facts.proofs.Calls.StandingLemmas.{landing_tells, effect_stands, same_stands}
use Rattle.cloud_trait.specs.Ask.{Lands, effect}
use Rattle.db_base.specs.declared.names.Lock.TheVariants as lock
use Rattle.db_base.specs.declared.names.ObjName.TheVariants as object
use Rattle.history.specs.Audited.{Audited}
use Rattle.cloud_facts.specs.Homes.Homes.{Part as Home, Parts, HomesHold}
use Rattle.cloud_facts.proofs.Homes.HomeLemmas.{keeps_part, aside_keeps}
use Rattle.split_plan.specs.Part.{NodePart}
use Rattle.split_plan.specs.Plan.{put_of, on_pages, node_bytes}
use Rattle.cloud_facts.proofs.Tellings.Asks.{told_store}
use Rattle.tree_phases.specs.declared.rising.Rising.{Rising}
use Rattle.tree_phases.specs.Rising.{rising_ask, rising_next, risen_by, put_landed as risen}
use Rattle.session_facts.specs.Machines.Risings.Knows.{PutsNode, PutsWhole, PutsCut, PutsRoot, whole, cut, PutsOf, KnowsRising, RisesOn}
use Rattle.session_facts.proofs.Machines.Trees.Placings.{last_cases, puts_more}
use Rattle.session_facts.proofs.Machines.Risings.Effects.{holder, ascent, RisingEffect, reserving_asked, page_asked, last_asked}
use Rattle.session_facts.proofs.Machines.Risings.LastPuts.{new_puts, whole_effect, cut_piece_effect, above_effect}
use Rattle.session_facts.proofs.Machines.Risings.Puts.{piece_effect, left_effect}
use Rattle.session_facts.proofs.Machines.Risings.Reserves.{node_reserves, root_reserves}
use Rattle.cloud_facts.proofs.Calls.Outcomes.{stays, put_landed}

-- what is known after an answer
abbrev pub KnowsAfterRising : Rising → Claim → List ℕ → Answer → Store → ℕ → Type 0
KnowsAfterRising r lease ids reply u now = RisesOn u now lease ids (rising_next r reply)

module _ (who : Caller) (s t : CloudState) (book : Book) (order : List Entry) (parts : Parts) (mine : List Claim) (note : Audited → Audited) (lease : Claim) (r : Rising) (ids : List ℕ)
    (reply : Answer) (setting : Setting (footing book order s) t.now (actor parts who.session mine)) (held : IsIn mine lease) (lock_is : lease.lock ≡ lock.Tree r.chart.tree)
    (same_note : note (audit_of book order) ≡ audit_of book order) (k : KnowsRising (store_of book order s) t.now lease r ids) (call : IsCall who (rising_ask r lease) reply s t) where
  abbrev st : Store
  st = store_of book order s

  abbrev tree : ℕ
  tree = r.chart.tree

  abbrev own : Home
  own = parts who.session

  abbrev Known : Store → ℕ → Home → Type 0
  Known = Aside st own (KnowsAfterRising r lease ids reply)

  still : HomesHold st.tally t.now (at who.session own parts)
  still = keeps_part st.tally t.now parts who.session own refl setting.homes

  -- where a put leads, by whether it was done
  put_leads : (u : Store) → (done_of reply ≡ Ok tt → RisesOn u t.now lease ids (risen r)) → RisesOn u t.now lease ids (rising_next r reply)
  put_leads u knows = on (done_of reply) refl
    where
      on : (g : Result (Unit {0}) Trouble) → done_of reply ≡ g → RisesOn u t.now lease ids (risen_by r g)
      on (Ok tt) e = knows e
      on (Err trouble) e = tt

  abbrev EffectOf : ObjName → List ℕ → Type 0
  EffectOf name bytes = RisingEffect (footing book order s) who (holder own mine t.now) (ascent lease r ids) name bytes

  -- a put leaves what its effect is where it lands, and all as it was where it does not
  put_outcome : (name : ObjName) (bytes : List ℕ) → rising_ask r lease ≡ PutHeld name bytes lease None → (Lasts t.now lease → EffectOf name bytes)
      → Outcome (footing book order s) t (actor parts who.session mine) (rising_ask r lease) note Known
  put_outcome name bytes asked owed =
      subst (λ (ask : Ask). Outcome (footing book order s) t (actor parts who.session mine) ask note Known) (sym asked)
      (on (put_cases who name bytes lease None reply s t (subst (λ (ask : Ask). IsCall who ask reply s t) asked call)))
    where
      landed_so : Lands who (PutHeld name bytes lease None) (called who t.now s) t → Outcome (footing book order s) t (actor parts who.session mine) (PutHeld name bytes lease None) note Known
      landed_so lands = by (owed (put_lasts who name bytes lease None (called who t.now s) t lands))
        where
          by : EffectOf name bytes → Outcome (footing book order s) t (actor parts who.session mine) (PutHeld name bytes lease None) note Known
          by e =
              put_landed who book order s t parts mine note Known name bytes lease None e.after lands setting.cloud e.lands e.follows e.commits e.owes own
              (aside_keeps st.tally e.after.tally t.now (at who.session own parts) e.heads e.logged still)
              (record {
                part_is = refl;
                heads = λ client. ap (λ (f : ℕ → Head). f client) e.heads;
                knows = put_leads e.after (λ done. e.known (effect who (PutHeld name bytes lease None) (called who t.now s)) then_stands told);
              })
              (same_note ∙ sym e.noted)
            where
              first_stands : StandsUnder book order (called who t.now s)
              first_stands = same_stands book order s (called who t.now s) refl refl refl setting.cloud

              then_stands : StandsUnder e.after.book e.after.order (effect who (PutHeld name bytes lease None) (called who t.now s))
              then_stands = effect_stands who book order (called who t.now s) (PutHeld name bytes lease None) e.after first_stands e.lands e.follows

              told : store_of e.after.book e.after.order (effect who (PutHeld name bytes lease None) (called who t.now s)) ≡ e.after
              told =
                  told_store (effect who (PutHeld name bytes lease None) (called who t.now s)) e.after
                  (landing_tells who book order (called who t.now s) (PutHeld name bytes lease None) e.after first_stands.holds.chains first_stands.holds.gones first_stands.decodes e.lands e.follows)

      on : ((t ≡ called who t.now s) × (done_of reply ≡ Ok tt → ⊥)) ⊎ Lands who (PutHeld name bytes lease None) (called who t.now s) t
          → Outcome (footing book order s) t (actor parts who.session mine) (PutHeld name bytes lease None) note Known
      on (inl q) =
          stays who book order s t parts mine (PutHeld name bytes lease None) note Known q.0 setting.cloud own still
          (record { part_is = refl; heads = λ client. refl; knows = put_leads st (λ done. absurd (q.1 done)) })
      on (inr lands) = landed_so lands

  abbrev Out : Type 0
  Out = Outcome (footing book order s) t (actor parts who.session mine) (rising_ask r lease) note Known

  -- ---- the kinds of puts

  node_outcome : (p : PutsNode st t.now lease r) → r.last ≡ None → Out
  node_outcome p none = on r.placing.reserved refl
    where
      pieces : r.placing.reserved ≡ None → (p.placing.middle ≡ []) ⊎ ((middle : List NodePart) × (last : NodePart) × (p.placing.middle ≡ middle ++ last ∷ [])) → Out
      pieces nothing (inl is) =
          put_outcome (object.Page tree p.kept.page) (node_bytes p.placing.front)
          (page_asked r lease (record { page = p.kept.page; bytes = node_bytes p.placing.front }) [] nothing
          (p.placing.puts_are ∙ ap (λ (m : List NodePart). reverse (map (put_of node_bytes) (on_pages p.kept.page p.first (p.placing.front ∷ m)))) is))
          (λ lasts. left_effect book order s setting.cloud who own mine t.now lease r ids k lasts nothing p none is held lock_is)
      pieces nothing (inr q) = put_piece q.0 q.1 q.2
        where
          put_piece : (middle : List NodePart) (last : NodePart) → p.placing.middle ≡ middle ++ last ∷ [] → Out
          put_piece middle last is =
              put_outcome (object.Page tree (p.first + length middle)) (node_bytes last)
              (page_asked r lease (record { page = p.first + length middle; bytes = node_bytes last })
              (reverse (map (put_of node_bytes) (on_pages p.kept.page p.first (p.placing.front ∷ middle)))) nothing
              (p.placing.puts_are
              ∙ (ap (λ (m : List NodePart). reverse (map (put_of node_bytes) (on_pages p.kept.page p.first (p.placing.front ∷ m)))) is
              ∙ puts_more node_bytes p.kept.page p.first p.placing.front middle last)))
              (λ lasts. piece_effect book order s setting.cloud who own mine t.now lease r ids k lasts nothing p none middle last is)

      on : (o : Option (List ℕ)) → r.placing.reserved ≡ o → Out
      on (Some bytes) e =
          put_outcome (object.Tree tree) bytes (reserving_asked r lease bytes e)
          (λ lasts. node_reserves book order s setting.cloud who own mine t.now lease r ids k (k.root.newest lasts) bytes e p none)
      on None e = pieces e (last_cases p.placing.middle)

  whole_outcome : (bytes : List ℕ) → PutsWhole st r bytes → r.last ≡ Some bytes → Out
  whole_outcome bytes p is_last =
      put_outcome (object.Tree tree) bytes (last_asked r lease bytes p.nothing_reserved p.no_page is_last)
      (λ lasts. whole_effect book order s setting.cloud who own mine t.now lease r ids k lasts p.nothing_reserved bytes is_last p)

  cut_outcome : (bytes : List ℕ) → PutsCut st t.now lease r bytes → r.last ≡ Some bytes → Out
  cut_outcome bytes p is_last = on r.placing.reserved refl
    where
      pieces : r.placing.reserved ≡ None → (p.middle ≡ []) ⊎ ((middle : List NodePart) × (last : NodePart) × (p.middle ≡ middle ++ last ∷ [])) → Out
      pieces nothing (inl is) =
          put_outcome (object.Tree tree) bytes
          (last_asked r lease bytes nothing (p.puts_are ∙ ap (λ (m : List NodePart). reverse (map (put_of node_bytes) (on_pages p.first (p.first + 1) m))) is) is_last)
          (λ lasts. above_effect book order s setting.cloud who own mine t.now lease r ids k lasts nothing bytes is_last p is held lock_is)
      pieces nothing (inr q) = put_piece q.0 q.1 q.2
        where
          put_piece : (middle : List NodePart) (last : NodePart) → p.middle ≡ middle ++ last ∷ [] → Out
          put_piece middle last is =
              put_outcome (object.Page tree (p.first + length middle)) (node_bytes last)
              (page_asked r lease (record { page = p.first + length middle; bytes = node_bytes last }) (reverse (map (put_of node_bytes) (on_pages p.first (p.first + 1) middle))) nothing
              (p.puts_are ∙ (ap (λ (m : List NodePart). reverse (map (put_of node_bytes) (on_pages p.first (p.first + 1) m))) is ∙ new_puts node_bytes p.first middle last)))
              (λ lasts. cut_piece_effect book order s setting.cloud who own mine t.now lease r ids k lasts nothing bytes is_last p middle last is)

      on : (o : Option (List ℕ)) → r.placing.reserved ≡ o → Out
      on (Some reserving) e =
          put_outcome (object.Tree tree) reserving (reserving_asked r lease reserving e)
          (λ lasts. root_reserves book order s setting.cloud who own mine t.now lease r ids k (k.root.newest lasts) reserving e bytes p is_last)
      on None e = pieces e (last_cases p.middle)

  pub known_outcome : Out
  known_outcome = on r.last refl k.puts
    where
      root : (bytes : List ℕ) → r.last ≡ Some bytes → PutsRoot st t.now lease r bytes → Out
      root bytes e (whole p) = whole_outcome bytes p e
      root bytes e (cut p) = cut_outcome bytes p e

      on : (o : Option (List ℕ)) → r.last ≡ o → PutsOf st t.now lease r o → Out
      on None e p = node_outcome p e
      on (Some bytes) e p = root bytes e p
