-- What each call of a checkpoint leaves, whether it landed or not.
use Rattle.std.proofs.Common.{◌≡◌, ◌⊎◌, inl, inr, ℕ, zero, suc, List, [], ◌∷◌, Option, Some, None, Ok, refl, sym, ap, subst}
use Rattle.std.specs.Prelude.{unwrap_or}
use Rattle.std.proofs.lemmas.List.{append-nil}
use Rattle.ckpt_parts.specs.Deleting.{next_id}
use Rattle.ckpt_parts.specs.Leasing.{newest_lease}
use Rattle.cloud_facts.specs.Calls.Acting.{footing, actor, Aside, Setting, Outcome}
use Rattle.cloud_facts.specs.Words.{IsTree, Trouble, Entry, Answer, CloudState, called, newest, Caller, Claim, Ask, Get, GetHeld, PutHeld, Send, Receive, Delete, Take, Renew, Release, Goes, Ends, Stops, got_of, Book, Store, at, IsIn, store_of, IsCall}
use Rattle.cloud_facts.specs.Calls.Looks.{audit_of}
use Rattle.cloud_facts.proofs.Calls.Calls.{landed_or_not}
use Rattle.cloud_facts.proofs.Calls.Heads.{held_seen}
use Rattle.cloud_facts.proofs.Calls.Passing.{landing_passes}
use Rattle.cloud_trait.specs.Ask.{ListHeld, RemoveHeld, Lands, PutsNothing, TouchesNoMessage}
use Rattle.db_base.specs.declared.names.ObjName.TheVariants as object
use Rattle.db_base.specs.declared.names.QueueName.TheVariants as queue
use Rattle.history.specs.Audited.{Audited}
use Rattle.cloud_facts.specs.Homes.Homes.{Part, Parts, HomesHold}
use Rattle.cloud_facts.proofs.Homes.HomeLemmas.{keeps_part, aside_keeps}
use Rattle.cloud_facts.specs.Landings.Landing.{Landing, marks_post}
use Rattle.tree_phases.specs.declared.folding.Folding.{Folding}
use Rattle.tree_phases.specs.Folding.{folding_ask, folding_next}
use Rattle.session_facts.proofs.Machines.Runs.Marks.{delete_stays, may_mark}
use Rattle.cloud_facts.specs.Book.Effects.{after_post_mark}
use Rattle.cloud_facts.specs.Book.Growth.{Grows}
use Rattle.tree_ckpt.specs.Making.{Making, making_ask, MakingLeads}
use Rattle.tree_ckpt.specs.Leases.{HasIds}
use Rattle.session_facts.specs.Machines.TreeCheckpoints.Knows.{MayStopTree, KnowsWork, KnowsMaking, KnowsWorkNext, KnowsAfter, leases_of_making, making_note}
use Rattle.session_facts.proofs.Machines.TreeCheckpoints.Others.{lock_of, making_later}
use Rattle.session_facts.proofs.Machines.TreeCheckpoints.Nexts.{Behind, work_leads}
use Rattle.session_facts.proofs.Machines.Folds.Stops.{leaf_may, put_may}
use Rattle.session_facts.specs.Machines.Folds.Nexts.{fold_note, KnowsStep}
use Rattle.session_facts.specs.Machines.Risings.Knows.{RisesOn}
use Rattle.session_facts.proofs.Machines.Folds.Outcome.{put_outcome}
use Rattle.session_facts.proofs.Machines.Folds.Nexts.{leaf_leads}
use Rattle.session_facts.proofs.Machines.Risings.Outcome.{known_outcome}
use Rattle.cloud_facts.proofs.Calls.Outcomes.{stays, other_landed, quiet}
use Rattle.tree_ckpt.proofs.Outcomes.{comes}
use Rattle.tree_ckpt.specs.declared.work.Held.{Held}
use Rattle.tree_ckpt.specs.declared.work.Work.{Work}
use Rattle.tree_ckpt.specs.declared.work.Work.TheVariants as work
use Rattle.tree_ckpt.specs.Moves.{Step, Leads}
use Rattle.tree_ckpt.specs.Work.{delete_ask, release_ask, work_ask, claims_in}
use Rattle.tree_phases.specs.declared.placing.Placing.{Placing}
use Rattle.tree_phases.specs.Placing.{put_in_hand}
use Rattle.tree_phases.specs.declared.rising.Rising.{Rising}
use Rattle.tree_phases.specs.Rising.{rising_ask, rising_next}

-- less is known
pub less_known : (who : Caller) (book : Book) (order : List Entry) (s t : CloudState) (parts : Parts) (mine : List Claim) (ask : Ask) (note : Audited → Audited) (K L : Store → ℕ → Type 0)
    → ((u : Store) → K u t.now → L u t.now) → Outcome (footing book order s) t (actor parts who.session mine) ask note (Aside (store_of book order s) (parts who.session) K)
    → Outcome (footing book order s) t (actor parts who.session mine) ask note (Aside (store_of book order s) (parts who.session) L)
less_known who book order s t parts mine ask note K L less o = record {
  book_after = o.book_after;
  order_after = o.order_after;
  cloud = o.cloud;
  passes = o.passes;
  joins = o.joins;
  links = o.links;
  gone = o.gone;
  part = o.part;
  homes = o.homes;
  knows = record { part_is = o.knows.part_is; heads = o.knows.heads; knows = less (store_of o.book_after o.order_after t) o.knows.knows };
  noted = o.noted;
}

-- what a put adds to the audit, by where the checkpoint stands
abbrev note_at : Making → Work → Ask → Audited → Audited
note_at m w ask a = making_note (record m { work = w }) ask a

-- at a leaf it is what the leaf's put applies
leaf_note : (m : Making) (h : Held) (f : Folding) (ask : Ask) → fold_note f ask ≡ note_at m (work.Folding h f) ask
leaf_note m h f (PutHeld (object.Head client) bytes one two) = refl
leaf_note m h f (PutHeld (object.Page tree page) bytes one two) = refl
leaf_note m h f (PutHeld (object.Tree tree) bytes one two) = refl
leaf_note m h f (Get name) = refl
leaf_note m h f (GetHeld name l) = refl
leaf_note m h f (ListHeld tree l) = refl
leaf_note m h f (RemoveHeld name l) = refl
leaf_note m h f (Send queue bytes) = refl
leaf_note m h f (Receive queue most) = refl
leaf_note m h f (Delete queue id) = refl
leaf_note m h f (Take lock ticks) = refl
leaf_note m h f (Renew l ticks) = refl
leaf_note m h f (Release l) = refl

-- and nothing on the way up
up_note : (m : Making) (h : Held) (r : Rising) (ask : Ask) (a : Audited) → note_at m (work.Rising h r) ask a ≡ a
up_note m h r (PutHeld (object.Head client) bytes one two) a = refl
up_note m h r (PutHeld (object.Page tree page) bytes one two) a = ap (λ (o : List Entry). record a { order = o }) (append-nil a.order)
up_note m h r (PutHeld (object.Tree tree) bytes one two) a = refl
up_note m h r (Get name) a = refl
up_note m h r (GetHeld name l) a = refl
up_note m h r (ListHeld tree l) a = refl
up_note m h r (RemoveHeld name l) a = refl
up_note m h r (Send queue bytes) a = refl
up_note m h r (Receive queue most) a = refl
up_note m h r (Delete queue id) a = refl
up_note m h r (Take lock ticks) a = refl
up_note m h r (Renew l ticks) a = refl
up_note m h r (Release l) a = refl

module _ (who : Caller) (s t : CloudState) (book : Book) (order : List Entry) (parts : Parts) (mine : List Claim) (m : Making) (reply : Answer)
    (setting : Setting (footing book order s) t.now (actor parts who.session mine)) (of_tree : IsTree m.tree) where
  abbrev st : Store
  st = store_of book order s

  abbrev tree : ℕ
  tree = m.tree

  abbrev own : Part
  own = parts who.session

  -- what is known behind a call where it stood so, wherever the answer leads
  abbrev After : Work → Store → ℕ → Type 0
  After w u now = (next : Step) → Leads tree w reply next → KnowsWorkNext u now tree next

  abbrev OutBy : Work → Ask → Type 0
  OutBy w ask = Outcome (footing book order s) t (actor parts who.session mine) ask (note_at m w ask) (Aside st own (After w))

  still : HomesHold st.tally t.now (at who.session own parts)
  still = keeps_part st.tally t.now parts who.session own refl setting.homes

  module _ (w : Work) (k : KnowsWork st t.now tree w) (call : IsCall who (work_ask tree w) reply s t) where
    after : (u : Store) → Behind who s t book order setting.cloud tree of_tree u w reply → After w u t.now
    after u b next leads = work_leads who s t book order setting.cloud tree of_tree u k call b (comes tree w reply next leads)

    -- a call that neither puts nor touches a message
    quiet_at : PutsNothing (work_ask tree w) → TouchesNoMessage (work_ask tree w) → Behind who s t book order setting.cloud tree of_tree st w reply → OutBy w (work_ask tree w)
    quiet_at puts touches b =
        quiet who book order s t parts mine (work_ask tree w) (note_at m w (work_ask tree w)) (Aside st own (After w)) reply call puts touches setting.cloud own still
        (record { part_is = refl; heads = λ client. refl; knows = after st b })

  -- ---- a leaf

  at_leaf : (h : Held) (f : Folding) → IsIn mine h.lease → KnowsWork st t.now tree (work.Folding h f) → IsCall who (folding_ask f h.lease) reply s t → OutBy (work.Folding h f) (folding_ask f h.lease)
  at_leaf h f held (under, inl k) call =
      quiet_at (work.Folding h f) (under, inl k) call (subst PutsNothing (sym asked) tt) (subst TouchesNoMessage (sym asked) tt)
      (leaf_leads book order s setting.cloud t.now h.lease f h.deletions.ids k reply seen, leaf_may book order s setting.cloud t.now h.lease f h.deletions.ids k reply seen)
    where
      asked : folding_ask f h.lease ≡ GetHeld (object.Page f.chart.tree f.page) f.lease
      asked = ap (λ (p : Placing). unwrap_or (put_in_hand p f.chart.tree h.lease (Some f.lease)) (GetHeld (object.Page f.chart.tree f.page) f.lease)) k.placing_is

      seen : (v : Option (List ℕ)) → got_of reply ≡ Ok v → v ≡ newest s (object.Page f.chart.tree f.page)
      seen v = held_seen who (object.Page f.chart.tree f.page) f.lease reply s t (subst (λ (q : Ask). IsCall who q reply s t) asked call) v
  at_leaf h f held (under, inr k) call =
      subst (λ (note : Audited → Audited). Outcome (footing book order s) t (actor parts who.session mine) (folding_ask f h.lease) note (Aside st own (After (work.Folding h f))))
      (leaf_note m h f (folding_ask f h.lease))
      (less_known who book order s t parts mine (folding_ask f h.lease) (fold_note f (folding_ask f h.lease)) (λ u now. KnowsStep u now h.lease h.deletions.ids (folding_next f reply))
      (After (work.Folding h f)) (λ u on. after (work.Folding h f) (under, inr k) call u (on, put_may st t.now h.lease f h.deletions.ids k reply))
      (put_outcome who s t book order parts mine h.lease f h.deletions.ids reply setting.cloud setting.homes held (lock_of tree f.chart.tree h.lease under) k call))

  -- ---- a deletion

  module _ (h : Held) (applied : ℕ) (k : KnowsWork st t.now tree (work.Deleting h applied)) where
    at_deleting : (ids : List ℕ) → h.deletions.ids ≡ ids → HasIds ids → IsCall who (delete_ask tree (next_id h.deletions.ids)) reply s t → IsCall who (delete_ask tree (next_id ids)) reply s t
        → OutBy (work.Deleting h applied) (delete_ask tree (next_id ids))
    at_deleting [] e has asked call = absurd has
    at_deleting (id ∷ rest) e has asked call = on (landed_or_not who delete reply s t call)
      where
        delete : Ask
        delete = Delete (queue.TreePu tree) id

        landing : Landing who st (Delete (queue.TreePu tree) id) (after_post_mark tree 0 id st)
        landing = marks_post tree 0 id (may_mark st tree 0 id (k.1 id (subst (λ (l : List ℕ). IsIn l id) (sym e) (zero, refl))))

        su : Store
        su = after_post_mark tree 0 id st

        grows : Grows st su
        grows = (landing_passes who st delete su setting.cloud.holds landing).grows

        on : (t ≡ called who t.now s) ⊎ Lands who delete (called who t.now s) t → OutBy (work.Deleting h applied) delete
        on (inl q) =
            stays who book order s t parts mine delete (note_at m (work.Deleting h applied) delete) (Aside st own (After (work.Deleting h applied))) q setting.cloud own still
            (record { part_is = refl; heads = λ client. refl; knows = after (work.Deleting h applied) k asked st k.1 })
        on (inr lands) =
            other_landed who book order s t parts mine delete (note_at m (work.Deleting h applied) delete) (Aside st own (After (work.Deleting h applied))) su lands setting.cloud landing tt tt tt own
            (aside_keeps st.tally su.tally t.now (at who.session own parts) refl refl still)
            (record { part_is = refl; heads = λ client. refl; knows = after (work.Deleting h applied) k asked su (delete_stays st su tree 0 h.deletions.ids grows k.1) }) (λ look new. refl) refl

  -- ---- wherever it stands

  at_rising : (h : Held) (r : Rising) → IsIn mine h.lease → KnowsWork st t.now tree (work.Rising h r) → IsCall who (rising_ask r h.lease) reply s t → OutBy (work.Rising h r) (rising_ask r h.lease)
  at_rising h r held k call =
      less_known who book order s t parts mine (rising_ask r h.lease) (note_at m (work.Rising h r) (rising_ask r h.lease)) (λ u now. RisesOn u now h.lease h.deletions.ids (rising_next r reply))
      (After (work.Rising h r)) (after (work.Rising h r) k call)
      (known_outcome who s t book order parts mine (note_at m (work.Rising h r) (rising_ask r h.lease)) h.lease r h.deletions.ids reply setting held (lock_of tree r.chart.tree h.lease k.0)
      (up_note m h r (rising_ask r h.lease) (audit_of book order)) k.1 call)

  -- a release neither puts nor touches a message
  release_quiet : (l : Option Claim) → PutsNothing (release_ask tree l) × TouchesNoMessage (release_ask tree l)
  release_quiet (Some l) = (tt, tt)
  release_quiet None = (tt, tt)

  work_outcome : (w : Work) → ((x : Claim) → IsIn (claims_in w) x → IsIn mine x) → KnowsWork st t.now tree w → IsCall who (work_ask tree w) reply s t → OutBy w (work_ask tree w)
  work_outcome work.TakingTree within k call = quiet_at work.TakingTree k call tt tt refl
  work_outcome (work.GettingTree l) within k call = quiet_at (work.GettingTree l) k call tt tt refl
  work_outcome (work.Receiving l root) within k call = quiet_at (work.Receiving l root) k call tt tt refl
  work_outcome (work.Descending h d) within k call = quiet_at (work.Descending h d) k call tt tt refl
  work_outcome (work.TakingPage h c) within k call = quiet_at (work.TakingPage h c) k call tt tt refl
  work_outcome (work.Folding h f) within k call = at_leaf h f (within h.lease (suc zero, refl)) k call
  work_outcome (work.ReleasingPage h l o) within k call = quiet_at (work.ReleasingPage h l o) k call tt tt refl
  work_outcome (work.LeftPage h o) within k call = absurd k
  work_outcome (work.Rising h r) within k call = at_rising h r (within h.lease (zero, refl)) k call
  work_outcome (work.Deleting h applied) within k call = at_deleting h applied k h.deletions.ids refl k.2 call call
  work_outcome (work.Releasing held end) within k call =
      let still = release_quiet (newest_lease held) in quiet_at (work.Releasing held end) k call still.0 still.1 refl
  work_outcome work.Finished within k call = absurd k

-- ---- a call of a checkpoint

pub making_outcome : (who : Caller) (s t : CloudState) (book : Book) (order : List Entry) (parts : Parts) (leases : List Claim) (m : Making) (reply : Answer)
    → Setting (footing book order s) t.now (actor parts who.session leases) → ((x : Claim) → IsIn (leases_of_making m) x → IsIn leases x) → KnowsMaking (store_of book order s) s.now m
    → IsCall who (making_ask m) reply s t
    → Outcome (footing book order s) t (actor parts who.session leases) (making_ask m) (making_note m (making_ask m)) (Aside (store_of book order s) (parts who.session) (KnowsAfter m reply))
making_outcome who s t book order parts leases m reply setting within knows call =
    less_known who book order s t parts leases (making_ask m) (making_note m (making_ask m)) (After who s t book order parts leases m reply setting knows.tree m.work) (KnowsAfter m reply) after
    (work_outcome who s t book order parts leases m reply setting knows.tree m.work within (making_later (store_of book order s) s.now t.now m call.later knows).work call)
  where
    after : (u : Store) → ((next : Step) → Leads m.tree m.work reply next → KnowsWorkNext u t.now m.tree next) → KnowsAfter m reply u t.now
    after u k (Goes n) leads =
        let same : m.tree ≡ n.tree = sym leads.0.0 in
        record { tree = subst IsTree same knows.tree; work = subst (λ (tree : ℕ). KnowsWork u t.now tree n.work) same (k (Goes n.work) leads.1) }
    after u k (Ends n x) leads = tt
    after u k (Stops n trouble) leads = k (Stops n.work trouble) leads.1

-- why it stops, whatever was answered: for no page, no fence and no way that is broken
pub making_stops : (who : Caller) (s t : CloudState) (book : Book) (order : List Entry) (parts : Parts) (leases : List Claim) (m : Making) (reply : Answer)
    → Setting (footing book order s) t.now (actor parts who.session leases) → ((x : Claim) → IsIn (leases_of_making m) x → IsIn leases x) → KnowsMaking (store_of book order s) s.now m
    → IsCall who (making_ask m) reply s t → (n : Making) (trouble : Trouble) → MakingLeads m reply (Stops n trouble) → MayStopTree trouble
making_stops who s t book order parts leases m reply setting within knows call n trouble leads =
    (making_outcome who s t book order parts leases m reply setting within knows call).knows.knows (Stops n trouble) leads
