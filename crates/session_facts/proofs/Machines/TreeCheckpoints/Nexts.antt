-- What a checkpoint knows where its answers lead, by what its step comes to.
use Rattle.std.proofs.Common.{◌≡◌, inl, inr, ℕ, suc, Bool, true, false, List, [], ◌∷◌, Option, Some, None, Ok, refl, sym, ap, subst, ◌∙◌}
use Rattle.ckpt_parts.specs.Deleting.{Deleting, tried_of}
use Rattle.ckpt_parts.specs.Leasing.{newest_lease, without_newest}
use Rattle.ckpt_parts.specs.declared.leases.Leases.{Leases}
use Rattle.cloud_facts.specs.Words.{IsTree, Trouble, Entry, Answer, CloudState, Caller, Claim, Next, Ends, Book, Store, IsIn, roots_of, store_of, done_of, IsCall, StandsUnder}
use Rattle.cloud_facts.proofs.Decoding.Values.{newest_root_decodes}
use Rattle.cloud_facts.specs.Book.Telling.{newest_root}
use Rattle.db_base.specs.declared.names.Lock.TheVariants as lock
use Rattle.node_codec.proofs.SpellingLaws.{tree_only}
use Rattle.session_facts.specs.Machines.Folds.Nexts.{KnowsStep}
use Rattle.session_facts.specs.Machines.Risings.Knows.{RisesOn}
use Rattle.session_facts.specs.Machines.Runs.Knows.{MayDelete}
use Rattle.session_facts.specs.Machines.TreeCheckpoints.Knows.{IsUnder, OfPage, HoldsLast, MayStopTree, KnowsOnward, KnowsWork, KnowsWorkNext}
use Rattle.session_facts.specs.Machines.Trees.Leaves.{KnowsLeaf}
use Rattle.session_facts.proofs.Machines.Risings.Nexts.{rises_from}
use Rattle.session_facts.proofs.Machines.Risings.Stays.{StaysIn, rise_stays, rising_stays_in}
use Rattle.session_facts.proofs.Machines.Risings.Stops.{rise_may, rising_may}
use Rattle.session_facts.proofs.Machines.TreeCheckpoints.Keys.{all_below}
use Rattle.session_facts.proofs.Machines.TreeCheckpoints.Onward.{IsDown, received, sought, down}
use Rattle.session_facts.proofs.Machines.TreeCheckpoints.Reads.{root_read}
use Rattle.session_facts.proofs.Machines.TreeCheckpoints.Stops.{StopsWell, tree_refusals}
use Rattle.session_facts.proofs.Machines.Refusals.{got_may, received_may, given_may}
use Rattle.session_facts.proofs.Machines.Trees.WayCharts.{KeepsChart}
use Rattle.tree_ckpt.proofs.Leaving.{SameLeaf, LeavesLeaf, next_leaves}
use Rattle.tree_ckpt.proofs.Outcomes.{Seeks, Descends, Ascends, Clears, Fails, Comes, has_ids}
use Rattle.tree_ckpt.proofs.Outcomes as step
use Rattle.tree_ckpt.specs.declared.work.Held.{Held}
use Rattle.tree_ckpt.specs.declared.work.Work.{Work}
use Rattle.tree_ckpt.specs.declared.work.Work.TheVariants as work
use Rattle.tree_ckpt.specs.Leases.{OfTree}
use Rattle.tree_ckpt.specs.Moves.{Step, went, leaf_of, onward_from}
use Rattle.tree_ckpt.specs.Work.{work_ask}
use Rattle.tree_phases.specs.declared.chart.Chart.{Chart}
use Rattle.tree_phases.specs.declared.descent.Descent.{Descent}
use Rattle.tree_phases.specs.declared.folding.Folding.{Folding}
use Rattle.tree_phases.specs.declared.folding.Left.{Left}
use Rattle.tree_phases.specs.declared.folding.Left.TheVariants as left
use Rattle.tree_phases.specs.declared.rising.Rising.{Rising}
use Rattle.tree_phases.specs.Folding.{folding_next}
use Rattle.tree_phases.specs.Folding as fold
use Rattle.tree_phases.specs.Rising.{begun, rise, rising_next}

-- the id that was tried is left out
tried_in : (ids : List ℕ) (d : Deleting) (b : Bool) → d.ids ≡ ids → (id : ℕ) → IsIn (tried_of ids d b).ids id → IsIn d.ids id
tried_in [] d b e id there = there
tried_in (x ∷ ids) d true e id there = subst (λ (l : List ℕ). IsIn l id) (sym e) (suc there.0, there.1)
tried_in (x ∷ ids) d false e id there = subst (λ (l : List ℕ). IsIn l id) (sym e) (suc there.0, there.1)

-- ---- leases

under_kept : (tree : ℕ) (l : Claim) (c e : Chart) → IsUnder tree l c.tree → KeepsChart c e → IsUnder tree l e.tree
under_kept tree l c e under same = record { lock_is = under.lock_is; tree_is = ap (λ (x : Chart). x.tree) same ∙ under.tree_is }

leaf_lock : (st : Store) (now : ℕ) (l : Claim) (f : Folding) (ids : List ℕ) → KnowsLeaf st now l f ids → f.lease.lock ≡ lock.Page f.chart.tree f.page
leaf_lock st now l f ids (inl reading) = reading.at.lock_is
leaf_lock st now l f ids (inr putting) = putting.lock_is

page_of : (tree : ℕ) (f g : Folding) → SameLeaf f g → f.chart.tree ≡ tree → f.lease.lock ≡ lock.Page f.chart.tree f.page → OfPage tree g.lease
page_of tree f g same tree_is is = record {
  page = f.page;
  lock_is = ap (λ (l : Claim). l.lock) same.lease ∙ (is ∙ ap (λ (t : ℕ). lock.Page t f.page) tree_is);
}

last_left : (tree : ℕ) (first second : Option Claim) (l : Claim) → HoldsLast tree first second → newest_lease (without_newest (record { first = first; second = second })) ≡ Some l
    → HoldsLast tree (without_newest (record { first = first; second = second })).first (without_newest (record { first = first; second = second })).second
last_left tree (Some l) (Some leaf) m own e = own.0
last_left tree (Some l) None m own e = absurd (cc (e))
last_left tree None second m own e = absurd own

module _ (who : Caller) (s t : CloudState) (book : Book) (order : List Entry) (stands : StandsUnder book order s) (tree : ℕ) (of_tree : IsTree tree) (u : Store) where
  abbrev st : Store
  st = store_of book order s

  -- What is known behind a call that puts something or deletes a message, in the cloud as it is then. Any other leaves the cloud as it was.
  abbrev pub Behind : Work → Answer → Type 0
  Behind (work.Folding h f) a = KnowsStep u t.now h.lease h.deletions.ids (folding_next f a) × StopsWell (folding_next f a)
  Behind (work.Rising h r) a = RisesOn u t.now h.lease h.deletions.ids (rising_next r a)
  Behind (work.Deleting h applied) a = MayDelete u tree 0 h.deletions.ids
  Behind w a = u ≡ st

  seeks_quietly : {w : Work} {a : Answer} {h : Held} {c : Chart} → Behind w a → Seeks tree w a h c → u ≡ st
  seeks_quietly same (step.with_run l root ms i takes some) = same
  seeks_quietly same (step.from_leaf h l c a) = same
  seeks_quietly same (step.alone h c a) = same

  descends_quietly : {w : Work} {a : Answer} {h : Held} {next : Next Descent (Unit {0})} → Behind w a → Descends tree w a h next → u ≡ st
  descends_quietly b (step.begins key from e) = seeks_quietly b from
  descends_quietly same (step.goes_on h d a) = same

  quietly : (w : Work) → u ≡ st → KnowsWork st t.now tree w → KnowsWork u t.now tree w
  quietly w same k = subst (λ (x : Store). KnowsWork x t.now tree w) (sym same) k

  -- ---- up

  record IsUp (h : Held) (next : Next Rising (Unit {0})) : Type 0 where
    own : OfTree tree h.lease
    stays : StaysIn tree next
    may : StopsWell next
    known : RisesOn u t.now h.lease h.deletions.ids next

  up : {w : Work} {a : Answer} {h : Held} {next : Next Rising (Unit {0})} → KnowsWork st t.now tree w → IsCall who (work_ask tree w) a s t → Behind w a → Ascends tree w a h next → IsUp h next
  up {h = h} k call b (step.begins_up {c = c} from e) =
      let is = sought who s t book order stands tree of_tree k call from in
      let rest = is.1 in record {
        own = is.0.lock_is;
        stays = subst (λ (n : ℕ). StaysIn n (rise (begun c))) is.0.tree_is (rise_stays (begun c));
        may = rise_may st t.now h.lease (begun c) rest.chart.nodes;
        known = subst (λ (x : Store). RisesOn x t.now h.lease h.deletions.ids (rise (begun c))) (sym (seeks_quietly b from))
            (rises_from book order s stands t.now h.lease c h.deletions.ids rest.chart rest.apart
            (record { took = rest.run.took; done = λ x there. rest.run.done x there (all_below c.from c.run.items e x there) }));
      }
  up k call leads (step.goes_up h r a) = record {
    own = k.0.lock_is;
    stays = subst (λ (n : ℕ). StaysIn n (rising_next r a)) k.0.tree_is (rising_stays_in r a);
    may = rising_may st t.now h.lease r h.deletions.ids k.1 a;
    known = leads;
  }

  -- ---- a leaf

  onward : (h : Held) (f g : Folding) (out : Left) → IsUnder tree h.lease f.chart.tree → SameLeaf f g → KnowsStep u t.now h.lease h.deletions.ids (Ends g out)
      → KnowsOnward u t.now tree h (onward_from g out)
  onward h f g (left.Right low page) under same k = (record { lock_is = under.lock_is; tree_is = same.tree ∙ under.tree_is }, k)
  onward h f g left.Handled under same k = (record { lock_is = under.lock_is; tree_is = same.tree ∙ under.tree_is }, k)

  -- ---- deletions, and why it stops

  clears : {w : Work} {a : Answer} {h : Held} {applied : ℕ} → KnowsWork st t.now tree w → IsCall who (work_ask tree w) a s t → Behind w a → Clears tree w a h applied
      → OfTree tree h.lease × MayDelete u tree 0 h.deletions.ids
  clears k call same (step.no_run l root ms i takes none) =
      (k.0, subst (λ (x : Store). MayDelete x tree 0 i.deletions.ids) (sym same) ((received who s t book order stands tree of_tree l root ms (Ok i) k call takes).1 none))
  clears {h = h} k call b (step.risen r x on) =
      let is : IsUp h (Ends r x) = up k call b on in (is.own, subst (λ (n : ℕ). MayDelete u n 0 h.deletions.ids) is.stays is.known)
  clears k call may (step.one_tried h applied a) = (k.0, λ id there. may id (tried_in h.deletions.ids h.deletions (went (done_of a)) refl id there))

  fails : {w : Work} {a : Answer} {held : Leases} {why : Trouble} → KnowsWork st t.now tree w → IsCall who (work_ask tree w) a s t → Behind w a → Fails tree w a held why
      → HoldsLast tree held.first held.second × MayStopTree why
  fails k call b (step.no_tree l a why e) = (k, got_may tree_refusals a why e)
  fails k call b (step.bad_tree l bytes e) =
      let some = tree_only bytes (newest_root (roots_of s) tree) (newest_root_decodes s tree bytes stands.decodes (sym call.row.2)) in absurd (cc (some, e))
  fails k call b (step.no_messages l root a why e) = (k.0, received_may tree_refusals a why e)
  fails k call b (step.bad_message l root ms why takes) = absurd (received who s t book order stands tree of_tree l root ms _ k call takes)
  fails k call b (step.no_lease h c a why e) = (k.0.lock_is, given_may tree_refusals (λ k until. tt) (lock.Page c.chart.tree c.page) a why e)
  fails k call b (step.no_way d why way) = let is = down who s t book order stands tree of_tree k call way in (is.under.lock_is, is.may)
  fails k call b (step.no_leaf h f g a why e) =
      let same : SameLeaf f g = subst (LeavesLeaf f) e (next_leaves f a) in
      ((k.0.lock_is, page_of tree f g same k.0.tree_is (leaf_lock st t.now h.lease f h.deletions.ids k.1)), subst StopsWell e b.1)
  fails k call b (step.no_ascent r why on) = let is = up k call b on in (is.own, is.may)

  -- ---- a step

  pub work_leads : {w : Work} {a : Answer} {next : Step} → KnowsWork st t.now tree w → IsCall who (work_ask tree w) a s t → Behind w a → Comes tree w a next → KnowsWorkNext u t.now tree next
  work_leads k call b (step.takes_tree l) = ap (λ (x : Claim). x.lock) call.row.1
  work_leads k call b (step.refused a why e) = given_may tree_refusals (λ k until. tt) (lock.Tree tree) a why e
  work_leads k call same (step.reads_tree l got is) = quietly (work.Receiving l got) same (k, root_read book order s stands t.now l tree got call.row.2)
  work_leads k call b (step.stops held why f) = fails k call b f
  work_leads k call b (step.descends h d way) =
      let is = down who s t book order stands tree of_tree k call way in
      quietly (work.Descending h d) (descends_quietly b way) (under_kept tree h.lease is.chart d.chart is.under is.apart.0, is.known)
  work_leads k call b (step.arrives h d x way) =
      let is : IsDown who s t book order stands tree of_tree h (Ends d x) = down who s t book order stands tree of_tree k call way in
      quietly (work.TakingPage h (leaf_of d)) (descends_quietly b way) (under_kept tree h.lease is.chart d.chart is.under is.apart.0, is.known)
  work_leads k call same (step.takes_page h c l) =
      let come = k.1 in
      quietly (work.Folding h (fold.begun c.chart l c.page c.low c.visited)) same (
        k.0,
        inl (record {
          at = record { chart = come.rest.chart; way = come.way; lock_is = ap (λ (x : Claim). x.lock) call.row.1 };
          run = come.rest.run;
          apart = come.rest.apart;
          least = come.least;
          placing_is = refl;
        }),
      )
  work_leads k call b (step.folds h f g a e) =
      let same : SameLeaf f g = subst (LeavesLeaf f) e (next_leaves f a) in
      (record { lock_is = k.0.lock_is; tree_is = same.tree ∙ k.0.tree_is }, inr (subst (KnowsStep u t.now h.lease h.deletions.ids) e b.0))
  work_leads k call b (step.leaves h f g out a e) =
      let same : SameLeaf f g = subst (LeavesLeaf f) e (next_leaves f a) in
      (page_of tree f g same k.0.tree_is (leaf_lock st t.now h.lease f h.deletions.ids k.1), onward h f g out k.0 same (subst (KnowsStep u t.now h.lease h.deletions.ids) e b.0))
  work_leads k call same (step.turns h l c a) = quietly (work.TakingPage h c) same k.1
  work_leads k call b (step.turns_alone h c a) = absurd k
  work_leads k call b (step.ascends h r on) = let is = up k call b on in (record { lock_is = is.own; tree_is = is.stays }, is.known)
  work_leads k call b (step.deletes h applied id c e) = let is = clears k call b c in (is.0, is.1, has_ids h.deletions.ids id e)
  work_leads k call b (step.rests h applied c e) = ((clears k call b c).0, tt)
  work_leads k call b (step.gives_back held l end a e) = (last_left tree held.first held.second l k.0 e, k.1)
  work_leads k call b (step.ends held x a e) = tt
  work_leads k call b (step.stopped held why a e) = k.1
  work_leads k call b (step.nothing a) = absurd k
