-- Why a commit ends with nothing committed, or stays open: while its lease lasts its walks know their way, and no object is damaged.
use Rattle.std.proofs.Common.{◌≡◌, ◌∙◌, ℕ, Bool, true, false, List, length, Option, Some, None, Result, Ok, Err, refl, sym, subst}
use Rattle.cloud_facts.specs.Words.{IsTree, Trouble, CommitAnswer, ObjName, Entry, Leaf, Tree, Answer, CloudState, Caller, Next, Goes, Ends, Stops, done_of, sent_of, Book, Store, store_of, IsCall, StandsUnder}
use Rattle.cloud_trait.specs.declared.answer.Answer.TheVariants.{Sent, Done, Memory}
use Rattle.cloud_trait.specs.Views.{trouble_of}
use Rattle.session_facts.specs.Machines.Commits.Knows.{MayCommit}
use Rattle.session_facts.proofs.Machines.Commits.Near.{IsNear, near_routed}
use Rattle.session_facts.proofs.Machines.Commits.Begins.{KnowsHeld}
use Rattle.commit_run.specs.declared.hand.Hand.{Hand}
use Rattle.commit_run.specs.declared.hand.Hand.TheVariants.{Writes, First, Change}
use Rattle.commit_run.specs.Draft.{Draft, pruned_by_root, pruned_by_kept, pruned_with, planned}
use Rattle.commit_run.specs.Run.{Run, new_run, asks, ask_at, wrote, is_stale, walked, run_ready, next_at, run_next}
use Rattle.commit_run.proofs.Outcomes.{Begins, Plans, Behind, Comes, comes, Starts, starts, used_kept}
use Rattle.commit_run.proofs.Outcomes as run
use Rattle.session_facts.specs.Machines.CommitRuns.Knows.{KnowsSeeking, KnowsHand, KnowsRun}
use Rattle.session_facts.specs.Machines.Openings.Client.{AreCounted}
use Rattle.session_facts.specs.Machines.CommitRuns.Stops.{MayStopCommit, EndsBy}
use Rattle.session_facts.proofs.Machines.CommitRuns.Begins.{long_tree}
use Rattle.session_facts.proofs.Machines.CommitRuns.Nexts.{RunStep}
use Rattle.commit_writes.specs.declared.stage.Stage.{Stage}
use Rattle.commit_writes.specs.declared.stage.Stage.TheVariants.{Waiting, Logging, Opening, Sending, Settling, Deleting, Finished}
use Rattle.commit_writes.specs.Writing.{Writing, writing_next}
use Rattle.commit_writes.proofs.Outcomes as written
use Rattle.commit_writes.proofs.Outcomes.{IsUnderWay, Leaves, Comes as Wrote, comes as wrote_by}
use Rattle.db_base.specs.declared.names.ObjName.TheVariants as object
use Rattle.db_base.specs.declared.trouble.Counter.TheVariants as counter
use Rattle.db_base.specs.declared.trouble.Trouble.TheVariants as trouble
use Rattle.head_codec.specs.declared.lists.QueueCount.{QueueCount}
use Rattle.cloud_facts.specs.Homes.Homes.{Part}
use Rattle.cloud_facts.specs.Landings.Holding.{Holds}
use Rattle.page_cache.specs.Cache.{Cache}
use Rattle.page_cache.specs.Held.{leaf_at, root_at}
use Rattle.recover_run.specs.declared.home.Home.{Home as Owner}
use Rattle.tree_walk.specs.Walk.{Walk, object_of, walk_next}
use Rattle.txn_buffer.specs.Noted.{Noted}
use Rattle.session_facts.specs.Machines.Walks.Caches.{KnowsCache}
use Rattle.session_facts.specs.Machines.Walks.Knows.{WalkLeads, MayStopWalk}
use Rattle.session_facts.proofs.Machines.Walks.Beside.{LeavesKnown, turn_leaves}
use Rattle.session_facts.proofs.Machines.Walks.Outcome.{walk_begins, call_answers, walk_goes}
use Rattle.session_facts.proofs.Machines.Refusals.{TakesRefusals, refused_may}

-- ---- what may be answered

-- what brings no value has a trouble that may come
abbrev pub IsFair : {X : Type 0} → (Trouble → Type 0) → Result X Trouble → Type 0
IsFair May (Ok x) = Unit {0}
IsFair May (Err t) = May t

-- a put that commits and was not late is in doubt: it failed
abbrev pub MayDoubt : (Trouble → Type 0) → Trouble → Type 0
MayDoubt May (trouble.Late end now) = May (trouble.Late end now)
MayDoubt May trouble.Memory = May trouble.Memory
MayDoubt May t = May trouble.Failed

abbrev pub IsOpeningFair : {X : Type 0} → (Trouble → Type 0) → Result X Trouble → Type 0
IsOpeningFair May (Ok x) = Unit {0}
IsOpeningFair May (Err t) = MayDoubt May t

-- of the call in hand of each stage; a deletion may fail
abbrev pub MayAnswerAt : (Trouble → Type 0) → Stage → Answer → Type 0
MayAnswerAt May Waiting a = May trouble.Failed
MayAnswerAt May Logging a = IsFair May (sent_of a)
MayAnswerAt May Opening a = IsOpeningFair May (done_of a)
MayAnswerAt May Sending a = IsFair May (sent_of a)
MayAnswerAt May Settling a = IsFair May (done_of a)
MayAnswerAt May Deleting a = May trouble.Memory
MayAnswerAt May Finished a = May trouble.Failed

-- and of a run: its walk leads where its get may
abbrev pub MayAnswerIn : (Trouble → Type 0) → (Trouble → Type 0) → Store → Hand → Run × Cache → Answer → Type 0
MayAnswerIn May MayWalk st Writes m a = MayAnswerAt May m.0.draft.writes.stage a
MayAnswerIn May MayWalk st (First w) m a = WalkLeads st MayWalk (walk_next (w, m.1) a)
MayAnswerIn May MayWalk st (Change w) m a = WalkLeads st MayWalk (walk_next (w, m.1) a)

-- ---- what is written

abbrev WritesWell : (Trouble → Type 0) → Next Writing CommitAnswer → Type 0
WritesWell May (Goes w) = Unit {0}
WritesWell May (Ends w a) = EndsBy May a
WritesWell May (Stops w t) = May t

-- where a step leads
abbrev pub EndsWell : (Trouble → Type 0) → RunStep → Type 0
EndsWell May (Goes m) = Unit {0}
EndsWell May (Ends m a) = EndsBy May a
EndsWell May (Stops m t) = May t

module _ (May : Trouble → Type 0) (txn : May (trouble.Exhausted counter.Txn)) where
  -- a head whose counter is near the end may stop it
  abbrev MayPass : List QueueCount → Type 0
  MayPass counters = IsNear counters → May (trouble.Exhausted counter.Number)

  memory_well : (stage : Stage) → IsUnderWay stage → MayAnswerAt May stage Memory → May trouble.Memory
  memory_well Waiting under may = absurd under
  memory_well Finished under may = absurd under
  memory_well stage under may = may

  leaves_well : (w : Writing) (a : Answer) → MayAnswerAt May w.stage a → Leaves w a → May (trouble_of a)
  leaves_well v a may (written.not_sent w y failed) = subst (IsFair May) failed.shows may
  leaves_well v a may (written.not_settled w y failed) = subst (IsFair May) failed.shows may

  writes : (w : Writing) (a : Answer) (x : Next Writing CommitAnswer) → MayAnswerAt May w.stage a → Wrote w a x → WritesWell May x
  writes v a x may (written.goes_on w id next (written.logs r e)) = tt
  writes v a x may (written.goes_on w id next (written.opens e)) = tt
  writes v a x may (written.not_logged w y failed) = subst (IsFair May) failed.shows may
  writes v a x may (written.late w end now) = may
  writes v a x may (written.doubts w y failed) = subst (IsOpeningFair May) failed may
  writes w a x may (written.sends n r posts e) = tt
  writes w a x may (written.settles n posts e) = tt
  writes w a x may (written.stays_open leaves) = leaves_well w a may leaves
  writes w a x may (written.deletes n id clears e) = tt
  writes w a x may (written.ends n clears e) = tt
  writes w a x may (written.lacks v under) = memory_well v.stage under may
  writes v a x may (written.waits w y) = may
  writes v a x may (written.rests w y) = may

  -- ---- where a step leads

  wrote_well : (d : Draft) (c : Cache) (n : Next Writing CommitAnswer) → WritesWell May n → EndsWell May (wrote d c n)
  wrote_well d c (Goes w) may = tt
  wrote_well d c (Ends w a) may = may
  wrote_well d c (Stops w t) may = may

  module _ (st : Store) (h : Holds st) where
    -- a walk begins with a call
    begins_well : {first : Bool} {d : Draft} {k : Cache} {to : ℕ × List ℕ} {next : RunStep} → Begins first d k to next → IsTree to.0 → KnowsCache st k → EndsWell May next
    begins_well (run.walks m e is aims) tree cache = tt
    begins_well {first = first} {k = k} {to = to} (run.stops m t e link other) tree cache =
        absurd (let goes = sym (walk_begins st h.chains to.0 (Some to.1) first k tree cache).1 ∙ e in cc (goes))
    begins_well {first = first} {k = k} {to = to} (run.lacks m e) tree cache =
        absurd (let goes = sym (walk_begins st h.chains to.0 (Some to.1) first k tree cache).1 ∙ e in cc (goes))

    plans_well : {d : Draft} {k : Cache} {next : RunStep} → Plans d k next → MayCommit d.writes.changes → MayPass d.writes.home.head.counters → KnowsCache st k → EndsWell May next
    plans_well {d = d} (run.seeks n next is begins) may pass cache = begins_well begins (may.each n (length (planned d).plan.pages, is)).0 cache
    plans_well {d = d} (run.full none over) may pass cache = pass (near_routed d.writes.home d.writes.changes (planned d).plan.pages may.noted.most over)
    plans_well (run.writes w none fits e) may pass cache = tt

    same_counters : (w : Writing) (c : Cache) (used : Option ObjName) → MayPass w.home.head.counters → MayPass (pruned_with w c used).home.head.counters
    same_counters w c None pass = pass
    same_counters w c (Some (object.Head client)) pass = pass
    same_counters w c (Some (object.Tree tree)) pass = on (root_at c (object.Tree tree))
      where
        on : (o : Option Tree) → MayPass (pruned_by_root w tree o).home.head.counters
        on (Some root) = pass
        on None = pass
    same_counters w c (Some (object.Page tree page)) pass = on (leaf_at c (object.Page tree page))
      where
        on : (o : Option Leaf) → MayPass (pruned_by_kept w tree o).home.head.counters
        on (Some leaf) = pass
        on None = pass

    -- pruning leaves the changes
    pruned_may : (d : Draft) (m : Walk × Cache) → MayCommit d.writes.changes → MayCommit (pruned_with d.writes m.1 m.0.used).changes
    pruned_may d m may = subst MayCommit (sym (used_kept d.writes m.1 m.0.used).changes) may

    -- behind a turn of a walk planning goes on, and stale pages are passed over
    planned_well : {d e : Draft} {w : Walk} {c k : Cache} {a : Answer} {first : Bool} {next : RunStep} → Behind d w c a first e k → Plans e k next → MayCommit d.writes.changes
        → MayPass d.writes.home.head.counters → LeavesKnown st (walk_next (w, c) a) → EndsWell May next
    planned_well {d = d} (run.at_leaf first m page e aims) plans may pass known =
        plans_well plans (pruned_may d m may) (same_counters d.writes m.1 m.0.used pass) (subst (LeavesKnown st) e known)
    planned_well {d = d} (run.at_stale m t e stale) plans may pass known =
        plans_well plans (pruned_may d m may) (same_counters d.writes m.1 m.0.used pass) (subst (LeavesKnown st) e known)
    planned_well {d = d} (run.passed_over m t e stale) plans may pass known =
        plans_well plans (pruned_may d m may) (same_counters d.writes m.1 m.0.used pass) (subst (LeavesKnown st) e known)

    module _ (MayWalk : Trouble → Type 0) (fair : (t : Trouble) → MayWalk t → is_stale t ≡ false → May t) where
      comes_well : {d : Draft} {w : Walk} {c : Cache} {a : Answer} {first : Bool} {next : RunStep} → Comes d w c a first next → MayCommit d.writes.changes → MayPass d.writes.home.head.counters
          → LeavesKnown st (walk_next (w, c) a) → WalkLeads st MayWalk (walk_next (w, c) a) → EndsWell May next
      comes_well (run.goes m e is aims) may pass known leads = tt
      comes_well (run.ends m t e fresh other) may pass known leads = fair t (subst (WalkLeads st MayWalk) e leads).1 fresh
      comes_well (run.lacks m e) may pass known leads = fair trouble.Memory (subst (WalkLeads st MayWalk) e leads).1 refl
      comes_well (run.plans e k next behind plans) may pass known leads = planned_well behind plans may pass known

  -- ---- a call, by what it may have answered

  module _ (book : Book) (order : List Entry) (s : CloudState) (stands : StandsUnder book order s)
      (number : (client : ℕ) (counters : List QueueCount) → AreCounted book.log client counters → MayPass counters) where
    pub run_ends_by : (MayWalk : Trouble → Type 0) (fair : (t : Trouble) → MayWalk t → is_stale t ≡ false → May t) (who : Caller) (t : CloudState) (m : Run × Cache) (part : Part) (reply : Answer) → KnowsRun (store_of book order s) t.now m part
        → IsCall who (asks m) reply s t → MayAnswerIn May MayWalk (store_of book order s) m.0.hand m reply → EndsWell May (run_next m reply)
    run_ends_by MayWalk fair who t m part reply k call may = on m.0.hand k.hand call may
      where
        walks : (first : Bool) (w : Walk) → KnowsSeeking (store_of book order s) t.now m.0.draft w part → IsCall who (ask_at (Change w) m.0.draft.writes) reply s t
            → WalkLeads (store_of book order s) MayWalk (walk_next (w, m.1) reply) → EndsWell May (walked first m.0.draft w m.1 reply)
        walks first w seeks call leads =
            comes_well (store_of book order s) stands.holds MayWalk fair (comes m.0.draft w m.1 reply first) seeks.draft.may
            (number m.0.draft.writes.home.client m.0.draft.writes.home.head.counters seeks.draft.taken.home.counted)
            (turn_leaves (store_of book order s) w m.1 reply k.cache (call_answers book order s stands who (object_of w) reply t call)) leads

        on : (hand : Hand) → KnowsHand hand (store_of book order s) t.now m.0.draft part → IsCall who (ask_at hand m.0.draft.writes) reply s t
            → MayAnswerIn May MayWalk (store_of book order s) hand m reply → EndsWell May (next_at hand m.0.draft m.1 reply)
        on Writes a call may = wrote_well m.0.draft m.1 (writing_next m.0.draft.writes reply) (writes m.0.draft.writes reply (writing_next m.0.draft.writes reply) may (wrote_by m.0.draft.writes reply))
        on (First w) a call leads = walks true w a call leads
        on (Change w) a call leads = walks false w a call leads

    -- and one that is answered at once
    module _ (now : ℕ) (part : Part) (home : Owner) (changes : List Noted) (c : Cache) (k : KnowsHeld (store_of book order s) now home part) (may : MayCommit changes)
        (cache : KnowsCache (store_of book order s) c) where
      pass : MayPass home.head.counters
      pass = number home.client home.head.counters k.counted

      starts_well : {next : RunStep} → Starts home changes c next → EndsWell May next
      starts_well (run.spent e) = txn
      starts_well (run.long to next left aims begins) =
          begins_well (store_of book order s) stands.holds begins (long_tree home.head.pending k.trees to aims) cache
      starts_well (run.few next left none plans) = plans_well (store_of book order s) stands.holds plans may pass cache

      pub ready_ends_by : EndsWell May (run_ready (new_run home changes, c))
      ready_ends_by = starts_well (starts home changes c)

-- ---- answers that bring no value

commit_refusals : TakesRefusals MayStopCommit
commit_refusals = record { failed = tt; late = λ until now. tt; memory = tt }

sent_fair : (a : Answer) → IsFair MayStopCommit (sent_of a)
sent_fair (Sent id) = tt
sent_fair a = refused_may commit_refusals a

done_fair : (a : Answer) → IsFair MayStopCommit (done_of a)
done_fair Done = tt
done_fair a = refused_may commit_refusals a

doubt_may : (t : Trouble) → MayDoubt MayStopCommit t
doubt_may (trouble.Late end now) = tt
doubt_may t = tt

opening_fair : (g : Result (Unit {0}) Trouble) → IsOpeningFair MayStopCommit g
opening_fair (Ok x) = tt
opening_fair (Err t) = doubt_may t

answers_may : (stage : Stage) (a : Answer) → MayAnswerAt MayStopCommit stage a
answers_may Waiting a = tt
answers_may Logging a = sent_fair a
answers_may Opening a = opening_fair (done_of a)
answers_may Sending a = sent_fair a
answers_may Settling a = done_fair a
answers_may Deleting a = tt
answers_may Finished a = tt

-- a trouble of a walk that is not passed over
walk_fair : (t : Trouble) → MayStopWalk t → is_stale t ≡ false → MayStopCommit t
walk_fair (trouble.Stale page least found) may stale = absurd (cc)
walk_fair trouble.Failed may stale = tt
walk_fair trouble.Memory may stale = tt
walk_fair t may stale = absurd may

-- ---- the whole

module _ (book : Book) (order : List Entry) (s : CloudState) (stands : StandsUnder book order s) where
  -- how a call of a commit ends
  pub run_ends : (who : Caller) (t : CloudState) (m : Run × Cache) (part : Part) (reply : Answer) → KnowsRun (store_of book order s) t.now m part
      → IsCall who (asks m) reply s t → EndsWell MayStopCommit (run_next m reply)
  run_ends who t m part reply k call =
      run_ends_by MayStopCommit tt book order s stands (λ client counters counted near. tt) MayStopWalk walk_fair who t m part reply k call (on m.0.hand k.hand call)
    where
      walks : (w : Walk) → KnowsSeeking (store_of book order s) t.now m.0.draft w part → IsCall who (ask_at (Change w) m.0.draft.writes) reply s t
          → WalkLeads (store_of book order s) MayStopWalk (walk_next (w, m.1) reply)
      walks w seeks call = walk_goes book order s stands who w m.1 reply t call (record { walk = seeks.walk; cache = k.cache })

      on : (hand : Hand) → KnowsHand hand (store_of book order s) t.now m.0.draft part → IsCall who (ask_at hand m.0.draft.writes) reply s t
          → MayAnswerIn MayStopCommit MayStopWalk (store_of book order s) hand m reply
      on Writes a call = answers_may m.0.draft.writes.stage reply
      on (First w) a call = walks w a call
      on (Change w) a call = walks w a call
