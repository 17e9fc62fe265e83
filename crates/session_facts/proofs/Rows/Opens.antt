-- A commit that puts an open head commits a transaction of which nothing was committed before.
use Rattle.std.proofs.Common.{◌≡◌, ℕ, List, length, Some, sym, ap, subst, ◌∙◌}
use Rattle.session_facts.specs.Machines.Commits.Knows.{KnowsCommitAt, KnowsCommit, OpensBehind}
use Rattle.session_facts.proofs.Machines.Commits.Routes.{count_is}
use Rattle.commit_run.specs.declared.hand.Hand.{Hand}
use Rattle.commit_run.specs.declared.hand.Hand.TheVariants.{Writes, First, Change}
use Rattle.commit_run.specs.Run.{Run, home_of, opens_in, run_opens}
use Rattle.session_facts.specs.Machines.CommitRuns.Knows.{KnowsHand, KnowsRun}
use Rattle.commit_writes.specs.declared.stage.Stage.{Stage}
use Rattle.commit_writes.specs.declared.stage.Stage.TheVariants as stage
use Rattle.commit_writes.specs.Writing.{Writing, opens_at}
use Rattle.client_work.specs.declared.work.Work.{Work}
use Rattle.client_work.specs.declared.work.Work.TheVariants.{Closed, Idle, Opening, Committing, Reading, Scanning, Looking, Paging, Folding, Closing, Renewing, Settling, Sweeping, Broken}
use Rattle.client_work.specs.Session.{opens_of, committing_of}
use Rattle.head_codec.specs.declared.head.Head.{Head}
use Rattle.head_codec.specs.declared.head.Phase.TheVariants as phase
use Rattle.cloud_facts.specs.Homes.Homes.{Home, Part}
use Rattle.page_cache.specs.Cache.{Cache}
use Rattle.session_facts.specs.Sessions.HeadPuts.{IsClientOf}
use Rattle.session_facts.specs.Sessions.Knows.{KnowsWork}
use Rattle.cloud_facts.specs.Book.Tally.{Store}
use Rattle.txn_buffer.specs.Noted.{Noted}
use Rattle.session_facts.specs.Rows.New.{IsNew}

-- the put that opens
opens_new : (st : Store) (now : ℕ) (w : Writing) (g : Home) (head : Head) → OpensBehind st now w g → w.home.head ≡ head → IsNew st.book.log w.home.client head w.changes
opens_new st now w g head a is = record {
  count = ap (λ (h : Head). h.phase) (sym is ∙ a.head) ∙ ap phase.Open as_many;
  fresh = λ r logged client epoch txn. a.routes.uncommitted r logged (record {
    client_is = client;
    epoch_is = epoch ∙ ap (λ (h : Head). h.epoch) (sym is);
    txn_is = txn ∙ ap (λ (h : Head). h.txn) (sym is ∙ a.head);
  });
}
  where
    as_many : length w.records ≡ length w.changes
    as_many = ap length a.routes.records_are ∙ count_is w.home.client a.base.epoch w.home.attempt a.base w.changes a.routes.pages a.routes.paged

writing_is_new : (st : Store) (now : ℕ) (w : Writing) (part : Part) (head : Head) → KnowsCommit st now w part → opens_at w.stage w ≡ Some head → IsNew st.book.log w.home.client head w.changes
writing_is_new st now w part head k = on w.stage k.at
  where
    on : (at : Stage) → KnowsCommitAt at st now w k.home → opens_at at w ≡ Some head → IsNew st.book.log w.home.client head w.changes
    on stage.Waiting a e = absurd (cc)
    on stage.Logging a e = absurd (cc)
    on stage.Opening a e = opens_new st now w k.home head a (cc)
    on stage.Sending a e = absurd (cc)
    on stage.Settling a e = absurd (cc)
    on stage.Deleting a e = absurd (cc)
    on stage.Finished a e = absurd (cc)

run_is_new : (st : Store) (now : ℕ) (m : Run × Cache) (part : Part) (head : Head) → KnowsRun st now m part → run_opens m.0 ≡ Some head
    → IsNew st.book.log (home_of m.0).client head m.0.draft.writes.changes
run_is_new st now m part head k = on m.0.hand k.hand
  where
    on : (hand : Hand) → KnowsHand hand st now m.0.draft part → opens_in hand m.0.draft.writes ≡ Some head → IsNew st.book.log (home_of m.0).client head m.0.draft.writes.changes
    on Writes a e = writing_is_new st now m.0.draft.writes part head a e
    on (First walk) a e = absurd (cc)
    on (Change walk) a e = absurd (cc)

-- the head that the put in hand opens
pub work_is_new : (st : Store) (now : ℕ) (c : Cache) (w : Work) (part : Part) (client : ℕ) (head : Head) (changes : List Noted) → KnowsWork st now c w part → IsClientOf w client
    → opens_of w ≡ Some head → committing_of w ≡ Some changes → IsNew st.book.log client head changes
work_is_new st now c (Committing r) part client head changes k own opens is =
    let same : r.draft.writes.changes ≡ changes = cc in
    subst (λ (n : ℕ). IsNew st.book.log n head changes) own
    (subst (λ (cs : List Noted). IsNew st.book.log (home_of r).client head cs) same (run_is_new st now (r, c) part head k opens))
work_is_new st now c (Opening r) part client head changes k own opens is = absurd (cc)
work_is_new st now c (Reading home m) part client head changes k own opens is = absurd (cc)
work_is_new st now c (Scanning home m) part client head changes k own opens is = absurd (cc)
work_is_new st now c (Looking home m) part client head changes k own opens is = absurd (cc)
work_is_new st now c (Settling m) part client head changes k own opens is = absurd (cc)
work_is_new st now c (Sweeping m) part client head changes k own opens is = absurd (cc)
work_is_new st now c (Paging home p) part client head changes k own opens is = absurd (cc)
work_is_new st now c (Folding home f) part client head changes k own opens is = absurd (cc)
work_is_new st now c Closed part client head changes k own opens is = absurd (cc)
work_is_new st now c (Idle home) part client head changes k own opens is = absurd (cc)
work_is_new st now c (Closing l) part client head changes k own opens is = absurd (cc)
work_is_new st now c (Renewing home) part client head changes k own opens is = absurd (cc)
work_is_new st now c (Broken l) part client head changes k own opens is = absurd (cc)
