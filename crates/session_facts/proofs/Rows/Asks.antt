-- What each machine puts and sends beside heads is what its standing allows.
use Rattle.std.proofs.Common.{ℕ, Bool, true, false, List, [], ◌∷◌, Option, Some, None, inl, cond}
use Rattle.std.specs.Prelude.{slice_get, ◌==◌}
use Rattle.db_base.specs.declared.names.ObjName.TheVariants as object
use Rattle.db_base.specs.declared.names.QueueName.TheVariants.{TreePu, PagePu}
use Rattle.cloud_facts.specs.Words.{AtomicRec, Claim, Ask, GetHeld, PutHeld, Release}
use Rattle.cloud_trait.specs.declared.state.Landing.{Landing}
use Rattle.route_plan.specs.Queue.{queue_name}
use Rattle.ckpt_parts.specs.Deleting.{next_id}
use Rattle.ckpt_parts.specs.Leasing.{newest_lease}
use Rattle.commit_writes.specs.declared.stage.Stage.{Stage as CommitStage}
use Rattle.commit_writes.specs.declared.stage.Stage.TheVariants as commit
use Rattle.commit_writes.specs.Writing.{Writing, ask_at as writing_ask_at, send_ask, delete_ask as delete_log_ask}
use Rattle.commit_run.specs.declared.hand.Hand.{Hand}
use Rattle.commit_run.specs.declared.hand.Hand.TheVariants.{Writes, First, Change}
use Rattle.commit_run.specs.Run.{Run, home_of, ask_at as run_ask_at, run_ask}
use Rattle.page_ckpt.specs.declared.stage.Stage.{Stage as PageStage}
use Rattle.page_ckpt.specs.declared.stage.Stage.TheVariants as paging
use Rattle.page_ckpt.specs.Paging.{Paging, ask_at as paging_ask_at, paging_ask, under as under_page, delete_next as delete_page_next, home_name, right_name}
use Rattle.recover_run.specs.declared.items.AtomicItem.{AtomicItem}
use Rattle.recover_run.specs.declared.stage.Stage.{Stage as OpeningStage}
use Rattle.recover_run.specs.declared.stage.Stage.TheVariants as opening
use Rattle.recover_run.specs.Recovery.{Recovery, ask_at as recovery_ask_at, recovery_ask, under as under_client, delete_next, send_next}
use Rattle.replay_meaning.specs.Kinds.{CommitsFor, MayPutPage, MaySend, MaySendPending}
use Rattle.replay_meaning.specs.Standing.{Line, standing_of_row}
use Rattle.session_facts.specs.Rows.Asks.{MayAsk, MayAskBeside}

module _ (lines : List Line) (row : Landing) where
  -- a send to the queue of a page, or of page 0
  queue_may : (tree page : ℕ) → MaySendPending lines row → MaySend lines row (queue_name tree page)
  queue_may tree page may = on (page == 0)
    where
      on : (b : Bool) → MaySend lines row (cond b (TreePu tree) (PagePu tree page))
      on true = may
      on false = may

  -- ---- an opening, or a recovery

  under_client_may : (r : Recovery) (o : Option Claim) (make : Claim → Ask) → ((l : Claim) → MayAskBeside lines row (make l)) → MayAskBeside lines row (under_client r o make)
  under_client_may r (Some l) make may = may l
  under_client_may r None make may = tt

  delete_may : (r : Recovery) (ids : List ℕ) → MayAskBeside lines row (delete_next r ids)
  delete_may r (id ∷ ids) = tt
  delete_may r [] = tt

  send_may : (r : Recovery) (o : Option AtomicItem) → MaySendPending lines row → MayAskBeside lines row (send_next r o)
  send_may r (Some x) may = queue_may x.rec.tree x.rec.page may
  send_may r None may = tt

  -- it sends to pending update queues
  pub recovery_asks : (r : Recovery) → MaySendPending lines row → MayAskBeside lines row (recovery_ask r)
  recovery_asks r may = at r.stage
    where
      at : (stage : OpeningStage) → MayAskBeside lines row (recovery_ask_at stage r)
      at opening.ReleasingOld = under_client_may r r.former Release (λ l. tt)
      at opening.Taking = tt
      at opening.Getting = under_client_may r r.lease (λ l. GetHeld (object.Head r.client) l) (λ l. tt)
      at opening.Receiving = tt
      at opening.Deleting = delete_may r r.ids
      at opening.Sending = send_may r (slice_get r.gathered.kept r.sent) may
      at opening.Putting = under_client_may r r.lease (λ l. PutHeld (object.Head r.client) r.out l None) (λ l. tt)
      at opening.Clearing = delete_may r r.ids
      at opening.Sweeping = tt
      at opening.Releasing = under_client_may r r.lease Release (λ l. tt)
      at opening.Finished = tt

  -- ---- a commit

  send_on_may : (w : Writing) (o : Option AtomicRec) → MaySendPending lines row → MayAskBeside lines row (send_ask w o)
  send_on_may w (Some r) may = queue_may r.tree r.page may
  send_on_may w None may = tt

  delete_log_may : (w : Writing) (o : Option ℕ) → MayAskBeside lines row (delete_log_ask w o)
  delete_log_may w (Some id) = tt
  delete_log_may w None = tt

  writes_may : (w : Writing) (stage : CommitStage) → CommitsFor w.home.client (standing_of_row lines row) → MayAskBeside lines row (writing_ask_at stage w)
  writes_may w commit.Waiting is = tt
  writes_may w commit.Logging is = is
  writes_may w commit.Opening is = tt
  writes_may w commit.Sending is = send_on_may w (slice_get w.records w.place) (inl is.commits)
  writes_may w commit.Settling is = tt
  writes_may w commit.Deleting is = delete_log_may w (slice_get w.ids w.place)
  writes_may w commit.Finished is = tt

  -- it sends to its client's ATOMIC queue and to pending update queues
  pub run_asks : (r : Run) → CommitsFor (home_of r).client (standing_of_row lines row) → MayAskBeside lines row (run_ask r)
  run_asks r is = at r.hand
    where
      at : (hand : Hand) → MayAskBeside lines row (run_ask_at hand r.draft.writes)
      at Writes = writes_may r.draft.writes r.draft.writes.stage is
      at (First walk) = tt
      at (Change walk) = tt

  -- ---- a page checkpoint

  under_page_may : (p : Paging) (o : Option Claim) (make : Claim → Ask) → ((l : Claim) → MayAsk lines row (make l)) → MayAsk lines row (under_page p o make)
  under_page_may p (Some l) make may = may l
  under_page_may p None make may = tt

  delete_page_may : (p : Paging) (o : Option ℕ) → MayAsk lines row (delete_page_next p o)
  delete_page_may p (Some id) = tt
  delete_page_may p None = tt

  -- it puts pages of its tree
  pub paging_asks : (p : Paging) → MayPutPage lines row p.tree → MayAsk lines row (paging_ask p)
  paging_asks p may = at p.stage
    where
      at : (stage : PageStage) → MayAsk lines row (paging_ask_at stage p)
      at paging.TakingHome = tt
      at paging.GettingHome = under_page_may p p.held.first (λ l. GetHeld (home_name p) l) (λ l. tt)
      at paging.Receiving = tt
      at paging.TakingRight = tt
      at paging.GettingRight = under_page_may p p.held.second (λ l. GetHeld (right_name p) l) (λ l. tt)
      at paging.PuttingRight =
          under_page_may p p.held.first (λ l. under_page p p.held.second (λ r. PutHeld (right_name p) p.out l (Some r)))
          (λ l. under_page_may p p.held.second (λ r. PutHeld (right_name p) p.out l (Some r)) (λ r. may))
      at paging.ReleasingRight = under_page_may p p.held.second Release (λ l. tt)
      at paging.PuttingHome = under_page_may p p.held.first (λ l. PutHeld (home_name p) p.out l None) (λ l. may)
      at paging.Deleting = delete_page_may p (next_id p.deletions.ids)
      at paging.Releasing = under_page_may p (newest_lease p.held) Release (λ l. tt)
      at paging.Finished = tt
