-- No operation but an opening and a settling receives from the queue of a client.
use Rattle.std.proofs.Common.{ℕ, List, [], ◌∷◌, Option, Some, None}
use Rattle.std.specs.Prelude.{unwrap_or, slice_get}
use Rattle.ckpt_parts.specs.Deleting.{next_id}
use Rattle.ckpt_parts.specs.Leasing.{newest_lease}
use Rattle.cloud_facts.specs.Words.{AtomicRec, Claim, Ask, GetHeld, PutHeld}
use Rattle.commit_run.specs.Run.{Run, ask_at as hand_ask, run_ask}
use Rattle.commit_run.specs.declared.hand.Hand.{Hand}
use Rattle.commit_run.specs.declared.hand.Hand.TheVariants.{Writes, First, Change}
use Rattle.commit_writes.specs.Writing.{Writing, send_ask, delete_ask as commit_delete, ask_at as stage_ask}
use Rattle.commit_writes.specs.declared.stage.Stage.{Stage as Writes_at}
use Rattle.commit_writes.specs.declared.stage.Stage.TheVariants as writes
use Rattle.db_base.specs.declared.names.ObjName.TheVariants as object
use Rattle.page_ckpt.specs.Paging.{Paging, ask_at, paging_ask, under, delete_next, right_name, home_name}
use Rattle.page_ckpt.specs.declared.stage.Stage.{Stage}
use Rattle.page_ckpt.specs.declared.stage.Stage.TheVariants as stage
use Rattle.session_facts.specs.Sessions.Explains.{ReceivesLate}
use Rattle.split_plan.specs.declared.put_list.PagePut.{PagePut}
use Rattle.tree_ckpt.specs.Making.{Making, making_ask}
use Rattle.tree_ckpt.specs.Work.{delete_ask, release_ask, work_ask}
use Rattle.tree_ckpt.specs.declared.work.Work.{Work}
use Rattle.tree_ckpt.specs.declared.work.Work.TheVariants as work
use Rattle.tree_phases.specs.Placing.{put_in_hand}
use Rattle.tree_phases.specs.Rising.{last_ask}
use Rattle.tree_phases.specs.declared.rising.Rising.{Rising}

module _ (held : List Claim) (now : ℕ) where
  -- it is no such receive under a lease that is over
  abbrev pub IsQuiet : Ask → Type 0
  IsQuiet ask = ReceivesLate ask held now → ⊥

  -- ---- a page checkpoint

  pub paging_quiet : (p : Paging) → IsQuiet (paging_ask p)
  paging_quiet p = on p.stage
    where
      under_quiet : (o : Option Claim) (make : Claim → Ask) → ((l : Claim) → IsQuiet (make l)) → IsQuiet (under p o make)
      under_quiet (Some l) make quiet = quiet l
      under_quiet None make quiet = λ late. late

      deletes : (o : Option ℕ) → IsQuiet (delete_next p o)
      deletes (Some id) = λ late. late
      deletes None = λ late. late

      on : (at : Stage) → IsQuiet (ask_at at p)
      on stage.TakingHome = λ late. late
      on stage.GettingHome = under_quiet p.held.first (λ l. GetHeld (home_name p) l) (λ l late. late)
      on stage.Receiving = λ late. late
      on stage.TakingRight = λ late. late
      on stage.GettingRight = under_quiet p.held.second (λ l. GetHeld (right_name p) l) (λ l late. late)
      on stage.PuttingRight =
          under_quiet p.held.first (λ l. under p p.held.second (λ r. PutHeld (right_name p) p.out l (Some r)))
          (λ l. under_quiet p.held.second (λ r. PutHeld (right_name p) p.out l (Some r)) (λ r late. late))
      on stage.ReleasingRight = under_quiet p.held.second _ (λ l late. late)
      on stage.PuttingHome = under_quiet p.held.first (λ l. PutHeld (home_name p) p.out l None) (λ l late. late)
      on stage.Deleting = deletes (next_id p.deletions.ids)
      on stage.Releasing = under_quiet (newest_lease p.held) _ (λ l late. late)
      on stage.Finished = λ late. late

  -- ---- a tree checkpoint

  put_quiet : (tree : ℕ) (l : Claim) (second : Option Claim) (other : Ask) → IsQuiet other → (reserved : Option (List ℕ)) (puts : List PagePut)
      → IsQuiet (unwrap_or (put_in_hand (record { reserved = reserved; puts = puts }) tree l second) other)
  put_quiet tree l second other quiet (Some bytes) puts = λ late. late
  put_quiet tree l second other quiet None (x ∷ xs) = λ late. late
  put_quiet tree l second other quiet None [] = quiet

  last_quiet : (r : Rising) (l : Claim) (o : Option (List ℕ)) → IsQuiet (last_ask r l o)
  last_quiet r l (Some bytes) = λ late. late
  last_quiet r l None = λ late. late

  pub making_quiet : (m : Making) → IsQuiet (making_ask m)
  making_quiet m = on m.work
    where
      deletes : (o : Option ℕ) → IsQuiet (delete_ask m.tree o)
      deletes (Some id) = λ late. late
      deletes None = λ late. late

      releases : (o : Option Claim) → IsQuiet (release_ask m.tree o)
      releases (Some l) = λ late. late
      releases None = λ late. late

      on : (w : Work) → IsQuiet (work_ask m.tree w)
      on work.TakingTree = λ late. late
      on (work.GettingTree l) = λ late. late
      on (work.Receiving l root) = λ late. late
      on (work.Descending h d) = λ late. late
      on (work.TakingPage h c) = λ late. late
      on (work.Folding h f) =
          put_quiet f.chart.tree h.lease (Some f.lease) (GetHeld (object.Page f.chart.tree f.page) f.lease) (λ late. late) f.placing.reserved f.placing.puts
      on (work.ReleasingPage h l o) = λ late. late
      on (work.LeftPage h o) = λ late. late
      on (work.Rising h r) = put_quiet r.chart.tree h.lease None (last_ask r h.lease r.last) (last_quiet r h.lease r.last) r.placing.reserved r.placing.puts
      on (work.Deleting h applied) = deletes (next_id h.deletions.ids)
      on (work.Releasing held end) = releases (newest_lease held)
      on work.Finished = λ late. late

  -- ---- a commit

  pub run_quiet : (r : Run) → IsQuiet (run_ask r)
  run_quiet r = on r.hand
    where
      sends : (w : Writing) (o : Option AtomicRec) → IsQuiet (send_ask w o)
      sends w (Some x) = λ late. late
      sends w None = λ late. late

      deletes : (w : Writing) (o : Option ℕ) → IsQuiet (commit_delete w o)
      deletes w (Some id) = λ late. late
      deletes w None = λ late. late

      written : (w : Writing) (at : Writes_at) → IsQuiet (stage_ask at w)
      written w writes.Waiting = λ late. late
      written w writes.Logging = λ late. late
      written w writes.Opening = λ late. late
      written w writes.Sending = sends w (slice_get w.records w.place)
      written w writes.Settling = λ late. late
      written w writes.Deleting = deletes w (slice_get w.ids w.place)
      written w writes.Finished = λ late. late

      on : (hand : Hand) → IsQuiet (hand_ask hand r.draft.writes)
      on Writes = written r.draft.writes r.draft.writes.stage
      on (First w) = λ late. late
      on (Change w) = λ late. late
