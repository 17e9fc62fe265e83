-- The one call of a step was made, and was answered so.
use Rattle.std.proofs.Common.{◌≡◌, List, Some, Ok, refl}
use Rattle.client_work.specs.Session.{Acting, ShowsAt, StepsAt, StepsSession, ask_of_work, acting_of}
use Rattle.client_work.specs.declared.answer.Answer.{Answer}
use Rattle.client_work.specs.declared.answer.Answer.TheVariants as answer
use Rattle.client_work.specs.declared.shown.Shown.{Shown}
use Rattle.client_work.specs.declared.work.Work.{Work}
use Rattle.client_work.specs.declared.work.Work.TheVariants.{Closed, Idle, Opening, Committing, Reading, Scanning, Looking, Folding, Paging, Closing, Renewing, Settling, Sweeping, Broken}
use Rattle.cloud_facts.specs.Words.{Answer as Reply, Turn, More, Ended, Caller, Seen, Ask, Renew, Release}
use Rattle.cloud_trait.specs.Weather.{Makes}
use Rattle.commit_run.specs.Run.{run_ask}
use Rattle.page_cache.specs.Cache.{Cache}
use Rattle.page_ckpt.specs.Paging.{paging_ask}
use Rattle.attr_index.specs.Look.{look_ask}
use Rattle.range_scan.specs.Scan.{scan_ask}
use Rattle.recover_run.specs.Recovery.{recovery_ask}
use Rattle.session_facts.specs.Sessions.Calls.{session_step, calling_of, reply_at, reply_of}
use Rattle.orphan_sweep.specs.Sweeping.{sweep_ask}
use Rattle.settle_run.specs.Settling.{settle_ask}
use Rattle.tree_ckpt.specs.Making.{making_ask}
use Rattle.tree_walk.specs.Walk.{walk_ask}
use Rattle.txn_buffer.specs.Noted.{Noted}

-- the call in hand, with its answer
pub record IsReplied (who : Caller) (before after : Seen) (w : Work) (reply : Reply) : Type 0 where
  pub ask : Ask
  pub hand : ask_of_work w ≡ Some ask
  pub made : Makes who ask reply before after

replied_at : (who : Caller) (before after : Seen) (buffer : List Noted) (old : Work) (c d : Cache) (new : Work) (shown : Shown) (turn : Turn Answer) → (p : StepsAt who before after old new turn)
    → (q : ShowsAt who before after (old, c) (acting_of buffer new d shown) turn)
    → IsReplied who before after old (reply_at (calling_of who before after) (old, c) (acting_of buffer new d shown) turn p q)
replied_at who before after buffer (Opening m) c d new shown More p q = record { ask = recovery_ask m; hand = refl; made = p.1.1.made }
replied_at who before after buffer (Opening m) c d new shown (Ended (answer.Opened epoch)) p q = record { ask = recovery_ask m; hand = refl; made = p.1.1.made }
replied_at who before after buffer (Opening m) c d new shown (Ended (answer.Trouble k)) p q = record { ask = recovery_ask m; hand = refl; made = p.1.1.made }
replied_at who before after buffer (Opening m) c d new shown turn p q = absurd p.1
replied_at who before after buffer (Committing m) c d new shown More p q = record { ask = run_ask m; hand = refl; made = q.0.1.made }
replied_at who before after buffer (Committing m) c d new shown (Ended (answer.Commit a)) p q = record { ask = run_ask m; hand = refl; made = q.0.1.made }
replied_at who before after buffer (Committing m) c d new shown (Ended (answer.Trouble k)) p q = record { ask = run_ask m; hand = refl; made = q.0.1.made }
replied_at who before after buffer (Committing m) c d new shown turn p q = absurd p.3
replied_at who before after buffer (Reading home m) c d new shown More p q = record { ask = walk_ask m; hand = refl; made = q.1.made }
replied_at who before after buffer (Reading home m) c d new shown (Ended answer.Value) p q = record { ask = walk_ask m; hand = refl; made = q.2.made }
replied_at who before after buffer (Reading home m) c d new shown (Ended (answer.Trouble k)) p q = record { ask = walk_ask m; hand = refl; made = q.1.made }
replied_at who before after buffer (Reading home m) c d new shown turn p q = absurd p
replied_at who before after buffer (Scanning home m) c d new shown turn p q = record { ask = scan_ask m.scan; hand = refl; made = q.steps.made }
replied_at who before after buffer (Looking home m) c d new shown More p q = record { ask = look_ask m; hand = refl; made = q.1.walked.made }
replied_at who before after buffer (Looking home m) c d new shown (Ended answer.Scan) p q = record { ask = look_ask m; hand = refl; made = q.1.walked.made }
replied_at who before after buffer (Looking home m) c d new shown (Ended (answer.Trouble k)) p q = record { ask = look_ask m; hand = refl; made = q.1.walked.made }
replied_at who before after buffer (Looking home m) c d new shown turn p q = absurd q
replied_at who before after buffer (Paging home m) c d new shown More p q = record { ask = paging_ask m; hand = refl; made = p.1.made }
replied_at who before after buffer (Paging home m) c d new shown (Ended (answer.Done n)) p q = record { ask = paging_ask m; hand = refl; made = p.1.made }
replied_at who before after buffer (Paging home m) c d new shown (Ended (answer.Trouble k)) p q = record { ask = paging_ask m; hand = refl; made = p.1.made }
replied_at who before after buffer (Paging home m) c d new shown turn p q = absurd p
replied_at who before after buffer (Folding home m) c d new shown More p q = record { ask = making_ask m; hand = refl; made = p.1.made }
replied_at who before after buffer (Folding home m) c d new shown (Ended (answer.Done n)) p q = record { ask = making_ask m; hand = refl; made = p.1.made }
replied_at who before after buffer (Folding home m) c d new shown (Ended (answer.Trouble k)) p q = record { ask = making_ask m; hand = refl; made = p.1.made }
replied_at who before after buffer (Folding home m) c d new shown turn p q = absurd p
replied_at who before after buffer (Closing lease) c d new shown (Ended answer.Closed) p q = record { ask = Release lease; hand = refl; made = p.0.made }
replied_at who before after buffer (Closing lease) c d new shown (Ended (answer.Trouble k)) p q = record { ask = Release lease; hand = refl; made = p.0.made }
replied_at who before after buffer (Closing lease) c d new shown turn p q = absurd p
replied_at who before after buffer (Renewing home) c d new shown (Ended (answer.Renewed end)) p q = record { ask = Renew home.lease 600; hand = refl; made = p.1.made }
replied_at who before after buffer (Renewing home) c d new shown (Ended (answer.Trouble k)) p q = record { ask = Renew home.lease 600; hand = refl; made = p.1.made }
replied_at who before after buffer (Renewing home) c d new shown turn p q = absurd p
replied_at who before after buffer (Settling m) c d new shown More p q = record { ask = settle_ask m; hand = refl; made = p.1.1.did.made }
replied_at who before after buffer (Settling m) c d new shown (Ended (answer.Settled n)) p q = record { ask = settle_ask m; hand = refl; made = p.1.1.did.made }
replied_at who before after buffer (Settling m) c d new shown (Ended (answer.Trouble k)) p q = record { ask = settle_ask m; hand = refl; made = p.1.1.did.made }
replied_at who before after buffer (Settling m) c d new shown turn p q = absurd p.1
replied_at who before after buffer (Sweeping m) c d new shown More p q = record { ask = sweep_ask m; hand = refl; made = p.1.did.made }
replied_at who before after buffer (Sweeping m) c d new shown (Ended (answer.Swept x)) p q = record { ask = sweep_ask m; hand = refl; made = p.1.did.made }
replied_at who before after buffer (Sweeping m) c d new shown (Ended (answer.Trouble k)) p q = record { ask = sweep_ask m; hand = refl; made = p.1.did.made }
replied_at who before after buffer (Sweeping m) c d new shown turn p q = absurd p
replied_at who before after buffer Closed c d new shown turn p q = absurd p
replied_at who before after buffer (Idle home) c d new shown turn p q = absurd p
replied_at who before after buffer (Broken lease) c d new shown turn p q = absurd p

pub replied : (who : Caller) (before after : Seen) (old new : Acting) (turn : Turn Answer) → (p : StepsSession who before after old new (Ok turn))
    → IsReplied who before after old.work (reply_of (session_step who before after old new turn) p)
replied who before after old new turn p = replied_at who before after new.buffer old.work old.cache p.shown.0 new.work new.shown turn p.work p.shown.1
