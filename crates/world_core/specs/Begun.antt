-- Why an operation that was answered at its begin came to that, over any cloud: it made no call, so what its client has and keeps shows it.
use Rattle.cloud_facts.specs.Words.{Trouble, CommitAnswer, Ended, Caller}
use Rattle.std.specs.Prelude.{ℕ, ◌≡◌, ◌≢◌, ◌⊎◌, [], List, false, Some, Result, Ok, Err}
use Rattle.std.proofs.Common.{inl, inr}
use Rattle.db_base.specs.declared.trouble.CommitAnswer.TheVariants.{Committed}
use Rattle.db_base.specs.declared.trouble.Trouble.TheVariants as trouble
use Rattle.db_base.specs.declared.refusal.Refused.{Refused}
use Rattle.txn_buffer.specs.Noted.{Noted}
use Rattle.page_cache.specs.Cache.{Cache}
use Rattle.tree_walk.specs.Causes.{LinkShows}
use Rattle.tree_walk.specs.Walk.{Walk, new_walk}
use Rattle.range_scan.specs.Scan.{new_scan}
use Rattle.attr_index.specs.Look.{new_look}
use Rattle.recover_run.specs.declared.home.Home.{Home}
use Rattle.commit_run.specs.Causes.{CausesReady}
use Rattle.commit_run.specs.CallDemands.{ExactReady}
use Rattle.commit_run.specs.Meaning.{MeansReady}
use Rattle.commit_run.specs.Run.{Run, new_run, home_of}
use Rattle.client_work.specs.Session.{Acting}
use Rattle.client_work.specs.declared.answer.Answer.TheVariants as answer
use Rattle.client_work.specs.declared.answer.Begun.{Begun}
use Rattle.client_work.specs.declared.answer.Begun.TheVariants.{Answered}
use Rattle.client_work.specs.declared.op.Op.{Op}
use Rattle.client_work.specs.declared.op.Op.TheVariants as op
use Rattle.client_work.specs.declared.work.Work.TheVariants.{Idle}
use Rattle.event_text.specs.declared.event.Event.{Event}
use Rattle.reply_text.specs.declared.reply.Reply.{Reply}
use Rattle.world_core.specs.declared.asked.Asked.{Asked}
use Rattle.world_core.specs.declared.asked.Asked.TheVariants.{Session, Wait, Report, Settle, Sweep}
use Rattle.world_core.specs.declared.asked.Request.{Request}
use Rattle.world_core.specs.declared.asked.Request.TheVariants.{Begin, Note, Abort, Policy, Work, Step, Run as RunsOn, Crash}
use Rattle.world_core.specs.declared.world.WorldFault.{WorldFault}
use Rattle.world_core.specs.Handled.{BeginsOp, Does, Serves, Answers, Handled}
use Rattle.world_core.specs.Span.{Span}

-- a commit of nothing is committed; any other is refused where no attempt number is left, and only there so, or by a walk through what the cache keeps,
-- which shows why, or since a record's number would pass the greatest one
abbrev pub CommitShows : Home → List Noted → Cache → CommitAnswer → Type 0
CommitShows home changes c a =
    ((changes ≡ []) × (a ≡ Committed 0))
    ⊎ ((m : Run) × CausesReady (new_run home changes, c) m (Ended a) × MeansReady home changes c (home_of m) (Ended a) × ExactReady home (Ended a))

-- the trouble of a read, a scan or a look-up is one that the links of kept objects show
abbrev pub KeptShows : Walk → Cache → Trouble → Type 0
KeptShows start c t = t ≢ trouble.Memory → (left : Walk) × LinkShows c start left t

-- what was answered at the begin of an operation, where it was
abbrev pub BeginShows : Op → Acting → Begun → Type 0
BeginShows op.Commit old begun = (a : CommitAnswer) → begun ≡ Answered (answer.Commit a) → (home : Home) × (old.work ≡ Idle home) × CommitShows home old.buffer old.cache a
BeginShows (op.Read tree key) old begun = (t : Trouble) → begun ≡ Answered (answer.Trouble t) → KeptShows (new_walk tree (Some key) false) old.cache t
BeginShows (op.Scan tree from to) old begun = (t : Trouble) → begun ≡ Answered (answer.Trouble t) → KeptShows (new_scan tree from to).walk old.cache t
BeginShows (op.Lookup tree attr) old begun = (t : Trouble) → begun ≡ Answered (answer.Trouble t) → KeptShows (new_look (record { tree = tree; attr = attr })).walk old.cache t
BeginShows (op.Open client) old begun = Unit {0}
BeginShows op.Close old begun = Unit {0}
BeginShows op.Renew old begun = Unit {0}
BeginShows (op.Page tree page) old begun = Unit {0}
BeginShows (op.Tree tree) old begun = Unit {0}

abbrev pub WasBegun : Op → Acting → Result Begun Refused → Type 0
WasBegun o old (Ok begun) = BeginShows o old begun
WasBegun o old (Err why) = Unit {0}

-- so it is of a begin whose reply was told, and of one for whose reply memory ran out
abbrev pub ShowsBegin : (o : Op) (result : Result Reply WorldFault) (old new : Acting) → BeginsOp o result old new → Type 0
ShowsBegin o (Ok reply) old new told = WasBegun o old told.begun
ShowsBegin o (Err why) old new untold = WasBegun o old untold.begun

-- ---- the begin of a line, where it begins something

abbrev pub DoesShow : (who : Caller) (request : Request) (span : Span) (result : Result Reply WorldFault) → Does who request span result → Type 0
DoesShow who (Begin o) span result does = ShowsBegin o result does.1.before does.1.after does.1.does
DoesShow who (Step wish) span result does = Unit {0}
DoesShow who RunsOn span result does = Unit {0}
DoesShow who (Crash done) span result does = Unit {0}
DoesShow who (Note noting) span result does = Unit {0}
DoesShow who (Policy role k) span result does = Unit {0}
DoesShow who Work span result does = Unit {0}
DoesShow who Abort span result does = Unit {0}

abbrev pub ServesShow : (who : Caller) (request : Result Request Refused) (span : Span) (result : Result Reply WorldFault) → Serves who request span result → Type 0
ServesShow who (Ok request) span result does = DoesShow who request span result does
ServesShow who (Err why) span result declines = Unit {0}

abbrev pub AsksShow : (n : ℕ) (asked : Asked) (span : Span) (result : Result Reply WorldFault) → Answers n asked span result → Type 0
AsksShow n (Session number request) span result (inl served) = ServesShow (record { session = number; event = n }) request span result served.1
AsksShow n (Session number request) span result (inr none) = Unit {0}
AsksShow n (Wait ticks) span result waits = Unit {0}
AsksShow n (Report tree) span result reports = Unit {0}
AsksShow n Settle span result settles = Unit {0}
AsksShow n (Sweep tree) span result sweeps = Unit {0}

-- it is so of the begin of a line, as it was handled
abbrev pub BeginIsShown : (n : ℕ) (event : Event) (span : Span) (result : Result Reply WorldFault) → Handled n event span result → Type 0
BeginIsShown n event span result handled = AsksShow n handled.asked span result handled.answers
