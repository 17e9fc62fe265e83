-- What a line does to the world, and its reply.
use Rattle.std.specs.Prelude.{ℕ, ◌≡◌, ◌≤◌, ◌<◌, ◌+◌, Bool, true, false, not, ◌⊎◌, List, [], ◌∷◌, ◌++◌, slice_get, Option, Some, None, Result, Ok, Err, IfOk}
use Rattle.cloud_facts.specs.Words.{IsTree, Trouble, QueueName, Turn, More, Ended, CloudState, newest, Caller, Seen, Ask}
use Rattle.db_base.specs.Ids.{IsSession}
use Rattle.db_base.specs.Limits.{last_client}
use Rattle.db_base.specs.declared.names.QueueName.TheVariants.{Atomic, TreePu, PagePu}
use Rattle.db_base.specs.declared.refusal.Refusal.{Refusal}
use Rattle.db_base.specs.declared.refusal.Refusal.TheVariants as rule
use Rattle.db_base.specs.declared.refusal.Refused.{Refused}
use Rattle.db_base.specs.declared.refusal.Refused.TheVariants as refused
use Rattle.db_base.specs.declared.trouble.Trouble.TheVariants as trouble
use Rattle.db_base.specs.declared.wish.Wish.{Wish}
use Rattle.db_base.specs.declared.wish.Wish.TheVariants.{Plain}
use Rattle.event_text.specs.declared.event.Event.{Event}
use Rattle.report_types.specs.declared.report.Report.{Report as ReportShown}
use Rattle.reply_text.specs.Reply.{HasText, ReplyHasText}
use Rattle.reply_text.specs.declared.reply.Reply.{Reply}
use Rattle.reply_text.specs.declared.reply.Reply.TheVariants as reply
use Rattle.cloud_trait.specs.Bench.{IsNoCall, Waits}
use Rattle.cloud_trait.specs.State.{greatest}
use Rattle.cloud_trait.specs.Weather.{Rose}
use Rattle.ckpt_policy.specs.declared.note.Note.{Note as Noted}
use Rattle.ckpt_policy.specs.declared.role.Role.{Role}
use Rattle.ckpt_policy.specs.Ledger.{IsNumber}
use Rattle.ckpt_policy.specs.Notes.{IsPending}
use Rattle.session_notes.specs.declared.notebook.Notebook.{Notebook}
use Rattle.session_notes.specs.Notebook.{blank, note_of_ask, ChangesBook, GoesOnBy, GoesOnEnded, IsDueAt}
use Rattle.client_work.specs.declared.answer.Answer.{Answer}
use Rattle.client_work.specs.declared.answer.Answer.TheVariants as answer
use Rattle.client_work.specs.declared.answer.Begun.{Begun}
use Rattle.client_work.specs.declared.answer.Begun.TheVariants.{Working}
use Rattle.client_work.specs.declared.op.Op.{Op}
use Rattle.client_work.specs.declared.op.Op.TheVariants as op
use Rattle.client_work.specs.declared.work.Work.{Work}
use Rattle.client_work.specs.BrokenOff.{broken_off}
use Rattle.client_work.specs.Session.{Acting, closed_session, ask_of_work, open_client, Begins, StepsSession}
use Rattle.history.specs.Fold.{of_tree}
use Rattle.history.specs.Audited.{Audited}
use Rattle.world_audit.specs.Look.{Looked}
use Rattle.world_audit.specs.Finding.{Finds}
use Rattle.replay_meaning.specs.Chain.{Walked}
use Rattle.world_audit.specs.Counts.{heads_upto, AreWaiting}
use Rattle.session_facts.specs.Lines.Errands.{Errand, settles, sweeps, session_for}
use Rattle.session_facts.specs.Sessions.Audited.{audited}
use Rattle.session_facts.specs.Sessions.Knows.{IsRightOp}
use Rattle.world_core.specs.declared.asked.Noting.{Noting}
use Rattle.world_core.specs.declared.asked.Request.{Request}
use Rattle.world_core.specs.declared.asked.Request.TheVariants.{Begin, Note, Abort, Policy, Work as WorksDue, Step, Run, Crash}
use Rattle.world_core.specs.declared.asked.Asked.{Asked}
use Rattle.world_core.specs.declared.asked.Asked.TheVariants.{Session, Wait, Report, Settle, Sweep}
use Rattle.world_core.specs.World.{World}
use Rattle.world_core.specs.declared.world.TheConstants.{MAX_WAIT}
use Rattle.world_core.specs.declared.world.WorldFault.{WorldFault}
use Rattle.world_core.specs.declared.world.WorldFault.TheVariants as fault
use Rattle.world_core.specs.Asked.{Asks}
use Rattle.world_core.specs.Replying.{declined, done_reply, RepliesTo, RepliesBegun, RepliesFor, RepliesTurn}
use Rattle.world_core.specs.Put.{Put}
use Rattle.world_core.specs.Sessions.{Changes, HasPut, IsAtWork, IsNotWorking, NotesIn, AbortsIn}
use Rattle.world_core.specs.Span.{Span, span_of}

-- ---- a line that is not done

-- it changes neither the world nor the cloud
pub record Declines (why : Refused) (span : Span) (result : Result Reply WorldFault) : Type 0 where
  pub reply : result ≡ declined why
  pub world : span.new ≡ span.old
  pub seen : span.after ≡ span.before

-- ---- lines that make no call

-- no call is made, and the audit stays
pub record MakesNoCall (span : Span) : Type 0 where
  pub seen : span.after ≡ span.before
  pub audit : span.new.audit ≡ span.old.audit
  pub blind : span.new.blind ≡ span.old.blind

-- what is kept of a session that is open, behind the begin of an operation: a close takes its ledger away, and else the queue of a checkpoint is known
abbrev pub book_begun : Op → Notebook → Notebook
book_begun (op.Page tree page) book = record book { queue = Some (PagePu tree page) }
book_begun (op.Tree tree) book = record book { queue = Some (TreePu tree) }
book_begun op.Close book = blank
book_begun op book = record book { queue = None }

-- it is so where the session was open with nothing at work, and else all stays
abbrev pub BookBegins : ℕ → Op → Result ℕ Refusal → List Notebook → List Notebook → Type 0
BookBegins number op (Ok client) old new = ChangesBook number (λ a b. b ≡ book_begun op a) old new
BookBegins number op (Err rule) old new = new ≡ old

pub record BeginsBook (number : ℕ) (op : Op) (old new : World) : Type 0 where
  pub session : Acting
  pub there : slice_get old.sessions number ≡ Some session
  pub does : BookBegins number op (open_client session.work) old.notes new.notes

-- what is kept of all sessions stays
abbrev pub KeepsNotes : World → World → Type 0
KeepsNotes old new = new.notes ≡ old.notes

-- what is kept of one session is blank then
abbrev pub ClearsNotes : ℕ → World → World → Type 0
ClearsNotes number old new = ChangesBook number (λ a b. b ≡ blank) old.notes new.notes

pub record BeginsTold (op : Op) (reply : Reply) (old new : Acting) : Type 0 where
  pub begun : Result Begun Refused
  pub begins : Begins op old new begun
  pub replies : RepliesBegun begun new (Ok reply)

-- an operation was answered at its begin, and the reply found no memory: the session is broken off as the begin left it
pub record BeginsUntold (op : Op) (why : WorldFault) (old new : Acting) : Type 0 where
  pub left : Acting
  pub begun : Result Begun Refused
  pub begins : Begins op old left begun
  pub replies : RepliesBegun begun left (Err why)
  pub breaks : new ≡ broken_off left

abbrev pub BeginsOp : Op → Result Reply WorldFault → Acting → Acting → Type 0
BeginsOp op (Ok reply) old new = BeginsTold op reply old new
BeginsOp op (Err why) old new = BeginsUntold op why old new

pub record NotesChange (noting : Noting) (result : Result Reply WorldFault) (old new : Acting) : Type 0 where
  pub noted : Result (Unit {0}) Refused
  pub notes : NotesIn noting old new noted
  pub replies : result ≡ done_reply reply.Noted noted

pub record DropsChanges (result : Result Reply WorldFault) (old new : Acting) : Type 0 where
  pub dropped : Result (Unit {0}) Refused
  pub drops : AbortsIn old new dropped
  pub replies : result ≡ done_reply reply.Aborted dropped

-- one session is this one then, and what was seen stays
pub record Has (number : ℕ) (session : Acting) (old new : World) : Type 0 where
  pub session_is : Changes number (λ a b. b ≡ session) old.sessions new.sessions
  pub audit : new.audit ≡ old.audit
  pub blind : new.blind ≡ old.blind

-- one session is broken off, and nothing else of the world changes
pub record BreaksOff (number : ℕ) (old new : World) : Type 0 where
  pub session : Changes number (λ a b. b ≡ broken_off a) old.sessions new.sessions
  pub audit : new.audit ≡ old.audit
  pub blind : new.blind ≡ old.blind
  pub notes : KeepsNotes old new

-- behind a reply the world stays; where it found no memory, the session is broken off
abbrev pub LeavesReplied : ℕ → Result Reply WorldFault → World → World → Type 0
LeavesReplied number (Ok reply) old new = new ≡ old
LeavesReplied number (Err why) old new = BreaksOff number old new

-- ---- steps

-- the wish for the next call is set, and nothing else is done
pub record SetsWish (wish : Wish) (before after : Seen) : Type 0 where
  pub no_call : IsNoCall before after
  pub set : (s : CloudState) → before.state ≡ Some s → after.state ≡ Some (record s { wish = wish })

-- the newest call is the session's at this line, under the wish, and no wait was counted
abbrev pub IsNewestCall : Caller → Wish → Seen → Seen → Type 0
IsNewestCall who wish before after =
    (x : CloudState) → before.state ≡ Some x → (y : CloudState) × (after.state ≡ Some y) × (y.last ≡ Some (who, wish)) × (y.waits ≡ x.waits)

-- ---- what is kept of a session by its steps

abbrev pub note_of_hand : Option Ask → Option Noted
note_of_hand None = None
note_of_hand (Some ask) = note_of_ask ask

-- a checkpoint was done
abbrev pub is_done : Turn Answer → Bool
is_done (Ended (answer.Done n)) = true
is_done turn = false

-- the call in hand is noted before it is made, whatever it is answered, and a checkpoint that is done behind it
pub record NotesStep (w : Work) (turn : Turn Answer) (old new : Notebook) : Type 0 where
  pub called : Notebook
  pub call : GoesOnBy (note_of_hand (ask_of_work w)) old called
  pub end : GoesOnEnded (is_done turn) called new

-- the call in hand of a session is noted
pub record NotesCall (number : ℕ) (old new : World) : Type 0 where
  pub session : Acting
  pub there : slice_get old.sessions number ≡ Some session
  pub notes : ChangesBook number (GoesOnBy (note_of_hand (ask_of_work session.work))) old.notes new.notes
  pub sessions : new.sessions ≡ old.sessions
  pub audit : new.audit ≡ old.audit
  pub blind : new.blind ≡ old.blind

-- what came of it behind it
pub record NotesEnd (number : ℕ) (done : Bool) (old new : World) : Type 0 where
  pub notes : ChangesBook number (GoesOnEnded done) old.notes new.notes
  pub sessions : new.sessions ≡ old.sessions
  pub audit : new.audit ≡ old.audit
  pub blind : new.blind ≡ old.blind

-- ---- each step

-- one step of a session under a wish, between two looks where it is a put: the audit takes what the put in hand commits or applies where it
-- was seen to land, and a look that failed blinds it
pub record StepsLooked (who : Caller) (wish : Wish) (span : Span) (turn : Turn Answer) : Type 0 where
  pub from : Seen
  pub under : Seen
  pub to : Seen
  pub look_before : Looked span.before from
  pub wishes : SetsWish wish from under
  pub session : Changes who.session (λ a b. StepsSession who under to a b (Ok turn)) span.old.sessions span.new.sessions
  pub look_after : Looked to span.after
  pub newest_call : IsNewestCall who wish span.before span.after
  pub saw : span.new.blind ≡ false → span.old.blind ≡ false
  pub blinded : span.new.blind ≡ true → (span.old.blind ≡ true) ⊎ (Rose span.before.counts.dark from.counts.dark ⊎ Rose to.counts.dark span.after.counts.dark)
  pub audit : span.new.blind ≡ false → (x y : CloudState) → span.before.state ≡ Some x → to.state ≡ Some y → span.new.audit ≡ audited (newest x) (newest y) session.before.work span.old.audit
  pub notes : ChangesBook who.session (NotesStep session.before.work turn) span.old.notes span.new.notes

pub record RefusesStep (number : ℕ) (span : Span) (result : Result Reply WorldFault) : Type 0 where
  pub idle : IsNotWorking number span.old.sessions
  pub declines : Declines (refused.Rule rule.NotWorking) span result

-- one step was made under the wish, and its answer is the reply
pub record StepsTold (who : Caller) (wish : Wish) (span : Span) (reply : Reply) : Type 0 where
  pub turn : Turn Answer
  pub steps : StepsLooked who wish span turn
  pub replies : RepliesTurn turn steps.session.after (Ok reply)

-- it was made, and the reply found no memory: the session is broken off as the step left it
pub record StepsUntold (who : Caller) (wish : Wish) (span : Span) (why : WorldFault) : Type 0 where
  pub left : World
  pub turn : Turn Answer
  pub steps : StepsLooked who wish (record span { new = left }) turn
  pub replies : RepliesTurn turn steps.session.after (Err why)
  pub breaks : BreaksOff who.session left span.new

abbrev pub StepsTo : Caller → Wish → Span → Result Reply WorldFault → Type 0
StepsTo who wish span (Ok reply) = StepsTold who wish span reply
StepsTo who wish span (Err why) = StepsUntold who wish span why

-- want of memory has no reply
abbrev pub FindsNoMemory : Result Reply WorldFault → Type 0
FindsNoMemory result = result ≡ Err fault.Memory

-- no call of the session was made, and looks at most
pub record IsUncalled (span : Span) : Type 0 where
  pub looked : Looked span.before span.after
  pub sessions : span.new.sessions ≡ span.old.sessions
  pub blind : span.new.blind ≡ span.old.blind
  pub notes : KeepsNotes span.old span.new

-- what was not done behind a call: the look at a put, or the note of a checkpoint that was done
abbrev pub IsUndone : ℕ → World → Turn Answer → Type 0
IsUndone number old turn = ((put : Put) × HasPut number old.sessions (Some put)) ⊎ (is_done turn ≡ true)

-- its call was made, and what comes behind it was not done
pub record IsUnlooked (who : Caller) (wish : Wish) (span : Span) : Type 0 where
  pub from : Seen
  pub under : Seen
  pub to : Seen
  pub turn : Turn Answer
  pub look_before : Looked span.before from
  pub wishes : SetsWish wish from under
  pub undone : IsUndone who.session span.old turn
  pub session : Changes who.session (λ a b. StepsSession who under to a b (Ok turn)) span.old.sessions span.new.sessions
  pub look_after : Looked to span.after
  pub blind : span.new.blind ≡ span.old.blind

-- memory ran out beside a step: before its call, or behind it
abbrev pub FallsShort : Caller → Wish → Span → Type 0
FallsShort who wish span = IsUncalled span ⊎ IsUnlooked who wish span

-- and the session, which was at work, is broken off as that left it
pub record RunsShort (who : Caller) (wish : Wish) (span : Span) : Type 0 where
  pub works : IsAtWork who.session span.old.sessions
  pub left : World
  pub falls : FallsShort who wish (record span { new = left })
  pub breaks : BreaksOff who.session left span.new

-- a step is refused, or it is made; or memory ran out beside it
abbrev pub MakesStep : Caller → Wish → Span → Result Reply WorldFault → Type 0
MakesStep who wish span result =
    RefusesStep who.session span result
    ⊎ (StepsTo who wish span result ⊎ (FindsNoMemory result × RunsShort who wish span))

-- the world went on by some plain steps, each one service call
pub data Went (who : Caller) (before : Seen) (old : World) : Seen → World → Type 0 where
  start : Went who before old before old
  further : (mid after : Seen) (world new : World) → Went who before old mid world → StepsLooked who Plain (span_of mid after world new) More → Went who before old after new

-- memory ran out behind some plain steps
pub record StopsShort (who : Caller) (span : Span) : Type 0 where
  pub mid : Seen
  pub world : World
  pub went : Went who span.before span.old mid world
  pub short : RunsShort who Plain (span_of mid span.after world span.new)

-- plain steps up to the first answer
pub record ComesTo (who : Caller) (span : Span) (answer : Answer) : Type 0 where
  pub mid : Seen
  pub world : World
  pub went : Went who span.before span.old mid world
  pub steps : StepsLooked who Plain (span_of mid span.after world span.new) (Ended answer)

-- the answer is the reply
pub record RunsTold (who : Caller) (span : Span) (reply : Reply) : Type 0 where
  pub answer : Answer
  pub comes : ComesTo who span answer
  pub replies : RepliesTo answer comes.steps.session.after (Ok reply)

-- or the reply found no memory: the session is broken off as the last step left it
pub record RunsUntold (who : Caller) (span : Span) (why : WorldFault) : Type 0 where
  pub left : World
  pub answer : Answer
  pub comes : ComesTo who (record span { new = left }) answer
  pub replies : RepliesTo answer comes.steps.session.after (Err why)
  pub breaks : BreaksOff who.session left span.new

abbrev pub RunsTo : Caller → Span → Result Reply WorldFault → Type 0
RunsTo who span (Ok reply) = RunsTold who span reply
RunsTo who span (Err why) = RunsUntold who span why

-- a run is refused, or it comes to its answer; or memory ran out on the way
abbrev pub Runs : Caller → Span → Result Reply WorldFault → Type 0
Runs who span result =
    RefusesStep who.session span result
    ⊎ (RunsTo who span result ⊎ (FindsNoMemory result × StopsShort who span))

-- ---- the settler: a settling or a sweep

-- it makes plain steps up to its answer, which is the reply, and is closed then
pub record SettlesTo (errand : Errand) (who : Caller) (span : Span) (result : Result Reply WorldFault) : Type 0 where
  pub left : World
  pub answer : Answer
  pub comes : ComesTo who (record span { new = left }) answer
  pub closes : Has who.session closed_session left span.new
  pub notes : KeepsNotes left span.new
  pub replies : RepliesFor errand answer result

-- memory ran out on the way, and it is closed then
pub record SettlesShort (who : Caller) (span : Span) : Type 0 where
  pub left : World
  pub stops : StopsShort who (record span { new = left })
  pub closes : Has who.session closed_session left span.new
  pub notes : KeepsNotes left span.new

abbrev pub SettlesOn : Errand → Caller → Span → Result Reply WorldFault → Type 0
SettlesOn errand who span result = SettlesTo errand who span result ⊎ (FindsNoMemory result × SettlesShort who span)

-- session 0 is the settler, and goes on its errand
pub record SettlerSettles (errand : Errand) (n : ℕ) (span : Span) (result : Result Reply WorldFault) : Type 0 where
  pub begun : World
  pub begins : Has 0 (session_for errand) span.old begun
  pub notes : KeepsNotes span.old begun
  pub settles : SettlesOn errand (record { session = 0; event = n }) (record span { old = begun }) result

-- nothing was done
pub record DoesNothing (span : Span) : Type 0 where
  pub seen : span.after ≡ span.before
  pub world : span.new ≡ span.old

-- or there was no memory for a settler
abbrev pub Settles : Errand → ℕ → Span → Result Reply WorldFault → Type 0
Settles errand n span result = SettlerSettles errand n span result ⊎ (FindsNoMemory result × DoesNothing span)

-- ---- the work of a session

-- the checkpoint of a queue
abbrev pub checkpoint_of : QueueName → Op
checkpoint_of (TreePu tree) = op.Tree tree
checkpoint_of (PagePu tree page) = op.Page tree page
checkpoint_of (Atomic client) = op.Renew

-- it begins, of a session that is open with nothing at work
pub record BeginsCheckpoint (number : ℕ) (queue : QueueName) (old new : World) : Type 0 where
  pub pending : IsPending queue
  pub right : IsRightOp (checkpoint_of queue)
  pub session : Changes number (λ a b. Begins (checkpoint_of queue) a b (Ok Working)) old.sessions new.sessions
  pub audit : new.audit ≡ old.audit
  pub blind : new.blind ≡ old.blind
  pub notes : ChangesBook number (λ a b. b ≡ record a { queue = Some queue }) old.notes new.notes

-- and comes to its answer
pub record Checkpoints (who : Caller) (queue : QueueName) (span : Span) (answer : Answer) : Type 0 where
  pub begun : World
  pub begins : BeginsCheckpoint who.session queue span.old begun
  pub comes : ComesTo who (record span { old = begun }) answer

-- one, where it is so
abbrev pub as_one : Bool → ℕ
as_one true = 1
as_one false = 0

-- it is done, or passed over where a trouble stopped it that is not want of memory
abbrev pub IsPassable : Answer → Type 0
IsPassable (answer.Done n) = Unit {0}
IsPassable (answer.Trouble t) = HasText t
IsPassable answer = ⊥

abbrev pub done_by : Answer → ℕ
done_by (answer.Done n) = 1
done_by answer = 0

abbrev pub passed_by : Answer → ℕ
passed_by (answer.Trouble t) = 1
passed_by answer = 0

-- a checkpoint of the queue was made, and done or passed over
pub record MakesOne (who : Caller) (queue : QueueName) (done : Bool) (span : Span) : Type 0 where
  pub answer : Answer
  pub makes : Checkpoints who queue span answer
  pub passes : IsPassable answer
  pub kept : done_by answer ≡ as_one done
  pub passed : passed_by answer ≡ as_one (not done)

-- queues that were gone through, and how many of their checkpoints were done and how many passed over
pub record GoneThrough : Type 0 where
  pub queues : List QueueName
  pub done : ℕ
  pub passed : ℕ

abbrev pub gone_through : List QueueName → ℕ → ℕ → GoneThrough
gone_through queues done passed = record { queues = queues; done = done; passed = passed }

-- one checkpoint for each of the queues, in their order
pub data Works (who : Caller) (before : Seen) (old : World) : GoneThrough → Seen → World → Type 0 where
  no_checkpoint : Works who before old (gone_through [] 0 0) before old
  checkpoint_more : (queues : List QueueName) (done passed : ℕ) (mid : Seen) (world : World) (queue : QueueName) (answer : Answer) (after : Seen) (new : World)
      → Works who before old (gone_through queues done passed) mid world → Checkpoints who queue (span_of mid after world new) answer → IsPassable answer
      → Works who before old (gone_through (queues ++ queue ∷ []) (done + done_by answer) (passed + passed_by answer)) after new

-- a session of a number is open with nothing at work
pub record IsOpen (number : ℕ) (sessions : List Acting) : Type 0 where
  pub session : Acting
  pub there : slice_get sessions number ≡ Some session
  pub client : ℕ
  pub opened : open_client session.work ≡ Ok client

-- or a rule refuses an operation of it
pub record IsShut (number : ℕ) (sessions : List Acting) (rule : Refusal) : Type 0 where
  pub session : Acting
  pub there : slice_get sessions number ≡ Some session
  pub shut : open_client session.work ≡ Err rule

-- a line of a session that is not open, or has something at work, is refused
pub record RefusesWork (number : ℕ) (span : Span) (result : Result Reply WorldFault) : Type 0 where
  pub rule : Refusal
  pub shut : IsShut number span.old.sessions rule
  pub declines : Declines (refused.Rule rule) span result

-- these queues were gone through, and the reply counts
pub record WorksOff (who : Caller) (queues : List QueueName) (span : Span) (r : Reply) : Type 0 where
  pub done : ℕ
  pub passed : ℕ
  pub works : Works who span.before span.old (gone_through queues done passed) span.after span.new
  pub replies : r ≡ reply.Worked done passed

-- a session that is open makes the checkpoints that are due to it
pub record WorksDown (who : Caller) (span : Span) (result : Result Reply WorldFault) : Type 0 where
  pub opened : IsOpen who.session span.old.sessions
  pub queues : List QueueName
  pub due : IsDueAt who.session span.old.notes queues
  pub done : ℕ
  pub passed : ℕ
  pub works : Works who span.before span.old (gone_through queues done passed) span.after span.new
  pub replies : result ≡ Ok (reply.Worked done passed)

-- memory ran out in a checkpoint: on the way, or it was the answer
abbrev pub CheckpointFails : Caller → Span → Type 0
CheckpointFails who span =
    StopsShort who span ⊎ ((left : World) × ComesTo who (record span { new = left }) (answer.Trouble trouble.Memory) × BreaksOff who.session left span.new)

-- the checkpoint of a queue began, and memory ran out in it
pub record FailsAt (who : Caller) (span : Span) : Type 0 where
  pub queue : QueueName
  pub begun : World
  pub begins : BeginsCheckpoint who.session queue span.old begun
  pub fails : CheckpointFails who (record span { old = begun })

-- there was none to tell what is due
pub record KnowsNoDue (number : ℕ) (span : Span) : Type 0 where
  pub seen : span.after ≡ span.before
  pub breaks : BreaksOff number span.old span.new

-- memory ran out behind some checkpoints, or before the first
pub record WorksShort (who : Caller) (span : Span) : Type 0 where
  pub opened : IsOpen who.session span.old.sessions
  pub queues : List QueueName
  pub done : ℕ
  pub passed : ℕ
  pub mid : Seen
  pub world : World
  pub works : Works who span.before span.old (gone_through queues done passed) mid world
  pub falls : KnowsNoDue who.session (span_of mid span.after world span.new) ⊎ FailsAt who (span_of mid span.after world span.new)

abbrev pub WorksThrough : Caller → Span → Result Reply WorldFault → Type 0
WorksThrough who span result =
    RefusesWork who.session span result
    ⊎ (WorksDown who span result ⊎ (FindsNoMemory result × WorksShort who span))

-- ---- a session's ledger

-- it is given to a client, without notes
abbrev pub IsGiven : Role → ℕ → ℕ → Notebook → Notebook → Type 0
IsGiven role k client old new = new ≡ record old { ledger = Some (record { role = role; k = k; client = client; counts = [] }) }

-- the session has one of this role and number
pub record GivesLedger (number : ℕ) (role : Role) (k : ℕ) (span : Span) (result : Result Reply WorldFault) : Type 0 where
  pub number_is : IsNumber k
  pub opened : IsOpen number span.old.sessions
  pub quiet : MakesNoCall span
  pub sessions : span.new.sessions ≡ span.old.sessions
  pub notes : ChangesBook number (IsGiven role k opened.client) span.old.notes span.new.notes
  pub replies : result ≡ Ok reply.Noted

-- the number is none of a ledger's
pub record RefusesNumber (k : ℕ) (span : Span) (result : Result Reply WorldFault) : Type 0 where
  pub none : IsNumber k → ⊥
  pub declines : Declines (refused.Rule rule.BadNumber) span result

abbrev pub Policies : ℕ → Role → ℕ → Span → Result Reply WorldFault → Type 0
Policies number role k span result =
    RefusesNumber k span result
    ⊎ ((IsNumber k × RefusesWork number span result) ⊎ GivesLedger number role k span result)

-- ---- a session that dies

-- it is closed, and no call is made
pub record Dies (number : ℕ) (span : Span) (result : Result Reply WorldFault) : Type 0 where
  pub quiet : MakesNoCall span
  pub closed : Changes number (λ a b. b ≡ closed_session) span.old.sessions span.new.sessions
  pub notes : ClearsNotes number span.old span.new
  pub replies : result ≡ Ok reply.Crashed

-- the call in hand is made plainly, and then it is closed, unanswered
pub record DiesDone (who : Caller) (span : Span) (result : Result Reply WorldFault) : Type 0 where
  pub world : World
  pub turn : Turn Answer
  pub steps : StepsLooked who Plain (record span { new = world }) turn
  pub closes : Has who.session closed_session world span.new
  pub notes : ClearsNotes who.session world span.new
  pub replies : result ≡ Ok reply.Crashed

-- where it has no call in hand it dies at once
pub record DiesIdle (number : ℕ) (span : Span) (result : Result Reply WorldFault) : Type 0 where
  pub rests : IsNotWorking number span.old.sessions
  pub dies : Dies number span result

-- or memory ran out beside that call
abbrev pub CrashesDone : Caller → Span → Result Reply WorldFault → Type 0
CrashesDone who span result =
    DiesDone who span result ⊎ (FindsNoMemory result × RunsShort who Plain span)

abbrev pub Crashes : Caller → Bool → Span → Result Reply WorldFault → Type 0
Crashes who false span result = Dies who.session span result
Crashes who true span result =
    DiesIdle who.session span result ⊎ CrashesDone who span result

-- ---- what a session does that a line asks of it

abbrev pub Does : Caller → Request → Span → Result Reply WorldFault → Type 0
Does who (Begin op) span result = MakesNoCall span × Changes who.session (BeginsOp op result) span.old.sessions span.new.sessions × BeginsBook who.session op span.old span.new
Does who (Note noting) span result = MakesNoCall span × Changes who.session (NotesChange noting result) span.old.sessions span.new.sessions × KeepsNotes span.old span.new
Does who Abort span result = MakesNoCall span × Changes who.session (DropsChanges result) span.old.sessions span.new.sessions × KeepsNotes span.old span.new
Does who (Policy role k) span result = Policies who.session role k span result
Does who WorksDue span result = WorksThrough who span result
Does who (Step wish) span result = MakesStep who wish span result
Does who Run span result = Runs who span result
Does who (Crash done) span result = Crashes who done span result

abbrev pub Serves : Caller → Result Request Refused → Span → Result Reply WorldFault → Type 0
Serves who (Ok request) span result = Does who request span result
Serves who (Err why) span result = Declines why span result

-- ---- waits and reports

-- the clock goes on, once more
pub record WaitsFor (ticks : ℕ) (before after : Seen) (result : Result Reply WorldFault) : Type 0 where
  pub within : ticks ≤ MAX_WAIT
  pub clock : (s : CloudState) → before.state ≡ Some s → s.now ≤ greatest
  pub no_call : IsNoCall before after
  pub waited : (s : CloudState) → before.state ≡ Some s → Waits ticks s after.state
  pub replies : result ≡ Ok reply.Waited

-- a wait for too long is refused
pub record WaitsTooLong (ticks : ℕ) (span : Span) (result : Result Reply WorldFault) : Type 0 where
  pub beyond : MAX_WAIT < ticks
  pub declines : Declines (refused.Rule rule.BadNumber) span result

-- a report shows the tree's part of the audit, the records of its newest leaves, its open heads, and the messages that wait for it
pub record Shows (tree : ℕ) (s : Option CloudState) (audit : Audited) (r : ReportShown) : Type 0 where
  pub tree_is : r.tree ≡ tree
  pub committed : r.committed ≡ of_tree tree audit.committed
  pub order : r.order ≡ of_tree tree audit.order
  pub contents : (x : CloudState) → s ≡ Some x → Walked x tree 0 r.contents
  pub heads : (x : CloudState) → s ≡ Some x → r.heads ≡ heads_upto x tree (of_tree tree audit.committed) last_client
  pub messages : (x : CloudState) → s ≡ Some x → AreWaiting x tree r.messages

-- why a tree has no report: a trouble stopped it, which is a failure only where a look failed in it or an earlier one blinded the audit, and
-- which else is by what its looks answered: the told state where one is told, and else what the cloud tells that looks show; a blinded one failed
pub record StopsBy (tree : ℕ) (before after : Seen) (blind : Bool) (t : Trouble) : Type 0 where
  pub failed : t ≡ trouble.Failed → (blind ≡ true) ⊎ Rose before.counts.dark after.counts.dark
  pub found : blind ≡ false → Finds tree before (Err t)
  pub blinded : blind ≡ true → t ≡ trouble.Failed

-- the reply to the report of a tree; a number that is no tree's is refused, and want of memory is not told
abbrev pub ReportReply : ℕ → Seen → Seen → World → Result Reply WorldFault → Type 0
ReportReply tree before after world (Ok (reply.Report r)) =
    IsTree tree × (world.blind ≡ false) × Shows tree before.state world.audit r × Finds tree before (Ok r)
ReportReply tree before after world (Ok (reply.Trouble t)) = IsTree tree × HasText t × StopsBy tree before after world.blind t
ReportReply tree before after world (Ok (reply.Refused r)) = (r ≡ rule.BadNumber) × (IsTree tree → ⊥)
ReportReply tree before after world (Ok r) = ⊥
ReportReply tree before after world (Err why) = Unit {0}

-- a report looks alone, and leaves the world as it is
pub record Reports (tree : ℕ) (span : Span) (result : Result Reply WorldFault) : Type 0 where
  pub world : span.new ≡ span.old
  pub looked : Looked span.before span.after
  pub reply : ReportReply tree span.before span.after span.old result

-- ---- every line

-- a number that is no session's is refused
pub record IsNoSession (number : ℕ) (span : Span) (result : Result Reply WorldFault) : Type 0 where
  pub none : IsSession number → ⊥
  pub declines : Declines (refused.Rule rule.BadNumber) span result

abbrev pub Answers : ℕ → Asked → Span → Result Reply WorldFault → Type 0
Answers n (Session number request) span result =
    (IsSession number × Serves (record { session = number; event = n }) request span result) ⊎ IsNoSession number span result
Answers n (Wait ticks) span result = (WaitsFor ticks span.before span.after result × (span.new ≡ span.old)) ⊎ WaitsTooLong ticks span result
Answers n (Report tree) span result = Reports tree span result
Answers n Settle span result = Settles settles n span result
Answers n (Sweep (Ok tree)) span result = IsTree tree × Settles (sweeps tree) n span result
Answers n (Sweep (Err why)) span result = Declines why span result

-- what a line does; its reply has a text
pub record Handled (n : ℕ) (event : Event) (span : Span) (result : Result Reply WorldFault) : Type 0 where
  pub asked : Asked
  pub asks : Asks event asked
  pub answers : Answers n asked span result
  pub text : IfOk result ReplyHasText
