-- What the reply of a line says is so, however it was handled: by the calls that the line made, as the cloud was seen before and behind each, and by what
-- its session has in hand before and behind it.
use Rattle.std.specs.Prelude.{ℕ, ◌≡◌, ◌+◌, ◌⊎◌, Bool, true, false, List, [], ◌∷◌, ◌++◌, length, map, Option, Some, None, Result, Ok, Err}
use Rattle.attr_index.specs.Look.{Look}
use Rattle.client_work.specs.InHand.{in_hand}
use Rattle.client_work.specs.Session.{Acting, closed_session, ask_of_work}
use Rattle.client_work.specs.Shows.{ShowsValue, ShowsRecords, ShowsFound, own_of, read_deed, scan_deed, look_deed}
use Rattle.client_work.specs.declared.answer.Answer.TheVariants as answer
use Rattle.client_work.specs.declared.listing.Listing.{Listing}
use Rattle.client_work.specs.declared.work.Work.TheVariants as work
use Rattle.cloud_facts.specs.Words.{Trouble, QueueName, Head, CloudState, Caller, Seen, Claim, Ask, Deed, Lasts, calls_of}
use Rattle.cloud_facts.specs.Book.Telling.{last_or, head_in}
use Rattle.cloud_trait.specs.Ask.{Renew}
use Rattle.cloud_trait.specs.Bench.{IsNoCall, HasWaited}
use Rattle.cloud_trait.specs.Claim.{extended}
use Rattle.cloud_trait.specs.Machine.{IsMade}
use Rattle.cloud_trait.specs.State.{end_after}
use Rattle.cloud_trait.specs.declared.answer.Answer.TheVariants as call
use Rattle.cloud_trait.specs.declared.turn.CkptAnswer.{CkptAnswer}
use Rattle.db_base.specs.Limits.{client_ticks}
use Rattle.db_base.specs.Value.{Value}
use Rattle.db_base.specs.declared.names.ObjName.TheVariants as object
use Rattle.db_base.specs.declared.pair.Pair.{Pair}
use Rattle.db_base.specs.declared.wish.Wish.{Wish}
use Rattle.event_text.specs.declared.event.Event.{Event}
use Rattle.event_text.specs.declared.event.Event.TheVariants as event
use Rattle.head_codec.specs.Head.{empty_head}
use Rattle.orphan_sweep.specs.Meaning.{IsSwept}
use Rattle.orphan_sweep.specs.Sweeping.{Sweeping}
use Rattle.orphan_sweep.specs.declared.swept.Swept.{Swept}
use Rattle.page_ckpt.specs.Meaning.{IsDone as IsPageDone}
use Rattle.page_ckpt.specs.Paging.{Paging}
use Rattle.range_scan.specs.Meaning.{range_of}
use Rattle.recover_run.specs.Meaning.{IsOpened}
use Rattle.recover_run.specs.Recovery.{Recovery}
use Rattle.recover_run.specs.declared.home.Home.{Home}
use Rattle.recover_run.specs.declared.stage.Aim.TheVariants as aim
use Rattle.replay_meaning.specs.Standing.{Line, Task, Working, Opening, Reading, LookingUp, Paging as PagingPage, Folding as FoldingTree, standing}
use Rattle.reply_text.specs.Reply.{HasText}
use Rattle.reply_text.specs.declared.reply.Reply.{Reply}
use Rattle.reply_text.specs.declared.reply.Reply.TheVariants as reply
use Rattle.session_facts.specs.Lines.Facts.{session_at}
use Rattle.session_facts.specs.Lines.Shown.{scan_task}
use Rattle.session_notes.specs.Notebook.{IsDueAt}
use Rattle.settle_run.specs.Meaning.{IsSettled}
use Rattle.settle_run.specs.Settling.{Settling}
use Rattle.settle_run.specs.declared.settled.Settled.{Settled}
use Rattle.tree_ckpt.specs.Making.{Making}
use Rattle.tree_ckpt.specs.Meaning.{IsDone as IsTreeDone}
use Rattle.tree_walk.specs.Walk.{Walk, sought}
use Rattle.world_audit.specs.Look.{Looked}
use Rattle.world_core.specs.Handled.{SetsWish, Checkpoints}
use Rattle.world_core.specs.Stands.{WorldStands}
use Rattle.world_core.specs.World.{World}
use Rattle.world_core.specs.declared.world.WorldFault.{WorldFault}
use Rattle.world_core.specs.Span.{Span, span_of}

-- ---- the calls of a line

-- a service call of a caller, with what may come about it: before it looks and the wish for it, and looks behind it
pub record IsCallOf (who : Caller) (d : Deed) (before after : Seen) : Type 0 where
  pub own : d.who ≡ who
  pub made : IsMade d
  pub from : Seen
  pub look_before : Looked before from
  pub wish : Wish
  pub wishes : SetsWish wish from d.before
  pub look_after : Looked d.after after

-- these are all calls that were made between two moments, the newest first, each of this caller
abbrev pub AreCallsOf : Caller → List Deed → Seen → Seen → Type 0
AreCallsOf who [] before after = after ≡ before
AreCallsOf who (d ∷ h) before after = (mid : Seen) × AreCallsOf who h before mid × IsCallOf who d mid after

-- this is the newest call, and was made by this caller
abbrev pub IsLastOf : Caller → Deed → Seen → Type 0
IsLastOf who d after = (mid : Seen) × IsCallOf who d mid after

-- the caller's session before the line and behind it
abbrev pub session_before : Caller → Span → Acting
session_before who span = session_at span.old.sessions who.session

abbrev pub session_behind : Caller → Span → Acting
session_behind who span = session_at span.new.sessions who.session

-- the session is open then, with nothing at work
abbrev pub IsOpenWith : Caller → Span → Home → Type 0
IsOpenWith who span home = (session_behind who span).work ≡ work.Idle home

-- ---- waits and deaths

-- `waited`: the clock is later by the ticks at least, one wait more was counted, no call was made, and the world stays
pub record LetsTimeGo (ticks : ℕ) (span : Span) : Type 0 where
  pub no_call : IsNoCall span.before span.after
  pub waited : HasWaited ticks span.before span.after
  pub world : span.new ≡ span.old

-- the call in hand is made and no other, where there is one
abbrev pub MakesHand : Caller → Option Ask → Seen → Seen → Type 0
MakesHand who None before after = after ≡ before
MakesHand who (Some ask) before after = (d : Deed) × (d.ask ≡ ask) × AreCallsOf who (d ∷ []) before after

-- `crashed`: the session is closed, and its call in hand was made where the line says so
abbrev pub hand_due : Bool → Acting → Option Ask
hand_due true session = ask_of_work session.work
hand_due false session = None

pub record Dies (who : Caller) (done : Bool) (span : Span) : Type 0 where
  pub calls : MakesHand who (hand_due done (session_before who span)) span.before span.after
  pub closed : session_behind who span ≡ closed_session

-- ---- the settler

-- `settled`: these calls of session 0 are all that the line made, they are those of a settling that emptied all queues, and the reply is how many
pub record Settles (who : Caller) (calls : ℕ) (span : Span) : Type 0 where
  pub deeds : List Deed
  pub are : AreCallsOf who deeds span.before span.after
  pub left : Settling
  pub answer : Settled
  pub whole : IsSettled deeds left answer
  pub counts : calls ≡ length deeds

-- `swept`: these calls of session 0 are all that the line made, up to the release at the end those of a sweep of the tree; of the pages that it listed
-- the reply counts those that it did not come to and removed, and the others as kept
pub record Sweeps (who : Caller) (tree kept removed : ℕ) (span : Span) : Type 0 where
  pub last : Deed
  pub earlier : List Deed
  pub are : AreCallsOf who (last ∷ earlier) span.before span.after
  pub sweep : Sweeping
  pub of : sweep.tree ≡ tree
  pub answer : Swept
  pub swept : IsSwept sweep (calls_of earlier) answer
  pub gone : removed ≡ length sweep.orphans
  pub rest : kept + length sweep.orphans ≡ length swept.listed.listed

-- ---- the end of an operation

-- `opened`: by its calls, of which the line made the last, an opening put the head of this epoch, and the session is open with it
pub record Opens (who : Caller) (epoch : ℕ) (span : Span) : Type 0 where
  pub last : Deed
  pub is_last : IsLastOf who last span.after
  pub former : Option Claim
  pub earlier : List Deed
  pub left : Recovery
  pub home : Home
  pub opened : IsOpened home.client aim.Opening former ((last.ask, last.answer) ∷ calls_of earlier) left epoch
  pub is_open : IsOpenWith who span home
  pub epoch_is : home.head.epoch ≡ epoch

-- `renewed`: the line's last call renewed the lease of the session's client up to this end, and the session is open with it
pub record Renews (who : Caller) (end : ℕ) (span : Span) : Type 0 where
  pub last : Deed
  pub is_last : IsLastOf who last span.after
  pub lease : Claim
  pub asked : last.ask ≡ Renew lease client_ticks
  pub answered : last.answer ≡ call.Renewed end
  pub home : Home
  pub is_open : IsOpenWith who span home
  pub kept : home.lease ≡ extended lease end

-- `value` and `none`: this is what the session's client sees of the key in a leaf whose range has it, as the line's last call served it
pub record Reads (who : Caller) (value : Option Value) (span : Span) : Type 0 where
  pub before : Seen
  pub after : Seen
  pub walk : Walk
  pub home : Home
  pub shows : ShowsValue who before after (own_of home (session_behind who span).buffer) walk value
  pub is_last : IsLastOf who (read_deed who walk shows.answer before after) span.after
  pub is_open : IsOpenWith who span home

-- `scan` behind a scan: these are the records that the session's client sees in the leaves of its range, the last of which the line's last call served
pub record Scans (who : Caller) (pairs : List Pair) (span : Span) : Type 0 where
  pub before : Seen
  pub after : Seen
  pub from : Acting
  pub listing : Listing
  pub home : Home
  pub shows : ShowsRecords who before after (session_behind who span).buffer (in_hand home listing from.cache) pairs
  pub is_last : IsLastOf who (scan_deed who listing.scan shows.answer before after) span.after
  pub is_open : IsOpenWith who span home

-- `scan` behind a look-up: these are the records that it found at the ends of its walks
pub record Finds (who : Caller) (pairs : List Pair) (span : Span) : Type 0 where
  pub before : Seen
  pub after : Seen
  pub from : Acting
  pub look : Look
  pub home : Home
  pub shows : ShowsFound who before after (session_behind who span).buffer (in_hand home look from.cache) pairs
  pub is_last : IsLastOf who (look_deed who look shows.answer before after) span.after
  pub is_open : IsOpenWith who span home

-- `done` behind the checkpoint of a page: its calls, of which the line made the last, applied so many records, and so many of its deletions went and failed
pub record Pages (who : Caller) (done : CkptAnswer) (span : Span) : Type 0 where
  pub last : Deed
  pub is_last : IsLastOf who last span.after
  pub paging : Paging
  pub earlier : List Deed
  pub is_done : IsPageDone last.ask paging earlier done

-- `done` behind the checkpoint of a tree
pub record Folds (who : Caller) (done : CkptAnswer) (span : Span) : Type 0 where
  pub last : Deed
  pub is_last : IsLastOf who last span.after
  pub making : Making
  pub earlier : List Deed
  pub is_done : IsTreeDone last.ask making.tree making.received earlier done

-- `called`: the line made one call, the one that the session had in hand
pub record Calls (who : Caller) (span : Span) : Type 0 where
  pub d : Deed
  pub hand : ask_of_work (session_before who span).work ≡ Some d.ask
  pub are : AreCallsOf who (d ∷ []) span.before span.after

-- what a step or a run is answered
abbrev pub TellsEnd : Caller → Reply → Span → Type 0
TellsEnd who reply.Called span = Calls who span
TellsEnd who (reply.Opened epoch) span = Opens who epoch span
TellsEnd who (reply.Renewed end) span = Renews who end span
TellsEnd who (reply.Value payload) span = (value : Value) × (payload ≡ value.payload) × Reads who (Some value) span
TellsEnd who reply.NoValue span = Reads who None span
TellsEnd who (reply.Scan pairs) span = Scans who pairs span ⊎ Finds who pairs span
TellsEnd who (reply.Done done) span = Pages who done span ⊎ Folds who done span
TellsEnd who r span = Unit {0}

-- ---- a work

-- `worked`: the checkpoints of these queues were made, one behind another; so many ended as done, and so many were passed over
pub data WorksOver (who : Caller) (before : Seen) (old : World) : List QueueName → (done passed : ℕ) → Seen → World → Type 0 where
  no_queue : WorksOver who before old [] 0 0 before old
  one_done : (queues : List QueueName) (done passed : ℕ) (mid after : Seen) (world new : World) (queue : QueueName) (a : CkptAnswer)
      → WorksOver who before old queues done passed mid world → Checkpoints who queue (span_of mid after world new) (answer.Done a)
      → WorksOver who before old (queues ++ queue ∷ []) (done + 1) passed after new
  one_passed : (queues : List QueueName) (done passed : ℕ) (mid after : Seen) (world new : World) (queue : QueueName) (t : Trouble)
      → WorksOver who before old queues done passed mid world → Checkpoints who queue (span_of mid after world new) (answer.Trouble t) → HasText t
      → WorksOver who before old (queues ++ queue ∷ []) done (passed + 1) after new

-- .. of each queue that was due to the session
pub record Works (who : Caller) (done passed : ℕ) (span : Span) : Type 0 where
  pub queues : List QueueName
  pub due : IsDueAt who.session span.old.notes queues
  pub over : WorksOver who span.before span.old queues done passed span.after span.new

-- ---- every line

-- the session of a number, at line n
abbrev pub caller_of : ℕ → ℕ → Caller
caller_of n session = record { session = session; event = n }

-- what the reply to an event of line n says, over any cloud; of other replies and events nothing is said here
abbrev pub Tells : ℕ → Event → Reply → Span → Type 0
Tells n (event.Wait ticks) reply.Waited span = LetsTimeGo ticks span
Tells n (event.Crash session done) reply.Crashed span = Dies (caller_of n session) done span
Tells n event.Settle (reply.Settled calls) span = Settles (caller_of n 0) calls span
Tells n (event.Sweep tree) (reply.Swept kept removed) span = Sweeps (caller_of n 0) tree kept removed span
Tells n (event.Work session) (reply.Worked done passed) span = Works (caller_of n session) done passed span
Tells n (event.Step session wish) r span = TellsEnd (caller_of n session) r span
Tells n (event.Run session) r span = TellsEnd (caller_of n session) r span
Tells n e r span = Unit {0}

-- ---- by the lines, over a cloud that tells its state

-- the session works on this task, and for this client
abbrev pub IsAtWorkOn : List Line → ℕ → Task → Type 0
IsAtWorkOn lines session task = (standing lines session).posture ≡ Working task

abbrev pub WorksOnFor : List Line → ℕ → Task → ℕ → Type 0
WorksOnFor lines session task client = IsAtWorkOn lines session task × ((standing lines session).client ≡ client)

-- the newest head of a client, and the empty one where there is none
abbrev pub newest_head : CloudState → ℕ → Head
newest_head s client = last_or empty_head (map head_in (s.versions (object.Head client)))

-- while the lease of an open client lasts, the newest head is of the epoch in which it is open
abbrev pub IsInNewest : Home → Seen → Type 0
IsInNewest home after = (u : CloudState) → after.state ≡ Some u → Lasts u.now home.lease → (newest_head u home.client).epoch ≡ home.head.epoch

-- a lease that is given for 600 ticks now ends so
abbrev pub EndsFromNow : ℕ → Seen → Type 0
EndsFromNow end after = (u : CloudState) → after.state ≡ Some u → end ≡ end_after u.now client_ticks

-- what is answered is of what the lines say that the session works on: the client that they open, and the key, the range, the attribute, the page or the
-- tree that they name; an epoch is that of the newest head, and an end is so many ticks behind the clock
abbrev pub TellsEndBy : List Line → Caller → Reply → Span → Type 0
TellsEndBy lines who (reply.Opened epoch) span =
    (x : Opens who epoch span) × WorksOnFor lines who.session Opening x.home.client × IsInNewest x.home span.after
TellsEndBy lines who (reply.Renewed end) span = EndsFromNow end span.after
TellsEndBy lines who (reply.Value payload) span =
    (value : Value) × (payload ≡ value.payload)
    × ((x : Reads who (Some value) span) × WorksOnFor lines who.session (Reading x.walk.tree (sought x.walk)) x.home.client)
TellsEndBy lines who reply.NoValue span = (x : Reads who None span) × WorksOnFor lines who.session (Reading x.walk.tree (sought x.walk)) x.home.client
TellsEndBy lines who (reply.Scan pairs) span =
    ((x : Scans who pairs span) × WorksOnFor lines who.session (scan_task (range_of x.listing.scan)) x.home.client)
    ⊎ ((x : Finds who pairs span) × WorksOnFor lines who.session (LookingUp x.look.query.tree x.look.query.attr) x.home.client)
TellsEndBy lines who (reply.Done done) span =
    ((x : Pages who done span) × IsAtWorkOn lines who.session (PagingPage x.paging.tree x.paging.page))
    ⊎ ((x : Folds who done span) × IsAtWorkOn lines who.session (FoldingTree x.making.tree))
TellsEndBy lines who r span = Unit {0}

abbrev pub TellsBy : List Line → ℕ → Event → Reply → Span → Type 0
TellsBy lines n (event.Step session wish) r span = TellsEndBy lines (caller_of n session) r span
TellsBy lines n (event.Run session) r span = TellsEndBy lines (caller_of n session) r span
TellsBy lines n e r span = Unit {0}

-- Whatever the cloud tells, what a reply says is so; and whatever lines a world and a cloud stood for before the line, it is of what they say.
abbrev pub TellsSo : ℕ → Event → Span → Result Reply WorldFault → Type 0
TellsSo n event span (Ok r) =
    Tells n event r span
    × ((lines : List Line) (t : CloudState) → length lines + 1 ≡ n → span.before.state ≡ Some t → WorldStands lines span.old t → TellsBy lines n event r span)
TellsSo n event span (Err fault) = Unit {0}
