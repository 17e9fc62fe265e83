-- What a commit writes as a machine: what it knows, what it asks, and where each answer leads.
use Rattle.std.specs.Prelude.{ℕ, ◌≡◌, ◌+◌, ◌-◌, ◌^◌, ◌==◌, Bool, nat_le, if◌then◌else◌, List, [], ◌∷◌, ◌++◌, length, replicate, slice_get, Option, Some, None, Result, Ok, Err}
use Rattle.std.specs.List.{list_any}
use Rattle.db_base.specs.declared.names.ObjName.TheVariants as object
use Rattle.db_base.specs.declared.names.QueueName.TheVariants as queue
use Rattle.db_base.specs.declared.trouble.Trouble.{Trouble}
use Rattle.db_base.specs.declared.trouble.Trouble.TheVariants as trouble
use Rattle.db_base.specs.declared.trouble.Counter.TheVariants as counter
use Rattle.db_base.specs.declared.trouble.CommitAnswer.{CommitAnswer}
use Rattle.db_base.specs.declared.trouble.CommitAnswer.TheVariants.{Committed, NotCommitted, InDoubt, CommittedOpen}
use Rattle.head_codec.specs.declared.head.Head.{Head}
use Rattle.head_codec.specs.declared.head.Phase.{Phase}
use Rattle.head_codec.specs.declared.lists.QueueCount.{QueueCount}
use Rattle.head_codec.specs.Spelling.{head_bytes}
use Rattle.log_codec.specs.declared.record.AtomicRec.{AtomicRec}
use Rattle.log_codec.specs.Atomic.{atomic_bytes}
use Rattle.log_codec.specs.Pu.{pu_bytes}
use Rattle.route_plan.specs.Queue.{queue_name}
use Rattle.route_plan.specs.Record.{pu_record_of}
use Rattle.route_plan.specs.Heads.{opened_head, settled_head}
use Rattle.route_plan.specs.Route.{routed}
use Rattle.txn_buffer.specs.Noted.{Noted}
use Rattle.cloud_trait.specs.declared.answer.Answer.{Answer}
use Rattle.cloud_trait.specs.declared.answer.Answer.TheVariants.{Failed}
use Rattle.cloud_trait.specs.declared.turn.Turn.{Turn}
use Rattle.cloud_trait.specs.Ask.{Ask, PutHeld, Send, Delete}
use Rattle.cloud_trait.specs.Machine.{Next, Goes, Ends, Stops, Took}
use Rattle.cloud_trait.specs.Views.{sent_of, done_of}
use Rattle.recover_run.specs.declared.home.Home.{Home}
use Rattle.commit_writes.specs.declared.stage.Stage.{Stage}
use Rattle.commit_writes.specs.declared.stage.Stage.TheVariants.{Waiting, Logging, Opening, Sending, Settling, Deleting, Finished}

-- what the put that commits changes in a head
pub record Before : Type 0 where
  pub txn : ℕ
  pub phase : Phase
  pub counters : List QueueCount

abbrev pub before_of : Head → Before
before_of h = record { txn = h.txn; phase = h.phase; counters = h.counters }

abbrev pub restored : Head → Before → Head
restored h b = record h { txn = b.txn; phase = b.phase; counters = b.counters }

-- where a commit stands: the home with the head that the put in hand makes or an earlier one made, what that head was before,
-- the changes, the stage, the records, how many calls of the stage were made, the ids of the ATOMIC messages, and the bytes of the put or send in hand
pub record Writing : Type 0 where
  pub home : Home
  pub before : Before
  pub changes : List Noted
  pub stage : Stage
  pub records : List AtomicRec
  pub place : ℕ
  pub ids : List ℕ
  pub out : List ℕ

-- the commit of changes by a home, before its first write
abbrev pub waiting : Home → List Noted → Writing
waiting home changes = record { home = home; before = record (before_of home.head) { counters = [] }; changes = changes; stage = Waiting; records = []; place = 0; ids = []; out = [] }

abbrev pub with_head : Home → Head → Home
with_head home head = record home { head = head }

abbrev pub with_home : Writing → Home → Writing
with_home w home = record w { home = home }

-- ---- before the first write

-- the home takes the next attempt number, where it is not at the greatest one
abbrev pub with_attempt : Home → Home
with_attempt home = record home { attempt = home.attempt + 1 }

abbrev pub is_spent : Home → Bool
is_spent home = home.attempt == 2 ^ 64 - 1

abbrev pub numbered : Writing → Writing
numbered w = if is_spent w.home then w else with_home w (with_attempt w.home)

-- the home without the pending entries that a leaf of a tree, or a tree object, shows to be applied; nothing is in hand then
abbrev pub pruned : Writing → Head → Writing
pruned w head = record w { home = with_head w.home head; stage = Waiting }

-- ---- the call in hand

abbrev pub head_ask : Writing → Ask
head_ask w = PutHeld (object.Head w.home.client) w.out w.home.lease None

-- a record goes to the client's ATOMIC queue
abbrev pub log_ask : Writing → Ask
log_ask w = Send (queue.Atomic w.home.client) w.out

-- a record goes to its pending update queue
abbrev pub send_ask : Writing → Option AtomicRec → Ask
send_ask w (Some r) = Send (queue_name r.tree r.page) w.out
send_ask w None = head_ask w

-- an ATOMIC message is deleted
abbrev pub delete_ask : Writing → Option ℕ → Ask
delete_ask w (Some id) = Delete (queue.Atomic w.home.client) id
delete_ask w None = head_ask w

abbrev pub ask_at : Stage → Writing → Ask
ask_at Waiting w = head_ask w
ask_at Logging w = log_ask w
ask_at Opening w = head_ask w
ask_at Sending w = send_ask w (slice_get w.records w.place)
ask_at Settling w = head_ask w
ask_at Deleting w = delete_ask w (slice_get w.ids w.place)
ask_at Finished w = head_ask w

abbrev pub writing_ask : Writing → Ask
writing_ask w = ask_at w.stage w

-- ---- where each answer leads: at want of memory to a stop, and to no answer

abbrev pub finished : Writing → Writing
finished w = record w { stage = Finished }

-- nothing was committed
abbrev pub not_committed : Writing → Trouble → Next Writing CommitAnswer
not_committed w t = Ends (finished w) (NotCommitted t)

-- the head that commits is put: open, with the counters raised, and without the records among its pending entries
abbrev pub opened : Writing → Head
opened w = opened_head w.home.head w.home.attempt w.records

abbrev pub opening : Writing → Next Writing CommitAnswer
opening w = Goes (record w { home = with_head w.home (opened w); before = before_of w.home.head; stage = Opening; out = head_bytes (opened w) })

-- the next record is sent to the ATOMIC queue, or all are
abbrev pub log_or_open : Writing → Option AtomicRec → Next Writing CommitAnswer
log_or_open w (Some r) = Goes (record w { stage = Logging; out = atomic_bytes r })
log_or_open w None = opening w

abbrev pub log_at : Writing → ℕ → Next Writing CommitAnswer
log_at w n = log_or_open (record w { place = n }) (slice_get w.records n)

-- the first record of the commit is sent
abbrev pub begun : Writing → List AtomicRec → Next Writing CommitAnswer
begun w records = log_at (record w { records = records }) 0

-- the records of changes by a home, each with the leaf that it came to
abbrev pub routed_of : Home → List Noted → List ℕ → List AtomicRec
routed_of home changes leaves = routed home.client home.head.epoch home.attempt home.head changes leaves

-- a number would pass the greatest u64
abbrev pub passes : List AtomicRec → Bool
passes records = list_any (λ (r : AtomicRec). nat_le (2 ^ 64) r.number) records

-- the records of the changes are written, unless a number would pass the greatest one
abbrev pub routing : Writing → List ℕ → Next Writing CommitAnswer
routing w leaves =
    if passes (routed_of w.home w.changes leaves) then not_committed w (trouble.Exhausted counter.Number) else begun w (routed_of w.home w.changes leaves)

-- page 1 for each change
abbrev pub first_leaves : List Noted → List ℕ
first_leaves changes = replicate (length changes) 1

-- the head that settles is put: with the records at the end of its pending entries
abbrev pub settled : Writing → Head
settled w = settled_head w.home.head w.records

abbrev pub settling : Writing → Next Writing CommitAnswer
settling w = Goes (record w { home = with_head w.home (settled w); stage = Settling; out = head_bytes (settled w) })

-- the next record is sent to its pending update queue, or all are
abbrev pub send_or_settle : Writing → Option AtomicRec → Next Writing CommitAnswer
send_or_settle w (Some r) = Goes (record w { stage = Sending; out = pu_bytes (pu_record_of r) })
send_or_settle w None = settling w

abbrev pub send_at : Writing → ℕ → Next Writing CommitAnswer
send_at w n = send_or_settle (record w { place = n }) (slice_get w.records n)

-- the next ATOMIC message is deleted, or all are, and the commit ends
abbrev pub delete_or_end : Writing → Option ℕ → Next Writing CommitAnswer
delete_or_end w (Some id) = Goes (record w { stage = Deleting })
delete_or_end w None = Ends (finished w) (Committed w.home.attempt)

abbrev pub delete_at : Writing → ℕ → Next Writing CommitAnswer
delete_at w n = delete_or_end (record w { place = n }) (slice_get w.ids n)

-- the head has again what the put that commits would have changed
abbrev pub closed_again : Writing → Writing
closed_again w = record w { home = with_head w.home (restored w.home.head w.before); before = record w.before { counters = [] } }

-- the head stays open
abbrev pub left_open : Writing → Trouble → Next Writing CommitAnswer
left_open w t = Ends (finished w) (CommittedOpen t)

-- after a send to the ATOMIC queue
abbrev pub logged_by : Writing → Result ℕ Trouble → Next Writing CommitAnswer
logged_by w (Ok id) = log_at (record w { ids = w.ids ++ id ∷ [] }) (w.place + 1)
logged_by w (Err trouble.Memory) = Stops w trouble.Memory
logged_by w (Err t) = not_committed w t

-- after the put that commits: a late one did not land, and a failed one may have
abbrev pub not_opened : Writing → Trouble → Next Writing CommitAnswer
not_opened w (trouble.Late end now) = not_committed (closed_again w) (trouble.Late end now)
not_opened w trouble.Memory = Stops w trouble.Memory
not_opened w t = Ends (finished w) InDoubt

abbrev pub opened_by : {A : Type 0} → Writing → Result A Trouble → Next Writing CommitAnswer
opened_by w (Ok _) = send_at w 0
opened_by w (Err t) = not_opened w t

-- after a send to a pending update queue
abbrev pub sent_by : {A : Type 0} → Writing → Result A Trouble → Next Writing CommitAnswer
sent_by w (Ok _) = send_at w (w.place + 1)
sent_by w (Err trouble.Memory) = Stops w trouble.Memory
sent_by w (Err t) = left_open w t

-- after the put that settles
abbrev pub settled_by : {A : Type 0} → Writing → Result A Trouble → Next Writing CommitAnswer
settled_by w (Ok _) = delete_at w 0
settled_by w (Err trouble.Memory) = Stops w trouble.Memory
settled_by w (Err t) = left_open w t

-- after a deletion, whatever it answered
abbrev pub deleted_by : {A : Type 0} → Writing → Result A Trouble → Next Writing CommitAnswer
deleted_by w (Err trouble.Memory) = Stops w trouble.Memory
deleted_by w done = delete_at w (w.place + 1)

abbrev pub next_at : Stage → Writing → Answer → Next Writing CommitAnswer
next_at Waiting w a = Stops w trouble.Failed
next_at Logging w a = logged_by w (sent_of a)
next_at Opening w a = opened_by w (done_of a)
next_at Sending w a = sent_by w (sent_of a)
next_at Settling w a = settled_by w (done_of a)
next_at Deleting w a = deleted_by w (done_of a)
next_at Finished w a = Stops w trouble.Failed

abbrev pub writing_next : Writing → Answer → Next Writing CommitAnswer
writing_next w a = next_at w.stage w a

-- the head that the put in hand opens, where it is the one that commits
abbrev pub opens_at : Stage → Writing → Option Head
opens_at Opening w = Some w.home.head
opens_at Waiting w = None
opens_at Logging w = None
opens_at Sending w = None
opens_at Settling w = None
opens_at Deleting w = None
opens_at Finished w = None

-- at want of memory the home is as it was but for its head
abbrev pub KeepsHome : Writing → Answer → Writing → Type 0
KeepsHome w a n = n.home ≡ with_head w.home n.home.head

-- a part of the step leads so from this state, whatever was answered; at want of memory it keeps the home
abbrev pub TurnsBy : (Writing → Next Writing CommitAnswer → Type 0) → Writing → Writing → Turn CommitAnswer → Type 0
TurnsBy leads old new turn = Took (λ from _ next. leads from next) KeepsHome old Failed new turn
