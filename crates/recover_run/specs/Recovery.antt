-- An opening or a recovery as a machine: what it knows, what it asks, and where each answer leads.
use Rattle.std.specs.Prelude.{ℕ, ◌≡◌, ◌≤◌, ◌+◌, ◌-◌, ◌^◌, ◌==◌, ◌++◌, if◌then◌else◌, List, [], ◌∷◌, length, slice_get, Option, Some, None, Result, Ok, Err}
use Rattle.db_base.specs.Limits.{client_ticks, most_received}
use Rattle.db_base.specs.declared.names.Lock.TheVariants as lock
use Rattle.db_base.specs.declared.names.ObjName.TheVariants as object
use Rattle.db_base.specs.declared.names.QueueName.{QueueName}
use Rattle.db_base.specs.declared.names.QueueName.TheVariants as queue
use Rattle.db_base.specs.declared.names.Place.TheVariants as place
use Rattle.db_base.specs.declared.trouble.Trouble.{Trouble}
use Rattle.db_base.specs.declared.trouble.Trouble.TheVariants as trouble
use Rattle.db_base.specs.declared.trouble.Counter.TheVariants as counter
use Rattle.head_codec.specs.declared.head.Head.{Head}
use Rattle.head_codec.specs.declared.head.Phase.{Phase}
use Rattle.head_codec.specs.declared.head.Phase.TheVariants.{Settled, Open}
use Rattle.head_codec.specs.Head.{empty_head, next_head}
use Rattle.head_codec.specs.Spelling.{HasSpelling, head_bytes, head_of, head_offset}
use Rattle.log_codec.specs.Pu.{pu_bytes, pu_of}
use Rattle.route_plan.specs.Queue.{queue_name}
use Rattle.route_plan.specs.Record.{pu_record_of}
use Rattle.cloud_trait.specs.declared.answer.Answer.{Answer}
use Rattle.cloud_trait.specs.declared.answer.Answer.TheVariants.{Failed}
use Rattle.cloud_trait.specs.declared.message.Message.{Message}
use Rattle.cloud_trait.specs.declared.turn.Turn.{Turn}
use Rattle.cloud_trait.specs.Ask.{Ask, GetHeld, PutHeld, Send, Receive, Delete, Take, Release}
use Rattle.cloud_trait.specs.Claim.{Claim}
use Rattle.cloud_trait.specs.Machine.{Next, Goes, Ends, Stops, Took, Machine, machine_by, LeadsBy}
use Rattle.cloud_trait.specs.Views.{given_of, got_of, sent_of, received_of, done_of}
use Rattle.recover_run.specs.declared.wanted.Wanted.{Wanted}
use Rattle.recover_run.specs.declared.home.Home.{Home}
use Rattle.recover_run.specs.declared.items.AtomicItem.{AtomicItem}
use Rattle.recover_run.specs.declared.stage.Aim.{Aim}
use Rattle.recover_run.specs.declared.stage.Aim.TheVariants.{Opening, Settling}
use Rattle.recover_run.specs.declared.stage.Stage.{Stage}
use Rattle.recover_run.specs.declared.stage.Stage.TheVariants.{ReleasingOld, Taking, Getting, Receiving, Deleting, Sending, Putting, Clearing, Sweeping, Releasing, Finished}
use Rattle.recover_run.specs.declared.stage.RecoverAnswer.{RecoverAnswer}
use Rattle.recover_run.specs.declared.stage.RecoverAnswer.TheVariants.{Opened, Nothing}
use Rattle.recover_run.specs.Gathering.{Gathered, nothing_gathered, gathered_with, lost_now, past_ids, wanted_of}
use Rattle.recover_run.specs.Ids.{new_ids, rest_of}
use Rattle.recover_run.specs.Items.{items_of, ids_of, message_damage}
use Rattle.recover_run.specs.Sending.{pending_with}

-- where a recovery stands: its aim; the lease that was handed in and the client's; what it wants by the head that it read, and the head of
-- the next epoch; what it gathered; the ids that it deletes next; how many records it sent; behind the put, all ids that it deletes; the
-- bytes of the put or send in hand; and what it answers once the lease is given back
pub record Recovery : Type 0 where
  pub client : ℕ
  pub aim : Aim
  pub stage : Stage
  pub former : Option Claim
  pub lease : Option Claim
  pub wanted : Wanted
  pub head : Head
  pub gathered : Gathered
  pub ids : List ℕ
  pub sent : ℕ
  pub swept : List ℕ
  pub out : List ℕ
  pub ending : Option (Result RecoverAnswer Trouble)

-- an old lease is given back first
abbrev pub first_stage : Option Claim → Stage
first_stage (Some l) = ReleasingOld
first_stage None = Taking

-- a recovery before its first call
abbrev pub new_recovery : ℕ → Aim → Option Claim → Recovery
new_recovery client aim old = record {
  client = client;
  aim = aim;
  stage = first_stage old;
  former = old;
  lease = None;
  wanted = wanted_of empty_head;
  head = empty_head;
  gathered = nothing_gathered;
  ids = [];
  sent = 0;
  swept = [];
  out = [];
  ending = None;
}

-- ---- the call in hand

abbrev pub take_lease : Recovery → Ask
take_lease r = Take (lock.Client r.client) client_ticks

abbrev pub under : Recovery → Option Claim → (Claim → Ask) → Ask
under r (Some l) ask = ask l
under r None ask = take_lease r

abbrev pub atomic_queue : Recovery → QueueName
atomic_queue r = queue.Atomic r.client

abbrev pub receive_next : Recovery → Ask
receive_next r = Receive (atomic_queue r) most_received

abbrev pub delete_next : Recovery → List ℕ → Ask
delete_next r (id ∷ ids) = Delete (atomic_queue r) id
delete_next r [] = take_lease r

abbrev pub send_next : Recovery → Option AtomicItem → Ask
send_next r (Some x) = Send (queue_name x.rec.tree x.rec.page) r.out
send_next r None = take_lease r

abbrev pub ask_at : Stage → Recovery → Ask
ask_at ReleasingOld r = under r r.former Release
ask_at Taking r = take_lease r
ask_at Getting r = under r r.lease (λ l. GetHeld (object.Head r.client) l)
ask_at Receiving r = receive_next r
ask_at Deleting r = delete_next r r.ids
ask_at Sending r = send_next r (slice_get r.gathered.kept r.sent)
ask_at Putting r = under r r.lease (λ l. PutHeld (object.Head r.client) r.out l None)
ask_at Clearing r = delete_next r r.ids
ask_at Sweeping r = receive_next r
ask_at Releasing r = under r r.lease Release
ask_at Finished r = take_lease r

abbrev pub recovery_ask : Recovery → Ask
recovery_ask r = ask_at r.stage r

-- ---- where an answer leads

abbrev pub Step : Type 0
Step = Next Recovery RecoverAnswer

abbrev pub goes_to : Stage → Recovery → Step
goes_to stage r = Goes (record r { stage = stage })

-- the lease is given back, and then the recovery ends or stops so
abbrev pub releasing : Recovery → Result RecoverAnswer Trouble → Step
releasing r ending = Goes (record r { stage = Releasing; ending = Some ending })

abbrev pub stopping : Recovery → Trouble → Step
stopping r t = releasing r (Err t)

abbrev pub damaged_message : Recovery → Message → Trouble
damaged_message r m = message_damage (atomic_queue r) m

-- after the release of the old lease, whatever it answered
abbrev pub old_released : Recovery → Step
old_released r = Goes (record r { stage = Taking; former = None })

-- after the take
abbrev pub taken_by : Recovery → Result Claim Trouble → Step
taken_by r (Ok l) = Goes (record r { stage = Getting; lease = Some l })
taken_by r (Err t) = Stops r t

-- the head of the next epoch is put
abbrev pub putting : Recovery → Step
putting r = Goes (record r { stage = Putting; out = head_bytes r.head })

-- the next kept record is sent, or all were
abbrev pub send_or_put : Recovery → Option AtomicItem → Step
send_or_put r (Some x) = Goes (record r { stage = Sending; out = pu_bytes (pu_record_of x.rec) })
send_or_put r None = putting r

abbrev pub send_at : Recovery → ℕ → Step
send_at r place = send_or_put (record r { sent = place }) (slice_get r.gathered.kept place)

-- a settled head leaves nothing to be sent on
abbrev pub phase_read : Phase → Recovery → Step
phase_read Settled r = putting r
phase_read (Open count) r = goes_to Receiving r

-- with what a head wants, and the head of the epoch behind it
abbrev pub behind : Recovery → Head → Recovery
behind r h = record r { wanted = wanted_of h; head = next_head h }

-- the last epoch has none behind it
abbrev pub head_read : Recovery → Head → Step
head_read r h = if h.epoch == 2 ^ 64 - 1 then stopping r (trouble.Exhausted counter.Epoch) else phase_read h.phase (behind r h)

abbrev pub bytes_read : Recovery → List ℕ → Option Head → Step
bytes_read r bytes (Some h) = head_read r h
bytes_read r bytes None = stopping r (trouble.Damaged (place.Object (object.Head r.client)) (head_offset bytes))

-- an absent head is the empty one; a settling has nothing to do there
abbrev pub none_read : Aim → Recovery → Step
none_read Opening r = head_read r empty_head
none_read Settling r = releasing r (Ok Nothing)

-- after the held get of the head
abbrev pub got_by : Recovery → Result (Option (List ℕ)) Trouble → Step
got_by r (Ok None) = none_read r.aim r
got_by r (Ok (Some bytes)) = bytes_read r bytes (head_of bytes)
got_by r (Err t) = stopping r t

-- with every record kept they are sent on; with fewer, and nothing new in the newest receive, the recovery waits for none
abbrev pub decided : Recovery → Step
decided r =
    if length r.gathered.kept == r.wanted.count then send_at r 0
    else if r.gathered.fresh then goes_to Receiving r
    else stopping r (trouble.Waiting (length r.gathered.kept) r.wanted.count)

-- lost records are deleted, and then it is decided
abbrev pub next_deletion : Recovery → List ℕ → Step
next_deletion r (id ∷ ids) = goes_to Deleting r
next_deletion r [] = decided r

abbrev pub deleting : Recovery → List ℕ → Step
deleting r ids = next_deletion (record r { ids = ids }) ids

abbrev pub gathered_by : Recovery → Result (List AtomicItem) Message → Step
gathered_by r (Ok items) = deleting (record r { gathered = gathered_with r.wanted r.gathered items }) (lost_now r.wanted r.gathered items)
gathered_by r (Err m) = stopping r (damaged_message r m)

-- after a receive that gathers
abbrev pub received_by : Recovery → Result (List Message) Trouble → Step
received_by r (Ok ms) = gathered_by r (items_of ms)
received_by r (Err t) = stopping r t

-- after the deletion of a lost record
abbrev pub deleted_by : {A : Type 0} → Recovery → Result A Trouble → Step
deleted_by r (Ok _) = deleting r (rest_of r.ids)
deleted_by r (Err t) = stopping r t

-- with the record that was sent as a pending entry of the head
abbrev pub with_pending : Recovery → Option AtomicItem → Recovery
with_pending r (Some x) = record r { head = pending_with r.head x.rec }
with_pending r None = r

-- after a send
abbrev pub sent_by : {A : Type 0} → Recovery → Result A Trouble → Step
sent_by r (Ok _) = send_at (with_pending r (slice_get r.gathered.kept r.sent)) (r.sent + 1)
sent_by r (Err t) = stopping r t

-- messages are deleted, and then the queue is received from again
abbrev pub next_clearing : Recovery → List ℕ → Step
next_clearing r (id ∷ ids) = goes_to Clearing r
next_clearing r [] = goes_to Sweeping r

abbrev pub clearing : Recovery → List ℕ → Step
clearing r ids = next_clearing (record r { ids = ids }) ids

-- the ids of the kept records, each once
abbrev pub kept_ids : Recovery → List ℕ
kept_ids r = new_ids [] (ids_of r.gathered.kept)

-- the messages of the kept records are deleted, in order of index
abbrev pub clearing_kept : Recovery → Step
clearing_kept r = clearing (record r { swept = kept_ids r }) (kept_ids r)

-- after the put
abbrev pub put_by : {A : Type 0} → Recovery → Result A Trouble → Step
put_by r (Ok _) = clearing_kept r
put_by r (Err t) = stopping r t

-- after a deletion behind the put, whatever it answered
abbrev pub cleared : Recovery → Step
cleared r = clearing r (rest_of r.ids)

-- an opening keeps the lease
abbrev pub opened : Aim → Recovery → Step
opened Opening r = Ends (record r { stage = Finished }) (Opened r.head.epoch)
opened Settling r = releasing r (Ok (Opened r.head.epoch))

-- messages of past epochs are deleted, or there are none any more
abbrev pub next_sweep : Recovery → List ℕ → Step
next_sweep r (id ∷ ids) = goes_to Clearing r
next_sweep r [] = opened r.aim r

abbrev pub sweeping : Recovery → List ℕ → Step
sweeping r ids = next_sweep (record r { swept = r.swept ++ ids; ids = ids }) ids

abbrev pub swept_with : Recovery → Result (List AtomicItem) Message → Step
swept_with r (Ok items) = sweeping r (new_ids r.swept (past_ids r.wanted items))
swept_with r (Err m) = stopping r (damaged_message r m)

-- after a receive behind the put
abbrev pub swept_by : Recovery → Result (List Message) Trouble → Step
swept_by r (Ok ms) = swept_with r (items_of ms)
swept_by r (Err t) = stopping r t

abbrev pub ended : Recovery → Option (Result RecoverAnswer Trouble) → Step
ended r (Some (Ok answer)) = Ends r answer
ended r (Some (Err t)) = Stops r t
ended r None = Stops r trouble.Failed

-- after the release, whatever it answered
abbrev pub released : Recovery → Step
released r = ended (record r { stage = Finished; lease = None; ending = None }) r.ending

abbrev pub next_at : Stage → Recovery → Answer → Step
next_at ReleasingOld r a = old_released r
next_at Taking r a = taken_by r (given_of (lock.Client r.client) a)
next_at Getting r a = got_by r (got_of a)
next_at Receiving r a = received_by r (received_of a)
next_at Deleting r a = deleted_by r (done_of a)
next_at Sending r a = sent_by r (sent_of a)
next_at Putting r a = put_by r (done_of a)
next_at Clearing r a = cleared r
next_at Sweeping r a = swept_by r (received_of a)
next_at Releasing r a = released r
next_at Finished r a = Stops r trouble.Failed

abbrev pub recovery_next : Recovery → Answer → Step
recovery_next r a = next_at r.stage r a

-- ---- leases

-- the leases as they leave the machine where the call in hand gives one back
abbrev pub handed_at : Stage → Recovery → Recovery
handed_at ReleasingOld r = record r { former = None }
handed_at Taking r = r
handed_at Getting r = r
handed_at Receiving r = r
handed_at Deleting r = r
handed_at Sending r = r
handed_at Putting r = r
handed_at Clearing r = r
handed_at Sweeping r = r
handed_at Releasing r = record r { lease = None }
handed_at Finished r = r

abbrev pub handed_over : Recovery → Recovery
handed_over r = handed_at r.stage r

-- at want of memory the step leaves the leases as they are
abbrev pub SameLeases : Recovery → Answer → Recovery → Type 0
SameLeases r a n = (n.lease ≡ r.lease) × (n.former ≡ r.former)

-- a part of the step leads so from this state, whatever was answered; at want of memory it keeps the leases
abbrev pub TurnsBy : (Recovery → Next Recovery RecoverAnswer → Type 0) → Recovery → Recovery → Turn RecoverAnswer → Type 0
TurnsBy leads old new turn = Took (λ from _ next. leads from next) SameLeases old Failed new turn

-- and so does the call with its step, but where the call gives one back
abbrev pub KeepsLeases : Recovery → Answer → Recovery → Type 0
KeepsLeases r a n = (n.lease ≡ (handed_over r).lease) × (n.former ≡ (handed_over r).former)

-- a recovery, as a machine
abbrev pub recovery_machine : Machine Recovery RecoverAnswer
recovery_machine = machine_by recovery_ask (LeadsBy recovery_next) KeepsLeases

-- what a session has in hand after an opening
abbrev pub home_with : Recovery → Option Claim → Option Home
home_with r (Some l) = Some (record { client = r.client; lease = l; head = r.head; attempt = 0 })
home_with r None = None

abbrev pub home_at : Stage → Recovery → Option Home
home_at ReleasingOld r = None
home_at Taking r = None
home_at Getting r = None
home_at Receiving r = None
home_at Deleting r = None
home_at Sending r = None
home_at Putting r = None
home_at Clearing r = None
home_at Sweeping r = None
home_at Releasing r = None
home_at Finished r = home_with r r.lease

abbrev pub home_of : Recovery → Option Home
home_of r = home_at r.stage r

-- ---- what the bytes in hand spell

abbrev pub SendsRecord : Recovery → Option AtomicItem → Type 0
SendsRecord r (Some x) = pu_of r.out ≡ Some (pu_record_of x.rec)
SendsRecord r None = ⊥

-- the head of a home has a spelling
abbrev pub IsSpelled : Option Claim → Head → Type 0
IsSpelled (Some l) h = HasSpelling h
IsSpelled None h = Unit {0}

abbrev pub IsSoundAt : Stage → Recovery → Type 0
IsSoundAt ReleasingOld r = Unit {0}
IsSoundAt Taking r = Unit {0}
IsSoundAt Getting r = Unit {0}
IsSoundAt Receiving r = HasSpelling r.head
IsSoundAt Deleting r = HasSpelling r.head × (1 ≤ length r.ids)
IsSoundAt Sending r = HasSpelling r.head × SendsRecord r (slice_get r.gathered.kept r.sent)
IsSoundAt Putting r = HasSpelling r.head × (head_of r.out ≡ Some r.head)
IsSoundAt Clearing r = HasSpelling r.head × (1 ≤ length r.ids)
IsSoundAt Sweeping r = HasSpelling r.head
IsSoundAt Releasing r = Unit {0}
IsSoundAt Finished r = IsSpelled r.lease r.head

-- behind the get the head of the next epoch has a spelling; a deletion in hand has an id, a send sends the next kept record, and a put
-- puts that head
abbrev pub IsSound : Recovery → Type 0
IsSound r = IsSoundAt r.stage r
