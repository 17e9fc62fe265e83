-- The calls of a recovery, the newest first, each with its answer.
use Rattle.std.specs.Prelude.{ℕ, zero, suc, ◌≡◌, ◌⊎◌, true, List, [], ◌∷◌, ◌++◌, slice_get, Option, Some, None, Ok}
use Rattle.db_base.specs.Limits.{client_ticks, most_received}
use Rattle.db_base.specs.declared.names.Lock.TheVariants as lock
use Rattle.db_base.specs.declared.names.ObjName.TheVariants as object
use Rattle.db_base.specs.declared.names.QueueName.TheVariants as queue
use Rattle.head_codec.specs.declared.head.Head.{Head}
use Rattle.head_codec.specs.Head.{empty_head}
use Rattle.head_codec.specs.Spelling.{head_of}
use Rattle.log_codec.specs.Atomic.{atomic_of}
use Rattle.log_codec.specs.Pu.{pu_bytes}
use Rattle.route_plan.specs.Queue.{queue_name}
use Rattle.route_plan.specs.Record.{pu_record_of}
use Rattle.cloud_trait.specs.declared.answer.Answer.{Answer}
use Rattle.cloud_trait.specs.declared.answer.Answer.TheVariants.{Got, Sent, Received, Done, Given}
use Rattle.cloud_trait.specs.declared.message.Message.{Message}
use Rattle.cloud_trait.specs.Ask.{Ask, GetHeld, Send, Receive, Delete, Take, Release}
use Rattle.cloud_trait.specs.Claim.{Claim}
use Rattle.cloud_trait.specs.Views.{received_of}
use Rattle.recover_run.specs.declared.items.AtomicItem.{AtomicItem}
use Rattle.recover_run.specs.declared.wanted.Wanted.{Wanted}
use Rattle.recover_run.specs.Gathering.{is_lost, is_past}

-- what calls asked and answered
abbrev pub Calls : Type 0
Calls = List (Ask × Answer)

-- ---- what a call brought

-- a message with this id and record is among those
abbrev pub HoldsItem : AtomicItem → List Message → Type 0
HoldsItem x [] = ⊥
HoldsItem x (m ∷ ms) = ((m.id ≡ x.id) × (atomic_of m.bytes ≡ Some x.rec)) ⊎ HoldsItem x ms

-- a call received a message with this id and record
abbrev pub BroughtBy : AtomicItem → Ask × Answer → Type 0
BroughtBy x c = (ms : List Message) × (received_of c.1 ≡ Ok ms) × HoldsItem x ms

-- one of the calls did
abbrev pub Brought : AtomicItem → Calls → Type 0
Brought x [] = ⊥
Brought x (c ∷ cs) = BroughtBy x c ⊎ Brought x cs

-- ---- up to the head

-- the old lease was given back first, where one was handed in
abbrev pub IsStart : Option Claim → Calls → Type 0
IsStart None cs = cs ≡ []
IsStart (Some l) cs = (a : Answer) × (cs ≡ (Release l, a) ∷ [])

-- the head that the bytes of an object spell; an absent one is the empty head
abbrev pub head_in : Option (List ℕ) → Option Head
head_in None = Some empty_head
head_in (Some bytes) = head_of bytes

-- the client's lease was taken for 600 ticks, and its head read under it
pub record Reading (client : ℕ) (old : Option Claim) (front : Calls) : Type 0 where
  pub start : Calls
  pub started : IsStart old start
  pub lease : Claim
  pub bytes : Option (List ℕ)
  pub head : Head
  pub reads : head_in bytes ≡ Some head
  pub calls : front ≡ (GetHeld (object.Head client) lease, Got bytes) ∷ (Take (lock.Client client) client_ticks, Given lease) ∷ start

-- ---- gathering

-- behind the earlier calls, at most 256 messages were received, or the message of a lost record was deleted that one of them had brought
abbrev pub Gathers : ℕ → Wanted → Calls → Ask × Answer → Type 0
Gathers client w earlier c =
    ((ms : List Message) × (c ≡ (Receive (queue.Atomic client) most_received, Received ms)))
    ⊎ ((x : AtomicItem) × (c ≡ (Delete (queue.Atomic client) x.id, Done)) × (is_lost w x.rec ≡ true) × Brought x earlier)

abbrev pub AreGathers : ℕ → Wanted → Calls → Type 0
AreGathers client w [] = Unit {0}
AreGathers client w (c ∷ cs) = Gathers client w cs c × AreGathers client w cs

-- ---- sends

-- a record is sent to its pending update queue
abbrev pub send_of : AtomicItem → Ask
send_of x = Send (queue_name x.rec.tree x.rec.page) (pu_bytes (pu_record_of x.rec))

-- the first n of the records were sent, each once, in their order
abbrev pub AreSends : List AtomicItem → ℕ → Calls → Type 0
AreSends kept zero cs = cs ≡ []
AreSends kept (suc n) cs =
    (x : AtomicItem) × (id : ℕ) × (rest : Calls) × (slice_get kept n ≡ Some x) × (cs ≡ (send_of x, Sent id) ∷ rest) × AreSends kept n rest

-- ---- behind the put

-- behind the earlier calls, messages were received, or the message of a record of a past epoch was deleted that one of them had
-- brought, whatever that answered
abbrev pub Sweeps : ℕ → Wanted → Calls → Ask × Answer → Type 0
Sweeps client w earlier c =
    ((ms : List Message) × (c ≡ (Receive (queue.Atomic client) most_received, Received ms)))
    ⊎ ((x : AtomicItem) × (a : Answer) × (c ≡ (Delete (queue.Atomic client) x.id, a)) × (is_past w x.rec ≡ true) × Brought x earlier)

-- .. and so on, behind those before the put
abbrev pub AreSweeps : ℕ → Wanted → Calls → Calls → Type 0
AreSweeps client w before [] = Unit {0}
AreSweeps client w before (c ∷ cs) = Sweeps client w (cs ++ before) c × AreSweeps client w before cs
