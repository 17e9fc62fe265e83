-- What the maps of the cloud in memory hold under each name.
use Rattle.std.specs.Prelude.{ℕ, ◌≡◌, ◌==◌, ◌&&◌, cond, nat_lt, List, [], ◌∷◌, ◌++◌, Option, Some, None, unwrap_or, slice_get, Result, Ok, Err, OnOk}
use Rattle.std.specs.declared.cmp.Ordering.{Ordering}
use Rattle.std.specs.Option.{option_map_or}
use Rattle.std.specs.BTreeMap.{BTreeMap, get}
use Rattle.std.specs.Global.{Vec}
use Rattle.db_base.specs.declared.names.ObjName.{ObjName}
use Rattle.db_base.specs.declared.names.QueueName.{QueueName}
use Rattle.db_base.specs.declared.names.Lock.{Lock}
use Rattle.db_base.specs.declared.names.Lock.TheVariants.{Client, Tree, Page}
use Rattle.cloud_trait.specs.declared.state.Version.{Version}
use Rattle.cloud_trait.specs.declared.state.Posted.{Posted}
use Rattle.cloud_trait.specs.declared.state.Hold.{Hold}
use Rattle.cloud_trait.specs.Names.{object_cmp, queue_cmp, lock_cmp}
use Rattle.cloud_trait.specs.State.{never_taken, put_at, marked}
use Rattle.memory_cloud.specs.declared.locks.Locks.{Locks}
use Rattle.memory_cloud.specs.declared.queue.Queue.{Queue}

-- the versions of an object; none where it has no entry
abbrev pub versions_in : BTreeMap ObjName (Vec Version) → ObjName → List Version
versions_in m name = option_map_or (λ (v : Vec Version). v.items) (get object_cmp m name) []

-- the messages of a queue; none where it has no entry
abbrev pub messages_in : BTreeMap QueueName Queue → QueueName → List Posted
messages_in m name = option_map_or (λ (q : Queue). q.messages.items) (get queue_cmp m name) []

-- one version more of an object, and one message more of a queue
abbrev pub AddsVersion : {A E : Type 0} → Result A E → BTreeMap ObjName (Vec Version) → ObjName → Version → BTreeMap ObjName (Vec Version) → Type 0
AddsVersion result old name version new =
    (q : ObjName) → OnOk result (versions_in new q ≡ put_at object_cmp (versions_in old) name (versions_in old name ++ version ∷ []) q)

abbrev pub AddsMessage : {A E : Type 0} → Result A E → BTreeMap QueueName Queue → QueueName → Posted → BTreeMap QueueName Queue → Type 0
AddsMessage result old name message new =
    (q : QueueName) → OnOk result (messages_in new q ≡ put_at queue_cmp (messages_in old) name (messages_in old name ++ message ∷ []) q)

-- a message of a queue is marked as deleted
abbrev pub MarksMessage : BTreeMap QueueName Queue → QueueName → ℕ → BTreeMap QueueName Queue → Type 0
MarksMessage old name id new =
    (q : QueueName) → messages_in new q ≡ put_at queue_cmp (messages_in old) name (marked (messages_in old name) id) q

-- how the lock of a number stands, and how one stands by its name
abbrev pub numbered_hold : List Hold → ℕ → Hold
numbered_hold holds n = unwrap_or (slice_get holds n) never_taken

abbrev pub named_hold : BTreeMap Lock Hold → Lock → Hold
named_hold m lock = unwrap_or (get lock_cmp m lock) never_taken

-- how a lock stands: a client's and a tree's by its number, a page's by its name
abbrev pub hold_in : Locks → Lock → Hold
hold_in m (Client c) = numbered_hold m.clients.items c
hold_in m (Tree t) = numbered_hold m.trees.items t
hold_in m (Page t p) = named_hold m.pages (Page t p)

-- the locks where this one stands so from now on, or none has changed
abbrev pub changed_at : {K : Type 0} → (K → K → Ordering) → (K → Hold) → K → Option Hold → K → Hold
changed_at cmp f k None q = f q
changed_at cmp f k (Some hold) q = put_at cmp f k hold q

-- the locks with another end of this one, where it stands in this generation
abbrev pub moved_by : {K : Type 0} → (K → K → Ordering) → (K → Hold) → K → ℕ → ℕ → K → Hold
moved_by cmp f k generation until q =
    cond (nat_lt 0 generation && ((f k).generation == generation)) (put_at cmp f k (record { generation = generation; until = until }) q) (f q)

-- what was to be kept, where memory was there
abbrev pub kept_of : {A E : Type 0} → Result A E → Hold → Option Hold
kept_of (Ok x) hold = Some hold
kept_of (Err e) hold = None

-- a lock stands so, and a lock has another end
abbrev pub SetsHold : {A E : Type 0} → Result A E → Locks → Lock → Hold → Locks → Type 0
SetsHold result old lock hold new = (q : Lock) → hold_in new q ≡ changed_at lock_cmp (hold_in old) lock (kept_of result hold) q

abbrev pub MovesHold : Locks → Lock → ℕ → ℕ → Locks → Type 0
MovesHold old lock generation until new = (q : Lock) → hold_in new q ≡ moved_by lock_cmp (hold_in old) lock generation until q
