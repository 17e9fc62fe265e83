-- What a cloud holds, and how it changes.
use Rattle.std.specs.Prelude.{ℕ, zero, suc, ◌≡◌, ◌+◌, ◌-◌, ◌==◌, ◌&&◌, Bool, true, false, cond, min, nat_lt, List, [], ◌∷◌, ◌++◌, length, Option, Some, None, slice_get}
use Rattle.std.specs.Option.{option_map, option_and_then}
use Rattle.std.specs.declared.cmp.Ordering.{Ordering}
use Rattle.std.specs.Ordering.{is_eq}
use Rattle.db_base.specs.declared.names.ObjName.{ObjName}
use Rattle.db_base.specs.declared.names.QueueName.{QueueName}
use Rattle.db_base.specs.declared.names.Lock.{Lock}
use Rattle.db_base.specs.declared.wish.Wish.{Wish}
use Rattle.db_base.specs.declared.wish.Wish.TheVariants.{Plain}
use Rattle.cloud_trait.specs.declared.state.Version.{Version}
use Rattle.cloud_trait.specs.declared.state.Posted.{Posted}
use Rattle.cloud_trait.specs.declared.state.Hold.{Hold}
use Rattle.cloud_trait.specs.declared.state.Landing.{Landing}
use Rattle.cloud_trait.specs.declared.state.Site.TheVariants.{Object, Queue}
use Rattle.cloud_trait.specs.Caller.{Caller}
use Rattle.cloud_trait.specs.Claim.{Claim}
use Rattle.cloud_trait.specs.Names.{object_cmp, queue_cmp, lock_cmp}

-- for each object its landed versions, oldest first; for each queue all messages ever sent; for each lock
-- how it stands; the clock in ticks; how often it was waited; the trace; the wish for the next service
-- call; and who made the newest one, under which wish
pub record CloudState : Type 0 where
  pub versions : ObjName → List Version
  pub messages : QueueName → List Posted
  pub locks : Lock → Hold
  pub now : ℕ
  pub waits : ℕ
  pub trace : List Landing
  pub wish : Wish
  pub last : Option (Caller × Wish)

-- how often a call failed, a message or lock was withheld, a get was stale, or a look failed
pub record Counts : Type 0 where
  pub faults : ℕ
  pub withheld : ℕ
  pub stale : ℕ
  pub dark : ℕ

-- a lock that was never taken
abbrev pub never_taken : Hold
never_taken = record { generation = 0; until = 0 }

-- no object has a version, no queue has a message, the trace has no row, and no lock was ever taken
pub record IsEmptyCloud (s : CloudState) : Type 0 where
  pub versions : (name : ObjName) → s.versions name ≡ []
  pub messages : (queue : QueueName) → s.messages queue ≡ []
  pub locks : (lock : Lock) → s.locks lock ≡ never_taken
  pub trace : s.trace ≡ []

-- the function with another value at one argument
abbrev pub put_at : {K V : Type 0} → (K → K → Ordering) → (K → V) → K → V → K → V
put_at cmp f k v q = cond (is_eq (cmp k q)) v (f q)

-- the greatest moment, and the greatest number of anything that is counted
abbrev pub greatest : ℕ
greatest = 18446744073709551615

-- the end of a lease that is given now for some ticks
abbrev pub end_after : ℕ → ℕ → ℕ
end_after now ticks = min (now + ticks) greatest

-- the bytes of the newest version; none where there is no version, and where the newest one has none
abbrev pub newest_of : List Version → Option (List ℕ)
newest_of vs = option_and_then (λ (v : Version). v.bytes) (slice_get vs (length vs - 1))

-- the bytes of the newest version of an object, or none
abbrev pub newest : CloudState → ObjName → Option (List ℕ)
newest s name = newest_of (s.versions name)

-- the bytes of the n-th version, from 1; none for 0, past the end, and where it has none
abbrev pub version_at : List Version → ℕ → Option (List ℕ)
version_at vs n = cond (n == 0) None (option_and_then (λ (v : Version). v.bytes) (slice_get vs (n - 1)))

-- the bytes of the message of this number, from 1; none for 0 and past the end
abbrev pub message_at : List Posted → ℕ → Option (List ℕ)
message_at ms id = cond (id == 0) None (option_map (λ (m : Posted). m.bytes) (slice_get ms (id - 1)))

-- the list with the message at a place marked as deleted
abbrev pub mark_at : List Posted → ℕ → List Posted
mark_at [] i = []
mark_at (m ∷ ms) zero = record { who = m.who; bytes = m.bytes; deleted = true } ∷ ms
mark_at (m ∷ ms) (suc i) = m ∷ mark_at ms i

-- the list with the message of this number marked as deleted, where it has one
abbrev pub marked : List Posted → ℕ → List Posted
marked ms id = cond (id == 0) ms (mark_at ms (id - 1))

-- a service call that does nothing else, and leaves the clock at t
abbrev pub called : Caller → ℕ → CloudState → CloudState
called who t s = record s { now = t; wish = Plain; last = Some (who, s.wish) }

-- a version, with bytes or without, lands as the newest
abbrev pub stored : Caller → ObjName → Option (List ℕ) → CloudState → CloudState
stored who name bytes s = record s {
  versions = put_at object_cmp s.versions name (s.versions name ++ record { who = who; bytes = bytes } ∷ []);
  trace = s.trace ++ record { who = who; site = Object name; position = length (s.versions name) + 1 } ∷ [];
}

-- bytes land as the newest version
abbrev pub landed : Caller → ObjName → List ℕ → CloudState → CloudState
landed who name bytes s = stored who name (Some bytes) s

-- an object is removed: its newest version has no bytes
abbrev pub removed : Caller → ObjName → CloudState → CloudState
removed who name s = stored who name None s

-- a message lands at the end of a queue
abbrev pub sent : Caller → QueueName → List ℕ → CloudState → CloudState
sent who queue bytes s = record s {
  messages = put_at queue_cmp s.messages queue (s.messages queue ++ record { who = who; bytes = bytes; deleted = false } ∷ []);
  trace = s.trace ++ record { who = who; site = Queue queue; position = length (s.messages queue) + 1 } ∷ [];
}

-- a message is marked as deleted
abbrev pub deleted : QueueName → ℕ → CloudState → CloudState
deleted queue id s = record s { messages = put_at queue_cmp s.messages queue (marked (s.messages queue) id) }

-- the lock stands so
abbrev pub held_so : Lock → Hold → CloudState → CloudState
held_so lock hold s = record s { locks = put_at lock_cmp s.locks lock hold }

-- the lease that a take gives
abbrev pub lease_given : Lock → ℕ → CloudState → Claim
lease_given lock ticks s = record { lock = lock; generation = (s.locks lock).generation + 1; end = end_after s.now ticks }

-- a lock is given anew
abbrev pub taken : Lock → ℕ → CloudState → CloudState
taken lock ticks s = held_so lock (record { generation = (s.locks lock).generation + 1; until = end_after s.now ticks }) s

-- a lease is of the present generation of a lock that was taken
abbrev pub is_current : Claim → CloudState → Bool
is_current l s = nat_lt 0 l.generation && ((s.locks l.lock).generation == l.generation)

-- the lock of a lease of its present generation has another end
abbrev pub moved : Claim → ℕ → CloudState → CloudState
moved l until s = cond (is_current l s) (held_so l.lock (record { generation = l.generation; until = until }) s) s

-- a lease is renewed
abbrev pub renewed : Claim → ℕ → CloudState → CloudState
renewed l ticks s = moved l (end_after s.now ticks) s

-- a lease is given back: its lock ends now, where the lease is not over
abbrev pub released : Claim → CloudState → CloudState
released l s = cond (nat_lt s.now l.end) (moved l s.now s) s
