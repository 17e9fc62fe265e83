-- What the calls of a commit name.
use Rattle.std.specs.Prelude.{ℕ, ◌≡◌, ◌⊎◌, None}
use Rattle.db_base.specs.declared.names.ObjName.TheVariants as object
use Rattle.db_base.specs.declared.names.QueueName.{QueueName}
use Rattle.db_base.specs.declared.names.QueueName.TheVariants as queue
use Rattle.route_plan.specs.Queue.{queue_name}
use Rattle.cloud_trait.specs.Ask.{Ask, Get, PutHeld, Send, Delete}
use Rattle.recover_run.specs.declared.home.Home.{Home}

-- the queues to which a client's commit sends: its ATOMIC queue and the pending update queues
abbrev pub IsSentTo : ℕ → QueueName → Type 0
IsSentTo client q = (q ≡ queue.Atomic client) ⊎ ((tree : ℕ) × (page : ℕ) × (q ≡ queue_name tree page))

-- a get, a send, a deletion in the client's ATOMIC queue, or a put of the client's head under the home's lease alone: no lock is taken, no lease is
-- renewed or given back, and no other lease is named
abbrev pub IsOwnCall : Home → Ask → Type 0
IsOwnCall home (Get name) = Unit {0}
IsOwnCall home (Send q bytes) = IsSentTo home.client q
IsOwnCall home (Delete q id) = q ≡ queue.Atomic home.client
IsOwnCall home (PutHeld name bytes one two) = (name ≡ object.Head home.client) × (one ≡ home.lease) × (two ≡ None)
IsOwnCall home ask = ⊥
