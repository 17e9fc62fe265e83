-- Which leases a recovery holds after its calls, and which its calls name.
use Rattle.std.specs.Prelude.{ℕ, ◌≡◌, ◌≢◌, ◌⊎◌, List, [], ◌∷◌, Option, Some, None}
use Rattle.db_base.specs.Limits.{client_ticks, most_received}
use Rattle.db_base.specs.declared.names.Lock.TheVariants as lock
use Rattle.db_base.specs.declared.names.ObjName.TheVariants as object
use Rattle.db_base.specs.declared.names.QueueName.TheVariants as queue
use Rattle.db_base.specs.declared.trouble.Trouble.TheVariants as trouble
use Rattle.cloud_trait.specs.declared.answer.Answer.{Answer}
use Rattle.cloud_trait.specs.declared.answer.Answer.TheVariants.{Given}
use Rattle.cloud_trait.specs.declared.turn.Turn.{Turn}
use Rattle.cloud_trait.specs.declared.turn.Turn.TheVariants.{More, Ended, Stopped}
use Rattle.cloud_trait.specs.Ask.{Ask, GetHeld, PutHeld, Send, Receive, Delete, Take, Release}
use Rattle.cloud_trait.specs.Claim.{Claim}
use Rattle.cloud_trait.specs.Machine.{LeadsBy, Came, Deed}
use Rattle.recover_run.specs.declared.stage.Aim.{Aim}
use Rattle.recover_run.specs.declared.stage.Aim.TheVariants.{Opening, Settling}
use Rattle.recover_run.specs.declared.stage.RecoverAnswer.{RecoverAnswer}
use Rattle.recover_run.specs.declared.stage.RecoverAnswer.TheVariants.{Opened, Nothing}
use Rattle.recover_run.specs.Recovery.{Recovery, new_recovery, recovery_ask, recovery_next}

-- the recovery of a client came here from its first call on by these calls, the newest first
abbrev pub Went : ℕ → Aim → Option Claim → List Deed → Recovery → Type 0
Went client aim old h r = Came recovery_ask (LeadsBy recovery_next) (new_recovery client aim old) h r

-- this holds of each client and aim, of the lease that was held and of the calls by which a recovery can have come here
abbrev pub Behind : Recovery → (ℕ → Aim → Option Claim → List Deed → Type 0) → Type 0
Behind r holds = (client : ℕ) (aim : Aim) (old : Option Claim) (h : List Deed) → Went client aim old h r → holds client aim old h

abbrev pub claims_over : Option Claim → List Claim → List Claim
claims_over (Some l) claims = l ∷ claims
claims_over None claims = claims

-- what it holds: the client's lease, and the one that was handed in
abbrev pub leases_of : Recovery → List Claim
leases_of r = claims_over r.lease (claims_over r.former [])

-- ---- what a history leaves to be given back

-- after one more call: a lease that it was given comes first, and a lease that it gave back was the newest
abbrev pub outstanding_after : Ask → Answer → List Claim → List Claim
outstanding_after (Take lock ticks) (Given l) claims = l ∷ claims
outstanding_after (Take lock ticks) answer claims = claims
outstanding_after (Release l) answer [] = []
outstanding_after (Release l) answer (c ∷ cs) = cs
outstanding_after ask answer claims = claims

-- the lease that was handed in, and those that takes gave, without those that were given back, the newest first
abbrev pub outstanding : Option Claim → List Deed → List Claim
outstanding old [] = claims_over old []
outstanding old (d ∷ h) = outstanding_after d.ask d.answer (outstanding old h)

-- ---- what calls name

-- a take of the client's lock for 600 ticks gave the lease
abbrev pub IsTaken : ℕ → Claim → List Deed → Type 0
IsTaken client l [] = ⊥
IsTaken client l (d ∷ h) = ((d.ask ≡ Take (lock.Client client) client_ticks) × (d.answer ≡ Given l)) ⊎ IsTaken client l h

-- the lease is the client's: it alone is held, and one of the takes gave it
pub record IsClients (client : ℕ) (old : Option Claim) (h : List Deed) (l : Claim) : Type 0 where
  pub own : l.lock ≡ lock.Client client
  pub taken : IsTaken client l h
  pub alone : outstanding old h ≡ l ∷ []

-- The first call alone may name the lease that was handed in, and gives it back. Each other call that names a lease names the client's.
-- Only the client's lock is taken, for 600 ticks, while no lease is held; only its head is read and put, and its queue received from.
abbrev pub Names : ℕ → Option Claim → List Deed → Ask → Type 0
Names client old h (Take taken ticks) = (taken ≡ lock.Client client) × (ticks ≡ client_ticks) × (outstanding old h ≡ [])
Names client old h (GetHeld name l) = (name ≡ object.Head client) × IsClients client old h l
Names client old h (PutHeld name bytes l None) = (name ≡ object.Head client) × IsClients client old h l
Names client old h (PutHeld name bytes l (Some two)) = ⊥
Names client old h (Release l) = ((h ≡ []) × (old ≡ Some l)) ⊎ IsClients client old h l
Names client old h (Receive from most) = (from ≡ queue.Atomic client) × (most ≡ most_received)
Names client old h (Delete from id) = from ≡ queue.Atomic client
Names client old h (Send to bytes) = Unit {0}
Names client old h ask = ⊥

-- ---- what an end leaves

-- the client's lease is all that is held
abbrev pub HoldsClients : ℕ → List Deed → Recovery → Type 0
HoldsClients client h n = (l : Claim) × (l.lock ≡ lock.Client client) × IsTaken client l h × (leases_of n ≡ l ∷ [])

abbrev pub Leaves : ℕ → Aim → List Deed → Recovery → RecoverAnswer → Type 0
Leaves client Opening h n (Opened epoch) = HoldsClients client h n
Leaves client Settling h n (Opened epoch) = leases_of n ≡ []
Leaves client aim h n Nothing = leases_of n ≡ []

-- at Opened an opening holds the client's lease; before any other end, and before a stop but for want of memory, all was given back
abbrev pub GivesBack : ℕ → Aim → List Deed → Recovery → Turn RecoverAnswer → Type 0
GivesBack client aim h n More = Unit {0}
GivesBack client aim h n (Ended answer) = Leaves client aim h n answer
GivesBack client aim h n (Stopped t) = t ≢ trouble.Memory → leases_of n ≡ []

-- ---- and what the calls up to it leave

-- of the leases that calls were given and did not give back, an end leaves the client's in an opening, and none else
abbrev pub LeavesOf : ℕ → Aim → Option Claim → List Deed → RecoverAnswer → Type 0
LeavesOf client Opening old h (Opened epoch) = (l : Claim) × IsClients client old h l
LeavesOf client Settling old h (Opened epoch) = outstanding old h ≡ []
LeavesOf client aim old h Nothing = outstanding old h ≡ []

-- so before an end, and before a stop but for want of memory, each lease was given back by a call, but for the client's at the end of an opening
abbrev pub AreReturned : ℕ → Aim → Option Claim → List Deed → Turn RecoverAnswer → Type 0
AreReturned client aim old h More = Unit {0}
AreReturned client aim old h (Ended answer) = LeavesOf client aim old h answer
AreReturned client aim old h (Stopped t) = t ≢ trouble.Memory → outstanding old h ≡ []
