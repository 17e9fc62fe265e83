-- A machine of the tests that keeps an object: under a lease it puts the object, renews the lease, and gives it back.
use Rattle.std.specs.Prelude.{ℕ, ◌≡◌, List, [], ◌∷◌, Option, Some, None, Result, Ok, Err}
use Rattle.db_base.specs.declared.names.ObjName.{ObjName}
use Rattle.db_base.specs.declared.names.Lock.{Lock}
use Rattle.db_base.specs.declared.trouble.Trouble.{Trouble}
use Rattle.cloud_trait.specs.declared.answer.Answer.{Answer}
use Rattle.cloud_trait.specs.declared.answer.Answer.TheVariants.{Done, Given, Renewed}
use Rattle.cloud_trait.specs.declared.call.CallKind.{CallKind}
use Rattle.cloud_trait.specs.declared.call.CallKind.TheVariants as kind
use Rattle.cloud_trait.specs.Ask.{Ask, PutHeld, Take, Renew, Release}
use Rattle.cloud_trait.specs.Claim.{Claim, extended}
use Rattle.cloud_trait.specs.Machine.{Next, Goes, Ends, Stops, Deed, calls_of, Machine, machine_by, LeadsBy}
use Rattle.cloud_trait.specs.Views.{given_of, done_of, renewed_of}

-- where a keeper stands: what it puts, under which lock, the kind of the call in hand, its lease, the end that the renewal
-- gave, and the trouble that it answers once its lease is given back
pub record Keeping : Type 0 where
  pub object : ObjName
  pub lock : Lock
  pub bytes : List ℕ
  pub kind : CallKind
  pub lease : Option Claim
  pub until : ℕ
  pub trouble : Option Trouble

-- a keeper before its first call
abbrev pub new_keeping : ObjName → Lock → List ℕ → Keeping
new_keeping object lock bytes = record { object = object; lock = lock; bytes = bytes; kind = kind.Take; lease = None; until = 0; trouble = None }

-- the call in hand; without a lease it is the take
abbrev pub ask_at : CallKind → Option Claim → Keeping → Ask
ask_at kind.PutHeld (Some l) k = PutHeld k.object k.bytes l None
ask_at kind.Renew (Some l) k = Renew l 60
ask_at kind.Release (Some l) k = Release l
ask_at other lease k = Take k.lock 30

abbrev pub keeping_ask : Keeping → Ask
keeping_ask k = ask_at k.kind k.lease k

-- the lease after a renewal: it has the end that was answered; without that answer its end is not known, and it is dropped
abbrev pub lease_renewed : Option Claim → Answer → Option Claim
lease_renewed (Some l) (Renewed end) = Some (extended l end)
lease_renewed (Some l) a = None
lease_renewed None a = None

-- the lease after the call in hand
abbrev pub lease_after : CallKind → Option Claim → Answer → Option Claim
lease_after kind.Renew lease a = lease_renewed lease a
lease_after kind.Release lease a = None
lease_after other lease a = lease

-- the keeper as the call in hand leaves it
abbrev pub handed : Keeping → Answer → Keeping
handed k a = record k { lease = lease_after k.kind k.lease a }

-- after the take
abbrev pub taken_by : Keeping → Result Claim Trouble → Next Keeping ℕ
taken_by k (Ok l) = Goes (record k { kind = kind.PutHeld; lease = Some l })
taken_by k (Err t) = Stops k t

-- after the put: without it the lease is given back at once
abbrev pub put_by : {A : Type 0} → Keeping → Result A Trouble → Next Keeping ℕ
put_by k (Ok x) = Goes (record k { kind = kind.Renew })
put_by k (Err t) = Goes (record k { kind = kind.Release; trouble = Some t })

-- after the renewal
abbrev pub renewed_by : Keeping → Result ℕ Trouble → Next Keeping ℕ
renewed_by k (Ok end) = Goes (record k { kind = kind.Release; until = end })
renewed_by k (Err t) = Stops k t

-- after the release: the trouble of the put comes first
abbrev pub released_by : {A : Type 0} → Keeping → Option Trouble → Result A Trouble → Next Keeping ℕ
released_by k (Some t) done = Stops (record k { trouble = None }) t
released_by k None (Ok x) = Ends (record k { trouble = None }) k.until
released_by k None (Err t) = Stops (record k { trouble = None }) t

-- where an answer leads from the keeper that the call left
abbrev pub absorbed_at : CallKind → Keeping → Answer → Next Keeping ℕ
absorbed_at kind.PutHeld k a = put_by k (done_of a)
absorbed_at kind.Renew k a = renewed_by k (renewed_of a)
absorbed_at kind.Release k a = released_by k k.trouble (done_of a)
absorbed_at other k a = taken_by k (given_of k.lock a)

abbrev pub absorbed : Keeping → Answer → Next Keeping ℕ
absorbed k a = absorbed_at k.kind k a

-- where an answer leads
abbrev pub keeping_next : Keeping → Answer → Next Keeping ℕ
keeping_next k a = absorbed (handed k a) a

-- at want of memory the step leaves the lease as it is, and so does the call with its step, but where the call moves it
abbrev pub SameLease : Keeping → Answer → Keeping → Type 0
SameLease k a n = n.lease ≡ k.lease

abbrev pub KeepsLease : Keeping → Answer → Keeping → Type 0
KeepsLease k a n = n.lease ≡ (handed k a).lease

-- a keeper, as a machine
abbrev pub keeping_machine : Machine Keeping ℕ
keeping_machine = machine_by keeping_ask (LeadsBy keeping_next) KeepsLease

-- a keeper of the same object, lock and bytes before its first call
abbrev pub fresh : Keeping → Keeping
fresh k = new_keeping k.object k.lock k.bytes

-- the calls of a keeper up to its release, the newest first: each once, under the lease that the take gave
abbrev pub kept_calls : Keeping → Claim → ℕ → List (Ask × Answer)
kept_calls k l end = (Renew l 60, Renewed end) ∷ (PutHeld k.object k.bytes l None, Done) ∷ (Take k.lock 30, Given l) ∷ []

-- what a keeper that ended had called, and that its last call gave back the renewed lease
pub record HasKept (k : Keeping) (h : List Deed) (end : ℕ) : Type 0 where
  pub lease : Claim
  pub calls : calls_of h ≡ kept_calls k lease end
  pub last : keeping_ask k ≡ Release (extended lease end)
