-- What each service call is, by its arguments and its result.
use Rattle.std.specs.Prelude.{ℕ, List, Option, Result}
use Rattle.std.specs.Global.{Vec}
use Rattle.db_base.specs.declared.names.Lock.{Lock}
use Rattle.db_base.specs.declared.names.ObjName.{ObjName}
use Rattle.db_base.specs.declared.names.QueueName.{QueueName}
use Rattle.cloud_trait.specs.declared.fault.CloudFault.{CloudFault}
use Rattle.cloud_trait.specs.declared.fault.HeldFault.{HeldFault}
use Rattle.cloud_trait.specs.declared.grant.Grant.{Grant}
use Rattle.cloud_trait.specs.declared.message.Message.{Message}
use Rattle.cloud_trait.specs.Answers.{got_answer, held_got, done_answer, held_done, held_listed, sent_answer, received_answer, taken_answer, renewal}
use Rattle.cloud_trait.specs.Ask.{Get, GetHeld, ListHeld, RemoveHeld, Send, Receive, Delete, Take, Renew, Release}
use Rattle.cloud_trait.specs.Caller.{Caller}
use Rattle.cloud_trait.specs.Claim.{Claim}
use Rattle.cloud_trait.specs.Seen.{Seen}
use Rattle.cloud_trait.specs.Weather.{leased, Makes, RenewsLease}

abbrev pub MakesGet : Caller → ObjName → Result (Option (List ℕ)) CloudFault → Seen → Seen → Type 0
MakesGet who name result old new = Makes who (Get name) (got_answer result) old new

abbrev pub MakesGetHeld : Caller → ObjName → Claim → Result (Option (List ℕ)) HeldFault → Seen → Seen → Type 0
MakesGetHeld who name l result old new = Makes who (GetHeld name l) (held_got result) old new

abbrev pub MakesListHeld : Caller → ℕ → Claim → Result (Vec ℕ) HeldFault → Seen → Seen → Type 0
MakesListHeld who tree l result old new = Makes who (ListHeld tree l) (held_listed result) old new

abbrev pub MakesRemoveHeld : {A : Type 0} → Caller → ObjName → Claim → Result A HeldFault → Seen → Seen → Type 0
MakesRemoveHeld who name l result old new = Makes who (RemoveHeld name l) (held_done result) old new

abbrev pub MakesSend : Caller → QueueName → List ℕ → Result ℕ CloudFault → Seen → Seen → Type 0
MakesSend who queue bytes result old new = Makes who (Send queue bytes) (sent_answer result) old new

abbrev pub MakesReceive : Caller → QueueName → ℕ → Result (Vec Message) CloudFault → Seen → Seen → Type 0
MakesReceive who queue most result old new = Makes who (Receive queue most) (received_answer result) old new

abbrev pub MakesDelete : {A : Type 0} → Caller → QueueName → ℕ → Result A CloudFault → Seen → Seen → Type 0
MakesDelete who queue id result old new = Makes who (Delete queue id) (done_answer result) old new

abbrev pub MakesTake : Caller → Lock → ℕ → Result Grant CloudFault → Seen → Seen → Type 0
MakesTake who lock ticks result old new = Makes who (Take lock ticks) (taken_answer result) old new

abbrev pub MakesRelease : {A : Type 0} → Caller → Claim → Result A CloudFault → Seen → Seen → Type 0
MakesRelease who l result old new = Makes who (Release l) (done_answer result) old new

-- a renewal of a lease, by what it was before and is behind it
abbrev pub MakesRenew : {A : Type 0} → Caller → ℕ → Claim × Claim → Result A HeldFault → Seen → Seen → Type 0
MakesRenew who ticks lease result old new = Makes who (Renew lease.0 ticks) (renewal lease.1 result) old new

-- and what it leaves of the lease
abbrev pub SetsLease : {A : Type 0} → Caller → ℕ → Claim × Claim → Result A HeldFault → Seen → Seen → Type 0
SetsLease who ticks lease result old new = RenewsLease who ticks (renewal lease.1 result) (leased lease.0 old) (leased lease.1 new)
