-- What the results of the calls answer.
use Rattle.std.specs.Prelude.{ℕ, List, Option, Result, Ok, Err}
use Rattle.std.specs.Global.{Vec}
use Rattle.cloud_trait.specs.declared.fault.CloudFault.{CloudFault}
use Rattle.cloud_trait.specs.declared.fault.CloudFault.TheVariants as cloud
use Rattle.cloud_trait.specs.declared.fault.HeldFault.{HeldFault}
use Rattle.cloud_trait.specs.declared.fault.HeldFault.TheVariants as held
use Rattle.cloud_trait.specs.declared.grant.Grant.{Grant}
use Rattle.cloud_trait.specs.declared.grant.Grant.TheVariants as grant
use Rattle.cloud_trait.specs.declared.answer.Answer.{Answer}
use Rattle.cloud_trait.specs.declared.answer.Answer.TheVariants as answer
use Rattle.cloud_trait.specs.declared.message.Message.{Message}
use Rattle.cloud_trait.specs.Claim.{Claim}

-- the answer that a fault is
abbrev pub fault_answer : CloudFault → Answer
fault_answer cloud.Failed = answer.Failed
fault_answer cloud.Memory = answer.Memory

-- the same of a call under a lease
abbrev pub held_fault_answer : HeldFault → Answer
held_fault_answer held.Failed = answer.Failed
held_fault_answer (held.Late e n) = answer.Late e n
held_fault_answer held.Memory = answer.Memory

-- the answer that a result is, by what its value answers
abbrev pub answer_of : {A : Type 0} → (A → Answer) → Result A CloudFault → Answer
answer_of f (Ok x) = f x
answer_of f (Err e) = fault_answer e

-- the same of a call under a lease
abbrev pub held_answer_of : {A : Type 0} → (A → Answer) → Result A HeldFault → Answer
held_answer_of f (Ok x) = f x
held_answer_of f (Err e) = held_fault_answer e

-- nothing but that it was done
abbrev pub done_by : {A : Type 0} → A → Answer
done_by x = answer.Done

-- what a grant answers
abbrev pub granted_by : Grant → Answer
granted_by (grant.Given l) = answer.Given l
granted_by (grant.Held until) = answer.Held until

-- what a renewal answers that left the lease so
abbrev pub renewed_by : {A : Type 0} → Claim → A → Answer
renewed_by l x = answer.Renewed l.end

-- ---- what each call answers, by its result

-- a get
abbrev pub got_answer : Result (Option (List ℕ)) CloudFault → Answer
got_answer result = answer_of answer.Got result

-- a get under a lease
abbrev pub held_got : Result (Option (List ℕ)) HeldFault → Answer
held_got result = held_answer_of answer.Got result

-- a deletion or a release
abbrev pub done_answer : {A : Type 0} → Result A CloudFault → Answer
done_answer result = answer_of done_by result

-- a put or a removal under leases
abbrev pub held_done : {A : Type 0} → Result A HeldFault → Answer
held_done result = held_answer_of done_by result

-- a listing under a lease
abbrev pub held_listed : Result (Vec ℕ) HeldFault → Answer
held_listed result = held_answer_of (λ ps. answer.Listed ps.items) result

-- a send
abbrev pub sent_answer : Result ℕ CloudFault → Answer
sent_answer result = answer_of answer.Sent result

-- a receive
abbrev pub received_answer : Result (Vec Message) CloudFault → Answer
received_answer result = answer_of (λ ms. answer.Received ms.items) result

-- a take
abbrev pub taken_answer : Result Grant CloudFault → Answer
taken_answer result = answer_of granted_by result

-- a renewal that left the lease so
abbrev pub renewal : {A : Type 0} → Claim → Result A HeldFault → Answer
renewal l result = held_answer_of (renewed_by l) result
