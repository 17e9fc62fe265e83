-- What is noted of a service call.
use Rattle.std.specs.Prelude.{ℕ, List, map, length, Option, Some, None}
use Rattle.std.specs.Option.{option_and_then}
use Rattle.cloud_trait.specs.Caller.{Caller}
use Rattle.cloud_trait.specs.Ask.{Ask, Get, GetHeld, PutHeld, ListHeld, RemoveHeld, Send, Receive, Delete, Take, Renew, Release}
use Rattle.cloud_trait.specs.Call.{kind_of, target_of, bytes_of}
use Rattle.cloud_trait.specs.declared.call.CallKind.{CallKind}
use Rattle.cloud_trait.specs.declared.call.CallKind.TheVariants as kind
use Rattle.cloud_trait.specs.declared.fault.CloudFault.{CloudFault}
use Rattle.cloud_trait.specs.declared.fault.CloudFault.TheVariants as cloud
use Rattle.cloud_trait.specs.declared.fault.HeldFault.{HeldFault}
use Rattle.cloud_trait.specs.declared.fault.HeldFault.TheVariants as held
use Rattle.cloud_trait.specs.declared.answer.Answer.{Answer}
use Rattle.cloud_trait.specs.declared.answer.Answer.TheVariants as answer
use Rattle.cloud_trait.specs.declared.message.Message.{Message}
use Rattle.traced_cloud.specs.Stamp.{stamp_of}
use Rattle.traced_cloud.specs.declared.note.Note.{Note}
use Rattle.traced_cloud.specs.declared.note.Outcome.{Outcome}
use Rattle.traced_cloud.specs.declared.note.Outcome.TheVariants.{Read, Absent, Landed, Done, Sent, Received, Listed, Given, Held, Renewed, Late, Failed, Memory}

-- how many messages are wanted, or for how many ticks
abbrev pub limit_of : Ask → Option ℕ
limit_of (Get name) = None
limit_of (GetHeld name l) = None
limit_of (PutHeld name bytes one two) = None
limit_of (ListHeld tree l) = None
limit_of (RemoveHeld name l) = None
limit_of (Send queue bytes) = None
limit_of (Receive queue most) = Some most
limit_of (Delete queue id) = None
limit_of (Take lock ticks) = Some ticks
limit_of (Renew l ticks) = Some ticks
limit_of (Release l) = None

-- a get: whether it brought bytes
abbrev pub read_outcome : Option (List ℕ) → Outcome
read_outcome None = Absent
read_outcome (Some bytes) = Read

-- what was done: a put landed
abbrev pub done_outcome : CallKind → Outcome
done_outcome kind.Get = Done
done_outcome kind.GetHeld = Done
done_outcome kind.PutHeld = Landed
done_outcome kind.ListHeld = Done
done_outcome kind.RemoveHeld = Done
done_outcome kind.Send = Done
done_outcome kind.Receive = Done
done_outcome kind.Delete = Done
done_outcome kind.Take = Done
done_outcome kind.Renew = Done
done_outcome kind.Release = Done

-- a fault
abbrev pub fault_outcome : CloudFault → Outcome
fault_outcome cloud.Failed = Failed
fault_outcome cloud.Memory = Memory

-- the same of a call under a lease
abbrev pub held_outcome : HeldFault → Outcome
held_outcome held.Failed = Failed
held_outcome (held.Late e n) = Late e n
held_outcome held.Memory = Memory

-- what a call of this kind answered: its numbers, and no bytes
abbrev pub outcome_of : CallKind → Answer → Outcome
outcome_of k (answer.Got v) = read_outcome v
outcome_of k (answer.Sent id) = Sent id
outcome_of k (answer.Received ms) = Received (map (λ (m : Message). m.id) ms)
outcome_of k (answer.Listed ps) = Listed (length ps)
outcome_of k answer.Done = done_outcome k
outcome_of k (answer.Given l) = Given l.end
outcome_of k (answer.Held until) = Held until
outcome_of k (answer.Renewed e) = Renewed e
outcome_of k (answer.Late e n) = Late e n
outcome_of k answer.Failed = Failed
outcome_of k answer.Memory = Memory

-- the bytes that a get brought
abbrev pub brought : Answer → Option (List ℕ)
brought (answer.Got v) = v
brought (answer.Sent id) = None
brought (answer.Received ms) = None
brought (answer.Listed ps) = None
brought answer.Done = None
brought (answer.Given l) = None
brought (answer.Held until) = None
brought (answer.Renewed e) = None
brought (answer.Late e n) = None
brought answer.Failed = None
brought answer.Memory = None

-- the bytes that were put or sent, and else those that were brought
abbrev pub shown : Option (List ℕ) → Option (List ℕ) → Option (List ℕ)
shown (Some bytes) got = Some bytes
shown None got = got

-- the note of a call: who made it, what it did and to what, what it wanted, what its object says, and what it answered
abbrev pub note_of : Caller → Ask → Answer → Note
note_of who ask answer = record {
  who = who;
  kind = kind_of ask;
  target = target_of ask;
  limit = limit_of ask;
  stamp = option_and_then stamp_of (shown (bytes_of ask) (brought answer));
  outcome = outcome_of (kind_of ask) answer;
}
