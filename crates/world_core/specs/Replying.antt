-- The reply of a line: what it shows, and why there is none.
use Rattle.std.specs.Prelude.{◌≡◌, List, Option, Some, None, Result, Ok, Err}
use Rattle.db_base.specs.declared.pair.Pair.{Pair}
use Rattle.db_base.specs.Value.{Value}
use Rattle.db_base.specs.declared.refusal.Refused.{Refused}
use Rattle.db_base.specs.declared.refusal.Refused.TheVariants as refused
use Rattle.cloud_facts.specs.Words.{Trouble, CommitAnswer, Turn, More, Ended, Stopped}
use Rattle.db_base.specs.declared.trouble.CommitAnswer.TheVariants.{NotCommitted, CommittedOpen}
use Rattle.db_base.specs.declared.trouble.Trouble.TheVariants as trouble
use Rattle.reply_text.specs.declared.reply.Reply.{Reply}
use Rattle.reply_text.specs.declared.reply.Reply.TheVariants as reply
use Rattle.client_work.specs.Session.{Acting, items_of, value_of}
use Rattle.session_facts.specs.Lines.Errands.{Errand, settles, sweeps}
use Rattle.client_work.specs.declared.answer.Answer.{Answer}
use Rattle.client_work.specs.declared.answer.Answer.TheVariants as answer
use Rattle.client_work.specs.declared.answer.Begun.{Begun}
use Rattle.client_work.specs.declared.answer.Begun.TheVariants.{Working, Answered}
use Rattle.world_core.specs.declared.world.WorldFault.{WorldFault}
use Rattle.world_core.specs.declared.world.WorldFault.TheVariants as fault

-- the answer to a line that is not done: the rule that refuses it, or want of memory
abbrev pub declined : Refused → Result Reply WorldFault
declined (refused.Rule r) = Ok (reply.Refused r)
declined refused.Memory = Err fault.Memory

-- the reply to what was done, where it was
abbrev pub done_reply : Reply → Result (Unit {0}) Refused → Result Reply WorldFault
done_reply r (Ok done) = Ok r
done_reply r (Err why) = declined why

-- a trouble that a reply can tell; want of memory is none, and is a fault
abbrev pub told : Trouble → Result Trouble WorldFault
told trouble.Memory = Err fault.Memory
told t = Ok t

-- the reply that tells a trouble so
abbrev pub told_by : (Trouble → Reply) → Result Trouble WorldFault → Result Reply WorldFault
told_by tell (Ok t) = Ok (tell t)
told_by tell (Err why) = Err why

-- the reply to the trouble of an operation
abbrev pub trouble_reply : Trouble → Result Reply WorldFault
trouble_reply t = told_by (λ k. reply.Trouble k) (told t)

-- the reply to how a commit ended
abbrev pub commit_reply : CommitAnswer → Result Reply WorldFault
commit_reply (NotCommitted t) = told_by (λ k. reply.Commit (NotCommitted k)) (told t)
commit_reply (CommittedOpen t) = told_by (λ k. reply.Commit (CommittedOpen k)) (told t)
commit_reply a = Ok (reply.Commit a)

-- and to the trouble of a settling
abbrev pub unsettled_reply : Trouble → Result Reply WorldFault
unsettled_reply t = told_by (λ k. reply.NotSettled k) (told t)

-- the reply that shows what was read: of a value the payload
abbrev pub value_reply : Option Value → Reply
value_reply (Some value) = reply.Value value.payload
value_reply None = reply.NoValue

-- it is the reply, where there is memory for a copy of the payload
abbrev pub ShowsValue : Option Value → Result Reply WorldFault → Type 0
ShowsValue value (Ok r) = r ≡ value_reply value
ShowsValue value (Err why) = Unit {0}

-- the reply shows these records, where there is memory for a copy of them
abbrev pub ShowsItems : List Pair → Result Reply WorldFault → Type 0
ShowsItems pairs (Ok r) = r ≡ reply.Scan pairs
ShowsItems pairs (Err why) = Unit {0}

-- the reply to an answer shows it; that of a read shows the value that its session then has, and that of a scan the records
abbrev pub RepliesTo : Answer → Acting → Result Reply WorldFault → Type 0
RepliesTo (answer.Opened epoch) left result = result ≡ Ok (reply.Opened epoch)
RepliesTo answer.Closed left result = result ≡ Ok reply.Closed
RepliesTo (answer.Renewed end) left result = result ≡ Ok (reply.Renewed end)
RepliesTo (answer.Done n) left result = result ≡ Ok (reply.Done n)
RepliesTo (answer.Commit a) left result = result ≡ commit_reply a
RepliesTo answer.Value left result = ShowsValue (value_of left) result
RepliesTo answer.Scan left result = ShowsItems (items_of left) result
RepliesTo (answer.Settled s) left result = result ≡ Ok (reply.Settled s.calls)
RepliesTo (answer.Swept x) left result = result ≡ Ok (reply.Swept x.kept x.removed)
RepliesTo (answer.Trouble t) left result = result ≡ trouble_reply t

-- the reply to the answer of a settling: how many calls it made, or its trouble; no other answer is one
abbrev pub RepliesSettled : Answer → Result Reply WorldFault → Type 0
RepliesSettled (answer.Settled s) result = result ≡ Ok (reply.Settled s.calls)
RepliesSettled (answer.Trouble t) result = result ≡ unsettled_reply t
RepliesSettled answer result = ⊥

abbrev pub IsOfSettling : Answer → Type 0
IsOfSettling (answer.Settled s) = Unit {0}
IsOfSettling (answer.Trouble t) = Unit {0}
IsOfSettling answer = ⊥

-- the reply to the answer of a sweep: how many pages it kept and how many it removed, or its trouble; no other answer is one
abbrev pub RepliesSwept : Answer → Result Reply WorldFault → Type 0
RepliesSwept (answer.Swept x) result = result ≡ Ok (reply.Swept x.kept x.removed)
RepliesSwept (answer.Trouble t) result = result ≡ trouble_reply t
RepliesSwept answer result = ⊥

abbrev pub IsOfSweeping : Answer → Type 0
IsOfSweeping (answer.Swept x) = Unit {0}
IsOfSweeping (answer.Trouble t) = Unit {0}
IsOfSweeping answer = ⊥

-- the reply to the answer of session 0 on an errand
abbrev pub RepliesFor : Errand → Answer → Result Reply WorldFault → Type 0
RepliesFor settles answer result = RepliesSettled answer result
RepliesFor (sweeps tree) answer result = RepliesSwept answer result

abbrev pub IsOfErrand : Errand → Answer → Type 0
IsOfErrand settles answer = IsOfSettling answer
IsOfErrand (sweeps tree) answer = IsOfSweeping answer

-- the reply to the begin of an operation, which leaves this of its session
abbrev pub RepliesBegun : Result Begun Refused → Acting → Result Reply WorldFault → Type 0
RepliesBegun (Ok Working) left result = result ≡ Ok reply.Begun
RepliesBegun (Ok (Answered a)) left result = RepliesTo a left result
RepliesBegun (Err why) left result = result ≡ declined why

-- the reply to a step, which leaves this of its session
abbrev pub RepliesTurn : Turn Answer → Acting → Result Reply WorldFault → Type 0
RepliesTurn More left result = result ≡ Ok reply.Called
RepliesTurn (Ended a) left result = RepliesTo a left result
RepliesTurn (Stopped t) left result = result ≡ trouble_reply t
