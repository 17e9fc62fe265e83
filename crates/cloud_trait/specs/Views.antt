-- What a machine sees in an answer: the value that it asked for, or the trouble.
use Rattle.std.specs.Prelude.{ℕ, List, Option, Result, Ok, Err}
use Rattle.db_base.specs.declared.names.Lock.{Lock}
use Rattle.db_base.specs.declared.trouble.Trouble.{Trouble}
use Rattle.db_base.specs.declared.trouble.Trouble.TheVariants as trouble
use Rattle.cloud_trait.specs.declared.answer.Answer.{Answer}
use Rattle.cloud_trait.specs.declared.answer.Answer.TheVariants.{Got, Sent, Received, Listed, Done, Given, Held, Renewed, Late, Memory}
use Rattle.cloud_trait.specs.declared.message.Message.{Message}
use Rattle.cloud_trait.specs.Claim.{Claim}

-- the trouble of an answer that brought no value; an answer that does not fit its call counts as failed
abbrev pub trouble_of : Answer → Trouble
trouble_of (Late e n) = trouble.Late e n
trouble_of Memory = trouble.Memory
trouble_of a = trouble.Failed

-- the bytes of a get
abbrev pub got_of : Answer → Result (Option (List ℕ)) Trouble
got_of (Got v) = Ok v
got_of a = Err (trouble_of a)

-- the number of a sent message
abbrev pub sent_of : Answer → Result ℕ Trouble
sent_of (Sent id) = Ok id
sent_of a = Err (trouble_of a)

-- the messages of a receive
abbrev pub received_of : Answer → Result (List Message) Trouble
received_of (Received ms) = Ok ms
received_of a = Err (trouble_of a)

-- the pages of a listing
abbrev pub listed_of : Answer → Result (List ℕ) Trouble
listed_of (Listed ps) = Ok ps
listed_of a = Err (trouble_of a)

-- that a put, a removal, a deletion or a release was done
abbrev pub done_of : Answer → Result (Unit {0}) Trouble
done_of Done = Ok tt
done_of a = Err (trouble_of a)

-- the lease of a take of this lock
abbrev pub given_of : Lock → Answer → Result Claim Trouble
given_of lock (Given l) = Ok l
given_of lock (Held until) = Err (trouble.Busy lock until)
given_of lock a = Err (trouble_of a)

-- the new end of a lease
abbrev pub renewed_of : Answer → Result ℕ Trouble
renewed_of (Renewed e) = Ok e
renewed_of a = Err (trouble_of a)
