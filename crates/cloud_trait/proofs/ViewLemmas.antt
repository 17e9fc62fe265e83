-- What an answer was, by what a machine saw in it.
use Rattle.std.proofs.Common.{◌≡◌, ℕ, List, Option, Ok, refl}
use Rattle.db_base.specs.declared.names.Lock.{Lock}
use Rattle.cloud_trait.specs.declared.answer.Answer.{Answer}
use Rattle.cloud_trait.specs.declared.answer.Answer.TheVariants.{Got, Sent, Received, Done, Given}
use Rattle.cloud_trait.specs.declared.message.Message.{Message}
use Rattle.cloud_trait.specs.Claim.{Claim}
use Rattle.cloud_trait.specs.Views.{got_of, sent_of, received_of, done_of, given_of}

-- a machine saw bytes exactly where the answer brought it
pub got_of-ok : (a : Answer) (v : Option (List ℕ)) → got_of a ≡ Ok v → a ≡ Got v
got_of-ok (Got x) v h = cc
got_of-ok a v h = absurd (cc)

-- a machine saw a message exactly where the answer brought it
pub sent_of-ok : (a : Answer) (id : ℕ) → sent_of a ≡ Ok id → a ≡ Sent id
sent_of-ok (Sent x) id h = cc
sent_of-ok a id h = absurd (cc)

-- a machine saw messages exactly where the answer brought it
pub received_of-ok : (a : Answer) (ms : List Message) → received_of a ≡ Ok ms → a ≡ Received ms
received_of-ok (Received x) ms h = cc
received_of-ok a ms h = absurd (cc)

-- a machine saw a lease exactly where the answer brought it
pub given_of-ok : (lock : Lock) (a : Answer) (l : Claim) → given_of lock a ≡ Ok l → a ≡ Given l
given_of-ok lock (Given x) l h = cc
given_of-ok lock a l h = absurd (cc)

-- a machine saw that it was done exactly where the answer said so
pub done_of-ok : (a : Answer) → done_of a ≡ Ok tt → a ≡ Done
done_of-ok Done h = refl
done_of-ok a h = absurd (cc)
