-- The answer that brought a value.
use Rattle.std.proofs.Common.{◌≡◌, List, Ok}
use Rattle.cloud_trait.specs.declared.answer.Answer.TheVariants as call
use Rattle.tree_ckpt.proofs.Words.{Answer, Message, received_of, done_of}

pub received_is : (a : Answer) (ms : List Message) → received_of a ≡ Ok ms → a ≡ call.Received ms
received_is (call.Received got) ms e = cc (e)
received_is a ms e = absurd (cc (e))

pub done_is : (a : Answer) (x : Unit {0}) → done_of a ≡ Ok x → a ≡ call.Done
done_is call.Done x e = cc
done_is a x e = absurd (cc (e))
