-- What a put of a head that an opening has in hand is.
use Rattle.std.specs.Prelude.{ℕ, ◌≡◌, List, Some}
use Rattle.head_codec.specs.Spelling.{head_of}
use Rattle.head_codec.specs.declared.head.Head.{Head}
use Rattle.head_codec.specs.declared.head.Phase.TheVariants.{Settled}
use Rattle.recover_run.specs.Recovery.{Recovery}

-- the bytes spell a head of the client that is settled: it commits nothing
pub record PutsHead (r : Recovery) (client : ℕ) (bytes : List ℕ) : Type 0 where
  pub head : Head
  pub spells : head_of bytes ≡ Some head
  pub client_is : r.client ≡ client
  pub settled : head.phase ≡ Settled
