-- What an open session of a client has in hand.
use Rattle.std.specs.Prelude.{ℕ}
use Rattle.head_codec.specs.declared.head.Head.{Head}
use Rattle.cloud_trait.specs.Claim.{Claim}

-- the client, its lease, its head as the session knows it, and the last transaction number of the epoch that a commit took
pub record Holding : Type 0 where
  pub client : ℕ
  pub lease : Claim
  pub head : Head
  pub attempt : ℕ
