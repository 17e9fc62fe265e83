-- What stays while others act: a record that was sent stays so, and the first copy of a number is the first ever.
use Rattle.std.proofs.Common.{◌≡◌, ℕ, List, Some}
use Rattle.std.specs.Prelude.{slice_get}
use Rattle.cloud_trait.specs.declared.state.Posted.{Posted}

-- a message stands where it stood, with its bytes
pub record HasStayed (posts : List Posted) (place : ℕ) (bytes : List ℕ) : Type 0 where
  pub message : Posted
  pub there : slice_get posts place ≡ Some message
  pub bytes_is : message.bytes ≡ bytes
