-- What a put of a head is that a commit has in hand.
use Rattle.std.specs.Prelude.{ℕ, ◌≡◌, ◌⊎◌, List, length, Some, None}
use Rattle.commit_writes.specs.Writing.{Writing, opens_at}
use Rattle.head_codec.specs.Spelling.{head_of}
use Rattle.head_codec.specs.declared.head.Head.{Head}
use Rattle.head_codec.specs.declared.head.Phase.TheVariants as phase

-- the head opens a transaction of as many records as the commit has
pub record OpensHead (w : Writing) (head : Head) : Type 0 where
  pub opens : opens_at w.stage w ≡ Some head
  pub phase_is : head.phase ≡ phase.Open (length w.records)

-- the bytes spell a head of the client, which commits the changes, or is settled and commits nothing
pub record PutsHead (w : Writing) (client : ℕ) (bytes : List ℕ) : Type 0 where
  pub head : Head
  pub spells : head_of bytes ≡ Some head
  pub client_is : w.home.client ≡ client
  pub how : OpensHead w head ⊎ ((opens_at w.stage w ≡ None) × (head.phase ≡ phase.Settled))
