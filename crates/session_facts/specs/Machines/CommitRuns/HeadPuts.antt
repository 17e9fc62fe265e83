-- What a put of a head is that a commit run has in hand.
use Rattle.std.specs.Prelude.{ℕ, ◌≡◌, ◌⊎◌, List, length, Some, None}
use Rattle.commit_run.specs.Run.{Run, home_of, run_opens}
use Rattle.head_codec.specs.Spelling.{head_of}
use Rattle.head_codec.specs.declared.head.Head.{Head}
use Rattle.head_codec.specs.declared.head.Phase.TheVariants as phase

-- the head opens a transaction of as many records as the run has
pub record OpensRun (r : Run) (head : Head) : Type 0 where
  pub opens : run_opens r ≡ Some head
  pub phase_is : head.phase ≡ phase.Open (length r.draft.writes.records)

-- the bytes spell a head of the client, which commits the changes, or is settled and commits nothing
pub record PutsRun (r : Run) (client : ℕ) (bytes : List ℕ) : Type 0 where
  pub head : Head
  pub spells : head_of bytes ≡ Some head
  pub client_is : (home_of r).client ≡ client
  pub how : OpensRun r head ⊎ ((run_opens r ≡ None) × (head.phase ≡ phase.Settled))
