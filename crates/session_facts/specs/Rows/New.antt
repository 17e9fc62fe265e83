-- What is known of a transaction whose open head is to be put.
use Rattle.std.specs.Prelude.{ℕ, ◌≡◌, List, length}
use Rattle.cloud_facts.specs.Words.{AtomicRec, Head, IsIn}
use Rattle.head_codec.specs.declared.head.Phase.TheVariants as phase
use Rattle.txn_buffer.specs.Noted.{Noted}

-- the head counts the changes that are committed, and nothing of its client's transaction is in the log yet
pub record IsNew (log : List AtomicRec) (client : ℕ) (head : Head) (changes : List Noted) : Type 0 where
  pub count : head.phase ≡ phase.Open (length changes)
  pub fresh : (r : AtomicRec) → IsIn log r → r.client ≡ client → r.epoch ≡ head.epoch → r.txn ≡ head.txn → ⊥
