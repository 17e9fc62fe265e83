-- Want of memory never takes the place of what a refused send or put says.
use Rattle.std.proofs.Common.{◌≢◌, ℕ, Option, Some, None}
use Rattle.std.specs.Prelude.{slice_get}
use Rattle.commit_writes.specs.declared.stage.Stage.{Stage}
use Rattle.commit_writes.specs.declared.stage.Stage.TheVariants.{Waiting, Logging, Opening, Sending, Settling, Deleting, Finished}
use Rattle.commit_writes.specs.Writing.{Writing, ask_at, delete_ask}
use Rattle.commit_writes.specs.Sound.{IsSoundAt, IsThere}
use Rattle.commit_writes.specs.Demands.{IsDeletion}

-- what is no deletion is not at that stage
pub not_deleting : (stage : Stage) (w : Writing) → IsSoundAt stage w → (IsDeletion (ask_at stage w) → ⊥) → stage ≢ Deleting
not_deleting Deleting w sound none = absurd (none (on (slice_get w.ids w.place) sound)) where
  on : (o : Option ℕ) → IsThere o → IsDeletion (delete_ask w o)
  on (Some id) there = tt
  on None there = there
not_deleting Waiting w sound none = λ e. cc
not_deleting Logging w sound none = λ e. cc
not_deleting Opening w sound none = λ e. cc
not_deleting Sending w sound none = λ e. cc
not_deleting Settling w sound none = λ e. cc
not_deleting Finished w sound none = λ e. cc
