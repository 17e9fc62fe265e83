-- What is taken of a quota of calls.
use Rattle.std.specs.Prelude.{ℕ, ◌≡◌, ◌≤◌, ◌+◌, length, Some}
use Rattle.cloud_trait.specs.Seen.{Seen}
use Rattle.cloud_trait.specs.State.{CloudState}

-- where the state is told, no more landed than calls were taken of the quota, of which so much is left: a call lands one row at most
abbrev pub SpendsQuota : Seen → Seen → ℕ → ℕ → Type 0
SpendsQuota before after quota left =
    (x : CloudState) → before.state ≡ Some x → (y : CloudState) × (after.state ≡ Some y) × (length y.trace + left ≤ length x.trace + quota)
