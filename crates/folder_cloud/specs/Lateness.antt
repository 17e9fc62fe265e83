-- A call that came too late for its lease, and one that did not.
use Rattle.std.specs.Prelude.{ℕ, ◌≡◌, Option, Result, Err, IfSome}
use Rattle.cloud_trait.specs.Claim.{Claim, Lasts}
use Rattle.folder_cloud.specs.declared.fault.HeldStop.{HeldStop}
use Rattle.folder_cloud.specs.declared.fault.HeldStop.TheVariants.{Late}

-- where a lease was over, this holds of its end and of the clock
abbrev pub IfLate : {A : Type 0} → Result A HeldStop → (ℕ → ℕ → Type 0) → Type 0
IfLate result P = (end now : ℕ) → result ≡ Err (Late end now) → P end now

-- one lease lasts, and so does the other, where there is one
abbrev pub AllLast : ℕ → Claim → Option Claim → Type 0
AllLast now one two = Lasts now one × IfSome two (Lasts now)
