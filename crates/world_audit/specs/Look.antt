-- What looks leave of a cloud.
use Rattle.std.specs.Prelude.{◌≡◌, ◌≤◌, Some, Result, IfErr}
use Rattle.db_base.specs.declared.trouble.Trouble.{Trouble}
use Rattle.db_base.specs.declared.trouble.Trouble.TheVariants.{Failed}
use Rattle.cloud_trait.specs.Seen.{Seen}
use Rattle.cloud_trait.specs.State.{CloudState}
use Rattle.cloud_trait.specs.Weather.{Rose}

-- looks leave a told state, what looks show, what was heard, and each count but that of failed looks, as they were
pub record Looked (old new : Seen) : Type 0 where
  pub faults : new.counts.faults ≡ old.counts.faults
  pub withheld : new.counts.withheld ≡ old.counts.withheld
  pub stale : new.counts.stale ≡ old.counts.stale
  pub dark : old.counts.dark ≤ new.counts.dark
  pub heard : new.heard ≡ old.heard
  pub shown : new.shown ≡ old.shown
  pub stays : (x : CloudState) → old.state ≡ Some x → new.state ≡ Some x

-- it answers that it failed only where a look failed
abbrev pub FailsDark : {X : Type 0} → Result X Trouble → Seen → Seen → Type 0
FailsDark result old new = IfErr result (λ e. e ≡ Failed → Rose old.counts.dark new.counts.dark)
