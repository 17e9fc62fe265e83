-- What the schedule does to a cloud.
use Rattle.std.specs.Prelude.{ℕ, ◌≡◌, ◌≢◌, ◌+◌, ◌≤◌, min, Bool, false, List, length, Option, Some, None, Result, Err, IfOk}
use Rattle.std.specs.Str.{bytes_eq}
use Rattle.db_base.specs.declared.names.ObjName.{ObjName}
use Rattle.db_base.specs.declared.names.QueueName.{QueueName}
use Rattle.db_base.specs.declared.wish.Wish.{Wish}
use Rattle.cloud_trait.specs.declared.fault.CloudFault.{CloudFault}
use Rattle.cloud_trait.specs.declared.fault.CloudFault.TheVariants.{Failed}
use Rattle.cloud_trait.specs.State.{CloudState, end_after, greatest, newest}
use Rattle.cloud_trait.specs.Delivery.{unmarked}
use Rattle.cloud_trait.specs.Seen.{Seen, Showing}
use Rattle.cloud_trait.specs.Weather.{Rose}

-- one wait more, and the clock later by at least the ticks, both up to the greatest number
pub record Waits (ticks : ℕ) (s : CloudState) (new : Option CloudState) : Type 0 where
  pub after : CloudState
  pub told : new ≡ Some after
  pub later : end_after s.now ticks ≤ after.now
  pub rest : after ≡ record s { now = after.now; waits = min (s.waits + 1) greatest }

-- where the cloud tells its state, this holds of it
abbrev pub WhenTold : Seen → (CloudState → Type 0) → Type 0
WhenTold seen P = (s : CloudState) → seen.state ≡ Some s → P s

-- the state has this wish, and is else as it was
abbrev pub SetsWish : Wish → Seen → Seen → Type 0
SetsWish wish old new = WhenTold old (λ s. new.state ≡ Some (record s { wish = wish }))

-- the state is as a wait leaves it
abbrev pub HasWaited : ℕ → Seen → Seen → Type 0
HasWaited ticks old new = WhenTold old (λ s. Waits ticks s new.state)

-- what is not a service call raises no count, is not heard as an answer, and leaves what looks show
pub record IsNoCall (old new : Seen) : Type 0 where
  pub counts : new.counts ≡ old.counts
  pub heard : new.heard ≡ old.heard
  pub shown : new.shown ≡ old.shown

-- a look changes nothing, what looks show neither, but that it raises the count of failed looks where it failed, and there alone
pub record Looks {A : Type 0} (result : Result A CloudFault) (old new : Seen) : Type 0 where
  pub faults : new.counts.faults ≡ old.counts.faults
  pub withheld : new.counts.withheld ≡ old.counts.withheld
  pub stale : new.counts.stale ≡ old.counts.stale
  pub dark : old.counts.dark ≤ new.counts.dark
  pub failed : result ≡ Err Failed → Rose old.counts.dark new.counts.dark
  pub seeing : result ≢ Err Failed → new.counts.dark ≡ old.counts.dark
  pub heard : new.heard ≡ old.heard
  pub shown : new.shown ≡ old.shown
  pub stays : (s : CloudState) → old.state ≡ Some s → new.state ≡ Some s

-- the newest version has these bytes
abbrev pub has_bytes : Option (List ℕ) → List ℕ → Bool
has_bytes (Some newest) bytes = bytes_eq newest bytes
has_bytes None bytes = false

-- a look at an object gave its newest version, a look whether it has these bytes told that by it, a look at its versions gave how many
-- landed, and a look at a queue gave the number of its messages that are not deleted
abbrev pub TellsNewest : Result (Option (List ℕ)) CloudFault → Seen → ObjName → Type 0
TellsNewest result seen name = WhenTold seen (λ s. IfOk result (λ v. v ≡ newest s name))

abbrev pub TellsHaving : Result Bool CloudFault → Seen → ObjName → List ℕ → Type 0
TellsHaving result seen name bytes = WhenTold seen (λ s. IfOk result (λ is. is ≡ has_bytes (newest s name) bytes))

abbrev pub TellsCount : Result ℕ CloudFault → Seen → ObjName → Type 0
TellsCount result seen name = WhenTold seen (λ s. IfOk result (λ n. n ≡ length (s.versions name)))

abbrev pub TellsBacklog : Result ℕ CloudFault → Seen → QueueName → Type 0
TellsBacklog result seen queue = WhenTold seen (λ s. IfOk result (λ n. n ≡ length (unmarked (s.messages queue))))

-- a look at an object showed what the cloud tells that it shows
abbrev pub IsShown : Seen → ObjName → Option (List ℕ) → Type 0
IsShown seen name found = (p : Showing) → seen.shown ≡ Some p → found ≡ p name

-- a look whether an object has these bytes told it by what the cloud tells that looks show
abbrev pub IsShownToHave : Seen → ObjName → List ℕ → Bool → Type 0
IsShownToHave seen name bytes is = (p : Showing) → seen.shown ≡ Some p → is ≡ has_bytes (p name) bytes
