-- Want of memory never takes the place of what a refused call says, and nothing wants memory once the pages are listed.
use Rattle.std.specs.Prelude.{◌≡◌, ◌≢◌, ◌≤◌, length, Some}
use Rattle.db_base.specs.declared.trouble.Trouble.TheVariants as trouble
use Rattle.cloud_trait.specs.declared.answer.Answer.{Answer}
use Rattle.cloud_trait.specs.declared.answer.Answer.TheVariants as call
use Rattle.cloud_trait.specs.declared.turn.Turn.{Turn}
use Rattle.cloud_trait.specs.declared.turn.Turn.TheVariants.{More, Stopped}
use Rattle.orphan_sweep.specs.declared.stage.Stage.{Stage}
use Rattle.orphan_sweep.specs.declared.stage.Stage.TheVariants.{Removing, Releasing, Finished}
use Rattle.orphan_sweep.specs.declared.swept.Swept.{Swept}
use Rattle.orphan_sweep.specs.Sweeping.{Sweeping}

-- the call failed, a lease that it named was over, or the lock that it was to take was held
abbrev pub IsRefusal : Answer → Type 0
IsRefusal call.Failed = Unit {0}
IsRefusal (call.Late end now) = Unit {0}
IsRefusal (call.Held until) = Unit {0}
IsRefusal a = ⊥

-- the pages are listed
abbrev pub HasList : Stage → Type 0
HasList Removing = Unit {0}
HasList Releasing = Unit {0}
HasList stage = ⊥

-- where the step itself may want memory: until the pages are listed, and where more orphans were removed than there are; behind the release it
-- answers what was kept
abbrev pub WantsMemory : Stage → Sweeping → Type 0
WantsMemory Removing s = length s.orphans ≤ s.removed
WantsMemory Releasing s = s.trouble ≡ Some trouble.Memory
WantsMemory Finished s = ⊥
WantsMemory stage s = Unit {0}

-- Behind a refused call it stops for want of memory only where it had kept that before, and so it does behind any other answer once the pages are
-- listed; and it keeps that only behind a call that was answered so.
pub record IsAmple (a : Answer) (old new : Sweeping) (turn : Turn Swept) : Type 0 where
  pub refused : IsRefusal a → turn ≡ Stopped trouble.Memory → old.trouble ≡ Some trouble.Memory
  pub listed : HasList old.stage → a ≢ call.Memory → turn ≡ Stopped trouble.Memory → old.trouble ≡ Some trouble.Memory
  pub kept : a ≢ call.Memory → turn ≡ More → new.trouble ≡ Some trouble.Memory → old.trouble ≡ Some trouble.Memory
