-- Want of memory never takes the place of what a refused call says.
use Rattle.std.specs.Prelude.{◌≡◌, ◌≢◌, ◌≤◌, ◌+◌, ◌^◌, length, Some}
use Rattle.db_base.specs.declared.trouble.Trouble.TheVariants as trouble
use Rattle.cloud_trait.specs.declared.answer.Answer.{Answer}
use Rattle.cloud_trait.specs.declared.answer.Answer.TheVariants as call
use Rattle.cloud_trait.specs.declared.turn.CkptAnswer.{CkptAnswer}
use Rattle.cloud_trait.specs.declared.turn.Turn.{Turn}
use Rattle.cloud_trait.specs.declared.turn.Turn.TheVariants.{Stopped}
use Rattle.page_ckpt.specs.declared.stage.Stage.{Stage}
use Rattle.page_ckpt.specs.declared.stage.Stage.TheVariants.{Receiving, GettingRight, PuttingRight, ReleasingRight, PuttingHome, Releasing}
use Rattle.page_ckpt.specs.Paging.{Paging}

-- the call failed, a lease that it named was over, or the lock that it was to take was held
abbrev pub IsRefusal : Answer → Type 0
IsRefusal call.Failed = Unit {0}
IsRefusal (call.Late end now) = Unit {0}
IsRefusal (call.Held until) = Unit {0}
IsRefusal a = ⊥

-- the items that a put applied are more than a u64 counts
abbrev pub IsCountFull : Paging → Type 0
IsCountFull p = 2 ^ 64 ≤ p.applied + length p.applying

-- where the step itself may want memory: it takes in what a receive or a get of a right page brought, goes on behind that page, or its count is
-- full; behind the last release it answers what was kept
abbrev pub WantsMemory : Stage → Paging → Type 0
WantsMemory Receiving p = Unit {0}
WantsMemory GettingRight p = Unit {0}
WantsMemory ReleasingRight p = Unit {0}
WantsMemory PuttingRight p = IsCountFull p
WantsMemory PuttingHome p = IsCountFull p
WantsMemory Releasing p = p.trouble ≡ Some trouble.Memory
WantsMemory stage p = ⊥

-- .. where the call was refused: it was a release, whose answer says nothing
abbrev pub WantsMore : Stage → Paging → Type 0
WantsMore ReleasingRight p = Unit {0}
WantsMore Releasing p = p.trouble ≡ Some trouble.Memory
WantsMore stage p = ⊥

-- a step stops for want of memory there alone
pub record IsAmple (a : Answer) (old : Paging) (turn : Turn CkptAnswer) : Type 0 where
  pub refused : IsRefusal a → turn ≡ Stopped trouble.Memory → WantsMore old.stage old
  pub wants : a ≢ call.Memory → turn ≡ Stopped trouble.Memory → WantsMemory old.stage old
