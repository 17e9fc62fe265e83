-- Want of memory never takes the place of what a refused call says.
use Rattle.std.specs.Prelude.{◌≡◌, ◌≢◌, Some, Err}
use Rattle.db_base.specs.declared.trouble.Trouble.TheVariants as trouble
use Rattle.cloud_trait.specs.declared.answer.Answer.{Answer}
use Rattle.cloud_trait.specs.declared.answer.Answer.TheVariants as call
use Rattle.cloud_trait.specs.declared.turn.Turn.{Turn}
use Rattle.cloud_trait.specs.declared.turn.Turn.TheVariants.{More, Stopped}
use Rattle.recover_run.specs.declared.stage.RecoverAnswer.{RecoverAnswer}
use Rattle.recover_run.specs.declared.stage.Stage.{Stage}
use Rattle.recover_run.specs.declared.stage.Stage.TheVariants.{ReleasingOld, Taking, Clearing, Releasing, Finished}
use Rattle.recover_run.specs.Recovery.{Recovery}

-- the call failed, a lease that it named was over, or the lock that it was to take was held
abbrev pub IsRefusal : Answer → Type 0
IsRefusal call.Failed = Unit {0}
IsRefusal (call.Late end now) = Unit {0}
IsRefusal (call.Held until) = Unit {0}
IsRefusal a = ⊥

-- at these stages an answer leads on without memory: a lease is given back or taken, or a message of a past epoch is deleted
abbrev pub NeedsNone : Stage → Type 0
NeedsNone ReleasingOld = Unit {0}
NeedsNone Taking = Unit {0}
NeedsNone Clearing = Unit {0}
NeedsNone Releasing = Unit {0}
NeedsNone Finished = Unit {0}
NeedsNone stage = ⊥

-- Behind a refused call it stops for want of memory only where it had kept that before, and so it does behind any other answer where it needs
-- none; and it keeps that only behind a call that was answered so.
pub record IsAmple (a : Answer) (old new : Recovery) (turn : Turn RecoverAnswer) : Type 0 where
  pub refused : IsRefusal a → turn ≡ Stopped trouble.Memory → old.ending ≡ Some (Err trouble.Memory)
  pub spared : NeedsNone old.stage → a ≢ call.Memory → turn ≡ Stopped trouble.Memory → old.ending ≡ Some (Err trouble.Memory)
  pub kept : a ≢ call.Memory → turn ≡ More → new.ending ≡ Some (Err trouble.Memory) → old.ending ≡ Some (Err trouble.Memory)
