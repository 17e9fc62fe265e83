-- The words of the lemmas on a recovery.
pub use Rattle.db_base.specs.declared.trouble.Trouble.{Trouble}
pub use Rattle.head_codec.specs.declared.head.Head.{Head}
pub use Rattle.cloud_trait.specs.declared.answer.Answer.{Answer}
pub use Rattle.cloud_trait.specs.declared.message.Message.{Message}
pub use Rattle.cloud_trait.specs.declared.turn.Turn.{Turn}
pub use Rattle.cloud_trait.specs.declared.turn.Turn.TheVariants.{More, Ended, Stopped}
pub use Rattle.cloud_trait.specs.Ask.{Ask, GetHeld, PutHeld, Send, Receive, Delete, Take, Release}
pub use Rattle.cloud_trait.specs.Claim.{Claim}
pub use Rattle.cloud_trait.specs.Machine.{Goes, Ends, Stops, LeadsBy, Took, Came, Deed, calls_of}
pub use Rattle.cloud_trait.specs.Views.{given_of, got_of, sent_of, received_of, done_of}
pub use Rattle.cloud_trait.specs.Weather.{Fits}
pub use Rattle.recover_run.specs.declared.items.AtomicItem.{AtomicItem}
pub use Rattle.recover_run.specs.declared.stage.Aim.{Aim}
pub use Rattle.recover_run.specs.declared.stage.Aim.TheVariants.{Opening, Settling}
pub use Rattle.recover_run.specs.declared.stage.Stage.{Stage}
pub use Rattle.recover_run.specs.declared.stage.Stage.TheVariants.{ReleasingOld, Taking, Getting, Receiving, Deleting, Sending, Putting, Clearing, Sweeping, Releasing, Finished}
pub use Rattle.recover_run.specs.declared.stage.RecoverAnswer.{RecoverAnswer}
pub use Rattle.recover_run.specs.declared.stage.RecoverAnswer.TheVariants.{Opened, Nothing}
pub use Rattle.recover_run.specs.declared.wanted.Wanted.{Wanted}
pub use Rattle.recover_run.specs.Calls.{Calls}
pub use Rattle.recover_run.specs.Recovery.{Recovery, Step, recovery_ask, recovery_next, KeepsLeases}
pub use Rattle.recover_run.specs.Leases.{Went}
