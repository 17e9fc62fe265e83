-- The words of the lemmas on a settling.
pub use Rattle.cloud_trait.specs.Machine.{Deed, Ends, Goes, LeadsBy, Next, Stops, Took}
pub use Rattle.cloud_trait.specs.declared.answer.Answer.{Answer}
pub use Rattle.cloud_trait.specs.declared.answer.Answer.TheVariants.{Failed}
pub use Rattle.cloud_trait.specs.declared.turn.CkptAnswer.{CkptAnswer}
pub use Rattle.cloud_trait.specs.declared.turn.Turn.{Turn}
pub use Rattle.cloud_trait.specs.declared.turn.Turn.TheVariants.{Ended, More, Stopped}
pub use Rattle.db_base.specs.declared.trouble.Trouble.{Trouble}
pub use Rattle.recover_run.specs.declared.stage.RecoverAnswer.{RecoverAnswer}
pub use Rattle.settle_run.specs.declared.part.Part.{Part}
pub use Rattle.settle_run.specs.declared.part.Part.TheVariants.{Client, Page, Tree}
pub use Rattle.settle_run.specs.declared.settled.Settled.{Settled}
