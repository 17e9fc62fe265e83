-- The words of the lemmas on the writes of a commit.
pub use Rattle.cloud_trait.specs.Ask.{Ask, Delete, PutHeld}
pub use Rattle.cloud_trait.specs.Machine.{Came, Deed, Ends, Goes, LeadsBy, Stops, Took}
pub use Rattle.cloud_trait.specs.Views.{trouble_of}
pub use Rattle.cloud_trait.specs.Weather.{Fits}
pub use Rattle.cloud_trait.specs.declared.answer.Answer.{Answer}
pub use Rattle.cloud_trait.specs.declared.answer.Answer.TheVariants.{Done, Failed, Memory}
pub use Rattle.cloud_trait.specs.declared.turn.Turn.{Turn}
pub use Rattle.cloud_trait.specs.declared.turn.Turn.TheVariants.{More}
pub use Rattle.commit_writes.specs.declared.stage.Stage.{Stage}
pub use Rattle.commit_writes.specs.declared.stage.Stage.TheVariants.{Deleting, Finished, Logging, Opening, Sending, Settling, Waiting}
pub use Rattle.db_base.specs.declared.trouble.CommitAnswer.{CommitAnswer}
pub use Rattle.db_base.specs.declared.trouble.CommitAnswer.TheVariants.{Committed}
pub use Rattle.db_base.specs.declared.trouble.Trouble.{Trouble}
pub use Rattle.log_codec.specs.declared.record.AtomicRec.{AtomicRec}
pub use Rattle.recover_run.specs.declared.home.Home.{Home}
