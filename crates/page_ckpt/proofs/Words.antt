-- The words of the lemmas on a page checkpoint.
pub use Rattle.db_base.specs.declared.trouble.Trouble.{Trouble}
pub use Rattle.log_codec.specs.declared.record.PuItem.{PuItem}
pub use Rattle.cloud_trait.specs.declared.answer.Answer.{Answer}
pub use Rattle.cloud_trait.specs.declared.message.Message.{Message}
pub use Rattle.cloud_trait.specs.declared.turn.CkptAnswer.{CkptAnswer}
pub use Rattle.cloud_trait.specs.declared.turn.Turn.{Turn}
pub use Rattle.cloud_trait.specs.declared.turn.Turn.TheVariants.{More, Ended, Stopped}
pub use Rattle.cloud_trait.specs.Claim.{Claim}
pub use Rattle.cloud_trait.specs.Machine.{Goes, Ends, Stops, Took, Deed, Came, calls_of}
pub use Rattle.cloud_trait.specs.Views.{given_of, got_of, received_of, done_of}
pub use Rattle.cloud_trait.specs.Weather.{Fits}
pub use Rattle.ckpt_parts.specs.declared.intake.Intake.{Intake}
pub use Rattle.page_ckpt.specs.declared.link.Link.{Link}
pub use Rattle.page_ckpt.specs.declared.stage.Stage.{Stage}
