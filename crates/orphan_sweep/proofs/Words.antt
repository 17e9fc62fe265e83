-- The words of the lemmas on a sweep.
pub use Rattle.db_base.specs.declared.trouble.Trouble.{Trouble}
pub use Rattle.cloud_trait.specs.declared.answer.Answer.{Answer}
pub use Rattle.cloud_trait.specs.declared.turn.Turn.{Turn}
pub use Rattle.cloud_trait.specs.declared.turn.Turn.TheVariants.{More, Ended, Stopped}
pub use Rattle.cloud_trait.specs.Claim.{Claim}
pub use Rattle.cloud_trait.specs.Machine.{Goes, Ends, Stops, LeadsBy, Took, Deed, Came, calls_of}
pub use Rattle.cloud_trait.specs.Views.{given_of, got_of, listed_of, done_of}
pub use Rattle.cloud_trait.specs.Weather.{Fits}
pub use Rattle.node_codec.specs.Tree.{Tree}
pub use Rattle.orphan_sweep.specs.declared.paths.Paths.{Paths}
pub use Rattle.orphan_sweep.specs.declared.spot.Spot.{Spot}
pub use Rattle.orphan_sweep.specs.declared.stage.Stage.{Stage}
pub use Rattle.orphan_sweep.specs.declared.stage.Stage.TheVariants.{TakingTree, GettingTree, Reading, Listing, Removing, Releasing, Finished}
pub use Rattle.orphan_sweep.specs.declared.swept.Swept.{Swept}
