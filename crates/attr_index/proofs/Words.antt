-- The words of the lemmas on a look-up.
pub use Rattle.attr_index.specs.declared.stage.Stage.{Stage}
pub use Rattle.attr_index.specs.declared.stage.Stage.TheVariants.{Index, Records}
pub use Rattle.cloud_trait.specs.Caller.{Caller}
pub use Rattle.cloud_trait.specs.Machine.{Deed, Ends, Goes, Next, Stops}
pub use Rattle.cloud_trait.specs.Seen.{Seen}
pub use Rattle.cloud_trait.specs.declared.turn.Turn.{Turn}
pub use Rattle.cloud_trait.specs.declared.turn.Turn.TheVariants.{Ended, More, Stopped}
pub use Rattle.db_base.specs.declared.pair.Pair.{Pair}
pub use Rattle.leaf_view.specs.Leaf.{Entry, Leaf}
pub use Rattle.leaf_view.specs.Lookup.{holds}
