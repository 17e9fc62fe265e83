-- The words of the lemmas on a walk.
pub use Rattle.cloud_trait.specs.Ask.{Get}
pub use Rattle.cloud_trait.specs.Caller.{Caller}
pub use Rattle.cloud_trait.specs.Machine.{Ends, Goes, Next, Stops}
pub use Rattle.cloud_trait.specs.Seen.{Seen}
pub use Rattle.cloud_trait.specs.Views.{got_of}
pub use Rattle.cloud_trait.specs.Weather.{Makes}
pub use Rattle.cloud_trait.specs.declared.answer.Answer.{Answer}
pub use Rattle.cloud_trait.specs.declared.turn.Turn.{Turn}
pub use Rattle.cloud_trait.specs.declared.turn.Turn.TheVariants.{Ended, More, Stopped}
pub use Rattle.db_base.specs.declared.names.ObjName.{ObjName}
pub use Rattle.db_base.specs.declared.trouble.Trouble.{Trouble}
pub use Rattle.leaf_view.specs.Leaf.{Leaf}
pub use Rattle.node_codec.specs.Inner.{Inner}
pub use Rattle.node_codec.specs.Node.{page_at}
pub use Rattle.node_codec.specs.Tree.{Tree}
