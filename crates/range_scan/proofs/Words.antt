-- The words of the lemmas on a scan.
pub use Rattle.cloud_trait.specs.Ask.{Get}
pub use Rattle.cloud_trait.specs.Caller.{Caller}
pub use Rattle.cloud_trait.specs.Machine.{Ends, Goes, LeadsBy, Next, Steps, Stops, Took, occasion_of}
pub use Rattle.cloud_trait.specs.Seen.{Seen}
pub use Rattle.cloud_trait.specs.Weather.{Makes}
pub use Rattle.cloud_trait.specs.declared.answer.Answer.{Answer}
pub use Rattle.cloud_trait.specs.declared.turn.Turn.{Turn}
pub use Rattle.cloud_trait.specs.declared.turn.Turn.TheVariants.{Ended, More, Stopped}
pub use Rattle.db_base.specs.declared.trouble.Trouble.{Trouble}
pub use Rattle.leaf_view.specs.Leaf.{Entry, Leaf}
pub use Rattle.leaf_view.specs.Lookup.{holds, page_at, value_of}
pub use Rattle.leaf_view.specs.Shown.{valued}
