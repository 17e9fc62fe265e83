-- The words of the facts: of ids and troubles, of the cloud and its calls, of what objects hold, of the book and the tally.
pub use Rattle.db_base.specs.Ids.{IsClient, IsTree}
pub use Rattle.db_base.specs.declared.trouble.Trouble.{Trouble}
pub use Rattle.db_base.specs.declared.trouble.CommitAnswer.{CommitAnswer}
pub use Rattle.db_base.specs.declared.names.ObjName.{ObjName}
pub use Rattle.db_base.specs.declared.names.QueueName.{QueueName}
pub use Rattle.db_base.specs.declared.names.Lock.{Lock}
pub use Rattle.report_types.specs.declared.entry.Entry.{Entry}
pub use Rattle.log_codec.specs.declared.record.AtomicRec.{AtomicRec}
pub use Rattle.log_codec.specs.declared.record.PuItem.{PuItem}
pub use Rattle.head_codec.specs.declared.head.Head.{Head}
pub use Rattle.leaf_view.specs.Leaf.{Leaf}
pub use Rattle.node_codec.specs.Inner.{Inner}
pub use Rattle.node_codec.specs.Tree.{Tree}
pub use Rattle.cloud_trait.specs.declared.answer.Answer.{Answer}
pub use Rattle.cloud_trait.specs.declared.turn.Turn.{Turn}
pub use Rattle.cloud_trait.specs.declared.turn.Turn.TheVariants.{More, Ended, Stopped}
pub use Rattle.cloud_trait.specs.declared.state.Version.{Version}
pub use Rattle.cloud_trait.specs.declared.state.Posted.{Posted}
pub use Rattle.cloud_trait.specs.State.{CloudState, called, newest}
pub use Rattle.cloud_trait.specs.Caller.{Caller}
pub use Rattle.cloud_trait.specs.Seen.{Seen}
pub use Rattle.cloud_trait.specs.Claim.{Claim, Lasts}
pub use Rattle.cloud_trait.specs.Ask.{Ask, Get, GetHeld, PutHeld, Send, Receive, Delete, Take, Renew, Release}
pub use Rattle.cloud_trait.specs.Machine.{Next, Goes, Ends, Stops, Deed, calls_of}
pub use Rattle.cloud_trait.specs.Views.{done_of, got_of, given_of, received_of, sent_of}
pub use Rattle.cloud_facts.specs.Book.Book.{Book, Link}
pub use Rattle.cloud_facts.specs.Book.Tally.{Store, Node, Leafy, Branch, at}
pub use Rattle.cloud_facts.specs.Book.Records.{IsIn, StandsAt}
pub use Rattle.cloud_facts.specs.Book.Telling.{nodes_of, roots_of}
pub use Rattle.cloud_facts.specs.Tellings.Told.{store_of}
pub use Rattle.cloud_facts.specs.Calls.Call.{IsCall}
pub use Rattle.cloud_facts.specs.Calls.Standing.{StandsUnder}
