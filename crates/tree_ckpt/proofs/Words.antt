-- The words of the lemmas on a tree checkpoint.
pub use Rattle.db_base.specs.declared.trouble.Trouble.{Trouble}
pub use Rattle.db_base.specs.declared.names.Lock.{Lock}
pub use Rattle.db_base.specs.declared.names.ObjName.{ObjName}
pub use Rattle.db_base.specs.declared.names.QueueName.{QueueName}
pub use Rattle.log_codec.specs.declared.record.PuItem.{PuItem}
pub use Rattle.run_cursor.specs.Run.{Taken}
pub use Rattle.cloud_trait.specs.declared.answer.Answer.{Answer}
pub use Rattle.cloud_trait.specs.declared.message.Message.{Message}
pub use Rattle.cloud_trait.specs.declared.turn.CkptAnswer.{CkptAnswer}
pub use Rattle.cloud_trait.specs.declared.turn.Turn.{Turn}
pub use Rattle.cloud_trait.specs.declared.turn.Turn.TheVariants.{More, Ended, Stopped}
pub use Rattle.cloud_trait.specs.Claim.{Claim}
pub use Rattle.cloud_trait.specs.Machine.{Next, Goes, Ends, Stops, Took, Deed, Came, calls_of}
pub use Rattle.cloud_trait.specs.Views.{given_of, got_of, received_of, done_of}
pub use Rattle.cloud_trait.specs.Weather.{Fits}
pub use Rattle.cloud_trait.specs.Ask.{Ask}
pub use Rattle.split_plan.specs.declared.put_list.PagePut.{PagePut}
pub use Rattle.split_plan.specs.declared.entry_list.NewEntry.{NewEntry}
pub use Rattle.ckpt_parts.specs.declared.intake.Intake.{Intake}
pub use Rattle.ckpt_parts.specs.declared.leases.Leases.{Leases}
pub use Rattle.tree_phases.specs.declared.chart.Chart.{Chart}
pub use Rattle.tree_phases.specs.declared.kept.KeptNode.{KeptNode}
pub use Rattle.tree_phases.specs.declared.placing.Placing.{Placing}
pub use Rattle.tree_phases.specs.declared.link.Link.{Link}
pub use Rattle.tree_phases.specs.declared.reserve.Reserved.{Reserved}
pub use Rattle.tree_phases.specs.declared.descent.Descent.{Descent}
pub use Rattle.tree_phases.specs.declared.fork.Fork.{Fork}
pub use Rattle.tree_phases.specs.declared.folding.Folding.{Folding}
pub use Rattle.tree_phases.specs.declared.folding.Left.{Left}
pub use Rattle.tree_phases.specs.declared.page_plan.PagePlan.{PagePlan}
pub use Rattle.tree_phases.specs.declared.rising.Rising.{Rising}
pub use Rattle.tree_phases.specs.declared.root.RootPlan.{RootPlan}
pub use Rattle.tree_ckpt.specs.declared.work.Coming.{Coming}
pub use Rattle.tree_ckpt.specs.declared.work.Held.{Held}
pub use Rattle.tree_ckpt.specs.declared.work.Onward.{Onward}
pub use Rattle.tree_ckpt.specs.declared.work.Work.{Work}
