-- The reply to a report that a trouble stopped.
use Rattle.std.proofs.Common.{ℕ}
use Rattle.cloud_facts.specs.Words.{IsTree, Trouble, Seen}
use Rattle.db_base.specs.declared.trouble.Trouble.TheVariants as trouble
use Rattle.world_core.specs.World.{World}
use Rattle.world_core.specs.Replying.{trouble_reply}
use Rattle.world_core.specs.Handled.{StopsBy, ReportReply}

pub report_stops : (tree : ℕ) (before after : Seen) (world : World) (t : Trouble) → IsTree tree → StopsBy tree before after world.blind t
    → ReportReply tree before after world (trouble_reply t)
report_stops tree before after world trouble.Memory is stops = tt
report_stops tree before after world trouble.Failed is stops = (is, tt, stops)
report_stops tree before after world (trouble.Late end now) is stops = (is, tt, stops)
report_stops tree before after world (trouble.Busy lock until) is stops = (is, tt, stops)
report_stops tree before after world (trouble.Waiting have need) is stops = (is, tt, stops)
report_stops tree before after world (trouble.Stale page least got) is stops = (is, tt, stops)
report_stops tree before after world (trouble.Absent page) is stops = (is, tt, stops)
report_stops tree before after world (trouble.NotALeaf page) is stops = (is, tt, stops)
report_stops tree before after world (trouble.Damaged place offset) is stops = (is, tt, stops)
report_stops tree before after world (trouble.BadFence page expected found) is stops = (is, tt, stops)
report_stops tree before after world (trouble.Loop page) is stops = (is, tt, stops)
report_stops tree before after world (trouble.Exhausted what) is stops = (is, tt, stops)
