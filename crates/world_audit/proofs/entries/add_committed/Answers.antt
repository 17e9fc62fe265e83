use Rattle.std.proofs.Common.{sym}
use Rattle.history.specs.Audited.{committed_entry}
use Rattle.world_audit.proofs.Lists.{one_more}
use Rattle.world_audit.proofs.entries.add_committed.Goals as goal

pub loop-i-preserved : goal.loop-i-preserved
loop-i-preserved c = one_more (committed_entry c.args.client c.args.epoch c.args.txn) c.args.log.now c.loop-i.log c.push.new.self c.args.changes.now c.loop-i.i
    _ _ (sym c.in-Some.ensures) c.loop-i.invariant c.in_ok-entry.ensures c.in_ok-push.ensures.ok
