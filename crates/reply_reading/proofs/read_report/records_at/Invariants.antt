use Rattle.std.proofs.Common.{◌≡◌}
use Rattle.reply_reading.specs.Counted.{counted, stored_by}
use Rattle.reply_reading.proofs.CountedLaws.{ahead}
use Rattle.reply_reading.proofs.read_report.records_at.Given as goal

abbrev pub invariant-loop-missing : goal.invariant-loop-missing
invariant-loop-missing l = ahead l.records (counted stored_by l.missing l.left) ≡ counted stored_by l.fn.count l.fn.lines

abbrev pub decreases-loop-missing : goal.decreases-loop-missing
decreases-loop-missing l = l.missing
