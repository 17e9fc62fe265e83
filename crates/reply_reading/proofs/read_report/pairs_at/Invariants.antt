use Rattle.std.proofs.Common.{◌≡◌}
use Rattle.reply_reading.specs.Counted.{counted, pair_by}
use Rattle.reply_reading.proofs.CountedLaws.{ahead}
use Rattle.reply_reading.proofs.read_report.pairs_at.Given as goal

abbrev pub invariant-loop-missing : goal.invariant-loop-missing
invariant-loop-missing l = ahead l.pairs (counted (pair_by l.fn.separator) l.missing l.left) ≡ counted (pair_by l.fn.separator) l.fn.count l.fn.texts

abbrev pub decreases-loop-missing : goal.decreases-loop-missing
decreases-loop-missing l = l.missing
