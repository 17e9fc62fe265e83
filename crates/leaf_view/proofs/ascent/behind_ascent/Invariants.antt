use Rattle.std.proofs.Common.{length}
use Rattle.std.specs.Option.{option_copied}
use Rattle.leaf_view.proofs.Climbing.{IsAscent}
use Rattle.leaf_view.proofs.ascent.behind_ascent.Given as goal

abbrev pub invariant-records : goal.invariant-records
invariant-records l = IsAscent l.rules.format l.rules.low.now (option_copied l.rules.high) l.bytes l.before l.rest

abbrev pub decreases-records : goal.decreases-records
decreases-records l = length l.rest
