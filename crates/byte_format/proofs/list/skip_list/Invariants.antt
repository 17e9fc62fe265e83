use Rattle.std.proofs.Common.{None, length}
use Rattle.byte_format.specs.Format.{list_at}
use Rattle.byte_format.specs.Gives.{behind_it}
use Rattle.byte_format.proofs.Loops.{IsOnTheWay}
use Rattle.byte_format.proofs.list.skip_list.Given as goal

abbrev pub invariant-items : goal.invariant-items
invariant-items g l =
    let item = g.R.Rules.item_format l.rules in
    IsOnTheWay item (behind_it (list_at l.may_end item None l.bytes)) l.may_stop l.before l.rest

abbrev pub decreases-items : goal.decreases-items
decreases-items g l = length l.rest
