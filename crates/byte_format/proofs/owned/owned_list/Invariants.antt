use Rattle.std.proofs.Common.{None, length}
use Rattle.byte_format.specs.Format.{list_at}
use Rattle.byte_format.proofs.Loops.{IsKept}
use Rattle.byte_format.proofs.owned.owned_list.Given as goal

abbrev pub invariant-items : goal.invariant-items
invariant-items g l =
    let item = g.R.OwnedRules.item_format l.rules in
    IsKept item (list_at l.may_end item None l.bytes) l.may_stop l.items.items l.rest

abbrev pub decreases-items : goal.decreases-items
decreases-items g l = length l.rest
