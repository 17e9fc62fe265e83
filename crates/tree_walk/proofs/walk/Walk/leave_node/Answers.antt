use Rattle.std.proofs.Common.{◌≡◌, ℕ, List, false, subst}
use Rattle.byte_format.specs.Order.{bytes_below}
use Rattle.tree_walk.proofs.Turns.{child_at_most}
use Rattle.tree_walk.proofs.walk.Walk.leave_node.Goals as goal

pub go_down-requires : goal.go_down-requires
go_down-requires c =
    subst (λ (key : List ℕ). bytes_below key c.child-page.result.0.now ≡ false) c.sought-in-None.ensures
    (child_at_most c.sought-in-None.result.now c.args.view.now.entries (c.child-page.result.0.now, c.child-page.result.1) c.child-page.ensures)
