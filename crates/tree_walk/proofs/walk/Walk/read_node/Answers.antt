use Rattle.std.proofs.Common.{◌≡◌, ℕ, List, true, false, ap, sym, subst, ◌∙◌}
use Rattle.byte_format.specs.Order.{bytes_below, bytes_same}
use Rattle.tree_walk.specs.Walk.{Walk, IsWalk, sought, spot_of}
use Rattle.tree_walk.proofs.Turns.{fence_holds}
use Rattle.tree_walk.proofs.walk.Walk.read_node.Goals as goal

pub leave_node-requires : goal.leave_node-requires
leave_node-requires c =
    let ok : IsWalk c.args.self.now = subst IsWalk c.self.view_is c.self.invariant in
    let found : c.low.result.now ≡ c.args.view.now.low = c.low.ensures in
    let same : bytes_same c.low.result.now (spot_of c.args.self.now).low ≡ true = sym c.is_promised.ensures ∙ c.if-not-is_promised.false in
    let is : bytes_same c.args.view.now.low (spot_of c.args.self.now).low ≡ true =
    sym (ap (λ (k : List ℕ). bytes_same k (spot_of c.args.self.now).low) found) ∙ same in
    subst (λ (v : Walk). bytes_below (sought v) c.args.view.now.low ≡ false) (sym c.self.view_is) (fence_holds c.args.self.now c.args.view.now.low ok is)
