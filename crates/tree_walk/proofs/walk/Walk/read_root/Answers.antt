use Rattle.std.proofs.Common.{◌≡◌, ℕ, List, false, ap, subst, ◌∙◌}
use Rattle.std.specs.Prelude.{Some}
use Rattle.byte_format.specs.Order.{bytes_below}
use Rattle.tree_walk.specs.Walk.{Walk, sought}
use Rattle.tree_walk.proofs.Turns.{child_at_most, root_moves}
use Rattle.tree_walk.proofs.walk.Walk.read_root.Goals as goal

pub go_down-requires : goal.go_down-requires
go_down-requires c =
    subst (λ (key : List ℕ). bytes_below key c.child-page.result.0.now ≡ false) c.sought.ensures
    (child_at_most c.sought.result.now c.args.view.now.entries (c.child-page.result.0.now, c.child-page.result.1) c.child-page.ensures)

pub returns : goal.returns
returns c =
    root_moves c.args.self.now _ c.object.result c.args.view.now c.level.result c.sought.result.now (c.child-page.result.0.now, c.child-page.result.1) _ _
    (ap (λ (v : Walk). record v { used = Some c.object.result }) c.self.view_is) c.object.ensures c.level.ensures (c.sought.ensures ∙ ap sought c.self.view_is) c.child-page.ensures c.go_down.ensures
