use Rattle.std.proofs.Common.{sym, ◌∙◌}
use Rattle.leaf_view.specs.Shown.{shown}
use Rattle.leaf_edit.proofs.Passed.{each-added}
use Rattle.leaf_edit.proofs.merging.add_each.Goals as goal

pub loop-key-preserved : goal.loop-key-preserved
loop-key-preserved c =
    let p = each-added c.loop-key.out c.add_entry.new.out _ c.loop-key.left (shown (c.in-Some.key, c.in-Some.payload, c.in-Some.attr)) c.in-Some.rest
    (sym c.again.ensures ∙ c.in-Some.ensures) c.loop-key.invariant.records c.loop-key.invariant.items c.loop-key.invariant.room c.add_entry.ensures in
    record { records = p.0; items = p.1.0; room = p.1.1; kept = c.add_entry.ensures.capacity ∙ c.loop-key.invariant.kept }
