use Rattle.std.proofs.Common.{sym, ◌∙◌}
use Rattle.leaf_view.specs.Shown.{shown}
use Rattle.leaf_edit.proofs.CutFits.{rest-step}
use Rattle.leaf_edit.proofs.cut.add_each_rest.Goals as goal

pub loop-key-preserved : goal.loop-key-preserved
loop-key-preserved c =
    rest-step _ _ _ _ (shown (c.in-Some.key, c.in-Some.payload, c.in-Some.attr)) _ (sym c.again.ensures ∙ c.in-Some.ensures) c.loop-key.invariant.0
    c.loop-key.invariant.1 c.in_ok-try_add_entry.ensures
