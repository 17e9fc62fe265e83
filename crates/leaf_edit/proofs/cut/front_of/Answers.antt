use Rattle.std.proofs.Common.{List, take, drop, ap, ◌∙◌}
use Rattle.leaf_view.specs.Leaf.{Entry}
use Rattle.leaf_view.specs.Spelled.{records_spelling}
use Rattle.leaf_edit.specs.Spelled.{run_bytes}
use Rattle.leaf_edit.proofs.Passed.{taken-front}
use Rattle.leaf_edit.proofs.cut.front_of.Goals as goal

pub returns : goal.returns
returns c =
    c.before-2.ensures (run_bytes (take c.args.n c.args.records.now)) (taken-front c.args.n c.args.records.now _ _ c.in_ok-bytes.ensures
    (c.in_ok-last.ensures ∙ ap (λ (es : List Entry). records_spelling 2 es) (c.skip.ensures ∙ ap (λ (es : List Entry). drop c.args.n es) c.again.ensures)))
