use Rattle.std.proofs.Common.{[], ◌∷◌, ◌++◌, sym, ◌∙◌}
use Rattle.leaf_view.specs.Shown.{shown}
use Rattle.leaf_edit.proofs.Passed.{passes-one}
use Rattle.leaf_edit.proofs.passing.from_key.Goals as goal

pub loop-record-preserved : goal.loop-record-preserved
loop-record-preserved c = (
  c.loop-record.invariant.0 ++ shown c.in-Some.record ∷ [],
  passes-one c.args.key.now c.args.records c.loop-record.invariant.0 c.loop-record.left _ (shown c.in-Some.record) c.in-Some.behind
      c.loop-record.invariant.1 c.again.ensures c.in-Some.ensures
      (sym c.is_below.ensures ∙ c.if-not-is_below.false),
)
