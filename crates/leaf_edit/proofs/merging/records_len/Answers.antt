use Rattle.std.proofs.Common.{arith}
use Rattle.std.specs.Option.{option_map}
use Rattle.leaf_view.specs.Shown.{valued}
use Rattle.leaf_edit.proofs.Passed.{leap-size}
use Rattle.leaf_edit.proofs.Sizes.{no-size}
use Rattle.leaf_edit.proofs.merging.records_len.Goals as goal

pub returns-in_err-sum : goal.returns-in_err-sum
returns-in_err-sum c =
    no-size _ _ c.from_residual.ensures (omega (
      arith,
      c.in_err-sum.ensures,
      leap-size _ c.loop-x.left _ c.loop-x.coming _ (option_map valued c.next_step-step.result.1.record) _ _ c.again.ensures c.again-in-Some.ensures
          c.next_step-step.ensures,
    ))

pub loop-x-preserved : goal.loop-x-preserved
loop-x-preserved c = record {
  records = c.next_step-step.ensures.records;
  changes = c.next_step-step.ensures.changes;
  sum = omega (
    arith,
    c.in_ok-sum.ensures,
    leap-size _ c.loop-x.left _ c.loop-x.coming _ (option_map valued c.next_step-step.result.1.record) _ _ c.again.ensures c.again-in-Some.ensures
        c.next_step-step.ensures,
  );
}
