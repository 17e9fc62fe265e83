use Rattle.std.proofs.Common.{arith, ◌-◌}
use Rattle.std.specs.Prelude.{slice_index}
use Rattle.leaf_edit.proofs.Sizes.{no-size, own-size-at, own-none}
use Rattle.leaf_edit.proofs.table.own_len.Goals as goal

pub loop-left-preserved : goal.loop-left-preserved
loop-left-preserved c = record {
  most = omega arith;
  sum = omega (
    arith,
    own-size-at c.args.queue (λ client. slice_index c.args.numbers.now client) c.loop-left.left
        (c.loop-left.left - 1) _ _ (omega arith) c.client_at-client.ensures c.get-number.ensures.number,
  );
}

pub returns-in_err-sum : goal.returns-in_err-sum
returns-in_err-sum c = no-size _ _ c.from_residual.ensures (omega (
  arith,
  c.in_err-sum.ensures,
  own-size-at c.args.queue (λ client. slice_index c.args.numbers.now client) c.loop-left.left
      (c.loop-left.left - 1) _ _ (omega arith) c.client_at-client.ensures c.get-number.ensures.number,
))

pub returns : goal.returns
returns c = omega (arith, own-none c.args.queue (λ client. slice_index c.args.numbers.now client) c.loop-left.left (omega arith))
