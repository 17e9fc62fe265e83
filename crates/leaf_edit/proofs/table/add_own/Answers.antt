use Rattle.std.proofs.Common.{arith, ◌-◌}
use Rattle.std.specs.Prelude.{slice_index}
use Rattle.leaf_edit.proofs.DoneBytes.{own-step-at, own-end}
use Rattle.leaf_edit.proofs.Sizes.{adds-room, dones-size, own-size-at}
use Rattle.leaf_edit.proofs.table.add_own.Goals as goal

pub add_if_done-requires : goal.add_if_done-requires
add_if_done-requires c =
    omega (
      arith,
      own-size-at c.args.queue (λ client. slice_index c.args.numbers.now client) c.loop-left.left
          (c.loop-left.left - 1) _ _ (omega arith) c.client_at-client.ensures c.get-number.ensures.number,
    )

pub loop-left-preserved : goal.loop-left-preserved
loop-left-preserved c = record {
  most = omega arith;
  items = own-step-at _ _ _ _ _ c.loop-left.left _ _ _ (omega arith) c.client_at-client.ensures c.get-number.ensures.number
      c.loop-left.invariant.items c.add_if_done.ensures.items;
  room = adds-room _ _ _ _ _ c.add_if_done.ensures (dones-size _)
      (omega (
        arith,
        own-size-at c.args.queue (λ client. slice_index c.args.numbers.now client) c.loop-left.left
            (c.loop-left.left - 1) _ _ (omega arith) c.client_at-client.ensures c.get-number.ensures.number,
      ));
  kept = omega arith;
}

pub returns : goal.returns
returns c = record { items = own-end _ _ c.loop-left.left _ _ (omega arith) c.loop-left.invariant.items; capacity = c.loop-left.invariant.kept }
