use Rattle.std.proofs.Common.{true, false, arith, ap}
use Rattle.std.specs.Prelude.{filter, slice_index}
use Rattle.leaf_edit.specs.Sizes.{dones_size}
use Rattle.leaf_edit.specs.Spelled.{is_beside}
use Rattle.leaf_edit.proofs.DoneBytes.{table-end}
use Rattle.leaf_edit.proofs.Sizes.{adds-room, dones-size, own-raised, own-raised-bytes, raised-size, table-behind}
use Rattle.leaf_edit.proofs.table.add_table.Goals as goal

pub add_others-requires : goal.add_others-requires
add_others-requires c =
    omega (
      arith,
      raised-size c.args.leaf.now.done c.args.queue c.args.run.now,
      ap (λ ds. dones_size (filter (is_beside false c.args.queue) ds)) c.done_list.ensures.done,
    )

pub add_own-requires : goal.add_own-requires
add_own-requires c = omega (arith, ap dones_size (own-raised c.args.leaf.now.done c.args.queue c.args.run.now (λ client. slice_index c.raised_numbers.result client) c.raised_numbers.ensures), table-behind _ _ c.args.queue c.args.run.now _ _ c.done_list.ensures.done c.requires c.add_others.ensures)

pub add_others-requires-2 : goal.add_others-requires-2
add_others-requires-2 c =
    omega (
      arith,
      adds-room _ _ _ _ (dones_size (filter (is_beside true c.args.queue) c.args.leaf.now.done)) c.add_own.ensures (dones-size _)
          (omega (arith, ap dones_size (own-raised c.args.leaf.now.done c.args.queue c.args.run.now (λ client. slice_index c.raised_numbers.result client) c.raised_numbers.ensures), table-behind _ _ c.args.queue c.args.run.now _ _ c.done_list.ensures.done c.requires c.add_others.ensures)),
      ap (λ ds. dones_size (filter (is_beside true c.args.queue) ds)) c.done_list-2.ensures.done,
    )

pub returns : goal.returns
returns c = record {
  items = table-end _ _ _ _ _ _ _ _ _ c.done_list.ensures.done c.done_list-2.ensures.done c.add_others.ensures.items
      (own-raised-bytes _ _ _ _ _ _ c.raised_numbers.ensures c.add_own.ensures.items)
      c.add_others-2.ensures.items;
  capacity = omega arith;
}
