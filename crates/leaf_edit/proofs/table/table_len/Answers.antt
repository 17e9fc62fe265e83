use Rattle.std.proofs.Common.{true, false, arith, ap}
use Rattle.std.specs.Prelude.{filter, slice_index}
use Rattle.leaf_edit.specs.Sizes.{dones_size}
use Rattle.leaf_edit.specs.Spelled.{is_beside}
use Rattle.leaf_edit.proofs.Sizes.{no-size, same-size, own-raised, raised-size}
use Rattle.leaf_edit.proofs.table.table_len.Goals as goal

pub returns-in_err-lower : goal.returns-in_err-lower
returns-in_err-lower c =
    no-size _ _ c.from_residual.ensures (omega (
      arith,
      c.in_err-lower.ensures,
      raised-size c.args.leaf.now.done c.args.queue c.args.run.now,
      ap (λ ds. dones_size (filter (is_beside false c.args.queue) ds)) c.done_list.ensures.done,
    ))

pub returns-in_err-own : goal.returns-in_err-own
returns-in_err-own c =
    no-size _ _ c.from_residual-in_err-own.ensures (omega (
      arith,
      c.in_ok-lower.ensures,
      c.in_err-own.ensures,
      ap dones_size (own-raised c.args.leaf.now.done c.args.queue c.args.run.now (λ client. slice_index c.raised_numbers.result client) c.raised_numbers.ensures),
      raised-size c.args.leaf.now.done c.args.queue c.args.run.now,
      ap (λ ds. dones_size (filter (is_beside false c.args.queue) ds)) c.done_list.ensures.done,
    ))

pub returns : goal.returns
returns c =
    same-size _ _ _ c.others_len-2.ensures (omega (
      arith,
      c.in_ok-lower.ensures,
      c.in_ok-own.ensures,
      ap dones_size (own-raised c.args.leaf.now.done c.args.queue c.args.run.now (λ client. slice_index c.raised_numbers.result client) c.raised_numbers.ensures),
      raised-size c.args.leaf.now.done c.args.queue c.args.run.now,
      ap (λ ds. dones_size (filter (is_beside false c.args.queue) ds)) c.done_list.ensures.done,
      ap (λ ds. dones_size (filter (is_beside true c.args.queue) ds)) c.done_list-2.ensures.done,
    ))
