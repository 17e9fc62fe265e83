use Rattle.std.proofs.Common.{arith, ◌∙◌}
use Rattle.std.specs.Option.{option_map}
use Rattle.leaf_view.specs.Shown.{valued}
use Rattle.leaf_edit.proofs.Passed.{leap-size, leap-room, leap-added}
use Rattle.leaf_edit.proofs.merging.add_records.Goals as goal

pub add-requires : goal.add-requires
add-requires c =
    omega (
      arith,
      leap-size _ c.loop-x.left _ c.loop-x.coming _ (option_map valued c.next_step-step.result.1.record) _ _ c.again.ensures c.again-in-Some.ensures
          c.next_step-step.ensures,
    )

pub add_record-requires-clause-room : goal.add_record-requires-clause-room
add_record-requires-clause-room c =
    omega (
      arith,
      leap-room c.loop-x.out c.add.new.out _ c.loop-x.left _ c.loop-x.coming _ (option_map valued c.next_step-step.result.1.record) _ _ c.again.ensures
          c.again-in-Some.ensures c.next_step-step.ensures c.add.ensures c.loop-x.invariant.room,
    )

pub loop-x-preserved : goal.loop-x-preserved
loop-x-preserved c =
    let p = leap-added c.loop-x.out c.add.new.out c.add_record.new.out _ _ c.loop-x.left _ c.loop-x.coming _
    (option_map valued c.next_step-step.result.1.record) _ _ c.again.ensures c.again-in-Some.ensures c.next_step-step.ensures c.add.ensures
    c.add_record.ensures c.loop-x.invariant.items c.loop-x.invariant.room in
    record {
      records = c.next_step-step.ensures.records;
      changes = c.next_step-step.ensures.changes;
      items = p.0;
      room = p.1;
      kept = c.add_record.ensures.capacity ∙ (c.add.ensures.capacity ∙ c.loop-x.invariant.kept);
    }
