use Rattle.std.proofs.Common.{sym, subst, arith}
use Rattle.leaf_edit.specs.Merging.{AreChanges, AreRecords}
use Rattle.leaf_edit.proofs.InOrder.{lacked-changes}
use Rattle.leaf_edit.proofs.Sizes.{room-whole, room-table, room-mark, room-records}
use Rattle.leaf_edit.proofs.Whole.{records-are, spelled-is}
use Rattle.leaf_edit.proofs.merging.spell.Goals as goal

pub add_records-requires-clause-records : goal.add_records-requires-clause-records
add_records-requires-clause-records c = subst AreRecords (sym c.records.ensures.records) (records-are c.args.leaf.now c.records.ensures.formed)

pub add_records-requires-clause-changes : goal.add_records-requires-clause-changes
add_records-requires-clause-changes c = subst AreChanges (sym c.requires.changes) (lacked-changes c.args.leaf.now c.args.queue c.args.run.now c.requires.ordered)

pub add_head-requires : goal.add_head-requires
add_head-requires c = omega (arith, room-whole c.args.leaf.now c.args.queue c.args.run.now c.args.out.now c.requires.empty c.requires.room)

pub add_table-requires : goal.add_table-requires
add_table-requires c =
    omega (arith, room-table c.args.leaf.now c.args.queue c.args.run.now _ _ _ c.requires.empty c.requires.room c.add_head.ensures)

pub add_u8-requires : goal.add_u8-requires
add_u8-requires c =
    omega (
      arith,
      room-mark c.args.leaf.now c.args.queue c.args.run.now _ _ _ _ c.requires.empty c.requires.room c.add_head.ensures
          c.add_table.ensures,
    )

pub add_records-requires-clause-room : goal.add_records-requires-clause-room
add_records-requires-clause-room c =
    room-records c.args.leaf.now c.args.queue c.args.run.now _ _ _ _ _ _ _ c.records.ensures.records c.requires.changes c.requires.empty
    c.requires.room c.add_head.ensures c.add_table.ensures c.add_u8.ensures

pub returns-clause-spelled : goal.returns-clause-spelled
returns-clause-spelled c =
    spelled-is c.args.leaf.now c.args.queue c.args.run.now _ _ _ _ _ _ _ _ (omega arith) c.version.ensures.formed c.requires.ordered
    (omega (arith, c.requires.version)) c.requires.empty c.version.ensures.version c.records.ensures.records c.requires.changes
    c.add_head.ensures.items c.add_table.ensures.items c.add_u8.ensures.items c.add_records.ensures.items
