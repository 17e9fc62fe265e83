use Rattle.std.proofs.Common.{◌≡◌, ◌-◌, Some, None, length, slice_get}
use Rattle.byte_format.specs.Order.{bytes_below}
use Rattle.dump_text.specs.Dump.{stored_below}
use Rattle.dump_text.specs.Steps.{is_behind, last_behind}
use Rattle.dump_text.proofs.Ascents.{behind_last}
use Rattle.dump_text.proofs.reading.is_behind_records.Goals as goal

pub returns-in-Some : goal.returns-in-Some
returns-in-Some c =
    let at : Some c.in-Some.last.now ≡ slice_get c.args.records.now (length c.args.records.now - 1) = rw c.as_slice.ensures at c.in-Some.ensures.value in
    let is : bytes_below c.in-Some.last.now.key c.args.stored.now.key ≡ is_behind stored_below (last_behind None c.args.records.now) c.args.stored.now = behind_last stored_below c.args.records.now c.in-Some.last.now c.args.stored.now at in
    cc (c.is_below.ensures, c.as_slice-in-Some.ensures, c.as_slice-in-Some-2.ensures)
