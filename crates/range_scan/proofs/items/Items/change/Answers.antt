use Rattle.std.proofs.Common.{◌∙◌}
use Rattle.range_scan.proofs.Placing.{change_left, change_put, left_room}
use Rattle.range_scan.proofs.items.Items.change.Goals as goal

pub put_at-requires : goal.put_at-requires
put_at-requires c =
    left_room c.as_slice-key.result.now c.args.self.now c.take_at-old.new.self _ c.place-place.result c.place-place.ensures c.take_at-old.ensures.rest

pub returns-in_ok-put_at : goal.returns-in_ok-put_at
returns-in_ok-put_at c =
    change_put c.args.self.now c.take_at-old.new.self c.put_at.new.self c.args.change.now c.as_slice-key.result.now c.place-place.result c.take_at-old.result c.in-Some.value
    (c.as_slice-key.ensures.bytes ∙ c.key.ensures) c.requires c.place-place.ensures c.take_at-old.ensures.value c.take_at-old.ensures.rest c.in-Some.ensures c.in_ok-put_at.ensures

pub returns-in_default : goal.returns-in_default
returns-in_default c =
    change_left c.args.self.now c.take_at-old.new.self c.args.change.now c.as_slice-key.result.now c.place-place.result c.take_at-old.result
    (c.as_slice-key.ensures.bytes ∙ c.key.ensures) c.requires c.place-place.ensures c.take_at-old.ensures.value c.take_at-old.ensures.rest c.in_default.ensures
