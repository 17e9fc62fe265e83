use Rattle.std.proofs.Common.{arith}
use Rattle.dump_text.proofs.Rooms.{too_many, none_within, within_at}
use Rattle.dump_text.proofs.room.+keys_within.Goals as goal

pub returns-then-len-eq0 : goal.returns-then-len-eq0
returns-then-len-eq0 t c = none_within _ c.args.len c.if-len-eq0.true

pub returns-then-len-ge8 : goal.returns-then-len-ge8
returns-then-len-ge8 t c = let k = too_many c.args.len c.if-len-ge8.true in omega arith

pub returns : goal.returns
returns t c = within_at _ c.args.len _ c.saturating_add.result c.keys_within.result c.if-len-eq0.false c.saturating_mul.ensures c.saturating_add.ensures c.keys_within.ensures
