use Rattle.std.proofs.Common.{ℕ, ap, sym, ◌∙◌, min, ◌^◌, ◌-◌}
use Rattle.dump_text.proofs.Rooms.{none_at, all_at, above_at}
use Rattle.dump_text.proofs.room.+keys_above.Goals as goal

pub returns-then-len-eq0 : goal.returns-then-len-eq0
returns-then-len-eq0 t c = none_at _ c.args.len c.args.key.now c.in-len1-up.len_at_least c.if-len-eq0.true

pub returns-in-empty : goal.returns-in-empty
returns-in-empty t c = c.keys_within.ensures ∙ ap (λ (n : ℕ). min n (2 ^ 64 - 1)) (sym (all_at c.args.len c.args.key.now c.in-empty.len_below))

pub returns-else-len-eq0 : goal.returns-else-len-eq0
returns-else-len-eq0 t c =
    above_at _ c.args.len c.args.key.now _ c.saturating_mul.result c.saturating_add.result c.keys_within-in-len1-up.result c.from.result c.keys_above.result
    c.in-len1-up.len_at_least c.if-len-eq0.false c.saturating_add-in-len1-up.ensures c.saturating_mul.ensures c.saturating_add.ensures c.keys_within-in-len1-up.ensures c.keys_above.ensures c.from.ensures
