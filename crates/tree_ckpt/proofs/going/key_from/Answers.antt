use Rattle.std.proofs.Common.{Some, ap, sym, ◌∙◌}
use Rattle.tree_ckpt.proofs.Keys.{key-none, key-parted}
use Rattle.tree_ckpt.proofs.going.key_from.Goals as goal

pub returns-in-Some : goal.returns-in-Some
returns-in-Some c =
    ap Some (c.as_slice.ensures.bytes ∙ c.key.ensures)
    ∙ sym (key-parted c.args.from.now c.args.items.now c.parted_at.result.0.now c.parted_at.result.1.now c.in-Some.item.now c.in-Some.field-0-1.now
    c.parted_at.ensures.whole c.parted_at.ensures.below c.parted_at.ensures.from c.in-Some.ensures.cases.0)

pub returns-in-None : goal.returns-in-None
returns-in-None c =
    sym (key-none c.args.from.now c.args.items.now c.parted_at.result.0.now c.parted_at.result.1.now c.parted_at.ensures.whole c.parted_at.ensures.below
    c.in-None.ensures.cases)
