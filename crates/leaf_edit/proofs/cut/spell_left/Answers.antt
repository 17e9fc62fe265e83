use Rattle.std.proofs.Common.{ap, ◌∙◌, arith, drop}
use Rattle.leaf_edit.specs.Cut.{first_key}
use Rattle.leaf_edit.proofs.CutSpelled.{left-spelled}
use Rattle.leaf_edit.proofs.cut.spell_left.Goals as goal

pub returns : goal.returns
returns c =
    left-spelled c.args.leaf.now c.args.n c.args.right _ _ _ _ _ _ _ _ _ _ _ c.requires.version c.version.ensures.formed c.requires.some
    c.requires.less c.get.ensures.range (omega arith) c.requires.empty c.version.ensures.version c.low.ensures.low
    c.get.ensures.number (c.first_key-key.ensures ∙ ap first_key (c.skip.ensures ∙ ap (drop c.args.n) c.records.ensures.records))
    c.done_list.ensures.done c.records-2.ensures.records c.in_ok-try_add_fields.ensures c.in_ok-add_dones.ensures
    c.in_ok-try_add_u8.ensures c.in_ok-add_front.ensures
