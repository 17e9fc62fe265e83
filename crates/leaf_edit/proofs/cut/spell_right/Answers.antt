use Rattle.std.proofs.Common.{ap, sym, subst, ◌∙◌, drop}
use Rattle.leaf_edit.specs.Cut.{first_key}
use Rattle.leaf_edit.specs.Merging.{AreRecords}
use Rattle.leaf_edit.proofs.CutSpelled.{right-spelled, rest-are}
use Rattle.leaf_edit.proofs.cut.spell_right.Goals as goal

pub add_rest-requires : goal.add_rest-requires
add_rest-requires c =
    subst AreRecords (sym (c.skip-rest.ensures ∙ ap (drop c.args.n) c.records.ensures.records))
    (rest-are c.args.leaf.now c.args.n c.requires.less c.records.ensures.formed)

pub returns : goal.returns
returns c =
    right-spelled c.args.leaf.now c.args.n _ _ _ _ _ _ _ _ _ _ c.records.ensures.formed c.requires.less c.requires.empty
    (c.first_key.ensures ∙ ap first_key (c.skip-rest.ensures ∙ ap (drop c.args.n) c.records.ensures.records)) c.right_of.ensures
    c.high.ensures.high c.done_list.ensures.done (c.skip-rest.ensures ∙ ap (drop c.args.n) c.records.ensures.records)
    c.in_ok-try_add_fields.ensures c.in_ok-add_dones.ensures c.in_ok-try_add_u8.ensures c.in_ok-add_rest.ensures
