use Rattle.std.proofs.Common.{◌+◌, ◌∙◌, List, ap}
use Rattle.node_codec.specs.Inner.{node_of_root}
use Rattle.split_plan.specs.declared.entry_list.NewEntry.{NewEntry}
use Rattle.split_plan.specs.Part.{part_of_node, entry_key}
use Rattle.split_plan.specs.Plan.{node_pieces, with_children}
use Rattle.split_plan.proofs.Cutting.{pieces-are-a-cut}
use Rattle.split_plan.proofs.Rooting.{root-lows, root-named}
use Rattle.split_plan.proofs.root.plan_root.Goals as goal

pub add_all-requires : goal.add_all-requires
add_all-requires c =
    root-lows c.as_slice.result.now c.args.first_free c.page_behind.result (node_pieces c.page_behind.result c.in_ok-root.node)
    (c.as_slice.ensures ∙ c.in_ok-plan.ensures.entries) c.in_ok-plan.ensures.fit

pub returns-clause-cut : goal.returns-clause-cut
returns-clause-cut c = pieces-are-a-cut entry_key (c.args.first_free + 1) (part_of_node (node_of_root c.args.buf))

pub returns-clause-root : goal.returns-clause-root
returns-clause-root c =
    root-named c.in_ok-plan.plan.entries c.args.first_free c.page_behind.result c.in_ok-root.node c.in_ok-root.root c.add_all.new.root c.args.buf
    c.in_ok-plan.ensures.entries c.in_ok-root.ensures.node c.page_behind.ensures c.in_ok-root.ensures.root
    (c.in_ok-add_all.ensures.ok ∙ ap (λ (es : List NewEntry). with_children es c.in_ok-root.root) c.as_slice.ensures) c.in_ok-plan.ensures.whole
    c.requires.reserved
