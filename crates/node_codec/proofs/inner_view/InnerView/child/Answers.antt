use Rattle.std.proofs.Common.{ap, ◌∙◌}
use Rattle.byte_format.specs.Order.{bytes_below}
use Rattle.node_codec.specs.Inner.{Inner}
use Rattle.std.specs.Option.{option_copied}
use Rattle.node_codec.specs.Node.{plain_entry}
use Rattle.node_codec.proofs.PlainLemmas.{list_from_whole}
use Rattle.node_codec.proofs.InnerLemmas.{inner_has_child}
use Rattle.node_codec.proofs.inner_view.InnerView.child.Goals as goal

pub child_in-requires-clause-listed : goal.child_in-requires-clause-listed
child_in-requires-clause-listed c = list_from_whole plain_entry c.self.inside.entries.now c.self.invariant.entry_list

pub child_in-requires-clause-there : goal.child_in-requires-clause-there
child_in-requires-clause-there c =
    let v = c.self.inside in
    inner_has_child v.version v.level v.low.now v.right (option_copied v.high) v.entries.now c.args.key.now c.self.invariant (ap (λ (n : Inner). bytes_below c.args.key.now n.low) c.self.view_is ∙ c.requires)
