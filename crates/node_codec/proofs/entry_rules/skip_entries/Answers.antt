use Rattle.std.proofs.Common.{false, refl}
use Rattle.std.specs.Option.{option_copied}
use Rattle.node_codec.specs.Node.{plain_entry, entry}
use Rattle.node_codec.proofs.PlainLemmas.{skip_gives, skip_listed}
use Rattle.node_codec.proofs.NodeLemmas.{entry_exact, entry_loosens}
use Rattle.node_codec.proofs.entry_rules.skip_entries.Goals as goal

pub skip_list-requires : goal.skip_list-requires
skip_list-requires c κs = ((refl, tt), entry_exact c.args.low.now (option_copied c.args.high) c.args.last)

pub returns-clause-gives : goal.returns-clause-gives
returns-clause-gives c =
    skip_gives (entry c.args.low.now (option_copied c.args.high) c.args.last) plain_entry (entry_loosens c.args.low.now (option_copied c.args.high) c.args.last) false c.args.bytes.now c.skip_list.result c.skip_list.ensures

pub returns-clause-listed : goal.returns-clause-listed
returns-clause-listed c =
    skip_listed (entry c.args.low.now (option_copied c.args.high) c.args.last) plain_entry (entry_loosens c.args.low.now (option_copied c.args.high) c.args.last) false c.args.bytes.now c.skip_list.result c.skip_list.ensures
