use Rattle.std.proofs.Common.{true, refl}
use Rattle.node_codec.specs.Node.{plain_number, client_number}
use Rattle.node_codec.proofs.PlainLemmas.{skip_gives, skip_listed}
use Rattle.node_codec.proofs.NodeLemmas.{client_number_exact, client_number_loosens}
use Rattle.node_codec.proofs.client_number.skip_numbers.Goals as goal

pub skip_list-requires : goal.skip_list-requires
skip_list-requires c κs = ((refl, tt), client_number_exact)

pub returns-clause-gives : goal.returns-clause-gives
returns-clause-gives c = skip_gives client_number plain_number client_number_loosens true c.args.bytes.now c.skip_list.result c.skip_list.ensures

pub returns-clause-listed : goal.returns-clause-listed
returns-clause-listed c = skip_listed client_number plain_number client_number_loosens true c.args.bytes.now c.skip_list.result c.skip_list.ensures
