use Rattle.node_codec.specs.Node.{plain_number}
use Rattle.node_codec.specs.Plain.{items_of}
use Rattle.node_codec.proofs.NodeLemmas.{IsRaisedTo}
use Rattle.node_codec.proofs.raised.raised_numbers.Given as goal

abbrev pub invariant-loop-client : goal.invariant-loop-client
invariant-loop-client l = IsRaisedTo (items_of plain_number l.numbers) l.cursor l.client l.out.items
