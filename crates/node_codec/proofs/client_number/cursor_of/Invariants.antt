use Rattle.std.proofs.Common.{◌≡◌, ◌++◌, length}
use Rattle.node_codec.specs.Node.{plain_number}
use Rattle.node_codec.specs.Plain.{items_of, IsList}
use Rattle.node_codec.proofs.client_number.cursor_of.Given as goal

abbrev pub invariant-numbers : goal.invariant-numbers
invariant-numbers l = IsList plain_number l.rest × (l.cursor ++ items_of plain_number l.rest ≡ items_of plain_number l.numbers)

abbrev pub decreases-numbers : goal.decreases-numbers
decreases-numbers l = length (items_of plain_number l.rest)
