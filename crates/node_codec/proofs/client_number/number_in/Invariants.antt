use Rattle.std.proofs.Common.{◌≡◌, length}
use Rattle.db_base.specs.Cursor.{number_of}
use Rattle.node_codec.specs.Node.{plain_number}
use Rattle.node_codec.specs.Plain.{items_of, IsList}
use Rattle.node_codec.proofs.client_number.number_in.Given as goal

abbrev pub invariant-numbers : goal.invariant-numbers
invariant-numbers l = IsList plain_number l.rest × (number_of (items_of plain_number l.rest) l.client ≡ number_of (items_of plain_number l.numbers) l.client)

abbrev pub decreases-numbers : goal.decreases-numbers
decreases-numbers l = length (items_of plain_number l.rest)
