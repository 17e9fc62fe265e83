use Rattle.std.proofs.Common.{◌≡◌, length}
use Rattle.node_codec.specs.Node.{plain_entry, later_of, child_of}
use Rattle.node_codec.specs.Plain.{items_of, IsList}
use Rattle.node_codec.proofs.entry.last_at_most.Given as goal

abbrev pub invariant-entries : goal.invariant-entries
invariant-entries l = IsList plain_entry l.rest × (later_of l.best (child_of l.key (items_of plain_entry l.rest)) ≡ child_of l.key (items_of plain_entry l.entries))

abbrev pub decreases-entries : goal.decreases-entries
decreases-entries l = length (items_of plain_entry l.rest)
