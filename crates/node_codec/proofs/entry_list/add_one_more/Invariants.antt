use Rattle.std.proofs.Common.{length}
use Rattle.byte_format.specs.Whole.{IsBytes}
use Rattle.node_codec.specs.Node.{plain_entry}
use Rattle.node_codec.specs.Plain.{items_of, IsWholeList}
use Rattle.node_codec.proofs.EntryLemmas.{IsAddedTo}
use Rattle.node_codec.proofs.entry_list.add_one_more.Given as goal

abbrev pub invariant-entries : goal.invariant-entries
invariant-entries l = IsBytes l.rest × IsWholeList plain_entry l.rest × IsAddedTo l.low l.page (items_of plain_entry l.entries) l.out.items (items_of plain_entry l.rest)

abbrev pub decreases-entries : goal.decreases-entries
decreases-entries l = length (items_of plain_entry l.rest)
