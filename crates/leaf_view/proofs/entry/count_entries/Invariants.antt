use Rattle.std.proofs.Common.{◌≡◌, ◌+◌, ◌<◌, length}
use Rattle.byte_format.specs.Plain.{items_in, IsListed}
use Rattle.leaf_view.specs.Leaf.{plain_entry}
use Rattle.leaf_view.proofs.entry.count_entries.Given as goal

abbrev pub invariant-loop-rest : goal.invariant-loop-rest
invariant-loop-rest l = record {
  listed : IsListed (plain_entry l.format) l.left;
  counted : l.count + length (items_in (plain_entry l.format) l.left) ≡ length (items_in (plain_entry l.format) l.bytes);
  small : length (items_in (plain_entry l.format) l.bytes) < length l.bytes;
}

abbrev pub decreases-loop-rest : goal.decreases-loop-rest
decreases-loop-rest l = length (items_in (plain_entry l.format) l.left)
