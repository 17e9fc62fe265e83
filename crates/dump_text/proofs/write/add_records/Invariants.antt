use Rattle.std.proofs.Common.{◌≡◌, ◌++◌, length}
use Rattle.std.specs.String.{string_bytes}
use Rattle.dump_text.specs.Text.{record_lines}
use Rattle.dump_text.proofs.write.add_records.Given as goal

abbrev pub invariant-loop-stored : goal.invariant-loop-stored
invariant-loop-stored l = string_bytes l.text ++ record_lines l.left ≡ string_bytes l.fn.text ++ record_lines l.fn.records

abbrev pub decreases-loop-stored : goal.decreases-loop-stored
decreases-loop-stored l = length l.left
