use Rattle.std.proofs.Common.{◌≡◌, take}
use Rattle.std.specs.Prelude.{fold}
use Rattle.range_scan.specs.Pairs.{IsAscending, with_noted}
use Rattle.range_scan.proofs.items.Items.add_buffered.Given as goal

abbrev pub invariant-loop-i : goal.invariant-loop-i
invariant-loop-i l = record { added : l.self ≡ fold (with_noted l.sight) l.initial.self (take l.i l.buffer); ascending : IsAscending l.self }
