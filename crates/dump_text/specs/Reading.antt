-- What a reading answers.
use Rattle.std.specs.Prelude.{◌≡◌, List, Result, Ok, Err}
use Rattle.dump_text.specs.declared.dump.Dump.{Dump}
use Rattle.dump_text.specs.declared.dump.DumpedTree.{DumpedTree}
use Rattle.dump_text.specs.declared.fault.DumpFault.{DumpFault}
use Rattle.dump_text.specs.declared.fault.DumpFault.TheVariants.{BadLine, Memory}

-- the dump is read, unless memory runs out
abbrev pub IsReadTo : Result Dump DumpFault → List DumpedTree → Type 0
IsReadTo (Ok d) trees = d.trees ≡ trees
IsReadTo (Err (BadLine n)) trees = ⊥
IsReadTo (Err Memory) trees = Unit {0}
