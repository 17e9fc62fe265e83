-- What the writing of a text comes to.
use Rattle.std.specs.Prelude.{◌≡◌, ℕ, ◌<◌, List, Result, Ok, Err}
use Rattle.db_io.specs.Writes.{Written, AddsOne, AddsPart}
use Rattle.db_io.specs.declared.fault.IoFault.{IoFault}
use Rattle.db_io.specs.declared.fault.IoFault.TheVariants as io
use Rattle.db_io.specs.declared.output.OutputFault.{OutputFault}
use Rattle.db_io.specs.declared.output.OutputFault.TheVariants.{WriteFault, Memory}

-- the fault of a text whose write had this fault
abbrev pub output_fault : IoFault → OutputFault
output_fault io.Failed = WriteFault
output_fault io.Memory = Memory

-- a text was written in one write, or at a fault a prefix of it in at most one; the count of faults rose exactly where writing failed
abbrev pub WasWritten : Written → Written → List ℕ → Result (Unit {0}) OutputFault → Type 0
WasWritten before after text (Ok done) = AddsOne before after text × (after.faults ≡ before.faults)
WasWritten before after text (Err WriteFault) = AddsPart before after text × (before.faults < after.faults)
WasWritten before after text (Err Memory) = AddsPart before after text × (after.faults ≡ before.faults)
