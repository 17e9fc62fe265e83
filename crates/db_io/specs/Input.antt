-- What the reading of a whole input comes to.
use Rattle.std.specs.Prelude.{◌≡◌, ℕ, ◌<◌, ◌≤◌, List, length, Some, Result, Ok, Err}
use Rattle.db_io.specs.Content.{Told, Takes}
use Rattle.db_io.specs.declared.fault.IoFault.{IoFault}
use Rattle.db_io.specs.declared.fault.IoFault.TheVariants as io
use Rattle.db_io.specs.declared.input.InputFault.{InputFault}
use Rattle.db_io.specs.declared.input.InputFault.TheVariants.{ReadFault, TooLong, Memory}

-- the fault of an input whose read had this fault
abbrev pub input_fault : IoFault → InputFault
input_fault io.Failed = ReadFault
input_fault io.Memory = Memory

-- the bytes that were read are all that was told to be left
abbrev pub AreAll : Told → List ℕ → Type 0
AreAll before bytes = (all : List ℕ) → before.content ≡ Some all → all ≡ bytes

-- what an answer says of the bytes that were read, and of the source before and after, where an input has at most so many bytes
abbrev pub Tells : ℕ → Result (List ℕ) InputFault → Told → Told → List ℕ → Type 0
Tells limit (Ok input) before after bytes =
    (input ≡ bytes) × (length bytes ≤ limit) × AreAll before bytes × (after.faults ≡ before.faults)
Tells limit (Err TooLong) before after bytes = (limit < length bytes) × (after.faults ≡ before.faults)
Tells limit (Err ReadFault) before after bytes = (length bytes ≤ limit) × (before.faults < after.faults)
Tells limit (Err Memory) before after bytes = (length bytes ≤ limit) × (after.faults ≡ before.faults)

-- an input of at most so many bytes was read: some bytes, which came from the source, and an answer that tells of them. So it
-- was too long exactly where more bytes were read, and a read failed exactly where the count of faults rose
pub record WasRead (limit : ℕ) (before after : Told) (answer : Result (List ℕ) InputFault) : Type 0 where
  pub bytes : List ℕ
  pub taken : Takes before after bytes
  pub tells : Tells limit answer before after bytes
