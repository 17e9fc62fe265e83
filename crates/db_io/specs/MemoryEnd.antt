-- A source or a sink in memory: what it holds, and which of its calls fail.
use Rattle.std.specs.Prelude.{◌≡◌, ℕ, ◌+◌, ◌⊎◌, List, Contains, Some, Result, Ok, Err}
use Rattle.db_io.specs.Content.{Told}
use Rattle.db_io.specs.Writes.{Written}
use Rattle.db_io.specs.declared.fault.IoFault.{IoFault}
use Rattle.db_io.specs.declared.fault.IoFault.TheVariants.{Failed, Memory}

-- what it holds, the numbers of the calls that fail, how many calls and how many faults there were
pub record MemoryEnd (Content : Type 0) : Type 0 where
  pub content : Content
  pub failing : List ℕ
  pub calls : ℕ
  pub faults : ℕ

-- a source holds the bytes that it has left, and tells them
abbrev pub told_by : MemoryEnd (List ℕ) → Told
told_by e = record { content = Some e.content; faults = e.faults }

-- a sink holds the writes that were made to it, and tells them
abbrev pub written_by : MemoryEnd (List (List ℕ)) → Written
written_by e = record { writes = Some e.content; faults = e.faults }

-- the failing numbers stay, and one call more was made
pub record Counted {Content : Type 0} (old new : MemoryEnd Content) : Type 0 where
  pub failing : new.failing ≡ old.failing
  pub calls : new.calls ≡ old.calls + 1

-- a call fails exactly where its number is one of those that fail; at want of memory it is none of them, or nothing changed
abbrev pub FailsByNumber : {A Content : Type 0} → Result A IoFault → MemoryEnd Content → MemoryEnd Content → Type 0
FailsByNumber (Ok answer) old new = Counted old new × (Contains old.failing (old.calls + 1) → ⊥)
FailsByNumber (Err Failed) old new = Counted old new × Contains old.failing (old.calls + 1)
FailsByNumber (Err Memory) old new = (Counted old new × (Contains old.failing (old.calls + 1) → ⊥)) ⊎ (new ≡ old)
