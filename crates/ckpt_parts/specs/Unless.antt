-- Want of memory, beside which a clause says what a call answers.
use Rattle.std.specs.Prelude.{Result, Ok, Err}
use Rattle.db_base.specs.declared.trouble.Trouble.{Trouble}
use Rattle.ckpt_parts.specs.declared.fault.Fault.{Fault}
use Rattle.ckpt_parts.specs.declared.fault.Fault.TheVariants.{Stops, Memory}

-- the answer is such, unless memory ran out
abbrev pub UnlessMemory : {A : Type 0} → (Result A Trouble → Type 0) → Result A Fault → Type 0
UnlessMemory Says (Ok x) = Says (Ok x)
UnlessMemory Says (Err (Stops t)) = Says (Err t)
UnlessMemory Says (Err Memory) = Unit {0}
