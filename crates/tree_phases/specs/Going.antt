-- What the work between two calls finds, and how a phase goes on.
use Rattle.std.specs.Prelude.{◌≡◌, Result, Ok, Err}
use Rattle.db_base.specs.declared.trouble.Trouble.{Trouble}
use Rattle.cloud_trait.specs.Machine.{Next, Goes, Ends, Stops}
use Rattle.ckpt_parts.specs.declared.fault.Fault.{Fault}
use Rattle.ckpt_parts.specs.declared.fault.Fault.TheVariants as fault
use Rattle.tree_phases.specs.declared.pace.Pace.{Pace}
use Rattle.tree_phases.specs.declared.pace.Pace.TheVariants as pace

-- the code found what there is to find, or memory ran out
abbrev pub Finds : {A : Type 0} → Result A Fault → Result A Trouble → Type 0
Finds (Ok a) wanted = wanted ≡ Ok a
Finds (Err (fault.Stops t)) wanted = wanted ≡ Err t
Finds (Err fault.Memory) wanted = Unit {0}

-- this holds of whatever was found so
abbrev pub IfFinds : {A : Type 0} → Result A Fault → (Result A Trouble → Type 0) → Type 0
IfFinds {A} found holds = (wanted : Result A Trouble) → Finds found wanted → holds wanted

-- a phase went where its step leads, or memory ran out
abbrev pub Went : {M A : Type 0} → Next M A → M → Pace A → Type 0
Went next new pace.More = next ≡ Goes new
Went next new (pace.Ended a) = next ≡ Ends new a
Went next new (pace.Stopped t) = next ≡ Stops new t
Went next new pace.Memory = Unit {0}
