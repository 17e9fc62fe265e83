-- What stops a report of a tree that is not damaged.
use Rattle.std.specs.Prelude.{◌≡◌, ◌⊎◌}
use Rattle.db_base.specs.declared.trouble.Trouble.{Trouble}
use Rattle.db_base.specs.declared.trouble.Trouble.TheVariants.{Failed, Memory}

-- a look failed, or memory ran out
abbrev pub IsSlip : Trouble → Type 0
IsSlip trouble = (trouble ≡ Failed) ⊎ (trouble ≡ Memory)
