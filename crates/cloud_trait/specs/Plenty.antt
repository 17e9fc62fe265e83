-- Calls for which there was memory.
use Rattle.std.specs.Prelude.{◌≢◌, List, [], ◌∷◌}
use Rattle.cloud_trait.specs.declared.answer.Answer.TheVariants.{Memory}
use Rattle.cloud_trait.specs.Machine.{Deed}

-- none of these calls was answered for want of memory
abbrev pub HadMemory : List Deed → Type 0
HadMemory [] = Unit {0}
HadMemory (d ∷ h) = (d.answer ≢ Memory) × HadMemory h
