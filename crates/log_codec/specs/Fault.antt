-- What a read of a record answers.
use Rattle.std.specs.Prelude.{◌≡◌, ℕ, Option, Some, None, Result, Ok, Err}
use Rattle.log_codec.specs.declared.fault.RecFault.{RecFault}
use Rattle.log_codec.specs.declared.fault.RecFault.TheVariants.{NotRecord, Memory}

-- the value, unless memory ran out
abbrev pub Answers : {A : Type 0} → Result A RecFault → A → Type 0
Answers (Ok v) value = v ≡ value
Answers (Err (NotRecord offset)) value = ⊥
Answers (Err Memory) value = Unit {0}

-- what a decoder gives, unless memory ran out
abbrev pub Decodes : {A : Type 0} → Result A RecFault → Option A → Type 0
Decodes (Ok v) value = value ≡ Some v
Decodes (Err (NotRecord offset)) value = value ≡ None
Decodes (Err Memory) value = Unit {0}

-- a refusal names this place
abbrev pub IsAt : RecFault → ℕ → Type 0
IsAt (NotRecord offset) place = offset ≡ place
IsAt Memory place = Unit {0}
