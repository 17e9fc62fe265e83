-- What a read of a head answers.
use Rattle.std.specs.Prelude.{◌≡◌, ℕ, Option, Some, None, Result, Ok, Err}
use Rattle.head_codec.specs.declared.head.Head.{Head}
use Rattle.head_codec.specs.declared.head.HeadFault.{HeadFault}
use Rattle.head_codec.specs.declared.head.HeadFault.TheVariants.{NotHead, Exhausted, Memory}

-- the head, unless memory ran out
abbrev pub Answers : Result Head HeadFault → Head → Type 0
Answers (Ok h) value = h ≡ value
Answers (Err (NotHead offset)) value = ⊥
Answers (Err Exhausted) value = ⊥
Answers (Err Memory) value = Unit {0}

-- what the decoder gives, unless memory ran out
abbrev pub Decodes : Result Head HeadFault → Option Head → Type 0
Decodes (Ok h) value = value ≡ Some h
Decodes (Err (NotHead offset)) value = value ≡ None
Decodes (Err Exhausted) value = ⊥
Decodes (Err Memory) value = Unit {0}

-- a refusal names this place
abbrev pub IsAt : HeadFault → ℕ → Type 0
IsAt (NotHead offset) place = offset ≡ place
IsAt Exhausted place = ⊥
IsAt Memory place = Unit {0}
