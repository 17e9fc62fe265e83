-- A machine's way from its begin, while nobody else acts and each call is answered.
use Rattle.std.specs.Prelude.{◌≢◌, List, [], ◌∷◌}
use Rattle.cloud_trait.specs.declared.answer.Answer.TheVariants.{Failed, Memory}
use Rattle.cloud_trait.specs.Machine.{Deed}

-- none of the calls failed or found no memory
abbrev pub AreAnswered : List Deed → Type 0
AreAnswered [] = Unit {0}
AreAnswered (d ∷ h) = ((d.answer ≢ Failed) × (d.answer ≢ Memory)) × AreAnswered h
