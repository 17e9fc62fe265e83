use Rattle.std.proofs.Common.{◌∙◌, ap, sym}
use Rattle.std.specs.Int.{w64, to_le_bytes}
use Rattle.std.proofs.lemmas.Bool.{eqb-true}
use Rattle.memory_cloud.proofs.common.are_same.Goals as goal

pub returns-then-second-eq8 : goal.returns-then-second-eq8
returns-then-second-eq8 c = λ same.
    sym c.word.ensures ∙ ap (to_le_bytes w64) (eqb-true c.word.result c.word-then-second-eq8.result same) ∙ c.word-then-second-eq8.ensures
