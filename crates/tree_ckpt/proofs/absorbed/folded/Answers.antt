use Rattle.std.proofs.Common.{subst, [], ◌∷◌}
use Rattle.cloud_trait.specs.Claim.{Claim}
use Rattle.tree_phases.specs.Folding.{folding_next}
use Rattle.tree_ckpt.specs.Moves.{MovesOn, folding_on}
use Rattle.tree_ckpt.proofs.absorbed.folded.Goals as goal

pub returns : goal.returns
returns c =
    subst (λ (l : Claim). MovesOn (folding_on c.args.held (folding_next c.args.folding c.args.answer)) (l ∷ c.args.held.lease ∷ []) c.fold_on.result)
    c.absorb-pace.ensures.lease (c.fold_on.ensures _ c.absorb-pace.ensures.went)
