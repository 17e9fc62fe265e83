use Rattle.std.proofs.Common.{◌≡◌, ℕ, sym, ap, ◌∙◌, arith}
use Rattle.tree_phases.specs.Descent.{walk}
use Rattle.tree_phases.proofs.Walking.{walk_more, walk_ended, walk_stopped, walk_stuck}
use Rattle.tree_phases.proofs.descent.Descent.walk.Goals as goal

pub strides-preserved : goal.strides-preserved
strides-preserved c = sym (walk_more c.strides.left c.strides.self _ (omega arith) c.in-More.ensures) ∙ c.strides.invariant

pub returns-in-Ended : goal.returns-in-Ended
returns-in-Ended c = sym c.strides.invariant ∙ walk_ended c.strides.left c.strides.self _ _ c.in-Ended.ensures

pub returns-in-Stopped : goal.returns-in-Stopped
returns-in-Stopped c = sym c.strides.invariant ∙ walk_stopped c.strides.left c.strides.self _ _ c.in-Stopped.ensures

pub returns-in-More-stride : goal.returns-in-More-stride
returns-in-More-stride c =
    let none : c.strides.left ≡ 0 = omega arith in
    sym c.strides.invariant ∙ ap (λ (n : ℕ). walk n c.strides.self) none ∙ walk_stuck c.strides.self _ c.in-More-stride.ensures

pub returns-in-Ended-stride : goal.returns-in-Ended-stride
returns-in-Ended-stride c = sym c.strides.invariant ∙ walk_ended c.strides.left c.strides.self _ _ c.in-Ended-stride.ensures

pub returns-in-Stopped-stride : goal.returns-in-Stopped-stride
returns-in-Stopped-stride c = sym c.strides.invariant ∙ walk_stopped c.strides.left c.strides.self _ _ c.in-Stopped-stride.ensures
