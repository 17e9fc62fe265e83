use Rattle.std.proofs.Common.{◌≡◌, ◌-◌, suc, ap, sym, ◌∙◌, arith}
use Rattle.cloud_trait.specs.Machine.{Goes}
use Rattle.tree_walk.proofs.Turns.{through_more, through_stopped, through_none, through_end}
use Rattle.tree_walk.proofs.walk.Walk.go_on.Goals as goal

pub loop-left-preserved : goal.loop-left-preserved
loop-left-preserved c =
    let is : c.loop-left.left ≡ suc (c.loop-left.left - 1) = omega (arith, c.loop-left-test.true) in
    through_more c.args.cache.now c.loop-left.left (c.loop-left.left - 1) c.loop-left.self c.read_kept.new.self is (rw c.in-Some-More.field-0-is at c.in-Some-More.ensures) ∙ c.loop-left.invariant

pub returns-in-Some-Stopped : goal.returns-in-Some-Stopped
returns-in-Some-Stopped c =
    let is : c.loop-left.left ≡ suc (c.loop-left.left - 1) = omega (arith, c.loop-left-test.true) in
    λ other. sym c.loop-left.invariant ∙ through_stopped c.args.cache.now c.loop-left.left (c.loop-left.left - 1) c.loop-left.self c.read_kept.new.self c.in-Some-Stopped.trouble is (rw c.in-Some-Stopped.field-0-is at c.in-Some-Stopped.ensures) other

pub returns-in-None : goal.returns-in-None
returns-in-None c =
    let is : c.loop-left.left ≡ suc (c.loop-left.left - 1) = omega (arith, c.loop-left-test.true) in
    sym c.loop-left.invariant ∙ through_none c.args.cache.now c.loop-left.left (c.loop-left.left - 1) c.loop-left.self is c.in-None.ensures.0 ∙ ap Goes (sym c.in-None.ensures.1)

pub returns : goal.returns
returns c = sym c.loop-left.invariant ∙ through_end c.args.cache.now c.loop-left.left c.loop-left.self (omega (arith, c.loop-left-test.false))
