use Rattle.std.proofs.Common.{◌+◌, ◌<◌, ◌^◌, length, subst, arith}
use Rattle.tree_walk.specs.Walk.{Walk, IsWalk, pages, spots}
use Rattle.tree_walk.proofs.End.{moved_less, spots_most}
use Rattle.tree_walk.proofs.Gets.{moved_gets}
use Rattle.tree_walk.proofs.Leaves.{moved_ends}
use Rattle.tree_walk.proofs.Within.{moved_within}
use Rattle.tree_walk.proofs.Stepped.{moved_stepped}
use Rattle.tree_walk.proofs.walk.Walk.step.Goals as goal

pub returns-clause-stepped : goal.returns-clause-stepped
returns-clause-stepped g c =
    moved_stepped c.args.who _ c.args.self.now c.args.cache.now (c.absorb.new.self, c.absorb.new.cache) c.perform-answer.result c.absorb.result _ _ (subst IsWalk c.self.view_is c.self.invariant)
    c.in_hand.ensures c.perform-answer.ensures c.absorb.ensures.moves c.absorb.ensures.served c.absorb.ensures.failed

pub returns-clause-less : goal.returns-clause-less
returns-clause-less g c =
    let nodes : length c.self.inside.nodes.items < 2 ^ 63 = omega (arith, c.self.inside.nodes.ok.0, c.self.inside.nodes.ok.1, c.self.inside.nodes.small) in
    let leaves : length c.self.inside.leaves.items < 2 ^ 63 = omega (arith, c.self.inside.leaves.ok.0, c.self.inside.leaves.ok.1, c.self.inside.leaves.small) in
    let few : (length c.self.inside.nodes.items + length c.self.inside.leaves.items) + spots c.self.inside.spot < 2 ^ 66 = omega (arith, nodes, leaves, spots_most c.self.inside.spot) in
    moved_less (c.args.self.now, c.args.cache.now) (c.absorb.new.self, c.absorb.new.cache) c.perform-answer.result c.absorb.result
    (subst (λ (w : Walk). pages w < 2 ^ 66) c.self.view_is few) c.absorb.ensures.moves

pub returns-clause-ends : goal.returns-clause-ends
returns-clause-ends g c =
    let ok : IsWalk c.args.self.now = subst IsWalk c.self.view_is c.self.invariant in
    λ page ended. moved_ends (c.args.self.now, c.args.cache.now) (c.absorb.new.self, c.absorb.new.cache) c.perform-answer.result c.absorb.result page ok c.absorb.ensures.moves ended

pub returns-clause-within : goal.returns-clause-within
returns-clause-within g c = λ h went.
    moved_within h c.args.self.now c.args.cache.now (c.absorb.new.self, c.absorb.new.cache) c.perform-answer.result c.absorb.result went c.absorb.ensures.moves

pub returns-clause-gets : goal.returns-clause-gets
returns-clause-gets g c = moved_gets (c.args.self.now, c.args.cache.now) (c.absorb.new.self, c.absorb.new.cache) c.perform-answer.result c.absorb.result c.absorb.ensures.moves
