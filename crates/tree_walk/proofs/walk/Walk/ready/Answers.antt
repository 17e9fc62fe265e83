use Rattle.std.proofs.Common.{ap, subst}
use Rattle.tree_walk.specs.Moves.{Moves}
use Rattle.tree_walk.specs.Walk.{Walk, rested, goes_on}
use Rattle.tree_walk.proofs.Stepped.{left_on, same_on}
use Rattle.tree_walk.proofs.Turns.{beside_took, moves_beside}
use Rattle.tree_walk.proofs.walk.Walk.ready.Goals as goal

pub returns-clause-moves : goal.returns-clause-moves
returns-clause-moves c =
    beside_took (goes_on c.args.cache.now (rested c.args.self.now), c.args.cache.now) c.go_on-turn.new.self c.args.cache.now c.leave.new.cache c.go_on-turn.result
    (moves_beside (goes_on c.args.cache.now (rested c.args.self.now)) c.go_on-turn.new.self c.args.cache.now c.go_on-turn.result
    (subst (λ (w : Walk). Moves (goes_on c.args.cache.now w) c.go_on-turn.new.self c.go_on-turn.result) (ap rested c.self.view_is) c.go_on-turn.ensures))
    c.leave.ensures

pub returns-clause-served : goal.returns-clause-served
returns-clause-served c = left_on c.go_on-turn.new.self c.args.cache.now c.args.cache.now c.leave.new.cache _ (same_on c.args.cache.now) c.leave.ensures
