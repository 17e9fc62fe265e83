use Rattle.std.proofs.Common.{ℕ, List, ap, subst}
use Rattle.std.specs.Prelude.{Option, Result}
use Rattle.db_base.specs.declared.trouble.Trouble.{Trouble}
use Rattle.cloud_trait.specs.Views.{got_of}
use Rattle.tree_walk.specs.Moves.{MovesBeside}
use Rattle.tree_walk.specs.Walk.{Walk, rested, got_by}
use Rattle.tree_walk.proofs.Stepped.{left_on}
use Rattle.tree_walk.proofs.Turns.{beside_took}
use Rattle.tree_walk.proofs.walk.Walk.absorb.Goals as goal

pub returns-clause-moves : goal.returns-clause-moves
returns-clause-moves c =
    beside_took (got_by (rested c.args.self.now) c.args.cache.now (got_of c.args.answer)) c.take-turn.new.self c.take-turn.new.cache c.leave.new.cache c.take-turn.result
    (subst (λ (g : Result (Option (List ℕ)) Trouble). MovesBeside (got_by (rested c.args.self.now) c.args.cache.now g) c.take-turn.new.self c.take-turn.new.cache c.take-turn.result) c.got.ensures
    (subst (λ (w : Walk). MovesBeside (got_by w c.args.cache.now c.got.result) c.take-turn.new.self c.take-turn.new.cache c.take-turn.result) (ap rested c.self.view_is) c.take-turn.ensures.moves))
    c.leave.ensures

pub returns-clause-served : goal.returns-clause-served
returns-clause-served c = left_on c.take-turn.new.self c.args.cache.now c.take-turn.new.cache c.leave.new.cache _ c.take-turn.ensures.served c.leave.ensures
