use Rattle.std.proofs.Common.{ℕ, refl, subst}
use Rattle.cloud_trait.specs.declared.turn.Turn.{Turn}
use Rattle.tree_walk.specs.Moves.{Moves}
use Rattle.tree_walk.specs.Walk.{walk_ready}
use Rattle.client_work.proofs.reading.begin_reading.Goals as goal

pub returns-in-More : goal.returns-in-More
returns-in-More c =
    let At : Turn ℕ → Type 0 = Moves (walk_ready (c.args.read, c.args.cache.now)) (c.ready.new.self, c.ready.new.cache) in
    (c.ready.new.self, subst At c.in-More.is c.ready.ensures.moves, refl, refl)

pub returns-in-Ended : goal.returns-in-Ended
returns-in-Ended c =
    let At : Turn ℕ → Type 0 = Moves (walk_ready (c.args.read, c.args.cache.now)) (c.ready.new.self, c.ready.new.cache) in
    (c.ready.new.self, _, subst At c.in-Ended.is c.ready.ensures.moves, refl, refl)

pub returns-in-Stopped : goal.returns-in-Stopped
returns-in-Stopped c =
    let At : Turn ℕ → Type 0 = Moves (walk_ready (c.args.read, c.args.cache.now)) (c.ready.new.self, c.ready.new.cache) in
    (c.ready.new.self, subst At c.in-Stopped.is c.ready.ensures.moves, c.stopped.ensures, refl)
