use Rattle.commit_run.proofs.Hands.{begins_held}
use Rattle.commit_run.proofs.draft.Draft.walk_to.Goals as goal

pub begun-requires : goal.begun-requires
begun-requires c =
    begins_held c.args.first c.args.self.now c.args.to c.new-walk.result c.ready-turn.new.self c.args.cache.now c.ready-turn.new.cache c.ready-turn.result c.new-walk.ensures c.ready-turn.ensures.moves
    c.requires.attempt c.requires.within c.requires.aimed
