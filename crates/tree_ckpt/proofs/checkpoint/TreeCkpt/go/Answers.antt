use Rattle.std.proofs.Common.{refl, subst}
use Rattle.tree_ckpt.specs.contracts.checkpoint.TreeCkpt.{the_view}
use Rattle.tree_ckpt.specs.Making.{Making, with_work, WentBy}
use Rattle.tree_ckpt.proofs.checkpoint.TreeCkpt.go.Goals as goal

pub returns-clause-went : goal.returns-clause-went
returns-clause-went c =
    subst (λ (old : Making). WentBy old c.args.answer (with_work (the_view c.self.inside) c.absorbed-turn.new.place) c.absorbed-turn.result)
    c.self.view_is (refl, c.absorbed-turn.ensures)
