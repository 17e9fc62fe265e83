use Rattle.std.proofs.Common.{◌≡◌, subst}
use Rattle.std.specs.Prelude.{OnOk}
use Rattle.tree_ckpt.specs.Making.{with_received}
use Rattle.tree_ckpt.proofs.Leading.{took_noted}
use Rattle.tree_ckpt.proofs.checkpoint.TreeCkpt.absorb.Goals as goal

pub returns-in-Ok-clause-took : goal.returns-in-Ok-clause-took
returns-in-Ok-clause-took c =
    let noted = subst (λ (r : _). OnOk r (c.note.new.self ≡ with_received c.args.self.now c.args.answer)) c.in-Ok.is c.note.ensures.ok in
    took_noted c.args.self.now _ _ c.args.answer _ noted c.go.ensures.went
