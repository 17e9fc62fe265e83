use Rattle.tree_ckpt.proofs.End.{took_less}
use Rattle.tree_ckpt.proofs.Leading.{took_handed}
use Rattle.tree_ckpt.proofs.Stepped.{stepped_by}
use Rattle.tree_ckpt.proofs.Leases.{went_stands, stands_names, stands_gives}
use Rattle.tree_ckpt.proofs.checkpoint.TreeCkpt.step.Goals as goal

pub returns-clause-steps : goal.returns-clause-steps
returns-clause-steps g c =
    stepped_by c.args.who (g.C.Cloud.seen c.args.cloud.now) _ c.args.self.now _ _ c.call-answer.result c.call-answer.ensures.made
    (took_handed c.args.self.now _ _ c.call-answer.result _ c.call-answer.ensures.left c.absorb.ensures.took) c.absorb.ensures.memory

pub returns-clause-less : goal.returns-clause-less
returns-clause-less g c = λ more.
    took_less c.args.self.now _ c.call-answer.result _ c.call-answer.ensures.made.fits (c.absorb.ensures.short more)
    (took_handed c.args.self.now _ _ c.call-answer.result _ c.call-answer.ensures.left c.absorb.ensures.took) more

pub returns-clause-leases : goal.returns-clause-leases
returns-clause-leases g c = λ h went. (went_stands c.args.self.now h went).held

pub returns-clause-names : goal.returns-clause-names
returns-clause-names g c = λ h went. stands_names c.args.self.now h (went_stands c.args.self.now h went)

pub returns-clause-gives_back : goal.returns-clause-gives_back
returns-clause-gives_back g c = λ h went.
    stands_gives c.args.self.now _ h c.call-answer.result _ (went_stands c.args.self.now h went) c.call-answer.ensures.made.fits
    (took_handed c.args.self.now _ _ c.call-answer.result _ c.call-answer.ensures.left c.absorb.ensures.took)
