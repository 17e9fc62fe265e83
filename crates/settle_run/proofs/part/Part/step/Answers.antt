use Rattle.settle_run.proofs.End.{recovery_less, making_less, paging_less}
use Rattle.settle_run.proofs.Stepped.{recovery_steps, making_steps, paging_steps}
use Rattle.settle_run.proofs.part.Part.step.Goals as goal

pub returns-in-Client-clause-steps : goal.returns-in-Client-clause-steps
returns-in-Client-clause-steps g c =
    recovery_steps c.in-Client.field-0 _ _ _ c.in-Client.machine _ _ _ _ c.in-Client.is c.recovered_turn.ensures c.step.ensures.steps

pub returns-in-Client-clause-less : goal.returns-in-Client-clause-less
returns-in-Client-clause-less g c = λ h went.
    recovery_less c.in-Client.field-0 c.in-Client.machine c.step.new.self c.step.result c.args.self.now c.recovered_turn.result
    c.in-Client.is c.recovered_turn.ensures c.step.ensures.less

pub returns-in-Tree-clause-steps : goal.returns-in-Tree-clause-steps
returns-in-Tree-clause-steps g c =
    making_steps c.in-Tree.field-0 _ _ _ c.in-Tree.machine _ _ _ _ c.in-Tree.is c.left_turn.ensures c.step-in-Tree.ensures.steps

pub returns-in-Tree-clause-less : goal.returns-in-Tree-clause-less
returns-in-Tree-clause-less g c = λ h went.
    making_less c.in-Tree.field-0 c.in-Tree.machine c.step-in-Tree.new.self c.step-in-Tree.result c.args.self.now c.left_turn.result
    c.in-Tree.is c.left_turn.ensures c.step-in-Tree.ensures.less

pub returns-in-Page-clause-steps : goal.returns-in-Page-clause-steps
returns-in-Page-clause-steps g c =
    paging_steps c.in-Page.field-0 c.in-Page.field-1 _ _ _ c.in-Page.machine _ _ _ _ c.in-Page.is c.left_turn-in-Page.ensures c.step-in-Page.ensures.steps

pub returns-in-Page-clause-less : goal.returns-in-Page-clause-less
returns-in-Page-clause-less g c = λ h went.
    paging_less c.in-Page.field-0 c.in-Page.field-1 c.in-Page.machine c.step-in-Page.new.self c.step-in-Page.result c.args.self.now
    c.left_turn-in-Page.result c.in-Page.is c.left_turn-in-Page.ensures c.step-in-Page.ensures.less
