use Rattle.commit_writes.proofs.Within.{went_within}
use Rattle.commit_writes.proofs.End.{took_less}
use Rattle.commit_writes.proofs.Demands.{went_stepped, names_at}
use Rattle.commit_writes.proofs.Refusals.{not_deleting}
use Rattle.commit_writes.proofs.writes.CommitWrites.step.Goals as goal

pub returns-clause-less : goal.returns-clause-less
returns-clause-less g c = took_less c.args.self.now _ c.call-answer.result _ c.call-answer.ensures.sound c.absorb.ensures.took

pub returns-clause-stepped : goal.returns-clause-stepped
returns-clause-stepped g c =
    went_stepped c.args.who _ _ c.args.self.now _ c.call-answer.result _ c.call-answer.ensures.made c.absorb.ensures.memory
    (λ none refusal. c.absorb.ensures.refused (not_deleting c.args.self.now.stage c.args.self.now c.call-answer.ensures.sound none) refusal) c.absorb.ensures.took

pub returns-clause-within : goal.returns-clause-within
returns-clause-within g c = λ home records h went. went_within home records h c.args.self.now went

pub returns-clause-names : goal.returns-clause-names
returns-clause-names g c = names_at c.args.self.now.stage c.args.self.now
