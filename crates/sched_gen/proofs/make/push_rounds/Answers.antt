use Rattle.std.proofs.Common.{◌+◌, ◌-◌, ◌++◌, List, sym, ap, ◌∙◌, append_assoc, append-nil, arith}
use Rattle.event_text.specs.declared.event.Event.{Event}
use Rattle.sched_gen.specs.Schedule.{round_events, state_after, rounds}
use Rattle.sched_gen.proofs.Rounds.{rounds_step, rounds_end}
use Rattle.sched_gen.proofs.make.push_rounds.Goals as goal

pub loop-round-preserved : goal.loop-round-preserved
loop-round-preserved c =
    let round = c.loop-round.round in
    let count = c.args.count in
    let before = c.loop-round.events.items in
    let step = rounds_step count round c.loop-round.draws (omega arith) in
    let left = rounds (count + 1 - (round + 1)) (round + 1) (state_after round c.loop-round.draws) in
    rw (c.in_ok-push_round.ensures.ok, c.in_ok-push_round.ensures.state)
    (append_assoc before (round_events round c.loop-round.draws) left ∙ ap (λ (t : List Event). before ++ t) (sym step) ∙ c.loop-round.invariant)

pub returns-clause-ok : goal.returns-clause-ok
returns-clause-ok c =
    let before = c.loop-round.events.items in
    let none = rounds_end c.args.count c.loop-round.round c.loop-round.draws (omega arith) in
    sym (append-nil before) ∙ ap (λ (t : List Event). before ++ t) (sym none) ∙ c.loop-round.invariant
