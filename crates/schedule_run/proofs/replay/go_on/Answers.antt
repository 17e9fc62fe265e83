use Rattle.std.proofs.Common.{refl, ◌∙◌, rules, tests}
use Rattle.schedule_run.proofs.GoingLemmas.{at_start, at_end, at_stop, at_more, at_fault}
use Rattle.schedule_run.proofs.WriteLemmas.{unfaulted}
use Rattle.schedule_run.proofs.replay.go_on.Goals as goal

-- src/replay.rt:71:5
pub loop-rest-init : goal.loop-rest-init
loop-rest-init g c = record { at = at_start _ _ _ _ c.requires.fresh; faults = refl }

-- src/replay.rt:75:21
pub returns-in-None-clause-went : goal.returns-in-None-clause-went
returns-in-None-clause-went g c = at_stop _ _ _ _ _ _ _ _ _ c.requires.fresh c.loop-rest.invariant.at

-- src/replay.rt:71:5
pub loop-rest-preserved : goal.loop-rest-preserved
loop-rest-preserved g c = record {
  at = at_more _ _ _ _ _ _ _ _ _ _ _ _ _ _ _ c.loop-rest.invariant.at c.next_line.ensures.lines c.in-Some.ensures.1 c.in-Ok.ensures.went c.in-Ok.ensures.grows;
  faults = unfaulted _ _ _ c.in-Ok.ensures.writes ∙ c.loop-rest.invariant.faults;
}

-- src/replay.rt:79:27
pub returns-in-Err-clause-went : goal.returns-in-Err-clause-went
returns-in-Err-clause-went g c =
    at_fault _ _ c.next_line.result.1.now c.next_line.result.0.now _ _ _ _ _ _ _ _ _ _ c.replay_line.new.world c.in-Err.fault c.requires.fresh c.loop-rest.invariant.at c.next_line.ensures.lines c.in-Some.ensures.1 c.in-Err.ensures.went c.in-Err.ensures.grows

-- src/replay.rt:50:1
pub returns-clause-went : goal.returns-clause-went
returns-clause-went g c = at_end _ _ _ _ _ _ _ _ _ c.requires.fresh c.loop-rest.invariant.at (search (rules, tests))
