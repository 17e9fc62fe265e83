use Rattle.std.proofs.Common.{◌++◌, ap, sym, ◌∙◌}
use Rattle.db_io.specs.Lines.{lines_of}
use Rattle.std.proofs.lemmas.Bool.{eqb-true}
use Rattle.std.proofs.lemmas.List.{nil_from_length}
use Rattle.schedule_run.proofs.ShellLemmas.{at_open, open_fault, at_stop, at_more, at_fault, at_end}
use Rattle.schedule_run.proofs.WriteLemmas.{unfaulted}
use Rattle.schedule_run.proofs.shell.run_lines.Goals as goal

pub returns-in-Err-clause-went : goal.returns-in-Err-clause-went
returns-in-Err-clause-went g c = open_fault _ _ _ _ _ _ _ _ _ c.requires c.in-Err.ensures.opening

pub loop-rest-init : goal.loop-rest-init
loop-rest-init g c = record { at = at_open _ _ _ _ _ _ _ _ c.requires c.in-Ok.ensures.opening; faults = unfaulted _ _ _ c.in-Ok.ensures.writes }

pub returns-in-None-clause-went : goal.returns-in-None-clause-went
returns-in-None-clause-went g c = at_stop _ _ _ _ _ _ _ _ _ c.loop-rest.invariant.at

pub loop-rest-preserved : goal.loop-rest-preserved
loop-rest-preserved g c = record {
  at = at_more _ _ _ _ _ _ _ _ _ _ _ _ _ _ _ c.loop-rest.invariant.at c.next_line.ensures.lines c.in-Some.ensures.1 c.in-Ok-run_line.ensures.line;
  faults = unfaulted _ _ _ c.in-Ok-run_line.ensures.writes ∙ c.loop-rest.invariant.faults;
}

pub returns-in-Err-run_line-clause-went : goal.returns-in-Err-run_line-clause-went
returns-in-Err-run_line-clause-went g c =
    at_fault _ _ _ c.next_line.result.1.now c.next_line.result.0.now _ _ _ _ _ _ _ _ _ _ c.in-Err-run_line.fault c.loop-rest.invariant.at c.next_line.ensures.lines c.in-Some.ensures.1 c.in-Err-run_line.ensures.line

pub returns-in-Err-run_line-clause-bad_line : goal.returns-in-Err-run_line-clause-bad_line
returns-in-Err-run_line-clause-bad_line g c e = record {
  earlier = c.loop-rest.invariant.at.earlier;
  line = c.next_line.result.0.now;
  later = lines_of c.next_line.result.1.now;
  at = c.loop-rest.invariant.at.at ∙ ap (λ ls. c.loop-rest.invariant.at.earlier ++ ls) c.next_line.ensures.lines;
  bad = c.in-Err-run_line.ensures.bad_line e;
}

pub returns-in-Some-checked_add-clause-went : goal.returns-in-Some-checked_add-clause-went
returns-in-Some-checked_add-clause-went g c =
    at_end _ _ _ _ _ _ _ _ _ _ _ _ _ c.close.result c.loop-rest.invariant.at
    (nil_from_length _ (eqb-true _ _ (sym c.loop-rest-test.ensures))) c.in-Some-checked_add.ensures.1 c.close.ensures.closing

pub returns-in-None-checked_add-clause-went : goal.returns-in-None-checked_add-clause-went
returns-in-None-checked_add-clause-went g c = at_stop _ _ _ _ _ _ _ _ _ c.loop-rest.invariant.at
