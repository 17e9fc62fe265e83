use Rattle.reply_reading.specs.Counted.{stored_by}
use Rattle.reply_reading.proofs.Steps.{passed_on}
use Rattle.reply_reading.proofs.CountedLaws.{loop_more, loop_short, loop_bad, loop_end}
use Rattle.reply_reading.proofs.read_report.records_at.Goals as goal

pub returns-in_err-line : goal.returns-in_err-line
returns-in_err-line c =
    passed_on c.from_residual.result c.in_err-line.field-0.0 _ c.from_residual.ensures.1
    (loop_short stored_by c.loop-missing.records c.loop-missing.left c.loop-missing.missing _ c.loop-missing.invariant c.in_err-line.field-0.0 c.loop-missing-test.true c.in_err-line.ensures.value)

pub returns-in_err-stored : goal.returns-in_err-stored
returns-in_err-stored c =
    passed_on c.from_residual-in_err-stored.result c.in_err-stored.field-0.0 _ c.from_residual-in_err-stored.ensures.1
    (loop_bad stored_by c.loop-missing.records c.loop-missing.left c.loop-missing.missing _ c.loop-missing.invariant c.in_err-stored.field-0.0 c.in_ok-line.line.now c.in_ok-line.rest c.loop-missing-test.true c.in_ok-line.ensures.value (rw c.of.ensures at c.in_err-stored.ensures))

pub loop-missing-preserved : goal.loop-missing-preserved
loop-missing-preserved c =
    loop_more stored_by c.loop-missing.records c.loop-missing.left c.loop-missing.missing _ c.loop-missing.invariant c.push.new.self c.in_ok-line.line.now c.in_ok-line.rest c.in_ok-stored.stored c.loop-missing-test.true c.in_ok-line.ensures.value (rw c.of.ensures at c.in_ok-stored.ensures) c.in_ok-push.ensures.ok

pub returns : goal.returns
returns c = loop_end stored_by c.loop-missing.records c.loop-missing.left c.loop-missing.missing _ c.loop-missing.invariant c.loop-missing-test.false
