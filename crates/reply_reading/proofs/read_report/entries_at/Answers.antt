use Rattle.reply_reading.specs.Counted.{entry_by}
use Rattle.reply_reading.proofs.Steps.{passed_on}
use Rattle.reply_reading.proofs.CountedLaws.{loop_more, loop_short, loop_bad, loop_end}
use Rattle.reply_reading.proofs.read_report.entries_at.Goals as goal

pub returns-in_err-line : goal.returns-in_err-line
returns-in_err-line c =
    passed_on c.from_residual.result c.in_err-line.field-0.0 _ c.from_residual.ensures.1
    (loop_short (entry_by c.args.tree) c.loop-missing.entries c.loop-missing.left c.loop-missing.missing _ c.loop-missing.invariant c.in_err-line.field-0.0 c.loop-missing-test.true c.in_err-line.ensures.value)

pub returns-in_err-entry : goal.returns-in_err-entry
returns-in_err-entry c =
    passed_on c.from_residual-in_err-entry.result c.in_err-entry.field-0.0 _ c.from_residual-in_err-entry.ensures.1
    (loop_bad (entry_by c.args.tree) c.loop-missing.entries c.loop-missing.left c.loop-missing.missing _ c.loop-missing.invariant c.in_err-entry.field-0.0 c.in_ok-line.line.now c.in_ok-line.rest c.loop-missing-test.true c.in_ok-line.ensures.value (rw c.of.ensures at c.in_err-entry.ensures))

pub loop-missing-preserved : goal.loop-missing-preserved
loop-missing-preserved c =
    loop_more (entry_by c.args.tree) c.loop-missing.entries c.loop-missing.left c.loop-missing.missing _ c.loop-missing.invariant c.push.new.self c.in_ok-line.line.now c.in_ok-line.rest c.in_ok-entry.entry c.loop-missing-test.true c.in_ok-line.ensures.value (rw c.of.ensures at c.in_ok-entry.ensures) c.in_ok-push.ensures.ok

pub returns : goal.returns
returns c = loop_end (entry_by c.args.tree) c.loop-missing.entries c.loop-missing.left c.loop-missing.missing _ c.loop-missing.invariant c.loop-missing-test.false
