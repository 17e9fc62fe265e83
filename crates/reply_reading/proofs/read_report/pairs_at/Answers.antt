use Rattle.reply_reading.specs.Counted.{pair_by}
use Rattle.reply_reading.proofs.Steps.{passed_on}
use Rattle.reply_reading.proofs.CountedLaws.{loop_more, loop_short, loop_bad, loop_end}
use Rattle.reply_reading.proofs.read_report.pairs_at.Goals as goal

pub returns-in_err-text : goal.returns-in_err-text
returns-in_err-text c =
    passed_on c.from_residual.result c.in_err-text.field-0.0 _ c.from_residual.ensures.1
    (loop_short (pair_by c.args.separator) c.loop-missing.pairs c.loop-missing.left c.loop-missing.missing _ c.loop-missing.invariant c.in_err-text.field-0.0 c.loop-missing-test.true c.in_err-text.ensures.value)

pub returns-in_err-pair : goal.returns-in_err-pair
returns-in_err-pair c =
    passed_on c.from_residual-in_err-pair.result c.in_err-pair.field-0.0 _ c.from_residual-in_err-pair.ensures.1
    (loop_bad (pair_by c.args.separator) c.loop-missing.pairs c.loop-missing.left c.loop-missing.missing _ c.loop-missing.invariant c.in_err-pair.field-0.0 c.in_ok-text.text.now c.in_ok-text.rest c.loop-missing-test.true c.in_ok-text.ensures.value (rw c.of.ensures at c.in_err-pair.ensures))

pub loop-missing-preserved : goal.loop-missing-preserved
loop-missing-preserved c =
    loop_more (pair_by c.args.separator) c.loop-missing.pairs c.loop-missing.left c.loop-missing.missing _ c.loop-missing.invariant c.add.new.self c.in_ok-text.text.now c.in_ok-text.rest c.in_ok-pair.pair c.loop-missing-test.true c.in_ok-text.ensures.value (rw c.of.ensures at c.in_ok-pair.ensures)
    (rw (c.as_slice.ensures, c.as_slice-in-loop-missing.ensures) at c.in_ok-add.ensures.ok)

pub returns : goal.returns
returns c = loop_end (pair_by c.args.separator) c.loop-missing.pairs c.loop-missing.left c.loop-missing.missing _ c.loop-missing.invariant c.loop-missing-test.false
