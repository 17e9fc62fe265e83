use Rattle.std.proofs.Common.{◌≡◌, ◌+◌, sym, subst}
use Rattle.std.proofs.lemmas.Result.{err_from_is_err_and}
use Rattle.dump_text.specs.BadLine.{IsBadLine}
use Rattle.dump_text.proofs.Reached.{further, bad_line, bad_within, stopped_only, stopped_bad, whole_found, whole_only, whole_bad, empty_is}
use Rattle.dump_text.proofs.dump.Dump.read.Goals as goal

pub loop-line-preserved : goal.loop-line-preserved
loop-line-preserved c =
    further c.args.text.now c.loop-line.left.now c.in-Some.line.now c.in-Some.behind.now c.loop-line.reading c.in_ok-reading.reading c.loop-line.lines c.loop-line.invariant
    c.in-Some.ensures.some c.in-Some.ensures.first c.in_ok-reading.ensures.ok

pub returns-in_err-reading-clause-only : goal.returns-in_err-reading-clause-only
returns-in_err-reading-clause-only c =
    let p = err_from_is_err_and c.from_residual.result c.from_residual.ensures.1 in
    stopped_only c.args.text.now c.from_residual.result p.0 p.1 (λ n is.
    let b = c.in_err-reading.ensures.bad n (cc (p.2, is)) in
    subst (IsBadLine c.args.text.now) (sym b.0) (bad_line c.args.text.now c.loop-line.left.now c.in-Some.line.now c.in-Some.behind.now c.loop-line.reading c.loop-line.lines c.loop-line.invariant c.in-Some.ensures.some c.in-Some.ensures.first b.1))

pub returns-in_err-reading-clause-bad : goal.returns-in_err-reading-clause-bad
returns-in_err-reading-clause-bad c =
    let p = err_from_is_err_and c.from_residual.result c.from_residual.ensures.1 in
    stopped_bad c.args.text.now c.from_residual.result p.0 p.1 (λ n is.
    let b = c.in_err-reading.ensures.bad n (cc (p.2, is)) in
    subst (IsBadLine c.args.text.now) (sym b.0) (bad_line c.args.text.now c.loop-line.left.now c.in-Some.line.now c.in-Some.behind.now c.loop-line.reading c.loop-line.lines c.loop-line.invariant c.in-Some.ensures.some c.in-Some.ensures.first b.1))

pub returns-then-not-is_empty-clause-only : goal.returns-then-not-is_empty-clause-only
returns-then-not-is_empty-clause-only c = λ trees d.
    (bad_within c.args.text.now c.loop-line.left.now c.loop-line.reading c.loop-line.lines c.is_empty.result c.loop-line.invariant c.in_default.ensures.none c.is_empty.ensures c.if-not-is_empty.true).none trees d

pub returns-then-not-is_empty-clause-bad : goal.returns-then-not-is_empty-clause-bad
returns-then-not-is_empty-clause-bad c = λ n e.
    let same : c.loop-line.lines + 1 ≡ n = cc in
    subst (IsBadLine c.args.text.now) same
    (bad_within c.args.text.now c.loop-line.left.now c.loop-line.reading c.loop-line.lines c.is_empty.result c.loop-line.invariant c.in_default.ensures.none c.is_empty.ensures c.if-not-is_empty.true)

pub returns-clause-found : goal.returns-clause-found
returns-clause-found c =
    whole_found c.args.text.now c.loop-line.left.now c.loop-line.reading c.loop-line.lines c.whole.result c.loop-line.invariant
    (empty_is c.loop-line.left.now c.is_empty.result c.is_empty.ensures c.if-not-is_empty.false) c.whole.ensures.ok

pub returns-clause-only : goal.returns-clause-only
returns-clause-only c =
    whole_only c.args.text.now c.loop-line.left.now c.loop-line.reading c.loop-line.lines c.whole.result c.loop-line.invariant
    (empty_is c.loop-line.left.now c.is_empty.result c.is_empty.ensures c.if-not-is_empty.false) c.whole.ensures.ok c.whole.ensures.bad

pub returns-clause-bad : goal.returns-clause-bad
returns-clause-bad c =
    whole_bad c.args.text.now c.loop-line.left.now c.loop-line.reading c.loop-line.lines c.whole.result c.loop-line.invariant
    (empty_is c.loop-line.left.now c.is_empty.result c.is_empty.ensures c.if-not-is_empty.false) c.whole.ensures.bad
