use Rattle.std.proofs.Common.{rules, ◌≡◌, ◌+◌, None, length, arith, ap, ◌∙◌}
use Rattle.load_plan.specs.Events.{records_of}
use Rattle.load_plan.proofs.EventLemmas.{count_more}
use Rattle.load_plan.proofs.insert.count_records.Goals as goal

pub loop-tree-preserved : goal.loop-tree-preserved
loop-tree-preserved c =
    let split : length (records_of c.loop-tree.left.now) ≡ length c.in-Some.tree.now.records + length (records_of c.in-Some.behind.now) =
    ap (λ ts. length (records_of ts)) c.in-Some.ensures.cases.0 ∙ count_more c.in-Some.tree.now c.in-Some.behind.now in
    omega (arith, split, c.loop-tree.invariant, c.in_ok-count.ensures, c.len.ensures)

pub returns-in_err-count : goal.returns-in_err-count
returns-in_err-count c =
    let split : length (records_of c.loop-tree.left.now) ≡ length c.in-Some.tree.now.records + length (records_of c.in-Some.behind.now) =
    ap (λ ts. length (records_of ts)) c.in-Some.ensures.cases.0 ∙ count_more c.in-Some.tree.now c.in-Some.behind.now in
    let none : c.from_residual.result ≡ None = search rules in
    rw none (omega (arith, split, c.loop-tree.invariant, c.in_err-count.ensures, c.len.ensures))
