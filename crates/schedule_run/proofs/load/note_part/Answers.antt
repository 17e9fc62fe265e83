use Rattle.std.proofs.Common.{◌≡◌, ◌+◌, [], ◌∷◌, refl, sym, ◌∙◌, arith}
use Rattle.std.proofs.lemmas.Result.{err_from_is_err_and}
use Rattle.load_plan.specs.Events.{Placed, insert_of}
use Rattle.schedule_run.proofs.LoadLemmas.{among_start, among_more, among_same, among_stop, among_all, inserts_left, insert_next, inserts_end, inserts_out, drop_next, drop_end, drop_out}
use Rattle.schedule_run.proofs.load.note_part.Goals as goal

pub loop-noted-init : goal.loop-noted-init
loop-noted-init g c = record { among = among_start _ _ _; left = refl }

pub loop-noted-preserved : goal.loop-noted-preserved
loop-noted-preserved g c =
    let p : Placed = record { tree = c.in-Some.tree; stored = c.in-Some.record.now } in
    let n = c.loop-noted.noted in
    record {
      among = among_more _ (insert_of p ∷ []) (inserts_left (n + 1) c.next.new.self) _ _ _ _ _ _
          (among_same _ _ _ _ _ _ _ (insert_next n p c.loop-noted.left c.next.new.self c.loop-noted-test.true c.in-Some.ensures) c.loop-noted.invariant.among)
          c.in_ok-note.ensures;
      left = c.loop-noted.invariant.left ∙ drop_next n p c.loop-noted.left c.next.new.self c.loop-noted-test.true c.in-Some.ensures;
    }

pub returns-in_err-note : goal.returns-in_err-note
returns-in_err-note g c =
    let p : Placed = record { tree = c.in-Some.tree; stored = c.in-Some.record.now } in
    let n = c.loop-noted.noted in
    let e = err_from_is_err_and c.from_residual.result c.from_residual.ensures.1 in
    rw (e.1, e.2)
    (record {
      went = among_stop _ (insert_of p ∷ []) (inserts_left (n + 1) c.next.new.self) _ _ _ _ _ _
          (among_same _ _ _ _ _ _ _ (insert_next n p c.loop-noted.left c.next.new.self c.loop-noted-test.true c.in-Some.ensures) c.loop-noted.invariant.among)
          c.in_err-note.ensures;
      left = tt;
    })

pub returns-in_default-clause-went : goal.returns-in_default-clause-went
returns-in_default-clause-went g c =
    among_all _ _ _ _ _ (among_same _ _ _ _ _ _ _ (inserts_out c.loop-noted.noted c.loop-noted.left c.in_default.ensures.0) c.loop-noted.invariant.among)

pub returns-in_default-clause-left : goal.returns-in_default-clause-left
returns-in_default-clause-left g c =
    c.in_default.ensures.1 ∙ sym (c.loop-noted.invariant.left ∙ drop_out c.loop-noted.noted c.loop-noted.left c.in_default.ensures.0)

pub returns-clause-went : goal.returns-clause-went
returns-clause-went g c =
    let all : c.loop-noted.noted ≡ 200 = omega (arith, c.loop-noted-test.false, c.loop-noted.auto.noted-end) in
    among_all _ _ _ _ _ (among_same _ _ _ _ _ _ _ (inserts_end c.loop-noted.noted c.loop-noted.left all) c.loop-noted.invariant.among)

pub returns-clause-left : goal.returns-clause-left
returns-clause-left g c =
    let all : c.loop-noted.noted ≡ 200 = omega (arith, c.loop-noted-test.false, c.loop-noted.auto.noted-end) in
    sym (c.loop-noted.invariant.left ∙ drop_end c.loop-noted.noted c.loop-noted.left all)
