use Rattle.std.proofs.Common.{refl}
use Rattle.std.proofs.lemmas.Result.{err_from_is_err_and}
use Rattle.world_audit.proofs.Looks.{looked_not, looked_on, told_behind}
use Rattle.world_audit.proofs.Answered.{reaches_first, reaches_on, leaves_loop, leaves_slip, leaves_stop_here, leaves_end}
use Rattle.world_audit.proofs.leaves.contents.Goals as goal

pub loop-walk-init : goal.loop-walk-init
loop-walk-init g c = (looked_not _, rw (c.new-visited.ensures.empty, c.first-page.ensures, c.new.ensures, c.new-2.ensures) (reaches_first _ c.args.tree))

pub returns-in_err-note_visit-clause-found : goal.returns-in_err-note_visit-clause-found
returns-in_err-note_visit-clause-found g c =
    let p = err_from_is_err_and c.from_residual.result c.from_residual.ensures.1 in
    leaves_loop _ c.args.tree c.loop-walk.visited.keys c.loop-walk.page c.loop-walk.walk.low c.loop-walk.walk.contents c.loop-walk.invariant.1
    c.from_residual.result c.in_err-note_visit.field-0.0 (rw (p.1, p.2) refl) c.in_err-note_visit.ensures.err

pub returns-in_err-next-clause-found : goal.returns-in_err-next-clause-found
returns-in_err-next-clause-found g c =
    let p = err_from_is_err_and c.from_residual-in_err-next.result c.from_residual-in_err-next.ensures.1 in
    leaves_stop_here _ c.args.tree c.loop-walk.visited.keys c.loop-walk.page c.loop-walk.walk.low c.loop-walk.walk.contents c.loop-walk.invariant.1
    c.in_ok-bytes.bytes c.in_ok-note_visit.ensures.page c.in_ok-note_visit.ensures.first (told_behind _ _ _ c.in_ok-bytes.bytes c.loop-walk.invariant.0 c.in_ok-bytes.ensures.newest c.in_ok-bytes.ensures.shown)
    c.from_residual-in_err-next.result c.in_err-next.field-0.0 (rw (p.1, p.2) refl) (c.in_err-next.ensures.stopped c.loop-walk.visited.keys)

pub returns-in-None-clause-found : goal.returns-in-None-clause-found
returns-in-None-clause-found g c =
    leaves_end _ c.args.tree c.loop-walk.visited.keys c.loop-walk.page c.loop-walk.walk.low c.loop-walk.walk.contents c.loop-walk.invariant.1
    c.in_ok-bytes.bytes c.in_ok-note_visit.ensures.page c.in_ok-note_visit.ensures.first (told_behind _ _ _ c.in_ok-bytes.bytes c.loop-walk.invariant.0 c.in_ok-bytes.ensures.newest c.in_ok-bytes.ensures.shown)
    _ c.add_leaf.new.walk.low c.add_leaf.new.walk.contents c.in_ok-next.field-0 refl c.in-None.is c.in_ok-next.ensures.ok c.in_ok-next.ensures.passes

pub loop-walk-preserved-in-Some : goal.loop-walk-preserved-in-Some
loop-walk-preserved-in-Some g c = (
  looked_on _ _ _ c.loop-walk.invariant.0 c.peek.ensures.looked,
  reaches_on _ c.args.tree c.loop-walk.visited.keys c.loop-walk.page c.loop-walk.walk.low c.loop-walk.walk.contents c.loop-walk.invariant.1
      c.in_ok-bytes.bytes c.in_ok-note_visit.ensures.page c.in_ok-note_visit.ensures.first (told_behind _ _ _ c.in_ok-bytes.bytes c.loop-walk.invariant.0 c.in_ok-bytes.ensures.newest c.in_ok-bytes.ensures.shown)
      c.note_visit.new.visited.keys c.in-Some.next c.add_leaf.new.walk.low c.add_leaf.new.walk.contents c.in_ok-next.field-0 c.in-Some.is
      c.in_ok-note_visit.ensures.noted c.in_ok-next.ensures.ok c.in_ok-next.ensures.passes,
)

pub returns-in_err-bytes-clause-found : goal.returns-in_err-bytes-clause-found
returns-in_err-bytes-clause-found g c =
    let p = err_from_is_err_and c.from_residual-in_err-bytes.result c.from_residual-in_err-bytes.ensures.1 in
    leaves_slip _ c.args.tree c.loop-walk.visited.keys c.loop-walk.page c.loop-walk.walk.low c.loop-walk.walk.contents c.loop-walk.invariant.1
    c.from_residual-in_err-bytes.result c.in_err-bytes.field-0.0 (rw (p.1, p.2) refl) c.in_err-bytes.ensures.only
