use Rattle.std.proofs.Common.{◌≡◌, ◌+◌, arith}
use Rattle.std.proofs.lemmas.Result.{err_from_is_err_and}
use Rattle.load_plan.specs.Events.{Placed, checkpoint_at}
use Rattle.schedule_run.proofs.LoadLemmas.{among_start, among_more, among_same, among_stop, among_all, checkpoints_left, checkpoint_next, checkpoints_end, checkpoints_out}
use Rattle.schedule_run.proofs.load.checkpoint_part.Goals as goal

pub loop-seen-init : goal.loop-seen-init
loop-seen-init g c = among_start _ _ _

pub loop-seen-preserved : goal.loop-seen-preserved
loop-seen-preserved g c =
    let p : Placed = record { tree = c.in-Some.tree; stored = c.in-Some.field-0-1.now } in
    let n = c.loop-seen.seen in
    among_more _ (checkpoint_at c.loop-seen.last p.tree) (checkpoints_left (n + 1) p.tree c.next.new.self) _ _ _ _ _ _
    (among_same _ _ _ _ _ _ _ (checkpoint_next n c.loop-seen.last p c.loop-seen.left c.next.new.self c.loop-seen-test.true c.in-Some.ensures) c.loop-seen.invariant)
    c.in_ok-checkpoint_at.ensures

pub returns-in_err-checkpoint_at : goal.returns-in_err-checkpoint_at
returns-in_err-checkpoint_at g c =
    let p : Placed = record { tree = c.in-Some.tree; stored = c.in-Some.field-0-1.now } in
    let n = c.loop-seen.seen in
    let e = err_from_is_err_and c.from_residual.result c.from_residual.ensures.1 in
    rw (e.1, e.2)
    (among_stop _ (checkpoint_at c.loop-seen.last p.tree) (checkpoints_left (n + 1) p.tree c.next.new.self) _ _ _ _ _ _
    (among_same _ _ _ _ _ _ _ (checkpoint_next n c.loop-seen.last p c.loop-seen.left c.next.new.self c.loop-seen-test.true c.in-Some.ensures) c.loop-seen.invariant)
    c.in_err-checkpoint_at.ensures)

pub returns-in_default : goal.returns-in_default
returns-in_default g c =
    among_all _ _ _ _ _ (among_same _ _ _ _ _ _ _ (checkpoints_out c.loop-seen.seen c.loop-seen.last c.loop-seen.left c.in_default.ensures.0) c.loop-seen.invariant)

pub returns : goal.returns
returns g c =
    let all : c.loop-seen.seen ≡ 200 = omega (arith, c.loop-seen-test.false, c.loop-seen.auto.seen-end) in
    among_all _ _ _ _ _ (among_same _ _ _ _ _ _ _ (checkpoints_end c.loop-seen.seen c.loop-seen.last c.loop-seen.left all) c.loop-seen.invariant)
