use Rattle.std.proofs.Common.{◌≡◌, ◌+◌, [], ◌∷◌, take, drop, List, sym, subst, arith}
use Rattle.std.proofs.lemmas.Result.{err_from_is_err_and}
use Rattle.event_text.specs.declared.event.Event.TheVariants.{Renew}
use Rattle.load_plan.specs.Events.{Placed, parts, later_events, part_events}
use Rattle.schedule_run.specs.Load.{IsAmong}
use Rattle.schedule_run.proofs.LoadLemmas.{among_start, among_more, among_same, among_stop, among_all, went_both, stops_later, stops_sooner, passed_renewal, parts_left, part_next, parts_start, parts_end}
use Rattle.schedule_run.proofs.load.commit_later.Goals as goal

pub pass_over-requires : goal.pass_over-requires
pass_over-requires g c = passed_renewal

pub loop-made-init : goal.loop-made-init
loop-made-init g c = among_same _ _ _ _ _ _ _ (parts_start c.args.transactions c.args.left.now) (among_start _ _ _)

pub returns-in_err-pass_over : goal.returns-in_err-pass_over
returns-in_err-pass_over g c =
    let e = err_from_is_err_and c.from_residual.result c.from_residual.ensures.1 in
    let n = c.loop-made.made in
    let events = part_events (take 200 c.loop-made.left) in
    rw (e.1, e.2)
    (among_stop _ (Renew 1 ∷ events) (parts_left (n + 1) c.args.transactions (drop 200 c.loop-made.left)) _ _ _ _ _ _
    (among_same _ _ _ _ _ _ _ (part_next n c.args.transactions c.loop-made.left c.loop-made-test.true) c.loop-made.invariant)
    (stops_sooner (Renew 1 ∷ []) events _ _ _ _ c.in_err-pass_over.ensures))

pub returns-in_err-commit_part : goal.returns-in_err-commit_part
returns-in_err-commit_part g c =
    let e = err_from_is_err_and c.from_residual-in_err-commit_part.result c.from_residual-in_err-commit_part.ensures.1 in
    let n = c.loop-made.made in
    let events = part_events (take 200 c.loop-made.left) in
    rw (e.1, e.2)
    (among_stop _ (Renew 1 ∷ events) (parts_left (n + 1) c.args.transactions (drop 200 c.loop-made.left)) _ _ _ _ _ _
    (among_same _ _ _ _ _ _ _ (part_next n c.args.transactions c.loop-made.left c.loop-made-test.true) c.loop-made.invariant)
    (stops_later (Renew 1 ∷ []) events _ _ _ _ _ _ c.in_ok-pass_over.ensures c.in_err-commit_part.ensures.went))

pub loop-made-preserved : goal.loop-made-preserved
loop-made-preserved g c =
    let n = c.loop-made.made in
    let events = part_events (take 200 c.loop-made.left) in
    let At : List Placed → Type 0 = λ left. IsAmong (later_events (parts c.args.transactions c.args.left.now)) (parts_left (n + 1) c.args.transactions left) (g.C.Cloud.seen c.args.cloud.now)
    (g.C.Cloud.seen c.commit_part.new.cloud) c.args.play.now c.commit_part.new.play in
    subst At (sym c.in_ok-commit_part.ensures.left)
    (among_more _ (Renew 1 ∷ events) (parts_left (n + 1) c.args.transactions (drop 200 c.loop-made.left)) _ _ _ _ _ _
    (among_same _ _ _ _ _ _ _ (part_next n c.args.transactions c.loop-made.left c.loop-made-test.true) c.loop-made.invariant)
    (went_both (Renew 1 ∷ []) events _ _ _ _ _ _ c.in_ok-pass_over.ensures c.in_ok-commit_part.ensures.went))

pub returns : goal.returns
returns g c =
    let all : c.loop-made.made ≡ c.args.transactions = omega (arith, c.loop-made-test.false, c.loop-made.auto.made-end) in
    among_all _ _ _ _ _ (among_same _ _ _ _ _ _ _ (parts_end c.loop-made.made c.args.transactions c.loop-made.left all) c.loop-made.invariant)
