use Rattle.std.proofs.Common.{[], ◌∷◌, ◌++◌, refl}
use Rattle.std.proofs.lemmas.Result.{err_from_is_err_and}
use Rattle.event_text.specs.declared.event.Event.TheVariants.{Open, Close, Settle}
use Rattle.load_plan.specs.Events.{commit_events, parts_of}
use Rattle.schedule_run.specs.declared.load.LoadStop.TheVariants.{Memory}
use Rattle.schedule_run.proofs.LoadLemmas.{went_both, stops_later, stops_sooner, out_before, passed_closing, went_all}
use Rattle.schedule_run.proofs.load.load_in.Goals as goal

pub pass_over-requires : goal.pass_over-requires
pass_over-requires g c = passed_closing

pub returns-in_default : goal.returns-in_default
returns-in_default g c = out_before _ Memory _ _ refl

pub returns-in_err-open : goal.returns-in_err-open
returns-in_err-open g c =
    let e = err_from_is_err_and c.from_residual.result c.from_residual.ensures.1 in
    let commits = commit_events (parts_of c.args.dump.now.trees) in
    rw (e.1, e.2) (stops_sooner (Open 1 1 ∷ []) (commits ++ Close 1 ∷ Settle ∷ []) _ _ _ _ c.in_err-open.ensures)

pub returns-in_err-commit_all : goal.returns-in_err-commit_all
returns-in_err-commit_all g c =
    let e = err_from_is_err_and c.from_residual-in_err-commit_all.result c.from_residual-in_err-commit_all.ensures.1 in
    let commits = commit_events (parts_of c.args.dump.now.trees) in
    rw (e.1, e.2)
    (stops_later (Open 1 1 ∷ []) (commits ++ Close 1 ∷ Settle ∷ []) _ _ _ _ _ _ c.in_ok-open.ensures
    (stops_sooner commits (Close 1 ∷ Settle ∷ []) _ _ _ _ c.in_err-commit_all.ensures))

pub returns-in_err-pass_over : goal.returns-in_err-pass_over
returns-in_err-pass_over g c =
    let e = err_from_is_err_and c.from_residual-in_err-pass_over.result c.from_residual-in_err-pass_over.ensures.1 in
    let commits = commit_events (parts_of c.args.dump.now.trees) in
    rw (e.1, e.2)
    (stops_later (Open 1 1 ∷ []) (commits ++ Close 1 ∷ Settle ∷ []) _ _ _ _ _ _ c.in_ok-open.ensures
    (stops_later commits (Close 1 ∷ Settle ∷ []) _ _ _ _ _ _ c.in_ok-commit_all.ensures
    (stops_sooner (Close 1 ∷ []) (Settle ∷ []) _ _ _ _ c.in_err-pass_over.ensures)))

pub returns-in_err-calls : goal.returns-in_err-calls
returns-in_err-calls g c =
    let e = err_from_is_err_and c.from_residual-in_err-calls.result c.from_residual-in_err-calls.ensures.1 in
    let commits = commit_events (parts_of c.args.dump.now.trees) in
    rw (e.1, e.2)
    (stops_later (Open 1 1 ∷ []) (commits ++ Close 1 ∷ Settle ∷ []) _ _ _ _ _ _ c.in_ok-open.ensures
    (stops_later commits (Close 1 ∷ Settle ∷ []) _ _ _ _ _ _ c.in_ok-commit_all.ensures
    (stops_later (Close 1 ∷ []) (Settle ∷ []) _ _ _ _ _ _ c.in_ok-pass_over.ensures c.in_err-calls.ensures)))

pub returns : goal.returns
returns g c =
    let commits = commit_events (parts_of c.args.dump.now.trees) in
    went_all c.args.dump.now.trees _ _ _ _ _ _ _
    (went_both (Open 1 1 ∷ []) (commits ++ Close 1 ∷ []) _ _ _ _ _ _ c.in_ok-open.ensures
    (went_both commits (Close 1 ∷ []) _ _ _ _ _ _ c.in_ok-commit_all.ensures c.in_ok-pass_over.ensures))
    c.in_ok-calls.ensures c.in-Some.ensures
