use Rattle.std.proofs.Common.{[], ◌∷◌, map, take}
use Rattle.std.proofs.lemmas.Result.{err_from_is_err_and}
use Rattle.event_text.specs.declared.event.Event.TheVariants.{Commit}
use Rattle.load_plan.specs.Events.{insert_of, checkpoints_of}
use Rattle.schedule_run.proofs.LoadLemmas.{goes_later, stops_later, stops_sooner, brings}
use Rattle.schedule_run.proofs.load.commit_part.Goals as goal

pub returns-in_err-note_part-clause-went : goal.returns-in_err-note_part-clause-went
returns-in_err-note_part-clause-went g c =
    let p = err_from_is_err_and c.from_residual.result c.from_residual.ensures.1 in
    let part = take 200 c.args.left.now in
    rw (p.1, p.2) (stops_sooner (map insert_of part) (Commit 1 ∷ checkpoints_of part) _ _ _ _ c.in_err-note_part.ensures.went)

pub returns-in_err-commit-clause-went : goal.returns-in_err-commit-clause-went
returns-in_err-commit-clause-went g c =
    let p = err_from_is_err_and c.from_residual-in_err-commit.result c.from_residual-in_err-commit.ensures.1 in
    let part = take 200 c.args.left.now in
    rw (p.1, p.2)
    (stops_later (map insert_of part) (Commit 1 ∷ checkpoints_of part) _ _ _ _ _ _ c.in_ok-note_part.ensures.went
    (stops_sooner (Commit 1 ∷ []) (checkpoints_of part) _ _ _ _ c.in_err-commit.ensures))

pub returns-clause-went : goal.returns-clause-went
returns-clause-went g c =
    let part = take 200 c.args.left.now in
    let checked = rw c.again-part.ensures at c.checkpoint_part.ensures in
    goes_later (map insert_of part) (Commit 1 ∷ checkpoints_of part) c.checkpoint_part.result _ _ _ _ _ _ c.in_ok-note_part.ensures.went
    (goes_later (Commit 1 ∷ []) (checkpoints_of part) c.checkpoint_part.result _ _ _ _ _ _ c.in_ok-commit.ensures checked)

pub returns-clause-left : goal.returns-clause-left
returns-clause-left g c = brings c.checkpoint_part.result _ c.in_ok-note_part.ensures.left
