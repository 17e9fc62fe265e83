use Rattle.std.proofs.Common.{◌-◌, ◌/◌, refl, sym, take, drop, subst, List, arith}
use Rattle.std.proofs.lemmas.Result.{err_from_is_err_and}
use Rattle.event_text.specs.declared.event.Event.{Event}
use Rattle.load_plan.specs.Events.{records_of, parts, part_events, later_events}
use Rattle.schedule_run.specs.Load.{WentThrough, StopsAt, GoesThrough}
use Rattle.schedule_run.specs.declared.load.LoadStop.TheVariants.{Memory}
use Rattle.schedule_run.proofs.LoadLemmas.{went_none, goes_later, stops_sooner, out_before, none_made, some_made}
use Rattle.schedule_run.proofs.load.commit_all.Goals as goal

pub returns-in_default : goal.returns-in_default
returns-in_default g c = out_before _ Memory _ _ refl

pub returns-then-transactions-eq0 : goal.returns-then-transactions-eq0
returns-then-transactions-eq0 g c =
    let none = none_made c.args.dump.now.trees c.args.records c.in-Some.sum (c.in-Some.sum / 200) c.requires c.in-Some.ensures.1 refl c.if-transactions-eq0.true in
    let At : List Event → Type 0 = λ events. WentThrough events (g.C.Cloud.seen c.args.cloud.now) (g.C.Cloud.seen c.args.cloud.now) c.args.play.now c.args.play.now in
    subst At (sym none) (went_none _ _)

pub returns-in_err-commit_part : goal.returns-in_err-commit_part
returns-in_err-commit_part g c =
    let e = err_from_is_err_and c.from_residual.result c.from_residual.ensures.1 in
    let records = records_of c.args.dump.now.trees in
    let made = c.in-Some.sum / 200 in
    let some = some_made c.args.dump.now.trees c.args.records c.in-Some.sum made c.requires c.in-Some.ensures.1 refl c.if-transactions-eq0.false in
    let went = rw (c.of-left.ensures, c.as_slice.ensures) at c.in_err-commit_part.ensures.went in
    let At : List Event → Type 0 = λ events. StopsAt events c.in_err-commit_part.field-0.0 (g.C.Cloud.seen c.args.cloud.now) (g.C.Cloud.seen c.commit_part.new.cloud) c.args.play.now in
    rw (e.1, e.2) (subst At (sym some) (stops_sooner (part_events (take 200 records)) (later_events (parts (made - 1) (drop 200 records))) _ _ _ _ went))

pub returns : goal.returns
returns g c =
    let records = records_of c.args.dump.now.trees in
    let made = c.in-Some.sum / 200 in
    let some = some_made c.args.dump.now.trees c.args.records c.in-Some.sum made c.requires c.in-Some.ensures.1 refl c.if-transactions-eq0.false in
    let went = rw (c.of-left.ensures, c.as_slice.ensures) at c.in_ok-commit_part.ensures.went in
    let left = rw (c.of-left.ensures, c.as_slice.ensures) at c.in_ok-commit_part.ensures.left in
    let later = rw left at c.commit_later.ensures in
    let At : List Event → Type 0 = λ events. GoesThrough events c.commit_later.result (g.C.Cloud.seen c.args.cloud.now) (g.C.Cloud.seen c.commit_later.new.cloud) c.args.play.now c.commit_later.new.play in
    subst At (sym some) (goes_later (part_events (take 200 records)) (later_events (parts (made - 1) (drop 200 records))) c.commit_later.result _ _ _ _ _ _ went later)
