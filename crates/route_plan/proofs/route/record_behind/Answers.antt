use Rattle.std.proofs.Common.{◌∙◌, ap, subst, ℕ, ◌≤◌, ◌^◌, refl, List, inr}
use Rattle.head_codec.specs.declared.lists.Pending.{Pending}
use Rattle.route_plan.specs.Queue.{queue_of}
use Rattle.route_plan.specs.Route.{next_number}
use Rattle.route_plan.proofs.route.record_behind.Goals as goal

pub returns-in-None-clause-err : goal.returns-in-None-clause-err
returns-in-None-clause-err c =
    let P : ℕ → Type 0 = λ page. 2 ^ 64 ≤ next_number c.args.head.now c.args.earlier.now c.args.tree page in
    let to : List Pending → ℕ = λ pending. queue_of pending c.args.tree c.args.change.now c.args.leaf in
    inr (refl, subst P (c.page_of-page.ensures ∙ ap to c.requires.index) c.in-None.ensures)
