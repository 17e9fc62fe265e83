use Rattle.std.proofs.Common.{rules, ap, List}
use Rattle.std.proofs.lemmas.Fn.{filter_same}
use Rattle.head_codec.specs.declared.head.Head.{Head}
use Rattle.head_codec.specs.declared.lists.Pending.{Pending}
use Rattle.route_plan.proofs.prune.prune_leaf.Goals as goal

pub returns : goal.returns
returns c =
    let with : List Pending → Head = λ pending. record c.args.head.now { pending = pending } in
    ap with (filter_same _ _ _ (λ x b f' k. search rules) _ _ c.retain.ensures)
