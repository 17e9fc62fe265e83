use Rattle.std.proofs.Common.{ℕ, List, [], ◌∷◌, ◌++◌, ap, ◌∙◌}
use Rattle.split_plan.specs.declared.put_list.PagePut.{PagePut}
use Rattle.split_plan.proofs.Buffers.{inner-written}
use Rattle.split_plan.proofs.inner.add.Goals as goal

pub returns-clause-puts : goal.returns-clause-puts
returns-clause-puts c =
    c.in_ok-push-2.ensures.ok
    ∙ ap (λ (b : List ℕ). let put : PagePut = record { page = c.args.page; bytes = b } in c.args.plan.now.puts ++ put ∷ [])
    (inner-written c.in_ok-bytes.bytes c.args.node.now c.in_ok-bytes.ensures.ok)
