use Rattle.std.proofs.Common.{ℕ, ◌/◌, sym, subst}
use Rattle.split_plan.specs.Sizes.{count_of, cuts_in, CanCut}
use Rattle.split_plan.proofs.Counting.{can-cuts}
use Rattle.split_plan.proofs.sizes.Sizes.of.Goals as goal

pub returns-clause-room : goal.returns-clause-room
returns-clause-room c =
    let len = c.args.len in
    subst (λ (q : ℕ). CanCut (cuts_in q len) (len / count_of len) len) (sym c.pieces-count.ensures.count) (can-cuts len)
