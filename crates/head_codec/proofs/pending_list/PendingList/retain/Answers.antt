use Rattle.std.proofs.Common.{rules, arith, ◌≤◌, length, subst, sym, List}
use Rattle.std.proofs.lemmas.Grind.{common_steps}
use Rattle.head_codec.specs.declared.lists.Pending.{Pending}
use Rattle.head_codec.specs.Pending.{AreSpelled}
use Rattle.head_codec.proofs.ListSpelling.{filtered_none}
use Rattle.head_codec.proofs.pending_list.PendingList.retain.Goals as goal

pub invariant_of-self-else-len-before : goal.invariant_of-self-else-len-before
invariant_of-self-else-len-before g c =
    let long : length c.self.inside.entries.items ≤ length c.retain.new.self.items = first_of (search rules, grind (arith, common_steps)) in
    λ yes. subst (λ (xs : List Pending). AreSpelled xs c.self.inside.spelled.items) (sym (filtered_none _ _ _ _ c.retain.ensures.filtered long)) (c.self.invariant yes)
