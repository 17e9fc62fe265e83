use Rattle.std.proofs.Common.{◌≤◌, ◌∙◌, ℕ, List, ap, subst, length, slice_index_or}
use Rattle.folder_cloud.proofs.Ordered.{first_above, in_order, same_pages}
use Rattle.folder_cloud.proofs.rules.put_in_order.Goals as goal

pub returns-in-empty-clause-same : goal.returns-in-empty-clause-same
returns-in-empty-clause-same c =
    same_pages c.args.pages.now.items c.sort_unstable.new.self.items c.dedup.new.self.items c.sort_unstable.ensures.permutation c.dedup.ensures.filtered

pub returns-in-len1-up-clause-ascending : goal.returns-in-len1-up-clause-ascending
returns-in-len1-up-clause-ascending c =
    let least = c.least-item.result in
    let value = c.as_slice.ensures.value in
    let many = subst (λ (ns : List ℕ). 1 ≤ length ns) value c.in-len1-up.len_at_least in
    let first = first_above c.dedup.new.self.items least many (c.least-item.is ∙ ap (λ (ns : List ℕ). slice_index_or ns 0 least) value) c.get-number.ensures.range in
    in_order c.sort_unstable.new.self.items c.dedup.new.self.items c.sort_unstable.ensures.sorted c.dedup.ensures.filtered first

pub returns-in-len1-up-clause-same : goal.returns-in-len1-up-clause-same
returns-in-len1-up-clause-same c =
    same_pages c.args.pages.now.items c.sort_unstable.new.self.items c.dedup.new.self.items c.sort_unstable.ensures.permutation c.dedup.ensures.filtered
