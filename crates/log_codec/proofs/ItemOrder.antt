-- The order of items is a total one, so a sort by it sorts.
use Rattle.std.proofs.Common.{◌≡◌, List, Bool, ap, Ordering}
use Rattle.std.specs.Prelude.{IsSorted}
use Rattle.std.specs.Borrow.{Bor}
use Rattle.std.specs.Cmp.{IsTotalOrder, IsStrictWeakOrder}
use Rattle.std.specs.Fn.{Called, ComparesAs}
use Rattle.std.specs.List.Sorted.{IsSortedBy}
use Rattle.std.specs.Ordering.{is_lt}
use Rattle.std.proofs.lemmas.Cmp.{then_total, on_total, nat_cmp_total, nat_list_cmp_total}
use Rattle.std.proofs.lemmas.List.Sorted.{ranks_by, answers_always}
use denote.Param.Members.{Mut}
use Rattle.db_base.specs.Change.{key_of}
use Rattle.log_codec.specs.declared.record.PuItem.{PuItem}
use Rattle.log_codec.specs.Order.{item_cmp}

-- items are ordered totally by key, then client, then number
pub item_cmp_total : IsTotalOrder item_cmp
item_cmp_total =
    then_total (on_total (λ (x : PuItem). key_of x.rec.change) nat_list_cmp_total)
    (then_total (on_total (λ (x : PuItem). x.rec.client) nat_cmp_total) (on_total (λ (x : PuItem). x.rec.number) nat_cmp_total))

-- what a sort says whose calls compare so
pub sorted_items : {F : Type 0} {g : Mut F (Bor PuItem × (Bor PuItem × Unit {0})) Ordering} {f : F} (xs : List PuItem)
    → ((lt : PuItem → PuItem → Bool) → IsStrictWeakOrder lt → ComparesAs g lt f → IsSortedBy lt xs)
    → ((f : F) (a : Bor PuItem × (Bor PuItem × Unit {0})) (r : Ordering) (f' : F) → Called g f a r f' → r ≡ item_cmp a.0.now a.1.0.now)
    → IsSorted item_cmp xs
sorted_items {g = g} {f = f} xs up h =
    up (λ x y. is_lt (item_cmp x y)) (ranks_by item_cmp_total (λ x. x))
    (answers_always g (λ a r. is_lt r ≡ is_lt (item_cmp a.0.now a.1.0.now)) f (λ f a r f' k. ap is_lt (h f a r f' k)))
