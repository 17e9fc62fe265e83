use Rattle.std.proofs.Common.{rules}
use Rattle.std.proofs.lemmas.List.Sorted.{All-permutation}
use Rattle.log_codec.proofs.ItemOrder.{sorted_items}
use Rattle.log_codec.specs.Order.{IsItem}
use Rattle.run_cursor.proofs.Choice.{run-from_chosen}
use Rattle.run_cursor.proofs.run.take_received.Goals as goal

pub invariant_of-result : goal.invariant_of-result
invariant_of-result c = record {
  sorted = sorted_items _ c.in_ok-sort_by.ensures.sorted (λ f a r f' k. search rules);
  items = All-permutation IsItem _ _ c.in_ok-sort_by.ensures.permutation c.in_ok-kept.ensures.items;
}

pub returns-clause-run : goal.returns-clause-run
returns-clause-run c =
    run-from_chosen _ _ _ _ _ (rw c.as_slice.ensures.value at c.in_ok-top.ensures) c.in_ok-kept.ensures.chosen c.in_ok-sort_by.ensures.permutation
    (sorted_items _ c.in_ok-sort_by.ensures.sorted (λ f a r f' k. search rules))
