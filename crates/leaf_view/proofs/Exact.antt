-- The leaf's formats are exact.
use Rattle.std.proofs.Common.{ℕ, Bool, true, false, cond, eqb, List, Option, refl, lit<}
use Rattle.byte_format.specs.Format.{only_where, maybe}
use Rattle.byte_format.specs.Whole.{IsExact}
use Rattle.byte_format.proofs.Fields.{u8_exact, u64_exact, text8_exact, text16_exact}
use Rattle.byte_format.proofs.Exact.{ruled_exact, then_exact, behind_exact, only_where_exact, seen_as_exact}
use Rattle.byte_format.proofs.Maybes.{maybe_exact}
use Rattle.byte_format.proofs.Lists.{list_exact}
use Rattle.byte_format.proofs.HighKeys.{high_key_exact}
use Rattle.leaf_view.specs.declared.done.Done.{Done}
use Rattle.leaf_view.specs.Leaf.{Entry, head_of, head_parts, leaf_head, done_of, done_parts, done_from, done_item, least_queue, least_client, entry_of, entry_parts, attr_text, attribute, record_item, leaf_of, leaf_parts, leaf, plain_done, plain_entry}

pub head_exact : IsExact leaf_head
unfolding leaf_head
head_exact = seen_as_exact head_of head_parts _ (behind_exact 76 _ (
    then_exact _ _ (u8_exact 1 2 (lit< tt)) (λ format.
    then_exact _ _ (u64_exact 1 _ (lit< tt)) (λ version.
    then_exact _ _ (text8_exact 0 64 (lit< tt)) (λ low.
    then_exact _ _ (u64_exact 0 _ (lit< tt)) (λ right.
    high_key_exact low right)))))) (λ _ _. refl) (λ _ _. refl)

pub done_from_exact : (queue_from : ℕ) (client_from : ℕ → ℕ) → IsExact (done_from queue_from client_from)
done_from_exact queue_from client_from = seen_as_exact done_of done_parts _ (
    then_exact _ _ (u64_exact queue_from _ (lit< tt)) (λ queue.
    then_exact _ _ (u8_exact (client_from queue) 64 (lit< tt)) (λ client.
    u64_exact 1 _ (lit< tt)))) (λ _ _. refl) (λ _ _. refl)

pub done_exact : (before : Option Done) → IsExact (done_item before)
unfolding done_item
done_exact before = done_from_exact (least_queue before) (least_client before)

pub attribute_exact : (format : ℕ) → IsExact (attribute format)
attribute_exact format = of (eqb format 2)
  where
    of : (b : Bool) → IsExact (cond b (maybe attr_text) (only_where false attr_text))
    of true = maybe_exact attr_text (text8_exact 1 32 (lit< tt))
    of false = only_where_exact false attr_text (text8_exact 1 32 (lit< tt))

pub record_exact : (format : ℕ) (low : List ℕ) (high : Option (List ℕ)) (before : Option Entry) → IsExact (record_item format low high before)
unfolding record_item
record_exact format low high before = seen_as_exact entry_of entry_parts _ (
    then_exact _ _ (ruled_exact _ _ (text8_exact 1 64 (lit< tt))) (λ key.
    then_exact _ _ (text16_exact 0 1024 (lit< tt)) (λ payload.
    attribute_exact format))) (λ _ _. refl) (λ _ _. refl)

pub plain_done_exact : IsExact plain_done
unfolding plain_done
plain_done_exact = done_from_exact 0 (λ _. 1)

pub plain_entry_exact : (format : ℕ) → IsExact (plain_entry format)
unfolding plain_entry
plain_entry_exact format = seen_as_exact entry_of entry_parts _ (
    then_exact _ _ (text8_exact 1 64 (lit< tt)) (λ key.
    then_exact _ _ (text16_exact 0 1024 (lit< tt)) (λ payload.
    attribute_exact format))) (λ _ _. refl) (λ _ _. refl)

pub leaf_exact : IsExact leaf
unfolding leaf
leaf_exact = seen_as_exact leaf_of leaf_parts _ (
    then_exact _ _ head_exact (λ head.
    then_exact _ _ (list_exact true done_item _ done_exact) (λ done.
    list_exact true (record_item head.format head.low head.high) _ (record_exact head.format head.low head.high)))) (λ _ _. refl) (λ _ _. refl)
