-- How much a receive brings.
use Rattle.std.proofs.Common.{◌≡◌, ℕ, ◌≤◌, ◌+◌, Bool, true, false, cond, List, [], ◌∷◌, ◌++◌, length, Option, Some, None, Result, Ok, Err, refl, sym, ap, subst, arith}
use Rattle.std.specs.Prelude.{map, filter}
use Rattle.std.proofs.lemmas.List.{length-map}
use Rattle.log_codec.specs.declared.record.PuRec.{PuRec}
use Rattle.log_codec.specs.Pu.{pu_of}
use Rattle.run_cursor.specs.Covered.{covered_ids, new_ones, is_seen, is_covered}
use Rattle.ckpt_parts.specs.Intakes.{item_with, with_first, items_of, intake_of, TakesIn, TakesItems}
use Rattle.tree_ckpt.proofs.Words.{QueueName, PuItem, Taken, Message, Intake}

-- an item is read of each message, and an id at most is deleted for each item

with_first_length : (m : Message) (o : Option PuRec) (rest : Result (List PuItem) Message) (items : List PuItem) (n : ℕ)
    → ((more : List PuItem) → rest ≡ Ok more → length more ≤ n) → with_first m o rest ≡ Ok items → length items ≤ n + 1
with_first_length m None rest items n h e = absurd (cc (e))
with_first_length m (Some rec) (Ok more) items n h e =
    let same : items ≡ item_with m.id rec ∷ more = cc (e) in
    subst (λ (xs : List PuItem). length xs ≤ n + 1) (sym same) (omega (arith, h more refl))
with_first_length m (Some rec) (Err bad) items n h e = absurd (cc (e))

pub items_length : (ms : List Message) (items : List PuItem) → items_of ms ≡ Ok items → length items ≤ length ms
items_length [] items e =
    let same : items ≡ [] = cc (e) in
    subst (λ (xs : List PuItem). length xs ≤ 0) (sym same) (omega arith)
items_length (m ∷ ms) items e = omega (arith, with_first_length m (pu_of m.bytes) (items_of ms) items (length ms) (items_length ms) e)

new_ones_length : (seen ns : List ℕ) → length (new_ones seen ns) ≤ length ns
new_ones_length seen [] = omega arith
new_ones_length seen (n ∷ ns) = on (is_seen seen n) (new_ones_length seen ns) (new_ones_length (seen ++ n ∷ []) ns) where
  on : (b : Bool) → length (new_ones seen ns) ≤ length ns → length (new_ones (seen ++ n ∷ []) ns) ≤ length ns
      → length (cond b (new_ones seen ns) (n ∷ new_ones (seen ++ n ∷ []) ns)) ≤ length (n ∷ ns)
  on true a b = omega (arith, a)
  on false a b = omega (arith, b)

filter_length : {X : Type 0} (p : X → Bool) (xs : List X) → length (filter p xs) ≤ length xs
filter_length p [] = omega arith
filter_length p (x ∷ xs) = on (p x) (filter_length p xs) where
  on : (b : Bool) → length (filter p xs) ≤ length xs → length (cond b (x ∷ filter p xs) (filter p xs)) ≤ length (x ∷ xs)
  on true h = omega (arith, h)
  on false h = omega (arith, h)

covered_length : (top : List (ℕ × ℕ)) (items : List PuItem) → length (covered_ids top items) ≤ length items
covered_length top items =
    let ids : List ℕ = map (λ (x : PuItem). x.id) (filter (is_covered top) items) in
    omega (arith, new_ones_length [] ids, length-map (filter (is_covered top) items) (λ (x : PuItem). x.id), filter_length (is_covered top) items)

-- what is to be deleted is no longer than the messages
takes_items_length : (q : QueueName) (cursor : List (ℕ × ℕ)) (read : Result (List PuItem) Message) (n : ℕ) (i : Intake)
    → ((items : List PuItem) → read ≡ Ok items → length items ≤ n) → TakesItems q cursor read (Ok i) → length i.deletions.ids ≤ n
takes_items_length q cursor (Err m) n i most h = absurd (cc (h))
takes_items_length q cursor (Ok items) n i most h =
    let run : Taken = h.0 in
    let whole : i ≡ intake_of items run = cc (h.2) in
    let same : i.deletions.ids ≡ covered_ids run.top items = ap (λ (j : Intake). j.deletions.ids) whole in
    subst (λ (xs : List ℕ). length xs ≤ n) (sym same) (omega (arith, covered_length run.top items, most items refl))

pub takes_length : (q : QueueName) (cursor : List (ℕ × ℕ)) (ms : List Message) (i : Intake) → TakesIn q cursor ms (Ok i) → length i.deletions.ids ≤ length ms
takes_length q cursor ms i h = takes_items_length q cursor (items_of ms) (length ms) i (items_length ms) h
