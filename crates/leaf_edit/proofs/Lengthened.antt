-- A leaf behind changes is no longer than the leaf, a table of all clients and what the changes bring.
use Rattle.std.proofs.Common.{◌≡◌, ℕ, zero, suc, ◌+◌, ◌-◌, ◌*◌, ◌≤◌, Bool, true, false, cond, List, [], ◌∷◌, length, Some, None, refl, arith}
use Rattle.std.specs.Prelude.{nat_lt, filter, ◌==◌, if◌then◌else◌}
use Rattle.std.specs.Int.{w64, to_be_bytes, from_be_bytes}
use Rattle.std.specs.declared.cmp.Ordering.{Ordering}
use Rattle.std.specs.declared.cmp.Ordering.TheVariants.{Less, Equal, Greater}
use Rattle.std.proofs.lemmas.Bool.{eqb-true, ltb-true}
use Rattle.db_base.specs.Change.{key_of, act, added, plus}
use Rattle.db_base.specs.declared.change.Change.{Change}
use Rattle.db_base.specs.declared.change.Change.TheVariants.{Insert, Update, Delete, Add}
use Rattle.byte_format.specs.Order.{bytes_cmp}
use Rattle.leaf_view.specs.declared.done.Done.{Done}
use Rattle.leaf_view.specs.Leaf.{Entry, Leaf}
use Rattle.log_codec.specs.declared.record.PuItem.{PuItem}
use Rattle.leaf_edit.specs.Applied.{applied, applied_length}
use Rattle.leaf_edit.specs.Edited.{with_value, edited_at, edited, edited_by}
use Rattle.leaf_edit.specs.Lacked.{lacked}
use Rattle.leaf_edit.specs.Raised.{own_entries, raised_number, with_done}
use Rattle.leaf_edit.specs.Sizes.{brought_by, brought_size, dones_size, entries_size, entry_size, most_size}
use Rattle.leaf_edit.specs.Spelled.{is_beside}
use Rattle.leaf_edit.proofs.Sizes.{leaf-size, raised-size}

-- ---- records

-- an addition keeps the length of a payload
plus-size : (payload : List ℕ) (amount : ℕ) → length (plus payload amount) ≡ length payload
plus-size payload amount = on (length payload == 8) refl
  where
    on : (b : Bool) → (length payload == 8) ≡ b → length (if b then to_be_bytes w64 (added (from_be_bytes w64 payload) amount) else payload) ≡ length payload
    on true e = omega (arith, eqb-true (length payload) 8 e)
    on false e = refl

-- a change where there was no record
set-size : (c : Change) (es : List Entry) → entries_size (with_value (key_of c) (act None c) es) ≤ entries_size es + brought_size c
set-size (Insert key payload attr) es = omega arith
set-size (Update key payload) es = omega arith
set-size (Delete key) es = omega arith
set-size (Add key amount) es = omega arith

-- a change of a record
reset-size : (c : Change) (e : Entry) (es : List Entry)
    → entries_size (with_value (key_of c) (act (Some e.value) c) es) ≤ entry_size e + entries_size es + brought_size c
reset-size (Insert key payload attr) e es = omega arith
reset-size (Update key payload) e es = omega arith
reset-size (Delete key) e es = omega arith
reset-size (Add key amount) e es = omega (arith, plus-size e.value.payload amount)

edited-size : (es : List Entry) (c : Change) → entries_size (edited es c) ≤ entries_size es + brought_size c
edited-size [] c = set-size c []
edited-size (e ∷ es) c = on (bytes_cmp e.key (key_of c)) (edited-size es c)
  where
    on : (o : Ordering) → entries_size (edited es c) ≤ entries_size es + brought_size c
        → entries_size (edited_at o e es (edited es c) c) ≤ entries_size (e ∷ es) + brought_size c
    on Less again = omega (arith, again)
    on Equal again = reset-size c e es
    on Greater again = set-size c (e ∷ es)

edited_by-size : (es : List Entry) (xs : List PuItem) → entries_size (edited_by es xs) ≤ entries_size es + brought_by xs
edited_by-size es [] = omega arith
edited_by-size es (x ∷ xs) = omega (arith, edited-size es x.rec.change, edited_by-size (edited es x.rec.change) xs)

-- ---- the table

with_done-most : (queue client n : ℕ) (ds : List Done) → dones_size (with_done queue client n ds) ≤ 18 + dones_size ds
with_done-most queue client zero ds = omega arith
with_done-most queue client (suc n) ds = omega arith

own-most : (queue : ℕ) (number : ℕ → ℕ) (left : ℕ) → dones_size (own_entries queue number left) ≤ 18 * left
unfolding own_entries
own-most queue number zero = omega arith
own-most queue number (suc left) =
    omega (arith, with_done-most queue (64 - left) (number (64 - left)) (own_entries queue number left), own-most queue number left)

-- no entry is both of a lower and of a higher queue
beside-most : (queue : ℕ) (ds : List Done) → dones_size (filter (is_beside false queue) ds) + dones_size (filter (is_beside true queue) ds) ≤ dones_size ds
beside-most queue [] = omega arith
beside-most queue (d ∷ ds) = on (nat_lt d.queue queue) (nat_lt queue d.queue) refl refl (beside-most queue ds)
  where
    on : (a b : Bool) → nat_lt d.queue queue ≡ a → nat_lt queue d.queue ≡ b
        → dones_size (filter (is_beside false queue) ds) + dones_size (filter (is_beside true queue) ds) ≤ dones_size ds
        → dones_size (cond a (d ∷ filter (is_beside false queue) ds) (filter (is_beside false queue) ds))
        + dones_size (cond b (d ∷ filter (is_beside true queue) ds) (filter (is_beside true queue) ds)) ≤ dones_size (d ∷ ds)
    on true true p q again = absurd (omega (arith, ltb-true d.queue queue p, ltb-true queue d.queue q))
    on true false p q again = omega (arith, again)
    on false true p q again = omega (arith, again)
    on false false p q again = omega (arith, again)

-- ---- a leaf

pub applied-most : (l : Leaf) (queue : ℕ) (run : List PuItem) → applied_length l queue run ≤ most_size l l.records (lacked l queue run)
applied-most l queue run =
    omega (
      arith,
      leaf-size (applied l queue run) refl,
      raised-size l.done queue run,
      own-most queue (raised_number l.done queue run) 64,
      beside-most queue l.done,
      edited_by-size l.records (lacked l queue run),
    )
