-- The sizes of the parts of a leaf are the lengths of their spellings.
use Rattle.std.proofs.Common.{◌≡◌, ℕ, zero, suc, ◌+◌, ◌-◌, ◌≤◌, ◌^◌, true, false, List, [], ◌∷◌, ◌++◌, length, Option, Some, None, refl, sym, ap, subst, ◌∙◌, arith}
use Rattle.std.specs.Prelude.{filter, vec_len}
use Rattle.std.specs.Global.{Vec}
use Rattle.std.specs.Vec.{vec_capacity}
use Rattle.std.specs.Int.{w16, w64, to_be_bytes}
use Rattle.std.proofs.lemmas.List.{length-append}
use Rattle.byte_format.specs.Adds.{Adds}
use Rattle.leaf_view.specs.declared.done.Done.{Done}
use Rattle.leaf_view.specs.Leaf.{Entry, Leaf, leaf}
use Rattle.log_codec.specs.declared.record.PuItem.{PuItem}
use Rattle.leaf_edit.specs.Applied.{applied, applied_length}
use Rattle.leaf_edit.specs.Edited.{edited_by}
use Rattle.leaf_edit.specs.Lacked.{lacked}
use Rattle.leaf_edit.specs.Raised.{AreRaised, own_entries, raised, raised_number, with_done}
use Rattle.leaf_edit.specs.Sizes.{high_size, fields_size, dones_size, attr_size, entry_size, entry_size_of, entries_size, leaf_size, IsSize}
use Rattle.leaf_edit.proofs.DoneBytes.{dones_before-rest, next-own}
use Rattle.leaf_edit.proofs.Spellings.{leaf-spelled}
use Rattle.leaf_edit.proofs.Whole.{head-is}
use Rattle.leaf_edit.specs.Spelled.{high_bytes, fields_bytes, head_bytes, done_bytes, dones_before, attr_bytes, entry_bytes, entry_bytes_of, entries_bytes, is_beside}

-- ---- what is appended takes so much of the room

pub adds-len : (old new : Vec ℕ) (bytes : List ℕ) → Adds old new bytes → vec_len new ≡ vec_len old + length bytes
adds-len old new bytes h = new.ok.0 ∙ (ap (λ l. length l) h.items ∙ (length-append old.items bytes ∙ ap (λ n. n + length bytes) (sym old.ok.0)))

pub adds-room : (old new : Vec ℕ) (bytes : List ℕ) (size more : ℕ) → Adds old new bytes → length bytes ≡ size
    → vec_len old + (size + more) ≤ vec_capacity old → vec_len new + more ≤ vec_capacity new
adds-room old new bytes size more h is room = omega (arith, adds-len old new bytes h, h.capacity)

-- ---- a size that was counted

pub no-size : (r : Option ℕ) (n : ℕ) → r ≡ None → 2 ^ 64 ≤ n → IsSize r n
no-size r n none h = let P : Option ℕ → Type 0 = λ r. IsSize r n in subst P (sym none) h

pub same-size : (r : Option ℕ) (m n : ℕ) → IsSize r m → m ≡ n → IsSize r n
same-size r m n h e = subst (IsSize r) e h

-- ---- the parts

pub dones-size : (ds : List Done) → length (dones_before ds []) ≡ dones_size ds
dones-size [] = refl
dones-size (d ∷ ds) = length-append (done_bytes d) (dones_before ds []) ∙ ap (λ n. 18 + n) (dones-size ds)

pub dones-size-append : (ds es : List Done) → dones_size (ds ++ es) ≡ dones_size ds + dones_size es
dones-size-append [] es = omega arith
dones-size-append (d ∷ ds) es = omega (arith, dones-size-append ds es)

pub attr-size : (attr : Option (List ℕ)) → length (attr_bytes attr) ≡ 1 + attr_size attr
attr-size None = refl
attr-size (Some attr) = omega arith

pub entry-size : (e : Entry) → length (entry_bytes e) ≡ entry_size e
entry-size e =
    omega (
      arith,
      length-append e.key ((to_be_bytes w16 (length e.value.payload) ++ e.value.payload) ++ attr_bytes e.value.attr),
      length-append e.value.payload (attr_bytes e.value.attr),
      attr-size e.value.attr,
    )

pub entries-size : (es : List Entry) → length (entries_bytes es) ≡ entries_size es
entries-size [] = refl
entries-size (e ∷ es) = omega (arith, length-append (entry_bytes e) (entries_bytes es), entry-size e, entries-size es)

pub high-size : (high : Option (List ℕ)) → length (high_bytes high) ≡ high_size high
high-size None = refl
high-size (Some key) = omega arith

pub fields-size : (version : ℕ) (low : List ℕ) (right : ℕ) (high : Option (List ℕ)) → length (fields_bytes version low right high) ≡ fields_size low high
fields-size version low right high = omega (arith, length-append low (to_be_bytes w64 right ++ high_bytes high), high-size high)

-- ---- the table

with_done-size : (queue client n : ℕ) (ds : List Done) → dones_size (with_done queue client n ds) ≡ dones_size (with_done queue client n []) + dones_size ds
with_done-size queue client zero ds = omega arith
with_done-size queue client (suc n) ds = omega arith

pub own-size : (queue : ℕ) (number : ℕ → ℕ) (left left' : ℕ) → left ≡ left' + 1
    → dones_size (own_entries queue number left) ≡ dones_size (with_done queue (64 - left') (number (64 - left')) []) + dones_size (own_entries queue number left')
unfolding own_entries
own-size queue number zero left' same = absurd (omega arith)
own-size queue number (suc left) left' same = on left' (omega arith)
  where
    on : (left' : ℕ) → left' ≡ left → dones_size (with_done queue (64 - left) (number (64 - left)) (own_entries queue number left))
        ≡ dones_size (with_done queue (64 - left') (number (64 - left')) []) + dones_size (own_entries queue number left')
    on left' e = rw e (with_done-size queue (64 - left) (number (64 - left)) (own_entries queue number left))

pub own-size-at : (queue : ℕ) (number : ℕ → ℕ) (left left' client n : ℕ) → left ≡ left' + 1 → client ≡ 64 - left' → n ≡ number client
    → dones_size (own_entries queue number left) ≡ dones_size (with_done queue client n []) + dones_size (own_entries queue number left')
own-size-at queue number left left' client n e hc hn =
    own-size queue number left left' e ∙ ap (λ ds. dones_size ds + dones_size (own_entries queue number left')) (sym (next-own queue number left' client n hc hn))

pub own-none : (queue : ℕ) (number : ℕ → ℕ) (left : ℕ) → left ≡ 0 → dones_size (own_entries queue number left) ≡ 0
unfolding own_entries
own-none queue number zero e = refl
own-none queue number (suc left) e = absurd (omega arith)

pub raised-size : (ds : List Done) (queue : ℕ) (run : List PuItem) → dones_size (raised ds queue run)
    ≡ dones_size (filter (is_beside false queue) ds)
    + (dones_size (own_entries queue (raised_number ds queue run) 64) + dones_size (filter (is_beside true queue) ds))
raised-size ds queue run = on (filter (is_beside false queue) ds) (own_entries queue (raised_number ds queue run) 64) (filter (is_beside true queue) ds)
  where
    on : (a b c : List Done) → dones_size (a ++ (b ++ c)) ≡ dones_size a + (dones_size b + dones_size c)
    on a b c = dones-size-append a (b ++ c) ∙ ap (λ n. dones_size a + n) (dones-size-append b c)

-- the queue's own entries, by the numbers that were found for its clients
pub own-raised : (ds : List Done) (queue : ℕ) (run : List PuItem) (number : ℕ → ℕ) → AreRaised ds queue run number
    → own_entries queue number 64 ≡ own_entries queue (raised_number ds queue run) 64
own-raised ds queue run number h = ap (λ (f : ℕ → ℕ). own_entries queue f 64) (λ i client. h.each client i)

pub own-raised-bytes : (ds : List Done) (queue : ℕ) (run : List PuItem) (number : ℕ → ℕ) (out new : List ℕ) → AreRaised ds queue run number
    → new ≡ out ++ dones_before (own_entries queue number 64) [] → new ≡ out ++ dones_before (own_entries queue (raised_number ds queue run) 64) []
own-raised-bytes ds queue run number out new h e = e ∙ ap (λ (own : List Done). out ++ dones_before own []) (own-raised ds queue run number h)

-- the room behind the entries of lower queues
pub table-behind : (ds l : List Done) (queue : ℕ) (run : List PuItem) (old new : Vec ℕ) → l ≡ ds
    → vec_len old + dones_size (raised ds queue run) ≤ vec_capacity old → Adds old new (dones_before (filter (is_beside false queue) l) [])
    → vec_len new + (dones_size (own_entries queue (raised_number ds queue run) 64) + dones_size (filter (is_beside true queue) ds)) ≤ vec_capacity new
table-behind ds l queue run old new same room added =
    adds-room old new _ (dones_size (filter (is_beside false queue) l))
    (dones_size (own_entries queue (raised_number ds queue run) 64) + dones_size (filter (is_beside true queue) ds)) added (dones-size _)
    (omega (arith, raised-size ds queue run, ap (λ ds. dones_size (filter (is_beside false queue) ds)) same))

-- ---- a leaf

pub leaf-size : (l : Leaf) → l.format ≡ 2 → length (leaf.spelling l) ≡ leaf_size l
leaf-size l format =
    ap (λ b. length b) (leaf-spelled l format
    ∙ (ap (λ h. h ++ dones_before l.done (0 ∷ entries_bytes l.records)) (sym (head-is l l.version))
    ∙ ap (λ d. head_bytes l l.version ++ d) (dones_before-rest l.done (0 ∷ entries_bytes l.records))))
    ∙ omega (
      arith,
      length-append (head_bytes l l.version) (dones_before l.done [] ++ 0 ∷ entries_bytes l.records),
      length-append (dones_before l.done []) (0 ∷ entries_bytes l.records),
      fields-size l.version l.low l.right l.high,
      dones-size l.done,
      entries-size l.records,
    )

-- ---- the room of a merge

pub room-whole : (l : Leaf) (queue : ℕ) (run : List PuItem) (out : Vec ℕ) → out.items ≡ [] → applied_length l queue run ≤ vec_capacity out
    → vec_len out + (fields_size l.low l.high + (dones_size (raised l.done queue run) + (1 + entries_size (edited_by l.records (lacked l queue run))))) ≤ vec_capacity out
room-whole l queue run out empty room = omega (arith, leaf-size (applied l queue run) refl, out.ok.0, ap (λ bytes. length bytes) empty)

-- behind the head
pub room-table : (l : Leaf) (queue : ℕ) (run : List PuItem) (version : ℕ) (out a : Vec ℕ) → out.items ≡ [] → applied_length l queue run ≤ vec_capacity out
    → Adds out a (head_bytes l version)
    → vec_len a + (dones_size (raised l.done queue run) + (1 + entries_size (edited_by l.records (lacked l queue run)))) ≤ vec_capacity a
room-table l queue run version out a empty room added =
    adds-room out a _ (fields_size l.low l.high) (dones_size (raised l.done queue run) + (1 + entries_size (edited_by l.records (lacked l queue run))))
    added (fields-size version l.low l.right l.high) (room-whole l queue run out empty room)

-- behind the table
pub room-mark : (l : Leaf) (queue : ℕ) (run : List PuItem) (version : ℕ) (out a b : Vec ℕ) → out.items ≡ [] → applied_length l queue run ≤ vec_capacity out
    → Adds out a (head_bytes l version) → Adds a b (dones_before (raised l.done queue run) [])
    → vec_len b + (1 + entries_size (edited_by l.records (lacked l queue run))) ≤ vec_capacity b
room-mark l queue run version out a b empty room first second =
    adds-room a b _ (dones_size (raised l.done queue run)) (1 + entries_size (edited_by l.records (lacked l queue run)))
    second (dones-size (raised l.done queue run)) (room-table l queue run version out a empty room first)

-- behind the mark of its end
pub room-records : (l : Leaf) (queue : ℕ) (run : List PuItem) (version : ℕ) (rs : List Entry) (cs : List PuItem) (out a b c : Vec ℕ)
    → rs ≡ l.records → cs ≡ lacked l queue run → out.items ≡ [] → applied_length l queue run ≤ vec_capacity out
    → Adds out a (head_bytes l version) → Adds a b (dones_before (raised l.done queue run) []) → Adds b c (0 ∷ [])
    → vec_len c + entries_size (edited_by rs cs) ≤ vec_capacity c
room-records l queue run version rs cs out a b c hrs hcs empty room first second third =
    adds-room b c _ 1 (entries_size (edited_by rs cs)) third refl
    (omega (
      arith,
      room-mark l queue run version out a b empty room first second,
      ap (λ rs. entries_size (edited_by rs cs)) hrs,
      ap (λ cs. entries_size (edited_by l.records cs)) hcs,
    ))

-- ---- a step of a merge

pub known-size : (known : Option Entry) → length (entry_bytes_of known) ≡ entry_size_of known
known-size None = refl
known-size (Some e) = entry-size e
