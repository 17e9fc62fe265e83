-- The records of a leaf that a get answered ascend.
use Rattle.std.proofs.Common.{◌≡◌, ℕ, zero, suc, Bool, true, false, not, List, [], ◌∷◌, length, Option, Some, None, Ok, ap, subst}
use Rattle.std.specs.Prelude.{◌&&◌, if◌then◌else◌}
use Rattle.std.specs.Int.{w8, w16}
use Rattle.std.proofs.lemmas.Bool.{and_parts}
use Rattle.byte_format.specs.Format.{Reading, Format, ◌>>=◌, guarded, text, ruled, ◌then◌, more_at, list_from, list_at, list_of}
use Rattle.byte_format.specs.Order.{below_bound, bytes_below}
use Rattle.byte_format.proofs.Steps.{bind_ok, ok_is, guarded_ok}
use Rattle.leaf_view.specs.Fits.{Behind, Ascend, entry_below}
use Rattle.leaf_view.specs.Leaf.{Leaf, Entry, leaf_head, leaf, leaf_of, leaf_parts, done_item, record_item, entry_of, entry_parts, attribute, key_stands, above_entry}
use Rattle.leaf_view.specs.Lookup.{empty_leaf}
use Rattle.page_cache.specs.Held.{as_leaf}
use Rattle.attr_index.proofs.Highs.{WasRead, first_read, second_read, seen_read, whole_read, behind_head}

-- ---- the items of a list, each read behind the one before it

AreRead : {A : Type 0} → (Option A → Format A) → Option A → List A → Type 0
AreRead item before [] = Unit {0}
AreRead item before (x ∷ xs) = WasRead (item before) x × AreRead item (Some x) xs

abbrev with_first : {A : Type 0} → A → List A × List ℕ → Reading (List A)
with_first x xs = Ok (x ∷ xs.0, xs.1)

abbrev behind_first : {A : Type 0} → (Option A → Format A) → ℕ → A × List ℕ → Reading (List A)
behind_first item room x = list_from room true item (Some x.0) x.1 >>= with_first x.0

abbrev from_more : {A : Type 0} → (Option A → Format A) → ℕ → Option A → Bool × List ℕ → Reading (List A)
from_more item room before more = if more.0 then ((item before).reading more.1 >>= behind_first item room) else Ok ([], more.1)

from_read : {A : Type 0} (item : Option A → Format A) (room : ℕ) (may_end : Bool) (before : Option A) (bytes rest : List ℕ) (xs : List A)
    → list_from room may_end item before bytes ≡ Ok (xs, rest) → AreRead item before xs
unfolding WasRead AreRead
from_read item zero may_end before bytes rest xs is = absurd (cc (is))
from_read {A} item (suc room) may_end before bytes rest xs is =
    let m = bind_ok (more_at may_end bytes) (from_more item room before) (xs, rest) is in
    on m.0.0 m.0.1 m.2 (λ b some others ys h. from_read item room true b some others ys h)
  where
    on : (more : Bool) (left : List ℕ) → from_more item room before (more, left) ≡ Ok (xs, rest)
        → ((b : Option A) (some others : List ℕ) (ys : List A) → list_from room true item b some ≡ Ok (ys, others) → AreRead item b ys)
        → AreRead item before xs
    on true left h again =
        let x = bind_ok ((item before).reading left) (behind_first item room) (xs, rest) h in
        let ys = bind_ok (list_from room true item (Some x.0.0) x.0.1) (with_first x.0.0) (xs, rest) x.2 in
        let same : x.0.0 ∷ ys.0.0 ≡ xs = ap (λ (y : List A × List ℕ). y.0) (ok_is (x.0.0 ∷ ys.0.0, ys.0.1) (xs, rest) ys.2) in
        subst (AreRead item before) same ((left, x.0.1, x.1), again (Some x.0.0) x.0.1 ys.0.1 ys.0.0 ys.1)
    on false left h again =
        let same : [] ≡ xs = ap (λ (y : List A × List ℕ). y.0) (ok_is ([], left) (xs, rest) h) in
        subst (AreRead item before) same tt

list_read : {A : Type 0} (item : Option A → Format A) (xs : List A) → WasRead (list_of true item None) xs → AreRead item None xs
unfolding WasRead list_at
list_read item xs (bytes, rest, is) = from_read item (suc (length bytes)) true None bytes rest xs is

-- ---- records

rule_read : {A : Type 0} (rule : A → Bool) (f : Format A) (v : A) → WasRead (ruled rule f) v → rule v ≡ true
unfolding WasRead
rule_read {A} rule f v (bytes, rest, is) =
    let x = bind_ok (f.reading bytes) (λ (x : A × List ℕ). guarded (rule x.0) bytes x) (v, rest) is in
    let g = guarded_ok (rule x.0.0) bytes x.0 (v, rest) x.2 in
    subst (λ (y : A × List ℕ). rule y.0 ≡ true) g.1 g.0

item_behind : (format : ℕ) (low : List ℕ) (high : Option (List ℕ)) (before : Option Entry) (e : Entry) → WasRead (record_item format low high before) e
    → Behind entry_below before e
unfolding record_item
item_behind format low high before e read =
    let keys = ruled (key_stands low high before) (text w8 1 64) in
    let x = seen_read entry_of entry_parts (keys then λ key. text w16 0 1024 then λ payload. attribute format) e read in
    let key = rule_read (key_stands low high before) (text w8 1 64) x.0.0 (first_read keys (λ key. text w16 0 1024 then λ payload. attribute format) x.0 x.1) in
    subst (λ (k : Entry). Behind entry_below before k) x.2
    (on before (entry_of x.0) (and_parts (not (bytes_below x.0.0 low) && below_bound x.0.0 high) (above_entry before x.0.0) key).1)
  where
    on : (b : Option Entry) (k : Entry) → above_entry b k.key ≡ true → Behind entry_below b k
    on None k h = tt
    on (Some d) k h = h

items_ascend : (format : ℕ) (low : List ℕ) (high : Option (List ℕ)) (before : Option Entry) (es : List Entry) → AreRead (record_item format low high) before es
    → Ascend entry_below before es
unfolding AreRead
items_ascend format low high before [] h = tt
items_ascend format low high before (e ∷ es) h = (item_behind format low high before e h.0, items_ascend format low high (Some e) es h.1)

leaf_ascends : (l : Leaf) → WasRead leaf l → Ascend entry_below None l.records
unfolding leaf
leaf_ascends l read =
    let x = seen_read leaf_of leaf_parts (leaf_head then behind_head) l read in
    let lists = second_read leaf_head behind_head x.0 x.1 in
    let head = x.0.0 in
    let records = second_read (list_of true done_item None) (λ done. list_of true (record_item head.format head.low head.high) None) x.0.1 lists in
    subst (λ (k : Leaf). Ascend entry_below None k.records) x.2
    (items_ascend head.format head.low head.high None x.0.1.1 (list_read (record_item head.format head.low head.high) x.0.1.1 records))

pub got_ascends : (got : Option (List ℕ)) (l : Leaf) → as_leaf (Some got) ≡ Some l → Ascend entry_below None l.records
got_ascends None l e = let same : empty_leaf ≡ l = cc (e) in subst (λ (k : Leaf). Ascend entry_below None k.records) same tt
got_ascends (Some bytes) l e = leaf_ascends l (whole_read bytes l e)
