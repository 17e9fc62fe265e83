-- A leaf that was read has a high key only where it has a right page.
use Rattle.std.proofs.Common.{◌≡◌, ℕ, zero, suc, Bool, true, false, cond, List, length, Option, None, Result, Ok, Err, refl, sym, ap, subst}
use Rattle.std.specs.Prelude.{◌==◌, not}
use Rattle.std.specs.Int.{w8, w64}
use Rattle.byte_format.specs.Format.{Format, ◌>>=◌, greatest, number, text, behind, ◌then◌, seen_as, mark_at, option_at, list_of}
use Rattle.byte_format.specs.HighKey.{key_above, high_key}
use Rattle.byte_format.specs.Whole.{whole}
use Rattle.leaf_view.specs.Leaf.{Leaf, Head, Heads, head_of, head_parts, leaf, leaf_head, leaf_of, leaf_parts, done_item, record_item}
use Rattle.leaf_view.specs.Lookup.{page_at}

-- no high key without a right page
abbrev pub HasSides : ℕ → Option (List ℕ) → Type 0
HasSides right high = page_at right ≡ None → high ≡ None

-- ---- what parts of a format were read

pub bound : {A B : Type 0} (r : Result A ℕ) (next : A → Result B ℕ) (y : B) → (r >>= next) ≡ Ok y → (x : A) × (r ≡ Ok x) × (next x ≡ Ok y)
bound (Ok x) next y e = (x, refl, e)
bound (Err left) next y e = absurd (cc (e))

abbrev pub read_as : {A : Type 0} → A → Result A ℕ
read_as x = Ok x

pub of_ok : {A : Type 0} (x y : A) → read_as x ≡ read_as y → x ≡ y
of_ok x y e = cc (e)

pub seen_read : {A B : Type 0} (view : A → B) (back : B → A) (f : Format A) (bytes : List ℕ) (y : B × List ℕ) → (seen_as view back f).reading bytes ≡ Ok y
    → (x : A × List ℕ) × (f.reading bytes ≡ Ok x) × (view x.0 ≡ y.0)
seen_read {A} {B} view back f bytes y e =
    let b = bound (f.reading bytes) (λ (x : A × List ℕ). Ok (view x.0, x.1)) y e in
    (b.0, b.1, ap (λ (p : B × List ℕ). p.0) (of_ok (view b.0.0, b.0.1) y b.2))

pub behind_read : {A : Type 0} (mark : ℕ) (f : Format A) (bytes : List ℕ) (y : A × List ℕ) → (behind mark f).reading bytes ≡ Ok y → (rest : List ℕ) × (f.reading rest ≡ Ok y)
behind_read mark f bytes y e = let b = bound (mark_at mark bytes) f.reading y e in (b.0, b.2)

-- both parts of a sequence
pub then_read : {A B : Type 0} (f : Format A) (g : A → Format B) (bytes : List ℕ) (y : (A × B) × List ℕ) → (f then g).reading bytes ≡ Ok y
    → (rest : List ℕ) × (f.reading bytes ≡ Ok (y.0.0, rest)) × ((g y.0.0).reading rest ≡ Ok (y.0.1, y.1))
then_read {A} {B} f g bytes y e =
    let first = bound (f.reading bytes) (λ (a : A × List ℕ). (g a.0).reading a.1 >>= λ (b : B × List ℕ). Ok ((a.0, b.0), b.1)) y e in
    let second = bound ((g first.0.0).reading first.0.1) (λ (b : B × List ℕ). Ok ((first.0.0, b.0), b.1)) y first.2 in
    let P : (A × B) × List ℕ → Type 0 = λ z. (rest : List ℕ) × (f.reading bytes ≡ Ok (z.0.0, rest)) × ((g z.0.0).reading rest ≡ Ok (z.0.1, z.1)) in
    subst P (of_ok ((first.0.0, second.0.0), second.0.1) y second.2) (first.0.1, first.1, second.1)

pub whole_read : {A : Type 0} (f : Format A) (bytes : List ℕ) (y : A) → whole f bytes ≡ Ok y → (x : A × List ℕ) × (f.reading bytes ≡ Ok x) × (x.0 ≡ y)
whole_read {A} f bytes y e =
    let b = bound (f.reading bytes) (λ (x : A × List ℕ). cond (length x.1 == 0) (Ok x.0) (Err (length x.1))) y e in
    (b.0, b.1, on b.0 (length b.0.1 == 0) b.2) where
      on : (x : A × List ℕ) (b : Bool) → cond b (Ok x.0) (Err (length x.1)) ≡ Ok y → x.0 ≡ y
      on x true h = of_ok x.0 y h
      on x false h = absurd (cc (h))

pub option_read : (f : Format (List ℕ)) (bytes : List ℕ) (right : ℕ) (x : Option (List ℕ) × List ℕ) → option_at (not (right == 0)) f bytes ≡ Ok x → HasSides right x.0
option_read f bytes zero x e = λ none. sym (ap (λ (p : Option (List ℕ) × List ℕ). p.0) (of_ok (None, bytes) x e))
option_read f bytes (suc n) x e = λ none. absurd (cc (none))

-- ---- a leaf

abbrev from_right : List ℕ → Format (ℕ × Option (List ℕ))
from_right low = number w64 0 greatest then λ right. high_key low right

abbrev from_low : Format (List ℕ × (ℕ × Option (List ℕ)))
from_low = text w8 0 64 then λ low. from_right low

abbrev from_version : Format (ℕ × (List ℕ × (ℕ × Option (List ℕ))))
from_version = number w64 1 greatest then λ version. from_low

abbrev from_format : Format Heads
from_format = number w8 1 2 then λ format. from_version

pub head_sides : (bytes : List ℕ) (x : Head × List ℕ) → leaf_head.reading bytes ≡ Ok x → HasSides x.0.right x.0.high
unfolding leaf_head
head_sides bytes x e =
    let s = seen_read head_of head_parts (behind 76 from_format) bytes x e in
    let b = behind_read 76 from_format bytes s.0 s.1 in
    let c = then_read (number w8 1 2) (λ format. from_version) b.0 s.0 b.1 in
    let v = then_read (number w64 1 greatest) (λ version. from_low) c.0 (s.0.0.1, s.0.1) c.2 in
    let l = then_read (text w8 0 64) from_right v.0 (s.0.0.1.1, s.0.1) v.2 in
    let r = then_read (number w64 0 greatest) (high_key s.0.0.1.1.0) l.0 (s.0.0.1.1.1, s.0.1) l.2 in
    let sides : HasSides s.0.0.1.1.1.0 s.0.0.1.1.1.1 = option_read (key_above s.0.0.1.1.0) r.0 s.0.0.1.1.1.0 (s.0.0.1.1.1.1, s.0.1) r.2 in
    subst (λ (h : Head). HasSides h.right h.high) s.2 sides

pub read_sides : (bytes : List ℕ) (l : Leaf) → whole leaf bytes ≡ Ok l → HasSides l.right l.high
unfolding leaf
read_sides bytes l e =
    let w = whole_read leaf bytes l e in
    let s = seen_read leaf_of leaf_parts (leaf_head then λ head. list_of true done_item None then λ done. list_of true (record_item head.format head.low head.high) None) bytes w.0 w.1 in
    let t = then_read leaf_head (λ head. list_of true done_item None then λ done. list_of true (record_item head.format head.low head.high) None) bytes s.0 s.1 in
    let sides : HasSides s.0.0.0.right s.0.0.0.high = head_sides bytes (s.0.0.0, t.0) t.1 in
    let read : HasSides w.0.0.right w.0.0.high = subst (λ (k : Leaf). HasSides k.right k.high) s.2 sides in
    subst (λ (k : Leaf). HasSides k.right k.high) w.2 read
