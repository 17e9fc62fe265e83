-- The high key of a leaf that a cache keeps has at most 64 bytes.
use Rattle.std.proofs.Common.{◌≡◌, ℕ, ◌≤◌, Bool, true, false, List, length, take, drop, Option, Some, None, Ok, Err, refl, ap, subst, arith}
use Rattle.std.specs.Prelude.{◌==◌, nat_le, IfSome, if◌then◌else◌}
use Rattle.std.specs.Int.{Width, w8, w64}
use Rattle.std.specs.Result.{result_ok}
use Rattle.std.proofs.lemmas.Bool.{and_parts, leb-true}
use Rattle.std.proofs.lemmas.List.{length-take}
use Rattle.byte_format.specs.Format.{Reading, Format, ◌>>=◌, greatest, guarded, in_range, unsigned_at, number_at, number, text_at, text, ruled, ◌then◌, mark_at, behind, option_at, only_where, seen_as, list_of}
use Rattle.byte_format.specs.HighKey.{key_above, high_key}
use Rattle.byte_format.specs.Order.{bytes_below}
use Rattle.byte_format.proofs.Steps.{bind_ok, ok_is, guarded_ok}
use Rattle.db_base.specs.declared.names.ObjName.TheVariants as object
use Rattle.leaf_view.specs.declared.done.Done.{Done}
use Rattle.leaf_view.specs.Leaf.{Head, Leaf, Entry, Heads, head_of, head_parts, leaf_head, leaf, leaf_of, leaf_parts, done_item, record_item}
use Rattle.leaf_view.specs.Lookup.{empty_leaf}
use Rattle.page_cache.specs.Cache.{Cache, kept_at}
use Rattle.page_cache.specs.Held.{leaf_in, as_leaf, leaf_at}

-- ---- what was read, at the front of some bytes

unfoldable pub WasRead : {A : Type 0} → Format A → A → Type 0
WasRead f v = (bytes : List ℕ) × (rest : List ℕ) × (f.reading bytes ≡ Ok (v, rest))

pub first_read : {A B : Type 0} (f : Format A) (g : A → Format B) (v : A × B) → WasRead (f then g) v → WasRead f v.0
unfolding WasRead
first_read {A} {B} f g v (bytes, rest, is) =
    let a = bind_ok (f.reading bytes) (λ a. (g a.0).reading a.1 >>= λ b. Ok ((a.0, b.0), b.1)) (v, rest) is in
    let b = bind_ok ((g a.0.0).reading a.0.1) (λ (b : B × List ℕ). Ok ((a.0.0, b.0), b.1)) (v, rest) a.2 in
    let same : a.0.0 ≡ v.0 = ap (λ (x : (A × B) × List ℕ). x.0.0) (ok_is ((a.0.0, b.0.0), b.0.1) (v, rest) b.2) in
    (bytes, a.0.1, subst (λ (x : A). f.reading bytes ≡ Ok (x, a.0.1)) same a.1)

pub second_read : {A B : Type 0} (f : Format A) (g : A → Format B) (v : A × B) → WasRead (f then g) v → WasRead (g v.0) v.1
unfolding WasRead
second_read {A} {B} f g v (bytes, rest, is) =
    let a = bind_ok (f.reading bytes) (λ a. (g a.0).reading a.1 >>= λ b. Ok ((a.0, b.0), b.1)) (v, rest) is in
    let b = bind_ok ((g a.0.0).reading a.0.1) (λ (b : B × List ℕ). Ok ((a.0.0, b.0), b.1)) (v, rest) a.2 in
    let same : ◌≡◌ {A = A × B} (a.0.0, b.0.0) v = ap (λ (x : (A × B) × List ℕ). x.0) (ok_is ((a.0.0, b.0.0), b.0.1) (v, rest) b.2) in
    (a.0.1, b.0.1, subst (λ (x : A × B). (g x.0).reading a.0.1 ≡ Ok (x.1, b.0.1)) same b.1)

pub seen_read : {A B : Type 0} (view : A → B) (back : B → A) (f : Format A) (v : B) → WasRead (seen_as view back f) v
    → (x : A) × WasRead f x × (view x ≡ v)
unfolding WasRead
seen_read {A} {B} view back f v (bytes, rest, is) =
    let x = bind_ok (f.reading bytes) (λ (x : A × List ℕ). Ok (view x.0, x.1)) (v, rest) is in
    (x.0.0, (bytes, x.0.1, x.1), ap (λ (y : B × List ℕ). y.0) (ok_is (view x.0.0, x.0.1) (v, rest) x.2))

marked_read : {A : Type 0} (mark : ℕ) (f : Format A) (v : A) → WasRead (behind mark f) v → WasRead f v
unfolding WasRead
marked_read mark f v (bytes, rest, is) = let r = bind_ok (mark_at mark bytes) f.reading (v, rest) is in (r.0, rest, r.2)

where_read : {A : Type 0} (there : Bool) (f : Format A) (v : A) → WasRead (only_where there f) (Some v) → WasRead f v
unfolding WasRead
where_read {A} there f v (bytes, rest, is) = on there is where
  on : (b : Bool) → option_at b f bytes ≡ Ok (Some v, rest) → WasRead f v
  on true is =
      let x = bind_ok (f.reading bytes) (λ (x : A × List ℕ). Ok (Some x.0, x.1)) (Some v, rest) is in
      let some : ◌≡◌ {A = Option A} (Some x.0.0) (Some v) = ap (λ (y : Option A × List ℕ). y.0) (ok_is (Some x.0.0, x.0.1) (Some v, rest) x.2) in
      let same : x.0.0 ≡ v = cc (some) in
      (bytes, x.0.1, subst (λ (y : A). f.reading bytes ≡ Ok (y, x.0.1)) same x.1)
  on false is =
      let apart : ◌≡◌ {A = Option A} None (Some v) = ap (λ (x : Option A × List ℕ). x.0) (ok_is (None, bytes) (Some v, rest) is) in
      absurd (cc (apart))

ruled_read : {A : Type 0} (rule : A → Bool) (f : Format A) (v : A) → WasRead (ruled rule f) v → WasRead f v
unfolding WasRead
ruled_read {A} rule f v (bytes, rest, is) =
    let x = bind_ok (f.reading bytes) (λ (x : A × List ℕ). guarded (rule x.0) bytes x) (v, rest) is in
    let g = guarded_ok (rule x.0.0) bytes x.0 (v, rest) x.2 in
    (bytes, rest, subst (λ (y : A × List ℕ). f.reading bytes ≡ Ok y) g.1 x.1)

number_most : (w : Width) (least most : ℕ) (bytes : List ℕ) (n : ℕ × List ℕ) → number_at w least most bytes ≡ Ok n → n.0 ≤ most
unfolding number_at
number_most w least most bytes n is =
    let m = bind_ok (unsigned_at w bytes) (λ m. guarded (in_range least most m.0) bytes m) n is in
    let g = guarded_ok (in_range least most m.0.0) bytes m.0 n m.2 in
    subst (λ (x : ℕ × List ℕ). x.0 ≤ most) g.1 (leb-true m.0.0 most (and_parts (nat_le least m.0.0) (nat_le m.0.0 most) g.0).1)

text_most : (w : Width) (least most : ℕ) (t : List ℕ) → WasRead (text w least most) t → length t ≤ most
unfolding WasRead text_at
text_most w least most t (bytes, rest, is) =
    let n = bind_ok (number_at w least most bytes) (λ n. guarded (nat_le n.0 (length n.1)) bytes (take n.0 n.1, drop n.0 n.1)) (t, rest) is in
    let g = guarded_ok (nat_le n.0.0 (length n.0.1)) bytes (take n.0.0 n.0.1, drop n.0.0 n.0.1) (t, rest) n.2 in
    let same : length (take n.0.0 n.0.1) ≡ length t = ap (λ (x : List ℕ × List ℕ). length x.0) g.1 in
    omega (arith, number_most w least most bytes n.0 n.1, length-take n.0.0 n.0.1, same)

-- ---- a leaf

high_most : (low : List ℕ) (right : ℕ) (high : Option (List ℕ)) → WasRead (high_key low right) high → IfSome high (λ h. length h ≤ 64)
high_most low right None read = tt
high_most low right (Some h) read = text_most w8 1 64 h (ruled_read (bytes_below low) (text w8 1 64) h (where_read _ (key_above low) h read))

abbrev behind_low : List ℕ → Format (ℕ × Option (List ℕ))
behind_low low = number w64 0 greatest then λ right. high_key low right

abbrev behind_version : Format (List ℕ × (ℕ × Option (List ℕ)))
behind_version = text w8 0 64 then behind_low

abbrev behind_format : Format (ℕ × (List ℕ × (ℕ × Option (List ℕ))))
behind_format = number w64 1 greatest then λ version. behind_version

abbrev behind_mark : Format Heads
behind_mark = number w8 1 2 then λ format. behind_format

low_most : (v : List ℕ × (ℕ × Option (List ℕ))) → WasRead behind_version v → IfSome v.1.1 (λ h. length h ≤ 64)
low_most v read =
    high_most v.0 v.1.0 v.1.1 (second_read (number w64 0 greatest) (λ right. high_key v.0 right) v.1 (second_read (text w8 0 64) behind_low v read))

mark_most : (v : Heads) → WasRead behind_mark v → IfSome v.1.1.1.1 (λ h. length h ≤ 64)
mark_most v read =
    low_most v.1.1 (second_read (number w64 1 greatest) (λ version. behind_version) v.1 (second_read (number w8 1 2) (λ format. behind_format) v read))

head_most : (head : Head) → WasRead leaf_head head → IfSome head.high (λ h. length h ≤ 64)
unfolding leaf_head
head_most head read =
    let x = seen_read head_of head_parts (behind 76 behind_mark) head read in
    subst (λ (k : Head). IfSome k.high (λ h. length h ≤ 64)) x.2 (mark_most x.0 (marked_read 76 behind_mark x.0 x.1))

abbrev pub behind_head : Head → Format (List Done × List Entry)
behind_head head = list_of true done_item None then λ done. list_of true (record_item head.format head.low head.high) None

leaf_most : (l : Leaf) → WasRead leaf l → IfSome l.high (λ h. length h ≤ 64)
unfolding leaf
leaf_most l read =
    let x = seen_read leaf_of leaf_parts (leaf_head then behind_head) l read in
    subst (λ (k : Leaf). IfSome k.high (λ h. length h ≤ 64)) x.2 (head_most x.0.0 (first_read leaf_head behind_head x.0 x.1))

pub whole_read : (bytes : List ℕ) (l : Leaf) → leaf_in bytes ≡ Some l → WasRead leaf l
unfolding leaf_in WasRead
whole_read bytes l e = on (leaf.reading bytes) refl e where
  ended : (x : Leaf × List ℕ) (b : Bool) → leaf.reading bytes ≡ Ok x → result_ok (if b then Ok x.0 else Err (length x.1)) ≡ Some l → WasRead leaf l
  ended x true read is = let same : x.0 ≡ l = cc (is) in (bytes, x.1, subst (λ (k : Leaf). leaf.reading bytes ≡ Ok (k, x.1)) same read)
  ended x false read is = absurd (cc (is))

  on : (r : Reading Leaf) → leaf.reading bytes ≡ r
      → result_ok (r >>= λ x. if length x.1 == 0 then Ok x.0 else Err (length x.1)) ≡ Some l → WasRead leaf l
  on (Ok x) read is = ended x (length x.1 == 0) read is
  on (Err left) read is = absurd (cc (is))

-- .. and so is that of a leaf that was never put
pub kept_short : (c : Cache) (tree page : ℕ) (l : Leaf) → leaf_at c (object.Page tree page) ≡ Some l → IfSome l.high (λ h. length h ≤ 64)
kept_short c tree page l = on (kept_at c (object.Page tree page)) where
  on : (o : Option (Option (List ℕ))) → as_leaf o ≡ Some l → IfSome l.high (λ h. length h ≤ 64)
  on None kept = absurd (cc (kept))
  on (Some None) kept = let same : empty_leaf ≡ l = cc (kept) in subst (λ (k : Leaf). IfSome k.high (λ h. length h ≤ 64)) same tt
  on (Some (Some bytes)) kept = leaf_most l (whole_read bytes l kept)
