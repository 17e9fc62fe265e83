-- How many keys stand above a key: fewer above a greater one, and one fewer above the next one.
use Rattle.std.proofs.Common.{◌≡◌, ℕ, zero, suc, ◌+◌, ◌-◌, ◌*◌, ◌^◌, ◌<◌, ◌≤◌, Bool, true, false, cond, eqb, ltb, List, [], ◌∷◌, length, slice_index, refl, ap, ◌∙◌, ◌⊎◌, inl, inr, arith, lit<, lit≤, min, take, drop}
use Rattle.std.specs.Ordering.{nat_cmp, is_lt, ordering_then}
use Rattle.std.specs.declared.cmp.Ordering.{Ordering}
use Rattle.std.specs.declared.cmp.Ordering.TheVariants.{Less, Equal, Greater}
use Rattle.std.proofs.lemmas.Bool.{cases_lt, eqb-true, ltb-true, lt-ltb}
use Rattle.std.proofs.lemmas.Nat.{mul-le}
use Rattle.std.proofs.lemmas.Cmp.{tied_itself, nat_cmp_total}
use Rattle.byte_format.specs.Order.{bytes_below, bytes_cmp}
use Rattle.words.specs.Word.{AreBytes}
use Rattle.words.proofs.Splitting.{take_rest}
use Rattle.dump_text.specs.Room.{keys_within, keys_above}

-- ---- numbers

-- a greater factor outweighs what is below one more of it
outweighs : (p q s x y : ℕ) → p + 1 ≤ q → x < s → p * s + x < q * s + y
outweighs p q s x y more small =
    let m : (p + 1) * s ≤ q * s = mul-le (p + 1) s q s more (omega arith) in
    let e : (p + 1) * s ≡ p * s + s = grind arith in
    omega arith

-- a factor that is positive has one less
one_less : (p q s : ℕ) → q ≡ p + 1 → q * s ≡ p * s + s
one_less p q s e = rw e (grind arith)

-- a product with a factor of at most 255
at_most : (p s : ℕ) → p ≤ 255 → p * s ≤ 255 * s
at_most p s h = mul-le p s 255 s h (omega arith)

-- ---- keys

-- how first bytes compare
compared : (b c : ℕ) (o : Ordering) → is_lt (ordering_then (nat_cmp b c) o) ≡ true → (b < c) ⊎ ((b ≡ c) × (is_lt o ≡ true))
compared b c o h = on (ltb b c) refl (eqb b c) refl h
  where
    on : (less : Bool) → ltb b c ≡ less → (same : Bool) → eqb b c ≡ same → is_lt (ordering_then (cond less Less (cond same Equal Greater)) o) ≡ true → (b < c) ⊎ ((b ≡ c) × (is_lt o ≡ true))
    on true e same f h = inl (ltb-true b c e)
    on false e true f h = inr (eqb-true b c f, h)
    on false e false f h = absurd cc

-- a key that goes on behind the same byte
below_behind : (b : ℕ) (x y : List ℕ) → bytes_below x y ≡ true → bytes_below (b ∷ x) (b ∷ y) ≡ true
below_behind b x y h = ap (λ (o : Ordering). is_lt (ordering_then o (bytes_cmp x y))) (tied_itself nat_cmp_total b) ∙ h

-- a key with a greater first byte
below_first : (b c : ℕ) (x y : List ℕ) → b < c → bytes_below (b ∷ x) (c ∷ y) ≡ true
below_first b c x y h = rw (lt-ltb b c h) refl

above_most : (len : ℕ) (key : List ℕ) → AreBytes key → keys_above len key ≤ keys_within len
unfolding keys_within keys_above
above_most len [] h = omega arith
above_most zero (b ∷ key) h = omega arith
above_most (suc len) (b ∷ key) h =
    let ih = above_most len key (λ i. h (suc i)) in
    let most = at_most (255 - b) (keys_within len + 1) (omega arith) in
    omega arith

-- fewer keys stand above a greater key
pub above_falls : (len : ℕ) (a b : List ℕ) → length b ≤ len → AreBytes b → bytes_below a b ≡ true → keys_above len b < keys_above len a
unfolding keys_within keys_above
above_falls len [] [] short bytes h = absurd cc
above_falls zero [] (c ∷ y) short bytes h = absurd (omega arith)
above_falls (suc len) [] (c ∷ y) short bytes h =
    let ih = above_most len y (λ i. bytes (suc i)) in
    let most = at_most (255 - c) (keys_within len + 1) (omega arith) in
    omega arith
above_falls len (b ∷ x) [] short bytes h = absurd cc
above_falls zero (b ∷ x) (c ∷ y) short bytes h = absurd (omega arith)
above_falls (suc len) (b ∷ x) (c ∷ y) short bytes h =
    let byte : c < 256 = bytes 0 in
    elim (compared b c (bytes_cmp x y) h) [
      | inl less ↦
          let ih = above_most len y (λ i. bytes (suc i)) in
          outweighs (255 - c) (255 - b) (keys_within len + 1) (keys_above len y) (keys_above len x) (omega arith) (omega arith)
      | inr same ↦
          let ih = above_falls len x y (omega arith) (λ i. bytes (suc i)) same.1 in
          let e : b ≡ c = same.0 in
          rw e (omega arith)
    ]

-- the next key of at most so many bytes
pub record Next (len : ℕ) (key : List ℕ) : Type 0 where
  pub next : List ℕ
  pub bytes : AreBytes next
  pub some : 0 < length next
  pub short : length next ≤ len
  pub behind : bytes_below key next ≡ true
  pub left : keys_above len key ≡ keys_above len next + 1

one_byte : (b : ℕ) → b < 256 → AreBytes (b ∷ [])
one_byte b h zero = h
one_byte b h (suc i) = omega arith

byte_more : (b : ℕ) (key : List ℕ) → b < 256 → AreBytes key → AreBytes (b ∷ key)
byte_more b key h bytes zero = h
byte_more b key h bytes (suc i) = bytes i

positive : (p s : ℕ) → 0 < p * s → 0 < p
positive zero s h = absurd (omega arith)
positive (suc p) s h = omega arith

-- where keys stand above a key, one is the next
pub next_of : (len : ℕ) (key : List ℕ) → AreBytes key → length key ≤ len → 0 < keys_above len key → Next len key
unfolding keys_within keys_above
next_of zero [] bytes short more = absurd (omega arith)
next_of (suc len) [] bytes short more = record {
  next = 0 ∷ [];
  bytes = one_byte 0 (lit< tt);
  some = omega arith;
  short = omega arith;
  behind = refl;
  left = omega arith;
}
next_of zero (b ∷ key) bytes short more = absurd (omega arith)
next_of (suc len) (b ∷ key) bytes short more =
    elim (cases_lt 0 (keys_above len key)) [
      | inl some ↦
          let n = next_of len key (λ i. bytes (suc i)) (omega arith) some in
          record {
            next = b ∷ n.next;
            bytes = byte_more b n.next (bytes 0) n.bytes;
            some = omega arith;
            short = let k = n.short in omega arith;
            behind = below_behind b key n.next n.behind;
            left = let k = n.left in omega arith;
          }
      | inr none ↦
          let low : 0 < 255 - b = positive (255 - b) (keys_within len + 1) (omega arith) in
          let e = one_less (255 - (b + 1)) (255 - b) (keys_within len + 1) (omega arith) in
          record {
            next = (b + 1) ∷ [];
            bytes = one_byte (b + 1) (omega arith);
            some = omega arith;
            short = omega arith;
            behind = below_first b (b + 1) key [] (omega arith);
            left = omega arith;
          }
    ]

-- ---- the greatest number

-- at least as many for a byte more
grows : (len : ℕ) → keys_within len ≤ keys_within (suc len)
unfolding keys_within
grows len = omega arith

grown : (more len : ℕ) → keys_within len ≤ keys_within (more + len)
grown zero len = rw zero_more (omega arith)
  where
    zero_more : zero + len ≡ len
    zero_more = omega arith
grown (suc more) len =
    let a = grown more len in
    let b = grows (more + len) in
    let e : suc more + len ≡ suc (more + len) = omega arith in
    rw e (omega arith)

eight_bytes : 2 ^ 64 ≤ keys_within 8
unfolding keys_within
eight_bytes = lit≤ tt

-- with eight bytes and more they are too many for a number
pub too_many : (len : ℕ) → 8 ≤ len → 2 ^ 64 ≤ keys_within len
too_many len h =
    let a = grown (len - 8) 8 in
    let e : (len - 8) + 8 ≡ len = omega arith in
    let b : keys_within 8 ≤ keys_within len = rw e at a in
    let k = eight_bytes in
    omega arith

-- one byte more
pub within_less : (len : ℕ) → 0 < len → keys_within len ≡ 256 * (keys_within (len - 1) + 1)
unfolding keys_within
within_less zero h = absurd (omega arith)
within_less (suc len) h =
    let e : suc len - 1 ≡ len = omega arith in
    rw e refl

pub above_less : (len b : ℕ) (key : List ℕ) → 0 < len → keys_above len (b ∷ key) ≡ (255 - b) * (keys_within (len - 1) + 1) + keys_above (len - 1) key
unfolding keys_above
above_less zero b key h = absurd (omega arith)
above_less (suc len) b key h =
    let e : suc len - 1 ≡ len = omega arith in
    rw e refl

pub none_above : (b : ℕ) (key : List ℕ) → keys_above 0 (b ∷ key) ≡ 0
unfolding keys_above
none_above b key = refl

pub all_above : (len : ℕ) → keys_above len [] ≡ keys_within len
unfolding keys_above
all_above len = refl

-- a count that stops at the greatest number
pub stops : (p k a m : ℕ) → min (min (p * min (min k m + 1) m) m + min a m) m ≡ min (p * (k + 1) + a) m
stops p k a m =
    elim (cases_lt k m) [
      | inl small ↦
          let e : min (min k m + 1) m ≡ k + 1 = omega arith in
          rw e (omega arith)
      | inr great ↦
          let e : min (min k m + 1) m ≡ m = omega arith in
          rw e (on p great)
    ]
  where
    on : (p : ℕ) → m ≤ k → min (min (p * m) m + min a m) m ≡ min (p * (k + 1) + a) m
    on zero h = omega arith
    on (suc p) h =
        let x : suc p * m ≡ p * m + m = grind arith in
        let y : suc p * (k + 1) ≡ p * (k + 1) + (k + 1) = grind arith in
        omega arith

-- ---- as they are counted

pub within_at : (m len r add kw : ℕ) → (len ≡ 0 → ⊥) → r ≡ min (add * 256) m → add ≡ min (kw + 1) m → kw ≡ min (keys_within (len - 1)) m → r ≡ min (keys_within len) m
within_at m len r add kw some p q k =
    let e = within_less len (omega arith) in
    rw e (omega arith)

pub none_within : (m len : ℕ) → len ≡ 0 → 0 ≡ min (keys_within len) m
unfolding keys_within
none_within m zero e = omega arith
none_within m (suc len) e = absurd (omega arith)

pub none_at : (m len : ℕ) (key : List ℕ) → 1 ≤ length key → len ≡ 0 → 0 ≡ min (keys_above len key) m
none_at m len [] some e = absurd (omega arith)
none_at m len (b ∷ key) some e = rw (e, none_above b key) (omega arith)

pub all_at : (len : ℕ) (key : List ℕ) → length key < 1 → keys_above len key ≡ keys_within len
all_at len [] none = all_above len
all_at len (b ∷ key) none = absurd (omega arith)

pub above_at : (m len : ℕ) (key : List ℕ) (r mul add kw first above : ℕ) → 1 ≤ length key → (len ≡ 0 → ⊥) → r ≡ min (mul + above) m → mul ≡ min (first * add) m → add ≡ min (kw + 1) m → kw ≡ min (keys_within (len - 1)) m
    → above ≡ min (keys_above (len - 1) (take (length key - 1) (drop 1 key))) m → first ≡ 255 - slice_index key 0 → r ≡ min (keys_above len key) m
above_at m len [] r mul add kw first above some positive r_is mul_is add_is kw_is above_is first_is = absurd (omega arith)
above_at m len (b ∷ key) r mul add kw first above some positive r_is mul_is add_is kw_is above_is first_is =
    let e = above_less len b key (omega arith) in
    let s = stops (255 - b) (keys_within (len - 1)) (keys_above (len - 1) key) m in
    let above_now : above ≡ min (keys_above (len - 1) key) m = above_is ∙ ap (λ (k : List ℕ). min (keys_above (len - 1) k) m) (take_rest 1 (b ∷ key)) in
    rw (e, r_is, mul_is, add_is, kw_is, above_now, first_is) s
