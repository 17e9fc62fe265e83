-- Bytes in hexadecimal: what is read is spelled so, and each spelling is read.
use Rattle.std.proofs.Common.{◌≡◌, ℕ, zero, suc, ◌+◌, ◌*◌, ◌/◌, ◌%◌, ◌<◌, ◌≤◌, Bool, true, false, ◌&&◌, cond, eqb, ltb, List, [], ◌∷◌, length, slice_index, Option, Some, None, Result, Ok, Err, refl, sym, ap, ◌∙◌, arith, tests, inl, inr}
use Rattle.std.specs.List.{list_all}
use Rattle.std.specs.Result.{result_ok, result_unwrap_or}
use Rattle.std.specs.Str.{bytes_eq}
use Rattle.std.proofs.lemmas.Bool.{and_parts, cases_lt, eqb-true, ltb-true, ltb-false}
use Rattle.std.proofs.lemmas.Option.{same_Some}
use Rattle.std.proofs.lemmas.Slice.Eq.{bytes_eq-Decides}
use Rattle.hex.specs.Hex.{decode_of, decode_pairs, digit_or_error, hex_digit_value, encode_lower, encode_with, lower_digits, pair_value, value_at, ◌>>=◌}
use Rattle.hex.specs.declared.error.FromHexError.{FromHexError}
use Rattle.hex.proofs.HexLemmas.{decode_of-even, decode_of-ok, decode_of-encode_lower}
use Rattle.words.specs.Word.{bytes_of, hexadecimal, is_lower_digit, is_lower_hex, AreBytes}

-- what an `Ok` after `>>=` shows
bind_ok : {A B : Type 0} (r : Result A FromHexError) (f : A → Result B FromHexError) (y : B) → (r >>= f) ≡ Ok y → (x : A) × (r ≡ Ok x) × (f x ≡ Ok y)
bind_ok (Ok x) f y h = (x, refl, h)
bind_ok (Err e) f y h = absurd cc

-- the value of a digit that read
digit_read : (c i : ℕ) (o : Option ℕ) (v : ℕ) → digit_or_error c i o ≡ Ok v → o ≡ Some v
digit_read c i (Some w) v h = ap Some (ap (λ (r : Result ℕ FromHexError). result_unwrap_or r 0) h)
digit_read c i None v h = absurd cc

-- a lower-case digit's value, by ranges
lower_value : (c v : ℕ) → is_lower_digit c ≡ true → hex_digit_value c ≡ Some v → (v < 16) × (c ≡ cond (ltb v 10) (48 + v) (87 + v))
lower_value c v low h = grind (arith, tests)

-- the test of one place of the table, which computes
abbrev is_placed : ℕ → Bool
is_placed v = eqb (slice_index lower_digits v) (cond (ltb v 10) (48 + v) (87 + v))

-- the test of the first n places
abbrev all_placed : ℕ → Bool
all_placed zero = true
all_placed (suc n) = is_placed n && all_placed n

all_placed-at : (n v : ℕ) → all_placed n ≡ true → v < n → is_placed v ≡ true
all_placed-at zero v h lt = absurd (omega arith)
all_placed-at (suc n) v h lt =
    let parts = and_parts (is_placed n) (all_placed n) h in
    elim (cases_lt v n) [
      | inl below ↦ all_placed-at n v parts.1 below
      | inr top ↦
          let e : v ≡ n = omega arith in
          rw e parts.0
    ]

-- the digit of a value
digit_of : (v : ℕ) → v < 16 → slice_index lower_digits v ≡ cond (ltb v 10) (48 + v) (87 + v)
digit_of v lt = eqb-true (slice_index lower_digits v) (cond (ltb v 10) (48 + v) (87 + v)) (all_placed-at 16 v refl lt)

-- a lower-case digit is the one that stands for its value
digit_again : (c v : ℕ) → is_lower_digit c ≡ true → hex_digit_value c ≡ Some v → (v < 16) × (slice_index lower_digits v ≡ c)
digit_again c v low h = let value = lower_value c v low h in (value.0, digit_of v value.0 ∙ sym value.1)

-- the parts of a byte
high_part : (h l : ℕ) → l < 16 → (h * 16 + l) / 16 ≡ h
high_part h l lt = omega arith

low_part : (h l : ℕ) → l < 16 → (h * 16 + l) % 16 ≡ l
low_part h l lt = omega arith

-- pairs of lower-case digits are the spelling of what they decode to
pairs_again : (i : ℕ) (s bytes : List ℕ) → decode_pairs i s ≡ Ok bytes → list_all is_lower_digit s ≡ true → encode_lower bytes ≡ s
unfolding decode_pairs encode_with
pairs_again i [] bytes h low =
    let e : [] ≡ bytes = ap (λ (r : Result (List ℕ) FromHexError). result_unwrap_or r []) h in
    rw (← e) refl
pairs_again i (a ∷ []) bytes h low = absurd cc
pairs_again i (a ∷ b ∷ rest) bytes h low =
    let p0 = bind_ok (pair_value a b i) _ bytes h in
    let p1 = bind_ok (value_at a i) _ p0.0 p0.1 in
    let p2 = bind_ok (value_at b (i + 1)) _ p0.0 p1.2 in
    let p3 = bind_ok (decode_pairs (i + 2) rest) _ bytes p0.2 in
    let e : p0.0 ∷ p3.0 ≡ bytes = ap (λ (r : Result (List ℕ) FromHexError). result_unwrap_or r []) p3.2 in
    let byte : p1.0 * 16 + p2.0 ≡ p0.0 = ap (λ (r : Result ℕ FromHexError). result_unwrap_or r 0) p2.2 in
    let l0 = and_parts (is_lower_digit a) (is_lower_digit b && list_all is_lower_digit rest) low in
    let l1 = and_parts (is_lower_digit b) (list_all is_lower_digit rest) l0.1 in
    let ih = pairs_again (i + 2) rest p3.0 p3.1 l1.1 in
    let da = digit_again a p1.0 l0.0 (digit_read a i (hex_digit_value a) p1.0 p1.1) in
    let db = digit_again b p2.0 l1.0 (digit_read b (i + 1) (hex_digit_value b) p2.0 p2.1) in
    let high : slice_index lower_digits (p0.0 / 16) ≡ a = rw (← byte, high_part p1.0 p2.0 db.0) da.1 in
    let lowest : slice_index lower_digits (p0.0 % 16) ≡ b = rw (← byte, low_part p1.0 p2.0 db.0) db.1 in
    rw (← e, high, lowest, ih) refl

-- the bytes of a result
ok_some : {A B : Type 0} (r : Result A B) (x : A) → result_ok r ≡ Some x → r ≡ Ok x
ok_some (Ok y) x h = ap Ok (same_Some y x h)
ok_some (Err e) x h = absurd cc

-- lower-case hexadecimal of one digit or more is the spelling of what it decodes to
hex_again : (word bytes : List ℕ) → is_lower_hex word ≡ true → decode_of word ≡ Ok bytes → AreBytes bytes × (word ≡ hexadecimal bytes)
hex_again [] bytes low h = absurd cc
hex_again (b ∷ word) bytes low h =
    let ok = decode_of-ok (b ∷ word) bytes h in
    let spelled = pairs_again 0 (b ∷ word) bytes (sym (decode_of-even (b ∷ word) ok.0) ∙ h) low in
    (ok.3, some_bytes b word bytes ok.2 spelled)
  where
    some_bytes : (b : ℕ) (word bytes : List ℕ) → length (b ∷ word) ≡ 2 * length bytes → encode_lower bytes ≡ b ∷ word → b ∷ word ≡ hexadecimal bytes
    some_bytes b word [] len e = absurd (omega arith)
    some_bytes b word (x ∷ bytes) len e = sym e

-- what is read is bytes, spelled so
pub bytes_of-takes : (word bytes : List ℕ) → bytes_of word ≡ Some bytes → AreBytes bytes × (word ≡ hexadecimal bytes)
unfolding bytes_of
bytes_of-takes word bytes h =
    on (bytes_eq word (45 ∷ [])) refl (is_lower_hex word) refl h
  where
    on : (dash : Bool) → bytes_eq word (45 ∷ []) ≡ dash → (low : Bool) → is_lower_hex word ≡ low → cond dash (Some []) (cond low (result_ok (decode_of word)) None) ≡ Some bytes → AreBytes bytes × (word ≡ hexadecimal bytes)
    on true is_dash low is_low h =
        let e : [] ≡ bytes = same_Some [] bytes h in
        let spelled : word ≡ 45 ∷ [] = (bytes_eq-Decides word (45 ∷ [])).0 is_dash in
        rw (← e) (λ i. omega arith, spelled)
    on false is_dash true is_low h = hex_again word bytes is_low (ok_some (decode_of word) bytes h)
    on false is_dash false is_low h = absurd cc

-- the digit of a value is a lower-case one
is_lower-digit_of : (v : ℕ) → v < 16 → is_lower_digit (slice_index lower_digits v) ≡ true
is_lower-digit_of v lt = rw (digit_of v lt) (lower v (ltb v 10) refl lt)
  where
    lower : (v : ℕ) → (small : Bool) → ltb v 10 ≡ small → v < 16 → is_lower_digit (cond small (48 + v) (87 + v)) ≡ true
    lower v true e lt = let small : v < 10 = ltb-true v 10 e in grind (arith, tests)
    lower v false e lt = let great : 10 ≤ v = ltb-false v 10 e in grind (arith, tests)

-- the spelling of bytes has lower-case digits alone
pub lower_digits-encode : (bytes : List ℕ) → AreBytes bytes → list_all is_lower_digit (encode_lower bytes) ≡ true
unfolding encode_with
lower_digits-encode [] h = refl
lower_digits-encode (b ∷ bytes) h =
    let byte : b < 256 = h 0 in
    let high = is_lower-digit_of (b / 16) (omega arith) in
    let low = is_lower-digit_of (b % 16) (omega arith) in
    let rest = lower_digits-encode bytes (λ i. h (suc i)) in
    rw (high, low, rest) refl

-- a lower-case digit is no dash
no_dash : (c : ℕ) (word : List ℕ) → is_lower_digit c ≡ true → bytes_eq (c ∷ word) (45 ∷ []) ≡ false
no_dash c word low = differs (eqb c 45) refl
  where
    differs : (same : Bool) → eqb c 45 ≡ same → (same && bytes_eq word []) ≡ false
    differs true e = let dash : c ≡ 45 = eqb-true c 45 e in absurd (grind (arith, tests))
    differs false e = refl

-- where the word is no dash and all its digits are lower-case ones, it is what it decodes to
picks : (dash low : Bool) (r : Result (List ℕ) FromHexError) (bytes : List ℕ) → dash ≡ false → low ≡ true → r ≡ Ok bytes → cond dash (Some []) (cond low (result_ok r) None) ≡ Some bytes
picks true low r bytes d l h = absurd cc
picks false false r bytes d l h = absurd cc
picks false true (Ok x) bytes d l h = ap Some (ap (λ (r : Result (List ℕ) FromHexError). result_unwrap_or r []) h)
picks false true (Err e) bytes d l h = absurd cc

-- each spelling is read
pub bytes_of-hexadecimal : (bytes : List ℕ) → AreBytes bytes → bytes_of (hexadecimal bytes) ≡ Some bytes
unfolding bytes_of encode_with
bytes_of-hexadecimal [] h = refl
bytes_of-hexadecimal (b ∷ bytes) h =
    reads (slice_index lower_digits (b / 16)) (slice_index lower_digits (b % 16) ∷ encode_lower bytes) (b ∷ bytes) (lower_digits-encode (b ∷ bytes) h) (decode_of-encode_lower (b ∷ bytes) h)
  where
    reads : (c : ℕ) (word bytes : List ℕ) → list_all is_lower_digit (c ∷ word) ≡ true → decode_of (c ∷ word) ≡ Ok bytes → cond (bytes_eq (c ∷ word) (45 ∷ [])) (Some []) (cond (list_all is_lower_digit (c ∷ word)) (result_ok (decode_of (c ∷ word))) None) ≡ Some bytes
    reads c word bytes low decodes =
        let lower = and_parts (is_lower_digit c) (list_all is_lower_digit word) low in
        let not_dash : bytes_eq (c ∷ word) (45 ∷ []) ≡ false = no_dash c word lower.0 in
        picks (bytes_eq (c ∷ word) (45 ∷ [])) (list_all is_lower_digit (c ∷ word)) (decode_of (c ∷ word)) bytes not_dash low decodes
