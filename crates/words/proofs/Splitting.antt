-- Texts cut at separators.
use Rattle.std.proofs.Common.{◌≡◌, ℕ, suc, ◌+◌, ◌-◌, ◌<◌, ◌≤◌, Bool, true, false, ◌&&◌, not, cond, eqb, ltb, List, [], ◌∷◌, ◌++◌, length, take, drop, Option, Some, None, refl, ap, ◌∙◌, arith, tests, ◌||◌, ◌^◌, eq-eqb}
use Rattle.std.specs.List.{list_all, slice_split, position_or_len, onto_first}
use Rattle.std.proofs.lemmas.List.Splits.{slice_split_first, join_with_byte-slice_split}
use Rattle.std.proofs.lemmas.Bool.{ltb-true, ltb-false, and_parts, eqb-true}
use Rattle.std.proofs.lemmas.List.{length-drop}
use Rattle.std.proofs.Math.Seq.{take-length}
use Rattle.std.specs.Fmt.{decimal}
use Rattle.std.specs.Str.{all_ascii_digits}
use Rattle.std.specs.Char.{is_ascii_digit}
use Rattle.std.proofs.lemmas.Fmt.{digits_decimal}
use Rattle.hex.specs.Hex.{encode_lower}
use Rattle.words.specs.Word.{AreBytes, hexadecimal, is_lower_digit}
use Rattle.words.proofs.Numerals.{own}
use Rattle.words.proofs.Hexadecimal.{lower_digits-encode}
use Rattle.words.specs.Line.{parts_of, parts_left, end_at, text_of}

-- where no place passes, the text is the one part
uncut : (p : ℕ → Bool) (text : List ℕ) → length text ≤ position_or_len p text → slice_split p text ≡ text ∷ []
uncut p [] h = refl
uncut p (b ∷ text) h = on (p b) (slice_split p text) refl (uncut p text) h
  where
    on : (passes : Bool) (parts : List (List ℕ)) → p b ≡ passes → (length text ≤ position_or_len p text → parts ≡ text ∷ []) → suc (length text) ≤ cond (not passes) (1 + position_or_len p text) 0 → cond passes ([] ∷ parts) (onto_first b parts) ≡ (b ∷ text) ∷ []
    on true parts e rest h = absurd (omega arith)
    on false parts e rest h = ap (onto_first b) (rest (omega arith))

-- the text before the first separator
abbrev pub front_of : List ℕ → Option ℕ → List ℕ
front_of text None = text
front_of text (Some at) = take at text

-- the text behind it
abbrev pub back_of : List ℕ → Option ℕ → Option (List ℕ)
back_of text None = None
back_of text (Some at) = Some (drop (at + 1) text)

-- a text is cut at its first separator
pub parts_of-first : (c : ℕ) (text : List ℕ) (r : Option ℕ) → r ≡ cond (ltb (position_or_len (λ b. eqb b c) text) (length text)) (Some (position_or_len (λ b. eqb b c) text)) None → parts_of c text ≡ front_of text r ∷ parts_left c (back_of text r)
parts_of-first c text r e =
    on (ltb (position_or_len (λ b. eqb b c) text) (length text)) refl r e
  where
    on : (within : Bool) → ltb (position_or_len (λ b. eqb b c) text) (length text) ≡ within → (r : Option ℕ) → r ≡ cond within (Some (position_or_len (λ b. eqb b c) text)) None → parts_of c text ≡ front_of text r ∷ parts_left c (back_of text r)
    on true lt r e = rw e (slice_split_first (λ b. eqb b c) text 0 (ltb-true _ _ lt))
    on false ge r e = rw e (uncut (λ b. eqb b c) text (ltb-false _ _ ge))

-- a text has a part
pub end_at-parts_of : (c : ℕ) (text : List ℕ) → end_at (parts_of c text) ≡ None
unfolding end_at
end_at-parts_of c [] = refl
end_at-parts_of c (b ∷ text) = on (eqb b c) (parts_of c text)
  where
    on : (cut : Bool) (parts : List (List ℕ)) → end_at (cond cut ([] ∷ parts) (onto_first b parts)) ≡ None
    on true parts = refl
    on false [] = refl
    on false (word ∷ parts) = refl

-- all that is left behind a place
pub take_rest : (n : ℕ) (text : List ℕ) → take (length text - n) (drop n text) ≡ drop n text
take_rest n text = rw (← length-drop {A = ℕ} n text) (take-length (drop n text))

-- ---- parts that are joined

-- whether a word lacks a byte
abbrev pub lacks : ℕ → List ℕ → Bool
lacks c [] = true
lacks c (b ∷ word) = not (eqb b c) && lacks c word

-- whether each word lacks it
abbrev pub all_lack : ℕ → List (List ℕ) → Bool
all_lack c [] = true
all_lack c (word ∷ words) = lacks c word && all_lack c words

-- a word that lacks the separator stands in front as it is
split_front : (c : ℕ) (word rest : List ℕ) → lacks c word ≡ true → parts_of c (word ++ c ∷ rest) ≡ word ∷ parts_of c rest
split_front c [] rest h = on (eqb c c) (eq-eqb c c refl)
  where
    on : (same : Bool) → same ≡ true → cond same ([] ∷ parts_of c rest) (onto_first c (parts_of c rest)) ≡ [] ∷ parts_of c rest
    on true e = refl
    on false e = absurd cc
split_front c (b ∷ word) rest h =
    let parts = and_parts (not (eqb b c)) (lacks c word) h in
    on (eqb b c) parts.0 (parts_of c (word ++ c ∷ rest)) (split_front c word rest parts.1)
  where
    on : (same : Bool) → not same ≡ true → (parts : List (List ℕ)) → parts ≡ word ∷ parts_of c rest → cond same ([] ∷ parts) (onto_first b parts) ≡ (b ∷ word) ∷ parts_of c rest
    on true e parts rests = absurd cc
    on false e parts rests = rw rests refl

-- and alone
split_alone : (c : ℕ) (word : List ℕ) → lacks c word ≡ true → parts_of c word ≡ word ∷ []
split_alone c [] h = refl
split_alone c (b ∷ word) h =
    let parts = and_parts (not (eqb b c)) (lacks c word) h in
    on (eqb b c) parts.0 (parts_of c word) (split_alone c word parts.1)
  where
    on : (same : Bool) → not same ≡ true → (parts : List (List ℕ)) → parts ≡ word ∷ [] → cond same ([] ∷ parts) (onto_first b parts) ≡ (b ∷ word) ∷ []
    on true e parts rests = absurd cc
    on false e parts rests = rw rests refl

-- words that lack the separator are the parts of their text
pub parts_of-text_of : (c : ℕ) (word : List ℕ) (words : List (List ℕ)) → all_lack c (word ∷ words) ≡ true → parts_of c (text_of c (word ∷ words)) ≡ word ∷ words
parts_of-text_of c word [] h = split_alone c word (and_parts (lacks c word) true h).0
parts_of-text_of c word (next ∷ words) h =
    let parts = and_parts (lacks c word) (all_lack c (next ∷ words)) h in
    split_front c word (text_of c (next ∷ words)) parts.0 ∙ ap (λ (ws : List (List ℕ)). word ∷ ws) (parts_of-text_of c next words parts.1)

-- the parts of a text are joined to it again
pub text_of-parts_of : (c : ℕ) (text : List ℕ) → text_of c (parts_of c text) ≡ text
text_of-parts_of c text = join_with_byte-slice_split c text

-- ---- words that lack a byte

-- both tests pass
both_true : (a b : Bool) → a ≡ true → b ≡ true → (a && b) ≡ true
both_true true true p q = refl
both_true true false p q = absurd cc
both_true false b p q = absurd cc

-- where each byte passes a test that c fails, c is not among them
pub lacks-from_all : (p : ℕ → Bool) (c : ℕ) (word : List ℕ) → list_all p word ≡ true → p c ≡ false → lacks c word ≡ true
lacks-from_all p c [] h out = refl
lacks-from_all p c (b ∷ word) h out =
    let parts = and_parts (p b) (list_all p word) h in
    both_true (not (eqb b c)) (lacks c word) (on (eqb b c) refl parts.0) (lacks-from_all p c word parts.1 out)
  where
    on : (same : Bool) → eqb b c ≡ same → p b ≡ true → not same ≡ true
    on true e in_p = let e' : b ≡ c = eqb-true b c e in absurd (differ (p b) (p c) in_p out (ap p e'))
      where
        differ : (x y : Bool) → x ≡ true → y ≡ false → x ≡ y → ⊥
        differ true true a b e = absurd cc
        differ true false a b e = absurd cc
        differ false y a b e = absurd cc
    on false e in_p = refl

pub lacks-append : (c : ℕ) (a b : List ℕ) → lacks c a ≡ true → lacks c b ≡ true → lacks c (a ++ b) ≡ true
lacks-append c [] b p q = q
lacks-append c (x ∷ a) b p q =
    let parts = and_parts (not (eqb x c)) (lacks c a) p in
    both_true (not (eqb x c)) (lacks c (a ++ b)) parts.0 (lacks-append c a b parts.1 q)

-- words that lack a byte, joined by another
pub lacks-text_of : (c d : ℕ) (words : List (List ℕ)) → not (eqb d c) ≡ true → all_lack c words ≡ true → lacks c (text_of d words) ≡ true
lacks-text_of c d [] other h = refl
lacks-text_of c d (word ∷ []) other h = (and_parts (lacks c word) true h).0
lacks-text_of c d (word ∷ next ∷ words) other h =
    let parts = and_parts (lacks c word) (all_lack c (next ∷ words)) h in
    lacks-append c word (d ∷ text_of d (next ∷ words)) parts.0 (both_true (not (eqb d c)) (lacks c (text_of d (next ∷ words))) other (lacks-text_of c d (next ∷ words) other parts.1))

digits_all : (word : List ℕ) → all_ascii_digits word ≡ true → list_all is_ascii_digit word ≡ true
digits_all [] h = refl
digits_all (b ∷ word) h =
    let parts = and_parts (is_ascii_digit b) (all_ascii_digits word) h in
    both_true (is_ascii_digit b) (list_all is_ascii_digit word) parts.0 (digits_all word parts.1)

-- a number's spelling lacks what is no digit
pub lacks-decimal : (c n : ℕ) → n < 2 ^ 64 → is_ascii_digit c ≡ false → lacks c (decimal n) ≡ true
lacks-decimal c n small out = lacks-from_all is_ascii_digit c (decimal n) (digits_all (decimal n) (digits_decimal own n small)) out

-- `-`, and the lower-case hexadecimal digits
abbrev pub is_hex_byte : ℕ → Bool
is_hex_byte c = eqb c 45 || is_lower_digit c

-- the spelling of bytes lacks what is neither
pub lacks-hexadecimal : (c : ℕ) (bytes : List ℕ) → AreBytes bytes → is_hex_byte c ≡ false → lacks c (hexadecimal bytes) ≡ true
lacks-hexadecimal c [] h out = on (eqb 45 c) refl
  where
    on : (same : Bool) → eqb 45 c ≡ same → (not same && true) ≡ true
    on true e = let e' : 45 ≡ c = eqb-true 45 c e in absurd (grind (arith, tests))
    on false e = refl
lacks-hexadecimal c (b ∷ bytes) h out =
    lacks-from_all is_lower_digit c (encode_lower (b ∷ bytes)) (lower_digits-encode (b ∷ bytes) h) (or_right (eqb c 45) (is_lower_digit c) out)
  where
    or_right : (x y : Bool) → (x || y) ≡ false → y ≡ false
    or_right true y e = absurd cc
    or_right false y e = e
