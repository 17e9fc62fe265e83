-- The first line of a text, what is behind it, and all lines.
use Rattle.std.proofs.Common.{◌≡◌, ℕ, ◌+◌, ◌<◌, ◌≤◌, Bool, true, false, cond, not, nat_eq, nat_lt, List, [], ◌∷◌, ◌++◌, length, length-append, take, drop, Some, None, position, refl, sym, ap, ◌∙◌, arith}
use Rattle.std.specs.List.{position_or_len}
use Rattle.std.proofs.lemmas.Bool.{ltb-false}
use Rattle.std.proofs.lemmas.Bool.Decides.{Decides-ltb}
use Rattle.std.proofs.lemmas.List.{take_at, drop_at}
use Rattle.db_io.specs.Lines.{first_line, behind_line, in_front, lines_of}

abbrev pub is_line_feed : ℕ → Bool
is_line_feed byte = nat_eq byte 10

-- the first line and what is behind it are the text
pub text_is : (text : List ℕ) → text ≡ first_line text ++ behind_line text
text_is [] = refl
text_is (byte ∷ rest) = on (nat_eq byte 10) (text_is rest)
  where
    on : (b : Bool) → rest ≡ first_line rest ++ behind_line rest
        → byte ∷ rest ≡ cond b (byte ∷ []) (byte ∷ first_line rest) ++ cond b rest (behind_line rest)
    on true later = refl
    on false later = ap (λ (l : List ℕ). byte ∷ l) later

-- the lines of a text that is not empty are its first line and the lines behind it
pub lines_of-first : (text : List ℕ) → 0 < length text → lines_of text ≡ first_line text ∷ lines_of (behind_line text)
lines_of-first [] some = absurd (omega arith)
lines_of-first (byte ∷ []) some = on (nat_eq byte 10)
  where
    on : (b : Bool) → cond b ((byte ∷ []) ∷ []) ((byte ∷ []) ∷ []) ≡ cond b (byte ∷ []) (byte ∷ []) ∷ lines_of (cond b [] [])
    on true = refl
    on false = refl
lines_of-first (byte ∷ next ∷ rest) some = on (nat_eq byte 10) (lines_of-first (next ∷ rest) (omega arith))
  where
    on : (b : Bool) → lines_of (next ∷ rest) ≡ first_line (next ∷ rest) ∷ lines_of (behind_line (next ∷ rest))
        → cond b ((byte ∷ []) ∷ lines_of (next ∷ rest)) (in_front byte (lines_of (next ∷ rest)))
        ≡ cond b (byte ∷ []) (byte ∷ first_line (next ∷ rest)) ∷ lines_of (cond b (next ∷ rest) (behind_line (next ∷ rest)))
    on true later = refl
    on false later = ap (in_front byte) later

-- the first line of a text that is not empty is not empty
pub length-first_line : (text : List ℕ) → 0 < length text → 0 < length (first_line text)
length-first_line [] some = some
length-first_line (byte ∷ rest) some = on (nat_eq byte 10)
  where
    on : (b : Bool) → 0 < length (cond b (byte ∷ []) (byte ∷ first_line rest))
    on true = omega arith
    on false = omega arith

-- a line feed at a place ends the first line there
length_to : (text : List ℕ) → position_or_len is_line_feed text < length text → length (first_line text) ≡ position_or_len is_line_feed text + 1
length_to [] within = absurd (omega arith)
length_to (byte ∷ rest) within = on (nat_eq byte 10) within (length_to rest)
  where
    on : (b : Bool) → cond (not b) (1 + position_or_len is_line_feed rest) 0 < length (byte ∷ rest)
        → (position_or_len is_line_feed rest < length rest → length (first_line rest) ≡ position_or_len is_line_feed rest + 1)
        → length (cond b (byte ∷ []) (byte ∷ first_line rest)) ≡ cond (not b) (1 + position_or_len is_line_feed rest) 0 + 1
    on true within later = refl
    on false within later = let long : length (first_line rest) ≡ position_or_len is_line_feed rest + 1 = later (omega arith) in omega arith

-- without a line feed the first line is the whole
length_whole : (text : List ℕ) → length text ≤ position_or_len is_line_feed text → length (first_line text) ≡ length text
length_whole [] none = refl
length_whole (byte ∷ rest) none = on (nat_eq byte 10) none (length_whole rest)
  where
    on : (b : Bool) → length (byte ∷ rest) ≤ cond (not b) (1 + position_or_len is_line_feed rest) 0
        → (length rest ≤ position_or_len is_line_feed rest → length (first_line rest) ≡ length rest)
        → length (cond b (byte ∷ []) (byte ∷ first_line rest)) ≡ length (byte ∷ rest)
    on true none later = absurd (omega arith)
    on false none later = let long : length (first_line rest) ≡ length rest = later (omega arith) in omega arith

-- how long the first line is, by the place of its line feed
pub line_to : (text : List ℕ) (index : ℕ) → Some index ≡ position is_line_feed text → index + 1 ≡ length (first_line text)
line_to text index found = on (nat_lt (position_or_len is_line_feed text) (length text)) refl found
  where
    on : (b : Bool) → nat_lt (position_or_len is_line_feed text) (length text) ≡ b
        → Some index ≡ cond b (Some (position_or_len is_line_feed text)) None → index + 1 ≡ length (first_line text)
    on true within found =
        let lt : position_or_len is_line_feed text < length text = (Decides-ltb _ _).0 within in
        let same : index ≡ position_or_len is_line_feed text = cc in
        ap (λ (n : ℕ). n + 1) same ∙ sym (length_to text lt)
    on false within found = cc

pub line_whole : (text : List ℕ) → None ≡ position is_line_feed text → length text ≡ length (first_line text)
line_whole text none = on (nat_lt (position_or_len is_line_feed text) (length text)) refl none
  where
    on : (b : Bool) → nat_lt (position_or_len is_line_feed text) (length text) ≡ b
        → None ≡ cond b (Some (position_or_len is_line_feed text)) None → length text ≡ length (first_line text)
    on true within none = cc
    on false within none =
        let ge : length text ≤ position_or_len is_line_feed text = ltb-false _ _ within in
        sym (length_whole text ge)

-- so many bytes are the first line
pub take_line : (text : List ℕ) (n : ℕ) → n ≡ length (first_line text) → take n text ≡ first_line text
take_line text n e = ap (take n) (text_is text) ∙ take_at (first_line text) (behind_line text) n (sym e)

-- and the others are behind it
pub drop_line : (text : List ℕ) (n : ℕ) → n ≡ length (first_line text) → drop n text ≡ behind_line text
drop_line text n e = ap (drop n) (text_is text) ∙ drop_at (first_line text) (behind_line text) n (sym e)

-- the first line and the bytes behind it have as many bytes as the text
pub length-text : (text : List ℕ) → length (first_line text) + length (behind_line text) ≡ length text
length-text text = sym (length-append (first_line text) (behind_line text)) ∙ ap length (sym (text_is text))
