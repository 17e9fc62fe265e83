-- Words of bytes above the space: they hold neither a space nor a line feed.
use Rattle.std.proofs.Common.{◌≡◌, ℕ, ◌^◌, ◌<◌, Bool, true, false, ◌&&◌, ltb, List, [], ◌∷◌, ◌++◌, refl, arith, tests}
use Rattle.std.specs.List.{list_all}
use Rattle.std.specs.Fmt.{decimal}
use Rattle.std.specs.Str.{all_ascii_digits}
use Rattle.std.specs.Char.{is_ascii_digit}
use Rattle.std.proofs.lemmas.Bool.{and_parts}
use Rattle.std.proofs.lemmas.Fmt.{digits_decimal}
use Rattle.words.specs.Word.{AreBytes, hexadecimal, is_lower_digit}
use Rattle.words.specs.Line.{text_of}
use Rattle.words.proofs.Numerals.{own}
use Rattle.words.proofs.Hexadecimal.{lower_digits-encode}
use Rattle.words.proofs.Splitting.{lacks, all_lack, lacks-from_all, lacks-text_of}

-- a byte above the space
abbrev pub is_visible : ℕ → Bool
is_visible b = ltb 32 b

abbrev pub visible : List ℕ → Bool
visible word = list_all is_visible word

abbrev pub all_visible : List (List ℕ) → Bool
all_visible [] = true
all_visible (word ∷ words) = visible word && all_visible words

pub both_true : (a b : Bool) → a ≡ true → b ≡ true → (a && b) ≡ true
both_true true true p q = refl
both_true true false p q = absurd cc
both_true false b p q = absurd cc

digit_visible : (b : ℕ) → is_ascii_digit b ≡ true → is_visible b ≡ true
digit_visible b h = grind (arith, tests)

hex_visible : (b : ℕ) → is_lower_digit b ≡ true → is_visible b ≡ true
hex_visible b h = grind (arith, tests)

digits_visible : (word : List ℕ) → all_ascii_digits word ≡ true → visible word ≡ true
digits_visible [] h = refl
digits_visible (b ∷ word) h =
    let parts = and_parts (is_ascii_digit b) (all_ascii_digits word) h in
    both_true (is_visible b) (visible word) (digit_visible b parts.0) (digits_visible word parts.1)

hexes_visible : (word : List ℕ) → list_all is_lower_digit word ≡ true → visible word ≡ true
hexes_visible [] h = refl
hexes_visible (b ∷ word) h =
    let parts = and_parts (is_lower_digit b) (list_all is_lower_digit word) h in
    both_true (is_visible b) (visible word) (hex_visible b parts.0) (hexes_visible word parts.1)

-- a number's spelling
pub visible_number : (n : ℕ) → n < 2 ^ 64 → visible (decimal n) ≡ true
visible_number n small = digits_visible (decimal n) (digits_decimal own n small)

-- the spelling of bytes
pub visible_bytes : (bytes : List ℕ) → AreBytes bytes → visible (hexadecimal bytes) ≡ true
visible_bytes [] h = refl
visible_bytes (b ∷ bytes) h = hexes_visible (hexadecimal (b ∷ bytes)) (lower_digits-encode (b ∷ bytes) h)

visible-append : (a b : List ℕ) → visible a ≡ true → visible b ≡ true → visible (a ++ b) ≡ true
visible-append [] b p q = q
visible-append (x ∷ a) b p q =
    let parts = and_parts (is_visible x) (visible a) p in
    both_true (is_visible x) (visible (a ++ b)) parts.0 (visible-append a b parts.1 q)

-- visible words, joined by a visible byte
pub visible-text_of : (d : ℕ) (words : List (List ℕ)) → is_visible d ≡ true → all_visible words ≡ true → visible (text_of d words) ≡ true
visible-text_of d [] seen h = refl
visible-text_of d (word ∷ []) seen h = (and_parts (visible word) true h).0
visible-text_of d (word ∷ next ∷ words) seen h =
    let parts = and_parts (visible word) (all_visible (next ∷ words)) h in
    visible-append word (d ∷ text_of d (next ∷ words)) parts.0 (both_true (is_visible d) (visible (text_of d (next ∷ words))) seen (visible-text_of d (next ∷ words) seen parts.1))

-- visible words lack the space
pub lack_spaces : (words : List (List ℕ)) → all_visible words ≡ true → all_lack 32 words ≡ true
lack_spaces [] h = refl
lack_spaces (word ∷ words) h =
    let parts = and_parts (visible word) (all_visible words) h in
    both_true (lacks 32 word) (all_lack 32 words) (lacks-from_all is_visible 32 word parts.0 refl) (lack_spaces words parts.1)

lack_feeds : (words : List (List ℕ)) → all_visible words ≡ true → all_lack 10 words ≡ true
lack_feeds [] h = refl
lack_feeds (word ∷ words) h =
    let parts = and_parts (visible word) (all_visible words) h in
    both_true (lacks 10 word) (all_lack 10 words) (lacks-from_all is_visible 10 word parts.0 refl) (lack_feeds words parts.1)

-- a line of visible words lacks the line feed
pub line_lacks_feed : (words : List (List ℕ)) → all_visible words ≡ true → lacks 10 (text_of 32 words) ≡ true
line_lacks_feed words h = lacks-text_of 10 32 words refl (lack_feeds words h)
