-- Single words: decimal numbers and bytes in hexadecimal, each read by spelling it again.
use Rattle.std.specs.Prelude.{◌⊎◌, ℕ, ◌^◌, ◌<◌, ◌≡◌, Bool, true, false, ◌&&◌, ◌||◌, not, nat_le, nat_lt, ◌==◌, if◌then◌else◌, List, [], ◌∷◌, Option, Some, None, Result, Ok, Err, slice_index}
use Rattle.std.specs.List.{list_all}
use Rattle.std.specs.Result.{result_ok}
use Rattle.std.specs.Str.{bytes_eq, all_ascii_digits}
use Rattle.std.specs.Str.Parse.{digits_value}
use Rattle.hex.specs.Hex.{encode_lower, decode_of}
use Rattle.words.specs.declared.fault.TextFault.{TextFault}
use Rattle.words.specs.declared.fault.TextFault.TheVariants.{NotInGrammar, Memory}

-- what stands between two words, and behind a line
abbrev pub space : ℕ
space = 32

abbrev pub newline : ℕ
newline = 10

-- the word of no bytes
abbrev pub dash : ℕ
dash = 45

-- what a reader answers: the value that is read, or that nothing is; want of memory tells nothing
abbrev pub Reads : {A : Type 0} → Result A TextFault → Option A → Type 0
Reads (Ok x) read = read ≡ Some x
Reads (Err NotInGrammar) read = read ≡ None
Reads (Err Memory) read = Unit {0}

-- the same of a value that is seen by a view
abbrev pub ReadsBy : {A B : Type 0} → (A → B) → Result A TextFault → Option B → Type 0
ReadsBy view (Ok x) read = read ≡ Some (view x)
ReadsBy view (Err NotInGrammar) read = read ≡ None
ReadsBy view (Err Memory) read = Unit {0}

-- a digit alone, or digits of which the first is not 0
abbrev pub has_no_leading_zero : List ℕ → Bool
has_no_leading_zero [] = false
has_no_leading_zero (b ∷ []) = true
has_no_leading_zero (b ∷ c ∷ rest) = not (b == 48)

-- whether a word is a decimal number without leading zeros
abbrev pub is_numeral : List ℕ → Bool
is_numeral word = has_no_leading_zero word && all_ascii_digits word

-- the number that a word spells in decimal digits without leading zeros, below 2 ^ 64
unfoldable pub number_of : List ℕ → Option ℕ
number_of word =
    if is_numeral word && nat_lt (digits_value 10 word) (2 ^ 64) then Some (digits_value 10 word) else None

-- bytes as a word: two lower-case hexadecimal digits a byte, and `-` for no byte
abbrev pub hexadecimal : List ℕ → List ℕ
hexadecimal [] = dash ∷ []
hexadecimal (b ∷ bytes) = encode_lower (b ∷ bytes)

-- `0` to `9` and `a` to `f`
abbrev pub is_lower_digit : ℕ → Bool
is_lower_digit b = (nat_le 48 b && nat_le b 57) || (nat_le 97 b && nat_le b 102)

-- whether a word is one lower-case hexadecimal digit or more
abbrev pub is_lower_hex : List ℕ → Bool
is_lower_hex [] = false
is_lower_hex (b ∷ word) = list_all is_lower_digit (b ∷ word)

-- the bytes that a word spells
unfoldable pub bytes_of : List ℕ → Option (List ℕ)
bytes_of word =
    if bytes_eq word (dash ∷ []) then Some [] else if is_lower_hex word then result_ok (decode_of word) else None

-- bytes are numbers below 256
abbrev pub AreBytes : List ℕ → Type 0
AreBytes bytes = (i : ℕ) → slice_index bytes i < 256

-- a number that the program can hold
abbrev pub IsNumber : ℕ → Type 0
IsNumber n = n < 2 ^ 64

abbrev pub AreNumbers : List ℕ → Type 0
AreNumbers [] = Unit {0}
AreNumbers (n ∷ numbers) = IsNumber n × AreNumbers numbers

-- the value is read, unless memory runs out
abbrev pub IsReadTo : {A : Type 0} → Result A TextFault → A → Type 0
IsReadTo result x = (result ≡ Ok x) ⊎ (result ≡ Err Memory)
