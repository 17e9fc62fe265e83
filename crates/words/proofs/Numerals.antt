-- Numerals: what is read is spelled so, and each number's spelling is read.
use Rattle.std.proofs.Common.{◌≡◌, ℕ, zero, suc, ◌^◌, ◌<◌, ◌≤◌, Bool, true, false, ◌&&◌, cond, ltb, List, [], ◌∷◌, length, get_or, Some, None, Result, Ok, Err, refl, sym, ap, ◌∙◌, arith, tests, inl, inr}
use Rattle.std.specs.Fmt.{decimal}
use Rattle.std.specs.Str.{all_ascii_digits, IsUtf8}
use Rattle.std.specs.Str.Parse.{digits_value, ParsesUnsigned}
use Rattle.std.specs.Result.{OkIff, result_ok}
use Rattle.std.proofs.lemmas.Option.{cond_some}
use Rattle.std.proofs.lemmas.Bool.{ltb-true, lt-ltb, le-ltb, cases_lt}
use Rattle.std.proofs.lemmas.Str.{IsUtf8-from_ascii}
use Rattle.std.proofs.lemmas.Str.Parse.{IsNumeralModel, numerals_by_value, tells_all_ascii_digits, parse_digits}
use Rattle.std.proofs.lemmas.Fmt.{IsAscii-from_digits, digits_decimal, digits_value-decimal, decimal-digits_value, decimal_nonempty, first_decimal, decimal_digit}
use Rattle.words.specs.Word.{number_of, has_no_leading_zero, is_numeral}

pub own : IsNumeralModel (λ ds. all_ascii_digits ds ≡ true) (digits_value 10)
own = numerals_by_value _ tells_all_ascii_digits

-- both parts of a test that passed
pub both : (a b : Bool) → (a && b) ≡ true → (a ≡ true) × (b ≡ true)
both true true h = (refl, refl)
both true false h = absurd cc
both false b h = absurd cc

-- where the first digit is 0 it stands alone
first_zero : (word : List ℕ) → has_no_leading_zero word ≡ true → (0 < length word) × (get_or word 0 0 ≡ 48 → length word ≡ 1)
first_zero [] h = absurd cc
first_zero (b ∷ []) h = (omega arith, λ _. refl)
first_zero (b ∷ c ∷ rest) h = (omega arith, λ e. absurd (grind (arith, tests)))

no_zero : (word : List ℕ) → 0 < length word → (get_or word 0 0 ≡ 48 → length word ≡ 1) → has_no_leading_zero word ≡ true
no_zero [] some h = absurd (omega arith)
no_zero (b ∷ []) some h = refl
no_zero (b ∷ c ∷ rest) some h = grind (arith, tests)

-- all digits are text
pub IsUtf8-digits : (word : List ℕ) → all_ascii_digits word ≡ true → IsUtf8 word
IsUtf8-digits word h = IsUtf8-from_ascii word (IsAscii-from_digits word (own.to word h))

-- what is read is a number below 2 ^ 64, spelled so
pub number_of-takes : (word : List ℕ) (n : ℕ) → number_of word ≡ Some n → (n < 2 ^ 64) × (word ≡ decimal n)
unfolding number_of
number_of-takes word n e =
    let taken = cond_some (is_numeral word && ltb (digits_value 10 word) (2 ^ 64)) (digits_value 10 word) n e in
    let parts = both (is_numeral word) (ltb (digits_value 10 word) (2 ^ 64)) taken.0 in
    let shape = both (has_no_leading_zero word) (all_ascii_digits word) parts.0 in
    let small : digits_value 10 word < 2 ^ 64 = ltb-true _ _ parts.1 in
    let zero_alone = first_zero word shape.0 in
    rw (← taken.1) (small, sym (decimal-digits_value own word shape.1 zero_alone.0 zero_alone.1 small))

-- a test of three parts that passes
passes : (a b c : Bool) (x : ℕ) → a ≡ true → b ≡ true → c ≡ true → cond (a && b && c) (Some x) None ≡ Some x
passes true true true x p q r = refl
passes true true false x p q r = absurd cc
passes true false c x p q r = absurd cc
passes false b c x p q r = absurd cc

-- a test of which the last part fails
fails : (a b : Bool) (x : ℕ) → b ≡ false → cond (a && b) (Some x) None ≡ None
fails true true x e = absurd cc
fails true false x e = refl
fails false b x e = refl

-- a word of this shape is read
number_of-numeral : (word : List ℕ) (n : ℕ) → has_no_leading_zero word ≡ true → all_ascii_digits word ≡ true → digits_value 10 word ≡ n → n < 2 ^ 64 → number_of word ≡ Some n
unfolding number_of
number_of-numeral word n shape digits value small =
    let fits : ltb (digits_value 10 word) (2 ^ 64) ≡ true = lt-ltb _ _ (omega arith) in
    passes (has_no_leading_zero word) (all_ascii_digits word) (ltb (digits_value 10 word) (2 ^ 64)) (digits_value 10 word) shape digits fits ∙ ap (λ (k : ℕ). Some k) value

-- a word of a number that is too great is not
number_of-great : (word : List ℕ) → 2 ^ 64 ≤ digits_value 10 word → number_of word ≡ None
unfolding number_of
number_of-great word great =
    fails (is_numeral word) (ltb (digits_value 10 word) (2 ^ 64)) (digits_value 10 word) (le-ltb _ _ great)

-- the spelling of a number has no leading zero
decimal-shape : (n : ℕ) → n < 2 ^ 64 → has_no_leading_zero (decimal n) ≡ true
decimal-shape zero small = rw (decimal_digit 0 (omega arith)) refl
decimal-shape (suc n) small =
    let first = first_decimal (suc n) (omega arith) small in
    no_zero (decimal (suc n)) (decimal_nonempty (suc n) small) (λ e. absurd (omega (arith, first, e)))

-- each number's spelling is read
pub number_of-decimal : (n : ℕ) → n < 2 ^ 64 → number_of (decimal n) ≡ Some n
number_of-decimal n small =
    number_of-numeral (decimal n) n (decimal-shape n small) (digits_decimal own n small) (digits_value-decimal own n small) small

-- what `parse` answers at a numeral is the number that is read
parsed_is : {E : Type 0} (word : List ℕ) (r : Result ℕ E) → OkIff r ((0 < length word) × (digits_value 10 word < 2 ^ 64)) (digits_value 10 word) → has_no_leading_zero word ≡ true → all_ascii_digits word ≡ true → result_ok r ≡ number_of word
parsed_is word (Ok n) h shape digits = sym (number_of-numeral word n shape digits (sym h.1) (omega (arith, h)))
parsed_is word (Err e) h shape digits =
    sym (number_of-great word (elim (cases_lt (digits_value 10 word) (2 ^ 64)) [
      | inl small ↦ absurd (h ((first_zero word shape).0, small))
      | inr great ↦ great
    ]))

pub number_of-parsed : {E : Type 0} (word : List ℕ) (r : Result ℕ E) → ParsesUnsigned 64 10 word r → is_numeral word ≡ true → result_ok r ≡ number_of word
number_of-parsed word r h shape =
    let parts = both (has_no_leading_zero word) (all_ascii_digits word) shape in
    parsed_is word r (parse_digits own 64 word r h parts.1) parts.0 parts.1
