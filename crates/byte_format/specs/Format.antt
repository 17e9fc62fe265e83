-- Formats of bytes: which values fit, the one spelling of each, and how a spelling is read from the front of bytes.
-- A codec's specification is a table of these combinators, in the order of its fields.
use Rattle.std.specs.Prelude.{ℕ, zero, suc, Bool, true, false, ◌&&◌, List, [], ◌∷◌, ◌++◌, length, take, drop, Option, Some, None, Result, Ok, Err, nat_le, ◌==◌, if◌then◌else◌}
use Rattle.std.specs.Int.{Width, w8, byte_len, to_be_bytes, from_be_bytes}

-- what a step read and the bytes behind it, or how many bytes were left where the failing field begins
abbrev pub Reading : Type 0 → Type 0
Reading A = Result (A × List ℕ) ℕ

-- one step after another
infixl 10 ◌>>=◌
abbrev pub ◌>>=◌ : {A B : Type 0} → Result A ℕ → (A → Result B ℕ) → Result B ℕ
(Ok x) >>= next = next x
(Err left) >>= next = Err left

pub record Format (A : Type 0) : Type 0 where
  pub fits : A → Bool
  pub spelling : A → List ℕ
  pub reading : List ℕ → Reading A

-- x was read at the front of bytes; it stands where its rule holds
abbrev pub guarded : {A : Type 0} → Bool → List ℕ → A × List ℕ → Reading A
guarded ok bytes x = if ok then Ok x else Err (length bytes)

abbrev pub in_range : ℕ → ℕ → ℕ → Bool
in_range least most n = nat_le least n && nat_le n most

-- ---- numbers, most significant byte first

-- the greatest number of 64 bits
abbrev pub greatest : ℕ
greatest = 18446744073709551615

abbrev pub unsigned_at : Width → List ℕ → Reading ℕ
unsigned_at w bytes = guarded (nat_le (byte_len w) (length bytes)) bytes (from_be_bytes w (take (byte_len w) bytes), drop (byte_len w) bytes)

unfoldable pub number_at : Width → ℕ → ℕ → List ℕ → Reading ℕ
number_at w least most bytes = unsigned_at w bytes >>= λ n. guarded (in_range least most n.0) bytes n

-- a number from least to most
abbrev pub number : Width → ℕ → ℕ → Format ℕ
number w least most = record { fits = in_range least most; spelling = to_be_bytes w; reading = number_at w least most }

-- ---- texts, their length before them

unfoldable pub text_at : Width → ℕ → ℕ → List ℕ → Reading (List ℕ)
text_at w least most bytes = number_at w least most bytes >>= λ n. guarded (nat_le n.0 (length n.1)) bytes (take n.0 n.1, drop n.0 n.1)

-- from least to most bytes
abbrev pub text : Width → ℕ → ℕ → Format (List ℕ)
text w least most = record { fits = λ t. in_range least most (length t); spelling = λ t. to_be_bytes w (length t) ++ t; reading = text_at w least most }

-- ---- rules, sequences, marks

-- one field with a rule of its own
abbrev pub ruled : {A : Type 0} → (A → Bool) → Format A → Format A
ruled rule f = record { fits = λ x. f.fits x && rule x; spelling = f.spelling; reading = λ bytes. f.reading bytes >>= λ x. guarded (rule x.0) bytes x }

-- f, and behind it what the value of f asks for
infixr 5 ◌then◌
abbrev pub ◌then◌ : {A B : Type 0} → Format A → (A → Format B) → Format (A × B)
f then g = record {
  fits = λ x. f.fits x.0 && (g x.0).fits x.1;
  spelling = λ x. f.spelling x.0 ++ (g x.0).spelling x.1;
  reading = λ bytes. f.reading bytes >>= λ a. (g a.0).reading a.1 >>= λ b. Ok ((a.0, b.0), b.1);
}

unfoldable pub mark_at : ℕ → List ℕ → Result (List ℕ) ℕ
mark_at mark [] = Err 0
mark_at mark (b ∷ rest) = if b == mark then Ok rest else Err (length (b ∷ rest))

-- f behind a fixed byte
abbrev pub behind : {A : Type 0} → ℕ → Format A → Format A
behind mark f = record { fits = f.fits; spelling = λ x. mark ∷ f.spelling x; reading = λ bytes. mark_at mark bytes >>= f.reading }

-- f, or nothing at all
abbrev pub option_fits : {A : Type 0} → Bool → Format A → Option A → Bool
option_fits true f (Some x) = f.fits x
option_fits true f None = false
option_fits false f (Some x) = false
option_fits false f None = true

abbrev pub option_spelling : {A : Type 0} → Format A → Option A → List ℕ
option_spelling f (Some x) = f.spelling x
option_spelling f None = []

abbrev pub option_at : {A : Type 0} → Bool → Format A → List ℕ → Reading (Option A)
option_at there f bytes = if there then (f.reading bytes >>= λ x. Ok (Some x.0, x.1)) else Ok (None, bytes)

-- f exactly where it is there
abbrev pub only_where : {A : Type 0} → Bool → Format A → Format (Option A)
only_where there f = record { fits = option_fits there f; spelling = option_spelling f; reading = option_at there f }

-- the values of f seen as values of another type
abbrev pub seen_as : {A B : Type 0} → (A → B) → (B → A) → Format A → Format B
seen_as view back f = record { fits = λ y. f.fits (back y); spelling = λ y. f.spelling (back y); reading = λ bytes. f.reading bytes >>= λ x. Ok (view x.0, x.1) }

-- ---- a field that may be there: a byte 0 where it is not, a byte 1 and the field where it is

abbrev pub flagged : {A : Type 0} → Option A → ℕ × Option A
flagged None = (0, None)
flagged (Some x) = (1, Some x)

abbrev pub maybe : {A : Type 0} → Format A → Format (Option A)
maybe f = seen_as (λ x. x.1) flagged (number w8 0 1 then λ there. only_where (there == 1) f)

-- ---- lists: a byte 1 before each item, a byte 0 at the end

-- whether an item follows
unfoldable pub more_at : Bool → List ℕ → Reading Bool
more_at may_end [] = Err 0
more_at may_end (b ∷ rest) = if b == 1 then Ok (true, rest) else (if (b == 0) && may_end then Ok (false, rest) else Err (length (b ∷ rest)))

-- each item fits behind the one before it
abbrev pub list_fits : {A : Type 0} → Bool → (Option A → Format A) → Option A → List A → Bool
list_fits may_end item before [] = may_end
list_fits may_end item before (x ∷ xs) = (item before).fits x && list_fits true item (Some x) xs

abbrev pub list_spelling : {A : Type 0} → (Option A → Format A) → Option A → List A → List ℕ
list_spelling item before [] = 0 ∷ []
list_spelling item before (x ∷ xs) = 1 ∷ (item before).spelling x ++ list_spelling item (Some x) xs

-- at most so many continuation bytes: each takes one of the bytes
abbrev pub list_from : {A : Type 0} → ℕ → Bool → (Option A → Format A) → Option A → List ℕ → Reading (List A)
list_from zero may_end item before bytes = Err (length bytes)
list_from (suc room) may_end item before bytes =
    more_at may_end bytes >>= λ more. if more.0 then ((item before).reading more.1 >>= λ x. list_from room true item (Some x.0) x.1 >>= λ xs. Ok (x.0 ∷ xs.0, xs.1)) else Ok ([], more.1)

unfoldable pub list_at : {A : Type 0} → Bool → (Option A → Format A) → Option A → List ℕ → Reading (List A)
list_at may_end item before bytes = list_from (suc (length bytes)) may_end item before bytes

-- items that are each told the one before, the first of them `before`; may_end: whether there may be none
abbrev pub list_of : {A : Type 0} → Bool → (Option A → Format A) → Option A → Format (List A)
list_of may_end item before = record { fits = list_fits may_end item before; spelling = list_spelling item before; reading = list_at may_end item before }
