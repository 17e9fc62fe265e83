-- All of the bytes as one spelling, and what makes a format exact.
use Rattle.std.specs.Prelude.{◌≡◌, ℕ, ◌-◌, ◌<◌, ◌≤◌, true, IsTrue, List, ◌++◌, length, slice_index, Result, Ok, Err, ◌==◌, if◌then◌else◌}
use Rattle.byte_format.specs.Format.{◌>>=◌, Format}

-- the value of the bytes where nothing follows it, or the bytes left at the first field that fails
abbrev pub whole : {A : Type 0} → Format A → List ℕ → Result A ℕ
whole f bytes = f.reading bytes >>= λ x. if length x.1 == 0 then Ok x.0 else Err (length x.1)

abbrev pub place_in : {A : Type 0} → List ℕ → Result A ℕ → ℕ
place_in bytes (Ok x) = length bytes
place_in bytes (Err left) = length bytes - left

-- the place of the first field that is cut short or breaks its rule, or behind the last field where bytes follow it
abbrev pub offset : {A : Type 0} → Format A → List ℕ → ℕ
offset f bytes = place_in bytes (whole f bytes)

-- bytes are the spelling of v
pub record IsSpelling {A : Type 0} (f : Format A) (bytes : List ℕ) (v : A) : Type 0 where
  pub fits : IsTrue (f.fits v)
  pub is : bytes ≡ f.spelling v

abbrev pub IsBytes : List ℕ → Type 0
IsBytes bytes = (i : ℕ) → slice_index bytes i < 256

-- what is read is spelled so, and what is spelled so is read, whatever follows it
pub record IsExact {A : Type 0} (f : Format A) : Type 0 where
  pub takes : (bytes : List ℕ) (x : A × List ℕ) → IsBytes bytes → f.reading bytes ≡ Ok x → (f.fits x.0 ≡ true) × (bytes ≡ f.spelling x.0 ++ x.1)
  pub again : (v : A) (rest : List ℕ) → f.fits v ≡ true → f.reading (f.spelling v ++ rest) ≡ Ok (v, rest)
  pub within : (bytes : List ℕ) (left : ℕ) → IsBytes bytes → f.reading bytes ≡ Err left → left ≤ length bytes
