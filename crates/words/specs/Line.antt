-- Texts as parts between separators, and readers that take one part after another.
use Rattle.std.specs.Prelude.{ℕ, ◌==◌, List, [], ◌∷◌, Option, Some, None, option_and_then}
use Rattle.std.specs.List.{slice_split, join_with_byte}
use Rattle.words.specs.Word.{hexadecimal, number_of, bytes_of}

-- the parts of a text between separators
abbrev pub parts_of : ℕ → List ℕ → List (List ℕ)
parts_of separator text = slice_split (λ b. b == separator) text

-- the text of parts with a separator between each two
abbrev pub text_of : ℕ → List (List ℕ) → List ℕ
text_of separator parts = join_with_byte separator parts

-- the ? of the logic: the second step, if the first gave a value
infixl 10 ◌>>=◌
abbrev pub ◌>>=◌ : {A B : Type 0} → Option A → (A → Option B) → Option B
o >>= f = option_and_then f o

-- a value behind which nothing is left
abbrev pub with_left : {A : Type 0} → List (List ℕ) → Option A → Option (A × List (List ℕ))
with_left left None = None
with_left left (Some x) = Some (x, left)

-- the first word, and what is left
unfoldable pub word_at : List (List ℕ) → Option (List ℕ × List (List ℕ))
word_at [] = None
word_at (word ∷ left) = Some (word, left)

-- the first word as a number, and what is left
unfoldable pub number_at : List (List ℕ) → Option (ℕ × List (List ℕ))
number_at [] = None
number_at (word ∷ left) = with_left left (number_of word)

-- the first word as bytes, and what is left
unfoldable pub bytes_at : List (List ℕ) → Option (List ℕ × List (List ℕ))
bytes_at [] = None
bytes_at (word ∷ left) = with_left left (bytes_of word)

-- that nothing is left
unfoldable pub end_at : List (List ℕ) → Option (Unit {0})
end_at [] = Some tt
end_at (word ∷ left) = None

-- bytes as a last word, or no word
abbrev pub last_words : Option (List ℕ) → List (List ℕ)
last_words None = []
last_words (Some bytes) = hexadecimal bytes ∷ []

-- the last word as bytes, or none where nothing is left
unfoldable pub last_of : List (List ℕ) → Option (Option (List ℕ))
last_of [] = Some None
last_of (word ∷ words) = do
  bytes ← bytes_of word
  end ← end_at words
  Some (Some bytes)

-- the parts that are left of a text, or none
abbrev pub parts_left : ℕ → Option (List ℕ) → List (List ℕ)
parts_left separator None = []
parts_left separator (Some text) = parts_of separator text

-- all words as numbers
unfoldable pub numbers_of : List (List ℕ) → Option (List ℕ)
numbers_of [] = Some []
numbers_of (word ∷ words) = do
  number ← number_of word
  numbers ← numbers_of words
  Some (number ∷ numbers)

-- one number and nothing else
unfoldable pub one_of : List (List ℕ) → Option ℕ
one_of words = do
  number ← number_at words
  end ← end_at number.1
  Some number.0

-- two numbers and nothing else
unfoldable pub two_of : List (List ℕ) → Option (ℕ × ℕ)
two_of words = do
  first ← number_at words
  second ← number_at first.1
  end ← end_at second.1
  Some (first.0, second.0)

-- three numbers and nothing else
unfoldable pub three_of : List (List ℕ) → Option (ℕ × ℕ × ℕ)
three_of words = do
  first ← number_at words
  second ← number_at first.1
  third ← number_at second.1
  end ← end_at third.1
  Some (first.0, second.0, third.0)

-- a number, bytes, and nothing else
unfoldable pub place_of : List (List ℕ) → Option (ℕ × List ℕ)
place_of words = do
  number ← number_at words
  bytes ← bytes_at number.1
  end ← end_at bytes.1
  Some (number.0, bytes.0)

-- a number, bytes, a number, and nothing else
unfoldable pub sum_of : List (List ℕ) → Option (ℕ × List ℕ × ℕ)
sum_of words = do
  number ← number_at words
  bytes ← bytes_at number.1
  amount ← number_at bytes.1
  end ← end_at amount.1
  Some (number.0, bytes.0, amount.0)

-- a number, bytes twice, and nothing else
unfoldable pub record_of : List (List ℕ) → Option (ℕ × List ℕ × List ℕ)
record_of words = do
  number ← number_at words
  first ← bytes_at number.1
  second ← bytes_at first.1
  end ← end_at second.1
  Some (number.0, first.0, second.0)
