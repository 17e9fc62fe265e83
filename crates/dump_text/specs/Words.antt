-- The lines of a dump as they are read.
use Rattle.std.specs.Prelude.{ℕ, List, Option, Some, None, codes, if◌then◌else◌}
use Rattle.std.specs.Str.{bytes_eq}
use Rattle.words.specs.Line.{◌>>=◌, word_at, bytes_at, last_of, two_of}
use Rattle.report_types.specs.declared.stored.Stored.{Stored}

-- the word `tree`, a number, how many records, and nothing else
unfoldable pub tree_of_words : List (List ℕ) → Option (ℕ × ℕ)
tree_of_words words = do
  first ← word_at words
  if bytes_eq first.0 (codes "tree") then two_of first.1 else None

-- a key, a payload, an attribute or none, and nothing else
unfoldable pub stored_of_words : List (List ℕ) → Option Stored
stored_of_words words = do
  key ← bytes_at words
  payload ← bytes_at key.1
  attr ← last_of payload.1
  Some (record { key = key.0; payload = payload.0; attr = attr })
