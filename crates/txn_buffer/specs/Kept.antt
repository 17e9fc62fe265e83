-- How a map from trees and keys to changes is seen as the list of noted changes.
use Rattle.std.specs.Prelude.{ℕ, ◌≡◌, ◌≤◌, ◌<◌, List, [], ◌∷◌, length, Option, Some, None, ⊤, map, slice_get}
use Rattle.db_base.specs.Change.{key_of, net}
use Rattle.db_base.specs.Limits.{longest_key, most_changes}
use Rattle.db_base.specs.declared.change.Change.{Change}
use Rattle.txn_buffer.specs.Noted.{Noted, AreNoted, found_in, noted_in}
use Rattle.txn_buffer.specs.declared.noted_key.NotedKey.{NotedKey}

-- an entry as a noted change
abbrev pub noted_of : NotedKey × Change → Noted
noted_of entry = record { tree = entry.0.tree; change = entry.1 }

-- an entry's key is that of its change, and has at most 64 bytes
abbrev pub KeyMatches : NotedKey → Change → Type 0
KeyMatches key change = (key.key.items ≡ key_of change) × (length key.key.items ≤ longest_key)

-- each entry's key is that of its change
abbrev pub KeysMatch : List (NotedKey × Change) → Type 0
KeysMatch [] = ⊤
KeysMatch (entry ∷ rest) = KeyMatches entry.0 entry.1 × KeysMatch rest

-- the change to store where one of its tree and key may be there already
abbrev pub joined_to : Option Change → Change → Change
joined_to None change = change
joined_to (Some first) change = net first change

-- what a buffer's map keeps
pub record IsKept (entries : List (NotedKey × Change)) : Type 0 where
  pub keys : KeysMatch entries
  pub noted : AreNoted (map noted_of entries)

-- the change of a key, where there is one
abbrev pub change_at : List (NotedKey × Change) → NotedKey → Option Change
change_at entries key = found_in (map noted_of entries) key.tree key.key.items

-- one more change finds room: its tree and key are there, or not too many others
abbrev pub HasRoomFor : List (NotedKey × Change) → ℕ → Change → Type 0
HasRoomFor entries tree change = found_in (map noted_of entries) tree (key_of change) ≡ None → length entries < most_changes

-- one more change is noted
abbrev pub AddsChange : List (NotedKey × Change) → ℕ → Change → List (NotedKey × Change) → Type 0
AddsChange old tree change new = map noted_of new ≡ noted_in (map noted_of old) tree change

-- this holds of the item at a place, where there is one
abbrev pub IfAt : {A : Type 0} → List A → ℕ → (A → Type 0) → Type 0
IfAt {A} items place holds = (item : A) → slice_get items place ≡ Some item → holds item
