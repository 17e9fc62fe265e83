-- The changes of a transaction: one net change for each tree and key, in the order in which the trees and keys were first noted.
use Rattle.std.specs.Prelude.{◌≡◌, ℕ, ◌≤◌, Bool, ◌&&◌, nat_eq, if◌then◌else◌, List, [], ◌∷◌, length, Option, Some, None, Result, Err, ◌⊎◌, ⊤}
use Rattle.std.specs.Str.{bytes_eq}
use Rattle.db_base.specs.Change.{key_of, net}
use Rattle.db_base.specs.Entry.{index_insert}
use Rattle.db_base.specs.Ids.{index_of}
use Rattle.db_base.specs.Limits.{most_changes}
use Rattle.db_base.specs.declared.change.Change.{Change}
use Rattle.db_base.specs.declared.refusal.Refusal.TheVariants.{TooManyChanges}
use Rattle.db_base.specs.declared.refusal.Refused.{Refused}
use Rattle.db_base.specs.declared.refusal.Refused.TheVariants.{Rule, Memory}
use Rattle.db_base.specs.declared.change.Change.TheVariants.{Insert}

-- a change of a tree
pub record Noted : Type 0 where
  pub tree : ℕ
  pub change : Change

-- whether an entry is of this tree and key
abbrev pub is_of : ℕ → List ℕ → Noted → Bool
is_of tree key entry = nat_eq tree entry.tree && bytes_eq key (key_of entry.change)

-- the change of this tree and key, where there is one
abbrev pub found_in : List Noted → ℕ → List ℕ → Option Change
found_in [] tree key = None
found_in (entry ∷ rest) tree key = if is_of tree key entry then Some entry.change else found_in rest tree key

-- the entries after one more change: the net change in its place where its tree and key are there, else the change at the end
abbrev pub noted_in : List Noted → ℕ → Change → List Noted
noted_in [] tree change = record { tree = tree; change = change } ∷ []
noted_in (entry ∷ rest) tree change =
    if is_of tree (key_of change) entry then record { tree = entry.tree; change = net entry.change change } ∷ rest else entry ∷ noted_in rest tree change

-- the entries after two more changes
abbrev pub both_noted_in : List Noted → ℕ → Change → ℕ → Change → List Noted
both_noted_in list tree change other_tree other = noted_in (noted_in list tree change) other_tree other

-- the entries after one more record with an attribute: its insert, and the one that brings it into the index of its tree
abbrev pub put_in : List Noted → ℕ → List ℕ → List ℕ → List ℕ → List Noted
put_in list tree key payload attr = noted_in (noted_in list tree (Insert key payload (Some attr))) (index_of tree) (index_insert attr key)

-- no two entries are of one tree and key
abbrev pub AreDistinct : List Noted → Type 0
AreDistinct [] = ⊤
AreDistinct (entry ∷ rest) = (found_in rest entry.tree (key_of entry.change) ≡ None) × AreDistinct rest

-- the entries of a buffer: not too many, each of a tree and key of its own
pub record AreNoted (list : List Noted) : Type 0 where
  pub most : length list ≤ most_changes
  pub distinct : AreDistinct list

-- a change of a tree and key that have none finds the buffer full
abbrev pub FindsFull : List Noted → ℕ → Change → Type 0
FindsFull list tree change = (found_in list tree (key_of change) ≡ None) × (most_changes ≤ length list)

-- a change was refused, for there are too many
abbrev pub AreTooMany : {A : Type 0} → Result A Refused → Type 0
AreTooMany result = result ≡ Err (Rule TooManyChanges)

-- there are too many changes, or memory ran out
abbrev pub TooManyOrMemory : Refused → Type 0
TooManyOrMemory refused = (refused ≡ Rule TooManyChanges) ⊎ (refused ≡ Memory)
