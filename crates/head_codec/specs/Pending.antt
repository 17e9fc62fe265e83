-- The format of a head's pending entries.
use Rattle.std.specs.Prelude.{◌≡◌, ℕ, ◌<◌, ◌^◌, true, List, [], ◌∷◌, ◌++◌, Option, None}
use Rattle.std.specs.List.{AllByRecursion}
use Rattle.std.specs.Int.{w8}
use Rattle.db_base.specs.Change.{IsChange}
use Rattle.db_base.specs.Ids.{IsTree}
use Rattle.db_base.specs.declared.change.Change.{Change}
use Rattle.byte_format.specs.Format.{Format, number, ◌then◌, seen_as, list_of}
use Rattle.change_codec.specs.Change.{change}
use Rattle.change_codec.specs.Number.{u64_from}
use Rattle.head_codec.specs.declared.lists.Pending.{Pending}

-- the tree, the page, the number, the change
abbrev pub pending_fields : Format (ℕ × (ℕ × (ℕ × Change)))
pending_fields = number w8 1 16 then λ tree. u64_from 0 then λ page. u64_from 1 then λ number. change

abbrev pub pending_of_fields : ℕ × (ℕ × (ℕ × Change)) → Pending
pending_of_fields (tree, (page, (number, change))) = record { tree = tree; page = page; number = number; change = change }

abbrev pub fields_of_pending : Pending → ℕ × (ℕ × (ℕ × Change))
fields_of_pending p = (p.tree, (p.page, (p.number, p.change)))

-- a pending entry, whatever the one before it
abbrev pub pending_entry : Option Pending → Format Pending
pending_entry before = seen_as pending_of_fields fields_of_pending pending_fields

-- the pending entries of a head
abbrev pub pending_list : Format (List Pending)
pending_list = list_of true pending_entry None

-- what the types of a pending entry say
pub record FitsPending (p : Pending) : Type 0 where
  pub tree : IsTree p.tree
  pub page : p.page < 2 ^ 64
  pub number : p.number < 2 ^ 64
  pub change : IsChange p.change

-- the spellings of pending entries, one behind the other, each behind the byte that says that one follows
abbrev pub spellings : List Pending → List ℕ
spellings [] = []
spellings (p ∷ pending) = (1 ∷ (pending_entry None).spelling p) ++ spellings pending

-- bytes are the spellings of pending entries
pub record AreSpelled (pending : List Pending) (bytes : List ℕ) : Type 0 where
  pub spelling : bytes ≡ spellings pending
  pub fits : AllByRecursion FitsPending pending
