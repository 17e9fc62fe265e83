-- An index of pending entries by key: a hash table whose chains lead from newer entries to older ones.
use Rattle.std.specs.Prelude.{◌≡◌, ℕ, zero, suc, ◌<◌, ◌≤◌, List, length, take, slice_get, slice_index, Option, Some, None}
use Rattle.db_base.specs.Change.{key_of}
use Rattle.head_codec.specs.declared.lists.Pending.{Pending}
use Rattle.head_codec.specs.Slot.{slot_of}
use Rattle.route_plan.specs.Queue.{last_pending}

-- the last of the first so many entries
abbrev pub entry_upto : List Pending → ℕ → Option Pending
entry_upto pending zero = None
entry_upto pending (suc i) = slice_get pending i

-- of the first `count` entries, none behind the first `upto` is of the slot, and the last of those is
pub record Leads (pending : List Pending) (count slot upto : ℕ) : Type 0 where
  pub within : upto ≤ count
  pub of_slot : (e : Pending) → entry_upto pending upto ≡ Some e → slot_of (key_of e.change) ≡ slot
  pub same : (tree : ℕ) (key : List ℕ) → slot_of key ≡ slot → last_pending (take upto pending) tree key ≡ last_pending (take count pending) tree key

-- each slot leads to its newest entry, and each of the first `count` entries to the one before it of its slot
pub record IsIndex (pending : List Pending) (count : ℕ) (newest before : ℕ → ℕ) : Type 0 where
  pub slots : (slot : ℕ) → Leads pending count slot (newest slot)
  pub entries : (i : ℕ) (e : Pending) → i < count → slice_get pending i ≡ Some e → Leads pending i (slot_of (key_of e.change)) (before i)

-- the index in its two tables
pub record IsTable (pending : List Pending) (newest before : List ℕ) : Type 0 where
  pub slots : length newest ≡ 4096
  pub entries : length before ≡ length pending
  pub index : IsIndex pending (length pending) (λ slot. slice_index newest slot) (λ i. slice_index before i)
