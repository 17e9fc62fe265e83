-- Records that are inserted, and entries that are such inserts.
use Rattle.std.specs.Prelude.{ℕ, ◌≡◌, List, Some, slice_get}
use Rattle.db_base.specs.declared.change.Change.{Change}
use Rattle.db_base.specs.declared.change.Change.TheVariants.{Insert}
use Rattle.history.specs.Legal.{StandsAt}
use Rattle.report_types.specs.declared.entry.Entry.{Entry}
use Rattle.report_types.specs.declared.stored.Stored.{Stored}

-- the change by which a record is inserted
abbrev pub insert_of : Stored → Change
insert_of stored = Insert stored.key stored.payload stored.attr

-- an entry inserts one of these records
pub record Inserts (records : List Stored) (entry : Entry) : Type 0 where
  pub place : ℕ
  pub stored : Stored
  pub there : slice_get records place ≡ Some stored
  pub change : entry.change ≡ insert_of stored

-- the entries of a tree are inserts of these records, and each of these is inserted
pub record InsertAll (tree : ℕ) (records : List Stored) (entries : List Entry) : Type 0 where
  pub alone : (place : ℕ) (entry : Entry) → StandsAt entries place entry → entry.tree ≡ tree → Inserts records entry
  pub each : (place : ℕ) (stored : Stored) → slice_get records place ≡ Some stored
      → (at : ℕ) × (entry : Entry) × StandsAt entries at entry × (entry.tree ≡ tree) × (entry.change ≡ insert_of stored)
