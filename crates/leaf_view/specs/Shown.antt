-- A record as an iterator gives it.
use Rattle.std.specs.Prelude.{ℕ, List, Option}
use Rattle.std.specs.Option.{option_copied}
use Rattle.std.proofs.Common.{Bor}
use Rattle.db_base.specs.Value.{Value}
use Rattle.leaf_view.specs.Leaf.{Entry, entry_of}

-- the record of a key, a payload and an attribute, where there is one
abbrev pub shown : Bor (List ℕ) × Bor (List ℕ) × Option (Bor (List ℕ)) → Entry
shown x = entry_of (x.0.now, (x.1.now, option_copied x.2))

-- the record of a key and a value
abbrev pub valued : Bor (List ℕ) × Value → Entry
valued x = record { key = x.0.now; value = x.1 }
