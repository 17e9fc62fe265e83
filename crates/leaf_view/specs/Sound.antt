-- What a view of a leaf keeps.
use Rattle.std.specs.Prelude.{ℕ, List}
use Rattle.byte_format.specs.Plain.{items_in, IsListed}
use Rattle.leaf_view.specs.Leaf.{Head, Leaf, plain_done, plain_entry}
use Rattle.leaf_view.specs.Fits.{IsWellFormed}
use Rattle.leaf_view.specs.Spelled.{IsAll}

-- the leaf of its fields and of its two lists
abbrev pub leaf_with : Head → List ℕ → List ℕ → Leaf
leaf_with h done records =
    record { format = h.format; version = h.version; low = h.low; right = h.right; high = h.high; done = items_in plain_done done; records = items_in (plain_entry h.format) records }

pub record IsSound (h : Head) (done records : List ℕ) : Type 0 where
  pub done_listed : IsListed plain_done done
  pub records_listed : IsListed (plain_entry h.format) records
  pub records_all : IsAll h.format records
  pub formed : IsWellFormed (leaf_with h done records)
