-- The items of a run that a leaf takes.
use Rattle.std.specs.Prelude.{◌≡◌, ℕ, Bool, true, IsTrue, ◌&&◌, nat_lt, List, [], ◌∷◌, filter}
use Rattle.std.specs.List.{AllByRecursion}
use Rattle.db_base.specs.Change.{key_of}
use Rattle.leaf_view.specs.Leaf.{Leaf}
use Rattle.leaf_view.specs.Lookup.{holds, number_of}
use Rattle.log_codec.specs.declared.record.PuItem.{PuItem}

-- the item's key is in the leaf's range, and the leaf has not applied its number
abbrev pub is_lacked : Leaf → ℕ → PuItem → Bool
is_lacked l queue x = holds l (key_of x.rec.change) && nat_lt (number_of l.done queue x.rec.client) x.rec.number

-- the items of the run that the leaf lacks, in the run's order
abbrev pub lacked : Leaf → ℕ → List PuItem → List PuItem
lacked l queue run = filter (is_lacked l queue) run

-- the first item of the run is lacked, where there is one
abbrev pub IsFirstLacked : Leaf → ℕ → List PuItem → Type 0
IsFirstLacked l queue [] = Unit {0}
IsFirstLacked l queue (x ∷ run) = is_lacked l queue x ≡ true

-- the key of each item is in the leaf's range
abbrev pub AllHeld : Leaf → List PuItem → Type 0
AllHeld l xs = AllByRecursion (λ x. IsTrue (holds l (key_of x.rec.change))) xs
