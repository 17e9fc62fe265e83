-- The chain of the newest leaves of a tree, and the records in it.
use Rattle.std.specs.Prelude.{ℕ, ◌≡◌, List, [], ◌∷◌, map, Option, Some, None, Result, Ok, Err}
use Rattle.std.specs.List.{flat_map}
use Rattle.byte_format.specs.Whole.{offset}
use Rattle.db_base.specs.Ids.{IsPage}
use Rattle.db_base.specs.declared.names.ObjName.TheVariants as object
use Rattle.db_base.specs.declared.names.Place.TheVariants as place
use Rattle.db_base.specs.declared.trouble.Trouble.{Trouble}
use Rattle.db_base.specs.declared.trouble.Trouble.TheVariants.{Absent, Damaged}
use Rattle.cloud_trait.specs.State.{CloudState, newest}
use Rattle.report_types.specs.declared.stored.Stored.{Stored}
use Rattle.leaf_view.specs.Leaf.{Entry, Leaf, IsLeaf, leaf}
use Rattle.leaf_view.specs.Lookup.{empty_leaf}

-- what the newest version of a page is read as: the leaf that it spells, or the trouble; an absent page 1 is the empty leaf
abbrev pub IsReadAs : ℕ → ℕ → Option (List ℕ) → Result Leaf Trouble → Type 0
IsReadAs tree page None (Ok l) = (page ≡ 1) × (l ≡ empty_leaf)
IsReadAs tree page None (Err e) = (page ≡ 1 → ⊥) × (e ≡ Absent page)
IsReadAs tree page (Some bytes) (Ok l) = IsLeaf bytes l
IsReadAs tree page (Some bytes) (Err e) = (e ≡ Damaged (place.Object (object.Page tree page)) (offset leaf bytes)) × ((l : Leaf) → IsLeaf bytes l → ⊥)

-- the leaf is the newest one at the page
abbrev pub IsNewestLeaf : CloudState → ℕ → ℕ → Leaf → Type 0
IsNewestLeaf s tree page l = IsReadAs tree page (newest s (object.Page tree page)) (Ok l)

-- the leaves lead from a page to another: each is the newest at its page, and its right page is that of the next one
abbrev pub Leads : CloudState → ℕ → ℕ → List Leaf → ℕ → Type 0
Leads s tree from [] to = from ≡ to
Leads s tree from (l ∷ leaves) to = IsPage from × IsNewestLeaf s tree from l × Leads s tree l.right leaves to

-- the leaves are all of the tree: they lead from page 1 to no page
abbrev pub AreLeaves : CloudState → ℕ → List Leaf → Type 0
AreLeaves s tree leaves = Leads s tree 1 leaves 0

-- a record as a report shows it
abbrev pub stored_of : Entry → Stored
stored_of e = record { key = e.key; payload = e.value.payload; attr = e.value.attr }

-- the records of leaves, in their order
abbrev pub records_of : List Leaf → List Stored
records_of leaves = flat_map (λ (l : Leaf). map stored_of l.records) leaves

-- the records are those of leaves that lead from page 1 to a page
pub record Walked (s : CloudState) (tree to : ℕ) (records : List Stored) : Type 0 where
  pub leaves : List Leaf
  pub lead : Leads s tree 1 leaves to
  pub are : records ≡ records_of leaves
