-- What the held get of a leaf brings.
use Rattle.std.specs.Prelude.{ℕ, ◌≡◌, ◌==◌, List, Option, Some, None, Result, Ok, Err, ◌⊎◌, if◌then◌else◌}
use Rattle.db_base.specs.declared.names.ObjName.TheVariants as object
use Rattle.db_base.specs.declared.names.Place.TheVariants as place
use Rattle.db_base.specs.declared.trouble.Trouble.{Trouble}
use Rattle.db_base.specs.declared.trouble.Trouble.TheVariants as trouble
use Rattle.byte_format.specs.Order.{bytes_same}
use Rattle.byte_format.specs.Whole.{offset}
use Rattle.leaf_view.specs.Leaf.{Leaf, IsLeaf, leaf}
use Rattle.leaf_view.specs.Lookup.{empty_leaf}

-- bytes of a page of a tree that are in no spelling asked for
abbrev pub page_damage : ℕ → ℕ → ℕ → Trouble
page_damage tree page at = trouble.Damaged (place.Object (object.Page tree page)) at

-- a page that has no object: page 1 is the empty leaf
abbrev pub absent_leaf : ℕ → Result Leaf Trouble
absent_leaf page = if page == 1 then Ok empty_leaf else Err (trouble.Absent page)

-- the bytes spell no leaf
abbrev pub IsNoLeaf : List ℕ → Type 0
IsNoLeaf bytes = (l : Leaf) → IsLeaf bytes l → ⊥

-- the bytes of a page as a leaf: the leaf that they spell, or damage where the first fault of the grammar is
abbrev pub ReadsLeaf : ℕ → ℕ → List ℕ → Result Leaf Trouble → Type 0
ReadsLeaf tree page bytes found =
    ((l : Leaf) × IsLeaf bytes l × (found ≡ Ok l)) ⊎ (IsNoLeaf bytes × (found ≡ Err (page_damage tree page (offset leaf bytes))))

-- what a held get brought, as a leaf
abbrev pub HoldsLeaf : ℕ → ℕ → Option (List ℕ) → Result Leaf Trouble → Type 0
HoldsLeaf tree page None found = found ≡ absent_leaf page
HoldsLeaf tree page (Some bytes) found = ReadsLeaf tree page bytes found

-- a page whose low key is not the one that led to it
abbrev pub bad_fence : ℕ → List ℕ → Leaf → Trouble
bad_fence page low l = trouble.BadFence page low l.low

-- the leaf, where its low key is the one that led to it
abbrev pub fenced : ℕ → List ℕ → Result Leaf Trouble → Result Leaf Trouble
fenced page low (Ok l) = if bytes_same low l.low then Ok l else Err (bad_fence page low l)
fenced page low (Err t) = Err t

-- what a held get brought of a page to which a link with this low key led
abbrev pub HoldsLinked : ℕ → ℕ → List ℕ → Option (List ℕ) → Result Leaf Trouble → Type 0
HoldsLinked tree page low got found = (plain : Result Leaf Trouble) × HoldsLeaf tree page got plain × (found ≡ fenced page low plain)
