-- The inner nodes that were got, and the links that go up.
use Rattle.std.specs.Prelude.{ℕ, ◌+◌, ◌==◌, ◌&&◌, ◌||◌, Bool, nat_lt, List, [], ◌∷◌, map, insert, if◌then◌else◌}
use Rattle.byte_format.specs.Order.{bytes_below}
use Rattle.split_plan.specs.declared.entry_list.NewEntry.{NewEntry}
use Rattle.tree_phases.specs.declared.kept.KeptNode.{KeptNode}
use Rattle.tree_phases.specs.declared.link.Link.{Link}

-- by level, then by low key
abbrev pub stands_before : KeptNode → KeptNode → Bool
stands_before k m = nat_lt k.level m.level || ((k.level == m.level) && bytes_below k.low m.low)

-- how many stand before a new one
abbrev pub place_of : KeptNode → List KeptNode → ℕ
place_of k [] = 0
place_of k (m ∷ ms) = if stands_before k m then 0 else place_of k ms + 1

-- the nodes with one more in its place
abbrev pub with_kept : KeptNode → List KeptNode → List KeptNode
with_kept k ks = insert ks (place_of k ks) k

-- a link of a level
abbrev pub link_at : ℕ → NewEntry → Link
link_at level e = record { level = level; low = e.low; page = e.page }

-- a link for each new page
abbrev pub links_at : ℕ → List NewEntry → List Link
links_at level es = map (link_at level) es
