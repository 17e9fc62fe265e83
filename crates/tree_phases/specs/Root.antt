-- The tree object as it is put last.
use Rattle.std.specs.Prelude.{ℕ, ◌+◌, ◌==◌, ◌&&◌, nat_le, nat_lt, Bool, true, false, List, [], ◌∷◌, length, map, reverse, Option, None, Result, Ok, Err, if◌then◌else◌}
use Rattle.byte_format.specs.Format.{greatest}
use Rattle.db_base.specs.Limits.{longest_key, most_items}
use Rattle.db_base.specs.declared.trouble.Trouble.{Trouble}
use Rattle.node_codec.specs.Node.{raised}
use Rattle.node_codec.specs.Tree.{Tree, tree_bytes, with_child}
use Rattle.split_plan.specs.declared.entry_list.NewEntry.{NewEntry}
use Rattle.split_plan.specs.Plan.{put_of, entry_of, on_pages, node_bytes, root_pieces, root_above}
use Rattle.split_plan.specs.Sizes.{count_of}
use Rattle.tree_phases.specs.declared.link.Link.{Link}
use Rattle.tree_phases.specs.declared.reserve.Reserved.{Reserved}
use Rattle.tree_phases.specs.Reserve.{reservation, next_tree, pages_spent}
use Rattle.tree_phases.specs.declared.root.RootPlan.{RootPlan}

-- a link of the tree object's level
abbrev pub is_named : ℕ → Link → Bool
is_named level l = (l.level == level) && nat_le (length l.low) longest_key

-- the tree object with the links of its level, but for pages that were never reserved; a low key is there once
abbrev pub with_named : ℕ → List Link → Tree → Tree
with_named level [] t = t
with_named level (l ∷ ls) t = with_named level ls (if is_named level l then with_child l.low l.page t else t)

-- the cursor is raised to the run's top, and the links are named
abbrev pub risen : ℕ → List Link → List (ℕ × ℕ) → Tree → Tree
risen level ls top t = with_named level ls (record t { cursor = raised t.cursor top })

abbrev pub risen_by : ℕ → List Link → List (ℕ × ℕ) → Result Tree Trouble → Result Tree Trouble
risen_by level ls top (Ok t) = Ok (risen level ls top t)
risen_by level ls top (Err f) = Err f

abbrev pub raised_root : Tree → List Link → List (ℕ × ℕ) → Result Tree Trouble
raised_root t ls top = risen_by t.level ls top (next_tree t)

-- ---- a tree object of more than 64 entries

-- the inner nodes that its entries are cut into
abbrev pub new_pages : ℕ → Tree → List NewEntry
new_pages first t = map entry_of (on_pages first (first + 1) (root_pieces first t))

-- the pieces are put behind the reservation, the rightmost first; the tree object that names them is one level higher
abbrev pub lowered : Option (List ℕ) → Bool → Tree → ℕ → RootPlan
lowered put spent t first = record {
  placing = record { reserved = put; puts = reverse (map (put_of node_bytes) (on_pages first (first + 1) (root_pieces first t))) };
  last = tree_bytes (root_above (new_pages first t) t);
  is_spent = spent;
}

-- on so many numbers from `next` on
abbrev pub cut_at : Option (List ℕ) → ℕ → Bool → Tree → Result RootPlan Trouble
cut_at put count spent t =
    if nat_lt greatest (t.next + count)
    then Err pages_spent
    else Ok (lowered put spent (record t { next = t.next + count }) t.next)

-- the last put has the version behind the reservation's; where there is none, the pieces are put all the same
abbrev pub cut_by : Option (List ℕ) → ℕ → Tree → Result Tree Trouble → Result RootPlan Trouble
cut_by put count t (Ok next) = cut_at put count false next
cut_by put count t (Err f) = cut_at put count true t

-- the reservation is the next version of the tree object that stands
abbrev pub cut_behind : Tree → Result Reserved Trouble → Result RootPlan Trouble
cut_behind t (Ok r) = cut_by r.put (count_of (length t.entries)) t (next_tree t)
cut_behind t (Err f) = Err f

abbrev pub root_cut : Tree → Tree → Result RootPlan Trouble
root_cut root t = cut_behind t (reservation root 1 (count_of (length t.entries)))

-- ---- the last put

abbrev pub uncut : Tree → RootPlan
uncut t = record { placing = record { reserved = None; puts = [] }; last = tree_bytes t; is_spent = false }

-- what is put for a raised tree object; one of level 255 is not cut
abbrev pub root_plan : Tree → Tree → Result RootPlan Trouble
root_plan root t = if nat_lt most_items (length t.entries) && nat_lt root.level 255 then root_cut root t else Ok (uncut t)
