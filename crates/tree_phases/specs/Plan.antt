-- What is put where a leaf takes a run.
use Rattle.std.specs.Prelude.{ℕ, ◌-◌, ◌==◌, List, length, map, reverse, drop, Result, Ok, Err, if◌then◌else◌}
use Rattle.byte_format.specs.Format.{greatest}
use Rattle.db_base.specs.declared.trouble.Trouble.{Trouble}
use Rattle.leaf_view.specs.Leaf.{Leaf}
use Rattle.leaf_edit.specs.Applied.{applied}
use Rattle.log_codec.specs.declared.record.PuItem.{PuItem}
use Rattle.node_codec.specs.Tree.{Tree}
use Rattle.split_plan.specs.Plan.{put_of, entry_of, on_pages, leaf_bytes, leaf_pieces}
use Rattle.split_plan.specs.Sizes.{count_of}
use Rattle.tree_phases.specs.declared.reserve.Reserved.{Reserved}
use Rattle.tree_phases.specs.Reserve.{reservation, version_spent}
use Rattle.tree_phases.specs.declared.page_plan.PagePlan.{PagePlan}

-- the pieces of a leaf on their pages: the reservation is put first, then the right pieces, the rightmost first, and the leaf's own page last
abbrev pub in_pieces : ℕ → Leaf → Reserved → PagePlan
in_pieces page l r = record {
  placing = record { reserved = r.put; puts = reverse (map (put_of leaf_bytes) (on_pages page r.first (leaf_pieces r.first l))) };
  entries = drop 1 (map entry_of (on_pages page r.first (leaf_pieces r.first l)));
}

abbrev pub planned_by : ℕ → Leaf → Result Reserved Trouble → Result PagePlan Trouble
planned_by page l (Ok r) = Ok (in_pieces page l r)
planned_by page l (Err t) = Err t

-- a leaf of more than 64 records is cut, and its new pieces take numbers that are reserved for them
abbrev pub planned : Tree → ℕ → Leaf → Result PagePlan Trouble
planned root page l = planned_by page l (reservation root page (count_of (length l.records) - 1))

-- the leaf with the run applied
abbrev pub leaf_plan : Tree → ℕ → Leaf → List PuItem → Result PagePlan Trouble
leaf_plan root page l run = if l.version == greatest then Err version_spent else planned root page (applied l 0 run)
