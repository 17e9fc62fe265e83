-- Inner nodes with the links of their level that lie in their range.
use Rattle.std.specs.Prelude.{ℕ, ◌+◌, ◌-◌, ◌==◌, ◌&&◌, not, nat_le, Bool, true, List, [], ◌∷◌, length, map, reverse, drop, Result, Ok, Err, if◌then◌else◌}
use Rattle.std.specs.List.{list_any}
use Rattle.byte_format.specs.Format.{greatest}
use Rattle.byte_format.specs.Order.{bytes_below, below_bound}
use Rattle.db_base.specs.Limits.{longest_key}
use Rattle.db_base.specs.declared.trouble.Trouble.{Trouble}
use Rattle.node_codec.specs.Inner.{Inner}
use Rattle.node_codec.specs.Node.{Entry, with_entry}
use Rattle.node_codec.specs.Tree.{Tree}
use Rattle.split_plan.specs.Plan.{put_of, entry_of, on_pages, node_bytes, node_pieces}
use Rattle.split_plan.specs.Sizes.{count_of}
use Rattle.tree_phases.specs.declared.kept.KeptNode.{KeptNode}
use Rattle.tree_phases.specs.declared.link.Link.{Link}
use Rattle.tree_phases.specs.declared.reserve.Reserved.{Reserved}
use Rattle.tree_phases.specs.Read.{inner_read}
use Rattle.tree_phases.specs.Reserve.{reservation, version_spent}
use Rattle.tree_phases.specs.declared.page_plan.PagePlan.{PagePlan}

-- a link of the node's level whose low key lies in its range
abbrev pub goes_to : Inner → Link → Bool
goes_to n l = (l.level == n.level) && (nat_le (length l.low) longest_key && (not (bytes_below l.low n.low) && below_bound l.low n.high))

-- a link goes to the node
abbrev pub is_touched : Inner → List Link → Bool
is_touched n ls = list_any (goes_to n) ls

abbrev pub touched_by : List Link → Result Inner Trouble → Bool
touched_by ls (Ok n) = is_touched n ls
touched_by ls (Err t) = true

abbrev pub touches : ℕ → List Link → KeptNode → Bool
touches tree ls k = touched_by ls (inner_read tree k.page k.bytes)

-- how many nodes stand before the first one that a link goes to
abbrev pub touched_at : ℕ → List Link → List KeptNode → ℕ
touched_at tree ls [] = 0
touched_at tree ls (k ∷ ks) = if touches tree ls k then 0 else touched_at tree ls ks + 1

-- the entries with the links that go to the node; a low key is there once
abbrev pub with_links : Inner → List Link → List Entry → List Entry
with_links n [] es = es
with_links n (l ∷ ls) es = with_links n ls (if goes_to n l then with_entry l.low l.page es else es)

-- the node as it is put next
abbrev pub linked : Inner → List Link → Result Inner Trouble
linked n ls =
    if n.version == greatest
    then Err version_spent
    else Ok (record n { version = n.version + 1; entries = with_links n ls n.entries })

-- the pieces of a node on their pages: the reservation is put first, then the right pieces, the rightmost first, and the node's own page last
abbrev pub in_pieces : ℕ → Inner → Reserved → PagePlan
in_pieces page n r = record {
  placing = record { reserved = r.put; puts = reverse (map (put_of node_bytes) (on_pages page r.first (node_pieces r.first n))) };
  entries = drop 1 (map entry_of (on_pages page r.first (node_pieces r.first n)));
}

abbrev pub planned_by : ℕ → Inner → Result Reserved Trouble → Result PagePlan Trouble
planned_by page n (Ok r) = Ok (in_pieces page n r)
planned_by page n (Err t) = Err t

-- a node of more than 64 entries is cut, and its new pieces take numbers that are reserved for them
abbrev pub planned : Tree → ℕ → Inner → Result PagePlan Trouble
planned root page n = planned_by page n (reservation root page (count_of (length n.entries) - 1))

abbrev pub planned_of : Tree → ℕ → Result Inner Trouble → Result PagePlan Trouble
planned_of root page (Ok n) = planned root page n
planned_of root page (Err t) = Err t

abbrev pub linked_by : List Link → Result Inner Trouble → Result Inner Trouble
linked_by ls (Ok n) = linked n ls
linked_by ls (Err t) = Err t

-- a node that was got, with the links that go to it
abbrev pub node_plan : Tree → ℕ → KeptNode → List Link → Result PagePlan Trouble
node_plan root tree k ls = planned_of root k.page (linked_by ls (inner_read tree k.page k.bytes))
