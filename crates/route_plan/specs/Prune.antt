-- The pending entries that a leaf or a root shows to be applied.
use Rattle.std.specs.Prelude.{ℕ, ◌≤◌, ◌%◌, ◌==◌, ◌&&◌, not, nat_le, Bool, List, filter, slice_index}
use Rattle.db_base.specs.Change.{key_of}
use Rattle.db_base.specs.Cursor.{number_of}
use Rattle.head_codec.specs.declared.head.Head.{Head}
use Rattle.head_codec.specs.declared.lists.Pending.{Pending}
use Rattle.leaf_view.specs.declared.done.Done.{Done}
use Rattle.leaf_view.specs.Leaf.{Leaf}
use Rattle.leaf_view.specs.Lookup.{holds, number_of as done_number}
use Rattle.node_codec.specs.Tree.{Tree}

-- whether a leaf shows the client's entry to be applied: it holds the key, and the number is at most that of its queue and client
abbrev pub is_applied_in : Leaf → ℕ → ℕ → Pending → Bool
is_applied_in leaf client tree entry =
    (entry.tree == tree) && holds leaf (key_of entry.change) && nat_le entry.number (done_number leaf.done entry.page client)

-- the head without the entries that the leaf shows to be applied
abbrev pub pruned_by_leaf : Head → ℕ → ℕ → Leaf → Head
pruned_by_leaf head client tree leaf = record head { pending = filter (λ entry. not (is_applied_in leaf client tree entry)) head.pending }

-- whether a root shows the client's entry to be applied: it is of the tree queue, and at or below the client's number in the cursor
abbrev pub is_covered_by : Tree → ℕ → ℕ → Pending → Bool
is_covered_by root client tree entry = (entry.tree == tree) && (entry.page == 0) && nat_le entry.number (number_of root.cursor client)

-- the head without the entries that the root shows to be applied
abbrev pub pruned_by_tree : Head → ℕ → ℕ → Tree → Head
pruned_by_tree head client tree root = record head { pending = filter (λ entry. not (is_covered_by root client tree entry)) head.pending }

-- for each class of queues, by the remainder of the page's number, one that none of the client's numbers is above
abbrev pub AreMost : List Done → ℕ → List ℕ → Type 0
AreMost done client most = (queue : ℕ) → done_number done queue client ≤ slice_index most (queue % 64)
