-- A settling ends.
use Rattle.std.specs.Prelude.{ℕ, ◌+◌, ◌-◌, ◌*◌, ◌^◌, length}
use Rattle.db_base.specs.Limits.{last_client, last_tree}
use Rattle.recover_run.specs.End.{calls_left as recovery_left}
use Rattle.page_ckpt.specs.End.{calls_left as paging_left}
use Rattle.tree_ckpt.specs.End.{calls_in}
use Rattle.settle_run.specs.declared.part.Part.{Part}
use Rattle.settle_run.specs.declared.part.Part.TheVariants.{Client, Tree, Page}
use Rattle.settle_run.specs.Settling.{Settling}

-- how many calls the part at work has left at most
abbrev pub part_left : Part → ℕ
part_left (Client client m) = recovery_left (2 ^ 64) 255 m
part_left (Tree tree m) = calls_in m.work
part_left (Page tree page m) = paging_left m

-- how many clients and queues may come behind it, where so many pages of the tree were come to and no page is come to twice
abbrev pub places_left : Part → ℕ → ℕ
places_left (Client client m) visited = (last_client - client) + last_tree * (2 ^ 64 + 2)
places_left (Tree tree m) visited = (last_tree - tree) * (2 ^ 64 + 2) + (2 ^ 64 + 1)
places_left (Page tree page m) visited = (last_tree - tree) * (2 ^ 64 + 2) + (2 ^ 64 - visited)

-- how many parts: each checkpoint of a queue but the last received an id that was new
abbrev pub parts_left : Settling → ℕ
parts_left s = places_left s.part (length s.visited) * (2 ^ 64 + 1) + (2 ^ 64 - length s.known)

-- no part makes as many calls as 2 ^ 130
abbrev pub calls_left : Settling → ℕ
calls_left s = parts_left s * 2 ^ 130 + part_left s.part
