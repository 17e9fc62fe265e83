-- A commit ends.
use Rattle.std.specs.Prelude.{ℕ, ◌+◌, ◌-◌, ◌*◌, ◌^◌, length}
use Rattle.tree_walk.specs.Walk.{calls_left as walk_left}
use Rattle.commit_writes.specs.End.{calls_left as writes_left}
use Rattle.commit_writes.specs.Writing.{Writing}
use Rattle.commit_run.specs.declared.hand.Hand.{Hand}
use Rattle.commit_run.specs.declared.hand.Hand.TheVariants.{Writes, First, Change}
use Rattle.commit_run.specs.Draft.{Draft}
use Rattle.commit_run.specs.Run.{Run}

-- the calls of one walk at most: one for each page that it comes to, and one more
abbrev pub walk_calls : ℕ
walk_calls = 2 ^ 66 + 1

-- the calls behind the walks at most: three for each change, and two
abbrev pub written_calls : Writing → ℕ
written_calls w = 3 * length w.changes + length w.ids + 2

-- how many changes have no known leaf
abbrev pub unknown : Draft → ℕ
unknown d = length d.writes.changes - length d.plan.pages

-- the calls of so many walks and of what is written behind them at most
abbrev pub walks_and_writes : ℕ → Writing → ℕ
walks_and_writes walks w = walks * walk_calls + written_calls w

-- how many calls are left at most: behind the walk in hand each change has one walk at most
abbrev pub left_at : Hand → Draft → ℕ
left_at Writes d = writes_left d.writes
left_at (First w) d = (walk_left w + 1) + walks_and_writes (unknown d) d.writes
left_at (Change w) d = (walk_left w + 1) + walks_and_writes (unknown d - 1) d.writes

abbrev pub calls_left : Run → ℕ
calls_left r = left_at r.hand r.draft

-- so many changes need the calls of a walk each and of one more, three for each, and two
abbrev pub most_calls : ℕ → ℕ
most_calls changes = (changes + 1) * walk_calls + (3 * changes + 2)
