-- So many service calls are few for a checkpoint.
use Rattle.std.specs.Prelude.{ℕ, ◌+◌, ◌*◌, ◌≤◌, List, [], length}
use Rattle.cloud_facts.specs.Book.Telling.{roots_of, newest_root}
use Rattle.cloud_trait.specs.State.{CloudState}
use Rattle.run_cursor.specs.Covered.{new_ones}

-- the ids of a list, each once
abbrev pub distinct : List ℕ → List ℕ
distinct ids = new_ones [] ids

-- the least free page of a tree
abbrev pub next_page : CloudState → ℕ → ℕ
next_page s tree = (newest_root (roots_of s) tree).next

-- so many calls are few for a checkpoint that received these ids, where the tree has so many pages then or later; an id that came twice counts once
abbrev pub IsFew : ℕ → List ℕ → CloudState → ℕ → Type 0
IsFew calls received last tree = (pages : ℕ) → next_page last tree ≤ pages + 1 → calls ≤ 16 + length (distinct received) * (8 * pages + 16)
