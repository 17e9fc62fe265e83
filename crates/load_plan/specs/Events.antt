-- What a load runs: the events of a dump, in order.
use Rattle.std.specs.Prelude.{ℕ, zero, suc, ◌+◌, ◌/◌, ◌==◌, if◌then◌else◌, List, [], ◌∷◌, ◌++◌, map, length, take, drop}
use Rattle.db_base.specs.Limits.{most_changes}
use Rattle.dump_text.specs.declared.dump.DumpedTree.{DumpedTree}
use Rattle.event_text.specs.declared.event.Event.{Event}
use Rattle.event_text.specs.declared.event.Event.TheVariants.{Open, Close, Renew, Insert, Commit, Tree, Settle}
use Rattle.report_types.specs.declared.stored.Stored.{Stored}

-- a record of a tree
pub record Placed : Type 0 where
  pub tree : ℕ
  pub stored : Stored

abbrev pub placed_in : ℕ → List Stored → List Placed
placed_in tree [] = []
placed_in tree (stored ∷ records) = record { tree = tree; stored = stored } ∷ placed_in tree records

-- the records of all trees, in the order of the dump
abbrev pub records_of : List DumpedTree → List Placed
records_of [] = []
records_of (t ∷ trees) = placed_in t.tree t.records ++ records_of trees

-- so many parts of 200 records each, the last of which may have fewer
abbrev pub parts : ℕ → List Placed → List (List Placed)
parts zero records = []
parts (suc n) records = take most_changes records ∷ parts n (drop most_changes records)

-- how many transactions so many records take: a 200th of them, rounded up
abbrev pub transactions : ℕ → ℕ
transactions count = (count + 199) / most_changes

-- the records of each transaction
abbrev pub parts_of : List DumpedTree → List (List Placed)
parts_of trees = parts (transactions (length (records_of trees))) (records_of trees)

abbrev pub insert_of : Placed → Event
insert_of p = Insert 1 p.tree p.stored.key p.stored.payload p.stored.attr

-- a checkpoint of a tree, where it is another than the last one
abbrev pub checkpoint_at : ℕ → ℕ → List Event
checkpoint_at last tree = if tree == last then [] else (Tree 1 tree ∷ [])

-- a checkpoint of each tree of these records, each where it is another than the one before it
abbrev pub checkpoints_from : ℕ → List Placed → List Event
checkpoints_from last [] = []
checkpoints_from last (p ∷ records) = checkpoint_at last p.tree ++ checkpoints_from p.tree records

abbrev pub checkpoints_of : List Placed → List Event
checkpoints_of part = checkpoints_from 0 part

-- a transaction: its inserts, the commit, and a checkpoint of each tree that it names
abbrev pub part_events : List Placed → List Event
part_events part = map insert_of part ++ Commit 1 ∷ checkpoints_of part

-- transactions behind an earlier one: the lease is renewed before each
abbrev pub later_events : List (List Placed) → List Event
later_events [] = []
later_events (part ∷ later) = Renew 1 ∷ (part_events part ++ later_events later)

abbrev pub commit_events : List (List Placed) → List Event
commit_events [] = []
commit_events (part ∷ later) = part_events part ++ later_events later

-- session 1 of client 1 is opened, commits the records, and is closed; then all is settled
abbrev pub load_events : List DumpedTree → List Event
load_events trees = Open 1 1 ∷ (commit_events (parts_of trees) ++ Close 1 ∷ Settle ∷ [])
