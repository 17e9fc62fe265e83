-- Dumps and the records of all trees: a tree without records does not stand in a dump.
use Rattle.std.specs.Prelude.{ℕ, ◌+◌, ◌==◌, List, [], ◌∷◌, if◌then◌else◌}
use Rattle.report_types.specs.declared.stored.Stored.{Stored}
use Rattle.dump_text.specs.declared.dump.DumpedTree.{DumpedTree}

-- the trees with records among those from a number on
abbrev pub trees_from : ℕ → List (List Stored) → List DumpedTree
trees_from tree [] = []
trees_from tree ([] ∷ contents) = trees_from (tree + 1) contents
trees_from tree ((s ∷ records) ∷ contents) = (record { tree = tree; records = s ∷ records }) ∷ trees_from (tree + 1) contents

-- the dump of the records of trees 1, 2 and so on
abbrev pub dump_of : List (List Stored) → List DumpedTree
dump_of contents = trees_from 1 contents

-- the records of a tree in a dump: none where it does not stand there
abbrev pub contents_of : ℕ → List DumpedTree → List Stored
contents_of tree [] = []
contents_of tree (t ∷ trees) = if t.tree == tree then t.records else contents_of tree trees
