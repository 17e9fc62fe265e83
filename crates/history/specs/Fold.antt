-- What entries come to: the value at each key of a tree after them, in their order, from no record.
use Rattle.std.specs.Prelude.{ℕ, Bool, List, [], ◌∷◌, Option, None, ◌==◌, if◌then◌else◌, filter}
use Rattle.std.specs.Ordering.{nat_cmp, is_eq}
use Rattle.std.specs.Cmp.Lexicographic.{slice_cmp}
use Rattle.db_base.specs.declared.change.Change.{Change}
use Rattle.db_base.specs.Change.{key_of, act}
use Rattle.db_base.specs.Value.{Value}
use Rattle.report_types.specs.declared.entry.Entry.{Entry}

-- the value at each key, where there is a record
abbrev pub Records : Type 0
Records = List ℕ → Option Value

-- no record
abbrev pub no_records : Records
no_records key = None

-- whether two keys are the same
abbrev pub is_same_key : List ℕ → List ℕ → Bool
is_same_key a b = is_eq (slice_cmp nat_cmp a b)

-- a change acts on the record of its key and leaves all others
abbrev pub changed_by : Records → Change → Records
changed_by records change key = if is_same_key key (key_of change) then act (records key) change else records key

-- entries of one tree act in their order
abbrev pub fold_onto : Records → List Entry → ℕ → Records
fold_onto records [] tree = records
fold_onto records (entry ∷ entries) tree = fold_onto (if entry.tree == tree then changed_by records entry.change else records) entries tree

-- what entries come to in a tree
abbrev pub fold : List Entry → ℕ → Records
fold entries tree = fold_onto no_records entries tree

-- the entries of a tree
abbrev pub of_tree : ℕ → List Entry → List Entry
of_tree tree entries = filter (λ entry. entry.tree == tree) entries
