-- What the writes of a commit make of a home and its head.
use Rattle.std.specs.Prelude.{ℕ, ◌+◌, ◌*◌, List, length}
use Rattle.leaf_view.specs.Leaf.{Leaf}
use Rattle.node_codec.specs.Tree.{Tree}
use Rattle.log_codec.specs.declared.record.AtomicRec.{AtomicRec}
use Rattle.recover_run.specs.declared.home.Home.{Home}
use Rattle.route_plan.specs.Heads.{opened_head, settled_head}
use Rattle.route_plan.specs.Prune.{pruned_by_leaf, pruned_by_tree}
use Rattle.commit_writes.specs.Writing.{Writing, pruned, with_head}

-- without the pending entries that a leaf has, and without those that a root has
abbrev pub home_by_leaf : Home → ℕ → Leaf → Home
home_by_leaf home tree leaf = with_head home (pruned_by_leaf home.head home.client tree leaf)

abbrev pub home_by_tree : Home → ℕ → Tree → Home
home_by_tree home tree root = with_head home (pruned_by_tree home.head home.client tree root)

-- the same of writes that wait
abbrev pub writing_by_leaf : Writing → ℕ → Leaf → Writing
writing_by_leaf w tree leaf = pruned w (pruned_by_leaf w.home.head w.home.client tree leaf)

abbrev pub writing_by_tree : Writing → ℕ → Tree → Writing
writing_by_tree w tree root = pruned w (pruned_by_tree w.home.head w.home.client tree root)

-- with the head that opens the records, and with the one that settles them
abbrev pub opened_home : Home → List AtomicRec → Home
opened_home home records = with_head home (opened_head home.head home.attempt records)

abbrev pub settled_home : Home → List AtomicRec → Home
settled_home home records = with_head home (settled_head home.head records)

-- the calls that these records and these messages to delete take
abbrev pub calls_for : {R I : Type 0} → List R → List I → ℕ
calls_for records ids = 3 * length records + length ids + 2
