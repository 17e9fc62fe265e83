-- What a commit puts and sends has a spelling.
use Rattle.std.proofs.Common.{◌≡◌, ◌≤◌, ◌∙◌, ℕ, List, length, map, not, Some, sym, ap, subst}
use Rattle.std.proofs.lemmas.List.{length-map}
use Rattle.std.specs.List.{AllByRecursion}
use Rattle.head_codec.specs.declared.head.Head.{Head}
use Rattle.head_codec.specs.declared.head.Phase.TheVariants.{Open}
use Rattle.head_codec.specs.Spelling.{HasSpelling, WasOpen, head_of}
use Rattle.head_codec.proofs.Keeping.{HasSpelling-filter}
use Rattle.head_codec.proofs.Settling.{was_open as was_open_with}
use Rattle.leaf_view.specs.Leaf.{Leaf}
use Rattle.node_codec.specs.Tree.{Tree}
use Rattle.route_plan.specs.Prune.{is_applied_in, is_covered_by, pruned_by_leaf, pruned_by_tree}
use Rattle.log_codec.specs.Atomic.{HasPlace}
use Rattle.log_codec.specs.declared.record.AtomicRec.{AtomicRec}
use Rattle.route_plan.specs.Heads.{opened_head, settled_head}
use Rattle.route_plan.specs.Record.{pending_of}
use Rattle.route_plan.proofs.CommitLaws.{HasSpelling-opened_head, HasSpelling-settled_head, AllCount-from_place}

pub settled_spelled : (h : Head) (records : List AtomicRec) → HasSpelling h → AllByRecursion HasPlace records → HasSpelling (settled_head h records)
settled_spelled h records is placed = HasSpelling-settled_head h records is (AllCount-from_place records placed)

pub opened_spelled : (h : Head) (txn : ℕ) (records : List AtomicRec) → HasSpelling h → 1 ≤ length records → length records ≤ 200 → AllByRecursion HasPlace records → HasSpelling (opened_head h txn records)
opened_spelled h txn records is some few placed = HasSpelling-opened_head h txn records is some few (AllCount-from_place records placed)

pub leaf_pruned_spelled : (h : Head) (client tree : ℕ) (leaf : Leaf) → HasSpelling h → HasSpelling (pruned_by_leaf h client tree leaf)
leaf_pruned_spelled h client tree leaf is = HasSpelling-filter h (λ entry. not (is_applied_in leaf client tree entry)) is

pub tree_pruned_spelled : (h : Head) (client tree : ℕ) (root : Tree) → HasSpelling h → HasSpelling (pruned_by_tree h client tree root)
tree_pruned_spelled h client tree root is = HasSpelling-filter h (λ entry. not (is_covered_by root client tree entry)) is

-- the bytes of the head under way are those that the settled head had before
pub was_open : (h : Head) (records : List AtomicRec) (bytes : List ℕ) → head_of bytes ≡ Some h → h.phase ≡ Open (length records) → WasOpen (settled_head h records) bytes (length records)
was_open h records bytes is phase =
    let same : length (map pending_of records) ≡ length records = length-map records pending_of in
    subst (λ (n : ℕ). WasOpen (settled_head h records) bytes n) same (was_open_with h (map pending_of records) bytes is (phase ∙ ap Open (sym same)))
