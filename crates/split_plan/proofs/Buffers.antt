-- The parts of cut buffers, and their spellings.
use Rattle.std.proofs.Common.{◌≡◌, ℕ, zero, suc, ◌<◌, List, [], ◌∷◌, length, Option, Some, refl, ap, arith, drop, take}
use Rattle.std.specs.Prelude.{unwrap_or}
use Rattle.leaf_edit.specs.Cut.{first_key, left_part, right_part}
use Rattle.leaf_view.specs.Leaf.{Entry as Rec, Leaf}
use Rattle.node_codec.specs.Inner.{Inner, IsInner, inner_bytes, first_low_of, left_node, right_node}
use Rattle.node_codec.specs.Node.{Entry}
use Rattle.split_plan.specs.Cut.{first_key_of, front_part, back_part}
use Rattle.split_plan.specs.Part.{LeafPart, NodePart, part_of_leaf, part_of_node, record_key, entry_key}
use Rattle.split_plan.specs.Plan.{node_bytes}

-- ---- leaves

first-record : (es : List Rec) → first_key es ≡ first_key_of record_key es
first-record [] = refl
first-record (e ∷ es) = refl

pub left-leaf : (n page : ℕ) (l : Leaf) → part_of_leaf (left_part n page l) ≡ front_part record_key n page (part_of_leaf l)
left-leaf n page l = ap (λ (k : List ℕ). let p : LeafPart = record { version = l.version; low = l.low; right = page; high = Some k; common = l.done; items = take n l.records } in p) (first-record (drop n l.records))

pub right-leaf : (n : ℕ) (l : Leaf) → part_of_leaf (right_part n l) ≡ back_part record_key n (part_of_leaf l)
right-leaf n l = ap (λ (k : List ℕ). let p : LeafPart = record { version = 1; low = k; right = l.right; high = l.high; common = l.done; items = drop n l.records } in p) (first-record (drop n l.records))

-- ---- inner nodes

first-low-some : (n : ℕ) (es : List Entry) → n < length es → first_low_of (drop n es) ≡ Some (first_key_of entry_key (drop n es))
first-low-some n [] less = absurd (omega arith)
first-low-some zero (e ∷ es) less = refl
first-low-some (suc n) (e ∷ es) less = first-low-some n es (omega arith)

first-low-or : (es : List Entry) → unwrap_or (first_low_of es) [] ≡ first_key_of entry_key es
first-low-or [] = refl
first-low-or (e ∷ es) = refl

pub left-inner : (n page : ℕ) (node : Inner) → n < length node.entries → part_of_node (left_node n page node) ≡ front_part entry_key n page (part_of_node node)
left-inner n page node less =
    ap (λ (h : Option (List ℕ)). let p : NodePart = record { version = node.version; low = node.low; right = page; high = h; common = node.level; items = take n node.entries } in p) (first-low-some n node.entries less)

pub right-inner : (n : ℕ) (node : Inner) → part_of_node (right_node n node) ≡ back_part entry_key n (part_of_node node)
right-inner n node = ap (λ (k : List ℕ). let p : NodePart = record { version = 1; low = k; right = node.right; high = node.high; common = node.level; items = drop n node.entries } in p) (first-low-or (drop n node.entries))

pub inner-written : (bytes : List ℕ) (n : Inner) → IsInner bytes n → bytes ≡ node_bytes (part_of_node n)
unfolding inner_bytes
inner-written bytes n h = h.is
