-- Fences of one level are fences of the one below: what a tree checkpoint brought begins and ends within the ranges of the level above.
use Rattle.std.specs.Prelude.{ℕ, ◌≡◌, ◌+◌, ◌≤◌, true, length, List, [], ◌∷◌, Option, Some}
use Rattle.std.specs.List.{AllByRecursion}
use Rattle.byte_format.specs.Order.{below_bound}
use Rattle.cloud_facts.specs.Words.{Leaf, Inner, Answer, Ask}
use Rattle.db_base.specs.Limits.{longest_key}
use Rattle.db_base.specs.declared.names.ObjName.TheVariants as object
use Rattle.leaf_view.specs.Leaf.{Entry}
use Rattle.node_codec.specs.Inner.{inner_of}
use Rattle.tree_ckpt.specs.Causes.{Calls, Brings, WasNode}
use Rattle.tree_ckpt.specs.Working.{HoldsLeaf}

-- a page that begins below a high key of the level above ends there or before
abbrev pub Nests : Option (List ℕ) → List ℕ → Option (List ℕ) → Type 0
Nests above low high = below_bound low above ≡ true → (key : List ℕ) → below_bound key high ≡ true → below_bound key above ≡ true

-- the call brought this inner node, or this leaf
abbrev pub BringsNode : ℕ → Inner → Ask × Answer → Type 0
BringsNode tree n c = (page : ℕ) × (bytes : List ℕ) × Brings (object.Page tree page) (Some bytes) c × (inner_of bytes ≡ Some n)

abbrev pub BringsLeaf : ℕ → Leaf → Ask × Answer → Type 0
BringsLeaf tree l c = (page : ℕ) × (got : Option (List ℕ)) × Brings (object.Page tree page) got c × HoldsLeaf page l got

-- a leaf's keys are no longer than keys are
abbrev pub AreShort : List Entry → Type 0
AreShort es = AllByRecursion (λ (e : Entry). length e.key ≤ longest_key) es

-- what a call brought nests with each node that was got before it, below or above
pub record NestsOver (tree : ℕ) (c : Ask × Answer) (cs : Calls) : Type 0 where
  pub keys : (l : Leaf) → BringsLeaf tree l c → AreShort l.records
  pub leaf : (l : Leaf) → BringsLeaf tree l c → (page : ℕ) (a : Inner) → WasNode tree page a cs → a.level ≡ 1 → Nests a.high l.low l.high
  pub below : (n : Inner) → BringsNode tree n c → (page : ℕ) (a : Inner) → WasNode tree page a cs → a.level ≡ n.level + 1 → Nests a.high n.low n.high
  pub above : (n : Inner) → BringsNode tree n c → (page : ℕ) (a : Inner) → WasNode tree page a cs → n.level ≡ a.level + 1 → Nests n.high a.low a.high

-- so does each
abbrev pub AreNested : ℕ → Calls → Type 0
AreNested tree [] = Unit {0}
AreNested tree (c ∷ cs) = NestsOver tree c cs × AreNested tree cs
