-- Pages by what their newest versions are.
use Rattle.std.specs.Prelude.{ℕ, ◌≡◌, ◌≢◌, ◌⊎◌, List, []}
use Rattle.cloud_facts.specs.Chains.Links.{newest_node}
use Rattle.cloud_facts.specs.Words.{Leaf, Inner, Node, Leafy, Branch}

-- the newest version of a page is a leaf; of absent pages page 1 alone is one
pub record IsLeafPage (nodes : ℕ → List Node) (page : ℕ) : Type 0 where
  pub leaf : Leaf
  pub is : newest_node nodes page ≡ Leafy leaf
  pub absent : nodes page ≡ [] → page ≡ 1

-- a page is the tree's: it is absent and not page 1, or its newest version is an inner node
abbrev pub IsTreePage : (ℕ → List Node) → ℕ → Type 0
IsTreePage nodes page = ((nodes page ≡ []) × (page ≢ 1)) ⊎ ((n : Inner) × (newest_node nodes page ≡ Branch n))
