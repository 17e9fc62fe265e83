-- The pieces of a cut, on their pages.
use Rattle.std.specs.Prelude.{ℕ, List, [], ◌∷◌}
use Rattle.leaf_view.specs.Leaf.{Leaf}
use Rattle.node_codec.specs.Inner.{Inner}
use Rattle.split_plan.specs.Cut.{cut_by}
use Rattle.split_plan.specs.Part.{Part, LeafPart, NodePart, leaf_of_part, part_of_leaf, node_of_part, part_of_node, record_key, entry_key}
use Rattle.cloud_facts.specs.Book.Book.{Link}
use Rattle.cloud_facts.specs.Chains.Cuts.{links_on}

-- the first of some parts, and those behind it
abbrev pub first_part : {A X : Type 0} → Part A X → List (Part A X) → Part A X
first_part none [] = none
first_part none (p ∷ ps) = p

abbrev pub right_of : {A X : Type 0} → List (Part A X) → List (Part A X)
right_of [] = []
right_of (p ∷ ps) = ps

-- the pieces of these sizes, and a last one; without sizes the whole
abbrev pub leaf_parts : List ℕ → ℕ → Leaf → List LeafPart
leaf_parts sizes free l = cut_by record_key sizes free (part_of_leaf l)

abbrev pub node_parts : List ℕ → ℕ → Inner → List NodePart
node_parts sizes free n = cut_by entry_key sizes free (part_of_node n)

-- the left piece
abbrev pub left_leaf : List ℕ → ℕ → Leaf → Leaf
left_leaf sizes free l = leaf_of_part (first_part (part_of_leaf l) (leaf_parts sizes free l))

abbrev pub left_inner : List ℕ → ℕ → Inner → Inner
left_inner sizes free n = node_of_part (first_part (part_of_node n) (node_parts sizes free n))

-- the links of the others
abbrev pub leaf_links : List ℕ → ℕ → Leaf → List Link
leaf_links sizes free l = links_on free (right_of (leaf_parts sizes free l))

abbrev pub node_links : List ℕ → ℕ → Inner → List Link
node_links sizes free n = links_on free (right_of (node_parts sizes free n))
