-- The pieces of a page that is cut, as they join the level of the page.
use Rattle.std.specs.Prelude.{ℕ, ◌≡◌, ◌+◌, ◌<◌, ◌≤◌, List, [], ◌∷◌}
use Rattle.leaf_view.specs.Fits.{IsHigh}
use Rattle.split_plan.specs.Part.{Part, LeafPart, NodePart, leaf_of_part, node_of_part}
use Rattle.cloud_facts.specs.Book.Book.{Link}
use Rattle.cloud_facts.specs.Book.Tally.{Node, Leafy, Branch, low_of, right_of, high_of}
use Rattle.cloud_facts.specs.Chains.Chain.{IsUnlinked}
use Rattle.cloud_facts.specs.Chains.Links.{IsOfLevel}

-- the links of pieces that stand on the pages from `free` on
abbrev pub links_on : {A X : Type 0} → ℕ → List (Part A X) → List Link
links_on free [] = []
links_on free (p ∷ ps) = record { low = p.low; page = free } ∷ links_on (free + 1) ps

-- each of those pages has landed once, as its piece
abbrev pub HaveLanded : {A X : Type 0} → (Part A X → Node) → (ℕ → List Node) → ℕ → List (Part A X) → Type 0
HaveLanded node nodes free [] = Unit {0}
HaveLanded node nodes free (p ∷ ps) = (nodes free ≡ node p ∷ []) × HaveLanded node nodes (free + 1) ps

-- none of so many pages from `free` on is in a chain
abbrev pub AreFree : (ℕ → List Link) → ℕ → ℕ → Type 0
AreFree chain free count = (page : ℕ) → free ≤ page → page < free + count → IsUnlinked chain page

-- there is a high key exactly where there is a right page, and it is above the low key
abbrev pub HasHigh : {A X : Type 0} → Part A X → Type 0
HasHigh p = IsHigh p.low p.right p.high

-- parts are seen as nodes of a level, where they have something in common
pub record AreSeenAs {A X : Type 0} (common : X) (level : ℕ) (node : Part A X → Node) : Type 0 where
  pub level_is : (p : Part A X) → p.common ≡ common → IsOfLevel level (node p)
  pub low : (p : Part A X) → low_of (node p) ≡ p.low
  pub right : (p : Part A X) → right_of (node p) ≡ p.right
  pub high : (p : Part A X) → high_of (node p) ≡ p.high

abbrev pub leaf_node : LeafPart → Node
leaf_node p = Leafy (leaf_of_part p)

abbrev pub inner_node : NodePart → Node
inner_node p = Branch (node_of_part p)
