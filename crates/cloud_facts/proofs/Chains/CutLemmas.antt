-- What a cut of a page is, is what must be known before its left piece lands.
use Rattle.std.proofs.Common.{◌≡◌, ◌+◌, ◌<◌, ◌≤◌, ℕ, List, ◌∷◌, map, length, slice_get}
use Rattle.std.specs.List.{AllByRecursion}
use Rattle.node_codec.specs.Inner.{node_of_root}
use Rattle.cloud_facts.specs.Words.{Tree, Link, Store, Node, StandsAt}
use Rattle.split_plan.specs.Cut.{IsCut}
use Rattle.split_plan.specs.Part.{Part, NodePart, part_of_node, entry_key}
use Rattle.split_plan.specs.Plan.{on_pages, entry_of, child_of}
use Rattle.cloud_facts.specs.Chains.Cuts.{HaveLanded, AreFree, HasHigh, inner_node}
use Rattle.cloud_facts.specs.Chains.Links.{top_of, EndsBefore, NodeNames}

-- ---- the left piece lands

-- what must be known of a page that is cut, when the other pieces have landed
pub record IsCutOn {A X : Type 0} (key : A → List ℕ) (node : Part A X → Node) (chain : ℕ → List Link) (nodes : ℕ → List Node) (level page free : ℕ)
    (whole first : Part A X) (rest : List (Part A X)) : Type 0 where
  pub place : ℕ
  pub link : Link
  pub linked : StandsAt (chain level) place link
  pub page_is : link.page ≡ page
  pub low : whole.low ≡ link.low
  pub ends : EndsBefore (node whole) (slice_get (chain level) (place + 1))
  pub cut : IsCut key free whole (first ∷ rest)
  pub highs : AllByRecursion HasHigh (first ∷ rest)
  pub landed : HaveLanded node nodes free rest
  pub names : NodeNames chain (node first)
  pub unlinked : AreFree chain free (length rest)

-- ---- a root that is cut

-- what must be known of a root whose entries stand in pieces that have landed on the pages from `first` on, and of the root that names them
pub record IsRootCut (st : Store) (tree : ℕ) (whole root : Tree) (first : ℕ) (ps : List NodePart) : Type 0 where
  pub level_is : whole.level ≡ (top_of (st.tally.roots tree)).level
  pub some : 0 < whole.level
  pub cut : IsCut entry_key (first + 1) (part_of_node (node_of_root whole)) ps
  pub highs : AllByRecursion HasHigh ps
  pub landed : HaveLanded inner_node (st.tally.nodes tree) first ps
  pub unlinked : AreFree (st.book.chain tree) first (length ps)
  pub height : root.level ≡ whole.level + 1
  pub next : (top_of (st.tally.roots tree)).next ≤ root.next
  pub entries : root.entries ≡ map child_of (map entry_of (on_pages first (first + 1) ps))
