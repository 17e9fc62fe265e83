-- The leaves of a tree by its links, and what a report reads of them.
use Rattle.std.specs.Prelude.{ℕ, ◌≡◌, List, ◌++◌, map, slice_get, Option, None}
use Rattle.cloud_facts.specs.Words.{Leaf, CloudState, Link}
use Rattle.db_base.specs.Value.{Value}
use Rattle.leaf_view.specs.Fits.{Ascend}
use Rattle.replay_meaning.specs.Right.{stored_below, value_at}
use Rattle.cloud_facts.specs.Chains.Links.{page_after}
use Rattle.replay_meaning.specs.Chain.{AreLeaves, records_of}
use Rattle.replay_meaning.specs.Index.{Finds}

-- the newest leaf of each link's page
abbrev pub leaves_of : (ℕ → Leaf) → List Link → List Leaf
leaves_of leaf links = map (λ (link : Link). leaf link.page) links

-- leaves are those of the first links, and the page behind them is that of the next link, 0 where there is none
pub record IsAlong (leaf : ℕ → Leaf) (links : List Link) (leaves : List Leaf) (page : ℕ) : Type 0 where
  pub front : List Link
  pub rest : List Link
  pub is : links ≡ front ++ rest
  pub leaves_are : leaves ≡ leaves_of leaf front
  pub page_is : page ≡ page_after (slice_get rest 0)

-- the leaves are all of the tree; their records ascend by their keys and have these values, and the index finds them
pub record IsRead (s : CloudState) (tree : ℕ) (leaves : List Leaf) (value : List ℕ → Option Value) : Type 0 where
  pub chain : AreLeaves s tree leaves
  pub ascending : Ascend stored_below None (records_of leaves)
  pub contents : (key : List ℕ) → value_at key (records_of leaves) ≡ value key
  pub found : (key : List ℕ) → Finds s tree key (value key)
