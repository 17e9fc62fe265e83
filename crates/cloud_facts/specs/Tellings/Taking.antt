-- A leaf that takes a run: it lands with the run applied, whole or cut.
use Rattle.std.specs.Prelude.{ℕ, ◌≡◌, List, length}
use Rattle.std.specs.List.{AllByRecursion}
use Rattle.db_base.specs.Ids.{IsClient}
use Rattle.leaf_edit.specs.Applied.{applied}
use Rattle.leaf_view.specs.Leaf.{Leaf}
use Rattle.leaf_view.specs.Lookup.{holds}
use Rattle.log_codec.specs.declared.record.PuItem.{PuItem}
use Rattle.split_plan.specs.Sizes.{CanCut}
use Rattle.cloud_facts.specs.Book.Book.{Link}
use Rattle.cloud_facts.specs.Book.Effects.{Taking}
use Rattle.cloud_facts.specs.Book.Records.{StandsAt, IsIn}
use Rattle.cloud_facts.specs.Book.Tally.{Node}
use Rattle.cloud_facts.specs.Chains.Chain.{IsUnlinked}
use Rattle.cloud_facts.specs.Chains.Cuts.{HaveLanded, leaf_node}
use Rattle.cloud_facts.specs.Tellings.Pieces.{right_of, leaf_parts, left_leaf, leaf_links}

-- the items of a run are of clients
abbrev pub AreClients : List PuItem → Type 0
AreClients run = AllByRecursion (λ (x : PuItem). IsClient x.rec.client) run

-- the leaf of a page, the run of a queue that it takes, and how it is cut then: into pieces of these sizes and a last one, on pages from `free` on
pub record LeafTake : Type 0 where
  pub page : ℕ
  pub leaf : Leaf
  pub queue : ℕ
  pub run : List PuItem
  pub sizes : List ℕ
  pub free : ℕ

abbrev pub leaf_take : ℕ → Leaf → ℕ → List PuItem → List ℕ → ℕ → LeafTake
leaf_take page l queue run sizes free = record { page = page; leaf = l; queue = queue; run = run; sizes = sizes; free = free }

-- the leaf with the run applied
abbrev pub whole_of : LeafTake → Leaf
whole_of x = applied x.leaf x.queue x.run

-- the left piece lands on the page, the others stand on the pages from `free` on; without sizes the whole leaf lands
abbrev pub taking_of : ℕ → LeafTake → Taking
taking_of tree x = record {
  tree = tree;
  page = x.page;
  leaf = left_leaf x.sizes x.free (whole_of x);
  range = holds x.leaf;
  queue = x.queue;
  run = x.run;
  pieces = leaf_links x.sizes x.free (whole_of x);
}

-- the page is that of a link of a level
pub record IsLinked (links : List Link) (page : ℕ) : Type 0 where
  pub place : ℕ
  pub link : Link
  pub linked : StandsAt links place link
  pub page_is : link.page ≡ page

-- what must be known where the left piece lands
pub record LandsTaken (chain : ℕ → List Link) (nodes : ℕ → List Node) (x : LeafTake) : Type 0 where
  pub clients : AreClients x.run
  pub linked : IsLinked (chain 0) x.page
  -- the sizes fit, with a last piece
  pub last : ℕ
  pub can : CanCut x.sizes last (length (whole_of x).records)
  -- the other pieces landed before, on pages that are in no chain
  pub landed : HaveLanded leaf_node nodes x.free (right_of (leaf_parts x.sizes x.free (whole_of x)))
  pub unlinked : (piece : Link) → IsIn (leaf_links x.sizes x.free (whole_of x)) piece → IsUnlinked chain piece.page
