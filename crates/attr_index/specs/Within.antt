-- How many calls a look-up makes: those of one walk at most for each leaf that it came to, and of the walk in hand.
use Rattle.std.specs.Prelude.{ℕ, ◌≡◌, ◌+◌, ◌≤◌, List, [], ◌∷◌, ◌++◌, length}
use Rattle.cloud_trait.specs.Machine.{Deed}
use Rattle.page_cache.specs.Cache.{Cache}
use Rattle.tree_walk.specs.Walk.{Walk, sought, pages}
use Rattle.tree_walk.specs.Meaning.{Walked}
use Rattle.tree_walk.specs.Within.{IsBegun, IsOnce}
use Rattle.attr_index.specs.Look.{Query, Look}
use Rattle.attr_index.specs.Meaning.{Visit, tree_at}

-- these are all calls of a walk of a tree to a key, from its begin to this state: no more than the pages that it came to, each once
pub record IsOfWalk (tree : ℕ) (key : List ℕ) (calls : List Deed) (w : Walk × Cache) : Type 0 where
  pub start : Walk × Cache
  pub begun : IsBegun start
  pub walked : Walked start calls w
  pub of_tree : w.0.tree ≡ tree
  pub to_key : sought w.0 ≡ key
  pub once : IsOnce w.0
  pub bound : length calls ≤ pages w.0

-- these are all calls of the walks that ended at these leaves, the newest first: of each walk those on its way and the one that brought the leaf,
-- one more at most than its pages, and so many of all walks at most
abbrev pub AreOfWalks : Query → List Deed → ℕ → List Visit → Type 0
AreOfWalks q h most [] = (h ≡ []) × (most ≡ 0)
AreOfWalks q h most (v ∷ vs) =
    (w : Walk × Cache) × (way : List Deed) × (before : List Deed) × (others : ℕ) × (h ≡ v.deed ∷ (way ++ before)) × (most ≡ (1 + pages w.0) + others)
    × IsOfWalk (tree_at q v.stage) v.key way w × AreOfWalks q before others vs

-- the calls of a look-up are those of the walks that ended at these leaves and of the walk in hand, and with the next one no more than all these walks can make
pub record LooksWithin (q : Query) (h : List Deed) (vs : List Visit) (m : Look × Cache) (calls : ℕ) : Type 0 where
  pub way : List Deed
  pub before : List Deed
  pub others : ℕ
  pub are : h ≡ way ++ before
  pub of_walk : IsOfWalk (tree_at q m.0.stage) (sought m.0.walk) way (m.0.walk, m.1)
  pub of_walks : AreOfWalks q before others vs
  pub bound : calls ≤ (1 + pages m.0.walk) + others
