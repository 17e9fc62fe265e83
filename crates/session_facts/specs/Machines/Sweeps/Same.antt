-- What is read of trees is as it was.
use Rattle.std.specs.Prelude.{ℕ, ◌≡◌, List, Option}
use Rattle.cloud_facts.specs.Words.{Entry, Leaf, CloudState}
use Rattle.db_base.specs.Value.{Value}
use Rattle.replay_meaning.specs.Chain.{AreLeaves}
use Rattle.replay_meaning.specs.Index.{Finds}
use Rattle.world_audit.specs.Counts.{heads_upto, AreWaiting}

-- of every tree the leaves, what its index leads to for a key, and the two numbers of what is left
pub record TellsTheSame (s t : CloudState) : Type 0 where
  pub contents : (tree : ℕ) (leaves : List Leaf) → AreLeaves s tree leaves → AreLeaves t tree leaves
  pub found : (tree : ℕ) (key : List ℕ) (value : Option Value) → Finds s tree key value → Finds t tree key value
  pub heads : (tree : ℕ) (committed : List Entry) (most : ℕ) → heads_upto t tree committed most ≡ heads_upto s tree committed most
  pub messages : (tree count : ℕ) → AreWaiting s tree count → AreWaiting t tree count
