-- When a look-up that came to a leaf sees what is stored: the leaf is the newest one, and nothing is left to apply in its tree.
use Rattle.std.specs.Prelude.{ℕ, ◌≡◌, ◌≤◌, true, List, None}
use Rattle.cloud_facts.specs.Words.{Entry, Leaf, CloudState, IsIn}
use Rattle.db_base.specs.Change.{key_of}
use Rattle.db_base.specs.Limits.{last_client}
use Rattle.head_codec.specs.declared.lists.Pending.{Pending}
use Rattle.history.specs.Fold.{of_tree}
use Rattle.leaf_view.specs.Fits.{Ascend}
use Rattle.leaf_view.specs.Lookup.{holds, value_of, number_of}
use Rattle.recover_run.specs.declared.home.Home.{Home}
use Rattle.replay_meaning.specs.Index.{Finds}
use Rattle.replay_meaning.specs.Right.{stored_below, value_at}
use Rattle.report_types.specs.declared.stored.Stored.{Stored}
use Rattle.world_audit.specs.Counts.{heads_upto, AreWaiting}

-- these entries are all applied in a tree, by the two numbers that its report shows: no newest head is open with one of them, and no message waits
pub record IsAllApplied (committed : List Entry) (t : CloudState) (tree : ℕ) : Type 0 where
  pub heads : heads_upto t tree (of_tree tree committed) last_client ≡ 0
  pub messages : AreWaiting t tree 0

-- a pending entry of the client is applied in a leaf
abbrev pub HasApplied : Leaf → ℕ → Pending → Type 0
HasApplied leaf client p = p.number ≤ number_of leaf.done p.page client

-- the index finds what a leaf has at each key that it holds; and where all is applied, the leaf has applied the pending entries of the client's head at
-- these keys
pub record IsNewestAt (committed : List Entry) (t : CloudState) (tree : ℕ) (home : Home) (leaf : Leaf) : Type 0 where
  pub finds : (key : List ℕ) → holds leaf key ≡ true → Finds t tree key (value_of key leaf.records)
  pub applied : IsAllApplied committed t tree → (p : Pending) → IsIn home.head.pending p → p.tree ≡ tree → holds leaf (key_of p.change) ≡ true
      → HasApplied leaf home.client p

-- records are all of a tree: they ascend by their keys, and have at each key what the index finds
pub record AreContents (t : CloudState) (tree : ℕ) (records : List Stored) : Type 0 where
  pub ascending : Ascend stored_below None records
  pub found : (key : List ℕ) → Finds t tree key (value_at key records)
