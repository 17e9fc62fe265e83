-- When the index of a tree has an entry for each record with an attribute.
use Rattle.std.specs.Prelude.{ℕ, ◌≡◌, ◌<◌, ◌≤◌, List, length, Some}
use Rattle.cloud_facts.specs.Words.{Entry, CloudState, IsIn}
use Rattle.db_base.specs.Entry.{entry_bytes, index_insert}
use Rattle.db_base.specs.Ids.{index_of}
use Rattle.db_base.specs.Limits.{longest_key}
use Rattle.db_base.specs.Value.{Value}
use Rattle.db_base.specs.declared.change.Change.TheVariants.{Insert, Delete}
use Rattle.history.specs.Fold.{fold, of_tree}
use Rattle.history.specs.Legal.{IsLegal}
use Rattle.replay_meaning.specs.Index.{Finds}
use Rattle.replay_meaning.specs.Right.{HoldsAll}

-- ---- what is committed

-- each insert with an attribute in the tree has that of its entry into the index, in the same transaction
abbrev pub AreIndexed : List Entry → ℕ → Type 0
AreIndexed committed tree =
    (e : Entry) (key payload attr : List ℕ) → IsIn committed e → e.tree ≡ tree → e.change ≡ Insert key payload (Some attr)
    → IsIn committed (record e { tree = index_of tree; change = index_insert attr key })

-- nothing is deleted in the tree
abbrev pub HasNoDelete : List Entry → ℕ → Type 0
HasNoDelete committed tree = (e : Entry) (key : List ℕ) → IsIn committed e → e.tree ≡ tree → e.change ≡ Delete key → ⊥

-- ---- what is found

-- an order of all that was committed in a tree, and nothing else: the index finds at each key what it comes to
pub record IsWholeOrder (committed : List Entry) (t : CloudState) (tree : ℕ) (order : List Entry) : Type 0 where
  pub legal : IsLegal order (of_tree tree committed)
  pub whole : HoldsAll order (of_tree tree committed)
  pub found : (key : List ℕ) → Finds t tree key (fold order tree key)

-- the index of a tree has the entry of an attribute and a key; both the key and the entry are keys
pub record HasEntry (t : CloudState) (tree : ℕ) (attr key : List ℕ) : Type 0 where
  pub some : 0 < length key
  pub short : length (entry_bytes attr key) ≤ longest_key
  pub value : Value
  pub found : Finds t (index_of tree) (entry_bytes attr key) (Some value)
