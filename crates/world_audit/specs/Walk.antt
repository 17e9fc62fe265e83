-- A walk along the newest leaves of a tree, one leaf further.
use Rattle.std.specs.Prelude.{ℕ, ◌≡◌, List, ◌++◌, map, Option, Ok}
use Rattle.report_types.specs.declared.stored.Stored.{Stored}
use Rattle.leaf_view.specs.Leaf.{Leaf}
use Rattle.leaf_view.specs.Lookup.{page_at}
use Rattle.replay_meaning.specs.Chain.{IsReadAs, stored_of}

-- the records of a leaf are added, and its right page is the next
pub record Adds (bytes : Option (List ℕ)) (tree page : ℕ) (old new : List Stored) (next : Option ℕ) : Type 0 where
  pub leaf : Leaf
  pub read : IsReadAs tree page bytes (Ok leaf)
  pub added : new ≡ old ++ map stored_of leaf.records
  pub right : next ≡ page_at leaf.right
