-- When an order of application is legal for what was committed.
use Rattle.std.specs.Prelude.{ℕ, ◌<◌, ◌≡◌, List, slice_get, Some}
use Rattle.db_base.specs.Change.{key_of}
use Rattle.report_types.specs.declared.entry.Entry.{Entry}

-- two entries are of one transaction, tree and key
pub record AreSame (a b : Entry) : Type 0 where
  pub client : a.client ≡ b.client
  pub epoch : a.epoch ≡ b.epoch
  pub txn : a.txn ≡ b.txn
  pub tree : a.tree ≡ b.tree
  pub key : key_of a.change ≡ key_of b.change

-- an entry stands at a place of a list
abbrev pub StandsAt : List Entry → ℕ → Entry → Type 0
StandsAt entries place entry = slice_get entries place ≡ Some entry

-- two entries are of one client, tree and key
pub record AreOfOneKey (a b : Entry) : Type 0 where
  pub client : a.client ≡ b.client
  pub tree : a.tree ≡ b.tree
  pub key : key_of a.change ≡ key_of b.change

-- the order has committed entries alone, each once, and of one client's committed entries of a key the first ones, as they were committed
pub record IsLegal (order committed : List Entry) : Type 0 where
  pub once : (i j : ℕ) (a b : Entry) → StandsAt order i a → StandsAt order j b → AreSame a b → i ≡ j
  pub all_committed : (i : ℕ) (a : Entry) → StandsAt order i a → (j : ℕ) × StandsAt committed j a
  pub in_order : (i j : ℕ) (a b : Entry) → StandsAt order i a → StandsAt order j b → AreOfOneKey a b → i < j
      → (k l : ℕ) → StandsAt committed k a → StandsAt committed l b → k < l
  pub without_gap : (k l j : ℕ) (a b : Entry) → StandsAt committed k a → StandsAt committed l b → AreOfOneKey a b → k < l
      → StandsAt order j b → (i : ℕ) × StandsAt order i a
