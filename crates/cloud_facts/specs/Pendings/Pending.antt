-- The pending entries of the newest heads.
use Rattle.std.specs.Prelude.{ℕ, ◌≡◌, ◌<◌, ◌⊎◌, List}
use Rattle.db_base.specs.Change.{key_of}
use Rattle.db_base.specs.Ids.{IsClient}
use Rattle.head_codec.specs.declared.lists.Pending.{Pending}
use Rattle.log_codec.specs.declared.record.AtomicRec.{AtomicRec}
use Rattle.route_plan.specs.Record.{pending_of}
use Rattle.cloud_facts.specs.Book.Records.{StandsAt, IsIn, key_in, IsApplied, IsUnderWay}
use Rattle.cloud_facts.specs.Book.Tally.{Tally, Store}

-- a record of a client in the log
pub record IsOwn (log : List AtomicRec) (client : ℕ) (r : AtomicRec) : Type 0 where
  pub logged : IsIn log r
  pub client_is : r.client ≡ client

-- two records are of one client, tree and key
pub record AreOfKey (a b : AtomicRec) : Type 0 where
  pub client : a.client ≡ b.client
  pub tree : a.tree ≡ b.tree
  pub key : key_in a ≡ key_in b

-- an entry and another, or a record, are of one tree and key
pub record IsOfKey (p : Pending) (tree : ℕ) (key : List ℕ) : Type 0 where
  pub tree_is : p.tree ≡ tree
  pub key_is : key_of p.change ≡ key

-- a record that is neither applied nor under way is a pending entry
abbrev pub IsPending : Tally → AtomicRec → Type 0
IsPending t r = IsApplied t r ⊎ (IsUnderWay t r ⊎ IsIn (t.head r.client).pending (pending_of r))

-- a client's head
pub record HeadPends (st : Store) (client : ℕ) : Type 0 where
  -- pending entries are its records
  pub of_records : (p : Pending) → IsIn (st.tally.head client).pending p → (r : AtomicRec) × IsOwn st.book.log client r × (p ≡ pending_of r)
  -- those of a tree and key are all of one queue
  pub one_queue : (p q : Pending) → IsIn (st.tally.head client).pending p → IsIn (st.tally.head client).pending q → IsOfKey q p.tree (key_of p.change) → q.page ≡ p.page
  -- and a record under way is of it too
  pub under_way : (p : Pending) (r : AtomicRec) → IsIn (st.tally.head client).pending p → IsOwn st.book.log client r → IsUnderWay st.tally r
      → IsOfKey p r.tree (key_in r) → r.page ≡ p.page

pub record Pends (st : Store) : Type 0 where
  pub each : (r : AtomicRec) → IsIn st.book.log r → IsPending st.tally r
  pub heads : (client : ℕ) → IsClient client → HeadPends st client
  -- of two records of a key, the earlier is applied or in the queue of the later
  pub sticky : (i j : ℕ) (a b : AtomicRec) → StandsAt st.book.log i a → StandsAt st.book.log j b → i < j → AreOfKey a b → IsApplied st.tally a ⊎ (a.page ≡ b.page)
