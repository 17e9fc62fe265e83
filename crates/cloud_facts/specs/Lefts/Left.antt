-- The messages of committed records, and the ATOMIC messages of every client.
use Rattle.std.specs.Prelude.{ℕ, ◌≡◌, ◌+◌, ◌≤◌, ◌⊎◌, List, length}
use Rattle.db_base.specs.Ids.{IsClient}
use Rattle.cloud_trait.specs.declared.state.Posted.{Posted}
use Rattle.head_codec.specs.declared.head.Phase.TheVariants.{Open}
use Rattle.log_codec.specs.declared.record.AtomicRec.{AtomicRec}
use Rattle.log_codec.specs.declared.record.PuRec.{PuRec}
use Rattle.route_plan.specs.Record.{pu_record_of}
use Rattle.cloud_facts.specs.Book.Messages.{HasCopy, Waits, WaitsLogged, IsLogMessage}
use Rattle.cloud_facts.specs.Book.Records.{StandsAt, IsIn, IsApplied, IsUnderWay, IsPast, under_way}
use Rattle.cloud_facts.specs.Book.Tally.{Tally, Store}

-- a record has a copy in its queue, or it has one that is not deleted
abbrev pub IsCopied : Tally → AtomicRec → Type 0
IsCopied t r = HasCopy (t.posts r.tree r.page) (pu_record_of r)

abbrev pub IsWaiting : Tally → AtomicRec → Type 0
IsWaiting t r = Waits (t.posts r.tree r.page) (pu_record_of r)

-- a record was ever sent to its client's ATOMIC queue
abbrev pub WasLogged : Tally → AtomicRec → Type 0
WasLogged t r = (id : ℕ) × IsLogMessage (t.logged r.client) id r

-- the record at a place of those under way of an open head of so many
pub record IsWayAt (logged : List Posted) (count place : ℕ) (r : AtomicRec) : Type 0 where
  pub index_is : r.index ≡ place + 1
  pub count_is : r.count ≡ count
  pub logged_is : WaitsLogged logged r

-- a newest head that is open has as many records under way as it counts, by their index, each with its ATOMIC message that is not deleted
pub record HasWay (st : Store) (client count : ℕ) : Type 0 where
  pub length_is : length (under_way st.tally client st.book.log) ≡ count
  pub each : (place : ℕ) (r : AtomicRec) → StandsAt (under_way st.tally client st.book.log) place r → IsWayAt (st.tally.logged client) count place r

-- the ATOMIC messages ever sent of a client
pub record AreLogged (st : Store) (client : ℕ) : Type 0 where
  pub own : (id : ℕ) (r : AtomicRec) → IsLogMessage (st.tally.logged client) id r → r.client ≡ client
  -- none is of a later epoch than the newest head
  pub early : (id : ℕ) (r : AtomicRec) → IsLogMessage (st.tally.logged client) id r → r.epoch ≤ (st.tally.head client).epoch
  -- no two agree in epoch, transaction and index
  pub distinct : (i j : ℕ) (a b : AtomicRec) → IsLogMessage (st.tally.logged client) i a → IsLogMessage (st.tally.logged client) j b
      → a.epoch ≡ b.epoch → a.txn ≡ b.txn → a.index ≡ b.index → i ≡ j
  -- one of a transaction that is committed is a record of it
  pub committed : (id : ℕ) (r q : AtomicRec) → IsLogMessage (st.tally.logged client) id r → IsIn st.book.log q → q.client ≡ client
      → q.epoch ≡ r.epoch → q.txn ≡ r.txn → IsIn st.book.log r

pub record Leaves (st : Store) : Type 0 where
  -- a record that is applied, or not under way, was sent to its queue
  pub copied : (r : AtomicRec) → IsIn st.book.log r → IsApplied st.tally r ⊎ IsPast st.tally r → IsCopied st.tally r
  -- one that is neither applied nor under way waits there
  pub waiting : (r : AtomicRec) → IsIn st.book.log r → IsApplied st.tally r ⊎ (IsUnderWay st.tally r ⊎ IsWaiting st.tally r)
  pub ways : (client count : ℕ) → IsClient client → (st.tally.head client).phase ≡ Open count → HasWay st client count
  pub logged : (client : ℕ) → IsClient client → AreLogged st client
  -- each committed record was sent to its client's ATOMIC queue
  pub sent : (r : AtomicRec) → IsIn st.book.log r → WasLogged st.tally r

-- no record of a tree is under way, and no message of its queues waits
pub record NothingLeft (st : Store) (tree : ℕ) : Type 0 where
  pub ways : (r : AtomicRec) → IsIn st.book.log r → r.tree ≡ tree → IsUnderWay st.tally r → ⊥
  pub posts : (page : ℕ) (rec : PuRec) → Waits (st.tally.posts tree page) rec → ⊥
