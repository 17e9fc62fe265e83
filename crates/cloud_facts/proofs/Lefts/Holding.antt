-- What holds of a client's ATOMIC messages, by the messages, the head and the log themselves.
use Rattle.std.proofs.Common.{◌≡◌, ◌≤◌, ℕ, List, length}
use Rattle.cloud_facts.specs.Words.{AtomicRec, Posted, Store, IsIn, StandsAt}
use Rattle.cloud_facts.specs.Lefts.Left.{IsWayAt, HasWay, AreLogged}
use Rattle.cloud_facts.specs.Book.Messages.{IsLogMessage}
use Rattle.cloud_facts.specs.Book.Records.{under_way}

pub record LogHolds (logged : List Posted) (epoch : ℕ) (log : List AtomicRec) (client : ℕ) : Type 0 where
  pub own : (id : ℕ) (r : AtomicRec) → IsLogMessage logged id r → r.client ≡ client
  pub early : (id : ℕ) (r : AtomicRec) → IsLogMessage logged id r → r.epoch ≤ epoch
  pub distinct : (i j : ℕ) (a b : AtomicRec) → IsLogMessage logged i a → IsLogMessage logged j b → a.epoch ≡ b.epoch → a.txn ≡ b.txn → a.index ≡ b.index → i ≡ j
  pub committed : (id : ℕ) (r q : AtomicRec) → IsLogMessage logged id r → IsIn log q → q.client ≡ client → q.epoch ≡ r.epoch → q.txn ≡ r.txn → IsIn log r

pub log_of : (st : Store) (client : ℕ) → AreLogged st client → LogHolds (st.tally.logged client) (st.tally.head client).epoch st.book.log client
log_of st client a = record { own = a.own; early = a.early; distinct = a.distinct; committed = a.committed }

pub logged_of : (st : Store) (client : ℕ) → LogHolds (st.tally.logged client) (st.tally.head client).epoch st.book.log client → AreLogged st client
logged_of st client a = record { own = a.own; early = a.early; distinct = a.distinct; committed = a.committed }

-- the records under way, with their messages
pub record WayHolds (logged : List Posted) (ways : List AtomicRec) (count : ℕ) : Type 0 where
  pub length_is : length ways ≡ count
  pub each : (place : ℕ) (r : AtomicRec) → StandsAt ways place r → IsWayAt logged count place r

pub way_of : (st : Store) (client count : ℕ) → HasWay st client count → WayHolds (st.tally.logged client) (under_way st.tally client st.book.log) count
way_of st client count w = record { length_is = w.length_is; each = w.each }

pub has_way : (st : Store) (client count : ℕ) → WayHolds (st.tally.logged client) (under_way st.tally client st.book.log) count → HasWay st client count
has_way st client count w = record { length_is = w.length_is; each = w.each }
