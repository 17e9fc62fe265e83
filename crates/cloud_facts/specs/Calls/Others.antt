-- What a session may rely on of a call of another one.
use Rattle.std.specs.Prelude.{ℕ, ◌≡◌, ◌<◌, ◌⊎◌, List}
use Rattle.cloud_facts.specs.Calls.Links.{SameLinks, SameGone}
use Rattle.cloud_facts.specs.Calls.Pages.{IsLeafPage, IsTreePage}
use Rattle.cloud_facts.specs.Words.{AtomicRec, Head, Claim, Lasts, Store, IsIn}
use Rattle.db_base.specs.declared.names.Lock.TheVariants as lock
use Rattle.cloud_facts.specs.Homes.Homes.{Part, Away, AtHome, Opens}
use Rattle.cloud_facts.specs.Lefts.Left.{IsWaiting}
use Rattle.cloud_facts.specs.Book.Growth.{Grows}
use Rattle.cloud_facts.specs.Book.Messages.{IsDeleted}
use Rattle.cloud_facts.specs.Book.Records.{IsApplied}
use Rattle.cloud_facts.specs.Book.Tally.{Tally}

-- a record was sent on to its queue: it is applied, or it waits there
abbrev pub WasSentOn : Tally → AtomicRec → Type 0
WasSentOn t r = IsApplied t r ⊎ IsWaiting t r

-- a record is of a later transaction of the epoch of a head
abbrev pub IsNewer : Head → AtomicRec → Type 0
IsNewer head r = (r.epoch ≡ head.epoch) × (head.txn < r.txn)

-- what any call leaves: what is told only grows, what was sent on stays so, as does an ATOMIC message that is deleted, and what joins the log is
-- newer than its client's head
pub record Passes (st su : Store) : Type 0 where
  pub grows : Grows st su
  pub sent_on : (r : AtomicRec) → IsIn st.book.log r → WasSentOn st.tally r → WasSentOn su.tally r
  pub deleted : (client id : ℕ) → IsDeleted (st.tally.logged client) id → IsDeleted (su.tally.logged client) id
  pub joined : (r : AtomicRec) → IsIn su.book.log r → IsIn st.book.log r ⊎ IsNewer (st.tally.head r.client) r

-- a record of a home
abbrev pub IsOfPart : Part → AtomicRec → Type 0
IsOfPart Away r = ⊥
IsOfPart (AtHome h) r = (r.client ≡ h.client) × (r.epoch ≡ h.epoch)
IsOfPart (Opens o) r = ⊥

-- no record of a home joins the log
abbrev pub NoneJoins : Part → Store → Store → Type 0
NoneJoins part st su = (r : AtomicRec) → IsIn su.book.log r → IsOfPart part r → IsIn st.book.log r

-- what a call of another session leaves of what the leases in hand guard that last behind it
pub record Others (mine : List Claim) (later : ℕ) (st su : Store) : Type 0 where
  pub passes : Passes st su
  pub head : (l : Claim) (client : ℕ) → IsIn mine l → l.lock ≡ lock.Client client → Lasts later l → su.tally.head client ≡ st.tally.head client
  pub roots : (l : Claim) (tree : ℕ) → IsIn mine l → l.lock ≡ lock.Tree tree → Lasts later l → su.tally.roots tree ≡ st.tally.roots tree
  pub links : (l : Claim) (tree : ℕ) → IsIn mine l → l.lock ≡ lock.Tree tree → Lasts later l → SameLinks st su tree
  pub gone : (l : Claim) (tree : ℕ) → IsIn mine l → l.lock ≡ lock.Tree tree → Lasts later l → SameGone st su tree
  -- inner nodes, and pages that are absent
  pub page : (l : Claim) (tree page : ℕ) → IsIn mine l → l.lock ≡ lock.Tree tree → Lasts later l → IsTreePage (st.tally.nodes tree) page
      → su.tally.nodes tree page ≡ st.tally.nodes tree page
  -- leaves, each under its own lock
  pub leaf : (l : Claim) (tree page : ℕ) → IsIn mine l → l.lock ≡ lock.Page tree page → Lasts later l → IsLeafPage (st.tally.nodes tree) page
      → su.tally.nodes tree page ≡ st.tally.nodes tree page
