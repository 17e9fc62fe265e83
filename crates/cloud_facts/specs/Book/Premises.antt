-- What rests on what: what must be known of the tally and the book before each kind of call lands.
use Rattle.std.specs.Prelude.{ℕ, ◌≡◌, ◌≢◌, ◌+◌, ◌<◌, ◌≤◌, ◌⊎◌, Bool, true, false, List, [], length, take, count_by, IsSorted, Some}
use Rattle.byte_format.specs.Order.{bytes_below}
use Rattle.db_base.specs.Change.{key_of}
use Rattle.db_base.specs.Cursor.{number_of}
use Rattle.db_base.specs.Ids.{IsClient, IsTree}
use Rattle.cloud_trait.specs.declared.state.Posted.{Posted}
use Rattle.head_codec.specs.declared.head.Head.{Head}
use Rattle.head_codec.specs.declared.head.Phase.TheVariants.{Settled, Open}
use Rattle.head_codec.specs.declared.lists.Pending.{Pending}
use Rattle.leaf_edit.specs.Raised.{greatest_of}
use Rattle.leaf_view.specs.Lookup.{number_of as done_number}
use Rattle.log_codec.specs.Atomic.{atomic_of}
use Rattle.log_codec.specs.Pu.{pu_of}
use Rattle.log_codec.specs.declared.record.AtomicRec.{AtomicRec}
use Rattle.log_codec.specs.declared.record.PuItem.{PuItem}
use Rattle.log_codec.specs.declared.record.PuRec.{PuRec}
use Rattle.node_codec.specs.Tree.{Tree}
use Rattle.route_plan.specs.Queue.{number_of_queue}
use Rattle.route_plan.specs.Record.{pu_record_of, pending_of}
use Rattle.route_plan.specs.Route.{goes_to}
use Rattle.run_cursor.specs.Run.{is_at}
use Rattle.log_codec.specs.Order.{item_cmp}
use Rattle.cloud_facts.specs.Book.Book.{Book, Link}
use Rattle.cloud_facts.specs.Book.Tally.{Tally, Store}
use Rattle.cloud_facts.specs.Book.Records.{StandsAt, IsIn, key_in, count_of, IsApplied, is_open, IsUnderWay}
use Rattle.cloud_facts.specs.Book.Messages.{HasCopy, Waits, WaitsLogged, IsMessage, IsLogMessage}
use Rattle.cloud_facts.specs.Book.Effects.{Taking, done_after}
use Rattle.cloud_facts.specs.Chains.Chain.{IsUnlinked}
use Rattle.cloud_facts.specs.Copies.Copies.{SendsInTurn}

-- ---- routing

-- a page is in the leaf chain of a tree, with a low key that is not above the key
pub record IsLeafAtMost (book : Book) (tree page : ℕ) (key : List ℕ) : Type 0 where
  pub link : Link
  pub linked : IsIn (book.chain tree 0) link
  pub page_is : link.page ≡ page
  pub low : bytes_below key link.low ≡ false

-- a record goes to the tree's queue, or to that of a leaf whose low key is not above its key
abbrev pub IsRouted : Book → AtomicRec → Type 0
IsRouted book r = (r.page ≡ 0) ⊎ IsLeafAtMost book r.tree r.page (key_in r)

-- ---- a head that opens

-- the record at a place of those that a head opens
pub record IsRecordAt (st : Store) (client : ℕ) (head : Head) (records : List AtomicRec) (place : ℕ) (r : AtomicRec) : Type 0 where
  pub client_is : r.client ≡ client
  pub epoch_is : r.epoch ≡ head.epoch
  pub txn_is : r.txn ≡ head.txn
  pub index_is : r.index ≡ place + 1
  pub count_is : r.count ≡ length records
  pub tree : IsTree r.tree
  pub number_is : r.number ≡ count_of r.tree r.page client st.book.log + 1 + count_by (goes_to r.tree r.page) (take place records)
  pub routed : IsRouted st.book r
  -- it goes where the pending entries of its key wait
  pub sticky : (p : Pending) → IsIn head.pending p → p.tree ≡ r.tree → key_of p.change ≡ key_in r → p.page ≡ r.page
  pub logged : WaitsLogged (st.tally.logged client) r

-- a pending entry of a client is of a record that is applied
abbrev pub IsAppliedEntry : Tally → ℕ → Pending → Type 0
IsAppliedEntry t client p = p.number ≤ t.done p.tree (key_of p.change) p.page client

-- a client's head opens a transaction of these records
pub record Opens (st : Store) (client : ℕ) (head : Head) (records : List AtomicRec) : Type 0 where
  pub is_client : IsClient client
  pub settled : (st.tally.head client).phase ≡ Settled
  pub epoch : head.epoch ≡ (st.tally.head client).epoch
  pub later : (st.tally.head client).txn < head.txn
  pub phase : head.phase ≡ Open (length records)
  pub some : 0 < length records
  pub records_are : (place : ℕ) (r : AtomicRec) → StandsAt records place r → IsRecordAt st client head records place r
  -- one change for each tree and key
  pub distinct : (i j : ℕ) (a b : AtomicRec) → StandsAt records i a → StandsAt records j b → a.tree ≡ b.tree → key_in a ≡ key_in b → i ≡ j
  pub counters : (tree page : ℕ) → number_of_queue head.counters tree page ≡ number_of_queue (st.tally.head client).counters tree page + count_by (goes_to tree page) records
  -- pending entries are those before, but for pruned ones, which are applied
  pub pending_kept : (p : Pending) → IsIn (st.tally.head client).pending p → IsIn head.pending p ⊎ IsAppliedEntry st.tally client p
  pub pending_from : (p : Pending) → IsIn head.pending p → IsIn (st.tally.head client).pending p
  -- the ATOMIC messages of the transaction are its records
  pub messages : (id : ℕ) (r : AtomicRec) → IsLogMessage (st.tally.logged client) id r → r.epoch ≡ head.epoch → r.txn ≡ head.txn → IsIn records r

-- ---- a head that settles

-- what a head that settles is later than: an open head of its own transaction, or any head of the epoch before
abbrev pub SettlesBehind : Head → Head → Type 0
SettlesBehind before head =
    ((head.epoch ≡ before.epoch) × (head.txn ≡ before.txn) × (is_open before.phase ≡ true)) ⊎ (head.epoch ≡ before.epoch + 1)

-- a client's head settles: the records that were under way are sent, and pending
pub record Settles (st : Store) (client : ℕ) (head : Head) : Type 0 where
  pub is_client : IsClient client
  pub phase : head.phase ≡ Settled
  pub behind : SettlesBehind (st.tally.head client) head
  pub counters : (tree page : ℕ) → number_of_queue head.counters tree page ≡ number_of_queue (st.tally.head client).counters tree page
  pub sent : (r : AtomicRec) → IsIn st.book.log r → r.client ≡ client → IsUnderWay st.tally r → IsApplied st.tally r ⊎ Waits (st.tally.posts r.tree r.page) (pu_record_of r)
  pub copied : (r : AtomicRec) → IsIn st.book.log r → r.client ≡ client → IsUnderWay st.tally r → (id : ℕ) × IsMessage (st.tally.posts r.tree r.page) id (pu_record_of r)
  pub pending_kept : (p : Pending) → IsIn (st.tally.head client).pending p → IsIn head.pending p ⊎ IsAppliedEntry st.tally client p
  pub pending_taken : (r : AtomicRec) → IsIn st.book.log r → r.client ≡ client → IsUnderWay st.tally r → IsIn head.pending (pending_of r)
  pub pending_from : (p : Pending) → IsIn head.pending p
      → IsIn (st.tally.head client).pending p ⊎ ((r : AtomicRec) × IsIn st.book.log r × (r.client ≡ client) × IsUnderWay st.tally r × (p ≡ pending_of r))

-- ---- messages

-- a record of a transaction that is not committed is sent to its client's ATOMIC queue, for the first time
pub record Logs (st : Store) (client : ℕ) (post : Posted) (r : AtomicRec) : Type 0 where
  pub is_client : IsClient client
  pub reads : atomic_of post.bytes ≡ Some r
  pub unmarked : post.deleted ≡ false
  pub client_is : r.client ≡ client
  pub epoch : r.epoch ≤ (st.tally.head client).epoch
  pub first : (id : ℕ) (q : AtomicRec) → IsLogMessage (st.tally.logged client) id q → q.epoch ≡ r.epoch → q.txn ≡ r.txn → q.index ≡ r.index → ⊥
  pub uncommitted : (q : AtomicRec) → IsIn st.book.log q → q.client ≡ client → q.epoch ≡ r.epoch → q.txn ≡ r.txn → ⊥

-- a committed record is sent to its pending update queue, behind those under way of its client before it in the log
pub record Posts (st : Store) (tree page : ℕ) (post : Posted) (r : AtomicRec) : Type 0 where
  pub logged : IsIn st.book.log r
  pub tree_is : r.tree ≡ tree
  pub page_is : r.page ≡ page
  pub reads : pu_of post.bytes ≡ Some (pu_record_of r)
  pub unmarked : post.deleted ≡ false
  pub turn : SendsInTurn st r

-- a pending update message is marked: its queue's cursor covers it
pub record MarksPost (st : Store) (tree page id : ℕ) : Type 0 where
  pub covered : (rec : PuRec) → IsMessage (st.tally.posts tree page) id rec → rec.number ≤ st.tally.cursor tree page rec.client

-- an ATOMIC message is marked: it is not of the newest head's open transaction
pub record MarksLog (st : Store) (client id : ℕ) : Type 0 where
  pub past : (r : AtomicRec) → IsLogMessage (st.tally.logged client) id r → is_open (st.tally.head client).phase ≡ true
      → r.epoch ≡ (st.tally.head client).epoch → r.txn ≡ (st.tally.head client).txn → ⊥

-- ---- a leaf that takes a run

-- an item is a committed record of a queue
pub record IsItemOf (st : Store) (tree queue : ℕ) (x : PuItem) : Type 0 where
  pub of : AtomicRec
  pub logged : IsIn st.book.log of
  pub tree_is : of.tree ≡ tree
  pub page_is : of.page ≡ queue
  pub rec_is : x.rec ≡ pu_record_of of
  -- it was sent to the queue
  pub sent : HasCopy (st.tally.posts tree queue) x.rec

-- the run has, for each client, each of the numbers behind some number that the cursor covers, once, up to its greatest
pub record IsConsecutive (st : Store) (tree queue : ℕ) (run : List PuItem) (client from : ℕ) : Type 0 where
  pub covered : from ≤ st.tally.cursor tree queue client
  pub each : (n : ℕ) → from < n → n ≤ greatest_of run client → count_by (is_at client n) run ≡ 1
  pub above : (x : PuItem) → IsIn run x → x.rec.client ≡ client → from < x.rec.number

-- the page is that of a link, and its range is from the link's low key on up to the next link's
pub record Ranges (book : Book) (tree page : ℕ) (range : List ℕ → Bool) : Type 0 where
  pub place : ℕ
  pub link : Link
  pub linked : StandsAt (book.chain tree 0) place link
  pub page_is : link.page ≡ page
  pub low : (key : List ℕ) → range key ≡ true → bytes_below key link.low ≡ false
  pub below : (next : Link) (key : List ℕ) → StandsAt (book.chain tree 0) (place + 1) next → range key ≡ true → bytes_below key next.low ≡ true
  pub whole : (key : List ℕ) → range key ≡ false
      → (bytes_below key link.low ≡ true) ⊎ ((next : Link) × StandsAt (book.chain tree 0) (place + 1) next × (bytes_below key next.low ≡ false))

-- a leaf takes a run of committed records of one queue
pub record Takes (st : Store) (p : Taking) : Type 0 where
  pub is_tree : IsTree p.tree
  pub ranges : Ranges st.book p.tree p.page p.range
  pub items : (x : PuItem) → IsIn p.run x → IsItemOf st p.tree p.queue x
  pub consecutive : (client : ℕ) → IsClient client → (from : ℕ) × IsConsecutive st p.tree p.queue p.run client from
  pub sorted : IsSorted item_cmp p.run
  -- a page that takes a run of its own queue takes what is left of it: the items of other pages' keys are applied
  pub home_last : p.queue ≡ p.page → (x : PuItem) → IsIn p.run x → p.range (key_of x.rec.change) ≡ false
      → x.rec.number ≤ st.tally.done p.tree (key_of x.rec.change) p.queue x.rec.client
  -- the table of the leaf that lands is that of its keys with the run
  pub table : (key : List ℕ) → p.range key ≡ true → (page client : ℕ) → IsClient client
      → done_number p.leaf.done page client ≡ done_after p st.tally.done p.tree key page client

-- ---- other pages, and roots

-- a page that is in no chain of its tree lands first, with a table that says no more than that of some key
pub record LandsFirst (st : Store) (tree page : ℕ) (own : ℕ → ℕ) : Type 0 where
  pub page_is : 1 < page
  pub unlinked : (level : ℕ) (link : Link) → IsIn (st.book.chain tree level) link → link.page ≢ page
  pub own_within : (client : ℕ) → IsClient client → (key : List ℕ) × (own client ≤ st.tally.done tree key page client)

-- the cursor of a root does not fall, and covers applied records alone
pub record CoversApplied (st : Store) (tree : ℕ) (root : Tree) : Type 0 where
  pub rises : (client : ℕ) → IsClient client → st.tally.cursor tree 0 client ≤ number_of root.cursor client
  pub within : (client : ℕ) → IsClient client → number_of root.cursor client ≤ count_of tree 0 client st.book.log
  pub applied : (r : AtomicRec) → IsIn st.book.log r → r.tree ≡ tree → r.page ≡ 0 → r.number ≤ number_of root.cursor r.client → IsApplied st.tally r

-- ---- removed pages

-- a page is removed that is in no chain of its tree, has landed, and was not removed
pub record Removes (st : Store) (tree page : ℕ) : Type 0 where
  pub unlinked : IsUnlinked (st.book.chain tree) page
  pub landed : st.tally.nodes tree page ≢ []
  pub there : st.tally.gone tree page ≡ false

-- pieces that join a chain were not removed
abbrev pub AreThere : Store → ℕ → List Link → Type 0
AreThere st tree pieces = (piece : Link) → IsIn pieces piece → st.tally.gone tree piece.page ≡ false
