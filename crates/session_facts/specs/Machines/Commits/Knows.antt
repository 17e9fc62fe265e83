-- What a commit knows of the cloud at each of its calls.
use Rattle.std.specs.Prelude.{ℕ, ◌≡◌, ◌+◌, ◌<◌, ◌≤◌, ◌⊎◌, List, [], length, take, IsTrue}
use Rattle.cloud_facts.specs.Calls.Acting.{opened_client, IsPruned}
use Rattle.cloud_facts.specs.Calls.Others.{WasSentOn}
use Rattle.cloud_facts.specs.Words.{IsClient, IsTree, CommitAnswer, AtomicRec, Head, Claim, Lasts, Next, Goes, Ends, Stops, Book, Store, at, IsIn, StandsAt}
use Rattle.commit_writes.specs.declared.stage.Stage.{Stage}
use Rattle.commit_writes.specs.declared.stage.Stage.TheVariants.{Waiting, Logging, Opening, Sending, Settling, Deleting, Finished}
use Rattle.commit_writes.specs.Writing.{Writing, before_of}
use Rattle.db_base.specs.Change.{goes_to_leaf, key_of, IsChange}
use Rattle.db_base.specs.declared.change.Change.{Change}
use Rattle.db_base.specs.declared.names.Lock.TheVariants as lock
use Rattle.db_base.specs.declared.trouble.CommitAnswer.TheVariants.{Committed, NotCommitted, InDoubt, CommittedOpen}
use Rattle.head_codec.specs.declared.head.Phase.TheVariants.{Settled, Open}
use Rattle.cloud_facts.specs.Homes.Homes.{Home, Part, Away, AtHome, Parts, HomesHold}
use Rattle.cloud_facts.specs.Lefts.Left.{IsCopied}
use Rattle.recover_run.specs.declared.home.Home.{Home as Held}
use Rattle.session_facts.specs.Machines.Openings.Client.{AreOfTrees, AreOfRecords, AreCounted, KnowsClient}
use Rattle.route_plan.specs.Heads.{opened_head, settled_head}
use Rattle.route_plan.specs.Route.{routed}
use Rattle.cloud_facts.specs.Book.Growth.{IsLater}
use Rattle.cloud_facts.specs.Book.Messages.{IsLogMessage}
use Rattle.cloud_facts.specs.Book.Premises.{IsLeafAtMost}
use Rattle.txn_buffer.specs.Noted.{Noted, AreNoted}

-- changes that may be committed: at most 200, one for each tree and key, each a change of a tree
pub record MayCommit (changes : List Noted) : Type 0 where
  pub noted : AreNoted changes
  pub each : (n : Noted) → IsIn changes n → IsTree n.tree × IsChange n.change

-- ---- the transaction

-- what a commit attempts: a transaction of an epoch of its client, under its lease
pub record Attempt : Type 0 where
  pub client : ℕ
  pub epoch : ℕ
  pub txn : ℕ
  pub lease : Claim

abbrev pub attempt_of : Writing → Attempt
attempt_of w = record { client = w.home.client; epoch = w.home.head.epoch; txn = w.home.attempt; lease = w.home.lease }

-- a record is of the transaction
pub record IsOfAttempt (x : Attempt) (r : AtomicRec) : Type 0 where
  pub client_is : r.client ≡ x.client
  pub epoch_is : r.epoch ≡ x.epoch
  pub txn_is : r.txn ≡ x.txn

-- an ATOMIC message is of the transaction
pub record IsMessageOf (st : Store) (x : Attempt) (id : ℕ) : Type 0 where
  pub of : AtomicRec
  pub is : IsOfAttempt x of
  pub message : IsLogMessage (st.tally.logged x.client) id of

abbrev pub AreMessagesOf : Store → Attempt → List ℕ → Type 0
AreMessagesOf st x ids = (id : ℕ) → IsIn ids id → IsMessageOf st x id

-- ---- before the put that commits

-- where a change goes to a leaf, that is one of the tree's chain whose low key is not above the change's
abbrev pub IsLeafFor : Book → ℕ → Change → ℕ → Type 0
IsLeafFor book tree change page = IsTrue (goes_to_leaf change) → IsLeafAtMost book tree page (key_of change)

-- pages are so for the changes at their places
abbrev pub AreLeavesFor : Book → List Noted → List ℕ → Type 0
AreLeavesFor book changes pages = (place : ℕ) (n : Noted) (page : ℕ) → StandsAt changes place n → StandsAt pages place page → IsLeafFor book n.tree n.change page

-- the records are those of the changes, each with its page, behind a settled head, and none of them is committed; while the lease lasts the
-- pages are those of leaves, and the head is the newest but for pruned entries; its pending entries are of trees and of committed records, and its
-- counters at most their counts
pub record Routes (st : Store) (now : ℕ) (x : Attempt) (changes : List Noted) (records : List AtomicRec) (base : Head) : Type 0 where
  pub settled : base.phase ≡ Settled
  pub epoch_is : base.epoch ≡ x.epoch
  pub later : base.txn < x.txn
  pub some : 1 ≤ length changes
  pub pages : List ℕ
  pub paged : length changes ≤ length pages
  pub leaves : Lasts now x.lease → AreLeavesFor st.book changes pages
  pub records_are : records ≡ routed x.client base.epoch x.txn base changes pages
  pub newest : Lasts now x.lease → IsPruned st.tally x.client (st.tally.head x.client) base
  pub trees : AreOfTrees base.pending
  pub of_records : AreOfRecords st.book.log x.client base.pending
  pub counted : AreCounted st.book.log x.client base.counters
  pub uncommitted : (r : AtomicRec) → IsIn st.book.log r → IsOfAttempt x r → ⊥

-- a home that took the next attempt number, and wrote nothing of that transaction yet
pub record KnowsTaken (st : Store) (now : ℕ) (held : Held) (part : Part) : Type 0 where
  pub before : ℕ
  pub taken : held.attempt ≡ before + 1
  pub home : KnowsClient st now (opened_client held.client held.lease held.head before) part

-- a home has sent these records of its last transaction to the ATOMIC queue, and needs them there
pub record HasSent (g : Home) (records : List AtomicRec) : Type 0 where
  pub sent : g.sent ≡ records
  pub needed : g.needed ≡ records

-- the next record is sent to the ATOMIC queue; those before it were
pub record LogsNext (st : Store) (now : ℕ) (w : Writing) (g : Home) : Type 0 where
  pub routes : Routes st now (attempt_of w) w.changes w.records w.home.head
  pub has : HasSent g (take w.place w.records)
  pub messages : AreMessagesOf st (attempt_of w) w.ids

-- the head that is put opens the transaction; all its records were sent to the ATOMIC queue
pub record OpensBehind (st : Store) (now : ℕ) (w : Writing) (g : Home) : Type 0 where
  pub base : Head
  pub routes : Routes st now (attempt_of w) w.changes w.records base
  pub head : w.home.head ≡ opened_head base w.home.attempt w.records
  pub before : w.before ≡ before_of base
  pub has : HasSent g w.records
  pub messages : AreMessagesOf st (attempt_of w) w.ids

-- ---- behind it

-- the head that opened landed: its records are committed, with their places as indices, and are all of its transaction, and while the lease lasts
-- it is the newest
pub record HasOpened (st : Store) (now : ℕ) (x : Attempt) (records : List AtomicRec) (opened : Head) : Type 0 where
  pub phase : opened.phase ≡ Open (length records)
  pub epoch_is : opened.epoch ≡ x.epoch
  pub txn_is : opened.txn ≡ x.txn
  pub logged : (r : AtomicRec) → IsIn records r → IsIn st.book.log r × IsOfAttempt x r
  pub indexed : (place : ℕ) (r : AtomicRec) → StandsAt records place r → r.index ≡ place + 1
  pub newest : Lasts now x.lease → st.tally.head x.client ≡ opened
  pub all : (r : AtomicRec) → IsIn st.book.log r → IsOfAttempt x r → IsIn records r

-- a change has a record of the transaction in the log, with its place as index
pub record IsLogged (log : List AtomicRec) (x : Attempt) (place : ℕ) (n : Noted) : Type 0 where
  pub of : AtomicRec
  pub logged : IsIn log of
  pub is : IsOfAttempt x of
  pub index_is : of.index ≡ place + 1
  pub tree_is : of.tree ≡ n.tree
  pub change_is : of.change ≡ n.change

-- the transaction committed each of the changes
abbrev pub HasCommitted : List AtomicRec → Attempt → List Noted → Type 0
HasCommitted log x changes = (place : ℕ) (n : Noted) → StandsAt changes place n → IsLogged log x place n

-- the first so many records were sent on, each with a copy in its queue
abbrev pub AreSentOn : Store → List AtomicRec → ℕ → Type 0
AreSentOn st records upto = (place : ℕ) (r : AtomicRec) → place < upto → StandsAt records place r → WasSentOn st.tally r × IsCopied st.tally r

-- the next record is sent on; those before it were
pub record SendsNext (st : Store) (now : ℕ) (w : Writing) : Type 0 where
  pub has : HasOpened st now (attempt_of w) w.records w.home.head
  pub committed : HasCommitted st.book.log (attempt_of w) w.changes
  pub sent : AreSentOn st w.records w.place
  pub messages : AreMessagesOf st (attempt_of w) w.ids

-- the head that is put settles the one that opened, and all records were sent on
pub record SettlesOpened (st : Store) (now : ℕ) (w : Writing) : Type 0 where
  pub opened : Head
  pub has : HasOpened st now (attempt_of w) w.records opened
  pub committed : HasCommitted st.book.log (attempt_of w) w.changes
  pub head : w.home.head ≡ settled_head opened w.records
  pub sent : AreSentOn st w.records (length w.records)
  pub messages : AreMessagesOf st (attempt_of w) w.ids

-- the head that settles landed: it is the newest or an earlier one, and the newest while the lease lasts; the ATOMIC messages of the
-- transaction are needed no more; its pending entries are of trees and of committed records, and its counters at most their counts; the transaction
-- committed the changes
pub record Deletes (st : Store) (now : ℕ) (w : Writing) (g : Home) : Type 0 where
  pub committed : HasCommitted st.book.log (attempt_of w) w.changes
  pub settled : w.home.head.phase ≡ Settled
  pub txn_is : w.home.head.txn ≡ w.home.attempt
  pub past : (st.tally.head w.home.client ≡ w.home.head) ⊎ IsLater w.home.head (st.tally.head w.home.client)
  pub newest : Lasts now w.home.lease → st.tally.head w.home.client ≡ w.home.head
  pub trees : AreOfTrees w.home.head.pending
  pub of_records : AreOfRecords st.book.log w.home.client w.home.head.pending
  pub counted : AreCounted st.book.log w.home.client w.home.head.counters
  pub needed : g.needed ≡ []
  pub messages : AreMessagesOf st (attempt_of w) w.ids

-- ---- the whole

abbrev pub KnowsCommitAt : Stage → Store → ℕ → Writing → Home → Type 0
KnowsCommitAt Waiting st now w g = ⊥
KnowsCommitAt Logging st now w g = LogsNext st now w g
KnowsCommitAt Opening st now w g = OpensBehind st now w g
KnowsCommitAt Sending st now w g = SendsNext st now w
KnowsCommitAt Settling st now w g = SettlesOpened st now w
KnowsCommitAt Deleting st now w g = Deletes st now w g
KnowsCommitAt Finished st now w g = ⊥

-- a part is at home for the transaction
pub record IsHomeOf (x : Attempt) (part : Part) (g : Home) : Type 0 where
  pub part_is : part ≡ AtHome g
  pub client_is : g.client ≡ x.client
  pub epoch_is : g.epoch ≡ x.epoch
  pub attempt_is : g.attempt ≡ x.txn
  pub lease_is : g.lease ≡ x.lease

pub record KnowsCommit (st : Store) (now : ℕ) (w : Writing) (part : Part) : Type 0 where
  pub client : IsClient w.home.client
  pub lock : w.home.lease.lock ≡ lock.Client w.home.client
  pub changes : MayCommit w.changes
  pub home : Home
  pub at_home : IsHomeOf (attempt_of w) part home
  pub at : KnowsCommitAt w.stage st now w home

-- ---- where an answer leads

-- what is known of the home that a commit leaves; where the commit may stand open the home is given up
abbrev pub KnowsEnd : Store → ℕ → Held → CommitAnswer → Part → Type 0
KnowsEnd st now home (Committed txn) part = KnowsClient st now (opened_client home.client home.lease home.head home.attempt) part
KnowsEnd st now home (NotCommitted t) part = KnowsClient st now (opened_client home.client home.lease home.head home.attempt) part
KnowsEnd st now home InDoubt part = part ≡ Away
KnowsEnd st now home (CommittedOpen t) part = part ≡ Away

abbrev pub KnowsNext : Next Writing CommitAnswer → Store → ℕ → Part → Type 0
KnowsNext (Goes w) st now part = KnowsCommit st now w part
KnowsNext (Ends w a) st now part = KnowsEnd st now w.home a part
KnowsNext (Stops w t) st now part = part ≡ Away

-- what is reached without a call: a part of the session, and this is known with it
pub record ReachesPart (st : Store) (now : ℕ) (parts : Parts) (session : ℕ) (Knows : Store → ℕ → Part → Type 0) : Type 0 where
  pub part : Part
  pub homes : HomesHold st.tally now (at session part parts)
  pub knows : Knows st now part
