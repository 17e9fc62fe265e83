-- What holds of a cloud and of all sessions that act on it.
use Rattle.std.specs.Prelude.{ℕ, ◌≡◌, List, [], ◌∷◌}
use Rattle.client_work.specs.Session.{Acting}
use Rattle.client_work.specs.declared.op.Op.{Op}
use Rattle.client_work.specs.declared.op.Op.TheVariants as op
use Rattle.client_work.specs.declared.work.Work.{Work}
use Rattle.client_work.specs.declared.work.Work.TheVariants.{Closed, Idle, Opening, Committing, Reading, Scanning, Looking, Folding, Paging, Closing, Renewing, Settling, Sweeping, Broken}
use Rattle.cloud_facts.specs.Calls.Acting.{opened_client}
use Rattle.cloud_facts.specs.Calls.Looks.{audit_of}
use Rattle.cloud_facts.specs.Words.{IsClient, IsTree, Entry, CloudState, newest, Claim, Book, Store, at, store_of, StandsUnder}
use Rattle.cloud_trait.specs.Growth.{BeginsWith}
use Rattle.session_facts.specs.Machines.Commits.Knows.{MayCommit}
use Rattle.commit_run.specs.Run.{home_of as home_of_run}
use Rattle.session_facts.specs.Machines.CommitRuns.Knows.{KnowsRun}
use Rattle.db_base.specs.Ids.{IsPage}
use Rattle.cloud_facts.specs.Homes.Homes.{Part, Away, Parts, HomesHold}
use Rattle.cloud_facts.specs.Leases.Leases.{Hands, LeasesHold}
use Rattle.session_facts.specs.Machines.Openings.Client.{KnowsClient}
use Rattle.session_facts.specs.Machines.Openings.Knows.{KnowsOpening, leases_of_recovery}
use Rattle.page_cache.specs.Cache.{Cache}
use Rattle.session_facts.specs.Machines.PageCheckpoints.Knows.{KnowsPaging, leases_of_paging}
use Rattle.recover_run.specs.declared.home.Home.{Home}
use Rattle.session_facts.specs.Machines.Looks.Knows.{KnowsLook}
use Rattle.session_facts.specs.Machines.Scans.Knows.{KnowsScan}
use Rattle.session_facts.specs.Sessions.Audited.{audited}
use Rattle.session_facts.specs.Machines.Settlings.Knows.{KnowsSettling, leases_of_settling}
use Rattle.session_facts.specs.Machines.Sweeps.Knows.{KnowsSweep, leases_of_sweep}
use Rattle.cloud_facts.specs.Book.Growth.{Grows}
use Rattle.session_facts.specs.Machines.TreeCheckpoints.Knows.{KnowsMaking, leases_of_making}
use Rattle.session_facts.specs.Machines.Walks.Caches.{KnowsCache}
use Rattle.session_facts.specs.Machines.Walks.Knows.{KnowsWalk}

-- the leases in hand
abbrev pub leases_of : Work → List Claim
leases_of Closed = []
leases_of (Idle home) = home.lease ∷ []
leases_of (Opening r) = leases_of_recovery r
leases_of (Committing r) = (home_of_run r).lease ∷ []
leases_of (Reading home m) = home.lease ∷ []
leases_of (Scanning home m) = home.lease ∷ []
leases_of (Looking home m) = home.lease ∷ []
leases_of (Folding home m) = home.lease ∷ leases_of_making m
leases_of (Paging home p) = home.lease ∷ leases_of_paging p
leases_of (Closing l) = l ∷ []
leases_of (Renewing home) = home.lease ∷ []
leases_of (Settling m) = leases_of_settling m
leases_of (Sweeping m) = leases_of_sweep m
leases_of (Broken l) = l ∷ []

-- an open client that works on no commit
abbrev pub IsHome : Store → ℕ → Home → Part → Type 0
IsHome st now home part = KnowsClient st now (opened_client home.client home.lease home.head home.attempt) part

-- what a session knows of a store at a moment, by what it has in hand beside its cache, and by its part
abbrev pub KnowsWork : Store → ℕ → Cache → Work → Part → Type 0
KnowsWork st now c Closed part = part ≡ Away
KnowsWork st now c (Idle home) part = IsHome st now home part
KnowsWork st now c (Opening r) part = KnowsOpening st now r part
KnowsWork st now c (Committing r) part = KnowsRun st now (r, c) part
KnowsWork st now c (Reading home w) part = IsHome st now home part × KnowsWalk st w
KnowsWork st now c (Scanning home m) part = IsHome st now home part × KnowsScan st m.scan
KnowsWork st now c (Looking home m) part = IsHome st now home part × KnowsLook st m
KnowsWork st now c (Folding home m) part = IsHome st now home part × KnowsMaking st now m
KnowsWork st now c (Paging home p) part = IsHome st now home part × KnowsPaging st now p
KnowsWork st now c (Closing l) part = part ≡ Away
KnowsWork st now c (Renewing home) part = IsHome st now home part
KnowsWork st now c (Settling m) part = KnowsSettling st now m part
KnowsWork st now c (Sweeping m) part = KnowsSweep st now m part
KnowsWork st now c (Broken l) part = part ≡ Away

-- what its cache keeps landed; a session in doubt looks at nothing that it keeps
abbrev pub KnowsKept : Store → Cache → Work → Type 0
KnowsKept st c (Broken l) = Unit {0}
KnowsKept st c work = KnowsCache st c

-- and what it noted may be committed
pub record Knows (st : Store) (now : ℕ) (session : Acting) (part : Part) : Type 0 where
  pub work : KnowsWork st now session.cache session.work part
  pub kept : KnowsKept st session.cache session.work
  pub buffer : MayCommit session.buffer

-- ---- all sessions

-- every session by its number
abbrev pub Sessions : Type 0
Sessions = ℕ → Acting

abbrev pub hands_of : Sessions → Hands
hands_of sessions session = leases_of (sessions session).work

-- a cloud stands under a book, with an order, and so do all sessions
pub record SessionsStand (book : Book) (order : List Entry) (s : CloudState) (sessions : Sessions) : Type 0 where
  pub cloud : StandsUnder book order s
  pub leases : LeasesHold s.now s.locks (hands_of sessions)
  pub parts : Parts
  pub homes : HomesHold (store_of book order s).tally s.now parts
  pub each : (session : ℕ) → Knows (store_of book order s) s.now (sessions session) (parts session)

-- an operation names a client, a tree, or a page of a tree
abbrev pub IsRightOp : Op → Type 0
IsRightOp (op.Open client) = IsClient client
IsRightOp op.Close = Unit {0}
IsRightOp op.Renew = Unit {0}
IsRightOp op.Commit = Unit {0}
IsRightOp (op.Read tree key) = IsTree tree
IsRightOp (op.Scan tree from to) = IsTree tree
IsRightOp (op.Lookup tree attr) = IsTree tree
IsRightOp (op.Tree tree) = IsTree tree
IsRightOp (op.Page tree page) = IsTree tree × IsPage page

-- what a call finds: a book and an order, a cloud and all sessions
pub record Ground : Type 0 where
  pub book : Book
  pub order : List Entry
  pub state : CloudState
  pub sessions : Sessions

abbrev pub ground : Book → List Entry → CloudState → Sessions → Ground
ground book order s sessions = record { book = book; order = order; state = s; sessions = sessions }

-- what a call of a session leaves: a book and an order for all sessions, of which one is new, that go on exactly by what was seen to land
pub record Goes (from : Ground) (t : CloudState) (session : ℕ) (new : Acting) : Type 0 where
  pub book_after : Book
  pub order_after : List Entry
  pub stand : SessionsStand book_after order_after t (at session new from.sessions)
  pub log_goes_on : BeginsWith from.book.log book_after.log
  pub order_goes_on : BeginsWith from.order order_after
  pub grows : Grows (store_of from.book from.order from.state) (store_of book_after order_after t)
  pub noted : audited (newest from.state) (newest t) (from.sessions session).work (audit_of from.book from.order) ≡ audit_of book_after order_after
