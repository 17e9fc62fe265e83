-- What the answer of its one call led a session to. Nothing here is of a cloud: a step is taken by what was answered, wherever that came from.
use Rattle.std.specs.Prelude.{ℕ, ◌≡◌, List, Some, Ok, Err}
use Rattle.attr_index.specs.Look.{Own, Look, look_next}
use Rattle.attr_index.specs.Stepped.{KeepsServed}
use Rattle.client_work.specs.Session.{Acting, Follows, InHand, in_hand, ask_of_work, noted_behind, shown_behind, opened_work, committed_work, stopped_work}
use Rattle.client_work.specs.Shows.{own_of}
use Rattle.client_work.specs.declared.answer.Answer.{Answer}
use Rattle.client_work.specs.declared.answer.Answer.TheVariants as answer
use Rattle.client_work.specs.declared.listing.Listing.{Listing}
use Rattle.client_work.specs.declared.shown.Shown.TheVariants.{Nothing, Read, Listed}
use Rattle.client_work.specs.declared.work.Work.{Work}
use Rattle.client_work.specs.declared.work.Work.TheVariants.{Closed, Idle, Opening, Committing, Reading, Scanning, Looking, Folding, Paging, Closing, Renewing, Settling, Sweeping, Broken}
use Rattle.cloud_facts.specs.Words.{Answer as Reply, Turn, More, Ended, Stopped, Claim, Ask, Deed, IsIn}
use Rattle.cloud_trait.specs.Machine.{Machine, LeadsBy, Took, IsMade}
use Rattle.cloud_trait.specs.Views.{done_of, renewed_of}
use Rattle.cloud_trait.specs.Weather.{leased, RenewsLease}
use Rattle.db_base.specs.Limits.{client_ticks}
use Rattle.commit_run.specs.Run.{Run, home_of as home_of_run, run_machine}
use Rattle.orphan_sweep.specs.Sweeping.{Sweeping as SweepingState, sweep_machine}
use Rattle.page_cache.specs.Cache.{Cache}
use Rattle.page_ckpt.specs.Paging.{Paging as Page, paging_machine}
use Rattle.range_scan.specs.Scan.{Scan, scan_machine}
use Rattle.recover_run.specs.declared.home.Home.{Home}
use Rattle.recover_run.specs.declared.stage.RecoverAnswer.TheVariants.{Opened}
use Rattle.recover_run.specs.Recovery.{Recovery, home_of, recovery_machine}
use Rattle.session_facts.specs.Sessions.HeadPuts.{IsSoundWork}
use Rattle.session_facts.specs.Sessions.Knows.{leases_of}
use Rattle.settle_run.specs.Settling.{Settling as SettlingState, settling_machine}
use Rattle.tree_ckpt.specs.Making.{Making, making_machine}
use Rattle.tree_walk.specs.Walk.{Walk, walk_machine}

-- the answer led a machine so
abbrev pub Led : {M A : Type 0} → Machine M A → M → Reply → M → Turn A → Type 0
Led machine old a new turn = Took machine.leads machine.keeps old a new turn

-- ---- by what was at work

abbrev pub LedOpening : Recovery → Reply → Work → Turn Answer → Type 0
LedOpening old a work More = (m : Recovery) × Led recovery_machine old a m More × (work ≡ Opening m)
LedOpening old a work (Ended (answer.Opened epoch)) =
    (m : Recovery) × Led recovery_machine old a m (Ended (Opened epoch)) × (work ≡ opened_work (home_of m))
LedOpening old a work (Ended (answer.Trouble k)) = (m : Recovery) × Led recovery_machine old a m (Stopped k) × (work ≡ Closed)
LedOpening old a work turn = ⊥

abbrev pub LedCommit : Run × Cache → Reply → Work × Cache → Turn Answer → Type 0
LedCommit old a (work, c) More = (m : Run) × Led run_machine old a (m, c) More × (work ≡ Committing m)
LedCommit old a (work, c) (Ended (answer.Commit k)) = (m : Run) × Led run_machine old a (m, c) (Ended k) × (work ≡ committed_work k (home_of_run m))
LedCommit old a (work, c) (Ended (answer.Trouble k)) =
    (m : Run) × Led run_machine old a (m, c) (Stopped k) × (work ≡ Broken (home_of_run m).lease)
LedCommit old a (work, c) turn = ⊥

abbrev pub LedReading : InHand Walk → Reply → Acting → Turn Answer → Type 0
LedReading old a new More =
    (m : Walk) × Led walk_machine (old.machine, old.cache) a (m, new.cache) More × (new.work ≡ Reading old.home m) × (new.shown ≡ Nothing)
LedReading old a new (Ended answer.Value) =
    (m : Walk) × (page : ℕ) × Led walk_machine (old.machine, old.cache) a (m, new.cache) (Ended page)
    × (new.work ≡ Idle old.home) × (new.shown ≡ Read m)
LedReading old a new (Ended (answer.Trouble k)) =
    (m : Walk) × Led walk_machine (old.machine, old.cache) a (m, new.cache) (Stopped k)
    × (new.work ≡ stopped_work k old.home) × (new.shown ≡ Nothing)
LedReading old a new turn = ⊥

-- a scan goes on by what its turn came to
pub record LedScanning (old : InHand Listing) (a : Reply) (new : Acting) (turn : Turn Answer) : Type 0 where
  pub scan : Scan
  pub moved : Turn ℕ
  pub led : Led scan_machine (old.machine.scan, old.cache) a (scan, new.cache) moved
  pub follows : Follows old.home (record { scan = scan; pairs = old.machine.pairs }) moved new turn

-- a look-up beside what its client has of its own
abbrev pub LedLook : Own → Look × Cache → Reply → Look × Cache → Turn (Unit {0}) → Type 0
LedLook own old a new turn = Took (LeadsBy (look_next own)) KeepsServed old a new turn

abbrev pub LedLooking : InHand Look → Reply → Acting → Turn Answer → Type 0
LedLooking old a new More =
    (m : Look) × LedLook (own_of old.home new.buffer) (old.machine, old.cache) a (m, new.cache) More
    × (new.work ≡ Looking old.home m) × (new.shown ≡ Nothing)
LedLooking old a new (Ended answer.Scan) =
    (m : Look) × LedLook (own_of old.home new.buffer) (old.machine, old.cache) a (m, new.cache) (Ended tt)
    × (new.work ≡ Idle old.home) × (new.shown ≡ Listed m.pairs)
LedLooking old a new (Ended (answer.Trouble k)) =
    (m : Look) × LedLook (own_of old.home new.buffer) (old.machine, old.cache) a (m, new.cache) (Stopped k)
    × (new.work ≡ stopped_work k old.home) × (new.shown ≡ Nothing)
LedLooking old a new turn = ⊥

abbrev pub LedPaging : Home × Page → Reply → Work → Turn Answer → Type 0
LedPaging (home, old) a work More = (m : Page) × Led paging_machine old a m More × (work ≡ Paging home m)
LedPaging (home, old) a work (Ended (answer.Done n)) = (m : Page) × Led paging_machine old a m (Ended n) × (work ≡ Idle home)
LedPaging (home, old) a work (Ended (answer.Trouble k)) = (m : Page) × Led paging_machine old a m (Stopped k) × (work ≡ stopped_work k home)
LedPaging (home, old) a work turn = ⊥

abbrev pub LedFolding : Home × Making → Reply → Work → Turn Answer → Type 0
LedFolding (home, old) a work More = (m : Making) × Led making_machine old a m More × (work ≡ Folding home m)
LedFolding (home, old) a work (Ended (answer.Done n)) = (m : Making) × Led making_machine old a m (Ended n) × (work ≡ Idle home)
LedFolding (home, old) a work (Ended (answer.Trouble k)) = (m : Making) × Led making_machine old a m (Stopped k) × (work ≡ stopped_work k home)
LedFolding (home, old) a work turn = ⊥

abbrev pub LedSettling : SettlingState → Reply → Work → Turn Answer → Type 0
LedSettling old a work More = (m : SettlingState) × Led settling_machine old a m More × (work ≡ Settling m)
LedSettling old a work (Ended (answer.Settled n)) = (m : SettlingState) × Led settling_machine old a m (Ended n) × (work ≡ Closed)
LedSettling old a work (Ended (answer.Trouble k)) = (m : SettlingState) × Led settling_machine old a m (Stopped k) × (work ≡ Closed)
LedSettling old a work turn = ⊥

abbrev pub LedSweeping : SweepingState → Reply → Work → Turn Answer → Type 0
LedSweeping old a work More = (m : SweepingState) × Led sweep_machine old a m More × (work ≡ Sweeping m)
LedSweeping old a work (Ended (answer.Swept x)) = (m : SweepingState) × Led sweep_machine old a m (Ended x) × (work ≡ Closed)
LedSweeping old a work (Ended (answer.Trouble k)) = (m : SweepingState) × Led sweep_machine old a m (Stopped k) × (work ≡ Closed)
LedSweeping old a work turn = ⊥

-- whatever the release answers, nothing is in hand any more
abbrev pub LedClosing : Reply → Work → Turn Answer → Type 0
LedClosing a work (Ended answer.Closed) = (done_of a ≡ Ok tt) × (work ≡ Closed)
LedClosing a work (Ended (answer.Trouble k)) = (done_of a ≡ Err k) × (work ≡ Closed)
LedClosing a work turn = ⊥

-- the home with another lease; what a failed renewal left of that is the cloud's to say
abbrev pub LedRenewing : Home → Reply → Work → Turn Answer → Type 0
LedRenewing home a work (Ended (answer.Renewed end)) = (l : Claim) × (renewed_of a ≡ Ok end) × (work ≡ Idle (record home { lease = l }))
LedRenewing home a work (Ended (answer.Trouble k)) = (l : Claim) × (renewed_of a ≡ Err k) × (work ≡ stopped_work k (record home { lease = l }))
LedRenewing home a work turn = ⊥

-- what is in hand, kept and shown then
abbrev pub LedTo : Work × Cache → Reply → Acting → Turn Answer → Type 0
LedTo (Opening m, c) a new turn = LedOpening m a new.work turn × (new.cache ≡ c) × (new.shown ≡ Nothing)
LedTo (Committing m, c) a new turn = LedCommit (m, c) a (new.work, new.cache) turn × (new.shown ≡ Nothing)
LedTo (Reading home m, c) a new turn = LedReading (in_hand home m c) a new turn
LedTo (Scanning home m, c) a new turn = LedScanning (in_hand home m c) a new turn
LedTo (Looking home m, c) a new turn = LedLooking (in_hand home m c) a new turn
LedTo (Paging home m, c) a new turn = LedPaging (home, m) a new.work turn × (new.cache ≡ c) × (new.shown ≡ Nothing)
LedTo (Folding home m, c) a new turn = LedFolding (home, m) a new.work turn × (new.cache ≡ c) × (new.shown ≡ Nothing)
LedTo (Closing lease, c) a new turn = LedClosing a new.work turn × (new.cache ≡ c) × (new.shown ≡ Nothing)
LedTo (Renewing home, c) a new turn = LedRenewing home a new.work turn × (new.cache ≡ c) × (new.shown ≡ Nothing)
LedTo (Settling m, c) a new turn = LedSettling m a new.work turn × (new.cache ≡ c) × (new.shown ≡ Nothing)
LedTo (Sweeping m, c) a new turn = LedSweeping m a new.work turn × (new.cache ≡ c) × (new.shown ≡ Nothing)
LedTo (Closed, c) a new turn = ⊥
LedTo (Idle home, c) a new turn = ⊥
LedTo (Broken lease, c) a new turn = ⊥

-- ---- a whole session

-- what was asked and answered, and what that came to
pub record Exchange : Type 0 where
  pub ask : Ask
  pub answer : Reply
  pub turn : Turn Answer

abbrev pub exchange_of : Ask → Reply → Turn Answer → Exchange
exchange_of ask answer turn = record { ask = ask; answer = answer; turn = turn }

-- A session made the call in hand, with sound bytes, and went on by its answer: a close drops what was noted, and a closed session keeps nothing of
-- the cloud.
pub record LedOn (x : Exchange) (old new : Acting) : Type 0 where
  pub hand : ask_of_work old.work ≡ Some x.ask
  pub sound : IsSoundWork old.work
  pub buffer : new.buffer ≡ noted_behind old.work old.buffer
  pub cache : Cache
  pub led : LedTo (old.work, old.cache) x.answer (record new { cache = cache }) x.turn
  pub kept : new.cache ≡ shown_behind new.work cache

-- ---- the call, in the history of a cloud

-- of a renewal: the leases in hand behind it are what the cloud left of the home's
abbrev pub RenewsHand : Deed → Work → List Claim → Type 0
RenewsHand d (Renewing home) leases =
    (l : Claim) → IsIn leases l → RenewsLease d.who client_ticks d.answer (leased home.lease d.before) (leased l d.after)
RenewsHand d work leases = Unit {0}

-- the call of a session's step is a row of the table, and so is what a renewal leaves of the lease
pub record IsRow (d : Deed) (old new : Work) : Type 0 where
  pub made : IsMade d
  pub renewed : RenewsHand d old (leases_of new)
