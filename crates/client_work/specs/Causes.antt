-- Why a step of a session came to what it came to: what the contract of the machine at work says of the one answer that the cloud gave, behind the
-- calls that led the machine to it. It holds whatever the cloud tells.
use Rattle.std.specs.Prelude.{ℕ, ◌≡◌, ◌≤◌, ◌⊎◌, List, length, Option, Result, Err}
use Rattle.db_base.specs.Limits.{client_ticks}
use Rattle.db_base.specs.declared.trouble.CommitAnswer.{CommitAnswer}
use Rattle.db_base.specs.declared.trouble.Trouble.{Trouble}
use Rattle.db_base.specs.declared.trouble.Trouble.TheVariants as trouble
use Rattle.txn_buffer.specs.Noted.{Noted}
use Rattle.cloud_trait.specs.declared.answer.Answer.{Answer as Heard}
use Rattle.cloud_trait.specs.declared.turn.CkptAnswer.{CkptAnswer}
use Rattle.cloud_trait.specs.declared.turn.Turn.{Turn}
use Rattle.cloud_trait.specs.declared.turn.Turn.TheVariants.{More, Ended, Stopped}
use Rattle.cloud_trait.specs.Ask.{Ask, Renew, Release}
use Rattle.cloud_trait.specs.Caller.{Caller}
use Rattle.cloud_trait.specs.Claim.{Claim}
use Rattle.cloud_trait.specs.Machine.{Deed, occasion_of}
use Rattle.cloud_trait.specs.Seen.{Seen}
use Rattle.cloud_trait.specs.Views.{done_of, renewed_of}
use Rattle.cloud_trait.specs.Weather.{Makes}
use Rattle.page_cache.specs.Cache.{Cache}
use Rattle.tree_walk.specs.Meaning.{LedBy, Walked, began_with}
use Rattle.tree_walk.specs.Served.{deed_of as walk_deed}
use Rattle.tree_walk.specs.Stepped.{Stepped as StepsWalk}
use Rattle.tree_walk.specs.Walk.{Walk}
use Rattle.tree_walk.specs.Within.{IsBegun}
use Rattle.range_scan.specs.Meaning.{Move, Scanned, range_of}
use Rattle.range_scan.specs.Scan.{Scan, scan_asks}
use Rattle.range_scan.specs.Stepped.{Meant, Stepped as StepsScan}
use Rattle.recover_run.specs.declared.home.Home.{Home}
use Rattle.recover_run.specs.declared.stage.Aim.TheVariants as aim
use Rattle.recover_run.specs.declared.stage.RecoverAnswer.{RecoverAnswer}
use Rattle.recover_run.specs.declared.stage.RecoverAnswer.TheVariants.{Opened}
use Rattle.recover_run.specs.Recovery.{Recovery, recovery_ask}
use Rattle.recover_run.specs.Leases.{Went as RecoveryWent}
use Rattle.recover_run.specs.Stepped.{course_of as recovery_course, Means as RecoveryMeans, Stepped as StepsRecovery}
use Rattle.commit_run.specs.Run.{Run, asks as run_asks}
use Rattle.commit_run.specs.Stepped.{course_of, Whole, Stepped as StepsRun}
use Rattle.commit_run.specs.Within.{Went as RunWent}
use Rattle.attr_index.specs.Look.{Own, Look}
use Rattle.attr_index.specs.Stepped.{Stepped as StepsLook}
use Rattle.page_ckpt.specs.Paging.{paging_ask, Paging as Page}
use Rattle.page_ckpt.specs.Leases.{Went as PageWent}
use Rattle.page_ckpt.specs.Stepped.{Means as PageMeans, Stepped as StepsPage}
use Rattle.tree_ckpt.specs.Making.{Making, making_ask}
use Rattle.tree_ckpt.specs.Leases.{Went as MakingWent}
use Rattle.tree_ckpt.specs.Stepped.{Means as MakingMeans, Stepped as StepsMaking}
use Rattle.settle_run.specs.declared.settled.Settled.{Settled}
use Rattle.settle_run.specs.Meaning.{Went as SettlingWent, Stepped as StepsSettling}
use Rattle.settle_run.specs.Parts.{PartWent}
use Rattle.settle_run.specs.Settling.{Settling as SettlingState}
use Rattle.orphan_sweep.specs.declared.swept.Swept.{Swept}
use Rattle.orphan_sweep.specs.Leases.{Went as SweepWent}
use Rattle.orphan_sweep.specs.Stepped.{Stepped as SweepStepped}
use Rattle.orphan_sweep.specs.Sweeping.{Sweeping as SweepingState}
use Rattle.client_work.specs.Settling.{IsUntold}
use Rattle.client_work.specs.declared.answer.Answer.{Answer}
use Rattle.client_work.specs.declared.answer.Answer.TheVariants as answer
use Rattle.client_work.specs.declared.work.Work.{Work}
use Rattle.client_work.specs.declared.work.Work.TheVariants.{Closed, Idle, Opening, Committing, Reading, Scanning, Looking, Paging, Folding, Closing, Renewing, Settling, Sweeping, Broken}

-- ---- what a session answers where its machine took such a step: where that stopped, its trouble

abbrev pub OpeningBy : (Recovery → Turn RecoverAnswer → Type 0) → Work → Turn Answer → Type 0
OpeningBy Step work More = (m : Recovery) × Step m More × (work ≡ Opening m)
OpeningBy Step work (Ended (answer.Opened epoch)) = (m : Recovery) × Step m (Ended (Opened epoch))
OpeningBy Step work (Ended (answer.Trouble t)) = (m : Recovery) × Step m (Stopped t)
OpeningBy Step work turn = ⊥

abbrev pub CommitBy : (Run → Turn CommitAnswer → Type 0) → Work → Turn Answer → Type 0
CommitBy Step work More = (m : Run) × Step m More × (work ≡ Committing m)
CommitBy Step work (Ended (answer.Commit a)) = (m : Run) × Step m (Ended a)
CommitBy Step work (Ended (answer.Trouble t)) = (m : Run) × Step m (Stopped t)
CommitBy Step work turn = ⊥

abbrev pub ReadingBy : Home → (Walk → Turn ℕ → Type 0) → Work → Turn Answer → Type 0
ReadingBy home Step work More = (m : Walk) × Step m More × (work ≡ Reading home m)
ReadingBy home Step work (Ended answer.Value) = (m : Walk) × (page : ℕ) × Step m (Ended page)
ReadingBy home Step work (Ended (answer.Trouble t)) = (m : Walk) × Step m (Stopped t)
ReadingBy home Step work turn = ⊥

-- at the end of a leaf a scan goes on, is over, or found no memory to list it
abbrev pub ScanAnswers : Turn ℕ → Turn Answer → Type 0
ScanAnswers More turn = turn ≡ More
ScanAnswers (Ended page) turn = (turn ≡ More) ⊎ ((turn ≡ Ended answer.Scan) ⊎ (turn ≡ Ended (answer.Trouble trouble.Memory)))
ScanAnswers (Stopped t) turn = turn ≡ Ended (answer.Trouble t)

abbrev pub ScanningBy : (Scan → Turn ℕ → Type 0) → Turn Answer → Type 0
ScanningBy Step turn = (s : Scan) × (moved : Turn ℕ) × Step s moved × ScanAnswers moved turn

-- at its end a look-up shows what it found
abbrev pub LookingBy : Home → (Look → Turn (Unit {0}) → Type 0) → Work → Turn Answer → Type 0
LookingBy home Step work More = (m : Look) × Step m More × (work ≡ Looking home m)
LookingBy home Step work (Ended answer.Scan) = (m : Look) × Step m (Ended tt)
LookingBy home Step work (Ended (answer.Trouble t)) = (m : Look) × Step m (Stopped t)
LookingBy home Step work turn = ⊥

abbrev pub PagingBy : Home → (Page → Turn CkptAnswer → Type 0) → Work → Turn Answer → Type 0
PagingBy home Step work More = (m : Page) × Step m More × (work ≡ Paging home m)
PagingBy home Step work (Ended (answer.Done a)) = (m : Page) × Step m (Ended a)
PagingBy home Step work (Ended (answer.Trouble t)) = (m : Page) × Step m (Stopped t)
PagingBy home Step work turn = ⊥

abbrev pub FoldingBy : Home → (Making → Turn CkptAnswer → Type 0) → Work → Turn Answer → Type 0
FoldingBy home Step work More = (m : Making) × Step m More × (work ≡ Folding home m)
FoldingBy home Step work (Ended (answer.Done a)) = (m : Making) × Step m (Ended a)
FoldingBy home Step work (Ended (answer.Trouble t)) = (m : Making) × Step m (Stopped t)
FoldingBy home Step work turn = ⊥

abbrev pub SettlingBy : (SettlingState → Turn Settled → Type 0) → Work → Turn Answer → Type 0
SettlingBy Step work More = (m : SettlingState) × Step m More × (work ≡ Settling m)
SettlingBy Step work (Ended (answer.Settled a)) = (m : SettlingState) × Step m (Ended a)
SettlingBy Step work (Ended (answer.Trouble t)) = (m : SettlingState) × Step m (Stopped t)
SettlingBy Step work turn = ⊥

abbrev pub SweepingBy : (SweepingState → Turn Swept → Type 0) → Work → Turn Answer → Type 0
SweepingBy Step work More = (m : SweepingState) × Step m More × (work ≡ Sweeping m)
SweepingBy Step work (Ended (answer.Swept x)) = (m : SweepingState) × Step m (Ended x)
SweepingBy Step work (Ended (answer.Trouble t)) = (m : SweepingState) × Step m (Stopped t)
SweepingBy Step work turn = ⊥

-- ---- what the machine at work did, by its own contract

-- an opening, a commit and the two checkpoints took a step with all that their contracts say of its one answer; of the others what they show, or
-- their step, says it
abbrev pub MachineSteps : Caller → Seen → Seen → Work × Cache → Work × Cache → Turn Answer → Type 0
MachineSteps who before after (Opening m, c) (work, d) turn = OpeningBy (StepsRecovery who before after m) work turn
MachineSteps who before after (Committing m, c) (work, d) turn = CommitBy (λ n. StepsRun who before after (m, c) (n, d)) work turn
MachineSteps who before after (Paging home m, c) (work, d) turn = PagingBy home (StepsPage who before after m) work turn
MachineSteps who before after (Folding home m, c) (work, d) turn = FoldingBy home (StepsMaking who before after m) work turn
MachineSteps who before after (old, c) (work, d) turn = Unit {0}

-- ---- what led the machine here

-- the machine at work came from its begin by some calls, the newest first; of a scan the leaves say it that it listed
abbrev pub HasCome : Work → Cache → Type 0
HasCome (Opening m) c = (client : ℕ) × (former : Option Claim) × (h : List Deed) × RecoveryWent client aim.Opening former h m × IsUntold h
HasCome (Committing m) c = (home : Home) × (changes : List Noted) × (first : Cache) × (h : List Deed) × (1 ≤ length changes) × RunWent home changes first h (m, c) × IsUntold h
HasCome (Reading home m) c = (start : Walk × Cache) × (h : List Deed) × IsBegun start × Walked start h (m, c)
HasCome (Looking home m) c = (start : Walk × Cache) × (h : List Deed) × IsBegun start × Walked start h (m.walk, c)
HasCome (Paging home m) c = (h : List Deed) × PageWent h m × IsUntold h
HasCome (Folding home m) c = (h : List Deed) × MakingWent h m × IsUntold h
HasCome (Settling m) c = (h : List Deed) × SettlingWent h m × IsUntold h
HasCome (Sweeping m) c = (h : List Deed) × SweepWent h m × IsUntold h
HasCome work c = Unit {0}

-- ---- why a step came to this

-- a call as it was made and answered
abbrev pub deed_by : Caller → Ask → Heard → Seen → Seen → Deed
deed_by who ask heard before after = record { who = who; ask = ask; answer = heard; before = before; after = after }

-- of an opening: each trouble that it keeps or answers its calls showed up to this one, and wherever they show one it stops with that
pub record OpeningCauses (who : Caller) (before after : Seen) (old new : Recovery) (turn : Turn RecoverAnswer) : Type 0 where
  pub client : ℕ
  pub former : Option Claim
  pub earlier : List Deed
  pub went : RecoveryWent client aim.Opening former earlier old
  pub stepped : StepsRecovery who before after old new turn
  pub means : RecoveryMeans (recovery_course client aim.Opening former earlier) (deed_by who (recovery_ask old) stepped.did.answer before after) old new turn

-- of a commit: with what it did not commit its answer shows, and what else it answers its calls mean
pub record CommitCauses (who : Caller) (before after : Seen) (old new : Run × Cache) (turn : Turn CommitAnswer) : Type 0 where
  pub home : Home
  pub changes : List Noted
  pub first : Cache
  pub earlier : List Deed
  pub some : 1 ≤ length changes
  pub went : RunWent home changes first earlier old
  pub stepped : StepsRun who before after old new turn
  pub whole : Whole (course_of home changes first earlier) (deed_by who (run_asks old) stepped.answer before after) old new turn

-- of a read: its trouble this answer shows, or what the cache keeps with it; and what led to the page in hand one of its calls got, or it was there
-- when the read began
pub record ReadingCauses (who : Caller) (before after : Seen) (old new : Walk × Cache) (turn : Turn ℕ) : Type 0 where
  pub start : Walk × Cache
  pub earlier : List Deed
  pub begun : IsBegun start
  pub walked : Walked start earlier old
  pub stepped : StepsWalk who before after old new turn
  pub led : LedBy (began_with start begun) earlier (walk_deed who old stepped.answer before after) old stepped.answer

-- of a scan: the same of its walk, and of each right page by the leaf that led there
pub record ScanningCauses (who : Caller) (before after : Seen) (old new : Scan × Cache) (turn : Turn ℕ) : Type 0 where
  pub moves : List Move
  pub came : Scanned (range_of old.0) moves old
  pub stepped : StepsScan who before after old new turn
  pub meant : Meant (range_of old.0) moves (deed_by who (scan_asks old) stepped.answer before after) old new turn

-- of a look-up: as of a read, by the calls of the walk in hand; or the next walk meets a trouble in what the cache keeps
pub record LookingCauses (who : Caller) (before after : Seen) (old new : Look × Cache) (turn : Turn (Unit {0})) : Type 0 where
  pub start : Walk × Cache
  pub earlier : List Deed
  pub begun : IsBegun start
  pub walked : Walked start earlier (old.0.walk, old.1)
  pub own : Own
  pub stepped : StepsLook own (occasion_of who before after) old new turn
  pub led : LedBy (began_with start begun) earlier (walk_deed who (old.0.walk, old.1) stepped.walked.answer before after) (old.0.walk, old.1) stepped.walked.answer

-- of a page checkpoint: as of an opening
pub record PagingCauses (who : Caller) (before after : Seen) (old new : Page) (turn : Turn CkptAnswer) : Type 0 where
  pub earlier : List Deed
  pub went : PageWent earlier old
  pub stepped : StepsPage who before after old new turn
  pub means : PageMeans (deed_by who (paging_ask old) stepped.did.answer before after) earlier old new turn

-- of a tree checkpoint: as of an opening
pub record FoldingCauses (who : Caller) (before after : Seen) (old new : Making) (turn : Turn CkptAnswer) : Type 0 where
  pub earlier : List Deed
  pub went : MakingWent earlier old
  pub stepped : StepsMaking who before after old new turn
  pub means : MakingMeans (deed_by who (making_ask old) stepped.did.answer before after) earlier old new turn

-- of a settling: the part at work stopped, behind its own calls and with the causes of its machine, or deletions failed, or its way goes round
pub record SettlingCauses (who : Caller) (before after : Seen) (old new : SettlingState) (turn : Turn Settled) : Type 0 where
  pub earlier : List Deed
  pub went : SettlingWent earlier old
  pub own : List Deed
  pub part_went : PartWent own old.part
  pub stepped : StepsSettling who before after old new turn

-- of a sweep: its step, which tells what its answer came to behind these calls
pub record SweepingCauses (who : Caller) (before after : Seen) (old new : SweepingState) (turn : Turn Swept) : Type 0 where
  pub earlier : List Deed
  pub went : SweepWent earlier old
  pub stepped : SweepStepped who before after old new turn

-- of a close or a renewal: its trouble is what its one call answered
pub record CallCauses {X : Type 0} (ask : Ask) (told : Heard → Result X Trouble) (who : Caller) (before after : Seen) (turn : Turn Answer) : Type 0 where
  pub heard : Heard
  pub made : Makes who ask heard before after
  pub shows : (t : Trouble) → turn ≡ Ended (answer.Trouble t) → told heard ≡ Err t

-- of what is at work
abbrev pub CausesAt : Caller → Seen → Seen → Work × Cache → Work × Cache → Turn Answer → Type 0
CausesAt who before after (Opening m, c) (work, d) turn = OpeningBy (OpeningCauses who before after m) work turn
CausesAt who before after (Committing m, c) (work, d) turn = CommitBy (λ n. CommitCauses who before after (m, c) (n, d)) work turn
CausesAt who before after (Reading home m, c) (work, d) turn = ReadingBy home (λ n. ReadingCauses who before after (m, c) (n, d)) work turn
CausesAt who before after (Scanning home m, c) (work, d) turn = ScanningBy (λ n. ScanningCauses who before after (m.scan, c) (n, d)) turn
CausesAt who before after (Looking home m, c) (work, d) turn = LookingBy home (λ n. LookingCauses who before after (m, c) (n, d)) work turn
CausesAt who before after (Paging home m, c) (work, d) turn = PagingBy home (PagingCauses who before after m) work turn
CausesAt who before after (Folding home m, c) (work, d) turn = FoldingBy home (FoldingCauses who before after m) work turn
CausesAt who before after (Closing lease, c) (work, d) turn = CallCauses (Release lease) done_of who before after turn
CausesAt who before after (Renewing home, c) (work, d) turn = CallCauses (Renew home.lease client_ticks) renewed_of who before after turn
CausesAt who before after (Settling m, c) (work, d) turn = SettlingBy (SettlingCauses who before after m) work turn
CausesAt who before after (Sweeping m, c) (work, d) turn = SweepingBy (SweepingCauses who before after m) work turn
CausesAt who before after (Closed, c) (work, d) turn = ⊥
CausesAt who before after (Idle home, c) (work, d) turn = ⊥
CausesAt who before after (Broken lease, c) (work, d) turn = ⊥
