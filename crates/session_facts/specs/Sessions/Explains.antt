-- Why an operation meets a trouble: the call that brought it shows it, by what the cloud tells before and behind it.
use Rattle.std.specs.Prelude.{ℕ, ◌≡◌, ◌≢◌, ◌≤◌, ◌⊎◌, List, Option, Some, None, Result, Ok, Err}
use Rattle.cloud_trait.specs.Calm.{NamesLasting, TakesFree}
use Rattle.client_work.specs.declared.answer.Answer.{Answer}
use Rattle.client_work.specs.declared.answer.Answer.TheVariants as answer
use Rattle.client_work.specs.declared.work.Work.{Work}
use Rattle.client_work.specs.declared.work.Work.TheVariants.{Closed, Idle, Opening, Committing, Reading, Scanning, Looking, Folding, Paging, Closing, Renewing, Settling, Sweeping, Broken}
use Rattle.cloud_facts.specs.Words.{Trouble, CommitAnswer, Turn, More, Ended, Stopped, CloudState, Claim, Ask, Receive, Next, Goes, Ends, Stops, IsIn}
use Rattle.cloud_trait.specs.declared.turn.CkptAnswer.{CkptAnswer}
use Rattle.cloud_trait.specs.Claim.{IsOver}
use Rattle.cloud_trait.specs.State.{Counts}
use Rattle.cloud_trait.specs.Weather.{Rose}
use Rattle.db_base.specs.declared.names.QueueName.TheVariants as queue
use Rattle.db_base.specs.declared.trouble.Counter.{Counter}
use Rattle.db_base.specs.declared.trouble.CommitAnswer.TheVariants.{Committed, NotCommitted, InDoubt, CommittedOpen}
use Rattle.db_base.specs.declared.trouble.Trouble.TheVariants as trouble
use Rattle.recover_run.specs.Recovery.{Recovery}
use Rattle.recover_run.specs.declared.stage.RecoverAnswer.{RecoverAnswer}
use Rattle.recover_run.specs.declared.stage.Stage.{Stage}
use Rattle.recover_run.specs.declared.stage.Stage.TheVariants as stage
use Rattle.session_facts.specs.Sessions.Knows.{leases_of}
use Rattle.session_facts.specs.Sessions.Spent.{IsSpentToOpen, IsSpentToCommit, IsSpentInPages, IsSpentInTree, IsSpentToSettle}
use Rattle.settle_run.specs.declared.part.Part.{Part}
use Rattle.settle_run.specs.declared.part.Part.TheVariants.{Client, Tree, Page}
use Rattle.tree_ckpt.specs.Making.{Making}
use Rattle.tree_ckpt.specs.declared.work.Held.{Held}
use Rattle.tree_ckpt.specs.declared.work.Work.{Work as TreeWork}
use Rattle.tree_ckpt.specs.declared.work.Work.TheVariants.{TakingTree, GettingTree, Receiving, Descending, TakingPage, Folding as FoldingLeaf, ReleasingPage, LeftPage, Rising, Deleting, Releasing, Finished}

-- ---- the trouble that an operation answers once its leases are given back

abbrev pub trouble_of_ending : {A : Type 0} → Option (Result A Trouble) → Option Trouble
trouble_of_ending None = None
trouble_of_ending (Some (Ok a)) = None
trouble_of_ending (Some (Err t)) = Some t

-- a recovery has one while its lease is given back
abbrev pub trouble_at : Stage → Option (Result RecoverAnswer Trouble) → Option Trouble
trouble_at stage.Releasing ending = trouble_of_ending ending
trouble_at st ending = None

abbrev pub trouble_of_recovery : Recovery → Option Trouble
trouble_of_recovery r = trouble_at r.stage r.ending

abbrev pub ending_of : TreeWork → Option (Result CkptAnswer Trouble)
ending_of TakingTree = None
ending_of (GettingTree l) = None
ending_of (Receiving l root) = None
ending_of (Descending h d) = None
ending_of (TakingPage h c) = None
ending_of (FoldingLeaf h f) = None
ending_of (ReleasingPage h l o) = None
ending_of (LeftPage h o) = None
ending_of (Rising h r) = None
ending_of (Deleting h applied) = None
ending_of (Releasing held end) = Some end
ending_of Finished = None

abbrev pub trouble_of_making : Making → Option Trouble
trouble_of_making m = trouble_of_ending (ending_of m.work)

abbrev pub trouble_of_part : Part → Option Trouble
trouble_of_part (Client client m) = trouble_of_recovery m
trouble_of_part (Tree tree m) = trouble_of_making m
trouble_of_part (Page tree page m) = m.trouble

abbrev pub trouble_in : Work → Option Trouble
trouble_in Closed = None
trouble_in (Idle home) = None
trouble_in (Opening r) = trouble_of_recovery r
trouble_in (Committing r) = None
trouble_in (Reading home m) = None
trouble_in (Scanning home m) = None
trouble_in (Looking home m) = None
trouble_in (Folding home m) = trouble_of_making m
trouble_in (Paging home p) = p.trouble
trouble_in (Closing l) = None
trouble_in (Renewing home) = None
trouble_in (Settling m) = trouble_of_part m.part
trouble_in (Sweeping m) = m.trouble
trouble_in (Broken l) = None

-- ---- how many deletions of a checkpoint failed

abbrev pub left_in_held : Held → ℕ
left_in_held h = h.deletions.left

abbrev pub left_of_ending : Result CkptAnswer Trouble → ℕ
left_of_ending (Ok a) = a.left
left_of_ending (Err t) = 0

abbrev pub left_in_tree : TreeWork → ℕ
left_in_tree TakingTree = 0
left_in_tree (GettingTree l) = 0
left_in_tree (Receiving l root) = 0
left_in_tree (Descending h d) = left_in_held h
left_in_tree (TakingPage h c) = left_in_held h
left_in_tree (FoldingLeaf h f) = left_in_held h
left_in_tree (ReleasingPage h l o) = left_in_held h
left_in_tree (LeftPage h o) = left_in_held h
left_in_tree (Rising h r) = left_in_held h
left_in_tree (Deleting h applied) = left_in_held h
left_in_tree (Releasing held end) = left_of_ending end
left_in_tree Finished = 0

abbrev pub left_of_part : Part → ℕ
left_of_part (Client client m) = 0
left_of_part (Tree tree m) = left_in_tree m.work
left_of_part (Page tree page m) = m.deletions.left

abbrev pub left_in : Work → ℕ
left_in Closed = 0
left_in (Idle home) = 0
left_in (Opening r) = 0
left_in (Committing r) = 0
left_in (Reading home m) = 0
left_in (Scanning home m) = 0
left_in (Looking home m) = 0
left_in (Folding home m) = left_in_tree m.work
left_in (Paging home p) = p.deletions.left
left_in (Closing l) = 0
left_in (Renewing home) = 0
left_in (Settling m) = left_of_part m.part
left_in (Sweeping m) = 0
left_in (Broken l) = 0

-- ---- what a step brings

-- the trouble of an answer; a commit in doubt is one whose call failed
abbrev pub trouble_of_commit : CommitAnswer → Option Trouble
trouble_of_commit (Committed txn) = None
trouble_of_commit (NotCommitted t) = Some t
trouble_of_commit InDoubt = Some trouble.Failed
trouble_of_commit (CommittedOpen t) = Some t

abbrev pub trouble_of_answer : Answer → Option Trouble
trouble_of_answer (answer.Opened epoch) = None
trouble_of_answer answer.Closed = None
trouble_of_answer (answer.Renewed end) = None
trouble_of_answer (answer.Done n) = None
trouble_of_answer (answer.Commit c) = trouble_of_commit c
trouble_of_answer answer.Value = None
trouble_of_answer answer.Scan = None
trouble_of_answer (answer.Settled n) = None
trouble_of_answer (answer.Swept x) = None
trouble_of_answer (answer.Trouble t) = Some t

abbrev pub trouble_of_turn : Turn Answer → Option Trouble
trouble_of_turn More = None
trouble_of_turn (Ended a) = trouble_of_answer a
trouble_of_turn (Stopped t) = Some t

-- a machine keeps a trouble behind a step, or stops with it
abbrev pub MeetsNext : {M A : Type 0} → (M → Option Trouble) → Next M A → Trouble → Type 0
MeetsNext kept (Goes n) t = kept n ≡ Some t
MeetsNext kept (Ends n a) t = ⊥
MeetsNext kept (Stops n q) t = q ≡ t

-- an operation does
abbrev pub Meets : Work → Turn Answer → Trouble → Type 0
Meets new turn t = (trouble_in new ≡ Some t) ⊎ (trouble_of_turn turn ≡ Some t)

-- ---- what shows it

-- of these leases one is over
abbrev pub HasOver : List Claim → ℕ → Type 0
HasOver held now = (l : Claim) × IsIn held l × IsOver now l

-- the call receives from the queue of a client when one of these leases is over
abbrev pub ReceivesLate : Ask → List Claim → ℕ → Type 0
ReceivesLate (Receive (queue.Atomic client) most) held now = HasOver held now
ReceivesLate ask held now = ⊥

-- what is told where an operation finds a counter spent, by what is at work
abbrev pub spent_for : Work → CloudState → Counter → Type 0
spent_for (Opening r) = IsSpentToOpen
spent_for (Committing r) = IsSpentToCommit
spent_for (Folding home m) = IsSpentInTree m.tree
spent_for (Paging home p) = IsSpentInPages p.tree
spent_for (Settling m) = IsSpentToSettle
spent_for (Sweeping m) = λ t what. ⊥
spent_for (Reading home m) = λ t what. ⊥
spent_for (Scanning home m) = λ t what. ⊥
spent_for (Looking home m) = λ t what. ⊥
spent_for (Closing l) = λ t what. ⊥
spent_for (Renewing home) = λ t what. ⊥
spent_for Closed = λ t what. ⊥
spent_for (Idle home) = λ t what. ⊥
spent_for (Broken l) = λ t what. ⊥

-- A call shows a trouble, by the counts and the states before and behind it: a failure by the count of faults; a late call by a lease that
-- it names and that is over; a held lock by the lock, or by the count of what was withheld; records that were not received by that count, or by
-- a receive from a client's queue when a lease in hand is over; a stale read by the count of stale reads; a spent counter by what the cloud tells behind
-- it. A page that a line named is not the call's.
abbrev pub IsShown : Ask → List Claim → (CloudState → Counter → Type 0) → Counts × CloudState → Counts × CloudState → Trouble → Type 0
IsShown ask held Spent (c, s) (d, t) trouble.Failed = Rose c.faults d.faults
IsShown ask held Spent (c, s) (d, t) (trouble.Late end now) = NamesLasting ask t.now → ⊥
IsShown ask held Spent (c, s) (d, t) (trouble.Busy lock until) = (TakesFree ask s t.now → ⊥) ⊎ Rose c.withheld d.withheld
IsShown ask held Spent (c, s) (d, t) (trouble.Waiting have need) = Rose c.withheld d.withheld ⊎ ReceivesLate ask held t.now
IsShown ask held Spent (c, s) (d, t) (trouble.Stale page least got) = Rose c.stale d.stale
IsShown ask held Spent (c, s) (d, t) trouble.Memory = Unit {0}
IsShown ask held Spent (c, s) (d, t) (trouble.Exhausted what) = Spent t what
IsShown ask held Spent (c, s) (d, t) (trouble.Absent page) = Unit {0}
IsShown ask held Spent (c, s) (d, t) (trouble.NotALeaf page) = Unit {0}
IsShown ask held Spent (c, s) (d, t) (trouble.Damaged place offset) = Unit {0}
IsShown ask held Spent (c, s) (d, t) (trouble.BadFence page expected found) = Unit {0}
IsShown ask held Spent (c, s) (d, t) (trouble.Loop page) = Unit {0}

-- a trouble that was met is kept, and then it is the answer; or memory ran out
abbrev pub KeepsTrouble : Work → Turn Answer → Trouble → Type 0
KeepsTrouble new More t = trouble_in new ≡ Some t
KeepsTrouble new (Ended a) t = (trouble_of_answer a ≡ Some t) ⊎ (trouble_of_answer a ≡ Some trouble.Memory)
KeepsTrouble new (Stopped q) t = (q ≡ t) ⊎ (q ≡ trouble.Memory)

-- how many deletions failed, as an answer tells it
abbrev pub left_told : Work → Turn Answer → ℕ
left_told new More = left_in new
left_told new (Ended (answer.Done n)) = n.left
left_told new (Ended a) = 0
left_told new (Stopped q) = 0

-- what a step of an operation brings: a trouble that it meets is shown by its call, want of memory and deletions that failed before apart; a
-- trouble that it met before is its answer; and no more deletions failed than before, unless a call failed
pub record Explains (ask : Ask) (before after : Counts × CloudState) (old new : Work) (turn : Turn Answer) : Type 0 where
  pub shown : trouble_in old ≡ None → left_in old ≡ 0 → (k : Trouble) → k ≢ trouble.Memory → Meets new turn k → IsShown ask (leases_of old) (spent_for old) before after k
  pub kept : (k : Trouble) → trouble_in old ≡ Some k → KeepsTrouble new turn k
  pub left : (left_told new turn ≤ left_in old) ⊎ Rose before.0.faults after.0.faults
