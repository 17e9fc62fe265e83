-- How a session stands.
use Rattle.std.specs.Prelude.{ℕ, ◌≡◌, ◌≢◌, ◌≤◌, ◌<◌, ◌⊎◌, ◌^◌, ◌++◌, Bool, true, false, List, [], length, map, Option, Some, None, Result, Ok, Err}
use Rattle.db_base.specs.Limits.{longest_key, most_changes, client_ticks, last_indexed}
use Rattle.db_base.specs.declared.refusal.Refusal.{Refusal}
use Rattle.db_base.specs.declared.refusal.Refusal.TheVariants as rule
use Rattle.head_codec.specs.declared.head.Head.{Head}
use Rattle.db_base.specs.Change.{key_of}
use Rattle.db_base.specs.Entry.{entry_bytes}
use Rattle.db_base.specs.declared.pair.Pair.{Pair}
use Rattle.db_base.specs.Value.{Value}
use Rattle.db_base.specs.declared.change.Change.{Change}
use Rattle.txn_buffer.specs.Noted.{Noted, found_in, noted_in, put_in}
use Rattle.db_base.specs.declared.refusal.Refused.{Refused}
use Rattle.db_base.specs.declared.refusal.Refused.TheVariants as refused
use Rattle.db_base.specs.declared.trouble.Trouble.{Trouble}
use Rattle.db_base.specs.declared.trouble.Trouble.TheVariants as trouble
use Rattle.db_base.specs.declared.trouble.CommitAnswer.{CommitAnswer}
use Rattle.db_base.specs.declared.trouble.CommitAnswer.TheVariants.{Committed, NotCommitted, InDoubt, CommittedOpen}
use Rattle.log_codec.specs.declared.record.PuItem.{PuItem}
use Rattle.cloud_trait.specs.declared.answer.Answer.{Answer as Heard}
use Rattle.cloud_trait.specs.declared.turn.Turn.{Turn}
use Rattle.cloud_trait.specs.declared.turn.Turn.TheVariants.{More, Ended, Stopped}
use Rattle.cloud_trait.specs.Ask.{Ask, Renew, Release}
use Rattle.cloud_trait.specs.Caller.{Caller}
use Rattle.cloud_trait.specs.Claim.{Claim}
use Rattle.cloud_trait.specs.Machine.{Goes, Ends, Stops, Steps, occasion_of}
use Rattle.cloud_trait.specs.Seen.{Seen}
use Rattle.cloud_trait.specs.Views.{done_of, renewed_of}
use Rattle.cloud_trait.specs.Weather.{leased, Makes, RenewsLease}
use Rattle.recover_run.specs.declared.home.Home.{Home}
use Rattle.recover_run.specs.declared.stage.Aim.TheVariants as aim
use Rattle.recover_run.specs.declared.stage.RecoverAnswer.TheVariants.{Opened}
use Rattle.recover_run.specs.End.{calls_left as recovery_left}
use Rattle.recover_run.specs.Recovery.{Recovery, new_recovery, recovery_ask, home_of, IsSound as IsSoundOpening, recovery_machine}
use Rattle.leaf_view.specs.Leaf.{Entry}
use Rattle.page_cache.specs.Cache.{Cache, empty_cache}
use Rattle.page_cache.specs.Held.{leaf_at}
use Rattle.tree_walk.specs.Moves.{Moves}
use Rattle.tree_walk.specs.Stepped.{Stepped as StepsWalk}
use Rattle.tree_walk.specs.Walk.{Walk, new_walk, walk_ask, walk_ready, calls_left as reading_left, IsAtLeaf}
use Rattle.commit_run.specs.End.{calls_left as commit_left}
use Rattle.commit_run.specs.Run.{Run, new_run, home_of as home_of_run, run_ask, run_ready, run_opens, run_machine}
use Rattle.commit_run.specs.Sound.{IsSoundRun}
use Rattle.record_read.specs.Read.{read_value}
use Rattle.range_scan.specs.End.{calls_left as scanning_left}
use Rattle.range_scan.specs.Pairs.{AreItemsIn}
use Rattle.range_scan.specs.Scan.{Scan, new_scan, scan_object, scan_ask, scan_ready, goes_on, moved_on}
use Rattle.range_scan.specs.Stepped.{Stepped as StepsScan}
use Rattle.attr_index.specs.End.{calls_left as looking_left}
use Rattle.attr_index.specs.Look.{Query, Look, look_ask, look_ready}
use Rattle.attr_index.specs.Stepped.{Stepped as StepsLook}
use Rattle.page_ckpt.specs.End.{calls_left as paging_left}
use Rattle.page_ckpt.specs.Paging.{new_paging, paging_ask, Paging as Page, paging_machine}
use Rattle.tree_ckpt.specs.Work.{applying_in}
use Rattle.tree_ckpt.specs.End.{calls_in}
use Rattle.tree_ckpt.specs.Making.{Making, new_making, making_ask, making_machine}
use Rattle.settle_run.specs.End.{calls_left as settling_left}
use Rattle.settle_run.specs.Meaning.{Stepped as SettlingStepped}
use Rattle.settle_run.specs.Parts.{part_applying, IsSoundPart}
use Rattle.settle_run.specs.Settling.{Settling as SettlingState, new_settling, settle_ask}
use Rattle.orphan_sweep.specs.End.{calls_left as sweeping_left}
use Rattle.orphan_sweep.specs.Stepped.{Stepped as SweepStepped}
use Rattle.orphan_sweep.specs.Sweeping.{Sweeping as SweepingState, new_sweeping, sweep_ask}
use Rattle.client_work.specs.declared.listing.Listing.{Listing}
use Rattle.client_work.specs.declared.shown.Shown.{Shown}
use Rattle.client_work.specs.declared.shown.Shown.TheVariants.{Nothing, Read, Listed}
use Rattle.client_work.specs.declared.answer.Answer.{Answer}
use Rattle.client_work.specs.declared.answer.Answer.TheVariants as answer
use Rattle.client_work.specs.declared.answer.Begun.{Begun}
use Rattle.client_work.specs.declared.answer.Begun.TheVariants.{Working, Answered}
use Rattle.client_work.specs.declared.op.Op.{Op}
use Rattle.client_work.specs.declared.op.Op.TheVariants as op
use Rattle.client_work.specs.declared.work.Work.{Work}
use Rattle.client_work.specs.declared.work.Work.TheVariants.{Closed, Idle, Opening, Committing, Reading, Scanning, Looking, Paging, Folding, Closing, Renewing, Settling, Sweeping, Broken}
use Rattle.client_work.specs.Causes.{CausesAt}
pub use Rattle.client_work.specs.InHand.{InHand, in_hand}
use Rattle.client_work.specs.Shows.{pair_of, own_of, ShowsValue, ShowsRecords, ShowsFound}

-- a session: the changes that it noted, what it has in hand, what it keeps of the cloud, and what its newest operation shows beside its
-- answer
pub record Acting : Type 0 where
  pub buffer : List Noted
  pub work : Work
  pub cache : Cache
  pub shown : Shown

abbrev pub acting_of : List Noted → Work → Cache → Shown → Acting
acting_of buffer work cache shown = record { buffer = buffer; work = work; cache = cache; shown = shown }

abbrev pub closed_session : Acting
closed_session = record { buffer = []; work = Closed; cache = empty_cache; shown = Nothing }

-- a session that stands for no client and settles, before its first call
abbrev pub settling_session : Acting
settling_session = record closed_session { work = Settling new_settling }

-- .. and that sweeps a tree
abbrev pub sweeping_session : ℕ → Acting
sweeping_session tree = record closed_session { work = Sweeping (new_sweeping tree) }

-- the rule that refuses an operation of an open client, where one does
abbrev pub rule_of : Work → Option Refusal
rule_of Closed = Some rule.NotOpen
rule_of (Idle home) = None
rule_of (Opening m) = Some rule.AtWork
rule_of (Committing m) = Some rule.AtWork
rule_of (Reading home m) = Some rule.AtWork
rule_of (Scanning home m) = Some rule.AtWork
rule_of (Looking home m) = Some rule.AtWork
rule_of (Paging home m) = Some rule.AtWork
rule_of (Folding home m) = Some rule.AtWork
rule_of (Closing lease) = Some rule.AtWork
rule_of (Renewing home) = Some rule.AtWork
rule_of (Settling m) = Some rule.AtWork
rule_of (Sweeping m) = Some rule.AtWork
rule_of (Broken lease) = Some rule.Broken

-- the client of an open session with nothing at work; or the rule that refuses an operation of it
abbrev pub open_client : Work → Result ℕ Refusal
open_client (Idle home) = Ok home.client
open_client Closed = Err rule.NotOpen
open_client (Opening m) = Err rule.AtWork
open_client (Committing m) = Err rule.AtWork
open_client (Reading home m) = Err rule.AtWork
open_client (Scanning home m) = Err rule.AtWork
open_client (Looking home m) = Err rule.AtWork
open_client (Paging home m) = Err rule.AtWork
open_client (Folding home m) = Err rule.AtWork
open_client (Closing lease) = Err rule.AtWork
open_client (Renewing home) = Err rule.AtWork
open_client (Settling m) = Err rule.AtWork
open_client (Sweeping m) = Err rule.AtWork
open_client (Broken lease) = Err rule.Broken

-- ---- what is noted

-- an open client with nothing at work has noted a change, and nothing else of the session changed
abbrev pub HasNoted : ℕ → Change → Acting → Acting → Type 0
HasNoted tree change old new = (new ≡ record old { buffer = noted_in old.buffer tree change }) × (rule_of old.work ≡ None)

-- .. has noted the insert of a record with an attribute, and that of its entry into the index of its tree
abbrev pub HasPut : ℕ → List ℕ → List ℕ → List ℕ → Acting → Acting → Type 0
HasPut tree key payload attr old new = (new ≡ record old { buffer = put_in old.buffer tree key payload attr }) × (rule_of old.work ≡ None)

-- .. has dropped what was noted
abbrev pub HasDropped : Acting → Acting → Type 0
HasDropped old new = (new ≡ record old { buffer = [] }) × (rule_of old.work ≡ None)

-- ---- what is refused

-- why a change is not noted: the rule of what is in hand, or one change too many of an open client; or want of memory
abbrev pub NoteRefused : Acting → ℕ → Change → Refused → Type 0
NoteRefused s tree change (refused.Rule r) =
    (rule_of s.work ≡ Some r)
    ⊎ ((rule_of s.work ≡ None) × (r ≡ rule.TooManyChanges) × (found_in s.buffer tree (key_of change) ≡ None) × (most_changes ≤ length s.buffer))
NoteRefused s tree change refused.Memory = Unit {0}

-- a record may join the index of its tree: the tree has one, and the record's key there is a key
pub record MayIndex (tree : ℕ) (key attr : List ℕ) : Type 0 where
  pub has : tree ≤ last_indexed
  pub short : length (entry_bytes attr key) ≤ longest_key

-- why a record is not put: it may not join the index, the number of its tree first; or as a change is not noted
abbrev pub PutRefused : Acting → ℕ → List ℕ → List ℕ → List ℕ → Refused → Type 0
PutRefused s tree key payload attr (refused.Rule r) =
    ((r ≡ rule.BadNumber) × (last_indexed < tree))
    ⊎ (((r ≡ rule.LongEntry) × (tree ≤ last_indexed) × (longest_key < length (entry_bytes attr key)))
    ⊎ (MayIndex tree key attr
    × ((rule_of s.work ≡ Some r) ⊎ ((rule_of s.work ≡ None) × (r ≡ rule.TooManyChanges) × (most_changes < length (put_in s.buffer tree key payload attr))))))
PutRefused s tree key payload attr refused.Memory = MayIndex tree key attr

-- why changes are not dropped: the rule of what is in hand
abbrev pub AbortRefused : Acting → Refused → Type 0
AbortRefused s (refused.Rule r) = rule_of s.work ≡ Some r
AbortRefused s refused.Memory = ⊥

-- ---- what a begin does

-- the rule that refuses an opening, where one does
abbrev pub opening_rule_of : Work → Option Refusal
opening_rule_of Closed = None
opening_rule_of (Idle home) = Some rule.AlreadyOpen
opening_rule_of (Opening m) = Some rule.AtWork
opening_rule_of (Committing m) = Some rule.AtWork
opening_rule_of (Reading home m) = Some rule.AtWork
opening_rule_of (Scanning home m) = Some rule.AtWork
opening_rule_of (Looking home m) = Some rule.AtWork
opening_rule_of (Paging home m) = Some rule.AtWork
opening_rule_of (Folding home m) = Some rule.AtWork
opening_rule_of (Closing lease) = Some rule.AtWork
opening_rule_of (Renewing home) = Some rule.AtWork
opening_rule_of (Settling m) = Some rule.AtWork
opening_rule_of (Sweeping m) = Some rule.AtWork
opening_rule_of (Broken lease) = None

-- the lease that a broken session still has
abbrev pub old_lease : Work → Option Claim
old_lease (Broken lease) = Some lease
old_lease Closed = None
old_lease (Idle home) = None
old_lease (Opening m) = None
old_lease (Committing m) = None
old_lease (Reading home m) = None
old_lease (Scanning home m) = None
old_lease (Looking home m) = None
old_lease (Paging home m) = None
old_lease (Folding home m) = None
old_lease (Closing lease) = None
old_lease (Renewing home) = None
old_lease (Settling m) = None
old_lease (Sweeping m) = None

-- the opening of a client, behind the release of an old lease where one is left
abbrev pub opening_of : ℕ → Option Claim → Work
opening_of client old = Opening (new_recovery client aim.Opening old)

-- a closed or broken session begins opening a client, and has noted nothing; another is refused and stays
abbrev pub BeginsOpening : ℕ → Acting → Acting → Result Begun Refused → Type 0
BeginsOpening client old new (Ok Working) = (opening_rule_of old.work ≡ None) × (new ≡ record closed_session { work = opening_of client (old_lease old.work) })
BeginsOpening client old new (Ok (Answered answer)) = ⊥
BeginsOpening client old new (Err (refused.Rule r)) = (opening_rule_of old.work ≡ Some r) × (new ≡ old)
BeginsOpening client old new (Err refused.Memory) = ⊥

-- an operation of an open client begins with its home, and has this effect; another's is refused and changes nothing
abbrev pub BeginsWith : (Home → Acting → Begun → Type 0) → Acting → Acting → Result Begun Refused → Type 0
BeginsWith Does old new (Ok begun) = (home : Home) × (old.work ≡ Idle home) × Does home new begun
BeginsWith Does old new (Err (refused.Rule r)) = (rule_of old.work ≡ Some r) × (new ≡ old)
BeginsWith Does old new (Err refused.Memory) = ⊥

-- this is in hand then, and what was noted stays
abbrev pub HasInHand : Acting → Work → Acting → Begun → Type 0
HasInHand old work new begun = (begun ≡ Working) × (new ≡ record old { work = work; shown = Nothing })

-- the checkpoint of a page that a home begins
abbrev pub paging_begun_by : ℕ → ℕ → Home → Work
paging_begun_by tree page home = Paging home (new_paging tree page)

-- the checkpoint of a tree that a home begins
abbrev pub folding_begun_by : ℕ → Home → Work
folding_begun_by tree home = Folding home (new_making tree)

-- The commit of changes by a home beside the cache: it is in hand, or it is answered at once and the home stays. Want of memory leaves the
-- lease alone, and nothing else stops it.
abbrev pub CommitsOf : Home → List Noted → Cache → Cache → Work → Begun → Type 0
CommitsOf home changes old new work Working = (m : Run) × (run_ready (new_run home changes, old) ≡ Goes (m, new)) × (work ≡ Committing m)
CommitsOf home changes old new work (Answered (answer.Commit a)) =
    (m : Run) × (run_ready (new_run home changes, old) ≡ Ends (m, new) a) × (work ≡ Idle (home_of_run m))
CommitsOf home changes old new work (Answered (answer.Trouble t)) = (t ≡ trouble.Memory) × (work ≡ Broken home.lease)
CommitsOf home changes old new work (Answered answer) = ⊥

-- nothing is noted and the commit is answered at once
pub record CommitsNothing (home : Home) (buffer : List Noted) (old new : Cache) (work : Work) (begun : Begun) : Type 0 where
  pub none : buffer ≡ []
  pub work_is : work ≡ Idle home
  pub cache_is : new ≡ old
  pub answer : begun ≡ Answered (answer.Commit (Committed 0))

-- what was noted is committed, where something was
abbrev pub CommitsNoted : Home → List Noted → Cache → Cache → Work → Begun → Type 0
CommitsNoted home buffer old new work begun =
    CommitsNothing home buffer old new work begun ⊎ ((1 ≤ length buffer) × CommitsOf home buffer old new work begun)

-- the buffer is empty then
abbrev pub CommitsIn : Acting → Home → Acting → Begun → Type 0
CommitsIn old home new begun = (new.buffer ≡ []) × CommitsNoted home old.buffer old.cache new.cache new.work begun × (new.shown ≡ Nothing)

-- an open client behind an operation that stopped: want of memory leaves its lease alone
abbrev pub stopped_work : Trouble → Home → Work
stopped_work trouble.Memory home = Broken home.lease
stopped_work t home = Idle home

-- a read is in hand, or it is answered at once and the home stays; want of memory leaves the lease alone
abbrev pub ReadsOf : Home → Walk × Cache → Work × Cache → Shown → Begun → Type 0
ReadsOf home start (work, c) shown Working = (m : Walk) × (walk_ready start ≡ Goes (m, c)) × (work ≡ Reading home m) × (shown ≡ Nothing)
ReadsOf home start (work, c) shown (Answered answer.Value) =
    (m : Walk) × (page : ℕ) × (walk_ready start ≡ Ends (m, c) page) × (work ≡ Idle home) × (shown ≡ Read m)
ReadsOf home start (work, c) shown (Answered (answer.Trouble t)) =
    (m : Walk) × (t ≢ trouble.Memory → walk_ready start ≡ Stops (m, c) t) × (work ≡ stopped_work t home) × (shown ≡ Nothing)
ReadsOf home start (work, c) shown (Answered answer) = ⊥

abbrev pub ReadsIn : ℕ → List ℕ → Acting → Home → Acting → Begun → Type 0
ReadsIn tree key old home new begun =
    (new.buffer ≡ old.buffer) × ReadsOf home (new_walk tree (Some key) false, old.cache) (new.work, new.cache) new.shown begun

-- ---- scans

-- the records listed before with those of the leaf at which the scan ended, as the client sees them
abbrev pub IsListed : Home → List Noted → Scan → Cache → List Pair → List Pair → Type 0
IsListed home buffer m c pairs all = (items : List Entry) × AreItemsIn (leaf_at c (scan_object m)) m home.client home.head buffer items × (all ≡ pairs ++ map pair_of items)

-- at the end of a leaf: its records are listed, and the scan goes on behind it, or is over; want of memory leaves the lease alone
abbrev pub ListsLeaf : Home → Listing → Acting → Turn Answer → Type 0
ListsLeaf home m new More =
    (all : List Pair) × IsListed home new.buffer m.scan new.cache m.pairs all × (goes_on m.scan ≡ true)
    × (new.work ≡ Scanning home (record { scan = moved_on m.scan; pairs = all })) × (new.shown ≡ Nothing)
ListsLeaf home m new (Ended answer.Scan) =
    (all : List Pair) × IsListed home new.buffer m.scan new.cache m.pairs all × (goes_on m.scan ≡ false)
    × (new.work ≡ Idle home) × (new.shown ≡ Listed all)
ListsLeaf home m new (Ended (answer.Trouble t)) = (t ≡ trouble.Memory) × (new.work ≡ Broken home.lease) × (new.shown ≡ Nothing)
ListsLeaf home m new turn = ⊥

-- the session goes on by what a turn of its scan came to
abbrev pub Follows : Home → Listing → Turn ℕ → Acting → Turn Answer → Type 0
Follows home m More new turn = (new.work ≡ Scanning home m) × (new.shown ≡ Nothing) × (turn ≡ More)
Follows home m (Ended page) new turn = ListsLeaf home m new turn
Follows home m (Stopped t) new turn = (new.work ≡ stopped_work t home) × (new.shown ≡ Nothing) × (turn ≡ Ended (answer.Trouble t))

-- the begin of an operation that came to a turn
abbrev pub begins_by : Turn Answer → Begun → Type 0
begins_by More begun = begun ≡ Working
begins_by (Ended a) begun = begun ≡ Answered a
begins_by (Stopped t) begun = begun ≡ Answered (answer.Trouble t)

-- a scan is made ready, and the session goes on by what that came to
pub record ScansOf (home : Home) (start : Scan) (old : Cache) (new : Acting) (begun : Begun) : Type 0 where
  pub scan : Scan
  pub moved : Turn ℕ
  pub moves : Moves (scan_ready (start, old)) (scan, new.cache) moved
  pub turn : Turn Answer
  pub follows : Follows home (record { scan = scan; pairs = [] }) moved new turn
  pub begins : begins_by turn begun

abbrev pub ScansIn : Scan → Acting → Home → Acting → Begun → Type 0
ScansIn start old home new begun = (new.buffer ≡ old.buffer) × ScansOf home start old.cache (record new { buffer = old.buffer }) begun

-- ---- look-ups

-- an operation of a tree that is to have an index begins with the home of its client; of a tree above 8 it is refused first
abbrev pub BeginsIndexed : ℕ → (Home → Acting → Begun → Type 0) → Acting → Acting → Result Begun Refused → Type 0
BeginsIndexed tree Does old new (Ok begun) = (tree ≤ last_indexed) × BeginsWith Does old new (Ok begun)
BeginsIndexed tree Does old new (Err e) =
    ((e ≡ refused.Rule rule.BadNumber) × (last_indexed < tree) × (new ≡ old)) ⊎ ((tree ≤ last_indexed) × BeginsWith Does old new (Err e))

-- a look-up is in hand, or it stopped at once; want of memory leaves the lease alone
abbrev pub LooksOf : Home → Query → Cache → Work × Cache → Shown → Begun → Type 0
LooksOf home q old (work, c) shown Working = (m : Look) × (look_ready q old ≡ Goes (m, c)) × (work ≡ Looking home m) × (shown ≡ Nothing)
LooksOf home q old (work, c) shown (Answered (answer.Trouble t)) =
    (t ≢ trouble.Memory → (m : Look) × (look_ready q old ≡ Stops (m, c) t)) × (work ≡ stopped_work t home) × (shown ≡ Nothing)
LooksOf home q old (work, c) shown (Answered answer) = ⊥

abbrev pub LooksIn : ℕ → List ℕ → Acting → Home → Acting → Begun → Type 0
LooksIn tree attr old home new begun =
    (new.buffer ≡ old.buffer) × LooksOf home (record { tree = tree; attr = attr }) old.cache (new.work, new.cache) new.shown begun

-- ---- every begin

abbrev pub Begins : Op → Acting → Acting → Result Begun Refused → Type 0
Begins (op.Open client) old new result = BeginsOpening client old new result
Begins op.Close old new result = BeginsWith (λ home. HasInHand old (Closing home.lease)) old new result
Begins op.Renew old new result = BeginsWith (λ home. HasInHand old (Renewing home)) old new result
Begins op.Commit old new result = BeginsWith (CommitsIn old) old new result
Begins (op.Read tree key) old new result = BeginsWith (ReadsIn tree key old) old new result
Begins (op.Scan tree from to) old new result = BeginsWith (ScansIn (new_scan tree from to) old) old new result
Begins (op.Lookup tree attr) old new result = BeginsIndexed tree (LooksIn tree attr old) old new result
Begins (op.Page tree page) old new result = BeginsWith (λ home. HasInHand old (paging_begun_by tree page home)) old new result
Begins (op.Tree tree) old new result = BeginsWith (λ home. HasInHand old (folding_begun_by tree home)) old new result

-- ---- what a step does

abbrev pub opened_work : Option Home → Work
opened_work (Some home) = Idle home
opened_work None = Closed

-- a commit in doubt, or one that stays open, leaves the lease alone
abbrev pub committed_work : CommitAnswer → Home → Work
committed_work InDoubt home = Broken home.lease
committed_work (CommittedOpen t) home = Broken home.lease
committed_work (Committed txn) home = Idle home
committed_work (NotCommitted t) home = Idle home

-- how many calls an opening has left at most
abbrev pub opening_left : Recovery → ℕ
opening_left m = recovery_left (2 ^ 64) 255 m

-- one step of an opening, and what it leaves in hand
abbrev pub StepsOpening : Caller → Seen → Seen → Recovery → Work → Turn Answer → Type 0
StepsOpening who before after old work More =
    (m : Recovery) × Steps recovery_machine (occasion_of who before after) old m More × (work ≡ Opening m) × (opening_left m < opening_left old)
StepsOpening who before after old work (Ended (answer.Opened epoch)) =
    (m : Recovery) × Steps recovery_machine (occasion_of who before after) old m (Ended (Opened epoch)) × (work ≡ opened_work (home_of m))
StepsOpening who before after old work (Ended (answer.Trouble k)) =
    (m : Recovery) × Steps recovery_machine (occasion_of who before after) old m (Stopped k) × (work ≡ Closed)
StepsOpening who before after old work turn = ⊥

-- one step of a commit beside the cache, and what it leaves in hand
abbrev pub StepsCommit : Caller → Seen → Seen → Run × Cache → Work × Cache → Turn Answer → Type 0
StepsCommit who before after old (work, c) More =
    (m : Run) × Steps run_machine (occasion_of who before after) old (m, c) More
    × (work ≡ Committing m) × (commit_left m < commit_left old.0)
StepsCommit who before after old (work, c) (Ended (answer.Commit a)) =
    (m : Run) × Steps run_machine (occasion_of who before after) old (m, c) (Ended a) × (work ≡ committed_work a (home_of_run m))
StepsCommit who before after old (work, c) (Ended (answer.Trouble k)) =
    (m : Run) × Steps run_machine (occasion_of who before after) old (m, c) (Stopped k) × (work ≡ Broken (home_of_run m).lease)
StepsCommit who before after old (work, c) turn = ⊥

-- what a commit leaves in hand whose newest step came to this
abbrev pub behind_step : Run → Turn Answer → Work
behind_step m (Ended (answer.Commit a)) = committed_work a (home_of_run m)
behind_step m (Ended (answer.Trouble k)) = Broken (home_of_run m).lease
behind_step m turn = Committing m

-- the same of a tree checkpoint beside an open client
abbrev pub behind_fold : Home → Making → Turn Answer → Work
behind_fold home m (Ended (answer.Done a)) = Idle home
behind_fold home m (Ended (answer.Trouble k)) = stopped_work k home
behind_fold home m turn = Folding home m

-- the same of a page checkpoint beside an open client
abbrev pub behind_paging : Home → Page → Turn Answer → Work
behind_paging home m (Ended (answer.Done a)) = Idle home
behind_paging home m (Ended (answer.Trouble k)) = stopped_work k home
behind_paging home m turn = Paging home m

-- the same of a settling
abbrev pub behind_settling : SettlingState → Turn Answer → Work
behind_settling m More = Settling m
behind_settling m turn = Closed

-- the same of a sweep
abbrev pub behind_sweeping : SweepingState → Turn Answer → Work
behind_sweeping m More = Sweeping m
behind_sweeping m turn = Closed

-- the same of whatever is in hand: what is none of these stays
abbrev pub ended_by : Work → Turn Answer → Work
ended_by (Committing m) turn = behind_step m turn
ended_by (Paging home m) turn = behind_paging home m turn
ended_by (Folding home m) turn = behind_fold home m turn
ended_by (Settling m) turn = behind_settling m turn
ended_by (Sweeping m) turn = behind_sweeping m turn
ended_by work turn = work

-- a call was made, and answered
pub record Asks (ask : Ask) (who : Caller) (before after : Seen) : Type 0 where
  pub answer : Heard
  pub made : Makes who ask answer before after

-- one step of a read, and what it leaves in hand
abbrev pub StepsReading : Caller → Seen → Seen → Home × Walk → Work → Turn Answer → Type 0
StepsReading who before after (home, old) work More =
    (m : Walk) × Asks (walk_ask old) who before after × (work ≡ Reading home m) × (reading_left m < reading_left old)
StepsReading who before after (home, old) work (Ended answer.Value) = Asks (walk_ask old) who before after × (work ≡ Idle home)
StepsReading who before after (home, old) work (Ended (answer.Trouble k)) = Asks (walk_ask old) who before after × (work ≡ stopped_work k home)
StepsReading who before after (home, old) work turn = ⊥

-- the same beside the cache: what is got goes into it, and at the end the leaf whose range holds the key stands there
abbrev pub ReadsBy : Caller → Seen → Seen → InHand Walk → Acting → Turn Answer → Type 0
ReadsBy who before after old new More =
    (m : Walk) × StepsWalk who before after (old.machine, old.cache) (m, new.cache) More
    × (new.work ≡ Reading old.home m) × (new.shown ≡ Nothing)
ReadsBy who before after old new (Ended answer.Value) =
    (m : Walk) × (page : ℕ) × StepsWalk who before after (old.machine, old.cache) (m, new.cache) (Ended page)
    × IsAtLeaf m new.cache page × (new.work ≡ Idle old.home) × (new.shown ≡ Read m)
ReadsBy who before after old new (Ended (answer.Trouble k)) =
    (m : Walk) × StepsWalk who before after (old.machine, old.cache) (m, new.cache) (Stopped k)
    × (new.work ≡ stopped_work k old.home) × (new.shown ≡ Nothing)
ReadsBy who before after old new turn = ⊥

-- a scan in hand has fewer calls left than so many
abbrev pub ScansLess : ℕ → Work → Type 0
ScansLess left (Scanning home m) = scanning_left m.scan < left
ScansLess left work = ⊥

-- one step of a scan beside the cache: what is got goes into it, and the session goes on by what the turn came to
pub record StepsScanning (who : Caller) (before after : Seen) (old : InHand Listing) (new : Acting) (turn : Turn Answer) : Type 0 where
  pub scan : Scan
  pub moved : Turn ℕ
  pub steps : StepsScan who before after (old.machine.scan, old.cache) (scan, new.cache) moved
  pub follows : Follows old.home (record { scan = scan; pairs = old.machine.pairs }) moved new turn
  pub less : turn ≡ More → ScansLess (scanning_left old.machine.scan) new.work

-- one step of a look-up beside the cache: what is got goes into it, and at the end the records found are shown
abbrev pub LooksBy : Caller → Seen → Seen → InHand Look → Acting → Turn Answer → Type 0
LooksBy who before after old new More =
    (m : Look) × StepsLook (own_of old.home new.buffer) (occasion_of who before after) (old.machine, old.cache) (m, new.cache) More
    × (new.work ≡ Looking old.home m) × (new.shown ≡ Nothing) × (looking_left m < looking_left old.machine)
LooksBy who before after old new (Ended answer.Scan) =
    (m : Look) × StepsLook (own_of old.home new.buffer) (occasion_of who before after) (old.machine, old.cache) (m, new.cache) (Ended tt)
    × (new.work ≡ Idle old.home) × (new.shown ≡ Listed m.pairs)
LooksBy who before after old new (Ended (answer.Trouble k)) =
    (m : Look) × StepsLook (own_of old.home new.buffer) (occasion_of who before after) (old.machine, old.cache) (m, new.cache) (Stopped k)
    × (new.work ≡ stopped_work k old.home) × (new.shown ≡ Nothing)
LooksBy who before after old new turn = ⊥

-- one step of a page checkpoint, and what it leaves in hand
abbrev pub StepsPaging : Caller → Seen → Seen → Home × Page → Work → Turn Answer → Type 0
StepsPaging who before after (home, old) work More =
    (m : Page) × Steps paging_machine (occasion_of who before after) old m More × (work ≡ Paging home m) × (paging_left m < paging_left old)
StepsPaging who before after (home, old) work (Ended (answer.Done n)) =
    (m : Page) × Steps paging_machine (occasion_of who before after) old m (Ended n) × (work ≡ Idle home)
StepsPaging who before after (home, old) work (Ended (answer.Trouble k)) =
    (m : Page) × Steps paging_machine (occasion_of who before after) old m (Stopped k) × (work ≡ stopped_work k home)
StepsPaging who before after (home, old) work turn = ⊥

-- one step of a tree checkpoint, and what it leaves in hand
abbrev pub StepsFolding : Caller → Seen → Seen → Home × Making → Work → Turn Answer → Type 0
StepsFolding who before after (home, old) work More =
    (m : Making) × Steps making_machine (occasion_of who before after) old m More × (work ≡ Folding home m) × (calls_in m.work < calls_in old.work)
StepsFolding who before after (home, old) work (Ended (answer.Done n)) =
    (m : Making) × Steps making_machine (occasion_of who before after) old m (Ended n) × (work ≡ Idle home)
StepsFolding who before after (home, old) work (Ended (answer.Trouble k)) =
    (m : Making) × Steps making_machine (occasion_of who before after) old m (Stopped k) × (work ≡ stopped_work k home)
StepsFolding who before after (home, old) work turn = ⊥

-- one step of a settling, and what it leaves in hand; at its end all its parts ran and all its calls are counted
abbrev pub StepsSettling : Caller → Seen → Seen → SettlingState → Work → Turn Answer → Type 0
StepsSettling who before after old work More =
    (m : SettlingState) × SettlingStepped who before after old m More × (work ≡ Settling m) × (settling_left m < settling_left old)
StepsSettling who before after old work (Ended (answer.Settled n)) =
    (m : SettlingState) × SettlingStepped who before after old m (Ended n) × (work ≡ Closed)
StepsSettling who before after old work (Ended (answer.Trouble k)) =
    (m : SettlingState) × SettlingStepped who before after old m (Stopped k) × (work ≡ Closed)
StepsSettling who before after old work turn = ⊥

-- one step of a sweep, and what it leaves in hand; at its end all orphans are removed
abbrev pub StepsSweeping : Caller → Seen → Seen → SweepingState → Work → Turn Answer → Type 0
StepsSweeping who before after old work More =
    (m : SweepingState) × SweepStepped who before after old m More × (work ≡ Sweeping m) × (sweeping_left m < sweeping_left old)
StepsSweeping who before after old work (Ended (answer.Swept x)) =
    (m : SweepingState) × SweepStepped who before after old m (Ended x) × (work ≡ Closed)
StepsSweeping who before after old work (Ended (answer.Trouble k)) =
    (m : SweepingState) × SweepStepped who before after old m (Stopped k) × (work ≡ Closed)
StepsSweeping who before after old work turn = ⊥

-- a lease is given back: what the call answered, and what that comes to
pub record GivesBack (lease : Claim) (who : Caller) (before after : Seen) (result : Result (Unit {0}) Trouble) : Type 0 where
  pub answer : Heard
  pub made : Makes who (Release lease) answer before after
  pub took : done_of answer ≡ result

-- the one step of a close: whatever the release answers, nothing is in hand any more
abbrev pub StepsClosing : Claim → Caller → Seen → Seen → Work → Turn Answer → Type 0
StepsClosing lease who before after work (Ended answer.Closed) = GivesBack lease who before after (Ok tt) × (work ≡ Closed)
StepsClosing lease who before after work (Ended (answer.Trouble k)) = GivesBack lease who before after (Err k) × (work ≡ Closed)
StepsClosing lease who before after work turn = ⊥

-- a home's lease is renewed for 600 ticks: what the call answered, what that comes to, and what it leaves of the lease
pub record RenewsHome (old new : Home) (who : Caller) (before after : Seen) (result : Result ℕ Trouble) : Type 0 where
  pub answer : Heard
  pub made : Makes who (Renew old.lease client_ticks) answer before after
  pub took : renewed_of answer ≡ result
  pub lease : RenewsLease who client_ticks answer (leased old.lease before) (leased new.lease after)
  pub home : new ≡ record old { lease = new.lease }

-- the one step of a renewal: the client stays open, unless memory ran out
abbrev pub StepsRenewing : Home → Caller → Seen → Seen → Work → Turn Answer → Type 0
StepsRenewing home who before after work (Ended (answer.Renewed end)) = (new : Home) × RenewsHome home new who before after (Ok end) × (work ≡ Idle new)
StepsRenewing home who before after work (Ended (answer.Trouble k)) = (new : Home) × RenewsHome home new who before after (Err k) × (work ≡ stopped_work k new)
StepsRenewing home who before after work turn = ⊥

-- one step of what is at work: an opening, a commit or a settling has the bytes in hand that it is to put or send
abbrev pub StepsAt : Caller → Seen → Seen → Work → Work → Turn Answer → Type 0
StepsAt who before after (Opening m) work turn = IsSoundOpening m × StepsOpening who before after m work turn
StepsAt who before after (Committing m) work turn = IsSoundRun m × (c : Cache) × (d : Cache) × StepsCommit who before after (m, c) (work, d) turn
StepsAt who before after (Reading home m) work turn = StepsReading who before after (home, m) work turn
StepsAt who before after (Scanning home m) work turn =
    (buffer : List Noted) × (c : Cache) × (d : Cache) × (shown : Shown) × StepsScanning who before after (in_hand home m c) (acting_of buffer work d shown) turn
StepsAt who before after (Looking home m) work turn =
    (buffer : List Noted) × (c : Cache) × (d : Cache) × (shown : Shown) × LooksBy who before after (in_hand home m c) (acting_of buffer work d shown) turn
StepsAt who before after (Paging home m) work turn = StepsPaging who before after (home, m) work turn
StepsAt who before after (Folding home m) work turn = StepsFolding who before after (home, m) work turn
StepsAt who before after (Closing lease) work turn = StepsClosing lease who before after work turn
StepsAt who before after (Renewing home) work turn = StepsRenewing home who before after work turn
StepsAt who before after (Settling m) work turn = IsSoundPart m.part × StepsSettling who before after m work turn
StepsAt who before after (Sweeping m) work turn = StepsSweeping who before after m work turn
StepsAt who before after Closed work turn = ⊥
StepsAt who before after (Idle home) work turn = ⊥
StepsAt who before after (Broken lease) work turn = ⊥

abbrev pub is_working : Work → Bool
is_working (Opening m) = true
is_working (Committing m) = true
is_working (Reading home m) = true
is_working (Scanning home m) = true
is_working (Looking home m) = true
is_working (Paging home m) = true
is_working (Folding home m) = true
is_working Closed = false
is_working (Idle home) = false
is_working (Closing lease) = true
is_working (Renewing home) = true
is_working (Settling m) = true
is_working (Sweeping m) = true
is_working (Broken lease) = false

-- whether something is at work that is neither a commit nor a checkpoint nor a settling nor a sweep
abbrev pub is_other : Work → Bool
is_other (Opening m) = true
is_other (Committing m) = false
is_other (Reading home m) = true
is_other (Scanning home m) = true
is_other (Looking home m) = true
is_other (Paging home m) = false
is_other (Folding home m) = false
is_other Closed = false
is_other (Idle home) = false
is_other (Closing lease) = true
is_other (Renewing home) = true
is_other (Settling m) = false
is_other (Sweeping m) = false
is_other (Broken lease) = false

-- one step of what is in hand; where nothing is at work it is refused and changes nothing
abbrev pub StepsWork : Caller → Seen → Seen → Work → Work → Result (Turn Answer) Refused → Type 0
StepsWork who before after old new (Ok turn) = StepsAt who before after old new turn
StepsWork who before after old new (Err (refused.Rule r)) = (r ≡ rule.NotWorking) × (is_working old ≡ false) × (new ≡ old) × (after ≡ before)
StepsWork who before after old new (Err refused.Memory) = ⊥

-- a close drops what was noted, and nothing else does
abbrev pub noted_behind : Work → List Noted → List Noted
noted_behind (Closing lease) buffer = []
noted_behind work buffer = buffer

-- what one step of what is at work leaves of the cache, and what it shows
abbrev pub ShowsAt : Caller → Seen → Seen → Work × Cache → Acting → Turn Answer → Type 0
ShowsAt who before after (Reading home m, c) new turn = ReadsBy who before after (in_hand home m c) new turn
ShowsAt who before after (Scanning home m, c) new turn = StepsScanning who before after (in_hand home m c) new turn
ShowsAt who before after (Looking home m, c) new turn = LooksBy who before after (in_hand home m c) new turn
ShowsAt who before after (Committing m, c) new turn = StepsCommit who before after (m, c) (new.work, new.cache) turn × (new.shown ≡ Nothing)
ShowsAt who before after (work, c) new turn = (new.cache ≡ c) × (new.shown ≡ Nothing)

-- a closed session keeps nothing of the cloud
abbrev pub shown_behind : Work → Cache → Cache
shown_behind Closed c = empty_cache
shown_behind work c = c

-- a step of a session: the cache as the step leaves it, or none
abbrev pub Shows : Caller → Seen → Seen → Acting → Acting → Result (Turn Answer) Refused → Type 0
Shows who before after old new (Ok turn) =
    (c : Cache) × ShowsAt who before after (old.work, old.cache) (record new { cache = c }) turn × (new.cache ≡ shown_behind new.work c)
Shows who before after old new (Err e) = (new.cache ≡ old.cache) × (new.shown ≡ old.shown)

-- the value that the newest operation read, as the client sees it
abbrev pub value_in : Work → Shown → Cache → List Noted → Option Value
value_in (Idle home) (Read m) c buffer = read_value m c home.client home.head buffer
value_in work shown c buffer = None

abbrev pub value_of : Acting → Option Value
value_of s = value_in s.work s.shown s.cache s.buffer

-- the records that the newest operation listed
abbrev pub items_in : Shown → List Pair
items_in (Listed pairs) = pairs
items_in shown = []

abbrev pub items_of : Acting → List Pair
items_of s = items_in s.shown

-- the records behind the last step of a scan or of a look-up
abbrev pub ShowsList : Caller → Seen → Seen → Acting → Acting → Type 0
ShowsList who before after old new =
    ((home : Home) × (m : Listing) × (old.work ≡ Scanning home m) × ShowsRecords who before after old.buffer (in_hand home m old.cache) (items_of new))
    ⊎ ((home : Home) × (m : Look) × (old.work ≡ Looking home m) × ShowsFound who before after old.buffer (in_hand home m old.cache) (items_of new))

-- what a session shows at the end of a read, of a scan or of a look-up, by all its calls
abbrev pub ShowsWhole : Caller → Seen → Seen → Acting → Acting → Result (Turn Answer) Refused → Type 0
ShowsWhole who before after old new (Ok (Ended answer.Value)) =
    (home : Home) × (w : Walk) × (old.work ≡ Reading home w) × ShowsValue who before after (own_of home new.buffer) w (value_of new)
ShowsWhole who before after old new (Ok (Ended answer.Scan)) = ShowsList who before after old new
ShowsWhole who before after old new result = Unit {0}

-- each step has the cause that its machine's contract names, behind the calls that led to it
abbrev pub HasCauses : Caller → Seen → Seen → Acting → Acting → Result (Turn Answer) Refused → Type 0
HasCauses who before after old new (Ok turn) =
    (c : Cache) × CausesAt who before after (old.work, old.cache) (new.work, c) turn × (new.cache ≡ shown_behind new.work c)
HasCauses who before after old new (Err e) = Unit {0}

-- one step of a session
pub record StepsSession (who : Caller) (before after : Seen) (old new : Acting) (result : Result (Turn Answer) Refused) : Type 0 where
  pub buffer : new.buffer ≡ noted_behind old.work old.buffer
  pub work : StepsWork who before after old.work new.work result
  pub shown : Shows who before after old new result
  pub whole : ShowsWhole who before after old new result
  pub causes : HasCauses who before after old new result

-- how many calls the work has left at most
abbrev pub calls_left : Work → ℕ
calls_left (Opening m) = opening_left m
calls_left (Committing m) = commit_left m
calls_left (Reading home m) = reading_left m
calls_left (Scanning home m) = scanning_left m.scan
calls_left (Looking home m) = looking_left m
calls_left (Paging home m) = paging_left m
calls_left (Folding home m) = calls_in m.work
calls_left Closed = 0
calls_left (Idle home) = 0
calls_left (Closing lease) = 1
calls_left (Renewing home) = 1
calls_left (Settling m) = settling_left m
calls_left (Sweeping m) = sweeping_left m
calls_left (Broken lease) = 0

-- the call in hand, where something is at work
abbrev pub ask_of_work : Work → Option Ask
ask_of_work (Opening m) = Some (recovery_ask m)
ask_of_work (Committing m) = Some (run_ask m)
ask_of_work (Reading home m) = Some (walk_ask m)
ask_of_work (Scanning home m) = Some (scan_ask m.scan)
ask_of_work (Looking home m) = Some (look_ask m)
ask_of_work (Paging home m) = Some (paging_ask m)
ask_of_work (Folding home m) = Some (making_ask m)
ask_of_work Closed = None
ask_of_work (Idle home) = None
ask_of_work (Closing lease) = Some (Release lease)
ask_of_work (Renewing home) = Some (Renew home.lease client_ticks)
ask_of_work (Settling m) = Some (settle_ask m)
ask_of_work (Sweeping m) = Some (sweep_ask m)
ask_of_work (Broken lease) = None

-- the changes of the commit at work
abbrev pub committing_of : Work → Option (List Noted)
committing_of (Committing m) = Some m.draft.writes.changes
committing_of (Opening m) = None
committing_of (Reading home m) = None
committing_of (Scanning home m) = None
committing_of (Looking home m) = None
committing_of (Paging home m) = None
committing_of (Folding home m) = None
committing_of Closed = None
committing_of (Idle home) = None
committing_of (Closing lease) = None
committing_of (Renewing home) = None
committing_of (Settling m) = None
committing_of (Sweeping m) = None
committing_of (Broken lease) = None

-- the head that the put in hand opens, where it commits
abbrev pub opens_of : Work → Option Head
opens_of (Committing m) = run_opens m
opens_of (Opening m) = None
opens_of (Reading home m) = None
opens_of (Scanning home m) = None
opens_of (Looking home m) = None
opens_of (Paging home m) = None
opens_of (Folding home m) = None
opens_of Closed = None
opens_of (Idle home) = None
opens_of (Closing lease) = None
opens_of (Renewing home) = None
opens_of (Settling m) = None
opens_of (Sweeping m) = None
opens_of (Broken lease) = None

-- the items that the put in hand applies
abbrev pub applying_of : Work → List PuItem
applying_of (Reading home m) = []
applying_of (Scanning home m) = []
applying_of (Looking home m) = []
applying_of (Paging home m) = m.applying
applying_of (Folding home m) = applying_in m.work
applying_of (Committing m) = []
applying_of (Opening m) = []
applying_of Closed = []
applying_of (Idle home) = []
applying_of (Closing lease) = []
applying_of (Renewing home) = []
applying_of (Settling m) = part_applying m.part
applying_of (Sweeping m) = []
applying_of (Broken lease) = []
