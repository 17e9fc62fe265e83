-- What a step, and a begin, of a session leaves of the messages that it may still send.
use Rattle.std.proofs.Common.{◌≡◌, ◌≤◌, ◌+◌, inl, inr, ℕ, false, List, [], length, Some, Result, Ok, Err, refl, sym, subst, arith}
use Rattle.client_work.specs.declared.answer.Answer.{Answer}
use Rattle.client_work.specs.declared.answer.Answer.TheVariants as answer
use Rattle.client_work.specs.declared.answer.Begun.{Begun}
use Rattle.client_work.specs.declared.answer.Begun.TheVariants.{Working, Answered}
use Rattle.client_work.specs.declared.listing.Listing.{Listing}
use Rattle.client_work.specs.declared.op.Op.{Op}
use Rattle.client_work.specs.declared.op.Op.TheVariants as op
use Rattle.client_work.specs.declared.shown.Shown.{Shown}
use Rattle.client_work.specs.declared.work.Work.{Work}
use Rattle.client_work.specs.declared.work.Work.TheVariants.{Closed, Idle, Opening, Committing, Reading, Scanning, Looking, Paging, Folding, Closing, Renewing, Settling, Sweeping, Broken}
use Rattle.attr_index.specs.Look.{Query}
use Rattle.client_work.specs.Session.{LooksOf, Acting, Begins, CommitsNoted, CommitsOf, Follows, ListsLeaf, ReadsOf, StepsAt, StepsCommit, ask_of_work, committed_work, stopped_work, acting_of}
use Rattle.cloud_facts.specs.Words.{Trouble, CommitAnswer, Turn, More, Ended, Stopped, Caller, Seen}
use Rattle.commit_run.specs.Run.{Run, home_of}
use Rattle.db_base.specs.declared.refusal.Refused.{Refused}
use Rattle.db_base.specs.declared.refusal.Refused.TheVariants as refused
use Rattle.db_base.specs.declared.trouble.CommitAnswer.TheVariants.{Committed, NotCommitted, InDoubt, CommittedOpen}
use Rattle.db_base.specs.declared.trouble.Trouble.TheVariants as trouble
use Rattle.page_cache.specs.Cache.{Cache}
use Rattle.range_scan.specs.Scan.{scan_object}
use Rattle.recover_run.specs.declared.home.Home.{Home}
use Rattle.tree_walk.specs.Walk.{Walk, new_walk, object_of}
use Rattle.txn_buffer.specs.Noted.{Noted}
use Rattle.session_facts.specs.Writers.Sending.{SendsAtMost, hand_sends, sends_left}
use Rattle.session_facts.proofs.Writers.Sends.{RunsLeft, get_none, run_begins_left, run_spends}

-- ---- works that send nothing

committed_none : (n : ℕ) (a : CommitAnswer) (home : Home) → SendsAtMost n (committed_work a home)
committed_none n InDoubt home = tt
committed_none n (CommittedOpen t) home = tt
committed_none n (Committed txn) home = tt
committed_none n (NotCommitted t) home = tt

stopped_none : (n : ℕ) (t : Trouble) (home : Home) → SendsAtMost n (stopped_work t home)
stopped_none n trouble.Memory home = tt
stopped_none n t home = tt

is_as : (n : ℕ) (new work : Work) → new ≡ work → SendsAtMost n work → SendsAtMost n new
is_as n new work e sends = subst (SendsAtMost n) (sym e) sends

-- ---- a step

-- no checkpoint is done by it
abbrev pub IsNoDone : Turn Answer → Type 0
IsNoDone (Ended (answer.Done n)) = ⊥
IsNoDone turn = Unit {0}

-- no more is left than before but what the call sent
pub record SendsOn (n : ℕ) (old new : Work) (turn : Turn Answer) : Type 0 where
  pub left : ℕ
  pub spent : left + hand_sends (ask_of_work old) ≤ n
  pub leaves : SendsAtMost left new
  pub none_done : IsNoDone turn

-- one whose call sends nothing
same_left : (n : ℕ) (old new : Work) (turn : Turn Answer) → hand_sends (ask_of_work old) ≡ 0 → SendsAtMost n new → IsNoDone turn → SendsOn n old new turn
same_left n old new turn none leaves no_done = record { left = n; spent = omega (arith, none); leaves = leaves; none_done = no_done }

commit_spends : (n : ℕ) (who : Caller) (before after : Seen) (m : Run) (c d : Cache) (new : Work) (turn : Turn Answer) → StepsCommit who before after (m, c) (new, d) turn → sends_left m ≤ n
    → SendsOn n (Committing m) new turn
commit_spends n who before after m c d new More (k, steps, is, less) few =
    let s = run_spends n (m, c) steps.answer few in
    record {
      left = s.left;
      spent = s.spent;
      leaves = is_as s.left new (Committing k) is (subst (RunsLeft s.left) steps.took s.leaves);
      none_done = tt;
    }
commit_spends n who before after m c d new (Ended (answer.Commit a)) (k, steps, is) few =
    let s = run_spends n (m, c) steps.answer few in
    record { left = s.left; spent = s.spent; leaves = is_as s.left new (committed_work a (home_of k)) is (committed_none s.left a (home_of k)); none_done = tt }
commit_spends n who before after m c d new (Ended (answer.Trouble t)) (k, steps, is) few =
    let s = run_spends n (m, c) steps.answer few in
    record { left = s.left; spent = s.spent; leaves = is_as s.left new (Broken (home_of k).lease) is tt; none_done = tt }
commit_spends n who before after m c d new turn never few = absurd never

listed_sends : (n : ℕ) (home : Home) (buffer : List Noted) (m : Listing) (c : Cache) (new : Work) (shown : Shown) (turn : Turn Answer) → ListsLeaf home m (acting_of buffer new c shown) turn
    → SendsAtMost n new × IsNoDone turn
listed_sends n home buffer m c new shown More (all, listed, goes, is, none) = (is_as n new _ is tt, tt)
listed_sends n home buffer m c new shown (Ended answer.Scan) (all, listed, goes, is, none) = (is_as n new (Idle home) is tt, tt)
listed_sends n home buffer m c new shown (Ended (answer.Trouble t)) (memory, is, none) = (is_as n new (Broken home.lease) is tt, tt)
listed_sends n home buffer m c new shown turn never = absurd never

scan_sends : (n : ℕ) (home : Home) (buffer : List Noted) (m : Listing) (c : Cache) (moved : Turn ℕ) (new : Work) (shown : Shown) (turn : Turn Answer)
    → Follows home m moved (acting_of buffer new c shown) turn → SendsAtMost n new × IsNoDone turn
scan_sends n home buffer m c More new shown turn (is, none, same) = (is_as n new (Scanning home m) is tt, subst IsNoDone (sym same) tt)
scan_sends n home buffer m c (Ended page) new shown turn lists = listed_sends n home buffer m c new shown turn lists
scan_sends n home buffer m c (Stopped t) new shown turn (is, none, same) = (is_as n new (stopped_work t home) is (stopped_none n t home), subst IsNoDone (sym same) tt)

pub step_spends : (n : ℕ) (who : Caller) (before after : Seen) (old new : Work) (turn : Turn Answer) → StepsAt who before after old new turn → SendsAtMost n old → SendsOn n old new turn
step_spends n who before after (Committing m) new turn (sound, c, d, steps) few = commit_spends n who before after m c d new turn steps few
step_spends n who before after (Reading home m) new More (k, asks, is, less) few =
    same_left n (Reading home m) new More (get_none (object_of m)) (is_as n new (Reading home k) is tt) tt
step_spends n who before after (Reading home m) new (Ended answer.Value) (asks, is) few =
    same_left n (Reading home m) new (Ended answer.Value) (get_none (object_of m)) (is_as n new (Idle home) is tt) tt
step_spends n who before after (Reading home m) new (Ended (answer.Trouble t)) (asks, is) few =
    same_left n (Reading home m) new (Ended (answer.Trouble t)) (get_none (object_of m)) (is_as n new (stopped_work t home) is (stopped_none n t home)) tt
step_spends n who before after (Reading home m) new turn never few = absurd never
step_spends n who before after (Scanning home m) new turn (buffer, c, d, shown, p) few =
    let s = scan_sends n home buffer (record { scan = p.scan; pairs = m.pairs }) d p.moved new shown turn p.follows in
    same_left n (Scanning home m) new turn (get_none (scan_object m.scan)) s.0 s.1
step_spends n who before after (Looking home m) new More (buffer, c, d, shown, (k, steps, is, none, less)) few =
    same_left n (Looking home m) new More (get_none (object_of m.walk)) (is_as n new (Looking home k) is tt) tt
step_spends n who before after (Looking home m) new (Ended answer.Scan) (buffer, c, d, shown, (k, steps, is, some)) few =
    same_left n (Looking home m) new (Ended answer.Scan) (get_none (object_of m.walk)) (is_as n new (Idle home) is tt) tt
step_spends n who before after (Looking home m) new (Ended (answer.Trouble t)) (buffer, c, d, shown, (k, steps, is, none)) few =
    same_left n (Looking home m) new (Ended (answer.Trouble t)) (get_none (object_of m.walk)) (is_as n new (stopped_work t home) is (stopped_none n t home)) tt
step_spends n who before after (Looking home m) new turn (buffer, c, d, shown, never) few = absurd never
step_spends n who before after (Closing lease) new (Ended answer.Closed) p few = same_left n (Closing lease) new (Ended answer.Closed) refl (is_as n new Closed p.1 tt) tt
step_spends n who before after (Closing lease) new (Ended (answer.Trouble t)) p few =
    same_left n (Closing lease) new (Ended (answer.Trouble t)) refl (is_as n new Closed p.1 tt) tt
step_spends n who before after (Closing lease) new turn never few = absurd never
step_spends n who before after (Renewing home) new (Ended (answer.Renewed end)) (k, renews, is) few =
    same_left n (Renewing home) new (Ended (answer.Renewed end)) refl (is_as n new (Idle k) is tt) tt
step_spends n who before after (Renewing home) new (Ended (answer.Trouble t)) (k, renews, is) few =
    same_left n (Renewing home) new (Ended (answer.Trouble t)) refl (is_as n new (stopped_work t k) is (stopped_none n t k)) tt
step_spends n who before after (Renewing home) new turn never few = absurd never
step_spends n who before after Closed new turn never few = absurd never
step_spends n who before after (Idle home) new turn never few = absurd never
step_spends n who before after (Broken lease) new turn never few = absurd never
step_spends n who before after (Opening m) new turn p few = absurd few
step_spends n who before after (Paging home m) new turn p few = absurd few
step_spends n who before after (Folding home m) new turn p few = absurd few
step_spends n who before after (Settling m) new turn p few = absurd few
step_spends n who before after (Sweeping m) new turn p few = absurd few

-- ---- a begin

-- the operations of an open client that make no checkpoint
abbrev pub IsWritersOp : Op → Type 0
IsWritersOp op.Renew = Unit {0}
IsWritersOp op.Commit = Unit {0}
IsWritersOp (op.Read tree key) = Unit {0}
IsWritersOp (op.Scan tree from to) = Unit {0}
IsWritersOp (op.Lookup tree attr) = Unit {0}
IsWritersOp (op.Open client) = ⊥
IsWritersOp op.Close = ⊥
IsWritersOp (op.Page tree page) = ⊥
IsWritersOp (op.Tree tree) = ⊥

-- it may send as many as before, or a commit as many as it has changes
abbrev pub MaySend : Op → ℕ → List Noted → Type 0
MaySend op.Commit n buffer = length buffer ≤ n
MaySend op.Renew n buffer = Unit {0}
MaySend op.Close n buffer = Unit {0}
MaySend (op.Open client) n buffer = Unit {0}
MaySend (op.Read tree key) n buffer = Unit {0}
MaySend (op.Scan tree from to) n buffer = Unit {0}
MaySend (op.Lookup tree attr) n buffer = Unit {0}
MaySend (op.Page tree page) n buffer = Unit {0}
MaySend (op.Tree tree) n buffer = Unit {0}

commits_of : (n : ℕ) (home : Home) (changes : List Noted) (old c : Cache) (new : Work) (begun : Begun) → length changes ≤ n → CommitsOf home changes old c new begun → SendsAtMost n new
commits_of n home changes old c new Working few (m, ready, is) = is_as n new (Committing m) is (subst (RunsLeft n) ready (run_begins_left n home changes old few))
commits_of n home changes old c new (Answered (answer.Commit a)) few (m, ready, is) = is_as n new (Idle (home_of m)) is tt
commits_of n home changes old c new (Answered (answer.Trouble t)) few (memory, is) = is_as n new (Broken home.lease) is tt
commits_of n home changes old c new (Answered a) few never = absurd never

commits_noted : (n : ℕ) (home : Home) (buffer : List Noted) (old c : Cache) (new : Work) (begun : Begun) → length buffer ≤ n → CommitsNoted home buffer old c new begun → SendsAtMost n new
commits_noted n home buffer old c new begun few (inl nothing) = is_as n new (Idle home) nothing.work_is tt
commits_noted n home buffer old c new begun few (inr (some, commits)) = commits_of n home buffer old c new begun few commits

reads_of : (n : ℕ) (home : Home) (start : Walk) (old c : Cache) (new : Work) (shown : Shown) (begun : Begun) → ReadsOf home (start, old) (new, c) shown begun → SendsAtMost n new
reads_of n home start old c new shown Working (m, ready, is, none) = is_as n new (Reading home m) is tt
reads_of n home start old c new shown (Answered answer.Value) (m, page, ready, is, none) = is_as n new (Idle home) is tt
reads_of n home start old c new shown (Answered (answer.Trouble t)) (m, ready, is, none) = is_as n new (stopped_work t home) is (stopped_none n t home)
reads_of n home start old c new shown (Answered a) never = absurd never

looks_of : (n : ℕ) (home : Home) (q : Query) (old c : Cache) (new : Work) (shown : Shown) (begun : Begun) → LooksOf home q old (new, c) shown begun → SendsAtMost n new
looks_of n home q old c new shown Working (m, ready, is, none) = is_as n new (Looking home m) is tt
looks_of n home q old c new shown (Answered (answer.Trouble t)) (ready, is, none) = is_as n new (stopped_work t home) is (stopped_none n t home)
looks_of n home q old c new shown (Answered a) never = absurd never

unchanged : (n : ℕ) (old new : Acting) → new ≡ old → SendsAtMost n old.work → SendsAtMost n new.work
unchanged n old new e sends = subst (λ (a : Acting). SendsAtMost n a.work) (sym e) sends

pub begin_sends : (n : ℕ) (o : Op) (old new : Acting) (result : Result Begun Refused) → IsWritersOp o → MaySend o n old.buffer → Begins o old new result → SendsAtMost n old.work
    → SendsAtMost n new.work
begin_sends n op.Renew old new (Ok begun) is may (home, idle, has) sends = subst (λ (a : Acting). SendsAtMost n a.work) (sym has.1) tt
begin_sends n op.Renew old new (Err (refused.Rule r)) is may (rule, same) sends = unchanged n old new same sends
begin_sends n op.Renew old new (Err refused.Memory) is may never sends = absurd never
begin_sends n op.Commit old new (Ok begun) is may (home, idle, does) sends = commits_noted n home old.buffer old.cache new.cache new.work begun may does.1
begin_sends n op.Commit old new (Err (refused.Rule r)) is may (rule, same) sends = unchanged n old new same sends
begin_sends n op.Commit old new (Err refused.Memory) is may never sends = absurd never
begin_sends n (op.Read tree key) old new (Ok begun) is may (home, idle, does) sends = reads_of n home (new_walk tree (Some key) false) old.cache new.cache new.work new.shown begun does.1
begin_sends n (op.Read tree key) old new (Err (refused.Rule r)) is may (rule, same) sends = unchanged n old new same sends
begin_sends n (op.Read tree key) old new (Err refused.Memory) is may never sends = absurd never
begin_sends n (op.Scan tree from to) old new (Ok begun) is may (home, idle, does) sends =
    let scans = does.1 in
    (scan_sends n home old.buffer (record { scan = scans.scan; pairs = [] }) new.cache scans.moved new.work new.shown scans.turn scans.follows).0
begin_sends n (op.Scan tree from to) old new (Err (refused.Rule r)) is may (rule, same) sends = unchanged n old new same sends
begin_sends n (op.Scan tree from to) old new (Err refused.Memory) is may never sends = absurd never
begin_sends n (op.Lookup tree attr) old new (Ok begun) is may (has, (home, idle, does)) sends =
    looks_of n home (record { tree = tree; attr = attr }) old.cache new.cache new.work new.shown begun does.1
begin_sends n (op.Lookup tree attr) old new (Err (refused.Rule r)) is may (inl (bad, above, same)) sends = unchanged n old new same sends
begin_sends n (op.Lookup tree attr) old new (Err (refused.Rule r)) is may (inr (has, (rule, same))) sends = unchanged n old new same sends
begin_sends n (op.Lookup tree attr) old new (Err refused.Memory) is may (inl (bad, above, same)) sends = unchanged n old new same sends
begin_sends n (op.Lookup tree attr) old new (Err refused.Memory) is may (inr (has, never)) sends = absurd never
begin_sends n o old new result is may begins sends = absurd is
