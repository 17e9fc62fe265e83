-- An operation that begins is untroubled, and one that is answered at once is answered well.
use Rattle.std.proofs.Common.{◌≡◌, ◌≤◌, ◌⊎◌, inl, inr, ℕ, List, [], Option, Some, None, Result, Ok, Err, refl, sym, ap, subst}
use Rattle.client_work.specs.Session.{Acting, Begins, BeginsOpening, BeginsWith, BeginsIndexed, HasInHand, CommitsIn, CommitsOf, CommitsNoted, ReadsIn, ScansIn, LooksIn, ListsLeaf, Follows, begins_by, opening_of, old_lease, stopped_work, paging_begun_by, folding_begun_by, acting_of}
use Rattle.client_work.specs.declared.answer.Answer.{Answer}
use Rattle.client_work.specs.declared.answer.Answer.TheVariants as answer
use Rattle.client_work.specs.declared.answer.Begun.{Begun}
use Rattle.client_work.specs.declared.answer.Begun.TheVariants.{Working, Answered}
use Rattle.client_work.specs.declared.listing.Listing.{Listing}
use Rattle.client_work.specs.declared.op.Op.{Op}
use Rattle.client_work.specs.declared.op.Op.TheVariants as op
use Rattle.client_work.specs.declared.shown.Shown.{Shown}
use Rattle.client_work.specs.declared.work.Work.{Work}
use Rattle.client_work.specs.declared.work.Work.TheVariants.{Idle, Committing, Reading, Scanning, Looking, Closing, Renewing, Broken}
use Rattle.cloud_facts.specs.Words.{IsTree, Trouble, CommitAnswer, Entry, Turn, More, Ended, Stopped, CloudState, Claim, Book}
use Rattle.commit_run.specs.Run.{home_of}
use Rattle.db_base.specs.declared.refusal.Refused.{Refused}
use Rattle.db_base.specs.declared.refusal.Refused.TheVariants as refused
use Rattle.db_base.specs.declared.trouble.CommitAnswer.TheVariants.{Committed, NotCommitted, InDoubt, CommittedOpen}
use Rattle.db_base.specs.declared.trouble.Trouble.TheVariants as trouble
use Rattle.page_cache.specs.Cache.{Cache}
use Rattle.range_scan.specs.Scan.{moved_on, new_scan}
use Rattle.recover_run.specs.declared.home.Home.{Home}
use Rattle.session_facts.specs.Machines.CommitRuns.Stops.{MayStopAtOnce, EndsBy}
use Rattle.session_facts.specs.Sessions.Knows.{Sessions, SessionsStand, IsRightOp}
use Rattle.session_facts.specs.Sessions.Untroubled.{IsUntroubled, CommitsWell}
use Rattle.session_facts.proofs.Machines.CommitRuns.Troubles.{EndsTold, IsTold, ready_tells}
use Rattle.session_facts.proofs.Sessions.BeginStops.{begin_stops, begin_spent}
use Rattle.session_facts.proofs.Sessions.Indexed.{indexed_or}
use Rattle.session_facts.proofs.Sessions.Untroubled.{IsAtRest, rested, at_rest, rests_as, idle_rests, stopped_rests}
use Rattle.txn_buffer.specs.Noted.{Noted}

-- ---- what is at work then

opening_rests : (client : ℕ) (old : Option Claim) → IsAtRest (opening_of client old)
opening_rests client (Some l) = at_rest (opening_of client (Some l)) refl refl
opening_rests client None = at_rest (opening_of client None) refl refl

-- a scan that goes on, or is answered
listed_rests : (home : Home) (buffer : List Noted) (m : Listing) (c : Cache) (new : Work) (shown : Shown) (turn : Turn Answer) → ListsLeaf home m (acting_of buffer new c shown) turn → IsAtRest new
listed_rests home buffer m c new shown More l =
    rests_as new (Scanning home (record { scan = moved_on m.scan; pairs = l.0 })) l.3 (at_rest (Scanning home (record { scan = moved_on m.scan; pairs = l.0 })) refl refl)
listed_rests home buffer m c new shown (Ended answer.Scan) l = rests_as new (Idle home) l.3 (idle_rests home)
listed_rests home buffer m c new shown (Ended (answer.Trouble t)) l = rests_as new (Broken home.lease) l.1 (at_rest (Broken home.lease) refl refl)
listed_rests home buffer m c new shown turn never = absurd never

scan_rests : (home : Home) (buffer : List Noted) (m : Listing) (c : Cache) (moved : Turn ℕ) (new : Work) (shown : Shown) (turn : Turn Answer) → Follows home m moved (acting_of buffer new c shown) turn
    → IsAtRest new
scan_rests home buffer m c More new shown turn f = rests_as new (Scanning home m) f.0 (at_rest (Scanning home m) refl refl)
scan_rests home buffer m c (Ended page) new shown turn f = listed_rests home buffer m c new shown turn f
scan_rests home buffer m c (Stopped t) new shown turn f = rests_as new (stopped_work t home) f.0 (stopped_rests t home)

read_rests : (home : Home) (tree : ℕ) (key : List ℕ) (old new : Acting) (begun : Begun) → ReadsIn tree key old home new begun → IsAtRest new.work
read_rests home tree key old new Working (same, r) = rests_as new.work (Reading home r.0) r.2 (at_rest (Reading home r.0) refl refl)
read_rests home tree key old new (Answered answer.Value) (same, r) = rests_as new.work (Idle home) r.3 (idle_rests home)
read_rests home tree key old new (Answered (answer.Trouble t)) (same, r) = rests_as new.work (stopped_work t home) r.2 (stopped_rests t home)
read_rests home tree key old new (Answered a) (same, never) = absurd never

looked_rests : (home : Home) (tree : ℕ) (attr : List ℕ) (old new : Acting) (begun : Begun) → LooksIn tree attr old home new begun → IsAtRest new.work
looked_rests home tree attr old new Working (same, r) = rests_as new.work (Looking home r.0) r.2 (at_rest (Looking home r.0) refl refl)
looked_rests home tree attr old new (Answered (answer.Trouble t)) (same, r) = rests_as new.work (stopped_work t home) r.1 (stopped_rests t home)
looked_rests home tree attr old new (Answered a) (same, never) = absurd never

committing_rests : (home : Home) (changes : List Noted) (c d : Cache) (new : Work) (begun : Begun) → CommitsOf home changes c d new begun → IsAtRest new
committing_rests home changes c d new Working r = rests_as new (Committing r.0) r.2 (at_rest (Committing r.0) refl refl)
committing_rests home changes c d new (Answered (answer.Commit a)) r = rests_as new (Idle (home_of r.0)) r.2 (idle_rests (home_of r.0))
committing_rests home changes c d new (Answered (answer.Trouble t)) r = rests_as new (Broken home.lease) r.1 (at_rest (Broken home.lease) refl refl)
committing_rests home changes c d new (Answered a) never = absurd never

commit_rests : (home : Home) (old new : Acting) (begun : Begun) → CommitsNoted home old.buffer old.cache new.cache new.work begun → IsAtRest new.work
commit_rests home old new begun (inl nothing) = rests_as new.work (Idle home) nothing.work_is (idle_rests home)
commit_rests home old new begun (inr noted) = committing_rests home old.buffer old.cache new.cache new.work begun noted.1

-- an operation of an open client
begun_rests : (t : CloudState) (Does : Home → Acting → Begun → Type 0) (old new : Acting) (result : Result Begun Refused)
    → ((home : Home) (begun : Begun) → Does home new begun → IsAtRest new.work)
    → BeginsWith Does old new result → IsUntroubled t old.work → IsUntroubled t new.work
begun_rests t Does old new (Ok begun) rests (home, idle, does) well = rested t new.work (rests home begun does)
begun_rests t Does old new (Err (refused.Rule r)) rests (rule, same) well = subst (λ (a : Acting). IsUntroubled t a.work) (sym same) well
begun_rests t Does old new (Err refused.Memory) rests never well = absurd never

-- a look-up, which is refused where its tree has no index
looks_rest : (t : CloudState) (tree : ℕ) (attr : List ℕ) (old new : Acting) (result : Result Begun Refused) → BeginsIndexed tree (LooksIn tree attr old) old new result → IsUntroubled t old.work
    → IsUntroubled t new.work
looks_rest t tree attr old new result b well = on (indexed_or tree (LooksIn tree attr old) old new result b)
  where
    on : (new ≡ old) ⊎ ((tree ≤ 8) × BeginsWith (LooksIn tree attr old) old new result) → IsUntroubled t new.work
    on (inl same) = subst (λ (a : Acting). IsUntroubled t a.work) (sym same) well
    on (inr (few, begins)) = begun_rests t (LooksIn tree attr old) old new result (λ home begun. looked_rests home tree attr old new begun) begins well

opened_rests : (t : CloudState) (client : ℕ) (old new : Acting) (result : Result Begun Refused) → BeginsOpening client old new result → IsUntroubled t old.work → IsUntroubled t new.work
opened_rests t client old new (Ok Working) (rule, is) well =
    rested t new.work (rests_as new.work (opening_of client (old_lease old.work)) (ap (λ (a : Acting). a.work) is) (opening_rests client (old_lease old.work)))
opened_rests t client old new (Ok (Answered a)) never well = absurd never
opened_rests t client old new (Err (refused.Rule r)) (rule, same) well = subst (λ (a : Acting). IsUntroubled t a.work) (sym same) well
opened_rests t client old new (Err refused.Memory) never well = absurd never

-- this is in hand then
in_hand : (old new : Acting) (work : Work) (begun : Begun) → IsAtRest work → HasInHand old work new begun → IsAtRest new.work
in_hand old new work begun well (working, is) = rests_as new.work work (ap (λ (a : Acting). a.work) is) well

pub begins_untroubled : (t : CloudState) (o : Op) (old new : Acting) (result : Result Begun Refused) → Begins o old new result → IsUntroubled t old.work → IsUntroubled t new.work
begins_untroubled t (op.Open client) old new result b well = opened_rests t client old new result b well
begins_untroubled t op.Close old new result b well =
    begun_rests t (λ home. HasInHand old (Closing home.lease)) old new result (λ home begun. in_hand old new (Closing home.lease) begun (at_rest (Closing home.lease) refl refl)) b well
begins_untroubled t op.Renew old new result b well =
    begun_rests t (λ home. HasInHand old (Renewing home)) old new result (λ home begun. in_hand old new (Renewing home) begun (at_rest (Renewing home) refl refl)) b well
begins_untroubled t op.Commit old new result b well = begun_rests t (CommitsIn old) old new result (λ home begun does. commit_rests home old new begun does.1) b well
begins_untroubled t (op.Read tree key) old new result b well = begun_rests t (ReadsIn tree key old) old new result (λ home begun. read_rests home tree key old new begun) b well
begins_untroubled t (op.Scan tree from to) old new result b well =
    begun_rests t (ScansIn (new_scan tree from to) old) old new result
    (λ home begun does. scan_rests home old.buffer (record { scan = does.1.scan; pairs = [] }) new.cache does.1.moved new.work new.shown does.1.turn does.1.follows) b well
begins_untroubled t (op.Lookup tree attr) old new result b well = looks_rest t tree attr old new result b well
begins_untroubled t (op.Page tree page) old new result b well =
    begun_rests t (λ home. HasInHand old (paging_begun_by tree page home)) old new result
    (λ home begun. in_hand old new (paging_begun_by tree page home) begun (at_rest (paging_begun_by tree page home) refl refl)) b well
begins_untroubled t (op.Tree tree) old new result b well =
    begun_rests t (λ home. HasInHand old (folding_begun_by tree home)) old new result
    (λ home begun. in_hand old new (folding_begun_by tree home) begun (at_rest (folding_begun_by tree home) refl refl)) b well

-- ---- what is answered at once

-- a read its value, a scan its records, a look-up nothing, and a commit is committed or a counter stands at its last value; or memory ran out
abbrev pub IsAtOnce : CloudState → Op → Answer → Type 0
IsAtOnce s op.Commit (answer.Commit c) = CommitsWell s c
IsAtOnce s (op.Read tree key) answer.Value = Unit {0}
IsAtOnce s (op.Scan tree from to) answer.Scan = Unit {0}
IsAtOnce s o (answer.Trouble t) = t ≡ trouble.Memory
IsAtOnce s o a = ⊥

no_work : (old new : Acting) (work : Work) (a : Answer) → HasInHand old work new (Answered a) → ⊥
no_work old new work a (begun, is) = cc

answer_is : (a b : Answer) → (let x : Begun = Answered a in let y : Begun = Answered b in x ≡ y) → a ≡ b
answer_is a b e = cc

-- a commit that is refused at once
spent_well : (s : CloudState) (c : CommitAnswer) → IsTold c → EndsBy (MayStopAtOnce s) c → CommitsWell s c
spent_well s (Committed txn) told may = tt
spent_well s InDoubt told may = may
spent_well s (NotCommitted (trouble.Exhausted what)) told may = may
spent_well s (NotCommitted trouble.Memory) told may = absurd (told refl)
spent_well s (NotCommitted t) told may = may
spent_well s (CommittedOpen (trouble.Exhausted what)) told may = told tt
spent_well s (CommittedOpen trouble.Memory) told may = told tt
spent_well s (CommittedOpen t) told may = may

module _ (book : Book) (order : List Entry) (s : CloudState) (sessions : Sessions) (session : ℕ) (new : Acting) (stand : SessionsStand book order s sessions) where
  abbrev old : Acting
  old = sessions session

  -- a commit
  tells : (home : Home) (c : CommitAnswer) → CommitsNoted home old.buffer old.cache new.cache new.work (Answered (answer.Commit c)) → IsTold c
  tells home c (inl nothing) = on (answer_is (answer.Commit c) (answer.Commit (Committed 0)) nothing.answer)
    where
      on : answer.Commit c ≡ answer.Commit (Committed 0) → IsTold c
      on e = let is : c ≡ Committed 0 = cc in subst IsTold (sym is) tt
  tells home c (inr (some, (m, leads, left))) = subst EndsTold leads (ready_tells home old.buffer old.cache)

  commits_at_once : (home : Home) (a : Answer) → old.work ≡ Idle home → CommitsIn old home new (Answered a) → IsAtOnce s op.Commit a
  commits_at_once home (answer.Commit c) idle does = spent_well s c (tells home c does.1) (begin_spent book order s sessions session new stand op.Commit c (home, idle, does))
  commits_at_once home (answer.Trouble t) idle does = begin_stops book order s sessions session new stand op.Commit t tt (home, idle, does)
  commits_at_once home a idle (noted, inl nothing, shown) = absurd (cc (nothing.answer))
  commits_at_once home a idle (noted, inr (some, never), shown) = absurd never

  -- a read
  reads_at_once : (tree : ℕ) (key : List ℕ) (home : Home) (a : Answer) → IsTree tree → old.work ≡ Idle home → ReadsIn tree key old home new (Answered a) → IsAtOnce s (op.Read tree key) a
  reads_at_once tree key home answer.Value is idle does = tt
  reads_at_once tree key home (answer.Trouble t) is idle does = begin_stops book order s sessions session new stand (op.Read tree key) t is (home, idle, does)
  reads_at_once tree key home a is idle (same, never) = absurd never

  -- a look-up
  looks_at_once : (tree : ℕ) (attr : List ℕ) (home : Home) (a : Answer) → IsTree tree → tree ≤ 8 → old.work ≡ Idle home → LooksIn tree attr old home new (Answered a)
      → IsAtOnce s (op.Lookup tree attr) a
  looks_at_once tree attr home (answer.Trouble t) is few idle does = begin_stops book order s sessions session new stand (op.Lookup tree attr) t is (few, (home, idle, does))
  looks_at_once tree attr home a is few idle (same, never) = absurd never

  -- a scan
  scans_at_once : (tree : ℕ) (from to : Option (List ℕ)) (home : Home) (a : Answer) → IsTree tree → old.work ≡ Idle home → ScansIn (new_scan tree from to) old home new (Answered a)
      → IsAtOnce s (op.Scan tree from to) a
  scans_at_once tree from to home a is idle does = on a does does.1.moved does.1.turn does.1.follows does.1.begins
    where
      same : (b c : Answer) → c ≡ b → IsAtOnce s (op.Scan tree from to) b → IsAtOnce s (op.Scan tree from to) c
      same b c e at = subst (IsAtOnce s (op.Scan tree from to)) (sym e) at

      stopped : (c : Answer) (t : Trouble) → ScansIn (new_scan tree from to) old home new (Answered c) → c ≡ answer.Trouble t → IsAtOnce s (op.Scan tree from to) c
      stopped c t does e =
          same (answer.Trouble t) c e
          (begin_stops book order s sessions session new stand (op.Scan tree from to) t is (home, idle, subst (λ x. ScansIn (new_scan tree from to) old home new (Answered x)) e does))

      lists : (c : Answer) → ScansIn (new_scan tree from to) old home new (Answered c) → (turn : Turn Answer) → ListsLeaf home (record { scan = does.1.scan; pairs = [] }) (acting_of old.buffer new.work new.cache new.shown) turn
          → begins_by turn (Answered c) → IsAtOnce s (op.Scan tree from to) c
      lists c does More listed begun = absurd (cc)
      lists c does (Ended answer.Scan) listed begun = same answer.Scan c (answer_is c answer.Scan begun) tt
      lists c does (Ended (answer.Trouble t)) listed begun = stopped c t does (answer_is c (answer.Trouble t) begun)
      lists c does turn never begun = absurd never

      on : (c : Answer) → ScansIn (new_scan tree from to) old home new (Answered c) → (moved : Turn ℕ) (turn : Turn Answer)
          → Follows home (record { scan = does.1.scan; pairs = [] }) moved (acting_of old.buffer new.work new.cache new.shown) turn → begins_by turn (Answered c) → IsAtOnce s (op.Scan tree from to) c
      on c does More turn (work_is, none, more) begun = absurd (working (subst (λ x. begins_by x (Answered c)) more begun))
        where
          working : (let x : Begun = Answered c in x ≡ Working) → ⊥
          working e = cc
      on c does (Ended page) turn listed begun = lists c does turn listed begun
      on c does (Stopped t) turn (work_is, none, ended) begun = stopped c t does (answer_is c (answer.Trouble t) (subst (λ x. begins_by x (Answered c)) ended begun))

  pub begins_at_once : (o : Op) (a : Answer) → IsRightOp o → Begins o old new (Ok (Answered a)) → IsAtOnce s o a
  begins_at_once (op.Open client) a is never = absurd never
  begins_at_once op.Close a is (home, idle, does) = absurd (no_work old new (Closing home.lease) a does)
  begins_at_once op.Renew a is (home, idle, does) = absurd (no_work old new (Renewing home) a does)
  begins_at_once op.Commit a is (home, idle, does) = commits_at_once home a idle does
  begins_at_once (op.Read tree key) a is (home, idle, does) = reads_at_once tree key home a is idle does
  begins_at_once (op.Scan tree from to) a is (home, idle, does) = scans_at_once tree from to home a is idle does
  begins_at_once (op.Lookup tree attr) a is (few, (home, idle, does)) = looks_at_once tree attr home a is few idle does
  begins_at_once (op.Page tree page) a is (home, idle, does) = absurd (no_work old new (paging_begun_by tree page home) a does)
  begins_at_once (op.Tree tree) a is (home, idle, does) = absurd (no_work old new (folding_begun_by tree home) a does)
