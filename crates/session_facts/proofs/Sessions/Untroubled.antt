-- A calm step leaves a session untroubled, and brings no answer that a call brought about.
use Rattle.std.proofs.Common.{◌≡◌, ◌≢◌, ◌≤◌, ◌<◌, ◌⊎◌, inl, inr, ℕ, List, Option, Some, None, Ok, refl, sym, ap, subst, ◌∙◌, arith}
use Rattle.cloud_trait.specs.Calm.{NamesLasting, TakesFree}
use Rattle.client_work.specs.Session.{Acting, StepsSession, StepsAt, ShowsAt, Follows, ListsLeaf, ask_of_work, opened_work, committed_work, stopped_work, acting_of}
use Rattle.client_work.specs.declared.answer.Answer.{Answer}
use Rattle.client_work.specs.declared.answer.Answer.TheVariants as answer
use Rattle.client_work.specs.declared.listing.Listing.{Listing}
use Rattle.client_work.specs.declared.shown.Shown.{Shown}
use Rattle.client_work.specs.declared.work.Work.{Work}
use Rattle.client_work.specs.declared.work.Work.TheVariants.{Closed, Idle, Opening, Committing, Reading, Scanning, Looking, Folding, Paging, Closing, Renewing, Settling, Sweeping, Broken}
use Rattle.cloud_trait.specs.declared.answer.Answer.TheVariants.{Memory}
use Rattle.cloud_facts.specs.Words.{Trouble, CommitAnswer, Turn, More, Ended, Stopped, CloudState, Caller, Seen, Lasts, Ask, Release}
use Rattle.cloud_trait.specs.Growth.{HasGrown}
use Rattle.cloud_trait.specs.State.{Counts}
use Rattle.cloud_trait.specs.Weather.{Rose}
use Rattle.db_base.specs.declared.trouble.Counter.{Counter}
use Rattle.db_base.specs.declared.trouble.CommitAnswer.TheVariants.{Committed, NotCommitted, InDoubt, CommittedOpen}
use Rattle.db_base.specs.declared.trouble.Trouble.TheVariants as trouble
use Rattle.commit_run.specs.Run.{home_of as home_of_run}
use Rattle.page_cache.specs.Cache.{Cache}
use Rattle.recover_run.specs.declared.home.Home.{Home}
use Rattle.recover_run.specs.Recovery.{home_of}
use Rattle.txn_buffer.specs.Noted.{Noted}
use Rattle.session_facts.specs.Machines.CommitRuns.Stops.{MayStopCommit, MayEnd}
use Rattle.session_facts.specs.Sessions.Calls.{session_step, calling_of, GivesLateBack, IsExplained, WaitsLate, reply_at, reply_of}
use Rattle.session_facts.specs.Sessions.Explains.{Explains, IsShown, KeepsTrouble, Meets, left_in, left_told, spent_for, trouble_in, trouble_of_answer, trouble_of_commit}
use Rattle.session_facts.specs.Sessions.Knows.{leases_of}
use Rattle.session_facts.specs.Sessions.Spent.{IsSpentToCommit, IsSpentInPages, IsSpentInTree}
use Rattle.session_facts.specs.Sessions.Untroubled.{GivesBackLasting, StepsCalmly, IsOfNoCall, IsExcused, IsUntroubled, IsSpent, CommitsWell}
use Rattle.session_facts.proofs.Machines.CommitRuns.Troubles.{EndsTold, IsByNoCall, IsTold, run_tells}
use Rattle.session_facts.proofs.Machines.PageCheckpoints.Explains.{paging_goes}
use Rattle.session_facts.proofs.Sessions.Spent.{HasAll, grown_all, open_later, commit_later, pages_later, tree_later, settle_later}
use Rattle.session_facts.proofs.Sessions.Troubles.{memory_or}

-- one trouble is told
same_trouble : (a b : Trouble) → Some a ≡ Some b → a ≡ b
same_trouble a b e = cc

no_trouble : (a : Trouble) → (let none : Option Trouble = None in none ≡ Some a) → ⊥
no_trouble a e = cc

-- ---- counters that are spent

-- what was told as spent is told so from then on
pub spent_later : (s t : CloudState) (w : Work) → HasAll s t → (what : Counter) → spent_for w s what → spent_for w t what
spent_later s t (Opening r) grown what is = open_later s t grown what is
spent_later s t (Committing r) grown what is = commit_later s t grown what is
spent_later s t (Folding home m) grown what is = tree_later s t grown m.tree what is
spent_later s t (Paging home p) grown what is = pages_later s t grown p.tree what is
spent_later s t (Settling m) grown what is = settle_later s t grown what is
spent_later s t (Sweeping m) grown what is = is
spent_later s t (Reading home m) grown what is = is
spent_later s t (Scanning home m) grown what is = is
spent_later s t (Looking home m) grown what is = is
spent_later s t (Closing l) grown what is = is
spent_later s t (Renewing home) grown what is = is
spent_later s t Closed grown what is = is
spent_later s t (Idle home) grown what is = is
spent_later s t (Broken l) grown what is = is

-- an operation that goes on with a trouble counts on what it counted on before
spent_stays : (who : Caller) (before after : Seen) (t : CloudState) (old new : Work) → StepsAt who before after old new More → (k : Trouble) → trouble_in new ≡ Some k → (what : Counter)
    → spent_for old t what → spent_for new t what
spent_stays who before after t (Opening r) new p k kept what is = subst (λ (w : Work). spent_for w t what) (sym p.1.2) is
spent_stays who before after t (Committing r) new p k kept what is = absurd (no_trouble k (sym (ap trouble_in p.3.2) ∙ kept))
spent_stays who before after t (Folding home m) new p k kept what is =
    subst (λ (w : Work). spent_for w t what) (sym p.2) (subst (λ (n : ℕ). IsSpentInTree n t what) (sym p.1.took.0.0) is)
spent_stays who before after t (Paging home m) new p k kept what is =
    subst (λ (w : Work). spent_for w t what) (sym p.2) (subst (λ (n : ℕ). IsSpentInPages n t what) (sym (paging_goes m p.0 p.1.answer p.1.took)) is)
spent_stays who before after t (Settling m) new p k kept what is = subst (λ (w : Work). spent_for w t what) (sym p.1.2) is
spent_stays who before after t (Sweeping m) new p k kept what is = absurd is
spent_stays who before after t (Reading home m) new p k kept what is = absurd is
spent_stays who before after t (Scanning home m) new p k kept what is = absurd is
spent_stays who before after t (Looking home m) new p k kept what is = absurd is
spent_stays who before after t (Closing l) new p k kept what is = absurd is
spent_stays who before after t (Renewing home) new p k kept what is = absurd is
spent_stays who before after t Closed new p k kept what is = absurd is
spent_stays who before after t (Idle home) new p k kept what is = absurd is
spent_stays who before after t (Broken l) new p k kept what is = absurd is

-- a trouble of no call stays one where more is spent
pub no_call_by : (Spent Other : CloudState → Counter → Type 0) (s t : CloudState) → ((what : Counter) → Spent s what → Other t what) → (k : Trouble) → IsOfNoCall Spent s k → IsOfNoCall Other t k
no_call_by Spent Other s t more trouble.Failed is = is
no_call_by Spent Other s t more (trouble.Late end now) is = is
no_call_by Spent Other s t more (trouble.Busy lock until) is = is
no_call_by Spent Other s t more (trouble.Waiting have need) is = is
no_call_by Spent Other s t more (trouble.Stale page least got) is = is
no_call_by Spent Other s t more (trouble.Exhausted what) is = more what is
no_call_by Spent Other s t more trouble.Memory is = tt
no_call_by Spent Other s t more (trouble.Absent page) is = tt
no_call_by Spent Other s t more (trouble.NotALeaf page) is = tt
no_call_by Spent Other s t more (trouble.Damaged place offset) is = tt
no_call_by Spent Other s t more (trouble.BadFence page expected found) is = tt
no_call_by Spent Other s t more (trouble.Loop page) is = tt

-- records are waited for
abbrev IsWait : Trouble → Type 0
IsWait k = (have : ℕ) × (need : ℕ) × (k ≡ trouble.Waiting have need)

module _ (ask : Ask) (c d : Counts) (s t : CloudState) (old new : Work) (same : d ≡ c) (free : TakesFree ask s t.now) (lasting : NamesLasting ask t.now) where
  steady : (count : Counts → ℕ) → Rose (count c) (count d) → ⊥
  steady count rose = omega (arith, rose, ap count same)

  -- what a calm call shows is of no call, but that it waits
  shown_none : (k : Trouble) → IsShown ask (leases_of old) (spent_for old) (c, s) (d, t) k → IsWait k ⊎ IsOfNoCall (spent_for old) t k
  shown_none trouble.Failed rose = absurd (steady (λ (x : Counts). x.faults) rose)
  shown_none (trouble.Late end now) late = absurd (late lasting)
  shown_none (trouble.Busy lock until) (inl held) = absurd (held free)
  shown_none (trouble.Busy lock until) (inr rose) = absurd (steady (λ (x : Counts). x.withheld) rose)
  shown_none (trouble.Waiting have need) shown = inl (have, need, refl)
  shown_none (trouble.Stale page least got) rose = absurd (steady (λ (x : Counts). x.stale) rose)
  shown_none trouble.Memory shown = inr tt
  shown_none (trouble.Exhausted what) shown = inr shown
  shown_none (trouble.Absent page) shown = inr tt
  shown_none (trouble.NotALeaf page) shown = inr tt
  shown_none (trouble.Damaged place offset) shown = inr tt
  shown_none (trouble.BadFence page expected found) shown = inr tt
  shown_none (trouble.Loop page) shown = inr tt

-- ---- a session

-- the call of a calm step, as it was explained
pub record IsCalmly (ask : Ask) (before after : Counts × CloudState) (old new : Work) (turn : Turn Answer) : Type 0 where
  pub hand : ask_of_work old ≡ Some ask
  pub same : after.0 ≡ before.0
  pub free : TakesFree ask before.1 after.1.now
  pub lasting : NamesLasting ask after.1.now
  pub returned : GivesBackLasting ask after.1.now
  pub grown : HasGrown before.1 after.1
  pub explains : Explains ask before after old new turn
  pub waits : trouble_in old ≡ None → left_in old ≡ 0 → (have need : ℕ) → Meets new turn (trouble.Waiting have need)
      → Rose before.0.withheld after.0.withheld ⊎ WaitsLate new turn after.1.now

same_ask : (a b : Ask) → Some a ≡ Some b → a ≡ b
same_ask a b e = cc

module _ (ask : Ask) (c d : Counts) (s t : CloudState) (old new : Work) (turn : Turn Answer) (calm : IsCalmly ask (c, s) (d, t) old new turn) (well : IsUntroubled s old) where
  -- what waits gives back a lease that is over next: no calm call does
  none_late : GivesLateBack old s.now → ⊥
  none_late (l, is, over) = let lasts : Lasts t.now l = subst (λ a. GivesBackLasting a t.now) (same_ask ask (Release l) (sym calm.hand ∙ is)) calm.returned in ends lasts
    where
      ends : t.now < l.end → ⊥
      ends lasts = let later = calm.grown.later in absurd (omega (arith, over, later, lasts))

  -- so a trouble that is kept is of no call
  kept_none : (k : Trouble) → trouble_in old ≡ Some k → IsOfNoCall (spent_for old) t k
  kept_none k was = on k (well.trouble k was)
    where
      stays : (k : Trouble) → IsOfNoCall (spent_for old) s k → IsOfNoCall (spent_for old) t k
      stays k none = no_call_by (spent_for old) (spent_for old) s t (spent_later s t old (grown_all s t calm.grown)) k none

      on : (k : Trouble) → IsExcused s old k → IsOfNoCall (spent_for old) t k
      on (trouble.Waiting have need) late = absurd (none_late late)
      on trouble.Failed is = is
      on (trouble.Late end now) is = is
      on (trouble.Busy lock until) is = is
      on (trouble.Stale page least got) is = is
      on trouble.Memory is = tt
      on (trouble.Exhausted what) is = stays (trouble.Exhausted what) is
      on (trouble.Absent page) is = tt
      on (trouble.NotALeaf page) is = tt
      on (trouble.Damaged place offset) is = tt
      on (trouble.BadFence page expected found) is = tt
      on (trouble.Loop page) is = tt

  -- a trouble that is met where none waited
  met_none : trouble_in old ≡ None → (k : Trouble) → Meets new turn k → (IsWait k × WaitsLate new turn t.now) ⊎ IsOfNoCall (spent_for old) t k
  met_none none k meets = on (memory_or k)
    where
      waits : IsWait k → (IsWait k × WaitsLate new turn t.now) ⊎ IsOfNoCall (spent_for old) t k
      waits (have, need, is) = by (calm.waits none well.left have need (subst (Meets new turn) is meets))
        where
          by : Rose c.withheld d.withheld ⊎ WaitsLate new turn t.now → (IsWait k × WaitsLate new turn t.now) ⊎ IsOfNoCall (spent_for old) t k
          by (inl rose) = absurd (steady ask c d s t old new calm.same calm.free calm.lasting (λ (x : Counts). x.withheld) rose)
          by (inr late) = inl ((have, need, is), late)

      shown : IsWait k ⊎ IsOfNoCall (spent_for old) t k → (IsWait k × WaitsLate new turn t.now) ⊎ IsOfNoCall (spent_for old) t k
      shown (inl wait) = waits wait
      shown (inr none) = inr none

      on : (k ≡ trouble.Memory) ⊎ (k ≢ trouble.Memory) → (IsWait k × WaitsLate new turn t.now) ⊎ IsOfNoCall (spent_for old) t k
      on (inl e) = inr (subst (IsOfNoCall (spent_for old) t) (sym e) tt)
      on (inr other) = shown (shown_none ask c d s t old new calm.same calm.free calm.lasting k (calm.explains.shown none well.left k other meets))

  no_left : left_told new turn ≡ 0
  no_left = on calm.explains.left
    where
      on : (left_told new turn ≤ left_in old) ⊎ Rose c.faults d.faults → left_told new turn ≡ 0
      on (inl less) = let none = well.left in omega (arith, less, none)
      on (inr rose) = absurd (steady ask c d s t old new calm.same calm.free calm.lasting (λ (y : Counts). y.faults) rose)

excused : (t : CloudState) (w : Work) (k : Trouble) → IsOfNoCall (spent_for w) t k → IsExcused t w k
excused t w trouble.Failed none = none
excused t w (trouble.Late end now) none = none
excused t w (trouble.Busy lock until) none = none
excused t w (trouble.Waiting have need) none = absurd none
excused t w (trouble.Stale page least got) none = none
excused t w trouble.Memory none = tt
excused t w (trouble.Exhausted what) none = none
excused t w (trouble.Absent page) none = tt
excused t w (trouble.NotALeaf page) none = tt
excused t w (trouble.Damaged place offset) none = tt
excused t w (trouble.BadFence page expected found) none = tt
excused t w (trouble.Loop page) none = tt

module _ (ask : Ask) (c d : Counts) (s t : CloudState) (old new : Work) where
  goes_untroubled : IsCalmly ask (c, s) (d, t) old new More → ((k : Trouble) → trouble_in new ≡ Some k → (what : Counter) → spent_for old t what → spent_for new t what) → IsUntroubled s old
      → IsUntroubled t new
  goes_untroubled calm stays well = record { trouble = λ k is. on k is (trouble_in old) refl; left = no_left ask c d s t old new More calm well }
    where
      none_new : (k : Trouble) → trouble_in new ≡ Some k → IsOfNoCall (spent_for old) t k → IsExcused t new k
      none_new k is none = excused t new k (no_call_by (spent_for old) (spent_for new) t t (stays k is) k none)

      met : (k : Trouble) → trouble_in new ≡ Some k → (IsWait k × WaitsLate new More t.now) ⊎ IsOfNoCall (spent_for old) t k → IsExcused t new k
      met k kept (inl ((have, need, is), late)) = subst (IsExcused t new) (sym is) late
      met k kept (inr none) = none_new k kept none

      on : (k : Trouble) → trouble_in new ≡ Some k → (was : Option Trouble) → trouble_in old ≡ was → IsExcused t new k
      on k is None none = met k is (met_none ask c d s t old new More calm well none k (inl is))
      on k is (Some j) was =
          none_new k is
          (subst (IsOfNoCall (spent_for old) t) (same_trouble j k (sym (calm.explains.kept j was) ∙ is)) (kept_none ask c d s t old new More calm well j was))

  answers_untroubled : (a : Answer) → IsCalmly ask (c, s) (d, t) old new (Ended a) → IsUntroubled s old → (k : Trouble) → trouble_of_answer a ≡ Some k → IsOfNoCall (spent_for old) t k
  answers_untroubled a calm well k is = on (trouble_in old) refl
    where
      kept : (j : Trouble) → trouble_in old ≡ Some j → KeepsTrouble new (Ended a) j → IsOfNoCall (spent_for old) t k
      kept j was (inl same) = subst (IsOfNoCall (spent_for old) t) (same_trouble j k (sym same ∙ is)) (kept_none ask c d s t old new (Ended a) calm well j was)
      kept j was (inr memory) = subst (IsOfNoCall (spent_for old) t) (same_trouble trouble.Memory k (sym memory ∙ is)) tt

      met : (IsWait k × ⊥) ⊎ IsOfNoCall (spent_for old) t k → IsOfNoCall (spent_for old) t k
      met (inl (wait, late)) = absurd late
      met (inr none) = none

      on : (was : Option Trouble) → trouble_in old ≡ was → IsOfNoCall (spent_for old) t k
      on None none = met (met_none ask c d s t old new (Ended a) calm well none k (inr is))
      on (Some j) was = kept j was (calm.explains.kept j was)

module _ (who : Caller) (before after : Seen) (old new : Acting) (turn : Turn Answer) (p : StepsSession who before after old new (Ok turn)) (calm : StepsCalmly (session_step who before after old new turn) p)
    (explained : (s t : CloudState) → before.state ≡ Some s → after.state ≡ Some t → IsExplained (session_step who before after old new turn) s t p) where
  abbrev s : CloudState
  s = calm.calm.before

  abbrev t : CloudState
  t = calm.calm.after

  abbrev x : IsExplained (session_step who before after old new turn) s t p
  x = explained s t calm.calm.told calm.calm.left

  one : x.ask ≡ calm.ask
  one = same_ask x.ask calm.ask (sym x.hand ∙ calm.hand)

  pub calmly : IsCalmly calm.ask (before.counts, s) (after.counts, t) old.work new.work turn
  calmly = record {
    hand = calm.hand;
    same = calm.calm.counts;
    free = calm.calm.free;
    lasting = calm.calm.lasting;
    returned = calm.returned;
    grown = x.grown;
    explains = subst (λ a. Explains a (before.counts, s) (after.counts, t) old.work new.work turn) one (x.explains calm.memory);
    waits = x.waits calm.memory;
  }

-- a calm step that goes on leaves what is at work untroubled
pub step_untroubled : (who : Caller) (before after : Seen) (old new : Acting) (p : StepsSession who before after old new (Ok More)) → (calm : StepsCalmly (session_step who before after old new More) p)
    → ((s t : CloudState) → before.state ≡ Some s → after.state ≡ Some t → IsExplained (session_step who before after old new More) s t p) → IsUntroubled calm.calm.before old.work
    → IsUntroubled calm.calm.after new.work
step_untroubled who before after old new p calm explained well =
    goes_untroubled calm.ask before.counts after.counts calm.calm.before calm.calm.after old.work new.work (calmly who before after old new More p calm explained)
    (spent_stays who before after calm.calm.after old.work new.work p.work) well

-- an answer of a calm step has no trouble that a call brought, and no failed deletions
pub answer_untroubled : (who : Caller) (before after : Seen) (old new : Acting) (a : Answer) (p : StepsSession who before after old new (Ok (Ended a)))
    → (calm : StepsCalmly (session_step who before after old new (Ended a)) p)
    → ((s t : CloudState) → before.state ≡ Some s → after.state ≡ Some t → IsExplained (session_step who before after old new (Ended a)) s t p) → IsUntroubled calm.calm.before old.work
    → ((k : Trouble) → trouble_of_answer a ≡ Some k → IsOfNoCall (spent_for old.work) calm.calm.after k) × (left_told new.work (Ended a) ≡ 0)
answer_untroubled who before after old new a p calm explained well =
    let c = calmly who before after old new (Ended a) p calm explained in (
      answers_untroubled calm.ask before.counts after.counts calm.calm.before calm.calm.after old.work new.work a c well,
      no_left calm.ask before.counts after.counts calm.calm.before calm.calm.after old.work new.work (Ended a) c well,
    )

-- ---- behind the calls of others

pub untroubled_later : (s t : CloudState) (w : Work) → HasAll s t → s.now ≤ t.now → IsUntroubled s w → IsUntroubled t w
untroubled_later s t w grown later well = record { trouble = λ k is. on k (well.trouble k is); left = well.left }
  where
    on : (k : Trouble) → IsExcused s w k → IsExcused t w k
    on (trouble.Waiting have need) (l, is, over) = (l, is, omega (arith, over, later))
    on trouble.Failed is = is
    on (trouble.Late end now) is = is
    on (trouble.Busy lock until) is = is
    on (trouble.Stale page least got) is = is
    on trouble.Memory is = tt
    on (trouble.Exhausted what) is = spent_later s t w grown what is
    on (trouble.Absent page) is = tt
    on (trouble.NotALeaf page) is = tt
    on (trouble.Damaged place offset) is = tt
    on (trouble.BadFence page expected found) is = tt
    on (trouble.Loop page) is = tt

-- ---- behind an answer

-- nothing is kept
pub record IsAtRest (w : Work) : Type 0 where
  pub none : trouble_in w ≡ None
  pub left : left_in w ≡ 0

pub rested : (t : CloudState) (w : Work) → IsAtRest w → IsUntroubled t w
rested t w rest = record { trouble = λ k is. absurd (no_trouble k (sym rest.none ∙ is)); left = rest.left }

pub at_rest : (w : Work) → trouble_in w ≡ None → left_in w ≡ 0 → IsAtRest w
at_rest w none left = record { none = none; left = left }

pub rests_as : (w v : Work) → w ≡ v → IsAtRest v → IsAtRest w
rests_as w v e well = subst IsAtRest (sym e) well

pub idle_rests : (home : Home) → IsAtRest (Idle home)
idle_rests home = at_rest (Idle home) refl refl

pub closed_rests : IsAtRest Closed
closed_rests = at_rest Closed refl refl

pub stopped_rests : (k : Trouble) (home : Home) → IsAtRest (stopped_work k home)
stopped_rests trouble.Memory home = at_rest (Broken home.lease) refl refl
stopped_rests k home = idle_rests home

opened_rests : (home : Option Home) → IsAtRest (opened_work home)
opened_rests (Some home) = idle_rests home
opened_rests None = closed_rests

committed_rests : (a : CommitAnswer) (home : Home) → IsAtRest (committed_work a home)
committed_rests InDoubt home = at_rest (Broken home.lease) refl refl
committed_rests (CommittedOpen t) home = at_rest (Broken home.lease) refl refl
committed_rests (Committed txn) home = idle_rests home
committed_rests (NotCommitted t) home = idle_rests home

-- a scan that is answered
follows_rests : (home : Home) (buffer : List Noted) (m : Listing) (c : Cache) (moved : Turn ℕ) (new : Work) (shown : Shown) (a : Answer) → Follows home m moved (acting_of buffer new c shown) (Ended a)
    → IsAtRest new
follows_rests home buffer m c More new shown a f = absurd (goes_on a f.2)
  where
    goes_on : (a : Answer) → (let x : Turn Answer = Ended a in let y : Turn Answer = More in x ≡ y) → ⊥
    goes_on a e = cc
follows_rests home buffer m c (Ended page) new shown a f = lists a f
  where
    lists : (a : Answer) → ListsLeaf home m (acting_of buffer new c shown) (Ended a) → IsAtRest new
    lists answer.Scan l = rests_as new (Idle home) l.3 (idle_rests home)
    lists (answer.Trouble t) l = rests_as new (Broken home.lease) l.1 (at_rest (Broken home.lease) refl refl)
    lists a never = absurd never
follows_rests home buffer m c (Stopped t) new shown a f = rests_as new (stopped_work t home) f.0 (stopped_rests t home)

-- what an answer leaves in hand is at rest
pub answered_rests : (who : Caller) (before after : Seen) (w new : Work) (a : Answer) → StepsAt who before after w new (Ended a) → IsAtRest new
answered_rests who before after (Opening m) new (answer.Opened epoch) p = rests_as new (opened_work (home_of p.1.0)) p.1.2 (opened_rests (home_of p.1.0))
answered_rests who before after (Opening m) new (answer.Trouble k) p = rests_as new Closed p.1.2 closed_rests
answered_rests who before after (Opening m) new a p = absurd p.1
answered_rests who before after (Committing m) new (answer.Commit a) p = rests_as new (committed_work a (home_of_run p.3.0)) p.3.2 (committed_rests a (home_of_run p.3.0))
answered_rests who before after (Committing m) new (answer.Trouble k) p = rests_as new (Broken (home_of_run p.3.0).lease) p.3.2 (at_rest (Broken (home_of_run p.3.0).lease) refl refl)
answered_rests who before after (Committing m) new a p = absurd p.3
answered_rests who before after (Reading home m) new answer.Value p = rests_as new (Idle home) p.1 (idle_rests home)
answered_rests who before after (Reading home m) new (answer.Trouble k) p = rests_as new (stopped_work k home) p.1 (stopped_rests k home)
answered_rests who before after (Reading home m) new a p = absurd p
answered_rests who before after (Scanning home m) new a (buffer, c, d, shown, p) = follows_rests home buffer (record { scan = p.scan; pairs = m.pairs }) d p.moved new shown a p.follows
answered_rests who before after (Looking home m) new answer.Scan (buffer, c, d, shown, p) = rests_as new (Idle home) p.2 (idle_rests home)
answered_rests who before after (Looking home m) new (answer.Trouble k) (buffer, c, d, shown, p) = rests_as new (stopped_work k home) p.2 (stopped_rests k home)
answered_rests who before after (Looking home m) new a (buffer, c, d, shown, p) = absurd p
answered_rests who before after (Paging home m) new (answer.Done n) p = rests_as new (Idle home) p.2 (idle_rests home)
answered_rests who before after (Paging home m) new (answer.Trouble k) p = rests_as new (stopped_work k home) p.2 (stopped_rests k home)
answered_rests who before after (Paging home m) new a p = absurd p
answered_rests who before after (Folding home m) new (answer.Done n) p = rests_as new (Idle home) p.2 (idle_rests home)
answered_rests who before after (Folding home m) new (answer.Trouble k) p = rests_as new (stopped_work k home) p.2 (stopped_rests k home)
answered_rests who before after (Folding home m) new a p = absurd p
answered_rests who before after (Closing lease) new answer.Closed p = rests_as new Closed p.1 closed_rests
answered_rests who before after (Closing lease) new (answer.Trouble k) p = rests_as new Closed p.1 closed_rests
answered_rests who before after (Closing lease) new a p = absurd p
answered_rests who before after (Renewing home) new (answer.Renewed end) p = rests_as new (Idle p.0) p.2 (idle_rests p.0)
answered_rests who before after (Renewing home) new (answer.Trouble k) p = rests_as new (stopped_work k p.0) p.2 (stopped_rests k p.0)
answered_rests who before after (Renewing home) new a p = absurd p
answered_rests who before after (Settling m) new (answer.Settled n) p = rests_as new Closed p.1.2 closed_rests
answered_rests who before after (Settling m) new (answer.Trouble k) p = rests_as new Closed p.1.2 closed_rests
answered_rests who before after (Settling m) new a p = absurd p.1
answered_rests who before after (Sweeping m) new (answer.Swept x) p = rests_as new Closed p.2 closed_rests
answered_rests who before after (Sweeping m) new (answer.Trouble k) p = rests_as new Closed p.2 closed_rests
answered_rests who before after (Sweeping m) new a p = absurd p
answered_rests who before after Closed new a p = absurd p
answered_rests who before after (Idle home) new a p = absurd p
answered_rests who before after (Broken lease) new a p = absurd p

-- ---- the end of a commit

scan_no_commit : (home : Home) (buffer : List Noted) (m : Listing) (c : Cache) (moved : Turn ℕ) (new : Work) (shown : Shown) (a : CommitAnswer)
    → Follows home m moved (acting_of buffer new c shown) (Ended (answer.Commit a)) → ⊥
scan_no_commit home buffer m c More new shown a f = cc (f.2)
scan_no_commit home buffer m c (Ended page) new shown a never = never
scan_no_commit home buffer m c (Stopped t) new shown a f = cc (f.2)

tells_at : (who : Caller) (before after : Seen) (buffer : List Noted) (w : Work) (c d : Cache) (new : Work) (shown : Shown) (a : CommitAnswer)
    → (p : StepsAt who before after w new (Ended (answer.Commit a))) → (q : ShowsAt who before after (w, c) (acting_of buffer new d shown) (Ended (answer.Commit a)))
    → reply_at (calling_of who before after) (w, c) (acting_of buffer new d shown) (Ended (answer.Commit a)) p q ≢ Memory → IsTold a
tells_at who before after buffer (Committing m) c d new shown a p q found = subst EndsTold q.0.1.took (run_tells (m, c) q.0.1.answer found)
tells_at who before after buffer (Opening m) c d new shown a p q found = absurd p.1
tells_at who before after buffer (Reading home m) c d new shown a p q found = absurd p
tells_at who before after buffer (Scanning home m) c d new shown a p q found =
    absurd (scan_no_commit home buffer (record { scan = q.scan; pairs = m.pairs }) d q.moved new shown a q.follows)
tells_at who before after buffer (Looking home m) c d new shown a p q found = absurd q
tells_at who before after buffer (Paging home m) c d new shown a p q found = absurd p
tells_at who before after buffer (Folding home m) c d new shown a p q found = absurd p
tells_at who before after buffer (Closing lease) c d new shown a p q found = absurd p
tells_at who before after buffer (Renewing home) c d new shown a p q found = absurd p
tells_at who before after buffer (Settling m) c d new shown a p q found = absurd p.1
tells_at who before after buffer (Sweeping m) c d new shown a p q found = absurd p
tells_at who before after buffer Closed c d new shown a p q found = absurd p
tells_at who before after buffer (Idle home) c d new shown a p q found = absurd p
tells_at who before after buffer (Broken lease) c d new shown a p q found = absurd p

-- that of a step whose call found memory
pub commit_tells : (who : Caller) (before after : Seen) (old new : Acting) (a : CommitAnswer) → (p : StepsSession who before after old new (Ok (Ended (answer.Commit a))))
    → reply_of (session_step who before after old new (Ended (answer.Commit a))) p ≢ Memory → IsTold a
commit_tells who before after old new a p found = tells_at who before after new.buffer old.work old.cache p.shown.0 new.work new.shown a p.work p.shown.1 found

-- a commit that is refused for no call, or stays open for none
abbrev pub IsOfNone : CloudState → CommitAnswer → Type 0
IsOfNone t c = (k : Trouble) → trouble_of_commit c ≡ Some k → IsOfNoCall IsSpentToCommit t k

pub commit_well : (t : CloudState) (c : CommitAnswer) → IsTold c → IsOfNone t c → MayEnd c → CommitsWell t c
commit_well t (Committed txn) told none may = tt
commit_well t InDoubt told none may = none trouble.Failed refl
commit_well t (CommittedOpen k) told none may = told (by_none k (none k refl))
  where
    by_none : (k : Trouble) → IsOfNoCall IsSpentToCommit t k → IsByNoCall k
    by_none trouble.Failed none = none
    by_none (trouble.Late end now) none = none
    by_none (trouble.Busy lock until) none = none
    by_none (trouble.Waiting have need) none = none
    by_none (trouble.Stale page least got) none = none
    by_none trouble.Memory none = tt
    by_none (trouble.Exhausted what) none = tt
    by_none (trouble.Absent page) none = tt
    by_none (trouble.NotALeaf page) none = tt
    by_none (trouble.Damaged place offset) none = tt
    by_none (trouble.BadFence page expected found) none = tt
    by_none (trouble.Loop page) none = tt
commit_well t (NotCommitted k) told none may = on k told (none k refl) may
  where
    on : (k : Trouble) → (k ≢ trouble.Memory) → IsOfNoCall IsSpentToCommit t k → MayStopCommit k → IsSpent IsSpentToCommit t k
    on (trouble.Exhausted what) told none may = none
    on trouble.Memory told none may = absurd (told refl)
    on trouble.Failed told none may = none
    on (trouble.Late end now) told none may = none
    on k told none may = absurd may
