-- What a call of a session adds to a trace opens no transaction twice, whatever cloud it is made on.
use Rattle.std.proofs.Common.{◌≡◌, ◌≤◌, ◌<◌, ◌+◌, ◌-◌, ℕ, List, [], ◌∷◌, ◌++◌, length, take, Option, Some, None, refl, sym, ap, subst, ◌∙◌, ◌⊎◌, ◌≢◌, inl, inr, arith}
use Rattle.std.specs.Prelude.{All, slice_get}
use Rattle.std.proofs.lemmas.List.{append-nil, take-append-le}
use Rattle.std.proofs.lemmas.Bool.{cases_eq}
use Rattle.std.proofs.lemmas.List.Elements.{All-nil}
use Rattle.cloud_facts.specs.Words.{Trouble, CommitAnswer, ObjName, AtomicRec, Head, Turn, More, Ended, Stopped, CloudState, called, Caller, Seen, Claim, Ask, Get, GetHeld, PutHeld, Send, Receive, Delete, Take, Renew, Release, Goes, Ends, at}
use Rattle.db_base.specs.declared.names.ObjName.TheVariants as object
use Rattle.db_base.specs.declared.trouble.Trouble.TheVariants as trouble
use Rattle.db_base.specs.declared.trouble.CommitAnswer.TheVariants.{Committed, NotCommitted, InDoubt, CommittedOpen}
use Rattle.cloud_trait.specs.declared.state.Landing.{Landing}
use Rattle.cloud_trait.specs.declared.state.Site.TheVariants.{Object, Queue}
use Rattle.cloud_trait.specs.Ask.{ListHeld, RemoveHeld, effect}
use Rattle.cloud_trait.specs.State.{landed, removed, sent}
use Rattle.cloud_trait.specs.Weather.{counted, Leaves}
use Rattle.cloud_trait.proofs.EffectLemmas.{effect_versions, effect_trace}
use Rattle.cloud_trait.proofs.RowLemmas.{row_by}
use Rattle.cloud_facts.proofs.Book.Names.{at_same, at_other}
use Rattle.cloud_facts.proofs.Book.Places.{get_cases, get_single}
use Rattle.head_codec.specs.declared.head.Phase.TheVariants as phase
use Rattle.head_codec.specs.Spelling.{head_of}
use Rattle.txn_buffer.specs.Noted.{Noted}
use Rattle.page_cache.specs.Cache.{Cache}
use Rattle.recover_run.specs.declared.home.Home.{Home}
use Rattle.commit_writes.specs.declared.stage.Stage.{Stage as CommitStage}
use Rattle.commit_writes.specs.declared.stage.Stage.TheVariants as commit
use Rattle.commit_writes.specs.Sound.{IsSoundAt as IsSoundWrite, SendsRecord, IsThere}
use Rattle.commit_writes.specs.Writing.{Writing, ask_at as writing_ask_at, send_ask, delete_ask}
use Rattle.commit_run.specs.declared.hand.Hand.{Hand}
use Rattle.commit_run.specs.declared.hand.Hand.TheVariants.{Writes, First, Change}
use Rattle.commit_run.specs.Run.{home_of, ask_at as run_ask_at, run_ask}
use Rattle.commit_run.specs.Sound.{IsSoundAt as IsSoundHand}
use Rattle.client_work.specs.declared.answer.Answer.{Answer}
use Rattle.client_work.specs.declared.answer.Answer.TheVariants as answer
use Rattle.client_work.specs.declared.listing.Listing.{Listing}
use Rattle.client_work.specs.declared.shown.Shown.{Shown}
use Rattle.client_work.specs.declared.work.Work.{Work}
use Rattle.client_work.specs.declared.work.Work.TheVariants.{Closed, Idle, Opening, Committing, Reading, Scanning, Looking, Paging, Folding, Closing, Renewing, Settling, Sweeping, Broken}
use Rattle.client_work.specs.Session.{Acting, closed_session, opening_of, Follows, StepsAt, ask_of_work, opened_work, committed_work, stopped_work, acting_of}
use Rattle.recover_run.specs.declared.stage.RecoverAnswer.TheVariants as opening
use Rattle.session_facts.specs.Rows.Asks.{MayAsk}
use Rattle.session_facts.specs.Sessions.HeadPuts.{IsSoundWork}
use Rattle.replay_meaning.specs.Standing.{Line, Closed as NotOpen, Working as Busy, Committing as Noting, Standing, standing, standing_of_row}
use Rattle.replay_meaning.specs.Committed.{Versions}
use Rattle.replay_meaning.specs.Kinds.{IsCommitting, CommitsFor, CommitsCount, IsOfWork, MayPutHead, MayPutPhase, LandsOpen}
use Rattle.session_facts.specs.Lines.Facts.{IsPlaced, WorksAs}
use Rattle.session_facts.specs.Sessions.Knows.{Sessions}
use Rattle.session_facts.specs.Lines.Running.{WritesAt, RunsAt}
use Rattle.session_facts.specs.Rows.Opened.{first_at, first_in, first_of, later_at, later_in, later_of, TakesAt, TakesIn, TakesNumber, IsHeadBelow, IsOpenedBy, MayHaveOpened, MayOpen, WorksFor, AllOpened, with_rows, AddsOpened, AddsOpenedTo, AddsNoneTwice, MayBeThere, AddsApart}
use Rattle.session_facts.proofs.Rows.Added.{effect_rows, effect_same}
use Rattle.session_facts.proofs.Rows.CallKinds.{HasCheckpoint, checkpoint_asks, errand_asks, call_kind}
use Rattle.session_facts.specs.Lines.Errands.{Errand, settles, sweeps, WorksOn, AreRowsOf}
use Rattle.event_text.specs.declared.event.Event.TheVariants as event
use Rattle.reply_text.specs.declared.reply.Reply.TheVariants as reply
use Rattle.session_facts.proofs.Lines.Committed.{placed_effect, now_standing}
use Rattle.session_facts.proofs.Rows.Once.{at_place, lands_same, sends_none, put_kept, own_client, opened_bytes, removes_none, once_same, once_effect, OpensUnopened}
use Rattle.session_facts.proofs.Machines.CommitRuns.Opened.{RunsFrom, run_goes_from}
use Rattle.session_facts.proofs.Machines.Openings.Stays.{OpensFor, opens_on}
use Rattle.session_facts.proofs.Machines.CommitRuns.Stays.{RunsFor, AnyAnswer, runs_on}
use Rattle.session_facts.proofs.Lines.Outcome.{MadeCall, made_call}
use Rattle.session_facts.proofs.Sessions.Led.{sound_of}

-- ---- rows

-- a call puts this open head of the client
abbrev pub PutsOpen : Ask → ℕ → Head → Type 0
PutsOpen (PutHeld (object.Head own) bytes one two) client head = (own ≡ client) × (head_of bytes ≡ Some head) × (count : ℕ) × (head.phase ≡ phase.Open count)
PutsOpen ask client head = ⊥

module _ (Is : ℕ → Head → Type 0) where
  all_same : (s t : CloudState) → t.versions ≡ s.versions → t.trace ≡ s.trace → AllOpened Is s → AllOpened Is t
  all_same s t v r h place row client head at lands = h place row client head (ap (λ (rows : List Landing). slice_get rows place) (sym r) ∙ at) (lands_same s t row client head v lands)

  -- one row more, which opens such a head or none
  all_more : (rows : List Landing) (row : Landing) (s t : CloudState) → t.trace ≡ rows ++ row ∷ [] → s.trace ≡ rows
      → ((i : ℕ) (a : Landing) (client : ℕ) (x : Head) → slice_get s.trace i ≡ Some a → LandsOpen t a client x → LandsOpen s a client x)
      → ((client : ℕ) (x : Head) → LandsOpen t row client x → Is client x) → AllOpened Is s → AllOpened Is t
  all_more rows row s t trace before old new h i a client x at lands = on (get_cases rows (row ∷ []) i a (ap (λ (rs : List Landing). slice_get rs i) (sym trace) ∙ at))
    where
      on : (slice_get rows i ≡ Some a) ⊎ ((k : ℕ) × (i ≡ length rows + k) × (slice_get (row ∷ []) k ≡ Some a)) → Is client x
      on (inl e) =
          let there : slice_get s.trace i ≡ Some a = ap (λ (rs : List Landing). slice_get rs i) before ∙ e in
          h i a client x there (old i a client x there lands)
      on (inr q) = new client x (subst (λ (z : Landing). LandsOpen t z client x) (sym (get_single row q.0 a q.2)) lands)

  put_is : (who : Caller) (name : ObjName) (bytes : List ℕ) (one : _) (two : _) (b : CloudState) (client : ℕ) (x : Head)
      → ((own : ℕ) (head : Head) → PutsOpen (PutHeld name bytes one two) own head → Is own head)
      → LandsOpen (landed who name bytes b) (record { who = who; site = Object name; position = length (b.versions name) + 1 }) client x → Is client x
  put_is who (object.Head own) bytes one two b client x puts o =
      let put : Some bytes ≡ Some o.bytes = opened_bytes who (object.Head own) (Some bytes) b client x o in
      let is : bytes ≡ o.bytes = cc in
      subst (λ c. Is c x) (own_client own client o.site) (puts own x (refl, ap head_of is ∙ o.spells, o.count, o.opens))
  put_is who (object.Tree tree) bytes one two b client x puts o = let never : Object (object.Tree tree) ≡ Object (object.Head client) = o.site in absurd (cc)
  put_is who (object.Page tree page) bytes one two b client x puts o = let never : Object (object.Page tree page) ≡ Object (object.Head client) = o.site in absurd (cc)

  all_effect : (who : Caller) (ask : Ask) (b : CloudState) → All (IsPlaced b.versions) b.trace → ((client : ℕ) (head : Head) → PutsOpen ask client head → Is client head)
      → AllOpened Is b → AllOpened Is (effect who ask b)
  all_effect who (PutHeld name bytes one two) b placed puts h =
      all_more b.trace (record { who = who; site = Object name; position = length (b.versions name) + 1 }) b (landed who name bytes b) refl refl
      (λ i a client x at. put_kept who name (Some bytes) b a client x (at_place (IsPlaced b.versions) b.trace i a placed at))
      (λ client x. put_is who name bytes one two b client x puts) h
  all_effect who (RemoveHeld name l) b placed puts h =
      all_more b.trace (record { who = who; site = Object name; position = length (b.versions name) + 1 }) b (removed who name b) refl refl
      (λ i a client x at. put_kept who name None b a client x (at_place (IsPlaced b.versions) b.trace i a placed at))
      (λ client x o. absurd (removes_none who name b client x o)) h
  all_effect who (Send queue bytes) b placed puts h =
      all_more b.trace (record { who = who; site = Queue queue; position = length (b.messages queue) + 1 }) b (sent who queue bytes b) refl refl
      (λ i a client x at. lands_same b (sent who queue bytes b) a client x refl)
      (λ client x o. absurd (sends_none (sent who queue bytes b) _ client x queue refl o)) h
  all_effect who (Get name) b placed puts h = h
  all_effect who (GetHeld name l) b placed puts h = h
  all_effect who (ListHeld tree l) b placed puts h = h
  all_effect who (Receive queue most) b placed puts h = h
  all_effect who (Delete queue id) b placed puts h = all_same b (effect who (Delete queue id) b) refl refl h
  all_effect who (Take lock ticks) b placed puts h = all_same b (effect who (Take lock ticks) b) refl refl h
  all_effect who (Renew l ticks) b placed puts h = all_same b (effect who (Renew l ticks) b) (effect_versions who (Renew l ticks) b tt) (effect_trace who (Renew l ticks) b tt) h
  all_effect who (Release l) b placed puts h = all_same b (effect who (Release l) b) (effect_versions who (Release l) b tt) (effect_trace who (Release l) b tt) h

-- what is new of the heads that were opened is new to the rows
unopened : (Is : ℕ → Head → Type 0) (b : CloudState) (ask : Ask) → AllOpened Is b
    → ((client : ℕ) (new old : Head) → PutsOpen ask client new → Is client old → old.epoch ≡ new.epoch → old.txn ≡ new.txn → ⊥) → OpensUnopened b ask
unopened Is b (PutHeld (object.Head client) bytes one two) h fresh = λ head count spells opens place row other at lands epoch txn.
    fresh client head other (refl, spells, count, opens) (h place row client other at lands) epoch txn
unopened Is b (PutHeld (object.Tree tree) bytes one two) h fresh = tt
unopened Is b (PutHeld (object.Page tree page) bytes one two) h fresh = tt
unopened Is b (Send queue bytes) h fresh = tt
unopened Is b (Get name) h fresh = tt
unopened Is b (GetHeld name l) h fresh = tt
unopened Is b (ListHeld tree l) h fresh = tt
unopened Is b (RemoveHeld name l) h fresh = tt
unopened Is b (Receive queue most) h fresh = tt
unopened Is b (Delete queue id) h fresh = tt
unopened Is b (Take lock ticks) h fresh = tt
unopened Is b (Renew l ticks) h fresh = tt
unopened Is b (Release l) h fresh = tt

-- ---- what is added

pub opened_nothing : (Is : ℕ → Head → Type 0) (t : CloudState) → AddsOpened Is t t
opened_nothing Is t = record {
  added = [];
  trace = sym (append-nil t.trace);
  placed = All-nil (IsPlaced t.versions);
  once = λ i j a b client x y at_i. absurd (nothing i a at_i);
  opened = λ place row client head at. absurd (nothing place row at);
}
  where
    nothing : (i : ℕ) (a : Landing) → (let none : List Landing = [] in slice_get none i ≡ Some a) → ⊥
    nothing i a h = absurd (cc)

pub opened_same : (Is : ℕ → Head → Type 0) (start s t : CloudState) → t.versions ≡ s.versions → t.trace ≡ s.trace → AddsOpened Is start s → AddsOpened Is start t
opened_same Is start s t v e h = record {
  added = h.added;
  trace = e ∙ h.trace;
  placed = subst (λ (vs : Versions). All (IsPlaced vs) h.added) (sym v) h.placed;
  once = once_same (with_rows s h.added) (with_rows t h.added) v refl h.once;
  opened = all_same Is (with_rows s h.added) (with_rows t h.added) v refl h.opened;
}

pub opened_weaker : (Is Also : ℕ → Head → Type 0) (start t : CloudState) → ((client : ℕ) (head : Head) → Is client head → Also client head) → AddsOpened Is start t → AddsOpened Also start t
opened_weaker Is Also start t weaker h = record {
  added = h.added;
  trace = h.trace;
  placed = h.placed;
  once = h.once;
  opened = λ place row client head at lands. weaker client head (h.opened place row client head at lands);
}

-- a call that opens a transaction which no row did
opened_effect : (Is Also : ℕ → Head → Type 0) (who : Caller) (ask : Ask) (start b : CloudState) → ((client : ℕ) (head : Head) → Is client head → Also client head)
    → ((client : ℕ) (head : Head) → PutsOpen ask client head → Also client head)
    → ((client : ℕ) (new old : Head) → PutsOpen ask client new → Is client old → old.epoch ≡ new.epoch → old.txn ≡ new.txn → ⊥)
    → AddsOpened Is start b → AddsOpened Also start (effect who ask b)
opened_effect Is Also who ask start b weaker puts fresh h = record {
  added = (effect who ask v).trace;
  trace = effect_rows who ask b start.trace h.added h.trace;
  placed = subst (λ (vs : Versions). All (IsPlaced vs) (effect who ask v).trace) (sym same) (placed_effect who ask v h.placed);
  once = once_same (effect who ask v) (with_rows (effect who ask b) (effect who ask v).trace) same refl
      (once_effect who ask v h.placed (unopened Is v ask h.opened fresh) h.once);
  opened = all_same Also (effect who ask v) (with_rows (effect who ask b) (effect who ask v).trace) same refl
      (all_effect Also who ask v h.placed puts (λ place row client head at lands. weaker client head (h.opened place row client head at lands)));
}
  where
    v : CloudState
    v = with_rows b h.added

    same : (effect who ask b).versions ≡ (effect who ask v).versions
    same = effect_same who ask b h.added

-- ---- the call in hand

-- what a call that puts an open head may do: its session is one of the client and commits
commits_to : (lines : List Line) (row : Landing) (ask : Ask) (client : ℕ) (head : Head) → MayAsk lines row ask → PutsOpen ask client head → CommitsFor client (standing_of_row lines row)
commits_to lines row (PutHeld (object.Head own) bytes one two) client head may (same, spells, count, opens) =
    let c : CommitsCount own count (standing_of_row lines row) = subst (MayPutPhase lines row own) opens (subst (MayPutHead lines row own) spells may) in
    record { commits = (c.changes, c.commits); own = c.own ∙ same }
commits_to lines row (PutHeld (object.Tree tree) bytes one two) client head may puts = absurd puts
commits_to lines row (PutHeld (object.Page tree page) bytes one two) client head may puts = absurd puts
commits_to lines row (Send queue bytes) client head may puts = absurd puts
commits_to lines row (Get name) client head may puts = absurd puts
commits_to lines row (GetHeld name l) client head may puts = absurd puts
commits_to lines row (ListHeld tree l) client head may puts = absurd puts
commits_to lines row (RemoveHeld name l) client head may puts = absurd puts
commits_to lines row (Receive queue most) client head may puts = absurd puts
commits_to lines row (Delete queue id) client head may puts = absurd puts
commits_to lines row (Take lock ticks) client head may puts = absurd puts
commits_to lines row (Renew l ticks) client head may puts = absurd puts
commits_to lines row (Release l) client head may puts = absurd puts

-- the open head that a commit puts is its home's, of the number that it took: the first that it may open, and none behind the put
record OpensOwn (home : Home) (first later : ℕ) (head : Head) : Type 0 where
  epoch_is : head.epoch ≡ home.head.epoch
  txn_is : head.txn ≡ first
  behind : first < later

opens_own : (w : Writing) (client : ℕ) (head : Head) (stage : CommitStage) → WritesAt stage w → TakesAt stage w → IsSoundWrite stage w → PutsOpen (writing_ask_at stage w) client head
    → OpensOwn w.home (first_at stage w) (later_at stage w) head
opens_own w client head commit.Waiting at takes sound puts = absurd at
opens_own w client head commit.Logging at takes sound puts = absurd puts
opens_own w client head commit.Opening at takes sound (same, spells, count, opens) =
    let found : Some w.home.head ≡ Some head = sym sound ∙ spells in
    let own : head ≡ w.home.head = cc in
    record { epoch_is = ap (λ (h : Head). h.epoch) own; txn_is = ap (λ (h : Head). h.txn) own ∙ takes; behind = omega arith }
opens_own w client head commit.Sending at takes sound puts = on (slice_get w.records w.place) sound puts
  where
    on : (o : Option AtomicRec) → SendsRecord w o → PutsOpen (send_ask w o) client head → OpensOwn w.home (w.home.attempt + 1) (w.home.attempt + 1) head
    on (Some r) sound puts = absurd puts
    on None sound puts = absurd sound
opens_own w client head commit.Settling at takes sound (same, spells, count, opens) =
    let found : Some w.home.head ≡ Some head = sym sound ∙ spells in
    let own : w.home.head ≡ head = cc in
    let never : phase.Settled ≡ phase.Open count = sym at ∙ ap (λ (h : Head). h.phase) own ∙ opens in
    absurd (cc)
opens_own w client head commit.Deleting at takes sound puts = on (slice_get w.ids w.place) sound puts
  where
    on : (o : Option ℕ) → IsThere o → PutsOpen (delete_ask w o) client head → OpensOwn w.home (w.home.attempt + 1) (w.home.attempt + 1) head
    on (Some id) sound puts = absurd puts
    on None sound puts = absurd sound
opens_own w client head commit.Finished at takes sound puts = absurd at

run_opens_own : (w : Writing) (client : ℕ) (head : Head) (hand : Hand) → RunsAt hand w → TakesIn hand w → IsSoundHand hand w → PutsOpen (run_ask_at hand w) client head
    → OpensOwn w.home (first_in hand w) (later_in hand w) head
run_opens_own w client head Writes at takes sound puts = opens_own w client head w.stage at takes sound puts
run_opens_own w client head (First walk) at takes sound puts = absurd puts
run_opens_own w client head (Change walk) at takes sound puts = absurd puts

-- what stood before a call may be there behind it
later_from : (stage : CommitStage) (w : Writing) → first_at stage w ≤ later_at stage w
later_from commit.Waiting w = omega arith
later_from commit.Logging w = omega arith
later_from commit.Opening w = omega arith
later_from commit.Sending w = omega arith
later_from commit.Settling w = omega arith
later_from commit.Deleting w = omega arith
later_from commit.Finished w = omega arith

later_in_from : (hand : Hand) (w : Writing) → first_in hand w ≤ later_in hand w
later_in_from Writes w = later_from w.stage w
later_in_from (First walk) w = omega arith
later_in_from (Change walk) w = omega arith

opened_stays : (w : Work) (head : Head) → MayHaveOpened w head → MayOpen w head
opened_stays (Committing r) head h = let le = later_in_from r.hand r.draft.writes in (h.0, omega (arith, h.1, le))
opened_stays (Opening r) head h = h
opened_stays (Idle home) head h = h
opened_stays (Reading home m) head h = h
opened_stays (Scanning home l) head h = h
opened_stays (Looking home m) head h = h
opened_stays (Paging home p) head h = h
opened_stays (Folding home f) head h = h
opened_stays (Renewing home) head h = h
opened_stays Closed head h = h
opened_stays (Closing lease) head h = h
opened_stays (Settling m) head h = h
opened_stays (Sweeping m) head h = h
opened_stays (Broken lease) head h = h

-- the head is one that the session may open with its call, for its own client, and none that it opened before
record OpensNew (w : Work) (client : ℕ) (new : Head) : Type 0 where
  works : WorksFor client w
  may : MayOpen w new
  fresh : (old : Head) → MayHaveOpened w old → old.epoch ≡ new.epoch → old.txn ≡ new.txn → ⊥

-- a session that commits by the lines has a commit in hand
call_new : (w : Work) (s : Standing) (ask : Ask) (client : ℕ) (head : Head) → WorksAs w s → CommitsFor client s → TakesNumber w → IsSoundWork w → ask_of_work w ≡ Some ask → PutsOpen ask client head
    → OpensNew w client head
call_new w s ask client head acts for takes sound e puts = on w acts for.commits takes sound e
  where
    on : (w : Work) → WorksAs w s → IsCommitting s → TakesNumber w → IsSoundWork w → ask_of_work w ≡ Some ask → OpensNew w client head
    on (Committing r) acts commits takes sound e =
        let is : run_ask r ≡ ask = cc in
        let own : OpensOwn (home_of r) (first_of r) (later_of r) head =
        run_opens_own r.draft.writes client head r.hand acts.2 takes sound (subst (λ a. PutsOpen a client head) (sym is) puts) in
        record {
          works = sym acts.1 ∙ for.own;
          may = (own.epoch_is, omega (arith, own.txn_is, own.behind));
          fresh = λ old before epoch txn. let below = before.1 in let at = own.txn_is in absurd (omega (arith, below, at, txn));
        }
    on (Opening r) acts (changes, commits) takes sound e = let is = acts.0 in absurd (cc)
    on (Idle home) acts (changes, commits) takes sound e = absurd (cc)
    on (Reading home m) acts (changes, commits) takes sound e = let is = acts.0 in absurd (cc)
    on (Scanning home l) acts (changes, commits) takes sound e = let is = acts.0 in absurd (cc)
    on (Looking home m) acts (changes, commits) takes sound e = let is = acts.0 in absurd (cc)
    on (Paging home p) acts (changes, commits) takes sound e = let is = acts.0 in absurd (cc)
    on (Folding home f) acts (changes, commits) takes sound e = let is = acts.0 in absurd (cc)
    on (Renewing home) acts (changes, commits) takes sound e = let is = acts.0 in absurd (cc)
    on Closed acts (changes, commits) takes sound e = absurd (cc)
    on (Closing lease) acts (changes, commits) takes sound e = absurd (cc)
    on (Settling m) acts commits takes sound e = absurd acts
    on (Sweeping m) acts commits takes sound e = absurd acts
    on (Broken lease) acts (changes, commits) takes sound e = absurd (cc)

-- ---- where a step leads

-- what is in hand then may have opened such heads, puts no head but of the number that it took, and works for such a client alone
abbrev pub LeadsOpened : (ℕ → Type 0) → (Head → Type 0) → Work → Type 0
LeadsOpened Was Is new = ((head : Head) → Is head → MayHaveOpened new head) × TakesNumber new × ((client : ℕ) → WorksFor client new → Was client)

same_leads : (Was : ℕ → Type 0) (Is : Head → Type 0) (w new : Work) → new ≡ w → LeadsOpened Was Is w → LeadsOpened Was Is new
same_leads Was Is w new e h = subst (LeadsOpened Was Is) (sym e) h

-- a home's own client
abbrev pub IsOwn : Home → ℕ → Type 0
IsOwn home client = home.client ≡ client

abbrev pub LeadsHome : Home → Work → Type 0
LeadsHome home new = LeadsOpened (IsOwn home) (IsOpenedBy home) new

own_leads : (home : Home) (w new : Work) → new ≡ w → LeadsHome home w → LeadsHome home new
own_leads home w new e h = same_leads (IsOwn home) (IsOpenedBy home) w new e h

pub idle_leads : (home : Home) → LeadsHome home (Idle home)
idle_leads home = (λ head h. h, tt, λ client h. h)

pub stopped_leads : (t : Trouble) (home : Home) → LeadsHome home (stopped_work t home)
stopped_leads trouble.Memory home = (λ head h. tt, tt, λ client h. absurd h)
stopped_leads t home = (λ head h. h, tt, λ client h. h)

commit_leads : (a : CommitAnswer) (home : Home) (Was : ℕ → Type 0) (Is : Head → Type 0) → ((head : Head) → Is head → IsOpenedBy home head) → ((client : ℕ) → IsOwn home client → Was client)
    → LeadsOpened Was Is (committed_work a home)
commit_leads InDoubt home Was Is so for = (λ head h. tt, tt, λ client h. absurd h)
commit_leads (CommittedOpen t) home Was Is so for = (λ head h. tt, tt, λ client h. absurd h)
commit_leads (Committed txn) home Was Is so for = (so, tt, for)
commit_leads (NotCommitted t) home Was Is so for = (so, tt, for)

-- a bound that is not above another
below_later : (epoch bound own next : ℕ) (head : Head) → own ≡ epoch → bound ≤ next → IsHeadBelow epoch bound head → IsHeadBelow own next head
below_later epoch bound own next head e le h = (h.0 ∙ sym e, omega (arith, h.1, le))

-- a scan
pub scan_leads : (home : Home) (buffer : List Noted) (l : Listing) (d : Cache) (moved : Turn ℕ) (new : Work) (shows : Shown) (turn : Turn Answer) → Follows home l moved (acting_of buffer new d shows) turn
    → LeadsHome home new
scan_leads home buffer l d More new shows turn f = own_leads home (Scanning home l) new f.0 (λ head h. h, tt, λ client h. h)
scan_leads home buffer l d (Ended page) new shows More (all, listed, goes, is, nothing) = own_leads home (Scanning home _) new is (λ head h. h, tt, λ client h. h)
scan_leads home buffer l d (Ended page) new shows (Ended answer.Scan) (all, listed, over, is, shown) = own_leads home (Idle home) new is (idle_leads home)
scan_leads home buffer l d (Ended page) new shows (Ended (answer.Trouble t)) f = own_leads home (Broken home.lease) new f.1 (λ head h. tt, tt, λ client h. absurd h)
scan_leads home buffer l d (Ended page) new shows turn f = absurd f
scan_leads home buffer l d (Stopped t) new shows turn f = own_leads home (stopped_work t home) new f.0 (stopped_leads t home)

-- none was opened
pub none_leads : (Was : ℕ → Type 0) (new : Work) → TakesNumber new → ((client : ℕ) → WorksFor client new → Was client) → LeadsOpened Was (λ (head : Head). ⊥) new
none_leads Was new takes for = (λ head h. absurd h, takes, for)

-- a session that is not open any more
pub away_leads : (Was : ℕ → Type 0) (Is : Head → Type 0) (w new : Work) → new ≡ w → ((head : Head) → MayHaveOpened w head) → TakesNumber w → ((client : ℕ) → WorksFor client w → ⊥) → LeadsOpened Was Is new
away_leads Was Is w new e may takes none = same_leads Was Is w new e (λ head h. may head, takes, λ client h. absurd (none client h))

pub closed_leads : (Was : ℕ → Type 0) (Is : Head → Type 0) (new : Work) → new ≡ Closed → LeadsOpened Was Is new
closed_leads Was Is new e = away_leads Was Is Closed new e (λ head. tt) tt (λ client h. h)

abbrev LeadsFrom : Work → Work → Type 0
LeadsFrom w new = LeadsOpened (λ client. WorksFor client w) (MayOpen w) new

step_leads : (who : Caller) (before after : Seen) (w new : Work) (turn : Turn Answer) (s : Standing) → WorksAs w s → StepsAt who before after w new turn → LeadsFrom w new
step_leads who before after (Opening m) new More s acts (sound, p) =
    let on : OpensFor m.client (Goes p.0) = subst (OpensFor m.client) p.1.took (opens_on m p.1.answer acts.3) in
    same_leads _ _ (Opening p.0) new p.2 (none_leads _ (Opening p.0) tt (λ client h. sym on.0 ∙ h))
step_leads who before after (Opening m) new (Ended (answer.Opened epoch)) s acts (sound, p) =
    let end : OpensFor m.client (Ends p.0 (opening.Opened epoch)) = subst (OpensFor m.client) p.1.took (opens_on m p.1.answer acts.3) in
    same_leads _ _ (Idle end.0) new (p.2 ∙ ap opened_work end.1) (none_leads _ (Idle end.0) tt (λ client h. sym end.2 ∙ h))
step_leads who before after (Opening m) new (Ended (answer.Trouble k)) s acts (sound, p) = closed_leads _ _ new p.2
step_leads who before after (Opening m) new turn s acts p = absurd p.1
step_leads who before after (Committing m) new More s acts (sound, c, d, p) =
    let on : RunsFrom (home_of m).head.epoch (later_of m) (Goes (p.0, d)) = subst (RunsFrom (home_of m).head.epoch (later_of m)) p.1.took (run_goes_from (m, c) p.1.answer) in
    let own : RunsFor AnyAnswer m.draft.writes.changes (home_of m).client (Goes (p.0, d)) =
    subst (RunsFor AnyAnswer m.draft.writes.changes (home_of m).client) p.1.took (runs_on (m, c) p.1.answer acts.2) in
    same_leads _ _ (Committing p.0) new p.2
    (λ head. below_later (home_of m).head.epoch (later_of m) (home_of p.0).head.epoch (first_of p.0) head on.0 on.1, on.2, λ client h. sym own.1 ∙ h)
step_leads who before after (Committing m) new (Ended (answer.Commit a)) s acts (sound, c, d, p) =
    let end : RunsFrom (home_of m).head.epoch (later_of m) (Ends (p.0, d) a) = subst (RunsFrom (home_of m).head.epoch (later_of m)) p.1.took (run_goes_from (m, c) p.1.answer) in
    let own : RunsFor AnyAnswer m.draft.writes.changes (home_of m).client (Ends (p.0, d) a) =
    subst (RunsFor AnyAnswer m.draft.writes.changes (home_of m).client) p.1.took (runs_on (m, c) p.1.answer acts.2) in
    same_leads _ _ (committed_work a (home_of p.0)) new p.2
    (commit_leads a (home_of p.0) _ _
    (λ head. below_later (home_of m).head.epoch (later_of m) (home_of p.0).head.epoch ((home_of p.0).attempt + 1) head end.0 end.1) (λ client h. sym own.0 ∙ h))
step_leads who before after (Committing m) new (Ended (answer.Trouble k)) s acts (sound, c, d, p) =
    away_leads _ _ (Broken (home_of p.0).lease) new p.2 (λ head. tt) tt (λ client h. h)
step_leads who before after (Committing m) new turn s acts (sound, c, d, p) = absurd p
step_leads who before after (Reading home m) new More s acts p = own_leads home (Reading home p.0) new p.2 (λ head h. h, tt, λ client h. h)
step_leads who before after (Reading home m) new (Ended answer.Value) s acts p = own_leads home (Idle home) new p.1 (idle_leads home)
step_leads who before after (Reading home m) new (Ended (answer.Trouble k)) s acts p = own_leads home (stopped_work k home) new p.1 (stopped_leads k home)
step_leads who before after (Reading home m) new turn s acts p = absurd p
step_leads who before after (Scanning home m) new turn s acts (buffer, c, d, shown, p) =
    scan_leads home buffer (record { scan = p.scan; pairs = m.pairs }) d p.moved new shown turn p.follows
step_leads who before after (Looking home m) new More s acts (buffer, c, d, shown, (n, steps, is, none, less)) =
    own_leads home (Looking home n) new is (λ head h. h, tt, λ client h. h)
step_leads who before after (Looking home m) new (Ended answer.Scan) s acts (buffer, c, d, shown, (n, steps, is, some)) = own_leads home (Idle home) new is (idle_leads home)
step_leads who before after (Looking home m) new (Ended (answer.Trouble k)) s acts (buffer, c, d, shown, (n, steps, is, none)) =
    own_leads home (stopped_work k home) new is (stopped_leads k home)
step_leads who before after (Looking home m) new turn s acts (buffer, c, d, shown, never) = absurd never
step_leads who before after (Paging home m) new More s acts p = own_leads home (Paging home p.0) new p.2 (λ head h. h, tt, λ client h. h)
step_leads who before after (Paging home m) new (Ended (answer.Done n)) s acts p = own_leads home (Idle home) new p.2 (idle_leads home)
step_leads who before after (Paging home m) new (Ended (answer.Trouble k)) s acts p = own_leads home (stopped_work k home) new p.2 (stopped_leads k home)
step_leads who before after (Paging home m) new turn s acts p = absurd p
step_leads who before after (Folding home f) new More s acts p = own_leads home (Folding home p.0) new p.2 (λ head h. h, tt, λ client h. h)
step_leads who before after (Folding home f) new (Ended (answer.Done n)) s acts p = own_leads home (Idle home) new p.2 (idle_leads home)
step_leads who before after (Folding home f) new (Ended (answer.Trouble k)) s acts p = own_leads home (stopped_work k home) new p.2 (stopped_leads k home)
step_leads who before after (Folding home f) new turn s acts p = absurd p
step_leads who before after (Closing lease) new (Ended answer.Closed) s acts p = closed_leads _ _ new p.1
step_leads who before after (Closing lease) new (Ended (answer.Trouble k)) s acts p = closed_leads _ _ new p.1
step_leads who before after (Closing lease) new turn s acts p = absurd p
step_leads who before after (Renewing home) new (Ended (answer.Renewed end)) s acts p =
    own_leads home (Idle p.0) new p.2 (subst (λ (z : Home). LeadsHome home (Idle z)) (sym p.1.home) (idle_leads (record home { lease = p.0.lease })))
step_leads who before after (Renewing home) new (Ended (answer.Trouble k)) s acts p =
    own_leads home (stopped_work k p.0) new p.2 (subst (λ (z : Home). LeadsHome home (stopped_work k z)) (sym p.1.home) (stopped_leads k (record home { lease = p.0.lease })))
step_leads who before after (Renewing home) new turn s acts p = absurd p
step_leads who before after (Settling m) new turn s acts p = absurd acts
step_leads who before after (Sweeping m) new turn s acts p = absurd acts
step_leads who before after Closed new turn s acts p = absurd p
step_leads who before after (Idle home) new turn s acts p = absurd p
step_leads who before after (Broken lease) new turn s acts p = absurd p

-- what session 0 on an errand leads to works for no client
errand_leads : (errand : Errand) (who : Caller) (before after : Seen) (w new : Work) (turn : Turn Answer) → WorksOn errand w → StepsAt who before after w new turn → LeadsFrom w new
errand_leads settles who before after (Settling m) new More works (sound, p) = away_leads _ _ (Settling p.0) new p.2 (λ head. tt) tt (λ client h. h)
errand_leads settles who before after (Settling m) new (Ended (answer.Settled n)) works (sound, p) = closed_leads _ _ new p.2
errand_leads settles who before after (Settling m) new (Ended (answer.Trouble k)) works (sound, p) = closed_leads _ _ new p.2
errand_leads settles who before after (Settling m) new turn works p = absurd p.1
errand_leads (sweeps tree) who before after (Sweeping m) new More works p = away_leads _ _ (Sweeping p.0) new p.2 (λ head. tt) tt (λ client h. h)
errand_leads (sweeps tree) who before after (Sweeping m) new (Ended (answer.Swept x)) works p = closed_leads _ _ new p.2
errand_leads (sweeps tree) who before after (Sweeping m) new (Ended (answer.Trouble k)) works p = closed_leads _ _ new p.2
errand_leads (sweeps tree) who before after (Sweeping m) new turn works p = absurd p
errand_leads errand who before after w new turn works p = absurd works

-- what a checkpoint leads to works for the client that it worked for
checkpoint_leads : (who : Caller) (before after : Seen) (home : Home) (w new : Work) (turn : Turn Answer) → HasCheckpoint home w → StepsAt who before after w new turn → LeadsFrom w new
checkpoint_leads who before after home (Paging h m) new More is p = own_leads h (Paging h p.0) new p.2 (λ head k. k, tt, λ client k. k)
checkpoint_leads who before after home (Paging h m) new (Ended (answer.Done n)) is p = own_leads h (Idle h) new p.2 (idle_leads h)
checkpoint_leads who before after home (Paging h m) new (Ended (answer.Trouble k)) is p = own_leads h (stopped_work k h) new p.2 (stopped_leads k h)
checkpoint_leads who before after home (Paging h m) new turn is p = absurd p
checkpoint_leads who before after home (Folding h f) new More is p = own_leads h (Folding h p.0) new p.2 (λ head k. k, tt, λ client k. k)
checkpoint_leads who before after home (Folding h f) new (Ended (answer.Done n)) is p = own_leads h (Idle h) new p.2 (idle_leads h)
checkpoint_leads who before after home (Folding h f) new (Ended (answer.Trouble k)) is p = own_leads h (stopped_work k h) new p.2 (stopped_leads k h)
checkpoint_leads who before after home (Folding h f) new turn is p = absurd p
checkpoint_leads who before after home w new turn is p = absurd is

-- ---- one session changes

module _ (Was : ℕ → Type 0) (f : Sessions) (k : ℕ) (b : Acting) (Is : Head → Type 0) (leads : LeadsOpened (λ client. WorksFor client (f k).work) Is b.work) where
  abbrev g : Sessions
  g = at k b f

  -- each works for whom it worked before
  works_before : (j client : ℕ) → WorksFor client (g j).work → WorksFor client (f j).work
  works_before j client = on (cases_eq j k)
    where
      on : (j ≡ k) ⊎ (j ≢ k) → WorksFor client (g j).work → WorksFor client (f j).work
      on (inl e) works =
          subst (λ i. WorksFor client (f i).work) (sym e) (leads.2 client (subst (λ (a : Acting). WorksFor client a.work) (at_same k b f j e) works))
      on (inr ne) works = subst (λ (a : Acting). WorksFor client a.work) (at_other k b f j ne) works

  -- a head that such a session may have opened, or another one
  there_then : (client : ℕ) (head : Head) → Was client → (WorksFor client (f k).work → Is head)
      → ((j : ℕ) → j ≢ k → WorksFor client (f j).work → MayHaveOpened (f j).work head) → MayBeThere Was g client head
  there_then client head known mine others = record { known = known; own = λ j. on j (cases_eq j k) }
    where
      on : (j : ℕ) → (j ≡ k) ⊎ (j ≢ k) → WorksFor client (g j).work → MayHaveOpened (g j).work head
      on j (inl e) works =
          let same : g j ≡ b = at_same k b f j e in
          subst (λ (a : Acting). MayHaveOpened a.work head) (sym same)
          (leads.0 head (mine (leads.2 client (subst (λ (a : Acting). WorksFor client a.work) same works))))
      on j (inr ne) works =
          let same : g j ≡ f j = at_other k b f j ne in
          subst (λ (a : Acting). MayHaveOpened a.work head) (sym same) (others j ne (subst (λ (a : Acting). WorksFor client a.work) same works))

  takes_then : ((j : ℕ) → TakesNumber (f j).work) → (j : ℕ) → TakesNumber (g j).work
  takes_then takes j = on (cases_eq j k)
    where
      on : (j ≡ k) ⊎ (j ≢ k) → TakesNumber (g j).work
      on (inl e) = subst (λ (a : Acting). TakesNumber a.work) (sym (at_same k b f j e)) leads.1
      on (inr ne) = subst (λ (a : Acting). TakesNumber a.work) (sym (at_other k b f j ne)) (takes j)

  with_rows_then : (start : CloudState) (before after : Seen) → AddsApart Was start f before → AddsOpenedTo (MayBeThere Was g) start after → AddsApart Was start g after
  with_rows_then start before after h rows = record {
    rows = rows;
    takes = takes_then h.takes;
    known = λ j client works. h.known j client (works_before j client works);
    apart = λ i j client one two. h.apart i j client (works_before i client one) (works_before j client two);
  }

-- without a call
pub apart_changes : (Was : ℕ → Type 0) (f : Sessions) (k : ℕ) (b : Acting) (start : CloudState) (seen : Seen)
    → LeadsOpened (λ client. WorksFor client (f k).work) (MayHaveOpened (f k).work) b.work → AddsApart Was start f seen → AddsApart Was start (at k b f) seen
apart_changes Was f k b start seen leads h =
    with_rows_then Was f k b _ leads start seen seen h (record {
      state = h.rows.state;
      told = h.rows.told;
      adds = opened_weaker (MayBeThere Was f) (MayBeThere Was (at k b f)) start h.rows.state
          (λ client head m. there_then Was f k b _ leads client head m.known (m.own k) (λ j ne. m.own j)) h.rows.adds;
    })

-- more clients that were opened
pub apart_more : (Was Also : ℕ → Type 0) (start : CloudState) (f : Sessions) (seen : Seen) → ((client : ℕ) → Was client → Also client) → AddsApart Was start f seen → AddsApart Also start f seen
apart_more Was Also start f seen more h = record {
  rows = record {
    state = h.rows.state;
    told = h.rows.told;
    adds = opened_weaker (MayBeThere Was f) (MayBeThere Also f) start h.rows.state (λ client head m. record { known = more client m.known; own = m.own }) h.rows.adds;
  };
  takes = h.takes;
  known = λ j client works. more client (h.known j client works);
  apart = h.apart;
}

-- sessions that are the same
pub apart_same : (Was : ℕ → Type 0) (start : CloudState) (f g : Sessions) (seen : Seen) → ((j : ℕ) → g j ≡ f j) → AddsApart Was start f seen → AddsApart Was start g seen
apart_same Was start f g seen same h = record {
  rows = record {
    state = h.rows.state;
    told = h.rows.told;
    adds = opened_weaker (MayBeThere Was f) (MayBeThere Was g) start h.rows.state
        (λ client head m. record { known = m.known; own = λ j works. subst (λ (a : Acting). MayHaveOpened a.work head) (sym (same j)) (m.own j (was j client works)) }) h.rows.adds;
  };
  takes = λ j. subst (λ (a : Acting). TakesNumber a.work) (sym (same j)) (h.takes j);
  known = λ j client works. h.known j client (was j client works);
  apart = λ i j client one two. h.apart i j client (was i client one) (was j client two);
}
  where
    was : (j client : ℕ) → WorksFor client (g j).work → WorksFor client (f j).work
    was j client = subst (λ (a : Acting). WorksFor client a.work) (same j)

-- rows that are the same
pub apart_rows : (Was : ℕ → Type 0) (start : CloudState) (f : Sessions) (before after : Seen) → (h : AddsApart Was start f before) → (t : CloudState) → after.state ≡ Some t
    → t.versions ≡ h.rows.state.versions → t.trace ≡ h.rows.state.trace → AddsApart Was start f after
apart_rows Was start f before after h t told versions trace = record {
  rows = record { state = t; told = told; adds = opened_same (MayBeThere Was f) start h.rows.state t versions trace h.rows.adds };
  takes = h.takes;
  known = h.known;
  apart = h.apart;
}

-- before any session works for a client
pub apart_nothing : (Was : ℕ → Type 0) (t : CloudState) (f : Sessions) (seen : Seen) → seen.state ≡ Some t → ((j : ℕ) → f j ≡ closed_session) → AddsApart Was t f seen
apart_nothing Was t f seen told closed = record {
  rows = record { state = t; told = told; adds = opened_nothing (MayBeThere Was f) t };
  takes = λ j. subst (λ (a : Acting). TakesNumber a.work) (sym (closed j)) tt;
  known = λ j client works. absurd (none j client works);
  apart = λ i j client one two. absurd (none i client one);
}
  where
    none : (j client : ℕ) → WorksFor client (f j).work → ⊥
    none j client = subst (λ (a : Acting). WorksFor client a.work) (closed j)

-- a session opens a client that none opened before
module _ (Was : ℕ → Type 0) (f : Sessions) (k : ℕ) (b : Acting) (client : ℕ) (lease : Option Claim) (opens : b.work ≡ opening_of client lease) (new : Was client → ⊥) where
  abbrev opened : Sessions
  opened = at k b f

  -- the session works for the client, and each other one for whom it worked before
  opened_for : (j other : ℕ) → WorksFor other (opened j).work → ((j ≡ k) × (other ≡ client)) ⊎ ((j ≢ k) × WorksFor other (f j).work)
  opened_for j other = on (cases_eq j k)
    where
      on : (j ≡ k) ⊎ (j ≢ k) → WorksFor other (opened j).work → ((j ≡ k) × (other ≡ client)) ⊎ ((j ≢ k) × WorksFor other (f j).work)
      on (inl e) works = inl (e, sym (subst (WorksFor other) opens (subst (λ (a : Acting). WorksFor other a.work) (at_same k b f j e) works)))
      on (inr ne) works = inr (ne, subst (λ (a : Acting). WorksFor other a.work) (at_other k b f j ne) works)

  opening_there : (other : ℕ) (head : Head) → MayBeThere Was f other head → MayBeThere (λ c. Was c ⊎ (c ≡ client)) opened other head
  opening_there other head m = record { known = inl m.known; own = λ j works. on j (opened_for j other works) }
    where
      on : (j : ℕ) → ((j ≡ k) × (other ≡ client)) ⊎ ((j ≢ k) × WorksFor other (f j).work) → MayHaveOpened (opened j).work head
      on j (inl (e, same)) = absurd (new (subst Was same m.known))
      on j (inr (ne, works)) = subst (λ (a : Acting). MayHaveOpened a.work head) (sym (at_other k b f j ne)) (m.own j works)

  opening_takes : ((j : ℕ) → TakesNumber (f j).work) → (j : ℕ) → TakesNumber (opened j).work
  opening_takes takes j = on (cases_eq j k)
    where
      on : (j ≡ k) ⊎ (j ≢ k) → TakesNumber (opened j).work
      on (inl e) = subst (λ (a : Acting). TakesNumber a.work) (sym (at_same k b f j e)) (subst TakesNumber (sym opens) tt)
      on (inr ne) = subst (λ (a : Acting). TakesNumber a.work) (sym (at_other k b f j ne)) (takes j)

  module _ (start : CloudState) (seen : Seen) (h : AddsApart Was start f seen) where
    opening_known : (j other : ℕ) → WorksFor other (opened j).work → Was other ⊎ (other ≡ client)
    opening_known j other works = on (opened_for j other works)
      where
        on : ((j ≡ k) × (other ≡ client)) ⊎ ((j ≢ k) × WorksFor other (f j).work) → Was other ⊎ (other ≡ client)
        on (inl (e, same)) = inr same
        on (inr (ne, works)) = inl (h.known j other works)

    opening_only : (i j other : ℕ) → WorksFor other (opened i).work → WorksFor other (opened j).work → i ≡ j
    opening_only i j other one two = on (opened_for i other one) (opened_for j other two)
      where
        -- nobody else works for the client
        never : (m : ℕ) → other ≡ client → WorksFor other (f m).work → ⊥
        never m same works = new (subst Was same (h.known m other works))

        on : ((i ≡ k) × (other ≡ client)) ⊎ ((i ≢ k) × WorksFor other (f i).work) → ((j ≡ k) × (other ≡ client)) ⊎ ((j ≢ k) × WorksFor other (f j).work) → i ≡ j
        on (inl (e, same)) (inl (g, also)) = e ∙ sym g
        on (inl (e, same)) (inr (ne, works)) = absurd (never j same works)
        on (inr (ne, works)) (inl (e, same)) = absurd (never i same works)
        on (inr (ne, works)) (inr (other_ne, also)) = h.apart i j other works also

    pub opening_apart : AddsApart (λ c. Was c ⊎ (c ≡ client)) start (at k b f) seen
    opening_apart = record {
      rows = record {
        state = h.rows.state;
        told = h.rows.told;
        adds = opened_weaker (MayBeThere Was f) (MayBeThere (λ c. Was c ⊎ (c ≡ client)) opened) start h.rows.state opening_there h.rows.adds;
      };
      takes = opening_takes h.takes;
      known = opening_known;
      apart = opening_only;
    }

-- no two of the rows that were added open one transaction
pub apart_none_twice : (Was : ℕ → Type 0) (start : CloudState) (f : Sessions) (seen : Seen) → AddsApart Was start f seen → AddsNoneTwice start seen
apart_none_twice Was start f seen h = record {
  state = h.rows.state;
  told = h.rows.told;
  added = h.rows.adds.added;
  trace = h.rows.adds.trace;
  once = h.rows.adds.once;
}

-- ---- a call of a session

-- one that opens no transaction but a new one of the session's own client
module _ (Was : ℕ → Type 0) (who : Caller) (before after : Seen) (start : CloudState) (f : Sessions) (b : Acting) (leads : LeadsFrom (f who.session).work b.work)
    (call : MadeCall who before after (f who.session).work) (opens : (client : ℕ) (head : Head) → PutsOpen call.ask client head → OpensNew (f who.session).work client head)
    (h : AddsApart Was start f before) where
  abbrev then : Sessions
  then = at who.session b f

  abbrev x : CloudState
  x = h.rows.state

  abbrev l : Leaves who call.ask call.answer (counted before.counts x) after.counts after.state
  l = call.made.state x h.rows.told

  abbrev b0 : CloudState
  b0 = called who l.after.now x

  begun : AddsOpened (MayBeThere Was f) start b0
  begun = opened_same (MayBeThere Was f) start x b0 refl refl h.rows.adds

  stays_there : (client : ℕ) (head : Head) → MayBeThere Was f client head → MayBeThere Was then client head
  stays_there client head m =
      there_then Was f who.session b _ leads client head m.known (λ works. opened_stays (f who.session).work head (m.own who.session works)) (λ j ne. m.own j)

  new_there : (client : ℕ) (head : Head) → PutsOpen call.ask client head → MayBeThere Was then client head
  new_there client head puts =
      let o = opens client head puts in
      there_then Was f who.session b _ leads client head (h.known who.session client o.works) (λ works. o.may)
      (λ j ne works. absurd (ne (h.apart j who.session client works o.works)))

  fresh : (client : ℕ) (new old : Head) → PutsOpen call.ask client new → MayBeThere Was f client old → old.epoch ≡ new.epoch → old.txn ≡ new.txn → ⊥
  fresh client new old puts m = let o = opens client new puts in o.fresh old (m.own who.session o.works)

  called_apart : AddsApart Was start then after
  called_apart =
      with_rows_then Was f who.session b _ leads start before after h (record {
        state = l.after;
        told = l.told;
        adds = row_by (AddsOpened (MayBeThere Was then) start) who call.ask call.answer before.counts after.counts b0 l.after l.row
            (opened_weaker (MayBeThere Was f) (MayBeThere Was then) start b0 stays_there begun)
            (λ permits. opened_effect (MayBeThere Was f) (MayBeThere Was then) who call.ask start b0 stays_there new_there fresh begun);
      })

-- a step of a session that works as the lines say
pub session_apart : (Was : ℕ → Type 0) (lines : List Line) (who : Caller) (before after : Seen) (start : CloudState) (f : Sessions) (b : Acting) (turn : Turn Answer)
    → who.event ≡ length lines + 1 → WorksAs (f who.session).work (standing lines who.session) → StepsAt who before after (f who.session).work b.work turn
    → AddsApart Was start f before → AddsApart Was start (at who.session b f) after
session_apart Was lines who before after start f b turn event acts p h =
    called_apart Was who before after start f b (step_leads who before after w b.work turn (standing lines who.session) acts p) call opens h
  where
    w : Work
    w = (f who.session).work

    call : MadeCall who before after w
    call = made_call who before after w b.work turn p

    opens : (client : ℕ) (head : Head) → PutsOpen call.ask client head → OpensNew w client head
    opens client head puts =
        let row : Landing = record { who = who; site = Object (object.Head client); position = 0 } in
        let sound = sound_of who before after w b.work turn p in
        let commits = commits_to lines row call.ask client head (call_kind lines who w call.ask event acts sound call.hand row refl) puts in
        call_new w (standing lines who.session) call.ask client head acts (subst (CommitsFor client) (now_standing lines who event) commits) (h.takes who.session) sound call.hand puts

-- a step of session 0 on an errand, which puts no open head
pub errand_apart : (errand : Errand) (Was : ℕ → Type 0) (lines : List Line) (line : Line) (who : Caller) (before after : Seen) (start : CloudState) (f : Sessions) (b : Acting) (turn : Turn Answer)
    → who.event ≡ length lines + 1 → WorksOn errand (f who.session).work → AreRowsOf errand (lines ++ line ∷ []) who → (standing lines who.session).posture ≡ NotOpen
    → StepsAt who before after (f who.session).work b.work turn → AddsApart Was start f before → AddsApart Was start (at who.session b f) after
errand_apart errand Was lines line who before after start f b turn event works own closed p h =
    called_apart Was who before after start f b (errand_leads errand who before after w b.work turn works p) call opens h
  where
    w : Work
    w = (f who.session).work

    call : MadeCall who before after w
    call = made_call who before after w b.work turn p

    -- the line itself changes nothing of how the settler stood at it
    before_line : standing (take (who.event - 1) (lines ++ line ∷ [])) who.session ≡ standing lines who.session
    before_line =
        ap (λ (ls : List Line). standing ls who.session) (take-append-le (who.event - 1) lines (line ∷ []) (omega (arith, event))) ∙ now_standing lines who event

    never : (client : ℕ) (s : Standing) → s.posture ≡ NotOpen → CommitsFor client s → ⊥
    never client s none c = let commits = c.commits.1 in absurd (cc)

    opens : (client : ℕ) (head : Head) → PutsOpen call.ask client head → OpensNew w client head
    opens client head puts =
        let row : Landing = record { who = who; site = Object (object.Head client); position = 0 } in
        let may = errand_asks errand (lines ++ line ∷ []) row w works (own row refl) (sound_of who before after w b.work turn p) call.ask call.hand in
        let commits = commits_to (lines ++ line ∷ []) row call.ask client head may puts in
        absurd (never client (standing lines who.session) closed (subst (CommitsFor client) before_line commits))

-- a call of a checkpoint puts no open head: a row of a first line that works, at which no session stands, could not either
opens_none : (home : Home) (w : Work) (ask : Ask) (client : ℕ) (head : Head) → HasCheckpoint home w → ask_of_work w ≡ Some ask → PutsOpen ask client head → ⊥
opens_none home w ask client head is hand puts = never (commits_to lines row ask client head (checkpoint_asks lines row home w is own ask hand) puts)
  where
    lines : List Line
    lines = record { event = event.Work 0; reply = reply.Called } ∷ []

    row : Landing
    row = record { who = record { session = 0; event = 1 }; site = Object (object.Head client); position = 0 }

    own : IsOfWork lines row
    own = record { place = 0; event = refl; line = record { event = event.Work 0; reply = reply.Called }; there = refl; works = refl }

    never : CommitsFor client (standing_of_row lines row) → ⊥
    never c = let commits : NotOpen ≡ Busy (Noting c.commits.0) = c.commits.1 in absurd (cc)

-- a step of a checkpoint
pub worker_apart : (Was : ℕ → Type 0) (who : Caller) (home : Home) (before after : Seen) (start : CloudState) (f : Sessions) (b : Acting) (turn : Turn Answer)
    → HasCheckpoint home (f who.session).work → StepsAt who before after (f who.session).work b.work turn → AddsApart Was start f before → AddsApart Was start (at who.session b f) after
worker_apart Was who home before after start f b turn is p h =
    called_apart Was who before after start f b (checkpoint_leads who before after home w b.work turn is p) call opens h
  where
    w : Work
    w = (f who.session).work

    call : MadeCall who before after w
    call = made_call who before after w b.work turn p

    opens : (client : ℕ) (head : Head) → PutsOpen call.ask client head → OpensNew w client head
    opens client head puts = absurd (opens_none home w call.ask client head is call.hand puts)
