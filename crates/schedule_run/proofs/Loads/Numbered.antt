-- A session's client has begun as many transactions as the lines of a load tell.
use Rattle.std.proofs.Common.{◌≡◌, ◌≢◌, ◌+◌, ◌≤◌, ◌⊎◌, inl, inr, ℕ, List, Option, Some, None, Result, Ok, Err, refl, sym, ap, subst, ◌∙◌, arith}
use Rattle.client_work.specs.Session.{Acting, Begins, BeginsWith, CommitsNoted, Follows, HasInHand, StepsAt, StepsSession, committed_work, opened_work, stopped_work, value_of, acting_of}
use Rattle.client_work.specs.declared.listing.Listing.{Listing}
use Rattle.client_work.specs.declared.answer.Answer.{Answer}
use Rattle.client_work.specs.declared.answer.Answer.TheVariants as answer
use Rattle.client_work.specs.declared.answer.Begun.{Begun}
use Rattle.client_work.specs.declared.answer.Begun.TheVariants.{Working, Answered}
use Rattle.client_work.specs.declared.op.Op.{Op}
use Rattle.client_work.specs.declared.op.Op.TheVariants as op
use Rattle.client_work.specs.declared.work.Work.{Work}
use Rattle.client_work.specs.declared.work.Work.TheVariants.{Closed, Idle, Opening, Committing, Reading, Scanning, Looking, Paging, Folding, Closing, Renewing, Settling, Sweeping, Broken}
use Rattle.cloud_facts.proofs.Book.Names.{at_same, at_other}
use Rattle.cloud_facts.specs.Words.{Trouble, CommitAnswer, Turn, More, Ended, Stopped, Caller, Seen, Claim, Goes, Ends}
use Rattle.commit_run.specs.Run.{home_of}
use Rattle.db_base.specs.Value.{Value}
use Rattle.db_base.specs.declared.refusal.Refused.{Refused}
use Rattle.db_base.specs.declared.refusal.Refused.TheVariants as refused
use Rattle.db_base.specs.declared.trouble.CommitAnswer.TheVariants.{Committed, NotCommitted, InDoubt, CommittedOpen}
use Rattle.db_base.specs.declared.trouble.Trouble.TheVariants as trouble
use Rattle.db_base.specs.declared.wish.Wish.{Wish}
use Rattle.event_text.specs.declared.event.Event.{Event}
use Rattle.event_text.specs.declared.event.Event.TheVariants as event
use Rattle.recover_run.specs.Recovery.{Recovery, home_at, home_with}
use Rattle.recover_run.specs.declared.home.Home.{Home}
use Rattle.recover_run.specs.declared.stage.Stage.{Stage}
use Rattle.recover_run.specs.declared.stage.Stage.TheVariants as stage
use Rattle.reply_text.specs.declared.reply.Reply.{Reply}
use Rattle.reply_text.specs.declared.reply.Reply.TheVariants as reply
use Rattle.session_facts.proofs.Machines.CommitRuns.Numbers.{BeginsAt, RunsAt, run_begins_at, run_ends_within, run_goes_at}
use Rattle.session_facts.specs.Lines.Errands.{settles}
use Rattle.session_facts.specs.Lines.Facts.{session_at}
use Rattle.world_core.proofs.EveryLine.{does_own, asked_is}
use Rattle.world_core.proofs.StandsLemmas.{changed_at, changed_was, has_at, no_memory}
use Rattle.world_core.proofs.Texts.{commit_is}
use Rattle.world_core.specs.Asked.{Asks, OfSession}
use Rattle.world_core.specs.Handled.{Declines, Has, StepsLooked, Went, start, further, Runs, SettlesOn, Does, Answers, Handled}
use Rattle.world_core.specs.Replying.{RepliesBegun, RepliesTo, value_reply}
use Rattle.world_core.specs.Sessions.{Changes, NotesIn}
use Rattle.world_core.specs.World.{World}
use Rattle.world_core.specs.declared.asked.Asked.{Asked}
use Rattle.world_core.specs.declared.asked.Asked.TheVariants.{Session, Wait, Report, Settle, Sweep}
use Rattle.world_core.specs.declared.asked.Noting.{Noting}
use Rattle.world_core.specs.declared.asked.Request.{Request}
use Rattle.world_core.specs.declared.asked.Request.TheVariants.{Begin, Note, Abort, Policy, Work as WorksDue, Step, Run, Crash}
use Rattle.world_core.specs.Span.{span_of}
use Rattle.schedule_run.proofs.Loads.Fair.{declined_not}
use Rattle.schedule_run.proofs.Loads.Lines.{LoadLine, number_by}

-- so many transactions were begun since the client of what is at work was opened; of one that is not open nothing is said
abbrev pub Numbered : ℕ → Work → Type 0
Numbered n (Idle home) = home.attempt ≡ n
Numbered n (Committing r) = (home_of r).attempt ≡ n
Numbered n (Reading home m) = home.attempt ≡ n
Numbered n (Scanning home l) = home.attempt ≡ n
Numbered n (Looking home m) = home.attempt ≡ n
Numbered n (Paging home p) = home.attempt ≡ n
Numbered n (Folding home f) = home.attempt ≡ n
Numbered n (Renewing home) = home.attempt ≡ n
Numbered n (Opening r) = n ≡ 0
Numbered n Closed = Unit {0}
Numbered n (Closing lease) = Unit {0}
Numbered n (Settling m) = Unit {0}
Numbered n (Sweeping m) = Unit {0}
Numbered n (Broken lease) = Unit {0}

-- .. so many at most
abbrev pub AtMost : ℕ → Work → Type 0
AtMost n w = (k : ℕ) × (k ≤ n) × Numbered k w

-- ---- one step

module _ (n : ℕ) where
  then : (w new : Work) → new ≡ w → Numbered n w → Numbered n new
  then w new e h = subst (Numbered n) (sym e) h

  stopped : (t : Trouble) (home : Home) → home.attempt ≡ n → Numbered n (stopped_work t home)
  stopped trouble.Memory home h = tt
  stopped t home h = h

  committed : (a : CommitAnswer) (home : Home) → home.attempt ≡ n → Numbered n (committed_work a home)
  committed InDoubt home h = tt
  committed (CommittedOpen t) home h = tt
  committed (Committed txn) home h = h
  committed (NotCommitted t) home h = h

  -- a client that is opened has begun none
  held_none : (r : Recovery) (lease : Option Claim) → n ≡ 0 → Numbered n (opened_work (home_with r lease))
  held_none r (Some l) none = sym none
  held_none r None none = tt

  opened_none : (s : Stage) (r : Recovery) → n ≡ 0 → Numbered n (opened_work (home_at s r))
  opened_none stage.ReleasingOld r none = tt
  opened_none stage.Taking r none = tt
  opened_none stage.Getting r none = tt
  opened_none stage.Receiving r none = tt
  opened_none stage.Deleting r none = tt
  opened_none stage.Sending r none = tt
  opened_none stage.Putting r none = tt
  opened_none stage.Clearing r none = tt
  opened_none stage.Sweeping r none = tt
  opened_none stage.Releasing r none = tt
  opened_none stage.Finished r none = held_none r r.lease none

  pub step_numbered : (who : Caller) (before after : Seen) (w new : Work) (turn : Turn Answer) → StepsAt who before after w new turn → Numbered n w → Numbered n new
  step_numbered who before after (Opening m) new More (sound, p) h = then (Opening p.0) new p.2 h
  step_numbered who before after (Opening m) new (Ended (answer.Opened epoch)) (sound, p) h = then (opened_work (home_at p.0.stage p.0)) new p.2 (opened_none p.0.stage p.0 h)
  step_numbered who before after (Opening m) new (Ended (answer.Trouble k)) (sound, p) h = then Closed new p.2 tt
  step_numbered who before after (Opening m) new turn p h = absurd p.1
  step_numbered who before after (Committing m) new More (sound, c, d, p) h =
      let on : RunsAt (home_of m).head.epoch (home_of m).attempt (Goes (p.0, d)) = subst (RunsAt (home_of m).head.epoch (home_of m).attempt) p.1.took (run_goes_at (m, c) p.1.answer) in
      then (Committing p.0) new p.2 (on.1 ∙ h)
  step_numbered who before after (Committing m) new (Ended (answer.Commit a)) (sound, c, d, p) h =
      let end : RunsAt (home_of m).head.epoch (home_of m).attempt (Ends (p.0, d) a) = subst (RunsAt (home_of m).head.epoch (home_of m).attempt) p.1.took (run_goes_at (m, c) p.1.answer) in
      then (committed_work a (home_of p.0)) new p.2 (committed a (home_of p.0) (end.1 ∙ h))
  step_numbered who before after (Committing m) new (Ended (answer.Trouble k)) (sound, c, d, p) h = then (Broken (home_of p.0).lease) new p.2 tt
  step_numbered who before after (Committing m) new turn (sound, c, d, p) h = absurd p
  step_numbered who before after (Folding home f) new More p h = then (Folding home p.0) new p.2 h
  step_numbered who before after (Folding home f) new (Ended (answer.Done k)) p h = then (Idle home) new p.2 h
  step_numbered who before after (Folding home f) new (Ended (answer.Trouble k)) p h = then (stopped_work k home) new p.2 (stopped k home h)
  step_numbered who before after (Folding home f) new turn p h = absurd p
  step_numbered who before after (Closing lease) new (Ended answer.Closed) p h = then Closed new p.1 tt
  step_numbered who before after (Closing lease) new (Ended (answer.Trouble k)) p h = then Closed new p.1 tt
  step_numbered who before after (Closing lease) new turn p h = absurd p
  step_numbered who before after (Renewing home) new (Ended (answer.Renewed end)) p h = then (Idle p.0) new p.2 (ap (λ (z : Home). z.attempt) p.1.home ∙ h)
  step_numbered who before after (Renewing home) new (Ended (answer.Trouble k)) p h = then (stopped_work k p.0) new p.2 (stopped k p.0 (ap (λ (z : Home). z.attempt) p.1.home ∙ h))
  step_numbered who before after (Renewing home) new turn p h = absurd p
  step_numbered who before after (Reading home m) new More p h = then (Reading home p.0) new p.2 h
  step_numbered who before after (Reading home m) new (Ended answer.Value) p h = then (Idle home) new p.1 h
  step_numbered who before after (Reading home m) new (Ended (answer.Trouble k)) p h = then (stopped_work k home) new p.1 (stopped k home h)
  step_numbered who before after (Reading home m) new turn p h = absurd p
  step_numbered who before after (Looking home m) new More (buffer, c, d, shown, (k, steps, is, none, less)) h = then (Looking home k) new is h
  step_numbered who before after (Looking home m) new (Ended answer.Scan) (buffer, c, d, shown, (k, steps, is, some)) h = then (Idle home) new is h
  step_numbered who before after (Looking home m) new (Ended (answer.Trouble t)) (buffer, c, d, shown, (k, steps, is, none)) h = then (stopped_work t home) new is (stopped t home h)
  step_numbered who before after (Looking home m) new turn (buffer, c, d, shown, never) h = absurd never
  step_numbered who before after (Scanning home m) new turn (buffer, c, d, shown, p) h =
      scanned (record { scan = p.scan; pairs = m.pairs }) p.moved turn p.follows
    where
      scanned : (l : Listing) (moved : Turn ℕ) (turn : Turn Answer) → Follows home l moved (acting_of buffer new d shown) turn → Numbered n new
      scanned l More turn f = then (Scanning home l) new f.0 h
      scanned l (Ended page) More (all, listed, goes, is, nothing) = then (Scanning home _) new is h
      scanned l (Ended page) (Ended answer.Scan) (all, listed, over, is, shown) = then (Idle home) new is h
      scanned l (Ended page) (Ended (answer.Trouble t)) f = then (Broken home.lease) new f.1 tt
      scanned l (Ended page) turn f = absurd f
      scanned l (Stopped t) turn f = then (stopped_work t home) new f.0 (stopped t home h)
  step_numbered who before after (Paging home m) new More p h = then (Paging home p.0) new p.2 h
  step_numbered who before after (Paging home m) new (Ended (answer.Done k)) p h = then (Idle home) new p.2 h
  step_numbered who before after (Paging home m) new (Ended (answer.Trouble k)) p h = then (stopped_work k home) new p.2 (stopped k home h)
  step_numbered who before after (Paging home m) new turn p h = absurd p
  step_numbered who before after (Settling m) new More (sound, p) h = then (Settling p.0) new p.2 tt
  step_numbered who before after (Settling m) new (Ended (answer.Settled k)) (sound, p) h = then Closed new p.2 tt
  step_numbered who before after (Settling m) new (Ended (answer.Trouble k)) (sound, p) h = then Closed new p.2 tt
  step_numbered who before after (Settling m) new turn p h = absurd p.1
  step_numbered who before after (Sweeping m) new More p h = then (Sweeping p.0) new p.2 tt
  step_numbered who before after (Sweeping m) new (Ended (answer.Swept x)) p h = then Closed new p.2 tt
  step_numbered who before after (Sweeping m) new (Ended (answer.Trouble k)) p h = then Closed new p.2 tt
  step_numbered who before after (Sweeping m) new turn p h = absurd p
  step_numbered who before after Closed new turn p h = absurd p
  step_numbered who before after (Idle home) new turn p h = absurd p
  step_numbered who before after (Broken lease) new turn p h = absurd p

-- ---- replies

-- no answer is told as a begin
answered_not : (x : Answer) (left : Acting) (r : Reply) → RepliesTo x left (Ok r) → r ≡ reply.Begun → ⊥
answered_not (answer.Opened epoch) left r e is = absurd (cc)
answered_not answer.Closed left r e is = absurd (cc)
answered_not (answer.Renewed end) left r e is = absurd (cc)
answered_not (answer.Done n) left r e is = absurd (cc)
answered_not (answer.Commit a) left r e is = let f = (commit_is a r e).0 in absurd (cc)
answered_not answer.Value left r e is = on (value_of left) e
  where
    on : (v : Option Value) → r ≡ value_reply v → ⊥
    on None f = absurd (cc)
    on (Some value) f = absurd (cc)
answered_not answer.Scan left r e is = absurd (cc)
answered_not (answer.Settled s) left r e is = absurd (cc)
answered_not (answer.Swept x) left r e is = absurd (cc)
answered_not (answer.Trouble trouble.Memory) left r e is = absurd (cc)
answered_not (answer.Trouble t) left r e is = absurd (cc)

-- ---- steps of a world

-- what is at work in session 1
abbrev pub own_work : World → Work
own_work world = (session_at world.sessions 1).work

-- a session that changes is session 1
pub changes_work : (Does : Acting → Acting → Type 0) (old new : World) → (c : Changes 1 Does old.sessions new.sessions) → (own_work old ≡ c.before.work) × (own_work new ≡ c.after.work)
changes_work Does old new c = (
  ap (λ (a : Acting). a.work) (changed_was 1 Does old.sessions new.sessions c),
  ap (λ (a : Acting). a.work) (changed_at 1 Does old.sessions new.sessions c 1 ∙ at_same 1 c.after (session_at old.sessions) 1 refl),
)

-- or another one, and session 1 stays
changes_other : (k : ℕ) (Does : Acting → Acting → Type 0) (old new : World) → 1 ≢ k → Changes k Does old.sessions new.sessions → own_work new ≡ own_work old
changes_other k Does old new other c =
    ap (λ (a : Acting). a.work) (changed_at k Does old.sessions new.sessions c 1 ∙ at_other k c.after (session_at old.sessions) 1 other)

looked_numbered : (n : ℕ) (who : Caller) (wish : Wish) (before after : Seen) (old new : World) (turn : Turn Answer) → who.session ≡ 1 → StepsLooked who wish (span_of before after old new) turn
    → Numbered n (own_work old) → Numbered n (own_work new)
looked_numbered n who wish before after old new turn own p h = on who.session own p.session
  where
    on : (k : ℕ) → k ≡ 1 → (c : Changes k (λ a b. StepsSession who p.under p.to a b (Ok turn)) old.sessions new.sessions) → Numbered n (own_work new)
    on k is c =
        let d : Changes 1 (λ a b. StepsSession who p.under p.to a b (Ok turn)) old.sessions new.sessions = subst (λ j. Changes j (λ a b. StepsSession who p.under p.to a b (Ok turn)) old.sessions new.sessions) is c in
        let w = changes_work _ old new d in
        subst (Numbered n) (sym w.1) (step_numbered n who p.under p.to d.before.work d.after.work turn d.does.work (subst (Numbered n) w.0 h))

went_numbered : (n : ℕ) (who : Caller) (before : Seen) (old : World) (after : Seen) (new : World) → who.session ≡ 1 → Went who before old after new → Numbered n (own_work old)
    → Numbered n (own_work new)
went_numbered n who before old after new own start h = h
went_numbered n who before old after new own (further mid _ world _ went step) h =
    looked_numbered n who _ mid after world new _ own step (went_numbered n who before old mid world own went h)

other_looked : (who : Caller) (wish : Wish) (before after : Seen) (old new : World) (turn : Turn Answer) → 1 ≢ who.session → StepsLooked who wish (span_of before after old new) turn → own_work new ≡ own_work old
other_looked who wish before after old new turn other p = changes_other who.session _ old new other p.session

other_went : (who : Caller) (before : Seen) (old : World) (after : Seen) (new : World) → 1 ≢ who.session → Went who before old after new → own_work new ≡ own_work old
other_went who before old after new other start = refl
other_went who before old after new other (further mid _ world _ went step) = other_looked who _ mid after world new _ other step ∙ other_went who before old mid world other went

-- ---- a line

module _ (m n : ℕ) (before after : Seen) (old new : World) (r : Reply) (h : Numbered n (own_work old)) where
  same : new ≡ old → Numbered n (own_work new)
  same is = subst (λ (w : World). Numbered n (own_work w)) (sym is) h

  -- an operation that begins, of which each begin leaves it so
  begins_so : (next : ℕ) (o : Op) → Does (record { session = 1; event = m }) (Begin o) (span_of before after old new) (Ok r)
      → ((a b : Acting) (begun : Result Begun Refused) → Begins o a b begun → RepliesBegun begun b (Ok r) → Numbered n a.work → Numbered next b.work) → Numbered next (own_work new)
  begins_so next o does law =
      let c = does.1 in
      let w = changes_work _ old new c in
      subst (Numbered next) (sym w.1) (law c.before c.after c.does.begun c.does.begins c.does.replies (subst (Numbered n) w.0 h))

  in_hand : (own : Home → Work) → ((home : Home) → home.attempt ≡ n → Numbered n (own home)) → (a b : Acting) (begun : Result Begun Refused)
      → BeginsWith (λ home. HasInHand a (own home)) a b begun → Numbered n a.work → Numbered n b.work
  in_hand own keeps a b (Ok begun) begins k =
      subst (Numbered n) (sym (ap (λ (z : Acting). z.work) begins.2.1)) (keeps begins.0 (subst (Numbered n) begins.1 k))
  in_hand own keeps a b (Err (refused.Rule rule)) begins k = subst (Numbered n) (sym (ap (λ (z : Acting). z.work) begins.1)) k
  in_hand own keeps a b (Err refused.Memory) begins k = absurd begins

  -- a client is opened
  opens_so : (client : ℕ) → r ≡ reply.Begun → (a b : Acting) (begun : Result Begun Refused) → Begins (op.Open client) a b begun → RepliesBegun begun b (Ok r) → Numbered 0 b.work
  opens_so client is a b (Ok Working) begins e = subst (Numbered 0) (sym (ap (λ (z : Acting). z.work) begins.1)) refl
  opens_so client is a b (Ok (Answered x)) begins e = absurd begins
  opens_so client is a b (Err (refused.Rule rule)) begins e = absurd (cc)
  opens_so client is a b (Err refused.Memory) begins e = absurd begins

  -- a commit takes the next number
  commits_so : r ≡ reply.Begun → (a b : Acting) (begun : Result Begun Refused) → Begins op.Commit a b begun → RepliesBegun begun b (Ok r) → Numbered n a.work → Numbered (n + 1) b.work
  commits_so is a b (Ok Working) begins e k = on begins.2.1
    where
      home : Home
      home = begins.0

      on : CommitsNoted home a.buffer a.cache b.cache b.work Working → Numbered (n + 1) b.work
      on (inl nothing) = let never : Working ≡ Answered (answer.Commit (Committed 0)) = nothing.answer in absurd (cc)
      on (inr (some, c)) =
          let own : BeginsAt home.head.epoch (home.attempt + 1) (Goes (c.0, b.cache)) = subst (BeginsAt home.head.epoch (home.attempt + 1)) c.1 (run_begins_at home a.buffer a.cache) in
          let was : home.attempt ≡ n = subst (Numbered n) begins.1 k in
          subst (Numbered (n + 1)) (sym c.2) (own.1 ∙ ap (λ z. z + 1) was)
  commits_so is a b (Ok (Answered x)) begins e k = absurd (answered_not x b r e is)
  commits_so is a b (Err (refused.Rule rule)) begins e k = absurd (cc)
  commits_so is a b (Err refused.Memory) begins e k = absurd (cc)

  -- a request of session 1
  of_one : (k : ℕ) (request own : Request) → k ≡ 1 → request ≡ own → Does (record { session = k; event = m }) request (span_of before after old new) (Ok r) → Does (record { session = 1; event = m }) own (span_of before after old new) (Ok r)
  of_one k request own one is p = subst (λ j. Does (record { session = j; event = m }) own (span_of before after old new) (Ok r)) one (does_own m k request own before after old new r is p)

  declined_stays : (why : Refused) → Declines why (span_of before after old new) (Ok r) → Numbered n (own_work new)
  declined_stays why h = same h.world

  declined_never : (why : Refused) → r ≡ reply.Begun → Declines why (span_of before after old new) (Ok r) → ⊥
  declined_never why is h = declined_not r reply.Begun why h.reply (λ rule e. cc) is

  -- a line by which no transaction begins
  keeps_so : (session : ℕ) (o : Op) (asked : Asked) → session ≡ 1
      → ((a b : Acting) (begun : Result Begun Refused) → Begins o a b begun → Numbered n a.work → Numbered n b.work)
      → OfSession session (λ request. request ≡ Ok (Begin o)) asked → Answers m asked (span_of before after old new) (Ok r) → Numbered n (own_work new)
  keeps_so session o (Session k (Ok request)) one law asks (inl p) =
      begins_so n o (of_one k request (Begin o) (asks.0 ∙ one) (asked_is request (Begin o) asks.1) p.1) (λ a b begun begins e k. law a b begun begins k)
  keeps_so session o (Session k (Err why)) one law asks (inl p) = declined_stays why p.1
  keeps_so session o (Session k request) one law asks (inr none) = declined_stays _ none.declines
  keeps_so session o (Wait ticks) one law asks p = absurd asks
  keeps_so session o (Report tree) one law asks p = absurd asks
  keeps_so session o Settle one law asks p = absurd asks
  keeps_so session o (Sweep t) one law asks p = absurd asks

  folds_so : (session tree : ℕ) (asked : Asked) → session ≡ 1 → Asks (event.Tree session tree) asked → Answers m asked (span_of before after old new) (Ok r) → Numbered n (own_work new)
  folds_so session tree (Session k (Ok request)) one asks (inl p) =
      begins_so n (op.Tree tree) (of_one k request (Begin (op.Tree tree)) (asks.0 ∙ one) asks.1.1 p.1) (λ a b begun begins e k. in_hand _ (λ home is. is) a b begun begins k)
  folds_so session tree (Session k (Err why)) one asks (inl p) = declined_stays why p.1
  folds_so session tree (Session k request) one asks (inr none) = declined_stays _ none.declines
  folds_so session tree (Wait ticks) one asks p = absurd asks
  folds_so session tree (Report t) one asks p = absurd asks
  folds_so session tree Settle one asks p = absurd asks
  folds_so session tree (Sweep t) one asks p = absurd asks

  opening_so : (session client : ℕ) (asked : Asked) → session ≡ 1 → r ≡ reply.Begun → Asks (event.Open session client) asked → Answers m asked (span_of before after old new) (Ok r)
      → Numbered 0 (own_work new)
  opening_so session client (Session k (Ok request)) one is asks (inl p) =
      begins_so 0 (op.Open client) (of_one k request (Begin (op.Open client)) (asks.0 ∙ one) asks.1.1 p.1) (λ a b begun begins e k. opens_so client is a b begun begins e)
  opening_so session client (Session k (Err why)) one is asks (inl p) = absurd (declined_never why is p.1)
  opening_so session client (Session k request) one is asks (inr none) = absurd (declined_never _ is none.declines)
  opening_so session client (Wait ticks) one is asks p = absurd asks
  opening_so session client (Report tree) one is asks p = absurd asks
  opening_so session client Settle one is asks p = absurd asks
  opening_so session client (Sweep t) one is asks p = absurd asks

  committing_so : (session : ℕ) (asked : Asked) → session ≡ 1 → r ≡ reply.Begun → Asks (event.Commit session) asked → Answers m asked (span_of before after old new) (Ok r)
      → Numbered (n + 1) (own_work new)
  committing_so session (Session k (Ok request)) one is asks (inl p) =
      begins_so (n + 1) op.Commit (of_one k request (Begin op.Commit) (asks.0 ∙ one) (asked_is request (Begin op.Commit) asks.1) p.1) (commits_so is)
  committing_so session (Session k (Err why)) one is asks (inl p) = absurd (declined_never why is p.1)
  committing_so session (Session k request) one is asks (inr none) = absurd (declined_never _ is none.declines)
  committing_so session (Wait ticks) one is asks p = absurd asks
  committing_so session (Report tree) one is asks p = absurd asks
  committing_so session Settle one is asks p = absurd asks
  committing_so session (Sweep t) one is asks p = absurd asks

  -- an opening that does not begin leaves it so
  opens_else : (client : ℕ) → (r ≡ reply.Begun → ⊥) → (a b : Acting) (begun : Result Begun Refused) → Begins (op.Open client) a b begun → RepliesBegun begun b (Ok r) → Numbered n a.work → Numbered n b.work
  opens_else client never a b (Ok Working) begins e k = let is : r ≡ reply.Begun = cc in absurd (never is)
  opens_else client never a b (Ok (Answered x)) begins e k = absurd begins
  opens_else client never a b (Err (refused.Rule rule)) begins e k = subst (Numbered n) (sym (ap (λ (z : Acting). z.work) begins.1)) k
  opens_else client never a b (Err refused.Memory) begins e k = absurd begins

  opening_else : (session client : ℕ) (asked : Asked) → session ≡ 1 → (r ≡ reply.Begun → ⊥) → Asks (event.Open session client) asked → Answers m asked (span_of before after old new) (Ok r)
      → Numbered n (own_work new)
  opening_else session client (Session k (Ok request)) one never asks (inl p) =
      begins_so n (op.Open client) (of_one k request (Begin (op.Open client)) (asks.0 ∙ one) asks.1.1 p.1) (opens_else client never)
  opening_else session client (Session k (Err why)) one never asks (inl p) = declined_stays why p.1
  opening_else session client (Session k request) one never asks (inr none) = declined_stays _ none.declines
  opening_else session client (Wait ticks) one never asks p = absurd asks
  opening_else session client (Report tree) one never asks p = absurd asks
  opening_else session client Settle one never asks p = absurd asks
  opening_else session client (Sweep t) one never asks p = absurd asks

  -- a commit that is answered at once has taken one at most
  answers_else : (x : Answer) (home : Home) (a b : Acting) → home.attempt ≡ n → CommitsNoted home a.buffer a.cache b.cache b.work (Answered x) → AtMost (n + 1) b.work
  answers_else x home a b was (inl nothing) = (n, omega arith, subst (Numbered n) (sym nothing.work_is) was)
  answers_else (answer.Commit y) home a b was (inr (some, c)) =
      let few = run_ends_within home a.buffer a.cache (c.0, b.cache) y c.1 in
      let within : (home_of c.0).attempt ≤ n + 1 = omega (arith, few, was) in
      ((home_of c.0).attempt, within, subst (Numbered (home_of c.0).attempt) (sym c.2) refl)
  answers_else (answer.Trouble t) home a b was (inr (some, c)) = (n, omega arith, subst (Numbered n) (sym c.1) tt)
  answers_else x home a b was (inr (some, c)) = absurd c

  commits_else : (r ≡ reply.Begun → ⊥) → (a b : Acting) (begun : Result Begun Refused) → Begins op.Commit a b begun → RepliesBegun begun b (Ok r) → Numbered n a.work → AtMost (n + 1) b.work
  commits_else never a b (Ok Working) begins e k = let is : r ≡ reply.Begun = cc in absurd (never is)
  commits_else never a b (Ok (Answered x)) begins e k = let was : begins.0.attempt ≡ n = subst (Numbered n) begins.1 k in answers_else x begins.0 a b was begins.2.1
  commits_else never a b (Err (refused.Rule rule)) begins e k = (n, omega arith, subst (Numbered n) (sym (ap (λ (z : Acting). z.work) begins.1)) k)
  commits_else never a b (Err refused.Memory) begins e k = absurd begins

  committing_else : (session : ℕ) (asked : Asked) → session ≡ 1 → (r ≡ reply.Begun → ⊥) → Asks (event.Commit session) asked → Answers m asked (span_of before after old new) (Ok r) → AtMost (n + 1) (own_work new)
  committing_else session (Session k (Ok request)) one never asks (inl p) =
      let d = of_one k request (Begin op.Commit) (asks.0 ∙ one) (asked_is request (Begin op.Commit) asks.1) p.1 in
      let c = d.1 in
      let w = changes_work _ old new c in
      subst (AtMost (n + 1)) (sym w.1) (commits_else never c.before c.after c.does.begun c.does.begins c.does.replies (subst (Numbered n) w.0 h))
  committing_else session (Session k (Err why)) one never asks (inl p) = (n, omega arith, declined_stays why p.1)
  committing_else session (Session k request) one never asks (inr none) = (n, omega arith, declined_stays _ none.declines)
  committing_else session (Wait ticks) one never asks p = absurd asks
  committing_else session (Report tree) one never asks p = absurd asks
  committing_else session Settle one never asks p = absurd asks
  committing_else session (Sweep t) one never asks p = absurd asks

  -- a note
  noted_so : (noting : Noting) → Does (record { session = 1; event = m }) (Note noting) (span_of before after old new) (Ok r) → Numbered n (own_work new)
  noted_so noting does =
      let c = does.1 in
      let w = changes_work _ old new c in
      subst (Numbered n) (sym w.1) (subst (Numbered n) (sym (by_note c.does.noted c.does.notes)) (subst (Numbered n) w.0 h))
    where
      by_note : (noted : Result (Unit {0}) Refused) → NotesIn noting does.1.before does.1.after noted → does.1.after.work ≡ does.1.before.work
      by_note (Ok done) k = ap (λ (z : Acting). z.work) k.0
      by_note (Err why) k = ap (λ (z : Acting). z.work) k.0

  insert_so : (session tree : ℕ) (key payload : List ℕ) (attr : Option (List ℕ)) (asked : Asked) → session ≡ 1 → Asks (event.Insert session tree key payload attr) asked
      → Answers m asked (span_of before after old new) (Ok r) → Numbered n (own_work new)
  insert_so session tree key payload attr (Session k (Ok (Note noting))) one asks (inl p) = noted_so noting (of_one k (Note noting) (Note noting) (asks.0 ∙ one) refl p.1)
  insert_so session tree key payload attr (Session k (Ok (Begin o))) one asks (inl p) = absurd asks.1
  insert_so session tree key payload attr (Session k (Ok Abort)) one asks (inl p) = absurd asks.1
  insert_so session tree key payload attr (Session k (Ok (Policy role kept))) one asks (inl p) = absurd asks.1
  insert_so session tree key payload attr (Session k (Ok WorksDue)) one asks (inl p) = absurd asks.1
  insert_so session tree key payload attr (Session k (Ok (Step wish))) one asks (inl p) = absurd asks.1
  insert_so session tree key payload attr (Session k (Ok Run)) one asks (inl p) = absurd asks.1
  insert_so session tree key payload attr (Session k (Ok (Crash done))) one asks (inl p) = absurd asks.1
  insert_so session tree key payload attr (Session k (Err why)) one asks (inl p) = declined_stays why p.1
  insert_so session tree key payload attr (Session k request) one asks (inr none) = declined_stays _ none.declines
  insert_so session tree key payload attr (Wait ticks) one asks p = absurd asks
  insert_so session tree key payload attr (Report t) one asks p = absurd asks
  insert_so session tree key payload attr Settle one asks p = absurd asks
  insert_so session tree key payload attr (Sweep t) one asks p = absurd asks

  -- a run
  runs_on : Runs (record { session = 1; event = m }) (span_of before after old new) (Ok r) → Numbered n (own_work new)
  runs_on (inl refuses) = same refuses.declines.world
  runs_on (inr (inl run)) =
      let who : Caller = record { session = 1; event = m } in
      looked_numbered n who _ run.comes.mid after run.comes.world new _ refl run.comes.steps (went_numbered n who before old run.comes.mid run.comes.world refl run.comes.went h)
  runs_on (inr (inr memory)) = absurd (no_memory r memory.0)

  run_so : (session : ℕ) (asked : Asked) → session ≡ 1 → Asks (event.Run session) asked → Answers m asked (span_of before after old new) (Ok r) → Numbered n (own_work new)
  run_so session (Session k (Ok request)) one asks (inl p) = runs_on (of_one k request Run (asks.0 ∙ one) (asked_is request Run asks.1) p.1)
  run_so session (Session k (Err why)) one asks (inl p) = declined_stays why p.1
  run_so session (Session k request) one asks (inr none) = declined_stays _ none.declines
  run_so session (Wait ticks) one asks p = absurd asks
  run_so session (Report tree) one asks p = absurd asks
  run_so session Settle one asks p = absurd asks
  run_so session (Sweep t) one asks p = absurd asks

  -- a settling
  has_work : (k : ℕ) (a : Acting) (world then : World) → 1 ≢ k → Has k a world then → own_work then ≡ own_work world
  has_work k a world then other has = ap (λ (z : Acting). z.work) (has_at k a world then has 1 ∙ at_other k a (session_at world.sessions) 1 other)

  settles_on : (begun : World) → own_work begun ≡ own_work old → SettlesOn settles (record { session = 0; event = m }) (span_of before after begun new) (Ok r) → Numbered n (own_work new)
  settles_on begun is (inl s) =
      let who : Caller = record { session = 0; event = m } in
      let other : 1 ≢ 0 = λ e. absurd (omega (arith, e)) in
      let came : own_work s.left ≡ own_work begun =
      other_looked who _ s.comes.mid after s.comes.world s.left _ other s.comes.steps ∙ other_went who before begun s.comes.mid s.comes.world other s.comes.went in
      subst (Numbered n) (sym (has_work 0 _ s.left new other s.closes ∙ came ∙ is)) h
  settles_on begun is (inr memory) = absurd (no_memory r memory.0)

  settle_so : (asked : Asked) → Asks event.Settle asked → Answers m asked (span_of before after old new) (Ok r) → Numbered n (own_work new)
  settle_so Settle asks (inl s) = settles_on s.begun (has_work 0 _ old s.begun (λ e. absurd (omega (arith, e))) s.begins) s.settles
  settle_so Settle asks (inr memory) = absurd (no_memory r memory.0)
  settle_so (Session k request) asks p = absurd (cc)
  settle_so (Wait ticks) asks p = absurd (cc)
  settle_so (Report tree) asks p = absurd (cc)
  settle_so (Sweep tree) asks p = absurd (cc)

  line_so : (e : Event) → LoadLine e r → (asked : Asked) → Asks e asked → Answers m asked (span_of before after old new) (Ok r) → Numbered (number_by e r n) (own_work new)
  line_so (event.Open session client) l asked asks p =
      subst (λ q. Numbered (number_by (event.Open session client) q n) (own_work new)) (sym l.1) (opening_so session client asked l.0 l.1 asks p)
  line_so (event.Commit session) l asked asks p =
      subst (λ q. Numbered (number_by (event.Commit session) q n) (own_work new)) (sym l.1) (committing_so session asked l.0 l.1 asks p)
  line_so (event.Renew session) l asked asks p = keeps_so session op.Renew asked l (in_hand _ (λ home is. is)) asks p
  line_so (event.Close session) l asked asks p = keeps_so session op.Close asked l (in_hand _ (λ home is. tt)) asks p
  line_so (event.Tree session tree) l asked asks p = folds_so session tree asked l asks p
  line_so (event.Insert session tree key payload attr) l asked asks p = insert_so session tree key payload attr asked l asks p
  line_so (event.Run session) l asked asks p = run_so session asked l asks p
  line_so event.Settle l asked asks p = settle_so asked asks p
  line_so e l asked asks p = absurd l

-- of a line of a load that was handled
pub line_numbered : (m n : ℕ) (e : Event) (before after : Seen) (old new : World) (r : Reply) → LoadLine e r → Handled m e (span_of before after old new) (Ok r) → Numbered n (own_work old)
    → Numbered (number_by e r n) (own_work new)
line_numbered m n e before after old new r l handled h = line_so m n before after old new r h e l handled.asked handled.asks handled.answers

-- ---- a line, whatever is replied

-- a load has such a line
abbrev pub IsLoadEvent : Event → Type 0
IsLoadEvent (event.Open session client) = session ≡ 1
IsLoadEvent (event.Commit session) = session ≡ 1
IsLoadEvent e = LoadLine e reply.Noted

is_begun : (r : Reply) → (r ≡ reply.Begun) ⊎ (r ≡ reply.Begun → ⊥)
is_begun reply.Begun = inl refl
is_begun r = inr (λ e. absurd (cc))

-- it begins one transaction at most
module _ (m n : ℕ) (before after : Seen) (old new : World) (r : Reply) (k : ℕ) (within : k ≤ n) (h : Numbered k (own_work old)) where
  of_load : (e : Event) → Handled m e (span_of before after old new) (Ok r) → LoadLine e r → number_by e r k ≤ k + 1 → AtMost (n + 1) (own_work new)
  of_load e handled line few = (number_by e r k, omega (arith, within, few), line_numbered m k e before after old new r line handled h)

  more : AtMost (k + 1) (own_work new) → AtMost (n + 1) (own_work new)
  more x = let few = x.1 in (x.0, omega (arith, within, few), x.2)

  line_by : (e : Event) → IsLoadEvent e → Handled m e (span_of before after old new) (Ok r) → AtMost (n + 1) (own_work new)
  line_by (event.Open session client) is handled = on (is_begun r)
    where
      on : (r ≡ reply.Begun) ⊎ (r ≡ reply.Begun → ⊥) → AtMost (n + 1) (own_work new)
      on (inl e) = of_load (event.Open session client) handled (is, e) (subst (λ q. number_by (event.Open session client) q k ≤ k + 1) (sym e) (omega arith))
      on (inr never) = more (k, omega arith, opening_else m k before after old new r h session client handled.asked is never handled.asks handled.answers)
  line_by (event.Commit session) is handled = on (is_begun r)
    where
      on : (r ≡ reply.Begun) ⊎ (r ≡ reply.Begun → ⊥) → AtMost (n + 1) (own_work new)
      on (inl e) = of_load (event.Commit session) handled (is, e) (subst (λ q. number_by (event.Commit session) q k ≤ k + 1) (sym e) (omega arith))
      on (inr never) = more (committing_else m k before after old new r h session handled.asked is never handled.asks handled.answers)
  line_by (event.Renew session) is handled = of_load (event.Renew session) handled is (omega arith)
  line_by (event.Close session) is handled = of_load (event.Close session) handled is (omega arith)
  line_by (event.Tree session tree) is handled = of_load (event.Tree session tree) handled is (omega arith)
  line_by (event.Insert session tree key payload attr) is handled = of_load (event.Insert session tree key payload attr) handled is (omega arith)
  line_by (event.Run session) is handled = of_load (event.Run session) handled is (omega arith)
  line_by event.Settle is handled = of_load event.Settle handled is (omega arith)
  line_by e is handled = absurd is

pub line_at_most : (m n : ℕ) (e : Event) (before after : Seen) (old new : World) (r : Reply) → IsLoadEvent e → Handled m e (span_of before after old new) (Ok r) → AtMost n (own_work old)
    → AtMost (n + 1) (own_work new)
line_at_most m n e before after old new r is handled (k, within, h) = line_by m n before after old new r k within h e is handled
