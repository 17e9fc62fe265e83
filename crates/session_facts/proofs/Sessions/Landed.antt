-- A commit that is answered as committed has landed, by a call of its own session since it began.
use Rattle.std.proofs.Common.{◌≡◌, ◌+◌, ◌-◌, ℕ, Bool, true, false, List, ◌++◌, length, Option, Some, None, refl, sym, ap, subst, ◌∙◌, inl, inr}
use Rattle.std.specs.Prelude.{◌==◌, cond, slice_get}
use Rattle.std.specs.Option.{option_and_then}
use Rattle.std.proofs.lemmas.Option.{same_Some}
use Rattle.client_work.specs.Session.{Follows, StepsAt, acting_of, committed_work, committing_of, opened_work, stopped_work}
use Rattle.client_work.specs.declared.answer.Answer.{Answer}
use Rattle.client_work.specs.declared.answer.Answer.TheVariants as answer
use Rattle.client_work.specs.declared.listing.Listing.{Listing}
use Rattle.client_work.specs.declared.shown.Shown.{Shown}
use Rattle.client_work.specs.declared.work.Work.{Work}
use Rattle.client_work.specs.declared.work.Work.TheVariants as work
use Rattle.cloud_facts.proofs.Book.Places.{get_front}
use Rattle.cloud_facts.specs.Homes.Homes.{Home, Part}
use Rattle.cloud_facts.specs.Words.{Trouble, CommitAnswer, Answer as Reply, Turn, More, Ended, Stopped, CloudState, called, Caller, Seen, Head, Version, Next, Goes, Ends, Stops, Store}
use Rattle.cloud_trait.proofs.RowLemmas.{leaves_grown}
use Rattle.cloud_trait.proofs.StateLemmas.{slice_get-push}
use Rattle.cloud_trait.specs.Growth.{BeginsWith, HasGrown}
use Rattle.cloud_trait.specs.State.{Counts, version_at}
use Rattle.cloud_trait.specs.Weather.{counted, Leaves, Makes}
use Rattle.cloud_trait.specs.declared.answer.Answer.TheVariants.{Done}
use Rattle.cloud_trait.specs.declared.state.Landing.{Landing}
use Rattle.cloud_trait.specs.declared.state.Site.TheVariants.{Object}
use Rattle.commit_run.proofs.Outcomes as step
use Rattle.commit_run.proofs.Outcomes.{BeginsWith as BeginsRun, ready_leads, records_of, taken, walked_leads}
use Rattle.commit_run.specs.Draft.{Draft}
use Rattle.commit_run.specs.Run.{Run, ask_at as run_ask_at, home_of, new_run, next_at as run_next_at, run_ask, run_next, run_ready, walked, wrote}
use Rattle.commit_run.specs.Sound.{IsSoundAt, IsSoundRun}
use Rattle.commit_run.specs.declared.hand.Hand.{Hand}
use Rattle.commit_run.specs.declared.hand.Hand.TheVariants.{Writes, First, Change}
use Rattle.commit_writes.proofs.Outcomes as written
use Rattle.commit_writes.proofs.Outcomes.{Comes as Wrote, comes as wrote_by}
use Rattle.commit_writes.specs.Sound.{IsSoundAt as IsWriteSound}
use Rattle.commit_writes.specs.Writing.{Writing, ask_at, begun, head_ask, writing_next}
use Rattle.commit_writes.specs.declared.stage.Stage.{Stage}
use Rattle.commit_writes.specs.declared.stage.Stage.TheVariants.{Waiting, Logging, Opening, Sending, Settling, Deleting, Finished}
use Rattle.db_base.specs.declared.names.ObjName.TheVariants as object
use Rattle.db_base.specs.declared.trouble.Trouble.TheVariants as trouble
use Rattle.db_base.specs.declared.trouble.CommitAnswer.TheVariants.{Committed, NotCommitted, InDoubt, CommittedOpen}
use Rattle.page_cache.specs.Cache.{Cache}
use Rattle.recover_run.specs.Recovery.{home_of as opening_home}
use Rattle.recover_run.specs.declared.home.Home.{Home as Held}
use Rattle.replay_meaning.specs.Kinds.{LandsOpen}
use Rattle.session_facts.proofs.Lines.Committed.{new_version}
use Rattle.session_facts.specs.Machines.CommitRuns.Knows.{KnowsHand, KnowsRun}
use Rattle.session_facts.specs.Machines.Commits.Knows.{Attempt, OpensBehind, KnowsCommitAt, attempt_of}
use Rattle.session_facts.specs.Sessions.Knows.{KnowsWork}
use Rattle.session_facts.specs.Sessions.Landed.{HasLanded, LandedAt, LandedIn, LandedFor, LandedBy, LandedAnswer}
use Rattle.txn_buffer.specs.Noted.{Noted}

-- ---- what landed stays

-- a version that is there stays
version_grows : (vs more : List Version) (k : ℕ) (bytes : List ℕ) → version_at vs k ≡ Some bytes → version_at (vs ++ more) k ≡ Some bytes
version_grows vs more k bytes e = on (slice_get vs (k - 1)) refl
  where
    at : Option Version → Option (List ℕ)
    at o = cond (k == 0) None (option_and_then (λ (v : Version). v.bytes) o)

    never : (b : Bool) → cond b None None ≡ Some bytes → ⊥
    never true h = absurd (cc)
    never false h = absurd (cc)

    on : (o : Option Version) → slice_get vs (k - 1) ≡ o → version_at (vs ++ more) k ≡ Some bytes
    on (Some v) is = ap at (get_front vs more (k - 1) v is ∙ sym is) ∙ e
    on None is = absurd (never (k == 0) (sym (ap at is) ∙ e))

pub put_grows : (vs ws : List Version) (k : ℕ) (bytes : List ℕ) → BeginsWith vs ws → version_at vs k ≡ Some bytes → version_at ws k ≡ Some bytes
put_grows vs ws k bytes more put = ap (λ (us : List Version). version_at us k) more.1 ∙ version_grows vs more.0 k bytes put

-- so a row that opens a head does so behind all that lands
opens_grows : (s t : CloudState) (row : Landing) (client : ℕ) (head : Head) → HasGrown s t → LandsOpen s row client head → LandsOpen t row client head
opens_grows s t row client head grown o = record {
  site = o.site;
  bytes = o.bytes;
  put = put_grows (s.versions (object.Head client)) (t.versions (object.Head client)) row.position o.bytes (grown.versions (object.Head client)) o.put;
  spells = o.spells;
  count = o.count;
  opens = o.opens;
}

-- and a commit has landed
landed_grows : (Own : ℕ → Landing → Type 0) (s t : CloudState) (x : Attempt) → HasGrown s t → HasLanded Own s x → HasLanded Own t x
landed_grows Own s t x grown h = record {
  place = h.place;
  row = h.row;
  there = ap (λ (rows : List Landing). slice_get rows h.place) grown.trace.1 ∙ get_front s.trace grown.trace.0 h.place h.row h.there;
  own = h.own;
  head = h.head;
  opens = opens_grows s t h.row x.client h.head grown h.opens;
  epoch_is = h.epoch_is;
  txn_is = h.txn_is;
}

-- by other rows too, among which these are
landed_wider : (Own Wide : ℕ → Landing → Type 0) (t : CloudState) (x : Attempt) → ((place : ℕ) (row : Landing) → slice_get t.trace place ≡ Some row → Own place row → Wide place row)
    → HasLanded Own t x → HasLanded Wide t x
landed_wider Own Wide t x wide h = record {
  place = h.place;
  row = h.row;
  there = h.there;
  own = wide h.place h.row h.there h.own;
  head = h.head;
  opens = h.opens;
  epoch_is = h.epoch_is;
  txn_is = h.txn_is;
}

-- ---- behind the put that commits

-- a commit at work is behind the put of its open head
abbrev pub IsBehindAt : Stage → Type 0
IsBehindAt Sending = Unit {0}
IsBehindAt Settling = Unit {0}
IsBehindAt Deleting = Unit {0}
IsBehindAt stage = ⊥

abbrev pub IsBehindIn : Hand → Writing → Type 0
IsBehindIn Writes w = IsBehindAt w.stage
IsBehindIn (First walk) w = ⊥
IsBehindIn (Change walk) w = ⊥

abbrev pub IsBehind : Work → Type 0
IsBehind (work.Committing r) = IsBehindIn r.hand r.draft.writes
IsBehind work = ⊥

-- of one that is, what holds where it landed
module _ (Own Wide : List Noted → ℕ → Landing → Type 0) (s t : CloudState) (w : Writing) where
  abbrev StaysLanded : Type 0
  StaysLanded = HasLanded (Own w.changes) s (attempt_of w) → HasLanded (Wide w.changes) t (attempt_of w)

  at_stage : (stage : Stage) → (IsBehindAt stage → StaysLanded) → LandedAt stage Own s w → LandedAt stage Wide t w
  at_stage Waiting on h = tt
  at_stage Logging on h = tt
  at_stage Opening on h = tt
  at_stage Sending on h = on tt h
  at_stage Settling on h = on tt h
  at_stage Deleting on h = on tt h
  at_stage Finished on h = tt

  in_hand : (hand : Hand) → (IsBehindIn hand w → StaysLanded) → LandedIn hand Own s w → LandedIn hand Wide t w
  in_hand Writes on h = at_stage w.stage on h
  in_hand (First walk) on h = tt
  in_hand (Change walk) on h = tt

pub for_grows : (Own : List Noted → ℕ → Landing → Type 0) (s t : CloudState) (w : Work) → HasGrown s t → LandedFor Own s w → LandedFor Own t w
for_grows Own s t (work.Committing r) grown h =
    let w = r.draft.writes in in_hand Own Own s t w r.hand (λ behind. landed_grows (Own w.changes) s t (attempt_of w) grown) h
for_grows Own s t w grown h = tt

pub for_wider : (Own Wide : List Noted → ℕ → Landing → Type 0) (t : CloudState) (w : Work)
    → (IsBehind w → (changes : List Noted) (place : ℕ) (row : Landing) → slice_get t.trace place ≡ Some row → Own changes place row → Wide changes place row)
    → LandedFor Own t w → LandedFor Wide t w
for_wider Own Wide t (work.Committing r) wide h =
    let w = r.draft.writes in in_hand Own Wide t t w r.hand (λ behind. landed_wider (Own w.changes) (Wide w.changes) t (attempt_of w) (wide behind w.changes)) h
for_wider Own Wide t w wide h = tt

-- of one that is not, nothing is said
module _ (Own : List Noted → ℕ → Landing → Type 0) (t : CloudState) (w : Writing) where
  if_stage : (stage : Stage) → (IsBehindAt stage → LandedAt stage Own t w) → LandedAt stage Own t w
  if_stage Waiting on = tt
  if_stage Logging on = tt
  if_stage Opening on = tt
  if_stage Sending on = on tt
  if_stage Settling on = on tt
  if_stage Deleting on = on tt
  if_stage Finished on = tt

  if_hand : (hand : Hand) → (IsBehindIn hand w → LandedIn hand Own t w) → LandedIn hand Own t w
  if_hand Writes on = if_stage w.stage on
  if_hand (First walk) on = tt
  if_hand (Change walk) on = tt

pub if_behind : (Own : List Noted → ℕ → Landing → Type 0) (t : CloudState) (w : Work) → (IsBehind w → LandedFor Own t w) → LandedFor Own t w
if_behind Own t (work.Committing r) on = if_hand Own t r.draft.writes r.hand on
if_behind Own t w on = tt

-- ---- the put that commits

module _ (Own : List Noted → ℕ → Landing → Type 0) (who : Caller) (s : CloudState) (c d : Counts) (new : Option CloudState) where
  -- where it is answered as done its row is new, and the session's
  put_lands : (st : Store) (now : ℕ) (w : Writing) (g : Home) → OpensBehind st now w g → IsWriteSound Opening w → (l : Leaves who (head_ask w) Done (counted c s) d new)
      → ((place : ℕ) (row : Landing) → row.who ≡ who → Own w.changes place row) → HasLanded (Own w.changes) l.after (attempt_of w)
  put_lands st now w g k sound l own = subst (λ (x : CloudState). HasLanded (Own w.changes) x (attempt_of w)) (sym l.row.0) (record {
    place = length b.trace;
    row = row;
    there = slice_get-push b.trace row (length b.trace) refl;
    own = own (length b.trace) row refl;
    head = w.home.head;
    opens = record {
      site = refl;
      bytes = w.out;
      put = new_version who (object.Head w.home.client) (Some w.out) b;
      spells = sound;
      count = length w.records;
      opens = ap (λ (h : Head). h.phase) k.head;
    };
    epoch_is = refl;
    txn_is = ap (λ (h : Head). h.txn) k.head;
  })
    where
      b : CloudState
      b = called who l.after.now s

      row : Landing
      row = record { who = who; site = Object (object.Head w.home.client); position = length (b.versions (object.Head w.home.client)) + 1 }

  -- whatever stage it is, if it is that one
  stage_lands : (st : Store) (now : ℕ) (w : Writing) (g : Home) (stage : Stage) (a : Reply) → KnowsCommitAt stage st now w g → IsWriteSound stage w
      → (l : Leaves who (ask_at stage w) a (counted c s) d new) → ((place : ℕ) (row : Landing) → row.who ≡ who → Own w.changes place row)
      → stage ≡ Opening → a ≡ Done → HasLanded (Own w.changes) l.after (attempt_of w)
  stage_lands st now w g Opening Done k sound l own is done = put_lands st now w g k sound l own
  stage_lands st now w g Opening a k sound l own is done = absurd (cc (done))
  stage_lands st now w g stage a k sound l own is done = absurd (cc (is))

-- ---- where the writes lead

module _ (Own : List Noted → ℕ → Landing → Type 0) (t : CloudState) where
  abbrev Leads : Writing → Next Writing CommitAnswer → Type 0
  Leads old (Goes w) = LandedAt w.stage Own t w
  Leads old (Ends w a) = LandedBy Own t old a
  Leads old (Stops w trouble) = Unit {0}

  -- what the put that commits owes where it is done
  abbrev LandsHead : Writing → Reply → Type 0
  LandsHead w a = w.stage ≡ Opening → a ≡ Done → HasLanded (Own w.changes) t (attempt_of w)

  posts_landed : (w : Writing) (a : Reply) (n : ℕ) → LandedAt w.stage Own t w → LandsHead w a → written.Posts w a n → HasLanded (Own w.changes) t (attempt_of w)
  posts_landed w a n h lands (written.opened v) = lands refl refl
  posts_landed w a n h lands (written.one_sent v id) = h

  clears_landed : (w : Writing) (a : Reply) (n : ℕ) → LandedAt w.stage Own t w → written.Clears w a n → HasLanded (Own w.changes) t (attempt_of w)
  clears_landed w a n h (written.settled v) = h
  clears_landed w a n h (written.one_tried v y found) = h

  leads : (w : Writing) (a : Reply) (x : Next Writing CommitAnswer) → LandedAt w.stage Own t w → LandsHead w a → Wrote w a x → Leads w x
  leads v a x h lands (written.goes_on w id next (written.logs r e)) = tt
  leads v a x h lands (written.goes_on w id next (written.opens e)) = tt
  leads v a x h lands (written.not_logged w y failed) = tt
  leads v a x h lands (written.late w end over) = tt
  leads v a x h lands (written.doubts w y failed) = tt
  leads w a x h lands (written.sends n r posts e) = posts_landed w a n h lands posts
  leads w a x h lands (written.settles n posts e) = posts_landed w a n h lands posts
  leads v a x h lands (written.stays_open (written.not_sent w y failed)) = h
  leads v a x h lands (written.stays_open (written.not_settled w y failed)) = h
  leads w a x h lands (written.deletes n id clears e) = clears_landed w a n h clears
  leads w a x h lands (written.ends n clears e) = (clears_landed w a n h clears, refl)
  leads w a x h lands (written.lacks v under) = tt
  leads v a x h lands (written.waits w y) = tt
  leads v a x h lands (written.rests w y) = tt

  -- .. and a run
  abbrev RunLeads : Writing → Next (Run × Cache) CommitAnswer → Type 0
  RunLeads old (Goes m) = LandedIn m.0.hand Own t m.0.draft.writes
  RunLeads old (Ends m a) = LandedBy Own t old a
  RunLeads old (Stops m trouble) = Unit {0}

  wrote_leads : (old : Writing) (d : Draft) (c : Cache) (n : Next Writing CommitAnswer) → Leads old n → RunLeads old (wrote d c n)
  wrote_leads old d c (Goes w) h = h
  wrote_leads old d c (Ends w a) h = h
  wrote_leads old d c (Stops w trouble) h = h

  abbrev IsEarly : Next Writing CommitAnswer → Type 0
  IsEarly (Goes w) = LandedAt w.stage Own t w
  IsEarly (Ends w a) = Unit {0}
  IsEarly (Stops w trouble) = Unit {0}

  -- what begins to be written has not landed yet
  logs_early : (w : Writing) (x : Next Writing CommitAnswer) → written.Logs w x → IsEarly x
  logs_early w x (written.logs r e) = tt
  logs_early w x (written.opens e) = tt

  -- and while it walks a commit is answered with no more than a refusal
  walk_leads : (old w : Writing) (x : Next (Run × Cache) CommitAnswer) → step.Leads w x → RunLeads old x
  walk_leads old w x (step.walks true e v k kept) = tt
  walk_leads old w x (step.walks false e v k kept) = tt
  walk_leads old w x (step.writes e k v kept paged starts) =
      subst IsEarly starts (logs_early (record e.writes { records = records_of e; place = 0 }) (begun e.writes (records_of e)) (written.begins e.writes (records_of e)))
  walk_leads old w x (step.refuses e k trouble kept other) = tt
  walk_leads old w x (step.lacks e k kept) = tt

-- ---- where a run begins

-- it is not behind the put of its open head
abbrev pub NotBehind : Next (Run × Cache) CommitAnswer → Type 0
NotBehind (Goes m) = IsBehindIn m.0.hand m.0.draft.writes → ⊥
NotBehind (Ends m a) = Unit {0}
NotBehind (Stops m trouble) = Unit {0}

abbrev WritesNotBehind : Next Writing CommitAnswer → Type 0
WritesNotBehind (Goes w) = IsBehindAt w.stage → ⊥
WritesNotBehind (Ends w a) = Unit {0}
WritesNotBehind (Stops w trouble) = Unit {0}

logs_before : (w : Writing) (x : Next Writing CommitAnswer) → written.Logs w x → WritesNotBehind x
logs_before w x (written.logs r e) = λ behind. behind
logs_before w x (written.opens e) = λ behind. behind

walk_before : (w : Writing) (x : Next (Run × Cache) CommitAnswer) → step.Leads w x → NotBehind x
walk_before w x (step.walks true e v k kept) = λ behind. behind
walk_before w x (step.walks false e v k kept) = λ behind. behind
walk_before w x (step.writes e k v kept paged starts) =
    subst WritesNotBehind starts (logs_before (record e.writes { records = records_of e; place = 0 }) (begun e.writes (records_of e)) (written.begins e.writes (records_of e)))
walk_before w x (step.refuses e k trouble kept other) = tt
walk_before w x (step.lacks e k kept) = tt

pub run_before : (home : Held) (changes : List Noted) (c : Cache) → NotBehind (run_ready (new_run home changes, c))
run_before home changes c = on (ready_leads home changes c)
  where
    on : BeginsRun home changes c (run_ready (new_run home changes, c)) → NotBehind (run_ready (new_run home changes, c))
    on (inl spent) = subst NotBehind (sym spent.1) tt
    on (inr so) = walk_before (taken home changes).writes (run_ready (new_run home changes, c)) so.1

-- ---- a call of a run

module _ (Own : List Noted → ℕ → Landing → Type 0) (who : Caller) (s : CloudState) (counts d : Counts) (new : Option CloudState) (st : Store) (now : ℕ) (part : Part) where
  hand_leads : (draft : Draft) (c : Cache) (a : Reply) (hand : Hand) → KnowsHand hand st now draft part → IsSoundAt hand draft.writes
      → (l : Leaves who (run_ask_at hand draft.writes) a (counted counts s) d new) → ((place : ℕ) (row : Landing) → row.who ≡ who → Own draft.writes.changes place row)
      → LandedIn hand Own s draft.writes → RunLeads Own l.after draft.writes (run_next_at hand draft c a)
  hand_leads draft c a Writes k sound l own h =
      let w : Writing = draft.writes in
      let grown : HasGrown s l.after = leaves_grown who (ask_at w.stage w) a counts d s new l in
      let landed : LandedAt w.stage Own l.after w = at_stage Own Own s l.after w w.stage (λ behind. landed_grows (Own w.changes) s l.after (attempt_of w) grown) h in
      wrote_leads Own l.after w draft c (writing_next w a)
      (leads Own l.after w a (writing_next w a) landed (stage_lands Own who s counts d new st now w k.home w.stage a k.at sound l own) (wrote_by w a))
  hand_leads draft c a (First v) k sound l own h = walk_leads Own l.after draft.writes draft.writes (walked true draft v c a) (walked_leads draft true v c a)
  hand_leads draft c a (Change v) k sound l own h = walk_leads Own l.after draft.writes draft.writes (walked false draft v c a) (walked_leads draft false v c a)

-- ---- a step of a session

module _ (Own : List Noted → ℕ → Landing → Type 0) (t : CloudState) where
  abbrev So : Work → Type 0
  So w = LandedFor Own t w

  same : (x y : Work) → x ≡ y → So y → So x
  same x y e h = subst So (sym e) h

  opened : (o : Option Held) → So (opened_work o)
  opened (Some home) = tt
  opened None = tt

  stopped : (trouble : Trouble) (home : Held) → So (stopped_work trouble home)
  stopped trouble.Memory home = tt
  stopped trouble home = tt

  committed : (a : CommitAnswer) (home : Held) → So (committed_work a home)
  committed InDoubt home = tt
  committed (CommittedOpen trouble) home = tt
  committed (Committed txn) home = tt
  committed (NotCommitted trouble) home = tt

  lists : (home : Held) (buffer : List Noted) (m : Listing) (c : Cache) (moved : Turn ℕ) (new : Work) (shown : Shown) (turn : Turn Answer)
      → Follows home m moved (acting_of buffer new c shown) turn → So new
  lists home buffer m c More new shown turn f = same new (work.Scanning home m) f.0 tt
  lists home buffer m c (Ended page) new shown More f = same new (work.Scanning home _) f.3 tt
  lists home buffer m c (Ended page) new shown (Ended answer.Scan) f = same new (work.Idle home) f.3 tt
  lists home buffer m c (Ended page) new shown (Ended (answer.Trouble k)) f = same new (work.Broken home.lease) f.1 tt
  lists home buffer m c (Ended page) new shown turn f = absurd f
  lists home buffer m c (Stopped k) new shown turn f = same new (stopped_work k home) f.0 (stopped k home)

  -- what is no commit leaves none
  others : (who : Caller) (before after : Seen) (w new : Work) (turn : Turn Answer) → committing_of w ≡ None → StepsAt who before after w new turn → So new
  others who before after (work.Opening m) new More none p = same new (work.Opening p.1.0) p.1.2 tt
  others who before after (work.Opening m) new (Ended (answer.Opened epoch)) none p = same new (opened_work (opening_home p.1.0)) p.1.2 (opened (opening_home p.1.0))
  others who before after (work.Opening m) new (Ended (answer.Trouble k)) none p = same new work.Closed p.1.2 tt
  others who before after (work.Opening m) new turn none p = absurd p.1
  others who before after (work.Committing m) new turn none p = absurd (cc (none))
  others who before after (work.Reading home m) new More none p = same new (work.Reading home p.0) p.2 tt
  others who before after (work.Reading home m) new (Ended answer.Value) none p = same new (work.Idle home) p.1 tt
  others who before after (work.Reading home m) new (Ended (answer.Trouble k)) none p = same new (stopped_work k home) p.1 (stopped k home)
  others who before after (work.Reading home m) new turn none p = absurd p
  others who before after (work.Scanning home m) new turn none (buffer, c, d, shown, p) =
      lists home buffer (record { scan = p.scan; pairs = m.pairs }) d p.moved new shown turn p.follows
  others who before after (work.Looking home m) new More none (buffer, c, d, shown, p) = same new (work.Looking home p.0) p.2 tt
  others who before after (work.Looking home m) new (Ended answer.Scan) none (buffer, c, d, shown, p) = same new (work.Idle home) p.2 tt
  others who before after (work.Looking home m) new (Ended (answer.Trouble k)) none (buffer, c, d, shown, p) = same new (stopped_work k home) p.2 (stopped k home)
  others who before after (work.Looking home m) new turn none (buffer, c, d, shown, p) = absurd p
  others who before after (work.Paging home m) new More none p = same new (work.Paging home p.0) p.2 tt
  others who before after (work.Paging home m) new (Ended (answer.Done n)) none p = same new (work.Idle home) p.2 tt
  others who before after (work.Paging home m) new (Ended (answer.Trouble k)) none p = same new (stopped_work k home) p.2 (stopped k home)
  others who before after (work.Paging home m) new turn none p = absurd p
  others who before after (work.Folding home m) new More none p = same new (work.Folding home p.0) p.2 tt
  others who before after (work.Folding home m) new (Ended (answer.Done n)) none p = same new (work.Idle home) p.2 tt
  others who before after (work.Folding home m) new (Ended (answer.Trouble k)) none p = same new (stopped_work k home) p.2 (stopped k home)
  others who before after (work.Folding home m) new turn none p = absurd p
  others who before after (work.Closing lease) new (Ended answer.Closed) none p = same new work.Closed p.1 tt
  others who before after (work.Closing lease) new (Ended (answer.Trouble k)) none p = same new work.Closed p.1 tt
  others who before after (work.Closing lease) new turn none p = absurd p
  others who before after (work.Renewing home) new (Ended (answer.Renewed end)) none p = same new (work.Idle p.0) p.2 tt
  others who before after (work.Renewing home) new (Ended (answer.Trouble k)) none p = same new (stopped_work k p.0) p.2 (stopped k p.0)
  others who before after (work.Renewing home) new turn none p = absurd p
  others who before after (work.Settling m) new More none p = same new (work.Settling p.1.0) p.1.2 tt
  others who before after (work.Settling m) new (Ended (answer.Settled n)) none p = same new work.Closed p.1.2 tt
  others who before after (work.Settling m) new (Ended (answer.Trouble k)) none p = same new work.Closed p.1.2 tt
  others who before after (work.Settling m) new turn none p = absurd p.1
  others who before after (work.Sweeping m) new More none p = same new (work.Sweeping p.0) p.2 tt
  others who before after (work.Sweeping m) new (Ended (answer.Swept x)) none p = same new work.Closed p.2 tt
  others who before after (work.Sweeping m) new (Ended (answer.Trouble k)) none p = same new work.Closed p.2 tt
  others who before after (work.Sweeping m) new turn none p = absurd p
  others who before after work.Closed new turn none p = absurd p
  others who before after (work.Idle home) new turn none p = absurd p
  others who before after (work.Broken lease) new turn none p = absurd p

module _ (Own : List Noted → ℕ → Landing → Type 0) (who : Caller) (before after : Seen) (s t : CloudState) (told : before.state ≡ Some s) (told_after : after.state ≡ Some t)
    (st : Store) (now : ℕ) (c : Cache) (part : Part) where
  -- the rows of a call of it are its own
  abbrev OwnsCall : Work → Type 0
  OwnsCall w = (changes : List Noted) → committing_of w ≡ Some changes → (place : ℕ) (row : Landing) → row.who ≡ who → Own changes place row

  run_lands : (m : Run) (k : Cache) (a : Reply) → KnowsRun st now (m, c) part → IsSoundRun m → Makes who (run_ask m) a before after → OwnsCall (work.Committing m)
      → LandedIn m.hand Own s m.draft.writes → RunLeads Own t m.draft.writes (run_next (m, k) a)
  run_lands m k a knows sound made own h =
      let l : Leaves who (run_ask m) a (counted before.counts s) after.counts after.state = made.state s told in
      subst (λ (x : CloudState). RunLeads Own x m.draft.writes (run_next (m, k) a)) (same_Some l.after t (sym l.told ∙ told_after))
      (hand_leads Own who s before.counts after.counts after.state st now part m.draft k a m.hand knows.hand sound l (own m.draft.writes.changes refl) h)

  -- what is at work goes on so
  pub landed_on : (w new : Work) (turn : Turn Answer) → KnowsWork st now c w part → OwnsCall w → LandedFor Own s w → StepsAt who before after w new turn → LandedFor Own t new
  landed_on (work.Committing m) new More k own h (sound, old, d, p) =
      same Own t new (work.Committing p.0) p.2 (subst (RunLeads Own t m.draft.writes) p.1.took (run_lands m old p.1.answer k sound p.1.made own h))
  landed_on (work.Committing m) new (Ended (answer.Commit a)) k own h (sound, old, d, p) = same Own t new (committed_work a (home_of p.0)) p.2 (committed Own t a (home_of p.0))
  landed_on (work.Committing m) new (Ended (answer.Trouble trouble)) k own h (sound, old, d, p) = same Own t new (work.Broken (home_of p.0).lease) p.2 tt
  landed_on (work.Committing m) new turn k own h (sound, old, d, p) = absurd p
  landed_on w new turn k own h p = others Own t who before after w new turn refl p

  -- and a commit that it answers as committed has landed so
  pub landed_answers : (w new : Work) (a : CommitAnswer) → KnowsWork st now c w part → OwnsCall w → LandedFor Own s w → StepsAt who before after w new (Ended (answer.Commit a))
      → LandedAnswer Own t w a
  landed_answers (work.Committing m) new a k own h (sound, old, d, p) =
      subst (RunLeads Own t m.draft.writes) p.1.took (run_lands m old p.1.answer k sound p.1.made own h)
  landed_answers w new a k own h p = tt
