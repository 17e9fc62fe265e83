-- The work of a session: within a checkpoint the session has that in hand, between two it is open as before, and the other sessions stay.
use Rattle.std.proofs.Common.{◌≡◌, ◌≢◌, ◌⊎◌, inl, inr, ◌+◌, ◌≤◌, ℕ, List, [], ◌∷◌, ◌++◌, length, Some, Result, Ok, refl, sym, ap, subst, ◌∙◌, Bool, arith}
use Rattle.std.proofs.lemmas.Bool.{cases_eq}
use Rattle.cloud_facts.specs.Words.{QueueName, Turn, More, Ended, CloudState, newest, Caller, Seen, at}
use Rattle.db_base.specs.declared.names.QueueName.TheVariants.{Atomic, TreePu, PagePu}
use Rattle.db_base.specs.declared.trouble.Trouble.TheVariants as trouble
use Rattle.db_base.specs.declared.wish.Wish.TheVariants.{Plain}
use Rattle.ckpt_policy.specs.Notes.{IsPending}
use Rattle.client_work.specs.declared.answer.Answer.{Answer}
use Rattle.client_work.specs.declared.answer.Answer.TheVariants as answer
use Rattle.client_work.specs.declared.answer.Begun.TheVariants.{Working}
use Rattle.client_work.specs.declared.work.Work.{Work}
use Rattle.client_work.specs.declared.work.Work.TheVariants.{Closed, Idle, Opening, Committing, Reading, Scanning, Looking, Paging, Folding, Closing, Renewing, Settling, Sweeping, Broken}
use Rattle.client_work.specs.Session.{Acting, Begins, StepsSession, noted_behind, open_client}
use Rattle.cloud_facts.proofs.Book.Names.{at_same, at_other}
use Rattle.event_text.specs.declared.event.Event.TheVariants as event
use Rattle.history.specs.Audited.{Audited}
use Rattle.recover_run.specs.declared.home.Home.{Home}
use Rattle.replay_meaning.specs.Standing.{Line, standing}
use Rattle.reply_text.specs.declared.reply.Reply.{Reply}
use Rattle.reply_text.specs.declared.reply.Reply.TheVariants as reply
use Rattle.txn_buffer.specs.Noted.{Noted}
use Rattle.session_facts.specs.Lines.Facts.{session_at, ActsAs, AllAct, AllLanded, CloudHolds, IsOfCommit, SettlerRests, WorksAs}
use Rattle.session_facts.specs.Sessions.Audited.{audited}
use Rattle.session_facts.specs.Sessions.Knows.{Sessions, SessionsStand}
use Rattle.session_facts.proofs.Rows.CallKinds.{HasCheckpoint, IsNoWant, IsWorkersRow, checkpoint_goes, checkpoint_ends}
use Rattle.session_facts.proofs.Lines.More.{line_of, begins_line, holds_same}
use Rattle.session_facts.proofs.Sessions.Lists.{session_there}
use Rattle.session_facts.proofs.Sessions.Begins.{begins_keeps}
use Rattle.session_facts.proofs.Sessions.Landed.{if_behind}
use Rattle.session_facts.proofs.Sessions.LandedBegins.{working_before}
use Rattle.session_facts.proofs.Lines.Landed.{landed_set}
use Rattle.session_facts.proofs.Lines.Outcome.{CallLeavesUpto, work_holds, wish_holds}
use Rattle.session_facts.proofs.Lines.Worker.{work_begins, work_ends, worker_row}
use Rattle.world_core.specs.World.{World}
use Rattle.world_core.specs.declared.world.WorldFault.{WorldFault}
use Rattle.world_core.specs.Sessions.{Changes}
use Rattle.world_core.specs.Handled.{StepsLooked, Went, start, further, IsOpen, BeginsCheckpoint, Checkpoints, IsPassable, Works, no_checkpoint, checkpoint_more, WorksDown, WorksThrough, checkpoint_of, gone_through}
use Rattle.world_core.specs.Span.{span_of}
use Rattle.world_core.proofs.Behind.{LinesStand, LineLeaves}
use Rattle.world_core.proofs.StandsLemmas.{IsNoReport, changed_at, changed_was, declines, no_memory, no_report_front, no_report_left, no_report_right}

-- ---- what is in hand

-- an open client with nothing at work
abbrev pub IsIdle : Home → Work → Type 0
IsIdle home w = w ≡ Idle home

-- the home of an open client
pub open_home : (w : Work) (client : ℕ) → open_client w ≡ Ok client → (home : Home) × IsIdle home w × (home.client ≡ client)
open_home (Idle home) client e = (home, refl, cc)
open_home Closed client e = absurd (cc)
open_home (Opening m) client e = absurd (cc)
open_home (Committing m) client e = absurd (cc)
open_home (Reading h m) client e = absurd (cc)
open_home (Scanning h m) client e = absurd (cc)
open_home (Looking h m) client e = absurd (cc)
open_home (Paging h m) client e = absurd (cc)
open_home (Folding h m) client e = absurd (cc)
open_home (Closing lease) client e = absurd (cc)
open_home (Renewing h) client e = absurd (cc)
open_home (Settling m) client e = absurd (cc)
open_home (Sweeping m) client e = absurd (cc)
open_home (Broken lease) client e = absurd (cc)

same_home : (a b : Home) → Idle a ≡ Idle b → a ≡ b
same_home a b e = cc

-- a checkpoint that begins is in hand, and what was noted stays
pub begun_has : (home : Home) (queue : QueueName) (a b : Acting) → IsPending queue → Begins (checkpoint_of queue) a b (Ok Working) → IsIdle home a.work
    → HasCheckpoint home b.work × (b.buffer ≡ a.buffer)
begun_has home (TreePu tree) a b pending begins idle =
    let same : begins.0 ≡ home = same_home begins.0 home (sym begins.1 ∙ idle) in
    (subst (λ (x : Acting). HasCheckpoint home x.work) (sym begins.2.1) same, ap (λ (x : Acting). x.buffer) begins.2.1)
begun_has home (PagePu tree page) a b pending begins idle =
    let same : begins.0 ≡ home = same_home begins.0 home (sym begins.1 ∙ idle) in
    (subst (λ (x : Acting). HasCheckpoint home x.work) (sym begins.2.1) same, ap (λ (x : Acting). x.buffer) begins.2.1)
begun_has home (Atomic client) a b pending begins idle = absurd pending

-- its steps leave what was noted
checkpoint_noted : (home : Home) (w : Work) (buffer : List Noted) → HasCheckpoint home w → noted_behind w buffer ≡ buffer
checkpoint_noted home (Paging h m) buffer is = refl
checkpoint_noted home (Folding h f) buffer is = refl
checkpoint_noted home w buffer is = absurd is

-- what is passed over is no want of memory
pub passable : (a : Answer) → IsPassable a → IsNoWant a
passable (answer.Trouble trouble.Memory) h = absurd h
passable (answer.Trouble t) h = tt
passable a h = tt

-- ---- the sessions

-- the session at work has this in hand and noted what it had noted before, and the others are as they were
pub record WorksWithin (Has : Work → Type 0) (k : ℕ) (first : Sessions) (world : World) : Type 0 where
  pub works : Has (session_at world.sessions k).work
  pub buffer : (session_at world.sessions k).buffer ≡ (first k).buffer
  pub others : (m : ℕ) → m ≢ k → session_at world.sessions m ≡ first m

-- one session changes
pub within_changed : (Had Has : Work → Type 0) (k : ℕ) (first : Sessions) (Does : Acting → Acting → Type 0) (old new : World) → (c : Changes k Does old.sessions new.sessions)
    → WorksWithin Had k first old → (Had c.before.work → Has c.after.work × (c.after.buffer ≡ c.before.buffer)) → WorksWithin Has k first new
within_changed Had Has k first Does old new c w goes = record {
  works = subst (λ (a : Acting). Has a.work) (sym own) next.0;
  buffer = ap (λ (a : Acting). a.buffer) own ∙ next.1 ∙ ap (λ (a : Acting). a.buffer) (sym was) ∙ w.buffer;
  others = λ m ne. changed_at k Does old.sessions new.sessions c m ∙ at_other k c.after (session_at old.sessions) m ne ∙ w.others m ne;
}
  where
    was : session_at old.sessions k ≡ c.before
    was = changed_was k Does old.sessions new.sessions c

    own : session_at new.sessions k ≡ c.after
    own = changed_at k Does old.sessions new.sessions c k ∙ at_same k c.after (session_at old.sessions) k refl

    next : Has c.after.work × (c.after.buffer ≡ c.before.buffer)
    next = goes (subst (λ (a : Acting). Had a.work) was w.works)

module _ (k : ℕ) (home : Home) (first : Sessions) where
  abbrev pub IsBetween : World → Type 0
  IsBetween world = WorksWithin (IsIdle home) k first world

  abbrev pub IsInside : World → Type 0
  IsInside world = WorksWithin (HasCheckpoint home) k first world

  pub within_begun : (queue : QueueName) (old begun : World) → IsBetween old → BeginsCheckpoint k queue old begun → IsInside begun
  within_begun queue old begun w b =
      within_changed (IsIdle home) (HasCheckpoint home) k first _ old begun b.session w (begun_has home queue b.session.before b.session.after b.pending b.session.does)

module _ (who : Caller) (home : Home) (first : Sessions) where
  pub within_more : (before after : Seen) (old new : World) → IsInside who.session home first old → StepsLooked who Plain (span_of before after old new) More → IsInside who.session home first new
  within_more before after old new w p =
      within_changed (HasCheckpoint home) (HasCheckpoint home) who.session first _ old new p.session w
      (λ has. (
        checkpoint_goes who p.under p.to home p.session.before.work p.session.after.work p.session.does.work has,
        p.session.does.buffer ∙ checkpoint_noted home p.session.before.work p.session.before.buffer has,
      ))

  pub within_ended : (before after : Seen) (old new : World) (a : Answer) → IsNoWant a → IsInside who.session home first old → StepsLooked who Plain (span_of before after old new) (Ended a)
      → IsBetween who.session home first new
  within_ended before after old new a some w p =
      within_changed (HasCheckpoint home) (IsIdle home) who.session first _ old new p.session w
      (λ has. (
        checkpoint_ends who p.under p.to home p.session.before.work p.session.after.work a p.session.does.work has some,
        p.session.does.buffer ∙ checkpoint_noted home p.session.before.work p.session.before.buffer has,
      ))

  pub within_went : (before : Seen) (old : World) (after : Seen) (new : World) → IsInside who.session home first old → Went who before old after new → IsInside who.session home first new
  within_went before old after new w start = w
  within_went before old after new w (further mid _ world _ went step) = within_more mid after world new (within_went before old mid world w went) step

  pub within_made : (queue : QueueName) (before after : Seen) (old new : World) (a : Answer) → IsPassable a → IsBetween who.session home first old
      → Checkpoints who queue (span_of before after old new) a → IsBetween who.session home first new
  within_made queue before after old new a passes w c =
      within_ended c.comes.mid after c.comes.world new a (passable a passes)
      (within_went before c.begun c.comes.mid c.comes.world (within_begun who.session home first queue old c.begun w c.begins) c.comes.went) c.comes.steps

  pub within_works : (before : Seen) (old : World) (queues : List QueueName) (done passed : ℕ) (after : Seen) (new : World) → IsBetween who.session home first old
      → Works who before old (gone_through queues done passed) after new → IsBetween who.session home first new
  within_works before old queues done passed after new w no_checkpoint = w
  within_works before old queues done passed after new w (checkpoint_more others kept left mid world queue a _ _ works makes passes) =
      within_made queue mid after world new a passes (within_works before old others kept left mid world w works) makes

-- a session that is open, before its work
pub open_rests : (k : ℕ) (world : World) → (opened : IsOpen k world.sessions) → (home : Home) × (home.client ≡ opened.client) × IsBetween k home (session_at world.sessions) world
open_rests k world opened = (h.0, h.2, record { works = subst (λ (a : Acting). IsIdle h.0 a.work) (sym there) h.1; buffer = refl; others = λ m ne. refl })
  where
    h : (home : Home) × IsIdle home opened.session.work × (home.client ≡ opened.client)
    h = open_home opened.session.work opened.client opened.opened

    there : session_at world.sessions k ≡ opened.session
    there = session_there world.sessions k opened.session opened.there

-- ---- what holds within the line

abbrev pub worker : ℕ → ℕ → Caller
worker k n = record { session = k; event = n }

-- a told cloud stands under these lines, of which the line that works is the last
pub record HoldsWithin (n : ℕ) (lines : List Line) (world : World) (seen : Seen) : Type 0 where
  pub state : CloudState
  pub told : seen.state ≡ Some state
  pub holds : CloudHolds n lines (session_at world.sessions) world.audit world.blind state

-- a begin leaves the cloud and the audit
pub holds_begun : (n : ℕ) (lines : List Line) (k : ℕ) (queue : QueueName) (seen : Seen) (old begun : World) → HoldsWithin n lines old seen → BeginsCheckpoint k queue old begun
    → HoldsWithin n lines begun seen
holds_begun n lines k queue seen old begun h b = record { state = h.state; told = h.told; holds = now }
  where
    f : Sessions
    f = session_at old.sessions

    stand : SessionsStand h.holds.book h.holds.order h.state (at k b.session.after f)
    stand =
        begins_keeps (checkpoint_of queue) h.holds.book h.holds.order h.state f k b.session.after (Ok Working) b.right h.holds.stand
        (subst (λ a. Begins (checkpoint_of queue) a b.session.after (Ok Working)) (sym (changed_was k _ old.sessions begun.sessions b.session)) b.session.does)

    -- a checkpoint is no commit
    landed : AllLanded lines (at k b.session.after f) h.state
    landed =
        landed_set lines k f b.session.after h.state
        (if_behind (IsOfCommit lines k) h.state b.session.after.work (λ behind. absurd (working_before b.session.before b.session.after (checkpoint_of queue) b.session.does behind)))
        h.holds.landed

    own : CloudHolds n lines (at k b.session.after f) old.audit old.blind h.state
    own = record { book = h.holds.book; order = h.holds.order; stand = stand; cloud = h.holds.cloud; seen = h.holds.seen; reported = h.holds.reported; landed = landed }

    At : Audited → Bool → Type 0
    At a z = CloudHolds n lines (session_at begun.sessions) a z h.state

    now : CloudHolds n lines (session_at begun.sessions) begun.audit begun.blind h.state
    now =
        subst (λ a. At a begun.blind) (sym b.audit) (subst (At old.audit) (sym b.blind)
        (holds_same n lines (at k b.session.after f) (session_at begun.sessions) old.audit old.blind h.state (changed_at k _ old.sessions begun.sessions b.session) own))

module _ (n k : ℕ) (lines : List Line) (home : Home) (row : IsWorkersRow lines (worker k n)) where
  module _ (first : Sessions) (before after : Seen) (old new : World) (turn : Turn Answer) (w : IsInside k home first old) (h : HoldsWithin n lines old before)
      (p : StepsLooked (worker k n) Plain (span_of before after old new) turn) where
    abbrev held : Sessions
    held = session_at old.sessions

    worker_was : held k ≡ p.session.before
    worker_was = changed_was k _ old.sessions new.sessions p.session

    pub worker_own : StepsSession (worker k n) p.under p.to (held k) p.session.after (Ok turn)
    worker_own = subst (λ a. StepsSession (worker k n) p.under p.to a p.session.after (Ok turn)) (sym worker_was) p.session.does

    pub worker_call : CallLeavesUpto n lines p.to (at k p.session.after held) new.audit new.blind
    worker_call =
        work_holds n lines (worker k n) home p.under p.to (record h.state { wish = Plain }) held p.session.after turn old.audit new.audit old.blind new.blind (omega arith)
        (p.wishes.set h.state (p.look_before.stays h.state h.told)) (wish_holds n lines held old.audit old.blind h.state Plain h.holds) w.works row worker_own
        (record {
          saw = p.saw;
          audit = λ e y to. p.audit e h.state y h.told to ∙ ap (λ (a : Acting). audited (newest h.state) (newest y) a.work old.audit) (sym worker_was);
        })

    pub holds_step : HoldsWithin n lines new after
    holds_step = record {
      state = worker_call.state;
      told = p.look_after.stays worker_call.state worker_call.told;
      holds = holds_same n lines (at k p.session.after held) (session_at new.sessions) new.audit new.blind worker_call.state
          (changed_at k _ old.sessions new.sessions p.session) worker_call.holds;
    }

  module _ (first : Sessions) where
    pub holds_went : (before : Seen) (old : World) (after : Seen) (new : World) → IsInside k home first old → HoldsWithin n lines old before → Went (worker k n) before old after new
        → HoldsWithin n lines new after
    holds_went before old after new w h start = h
    holds_went before old after new w h (further mid _ world _ went step) =
        holds_step first mid after world new More (within_went (worker k n) home first before old mid world w went) (holds_went before old mid world w h went) step

    pub holds_made : (queue : QueueName) (before after : Seen) (old new : World) (a : Answer) → IsBetween k home first old → HoldsWithin n lines old before
        → Checkpoints (worker k n) queue (span_of before after old new) a → HoldsWithin n lines new after
    holds_made queue before after old new a w h c =
        holds_step first c.comes.mid after c.comes.world new (Ended a) (within_went (worker k n) home first before c.begun c.comes.mid c.comes.world begun c.comes.went)
        (holds_went before c.begun c.comes.mid c.comes.world begun (holds_begun n lines k queue before old c.begun h c.begins) c.comes.went) c.comes.steps
      where
        begun : IsInside k home first c.begun
        begun = within_begun k home first queue old c.begun w c.begins

    pub holds_works : (before : Seen) (old : World) (queues : List QueueName) (done passed : ℕ) (after : Seen) (new : World) → IsBetween k home first old → HoldsWithin n lines old before
        → Works (worker k n) before old (gone_through queues done passed) after new → HoldsWithin n lines new after
    holds_works before old queues done passed after new w h no_checkpoint = h
    holds_works before old queues done passed after new w h (checkpoint_more others kept left mid world queue a _ _ works makes passes) =
        holds_made queue mid after world new a (within_works (worker k n) home first before old others kept left mid world w works)
        (holds_works before old others kept left mid world w h works) makes

-- ---- the line

module _ (lines : List Line) (k n : ℕ) (before : Seen) (old : World) (t : CloudState) (number : n ≡ length lines + 1) (told : before.state ≡ Some t) (stands : LinesStand lines old t) where
  -- its begin, whatever its reply
  pub worker_begins : (r : Reply) → IsNoReport r → HoldsWithin n (lines ++ line_of (event.Work k) r ∷ []) old before
  worker_begins r plain = record {
    state = t;
    told = told;
    holds = subst (λ j. CloudHolds j (lines ++ line_of (event.Work k) r ∷ []) (session_at old.sessions) old.audit old.blind t) (sym number)
        (work_begins lines k r (session_at old.sessions) old.audit old.blind t (λ order. no_report_front order r plain)
        (begins_line lines (session_at old.sessions) old.audit old.blind t stands).holds);
  }

  pub worker_rows : (r : Reply) → IsWorkersRow (lines ++ line_of (event.Work k) r ∷ []) (worker k n)
  worker_rows r = worker_row lines r (worker k n) number

-- each session stands behind it as before
pub worker_acts : (lines : List Line) (k : ℕ) (home : Home) (old new : World) → AllAct lines (session_at old.sessions) → IsBetween k home (session_at old.sessions) old
    → IsBetween k home (session_at old.sessions) new → AllAct lines (session_at new.sessions)
worker_acts lines k home old new acts first last m = on (cases_eq m k)
  where
    mine : WorksAs (Idle home) (standing lines k)
    mine = subst (λ w. WorksAs w (standing lines k)) first.works (acts k).work

    own : ActsAs (session_at new.sessions k) (standing lines k)
    own = record { buffer = last.buffer ∙ (acts k).buffer; work = subst (λ w. WorksAs w (standing lines k)) (sym last.works) mine }

    on : (m ≡ k) ⊎ (m ≢ k) → ActsAs (session_at new.sessions m) (standing lines m)
    on (inl e) = subst (λ j. ActsAs (session_at new.sessions j) (standing lines j)) (sym e) own
    on (inr ne) = subst (λ a. ActsAs a (standing lines m)) (sym (last.others m ne)) (acts m)

pub worker_settler : (k : ℕ) (home : Home) (first : Sessions) (new : World) → 1 ≤ k → SettlerRests first → IsBetween k home first new → SettlerRests (session_at new.sessions)
worker_settler k home first new some rests last = last.others 0 (λ e. absurd (omega (arith, some, e))) ∙ rests

pub worked_plain : (r : Reply) (done passed : ℕ) → (let result : Result Reply WorldFault = Ok r in result ≡ Ok (reply.Worked done passed)) → IsNoReport r
worked_plain r done passed e = let is : r ≡ reply.Worked done passed = cc in subst IsNoReport (sym is) tt

works_down : (lines : List Line) (k n : ℕ) (r : Reply) (before after : Seen) (old new : World) (t : CloudState) → length lines + 1 ≡ n → 1 ≤ k
    → before.state ≡ Some t → LinesStand lines old t → WorksDown (record { session = k; event = n }) (span_of before after old new) (Ok r) → LineLeaves (lines ++ line_of (event.Work k) r ∷ []) new after r
works_down lines k n r before after old new t at some told stands d = record {
  after = h.state;
  told = h.told;
  stands = work_ends lines k r (session_at new.sessions) new.audit new.blind h.state
      (subst (λ j. CloudHolds j all (session_at new.sessions) new.audit new.blind h.state) (sym at) h.holds)
      (worker_acts lines k home old new stands.acts rest last) (worker_settler k home first new some stands.rests last);
  right = no_report_right all h.state r plain;
  left = no_report_left h.state r plain;
}
  where
    all : List Line
    all = lines ++ line_of (event.Work k) r ∷ []

    plain : IsNoReport r
    plain = worked_plain r d.done d.passed d.replies

    first : Sessions
    first = session_at old.sessions

    home : Home
    home = (open_rests k old d.opened).0

    rest : IsBetween k home first old
    rest = (open_rests k old d.opened).2

    last : IsBetween k home first new
    last = within_works (worker k n) home first before old d.queues d.done d.passed after new rest d.works

    h : HoldsWithin n all new after
    h = holds_works n k all home (worker_rows lines k n before old t (sym at) told stands r) first before old d.queues d.done d.passed after new rest
        (worker_begins lines k n before old t (sym at) told stands r plain) d.works

pub works_through : (lines : List Line) (k n : ℕ) (r : Reply) (before after : Seen) (old new : World) (t : CloudState) → length lines + 1 ≡ n → 1 ≤ k
    → before.state ≡ Some t → LinesStand lines old t → WorksThrough (record { session = k; event = n }) (span_of before after old new) (Ok r) → LineLeaves (lines ++ line_of (event.Work k) r ∷ []) new after r
works_through lines k n r before after old new t at some told stands (inl refuses) = declines lines (event.Work k) r _ before after old new t refuses.declines told stands
works_through lines k n r before after old new t at some told stands (inr (inl down)) = works_down lines k n r before after old new t at some told stands down
works_through lines k n r before after old new t at some told stands (inr (inr memory)) = absurd (no_memory r memory.0)
