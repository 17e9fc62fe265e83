-- What a line leaves that answers a commit as committed: its records among the ATOMIC messages, its entries among what was committed, and its number.
use Rattle.std.proofs.Common.{◌≡◌, ◌+◌, ℕ, List, [], ◌∷◌, ◌++◌, length, Some, Ok, refl, sym, ap, subst, ◌∙◌}
use Rattle.std.specs.Prelude.{slice_get}
use Rattle.client_work.specs.Session.{Acting, StepsSession, StepsAt}
use Rattle.client_work.specs.declared.answer.Answer.TheVariants as answer
use Rattle.client_work.specs.declared.work.Work.{Work}
use Rattle.client_work.specs.declared.work.Work.TheVariants.{Closed, Idle, Opening, Committing, Reading, Scanning, Looking, Paging, Folding, Closing, Renewing, Settling, Sweeping, Broken}
use Rattle.cloud_facts.proofs.Book.Names.{at_same}
use Rattle.cloud_facts.proofs.Book.Places.{get_front, get_map, in_front}
use Rattle.cloud_facts.proofs.Numbers.Lists.{map_there}
use Rattle.cloud_facts.specs.Book.Messages.{IsLogMessage}
use Rattle.cloud_facts.specs.Words.{at, CommitAnswer, QueueName, Entry, AtomicRec, Ended, Posted, CloudState, Caller, Seen, Ends, IsIn, StandsAt}
use Rattle.cloud_facts.specs.Book.Records.{entry_of, entries_of}
use Rattle.cloud_trait.proofs.RowLemmas.{leaves_grown}
use Rattle.cloud_trait.specs.Growth.{BeginsWith, HasGrown}
use Rattle.cloud_trait.specs.Upto.{posts_of}
use Rattle.cloud_trait.specs.Weather.{counted, Leaves}
use Rattle.commit_run.specs.Run.{Run, home_of}
use Rattle.db_base.specs.declared.names.QueueName.TheVariants.{Atomic}
use Rattle.db_base.specs.declared.trouble.CommitAnswer.TheVariants.{Committed, NotCommitted, InDoubt, CommittedOpen}
use Rattle.db_base.specs.declared.wish.Wish.{Wish}
use Rattle.event_text.specs.declared.event.Event.{Event}
use Rattle.history.specs.Audited.{committed_entry}
use Rattle.log_codec.specs.Atomic.{atomic_of}
use Rattle.recover_run.specs.declared.home.Home.{Home}
use Rattle.replay_meaning.specs.Committed.{committed}
use Rattle.replay_meaning.specs.Standing.{Line, Posture, Working, Committing as CommitTask, session_of, standing}
use Rattle.reply_text.specs.declared.reply.Reply.TheVariants as reply
use Rattle.session_facts.proofs.Lines.Acknowledged.{call_commits_on}
use Rattle.session_facts.proofs.Machines.CommitRuns.Numbers.{RunsAt, run_goes_at}
use Rattle.session_facts.proofs.Lines.Committed.{committed_line}
use Rattle.session_facts.proofs.Lines.More.{line_of}
use Rattle.session_facts.proofs.Lines.Outcome.{CallLeaves, MadeCall, made_call, wish_holds}
use Rattle.session_facts.specs.Lines.Facts.{session_at, CloudHolds, WorksAs}
use Rattle.txn_buffer.specs.Noted.{Noted}
use Rattle.world_core.proofs.CommitReplies.{SaysNothing, asked_keeps}
use Rattle.world_core.proofs.StandsLemmas.{IsUnderWay, told_under, call, steps_own, changed_at}
use Rattle.world_core.specs.Handled.{StepsLooked, Handled}
use Rattle.world_core.specs.Stands.{WorldStands}
use Rattle.world_core.specs.World.{World}
use Rattle.world_core.specs.Span.{span_of}
use Rattle.schedule_run.proofs.Loads.Messages.{IsSent}
use Rattle.schedule_run.proofs.Loads.Numbered.{Numbered}
use Rattle.schedule_run.proofs.Loads.Records.{InLog, HasRecords, HasFor, session_records}
use Rattle.std.proofs.lemmas.Option.{same_Some}

-- ---- what is left of a commit

-- a change at a place has its message
pub record HasSent (t : CloudState) (client epoch txn place : ℕ) (n : Noted) : Type 0 where
  pub at : ℕ
  pub of : AtomicRec
  pub message : Posted
  pub there : slice_get (t.messages (Atomic client)) at ≡ Some message
  pub reads : atomic_of message.bytes ≡ Some of
  pub epoch_is : of.epoch ≡ epoch
  pub txn_is : of.txn ≡ txn
  pub index_is : of.index ≡ place + 1
  pub tree_is : of.tree ≡ n.tree
  pub change_is : of.change ≡ n.change

-- the changes were sent and committed, and the client is open and has begun so many transactions as the answer tells
pub record WasSent (t : CloudState) (entries : List Entry) (client : ℕ) (changes : List Noted) (left : Work) (txn : ℕ) : Type 0 where
  pub epoch : ℕ
  pub sent : (place : ℕ) (n : Noted) → StandsAt changes place n → HasSent t client epoch txn place n
  pub logged : (n : Noted) → IsIn changes n → IsIn entries (committed_entry client epoch txn n)
  pub home : Home
  pub rests : left ≡ Idle home
  pub number : home.attempt ≡ txn

abbrev pub SentBy : CloudState → List Entry → ℕ → List Noted → Work → CommitAnswer → Type 0
SentBy t entries client changes left (Committed txn) = WasSent t entries client changes left txn
SentBy t entries client changes left (NotCommitted k) = Unit {0}
SentBy t entries client changes left InDoubt = Unit {0}
SentBy t entries client changes left (CommittedOpen k) = Unit {0}

abbrev pub SentAt : CloudState → List Entry → ℕ → Posture → Work → CommitAnswer → Type 0
SentAt t entries client (Working (CommitTask changes)) left a = SentBy t entries client changes left a
SentAt t entries client posture left a = Unit {0}

-- ---- one step

-- a message that was sent is there in every later state
grown_message : (s t : CloudState) (queue : QueueName) (id : ℕ) (r : AtomicRec) → HasGrown s t → IsLogMessage (s.messages queue) id r
    → (at : ℕ) × (m : Posted) × (slice_get (t.messages queue) at ≡ Some m) × (atomic_of m.bytes ≡ Some r)
grown_message s t queue id r g m =
    let f : Posted → Caller × List ℕ = λ (p : Posted). (p.who, p.bytes) in
    let old : slice_get (posts_of (s.messages queue)) m.place ≡ Some (f m.message) = get_map f (s.messages queue) m.place m.message m.there in
    let b = g.messages queue in
    let new : slice_get (posts_of (t.messages queue)) m.place ≡ Some (f m.message) =
    ap (λ (l : List (Caller × List ℕ)). slice_get l m.place) b.1 ∙ get_front (posts_of (s.messages queue)) b.0 m.place (f m.message) old in
    let p = map_there f (t.messages queue) m.place (f m.message) new in
    (m.place, p.0, p.1, ap (λ (x : Caller × List ℕ). atomic_of x.1) p.2 ∙ m.reads)

-- the work that a step of a commit at work leaves, where it is answered as committed
left_numbered : (who : Caller) (before after : Seen) (r : Run) (new : Work) (txn : ℕ) → StepsAt who before after (Committing r) new (Ended (answer.Commit (Committed txn)))
    → (home : Home) × (new ≡ Idle home) × (home.attempt ≡ txn)
left_numbered who before after r new txn (sound, c, d, p) =
    let end : RunsAt (home_of r).head.epoch (home_of r).attempt (Ends (p.0, d) (Committed txn)) =
    subst (RunsAt (home_of r).head.epoch (home_of r).attempt) p.1.took (run_goes_at (r, c) p.1.answer) in
    (home_of p.0, p.2, end.1 ∙ sym end.2)

module _ (lines : List Line) (line : Line) (who : Caller) (wish : Wish) (before after : Seen) (old new : World) (u : CloudState) (txn : ℕ) (number : who.event ≡ length lines + 1)
    (way : IsUnderWay lines old before) (told : after.state ≡ Some u) (p : StepsLooked who wish (span_of before after old new) (Ended (answer.Commit (Committed txn)))) where
  abbrev s : CloudState
  s = record way.after { wish = wish }

  held : CloudHolds (length lines + 1) lines (session_at old.sessions) old.audit old.blind s
  held = wish_holds (length lines + 1) lines (session_at old.sessions) old.audit old.blind way.after wish way.goes.holds

  left : CallLeaves lines p.to (at who.session p.session.after (session_at old.sessions)) new.audit new.blind
  left = call lines who wish before after old new (Ended (answer.Commit (Committed txn))) number way p

  under : p.under.state ≡ Some s
  under = told_under lines who wish before after old new (Ended (answer.Commit (Committed txn))) number way p

  own : StepsSession who p.under p.to (session_at old.sessions who.session) p.session.after (Ok (Ended (answer.Commit (Committed txn))))
  own = steps_own lines who wish before after old new (Ended (answer.Commit (Committed txn))) number way p

  same : left.state ≡ u
  same = same_Some left.state u (sym (p.look_after.stays left.state left.told) ∙ told)

  abbrev w : Work
  w = (session_at old.sessions who.session).work

  made : MadeCall who p.under p.to w
  made = made_call who p.under p.to w p.session.after.work (Ended (answer.Commit (Committed txn))) own.work

  grown : HasGrown s u
  grown =
      let l : Leaves who made.ask made.answer (counted p.under.counts s) p.to.counts p.to.state = made.made.state s under in
      subst (HasGrown s) (same_Some l.after u (sym (p.look_after.stays l.after l.told) ∙ told)) (leaves_grown who made.ask made.answer p.under.counts p.to.counts s p.to.state l)

  entries_on : BeginsWith (committed lines s) (committed (lines ++ line ∷ []) u)
  entries_on =
      subst (λ x. BeginsWith (committed lines s) (committed (lines ++ line ∷ []) x)) same
      (subst (BeginsWith (committed lines s)) (sym (committed_line lines line left.state left.holds.cloud.upto.trace))
      (call_commits_on lines who p.under p.to s left.state w p.session.after.work (Ended (answer.Commit (Committed txn))) under left.told held.cloud.placed own.work))

  entry_there : (client epoch place : ℕ) (n : Noted) → InLog held.book.log client epoch txn place n → IsIn (committed (lines ++ line ∷ []) u) (committed_entry client epoch txn n)
  entry_there client epoch place n r =
      let e : entry_of r.of ≡ committed_entry client epoch txn n =
      λ i. record { client = r.client_is i; epoch = r.epoch_is i; txn = r.txn_is i; tree = r.tree_is i; change = r.change_is i } in
      let in_log : IsIn (entries_of held.book.log) (committed_entry client epoch txn n) =
      subst (IsIn (entries_of held.book.log)) e (r.logged.0, get_map entry_of held.book.log r.logged.0 r.of r.logged.1) in
      subst (λ es. IsIn es (committed_entry client epoch txn n)) (sym entries_on.1)
      (in_front (committed lines s) entries_on.0 (committed_entry client epoch txn n) (subst (λ es. IsIn es (committed_entry client epoch txn n)) held.cloud.committed in_log))

  message_there : (client epoch place : ℕ) (n : Noted) → InLog held.book.log client epoch txn place n → HasSent u client epoch txn place n
  message_there client epoch place n r =
      let m = held.stand.cloud.holds.leaves.sent r.of r.logged in
      let g = grown_message s u (Atomic r.of.client) m.0 r.of grown m.1 in
      record {
        at = g.0;
        of = r.of;
        message = g.1;
        there = subst (λ c. slice_get (u.messages (Atomic c)) g.0 ≡ Some g.1) r.client_is g.2;
        reads = g.3;
        epoch_is = r.epoch_is;
        txn_is = r.txn_is;
        index_is = r.index_is;
        tree_is = r.tree_is;
        change_is = r.change_is;
      }

  was_sent : (client : ℕ) (changes : List Noted) (home : Home) → p.session.after.work ≡ Idle home → home.attempt ≡ txn → HasRecords held.book.log client txn changes
      → WasSent u (committed (lines ++ line ∷ []) u) client changes p.session.after.work txn
  was_sent client changes home rests number_is h = record {
    epoch = h.epoch;
    sent = λ place n at. message_there client h.epoch place n (h.each place n at);
    logged = λ n is. entry_there client h.epoch is.0 n (h.each is.0 n is.1);
    home = home;
    rests = rests;
    number = number_is;
  }

  -- as the lines say that the session stands
  by_lines : (x : Work) → w ≡ x → WorksAs x (standing lines who.session) → StepsAt who p.under p.to x p.session.after.work (Ended (answer.Commit (Committed txn)))
      → HasFor held.book.log x (Committed txn)
      → SentAt u (committed (lines ++ line ∷ []) u) (standing lines who.session).client (standing lines who.session).posture p.session.after.work (Committed txn)
  by_lines (Committing r) is acts steps has =
      let l = left_numbered who p.under p.to r p.session.after.work txn steps in
      subst (λ q. SentAt u (committed (lines ++ line ∷ []) u) (standing lines who.session).client q p.session.after.work (Committed txn)) (sym acts.0)
      (subst (λ c. WasSent u (committed (lines ++ line ∷ []) u) c r.draft.writes.changes p.session.after.work txn) (sym acts.1) (was_sent (home_of r).client r.draft.writes.changes l.0 l.1 l.2 has))
  by_lines (Opening r) is acts steps has = absurd steps.1
  by_lines (Idle home) is acts steps has = absurd steps
  by_lines (Reading home m) is acts steps has = absurd steps
  by_lines (Scanning home l) is acts steps has = subst (λ q. SentAt u (committed (lines ++ line ∷ []) u) (standing lines who.session).client q p.session.after.work (Committed txn)) (sym acts.0) tt
  by_lines (Looking home m) is acts (buffer, c, d, shown, never) has = absurd never
  by_lines (Paging home k) is acts steps has = absurd steps
  by_lines (Folding home f) is acts steps has = absurd steps
  by_lines (Renewing home) is acts steps has = absurd steps
  by_lines Closed is acts steps has = absurd steps
  by_lines (Closing lease) is acts steps has = absurd steps
  by_lines (Settling m) is acts steps has = absurd acts
  by_lines (Sweeping m) is acts steps has = absurd acts
  by_lines (Broken lease) is acts steps has = absurd steps

  pub step_sends : SentAt u (committed (lines ++ line ∷ []) u) (standing lines who.session).client (standing lines who.session).posture (session_at new.sessions who.session).work (Committed txn)
  step_sends =
      subst (λ x. SentAt u (committed (lines ++ line ∷ []) u) (standing lines who.session).client (standing lines who.session).posture x (Committed txn)) (sym after_work)
      (by_lines w refl (way.goes.acts who.session).work own.work
      (session_records who p.under p.to s held.book held.order (session_at old.sessions) held.stand p.session.after (Committed txn) own))
    where
      after_work : (session_at new.sessions who.session).work ≡ p.session.after.work
      after_work = ap (λ (a : Acting). a.work) (changed_at who.session _ old.sessions new.sessions p.session who.session ∙ at_same who.session p.session.after (session_at old.sessions) who.session refl)

-- ---- every line

step_any : (lines : List Line) (line : Line) (who : Caller) (wish : Wish) (before after : Seen) (old new : World) (u : CloudState) (c : CommitAnswer) → who.event ≡ length lines + 1
    → IsUnderWay lines old before → after.state ≡ Some u → StepsLooked who wish (span_of before after old new) (Ended (answer.Commit c))
    → SentAt u (committed (lines ++ line ∷ []) u) (standing lines who.session).client (standing lines who.session).posture (session_at new.sessions who.session).work c
step_any lines line who wish before after old new u (Committed txn) number way told p = step_sends lines line who wish before after old new u txn number way told p
step_any lines line who wish before after old new u (NotCommitted t) number way told p = nothing (standing lines who.session).posture
  where
    nothing : (q : Posture) → SentAt u (committed (lines ++ line ∷ []) u) (standing lines who.session).client q (session_at new.sessions who.session).work (NotCommitted t)
    nothing (Working (CommitTask changes)) = tt
    nothing q = tt
step_any lines line who wish before after old new u InDoubt number way told p = nothing (standing lines who.session).posture
  where
    nothing : (q : Posture) → SentAt u (committed (lines ++ line ∷ []) u) (standing lines who.session).client q (session_at new.sessions who.session).work InDoubt
    nothing (Working (CommitTask changes)) = tt
    nothing q = tt
step_any lines line who wish before after old new u (CommittedOpen t) number way told p = nothing (standing lines who.session).posture
  where
    nothing : (q : Posture) → SentAt u (committed (lines ++ line ∷ []) u) (standing lines who.session).client q (session_at new.sessions who.session).work (CommittedOpen t)
    nothing (Working (CommitTask changes)) = tt
    nothing q = tt

says_nothing : (u : CloudState) (entries : List Entry) (client : ℕ) → SaysNothing (λ q left c. SentAt u entries client q left c)
says_nothing u entries client = record { closed = λ left a. tt; idle = λ left a. tt; broken = λ left a. tt }

pub line_sends : (lines : List Line) (e : Event) (before after : Seen) (old new : World) (txn : ℕ) (t u : CloudState) → before.state ≡ Some t → after.state ≡ Some u → WorldStands lines old t
    → Handled (length lines + 1) e (span_of before after old new) (Ok (reply.Commit (Committed txn)))
    → SentAt u (committed (lines ++ line_of e (reply.Commit (Committed txn)) ∷ []) u) (standing lines (session_of e)).client (standing lines (session_of e)).posture
    (session_at new.sessions (session_of e)).work (Committed txn)
line_sends lines e before after old new txn t u told seen stands h =
    let line : Line = line_of e (reply.Commit (Committed txn)) in
    let entries : List Entry = committed (lines ++ line ∷ []) u in
    let client : ℕ = (standing lines (session_of e)).client in
    asked_keeps (λ q left c. SentAt u entries client q left c) (says_nothing u entries client) (length lines + 1) before after old new (reply.Commit (Committed txn)) lines t refl told stands.by_lines e
    (λ wish mid world c way p. step_any lines line (record { session = session_of e; event = length lines + 1 }) wish mid after world new u c refl way seen p) h.asked h.asks h.answers

-- a transaction of client 1 of a session that has begun so many is of that number
pub sent_numbered : (u : CloudState) (entries : List Entry) (changes : List Noted) (work : Work) (n txn : ℕ) → WasSent u entries 1 changes work txn → Numbered n work → (txn ≡ n) × IsSent u entries n changes
sent_numbered u entries changes work n txn w h =
    let own : w.home.attempt ≡ n = subst (Numbered n) w.rests h in
    let is : txn ≡ n = sym w.number ∙ own in (
      is,
      subst (λ k. IsSent u entries k changes) is (record {
        epoch = w.epoch;
        sent = λ place x at.
            let m = w.sent place x at in
            record {
              at = m.at;
              of = m.of;
              message = m.message;
              there = m.there;
              reads = m.reads;
              epoch_is = m.epoch_is;
              txn_is = m.txn_is;
              index_is = m.index_is;
              tree_is = m.tree_is;
              change_is = m.change_is;
            };
        logged = w.logged;
      }),
    )
