-- Every line keeps what a writer's notes meter.
use Rattle.std.proofs.Common.{◌≡◌, ◌≤◌, ◌+◌, ◌-◌, ◌==◌, inl, inr, ℕ, Bool, true, false, cond, List, [], ◌∷◌, ◌++◌, length, Option, Some, Result, Ok, Err, refl, sym, ap, subst, ◌∙◌, arith}
use Rattle.std.specs.Prelude.{slice_get}
use Rattle.std.proofs.lemmas.Bool.{eqb-true}
use Rattle.ckpt_policy.specs.declared.note.Note.{Note}
use Rattle.ckpt_policy.specs.declared.place.Place.{Place}
use Rattle.ckpt_policy.specs.declared.role.Role.{Role}
use Rattle.ckpt_policy.specs.declared.role.Role.TheVariants.{Writer, Reader, Watchdog, Owner}
use Rattle.ckpt_policy.specs.Ledger.{IsNumber}
use Rattle.ckpt_policy.specs.Notes.{queue_at}
use Rattle.client_work.specs.declared.op.Op.{Op}
use Rattle.client_work.specs.declared.op.Op.TheVariants as op
use Rattle.client_work.specs.declared.work.Work.{Work}
use Rattle.client_work.specs.declared.work.Work.TheVariants as work
use Rattle.client_work.specs.Session.{Acting, open_client}
use Rattle.cloud_facts.proofs.Book.Names.{at_same}
use Rattle.cloud_facts.specs.Words.{QueueName, Posted, CloudState, Caller, Seen}
use Rattle.cloud_trait.specs.Delivery.{unmarked}
use Rattle.db_base.specs.Limits.{most_changes}
use Rattle.db_base.specs.declared.refusal.Refusal.{Refusal}
use Rattle.db_base.specs.declared.refusal.Refusal.TheVariants as rule
use Rattle.db_base.specs.declared.refusal.Refused.{Refused}
use Rattle.db_base.specs.declared.refusal.Refused.TheVariants as refused
use Rattle.db_base.specs.declared.wish.Wish.{Wish}
use Rattle.event_text.specs.declared.event.Event.{Event}
use Rattle.event_text.specs.declared.event.Event.TheVariants as event
use Rattle.recover_run.specs.declared.home.Home.{Home}
use Rattle.replay_meaning.specs.Standing.{Line}
use Rattle.reply_text.specs.declared.reply.Reply.{Reply}
use Rattle.reply_text.specs.declared.reply.Reply.TheVariants as reply
use Rattle.session_facts.proofs.Lines.More.{line_of}
use Rattle.session_facts.specs.Lines.Facts.{session_at}
use Rattle.session_notes.specs.declared.notebook.Notebook.{Notebook}
use Rattle.session_notes.specs.Metered.{IsMetered, sent_since, waiting_at}
use Rattle.session_notes.specs.Notebook.{IsDue}
use Rattle.txn_buffer.specs.Noted.{Noted}
use Rattle.session_facts.proofs.Writers.WorkSends.{IsWritersOp, MaySend, begin_sends}
use Rattle.session_facts.specs.Writers.Sending.{SendsAtMost}
use Rattle.world_core.proofs.Ledgers.{book_after, ledger_changed, writer_same}
use Rattle.world_core.proofs.MeteredSteps.{MetersSeen, meter_comes, meter_step}
use Rattle.world_core.proofs.MeteredWork.{works_down_few}
use Rattle.world_core.proofs.StandsLemmas.{changed_at, changed_was, no_memory, refused_is}
use Rattle.world_core.proofs.Unsent.{NoCommits, none_waits, unbound_none}
use Rattle.world_core.proofs.Workers.{HoldsWithin, IsBetween, open_rests, worker_begins, worker_rows}
use Rattle.world_core.specs.Asked.{Asks, IsNoted, IsReading, IsScanning, IsLookingUp, IsStep, OfSession, bound_of, noting_of}
use Rattle.world_core.specs.EachStep.{EachAsked, EachDone, EachThrough}
use Rattle.world_core.specs.Handled.{Answers, BeginsOp, BeginsBook, BookBegins, Declines, Does, DropsChanges, GivesLedger, MakesNoCall, MakesStep, NotesChange, Policies, Runs, WorksThrough, book_begun}
use Rattle.world_core.specs.Metered.{HasLedger, KeepsMeter, LeavesFewAt, Meters, MetersAt, StepGoesThrough}
use Rattle.world_core.specs.Replying.{declined}
use Rattle.world_core.specs.Sessions.{AbortsIn, Changes, NotesIn}
use Rattle.world_core.specs.Stands.{WorldStands}
use Rattle.world_core.specs.World.{World}
use Rattle.world_core.specs.Writers.{Stage, Unbound, Even, Owing, Astray, by_line, given, own_line, stage_of, unbound_line, works}
use Rattle.world_core.specs.declared.asked.Asked.{Asked}
use Rattle.world_core.specs.declared.asked.Asked.TheVariants.{Session, Wait, Report, Settle, Sweep}
use Rattle.world_core.specs.declared.asked.Noting.{Noting}
use Rattle.world_core.specs.declared.asked.Request.{Request}
use Rattle.world_core.specs.declared.asked.Request.TheVariants.{Begin, Note as NoteChange, Abort, Policy, Work as WorksDue, Step, Run, Crash}
use Rattle.world_core.specs.declared.world.WorldFault.{WorldFault}
use Rattle.world_core.specs.Span.{span_of}

state_is : (x y : CloudState) → Some x ≡ Some y → x ≡ y
state_is x y e = cc (e)

-- the same of a wider bound
wider : (session k a b : ℕ) (world : World) (t : CloudState) → a ≤ b → Meters session k a world t → Meters session k b world t
wider session k a b world t within m = record {
  notes = m.notes;
  ledger = m.ledger;
  number = m.number;
  metered = m.metered;
  left = m.left;
  sends = m.sends;
  within = λ place. let few = m.within place in omega (arith, few, within);
}

-- behind its work few wait
pub few_left : (session k : ℕ) (world : World) (t : CloudState) → Meters session k (k - 1) world t → (place : Place) → waiting_at t place ≤ k - 1
few_left session k world t m place =
    let wait = m.metered place in
    let few = m.within place in
    omega (arith, wait, few)

-- more may be sent
more_sends : (a b : ℕ) (w : Work) → a ≤ b → SendsAtMost a w → SendsAtMost b w
more_sends a b (work.Committing m) more sends = omega (arith, more, sends)
more_sends a b work.Closed more sends = tt
more_sends a b (work.Idle home) more sends = tt
more_sends a b (work.Reading home m) more sends = tt
more_sends a b (work.Scanning home m) more sends = tt
more_sends a b (work.Looking home m) more sends = tt
more_sends a b (work.Closing lease) more sends = tt
more_sends a b (work.Renewing home) more sends = tt
more_sends a b (work.Broken lease) more sends = tt
more_sends a b (work.Opening m) more sends = absurd sends
more_sends a b (work.Paging home m) more sends = absurd sends
more_sends a b (work.Folding home m) more sends = absurd sends
more_sends a b (work.Settling m) more sends = absurd sends
more_sends a b (work.Sweeping m) more sends = absurd sends

same_book : (a b : Notebook) → Some a ≡ Some b → a ≡ b
same_book a b e = cc (e)

module _ (lines : List Line) (n session k : ℕ) (before after : Seen) (old new : World) (r : Reply) (t u : CloudState) (number : length lines + 1 ≡ n) (told : before.state ≡ Some t)
    (told_after : after.state ≡ Some u) (stands : WorldStands lines old t) where
  -- what a line of the session leaves, where it keeps the stage
  abbrev Keeps : Type 0
  Keeps = (bound : ℕ) → Meters session k bound old t → Meters session k bound new u

  -- ---- nothing is done

  as_told : (bound : ℕ) (world : World) → MetersSeen session k bound world after → Meters session k bound world u
  as_told bound world m = subst (λ (x : CloudState). Meters session k bound world x) (state_is m.state u (sym m.told ∙ told_after)) m.meters

  -- the world and what is seen are the same
  unchanged : after ≡ before → new ≡ old → Keeps
  unchanged seen world bound m =
      let same : t ≡ u = state_is t u (sym told ∙ ap (λ (s : Seen). s.state) (sym seen) ∙ told_after) in
      subst (λ (w : World). Meters session k bound w u) (sym world) (subst (λ (x : CloudState). Meters session k bound old x) same m)

  declined_keeps : (why : Refused) → Declines why (span_of before after old new) (Ok r) → Keeps
  declined_keeps why d = unchanged d.seen d.world

  -- a session of the world changes, beside its notebook, and no call is made
  changes_keeps : (Does : Acting → Acting → Type 0) → after ≡ before → (c : Changes session Does old.sessions new.sessions)
      → ((left : ℕ) → SendsAtMost left c.before.work → SendsAtMost left c.after.work) → ((notes : List Note) → HasLedger session k notes old.notes → HasLedger session k notes new.notes) → Keeps
  changes_keeps Does seen c sends ledger bound m =
      let same : t ≡ u = state_is t u (sym told ∙ ap (λ (s : Seen). s.state) (sym seen) ∙ told_after) in
      let was : session_at old.sessions session ≡ c.before = changed_was session Does old.sessions new.sessions c in
      let is : session_at new.sessions session ≡ c.after = changed_at session Does old.sessions new.sessions c session ∙ at_same session c.after (session_at old.sessions) session refl in
      record {
        notes = m.notes;
        ledger = ledger m.notes m.ledger;
        number = m.number;
        metered = subst (IsMetered m.notes) same m.metered;
        left = m.left;
        sends = subst (λ (a : Acting). SendsAtMost m.left a.work) (sym is) (sends m.left (subst (λ (a : Acting). SendsAtMost m.left a.work) was m.sends));
        within = m.within;
      }

  notes_same : new.notes ≡ old.notes → (notes : List Note) → HasLedger session k notes old.notes → HasLedger session k notes new.notes
  notes_same same notes has = subst (λ (books : List Notebook). HasLedger session k notes books) (sym same) has

  -- ---- operations that begin

  begun_ledger : (o : Op) → IsWritersOp o → BeginsBook session o old new → (notes : List Note) → HasLedger session k notes old.notes → HasLedger session k notes new.notes
  begun_ledger o is b notes has = on (open_client b.session.work) b.does
    where
      ledger_same : (own : Op) → IsWritersOp own → (a z : Notebook) → z ≡ book_begun own a → z.ledger ≡ a.ledger
      ledger_same op.Renew w a z e = ap (λ (x : Notebook). x.ledger) e
      ledger_same op.Commit w a z e = ap (λ (x : Notebook). x.ledger) e
      ledger_same (op.Read tree key) w a z e = ap (λ (x : Notebook). x.ledger) e
      ledger_same (op.Scan tree from to) w a z e = ap (λ (x : Notebook). x.ledger) e
      ledger_same (op.Lookup tree attr) w a z e = ap (λ (x : Notebook). x.ledger) e
      ledger_same own w a z e = absurd w

      on : (result : Result ℕ Refusal) → BookBegins session o result old.notes new.notes → HasLedger session k notes new.notes
      on (Ok client) c = ledger_changed session k notes notes _ old.notes new.notes c (λ a z e w. writer_same k notes a z (ledger_same o is a z e) w) has
      on (Err rule) same = notes_same same notes has

  abbrev DoesBegin : Op → Type 0
  DoesBegin o = MakesNoCall (span_of before after old new) × Changes session (BeginsOp o (Ok r)) old.sessions new.sessions × BeginsBook session o old new

  -- one that is no commit
  begins_keeps : (o : Op) → IsWritersOp o → ((left : ℕ) (buffer : List Noted) → MaySend o left buffer) → DoesBegin o → Keeps
  begins_keeps o is may (quiet, c, book) =
      changes_keeps (BeginsOp o (Ok r)) quiet.seen c
      (λ left sends. begin_sends left o c.before c.after c.does.begun is (may left c.before.buffer) c.does.begins sends) (begun_ledger o is book)

  -- a commit may send one message for each of its changes
  few_changes : (c : Changes session (BeginsOp op.Commit (Ok r)) old.sessions new.sessions) → length c.before.buffer ≤ 200
  few_changes c =
      subst (λ (a : Acting). length a.buffer ≤ 200) (changed_was session (BeginsOp op.Commit (Ok r)) old.sessions new.sessions c)
      (stands.by_lines.holds.stand.each session).buffer.noted.most

  commit_keeps : DoesBegin op.Commit → Meters session k (k - 1) old t → Meters session k (k - 1 + most_changes) new u
  commit_keeps (quiet, c, book) m =
      let same : t ≡ u = state_is t u (sym told ∙ ap (λ (s : Seen). s.state) (sym quiet.seen) ∙ told_after) in
      let was : session_at old.sessions session ≡ c.before = changed_was session (BeginsOp op.Commit (Ok r)) old.sessions new.sessions c in
      let is : session_at new.sessions session ≡ c.after =
      changed_at session (BeginsOp op.Commit (Ok r)) old.sessions new.sessions c session ∙ at_same session c.after (session_at old.sessions) session refl in
      record {
        notes = m.notes;
        ledger = begun_ledger op.Commit tt book m.notes m.ledger;
        number = m.number;
        metered = subst (IsMetered m.notes) same m.metered;
        left = m.left + most_changes;
        sends = subst (λ (a : Acting). SendsAtMost (m.left + most_changes) a.work) (sym is)
            (begin_sends (m.left + most_changes) op.Commit c.before c.after c.does.begun tt (let few = few_changes c in omega (arith, few)) c.does.begins
            (more_sends m.left (m.left + most_changes) c.before.work (omega arith) (subst (λ (a : Acting). SendsAtMost m.left a.work) was m.sends)));
        within = λ place. let few = m.within place in omega (arith, few);
      }

  -- ---- changes that are noted and dropped

  notes_keeps : (noting : Noting) → Does (record { session = session; event = n }) (NoteChange noting) (span_of before after old new) (Ok r) → Keeps
  notes_keeps noting (quiet, c, same) =
      changes_keeps (NotesChange noting (Ok r)) quiet.seen c (λ left sends. on left c.does.noted c.does.notes sends) (notes_same same)
    where
      on : (left : ℕ) (noted : Result (Unit {0}) Refused) → NotesIn noting c.before c.after noted → SendsAtMost left c.before.work → SendsAtMost left c.after.work
      on left (Ok done) p sends = subst (λ (a : Acting). SendsAtMost left a.work) (sym p.0) sends
      on left (Err why) p sends = subst (λ (a : Acting). SendsAtMost left a.work) (sym p.0) sends

  drops_keeps : Does (record { session = session; event = n }) Abort (span_of before after old new) (Ok r) → Keeps
  drops_keeps (quiet, c, same) = changes_keeps (DropsChanges (Ok r)) quiet.seen c (λ left sends. on left c.does.dropped c.does.drops sends) (notes_same same)
    where
      on : (left : ℕ) (dropped : Result (Unit {0}) Refused) → AbortsIn c.before c.after dropped → SendsAtMost left c.before.work → SendsAtMost left c.after.work
      on left (Ok done) p sends = subst (λ (a : Acting). SendsAtMost left a.work) (sym p.0) sends
      on left (Err why) p sends = subst (λ (a : Acting). SendsAtMost left a.work) (sym p.0) sends

  -- ---- steps

  abbrev who : Caller
  who = record { session = session; event = n }

  seen_so : (bound : ℕ) → Meters session k bound old t → MetersSeen session k bound old before
  seen_so bound m = record { state = t; told = told; meters = m }

  step_keeps : (wish : Wish) → MakesStep (record { session = session; event = n }) wish (span_of before after old new) (Ok r) → Keeps
  step_keeps wish (inl refused) = declined_keeps _ refused.declines
  step_keeps wish (inr (inl made)) = λ bound m. as_told bound new (meter_step who k bound wish before after old new made.turn made.steps t told m)
  step_keeps wish (inr (inr memory)) = absurd (no_memory r memory.0)

  run_keeps : Runs (record { session = session; event = n }) (span_of before after old new) (Ok r) → Keeps
  run_keeps (inl refused) = declined_keeps _ refused.declines
  run_keeps (inr (inl run)) = λ bound m. as_told bound new (meter_comes who k bound before after old new run.answer (seen_so bound m) run.comes)
  run_keeps (inr (inr memory)) = absurd (no_memory r memory.0)

  -- ---- its work

  abbrev q : Reply
  q = reply.Worked 0 0

  works_keeps : (bound : ℕ) (stage : Stage) → bound ≤ k - 1 + most_changes → (Meters session k bound new u → MetersAt stage session k new u)
      → (p : WorksThrough (record { session = session; event = n }) (span_of before after old new) (Ok r)) → EachThrough StepGoesThrough (record { session = session; event = n }) (span_of before after old new) (Ok r) p → Meters session k bound old t
      → MetersAt (works r stage) session k new u
  works_keeps bound stage limit stays (inl refuses) each m =
      subst (λ (x : Reply). MetersAt (works x stage) session k new u) (sym (refused_is r refuses.rule refuses.declines.reply)) (stays (declined_keeps _ refuses.declines bound m))
  works_keeps bound stage limit stays (inr (inr memory)) each m = absurd (no_memory r memory.0)
  works_keeps bound stage limit stays (inr (inl d)) each m = subst (λ (x : Reply). MetersAt (works x stage) session k new u) (sym r_is) (on (d.passed == 0) refl)
    where
      r_is : r ≡ reply.Worked d.done d.passed
      r_is = cc (d.replies)

      begins : HoldsWithin n (lines ++ line_of (event.Work session) q ∷ []) old before
      begins = worker_begins lines session n before old t (sym number) told stands.by_lines q tt

      state_same : t ≡ begins.state
      state_same = state_is t begins.state (sym told ∙ begins.told)

      due_book : (book : Notebook) → slice_get old.notes session ≡ Some book → IsDue book d.queues
      due_book book there = subst (λ (x : Notebook). IsDue x d.queues) (same_book d.due.book book (sym d.due.there ∙ there)) d.due.due

      on : (b : Bool) → (d.passed == 0) ≡ b → MetersAt (cond b Even Astray) session k new u
      on false e = tt
      on true e =
          let rest = open_rests session old d.opened in
          as_told (k - 1) new
          (works_down_few n k session bound (lines ++ line_of (event.Work session) q ∷ []) (worker_rows lines session n before old t (sym number) told stands.by_lines q) before after old new
          d.done d.passed begins (subst (λ (x : CloudState). Meters session k bound old x) state_same m) limit rest.0 rest.2 d.queues due_book d.works (eqb-true d.passed 0 e) each)

  -- ---- its ledger

  policy_refused : (role : Role) (kept : ℕ) (rule : Refusal) → (let result : Result Reply WorldFault = Ok r in result ≡ declined (refused.Rule rule))
      → MetersAt (unbound_line k (event.Policy session role kept) r) session k new u
  policy_refused role kept rule e = subst (λ (x : Reply). MetersAt (unbound_line k (event.Policy session role kept) x) session k new u) (sym (refused_is r rule e)) tt

  gives_meter : (kept : ℕ) (role : Role) (g : GivesLedger session role kept (span_of before after old new) (Ok r)) → role ≡ Writer → kept ≡ k → NoCommits lines → Meters session k (k - 1) new u
  gives_meter kept role g is same none = record {
    notes = [];
    ledger = record {
      book = g.notes.after;
      there = book_after session _ old.notes new.notes g.notes;
      is = record {
        account = record { role = role; k = kept; client = g.opened.client; counts = [] };
        ledger = ap (λ (x : Notebook). x.ledger) g.notes.does;
        role = is;
        number = same;
        stands = refl;
      };
    };
    number = subst IsNumber same g.number_is;
    metered = λ place.
        let nobody : waiting_at u place ≡ 0 = subst (λ (x : CloudState). waiting_at x place ≡ 0) state_same (none_waits lines old t stands.by_lines none place) in
        omega (arith, nobody);
    left = 0;
    sends = subst (λ (z : Work). SendsAtMost 0 z) (sym idle) tt;
    within = λ place. omega arith;
  }
    where
      rest : (home : Home) × (home.client ≡ g.opened.client) × IsBetween session home (session_at old.sessions) old
      rest = open_rests session old g.opened

      idle : (session_at new.sessions session).work ≡ work.Idle rest.0
      idle = ap (λ (l : List Acting). (session_at l session).work) g.sessions ∙ rest.2.works

      state_same : t ≡ u
      state_same = state_is t u (sym told ∙ ap (λ (s : Seen). s.state) (sym g.quiet.seen) ∙ told_after)

  given_so : (role : Role) (kept : ℕ) → NoCommits lines → GivesLedger session role kept (span_of before after old new) (Ok r) → MetersAt (given k role kept) session k new u
  given_so Writer kept none g = on (kept == k) refl
    where
      on : (b : Bool) → (kept == k) ≡ b → MetersAt (cond b Even Unbound) session k new u
      on true e = gives_meter kept Writer g refl (eqb-true kept k e) none
      on false e = tt
  given_so Reader kept none g = tt
  given_so Watchdog kept none g = tt
  given_so Owner kept none g = tt

  policy_gives : (role : Role) (kept : ℕ) → NoCommits lines → Policies session role kept (span_of before after old new) (Ok r)
      → MetersAt (unbound_line k (event.Policy session role kept) r) session k new u
  policy_gives role kept none (inl refuses) = policy_refused role kept rule.BadNumber refuses.declines.reply
  policy_gives role kept none (inr (inl refuses)) = policy_refused role kept refuses.1.rule refuses.1.declines.reply
  policy_gives role kept none (inr (inr g)) =
      let is : r ≡ reply.Noted = cc (g.replies) in
      subst (λ (x : Reply). MetersAt (unbound_line k (event.Policy session role kept) x) session k new u) (sym is) (given_so role kept none g)

  -- ---- what is asked

  abbrev AsksOf : (Result Request Refused → Type 0) → Asked → Type 0
  AsksOf Is asked = OfSession session Is asked

  -- what a request does, each step of it gone through
  abbrev DoesThrough : ℕ → Request → Type 0
  DoesThrough j request = (d : Does (record { session = j; event = n }) request (span_of before after old new) (Ok r)) × EachDone StepGoesThrough (record { session = j; event = n }) request (span_of before after old new) (Ok r) d

  requests : (Out : Type 0) (Is : Result Request Refused → Type 0) (asked : Asked) → AsksOf Is asked → (h : Answers n asked (span_of before after old new) (Ok r))
      → EachAsked StepGoesThrough n asked (span_of before after old new) (Ok r) h → ((why : Refused) → Declines why (span_of before after old new) (Ok r) → Out)
      → ((request : Request) → Is (Ok request) → DoesThrough session request → Out) → Out
  requests Out Is (Session j (Ok request)) belongs (inl p) each declines serves =
      serves request belongs.1 (subst (λ (i : ℕ). DoesThrough i request) belongs.0 (p.1, each))
  requests Out Is (Session j (Err why)) belongs (inl p) each declines serves = declines why p.1
  requests Out Is (Session j request) belongs (inr none) each declines serves = declines _ none.declines
  requests Out Is (Wait ticks) belongs h each declines serves = absurd belongs
  requests Out Is (Report tree) belongs h each declines serves = absurd belongs
  requests Out Is Settle belongs h each declines serves = absurd belongs
  requests Out Is (Sweep tree) belongs h each declines serves = absurd belongs

  -- the one that was asked
  as_asked : (request own : Request) → (let a : Result Request Refused = Ok request in let b : Result Request Refused = Ok own in a ≡ b) → DoesThrough session request → DoesThrough session own
  as_asked request own e does = let is : request ≡ own = cc (e) in subst (DoesThrough session) is does

  -- one that begins an operation
  begin_line : (o : Op) → IsWritersOp o → ((left : ℕ) (buffer : List Noted) → MaySend o left buffer) → (Is : Result Request Refused → Type 0)
      → ((request : Request) → Is (Ok request) → request ≡ Begin o) → (asked : Asked) → AsksOf Is asked → (h : Answers n asked (span_of before after old new) (Ok r))
      → EachAsked StepGoesThrough n asked (span_of before after old new) (Ok r) h → Keeps
  begin_line o is may Is own asked asks h each =
      requests Keeps Is asked asks h each declined_keeps (λ request so does. begins_keeps o is may (subst (DoesThrough session) (own request so) does).0)

  note_line : (noting : Noting) (asked : Asked) → AsksOf (IsNoted noting) asked → (h : Answers n asked (span_of before after old new) (Ok r))
      → EachAsked StepGoesThrough n asked (span_of before after old new) (Ok r) h → Keeps
  note_line noting asked asks h each = requests Keeps (IsNoted noting) asked asks h each declined_keeps on
    where
      on : (request : Request) → IsNoted noting (Ok request) → DoesThrough session request → Keeps
      on (NoteChange other) is does = notes_keeps other does.0
      on (Begin o) is does = absurd is
      on (Policy role kept) is does = absurd is
      on WorksDue is does = absurd is
      on Abort is does = absurd is
      on (Step wish) is does = absurd is
      on Run is does = absurd is
      on (Crash done) is does = absurd is

  -- ---- stages

  abbrev Next : Stage → Type 0
  Next stage = MetersAt stage session k new u

  stage_kept : Keeps → (stage : Stage) → MetersAt stage session k old t → Next stage
  stage_kept keeps Unbound m = tt
  stage_kept keeps Even m = keeps (k - 1) m
  stage_kept keeps Owing m = keeps (k - 1 + most_changes) m
  stage_kept keeps Astray m = tt

  -- a line of the session that keeps the stage
  quiet : (s : ℕ) (own : Stage → Stage) → ((stage : Stage) → own stage ≡ stage) → (s ≡ session → Keeps) → (stage : Stage) → MetersAt stage session k old t
      → Next (cond (s == session) (own stage) Astray)
  quiet s own same keeps stage m = on (s == session) refl
    where
      on : (b : Bool) → (s == session) ≡ b → Next (cond b (own stage) Astray)
      on true e = subst Next (sym (same stage)) (stage_kept (keeps (eqb-true s session e)) stage m)
      on false e = tt

  -- one behind which nothing is said
  gone : (s : ℕ) (own : Stage → Stage) → ((stage : Stage) → Next (own stage)) → (stage : Stage) → Next (cond (s == session) (own stage) Astray)
  gone s own none stage = on (s == session)
    where
      on : (b : Bool) → Next (cond b (own stage) Astray)
      on true = none stage
      on false = tt

  -- one of the session, by what it leads to
  by_own : (s : ℕ) (own : Stage → Stage) (stage : Stage) → (s ≡ session → Next (own stage)) → Next (cond (s == session) (own stage) Astray)
  by_own s own stage leads = on (s == session) refl
    where
      on : (b : Bool) → (s == session) ≡ b → Next (cond b (own stage) Astray)
      on true e = leads (eqb-true s session e)
      on false e = tt

  commit_line : (s : ℕ) (asked : Asked) → AsksOf (λ request. request ≡ Ok (Begin op.Commit)) asked → (h : Answers n asked (span_of before after old new) (Ok r))
      → EachAsked StepGoesThrough n asked (span_of before after old new) (Ok r) h → (stage : Stage) → MetersAt stage session k old t → Next (own_line k (event.Commit s) r stage)
  commit_line s asked asks h each Unbound m = tt
  commit_line s asked asks h each Even m =
      requests (Meters session k (k - 1 + most_changes) new u) (λ request. request ≡ Ok (Begin op.Commit)) asked asks h each
      (λ why d. wider session k (k - 1) (k - 1 + most_changes) new u (omega arith) (declined_keeps why d (k - 1) m))
      (λ request is does. commit_keeps (as_asked request (Begin op.Commit) is does).0 m)
  commit_line s asked asks h each Owing m = tt
  commit_line s asked asks h each Astray m = tt

  -- a line that is refused is answered so
  refused_works : (stage : Stage) (why : Refused) → Declines why (span_of before after old new) (Ok r) → Next stage → Next (works r stage)
  refused_works stage (refused.Rule rule) d next = subst (λ (x : Reply). Next (works x stage)) (sym (refused_is r rule d.reply)) next
  refused_works stage refused.Memory d next = absurd (cc (d.reply))

  work_at_stage : (bound : ℕ) (stage : Stage) → bound ≤ k - 1 + most_changes → (Meters session k bound new u → Next stage) → (asked : Asked)
      → AsksOf (λ request. request ≡ Ok WorksDue) asked → (h : Answers n asked (span_of before after old new) (Ok r)) → EachAsked StepGoesThrough n asked (span_of before after old new) (Ok r) h
      → Meters session k bound old t → Next (works r stage)
  work_at_stage bound stage limit stays asked asks h each m =
      requests (Next (works r stage)) (λ request. request ≡ Ok WorksDue) asked asks h each
      (λ why d. refused_works stage why d (stays (declined_keeps why d bound m)))
      (λ request is does. let own = as_asked request WorksDue is does in works_keeps bound stage limit stays own.0 own.1 m)

  work_line : (s : ℕ) (asked : Asked) → AsksOf (λ request. request ≡ Ok WorksDue) asked → (h : Answers n asked (span_of before after old new) (Ok r))
      → EachAsked StepGoesThrough n asked (span_of before after old new) (Ok r) h → (stage : Stage) → MetersAt stage session k old t → Next (own_line k (event.Work s) r stage)
  work_line s asked asks h each Unbound m = tt
  work_line s asked asks h each Even m = work_at_stage (k - 1) Even (omega arith) (λ x. x) asked asks h each m
  work_line s asked asks h each Owing m = work_at_stage (k - 1 + most_changes) Owing (omega arith) (λ x. x) asked asks h each m
  work_line s asked asks h each Astray m = tt

  policy_line : (s : ℕ) (role : Role) (kept : ℕ) (asked : Asked) → AsksOf (λ request. request ≡ Ok (Policy role kept)) asked → (h : Answers n asked (span_of before after old new) (Ok r))
      → EachAsked StepGoesThrough n asked (span_of before after old new) (Ok r) h → (stage : Stage) → stage_of session k lines ≡ stage → Next (own_line k (event.Policy s role kept) r stage)
  policy_line s role kept asked asks h each Unbound is =
      requests (Next (unbound_line k (event.Policy session role kept) r)) (λ request. request ≡ Ok (Policy role kept)) asked asks h each
      (λ why d. refused_policy why d)
      (λ request so does. policy_gives role kept (unbound_none session k lines is) (as_asked request (Policy role kept) so does).0)
    where
      refused_policy : (why : Refused) → Declines why (span_of before after old new) (Ok r) → Next (unbound_line k (event.Policy session role kept) r)
      refused_policy (refused.Rule rule) d = policy_refused role kept rule d.reply
      refused_policy refused.Memory d = absurd (cc (d.reply))
  policy_line s role kept asked asks h each Even is = tt
  policy_line s role kept asked asks h each Owing is = tt
  policy_line s role kept asked asks h each Astray is = tt

  -- ---- the stages that lines lead to

  same_renew : (s : ℕ) (stage : Stage) → own_line k (event.Renew s) r stage ≡ stage
  same_renew s Unbound = refl
  same_renew s Even = refl
  same_renew s Owing = refl
  same_renew s Astray = refl

  same_abort : (s : ℕ) (stage : Stage) → own_line k (event.Abort s) r stage ≡ stage
  same_abort s Unbound = refl
  same_abort s Even = refl
  same_abort s Owing = refl
  same_abort s Astray = refl

  same_read : (s tree : ℕ) (key : List ℕ) (stage : Stage) → own_line k (event.Read s tree key) r stage ≡ stage
  same_read s tree key Unbound = refl
  same_read s tree key Even = refl
  same_read s tree key Owing = refl
  same_read s tree key Astray = refl

  same_scan : (s tree : ℕ) (from to : List ℕ) (stage : Stage) → own_line k (event.Scan s tree from to) r stage ≡ stage
  same_scan s tree from to Unbound = refl
  same_scan s tree from to Even = refl
  same_scan s tree from to Owing = refl
  same_scan s tree from to Astray = refl

  same_lookup : (s tree : ℕ) (attr : List ℕ) (stage : Stage) → own_line k (event.Lookup s tree attr) r stage ≡ stage
  same_lookup s tree attr Unbound = refl
  same_lookup s tree attr Even = refl
  same_lookup s tree attr Owing = refl
  same_lookup s tree attr Astray = refl

  same_step : (s : ℕ) (wish : Wish) (stage : Stage) → own_line k (event.Step s wish) r stage ≡ stage
  same_step s wish Unbound = refl
  same_step s wish Even = refl
  same_step s wish Owing = refl
  same_step s wish Astray = refl

  same_run : (s : ℕ) (stage : Stage) → own_line k (event.Run s) r stage ≡ stage
  same_run s Unbound = refl
  same_run s Even = refl
  same_run s Owing = refl
  same_run s Astray = refl

  same_insert : (s tree : ℕ) (key payload : List ℕ) (attr : Option (List ℕ)) (stage : Stage) → own_line k (event.Insert s tree key payload attr) r stage ≡ stage
  same_insert s tree key payload attr Unbound = refl
  same_insert s tree key payload attr Even = refl
  same_insert s tree key payload attr Owing = refl
  same_insert s tree key payload attr Astray = refl

  same_put : (s tree : ℕ) (key payload attr : List ℕ) (stage : Stage) → own_line k (event.Put s tree key payload attr) r stage ≡ stage
  same_put s tree key payload attr Unbound = refl
  same_put s tree key payload attr Even = refl
  same_put s tree key payload attr Owing = refl
  same_put s tree key payload attr Astray = refl

  same_update : (s tree : ℕ) (key payload : List ℕ) (stage : Stage) → own_line k (event.Update s tree key payload) r stage ≡ stage
  same_update s tree key payload Unbound = refl
  same_update s tree key payload Even = refl
  same_update s tree key payload Owing = refl
  same_update s tree key payload Astray = refl

  same_delete : (s tree : ℕ) (key : List ℕ) (stage : Stage) → own_line k (event.Delete s tree key) r stage ≡ stage
  same_delete s tree key Unbound = refl
  same_delete s tree key Even = refl
  same_delete s tree key Owing = refl
  same_delete s tree key Astray = refl

  same_add : (s tree : ℕ) (key : List ℕ) (amount : ℕ) (stage : Stage) → own_line k (event.Add s tree key amount) r stage ≡ stage
  same_add s tree key amount Unbound = refl
  same_add s tree key amount Even = refl
  same_add s tree key amount Owing = refl
  same_add s tree key amount Astray = refl

  none_open : (s client : ℕ) (stage : Stage) → Next (own_line k (event.Open s client) r stage)
  none_open s client Unbound = tt
  none_open s client Even = tt
  none_open s client Owing = tt
  none_open s client Astray = tt

  none_close : (s : ℕ) (stage : Stage) → Next (own_line k (event.Close s) r stage)
  none_close s Unbound = tt
  none_close s Even = tt
  none_close s Owing = tt
  none_close s Astray = tt

  none_crash : (s : ℕ) (done : Bool) (stage : Stage) → Next (own_line k (event.Crash s done) r stage)
  none_crash s done Unbound = tt
  none_crash s done Even = tt
  none_crash s done Owing = tt
  none_crash s done Astray = tt

  none_page : (s tree page : ℕ) (stage : Stage) → Next (own_line k (event.Page s tree page) r stage)
  none_page s tree page Unbound = tt
  none_page s tree page Even = tt
  none_page s tree page Owing = tt
  none_page s tree page Astray = tt

  none_tree : (s tree : ℕ) (stage : Stage) → Next (own_line k (event.Tree s tree) r stage)
  none_tree s tree Unbound = tt
  none_tree s tree Even = tt
  none_tree s tree Owing = tt
  none_tree s tree Astray = tt

  -- ---- every line

  of_session : (s : ℕ) (Is : Result Request Refused → Type 0) (asked : Asked) → s ≡ session → OfSession s Is asked → AsksOf Is asked
  of_session s Is asked e asks = subst (λ (j : ℕ). OfSession j Is asked) e asks

  step_line : (wish : Wish) (asked : Asked) → AsksOf (IsStep wish) asked → (h : Answers n asked (span_of before after old new) (Ok r)) → EachAsked StepGoesThrough n asked (span_of before after old new) (Ok r) h
      → Keeps
  step_line wish asked asks h each =
      requests Keeps (IsStep wish) asked asks h each declined_keeps (λ request is does. step_keeps wish (subst (DoesThrough session) is does).0)

  run_line : (asked : Asked) → AsksOf (λ request. request ≡ Ok Run) asked → (h : Answers n asked (span_of before after old new) (Ok r)) → EachAsked StepGoesThrough n asked (span_of before after old new) (Ok r) h
      → Keeps
  run_line asked asks h each =
      requests Keeps (λ request. request ≡ Ok Run) asked asks h each declined_keeps (λ request is does. run_keeps (as_asked request Run is does).0)

  abort_line : (asked : Asked) → AsksOf (λ request. request ≡ Ok Abort) asked → (h : Answers n asked (span_of before after old new) (Ok r))
      → EachAsked StepGoesThrough n asked (span_of before after old new) (Ok r) h → Keeps
  abort_line asked asks h each =
      requests Keeps (λ request. request ≡ Ok Abort) asked asks h each declined_keeps (λ request is does. drops_keeps (as_asked request Abort is does).0)

  renew_is : (request : Request) → (let a : Result Request Refused = Ok request in a ≡ Ok (Begin op.Renew)) → request ≡ Begin op.Renew
  renew_is request e = cc (e)

  -- messages stay
  still : (y : CloudState) → after.state ≡ Some y → y.messages ≡ t.messages → new ≡ old → Keeps
  still y told_y same world bound m =
      let y_is : y ≡ u = state_is y u (sym told_y ∙ told_after) in
      subst (λ (w : World). Meters session k bound w u) (sym world)
      (subst (λ (x : CloudState). Meters session k bound old x) y_is (record {
        notes = m.notes;
        ledger = m.ledger;
        number = m.number;
        metered = λ place. subst (λ (f : QueueName → List Posted). length (unmarked (f (queue_at place))) ≤ sent_since m.notes place) (sym same) (m.metered place);
        left = m.left;
        sends = m.sends;
        within = m.within;
      }))

  wait_line : (ticks : ℕ) → Answers n (Wait ticks) (span_of before after old new) (Ok r) → Keeps
  wait_line ticks (inl waits) = let w = waits.0.waited t told in still w.after w.told (ap (λ (x : CloudState). x.messages) w.rest) waits.1
  wait_line ticks (inr long) = declined_keeps _ long.declines

  report_line : (tree : ℕ) → Answers n (Report tree) (span_of before after old new) (Ok r) → Keeps
  report_line tree reports = still t (reports.looked.stays t told) refl reports.world

  pub line_keeps : (e : Event) (asked : Asked) → Asks e asked → (h : Answers n asked (span_of before after old new) (Ok r)) → EachAsked StepGoesThrough n asked (span_of before after old new) (Ok r) h
      → (stage : Stage) → stage_of session k lines ≡ stage → MetersAt stage session k old t → Next (by_line session k e r stage)
  line_keeps (event.Open s client) asked asks h each stage is m = gone s (own_line k (event.Open s client) r) (none_open s client) stage
  line_keeps (event.Close s) asked asks h each stage is m = gone s (own_line k (event.Close s) r) (none_close s) stage
  line_keeps (event.Crash s done) asked asks h each stage is m = gone s (own_line k (event.Crash s done) r) (none_crash s done) stage
  line_keeps (event.Page s tree page) asked asks h each stage is m = gone s (own_line k (event.Page s tree page) r) (none_page s tree page) stage
  line_keeps (event.Tree s tree) asked asks h each stage is m = gone s (own_line k (event.Tree s tree) r) (none_tree s tree) stage
  line_keeps (event.Renew s) asked asks h each stage is m =
      quiet s (own_line k (event.Renew s) r) (same_renew s)
      (λ e. begin_line op.Renew tt (λ left buffer. tt) (λ request. request ≡ Ok (Begin op.Renew)) renew_is asked (of_session s _ asked e asks) h each) stage m
  line_keeps (event.Read s tree key) asked asks h each stage is m =
      quiet s (own_line k (event.Read s tree key) r) (same_read s tree key)
      (λ e. begin_line (op.Read tree key) tt (λ left buffer. tt) (IsReading tree key) (λ request so. so.2) asked (of_session s _ asked e asks) h each) stage m
  line_keeps (event.Scan s tree from to) asked asks h each stage is m =
      quiet s (own_line k (event.Scan s tree from to) r) (same_scan s tree from to)
      (λ e. begin_line (op.Scan tree (bound_of from) (bound_of to)) tt (λ left buffer. tt) (IsScanning tree from to) (λ request so. so.3) asked (of_session s _ asked e asks) h each) stage m
  line_keeps (event.Lookup s tree attr) asked asks h each stage is m =
      quiet s (own_line k (event.Lookup s tree attr) r) (same_lookup s tree attr)
      (λ e. begin_line (op.Lookup tree attr) tt (λ left buffer. tt) (IsLookingUp tree attr) (λ request so. so.2) asked (of_session s _ asked e asks) h each) stage m
  line_keeps (event.Abort s) asked asks h each stage is m =
      quiet s (own_line k (event.Abort s) r) (same_abort s) (λ e. abort_line asked (of_session s _ asked e asks) h each) stage m
  line_keeps (event.Step s wish) asked asks h each stage is m =
      quiet s (own_line k (event.Step s wish) r) (same_step s wish) (λ e. step_line wish asked (of_session s _ asked e asks) h each) stage m
  line_keeps (event.Run s) asked asks h each stage is m =
      quiet s (own_line k (event.Run s) r) (same_run s) (λ e. run_line asked (of_session s _ asked e asks) h each) stage m
  line_keeps (event.Insert s tree key payload attr) asked asks h each stage is m =
      quiet s (own_line k (event.Insert s tree key payload attr) r) (same_insert s tree key payload attr)
      (λ e. note_line (noting_of (event.Insert s tree key payload attr)) asked (of_session s _ asked e asks) h each) stage m
  line_keeps (event.Put s tree key payload attr) asked asks h each stage is m =
      quiet s (own_line k (event.Put s tree key payload attr) r) (same_put s tree key payload attr)
      (λ e. note_line (noting_of (event.Put s tree key payload attr)) asked (of_session s _ asked e asks) h each) stage m
  line_keeps (event.Update s tree key payload) asked asks h each stage is m =
      quiet s (own_line k (event.Update s tree key payload) r) (same_update s tree key payload)
      (λ e. note_line (noting_of (event.Update s tree key payload)) asked (of_session s _ asked e asks) h each) stage m
  line_keeps (event.Delete s tree key) asked asks h each stage is m =
      quiet s (own_line k (event.Delete s tree key) r) (same_delete s tree key)
      (λ e. note_line (noting_of (event.Delete s tree key)) asked (of_session s _ asked e asks) h each) stage m
  line_keeps (event.Add s tree key amount) asked asks h each stage is m =
      quiet s (own_line k (event.Add s tree key amount) r) (same_add s tree key amount)
      (λ e. note_line (noting_of (event.Add s tree key amount)) asked (of_session s _ asked e asks) h each) stage m
  line_keeps (event.Commit s) asked asks h each stage is m =
      by_own s (own_line k (event.Commit s) r) stage (λ e. commit_line s asked (of_session s _ asked e asks) h each stage m)
  line_keeps (event.Work s) asked asks h each stage is m =
      by_own s (own_line k (event.Work s) r) stage (λ e. work_line s asked (of_session s _ asked e asks) h each stage m)
  line_keeps (event.Policy s role kept) asked asks h each stage is m =
      by_own s (own_line k (event.Policy s role kept) r) stage (λ e. policy_line s role kept asked (of_session s _ asked e asks) h each stage is)
  line_keeps (event.Wait ticks) asked asks h each stage is m = stage_kept (wait_line ticks (subst (λ z. Answers n z (span_of before after old new) (Ok r)) asks h)) stage m
  line_keeps (event.Report tree) asked asks h each stage is m = stage_kept (report_line tree (subst (λ z. Answers n z (span_of before after old new) (Ok r)) asks h)) stage m
  line_keeps event.Settle asked asks h each stage is m = tt
  line_keeps (event.Sweep tree) asked asks h each stage is m = tt

few_at : (session k : ℕ) (world : World) (t : CloudState) (stage : Stage) → MetersAt stage session k world t → LeavesFewAt stage k t
few_at session k world t Unbound m = tt
few_at session k world t Even m = few_left session k world t m
few_at session k world t Owing m = tt
few_at session k world t Astray m = tt

pub keeps_meter : (n : ℕ) (e : Event) (before after : Seen) (old new : World) (result : Result Reply WorldFault) → KeepsMeter n e (span_of before after old new) result
keeps_meter n e before after old new (Ok r) = λ lines t u number told told_after stands handled each session k m.
    let next = line_keeps lines n session k before after old new r t u number told told_after stands e handled.asked handled.asks handled.answers each (stage_of session k lines) refl m in
    (next, few_at session k new u (by_line session k e r (stage_of session k lines)) next)
keeps_meter n e before after old new (Err fault) = tt
