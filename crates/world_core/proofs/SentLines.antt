-- What a writer's notes say that it sent landed behind every line, too.
use Rattle.std.proofs.Common.{◌≡◌, ◌≢◌, ◌==◌, inl, inr, ℕ, Bool, true, false, cond, List, [], Some, Result, Ok, Err, refl, sym, ap, subst, ◌∙◌, arith}
use Rattle.std.proofs.lemmas.Bool.{eqb-true}
use Rattle.ckpt_policy.specs.declared.note.Note.{Note}
use Rattle.ckpt_policy.specs.declared.role.Role.{Role}
use Rattle.ckpt_policy.specs.declared.role.Role.TheVariants.{Writer, Reader, Watchdog, Owner}
use Rattle.ckpt_policy.specs.Ledger.{IsNumber}
use Rattle.client_work.specs.declared.op.Op.{Op}
use Rattle.client_work.specs.declared.op.Op.TheVariants as op
use Rattle.client_work.specs.Session.{open_client}
use Rattle.cloud_facts.specs.Words.{QueueName, Posted, CloudState, Caller, Seen}
use Rattle.db_base.specs.declared.names.QueueName.TheVariants.{PagePu}
use Rattle.db_base.specs.declared.refusal.Refusal.{Refusal}
use Rattle.db_base.specs.declared.refusal.Refused.{Refused}
use Rattle.db_base.specs.declared.refusal.Refused.TheVariants as refused
use Rattle.db_base.specs.declared.wish.Wish.{Wish}
use Rattle.event_text.specs.declared.event.Event.{Event}
use Rattle.event_text.specs.declared.event.Event.TheVariants as event
use Rattle.reply_text.specs.declared.reply.Reply.{Reply}
use Rattle.reply_text.specs.declared.reply.Reply.TheVariants as reply
use Rattle.session_notes.specs.declared.notebook.Notebook.{Notebook}
use Rattle.world_core.proofs.Landed.{HasSentSeen, comes_sent, step_sent, works_sent}
use Rattle.world_core.proofs.Ledgers.{book_after, ledger_changed, writer_same}
use Rattle.world_core.proofs.StandsLemmas.{no_memory, refused_is}
use Rattle.world_core.specs.Alone.{StepIsUndisturbed}
use Rattle.world_core.specs.Asked.{Asks, IsNoted, IsReading, IsScanning, IsLookingUp, IsStep, OfSession, noting_of}
use Rattle.world_core.specs.EachStep.{EachAsked, EachDone, EachMade, EachRun, EachThrough}
use Rattle.world_core.specs.Handled.{Answers, BeginsBook, BookBegins, Declines, Does, GivesLedger, MakesStep, Policies, Runs, WorksThrough, book_begun}
use Rattle.world_core.specs.Metered.{HasLedger}
use Rattle.world_core.specs.Replying.{declined}
use Rattle.world_core.specs.World.{World}
use Rattle.world_core.specs.Writers.{Stage, Unbound, Even, Owing, Astray, by_line, given, own_line, unbound_line, works}
use Rattle.world_core.specs.declared.asked.Asked.{Asked}
use Rattle.world_core.specs.declared.asked.Asked.TheVariants.{Session, Wait, Report, Settle, Sweep}
use Rattle.world_core.specs.declared.asked.Noting.{Noting}
use Rattle.world_core.specs.declared.asked.Request.{Request}
use Rattle.world_core.specs.declared.asked.Request.TheVariants.{Begin, Note as NoteChange, Abort, Policy, Work as WorksDue, Step, Run, Crash}
use Rattle.world_core.specs.declared.world.WorldFault.{WorldFault}
use Rattle.world_core.specs.Span.{span_of}

-- a request that leaves a session its ledger
abbrev KeepsLedger : Request → Type 0
KeepsLedger (Begin op.Close) = ⊥
KeepsLedger (Policy role k) = ⊥
KeepsLedger (Crash done) = ⊥
KeepsLedger request = Unit {0}

-- over a told cloud, while it works as a writer
abbrev pub SentAt : ℕ → ℕ → Stage → World → Seen → Type 0
SentAt session k Unbound world seen = Unit {0}
SentAt session k Even world seen = HasSentSeen session k world seen
SentAt session k Owing world seen = HasSentSeen session k world seen
SentAt session k Astray world seen = Unit {0}

state_is : (x y : CloudState) → Some x ≡ Some y → x ≡ y
state_is x y e = cc (e)

module _ (n session k : ℕ) (before after : Seen) (old new : World) (r : Reply) where
  abbrev result : Result Reply WorldFault
  result = Ok r

  abbrev who : Caller
  who = record { session = session; event = n }

  -- what a line of the session leaves
  abbrev Keeps : Type 0
  Keeps = HasSentSeen session k old before → HasSentSeen session k new after

  -- no call is made, and its ledger stays
  with_ledger : after ≡ before → ((notes : List Note) → HasLedger session k notes old.notes → HasLedger session k notes new.notes) → Keeps
  with_ledger seen ledger h = record {
    state = h.state;
    told = ap (λ (x : Seen). x.state) seen ∙ h.told;
    sent = record { notes = h.sent.notes; ledger = ledger h.sent.notes h.sent.ledger; number = h.sent.number; landed = h.sent.landed };
  }

  same_notes : after ≡ before → new.notes ≡ old.notes → Keeps
  same_notes seen same = with_ledger seen (λ notes has. subst (λ (books : List Notebook). HasLedger session k notes books) (sym same) has)

  declined_sent : (why : Refused) → Declines why (span_of before after old new) result → Keeps
  declined_sent why d = same_notes d.seen (ap (λ (w : World). w.notes) d.world)

  -- ---- a begin

  begun_ledger : (o : Op) → KeepsLedger (Begin o) → BeginsBook session o old new → (notes : List Note) → HasLedger session k notes old.notes → HasLedger session k notes new.notes
  begun_ledger o keeps book notes has = on (open_client book.session.work) book.does
    where
      same : (own : Op) → KeepsLedger (Begin own) → (a z : Notebook) → z ≡ book_begun own a → z.ledger ≡ a.ledger
      same op.Close never a z e = absurd never
      same (op.Open client) w a z e = ap (λ (x : Notebook). x.ledger) e
      same op.Renew w a z e = ap (λ (x : Notebook). x.ledger) e
      same op.Commit w a z e = ap (λ (x : Notebook). x.ledger) e
      same (op.Read tree key) w a z e = ap (λ (x : Notebook). x.ledger) e
      same (op.Scan tree from to) w a z e = ap (λ (x : Notebook). x.ledger) e
      same (op.Lookup tree attr) w a z e = ap (λ (x : Notebook). x.ledger) e
      same (op.Page tree page) w a z e = ap (λ (x : Notebook). x.ledger) e
      same (op.Tree tree) w a z e = ap (λ (x : Notebook). x.ledger) e

      on : (opened : Result ℕ Refusal) → BookBegins session o opened old.notes new.notes → HasLedger session k notes new.notes
      on (Ok client) c = ledger_changed session k notes notes _ old.notes new.notes c (λ a z e w. writer_same k notes a z (same o keeps a z e) w) has
      on (Err rule) e = subst (λ (books : List Notebook). HasLedger session k notes books) (sym e) has

  -- ---- a request

  made_sent : (wish : Wish) (p : MakesStep (record { session = session; event = n }) wish (span_of before after old new) result) → EachMade StepIsUndisturbed (record { session = session; event = n }) wish (span_of before after old new) result p → Keeps
  made_sent wish (inl refused) each = declined_sent _ refused.declines
  made_sent wish (inr (inl made)) each = step_sent who wish before after old new made.turn made.steps k each
  made_sent wish (inr (inr memory)) each = absurd (no_memory r memory.0)

  run_sent : (p : Runs (record { session = session; event = n }) (span_of before after old new) result) → EachRun StepIsUndisturbed (record { session = session; event = n }) (span_of before after old new) result p → Keeps
  run_sent (inl refused) each = declined_sent _ refused.declines
  run_sent (inr (inl run)) each = comes_sent who k before after old new run.answer run.comes each
  run_sent (inr (inr memory)) each = absurd (no_memory r memory.0)

  through_sent : (p : WorksThrough (record { session = session; event = n }) (span_of before after old new) result) → EachThrough StepIsUndisturbed (record { session = session; event = n }) (span_of before after old new) result p → Keeps
  through_sent (inl refuses) each = declined_sent _ refuses.declines
  through_sent (inr (inl d)) each = works_sent who k before old d.queues d.done d.passed after new d.works each
  through_sent (inr (inr memory)) each = absurd (no_memory r memory.0)

  -- each step of it undisturbed
  abbrev DoesSo : ℕ → Request → Type 0
  DoesSo j request = (d : Does (record { session = j; event = n }) request (span_of before after old new) result) × EachDone StepIsUndisturbed (record { session = j; event = n }) request (span_of before after old new) result d

  done_sent : (request : Request) → KeepsLedger request → DoesSo session request → Keeps
  done_sent (Step wish) keeps d = made_sent wish d.0 d.1
  done_sent Run keeps d = run_sent d.0 d.1
  done_sent WorksDue keeps d = through_sent d.0 d.1
  done_sent (Begin o) keeps ((quiet, c, book), each) = with_ledger quiet.seen (begun_ledger o keeps book)
  done_sent (NoteChange noting) keeps ((quiet, c, same), each) = same_notes quiet.seen same
  done_sent Abort keeps ((quiet, c, same), each) = same_notes quiet.seen same
  done_sent (Policy role number) never d = absurd never
  done_sent (Crash done) never d = absurd never

  requests : (Out : Type 0) (Is : Result Request Refused → Type 0) (asked : Asked) → OfSession session Is asked → (h : Answers n asked (span_of before after old new) result)
      → EachAsked StepIsUndisturbed n asked (span_of before after old new) result h → ((why : Refused) → Declines why (span_of before after old new) result → Out)
      → ((request : Request) → Is (Ok request) → DoesSo session request → Out) → Out
  requests Out Is (Session j (Ok request)) belongs (inl p) each declines serves = serves request belongs.1 (subst (λ (i : ℕ). DoesSo i request) belongs.0 (p.1, each))
  requests Out Is (Session j (Err why)) belongs (inl p) each declines serves = declines why p.1
  requests Out Is (Session j request) belongs (inr none) each declines serves = declines _ none.declines
  requests Out Is (Wait ticks) belongs h each declines serves = absurd belongs
  requests Out Is (Report tree) belongs h each declines serves = absurd belongs
  requests Out Is Settle belongs h each declines serves = absurd belongs
  requests Out Is (Sweep tree) belongs h each declines serves = absurd belongs

  -- one that leaves it the ledger
  keeps_by : (Is : Result Request Refused → Type 0) → ((request : Request) → Is (Ok request) → KeepsLedger request) → (asked : Asked) → OfSession session Is asked
      → (h : Answers n asked (span_of before after old new) result) → EachAsked StepIsUndisturbed n asked (span_of before after old new) result h → Keeps
  keeps_by Is own asked asks h each = requests Keeps Is asked asks h each declined_sent (λ request is d. done_sent request (own request is) d)

  asked_so : (own request : Request) → KeepsLedger own → (let a : Result Request Refused = Ok request in let b : Result Request Refused = Ok own in a ≡ b) → KeepsLedger request
  asked_so own request keeps e = let is : request ≡ own = cc (e) in subst KeepsLedger (sym is) keeps

  noted_so : (noting : Noting) (request : Request) → IsNoted noting (Ok request) → KeepsLedger request
  noted_so noting (NoteChange other) is = tt
  noted_so noting (Begin o) never = absurd never
  noted_so noting (Policy role number) never = never
  noted_so noting WorksDue is = tt
  noted_so noting Abort is = tt
  noted_so noting (Step wish) is = tt
  noted_so noting Run is = tt
  noted_so noting (Crash done) never = never

  -- ---- by the stage

  abbrev Next : Stage → Type 0
  Next stage = SentAt session k stage new after

  any_at : (stage : Stage) → HasSentSeen session k new after → Next stage
  any_at Unbound h = tt
  any_at Even h = h
  any_at Owing h = h
  any_at Astray h = tt

  kept_at : Keeps → (stage : Stage) → SentAt session k stage old before → Next stage
  kept_at keeps Unbound h = tt
  kept_at keeps Even h = keeps h
  kept_at keeps Owing h = keeps h
  kept_at keeps Astray h = tt

  -- a line of the session, by what it leads to
  by_own : (s : ℕ) (own : Stage → Stage) (stage : Stage) → (s ≡ session → Next (own stage)) → Next (cond (s == session) (own stage) Astray)
  by_own s own stage leads = on (s == session) refl
    where
      on : (b : Bool) → (s == session) ≡ b → Next (cond b (own stage) Astray)
      on true e = leads (eqb-true s session e)
      on false e = tt

  -- one that keeps the stage
  quiet : (s : ℕ) (own : Stage → Stage) → own Unbound ≡ Unbound → own Even ≡ Even → own Owing ≡ Owing → own Astray ≡ Astray → (s ≡ session → Keeps) → (stage : Stage)
      → SentAt session k stage old before → Next (cond (s == session) (own stage) Astray)
  quiet s own unbound even owing astray keeps stage h = by_own s own stage (λ e. subst Next (sym (same stage)) (kept_at (keeps e) stage h))
    where
      same : (x : Stage) → own x ≡ x
      same Unbound = unbound
      same Even = even
      same Owing = owing
      same Astray = astray

  -- one behind which nothing is said
  gone : (s : ℕ) (own : Stage → Stage) → own Unbound ≡ Unbound → own Even ≡ Astray → own Owing ≡ Astray → own Astray ≡ Astray → (stage : Stage) → Next (cond (s == session) (own stage) Astray)
  gone s own unbound even owing astray stage = by_own s own stage (λ e. none stage)
    where
      none : (x : Stage) → Next (own x)
      none Unbound = subst Next (sym unbound) tt
      none Even = subst Next (sym even) tt
      none Owing = subst Next (sym owing) tt
      none Astray = subst Next (sym astray) tt

  -- ---- a commit and a work

  commit_line : (s : ℕ) → Keeps → (stage : Stage) → SentAt session k stage old before → Next (own_line k (event.Commit s) r stage)
  commit_line s keeps Unbound h = tt
  commit_line s keeps Even h = keeps h
  commit_line s keeps Owing h = tt
  commit_line s keeps Astray h = tt

  works_any : (x : Reply) (stage : Stage) → HasSentSeen session k new after → Next (works x stage)
  works_any (reply.Worked done passed) stage h = on (passed == 0)
    where
      on : (b : Bool) → Next (cond b Even Astray)
      on true = h
      on false = tt
  works_any (reply.Refused rule) stage h = any_at stage h
  works_any x stage h = tt

  work_line : (s : ℕ) → Keeps → (stage : Stage) → SentAt session k stage old before → Next (own_line k (event.Work s) r stage)
  work_line s keeps Unbound h = tt
  work_line s keeps Even h = works_any r Even (keeps h)
  work_line s keeps Owing h = works_any r Owing (keeps h)
  work_line s keeps Astray h = tt

  -- ---- its ledger

  module _ (t : CloudState) (told : before.state ≡ Some t) where
    gives_sent : (number : ℕ) (role : Role) → GivesLedger session role number (span_of before after old new) result → role ≡ Writer → number ≡ k → HasSentSeen session k new after
    gives_sent number role g is same = record {
      state = t;
      told = ap (λ (x : Seen). x.state) g.quiet.seen ∙ told;
      sent = record {
        notes = [];
        ledger = record {
          book = g.notes.after;
          there = book_after session _ old.notes new.notes g.notes;
          is = record {
            account = record { role = role; k = number; client = g.opened.client; counts = [] };
            ledger = ap (λ (x : Notebook). x.ledger) g.notes.does;
            role = is;
            number = same;
            stands = refl;
          };
        };
        number = subst IsNumber same g.number_is;
        landed = λ place some many. absurd (omega (arith, many));
      };
    }

    given_so : (role : Role) (number : ℕ) → GivesLedger session role number (span_of before after old new) result → Next (given k role number)
    given_so Writer number g = on (number == k) refl
      where
        on : (b : Bool) → (number == k) ≡ b → Next (cond b Even Unbound)
        on true e = gives_sent number Writer g refl (eqb-true number k e)
        on false e = tt
    given_so Reader number g = tt
    given_so Watchdog number g = tt
    given_so Owner number g = tt

    policy_refused : (s number : ℕ) (role : Role) (rule : Refusal) → result ≡ declined (refused.Rule rule) → Next (unbound_line k (event.Policy s role number) r)
    policy_refused s number role rule e = subst (λ (x : Reply). Next (unbound_line k (event.Policy s role number) x)) (sym (refused_is r rule e)) tt

    policy_declined : (s number : ℕ) (role : Role) (why : Refused) → Declines why (span_of before after old new) result → Next (unbound_line k (event.Policy s role number) r)
    policy_declined s number role (refused.Rule rule) d = policy_refused s number role rule d.reply
    policy_declined s number role refused.Memory d = absurd (cc (d.reply))

    policy_gives : (s number : ℕ) (role : Role) → Policies session role number (span_of before after old new) result → Next (unbound_line k (event.Policy s role number) r)
    policy_gives s number role (inl refuses) = policy_declined s number role _ refuses.declines
    policy_gives s number role (inr (inl refuses)) = policy_declined s number role _ refuses.1.declines
    policy_gives s number role (inr (inr g)) =
        let is : r ≡ reply.Noted = cc (g.replies) in
        subst (λ (x : Reply). Next (unbound_line k (event.Policy s role number) x)) (sym is) (given_so role number g)

    policy_line : (s number : ℕ) (role : Role) (asked : Asked) → OfSession session (λ request. request ≡ Ok (Policy role number)) asked → (h : Answers n asked (span_of before after old new) result)
        → EachAsked StepIsUndisturbed n asked (span_of before after old new) result h → (stage : Stage) → Next (own_line k (event.Policy s role number) r stage)
    policy_line s number role asked asks h each Unbound =
        requests (Next (unbound_line k (event.Policy s role number) r)) (λ request. request ≡ Ok (Policy role number)) asked asks h each (policy_declined s number role)
        (λ request is d. let own : request ≡ Policy role number = same_policy request is in policy_gives s number role (subst (DoesSo session) own d).0)
      where
        same_policy : (request : Request) → (let a : Result Request Refused = Ok request in a ≡ Ok (Policy role number)) → request ≡ Policy role number
        same_policy request e = cc (e)
    policy_line s number role asked asks h each Even = tt
    policy_line s number role asked asks h each Owing = tt
    policy_line s number role asked asks h each Astray = tt

    -- ---- every line

    of_session : (s : ℕ) (Is : Result Request Refused → Type 0) (asked : Asked) → OfSession s Is asked → s ≡ session → OfSession session Is asked
    of_session s Is asked asks e = subst (λ (j : ℕ). OfSession j Is asked) e asks

    -- waits and reports send nothing, and their session's ledger stays
    still : (u : CloudState) → after.state ≡ Some u → ((x : CloudState) → before.state ≡ Some x → u.messages ≡ x.messages) → new ≡ old → Keeps
    still u told_u same world h = record {
      state = u;
      told = told_u;
      sent = record {
        notes = h.sent.notes;
        ledger = subst (λ (w : World). HasLedger session k h.sent.notes w.notes) (sym world) h.sent.ledger;
        number = h.sent.number;
        landed = λ place some many. subst (λ (f : QueueName → List Posted). f (PagePu place.tree place.page) ≢ []) (sym (same h.state h.told)) (h.sent.landed place some many);
      };
    }

    wait_line : (ticks : ℕ) → Answers n (Wait ticks) (span_of before after old new) result → Keeps
    wait_line ticks (inl waits) =
        let w = waits.0.waited t told in
        still w.after w.told (λ x told_x. ap (λ (y : CloudState). y.messages) w.rest ∙ ap (λ (y : CloudState). y.messages) (state_is t x (sym told ∙ told_x))) waits.1
    wait_line ticks (inr long) = declined_sent _ long.declines

    report_line : (tree : ℕ) → Answers n (Report tree) (span_of before after old new) result → Keeps
    report_line tree reports =
        still t (reports.looked.stays t told) (λ x told_x. ap (λ (y : CloudState). y.messages) (state_is t x (sym told ∙ told_x))) reports.world

    pub line_sent : (e : Event) (asked : Asked) → Asks e asked → (h : Answers n asked (span_of before after old new) result) → EachAsked StepIsUndisturbed n asked (span_of before after old new) result h
        → (stage : Stage) → SentAt session k stage old before → Next (by_line session k e r stage)
    line_sent (event.Open s client) asked asks h each stage m = gone s (own_line k (event.Open s client) r) refl refl refl refl stage
    line_sent (event.Close s) asked asks h each stage m = gone s (own_line k (event.Close s) r) refl refl refl refl stage
    line_sent (event.Crash s done) asked asks h each stage m = gone s (own_line k (event.Crash s done) r) refl refl refl refl stage
    line_sent (event.Page s tree page) asked asks h each stage m = gone s (own_line k (event.Page s tree page) r) refl refl refl refl stage
    line_sent (event.Tree s tree) asked asks h each stage m = gone s (own_line k (event.Tree s tree) r) refl refl refl refl stage
    line_sent (event.Renew s) asked asks h each stage m =
        quiet s (own_line k (event.Renew s) r) refl refl refl refl
        (λ e. keeps_by (λ request. request ≡ Ok (Begin op.Renew)) (λ request is. asked_so (Begin op.Renew) request tt is) asked (of_session s _ asked asks e) h each) stage m
    line_sent (event.Read s tree key) asked asks h each stage m =
        quiet s (own_line k (event.Read s tree key) r) refl refl refl refl
        (λ e. keeps_by (IsReading tree key) (λ request is. subst KeepsLedger (sym is.2) tt) asked (of_session s _ asked asks e) h each) stage m
    line_sent (event.Scan s tree from to) asked asks h each stage m =
        quiet s (own_line k (event.Scan s tree from to) r) refl refl refl refl
        (λ e. keeps_by (IsScanning tree from to) (λ request is. subst KeepsLedger (sym is.3) tt) asked (of_session s _ asked asks e) h each) stage m
    line_sent (event.Lookup s tree attr) asked asks h each stage m =
        quiet s (own_line k (event.Lookup s tree attr) r) refl refl refl refl
        (λ e. keeps_by (IsLookingUp tree attr) (λ request is. subst KeepsLedger (sym is.2) tt) asked (of_session s _ asked asks e) h each) stage m
    line_sent (event.Abort s) asked asks h each stage m =
        quiet s (own_line k (event.Abort s) r) refl refl refl refl
        (λ e. keeps_by (λ request. request ≡ Ok Abort) (λ request is. asked_so Abort request tt is) asked (of_session s _ asked asks e) h each) stage m
    line_sent (event.Step s wish) asked asks h each stage m =
        quiet s (own_line k (event.Step s wish) r) refl refl refl refl
        (λ e. keeps_by (IsStep wish) (λ request is. subst KeepsLedger (sym is) tt) asked (of_session s _ asked asks e) h each) stage m
    line_sent (event.Run s) asked asks h each stage m =
        quiet s (own_line k (event.Run s) r) refl refl refl refl
        (λ e. keeps_by (λ request. request ≡ Ok Run) (λ request is. asked_so Run request tt is) asked (of_session s _ asked asks e) h each) stage m
    line_sent (event.Insert s tree key payload attr) asked asks h each stage m =
        quiet s (own_line k (event.Insert s tree key payload attr) r) refl refl refl refl
        (λ e. let noting = noting_of (event.Insert s tree key payload attr) in keeps_by (IsNoted noting) (noted_so noting) asked (of_session s _ asked asks e) h each) stage m
    line_sent (event.Put s tree key payload attr) asked asks h each stage m =
        quiet s (own_line k (event.Put s tree key payload attr) r) refl refl refl refl
        (λ e. let noting = noting_of (event.Put s tree key payload attr) in keeps_by (IsNoted noting) (noted_so noting) asked (of_session s _ asked asks e) h each) stage m
    line_sent (event.Update s tree key payload) asked asks h each stage m =
        quiet s (own_line k (event.Update s tree key payload) r) refl refl refl refl
        (λ e. let noting = noting_of (event.Update s tree key payload) in keeps_by (IsNoted noting) (noted_so noting) asked (of_session s _ asked asks e) h each) stage m
    line_sent (event.Delete s tree key) asked asks h each stage m =
        quiet s (own_line k (event.Delete s tree key) r) refl refl refl refl
        (λ e. let noting = noting_of (event.Delete s tree key) in keeps_by (IsNoted noting) (noted_so noting) asked (of_session s _ asked asks e) h each) stage m
    line_sent (event.Add s tree key amount) asked asks h each stage m =
        quiet s (own_line k (event.Add s tree key amount) r) refl refl refl refl
        (λ e. let noting = noting_of (event.Add s tree key amount) in keeps_by (IsNoted noting) (noted_so noting) asked (of_session s _ asked asks e) h each) stage m
    line_sent (event.Commit s) asked asks h each stage m =
        by_own s (own_line k (event.Commit s) r) stage
        (λ e. commit_line s (keeps_by (λ request. request ≡ Ok (Begin op.Commit)) (λ request is. asked_so (Begin op.Commit) request tt is) asked (of_session s _ asked asks e) h each) stage m)
    line_sent (event.Work s) asked asks h each stage m =
        by_own s (own_line k (event.Work s) r) stage
        (λ e. work_line s (keeps_by (λ request. request ≡ Ok WorksDue) (λ request is. asked_so WorksDue request tt is) asked (of_session s _ asked asks e) h each) stage m)
    line_sent (event.Policy s role number) asked asks h each stage m =
        by_own s (own_line k (event.Policy s role number) r) stage (λ e. policy_line s number role asked (of_session s _ asked asks e) h each stage)
    line_sent (event.Wait ticks) asked asks h each stage m = kept_at (wait_line ticks (subst (λ z. Answers n z (span_of before after old new) result) asks h)) stage m
    line_sent (event.Report tree) asked asks h each stage m = kept_at (report_line tree (subst (λ z. Answers n z (span_of before after old new) result) asks h)) stage m
    line_sent event.Settle asked asks h each stage m = tt
    line_sent (event.Sweep tree) asked asks h each stage m = tt
