-- Each line leaves each session with as many calls as the lines tell, and those of a tree checkpoint are few.
use Rattle.std.proofs.Common.{◌≡◌, ◌≢◌, ◌+◌, ◌≤◌, ◌⊎◌, inl, inr, ℕ, Bool, true, false, cond, List, [], ◌∷◌, ◌++◌, length, Some, Result, Ok, Err, refl, sym, ap, subst, ◌∙◌, ne_eqb}
use Rattle.std.specs.Prelude.{◌==◌}
use Rattle.std.proofs.lemmas.Bool.{cases_eq, eq-eqb}
use Rattle.client_work.specs.Session.{Acting, StepsSession, closed_session}
use Rattle.client_work.specs.declared.answer.Answer.{Answer}
use Rattle.client_work.specs.declared.op.Op.{Op}
use Rattle.client_work.specs.declared.work.Work.{Work}
use Rattle.cloud_facts.proofs.Book.Names.{at_same, at_other}
use Rattle.cloud_facts.specs.Words.{Turn, More, Ended, Stopped, CloudState, Caller, Seen, at}
use Rattle.cloud_trait.proofs.EffectLemmas.{begins_itself}
use Rattle.cloud_trait.specs.Upto.{posts_of}
use Rattle.db_base.specs.declared.refusal.Refusal.{Refusal}
use Rattle.db_base.specs.declared.refusal.Refused.{Refused}
use Rattle.db_base.specs.declared.refusal.Refused.TheVariants as refused
use Rattle.db_base.specs.declared.wish.Wish.{Wish}
use Rattle.db_base.specs.declared.wish.Wish.TheVariants.{Plain}
use Rattle.event_text.specs.declared.event.Event.{Event}
use Rattle.event_text.specs.declared.event.Event.TheVariants as event
use Rattle.recover_run.specs.declared.home.Home.{Home}
use Rattle.replay_meaning.specs.Standing.{Line, session_of}
use Rattle.reply_text.specs.declared.reply.Reply.{Reply}
use Rattle.reply_text.specs.declared.reply.Reply.TheVariants as reply
use Rattle.session_facts.proofs.Lines.More.{line_of}
use Rattle.session_facts.proofs.Sessions.CheckpointCalls.{LosesNothing, counts_beside}
use Rattle.session_facts.proofs.Lines.Settler.{errand_row}
use Rattle.session_facts.specs.Lines.Errands.{Errand, settles, sweeps, event_for, session_for, AreRowsOf}
use Rattle.session_facts.proofs.Lines.Outcome.{CallLeavesUpto, wish_holds}
use Rattle.session_facts.specs.Lines.Counted.{counted, counted_line, counted_from, calls_told, CountsWork, CountsAll}
use Rattle.session_facts.specs.Lines.Facts.{session_at, CloudHolds}
use Rattle.session_facts.specs.Machines.TreeCheckpoints.Few.{next_page}
use Rattle.ckpt_policy.specs.declared.role.Role.{Role}
use Rattle.world_core.proofs.Workers.{HoldsWithin, IsBetween, open_rests, within_works, worker, worker_begins, worker_rows}
use Rattle.world_core.proofs.Behind.{LinesStand}
use Rattle.world_core.proofs.EveryLine.{line_leaves}
use Rattle.world_core.proofs.StandsLemmas.{IsUnderWay, IsNoReport, SettlerGoes, changed_at, changed_was, has_at, way_begins, went_on, no_stop, no_memory, refused_is, settler, settler_went, settler_own, settler_call, settler_begins, errand_plain, end_later}
use Rattle.world_core.proofs.Errands.{IsRightErrand}
use Rattle.world_core.proofs.Texts.{errand_is}
use Rattle.world_core.specs.Asked.{Asks}
use Rattle.world_core.specs.Bounded.{steps_of}
use Rattle.world_core.specs.Handled.{Declines, Has, MakesNoCall, BeginsOp, NotesChange, DropsChanges, StepsLooked, MakesStep, Went, start, further, ComesTo, Runs, SettlesOn, Settles, Dies, Crashes, Does, Serves, ReportReply, Reports, Answers, Handled, Policies, WorksThrough}
use Rattle.world_core.specs.Replying.{done_reply, RepliesTurn, RepliesFor}
use Rattle.world_core.specs.Sessions.{Changes, NotesIn, AbortsIn}
use Rattle.world_core.specs.Stands.{StandsOn}
use Rattle.world_core.specs.World.{World}
use Rattle.world_core.specs.declared.asked.Asked.{Asked}
use Rattle.world_core.specs.declared.asked.Asked.TheVariants.{Session, Wait, Report, Settle, Sweep}
use Rattle.world_core.specs.declared.asked.Noting.{Noting}
use Rattle.world_core.specs.declared.asked.Request.{Request}
use Rattle.world_core.specs.declared.asked.Request.TheVariants.{Begin, Note, Abort, Policy, Work as WorksDue, Step, Run, Crash}
use Rattle.world_core.specs.declared.world.WorldFault.{WorldFault}
use Rattle.world_core.specs.Span.{span_of}
use Rattle.std.proofs.lemmas.Option.{same_Some}
use Rattle.world_core.proofs.CountedSteps.{no_more, counts_like, own_twice, IsOkOf, refused_counts, begin_counts, kept_counts, step_more, step_end, more_of, end_of, went_counts, begins_own, works_none}

-- a wait loses nothing
wait_leads : (t : CloudState) (now waits : ℕ) → t.now ≤ now → LosesNothing t (record t { now = now; waits = waits })
wait_leads t now waits later = record {
  next = λ tree. no_more (next_page t tree);
  grown = record {
    versions = λ name. begins_itself (t.versions name);
    messages = λ queue. begins_itself (posts_of (t.messages queue));
    trace = begins_itself t.trace;
    later = later;
  };
}

-- ---- one more line

told_push : (session calls : ℕ) (lines : List Line) (line : Line) → counted_from session calls (lines ++ line ∷ []) ≡ counted_line session (counted_from session calls lines) line
told_push session calls [] line = refl
told_push session calls (first ∷ lines) line = told_push session (counted_line session calls first) lines line

calls_line : (lines : List Line) (line : Line) (session : ℕ) → calls_told (lines ++ line ∷ []) session ≡ counted_line session (calls_told lines session) line
calls_line lines line session = told_push session 0 lines line

-- a line of a session
line_tells : (lines : List Line) (e : Event) (r : Reply) (k : ℕ) → session_of e ≡ k → (n : ℕ)
    → calls_told (lines ++ line_of e r ∷ []) n ≡ at k (counted r (calls_told lines k)) (calls_told lines) n
line_tells lines e r k own n = calls_line lines (line_of e r) n ∙ on (cases_eq n k)
  where
    on : (n ≡ k) ⊎ (n ≢ k) → counted_line n (calls_told lines n) (line_of e r) ≡ at k (counted r (calls_told lines k)) (calls_told lines) n
    on (inl same) =
        ap (λ b. cond b (counted r (calls_told lines n)) (calls_told lines n)) (eq-eqb (session_of e) n (own ∙ sym same))
        ∙ ap (λ j. counted r (calls_told lines j)) same ∙ sym (at_same k (counted r (calls_told lines k)) (calls_told lines) n same)
    on (inr other) =
        ap (λ b. cond b (counted r (calls_told lines n)) (calls_told lines n)) (ne_eqb (session_of e) n (λ q. other (sym q ∙ own)))
        ∙ sym (at_other k (counted r (calls_told lines k)) (calls_told lines) n other)

-- a line that tells of no call and of no begin
still_tells : (lines : List Line) (e : Event) (r : Reply) → ((calls : ℕ) → counted r calls ≡ calls) → (n : ℕ) → calls_told (lines ++ line_of e r ∷ []) n ≡ calls_told lines n
still_tells lines e r still n = calls_line lines (line_of e r) n ∙ on (session_of e == n)
  where
    on : (b : Bool) → cond b (counted r (calls_told lines n)) (calls_told lines n) ≡ calls_told lines n
    on true = still (calls_told lines n)
    on false = refl

-- the session that a line names is the one that is asked
own_session : (e : Event) (k : ℕ) (request : Result Request Refused) → Asks e (Session k request) → session_of e ≡ k
own_session (event.Wait ticks) k request asks = absurd (cc (asks))
own_session (event.Report tree) k request asks = absurd (cc (asks))
own_session event.Settle k request asks = absurd (cc (asks))
own_session (event.Sweep tree) k request asks = absurd asks
own_session e k request asks = sym asks.0

-- ---- a line behind lines

module _ (lines : List Line) (n : ℕ) (number : length lines + 1 ≡ n) (before after : Seen) (old new : World) (e : Event) (r : Reply) (t : CloudState) (told : before.state ≡ Some t)
    (stands : LinesStand lines old t) (all : CountsAll (calls_told lines) t (session_at old.sessions)) (u : CloudState) (seen : after.state ≡ Some u) where
  abbrev Behind : Type 0
  Behind = CountsAll (calls_told (lines ++ line_of e r ∷ [])) u (session_at new.sessions)

  way : IsUnderWay lines old before
  way = way_begins lines before old t told stands

  all_way : CountsAll (calls_told lines) way.after (session_at old.sessions)
  all_way = subst (λ (z : CloudState). CountsAll (calls_told lines) z (session_at old.sessions)) (same_Some t way.after (sym told ∙ way.told)) all

  -- where the cloud stays
  unmoved : after ≡ before → t ≡ u
  unmoved same = same_Some t u (sym told ∙ (ap (λ (z : Seen). z.state) (sym same) ∙ seen))

  -- nothing is done
  idle_counts : after ≡ before → new ≡ old → ((calls : ℕ) → counted r calls ≡ calls) → Behind
  idle_counts same world still =
      subst (λ (z : CloudState). CountsAll (calls_told (lines ++ line_of e r ∷ [])) z (session_at new.sessions)) (unmoved same)
      (counts_like (calls_told lines) (calls_told (lines ++ line_of e r ∷ [])) t (session_at old.sessions) (session_at new.sessions) (still_tells lines e r still)
      (λ k. ap (λ (w : World). session_at w.sessions k) world) all)

  refused_still : (rule : Refusal) → r ≡ reply.Refused rule → (calls : ℕ) → counted r calls ≡ calls
  refused_still rule is calls = ap (λ (q : Reply). counted q calls) is

  declined_counts : (why : Refused) → Declines why (span_of before after old new) (Ok r) → Behind
  declined_counts (refused.Rule rule) d = idle_counts d.seen d.world (refused_still rule (refused_is r rule d.reply))
  declined_counts refused.Memory d = absurd (cc (d.reply))

  -- one session changes, and makes no call
  module _ (k : ℕ) (own : session_of e ≡ k) where
    changed_counts : (Does : Acting → Acting → Type 0) → MakesNoCall (span_of before after old new) → (c : Changes k Does old.sessions new.sessions)
        → (CountsWork (calls_told lines k) t c.before.work → CountsWork (counted r (calls_told lines k)) t c.after.work) → Behind
    changed_counts Does quiet c mine =
        subst (λ (z : CloudState). CountsAll (calls_told (lines ++ line_of e r ∷ [])) z (session_at new.sessions)) (unmoved quiet.seen)
        (counts_like (at k (counted r (calls_told lines k)) (calls_told lines)) (calls_told (lines ++ line_of e r ∷ [])) t (at k c.after (session_at old.sessions)) (session_at new.sessions)
        (line_tells lines e r k own) (changed_at k Does old.sessions new.sessions c) each)
      where
        was : CountsWork (calls_told lines k) t c.before.work
        was = subst (λ (a : Acting). CountsWork (calls_told lines k) t a.work) (changed_was k Does old.sessions new.sessions c) (all k)

        each : CountsAll (at k (counted r (calls_told lines k)) (calls_told lines)) t (at k c.after (session_at old.sessions))
        each m = on (cases_eq m k)
          where
            on : (m ≡ k) ⊎ (m ≢ k) → CountsWork (at k (counted r (calls_told lines k)) (calls_told lines) m) t (at k c.after (session_at old.sessions) m).work
            on (inl same) =
                subst (λ (j : ℕ). CountsWork j t (at k c.after (session_at old.sessions) m).work) (sym (at_same k (counted r (calls_told lines k)) (calls_told lines) m same))
                (subst (λ (a : Acting). CountsWork (counted r (calls_told lines k)) t a.work) (sym (at_same k c.after (session_at old.sessions) m same)) (mine was))
            on (inr other) =
                subst (λ (j : ℕ). CountsWork j t (at k c.after (session_at old.sessions) m).work) (sym (at_other k (counted r (calls_told lines k)) (calls_told lines) m other))
                (subst (λ (a : Acting). CountsWork (calls_told lines m) t a.work) (sym (at_other k c.after (session_at old.sessions) m other)) (all m))

    begun : (o : Op) → MakesNoCall (span_of before after old new) → Changes k (BeginsOp o (Ok r)) old.sessions new.sessions → Behind
    begun o quiet c =
        changed_counts (BeginsOp o (Ok r)) quiet c
        (λ was. begin_counts r (calls_told lines k) t c.before c.after o c.does.begun c.does.begins c.does.replies was)

    noted : (noting : Noting) → MakesNoCall (span_of before after old new) → Changes k (NotesChange noting (Ok r)) old.sessions new.sessions → Behind
    noted noting quiet c = changed_counts (NotesChange noting (Ok r)) quiet c (λ was. on was c.does.noted c.does.notes c.does.replies)
      where
        on : CountsWork (calls_told lines k) t c.before.work → (result : Result (Unit {0}) Refused) → NotesIn noting c.before c.after result
            → IsOkOf r (done_reply reply.Noted result) → CountsWork (counted r (calls_told lines k)) t c.after.work
        on was (Ok done) h q =
            let is : r ≡ reply.Noted = cc (q) in
            kept_counts r (calls_told lines k) t c.before c.after _ (λ (calls : ℕ). ap (λ (z : Reply). counted z calls) is) h.0 was
        on was (Err (refused.Rule rule)) h q = refused_counts r (calls_told lines k) t c.before c.after rule q h.0 was
        on was (Err refused.Memory) h q = absurd (cc (q))

    aborted : MakesNoCall (span_of before after old new) → Changes k (DropsChanges (Ok r)) old.sessions new.sessions → Behind
    aborted quiet c = changed_counts (DropsChanges (Ok r)) quiet c (λ was. on was c.does.dropped c.does.drops c.does.replies)
      where
        on : CountsWork (calls_told lines k) t c.before.work → (result : Result (Unit {0}) Refused) → AbortsIn c.before c.after result
            → IsOkOf r (done_reply reply.Aborted result) → CountsWork (counted r (calls_told lines k)) t c.after.work
        on was (Ok done) h q =
            let is : r ≡ reply.Aborted = cc (q) in
            kept_counts r (calls_told lines k) t c.before c.after [] (λ (calls : ℕ). ap (λ (z : Reply). counted z calls) is) h.0 was
        on was (Err (refused.Rule rule)) h q = refused_counts r (calls_told lines k) t c.before c.after rule q h.0 was
        on was (Err refused.Memory) h q = absurd h.1

    -- ---- its steps

    abbrev who : Caller
    who = record { session = k; event = n }

    -- as many calls of its own as the line tells
    told_own : (calls : ℕ) → counted r (calls_told lines k) ≡ calls → CountsAll (at k calls (calls_told lines)) u (session_at new.sessions) → Behind
    told_own calls same mine =
        counts_like (at k calls (calls_told lines)) (calls_told (lines ++ line_of e r ∷ [])) u (session_at new.sessions) (session_at new.sessions)
        (λ m. line_tells lines e r k own m ∙ ap (λ (c : ℕ). at k c (calls_told lines) m) same) (λ m. refl) mine

    stepped : (wish : Wish) (turn : Turn Answer) → (p : StepsLooked who wish (span_of before after old new) turn) → RepliesTurn turn p.session.after (Ok r) → Behind
    stepped wish More p replies =
        let is : r ≡ reply.Called = cc (replies) in
        told_own (calls_told lines k + 1) (ap (λ (q : Reply). counted q (calls_told lines k)) is)
        (more_of lines who (sym number) (calls_told lines) wish before after old new More way p (calls_told lines k) (begins_own lines k old way.after all_way) u seen refl)
    stepped wish (Ended a) p replies =
        told_own (counted r (calls_told lines k)) refl
        (end_of lines who (sym number) (calls_told lines) wish before after old new (Ended a) way p (calls_told lines k) (begins_own lines k old way.after all_way) u seen a (counted r (calls_told lines k)) refl)
    stepped wish (Stopped trouble) p replies = absurd (no_stop who p.under p.to p.session.before p.session.after trouble p.session.does)

    makes : (wish : Wish) → MakesStep (record { session = k; event = n }) wish (span_of before after old new) (Ok r) → Behind
    makes wish (inl refuses) = declined_counts _ refuses.declines
    makes wish (inr (inl step)) = stepped wish step.turn step.steps step.replies
    makes wish (inr (inr memory)) = absurd (no_memory r memory.0)

    runs : Runs (record { session = k; event = n }) (span_of before after old new) (Ok r) → Behind
    runs (inl refuses) = declined_counts _ refuses.declines
    runs (inr (inl run)) =
        let c = run.comes in
        let gone = went_on lines who before old c.mid c.world (sym number) way c.went in
        told_own (counted r (calls_told lines k)) refl
        (end_of lines who (sym number) (calls_told lines) Plain c.mid after c.world new (Ended run.answer) gone c.steps
        (calls_told lines k + steps_of c.went)
        (went_counts lines who (sym number) (calls_told lines) before old c.mid c.world way all_way c.went gone.after gone.told) u seen run.answer (counted r (calls_told lines k)) refl)
    runs (inr (inr memory)) = absurd (no_memory r memory.0)

    dies : Dies k (span_of before after old new) (Ok r) → Behind
    dies d =
        changed_counts (λ a b. b ≡ closed_session) d.quiet d.closed
        (λ was. subst (λ (a : Acting). CountsWork (counted r (calls_told lines k)) t a.work) (sym d.closed.does) tt)

    -- whatever its call came to, it is closed then
    closed_counts : (wish : Wish) (world : World) (turn : Turn Answer) (p : StepsLooked who wish (span_of before after old world) turn) → Has k closed_session world new
        → (calls : ℕ) → CountsAll (at k calls (calls_told lines)) u (session_at world.sessions) → Behind
    closed_counts wish world turn p closes calls mine = λ m. on m (cases_eq m k)
      where
        on : (m : ℕ) → (m ≡ k) ⊎ (m ≢ k) → CountsWork (calls_told (lines ++ line_of e r ∷ []) m) u (session_at new.sessions m).work
        on m (inl same) =
            subst (λ (a : Acting). CountsWork (calls_told (lines ++ line_of e r ∷ []) m) u a.work)
            (sym (has_at k closed_session world new closes m ∙ at_same k closed_session (session_at world.sessions) m same)) tt
        on m (inr other) =
            subst (λ (a : Acting). CountsWork (calls_told (lines ++ line_of e r ∷ []) m) u a.work)
            (sym (has_at k closed_session world new closes m ∙ at_other k closed_session (session_at world.sessions) m other))
            (subst (λ (c : ℕ). CountsWork c u (session_at world.sessions m).work)
            (at_other k calls (calls_told lines) m other ∙ sym (line_tells lines e r k own m ∙ at_other k (counted r (calls_told lines k)) (calls_told lines) m other)) (mine m))

    dies_done : (world : World) (turn : Turn Answer) → StepsLooked who Plain (span_of before after old world) turn → Has k closed_session world new → Behind
    dies_done world More p closes =
        closed_counts Plain world More p closes (calls_told lines k + 1)
        (more_of lines who (sym number) (calls_told lines) Plain before after old world More way p (calls_told lines k) (begins_own lines k old way.after all_way) u seen refl)
    dies_done world (Ended a) p closes =
        closed_counts Plain world (Ended a) p closes 0
        (end_of lines who (sym number) (calls_told lines) Plain before after old world (Ended a) way p (calls_told lines k) (begins_own lines k old way.after all_way) u seen a 0 refl)
    dies_done world (Stopped trouble) p closes = absurd (no_stop who p.under p.to p.session.before p.session.after trouble p.session.does)

    crashes : (done : Bool) → Crashes (record { session = k; event = n }) done (span_of before after old new) (Ok r) → Behind
    crashes false d = dies d
    crashes true (inl idle) = dies idle.dies
    crashes true (inr (inl d)) = dies_done d.world d.turn d.steps d.closes
    crashes true (inr (inr memory)) = absurd (no_memory r memory.0)

    policy : (role : Role) (kept : ℕ) → Policies k role kept (span_of before after old new) (Ok r) → Behind
    policy role kept (inl refuses) = declined_counts _ refuses.declines
    policy role kept (inr (inl refuses)) = declined_counts _ refuses.1.declines
    policy role kept (inr (inr gives)) =
        let is : r ≡ reply.Noted = cc (gives.replies) in
        subst (λ (z : CloudState). CountsAll (calls_told (lines ++ line_of e r ∷ [])) z (session_at new.sessions)) (unmoved gives.quiet.seen)
        (counts_like (calls_told lines) (calls_told (lines ++ line_of e r ∷ [])) t (session_at old.sessions) (session_at new.sessions)
        (still_tells lines e r (λ (calls : ℕ). ap (λ (q : Reply). counted q calls) is)) (λ m. ap (λ (l : List Acting). session_at l m) gives.sessions) all)

    -- behind its work a session is open, and the others made as many calls as before
    worked : WorksThrough (record { session = k; event = n }) (span_of before after old new) (Ok r) → Behind
    worked (inl refuses) = declined_counts _ refuses.declines
    worked (inr (inl down)) = λ m. on m (cases_eq m k)
      where
        rest : (home : Home) × (home.client ≡ down.opened.client) × IsBetween k home (session_at old.sessions) old
        rest = open_rests k old down.opened

        q : Reply
        q = reply.Worked down.done down.passed

        is : r ≡ q
        is = cc (down.replies)

        all_lines : List Line
        all_lines = lines ++ line_of (event.Work k) q ∷ []

        begins : HoldsWithin n all_lines old before
        begins = worker_begins lines k n before old t (sym number) told stands q tt

        last : IsBetween k rest.0 (session_at old.sessions) new
        last = within_works (worker k n) rest.0 (session_at old.sessions) before old down.queues down.done down.passed after new rest.2 down.works

        own_counts : CountsAll (at k (calls_told lines k) (calls_told lines)) begins.state (session_at old.sessions)
        own_counts = begins_own lines k old begins.state (subst (λ (z : CloudState). CountsAll (calls_told lines) z (session_at old.sessions)) (same_Some t begins.state (sym told ∙ begins.told)) all)

        end : (own : ℕ) × CountsAll (at k own (calls_told lines)) u (session_at new.sessions)
        end =
            works_none n k all_lines rest.0 (worker_rows lines k n before old t (sym number) told stands q) (session_at old.sessions) (calls_told lines) before old down.queues down.done
            down.passed after new rest.2 begins (calls_told lines k) own_counts down.works u seen

        on : (m : ℕ) → (m ≡ k) ⊎ (m ≢ k) → CountsWork (calls_told (lines ++ line_of e r ∷ []) m) u (session_at new.sessions m).work
        on m (inl same) =
            subst (λ (j : ℕ). CountsWork (calls_told (lines ++ line_of e r ∷ []) m) u (session_at new.sessions j).work) (sym same)
            (subst (λ (w : Work). CountsWork (calls_told (lines ++ line_of e r ∷ []) m) u w) (sym last.works) tt)
        on m (inr other) =
            subst (λ (c : ℕ). CountsWork c u (session_at new.sessions m).work)
            (at_other k end.0 (calls_told lines) m other ∙ sym (still_tells lines e r (λ (calls : ℕ). ap (λ (z : Reply). counted z calls) is) m)) (end.1 m)
    worked (inr (inr memory)) = absurd (no_memory r memory.0)

    does : (request : Request) → Does (record { session = k; event = n }) request (span_of before after old new) (Ok r) → Behind
    does (Policy role kept) h = policy role kept h
    does WorksDue h = worked h
    does (Begin o) h = begun o h.0 h.1
    does (Note noting) h = noted noting h.0 h.1
    does Abort h = aborted h.0 h.1
    does (Step wish) h = makes wish h
    does Run h = runs h
    does (Crash done) h = crashes done h

    serves : (request : Result Request Refused) → Serves (record { session = k; event = n }) request (span_of before after old new) (Ok r) → Behind
    serves (Ok request) h = does request h
    serves (Err why) h = declined_counts why h

  -- ---- the settler

  module _ (errand : Errand) (right : IsRightErrand errand) (begun : World) (begins : Has 0 (session_for errand) old begun) (plain : IsNoReport r) (still : (calls : ℕ) → counted r calls ≡ calls) where
    abbrev lined : List Line
    lined = lines ++ line_of (event_for errand) r ∷ []

    row : AreRowsOf errand lined (settler n)
    row = errand_row errand lines r (settler n) refl (sym number)

    goes : SettlerGoes errand n lined (session_at old.sessions) begun before
    goes = settler_begins errand right lines n before old begun t (sym number) told stands begins r plain

    step_on : (mid end : Seen) (world next : World) (turn : Turn Answer) → (g : SettlerGoes errand n lined (session_at old.sessions) world mid)
        → (p : StepsLooked (settler n) Plain (span_of mid end world next) turn) → (calls : ℕ → ℕ) → CountsAll calls g.state (session_at world.sessions)
        → (s : CloudState) → end.state ≡ Some s → (turn ≡ More) ⊎ ((a : Answer) × (turn ≡ Ended a))
        → (own : ℕ) × CountsAll (at 0 own calls) s (session_at next.sessions)
    step_on mid end world next turn g p calls mine s at_end which = on which
      where
        h : CloudHolds n lined (session_at world.sessions) world.audit world.blind (record g.state { wish = Plain })
        h = wish_holds n lined (session_at world.sessions) world.audit world.blind g.state Plain g.holds

        c : CallLeavesUpto n lined p.to (at 0 p.session.after (session_at world.sessions)) next.audit next.blind
        c = settler_call errand n lined (session_at old.sessions) row mid end world next turn g p

        its : StepsSession (settler n) p.under p.to (session_at world.sessions 0) p.session.after (Ok turn)
        its = settler_own errand n lined (session_at old.sessions) row mid end world next turn g p

        on : (turn ≡ More) ⊎ ((a : Answer) × (turn ≡ Ended a)) → (own : ℕ) × CountsAll (at 0 own calls) s (session_at next.sessions)
        on (inl more) = (
          calls 0 + 1,
          step_more (settler n) Plain mid end world next turn p g.state g.told h.book h.order h.stand its c.state c.told calls mine s at_end c.holds.book c.holds.order c.holds.stand more,
        )
        on (inr ended) = (0, step_end (settler n) Plain mid end world next turn p g.state g.told h.book h.order h.stand its c.state c.told calls mine s at_end ended.0 0 ended.1)

    settler_counts : (end : Seen) (world : World) (went : Went (settler n) before begun end world) (s : CloudState) → end.state ≡ Some s
        → (own : ℕ) × CountsAll (at 0 own (calls_told lines)) s (session_at world.sessions)
    settler_counts end world start s at_end = (
      0,
      subst (λ (z : CloudState). CountsAll (at 0 0 (calls_told lines)) z (session_at begun.sessions)) (same_Some t s (sym told ∙ at_end)) (λ m. on m (cases_eq m 0)),
    )
      where
        none : (own : Errand) (made : ℕ) → CountsWork made t (session_for own).work
        none settles made = tt
        none (sweeps tree) made = tt

        on : (m : ℕ) → (m ≡ 0) ⊎ (m ≢ 0) → CountsWork (at 0 0 (calls_told lines) m) t (session_at begun.sessions m).work
        on m (inl same) =
            subst (λ (a : Acting). CountsWork (at 0 0 (calls_told lines) m) t a.work)
            (sym (has_at 0 (session_for errand) old begun begins m ∙ at_same 0 (session_for errand) (session_at old.sessions) m same)) (none errand (at 0 0 (calls_told lines) m))
        on m (inr other) =
            subst (λ (a : Acting). CountsWork (at 0 0 (calls_told lines) m) t a.work)
            (sym (has_at 0 (session_for errand) old begun begins m ∙ at_other 0 (session_for errand) (session_at old.sessions) m other))
            (subst (λ (c : ℕ). CountsWork c t (session_at old.sessions m).work) (sym (at_other 0 0 (calls_told lines) m other)) (all m))
    settler_counts end world (further mid _ prior _ went step) s at_end =
        let g = settler_went errand n lined (session_at old.sessions) row before begun mid prior goes went in
        let was = settler_counts mid prior went g.state g.told in
        let one = step_on mid end prior world More g step (at 0 was.0 (calls_told lines)) was.1 s at_end (inl refl) in (
          one.0,
          counts_like (at 0 one.0 (at 0 was.0 (calls_told lines))) (at 0 one.0 (calls_told lines)) s (session_at world.sessions) (session_at world.sessions)
              (λ m. sym (own_twice 0 was.0 one.0 (calls_told lines) m)) (λ m. refl) one.1,
        )

    settled_counts : (left : World) (a : Answer) → ComesTo (settler n) (span_of before after begun left) a → Has 0 closed_session left new → Behind
    settled_counts left a comes closes = λ m. on m (cases_eq m 0)
      where
        g : SettlerGoes errand n lined (session_at old.sessions) comes.world comes.mid
        g = settler_went errand n lined (session_at old.sessions) row before begun comes.mid comes.world goes comes.went

        was : (own : ℕ) × CountsAll (at 0 own (calls_told lines)) g.state (session_at comes.world.sessions)
        was = settler_counts comes.mid comes.world comes.went g.state g.told

        end : (own : ℕ) × CountsAll (at 0 own (at 0 was.0 (calls_told lines))) u (session_at left.sessions)
        end = step_on comes.mid after comes.world left (Ended a) g comes.steps (at 0 was.0 (calls_told lines)) was.1 u seen (inr (a, refl))

        on : (m : ℕ) → (m ≡ 0) ⊎ (m ≢ 0) → CountsWork (calls_told (lines ++ line_of e r ∷ []) m) u (session_at new.sessions m).work
        on m (inl same) =
            subst (λ (a : Acting). CountsWork (calls_told (lines ++ line_of e r ∷ []) m) u a.work)
            (sym (has_at 0 closed_session left new closes m ∙ at_same 0 closed_session (session_at left.sessions) m same)) tt
        on m (inr other) =
            subst (λ (a : Acting). CountsWork (calls_told (lines ++ line_of e r ∷ []) m) u a.work)
            (sym (has_at 0 closed_session left new closes m ∙ at_other 0 closed_session (session_at left.sessions) m other))
            (subst (λ (c : ℕ). CountsWork c u (session_at left.sessions m).work)
            (at_other 0 end.0 (at 0 was.0 (calls_told lines)) m other ∙ at_other 0 was.0 (calls_told lines) m other ∙ sym (still_tells lines e r still m)) (end.1 m))

  -- ---- every line

  waited : (ticks : ℕ) → Answers n (Wait ticks) (span_of before after old new) (Ok r) → Behind
  waited ticks (inl h) =
      let w = h.0.waited t told in
      let is : r ≡ reply.Waited = cc (h.0.replies) in
      let same : w.after ≡ u = same_Some w.after u (sym w.told ∙ seen) in
      subst (λ (z : CloudState). CountsAll (calls_told (lines ++ line_of e r ∷ [])) z (session_at new.sessions)) (sym w.rest ∙ same)
      (counts_like (calls_told lines) (calls_told (lines ++ line_of e r ∷ [])) _ (session_at old.sessions) (session_at new.sessions)
      (still_tells lines e r (λ (calls : ℕ). ap (λ (q : Reply). counted q calls) is)) (λ k. ap (λ (x : World). session_at x.sessions k) h.1)
      (λ k. counts_beside (calls_told lines k) t _ (session_at old.sessions k).work (wait_leads t w.after.now _ (end_later t.now ticks w.after.now (h.0.clock t told) w.later)) (all k)))
  waited ticks (inr long) = declined_counts _ long.declines

  report_still : (q : Reply) (tree : ℕ) → ReportReply tree before after old (Ok q) → (calls : ℕ) → counted q calls ≡ calls
  report_still (reply.Report x) tree h calls = refl
  report_still (reply.Trouble k) tree h calls = refl
  report_still (reply.Refused rule) tree h calls = refl
  report_still q tree h calls = absurd h

  reported : (tree : ℕ) → Reports tree (span_of before after old new) (Ok r) → Behind
  reported tree h =
      subst (λ (z : CloudState). CountsAll (calls_told (lines ++ line_of e r ∷ [])) z (session_at new.sessions)) (same_Some t u (sym (h.looked.stays t told) ∙ seen))
      (counts_like (calls_told lines) (calls_told (lines ++ line_of e r ∷ [])) t (session_at old.sessions) (session_at new.sessions)
      (still_tells lines e r (report_still r tree h.reply)) (λ k. ap (λ (w : World). session_at w.sessions k) h.world) all)

  errand_still : (errand : Errand) (a : Answer) (q : Reply) → RepliesFor errand a (Ok q) → (calls : ℕ) → counted q calls ≡ calls
  errand_still errand a q e calls = errand_is (λ (z : Reply). counted z calls ≡ calls) (λ made. refl) (λ k text. refl) (λ kept removed. refl) (λ k text. refl) errand a q e

  errand_counts : (errand : Errand) → IsRightErrand errand → Settles errand n (span_of before after old new) (Ok r) → Behind
  errand_counts errand right (inl h) = on h.settles
    where
      on : SettlesOn errand (settler n) (span_of before after h.begun new) (Ok r) → Behind
      on (inl s) = settled_counts errand right h.begun h.begins (errand_plain errand s.answer r s.replies) (errand_still errand s.answer r s.replies) s.left s.answer s.comes s.closes
      on (inr memory) = absurd (no_memory r memory.0)
  errand_counts errand right (inr memory) = absurd (no_memory r memory.0)

  answers_count : (asked : Asked) → Asks e asked → Answers n asked (span_of before after old new) (Ok r) → Behind
  answers_count (Session k request) asks (inl served) = serves k (own_session e k request asks) request served.1
  answers_count (Session k request) asks (inr none) = declined_counts _ none.declines
  answers_count (Wait ticks) asks h = waited ticks h
  answers_count (Report tree) asks h = reported tree h
  answers_count Settle asks h = errand_counts settles tt h
  answers_count (Sweep (Ok tree)) asks h = errand_counts (sweeps tree) h.0 h.1
  answers_count (Sweep (Err why)) asks h = declined_counts why h

-- ---- what stands behind a line

pub stands_after : (n : ℕ) (e : Event) (before after : Seen) (old new : World) (result : Result Reply WorldFault)
    → Handled n e (span_of before after old new) result → StandsOn n e (span_of before after old new) result
stands_after n e before after old new (Ok r) h = λ lines t at told stands.
    let l = line_leaves n e before after old new r h lines t at told stands.by_lines in
    record {
      after = l.after;
      told = l.told;
      stands = record {
        by_lines = l.stands;
        counted = answers_count lines n at before after old new e r t told stands.by_lines stands.counted l.after l.told h.asked h.asks h.answers;
      };
      right = l.right;
      left = l.left;
    }
stands_after n e before after old new (Err fault) h = tt
