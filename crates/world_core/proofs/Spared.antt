-- A writer that is alone passes no checkpoint over.
use Rattle.std.proofs.Common.{◌≡◌, ◌≢◌, ◌≤◌, inl, inr, ℕ, zero, suc, Bool, true, false, List, [], ◌∷◌, ◌++◌, if◌then◌else◌, map, Some, Result, Ok, Err, refl, sym, ap, subst, ◌∙◌, arith}
use Rattle.std.proofs.lemmas.Bool.{eqb-false}
use Rattle.std.proofs.lemmas.Bool.Decides.{nat_tests}
use Rattle.std.specs.List.{filter}
use Rattle.std.specs.Prelude.{nat_le, ◌==◌}
use Rattle.ckpt_policy.specs.declared.note.Note.{Note}
use Rattle.ckpt_policy.specs.declared.place.Place.{Place}
use Rattle.ckpt_policy.specs.declared.role.Role.TheVariants.{Writer}
use Rattle.ckpt_policy.specs.Due.{due}
use Rattle.ckpt_policy.specs.Notes.{known, queue_at}
use Rattle.client_work.specs.declared.answer.Answer.{Answer}
use Rattle.client_work.specs.declared.answer.Answer.TheVariants as answer
use Rattle.cloud_facts.proofs.Book.Places.{in_behind, in_front, in_none}
use Rattle.cloud_facts.specs.Words.{Trouble, QueueName, Turn, Ended, CloudState, Caller, Seen, IsIn}
use Rattle.db_base.specs.declared.names.QueueName.TheVariants.{Atomic, TreePu, PagePu}
use Rattle.db_base.specs.declared.refusal.Refusal.{Refusal}
use Rattle.db_base.specs.declared.refusal.Refusal.TheVariants as rule
use Rattle.db_base.specs.declared.refusal.Refused.{Refused}
use Rattle.db_base.specs.declared.refusal.Refused.TheVariants as refused
use Rattle.db_base.specs.declared.trouble.Trouble.TheVariants as trouble
use Rattle.session_facts.proofs.Lines.Outcome.{MadeCall, made_call}
use Rattle.session_facts.specs.Sessions.Spent.{IsSpentInPages, IsSpentInTree}
use Rattle.session_facts.specs.Sessions.Untroubled.{IsSpent}
use Rattle.cloud_trait.proofs.RowLemmas.{leaves_grown}
use Rattle.cloud_trait.specs.Growth.{HasGrown}
use Rattle.cloud_trait.specs.Weather.{counted, Leaves}
use Rattle.db_base.specs.declared.trouble.Counter.{Counter}
use Rattle.db_base.specs.declared.wish.Wish.{Wish}
use Rattle.event_text.specs.declared.event.Event.{Event}
use Rattle.event_text.specs.declared.event.Event.TheVariants as event
use Rattle.reply_text.specs.declared.reply.Reply.{Reply}
use Rattle.reply_text.specs.declared.reply.Reply.TheVariants as reply
use Rattle.session_notes.specs.declared.notebook.Notebook.{Notebook}
use Rattle.session_notes.specs.Metered.{sent_since}
use Rattle.session_notes.specs.Notebook.{IsDue}
use Rattle.world_core.proofs.Alone.{keeps_alone}
use Rattle.world_core.proofs.Landed.{HasSentSeen, kept_some}
use Rattle.world_core.proofs.MeteredWork.{due_to}
use Rattle.world_core.proofs.PassedOver.{passes_well}
use Rattle.world_core.proofs.SentLines.{SentAt, line_sent}
use Rattle.world_core.proofs.StandsLemmas.{no_memory, refused_is}
use Rattle.world_core.specs.Alone.{LeavesAlone}
use Rattle.world_core.specs.Asked.{Asks, OfSession}
use Rattle.world_core.specs.EachStep.{EachAsked, EachDone, EachCome, EachThrough, EachWork}
use Rattle.world_core.specs.Handled.{Answers, ComesTo, Does, IsPassable, StepsLooked, Went, Works, WorksDown, WorksThrough, checkpoint_more, further, no_checkpoint, passed_by, start, gone_through}
use Rattle.world_core.specs.Metered.{HasLedger}
use Rattle.world_core.specs.Passed.{AskedPassed, DonePassed, EachPassed, MayPass, PassesSo, ThroughPassed}
use Rattle.world_core.specs.Replying.{declined}
use Rattle.world_core.specs.Spared.{HasSent, HasSentAt, PassesNone, PassesNoneAt, SparesWriter, StepSpendsNone}
use Rattle.world_core.specs.World.{World}
use Rattle.world_core.specs.Writers.{Stage, Unbound, Even, Owing, Astray, by_line, stage_of}
use Rattle.world_core.specs.declared.asked.Asked.{Asked}
use Rattle.world_core.specs.declared.asked.Asked.TheVariants.{Session, Wait, Report, Settle, Sweep}
use Rattle.world_core.specs.declared.asked.Request.{Request}
use Rattle.world_core.specs.declared.asked.Request.TheVariants.{Work as WorksDue}
use Rattle.world_core.specs.declared.world.WorldFault.{WorldFault}
use Rattle.world_core.specs.Span.{span_of}

state_is : (x y : CloudState) → Some x ≡ Some y → x ≡ y
state_is x y e = cc (e)

-- ---- the queues that are due to a writer

-- where one of them stands
due_place : (test : Place → Bool) (places : List Place) (queue : QueueName) → IsIn (map queue_at (filter test places)) queue → (place : Place) × (queue_at place ≡ queue) × (test place ≡ true)
due_place test [] queue is = absurd (in_none [] queue refl is)
due_place test (x ∷ places) queue is = on (test x) refl (due_place test places queue) is
  where
    on : (b : Bool) → test x ≡ b
        → (IsIn (map queue_at (filter test places)) queue → (place : Place) × (queue_at place ≡ queue) × (test place ≡ true))
        → IsIn (map queue_at (if b then x ∷ filter test places else filter test places)) queue → (place : Place) × (queue_at place ≡ queue) × (test place ≡ true)
    on true e later (zero, there) = (x, cc (there), e)
    on true e later (suc i, there) = later (i, there)
    on false e later rest = later rest

-- that of a page
page_place : (place : Place) (tree page : ℕ) → queue_at place ≡ PagePu tree page → (place.tree ≡ tree) × (place.page ≡ page) × (1 ≤ place.page)
page_place place tree page e = on (place.page == 0) refl e
  where
    on : (b : Bool) → (place.page == 0) ≡ b → (if b then TreePu place.tree else PagePu place.tree place.page) ≡ PagePu tree page → (place.tree ≡ tree) × (place.page ≡ page) × (1 ≤ place.page)
    on true zero_is f = absurd (cc (f))
    on false some f = (cc (f), cc (f), let other : place.page ≢ 0 = λ none. eqb-false place.page 0 some none in omega (arith, other))

-- ---- messages stay

-- over a told cloud a queue has a message
record IsSentSeen (queue : QueueName) (seen : Seen) : Type 0 where
  state : CloudState
  told : seen.state ≡ Some state
  some : state.messages queue ≢ []

step_some : (queue : QueueName) (who : Caller) (wish : Wish) (before after : Seen) (old new : World) (turn : Turn Answer) → StepsLooked who wish (span_of before after old new) turn → IsSentSeen queue before
    → IsSentSeen queue after
step_some queue who wish before after old new turn p h = record {
  state = left.after;
  told = p.look_after.stays left.after left.told;
  some = kept_some (h.state.messages queue) (left.after.messages queue) (grown.messages queue) h.some;
}
  where
    wished : CloudState
    wished = record h.state { wish = wish }

    made : MadeCall who p.under p.to p.session.before.work
    made = made_call who p.under p.to p.session.before.work p.session.after.work turn p.session.does.work

    left : Leaves who made.ask made.answer (counted p.under.counts (record h.state { wish = wish })) p.to.counts p.to.state
    left = made.made.state (record h.state { wish = wish }) (p.wishes.set h.state (p.look_before.stays h.state h.told))

    grown : HasGrown (record h.state { wish = wish }) left.after
    grown = leaves_grown who made.ask made.answer p.under.counts p.to.counts (record h.state { wish = wish }) p.to.state left

went_some : (queue : QueueName) (who : Caller) (before : Seen) (old : World) (after : Seen) (new : World) → Went who before old after new → IsSentSeen queue before → IsSentSeen queue after
went_some queue who before old after new start h = h
went_some queue who before old after new (further mid _ world _ went step) h = step_some queue who _ mid after world new _ step (went_some queue who before old mid world went h)

comes_some : (queue : QueueName) (who : Caller) (before after : Seen) (old new : World) (a : Answer) → ComesTo who (span_of before after old new) a → IsSentSeen queue before → IsSentSeen queue after
comes_some queue who before after old new a comes h =
    step_some queue who _ comes.mid after comes.world new _ comes.steps (went_some queue who before old comes.mid comes.world comes.went h)

works_some : (queue : QueueName) (who : Caller) (before : Seen) (old : World) (queues : List QueueName) (done passed : ℕ) (after : Seen) (new : World) → Works who before old (gone_through queues done passed) after new
    → IsSentSeen queue before → IsSentSeen queue after
works_some queue who before old queues done passed after new no_checkpoint h = h
works_some queue who before old queues done passed after new (checkpoint_more others kept left mid world own a _ _ works makes passes) h =
    comes_some queue who mid after makes.begun new a makes.comes (works_some queue who before old others kept left mid world works h)

-- ---- one checkpoint

spent_never : (Spent : CloudState → Counter → Type 0) (u : CloudState) (k : Trouble) → IsSpent Spent u k → ((what : Counter) → k ≢ trouble.Exhausted what) → ⊥
spent_never Spent u (trouble.Exhausted what) spent other = other what refl
spent_never Spent u k never other = never

may_never : (queue : QueueName) (u : CloudState) (k : Trouble) → MayPass queue u k → ((what : Counter) → k ≢ trouble.Exhausted what) → ((tree page : ℕ) → queue ≡ PagePu tree page → u.messages queue ≢ []) → ⊥
may_never (TreePu tree) u k may other sent = spent_never (IsSpentInTree tree) u k may other
may_never (PagePu tree page) u (trouble.Absent named) may other sent = sent tree page refl may.1
may_never (PagePu tree page) u (trouble.NotALeaf named) may other sent = sent tree page refl may.1
may_never (PagePu tree page) u k may other sent = spent_never (IsSpentInPages tree) u k may.0 other
may_never (Atomic client) u k never other sent = never

ended_with : (k t : Trouble) → k ≡ t → (let x : Turn Answer = Ended (answer.Trouble k) in let y : Turn Answer = Ended (answer.Trouble t) in x ≡ y)
ended_with k t e = ap (λ (z : Trouble). Ended (answer.Trouble z)) e

one_spared : (who : Caller) (queue : QueueName) (mid after : Seen) (begun new : World) (a : Answer) → (comes : ComesTo who (span_of mid after begun new) a) → EachCome StepSpendsNone who (span_of mid after begun new) a comes → IsPassable a
    → PassesSo queue after a → ((tree page : ℕ) → queue ≡ PagePu tree page → IsSentSeen queue after) → passed_by a ≡ 0
one_spared who queue mid after begun new (answer.Done n) comes each passes so sent = refl
one_spared who queue mid after begun new (answer.Trouble k) comes each passes (u, told, may) sent =
    absurd (may_never queue u k may (λ what e. each.1 what (ended_with k (trouble.Exhausted what) e))
    (λ tree page e. let s = sent tree page e in subst (λ (x : CloudState). x.messages queue ≢ []) (state_is s.state u (sym s.told ∙ told)) s.some))
one_spared who queue mid after begun new a comes each passes so sent = absurd passes

-- ---- all of them

each_spared : (who : Caller) (before : Seen) (old : World) (queues : List QueueName) (done passed : ℕ) (after : Seen) (new : World) → (works : Works who before old (gone_through queues done passed) after new)
    → EachWork StepSpendsNone works → EachPassed works
    → ((tree page : ℕ) → IsIn queues (PagePu tree page) → IsSentSeen (PagePu tree page) before) → passed ≡ 0
each_spared who before old queues done passed after new no_checkpoint each so sent = refl
each_spared who before old queues done passed after new (checkpoint_more others kept left mid world queue a _ _ works makes passes) each so sent =
    let first : left ≡ 0 = each_spared who before old others kept left mid world works each.0 so.0 (λ tree page is. sent tree page (in_front others (queue ∷ []) (PagePu tree page) is)) in
    let last : passed_by a ≡ 0 = one_spared who queue mid after makes.begun new a makes.comes each.1 passes so.1 here in
    omega (arith, first, last)
  where
    here : (tree page : ℕ) → queue ≡ PagePu tree page → IsSentSeen queue after
    here tree page e =
        subst (λ (q : QueueName). IsSentSeen q after) (sym e)
        (comes_some (PagePu tree page) who mid after makes.begun new a makes.comes
        (works_some (PagePu tree page) who before old others kept left mid world works
        (sent tree page (subst (λ (q : QueueName). IsIn (others ++ queue ∷ []) q) e (in_behind others (queue ∷ []) queue (zero, refl))))))

at_least : (k sent : ℕ) → nat_le k sent ≡ true → k ≤ sent
at_least k sent e = grind (arith, nat_tests, e)

same_book : (a b : Notebook) → Some a ≡ Some b → a ≡ b
same_book a b e = cc (e)

module _ (n session k : ℕ) (before after : Seen) (old new : World) (r : Reply) (h : HasSentSeen session k old before) where
  abbrev result : Result Reply WorldFault
  result = Ok r

  abbrev notes : List Note
  notes = h.sent.notes

  -- each queue of a page that is due has a message
  due_sent : (d : WorksDown (record { session = session; event = n }) (span_of before after old new) result) (tree page : ℕ) → IsIn d.queues (PagePu tree page) → IsSentSeen (PagePu tree page) before
  due_sent d tree page is = record {
    state = h.state;
    told = h.told;
    some = subst (λ (q : QueueName). h.state.messages q ≢ []) (ap (λ (i : ℕ). PagePu i place.page) at_it.0 ∙ ap (PagePu tree) at_it.1) (h.sent.landed place at_it.2 many);
  }
    where
      ledger : HasLedger session k notes old.notes
      ledger = h.sent.ledger

      book : d.due.book ≡ ledger.book
      book = same_book d.due.book ledger.book (sym d.due.there ∙ ledger.there)

      queues_are : d.queues ≡ due Writer k ledger.is.account.client notes
      queues_are = due_to k notes ledger.book d.queues ledger.is (subst (λ (x : Notebook). IsDue x d.queues) book d.due.due)

      found : (place : Place) × (queue_at place ≡ PagePu tree page) × (nat_le k (sent_since notes place) ≡ true)
      found =
          due_place (λ place. nat_le k (sent_since notes place)) (known notes) (PagePu tree page)
          (subst (λ (qs : List QueueName). IsIn qs (PagePu tree page)) queues_are is)

      place : Place
      place = found.0

      at_it : (found.0.tree ≡ tree) × (found.0.page ≡ page) × (1 ≤ found.0.page)
      at_it = page_place found.0 tree page found.1

      many : 1 ≤ sent_since notes found.0
      many = let enough : k ≤ sent_since notes found.0 = at_least k (sent_since notes found.0) found.2 in let one = h.sent.number.0 in omega (arith, enough, one)

  -- a line that is refused passes none over
  refused_none : (s : ℕ) (rule : Refusal) → result ≡ declined (refused.Rule rule) → PassesNone (event.Work s) r
  refused_none s rule e = subst (λ (x : Reply). PassesNone (event.Work s) x) (sym (refused_is r rule e)) tt

  through_spared : (p : WorksThrough (record { session = session; event = n }) (span_of before after old new) result) → EachThrough StepSpendsNone (record { session = session; event = n }) (span_of before after old new) result p
      → ThroughPassed (record { session = session; event = n }) (span_of before after old new) result p → (s : ℕ) → PassesNone (event.Work s) r
  through_spared (inl refuses) each so s = refused_none s refuses.rule refuses.declines.reply
  through_spared (inr (inl d)) each so s =
      let is : r ≡ reply.Worked d.done d.passed = cc (d.replies) in
      subst (λ (x : Reply). PassesNone (event.Work s) x) (sym is)
      (each_spared (record { session = session; event = n }) before old d.queues d.done d.passed after new d.works each so (due_sent d))
  through_spared (inr (inr memory)) each so s = absurd (no_memory r memory.0)

  -- a work that is asked of the session
  abbrev DoesSo : ℕ → Request → Type 0
  DoesSo j request =
      (d : Does (record { session = j; event = n }) request (span_of before after old new) result) × EachDone StepSpendsNone (record { session = j; event = n }) request (span_of before after old new) result d × DonePassed (record { session = j; event = n }) request (span_of before after old new) result d

  same_work : (request : Request) → (let a : Result Request Refused = Ok request in a ≡ Ok WorksDue) → request ≡ WorksDue
  same_work request e = cc (e)

  pub work_spared : (s : ℕ) (asked : Asked) → OfSession session (λ request. request ≡ Ok WorksDue) asked → (a : Answers n asked (span_of before after old new) result)
      → EachAsked StepSpendsNone n asked (span_of before after old new) result a → AskedPassed n asked (span_of before after old new) result a → PassesNone (event.Work s) r
  work_spared s (Session j (Ok request)) belongs (inl p) each so =
      let d = subst (λ (i : ℕ). DoesSo i WorksDue) belongs.0 (subst (DoesSo j) (same_work request belongs.1) (p.1, each, so)) in
      through_spared d.0 d.1 d.2 s
  work_spared s (Session j (Err why)) belongs (inl p) each so = absurd (cc (belongs.1))
  work_spared s (Session j request) belongs (inr none) each so = refused_none s rule.BadNumber none.declines.reply
  work_spared s (Wait ticks) belongs a each so = absurd belongs
  work_spared s (Report tree) belongs a each so = absurd belongs
  work_spared s Settle belongs a each so = absurd belongs
  work_spared s (Sweep tree) belongs a each so = absurd belongs

-- ---- the line

seen_at : (session k : ℕ) (world : World) (seen : Seen) (t : CloudState) → seen.state ≡ Some t → (stage : Stage) → HasSentAt stage session k world t → SentAt session k stage world seen
seen_at session k world seen t told Unbound h = tt
seen_at session k world seen t told Even h = record { state = t; told = told; sent = h }
seen_at session k world seen t told Owing h = record { state = t; told = told; sent = h }
seen_at session k world seen t told Astray h = tt

told_at : (session k : ℕ) (world : World) (seen : Seen) (t : CloudState) → seen.state ≡ Some t → (stage : Stage) → SentAt session k stage world seen → HasSentAt stage session k world t
told_at session k world seen t told Unbound h = tt
told_at session k world seen t told Even h = subst (λ (x : CloudState). HasSent session k world x) (state_is h.state t (sym h.told ∙ told)) h.sent
told_at session k world seen t told Owing h = subst (λ (x : CloudState). HasSent session k world x) (state_is h.state t (sym h.told ∙ told)) h.sent
told_at session k world seen t told Astray h = tt

module _ (n session k : ℕ) (before after : Seen) (old new : World) (r : Reply) where
  own_work : (s : ℕ) (asked : Asked) → OfSession s (λ request. request ≡ Ok WorksDue) asked → s ≡ session → OfSession session (λ request. request ≡ Ok WorksDue) asked
  own_work s asked asks e = subst (λ (j : ℕ). OfSession j (λ request. request ≡ Ok WorksDue) asked) e asks

  none_at : (stage : Stage) (e : Event) → PassesNone e r → PassesNoneAt stage e r
  none_at Unbound e none = tt
  none_at Even e none = none
  none_at Owing e none = none
  none_at Astray e none = tt

  writes_spared : (s : ℕ) (asked : Asked) → OfSession session (λ request. request ≡ Ok WorksDue) asked → (a : Answers n asked (span_of before after old new) (Ok r))
      → EachAsked StepSpendsNone n asked (span_of before after old new) (Ok r) a → AskedPassed n asked (span_of before after old new) (Ok r) a → (stage : Stage) → SentAt session k stage old before
      → PassesNoneAt stage (event.Work s) r
  writes_spared s asked asks a each so Unbound h = tt
  writes_spared s asked asks a each so Even h = work_spared n session k before after old new r h s asked asks a each so
  writes_spared s asked asks a each so Owing h = work_spared n session k before after old new r h s asked asks a each so
  writes_spared s asked asks a each so Astray h = tt

  spared_line : (e : Event) (asked : Asked) → Asks e asked → LeavesAlone session e → (a : Answers n asked (span_of before after old new) (Ok r)) → EachAsked StepSpendsNone n asked (span_of before after old new) (Ok r) a
      → AskedPassed n asked (span_of before after old new) (Ok r) a → (stage : Stage) → SentAt session k stage old before → PassesNoneAt stage e r
  spared_line (event.Work s) asked asks leaves a each so stage h = writes_spared s asked (own_work s asked asks leaves) a each so stage h
  spared_line e asked asks leaves a each so stage h = none_at stage e tt

pub spares_writer : (n : ℕ) (e : Event) (before after : Seen) (old new : World) (result : Result Reply WorldFault) → SparesWriter n e (span_of before after old new) result
spares_writer n e before after old new (Ok r) = λ lines t u number told told_after stands handled undisturbed unspent session k leaves alone sent.
    let calm = (keeps_alone n e before after old new (Ok r) lines t u number told told_after stands handled undisturbed session leaves alone).1 in
    let so = passes_well n e before after old new (Ok r) lines t number told stands handled calm in
    let seen = seen_at session k old before t told (stage_of session k lines) sent in (
      spared_line n session k before after old new r e handled.asked handled.asks leaves handled.answers unspent so (stage_of session k lines) seen,
      told_at session k new after u told_after (by_line session k e r (stage_of session k lines))
          (line_sent n session k before after old new r t told e handled.asked handled.asks handled.answers undisturbed (stage_of session k lines) seen),
    )
spares_writer n e before after old new (Err fault) = tt
