-- A line that works passes over no checkpoint whose calls were calm, but for a spent counter, or a page that is absent or no leaf and to whose queue no
-- message was ever sent.
use Rattle.std.proofs.Common.{◌≡◌, ◌+◌, inl, inr, ℕ, List, [], ◌∷◌, ◌++◌, length, Some, Result, Ok, Err, refl, sym, ap, subst, ◌∙◌}
use Rattle.client_work.specs.declared.answer.Answer.{Answer}
use Rattle.client_work.specs.declared.answer.Answer.TheVariants as answer
use Rattle.client_work.specs.declared.answer.Begun.TheVariants.{Working}
use Rattle.client_work.specs.declared.work.Work.{Work}
use Rattle.client_work.specs.declared.work.Work.TheVariants.{Folding, Paging}
use Rattle.client_work.specs.Session.{Acting, Begins, StepsAt, StepsSession}
use Rattle.ckpt_policy.specs.Notes.{IsPending}
use Rattle.cloud_facts.proofs.Book.Names.{at_same}
use Rattle.cloud_facts.specs.Words.{Trouble, QueueName, More, Ended, CloudState, Caller, Seen}
use Rattle.db_base.specs.declared.names.QueueName.TheVariants.{Atomic, TreePu, PagePu}
use Rattle.db_base.specs.declared.refusal.Refused.{Refused}
use Rattle.db_base.specs.declared.trouble.Trouble.TheVariants as trouble
use Rattle.db_base.specs.declared.wish.Wish.TheVariants.{Plain}
use Rattle.event_text.specs.declared.event.Event.{Event}
use Rattle.event_text.specs.declared.event.Event.TheVariants as event
use Rattle.recover_run.specs.declared.home.Home.{Home}
use Rattle.replay_meaning.specs.Standing.{Line}
use Rattle.reply_text.specs.declared.reply.Reply.{Reply}
use Rattle.reply_text.specs.declared.reply.Reply.TheVariants as reply
use Rattle.session_facts.proofs.Rows.CallKinds.{IsNoWant, IsWorkersRow}
use Rattle.session_facts.proofs.Lines.More.{line_of}
use Rattle.session_facts.proofs.Sessions.Stops.{session_stops}
use Rattle.session_facts.proofs.Sessions.Untroubled.{IsAtRest, at_rest, rested, rests_as}
use Rattle.session_facts.proofs.Lines.Outcome.{wish_holds}
use Rattle.session_facts.specs.Lines.Facts.{session_at, CloudHolds}
use Rattle.session_facts.specs.Sessions.Stops.{MayAnswer}
use Rattle.session_facts.specs.Sessions.Explains.{spent_for}
use Rattle.session_facts.specs.Sessions.Knows.{Sessions}
use Rattle.session_facts.specs.Sessions.Spent.{IsSpentInTree}
use Rattle.session_facts.specs.Sessions.Untroubled.{IsOfNoCall, IsSpent, IsSpentOrOf}
use Rattle.world_core.proofs.Calm.{GoesWellAt, answers_calmly, went_calmly}
use Rattle.world_core.proofs.CalmAnswers.{IsOfNone}
use Rattle.world_core.proofs.Explained.{explained}
use Rattle.world_core.proofs.SpentTroubles.{page_spent, tree_spent}
use Rattle.world_core.proofs.StandsLemmas.{changed_at, changed_was}
use Rattle.world_core.proofs.UnsentSteps.{IsPagingOf, answer_unsent, paging_goes, paging_went, rests_unsent, went_unsent}
use Rattle.world_core.proofs.Workers.{HoldsWithin, IsBetween, holds_begun, holds_went, holds_works, open_rests, passable, within_begun, within_works, worker, worker_begins, worker_rows}
use Rattle.world_core.specs.Calm.{StepIsCalm, work_at}
use Rattle.world_core.specs.EachStep.{EachAsked, EachCome, EachDone, EachServed, EachThrough, EachWork}
use Rattle.world_core.specs.Explained.{StepExplains}
use Rattle.world_core.specs.Handled.{Answers, Checkpoints, Does, IsPassable, Serves, StepsLooked, Went, Works, WorksThrough, checkpoint_more, checkpoint_of, further, no_checkpoint, start, gone_through}
use Rattle.world_core.specs.Passed.{AskedPassed, DonePassed, EachPassed, MayPass, PassesSo, PassesWell, ServedPassed, ThroughPassed}
use Rattle.world_core.specs.Stands.{WorldStands}
use Rattle.world_core.specs.UnsentPages.{IsOfUnsent}
use Rattle.world_core.specs.World.{World}
use Rattle.world_core.specs.declared.asked.Asked.{Asked}
use Rattle.world_core.specs.declared.asked.Asked.TheVariants.{Session, Wait, Report, Settle, Sweep}
use Rattle.world_core.specs.declared.asked.Request.{Request}
use Rattle.world_core.specs.declared.asked.Request.TheVariants.{Begin, Note, Abort, Policy, Work as WorksDue, Step, Run, Crash}
use Rattle.world_core.specs.declared.world.WorldFault.{WorldFault}
use Rattle.world_core.specs.Span.{span_of}

-- ---- the checkpoint of a queue

-- what is in hand is the checkpoint of the queue
abbrev IsFor : QueueName → Work → Type 0
IsFor (TreePu tree) (Folding home m) = m.tree ≡ tree
IsFor (TreePu tree) w = ⊥
IsFor (PagePu tree page) w = IsPagingOf tree page w
IsFor (Atomic client) w = ⊥

for_goes : (who : Caller) (before after : Seen) (queue : QueueName) (w new : Work) → StepsAt who before after w new More → IsFor queue w → IsFor queue new
for_goes who before after (TreePu tree) (Folding home m) new p is = subst (IsFor (TreePu tree)) (sym p.2) (p.1.took.0.0 ∙ is)
for_goes who before after (TreePu tree) w new p is = absurd is
for_goes who before after (PagePu tree page) w new p is = paging_goes who before after tree page w new p is
for_goes who before after (Atomic client) w new p is = absurd is

for_begun : (queue : QueueName) (a b : Acting) → IsPending queue → Begins (checkpoint_of queue) a b (Ok Working) → IsFor queue b.work × IsAtRest b.work
for_begun (TreePu tree) a b pending (home, idle, has) =
    (subst (λ (x : Acting). IsFor (TreePu tree) x.work) (sym has.1) refl, rests_as b.work _ (ap (λ (x : Acting). x.work) has.1) (at_rest _ refl refl))
for_begun (PagePu tree page) a b pending (home, idle, has) =
    (subst (λ (x : Acting). IsFor (PagePu tree page) x.work) (sym has.1) (refl, refl), rests_as b.work _ (ap (λ (x : Acting). x.work) has.1) (at_rest _ refl refl))
for_begun (Atomic client) a b pending begins = absurd pending

for_went : (who : Caller) (queue : QueueName) (before : Seen) (old : World) (after : Seen) (new : World) → Went who before old after new → IsFor queue (work_at old who.session)
    → IsFor queue (work_at new who.session)
for_went who queue before old after new start is = is
for_went who queue before old after new (further mid _ world _ went step) is =
    subst (λ (a : Acting). IsFor queue a.work)
    (sym (changed_at who.session _ world.sessions new.sessions step.session who.session ∙ at_same who.session step.session.after (session_at world.sessions) who.session refl))
    (for_goes who step.under step.to queue step.session.before.work step.session.after.work step.session.does.work
    (subst (λ (a : Acting). IsFor queue a.work) (changed_was who.session _ world.sessions new.sessions step.session) (for_went who queue before old mid world went is)))

-- of a page's queue, a page that is absent or no leaf comes where no message was ever sent to it
abbrev OfQueue : QueueName → CloudState → Trouble → Type 0
OfQueue (PagePu tree page) u k = IsOfUnsent tree page u k
OfQueue queue u k = Unit {0}

may_pass : (queue : QueueName) (w : Work) (u : CloudState) (k : Trouble) → IsFor queue w → MayAnswer w k → IsOfNoCall (spent_for w) u k → OfQueue queue u k → (k ≡ trouble.Memory → ⊥)
    → MayPass queue u k
may_pass (TreePu tree) (Folding home m) u k is may none unsent other = subst (λ (j : ℕ). IsSpent (IsSpentInTree j) u k) is (tree_spent u m.tree k may none other)
may_pass (TreePu tree) w u k is may none unsent other = absurd is
may_pass (PagePu tree page) (Paging home p) u k is may none unsent other = (
  subst (λ (j : ℕ). IsSpentOrOf j page u k) is.0 (subst (λ (j : ℕ). IsSpentOrOf p.tree j u k) is.1 (page_spent u p.tree p.page k may none other)),
  unsent,
)
may_pass (PagePu tree page) w u k is may none unsent other = absurd is
may_pass (Atomic client) w u k is may none unsent other = absurd is

-- ---- each of them

module _ (n session : ℕ) (lines : List Line) (home : Home) (row : IsWorkersRow lines (worker session n)) (first : Sessions) where
  abbrev who : Caller
  who = worker session n

  -- one that a trouble stopped
  one_passed : (queue : QueueName) (before after : Seen) (old new : World) (k : Trouble) → IsPassable (answer.Trouble k) → IsBetween session home first old → HoldsWithin n lines old before
      → (c : Checkpoints who queue (span_of before after old new) (answer.Trouble k)) → EachCome StepIsCalm who (span_of before after c.begun new) (answer.Trouble k) c.comes
      → EachCome StepExplains who (span_of before after c.begun new) (answer.Trouble k) c.comes → PassesSo queue after (answer.Trouble k)
  one_passed queue before after old new k passes w h c calm explains =
      (u, p.look_after.stays u calm.1.calm.left, may_pass queue p.session.before.work u k is may (none.trouble k refl) (of_page queue (subst (λ (a : Acting). IsFor queue a.work) (sym begun_is) begun.0)) other)
    where
      p : StepsLooked who Plain (span_of c.comes.mid after c.comes.world new) (Ended (answer.Trouble k))
      p = c.comes.steps

      u : CloudState
      u = calm.1.calm.after

      held : HoldsWithin n lines c.begun before
      held = holds_begun n lines session queue before old c.begun h c.begins

      here : HoldsWithin n lines c.comes.world c.comes.mid
      here = holds_went n session lines home row first before c.begun c.comes.mid c.comes.world (within_begun session home first queue old c.begun w c.begins) held c.comes.went

      begun_is : session_at c.begun.sessions session ≡ c.begins.session.after
      begun_is =
          changed_at session _ old.sessions c.begun.sessions c.begins.session session ∙ at_same session c.begins.session.after (session_at old.sessions) session refl

      begun : IsFor queue c.begins.session.after.work × IsAtRest c.begins.session.after.work
      begun = for_begun queue c.begins.session.before c.begins.session.after c.begins.pending c.begins.session.does

      well : GoesWellAt session before c.begun
      well = (held.state, held.told, rested held.state (work_at c.begun session) (subst (λ (a : Acting). IsAtRest a.work) (sym begun_is) begun.1))

      goes : GoesWellAt session c.comes.mid c.comes.world
      goes = went_calmly who before c.begun c.comes.mid c.comes.world c.comes.went calm.0 explains.0 well

      none : IsOfNone (spent_for p.session.before.work) u p.session.after.work (answer.Trouble k)
      none = answers_calmly who Plain c.comes.mid after c.comes.world new (answer.Trouble k) p calm.1 explains.1 goes

      is : IsFor queue p.session.before.work
      is =
          subst (λ (a : Acting). IsFor queue a.work) (changed_was session _ c.comes.world.sessions new.sessions p.session)
          (for_went who queue before c.begun c.comes.mid c.comes.world c.comes.went (subst (λ (a : Acting). IsFor queue a.work) (sym begun_is) begun.0))

      wished : CloudHolds n lines (session_at c.comes.world.sessions) c.comes.world.audit c.comes.world.blind (record here.state { wish = Plain })
      wished = wish_holds n lines (session_at c.comes.world.sessions) c.comes.world.audit c.comes.world.blind here.state Plain here.holds

      was : session_at c.comes.world.sessions session ≡ p.session.before
      was = changed_was session _ c.comes.world.sessions new.sessions p.session

      may : MayAnswer p.session.before.work k
      may =
          subst (λ (a : Acting). MayAnswer a.work k) was
          (session_stops who p.under p.to (record here.state { wish = Plain }) u wished.book wished.order (session_at c.comes.world.sessions)
          (p.wishes.set here.state (p.look_before.stays here.state here.told)) calm.1.calm.left wished.stand p.session.after k
          (subst (λ (a : Acting). StepsSession who p.under p.to a p.session.after (Ok (Ended (answer.Trouble k)))) (sym was) p.session.does))

      other : k ≡ trouble.Memory → ⊥
      other e = subst (λ (t : Trouble). IsNoWant (answer.Trouble t)) e (passable (answer.Trouble k) passes)

      of_page : (q : QueueName) → IsFor q (work_at c.begun session) → OfQueue q u k
      of_page (PagePu tree page) at =
          answer_unsent n lines who Plain c.comes.mid after c.comes.world new here tree page (paging_went who tree page before c.begun c.comes.mid c.comes.world c.comes.went at)
          (went_unsent n lines who tree page before c.begun
          (λ mid world went. holds_went n session lines home row first before c.begun mid world (within_begun session home first queue old c.begun w c.begins) held went) at
          (rests_unsent tree page session before c.begun (subst (λ (a : Acting). IsAtRest a.work) (sym begun_is) begun.1)) c.comes.mid c.comes.world c.comes.went calm.0) k p calm.1 other
      of_page q at = tt

  one_so : (queue : QueueName) (before after : Seen) (old new : World) (a : Answer) → IsPassable a → IsBetween session home first old → HoldsWithin n lines old before
      → (c : Checkpoints who queue (span_of before after old new) a) → EachCome StepIsCalm who (span_of before after c.begun new) a c.comes → EachCome StepExplains who (span_of before after c.begun new) a c.comes
      → PassesSo queue after a
  one_so queue before after old new (answer.Trouble k) passes w h c calm explains = one_passed queue before after old new k passes w h c calm explains
  one_so queue before after old new a passes w h c calm explains = tt

  each_passed : (before : Seen) (old : World) (queues : List QueueName) (done passed : ℕ) (after : Seen) (new : World) → IsBetween session home first old → HoldsWithin n lines old before
      → (works : Works who before old (gone_through queues done passed) after new) → EachWork StepIsCalm works
      → EachWork StepExplains works → EachPassed works
  each_passed before old queues done passed after new w h no_checkpoint calm explains = tt
  each_passed before old queues done passed after new w h (checkpoint_more others kept left mid world queue a _ _ works makes passes) calm explains = (
    each_passed before old others kept left mid world w h works calm.0 explains.0,
    one_so queue mid after world new a passes (within_works who home first before old others kept left mid world w works)
        (holds_works n session lines home row first before old others kept left mid world w h works) makes calm.1 explains.1,
  )

-- ---- the line

module _ (lines : List Line) (n : ℕ) (before after : Seen) (old new : World) (result : Result Reply WorldFault) (t : CloudState) (number : length lines + 1 ≡ n) (told : before.state ≡ Some t)
    (stands : WorldStands lines old t) where
  through_passed : (k : ℕ) (h : WorksThrough (record { session = k; event = n }) (span_of before after old new) result) → EachThrough StepIsCalm (record { session = k; event = n }) (span_of before after old new) result h
      → EachThrough StepExplains (record { session = k; event = n }) (span_of before after old new) result h → ThroughPassed (record { session = k; event = n }) (span_of before after old new) result h
  through_passed k (inl refused) calm explains = tt
  through_passed k (inr (inl d)) calm explains =
      let rest = open_rests k old d.opened in
      let q : Reply = reply.Worked 0 0 in
      each_passed n k (lines ++ line_of (event.Work k) q ∷ []) rest.0 (worker_rows lines k n before old t (sym number) told stands.by_lines q) (session_at old.sessions) before old d.queues
      d.done d.passed after new rest.2 (worker_begins lines k n before old t (sym number) told stands.by_lines q tt) d.works calm explains
  through_passed k (inr (inr memory)) calm explains = tt

  done_passed : (k : ℕ) (request : Request) (h : Does (record { session = k; event = n }) request (span_of before after old new) result) → EachDone StepIsCalm (record { session = k; event = n }) request (span_of before after old new) result h
      → EachDone StepExplains (record { session = k; event = n }) request (span_of before after old new) result h → DonePassed (record { session = k; event = n }) request (span_of before after old new) result h
  done_passed k WorksDue h calm explains = through_passed k h calm explains
  done_passed k (Step wish) h calm explains = tt
  done_passed k Run h calm explains = tt
  done_passed k (Crash done) h calm explains = tt
  done_passed k (Policy role kept) h calm explains = tt
  done_passed k (Begin op) h calm explains = tt
  done_passed k (Note noting) h calm explains = tt
  done_passed k Abort h calm explains = tt

  served_passed : (k : ℕ) (request : Result Request Refused) (h : Serves (record { session = k; event = n }) request (span_of before after old new) result) → EachServed StepIsCalm (record { session = k; event = n }) request (span_of before after old new) result h
      → EachServed StepExplains (record { session = k; event = n }) request (span_of before after old new) result h → ServedPassed (record { session = k; event = n }) request (span_of before after old new) result h
  served_passed k (Ok request) h calm explains = done_passed k request h calm explains
  served_passed k (Err why) h calm explains = tt

  asked_passed : (asked : Asked) (h : Answers n asked (span_of before after old new) result) → EachAsked StepIsCalm n asked (span_of before after old new) result h
      → EachAsked StepExplains n asked (span_of before after old new) result h → AskedPassed n asked (span_of before after old new) result h
  asked_passed (Session k request) (inl served) calm explains = served_passed k request served.1 calm explains
  asked_passed (Session k request) (inr none) calm explains = tt
  asked_passed (Wait ticks) h calm explains = tt
  asked_passed (Report tree) h calm explains = tt
  asked_passed Settle h calm explains = tt
  asked_passed (Sweep tree) h calm explains = tt

pub passes_well : (n : ℕ) (event : Event) (before after : Seen) (old new : World) (result : Result Reply WorldFault) → PassesWell n event (span_of before after old new) result
passes_well n event before after old new result lines t number told stands handled calm =
    asked_passed lines n before after old new result t number told stands handled.asked handled.answers calm (explained n event before after old new result lines t number told stands handled)
