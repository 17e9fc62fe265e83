-- What a line leaves of what its world sees: no call fails a look, and a look at a put that failed blinds it.
use Rattle.std.proofs.Common.{◌≡◌, ◌≤◌, ◌⊎◌, ℕ, Bool, true, false, Result, Ok, Err, refl, sym, ap, subst, ◌∙◌, inl, inr, arith, List}
use Rattle.cloud_facts.specs.Words.{IsTree, QueueName, Turn, Caller, Seen}
use Rattle.cloud_trait.specs.State.{Counts}
use Rattle.cloud_trait.specs.Weather.{Rose}
use Rattle.client_work.specs.declared.answer.Answer.{Answer}
use Rattle.client_work.specs.Session.{Acting}
use Rattle.db_base.specs.declared.refusal.Refused.{Refused}
use Rattle.db_base.specs.declared.wish.Wish.{Wish}
use Rattle.event_text.specs.declared.event.Event.{Event}
use Rattle.event_text.specs.declared.event.Event.TheVariants as event
use Rattle.report_types.specs.declared.report.Report.{Report as ReportShown}
use Rattle.reply_text.specs.declared.reply.Reply.{Reply}
use Rattle.reply_text.specs.declared.reply.Reply.TheVariants as reply
use Rattle.session_facts.proofs.Lines.Outcome.{made_call}
use Rattle.ckpt_policy.specs.declared.role.Role.{Role}
use Rattle.world_core.specs.World.{World}
use Rattle.world_core.specs.declared.asked.Asked.{Asked}
use Rattle.world_core.specs.declared.asked.Asked.TheVariants.{Session, Wait, Report, Settle, Sweep}
use Rattle.world_core.specs.declared.asked.Request.{Request}
use Rattle.world_core.specs.declared.asked.Request.TheVariants.{Begin, Note, Abort, Policy, Work as WorksDue, Step, Run, Crash}
use Rattle.world_core.specs.declared.world.WorldFault.{WorldFault}
use Rattle.session_facts.specs.Lines.Errands.{Errand, settles, sweeps}
use Rattle.world_core.specs.Handled.{Declines, MakesNoCall, Has, StepsLooked, MakesStep, Went, start, further, ComesTo, Runs, SettlesOn, Crashes, Does, Reports, Answers, Handled, BeginsCheckpoint, Policies, Works, WorksThrough, checkpoint_more, no_checkpoint, gone_through}
use Rattle.world_core.specs.Sound.{IsSoundReport}
use Rattle.world_core.specs.Span.{span_of}
use Rattle.world_core.proofs.StandsLemmas.{no_memory}

-- no fewer looks have failed, and the world is blinded only where one did
pub record SeesOn (before after : Seen) (old new : World) : Type 0 where
  pub dark : before.counts.dark ≤ after.counts.dark
  pub blinded : new.blind ≡ true → (old.blind ≡ true) ⊎ Rose before.counts.dark after.counts.dark

sees_counts : (before after : Seen) (old new : World) → after.counts ≡ before.counts → new.blind ≡ old.blind → SeesOn before after old new
sees_counts before after old new same blind =
    let e = ap (λ (c : Counts). c.dark) same in
    record { dark = omega (arith, e); blinded = λ b. inl (sym blind ∙ b) }

sees_same : (before after : Seen) (old new : World) → after ≡ before → new.blind ≡ old.blind → SeesOn before after old new
sees_same before after old new same blind = sees_counts before after old new (ap (λ (z : Seen). z.counts) same) blind

-- one after the other
pub sees_further : (before mid after : Seen) (old world new : World) → SeesOn before mid old world → SeesOn mid after world new → SeesOn before after old new
sees_further before mid after old world new f g = record { dark = omega (arith, first, second); blinded = λ b. on (g.blinded b) }
  where
    first : before.counts.dark ≤ mid.counts.dark
    first = f.dark

    second : mid.counts.dark ≤ after.counts.dark
    second = g.dark

    earlier : (old.blind ≡ true) ⊎ Rose before.counts.dark mid.counts.dark → (old.blind ≡ true) ⊎ Rose before.counts.dark after.counts.dark
    earlier (inl e) = inl e
    earlier (inr rose) = inr (omega (arith, rose, second))

    on : (world.blind ≡ true) ⊎ Rose mid.counts.dark after.counts.dark → (old.blind ≡ true) ⊎ Rose before.counts.dark after.counts.dark
    on (inl e) = earlier (f.blinded e)
    on (inr rose) = inr (omega (arith, rose, first))

pub declines_sees : (why : Refused) (before after : Seen) (old new : World) (result : Result Reply WorldFault) → Declines why (span_of before after old new) result → SeesOn before after old new
declines_sees why before after old new result h = sees_same before after old new h.seen (ap (λ (w : World). w.blind) h.world)

quiet_sees : (before after : Seen) (old new : World) → MakesNoCall (span_of before after old new) → SeesOn before after old new
quiet_sees before after old new h = sees_same before after old new h.seen h.blind

has_sees : (seen : Seen) (number : ℕ) (session : Acting) (old new : World) → Has number session old new → SeesOn seen seen old new
has_sees seen number session old new h = sees_same seen seen old new refl h.blind

pub step_sees : (who : Caller) (wish : Wish) (before after : Seen) (old new : World) (turn : Turn Answer) → StepsLooked who wish (span_of before after old new) turn → SeesOn before after old new
step_sees who wish before after old new turn p = record { dark = omega (arith, first, still, called, last); blinded = λ b. on (p.blinded b) }
  where
    first : before.counts.dark ≤ p.from.counts.dark
    first = p.look_before.dark

    still : p.under.counts.dark ≡ p.from.counts.dark
    still = ap (λ (c : Counts). c.dark) p.wishes.no_call.counts

    called : p.to.counts.dark ≡ p.under.counts.dark
    called = (made_call who p.under p.to p.session.before.work p.session.after.work turn p.session.does.work).made.dark

    last : p.to.counts.dark ≤ after.counts.dark
    last = p.look_after.dark

    on : (old.blind ≡ true) ⊎ (Rose before.counts.dark p.from.counts.dark ⊎ Rose p.to.counts.dark after.counts.dark)
        → (old.blind ≡ true) ⊎ Rose before.counts.dark after.counts.dark
    on (inl e) = inl e
    on (inr (inl rose)) = inr (omega (arith, rose, still, called, last))
    on (inr (inr rose)) = inr (omega (arith, rose, first, still, called))

pub went_sees : (who : Caller) (before : Seen) (old : World) (after : Seen) (new : World) → Went who before old after new → SeesOn before after old new
went_sees who before old after new start = sees_same before before old old refl refl
went_sees who before old after new (further mid _ world _ went step) =
    sees_further before mid after old world new (went_sees who before old mid world went) (step_sees who _ mid after world new _ step)

comes_sees : (who : Caller) (before after : Seen) (old new : World) (answer : Answer) → ComesTo who (span_of before after old new) answer → SeesOn before after old new
comes_sees who before after old new answer c =
    sees_further before c.mid after old c.world new (went_sees who before old c.mid c.world c.went) (step_sees who _ c.mid after c.world new _ c.steps)

-- the begin of a checkpoint looks at nothing
begun_sees : (seen : Seen) (k : ℕ) (queue : QueueName) (old begun : World) → BeginsCheckpoint k queue old begun → SeesOn seen seen old begun
begun_sees seen k queue old begun b = sees_same seen seen old begun refl b.blind

works_sees : (who : Caller) (before : Seen) (old : World) (queues : List QueueName) (done passed : ℕ) (after : Seen) (new : World) → Works who before old (gone_through queues done passed) after new
    → SeesOn before after old new
works_sees who before old queues done passed after new no_checkpoint = sees_same before before old old refl refl
works_sees who before old queues done passed after new (checkpoint_more others kept left mid world queue a _ _ works makes passes) =
    sees_further before mid after old world new (works_sees who before old others kept left mid world works)
    (sees_further mid mid after world makes.begun new (begun_sees mid who.session queue world makes.begun makes.begins) (comes_sees who mid after makes.begun new a makes.comes))

module _ (n : ℕ) (before after : Seen) (old new : World) (r : Reply) where
  policy_sees : (k : ℕ) (role : Role) (number : ℕ) → Policies k role number (span_of before after old new) (Ok r) → SeesOn before after old new
  policy_sees k role number (inl refuses) = declines_sees _ before after old new (Ok r) refuses.declines
  policy_sees k role number (inr (inl refuses)) = declines_sees _ before after old new (Ok r) refuses.1.declines
  policy_sees k role number (inr (inr gives)) = quiet_sees before after old new gives.quiet

  through_sees : (k : ℕ) → WorksThrough (record { session = k; event = n }) (span_of before after old new) (Ok r) → SeesOn before after old new
  through_sees k (inl refuses) = declines_sees _ before after old new (Ok r) refuses.declines
  through_sees k (inr (inl down)) = works_sees _ before old down.queues down.done down.passed after new down.works
  through_sees k (inr (inr memory)) = absurd (no_memory r memory.0)

  made_sees : (k : ℕ) (wish : Wish) → MakesStep (record { session = k; event = n }) wish (span_of before after old new) (Ok r) → SeesOn before after old new
  made_sees k wish (inl refuses) = declines_sees _ before after old new (Ok r) refuses.declines
  made_sees k wish (inr (inl step)) = step_sees _ wish before after old new step.turn step.steps
  made_sees k wish (inr (inr memory)) = absurd (no_memory r memory.0)

  run_sees : (k : ℕ) → Runs (record { session = k; event = n }) (span_of before after old new) (Ok r) → SeesOn before after old new
  run_sees k (inl refuses) = declines_sees _ before after old new (Ok r) refuses.declines
  run_sees k (inr (inl run)) = comes_sees _ before after old new run.answer run.comes
  run_sees k (inr (inr memory)) = absurd (no_memory r memory.0)

  crash_sees : (k : ℕ) (done : Bool) → Crashes (record { session = k; event = n }) done (span_of before after old new) (Ok r) → SeesOn before after old new
  crash_sees k false h = quiet_sees before after old new h.quiet
  crash_sees k true (inl idle) = quiet_sees before after old new idle.dies.quiet
  crash_sees k true (inr (inl h)) =
      sees_further before after after old h.world new (step_sees _ _ before after old h.world h.turn h.steps) (has_sees after k _ h.world new h.closes)
  crash_sees k true (inr (inr memory)) = absurd (no_memory r memory.0)

  does_sees : (k : ℕ) (request : Request) → Does (record { session = k; event = n }) request (span_of before after old new) (Ok r) → SeesOn before after old new
  does_sees k (Begin op) h = quiet_sees before after old new h.0
  does_sees k (Note noting) h = quiet_sees before after old new h.0
  does_sees k Abort h = quiet_sees before after old new h.0
  does_sees k (Policy role number) h = policy_sees k role number h
  does_sees k WorksDue h = through_sees k h
  does_sees k (Step wish) h = made_sees k wish h
  does_sees k Run h = run_sees k h
  does_sees k (Crash done) h = crash_sees k done h

  errand_sees : (errand : Errand) (who : Caller) (begun : World) → SeesOn before before old begun → SettlesOn errand who (span_of before after begun new) (Ok r) → SeesOn before after old new
  errand_sees errand who begun begins (inl s) =
      sees_further before before after old begun new begins
      (sees_further before after after begun s.left new (comes_sees who before after begun s.left s.answer s.comes) (has_sees after who.session _ s.left new s.closes))
  errand_sees errand who begun begins (inr memory) = absurd (no_memory r memory.0)

  asked_sees : (asked : Asked) → Answers n asked (span_of before after old new) (Ok r) → SeesOn before after old new
  asked_sees (Session k (Ok request)) (inl h) = does_sees k request h.1
  asked_sees (Session k (Err why)) (inl h) = declines_sees why before after old new (Ok r) h.1
  asked_sees (Session k request) (inr none) = declines_sees _ before after old new (Ok r) none.declines
  asked_sees (Wait ticks) (inl h) = sees_counts before after old new h.0.no_call.counts (ap (λ (w : World). w.blind) h.1)
  asked_sees (Wait ticks) (inr long) = declines_sees _ before after old new (Ok r) long.declines
  asked_sees (Report tree) h = record { dark = h.looked.dark; blinded = λ b. inl (sym (ap (λ (w : World). w.blind) h.world) ∙ b) }
  asked_sees Settle (inl h) = errand_sees settles _ h.begun (has_sees before 0 _ old h.begun h.begins) h.settles
  asked_sees Settle (inr memory) = absurd (no_memory r memory.0)
  asked_sees (Sweep (Ok tree)) (right, inl h) = errand_sees (sweeps tree) _ h.begun (has_sees before 0 _ old h.begun h.begins) h.settles
  asked_sees (Sweep (Ok tree)) (right, inr memory) = absurd (no_memory r memory.0)
  asked_sees (Sweep (Err why)) h = declines_sees why before after old new (Ok r) h

-- a line that was handled sees on
pub handled_sees : (n : ℕ) (e : Event) (before after : Seen) (old new : World) (r : Reply) → Handled n e (span_of before after old new) (Ok r) → SeesOn before after old new
handled_sees n e before after old new r h = asked_sees n before after old new r h.asked h.answers

-- a report comes where the world saw and no look failed in it
pub report_comes : (n tree : ℕ) (before after : Seen) (old new : World) (r : Reply) → Handled n (event.Report tree) (span_of before after old new) (Ok r) → IsTree tree → IsSoundReport r
    → (old.blind ≡ true → ⊥) → after.counts.dark ≡ before.counts.dark → (shown : ReportShown) × (r ≡ reply.Report shown)
report_comes n tree before after old new r h is sound saw still = on r sound (subst (λ z. Answers n z (span_of before after old new) (Ok r)) h.asks h.answers)
  where
    on : (q : Reply) → IsSoundReport q → Reports tree (span_of before after old new) (Ok q) → (shown : ReportShown) × (q ≡ reply.Report shown)
    on (reply.Report shown) sound h = (shown, refl)
    on (reply.Trouble t) sound h = absurd (never (h.reply.2.failed sound))
      where
        never : (old.blind ≡ true) ⊎ Rose before.counts.dark after.counts.dark → ⊥
        never (inl blind) = saw blind
        never (inr rose) = omega (arith, rose, still)
    on (reply.Refused rule) sound h = absurd (h.reply.1 is)
    on q sound h = absurd h.reply
