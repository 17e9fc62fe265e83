-- The count of what was withheld never falls, so where it did not rise over lines it rose in none of their steps.
use Rattle.std.proofs.Common.{◌≡◌, ◌≤◌, ℕ, Bool, true, false, List, Ok, Err, refl, ap, ◌∙◌, inl, inr, arith}
use Rattle.ckpt_policy.specs.declared.role.Role.{Role}
use Rattle.client_work.specs.declared.answer.Answer.{Answer}
use Rattle.cloud_facts.specs.Words.{QueueName, Turn, Caller, Seen}
use Rattle.cloud_trait.specs.State.{Counts}
use Rattle.db_base.specs.declared.refusal.Refused.{Refused}
use Rattle.db_base.specs.declared.wish.Wish.{Wish}
use Rattle.event_text.specs.declared.event.Event.{Event}
use Rattle.event_text.specs.declared.event.Event.TheVariants as event
use Rattle.reply_text.specs.declared.reply.Reply.{Reply}
use Rattle.session_facts.proofs.Lines.Outcome.{made_call}
use Rattle.session_facts.specs.Lines.Errands.{Errand, settles, sweeps}
use Rattle.world_core.proofs.StandsLemmas.{no_memory}
use Rattle.world_core.specs.Asked.{Asks}
use Rattle.world_core.specs.EachStep.{EachWent, EachCome, EachSettlingOn, EachSettling, EachAsked, EachStep}
use Rattle.world_core.specs.Handled.{Declines, StepsLooked, MakesStep, Went, start, further, ComesTo, Runs, Settles, SettlesOn, Crashes, Does, Answers, Handled, Policies, Works, WorksThrough, checkpoint_more, no_checkpoint, gone_through}
use Rattle.world_core.specs.Settled.{StepDelivers}
use Rattle.world_core.specs.World.{World}
use Rattle.world_core.specs.declared.asked.Asked.{Asked}
use Rattle.world_core.specs.declared.asked.Asked.TheVariants.{Session, Wait, Report, Settle, Sweep}
use Rattle.world_core.specs.declared.asked.Request.{Request}
use Rattle.world_core.specs.declared.asked.Request.TheVariants.{Begin, Note, Abort, Policy, Work as WorksDue, Step, Run, Crash}
use Rattle.world_core.specs.Span.{span_of}

-- no fewer messages and locks were withheld
abbrev pub Withholds : Seen → Seen → Type 0
Withholds before after = before.counts.withheld ≤ after.counts.withheld

withholds_same : (before after : Seen) → after ≡ before → Withholds before after
withholds_same before after same = let e = ap (λ (s : Seen). s.counts.withheld) same in omega (arith, e)

pub withholds_on : (before mid after : Seen) → Withholds before mid → Withholds mid after → Withholds before after
withholds_on before mid after f g = omega (arith, f, g)

-- ---- one step

-- what was withheld around the call of a step
record StepWithholds (before under to after : Seen) : Type 0 where
  first : under.counts.withheld ≡ before.counts.withheld
  called : under.counts.withheld ≤ to.counts.withheld
  last : after.counts.withheld ≡ to.counts.withheld

step_withholds : (who : Caller) (wish : Wish) (before after : Seen) (old new : World) (turn : Turn Answer) → (p : StepsLooked who wish (span_of before after old new) turn)
    → StepWithholds before p.under p.to after
step_withholds who wish before after old new turn p = record {
  first = ap (λ (c : Counts). c.withheld) p.wishes.no_call.counts ∙ p.look_before.withheld;
  called = (made_call who p.under p.to p.session.before.work p.session.after.work turn p.session.does.work).made.counts.withheld;
  last = p.look_after.withheld;
}

stepped : (who : Caller) (wish : Wish) (before after : Seen) (old new : World) (turn : Turn Answer) → StepsLooked who wish (span_of before after old new) turn → Withholds before after
stepped who wish before after old new turn p =
    let s = step_withholds who wish before after old new turn p in
    let a = s.first in let b = s.called in let c = s.last in
    omega (arith, a, b, c)

delivers : (who : Caller) (wish : Wish) (before after : Seen) (old new : World) (turn : Turn Answer) → (p : StepsLooked who wish (span_of before after old new) turn)
    → after.counts.withheld ≤ before.counts.withheld → StepDelivers who wish (span_of before after old new) turn p
delivers who wish before after old new turn p still =
    let s = step_withholds who wish before after old new turn p in
    let a = s.first in let b = s.called in let c = s.last in
    omega (arith, a, b, c, still)

-- ---- steps

went : (who : Caller) (before : Seen) (old : World) (after : Seen) (new : World) → Went who before old after new → Withholds before after
went who before old after new start = withholds_same before before refl
went who before old after new (further mid _ world _ w step) = withholds_on before mid after (went who before old mid world w) (stepped who _ mid after world new _ step)

went_delivers : (who : Caller) (before : Seen) (old : World) (after : Seen) (new : World) → (w : Went who before old after new) → after.counts.withheld ≤ before.counts.withheld
    → EachWent StepDelivers w
went_delivers who before old after new start still = tt
went_delivers who before old after new (further mid _ world _ w step) still =
    let first = went who before old mid world w in
    let second = stepped who _ mid after world new _ step in (
      went_delivers who before old mid world w (omega (arith, second, still)),
      delivers who _ mid after world new _ step (omega (arith, first, still)),
    )

comes : (who : Caller) (before after : Seen) (old new : World) (answer : Answer) → ComesTo who (span_of before after old new) answer → Withholds before after
comes who before after old new answer c =
    withholds_on before c.mid after (went who before old c.mid c.world c.went) (stepped who _ c.mid after c.world new _ c.steps)

comes_delivers : (who : Caller) (before after : Seen) (old new : World) (answer : Answer) → (c : ComesTo who (span_of before after old new) answer) → after.counts.withheld ≤ before.counts.withheld
    → EachCome StepDelivers who (span_of before after old new) answer c
comes_delivers who before after old new answer c still =
    let first = went who before old c.mid c.world c.went in
    let second = stepped who _ c.mid after c.world new _ c.steps in (
      went_delivers who before old c.mid c.world c.went (omega (arith, second, still)),
      delivers who _ c.mid after c.world new _ c.steps (omega (arith, first, still)),
    )

works : (who : Caller) (before : Seen) (old : World) (queues : List QueueName) (done passed : ℕ) (after : Seen) (new : World) → Works who before old (gone_through queues done passed) after new
    → Withholds before after
works who before old queues done passed after new no_checkpoint = withholds_same before before refl
works who before old queues done passed after new (checkpoint_more others kept left mid world queue a _ _ w makes passes) =
    withholds_on before mid after (works who before old others kept left mid world w) (comes who mid after makes.begun new a makes.comes)

-- ---- a line

module _ (n : ℕ) (before after : Seen) (old new : World) (r : Reply) where
  declines : (why : Refused) → Declines why (span_of before after old new) (Ok r) → Withholds before after
  declines why h = withholds_same before after h.seen

  policy : (k : ℕ) (role : Role) (number : ℕ) → Policies k role number (span_of before after old new) (Ok r) → Withholds before after
  policy k role number (inl refuses) = declines _ refuses.declines
  policy k role number (inr (inl refuses)) = declines _ refuses.1.declines
  policy k role number (inr (inr gives)) = withholds_same before after gives.quiet.seen

  through : (k : ℕ) → WorksThrough (record { session = k; event = n }) (span_of before after old new) (Ok r) → Withholds before after
  through k (inl refuses) = declines _ refuses.declines
  through k (inr (inl down)) = works _ before old down.queues down.done down.passed after new down.works
  through k (inr (inr memory)) = absurd (no_memory r memory.0)

  made : (k : ℕ) (wish : Wish) → MakesStep (record { session = k; event = n }) wish (span_of before after old new) (Ok r) → Withholds before after
  made k wish (inl refuses) = declines _ refuses.declines
  made k wish (inr (inl step)) = stepped _ wish before after old new step.turn step.steps
  made k wish (inr (inr memory)) = absurd (no_memory r memory.0)

  run : (k : ℕ) → Runs (record { session = k; event = n }) (span_of before after old new) (Ok r) → Withholds before after
  run k (inl refuses) = declines _ refuses.declines
  run k (inr (inl ran)) = comes _ before after old new ran.answer ran.comes
  run k (inr (inr memory)) = absurd (no_memory r memory.0)

  crash : (k : ℕ) (done : Bool) → Crashes (record { session = k; event = n }) done (span_of before after old new) (Ok r) → Withholds before after
  crash k false h = withholds_same before after h.quiet.seen
  crash k true (inl idle) = withholds_same before after idle.dies.quiet.seen
  crash k true (inr (inl h)) = stepped _ _ before after old h.world h.turn h.steps
  crash k true (inr (inr memory)) = absurd (no_memory r memory.0)

  does : (k : ℕ) (request : Request) → Does (record { session = k; event = n }) request (span_of before after old new) (Ok r) → Withholds before after
  does k (Begin op) h = withholds_same before after h.0.seen
  does k (Note noting) h = withholds_same before after h.0.seen
  does k Abort h = withholds_same before after h.0.seen
  does k (Policy role number) h = policy k role number h
  does k WorksDue h = through k h
  does k (Step wish) h = made k wish h
  does k Run h = run k h
  does k (Crash done) h = crash k done h

  settling : (errand : Errand) (who : Caller) (begun : World) → SettlesOn errand who (span_of before after begun new) (Ok r) → Withholds before after
  settling errand who begun (inl s) = comes who before after begun s.left s.answer s.comes
  settling errand who begun (inr memory) = absurd (no_memory r memory.0)

  asked : (a : Asked) → Answers n a (span_of before after old new) (Ok r) → Withholds before after
  asked (Session k (Ok request)) (inl h) = does k request h.1
  asked (Session k (Err why)) (inl h) = declines why h.1
  asked (Session k request) (inr none) = declines _ none.declines
  asked (Wait ticks) (inl h) = let e = ap (λ (c : Counts). c.withheld) h.0.no_call.counts in omega (arith, e)
  asked (Wait ticks) (inr long) = declines _ long.declines
  asked (Report tree) h = let e = h.looked.withheld in omega (arith, e)
  asked Settle (inl h) = settling settles _ h.begun h.settles
  asked Settle (inr memory) = absurd (no_memory r memory.0)
  asked (Sweep (Ok tree)) (is, inl h) = settling (sweeps tree) _ h.begun h.settles
  asked (Sweep (Ok tree)) (is, inr memory) = absurd (no_memory r memory.0)
  asked (Sweep (Err why)) h = declines why h

  -- a settling in which the count did not rise delivered in each step
  settling_delivers : (begun : World) → (s : SettlesOn settles (record { session = 0; event = n }) (span_of before after begun new) (Ok r)) → after.counts.withheld ≤ before.counts.withheld
      → EachSettlingOn StepDelivers settles (record { session = 0; event = n }) (span_of before after begun new) (Ok r) s
  settling_delivers begun (inl s) still = comes_delivers _ before after begun s.left s.answer s.comes still
  settling_delivers begun (inr memory) still = tt

  settles_deliver : (s : Settles settles n (span_of before after old new) (Ok r)) → after.counts.withheld ≤ before.counts.withheld → EachSettling StepDelivers settles n (span_of before after old new) (Ok r) s
  settles_deliver (inl h) still = settling_delivers h.begun h.settles still
  settles_deliver (inr memory) still = tt

  asked_delivers : (a : Asked) → Asks event.Settle a → (h : Answers n a (span_of before after old new) (Ok r)) → after.counts.withheld ≤ before.counts.withheld
      → EachAsked StepDelivers n a (span_of before after old new) (Ok r) h
  asked_delivers Settle asks h still = settles_deliver h still
  asked_delivers (Session k request) asks h still = absurd (cc)
  asked_delivers (Wait ticks) asks h still = absurd (cc)
  asked_delivers (Report tree) asks h still = absurd (cc)
  asked_delivers (Sweep tree) asks h still = absurd (cc)

-- the count does not fall in a line that was handled
pub handled_withholds : (n : ℕ) (e : Event) (before after : Seen) (old new : World) (r : Reply) → Handled n e (span_of before after old new) (Ok r) → Withholds before after
handled_withholds n e before after old new r h = asked n before after old new r h.asked h.answers

pub settle_delivers : (n : ℕ) (before after : Seen) (old new : World) (r : Reply) → (h : Handled n event.Settle (span_of before after old new) (Ok r)) → after.counts.withheld ≤ before.counts.withheld
    → EachStep StepDelivers n event.Settle (span_of before after old new) (Ok r) h
settle_delivers n before after old new r h still = asked_delivers n before after old new r h.asked h.asks h.answers still
