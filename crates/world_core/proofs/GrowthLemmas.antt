-- What a line leaves of earlier ones, whatever its result.
use Rattle.std.proofs.Common.{◌≡◌, ℕ, List, Some, Ok, refl, ap, ◌∙◌}
use Rattle.cloud_facts.proofs.Calls.Rows.{same_traced}
use Rattle.db_base.specs.declared.wish.Wish.{Wish}
use Rattle.cloud_trait.specs.Bench.{Waits}
use Rattle.cloud_facts.specs.Words.{Answer as CallAnswer, Turn, CloudState, Caller, Seen, Ask}
use Rattle.cloud_trait.specs.Weather.{Makes}
use Rattle.cloud_trait.proofs.RowLemmas.{leaves_agree}
use Rattle.cloud_trait.proofs.TracedLemmas.{leaves_traced}
use Rattle.cloud_trait.proofs.UptoLemmas.{agree_itself, agree_trans}
use Rattle.client_work.specs.declared.answer.Answer.{Answer}
use Rattle.client_work.specs.declared.work.Work.{Work}
use Rattle.client_work.specs.Session.{Acting, StepsSession, StepsAt}
use Rattle.session_facts.proofs.Lines.Outcome.{made_call}
use Rattle.world_audit.specs.Look.{Looked}
use Rattle.world_core.specs.Sessions.{Changes}
use Rattle.world_core.specs.Handled.{SetsWish}
use Rattle.world_core.specs.Stands.{Grows}

-- a told state that stays as it is
pub grows_not : (n : ℕ) (before after : Seen) → ((x : CloudState) → before.state ≡ Some x → after.state ≡ Some x) → Grows n before after
grows_not n before after stays x told = (x, stays x told, λ k less. agree_itself k x x refl refl refl, λ h. h)

pub grows_same : (n : ℕ) (before after : Seen) → after ≡ before → Grows n before after
grows_same n before after same = grows_not n before after (λ x told. ap (λ (z : Seen). z.state) same ∙ told)

pub grows_looked : (n : ℕ) (before after : Seen) → Looked before after → Grows n before after
grows_looked n before after looked = grows_not n before after looked.stays

-- one after the other
pub grows_on : (n : ℕ) (before mid after : Seen) → Grows n before mid → Grows n mid after → Grows n before after
grows_on n before mid after f g x told =
    let p = f x told in
    let q = g p.0 p.1 in
    (q.0, q.1, λ k less. agree_trans k x p.0 q.0 (p.2 k less) (q.2 k less), λ h. q.3 (p.3 h))

-- a call at the line
pub grows_made : (who : Caller) (ask : Ask) (a : CallAnswer) (before after : Seen) → Makes who ask a before after → Grows who.event before after
grows_made who ask a before after made x told =
    let l = made.state x told in (
      l.after,
      l.told,
      λ k less. leaves_agree k who ask a before.counts after.counts x after.state l less,
      λ h. leaves_traced who ask a before.counts after.counts x after.state l h,
    )

grows_work : (who : Caller) (before after : Seen) (w new : Work) (turn : Turn Answer) → StepsAt who before after w new turn → Grows who.event before after
grows_work who before after w new turn p = let call = made_call who before after w new turn p in grows_made who call.ask call.answer before after call.made

-- a step of a session
pub grows_step : (who : Caller) (before after : Seen) (old new : Acting) (turn : Turn Answer) → StepsSession who before after old new (Ok turn) → Grows who.event before after
grows_step who before after old new turn p = grows_work who before after old.work new.work turn p.work

-- a wish that is set
pub grows_wish : (n : ℕ) (wish : Wish) (before after : Seen) → SetsWish wish before after → Grows n before after
grows_wish n wish before after sets x told = (
  record x { wish = wish },
  sets.set x told,
  λ k less. agree_itself k x (record x { wish = wish }) refl refl refl,
  λ h. same_traced x (record x { wish = wish }) refl refl refl h,
)

-- a wait
pub grows_wait : (n ticks : ℕ) (before after : Seen) → ((s : CloudState) → before.state ≡ Some s → Waits ticks s after.state) → Grows n before after
grows_wait n ticks before after waits x told =
    let w = waits x told in
    let versions = ap (λ (z : CloudState). z.versions) w.rest in
    let messages = ap (λ (z : CloudState). z.messages) w.rest in
    let trace = ap (λ (z : CloudState). z.trace) w.rest in
    (w.after, w.told, λ k less. agree_itself k x w.after versions messages trace, λ h. same_traced x w.after versions messages trace h)

-- a step between two looks
pub grows_between : (who : Caller) (wish : Wish) (before from under to after : Seen) (number : ℕ) (old new : List Acting) (turn : Turn Answer)
    → Looked before from → SetsWish wish from under → Changes number (λ a b. StepsSession who under to a b (Ok turn)) old new → Looked to after → Grows who.event before after
grows_between who wish before from under to after number old new turn first sets step last =
    grows_on who.event before from after (grows_looked who.event before from first)
    (grows_on who.event from under after (grows_wish who.event wish from under sets)
    (grows_on who.event under to after (grows_step who under to step.before step.after turn step.does) (grows_looked who.event to after last)))
