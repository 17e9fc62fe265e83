-- Session 0 on an errand has a call in hand, and its answer is that of the errand.
use Rattle.std.proofs.Common.{◌≡◌, ◌<◌, ℕ, List, map, length, Some, refl, sym, subst, ◌∙◌, get_or}
use Rattle.std.specs.Prelude.{slice_get, slice_set}
use Rattle.std.proofs.lemmas.List.{length-map, map-set}
use Rattle.std.proofs.lemmas.Option.{slice_get-get_or}
use Rattle.cloud_facts.specs.Words.{Ended, Caller, Seen}
use Rattle.client_work.specs.declared.answer.Answer.{Answer}
use Rattle.client_work.specs.declared.answer.Answer.TheVariants as answer
use Rattle.client_work.specs.declared.work.Work.{Work}
use Rattle.client_work.specs.declared.work.Work.TheVariants.{Settling, Sweeping}
use Rattle.client_work.specs.Session.{Acting, StepsAt, closed_session}
use Rattle.orphan_sweep.specs.Sweeping.{new_sweeping, sweep_ask}
use Rattle.session_facts.proofs.Rows.CallKinds.{errand_goes}
use Rattle.session_facts.specs.Lines.Errands.{Errand, settles, sweeps, session_for, WorksOn}
use Rattle.settle_run.specs.Settling.{new_settling, settle_ask}
use Rattle.world_core.specs.World.{World, all_sessions}
use Rattle.world_core.specs.Replying.{IsOfErrand}
use Rattle.world_core.specs.Sessions.{Changes, IsAtWork}
use Rattle.world_core.specs.Handled.{Went, start, further, ComesTo}
use Rattle.world_core.specs.Span.{span_of}
use Rattle.world_core.proofs.Errands.{works_first}
use Rattle.world_core.proofs.Going.{same_session, after_there}

-- one of all sessions is this one then
abbrev Becomes : Acting → Acting → Acting → Type 0
Becomes first before after = after ≡ first

becomes_at : (first : Acting) (number place : ℕ) (sessions items : List Acting) (a : Acting) → items ≡ sessions → length items ≡ all_sessions → place ≡ number → place < all_sessions → a ≡ first
    → Changes number (λ x b. b ≡ first) sessions (slice_set items place a)
becomes_at first number place sessions items a same long is within becomes =
    subst (λ l. Changes number (Becomes first) l (slice_set items place a)) same (subst (λ n. Changes n (Becomes first) items (slice_set items place a)) is (record {
      before = get_or items place closed_session;
      after = a;
      there = slice_get-get_or items place closed_session (subst (λ n. place < n) (sym long) within);
      does = becomes;
      rest = refl;
    }))

-- by how the sessions stand
pub becomes_in : {X : Type 0} (acting : X → Acting) (first : Acting) (number place : ℕ) (sessions : List Acting) (items : List X) (a : X) → map acting items ≡ sessions → length items ≡ all_sessions
    → place ≡ number → place < all_sessions → acting a ≡ first → Changes number (λ x b. b ≡ first) sessions (map acting (slice_set items place a))
becomes_in acting first number place sessions items a same long is within becomes =
    subst (λ l. Changes number (Becomes first) sessions l)
    (sym (map-set acting items place a)) (becomes_at first number place sessions (map acting items) (acting a) same (length-map items acting ∙ long) is within becomes)

pub errand_works : (errand : Errand) (number : ℕ) (sessions : List Acting) → slice_get sessions number ≡ Some (session_for errand) → IsAtWork number sessions
errand_works settles number sessions there = record { session = session_for settles; there = there; ask = settle_ask new_settling; hand = refl }
errand_works (sweeps tree) number sessions there = record { session = session_for (sweeps tree); there = there; ask = sweep_ask (new_sweeping tree); hand = refl }

-- one that is answered ends as the errand does
ends_errand : (errand : Errand) (who : Caller) (before after : Seen) (w new : Work) (a : Answer) → StepsAt who before after w new (Ended a) → WorksOn errand w → IsOfErrand errand a
ends_errand settles who before after (Settling m) new (answer.Settled x) p works = tt
ends_errand settles who before after (Settling m) new (answer.Trouble t) p works = tt
ends_errand settles who before after (Settling m) new a p works = absurd p.1
ends_errand (sweeps tree) who before after (Sweeping m) new (answer.Swept x) p works = tt
ends_errand (sweeps tree) who before after (Sweeping m) new (answer.Trouble t) p works = tt
ends_errand (sweeps tree) who before after (Sweeping m) new a p works = absurd p
ends_errand errand who before after w new a p works = absurd works

-- the session of a number goes on it
record GoesAt (errand : Errand) (number : ℕ) (sessions : List Acting) : Type 0 where
  session : Acting
  there : slice_get sessions number ≡ Some session
  works : WorksOn errand session.work

module _ (errand : Errand) where
  -- that which stood before a step
  goes_before : (number : ℕ) (sessions : List Acting) (a : Acting) → GoesAt errand number sessions → slice_get sessions number ≡ Some a → WorksOn errand a.work
  goes_before number sessions a s there = subst (λ (z : Acting). WorksOn errand z.work) (same_session sessions number s.session a s.there there) s.works

  went_goes : (who : Caller) (before : Seen) (old : World) (after : Seen) (new : World) → Went who before old after new → GoesAt errand who.session old.sessions
      → GoesAt errand who.session new.sessions
  went_goes who before old after new start s = s
  went_goes who before old after new (further mid _ world _ went step) s =
      let c = step.session in
      let had = goes_before who.session world.sessions c.before (went_goes who before old mid world went s) c.there in
      record {
        session = c.after;
        there = after_there who.session _ world.sessions new.sessions c;
        works = errand_goes errand who step.under step.to c.before.work c.after.work c.does.work had;
      }

  pub answers_errand : (who : Caller) (before after : Seen) (old new : World) (a : Answer) → slice_get old.sessions who.session ≡ Some (session_for errand)
      → ComesTo who (span_of before after old new) a → IsOfErrand errand a
  answers_errand who before after old new a there comes =
      let c = comes.steps.session in
      let s = went_goes who before old comes.mid comes.world comes.went (record { session = session_for errand; there = there; works = works_first errand }) in
      ends_errand errand who comes.steps.under comes.steps.to c.before.work c.after.work a c.does.work (goes_before who.session comes.world.sessions c.before s c.there)
