-- The steps of the checkpoint of a page: where its page is found absent, or no leaf, no message was ever sent to its queue.
use Rattle.std.proofs.Common.{◌≡◌, ℕ, List, Option, Some, None, refl, sym, ap, subst, ◌∙◌}
use Rattle.client_work.specs.Session.{Acting, StepsAt}
use Rattle.client_work.specs.declared.answer.Answer.{Answer}
use Rattle.client_work.specs.declared.answer.Answer.TheVariants as answer
use Rattle.client_work.specs.declared.work.Work.{Work}
use Rattle.client_work.specs.declared.work.Work.TheVariants as work
use Rattle.cloud_facts.proofs.Book.Names.{at_same}
use Rattle.cloud_facts.specs.Words.{Trouble, Entry, Turn, More, Ended, CloudState, Caller, Seen, Goes, Stops, Book, store_of, StandsUnder}
use Rattle.cloud_facts.specs.Homes.Homes.{Part}
use Rattle.db_base.specs.declared.trouble.Trouble.TheVariants as trouble
use Rattle.db_base.specs.declared.wish.Wish.{Wish}
use Rattle.db_base.specs.declared.wish.Wish.TheVariants.{Plain}
use Rattle.page_cache.specs.Cache.{Cache}
use Rattle.page_ckpt.specs.Paging.{Paging}
use Rattle.replay_meaning.specs.Standing.{Line}
use Rattle.session_facts.proofs.Machines.PageCheckpoints.Stays.{same_page}
use Rattle.session_facts.proofs.Sessions.Untroubled.{IsAtRest}
use Rattle.session_facts.proofs.Lines.Outcome.{wish_holds}
use Rattle.session_facts.specs.Lines.Facts.{session_at, CloudHolds}
use Rattle.session_facts.specs.Sessions.Explains.{trouble_in}
use Rattle.session_facts.specs.Sessions.Knows.{KnowsWork}
use Rattle.world_core.proofs.StandsLemmas.{changed_at, changed_was}
use Rattle.world_core.proofs.UnsentPages.{met_unsent, same_unsent}
use Rattle.world_core.proofs.Workers.{HoldsWithin}
use Rattle.world_core.specs.Calm.{StepIsCalm, work_at}
use Rattle.world_core.specs.EachStep.{EachWent}
use Rattle.world_core.specs.Handled.{StepsLooked, Went, start, further}
use Rattle.world_core.specs.UnsentPages.{IsOfUnsent, KeepsUnsent}
use Rattle.world_core.specs.World.{World}
use Rattle.world_core.specs.Span.{span_of}

-- ---- what is at work

-- it is the checkpoint of this page
abbrev pub IsPagingOf : ℕ → ℕ → Work → Type 0
IsPagingOf tree page (work.Paging home p) = (p.tree ≡ tree) × (p.page ≡ page)
IsPagingOf tree page w = ⊥

pub paging_goes : (who : Caller) (before after : Seen) (tree page : ℕ) (w new : Work) → StepsAt who before after w new More → IsPagingOf tree page w → IsPagingOf tree page new
paging_goes who before after tree page (work.Paging home m) new p is =
    let same = same_page m p.0 p.1.answer p.1.took in
    subst (IsPagingOf tree page) (sym p.2) (same.0 ∙ is.0, same.1 ∙ is.1)
paging_goes who before after tree page w new p is = absurd is

-- which answers it has
abbrev pub IsPageAnswer : Answer → Type 0
IsPageAnswer (answer.Done n) = Unit {0}
IsPageAnswer (answer.Trouble k) = Unit {0}
IsPageAnswer a = ⊥

pub page_answers : (who : Caller) (before after : Seen) (tree page : ℕ) (w new : Work) (a : Answer) → StepsAt who before after w new (Ended a) → IsPagingOf tree page w → IsPageAnswer a
page_answers who before after tree page (work.Paging home m) new (answer.Done n) p is = tt
page_answers who before after tree page (work.Paging home m) new (answer.Trouble k) p is = tt
page_answers who before after tree page (work.Paging home m) new a p is = absurd p
page_answers who before after tree page w new a p is = absurd is

module _ (who : Caller) (before after : Seen) (book : Book) (order : List Entry) (s t : CloudState) (told : before.state ≡ Some s) (told_after : after.state ≡ Some t)
    (stands : StandsUnder book order s) (tree page : ℕ) where
  named_so : (p : Paging) → (p.tree ≡ tree) × (p.page ≡ page) → (u : CloudState) (k : Trouble) → IsOfUnsent p.tree p.page u k → IsOfUnsent tree page u k
  named_so p is u k own = subst (λ (j : ℕ). IsOfUnsent j page u k) is.0 (subst (λ (j : ℕ). IsOfUnsent p.tree j u k) is.1 own)

  its_own : (p : Paging) → (p.tree ≡ tree) × (p.page ≡ page) → (u : CloudState) (k : Trouble) → IsOfUnsent tree page u k → IsOfUnsent p.tree p.page u k
  its_own p is u k so = subst (λ (j : ℕ). IsOfUnsent j p.page u k) (sym is.0) (subst (λ (j : ℕ). IsOfUnsent tree j u k) (sym is.1) so)

  more_unsent : (c : Cache) (part : Part) (w new : Work) → KnowsWork (store_of book order s) s.now c w part → IsPagingOf tree page w → StepsAt who before after w new More
      → KeepsUnsent tree page s w → KeepsUnsent tree page t new
  more_unsent c part (work.Paging home p) new knows is (n, steps, same, less) kept = λ k met.
      named_so p is t k
      (met_unsent who before after book order s t told told_after stands p knows.1 steps.answer steps.made (λ j was. its_own p is s j (kept j was)) (Goes n) steps.took k
      (ap trouble_in (sym same) ∙ met))
  more_unsent c part w new knows is steps kept = absurd is

  trouble_unsent : (c : Cache) (part : Part) (w new : Work) (k : Trouble) → KnowsWork (store_of book order s) s.now c w part → IsPagingOf tree page w
      → StepsAt who before after w new (Ended (answer.Trouble k)) → (k ≡ trouble.Memory → ⊥) → KeepsUnsent tree page s w → IsOfUnsent tree page t k
  trouble_unsent c part (work.Paging home p) new k knows is (n, steps, same) other kept =
      named_so p is t k
      (met_unsent who before after book order s t told told_after stands p knows.1 steps.answer steps.made (λ j was. its_own p is s j (kept j was)) (Stops n k) (steps.took.0 other) k refl)
  trouble_unsent c part w new k knows is steps other kept = absurd is

-- ---- a step of a world

-- what a session of a world waits to answer is so, whatever cloud is told
abbrev pub UnsentAt : ℕ → ℕ → ℕ → Seen → World → Type 0
UnsentAt tree page session seen world = (x : CloudState) → seen.state ≡ Some x → KeepsUnsent tree page x (work_at world session)

never_kept : (o : Option Trouble) (k : Trouble) → o ≡ None → o ≡ Some k → ⊥
never_kept o k none some = cc

-- what is at rest waits to answer nothing
pub rests_unsent : (tree page session : ℕ) (seen : Seen) (world : World) → IsAtRest (work_at world session) → UnsentAt tree page session seen world
rests_unsent tree page session seen world rest x told k met = absurd (never_kept (trouble_in (work_at world session)) k rest.none met)

one_state : (x y : CloudState) → Some x ≡ Some y → x ≡ y
one_state x y e = cc

module _ (n : ℕ) (lines : List Line) (who : Caller) (wish : Wish) (before after : Seen) (old new : World) (h : HoldsWithin n lines old before) (tree page : ℕ)
    (at : IsPagingOf tree page (work_at old who.session)) (kept : UnsentAt tree page who.session before old) where
  abbrev wished : CloudState
  wished = record h.state { wish = wish }

  holds : CloudHolds n lines (session_at old.sessions) old.audit old.blind wished
  holds = wish_holds n lines (session_at old.sessions) old.audit old.blind h.state wish h.holds

  kept_wished : KeepsUnsent tree page wished (work_at old who.session)
  kept_wished = λ k met. same_unsent tree page h.state wished refl k (kept h.state h.told k met)

  module _ (turn : Turn Answer) (p : StepsLooked who wish (span_of before after old new) turn) where
    told_under : p.under.state ≡ Some wished
    told_under = p.wishes.set h.state (p.look_before.stays h.state h.told)

    step_at : StepsAt who p.under p.to (work_at old who.session) p.session.after.work turn
    step_at =
        subst (λ (a : Acting). StepsAt who p.under p.to a.work p.session.after.work turn) (sym (changed_was who.session _ old.sessions new.sessions p.session)) p.session.does.work

    session_is : session_at new.sessions who.session ≡ p.session.after
    session_is =
        changed_at who.session _ old.sessions new.sessions p.session who.session ∙ at_same who.session p.session.after (session_at old.sessions) who.session refl

  pub step_unsent : (p : StepsLooked who wish (span_of before after old new) More) → StepIsCalm who wish (span_of before after old new) More p → UnsentAt tree page who.session after new
  step_unsent p calm x told_x =
      subst (λ (y : CloudState). KeepsUnsent tree page y (work_at new who.session)) (one_state u x (sym (p.look_after.stays u calm.calm.left) ∙ told_x))
      (subst (λ (a : Acting). KeepsUnsent tree page u a.work) (sym (session_is More p))
      (more_unsent who p.under p.to holds.book holds.order wished u (told_under More p) calm.calm.left holds.stand.cloud tree page (session_at old.sessions who.session).cache
      (holds.stand.parts who.session) (work_at old who.session) p.session.after.work (holds.stand.each who.session).work at (step_at More p) kept_wished))
    where
      u : CloudState
      u = calm.calm.after

  pub answer_unsent : (k : Trouble) (p : StepsLooked who wish (span_of before after old new) (Ended (answer.Trouble k))) (calm : StepIsCalm who wish (span_of before after old new) (Ended (answer.Trouble k)) p)
      → (k ≡ trouble.Memory → ⊥) → IsOfUnsent tree page calm.calm.after k
  answer_unsent k p calm other =
      trouble_unsent who p.under p.to holds.book holds.order wished calm.calm.after (told_under (Ended (answer.Trouble k)) p) calm.calm.left holds.stand.cloud tree page
      (session_at old.sessions who.session).cache (holds.stand.parts who.session) (work_at old who.session) p.session.after.work k (holds.stand.each who.session).work at
      (step_at (Ended (answer.Trouble k)) p) other kept_wished

  pub answers_page : (a : Answer) → StepsLooked who wish (span_of before after old new) (Ended a) → IsPageAnswer a
  answers_page a p = page_answers who p.under p.to tree page (work_at old who.session) p.session.after.work a (step_at (Ended a) p) at

-- ---- steps behind one another

-- the checkpoint goes on
pub paging_went : (who : Caller) (tree page : ℕ) (before : Seen) (old : World) (after : Seen) (new : World) → Went who before old after new → IsPagingOf tree page (work_at old who.session)
    → IsPagingOf tree page (work_at new who.session)
paging_went who tree page before old after new start is = is
paging_went who tree page before old after new (further mid _ world _ went step) is =
    subst (λ (a : Acting). IsPagingOf tree page a.work)
    (sym (changed_at who.session _ world.sessions new.sessions step.session who.session ∙ at_same who.session step.session.after (session_at world.sessions) who.session refl))
    (paging_goes who step.under step.to tree page step.session.before.work step.session.after.work step.session.does.work
    (subst (λ (a : Acting). IsPagingOf tree page a.work) (changed_was who.session _ world.sessions new.sessions step.session)
    (paging_went who tree page before old mid world went is)))

-- and so does what it waits to answer
pub went_unsent : (n : ℕ) (lines : List Line) (who : Caller) (tree page : ℕ) (before : Seen) (old : World)
    → ((mid : Seen) (world : World) → Went who before old mid world → HoldsWithin n lines world mid) → IsPagingOf tree page (work_at old who.session) → UnsentAt tree page who.session before old
    → (after : Seen) (new : World) (went : Went who before old after new) → EachWent StepIsCalm went → UnsentAt tree page who.session after new
went_unsent n lines who tree page before old each at kept after new start calm = kept
went_unsent n lines who tree page before old each at kept after new (further mid _ world _ went step) calm =
    step_unsent n lines who Plain mid after world new (each mid world went) tree page (paging_went who tree page before old mid world went at)
    (went_unsent n lines who tree page before old each at kept mid world went calm.0) step calm.1
