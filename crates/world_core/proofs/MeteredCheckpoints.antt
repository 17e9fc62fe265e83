-- A checkpoint that a line makes whole keeps what the notes of its session meter, where each of its calls went through: it empties its queue.
use Rattle.std.proofs.Common.{◌≡◌, ◌≢◌, ◌≤◌, ℕ, List, [], ◌∷◌, ◌++◌, length, Option, Some, refl, sym, ap, subst, ◌∙◌, arith}
use Rattle.std.specs.Prelude.{slice_get}
use Rattle.ckpt_policy.specs.declared.note.Note.{Note}
use Rattle.ckpt_policy.specs.declared.note.Note.TheVariants.{Kept}
use Rattle.ckpt_policy.specs.declared.place.Place.{Place}
use Rattle.ckpt_policy.specs.Notes.{queue_at}
use Rattle.client_work.specs.Causes.{CausesAt}
use Rattle.client_work.specs.declared.answer.Answer.{Answer as Told}
use Rattle.client_work.specs.declared.answer.Answer.TheVariants as told
use Rattle.client_work.specs.declared.work.Work.{Work}
use Rattle.client_work.specs.declared.work.Work.TheVariants.{Folding, Paging}
use Rattle.client_work.specs.Session.{Acting, ask_of_work}
use Rattle.cloud_trait.proofs.RowLemmas.{row_rest}
use Rattle.cloud_facts.specs.Words.{QueueName, Answer, Turn, More, Ended, CloudState, called, Caller, Seen, Ask, Next, Goes, Ends, Deed}
use Rattle.cloud_trait.specs.declared.answer.Answer.TheVariants.{Failed, Memory}
use Rattle.cloud_trait.specs.declared.turn.CkptAnswer.{CkptAnswer}
use Rattle.cloud_trait.specs.Weather.{counted, Leaves, Makes, Rose}
use Rattle.db_base.specs.declared.wish.Wish.TheVariants.{Plain}
use Rattle.page_cache.specs.Cache.{Cache}
use Rattle.page_ckpt.specs.Paging.{Paging as Page, paging_ask, PagingLeads}
use Rattle.recover_run.specs.declared.home.Home.{Home}
use Rattle.session_facts.proofs.Settling.Trails.{IsBetween}
use Rattle.session_facts.proofs.Settling.Trees.Drains.{SendsNothing}
use Rattle.session_facts.specs.Lines.Facts.{session_at}
use Rattle.session_facts.specs.Settling.Runs.{waiting}
use Rattle.session_facts.specs.Settling.Story.{Moment}
use Rattle.session_notes.proofs.MeterLemmas.{adds_none, call_metered, kept_metered}
use Rattle.session_notes.specs.declared.notebook.Notebook.{Notebook}
use Rattle.session_notes.specs.Metered.{IsMetered, SendNoMore}
use Rattle.session_notes.specs.Notebook.{note_of_ask, with_note}
use Rattle.tree_ckpt.specs.Making.{Making, making_ask, MakingLeads}
use Rattle.session_facts.proofs.Writers.Coming.{Comes, comes_on}
use Rattle.session_facts.proofs.Writers.Emptying.{is_no_send}
use Rattle.world_core.proofs.Ledgers.{book_after, book_before, queue_stays, writer_keeps, writer_steps}
use Rattle.world_core.proofs.MeteredSteps.{own_is, own_was, told_wished}
use Rattle.world_core.specs.EachStep.{EachCome, EachWent}
use Rattle.world_core.specs.Handled.{ComesTo, StepsLooked, Went, further, note_of_hand, start}
use Rattle.world_core.specs.Metered.{IsWriters, HasLedger, StepGoesThrough}
use Rattle.world_core.specs.World.{World}
use Rattle.world_core.specs.Span.{span_of}

-- ---- the calls of the two machines

-- the call of a step, which found memory, and where its answer led
pub record AnswersCall (ask : Ask) (Leads : Answer → Type 0) (who : Caller) (before after : Seen) : Type 0 where
  pub answer : Answer
  pub made : Makes who ask answer before after
  pub took : Leads answer
  pub found : answer ≢ Memory

pub folding_more : (who : Caller) (before after : Seen) (home : Home) (m : Making) (c d : Cache) (work : Work) → CausesAt who before after (Folding home m, c) (work, d) More
    → (n : Making) × (AnswersCall (making_ask m) (λ a. MakingLeads m a (Goes n)) who before after × (work ≡ Folding home n))
folding_more who before after home m c d work (n, causes, is) =
    let s = causes.stepped in
    (n, (record { answer = s.did.answer; made = s.did.made; took = s.did.took; found = λ e. absurd (let never = s.memory e in cc (never)) }, is))

pub folding_ends : (who : Caller) (before after : Seen) (home : Home) (m : Making) (c d : Cache) (work : Work) (x : CkptAnswer)
    → CausesAt who before after (Folding home m, c) (work, d) (Ended (told.Done x)) → (n : Making) × AnswersCall (making_ask m) (λ a. MakingLeads m a (Ends n x)) who before after
folding_ends who before after home m c d work x (n, causes) =
    let s = causes.stepped in
    (n, record { answer = s.did.answer; made = s.did.made; took = s.did.took; found = λ e. absurd (let never = s.memory e in cc (never)) })

pub paging_more : (who : Caller) (before after : Seen) (home : Home) (m : Page) (c d : Cache) (work : Work) → CausesAt who before after (Paging home m, c) (work, d) More
    → (n : Page) × (AnswersCall (paging_ask m) (λ a. PagingLeads m a (Goes n)) who before after × (work ≡ Paging home n))
paging_more who before after home m c d work (n, causes, is) =
    let s = causes.stepped in
    (n, (record { answer = s.did.answer; made = s.did.made; took = s.did.took; found = λ e. absurd (let never = s.memory e in cc (never)) }, is))

pub paging_ends : (who : Caller) (before after : Seen) (home : Home) (m : Page) (c d : Cache) (work : Work) (x : CkptAnswer)
    → CausesAt who before after (Paging home m, c) (work, d) (Ended (told.Done x)) → (n : Page) × AnswersCall (paging_ask m) (λ a. PagingLeads m a (Ends n x)) who before after
paging_ends who before after home m c d work x (n, causes) =
    let s = causes.stepped in
    (n, record { answer = s.did.answer; made = s.did.made; took = s.did.took; found = λ e. absurd (let never = s.memory e in cc (never)) })

-- ---- under way

-- A machine has a session's checkpoint of a queue in hand, and came so far from a moment while nobody else acted; the session's notes, of which no queue has
-- more sends than before, meter the cloud.
pub record OnCheckpoint {M : Type 0} (ask : M → Ask) (leads : M → Answer → Next M CkptAnswer → Type 0) (wrap : Home → M → Work) (begin : M) (queue : QueueName) (first : CloudState)
    (session k : ℕ) (earlier : List Note) (world : World) (seen : Seen) : Type 0 where
  pub home : Home
  pub machine : M
  pub works : (session_at world.sessions session).work ≡ wrap home machine
  pub state : CloudState
  pub told : seen.state ≡ Some state
  pub comes : Comes ask leads begin first machine (record state { wish = Plain })
  pub notes : List Note
  pub less : SendNoMore earlier notes
  pub book : Notebook
  pub there : slice_get world.notes session ≡ Some book
  pub is : IsWriters k notes book
  pub queue_is : book.queue ≡ Some queue
  pub metered : IsMetered notes state

-- it is done: its queue counts no send since
pub record AtItsEnd (queue : QueueName) (session k : ℕ) (earlier : List Note) (world : World) (seen : Seen) : Type 0 where
  pub state : CloudState
  pub told : seen.state ≡ Some state
  pub notes : List Note
  pub less : SendNoMore earlier notes
  pub ledger : HasLedger session k (notes ++ Kept queue ∷ []) world.notes
  pub metered : IsMetered (notes ++ Kept queue ∷ []) state

no_rise : (a b : ℕ) → b ≡ a → Rose a b → ⊥
no_rise a b same rose = omega (arith, same, rose)

pub more_less : (a b c : List Note) → SendNoMore a b → SendNoMore b c → SendNoMore a c
more_less a b c one two place =
    let x = one place in
    let y = two place in
    omega (arith, x, y)

module _ {M : Type 0} (ask : M → Ask) (leads : M → Answer → Next M CkptAnswer → Type 0) (wrap : Home → M → Work) (begin : M) (queue : QueueName)
    (hand : (home : Home) (m : M) → ask_of_work (wrap home m) ≡ Some (ask m)) (quiet : (m : M) → SendsNothing (ask m))
    (goes : (who : Caller) (before after : Seen) (home : Home) (m : M) (c d : Cache) (work : Work) → CausesAt who before after (wrap home m, c) (work, d) More
    → (n : M) × (AnswersCall (ask m) (λ a. leads m a (Goes n)) who before after × (work ≡ wrap home n)))
    (ends : (who : Caller) (before after : Seen) (home : Home) (m : M) (c d : Cache) (work : Work) (x : CkptAnswer)
    → CausesAt who before after (wrap home m, c) (work, d) (Ended (told.Done x)) → (n : M) × AnswersCall (ask m) (λ a. leads m a (Ends n x)) who before after)
    (first : Moment)
    (empties : (m n : M) (s t : CloudState) → Comes ask leads begin first.state m s → (end : Deed) (x : CkptAnswer) → IsBetween end s t → end.ask ≡ ask m → leads m end.answer (Ends n x)
    → end.after.counts.withheld ≡ end.before.counts.withheld → length (waiting first.state queue) ≤ 256 → waiting t queue ≡ [])
    (who : Caller) (k : ℕ) (earlier : List Note) where
  abbrev On : World → Seen → Type 0
  On world seen = OnCheckpoint ask leads wrap begin queue first.state who.session k earlier world seen

  module _ (before after : Seen) (old new : World) (turn : Turn Told) (on : On old before) (p : StepsLooked who Plain (span_of before after old new) turn)
      (through : StepGoesThrough who Plain (span_of before after old new) turn p) where
    abbrev m : M
    m = on.machine

    abbrev s : CloudState
    s = record on.state { wish = Plain }

    under : p.under.state ≡ Some s
    under = told_wished who k 0 Plain before after old new turn p on.state on.told

    works : p.session.before.work ≡ wrap on.home m
    works = ap (λ (a : Acting). a.work) (sym (own_was who k 0 Plain before after old new turn p on.state on.told)) ∙ on.works

    asks : ask_of_work p.session.before.work ≡ Some (ask m)
    asks = ap ask_of_work works ∙ hand on.home m

    causes : CausesAt who p.under p.to (wrap on.home m, p.session.before.cache) (p.session.after.work, p.session.does.causes.0) turn
    causes =
        subst (λ (w : Work). CausesAt who p.under p.to (w, p.session.before.cache) (p.session.after.work, p.session.does.causes.0) turn) works p.session.does.causes.1

    abbrev later : List Note
    later = with_note on.notes (note_of_ask (ask m))

    less : SendNoMore earlier later
    less = more_less earlier on.notes later on.less (adds_none (ask m) on.notes (is_no_send (ask m) (quiet m)))

    module _ (Leads : Answer → Type 0) (h : AnswersCall (ask m) Leads who p.under p.to) where
      abbrev deed : Deed
      deed = record { who = who; ask = ask m; answer = h.answer; before = p.under; after = p.to }

      left : Leaves who (ask m) h.answer (counted p.under.counts s) p.to.counts p.to.state
      left = h.made.state s under

      between : IsBetween deed s left.after
      between = record { made = h.made; told = under; left = left.told }

      answered : (h.answer ≢ Failed) × (h.answer ≢ Memory)
      answered = (λ e. no_rise p.under.counts.faults p.to.counts.faults through.1 (h.made.failed e), h.found)

      metered : IsMetered later left.after
      metered = call_metered who (ask m) h.answer p.under.counts p.to.counts (called who left.after.now s) left.after left.row on.notes on.metered

      plain : left.after ≡ record left.after { wish = Plain }
      plain = λ i. record left.after { wish = is i }
        where
          is : left.after.wish ≡ Plain
          is = (row_rest who (ask m) h.answer p.under.counts p.to.counts (called who left.after.now s) left.after left.row).wish

  -- one call more
  pub goes_on : (before after : Seen) (old new : World) (on : On old before) (p : StepsLooked who Plain (span_of before after old new) More) → StepGoesThrough who Plain (span_of before after old new) More p
      → On new after
  goes_on before after old new on p through = by (goes who p.under p.to on.home on.machine p.session.before.cache p.session.does.causes.0 p.session.after.work (causes before after old new More on p through))
    where
      by : (n : M) × (AnswersCall (ask on.machine) (λ a. leads on.machine a (Goes n)) who p.under p.to × (p.session.after.work ≡ wrap on.home n)) → On new after
      by (n, (h, is)) =
          let l = left before after old new More on p through (λ a. leads on.machine a (Goes n)) h in
          let was : p.notes.before ≡ on.book = book_before who.session _ old.notes new.notes on.book p.notes on.there in
          record {
            home = on.home;
            machine = n;
            works = ap (λ (a : Acting). a.work) (own_is who k 0 Plain before after old new More p on.state on.told) ∙ is;
            state = l.after;
            told = p.look_after.stays l.after l.told;
            comes =
                subst (λ (x : CloudState). Comes ask leads begin first.state n x) (plain before after old new More on p through (λ a. leads on.machine a (Goes n)) h)
                (comes_on ask leads begin first.state on.machine n (record on.state { wish = Plain }) l.after on.comes
                (deed before after old new More on p through (λ a. leads on.machine a (Goes n)) h) refl
                (between before after old new More on p through (λ a. leads on.machine a (Goes n)) h) h.took through.0
                (answered before after old new More on p through (λ a. leads on.machine a (Goes n)) h));
            notes = with_note on.notes (note_of_ask (ask on.machine));
            less = less before after old new More on p through;
            book = p.notes.after;
            there = book_after who.session _ old.notes new.notes p.notes;
            is =
                subst (λ (o : Option Ask). IsWriters k (with_note on.notes (note_of_hand o)) p.notes.after) (asks before after old new More on p through)
                (writer_steps k on.notes p.session.before.work More p.notes.before p.notes.after refl p.notes.does (subst (IsWriters k on.notes) (sym was) on.is));
            queue_is = queue_stays p.session.before.work More p.notes.before p.notes.after p.notes.does ∙ ap (λ (b : Notebook). b.queue) was ∙ on.queue_is;
            metered = metered before after old new More on p through (λ a. leads on.machine a (Goes n)) h;
          }

  -- the last one
  pub comes_to_end : (own : Place) → queue_at own ≡ queue → length (waiting first.state queue) ≤ 256 → (before after : Seen) (old new : World) (x : CkptAnswer) (on : On old before)
      (p : StepsLooked who Plain (span_of before after old new) (Ended (told.Done x))) → StepGoesThrough who Plain (span_of before after old new) (Ended (told.Done x)) p
      → AtItsEnd queue who.session k earlier new after
  comes_to_end own own_is few before after old new x on p through =
      by (ends who p.under p.to on.home on.machine p.session.before.cache p.session.does.causes.0 p.session.after.work x (causes before after old new (Ended (told.Done x)) on p through))
    where
      by : (n : M) × AnswersCall (ask on.machine) (λ a. leads on.machine a (Ends n x)) who p.under p.to → AtItsEnd queue who.session k earlier new after
      by (n, h) =
          let l = left before after old new (Ended (told.Done x)) on p through (λ a. leads on.machine a (Ends n x)) h in
          let was : p.notes.before ≡ on.book = book_before who.session _ old.notes new.notes on.book p.notes on.there in
          let mid : List Note = with_note on.notes (note_of_ask (ask on.machine)) in
          let none : waiting l.after queue ≡ [] =
          empties on.machine n (record on.state { wish = Plain }) l.after on.comes (deed before after old new (Ended (told.Done x)) on p through (λ a. leads on.machine a (Ends n x)) h) x
          (between before after old new (Ended (told.Done x)) on p through (λ a. leads on.machine a (Ends n x)) h) refl h.took through.0 few in
          record {
            state = l.after;
            told = p.look_after.stays l.after l.told;
            notes = mid;
            less = less before after old new (Ended (told.Done x)) on p through;
            ledger = record {
              book = p.notes.after;
              there = book_after who.session _ old.notes new.notes p.notes;
              is =
                  subst (λ (o : Option Ask). IsWriters k (with_note on.notes (note_of_hand o) ++ Kept queue ∷ []) p.notes.after)
                  (asks before after old new (Ended (told.Done x)) on p through)
                  (writer_keeps k on.notes p.session.before.work (Ended (told.Done x)) queue p.notes.before p.notes.after refl (ap (λ (b : Notebook). b.queue) was ∙ on.queue_is) p.notes.does
                  (subst (IsWriters k on.notes) (sym was) on.is));
            };
            metered =
                subst (λ (q : QueueName). IsMetered (mid ++ Kept q ∷ []) l.after) own_is
                (kept_metered own mid l.after (subst (λ (q : QueueName). waiting l.after q ≡ []) (sym own_is) none)
                (metered before after old new (Ended (told.Done x)) on p through (λ a. leads on.machine a (Ends n x)) h));
          }

  pub goes_through : (before : Seen) (old : World) (after : Seen) (new : World) → On old before → (went : Went who before old after new)
      → EachWent StepGoesThrough went → On new after
  goes_through before old after new on start each = on
  goes_through before old after new on (further mid _ world _ went step) each =
      goes_on mid after world new (goes_through before old mid world on went each.0) step each.1

  pub comes_through : (own : Place) → queue_at own ≡ queue → length (waiting first.state queue) ≤ 256 → (before after : Seen) (old new : World) (x : CkptAnswer) → On old before
      → (c : ComesTo who (span_of before after old new) (told.Done x)) → EachCome StepGoesThrough who (span_of before after old new) (told.Done x) c → AtItsEnd queue who.session k earlier new after
  comes_through own own_is few before after old new x on c each =
      comes_to_end own own_is few c.mid after c.world new x (goes_through before old c.mid c.world on c.went each.0) c.steps each.1
