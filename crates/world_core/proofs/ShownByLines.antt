-- What each step of a line shows where it ends a read, a scan or a look-up is what the lines before it say.
use Rattle.std.proofs.Common.{inl, inr, ◌≡◌, ◌+◌, ℕ, List, length, Some, Result, refl, sym, subst, ◌∙◌}
use Rattle.client_work.specs.Session.{Acting}
use Rattle.client_work.specs.declared.answer.Answer.{Answer}
use Rattle.cloud_facts.specs.Words.{QueueName, Turn, More, Ended, CloudState, Caller, Seen}
use Rattle.cloud_facts.proofs.Book.Names.{at_same}
use Rattle.db_base.specs.declared.wish.Wish.{Wish}
use Rattle.db_base.specs.declared.wish.Wish.TheVariants.{Plain}
use Rattle.event_text.specs.declared.event.Event.{Event}
use Rattle.replay_meaning.specs.Standing.{Line}
use Rattle.reply_text.specs.declared.reply.Reply.{Reply}
use Rattle.session_facts.specs.Lines.Errands.{Errand, session_for}
use Rattle.session_facts.specs.Lines.Errands as errands
use Rattle.session_facts.specs.Lines.Facts.{session_at, CloudHolds}
use Rattle.session_facts.specs.Lines.Shown.{ShowsByLines, moment}
use Rattle.session_facts.proofs.Lines.Shown.{IsSettler, shown_by_lines, settler_goes, settler_by_lines, checkpoint_by_lines}
use Rattle.session_facts.proofs.Lines.Outcome.{wish_holds}
use Rattle.session_facts.proofs.Rows.CallKinds.{HasCheckpoint}
use Rattle.recover_run.specs.declared.home.Home.{Home}
use Rattle.session_facts.specs.Sessions.Knows.{Sessions}
use Rattle.world_core.proofs.Workers.{IsInside, IsBetween, open_rests, within_begun, within_went, within_works}
use Rattle.world_core.specs.World.{World}
use Rattle.world_core.specs.declared.world.WorldFault.{WorldFault}
use Rattle.world_core.specs.declared.asked.Asked.{Asked}
use Rattle.world_core.specs.declared.asked.Asked.TheVariants.{Session, Wait, Report, Settle, Sweep}
use Rattle.world_core.specs.EachStep.{EachWent, EachSettlingOn, EachSettling, EachAsked, EachThrough, EachWork}
use Rattle.world_core.specs.Handled.{StepsLooked, Went, start, further, SettlesOn, Settles, Answers, Works, WorksThrough, checkpoint_more, no_checkpoint, gone_through}
use Rattle.world_core.specs.ShownByLines.{StepShowsBy, ShowsStepsBy}
use Rattle.world_core.specs.Span.{span_of}
use Rattle.world_core.proofs.EachUnderWay.{each_step}
use Rattle.world_core.proofs.StandsLemmas.{IsUnderWay, changed_at, changed_was, has_at, told_under, steps_own, settler}

module _ (lines : List Line) where
  own_shows : (who : Caller) (wish : Wish) (before after : Seen) (old new : World) (turn : Turn Answer) → who.event ≡ length lines + 1 → IsUnderWay lines old before
      → (p : StepsLooked who wish (span_of before after old new) turn) → StepShowsBy lines who wish (span_of before after old new) turn p
  own_shows who wish before after old new turn number way p s under =
      subst (λ (a : Acting). ShowsByLines lines s who (moment p.under a) (moment p.to p.session.after) turn) (changed_was who.session _ old.sessions new.sessions p.session)
      (shown_by_lines (length lines + 1) lines (session_at old.sessions) old.audit old.blind s held who p.under p.to p.session.after turn (way.goes.acts who.session)
      (steps_own lines who wish before after old new turn number way p))
    where
      wished : CloudState
      wished = record way.after { wish = wish }

      same : wished ≡ s
      same = let told : p.under.state ≡ Some wished = told_under lines who wish before after old new turn number way p in let e : Some wished ≡ Some s = sym told ∙ under in cc

      held : CloudHolds (length lines + 1) lines (session_at old.sessions) old.audit old.blind s
      held = subst (λ (x : CloudState). CloudHolds (length lines + 1) lines (session_at old.sessions) old.audit old.blind x) same
          (wish_holds (length lines + 1) lines (session_at old.sessions) old.audit old.blind way.after wish way.goes.holds)

-- ---- the settler, whatever the cloud tells

-- its session settles or sweeps at each of its steps, and such a step shows nothing
module _ (lines : List Line) (n : ℕ) where
  step_shows : (wish : Wish) (before after : Seen) (old new : World) (turn : Turn Answer) → IsSettler (session_at old.sessions 0).work
      → (p : StepsLooked (settler n) wish (span_of before after old new) turn) → StepShowsBy lines (settler n) wish (span_of before after old new) turn p
  step_shows wish before after old new turn settles p s under =
      settler_by_lines lines s (settler n) p.under p.to p.session.before p.session.after turn
      (subst (λ (a : Acting). IsSettler a.work) (changed_was 0 _ old.sessions new.sessions p.session) settles) p.session.does

  step_goes : (before after : Seen) (old new : World) → IsSettler (session_at old.sessions 0).work → StepsLooked (settler n) Plain (span_of before after old new) More
      → IsSettler (session_at new.sessions 0).work
  step_goes before after old new settles p =
      subst (λ (a : Acting). IsSettler a.work) (sym (changed_at 0 _ old.sessions new.sessions p.session 0 ∙ at_same 0 p.session.after (session_at old.sessions) 0 refl))
      (settler_goes (settler n) p.under p.to p.session.before.work p.session.after.work
      (subst (λ (a : Acting). IsSettler a.work) (changed_was 0 _ old.sessions new.sessions p.session) settles) p.session.does.work)

  went_goes : (before : Seen) (old : World) (after : Seen) (new : World) → IsSettler (session_at old.sessions 0).work → Went (settler n) before old after new
      → IsSettler (session_at new.sessions 0).work
  went_goes before old after new settles start = settles
  went_goes before old after new settles (further mid _ world _ went step) = step_goes mid after world new (went_goes before old mid world settles went) step

  went_shows : (before : Seen) (old : World) (after : Seen) (new : World) → IsSettler (session_at old.sessions 0).work → (went : Went (settler n) before old after new)
      → EachWent (StepShowsBy lines) went
  went_shows before old after new settles start = tt
  went_shows before old after new settles (further mid _ world _ went step) = (
    went_shows before old mid world settles went,
    step_shows Plain mid after world new More (went_goes before old mid world settles went) step,
  )

  first_works : (errand : Errand) → IsSettler (session_for errand).work
  first_works errands.settles = tt
  first_works (errands.sweeps tree) = tt

  pub errand_shows : (errand : Errand) (before after : Seen) (old new : World) (result : Result Reply WorldFault) (h : Settles errand n (span_of before after old new) result)
      → EachSettling (StepShowsBy lines) errand n (span_of before after old new) result h
  errand_shows errand before after old new result (inr memory) = tt
  errand_shows errand before after old new result (inl h) = on h.settles
    where
      begins : IsSettler (session_at h.begun.sessions 0).work
      begins = subst (λ (a : Acting). IsSettler a.work) (sym (has_at 0 (session_for errand) old h.begun h.begins 0 ∙ at_same 0 (session_for errand) (session_at old.sessions) 0 refl)) (first_works errand)

      on : (s : SettlesOn errand (settler n) (span_of before after h.begun new) result) → EachSettlingOn (StepShowsBy lines) errand (settler n) (span_of before after h.begun new) result s
      on (inr memory) = tt
      on (inl s) = (
        went_shows before h.begun s.comes.mid s.comes.world begins s.comes.went,
        step_shows Plain s.comes.mid after s.comes.world s.left (Ended s.answer) (went_goes before h.begun s.comes.mid s.comes.world begins s.comes.went) s.comes.steps,
      )

-- ---- a session's work, whatever the cloud tells

-- its session has a checkpoint in hand at each of its steps
module _ (lines : List Line) (who : Caller) (home : Home) (first : Sessions) where
  checkpoint_shows : (before after : Seen) (old new : World) (turn : Turn Answer) → IsInside who.session home first old → (p : StepsLooked who Plain (span_of before after old new) turn)
      → StepShowsBy lines who Plain (span_of before after old new) turn p
  checkpoint_shows before after old new turn w p s under =
      checkpoint_by_lines lines s who p.under p.to home p.session.before p.session.after turn
      (subst (λ (a : Acting). HasCheckpoint home a.work) (changed_was who.session _ old.sessions new.sessions p.session) w.works) p.session.does

  checkpoints_show : (before : Seen) (old : World) (after : Seen) (new : World) → IsInside who.session home first old → (went : Went who before old after new)
      → EachWent (StepShowsBy lines) went
  checkpoints_show before old after new w start = tt
  checkpoints_show before old after new w (further mid _ world _ went step) = (
    checkpoints_show before old mid world w went,
    checkpoint_shows mid after world new More (within_went who home first before old mid world w went) step,
  )

  works_show : (before : Seen) (old : World) (queues : List QueueName) (done passed : ℕ) (after : Seen) (new : World) → IsBetween who.session home first old
      → (works : Works who before old (gone_through queues done passed) after new) → EachWork (StepShowsBy lines) works
  works_show before old queues done passed after new w no_checkpoint = tt
  works_show before old queues done passed after new w (checkpoint_more others kept left mid world queue a _ _ works c passes) =
      let begun = within_begun who.session home first queue world c.begun (within_works who home first before old others kept left mid world w works) c.begins in (
        works_show before old others kept left mid world w works,
        (
          checkpoints_show mid c.begun c.comes.mid c.comes.world begun c.comes.went,
          checkpoint_shows c.comes.mid after c.comes.world new (Ended a) (within_went who home first mid c.begun c.comes.mid c.comes.world begun c.comes.went) c.comes.steps,
        ),
      )

working_shows : (lines : List Line) (n k : ℕ) (before after : Seen) (old new : World) (result : Result Reply WorldFault) (h : WorksThrough (record { session = k; event = n }) (span_of before after old new) result)
    → EachThrough (StepShowsBy lines) (record { session = k; event = n }) (span_of before after old new) result h
working_shows lines n k before after old new result (inl refused) = tt
working_shows lines n k before after old new result (inr (inl down)) =
    let rest = open_rests k old down.opened in
    works_show lines (record { session = k; event = n }) rest.0 (session_at old.sessions) before old down.queues down.done down.passed after new rest.2 down.works
working_shows lines n k before after old new result (inr (inr memory)) = tt

-- ---- every line

pub shown_by : (n : ℕ) (event : Event) (before after : Seen) (old new : World) (result : Result Reply WorldFault) → ShowsStepsBy n event (span_of before after old new) result
shown_by n event before after old new result lines t number told stands handled =
    each_step (StepShowsBy lines) lines (own_shows lines) (λ errand m. errand_shows lines m errand) (working_shows lines) n before after old new result t number told stands handled.asked handled.answers

-- and one that settles, whatever lines led there
pub settled_by : (lines : List Line) (n : ℕ) (asked : Asked) (before after : Seen) (old new : World) (result : Result Reply WorldFault) → asked ≡ Settle
    → (h : Answers n asked (span_of before after old new) result) → EachAsked (StepShowsBy lines) n asked (span_of before after old new) result h
settled_by lines n Settle before after old new result is h = errand_shows lines n errands.settles before after old new result h
settled_by lines n (Session k request) before after old new result is h = absurd (cc (is))
settled_by lines n (Wait ticks) before after old new result is h = tt
settled_by lines n (Report tree) before after old new result is h = tt
settled_by lines n (Sweep tree) before after old new result is h = absurd (cc (is))
