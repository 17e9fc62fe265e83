-- A tree checkpoint that a line brings to its end names its new pieces, whichever lines made its calls.
use Rattle.std.proofs.Common.{◌≡◌, ◌+◌, inl, inr, ℕ, Bool, true, false, List, length, Some, Result, Ok, Err, sym, subst, ◌∙◌, ◌++◌, ◌∷◌, []}
use Rattle.client_work.specs.declared.answer.Answer.{Answer}
use Rattle.cloud_facts.specs.Words.{QueueName, Turn, More, Ended, CloudState, Caller, Seen, at}
use Rattle.db_base.specs.declared.refusal.Refused.{Refused}
use Rattle.db_base.specs.declared.wish.Wish.{Wish}
use Rattle.db_base.specs.declared.wish.Wish.TheVariants.{Plain}
use Rattle.event_text.specs.declared.event.Event.{Event}
use Rattle.replay_meaning.specs.Standing.{Line}
use Rattle.reply_text.specs.declared.reply.Reply.{Reply}
use Rattle.session_facts.specs.Lines.Counted.{calls_told, CountsAll}
use Rattle.session_facts.specs.Lines.Facts.{session_at}
use Rattle.recover_run.specs.declared.home.Home.{Home}
use Rattle.session_facts.proofs.Rows.CallKinds.{IsWorkersRow}
use Rattle.session_facts.specs.Sessions.Knows.{Sessions}
use Rattle.session_facts.proofs.Lines.More.{line_of}
use Rattle.world_core.proofs.Workers.{HoldsWithin, IsBetween, holds_begun, holds_step, holds_went, holds_works, open_rests, within_begun, within_went, within_works, worker, worker_begins, worker_rows}
use Rattle.world_core.proofs.CountedSteps.{names_of, begins_own, went_counts, begun_none, worker_names, worker_went, works_none}
use Rattle.world_core.proofs.StandsLemmas.{IsUnderWay, way_begins, went_on}
use Rattle.event_text.specs.declared.event.Event.TheVariants as event
use Rattle.reply_text.specs.declared.reply.Reply.TheVariants as reply
use Rattle.world_core.specs.declared.asked.Asked.{Asked}
use Rattle.world_core.specs.declared.asked.Asked.TheVariants.{Session, Wait, Report, Settle, Sweep}
use Rattle.world_core.specs.declared.asked.Request.{Request}
use Rattle.world_core.specs.declared.asked.Request.TheVariants.{Begin, Note, Abort, Policy, Work as WorksDue, Step, Run, Crash}
use Rattle.world_core.specs.World.{World}
use Rattle.world_core.specs.declared.world.WorldFault.{WorldFault}
use Rattle.world_core.specs.Bounded.{steps_of}
use Rattle.world_core.specs.EachStep.{EachWent, EachCome, EachTold, EachMade, EachRunTold, EachRun, EachCrashed, EachDone, EachServed, EachThrough, EachWork}
use Rattle.world_core.specs.Handled.{StepsLooked, StepsTo, MakesStep, Went, start, further, ComesTo, RunsTo, Runs, Crashes, Does, Serves, Answers, Checkpoints, Works, WorksThrough, checkpoint_more, no_checkpoint, gone_through}
use Rattle.world_core.specs.Named.{StepNames, NamesAt, NamesSteps}
use Rattle.world_core.specs.Stands.{WorldStands}
use Rattle.world_core.specs.Span.{span_of}
use Rattle.std.proofs.lemmas.Option.{same_Some}

-- a step that does not end nothing names no piece
more_names : (who : Caller) (wish : Wish) (before after : Seen) (old new : World) (p : StepsLooked who wish (span_of before after old new) More) → StepNames who wish (span_of before after old new) More p
more_names who wish before after old new p s told home m done works ends = absurd (cc (ends))

went_names : (who : Caller) (before : Seen) (old : World) (after : Seen) (new : World) (went : Went who before old after new) → EachWent StepNames went
went_names who before old after new start = tt
went_names who before old after new (further mid _ world _ went step) = (went_names who before old mid world went, more_names who Plain mid after world new step)

module _ (lines : List Line) (n : ℕ) (before after : Seen) (old new : World) (result : Result Reply WorldFault) (t : CloudState) (number : length lines + 1 ≡ n) (told : before.state ≡ Some t)
    (stands : WorldStands lines old t) where
  way : IsUnderWay lines old before
  way = way_begins lines before old t told stands.by_lines

  all_way : CountsAll (calls_told lines) way.after (session_at old.sessions)
  all_way = subst (λ (z : CloudState). CountsAll (calls_told lines) z (session_at old.sessions)) (same_Some t way.after (sym told ∙ way.told)) stands.counted

  module _ (k : ℕ) where
    abbrev who : Caller
    who = record { session = k; event = n }

    -- one call of the session
    one_names : (wish : Wish) (world : World) (turn : Turn Answer) (p : StepsLooked who wish (span_of before after old world) turn) → StepNames who wish (span_of before after old world) turn p
    one_names wish world turn p =
        names_of lines who (sym number) (calls_told lines) wish before after old world turn way p (calls_told lines k) (begins_own lines k old way.after all_way)

    told_names : (wish : Wish) (r : Result Reply WorldFault) (h : StepsTo (record { session = k; event = n }) wish (span_of before after old new) r) → EachTold StepNames (record { session = k; event = n }) wish (span_of before after old new) r h
    told_names wish (Ok reply) made = one_names wish new made.turn made.steps
    told_names wish (Err why) made = one_names wish made.left made.turn made.steps

    made_names : (wish : Wish) (h : MakesStep (record { session = k; event = n }) wish (span_of before after old new) result) → EachMade StepNames (record { session = k; event = n }) wish (span_of before after old new) result h
    made_names wish (inl refused) = tt
    made_names wish (inr (inl made)) = told_names wish result made
    made_names wish (inr (inr memory)) = tt

    -- the calls up to an answer
    come_names : (world : World) (answer : Answer) (c : ComesTo who (span_of before after old world) answer) → EachCome StepNames who (span_of before after old world) answer c
    come_names world answer c =
        let gone = went_on lines who before old c.mid c.world (sym number) way c.went in (
          went_names who before old c.mid c.world c.went,
          names_of lines who (sym number) (calls_told lines) Plain c.mid after c.world world (Ended answer) gone c.steps
              (calls_told lines k + steps_of c.went)
              (went_counts lines who (sym number) (calls_told lines) before old c.mid c.world way all_way c.went gone.after gone.told),
        )

    ran_names : (r : Result Reply WorldFault) (h : RunsTo (record { session = k; event = n }) (span_of before after old new) r) → EachRunTold StepNames (record { session = k; event = n }) (span_of before after old new) r h
    ran_names (Ok reply) run = come_names new run.answer run.comes
    ran_names (Err why) run = come_names run.left run.answer run.comes

    run_names : (h : Runs (record { session = k; event = n }) (span_of before after old new) result) → EachRun StepNames (record { session = k; event = n }) (span_of before after old new) result h
    run_names (inl refused) = tt
    run_names (inr (inl run)) = ran_names result run
    run_names (inr (inr memory)) = tt

    crash_names : (done : Bool) (h : Crashes (record { session = k; event = n }) done (span_of before after old new) result) → EachCrashed StepNames (record { session = k; event = n }) done (span_of before after old new) result h
    crash_names false dies = tt
    crash_names true (inl idle) = tt
    crash_names true (inr (inl dies)) = one_names Plain dies.world dies.turn dies.steps
    crash_names true (inr (inr memory)) = tt

    -- the last call of each checkpoint that is due
    module _ (all_lines : List Line) (home : Home) (row : IsWorkersRow all_lines (worker k n)) (first : Sessions) where
      checkpoint_names : (queue : QueueName) (from to : Seen) (world left : World) (a : Answer) → IsBetween k home first world → (h : HoldsWithin n all_lines world from) (mine : ℕ)
          → CountsAll (at k mine (calls_told lines)) h.state (session_at world.sessions) → (c : Checkpoints (worker k n) queue (span_of from to world left) a)
          → EachCome StepNames (worker k n) (span_of from to c.begun left) a c.comes
      checkpoint_names queue from to world left a w h mine counts c =
          let begun = within_begun k home first queue world c.begun w c.begins in
          let held = holds_begun n all_lines k queue from world c.begun h c.begins in
          let none =
          subst (λ (z : CloudState). CountsAll (at k 0 (calls_told lines)) z (session_at c.begun.sessions)) (same_Some h.state held.state (sym h.told ∙ held.told))
          (begun_none (calls_told lines) k mine home queue h.state world c.begun w.works c.begins counts) in
          let gone = holds_went n k all_lines home row first from c.begun c.comes.mid c.comes.world begun held c.comes.went in
          let goes = within_went (worker k n) home first from c.begun c.comes.mid c.comes.world begun c.comes.went in
          let end = holds_step n k all_lines home row first c.comes.mid to c.comes.world left (Ended a) goes gone c.comes.steps in (
            went_names (worker k n) from c.begun c.comes.mid c.comes.world c.comes.went,
            worker_names n k all_lines home row first (calls_told lines) c.comes.mid to c.comes.world left (Ended a) goes gone c.comes.steps
                (steps_of c.comes.went)
                (worker_went n k all_lines home row first (calls_told lines) from c.begun c.comes.mid c.comes.world begun held none c.comes.went gone.state gone.told) end.state end.told,
          )

      each_names : (from : Seen) (world : World) (queues : List QueueName) (done passed : ℕ) (to : Seen) (left : World) → IsBetween k home first world → (h : HoldsWithin n all_lines world from)
          → (mine : ℕ) → CountsAll (at k mine (calls_told lines)) h.state (session_at world.sessions) → (works : Works (worker k n) from world (gone_through queues done passed) to left)
          → EachWork StepNames works
      each_names from world queues done passed to left w h mine counts no_checkpoint = tt
      each_names from world queues done passed to left w h mine counts (checkpoint_more others kept passes_by mid prior queue a _ _ works makes passes) =
          let gone = holds_works n k all_lines home row first from world others kept passes_by mid prior w h works in
          let was = works_none n k all_lines home row first (calls_told lines) from world others kept passes_by mid prior w h mine counts works gone.state gone.told in (
            each_names from world others kept passes_by mid prior w h mine counts works,
            checkpoint_names queue mid to prior left a (within_works (worker k n) home first from world others kept passes_by mid prior w works) gone was.0 was.1 makes,
          )

    works_names : (h : WorksThrough (record { session = k; event = n }) (span_of before after old new) result) → EachThrough StepNames (record { session = k; event = n }) (span_of before after old new) result h
    works_names (inl refused) = tt
    works_names (inr (inl down)) =
        let rest = open_rests k old down.opened in
        let q : Reply = reply.Worked 0 0 in
        let begins = worker_begins lines k n before old t (sym number) told stands.by_lines q tt in
        each_names (lines ++ line_of (event.Work k) q ∷ []) rest.0 (worker_rows lines k n before old t (sym number) told stands.by_lines q) (session_at old.sessions) before old down.queues
        down.done down.passed after new rest.2 begins (calls_told lines k)
        (begins_own lines k old begins.state (subst (λ (z : CloudState). CountsAll (calls_told lines) z (session_at old.sessions)) (same_Some t begins.state (sym told ∙ begins.told)) stands.counted))
        down.works
    works_names (inr (inr memory)) = tt

    does_names : (request : Request) (h : Does (record { session = k; event = n }) request (span_of before after old new) result) → EachDone StepNames (record { session = k; event = n }) request (span_of before after old new) result h
    does_names (Step wish) h = made_names wish h
    does_names Run h = run_names h
    does_names (Crash done) h = crash_names done h
    does_names WorksDue h = works_names h
    does_names (Policy role kept) h = tt
    does_names (Begin op) h = tt
    does_names (Note noting) h = tt
    does_names Abort h = tt

    serves_names : (request : Result Request Refused) (h : Serves (record { session = k; event = n }) request (span_of before after old new) result) → EachServed StepNames (record { session = k; event = n }) request (span_of before after old new) result h
    serves_names (Ok request) h = does_names request h
    serves_names (Err why) h = tt

  -- ---- every line

  asked_names : (asked : Asked) (h : Answers n asked (span_of before after old new) result) → NamesAt n asked (span_of before after old new) result h
  asked_names (Session k request) (inl served) = serves_names k request served.1
  asked_names (Session k request) (inr none) = tt
  asked_names (Wait ticks) h = tt
  asked_names (Report tree) h = tt
  asked_names Settle h = tt
  asked_names (Sweep tree) h = tt

pub names_pieces : (n : ℕ) (event : Event) (before after : Seen) (old new : World) (result : Result Reply WorldFault) → NamesSteps n event (span_of before after old new) result
names_pieces n event before after old new result lines t number told stands handled =
    asked_names lines n before after old new result t number told stands handled.asked handled.answers
