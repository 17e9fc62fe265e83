-- The calls of a tree checkpoint are few, whichever lines make them.
use Rattle.std.proofs.Common.{◌≡◌, ◌+◌, inl, inr, ℕ, Bool, true, false, List, length, Some, Result, Ok, Err, sym, subst, ◌∙◌, arith, ◌++◌, ◌∷◌, []}
use Rattle.cloud_facts.specs.Words.{QueueName, Turn, Ended, CloudState, Caller, Seen, at}
use Rattle.client_work.specs.declared.answer.Answer.{Answer}
use Rattle.db_base.specs.declared.refusal.Refused.{Refused}
use Rattle.db_base.specs.declared.wish.Wish.{Wish}
use Rattle.db_base.specs.declared.wish.Wish.TheVariants.{Plain}
use Rattle.event_text.specs.declared.event.Event.{Event}
use Rattle.replay_meaning.specs.Standing.{Line}
use Rattle.reply_text.specs.declared.reply.Reply.{Reply}
use Rattle.session_facts.specs.Lines.Counted.{calls_told, CountsAll, FewFor}
use Rattle.session_facts.specs.Lines.Facts.{session_at}
use Rattle.recover_run.specs.declared.home.Home.{Home}
use Rattle.session_facts.proofs.Rows.CallKinds.{IsWorkersRow}
use Rattle.session_facts.specs.Sessions.Knows.{Sessions}
use Rattle.session_facts.proofs.Lines.More.{line_of}
use Rattle.world_core.proofs.Workers.{HoldsWithin, IsBetween, holds_begun, holds_went, holds_works, open_rests, within_begun, within_went, within_works, worker, worker_begins, worker_rows}
use Rattle.world_core.proofs.CountedSteps.{few_of, begins_own, went_counts, begun_none, worker_few, worker_went, works_none}
use Rattle.world_core.proofs.StandsLemmas.{IsUnderWay, way_begins, went_on}
use Rattle.event_text.specs.declared.event.Event.TheVariants as event
use Rattle.reply_text.specs.declared.reply.Reply.TheVariants as reply
use Rattle.world_core.specs.declared.asked.Asked.{Asked}
use Rattle.world_core.specs.declared.asked.Asked.TheVariants.{Session, Wait, Report, Settle, Sweep}
use Rattle.world_core.specs.declared.asked.Request.{Request}
use Rattle.world_core.specs.declared.asked.Request.TheVariants.{Begin, Note, Abort, Policy, Work as WorksDue, Step, Run, Crash}
use Rattle.world_core.specs.World.{World}
use Rattle.world_core.specs.declared.world.WorldFault.{WorldFault}
use Rattle.world_core.specs.Bounded.{steps_of, WereFew, WasSoon, StepsSoon, CameSoon, RanSoon, RunsSoon, CrashesSoon, EachSoon, WorksSoon, calls_of, DoesSoon, ServesSoon, AnswersSoon, MakesFewCalls}
use Rattle.world_core.specs.Handled.{StepsLooked, StepsTo, MakesStep, ComesTo, RunsTo, Runs, Crashes, Does, Serves, Answers, Checkpoints, Works, WorksThrough, checkpoint_more, no_checkpoint, gone_through}
use Rattle.world_core.specs.Stands.{WorldStands}
use Rattle.world_core.specs.Span.{span_of}
use Rattle.std.proofs.lemmas.Option.{same_Some}

module _ (lines : List Line) (n : ℕ) (before after : Seen) (old new : World) (result : Result Reply WorldFault) (t : CloudState) (number : length lines + 1 ≡ n) (told : before.state ≡ Some t)
    (stands : WorldStands lines old t) where
  way : IsUnderWay lines old before
  way = way_begins lines before old t told stands.by_lines

  all_way : CountsAll (calls_told lines) way.after (session_at old.sessions)
  all_way = subst (λ (z : CloudState). CountsAll (calls_told lines) z (session_at old.sessions)) (same_Some t way.after (sym told ∙ way.told)) stands.counted

  module _ (k : ℕ) where
    abbrev who : Caller
    who = record { session = k; event = n }

    -- one call of the session
    one_few : (wish : Wish) (world : World) (turn : Turn Answer) (p : StepsLooked who wish (span_of before after old world) turn)
        → WereFew (calls_told lines k + 1) who wish (span_of before after old world) turn p
    one_few wish world turn p last seen =
        few_of lines who (sym number) (calls_told lines) wish before after old world turn way p (calls_told lines k)
        (begins_own lines k old way.after all_way) last seen

    was_soon : (wish : Wish) (r : Result Reply WorldFault) (h : StepsTo (record { session = k; event = n }) wish (span_of before after old new) r) → WasSoon lines (record { session = k; event = n }) wish (span_of before after old new) r h
    was_soon wish (Ok reply) made = one_few wish new made.turn made.steps
    was_soon wish (Err why) made = one_few wish made.left made.turn made.steps

    steps_soon : (wish : Wish) (h : MakesStep (record { session = k; event = n }) wish (span_of before after old new) result) → StepsSoon lines (record { session = k; event = n }) wish (span_of before after old new) result h
    steps_soon wish (inl refused) = tt
    steps_soon wish (inr (inl made)) = was_soon wish result made
    steps_soon wish (inr (inr memory)) = tt

    came_soon : (left : World) (answer : Answer) (c : ComesTo who (span_of before after old left) answer) → CameSoon lines (record { session = k; event = n }) (span_of before after old left) answer c
    came_soon left answer c = λ last seen.
        let gone = went_on lines who before old c.mid c.world (sym number) way c.went in
        let sum : (calls_told lines k + steps_of c.went) + 1 ≡ calls_told lines k + (steps_of c.went + 1) = omega arith in
        subst (λ (calls : ℕ). FewFor calls last c.steps.session.before.work) sum
        (few_of lines who (sym number) (calls_told lines) Plain c.mid after c.world left (Ended answer) gone c.steps
        (calls_told lines k + steps_of c.went)
        (went_counts lines who (sym number) (calls_told lines) before old c.mid c.world way all_way c.went gone.after gone.told) last seen)

    ran_soon : (r : Result Reply WorldFault) (h : RunsTo (record { session = k; event = n }) (span_of before after old new) r) → RanSoon lines (record { session = k; event = n }) (span_of before after old new) r h
    ran_soon (Ok reply) run = came_soon new run.answer run.comes
    ran_soon (Err why) run = came_soon run.left run.answer run.comes

    runs_soon : (h : Runs (record { session = k; event = n }) (span_of before after old new) result) → RunsSoon lines (record { session = k; event = n }) (span_of before after old new) result h
    runs_soon (inl refused) = tt
    runs_soon (inr (inl run)) = ran_soon result run
    runs_soon (inr (inr memory)) = tt

    crashes_soon : (done : Bool) (h : Crashes (record { session = k; event = n }) done (span_of before after old new) result) → CrashesSoon lines (record { session = k; event = n }) done (span_of before after old new) result h
    crashes_soon false h = tt
    crashes_soon true (inl idle) = tt
    crashes_soon true (inr (inl dies)) = one_few Plain dies.world dies.turn dies.steps
    crashes_soon true (inr (inr memory)) = tt

    -- each checkpoint that is due makes its own calls
    module _ (all_lines : List Line) (home : Home) (row : IsWorkersRow all_lines (worker k n)) (first : Sessions) where
      made_soon : (queue : QueueName) (from to : Seen) (world left : World) (a : Answer) → IsBetween k home first world → (h : HoldsWithin n all_lines world from) (mine : ℕ)
          → CountsAll (at k mine (calls_told lines)) h.state (session_at world.sessions) → (c : Checkpoints (worker k n) queue (span_of from to world left) a)
          → WereFew (calls_of (worker k n) (span_of from to c.begun left) a c.comes) (worker k n) Plain (span_of c.comes.mid to c.comes.world left) (Ended a) c.comes.steps
      made_soon queue from to world left a w h mine counts c = λ last seen.
          let begun = within_begun k home first queue world c.begun w c.begins in
          let held = holds_begun n all_lines k queue from world c.begun h c.begins in
          let none =
          subst (λ (z : CloudState). CountsAll (at k 0 (calls_told lines)) z (session_at c.begun.sessions)) (same_Some h.state held.state (sym h.told ∙ held.told))
          (begun_none (calls_told lines) k mine home queue h.state world c.begun w.works c.begins counts) in
          let gone = holds_went n k all_lines home row first from c.begun c.comes.mid c.comes.world begun held c.comes.went in
          worker_few n k all_lines home row first (calls_told lines) c.comes.mid to c.comes.world left (Ended a)
          (within_went (worker k n) home first from c.begun c.comes.mid c.comes.world begun c.comes.went) gone c.comes.steps (steps_of c.comes.went)
          (worker_went n k all_lines home row first (calls_told lines) from c.begun c.comes.mid c.comes.world begun held none c.comes.went gone.state gone.told) last seen

      each_soon : (from : Seen) (world : World) (queues : List QueueName) (done passed : ℕ) (to : Seen) (left : World) → IsBetween k home first world → (h : HoldsWithin n all_lines world from)
          → (mine : ℕ) → CountsAll (at k mine (calls_told lines)) h.state (session_at world.sessions) → (works : Works (worker k n) from world (gone_through queues done passed) to left)
          → EachSoon works
      each_soon from world queues done passed to left w h mine counts no_checkpoint = tt
      each_soon from world queues done passed to left w h mine counts (checkpoint_more others kept passes_by mid prior queue a _ _ works makes passes) =
          let gone = holds_works n k all_lines home row first from world others kept passes_by mid prior w h works in
          let was = works_none n k all_lines home row first (calls_told lines) from world others kept passes_by mid prior w h mine counts works gone.state gone.told in (
            each_soon from world others kept passes_by mid prior w h mine counts works,
            made_soon queue mid to prior left a (within_works (worker k n) home first from world others kept passes_by mid prior w works) gone was.0 was.1 makes,
          )

    works_soon : (h : WorksThrough (record { session = k; event = n }) (span_of before after old new) result) → WorksSoon (record { session = k; event = n }) (span_of before after old new) result h
    works_soon (inl refused) = tt
    works_soon (inr (inl down)) =
        let rest = open_rests k old down.opened in
        let q : Reply = reply.Worked 0 0 in
        let begins = worker_begins lines k n before old t (sym number) told stands.by_lines q tt in
        each_soon (lines ++ line_of (event.Work k) q ∷ []) rest.0 (worker_rows lines k n before old t (sym number) told stands.by_lines q) (session_at old.sessions) before old down.queues
        down.done down.passed after new rest.2 begins (calls_told lines k)
        (begins_own lines k old begins.state (subst (λ (z : CloudState). CountsAll (calls_told lines) z (session_at old.sessions)) (same_Some t begins.state (sym told ∙ begins.told)) stands.counted))
        down.works
    works_soon (inr (inr memory)) = tt

    does_soon : (request : Request) (h : Does (record { session = k; event = n }) request (span_of before after old new) result) → DoesSoon lines (record { session = k; event = n }) request (span_of before after old new) result h
    does_soon (Step wish) h = steps_soon wish h
    does_soon Run h = runs_soon h
    does_soon (Crash done) h = crashes_soon done h
    does_soon WorksDue h = works_soon h
    does_soon (Policy role kept) h = tt
    does_soon (Begin op) h = tt
    does_soon (Note noting) h = tt
    does_soon Abort h = tt

    serves_soon : (request : Result Request Refused) (h : Serves (record { session = k; event = n }) request (span_of before after old new) result) → ServesSoon lines (record { session = k; event = n }) request (span_of before after old new) result h
    serves_soon (Ok request) h = does_soon request h
    serves_soon (Err why) h = tt

  answers_soon : (asked : Asked) (h : Answers n asked (span_of before after old new) result) → AnswersSoon lines n asked (span_of before after old new) result h
  answers_soon (Session k request) (inl served) = serves_soon k request served.1
  answers_soon (Session k request) (inr none) = tt
  answers_soon (Wait ticks) h = tt
  answers_soon (Report tree) h = tt
  answers_soon Settle h = tt
  answers_soon (Sweep tree) h = tt

pub few_calls : (n : ℕ) (event : Event) (before after : Seen) (old new : World) (result : Result Reply WorldFault) → MakesFewCalls n event (span_of before after old new) result
few_calls n event before after old new result lines t number told stands handled =
    answers_soon lines n before after old new result t number told stands handled.asked handled.answers
