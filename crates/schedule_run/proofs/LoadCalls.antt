-- The service calls of a load are plain steps of its session and of its settling.
use Rattle.std.proofs.Common.{◌≡◌, ◌⊎◌, ◌++◌, ◌∷◌, [], ℕ, List, Some, Result, Ok, Err, refl, sym, ap, subst, ◌∙◌, inl, inr}
use Rattle.cloud_facts.specs.Words.{CloudState, Caller, Seen}
use Rattle.client_work.specs.declared.answer.Answer.{Answer}
use Rattle.db_base.specs.declared.refusal.Refused.{Refused}
use Rattle.db_base.specs.declared.wish.Wish.TheVariants.{Plain}
use Rattle.dump_text.specs.declared.dump.DumpedTree.{DumpedTree}
use Rattle.event_text.specs.declared.event.Event.{Event}
use Rattle.event_text.specs.declared.event.Event.TheVariants as event
use Rattle.load_plan.specs.Events.{Placed, insert_of, load_events}
use Rattle.load_plan.specs.FirstLook.{Looked as LookedFirst, LooksAt, first_names}
use Rattle.load_plan.specs.declared.first_look.LookStop.{LookStop}
use Rattle.load_plan.specs.declared.first_look.LookStop.TheVariants as look
use Rattle.load_plan.proofs.EventLemmas.{Each, each_both, each_first, each_last, before_settling, load_split, load_each}
use Rattle.reply_text.specs.declared.reply.Reply.{Reply}
use Rattle.session_facts.specs.Lines.Errands.{settles}
use Rattle.world_core.specs.Asked.{Asks}
use Rattle.world_core.specs.Handled.{IsNewestCall, Went, start, further, StopsShort, FallsShort, ComesTo, Runs, RunsTo, Settles, SettlesOn, Does, Serves, Answers, Handled}
use Rattle.world_core.specs.World.{World}
use Rattle.world_core.specs.declared.asked.Asked.{Asked}
use Rattle.world_core.specs.declared.asked.Asked.TheVariants as asked
use Rattle.world_core.specs.declared.asked.Request.{Request}
use Rattle.world_core.specs.declared.asked.Request.TheVariants as request
use Rattle.world_core.specs.declared.world.WorldFault.{WorldFault}
use Rattle.world_core.specs.declared.world.WorldFault.TheVariants as world
use Rattle.world_core.specs.Span.{span_of}
use Rattle.world_core.proofs.Marks.{newest_call}
use Rattle.schedule_run.specs.InPlay.{Play}
use Rattle.schedule_run.specs.Load.{RanEach, ran_none, ran_more, StopsAt, stops_behind, stops_at, stops_before, Loads}
use Rattle.schedule_run.specs.PlainCalls.{IsLoader, CallsPlainly}
use Rattle.schedule_run.specs.Play.{IsNext, RanOut, uncounted, no_answer, IsRun, answered, answered_run, StopsRun, stops_event, stops_run}
use Rattle.schedule_run.specs.declared.load.LoadStop.{LoadStop}
use Rattle.schedule_run.specs.declared.load.Loaded.{Loaded}

-- ---- calls behind calls

plain_none : (a b : Seen) → b ≡ a → CallsPlainly a b
plain_none a b same x told = record { state = x; told = ap (λ (z : Seen). z.state) same ∙ told; waits = refl; last = inl refl }

-- the newest call is the same, or a plain one of the load
abbrev IsLast : CloudState → CloudState → Type 0
IsLast z y = (z.last ≡ y.last) ⊎ ((who : Caller) × IsLoader who.session × (z.last ≡ Some (who, Plain)))

pub plain_both : (a b c : Seen) → CallsPlainly a b → CallsPlainly b c → CallsPlainly a c
plain_both a b c first second x told =
    let p = first x told in
    let q = second p.state p.told in
    record { state = q.state; told = q.told; waits = q.waits ∙ p.waits; last = on q.state p.state x q.last p.last }
  where
    on : (z y x : CloudState) → IsLast z y → IsLast y x → IsLast z x
    on z y x (inl same) (inl before) = inl (same ∙ before)
    on z y x (inl same) (inr call) = inr (call.0, call.1, same ∙ call.2)
    on z y x (inr call) before = inr call

plain_stays : (a b : Seen) → ((x : CloudState) → a.state ≡ Some x → b.state ≡ Some x) → CallsPlainly a b
plain_stays a b stays x told = record { state = x; told = stays x told; waits = refl; last = inl refl }

plain_newest : (who : Caller) (a b : Seen) → IsLoader who.session → IsNewestCall who Plain a b → CallsPlainly a b
plain_newest who a b own newest x told = let y = newest x told in record { state = y.0; told = y.1; waits = y.3; last = inr (who, own, y.2) }

-- the first looks make none
pub plain_first : (result : Result (Unit {0}) LookStop) (a b : Seen) → LooksAt first_names result a b → CallsPlainly a b
plain_first result a b looks x told = record { state = x; told = (on result looks).stays x told; waits = refl; last = inl refl }
  where
    on : (r : Result (Unit {0}) LookStop) → LooksAt first_names r a b → LookedFirst a b
    on (Ok done) looks = looks.looked.looked
    on (Err (look.NotEmpty text)) looks = looks.ends.2.looked
    on (Err look.Failed) looks = looks.ends.looked
    on (Err look.Memory) looks = looks.ends.looked

-- ---- steps

went_plain : (who : Caller) (a : Seen) (old : World) (b : Seen) (new : World) → IsLoader who.session → Went who a old b new → CallsPlainly a b
went_plain who a old b new own start = plain_none a a refl
went_plain who a old b new own (further mid _ world _ went step) =
    plain_both a mid b (went_plain who a old mid world own went) (plain_newest who mid b own step.newest_call)

comes_plain : (who : Caller) (a b : Seen) (old new : World) (answer : Answer) → IsLoader who.session → ComesTo who (span_of a b old new) answer → CallsPlainly a b
comes_plain who a b old new answer own comes =
    plain_both a comes.mid b (went_plain who a old comes.mid comes.world own comes.went) (plain_newest who comes.mid b own comes.steps.newest_call)

falls_plain : (who : Caller) (a b : Seen) (old new : World) → IsLoader who.session → FallsShort who Plain (span_of a b old new) → CallsPlainly a b
falls_plain who a b old new own (inl uncalled) = plain_stays a b uncalled.looked.stays
falls_plain who a b old new own (inr unlooked) =
    plain_newest who a b own
    (newest_call who Plain a unlooked.from unlooked.under unlooked.to b who.session old.sessions new.sessions unlooked.turn unlooked.look_before unlooked.wishes unlooked.session unlooked.look_after)

short_plain : (who : Caller) (a b : Seen) (old new : World) → IsLoader who.session → StopsShort who (span_of a b old new) → CallsPlainly a b
short_plain who a b old new own stops =
    plain_both a stops.mid b (went_plain who a old stops.mid stops.world own stops.went)
    (falls_plain who stops.mid b stops.world stops.short.left own stops.short.falls)

runs_plain : (n number : ℕ) (a b : Seen) (old new : World) (result : Result Reply WorldFault) → IsLoader number → Runs (record { session = number; event = n }) (span_of a b old new) result → CallsPlainly a b
runs_plain n number a b old new result own (inl refused) = plain_none a b refused.declines.seen
runs_plain n number a b old new (Ok r) own (inr (inl run)) = comes_plain (record { session = number; event = n }) a b old new run.answer own run.comes
runs_plain n number a b old new (Err why) own (inr (inl run)) = comes_plain (record { session = number; event = n }) a b old run.left run.answer own run.comes
runs_plain n number a b old new result own (inr (inr memory)) = short_plain (record { session = number; event = n }) a b old new own memory.1

settles_plain : (n : ℕ) (a b : Seen) (old new : World) (result : Result Reply WorldFault) → Settles settles n (span_of a b old new) result → CallsPlainly a b
settles_plain n a b old new result (inl goes) = on goes.begun goes.settles
  where
    on : (begun : World) → SettlesOn settles (record { session = 0; event = n }) (span_of a b begun new) result → CallsPlainly a b
    on begun (inl to) = comes_plain (record { session = 0; event = n }) a b begun to.left to.answer (inl refl) to.comes
    on begun (inr memory) = short_plain (record { session = 0; event = n }) a b begun memory.1.left (inl refl) memory.1.stops
settles_plain n a b old new result (inr memory) = plain_none a b memory.1.seen

-- ---- lines

abbrev IsPlainRequest : Request → Type 0
IsPlainRequest (request.Begin op) = Unit {0}
IsPlainRequest (request.Note noting) = Unit {0}
IsPlainRequest request.Run = Unit {0}
IsPlainRequest r = ⊥

abbrev IsPlainServed : Result Request Refused → Type 0
IsPlainServed (Ok r) = IsPlainRequest r
IsPlainServed (Err why) = Unit {0}

-- it begins, notes or runs something of session 1, or settles
abbrev IsPlainAsked : Asked → Type 0
IsPlainAsked (asked.Session number r) = (number ≡ 1) × IsPlainServed r
IsPlainAsked asked.Settle = Unit {0}
IsPlainAsked (asked.Wait ticks) = ⊥
IsPlainAsked (asked.Report tree) = ⊥
IsPlainAsked (asked.Sweep tree) = ⊥

abbrev pub IsPlainLine : Event → Type 0
IsPlainLine e = (q : Asked) → Asks e q → IsPlainAsked q

does_plain : (n number : ℕ) (r : Request) (a b : Seen) (old new : World) (result : Result Reply WorldFault) → IsLoader number → IsPlainRequest r → Does (record { session = number; event = n }) r (span_of a b old new) result → CallsPlainly a b
does_plain n number (request.Begin op) a b old new result own plain does = plain_none a b does.0.seen
does_plain n number (request.Note noting) a b old new result own plain does = plain_none a b does.0.seen
does_plain n number request.Run a b old new result own plain does = runs_plain n number a b old new result own does
does_plain n number r a b old new result own plain does = absurd plain

serves_plain : (n number : ℕ) (r : Result Request Refused) (a b : Seen) (old new : World) (result : Result Reply WorldFault) → IsLoader number → IsPlainServed r
    → Serves (record { session = number; event = n }) r (span_of a b old new) result → CallsPlainly a b
serves_plain n number (Ok r) a b old new result own plain serves = does_plain n number r a b old new result own plain serves
serves_plain n number (Err why) a b old new result own plain serves = plain_none a b serves.seen

answers_plain : (n : ℕ) (q : Asked) (a b : Seen) (old new : World) (result : Result Reply WorldFault) → IsPlainAsked q → Answers n q (span_of a b old new) result → CallsPlainly a b
answers_plain n (asked.Session number r) a b old new result plain (inl serves) = serves_plain n number r a b old new result (inr plain.0) plain.1 serves.1
answers_plain n (asked.Session number r) a b old new result plain (inr none) = plain_none a b none.declines.seen
answers_plain n asked.Settle a b old new result plain answers = settles_plain n a b old new result answers
answers_plain n (asked.Wait ticks) a b old new result plain answers = absurd plain
answers_plain n (asked.Report tree) a b old new result plain answers = absurd plain
answers_plain n (asked.Sweep tree) a b old new result plain answers = absurd plain

handled_plain : (n : ℕ) (e : Event) (a b : Seen) (old new : World) (result : Result Reply WorldFault) → IsPlainLine e → Handled n e (span_of a b old new) result → CallsPlainly a b
handled_plain n e a b old new result plain handled = answers_plain n handled.asked a b old new result (plain handled.asked handled.asks) handled.answers

-- ---- the lines of a load

plain_opening : IsPlainLine (event.Open 1 1)
plain_opening (asked.Session number (Ok r)) (one, (client, is)) = (one, subst IsPlainRequest (sym is) tt)
plain_opening (asked.Session number (Err why)) asks = (asks.0, tt)
plain_opening asked.Settle asks = tt
plain_opening (asked.Wait ticks) asks = absurd asks
plain_opening (asked.Report tree) asks = absurd asks
plain_opening (asked.Sweep tree) asks = absurd asks

plain_insert : (p : Placed) → IsPlainLine (insert_of p)
plain_insert p (asked.Session number (Ok (request.Note noting))) asks = (asks.0, tt)
plain_insert p (asked.Session number (Ok r)) asks = absurd asks.1
plain_insert p (asked.Session number (Err why)) asks = (asks.0, tt)
plain_insert p asked.Settle asks = tt
plain_insert p (asked.Wait ticks) asks = absurd asks
plain_insert p (asked.Report tree) asks = absurd asks
plain_insert p (asked.Sweep tree) asks = absurd asks

plain_commit : IsPlainLine (event.Commit 1)
plain_commit (asked.Session number r) asks = (asks.0, subst IsPlainServed (sym asks.1) tt)
plain_commit asked.Settle asks = tt
plain_commit (asked.Wait ticks) asks = absurd asks
plain_commit (asked.Report tree) asks = absurd asks
plain_commit (asked.Sweep tree) asks = absurd asks

plain_checkpoint : (tree : ℕ) → IsPlainLine (event.Tree 1 tree)
plain_checkpoint tree (asked.Session number (Ok r)) (one, (of, is)) = (one, subst IsPlainRequest (sym is) tt)
plain_checkpoint tree (asked.Session number (Err why)) asks = (asks.0, tt)
plain_checkpoint tree asked.Settle asks = tt
plain_checkpoint tree (asked.Wait ticks) asks = absurd asks
plain_checkpoint tree (asked.Report of) asks = absurd asks
plain_checkpoint tree (asked.Sweep of) asks = absurd asks

plain_renewal : IsPlainLine (event.Renew 1)
plain_renewal (asked.Session number r) asks = (asks.0, subst IsPlainServed (sym asks.1) tt)
plain_renewal asked.Settle asks = tt
plain_renewal (asked.Wait ticks) asks = absurd asks
plain_renewal (asked.Report tree) asks = absurd asks
plain_renewal (asked.Sweep tree) asks = absurd asks

plain_closing : IsPlainLine (event.Close 1)
plain_closing (asked.Session number r) asks = (asks.0, subst IsPlainServed (sym asks.1) tt)
plain_closing asked.Settle asks = tt
plain_closing (asked.Wait ticks) asks = absurd asks
plain_closing (asked.Report tree) asks = absurd asks
plain_closing (asked.Sweep tree) asks = absurd asks

plain_run : IsPlainLine (event.Run 1)
plain_run (asked.Session number r) asks = (asks.0, subst IsPlainServed (sym asks.1) tt)
plain_run asked.Settle asks = tt
plain_run (asked.Wait ticks) asks = absurd asks
plain_run (asked.Report tree) asks = absurd asks
plain_run (asked.Sweep tree) asks = absurd asks

plain_settling : IsPlainLine event.Settle
plain_settling q asks = subst IsPlainAsked (sym asks) tt

load_plain : (trees : List DumpedTree) → Each IsPlainLine (load_events trees)
load_plain trees =
    subst (λ es. Each IsPlainLine es) (load_split trees)
    (each_both IsPlainLine (before_settling trees) (event.Settle ∷ [])
    (load_each IsPlainLine
    (record { opens = plain_opening; inserts = plain_insert; commits = plain_commit; folds = plain_checkpoint; renews = plain_renewal; closes = plain_closing }) trees)
    (plain_settling, tt))

-- ---- events that are run whole

run_plain : (e : Event) (r : Reply) (a b : Seen) (old new : Play) → IsPlainLine e → IsRun e r a b old new → CallsPlainly a b
run_plain e r a b old new plain (answered other next) = handled_plain new.handled e a b old.world new.world (Ok r) plain next.handled
run_plain e r a b old new plain (answered_run mid play first last) =
    plain_both a mid b (handled_plain play.handled e a mid old.world play.world (Ok _) plain first.handled)
    (handled_plain new.handled (event.Run 1) mid b play.world new.world (Ok r) plain_run last.handled)

out_plain : (e : Event) (a b : Seen) (old new : Play) → IsPlainLine e → RanOut e a b old new → CallsPlainly a b
out_plain e a b old new plain (uncounted same) = plain_none a b same
out_plain e a b old new plain (no_answer handled grows) = handled_plain _ e a b old.world new.world (Err world.Memory) plain handled

stops_plain : (e : Event) (a b : Seen) (old new : Play) → IsPlainLine e → StopsRun e a b old new → CallsPlainly a b
stops_plain e a b old new plain (stops_event out) = out_plain e a b old new plain out
stops_plain e a b old new plain (stops_run mid play first out) =
    plain_both a mid b (handled_plain play.handled e a mid old.world play.world (Ok _) plain first.handled) (out_plain (event.Run 1) mid b play new plain_run out)

each_plain : (a : Seen) (old : Play) (events : List Event) (replies : List Reply) (b : Seen) (new : Play) → Each IsPlainLine events → RanEach a old events replies b new → CallsPlainly a b
each_plain a old _ _ b new plain ran_none = plain_none a a refl
each_plain a old _ _ b new plain (ran_more events e replies r mid _ play _ ran none run) =
    plain_both a mid b (each_plain a old events replies mid play (each_first IsPlainLine events (e ∷ []) plain) ran)
    (run_plain e r mid b play new (each_last IsPlainLine events e [] plain) run)

-- ---- a load

pub load_calls : (trees : List DumpedTree) (result : Result Loaded LoadStop) (a b : Seen) (old new : Play) → Loads trees result a b old new → CallsPlainly a b
load_calls trees (Ok loaded) a b old new went = each_plain a old (load_events trees) _ b new (load_plain trees) went.ran
load_calls trees (Err stop) a b old new stops = on stops
  where
    parted : (earlier later : List Event) → load_events trees ≡ earlier ++ later → Each IsPlainLine (earlier ++ later)
    parted earlier later at = subst (λ es. Each IsPlainLine es) at (load_plain trees)

    on : StopsAt (load_events trees) stop a b old → CallsPlainly a b
    on (stops_behind earlier later e r mid play last at went none run ends is) =
        plain_both a mid b
        (each_plain a old earlier went.replies mid play (each_first IsPlainLine earlier (e ∷ later) (parted earlier (e ∷ later) at)) went.ran)
        (run_plain e r mid b play last (each_last IsPlainLine earlier e later (parted earlier (e ∷ later) at)) run)
    on (stops_at earlier later e mid play last at went none stops is) =
        plain_both a mid b
        (each_plain a old earlier went.replies mid play (each_first IsPlainLine earlier (e ∷ later) (parted earlier (e ∷ later) at)) went.ran)
        (stops_plain e mid b play last (each_last IsPlainLine earlier e later (parted earlier (e ∷ later) at)) stops)
    on (stops_before earlier later play at went is) =
        each_plain a old earlier went.replies b play (each_first IsPlainLine earlier later (parted earlier later at)) went.ran
