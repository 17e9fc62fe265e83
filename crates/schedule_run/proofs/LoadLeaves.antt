-- What a load leaves that came to its end.
use Rattle.std.proofs.Common.{◌≡◌, ◌≤◌, ◌<◌, ◌+◌, ◌⊎◌, inl, inr, ℕ, zero, suc, List, [], ◌∷◌, ◌++◌, length, take, drop, Option, Some, None, Result, Ok, Err, refl, sym, ap, subst, ◌∙◌, append_assoc, arith, length-append, Bool, true, false}
use Rattle.std.specs.Prelude.{slice_get, IfOk}
use Rattle.cloud_trait.specs.Traced.{IsTraced}
use Rattle.cloud_facts.specs.Words.{CommitAnswer, CloudState, Seen}
use Rattle.cloud_trait.specs.State.{IsEmptyCloud}
use Rattle.cloud_trait.specs.Upto.{upto}
use Rattle.db_base.specs.declared.trouble.CommitAnswer.TheVariants.{Committed, NotCommitted, InDoubt, CommittedOpen}
use Rattle.dump_take.proofs.OneDump.{have_dumped}
use Rattle.dump_take.specs.Taken.{AreDumped}
use Rattle.dump_text.specs.Dump.{IsDumpable}
use Rattle.dump_text.specs.declared.dump.DumpedTree.{DumpedTree}
use Rattle.event_text.specs.declared.event.Event.{Event}
use Rattle.event_text.specs.declared.event.Event.TheVariants as event
use Rattle.schedule_run.proofs.Loads.AtOnce.{FairLine, AllFair, fair_front, fair_next}
use Rattle.schedule_run.proofs.Loads.Commits.{load_commits}
use Rattle.schedule_run.proofs.Loads.Course.{Goes, goes_none, goes_alone, goes_run, IsGood, IsThrough, load_goes}
use Rattle.schedule_run.proofs.Loads.Dumps.{dump_parts}
use Rattle.schedule_run.proofs.Loads.Fair.{handled_fair}
use Rattle.schedule_run.proofs.Loads.Kept.{AllKept}
use Rattle.schedule_run.proofs.Loads.Lines.{with_run}
use Rattle.schedule_run.proofs.Loads.Loaded.{load_contents}
use Rattle.schedule_run.proofs.Loads.Withheld.{Withholds, withholds_on, handled_withholds, settle_delivers}
use Rattle.schedule_run.specs.Loads.Loaded.{HasContents, AreLogged}
use Rattle.load_plan.specs.Events.{load_events, parts_of, records_of}
use Rattle.replay_meaning.specs.Committed.{committed}
use Rattle.replay_meaning.specs.Standing.{Line, session_of, standing}
use Rattle.reply_text.specs.declared.reply.Reply.{Reply}
use Rattle.reply_text.specs.declared.reply.Reply.TheVariants as reply
use Rattle.world_core.specs.EachStep.{EachStep}
use Rattle.world_core.specs.Handled.{Handled}
use Rattle.world_core.specs.Settled.{LeavesNothing, LeftNothing, SettledLeaves}
use Rattle.world_core.specs.Stands.{WorldStands}
use Rattle.world_core.specs.World.{World}
use Rattle.world_core.specs.Span.{span_of}
use Rattle.schedule_run.specs.Answered.{WentOn, start, further, IsExplained, AreExplained, LeavesSo, AreKept, AcknowledgedStay, ReportsAreRight}
use Rattle.schedule_run.specs.Load.{goes_on, GoOn, LoadDone, LoadEnded}
use Rattle.schedule_run.specs.LoadLeft.{LeavesLoaded}
use Rattle.schedule_run.specs.Play.{Played}
use Rattle.schedule_run.specs.Shell.{IsWhole, alone, with_run as whole_run, AreWhole, no_events, more_events, WereRun}
use Rattle.schedule_run.specs.declared.load.LoadStop.{LoadStop}
use Rattle.schedule_run.specs.declared.load.Loaded.{Loaded}
use Rattle.schedule_run.proofs.GoingLemmas.{fresh_stands}
use Rattle.schedule_run.proofs.LoadAgain.{dumps_as}
use Rattle.schedule_run.proofs.LoadFronts.{push_same}
use Rattle.schedule_run.proofs.LoadLogged.{load_logs, whole_once}
use Rattle.schedule_run.proofs.SoundLemmas.{take_whole, each_more, went_soundly, same_some}
use Rattle.schedule_run.proofs.StayLemmas.{committed_upto}

-- ---- no line is answered at once with what only a run can say

went_fair : (before : Seen) (old : World) (t : CloudState) (lines : List Line) (after : Seen) (new : World) → WentOn before old lines after new → before.state ≡ Some t → WorldStands [] old t
    → AllFair lines
went_fair before old t lines after new start told stands = λ k line at. absurd (cc)
went_fair before old t lines after new (further earlier line mid _ world _ went handled) told stands =
    let o = went_soundly before old t earlier mid world went told stands in
    each_more FairLine earlier line (went_fair before old t earlier mid world went told stands)
    (handled_fair (length earlier + 1) mid after world new line.reply line.event (standing earlier 1) (o.stands.by_lines.acts 1) handled)

-- ---- the course of the lines

-- a load goes on by a good reply
good_reply : (e : Event) (r : Reply) → goes_on e r ≡ true → IsGood e r
good_reply (event.Open session client) (reply.Opened epoch) g = (epoch, refl)
good_reply (event.Open session client) r g = absurd (cc)
good_reply (event.Insert session tree key payload attr) reply.Noted g = refl
good_reply (event.Insert session tree key payload attr) r g = absurd (cc)
good_reply (event.Commit session) (reply.Commit (Committed txn)) g = (txn, refl)
good_reply (event.Commit session) (reply.Commit (NotCommitted t)) g = absurd (cc)
good_reply (event.Commit session) (reply.Commit InDoubt) g = absurd (cc)
good_reply (event.Commit session) (reply.Commit (CommittedOpen t)) g = absurd (cc)
good_reply (event.Commit session) r g = absurd (cc)
good_reply event.Settle (reply.Settled calls) g = (calls, refl)
good_reply event.Settle r g = absurd (cc)
good_reply e r g = tt

-- one event more at the end
goes_last : (events : List Event) (lines mid after : List Line) (e : Event) → Goes events lines mid → Goes (e ∷ []) mid after → Goes (events ++ e ∷ []) lines after
goes_last [] lines mid after e (goes_none _) last = last
goes_last (x ∷ events) lines mid after e (goes_alone _ _ r _ _ never good fair go) last =
    goes_alone x (events ++ e ∷ []) r lines after never good fair (goes_last events _ mid after e go last)
goes_last (x ∷ events) lines mid after e (goes_run _ _ r _ _ good fair go) last =
    goes_run x (events ++ e ∷ []) r lines after good fair (goes_last events _ mid after e go last)

-- the last of both
go_on_last : (events : List Event) (e : Event) (replies : List Reply) (r : Reply) → length replies ≡ length events → GoOn (events ++ e ∷ []) (replies ++ r ∷ [])
    → GoOn events replies × (goes_on e r ≡ true)
go_on_last [] e [] r same g = (tt, g.0)
go_on_last [] e (q ∷ replies) r same g = absurd (omega (arith, same))
go_on_last (x ∷ events) e [] r same g = absurd (omega (arith, same))
go_on_last (x ∷ events) e (q ∷ replies) r same g = let k = go_on_last events e replies r (omega (arith, same)) g.1 in ((g.0, k.0), k.1)

whole_length : (events : List Event) (lines : List Line) (replies : List Reply) → AreWhole events lines replies → length replies ≡ length events
whole_length events lines replies no_events = refl
whole_length events lines replies (more_events es e ls of_it rs r are is) =
    let k = whole_length es ls rs are in omega (arith, length-append es (e ∷ []), length-append rs (r ∷ []), k)

-- an event that was run whole
whole_goes : (lines : List Line) (e : Event) (of_it : List Line) (r : Reply) → IsWhole e of_it r → AllFair (lines ++ of_it) → goes_on e r ≡ true → Goes (e ∷ []) lines (lines ++ of_it)
whole_goes lines e of_it r (alone _ never) fair good =
    goes_alone e [] r lines (lines ++ record { event = e; reply = r } ∷ []) never (good_reply e r good) (fair_next lines (record { event = e; reply = r }) [] fair) (goes_none _)
whole_goes lines e of_it r (whole_run _) fair good =
    goes_run e [] r lines (lines ++ record { event = e; reply = reply.Begun } ∷ record { event = event.Run 1; reply = r } ∷ []) (good_reply e r good)
    (fair_next lines (record { event = e; reply = reply.Begun }) (record { event = event.Run 1; reply = r } ∷ []) fair)
    (subst (λ ls. Goes [] (with_run lines e r) ls) (append_assoc lines (record { event = e; reply = reply.Begun } ∷ []) (record { event = event.Run 1; reply = r } ∷ [])) (goes_none _))

are_whole_go : (events : List Event) (lines : List Line) (replies : List Reply) → AreWhole events lines replies → AllFair lines → GoOn events replies → Goes events [] lines
are_whole_go events lines replies no_events fair good = goes_none []
are_whole_go events lines replies (more_events es e ls of_it rs r are is) fair good =
    let g = go_on_last es e rs r (whole_length es ls rs are) good in
    goes_last es [] ls (ls ++ of_it) e (are_whole_go es ls rs are (fair_front ls of_it fair) g.0) (whole_goes ls e of_it r is fair g.1)

-- ---- the last line

-- the lines before the last one, and what is said of it
record LastLine (lines : List Line) (line : Line) (before : Seen) (old : World) (after : Seen) (new : World) : Type 0 where
  mid : Seen
  world : World
  went : WentOn before old lines mid world
  handled : Handled (length lines + 1) line.event (span_of mid after world new) (Ok line.reply)
  explained : IsExplained lines line (span_of mid after world new) handled

last_line : (before : Seen) (old : World) (all : List Line) (after : Seen) (new : World) → (went : WentOn before old all after new) → AreExplained before old all after new went
    → (lines : List Line) (line : Line) → all ≡ lines ++ line ∷ [] → LastLine lines line before old after new
last_line before old all after new start explained lines line e =
    let none : length (let none : List Line = [] in none) ≡ length (lines ++ line ∷ []) = ap length e in absurd (omega (arith, none, length-append lines (line ∷ [])))
last_line before old all after new (further earlier newest mid _ world _ went handled) explained lines line e =
    let same = push_same earlier lines newest line e in
    subst (λ ls. LastLine ls line before old after new) same.0
    (subst (λ l. LastLine earlier l before old after new) same.1 (record { mid = mid; world = world; went = went; handled = handled; explained = explained.1 }))

-- ---- what is left

went_withholds : (before : Seen) (old : World) (lines : List Line) (after : Seen) (new : World) → WentOn before old lines after new → Withholds before after
went_withholds before old lines after new start = omega arith
went_withholds before old lines after new (further earlier line mid _ world _ went handled) =
    withholds_on before mid after (went_withholds before old earlier mid world went) (handled_withholds (length earlier + 1) line.event mid after world new line.reply handled)

-- the settling left nothing where nothing was withheld
settling_left : (lines : List Line) (calls : ℕ) (before : Seen) (old : World) (after : Seen) (new : World)
    → LastLine lines (record { event = event.Settle; reply = reply.Settled calls }) before old after new → after.counts.withheld ≡ before.counts.withheld → LeftNothing after
settling_left lines calls before old after new last still =
    let first = went_withholds before old lines last.mid last.world last.went in
    last.explained.leaves (settle_delivers (length lines + 1) last.mid after last.world new (reply.Settled calls) last.handled (omega (arith, first, still)))

-- ---- the whole

-- what the lines acknowledged is among what they committed
all_kept : (lines : List Line) (world : World) (u : CloudState) → WorldStands lines world u → AcknowledgedStay lines u → AllKept lines (committed lines u)
all_kept lines world u stands stay =
    subst (λ es. AllKept lines es) (committed_upto lines (length lines) u stands.by_lines.holds.cloud.upto)
    (subst (λ ls. AreKept ls (committed ls (upto u (length lines)))) (take_whole lines (length lines) refl) (stay (length lines) (omega arith)).0)

pub load_leaves : (loaded : Loaded) (trees : List DumpedTree) (before now : Seen) → IsDumpable trees → LoadDone loaded trees before now → LeavesLoaded trees before now
load_leaves loaded trees before now dumpable done t told empty =
    (u, o.1, record { commits = load_commits trees; logged = logged; contents = has; nothing = nothing; dumped = is_dumped; again = λ still. dumps_as u now trees o.1 (is_dumped still) })
  where
    lines : List Line
    lines = done.run.lines

    played : Played true lines done.mid now done.play
    played = done.run.played

    world : World
    world = done.play.world

    told_mid : done.mid.state ≡ Some t
    told_mid = done.empty.looked.looked.stays t told

    o : (u : CloudState) × (now.state ≡ Some u) × WorldStands lines world u × ReportsAreRight lines u × IsTraced u
    o = played.stands t told_mid empty

    u : CloudState
    u = o.0

    kept : AllKept lines (committed lines u)
    kept =
        let k = played.theorem t told_mid empty in
        all_kept lines world u o.2 (subst (AcknowledgedStay lines) (same_some k.0 u (sym k.1 ∙ o.1)) k.5)

    through : IsThrough (parts_of trees) lines
    through =
        load_goes (parts_of trees) lines (dump_parts trees dumpable)
        (are_whole_go (load_events trees) lines _ done.run.whole
        (went_fair done.mid played.first t lines now world played.went told_mid (fresh_stands played.first t played.fresh empty)) done.well)

    logged : AreLogged u (records_of trees)
    logged =
        load_logs trees done.mid played.first t lines now world through.own u dumpable played.went played.fresh told_mid empty (fresh_stands played.first t played.fresh empty) o.1 o.2 o.4
        (whole_once trees lines _ done.run.whole) through.loading

    nothing : now.counts.withheld ≡ before.counts.withheld → LeavesNothing u
    nothing still =
        let last = last_line done.mid played.first lines now world played.went (played.explained t told_mid empty) through.before _ through.last in
        let left = settling_left through.before through.calls done.mid played.first now world last (still ∙ sym done.empty.looked.looked.withheld) in
        subst LeavesNothing (same_some left.state u (sym left.told ∙ o.1)) left.nothing

    has : now.counts.withheld ≡ before.counts.withheld → HasContents u trees
    has still = load_contents trees lines world u dumpable through o.2 kept (nothing still)

    is_dumped : now.counts.withheld ≡ before.counts.withheld → AreDumped u trees
    is_dumped still = have_dumped u trees dumpable (has still)

-- at the end of a load that was done
pub ended_leaves : (trees : List DumpedTree) (result : Result Loaded LoadStop) (before now : Seen) → IsDumpable trees → LoadEnded result trees before now
    → IfOk result (λ loaded. LeavesLoaded trees before now)
ended_leaves trees (Ok loaded) before now dumpable done = load_leaves loaded trees before now dumpable done
ended_leaves trees (Err stop) before now dumpable ended = tt
