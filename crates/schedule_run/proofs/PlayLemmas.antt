-- A world that handles one event behind another.
use Rattle.std.proofs.Common.{◌≡◌, ◌<◌, ◌+◌, ◌^◌, ℕ, Bool, true, false, refl, List, [], ◌∷◌, ◌++◌, length, take, Some, Result, Ok, Err, sym, subst, arith, length-append}
use Rattle.std.proofs.lemmas.Option.{slice_get_within}
use Rattle.cloud_trait.proofs.TracedLemmas.{empty_traced}
use Rattle.cloud_trait.specs.Seen.{Seen}
use Rattle.cloud_trait.specs.Traced.{IsTraced}
use Rattle.cloud_trait.specs.Upto.{upto, AgreeUpto}
use Rattle.event_text.specs.declared.event.Event.{Event}
use Rattle.event_text.specs.declared.event.Event.TheVariants.{Run}
use Rattle.reply_text.specs.declared.reply.Reply.{Reply}
use Rattle.reply_text.specs.declared.reply.Reply.TheVariants.{Begun}
use Rattle.cloud_trait.specs.State.{CloudState, IsEmptyCloud}
use Rattle.replay_meaning.specs.Standing.{Line}
use Rattle.world_core.specs.World.{World}
use Rattle.world_core.specs.declared.world.WorldFault.{WorldFault}
use Rattle.world_core.specs.declared.world.WorldFault.TheVariants as world
use Rattle.world_core.specs.Handled.{Handled}
use Rattle.world_core.specs.Quota.{SpendsQuota}
use Rattle.world_core.specs.Stands.{WorldStands, StandsOn, Grows}
use Rattle.world_core.specs.Span.{span_of}
use Rattle.world_core.proofs.Caused.{caused}
use Rattle.schedule_run.specs.InPlay.{Play}
use Rattle.schedule_run.specs.Answered.{IsNew, WentOn, start, further, IsNoReport, AskNoReport, ReportsCome, ReportsAreRight, KeepsTheTheorem}
use Rattle.schedule_run.specs.Play.{IsFresh, IsNext, RanOut, uncounted, no_answer, Takes, answered_run, stops_run, RunsWhole, Played, StoppedAt, stopped_before, stopped_within}
use Rattle.schedule_run.proofs.BehindLemmas.{lines_left, lines_settled}
use Rattle.schedule_run.proofs.GoingLemmas.{stands_more, fresh_stands, replies_sound, lines_explained, lines_metered, reports_come, report_same, acts_upto, acknowledged_stay, keeps_now}
use Rattle.schedule_run.proofs.CausedLemmas.{lines_caused, lines_told}
use Rattle.schedule_run.proofs.OnceLemmas.{went_adds, lines_once, unanswered_short, unanswered_kinds, unanswered_once}
use Rattle.schedule_run.proofs.SeeingLemmas.{unasked_more}
use Rattle.schedule_run.proofs.StayLemmas.{stay_upto}

-- where no look failed reports come, also where nothing looked and none was asked for
reports_of : (blind : Bool) (lines : List Line) (s t : Seen) (first world : World) (x : CloudState) → WentOn s first lines t world → IsNew blind first → (blind ≡ true → AskNoReport lines)
    → s.state ≡ Some x → IsEmptyCloud x → ReportsCome lines s t
reports_of false lines s t first world x went fresh unasked told empty = reports_come lines s t first world x went fresh told empty
reports_of true lines s t first world x went fresh unasked told empty = λ still k line tree at asked is. absurd (unasked refl k line at tree asked)

-- nothing is handled yet
pub played_nothing : {blind : Bool} → (s : Seen) (play : Play) → IsFresh blind play → Played blind [] s s play
played_nothing {blind} s play fresh = record {
  count = fresh.none;
  first = play.world;
  fresh = fresh.world;
  unasked = none;
  went = start;
  kinds = λ t told. went_adds s play.world t told fresh.world [] s play.world start;
  once = lines_once [] s s play.world play.world start fresh.world;
  caused = tt;
  told = tt;
  settled = λ t told runs. tt;
  left = lines_left [] s s play.world play.world start fresh.world;
  stands = stands;
  theorem = keeps_now [] s s play.world play.world start fresh.world stands;
  explained = λ t told empty. tt;
  metered = λ t told empty. tt;
  reports = λ t told empty. reports_of blind [] s s play.world play.world t start fresh.world none told empty;
}
  where
    none : blind ≡ true → AskNoReport []
    none b k line at tree asked = absurd (cc)

    stands : (t : CloudState) → s.state ≡ Some t → IsEmptyCloud t
        → (u : CloudState) × (s.state ≡ Some u) × WorldStands [] play.world u × ReportsAreRight [] u × IsTraced u
    stands t told empty = (t, told, fresh_stands play.world t fresh.world empty, λ k line at. absurd (cc), empty_traced t empty)

-- one event more
pub played_more : {blind : Bool} → (lines : List Line) (event : Event) (reply : Reply) (s t z : Seen) (old new : Play)
    → Played blind lines s t old → (blind ≡ true → IsNoReport event) → IsNext event reply t z old new → Played blind (lines ++ record { event = event; reply = reply } ∷ []) s z new
played_more {blind} lines event reply s t z old new p none n =
    let line : Line = record { event = event; reply = reply } in
    let c : old.handled ≡ length lines = p.count in
    let d : new.handled ≡ old.handled + 1 = n.count in
    let at : new.handled ≡ length lines + 1 = omega arith in
    let went : WentOn s p.first (lines ++ line ∷ []) z new.world = further lines line t z old.world new.world p.went (subst (λ j. Handled j event (span_of t z old.world new.world) (Ok reply)) at n.handled) in
    record {
      count = omega (arith, length-append lines (line ∷ []));
      first = p.first;
      fresh = p.fresh;
      unasked = unasked;
      went = went;
      kinds = λ x told. went_adds s p.first x told p.fresh (lines ++ line ∷ []) z new.world went;
      once = lines_once (lines ++ line ∷ []) s z p.first new.world went p.fresh;
      caused = lines_caused s p.first (lines ++ line ∷ []) z new.world went;
      told = lines_told s p.first (lines ++ line ∷ []) z new.world went;
      settled = lines_settled (lines ++ line ∷ []) s z p.first new.world went p.fresh;
      left = lines_left (lines ++ line ∷ []) s z p.first new.world went p.fresh;
      stands = stands at;
      theorem = keeps_now (lines ++ line ∷ []) s z p.first new.world went p.fresh (stands at);
      explained = λ x told empty. lines_explained (lines ++ line ∷ []) s z p.first new.world x went p.fresh told empty;
      metered = λ x told empty. lines_metered (lines ++ line ∷ []) s z p.first new.world x went p.fresh told empty;
      reports = λ x told empty. reports_of blind (lines ++ line ∷ []) s z p.first new.world x went p.fresh unasked told empty;
    }
  where
    one : Line
    one = record { event = event; reply = reply }

    unasked : blind ≡ true → AskNoReport (lines ++ one ∷ [])
    unasked b = unasked_more lines one (p.unasked b) (none b)

    stands : new.handled ≡ length lines + 1 → (x : CloudState) → s.state ≡ Some x → IsEmptyCloud x
        → (u : CloudState) × (z.state ≡ Some u) × WorldStands (lines ++ one ∷ []) new.world u × ReportsAreRight (lines ++ one ∷ []) u × IsTraced u
    stands at x told empty = let o = p.stands x told empty in stands_more lines one new.handled t z old.world new.world (omega (arith, at)) n.stands n.grows o.0 o.1 o.2 o.3 o.4

-- what was handled keeps the theorem where a later event grew the cloud
keeps_behind : {blind : Bool} → (lines : List Line) (n : ℕ) (s t z : Seen) (play : Play) → Played blind lines s t play → n ≡ length lines + 1 → Grows n t z → KeepsTheTheorem lines s z
keeps_behind lines n s t z play p count grows x told empty =
    let o = p.stands x told empty in
    let g = grows o.0 o.1 in (
      g.0,
      g.1,
      λ k line at.
          let within : k < length lines = slice_get_within lines k line at in
          let a : AgreeUpto (k + 1) o.0 g.0 = g.2 (k + 1) (omega arith) in
          report_same (take (k + 1) lines) (upto o.0 (k + 1)) (upto g.0 (k + 1)) line.reply (record { versions = a.versions; messages = a.messages; trace = a.trace }) (o.3 k line at),
      replies_sound lines s t p.first play.world x p.went p.fresh told empty,
      acts_upto lines play.world o.0 g.0 o.2 (g.2 (length lines) (omega (arith, count))),
      stay_upto lines o.0 g.0 (λ j within. g.2 j (omega (arith, count))) (acknowledged_stay lines s t p.first play.world x o.0 p.went p.fresh told empty o.1),
      g.3 o.4,
    )

-- memory ran out at the next event
pub stopped_at : {blind : Bool} → (lines : List Line) (event : Event) (s t z : Seen) (old new : Play) → Played blind lines s t old → RanOut event t z old new → StoppedAt blind event lines s z
stopped_at {blind} lines event s t z old new p (uncounted same) = stopped_before old (subst (λ x. Played blind lines s x old) (sym same) p)
stopped_at lines event s t z old new p (no_answer handled grows) =
    let c : old.handled ≡ length lines = p.count in
    let at : old.handled + 1 ≡ length lines + 1 = omega arith in
    stopped_within
    (record {
      mid = t;
      answered = record {
        first = p.first;
        fresh = p.fresh;
        last = old.world;
        went = p.went;
        explained = p.explained;
        metered = p.metered;
        settled = p.settled;
        left = p.left;
        reports = p.reports;
        kinds = p.kinds;
        once = p.once;
        caused = p.caused;
        told = p.told;
      };
      last = new.world;
      handled = own at;
      short = unanswered_short lines event world.Memory s t z p.first old.world new.world p.went p.fresh (own at);
      kinds = unanswered_kinds lines event world.Memory s t z p.first old.world new.world p.went p.fresh (own at);
      once = unanswered_once lines event world.Memory s t z p.first old.world new.world p.went p.fresh (own at);
      caused = caused (length lines + 1) event t z old.world new.world (Err world.Memory) (own at);
    })
    (keeps_behind lines (old.handled + 1) s t z old p at grows)
  where
    own : old.handled + 1 ≡ length lines + 1 → Handled (length lines + 1) event (span_of t z old.world new.world) (Err world.Memory)
    own at = subst (λ j. Handled j event (span_of t z old.world new.world) (Err world.Memory)) at handled

-- an event under the next number has no reply
pub found_no_memory : (event : Event) (m : ℕ) (t z : Seen) (old new : Play) (fault : WorldFault) → m ≡ old.handled + 1
    → Handled m event (span_of t z old.world new.world) (Err fault) → Grows m t z → RanOut event t z old new
found_no_memory event m t z old new world.Memory next handled grows =
    no_answer (subst (λ j. Handled j event (span_of t z old.world new.world) (Err world.Memory)) next handled) (subst (λ j. Grows j t z) next grows)

-- whatever its result, the next event was taken
pub takes_next : (event : Event) (result : Result Reply WorldFault) (t z : Seen) (old new : Play) → new.handled ≡ old.handled + 1 → new.handled < 2 ^ 64
    → Handled new.handled event (span_of t z old.world new.world) result → StandsOn new.handled event (span_of t z old.world new.world) result → Grows new.handled t z
    → SpendsQuota t z old.left new.left → Takes event result t z old new
takes_next event (Ok reply) t z old new next within handled stands grows spends =
    record { count = next; within = within; handled = handled; stands = stands; grows = grows; spends = spends }
takes_next event (Err fault) t z old new next within handled stands grows spends = found_no_memory event new.handled t z old new fault next handled grows

-- an operation that an event began is run behind it
pub run_behind : (event : Event) (result : Result Reply WorldFault) (s t z : Seen) (old mid new : Play) → IsNext event Begun s t old mid → Takes (Run 1) result t z mid new
    → RunsWhole event result s z old new
run_behind event (Ok reply) s t z old mid new begun takes = answered_run t mid begun takes
run_behind event (Err fault) s t z old mid new begun takes = stops_run t mid begun takes
