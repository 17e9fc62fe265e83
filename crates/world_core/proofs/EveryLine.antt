-- Every line keeps what stands.
use Rattle.std.proofs.Common.{◌≡◌, ◌+◌, ℕ, List, [], ◌∷◌, ◌++◌, length, Some, Result, Ok, Err, refl, subst, inl, inr}
use Rattle.db_base.specs.Ids.{IsSession}
use Rattle.db_base.specs.declared.refusal.Refused.{Refused}
use Rattle.event_text.specs.declared.event.Event.{Event}
use Rattle.event_text.specs.declared.event.Event.TheVariants as event
use Rattle.reply_text.specs.declared.reply.Reply.{Reply}
use Rattle.cloud_trait.specs.State.{CloudState}
use Rattle.cloud_trait.specs.Seen.{Seen}
use Rattle.client_work.specs.declared.op.Op.TheVariants as op
use Rattle.replay_meaning.specs.Standing.{Line, Standing, after_own, session_of, joins}
use Rattle.session_facts.proofs.Lines.More.{line_of}
use Rattle.world_core.specs.World.{World}
use Rattle.world_core.specs.declared.asked.Noting.{Noting}
use Rattle.world_core.specs.declared.asked.Request.{Request}
use Rattle.world_core.specs.declared.asked.Request.TheVariants.{Begin, Note, Abort, Policy, Work as WorksDue, Step, Run, Crash}
use Rattle.world_core.specs.declared.asked.Asked.{Asked}
use Rattle.world_core.specs.declared.asked.Asked.TheVariants.{Session, Wait, Report, Settle, Sweep}
use Rattle.world_core.specs.Asked.{noting_of, bound_of, IsOpening, IsReading, IsScanning, IsLookingUp, IsPaging, IsFolding, IsNoted, IsStep, OfSession, Asks}
use Rattle.world_core.specs.Sessions.{joined}
use Rattle.world_core.specs.Handled.{MakesNoCall, Does, Answers, Handled}
use Rattle.world_core.specs.Span.{span_of}
use Rattle.world_core.proofs.Behind.{LinesStand, LineLeaves}
use Rattle.session_facts.specs.Lines.Errands.{settles, sweeps}
use Rattle.world_core.proofs.StandsLemmas.{Ready, declines, runs, makes_step, crashes, policies, goes_errand, waits, reports}
use Rattle.world_core.proofs.Workers.{works_through}
use Rattle.world_core.proofs.BeginLemmas.{opening_begun, read_begun, scan_begun, look_begun, paging_begun, close_begun, renewal_begun, folding_begun, commit_begun, notes, aborts}

-- the line of a session, and what is known before it is looked at
pub record Served (lines : List Line) (n k : ℕ) (t : CloudState) (before : Seen) (old : World) : Type 0 where
  pub session : IsSession k
  pub at : length lines + 1 ≡ n
  pub told : before.state ≡ Some t
  pub stands : LinesStand lines old t

ready_of : (lines : List Line) (event : Event) (n k : ℕ) (before after : Seen) (old new : World) (t : CloudState) → session_of event ≡ k → Served lines n k t before old
    → MakesNoCall (span_of before after old new) → Ready lines event k (span_of before after old new) t
ready_of lines event n k before after old new t own s quiet = record { own = own; some = s.session.some; quiet = quiet; told = s.told; stands = s.stands }

-- a request to a session is served, or it is not done
request_stands : (n k : ℕ) (event : Event) (Is : Result Request Refused → Type 0) (asked : Asked) (before after : Seen) (old new : World) (r : Reply) (lines : List Line) (t : CloudState)
    → OfSession k Is asked → Answers n asked (span_of before after old new) (Ok r) → length lines + 1 ≡ n → before.state ≡ Some t → LinesStand lines old t
    → ((request : Request) → Served lines n k t before old → Is (Ok request) → Does (record { session = k; event = n }) request (span_of before after old new) (Ok r) → LineLeaves (lines ++ line_of event r ∷ []) new after r)
    → LineLeaves (lines ++ line_of event r ∷ []) new after r
request_stands n k event Is (Session number (Ok request)) before after old new r lines t belongs (inl p) at told stands served =
    served request
    (record { session = subst IsSession belongs.0 p.0; at = at; told = told; stands = stands }) belongs.1
    (subst (λ j. Does (record { session = j; event = n }) request (span_of before after old new) (Ok r)) belongs.0 p.1)
request_stands n k event Is (Session number (Err why)) before after old new r lines t belongs (inl p) at told stands served =
    declines lines event r why before after old new t p.1 told stands
request_stands n k event Is (Session number request) before after old new r lines t belongs (inr none) at told stands served =
    declines lines event r _ before after old new t none.declines told stands
request_stands n k event Is (Wait ticks) before after old new r lines t belongs answers at told stands served = absurd belongs
request_stands n k event Is (Report tree) before after old new r lines t belongs answers at told stands served = absurd belongs
request_stands n k event Is Settle before after old new r lines t belongs answers at told stands served = absurd belongs
request_stands n k event Is (Sweep tree) before after old new r lines t belongs answers at told stands served = absurd belongs

-- ---- a change is noted

noted_line : (lines : List Line) (event : Event) (n k : ℕ) (noting : Noting) (request : Request) (before after : Seen) (old new : World) (r : Reply) (t : CloudState)
    → session_of event ≡ k → ((q : Reply) (s : Standing) → after_own event q s ≡ joins (joined noting) q s)
    → Served lines n k t before old → IsNoted noting (Ok request) → Does (record { session = k; event = n }) request (span_of before after old new) (Ok r) → LineLeaves (lines ++ line_of event r ∷ []) new after r
noted_line lines event n k noting (Note asked) before after old new r t own does s is done =
    let h : Does (record { session = k; event = n }) (Note noting) (span_of before after old new) (Ok r) = subst (λ j. Does (record { session = k; event = n }) (Note j) (span_of before after old new) (Ok r)) is.0 done in
    notes lines event k noting r before after old new t is.1 is.2 does (ready_of lines event n k before after old new t own s h.0) h.1
noted_line lines event n k noting (Policy role number) before after old new r t own does s is done = absurd is
noted_line lines event n k noting WorksDue before after old new r t own does s is done = absurd is
noted_line lines event n k noting (Begin o) before after old new r t own does s is done = absurd is
noted_line lines event n k noting Abort before after old new r t own does s is done = absurd is
noted_line lines event n k noting (Step wish) before after old new r t own does s is done = absurd is
noted_line lines event n k noting Run before after old new r t own does s is done = absurd is
noted_line lines event n k noting (Crash d) before after old new r t own does s is done = absurd is

-- what is done is what was asked
pub does_own : (n k : ℕ) (request own : Request) (before after : Seen) (old new : World) (r : Reply) → request ≡ own → Does (record { session = k; event = n }) request (span_of before after old new) (Ok r)
    → Does (record { session = k; event = n }) own (span_of before after old new) (Ok r)
does_own n k request own before after old new r is done = subst (λ z. Does (record { session = k; event = n }) z (span_of before after old new) (Ok r)) is done

pub asked_is : (request own : Request) → (let a : Result Request Refused = Ok request in let b : Result Request Refused = Ok own in a ≡ b) → request ≡ own
asked_is request own e = cc

asked_stands : (n : ℕ) (event : Event) (asked : Asked) (before after : Seen) (old new : World) (r : Reply) (lines : List Line) (t : CloudState)
    → Asks event asked → Answers n asked (span_of before after old new) (Ok r) → length lines + 1 ≡ n → before.state ≡ Some t → LinesStand lines old t
    → LineLeaves (lines ++ line_of event r ∷ []) new after r
asked_stands n (event.Open k client) asked before after old new r lines t asks answers at told stands =
    request_stands n k (event.Open k client) (IsOpening client) asked before after old new r lines t asks answers at told stands
    (λ request s is done.
    let h = does_own n k request (Begin (op.Open client)) before after old new r is.1 done in
    opening_begun lines k client r before after old new t is.0 (ready_of lines (event.Open k client) n k before after old new t refl s h.0) h.1)
asked_stands n (event.Read k tree key) asked before after old new r lines t asks answers at told stands =
    request_stands n k (event.Read k tree key) (IsReading tree key) asked before after old new r lines t asks answers at told stands
    (λ request s is done.
    let h = does_own n k request (Begin (op.Read tree key)) before after old new r is.2 done in
    read_begun lines k tree key r before after old new t is.0 (ready_of lines (event.Read k tree key) n k before after old new t refl s h.0) h.1)
asked_stands n (event.Scan k tree first last) asked before after old new r lines t asks answers at told stands =
    request_stands n k (event.Scan k tree first last) (IsScanning tree first last) asked before after old new r lines t asks answers at told stands
    (λ request s is done.
    let h = does_own n k request (Begin (op.Scan tree (bound_of first) (bound_of last))) before after old new r is.3 done in
    scan_begun lines k tree first last r before after old new t is.0 (ready_of lines (event.Scan k tree first last) n k before after old new t refl s h.0) h.1)
asked_stands n (event.Lookup k tree attr) asked before after old new r lines t asks answers at told stands =
    request_stands n k (event.Lookup k tree attr) (IsLookingUp tree attr) asked before after old new r lines t asks answers at told stands
    (λ request s is done.
    let h = does_own n k request (Begin (op.Lookup tree attr)) before after old new r is.2 done in
    look_begun lines k tree attr r before after old new t is.0.0 (ready_of lines (event.Lookup k tree attr) n k before after old new t refl s h.0) h.1)
asked_stands n (event.Page k tree page) asked before after old new r lines t asks answers at told stands =
    request_stands n k (event.Page k tree page) (IsPaging tree page) asked before after old new r lines t asks answers at told stands
    (λ request s is done.
    let h = does_own n k request (Begin (op.Page tree page)) before after old new r is.2 done in
    paging_begun lines k tree page r before after old new t is.0 is.1 (ready_of lines (event.Page k tree page) n k before after old new t refl s h.0) h.1)
asked_stands n (event.Tree k tree) asked before after old new r lines t asks answers at told stands =
    request_stands n k (event.Tree k tree) (IsFolding tree) asked before after old new r lines t asks answers at told stands
    (λ request s is done.
    let h = does_own n k request (Begin (op.Tree tree)) before after old new r is.1 done in
    folding_begun lines k tree r before after old new t is.0 (ready_of lines (event.Tree k tree) n k before after old new t refl s h.0) h.1)
asked_stands n (event.Close k) asked before after old new r lines t asks answers at told stands =
    request_stands n k (event.Close k) (λ request. request ≡ Ok (Begin op.Close)) asked before after old new r lines t asks answers at told stands
    (λ request s is done.
    let h = does_own n k request (Begin op.Close) before after old new r (asked_is request (Begin op.Close) is) done in
    close_begun lines k r before after old new t (ready_of lines (event.Close k) n k before after old new t refl s h.0) h.1)
asked_stands n (event.Renew k) asked before after old new r lines t asks answers at told stands =
    request_stands n k (event.Renew k) (λ request. request ≡ Ok (Begin op.Renew)) asked before after old new r lines t asks answers at told stands
    (λ request s is done.
    let h = does_own n k request (Begin op.Renew) before after old new r (asked_is request (Begin op.Renew) is) done in
    renewal_begun lines k r before after old new t (ready_of lines (event.Renew k) n k before after old new t refl s h.0) h.1)
asked_stands n (event.Commit k) asked before after old new r lines t asks answers at told stands =
    request_stands n k (event.Commit k) (λ request. request ≡ Ok (Begin op.Commit)) asked before after old new r lines t asks answers at told stands
    (λ request s is done.
    let h = does_own n k request (Begin op.Commit) before after old new r (asked_is request (Begin op.Commit) is) done in
    commit_begun lines k r before after old new t (ready_of lines (event.Commit k) n k before after old new t refl s h.0) h.1)
asked_stands n (event.Abort k) asked before after old new r lines t asks answers at told stands =
    request_stands n k (event.Abort k) (λ request. request ≡ Ok Abort) asked before after old new r lines t asks answers at told stands
    (λ request s is done.
    let h = does_own n k request Abort before after old new r (asked_is request Abort is) done in
    aborts lines k r before after old new t (ready_of lines (event.Abort k) n k before after old new t refl s h.0) h.1)
asked_stands n (event.Step k wish) asked before after old new r lines t asks answers at told stands =
    request_stands n k (event.Step k wish) (IsStep wish) asked before after old new r lines t asks answers at told stands
    (λ request s is done. makes_step lines k n wish r before after old new t s.at s.session.some s.told s.stands (does_own n k request (Step wish) before after old new r is done))
asked_stands n (event.Run k) asked before after old new r lines t asks answers at told stands =
    request_stands n k (event.Run k) (λ request. request ≡ Ok Run) asked before after old new r lines t asks answers at told stands
    (λ request s is done. runs lines k n r before after old new t s.at s.session.some s.told s.stands (does_own n k request Run before after old new r (asked_is request Run is) done))
asked_stands n (event.Crash k d) asked before after old new r lines t asks answers at told stands =
    request_stands n k (event.Crash k d) (λ request. request ≡ Ok (Crash d)) asked before after old new r lines t asks answers at told stands
    (λ request s is done.
    crashes lines k n d r before after old new t s.at s.session.some s.told s.stands (does_own n k request (Crash d) before after old new r (asked_is request (Crash d) is) done))
asked_stands n (event.Policy k role number) asked before after old new r lines t asks answers at told stands =
    request_stands n k (event.Policy k role number) (λ request. request ≡ Ok (Policy role number)) asked before after old new r lines t asks answers at told stands
    (λ request s is done.
    policies lines k number role r before after old new t s.told s.stands (does_own n k request (Policy role number) before after old new r (asked_is request (Policy role number) is) done))
asked_stands n (event.Work k) asked before after old new r lines t asks answers at told stands =
    request_stands n k (event.Work k) (λ request. request ≡ Ok WorksDue) asked before after old new r lines t asks answers at told stands
    (λ request s is done.
    works_through lines k n r before after old new t s.at s.session.some s.told s.stands (does_own n k request WorksDue before after old new r (asked_is request WorksDue is) done))
asked_stands n (event.Wait ticks) asked before after old new r lines t asks answers at told stands =
    waits lines ticks r before after old new t told stands (subst (λ z. Answers n z (span_of before after old new) (Ok r)) asks answers)
asked_stands n (event.Report tree) asked before after old new r lines t asks answers at told stands =
    reports lines tree r before after old new t told stands (subst (λ z. Answers n z (span_of before after old new) (Ok r)) asks answers)
asked_stands n event.Settle asked before after old new r lines t asks answers at told stands =
    goes_errand settles tt lines n r before after old new t at told stands (subst (λ z. Answers n z (span_of before after old new) (Ok r)) asks answers)
asked_stands n (event.Sweep number) (Sweep (Ok tree)) before after old new r lines t asks answers at told stands =
    subst (λ k. LineLeaves (lines ++ line_of (event.Sweep k) r ∷ []) new after r) asks.0 (goes_errand (sweeps tree) answers.0 lines n r before after old new t at told stands answers.1)
asked_stands n (event.Sweep number) (Sweep (Err why)) before after old new r lines t asks answers at told stands =
    declines lines (event.Sweep number) r why before after old new t answers told stands
asked_stands n (event.Sweep number) asked before after old new r lines t asks answers at told stands = absurd asks
asked_stands n e asked before after old new r lines t asks answers at told stands =
    request_stands n (session_of e) e (IsNoted (noting_of e)) asked before after old new r lines t asks answers at told stands
    (λ request s is done. noted_line lines e n (session_of e) (noting_of e) request before after old new r t refl (λ q z. refl) s is done)

pub line_leaves : (n : ℕ) (event : Event) (before after : Seen) (old new : World) (r : Reply) → Handled n event (span_of before after old new) (Ok r)
    → (lines : List Line) (t : CloudState) → length lines + 1 ≡ n → before.state ≡ Some t → LinesStand lines old t → LineLeaves (lines ++ line_of event r ∷ []) new after r
line_leaves n event before after old new r h lines t at told stands = asked_stands n event h.asked before after old new r lines t h.asks h.answers at told stands
