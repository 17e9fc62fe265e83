-- What lines acknowledged stays among what was committed.
use Rattle.std.proofs.Common.{◌≡◌, ◌<◌, ◌≤◌, ◌+◌, ◌-◌, ◌⊎◌, ℕ, zero, suc, Bool, true, false, List, [], ◌∷◌, ◌++◌, length, take, Option, Some, Ok, Err, refl, sym, ap, ap₂, subst, ◌∙◌, inl, inr, append_assoc, arith, length-append}
use Rattle.std.specs.Prelude.{slice_get, All, cond, None}
use Rattle.std.specs.Bool.{◌==◌}
use Rattle.std.specs.Option.{option_and_then}
use Rattle.std.proofs.lemmas.Bool.{cases_lt}
use Rattle.std.proofs.lemmas.List.{take-append-le}
use Rattle.std.proofs.lemmas.List.Concat.{flat_map-append}
use Rattle.std.proofs.lemmas.List.Elements.{All-head, All-tail, All-weaker}
use Rattle.client_work.specs.Session.{StepsAt}
use Rattle.client_work.specs.declared.answer.Answer.{Answer}
use Rattle.client_work.specs.declared.work.Work.{Work}
use Rattle.cloud_trait.specs.Bench.{Waits}
use Rattle.cloud_facts.specs.Words.{ObjName, QueueName, Entry, Turn, Version, CloudState, Caller, Seen}
use Rattle.cloud_trait.specs.Growth.{BeginsWith}
use Rattle.cloud_trait.specs.State.{version_at}
use Rattle.cloud_trait.specs.Upto.{AgreeUpto, IsUpto, upto}
use Rattle.cloud_trait.specs.declared.state.Landing.{Landing}
use Rattle.cloud_trait.specs.declared.state.Site.{Site}
use Rattle.cloud_trait.specs.declared.state.Site.TheVariants.{Object, Queue}
use Rattle.cloud_trait.proofs.RowLemmas.{leaves_agree, leaves_grown}
use Rattle.cloud_trait.proofs.UptoLemmas.{agree_itself, agree_trans, versions_upto-all, trace_upto-all}
use Rattle.db_base.specs.declared.names.ObjName.TheVariants as object
use Rattle.db_base.specs.declared.wish.Wish.{Wish}
use Rattle.replay_meaning.specs.Committed.{Versions, changes_of_row, entries_of_bytes, site_entries, row_entries, committed_by, committed}
use Rattle.replay_meaning.specs.Standing.{Line, Posture, Working, Committing}
use Rattle.reply_text.specs.declared.reply.Reply.{Reply}
use Rattle.reply_text.specs.declared.reply.Reply.TheVariants as reply
use Rattle.txn_buffer.specs.Noted.{Noted}
use Rattle.session_facts.specs.Lines.Acknowledged.{IsKeptAt, IsKeptReply, IsLandedLine}
use Rattle.session_facts.specs.Lines.Errands.{Errand, settles, sweeps}
use Rattle.session_facts.specs.Lines.Facts.{IsPlaced, IsPlacedAt}
use Rattle.session_facts.proofs.Lines.Acknowledged.{kept_on}
use Rattle.session_facts.proofs.Lines.LandedCommits.{landed_grows}
use Rattle.session_facts.proofs.Lines.Committed.{committed_same, committed_line, slice_get-append_left}
use Rattle.session_facts.proofs.Lines.Outcome.{made_call}
use Rattle.ckpt_policy.specs.declared.role.Role.{Role}
use Rattle.world_core.specs.World.{World}
use Rattle.world_core.specs.declared.asked.Asked.{Asked}
use Rattle.world_core.specs.declared.asked.Asked.TheVariants.{Session, Wait, Report, Settle, Sweep}
use Rattle.world_core.specs.declared.asked.Request.{Request}
use Rattle.world_core.specs.declared.asked.Request.TheVariants.{Begin, Note, Abort, Policy, Work as WorksDue, Step, Run, Crash}
use Rattle.world_core.specs.Handled.{SetsWish, StepsLooked, Went, start as went_start, further as went_further, ComesTo, MakesStep, Runs, Crashes, SettlesOn, Settles, Does, Answers, Policies, Works, WorksThrough, checkpoint_more, no_checkpoint, gone_through}
use Rattle.world_core.specs.Stands.{WorldStands}
use Rattle.world_core.specs.Span.{span_of}
use Rattle.world_core.proofs.Acknowledged.{durable_after}
use Rattle.world_core.proofs.Landings.{landed_after}
use Rattle.world_core.proofs.Counting.{stands_after}
use Rattle.world_core.proofs.StandsLemmas.{no_memory}
use Rattle.schedule_run.specs.Answered.{WentOn, start, further, IsKeptLine, AreKept, AreLanded, AcknowledgedStay}
use Rattle.schedule_run.proofs.SoundLemmas.{each_more, take_whole, same_some, went_soundly}
use Rattle.cloud_trait.proofs.EffectLemmas.{begins_same}

-- ---- what a line leaves of a cloud

-- versions and the trace only grew at their ends, and up to each event before n nothing has changed
pub record HasLanded (n : ℕ) (s t : CloudState) : Type 0 where
  pub versions : (name : ObjName) → BeginsWith (s.versions name) (t.versions name)
  pub trace : BeginsWith s.trace t.trace
  pub agree : (k : ℕ) → k < n → AgreeUpto k s t

pub begins_on : {X : Type 0} (xs ys zs : List X) → BeginsWith xs ys → BeginsWith ys zs → BeginsWith xs zs
begins_on xs ys zs a b = (a.0 ++ b.0, b.1 ∙ ap (λ l. l ++ b.0) a.1 ∙ append_assoc xs a.0 b.0)

pub landed_none : (n : ℕ) (s t : CloudState) → t.versions ≡ s.versions → t.messages ≡ s.messages → t.trace ≡ s.trace → HasLanded n s t
landed_none n s t v m r = record {
  versions = λ name. begins_same (s.versions name) (t.versions name) (ap (λ (f : Versions). f name) v);
  trace = begins_same s.trace t.trace r;
  agree = λ k less. agree_itself k s t v m r;
}

pub landed_on : (n : ℕ) (s t u : CloudState) → HasLanded n s t → HasLanded n t u → HasLanded n s u
landed_on n s t u a b = record {
  versions = λ name. begins_on (s.versions name) (t.versions name) (u.versions name) (a.versions name) (b.versions name);
  trace = begins_on s.trace t.trace u.trace a.trace b.trace;
  agree = λ k less. agree_trans k s t u (a.agree k less) (b.agree k less);
}

-- of a cloud that is told
abbrev pub Lands : ℕ → Seen → Seen → Type 0
Lands n before after = (x : CloudState) → before.state ≡ Some x → (y : CloudState) × (after.state ≡ Some y) × HasLanded n x y

lands_not : (n : ℕ) (before after : Seen) → ((x : CloudState) → before.state ≡ Some x → after.state ≡ Some x) → Lands n before after
lands_not n before after stays x told = (x, stays x told, landed_none n x x refl refl refl)

lands_same : (n : ℕ) (before after : Seen) → after ≡ before → Lands n before after
lands_same n before after same = lands_not n before after (λ x told. ap (λ (z : Seen). z.state) same ∙ told)

lands_on : (n : ℕ) (before mid after : Seen) → Lands n before mid → Lands n mid after → Lands n before after
lands_on n before mid after f g x told =
    let p = f x told in
    let q = g p.0 p.1 in
    (q.0, q.1, landed_on n x p.0 q.0 p.2 q.2)

lands_wish : (n : ℕ) (wish : Wish) (before after : Seen) → SetsWish wish before after → Lands n before after
lands_wish n wish before after sets x told = (record x { wish = wish }, sets.set x told, landed_none n x (record x { wish = wish }) refl refl refl)

lands_wait : (n ticks : ℕ) (before after : Seen) → ((s : CloudState) → before.state ≡ Some s → Waits ticks s after.state) → Lands n before after
lands_wait n ticks before after waits x told =
    let w = waits x told in
    (w.after, w.told, landed_none n x w.after (ap (λ (z : CloudState). z.versions) w.rest) (ap (λ (z : CloudState). z.messages) w.rest) (ap (λ (z : CloudState). z.trace) w.rest))

-- the call of a step
lands_work : (who : Caller) (before after : Seen) (w new : Work) (turn : Turn Answer) → StepsAt who before after w new turn → Lands who.event before after
lands_work who before after w new turn p x told =
    let call = made_call who before after w new turn p in
    let l = call.made.state x told in
    let g = leaves_grown who call.ask call.answer before.counts after.counts x after.state l in (
      l.after,
      l.told,
      record {
        versions = g.versions;
        trace = g.trace;
        agree = λ k less. leaves_agree k who call.ask call.answer before.counts after.counts x after.state l less;
      },
    )

-- a step between two looks
lands_stepped : (who : Caller) (wish : Wish) (before after : Seen) (old new : World) (turn : Turn Answer) → StepsLooked who wish (span_of before after old new) turn → Lands who.event before after
lands_stepped who wish before after old new turn p =
    lands_on who.event before p.from after (lands_not who.event before p.from p.look_before.stays)
    (lands_on who.event p.from p.under after (lands_wish who.event wish p.from p.under p.wishes)
    (lands_on who.event p.under p.to after (lands_work who p.under p.to p.session.before.work p.session.after.work turn p.session.does.work)
    (lands_not who.event p.to after p.look_after.stays)))

lands_went : (who : Caller) (before : Seen) (old : World) (after : Seen) (new : World) → Went who before old after new → Lands who.event before after
lands_went who before old after new went_start = lands_same who.event before before refl
lands_went who before old after new (went_further mid _ world _ went step) =
    lands_on who.event before mid after (lands_went who before old mid world went) (lands_stepped who _ mid after world new _ step)

lands_come : (who : Caller) (before after : Seen) (old new : World) (a : Answer) → ComesTo who (span_of before after old new) a → Lands who.event before after
lands_come who before after old new a c =
    lands_on who.event before c.mid after (lands_went who before old c.mid c.world c.went) (lands_stepped who _ c.mid after c.world new _ c.steps)

-- the checkpoints of a session's work
lands_works : (who : Caller) (before : Seen) (old : World) (queues : List QueueName) (done passed : ℕ) (after : Seen) (new : World) → Works who before old (gone_through queues done passed) after new
    → Lands who.event before after
lands_works who before old queues done passed after new no_checkpoint = lands_same who.event before before refl
lands_works who before old queues done passed after new (checkpoint_more others kept left mid world queue a _ _ works makes passes) =
    lands_on who.event before mid after (lands_works who before old others kept left mid world works) (lands_come who mid after makes.begun new a makes.comes)

module _ (n : ℕ) (before after : Seen) (old new : World) (r : Reply) where
  abbrev who : ℕ → Caller
  who k = record { session = k; event = n }

  lands_made : (k : ℕ) (wish : Wish) → MakesStep (record { session = k; event = n }) wish (span_of before after old new) (Ok r) → Lands n before after
  lands_made k wish (inl refuses) = lands_same n before after refuses.declines.seen
  lands_made k wish (inr (inl made)) = lands_stepped (who k) wish before after old new made.turn made.steps
  lands_made k wish (inr (inr memory)) = absurd (no_memory r memory.0)

  lands_run : (k : ℕ) → Runs (record { session = k; event = n }) (span_of before after old new) (Ok r) → Lands n before after
  lands_run k (inl refuses) = lands_same n before after refuses.declines.seen
  lands_run k (inr (inl run)) = lands_come (who k) before after old new run.answer run.comes
  lands_run k (inr (inr memory)) = absurd (no_memory r memory.0)

  lands_crash : (k : ℕ) (done : Bool) → Crashes (record { session = k; event = n }) done (span_of before after old new) (Ok r) → Lands n before after
  lands_crash k false dies = lands_same n before after dies.quiet.seen
  lands_crash k true (inl idle) = lands_same n before after idle.dies.quiet.seen
  lands_crash k true (inr (inl dies)) = lands_stepped (who k) _ before after old dies.world dies.turn dies.steps
  lands_crash k true (inr (inr memory)) = absurd (no_memory r memory.0)

  lands_policy : (k : ℕ) (role : Role) (number : ℕ) → Policies k role number (span_of before after old new) (Ok r) → Lands n before after
  lands_policy k role number (inl refuses) = lands_same n before after refuses.declines.seen
  lands_policy k role number (inr (inl refuses)) = lands_same n before after refuses.1.declines.seen
  lands_policy k role number (inr (inr gives)) = lands_same n before after gives.quiet.seen

  lands_through : (k : ℕ) → WorksThrough (record { session = k; event = n }) (span_of before after old new) (Ok r) → Lands n before after
  lands_through k (inl refuses) = lands_same n before after refuses.declines.seen
  lands_through k (inr (inl down)) = lands_works (who k) before old down.queues down.done down.passed after new down.works
  lands_through k (inr (inr memory)) = absurd (no_memory r memory.0)

  lands_does : (k : ℕ) (request : Request) → Does (record { session = k; event = n }) request (span_of before after old new) (Ok r) → Lands n before after
  lands_does k (Begin o) h = lands_same n before after h.0.seen
  lands_does k (Note noting) h = lands_same n before after h.0.seen
  lands_does k Abort h = lands_same n before after h.0.seen
  lands_does k (Policy role number) h = lands_policy k role number h
  lands_does k WorksDue h = lands_through k h
  lands_does k (Step wish) h = lands_made k wish h
  lands_does k Run h = lands_run k h
  lands_does k (Crash done) h = lands_crash k done h

  lands_settled : (errand : Errand) (begun : World) → SettlesOn errand (who 0) (span_of before after begun new) (Ok r) → Lands n before after
  lands_settled errand begun (inl s) = lands_come (who 0) before after begun s.left s.answer s.comes
  lands_settled errand begun (inr memory) = absurd (no_memory r memory.0)

  lands_settles : (errand : Errand) → Settles errand n (span_of before after old new) (Ok r) → Lands n before after
  lands_settles errand (inl h) = lands_settled errand h.begun h.settles
  lands_settles errand (inr memory) = absurd (no_memory r memory.0)

  pub lands_asked : (asked : Asked) → Answers n asked (span_of before after old new) (Ok r) → Lands n before after
  lands_asked (Session k (Ok request)) (inl served) = lands_does k request served.1
  lands_asked (Session k (Err why)) (inl served) = lands_same n before after served.1.seen
  lands_asked (Session k request) (inr none) = lands_same n before after none.declines.seen
  lands_asked (Wait ticks) (inl waits) = lands_wait n ticks before after waits.0.waited
  lands_asked (Wait ticks) (inr long) = lands_same n before after long.declines.seen
  lands_asked (Report tree) reports = lands_not n before after reports.looked.stays
  lands_asked Settle goes = lands_settles settles goes
  lands_asked (Sweep (Ok tree)) (is, goes) = lands_settles (sweeps tree) goes
  lands_asked (Sweep (Err why)) declines = lands_same n before after declines.seen

-- ---- what was committed stays

version_kept : (vs more : List Version) (k : ℕ) → k ≤ length vs → version_at (vs ++ more) k ≡ version_at vs k
version_kept vs more zero h = refl
version_kept vs more (suc i) h =
    let before : suc i - 1 < length vs = omega arith in
    ap (λ (o : Option Version). cond (suc i == 0) None (option_and_then (λ (x : Version). x.bytes) o)) (slice_get-append_left vs more (suc i - 1) before)

-- what a row that is placed commits stays under more versions
site_kept : (changes : List Noted) (v w : Versions) → ((name : ObjName) → BeginsWith (v name) (w name)) → (position : ℕ) (site : Site) → IsPlacedAt v position site
    → site_entries changes w position site ≡ site_entries changes v position site
site_kept changes v w begins position (Object (object.Head client)) h =
    let more = begins (object.Head client) in
    ap (λ b. entries_of_bytes client b changes)
    (ap (λ (vs : List Version). version_at vs position) more.1 ∙ version_kept (v (object.Head client)) more.0 position h)
site_kept changes v w begins position (Object (object.Tree tree)) h = refl
site_kept changes v w begins position (Object (object.Page tree page)) h = refl
site_kept changes v w begins position (Queue queue) h = refl

rows_kept : (lines : List Line) (v w : Versions) → ((name : ObjName) → BeginsWith (v name) (w name)) → (rows : List Landing) → All (IsPlaced v) rows
    → committed_by lines w rows ≡ committed_by lines v rows
rows_kept lines v w begins [] h = refl
rows_kept lines v w begins (row ∷ rows) h =
    ap₂ (λ xs ys. xs ++ ys) (site_kept (changes_of_row lines row) v w begins row.position row.site (All-head (IsPlaced v) row rows h))
    (rows_kept lines v w begins rows (All-tail (IsPlaced v) row rows h))

-- what lines committed is where that begins which they and one more line have committed
pub committed_begins : (lines : List Line) (line : Line) (n : ℕ) (s t : CloudState) → All (IsPlaced s.versions) s.trace → IsUpto (length lines) s → HasLanded n s t
    → BeginsWith (committed lines s) (committed (lines ++ line ∷ []) t)
committed_begins lines line n s t placed all landed = (
  committed_by more t.versions landed.trace.0,
  ap (committed_by more t.versions) landed.trace.1
      ∙ flat_map-append (row_entries more t.versions) s.trace landed.trace.0
      ∙ ap (λ es. es ++ committed_by more t.versions landed.trace.0) (rows_kept more s.versions t.versions landed.versions s.trace placed ∙ committed_line lines line s early),
)
  where
    more : List Line
    more = lines ++ line ∷ []

    early : All (λ (r : Landing). r.who.event ≤ length lines + 1) s.trace
    early = All-weaker (λ (r : Landing). r.who.event ≤ length lines) (λ (r : Landing). r.who.event ≤ length lines + 1) (λ r h. omega arith) s.trace all.trace

-- and so a reply that was kept is kept
reply_on : (entries more : List Entry) (client : ℕ) (posture : Posture) (r : Reply) → BeginsWith entries more → IsKeptReply entries client posture r → IsKeptReply more client posture r
reply_on entries more client posture (reply.Commit a) begins h = on posture h
  where
    on : (p : Posture) → IsKeptAt entries client p a → IsKeptAt more client p a
    on (Working (Committing changes)) kept = kept_on entries more client changes a begins kept
    on p kept = tt
reply_on entries more client posture r begins h = tt

-- up to the last event of a state the same was committed
pub committed_upto : (lines : List Line) (n : ℕ) (s : CloudState) → IsUpto n s → committed lines (upto s n) ≡ committed lines s
committed_upto lines n s all =
    committed_same lines s (upto s n) (λ i name. versions_upto-all n (s.versions name) (all.versions name) i) (trace_upto-all n s.trace all.trace)

-- up to an event up to which two states agree too
committed_agree : (lines : List Line) (n : ℕ) (s t : CloudState) → AgreeUpto n s t → committed lines (upto t n) ≡ committed lines (upto s n)
committed_agree lines n s t agree = committed_same lines (upto s n) (upto t n) (λ i name. agree.versions name i) agree.trace

-- ---- what landed stays

-- behind more rows and versions
landed_begins : (lines : List Line) (s t : CloudState) → ((name : ObjName) → BeginsWith (s.versions name) (t.versions name)) → BeginsWith s.trace t.trace → AreLanded lines s → AreLanded lines t
landed_begins lines s t versions trace all k line at = landed_grows (take k lines) s t versions trace line (all k line at)

-- and behind the same ones
landed_alike : (lines : List Line) (s t : CloudState) → t.versions ≡ s.versions → t.trace ≡ s.trace → AreLanded lines s → AreLanded lines t
landed_alike lines s t v r =
    landed_begins lines s t (λ name. begins_same (s.versions name) (t.versions name) (ap (λ (f : Versions). f name) v)) (begins_same s.trace t.trace r)

landed_upto : (lines : List Line) (n : ℕ) (s : CloudState) → IsUpto n s → AreLanded lines s → AreLanded lines (upto s n)
landed_upto lines n s all = landed_alike lines s (upto s n) (λ i name. versions_upto-all n (s.versions name) (all.versions name) i) (trace_upto-all n s.trace all.trace)

landed_whole : (lines : List Line) (n : ℕ) (s : CloudState) → IsUpto n s → AreLanded lines (upto s n) → AreLanded lines s
landed_whole lines n s all =
    landed_alike lines (upto s n) s (sym (λ i name. versions_upto-all n (s.versions name) (all.versions name) i)) (sym (trace_upto-all n s.trace all.trace))

-- what the first n lines acknowledged, in a state
abbrev Stays : List Line → CloudState → Type 0
Stays lines t = AreKept lines (committed lines t) × AreLanded lines t

stays_agree : (lines : List Line) (n : ℕ) (s t : CloudState) → AgreeUpto n s t → Stays lines (upto s n) → Stays lines (upto t n)
stays_agree lines n s t agree h = (
  subst (AreKept lines) (sym (committed_agree lines n s t agree)) h.0,
  landed_alike lines (upto s n) (upto t n) (λ i name. agree.versions name i) agree.trace h.1,
)

-- ---- lines

-- where the cloud grew behind the lines
pub stay_upto : (lines : List Line) (s t : CloudState) → ((n : ℕ) → n ≤ length lines → AgreeUpto n s t) → AcknowledgedStay lines s → AcknowledgedStay lines t
stay_upto lines s t agree stay n within = stays_agree (take n lines) n s t (agree n within) (stay n within)

-- with one more line
stay_more : (lines : List Line) (line : Line) (s t : CloudState) → All (IsPlaced s.versions) s.trace → IsUpto (length lines) s → IsUpto (length lines + 1) t
    → HasLanded (length lines + 1) s t → IsKeptLine (committed (lines ++ line ∷ []) t) lines line → IsLandedLine lines t line → AcknowledgedStay lines s → AcknowledgedStay (lines ++ line ∷ []) t
stay_more lines line s t placed all after landed new own stay n within = on (cases_lt n (length lines + 1))
  where
    more : List Line
    more = lines ++ line ∷ []

    old : Stays lines (upto s (length lines))
    old = subst (λ ls. Stays ls (upto s (length lines))) (take_whole lines (length lines) refl) (stay (length lines) (omega arith))

    kept : AreKept lines (committed lines s)
    kept = subst (AreKept lines) (committed_upto lines (length lines) s all) old.0

    are_landed : AreLanded lines t
    are_landed = landed_begins lines s t landed.versions landed.trace (landed_whole lines (length lines) s all old.1)

    now : Stays more t
    now = (
      each_more (IsKeptLine (committed more t)) lines line
          (λ k l at. reply_on (committed lines s) (committed more t) _ _ l.reply (committed_begins lines line (length lines + 1) s t placed all landed) (kept k l at)) new,
      each_more (λ before l. IsLandedLine before t l) lines line are_landed own,
    )

    on : (n < length lines + 1) ⊎ (length lines + 1 ≤ n) → Stays (take n more) (upto t n)
    on (inl less) =
        let front : take n more ≡ take n lines = take-append-le n lines (line ∷ []) (omega arith) in
        subst (λ ls. Stays ls (upto t n)) (sym front) (stays_agree (take n lines) n s t (landed.agree n less) (stay n (omega arith)))
    on (inr last) =
        let long : length more ≡ length lines + 1 = omega (arith, length-append lines (line ∷ [])) in
        let e : n ≡ length lines + 1 = omega (arith, within, long) in
        let upto_n : IsUpto n t = subst (λ m. IsUpto m t) (sym e) after in
        subst (λ ls. Stays ls (upto t n)) (sym (take_whole more n (omega arith)))
        (subst (AreKept more) (sym (committed_upto more n t upto_n)) now.0, landed_upto more n t upto_n now.1)

nothing_kept : (n k : ℕ) (line : Line) → (let none : List Line = [] in slice_get (take n none) k ≡ Some line) → ⊥
nothing_kept zero k line at = absurd (cc)
nothing_kept (suc n) k line at = absurd (cc)

-- lines that were handled from a world on that stood for none
pub went_stay : (before : Seen) (old : World) (t : CloudState) (lines : List Line) (after : Seen) (new : World) (u : CloudState) → WentOn before old lines after new → before.state ≡ Some t
    → WorldStands [] old t → after.state ≡ Some u → AcknowledgedStay lines u
went_stay before old t lines after new u start told stands seen = λ n within. (λ k line at. absurd (nothing_kept n k line at), λ k line at. absurd (nothing_kept n k line at))
went_stay before old t lines after new u (further earlier line mid _ world _ went handled) told stands seen =
    let o = went_soundly before old t earlier mid world went told stands in
    let f = stands_after (length earlier + 1) line.event mid after world new (Ok line.reply) handled earlier o.state refl o.told o.stands in
    let g = lands_asked (length earlier + 1) mid after world new line.reply handled.asked handled.answers o.state o.told in
    let long : length (earlier ++ line ∷ []) ≡ length earlier + 1 = omega (arith, length-append earlier (line ∷ [])) in
    let whole : IsUpto (length earlier + 1) f.after = subst (λ m. IsUpto m f.after) long f.stands.by_lines.holds.cloud.upto in
    stay_more earlier line o.state u o.stands.by_lines.holds.cloud.placed o.stands.by_lines.holds.cloud.upto
    (subst (IsUpto (length earlier + 1)) (same_some f.after u (sym f.told ∙ seen)) whole)
    (subst (HasLanded (length earlier + 1) o.state) (same_some g.0 u (sym g.1 ∙ seen)) g.2)
    (durable_after (length earlier + 1) line.event mid after world new (Ok line.reply) handled earlier o.state u refl o.told o.stands seen)
    (landed_after (length earlier + 1) line.event mid after world new (Ok line.reply) handled earlier o.state u refl o.told o.stands seen)
    (went_stay before old t earlier mid world o.state went told stands o.told)
