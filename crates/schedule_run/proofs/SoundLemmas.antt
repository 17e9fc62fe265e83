-- Every reply of lines that were handled one behind another is sound.
use Rattle.std.proofs.Common.{◌≡◌, ◌<◌, ◌≤◌, ◌+◌, ◌⊎◌, ℕ, List, [], ◌∷◌, ◌++◌, length, map, take, Some, Ok, refl, sym, ap, subst, ◌∙◌, inl, inr, arith, length-append}
use Rattle.std.specs.Prelude.{slice_get}
use Rattle.std.proofs.lemmas.List.{map-append, take-append-le, take_all, get_or_append_left}
use Rattle.std.proofs.lemmas.Option.{slice_get_within, slice_get-get_or}
use Rattle.std.proofs.lemmas.Bool.{cases_lt}
use Rattle.cloud_trait.proofs.StateLemmas.{slice_get-push}
use Rattle.client_work.specs.declared.answer.Answer.{Answer}
use Rattle.cloud_facts.specs.Words.{Turn, CloudState, Caller, Seen}
use Rattle.cloud_trait.specs.State.{Counts}
use Rattle.db_base.specs.declared.wish.Wish.{Wish}
use Rattle.event_text.specs.declared.event.Event.{Event}
use Rattle.event_text.specs.declared.event.Event.TheVariants as event
use Rattle.replay_meaning.specs.Standing.{Line, session_of, standing}
use Rattle.reply_text.specs.declared.reply.Reply.{Reply}
use Rattle.reply_text.specs.declared.reply.Reply.TheVariants as reply
use Rattle.session_facts.proofs.Lines.Books.{book_of}
use Rattle.session_facts.specs.Lines.Facts.{session_at, SomeBookStands}
use Rattle.session_facts.specs.Sessions.Untroubled.{IsUntroubled}
use Rattle.world_core.specs.Calm.{RepliesWell, hand_at, work_at}
use Rattle.world_core.specs.World.{World}
use Rattle.world_core.specs.Alone.{IsAloneIn, StepIsUndisturbed}
use Rattle.world_core.specs.Handled.{Handled, StepsLooked}
use Rattle.world_core.specs.Settled.{SettlingLeaves, SettlingEnds}
use Rattle.world_core.specs.Stands.{WorldStands, LeftIsRight}
use Rattle.world_core.specs.UnsentPages.{LeavesUnsent}
use Rattle.world_core.proofs.Acknowledged.{durable_after}
use Rattle.world_core.proofs.Landings.{landed_after}
use Rattle.world_core.proofs.Alone.{keeps_alone}
use Rattle.world_core.proofs.Bounded.{few_calls}
use Rattle.world_core.proofs.Counting.{stands_after}
use Rattle.world_core.proofs.Calm.{well_after}
use Rattle.world_core.proofs.EachWhere.{asked_where}
use Rattle.world_core.proofs.Explained.{explained}
use Rattle.world_core.proofs.MeteredLines.{keeps_meter}
use Rattle.world_core.proofs.PassedOver.{passes_well}
use Rattle.world_core.proofs.Spared.{spares_writer}
use Rattle.world_core.proofs.Unsent.{stage_line}
use Rattle.world_core.specs.Metered.{LeavesFewAt, MetersAt, StepGoesThrough}
use Rattle.world_core.specs.Spared.{HasSentAt, PassesNoneAt, none_passed, unpassed}
use Rattle.world_core.specs.Writers.{Stage, Unbound, Even, Owing, Astray, by_line, stage_of}
use Rattle.world_core.specs.Span.{span_of}
use Rattle.world_core.proofs.LeftNone.{nothing_after}
use Rattle.world_core.proofs.Named.{names_pieces}
use Rattle.world_core.proofs.Shown.{shown}
use Rattle.world_core.proofs.ShownByLines.{shown_by}
use Rattle.world_core.proofs.Settled.{settling_leaves, settling_ends}
use Rattle.world_core.proofs.Sound.{sound_after}
use Rattle.world_core.proofs.Tells.{tells_by}
use Rattle.schedule_run.specs.Answered.{WentOn, start, further, LeavesSo, EndsSo, AreExplained, GoAlone, GoThrough, AreMetered, IsSoundLine, RepliesAreSound}

-- ---- places of lines

pub get_before : (lines : List Line) (line : Line) (k : ℕ) → k < length lines → slice_get (lines ++ line ∷ []) k ≡ slice_get lines k
get_before lines line k less =
    slice_get-get_or (lines ++ line ∷ []) k line (omega (arith, length-append lines (line ∷ [])))
    ∙ ap Some (get_or_append_left lines (line ∷ []) line k less) ∙ sym (slice_get-get_or lines k line less)

pub take_whole : (lines : List Line) (k : ℕ) → k ≡ length lines → take k lines ≡ lines
take_whole lines k e = take_all k lines (omega arith)

-- ---- one line more

-- what holds of each line by those before it holds with one more
pub each_more : (P : List Line → Line → Type 0) (lines : List Line) (line : Line) → ((k : ℕ) (l : Line) → slice_get lines k ≡ Some l → P (take k lines) l) → P lines line
    → (k : ℕ) (l : Line) → slice_get (lines ++ line ∷ []) k ≡ Some l → P (take k (lines ++ line ∷ [])) l
each_more P lines line so new k l at = on (cases_lt k (length lines)) where
  on : (k < length lines) ⊎ (length lines ≤ k) → P (take k (lines ++ line ∷ [])) l
  on (inl less) =
      let old : slice_get lines k ≡ Some l = sym (get_before lines line k less) ∙ at in
      let front : take k (lines ++ line ∷ []) ≡ take k lines = take-append-le k lines (line ∷ []) (omega arith) in
      subst (λ ls. P ls l) (sym front) (so k l old)
  on (inr more) =
      let within : k < length (lines ++ line ∷ []) = slice_get_within (lines ++ line ∷ []) k l at in
      let e : k ≡ length lines = omega (arith, length-append lines (line ∷ [])) in
      let same : Some line ≡ Some l = sym (slice_get-push lines line k e) ∙ at in
      let is : line ≡ l = cc in
      let front : take k (lines ++ line ∷ []) ≡ take k lines = take-append-le k lines (line ∷ []) (omega arith) in
      let whole : take k lines ≡ lines = take_whole lines k e in
      subst (λ ls. P ls l) (sym (front ∙ whole)) (subst (λ (x : Line). P lines x) is new)

-- ---- all lines

-- what stands for lines that were handled from a world on that stood for none, and that their replies are sound
pub record AreSoundly (lines : List Line) (after : Seen) (new : World) : Type 0 where
  pub state : CloudState
  pub told : after.state ≡ Some state
  pub stands : WorldStands lines new state
  pub sound : RepliesAreSound lines

pub went_soundly : (before : Seen) (old : World) (t : CloudState) (lines : List Line) (after : Seen) (new : World) → WentOn before old lines after new → before.state ≡ Some t → WorldStands [] old t
    → AreSoundly lines after new
went_soundly before old t lines after new start told stands = record { state = t; told = told; stands = stands; sound = λ k line at. absurd (cc) }
went_soundly before old t lines after new (further earlier line mid _ world _ went handled) told stands =
    let o = went_soundly before old t earlier mid world went told stands in
    let f = stands_after (length earlier + 1) line.event mid after world new (Ok line.reply) handled earlier o.state refl o.told o.stands in
    let q = sound_after (length earlier + 1) line.event mid after world new (Ok line.reply) handled earlier o.state refl o.told o.stands in
    record {
      state = f.after;
      told = f.told;
      stands = f.stands;
      sound = each_more IsSoundLine earlier line o.sound q;
    }

-- some book stands where lines do
on_book : (lines : List Line) (world : World) (t : CloudState) → WorldStands lines world t → SomeBookStands (session_at world.sessions) t
on_book lines world t stands = book_of lines (session_at world.sessions) world.audit world.blind t stands.by_lines

-- what a settling among them left, and how it ended
pub leaves_so : (n : ℕ) (e : Event) (before after : Seen) (old new : World) (r : Reply) → SettlingLeaves n e (span_of before after old new) (Ok r)
    → (t : CloudState) → before.state ≡ Some t → SomeBookStands (session_at old.sessions) t → (handled : Handled n e (span_of before after old new) (Ok r))
    → LeavesSo n e (span_of before after old new) r handled
leaves_so n event.Settle before after old new (reply.Settled calls) law t told stands handled = law t told stands handled
leaves_so n e before after old new r law t told stands handled = tt

ends_here : (n : ℕ) (e : Event) (before after : Seen) (old new : World) (r : Reply) → SettlingEnds n e (span_of before after old new) (Ok r)
    → (t : CloudState) → before.state ≡ Some t → SomeBookStands (session_at old.sessions) t → (handled : Handled n e (span_of before after old new) (Ok r))
    → EndsSo t n e (span_of before after old new) r handled
ends_here n event.Settle before after old new r law t told stands handled = λ free each. law t told stands free handled each
ends_here n e before after old new r law t told stands handled = tt

pub same_some : {X : Type 0} (x y : X) → Some x ≡ Some y → x ≡ y
same_some x y e = cc

pub ends_so : (n : ℕ) (e : Event) (before after : Seen) (old new : World) (r : Reply) → SettlingEnds n e (span_of before after old new) (Ok r)
    → (t : CloudState) → before.state ≡ Some t → SomeBookStands (session_at old.sessions) t → (handled : Handled n e (span_of before after old new) (Ok r))
    → (s : CloudState) → before.state ≡ Some s → EndsSo s n e (span_of before after old new) r handled
ends_so n e before after old new r law t told stands handled s seen =
    subst (λ x. EndsSo x n e (span_of before after old new) r handled) (same_some t s (sym told ∙ seen)) (ends_here n e before after old new r law t told stands handled)

-- a session that was untroubled as a cloud told before a line is so behind it, and the line is answered well
abbrev IsWellFrom : List Line → Line → World → World → CloudState → CloudState → Type 0
IsWellFrom lines line old new u t =
    IsUntroubled t (work_at old (session_of line.event))
    → IsUntroubled u (work_at new (session_of line.event)) × RepliesWell u line.event (standing lines (session_of line.event)).posture line.reply
    × LeavesUnsent line.event (standing lines (session_of line.event)).posture (hand_at t old (session_of line.event)) (hand_at u new (session_of line.event)) line.reply

-- and each of them explains itself
pub went_explained : (before : Seen) (old : World) (t : CloudState) (lines : List Line) (after : Seen) (new : World) → (went : WentOn before old lines after new) → before.state ≡ Some t
    → WorldStands [] old t → AreExplained before old lines after new went
went_explained before old t lines after new start told stands = tt
went_explained before old t lines after new (further earlier line mid _ world _ went handled) told stands =
    let o = went_soundly before old t earlier mid world went told stands in (
      went_explained before old t earlier mid world went told stands,
      record {
        explains = explained (length earlier + 1) line.event mid after world new (Ok line.reply) earlier o.state refl o.told o.stands handled;
        calm = λ each s u seen told_after.
            subst (IsWellFrom earlier line world new u) (same_some o.state s (sym o.told ∙ seen))
            (well_after (length earlier + 1) line.event mid after world new (Ok line.reply) earlier o.state u refl o.told told_after o.stands handled each);
        passed = λ each. passes_well (length earlier + 1) line.event mid after world new (Ok line.reply) earlier o.state refl o.told o.stands handled each;
        bounded = few_calls (length earlier + 1) line.event mid after world new (Ok line.reply) earlier o.state refl o.told o.stands handled;
        names = names_pieces (length earlier + 1) line.event mid after world new (Ok line.reply) earlier o.state refl o.told o.stands handled;
        leaves =
            leaves_so (length earlier + 1) line.event mid after world new line.reply
            (settling_leaves (length earlier + 1) line.event mid after world new (Ok line.reply)) o.state o.told (on_book earlier world o.state o.stands) handled;
        ends =
            ends_so (length earlier + 1) line.event mid after world new line.reply
            (settling_ends (length earlier + 1) line.event mid after world new (Ok line.reply)) o.state o.told (on_book earlier world o.state o.stands) handled;
        kept = λ u seen. durable_after (length earlier + 1) line.event mid after world new (Ok line.reply) handled earlier o.state u refl o.told o.stands seen;
        landed = λ u seen. landed_after (length earlier + 1) line.event mid after world new (Ok line.reply) handled earlier o.state u refl o.told o.stands seen;
        left_none = λ u seen. nothing_after (length earlier + 1) line.event mid after world new (Ok line.reply) handled earlier o.state u refl o.told o.stands seen;
        shows = shown (length earlier + 1) line.event mid after world new (Ok line.reply) handled;
        shows_by = shown_by (length earlier + 1) line.event mid after world new (Ok line.reply) earlier o.state refl o.told o.stands handled;
        tells_by = tells_by (length earlier + 1) line.event mid after world new line.reply handled earlier o.state refl o.told o.stands;
        left = λ u seen.
            let f = stands_after (length earlier + 1) line.event mid after world new (Ok line.reply) handled earlier o.state refl o.told o.stands in
            subst (λ x. LeftIsRight x line.reply) (same_some f.after u (sym f.told ∙ seen)) f.left;
      },
    )

-- ---- what a writer leaves

-- what its notes meter behind these lines, where each of their steps went through
meters_behind : (before : Seen) (old : World) (t : CloudState) (lines : List Line) (after : Seen) (new : World) → (went : WentOn before old lines after new) → before.state ≡ Some t
    → WorldStands [] old t → GoThrough before old lines after new went → (session k : ℕ) (u : CloudState) → after.state ≡ Some u
    → MetersAt (stage_of session k lines) session k new u × LeavesFewAt (stage_of session k lines) k u
meters_behind before old t lines after new start told stands through session k u seen = (tt, tt)
meters_behind before old t lines after new (further earlier line mid _ world _ went handled) told stands through session k u seen =
    let o = went_soundly before old t earlier mid world went told stands in
    let m = meters_behind before old t earlier mid world went told stands through.0 session k o.state o.told in
    let kept = keeps_meter (length earlier + 1) line.event mid after world new (Ok line.reply) earlier o.state u refl o.told seen o.stands handled through.1 session k m.0 in
    let same = sym (stage_line session k earlier line) in
    (subst (λ (stage : Stage). MetersAt stage session k new u) same kept.0, subst (λ (stage : Stage). LeavesFewAt stage k u) same kept.1)

-- ---- a writer that is alone

-- a step that was undisturbed went through
goes_through : (who : Caller) (wish : Wish) (before after : Seen) (old new : World) (turn : Turn Answer) (p : StepsLooked who wish (span_of before after old new) turn)
    → StepIsUndisturbed who wish (span_of before after old new) turn p → StepGoesThrough who wish (span_of before after old new) turn p
goes_through who wish before after old new turn p x = (ap (λ (c : Counts). c.withheld) x.counts, ap (λ (c : Counts). c.faults) x.counts)

-- where its works passed none over, they may be told so
worked_same : (session k : ℕ) (e : Event) (done passed : ℕ) (stage : Stage) → PassesNoneAt stage e (reply.Worked done passed)
    → by_line session k e (reply.Worked done 0) stage ≡ by_line session k e (reply.Worked done passed) stage
worked_same session k (event.Work s) done passed Unbound none = refl
worked_same session k (event.Work s) done passed Even none = ap (λ (n : ℕ). by_line session k (event.Work s) (reply.Worked done n) Even) (sym none)
worked_same session k (event.Work s) done passed Owing none = ap (λ (n : ℕ). by_line session k (event.Work s) (reply.Worked done n) Owing) (sym none)
worked_same session k (event.Work s) done passed Astray none = refl
worked_same session k e done passed Unbound none = refl
worked_same session k e done passed Even none = refl
worked_same session k e done passed Owing none = refl
worked_same session k e done passed Astray none = refl

unpassed_same : (session k : ℕ) (e : Event) (r : Reply) (stage : Stage) → PassesNoneAt stage e r → by_line session k e (none_passed r) stage ≡ by_line session k e r stage
unpassed_same session k e (reply.Worked done passed) stage none = worked_same session k e done passed stage none
unpassed_same session k e r stage none = refl

-- how it stands behind these lines
record IsAloneBehind (session k : ℕ) (lines : List Line) (world : World) (t : CloudState) : Type 0 where
  alone : IsAloneIn session world t
  sent : HasSentAt (stage_of session k lines) session k world t
  meters : MetersAt (stage_of session k lines) session k world t
  few : LeavesFewAt (stage_of session k lines) k t
  same : stage_of session k (map unpassed lines) ≡ stage_of session k lines

alone_behind : (before : Seen) (old : World) (t : CloudState) (lines : List Line) (after : Seen) (new : World) → (went : WentOn before old lines after new) → before.state ≡ Some t
    → WorldStands [] old t → (session k : ℕ) → IsAloneIn session old t → GoAlone session went → (u : CloudState) → after.state ≡ Some u
    → IsAloneBehind session k lines new u
alone_behind before old t lines after new start told stands session k free alone u seen =
    record { alone = subst (λ (x : CloudState). IsAloneIn session old x) (same_some t u (sym told ∙ seen)) free; sent = tt; meters = tt; few = tt; same = refl }
alone_behind before old t lines after new (further earlier line mid _ world _ went handled) told stands session k free goes u seen =
    let o = went_soundly before old t earlier mid world went told stands in
    let m = alone_behind before old t earlier mid world went told stands session k free goes.0 o.state o.told in
    let stays =
    keeps_alone (length earlier + 1) line.event mid after world new (Ok line.reply) earlier o.state u refl o.told seen o.stands handled goes.2 session goes.1 m.alone in
    let spared =
    spares_writer (length earlier + 1) line.event mid after world new (Ok line.reply) earlier o.state u refl o.told seen o.stands handled goes.2 goes.3 session k goes.1 m.alone m.sent in
    let kept =
    keeps_meter (length earlier + 1) line.event mid after world new (Ok line.reply) earlier o.state u refl o.told seen o.stands handled
    (asked_where StepIsUndisturbed StepGoesThrough goes_through (length earlier + 1) mid after world new (Ok line.reply) handled.asked handled.answers goes.2) session k m.meters in
    let on = stage_line session k earlier line in
    record {
      alone = stays.0;
      sent = subst (λ (stage : Stage). HasSentAt stage session k new u) (sym on) spared.1;
      meters = subst (λ (stage : Stage). MetersAt stage session k new u) (sym on) kept.0;
      few = subst (λ (stage : Stage). LeavesFewAt stage k u) (sym on) kept.1;
      same = ap (stage_of session k) (map-append unpassed earlier (line ∷ [])) ∙ (stage_line session k (map unpassed earlier) (unpassed line)
          ∙ (ap (by_line session k line.event (none_passed line.reply)) m.same
          ∙ (unpassed_same session k line.event line.reply (stage_of session k earlier) spared.0 ∙ sym on)));
    }

-- a writer leaves few behind each of them
pub went_metered : (before : Seen) (old : World) (t : CloudState) (lines : List Line) (after : Seen) (new : World) → (went : WentOn before old lines after new) → before.state ≡ Some t
    → WorldStands [] old t → ((session : ℕ) → IsAloneIn session old t) → AreMetered before old lines after new went
went_metered before old t lines after new start told stands free = tt
went_metered before old t lines after new (further earlier line mid _ world _ went handled) told stands free = (
  went_metered before old t earlier mid world went told stands free,
  λ through session k u seen.
      (meters_behind before old t (earlier ++ line ∷ []) after new (further earlier line mid after world new went handled) told stands through session k u seen).1,
  λ session k u alone seen.
      let b = alone_behind before old t (earlier ++ line ∷ []) after new (further earlier line mid after world new went handled) told stands session k (free session) alone u seen in
      (b.same, subst (λ (stage : Stage). LeavesFewAt stage k u) (sym b.same) b.few),
)
