-- What runs leave, and settlings among them, over whatever cloud earlier runs left.
use Rattle.std.proofs.Common.{◌≡◌, ◌+◌, ℕ, Bool, List, length, Some, Result, Ok, sym, ap, subst, ◌∙◌, inl, inr}
use Rattle.client_work.specs.Session.{Acting, closed_session}
use Rattle.client_work.specs.declared.answer.Answer.{Answer}
use Rattle.client_work.specs.declared.answer.Answer.TheVariants as answer
use Rattle.cloud_facts.specs.Words.{Trouble, Entry, CloudState, Seen}
use Rattle.db_base.specs.declared.trouble.Trouble.TheVariants as trouble
use Rattle.event_text.specs.declared.event.Event.{Event}
use Rattle.event_text.specs.declared.event.Event.TheVariants as event
use Rattle.replay_meaning.specs.Standing.{Line, Posture, standing}
use Rattle.reply_text.specs.declared.reply.Reply.{Reply}
use Rattle.reply_text.specs.declared.reply.Reply.TheVariants as reply
use Rattle.session_facts.proofs.Lines.Books.{was_left, empty_left}
use Rattle.session_facts.proofs.Lines.Start.{closed_at}
use Rattle.session_facts.specs.Lines.Acknowledged.{IsKeptReply, IsLandedReply}
use Rattle.client_work.specs.declared.work.Work.{Work}
use Rattle.session_facts.specs.Lines.Errands.{settles}
use Rattle.session_facts.specs.Lines.Facts.{session_at, SomeBookStands, WasLeft}
use Rattle.session_facts.specs.Lines.LeftNone.{IsLeftReply}
use Rattle.session_facts.specs.Sessions.Knows.{Sessions}
use Rattle.world_core.proofs.Keeping.{keeps_book}
use Rattle.world_core.proofs.Shown.{shown}
use Rattle.world_core.proofs.ShownByLines.{settled_by}
use Rattle.world_core.proofs.Settled.{settling_leaves, settling_ends, settling_right}
use Rattle.world_core.proofs.StandsLemmas.{no_memory}
use Rattle.world_core.specs.Bounded.{AnswersSoon}
use Rattle.world_core.specs.Named.{NamesAt}
use Rattle.world_core.specs.Passed.{AskedPassed}
use Rattle.world_core.specs.Handled.{SettlesOn, Settles as SettlesLine, Answers, Handled}
use Rattle.world_core.specs.Replying.{RepliesSettled, unsettled_reply}
use Rattle.world_core.specs.Stands.{LeftIsRight}
use Rattle.world_core.specs.World.{World, all_sessions}
use Rattle.world_core.specs.declared.asked.Asked.{Asked}
use Rattle.world_core.specs.declared.asked.Asked.TheVariants.{Session, Wait, Report, Settle, Sweep}
use Rattle.world_core.specs.declared.world.WorldFault.{WorldFault}
use Rattle.world_core.specs.Span.{span_of}
use Rattle.schedule_run.proofs.SoundLemmas.{leaves_so, ends_so}
use Rattle.schedule_run.specs.Answered.{IsNew, WentOn, start, further, SettlesSo, AreSettled, IsOfRuns, LeavesOne}

-- ---- the beginning

left_by_runs : (t : CloudState) → IsOfRuns t → WasLeft t
left_by_runs t (inl empty) = empty_left t empty
left_by_runs t (inr left) = left

-- a new world stands over what runs left
pub new_on_book : {blind : Bool} → (world : World) (t : CloudState) → IsNew blind world → IsOfRuns t → SomeBookStands (session_at world.sessions) t
new_on_book world t fresh runs = subst (λ (f : Sessions). SomeBookStands f t) (sym alike) (left_by_runs t runs)
  where
    closed : (n : ℕ) → session_at world.sessions n ≡ closed_session
    closed n = ap (λ (l : List Acting). session_at l n) fresh.sessions ∙ closed_at all_sessions n

    alike : session_at world.sessions ≡ (λ n. closed_session)
    alike = λ i n. closed n i

-- ---- a settling

-- no run is a settling
no_run : (lines : List Line) (n : ℕ) (asked : Asked) (before after : Seen) (old new : World) (result : Result Reply WorldFault) → asked ≡ Settle → (answers : Answers n asked (span_of before after old new) result)
    → AnswersSoon lines n asked (span_of before after old new) result answers
no_run lines n Settle before after old new result is answers = tt
no_run lines n (Session k request) before after old new result is answers = absurd (cc (is))
no_run lines n (Wait ticks) before after old new result is answers = tt
no_run lines n (Report tree) before after old new result is answers = tt
no_run lines n (Sweep tree) before after old new result is answers = absurd (cc (is))

-- and none of a checkpoint
no_checkpoint : (n : ℕ) (asked : Asked) (before after : Seen) (old new : World) (result : Result Reply WorldFault) → asked ≡ Settle → (answers : Answers n asked (span_of before after old new) result)
    → NamesAt n asked (span_of before after old new) result answers
no_checkpoint n Settle before after old new result is answers = tt
no_checkpoint n (Session k request) before after old new result is answers = absurd (cc (is))
no_checkpoint n (Wait ticks) before after old new result is answers = tt
no_checkpoint n (Report tree) before after old new result is answers = tt
no_checkpoint n (Sweep tree) before after old new result is answers = absurd (cc (is))

-- and passes none over
no_passed : (n : ℕ) (asked : Asked) (before after : Seen) (old new : World) (result : Result Reply WorldFault) → asked ≡ Settle → (answers : Answers n asked (span_of before after old new) result)
    → AskedPassed n asked (span_of before after old new) result answers
no_passed n Settle before after old new result is answers = tt
no_passed n (Session k request) before after old new result is answers = absurd (cc (is))
no_passed n (Wait ticks) before after old new result is answers = tt
no_passed n (Report tree) before after old new result is answers = tt
no_passed n (Sweep tree) before after old new result is answers = absurd (cc (is))

-- what holds of each reply to a settling holds of its own
unsettled_is : (P : Reply → Type 0) (r : Reply) (q : Trouble) → ((k : Trouble) → P (reply.NotSettled k)) → (let result : Result Reply WorldFault = Ok r in result ≡ unsettled_reply q) → P r
unsettled_is P r trouble.Memory each e = absurd (cc (e))
unsettled_is P r q each e = let is : r ≡ reply.NotSettled q = cc (e) in subst P (sym is) (each q)

settled_is : (P : Reply → Type 0) → ((calls : ℕ) → P (reply.Settled calls)) → ((k : Trouble) → P (reply.NotSettled k)) → (n : ℕ) (before after : Seen) (old new : World) (r : Reply)
    → SettlesLine settles n (span_of before after old new) (Ok r) → P r
settled_is P settled unsettled n before after old new r (inr memory) = absurd (no_memory r memory.0)
settled_is P settled unsettled n before after old new r (inl h) = by_end h.settles
  where
    replied : (a : Answer) → RepliesSettled a (Ok r) → P r
    replied (answer.Settled x) e = let is : r ≡ reply.Settled x.calls = cc (e) in subst P (sym is) (settled x.calls)
    replied (answer.Trouble q) e = unsettled_is P r q unsettled e
    replied a e = absurd e

    by_end : SettlesOn settles (record { session = 0; event = n }) (span_of before after h.begun new) (Ok r) → P r
    by_end (inr memory) = absurd (no_memory r memory.0)
    by_end (inl s) = replied s.answer s.replies

-- it acknowledges nothing, ends no commit, and is no report
settled_keeps : (entries : List Entry) (client : ℕ) (posture : Posture) (n : ℕ) (before after : Seen) (old new : World) (r : Reply) → SettlesLine settles n (span_of before after old new) (Ok r)
    → IsKeptReply entries client posture r
settled_keeps entries client posture = settled_is (IsKeptReply entries client posture) (λ calls. tt) (λ k. tt)

settled_counts : (u : CloudState) (n : ℕ) (before after : Seen) (old new : World) (r : Reply) → SettlesLine settles n (span_of before after old new) (Ok r) → LeftIsRight u r
settled_counts u = settled_is (LeftIsRight u) (λ calls. tt) (λ k. tt)

settled_lands : (lines : List Line) (u : CloudState) (client : ℕ) (posture : Posture) (n : ℕ) (before after : Seen) (old new : World) (r : Reply) → SettlesLine settles n (span_of before after old new) (Ok r)
    → IsLandedReply lines u 0 client posture r
settled_lands lines u client posture = settled_is (IsLandedReply lines u 0 client posture) (λ calls. tt) (λ k. tt)

settled_commits : (entries : List Entry) (posture : Posture) (work : Work) (n : ℕ) (before after : Seen) (old new : World) (r : Reply) → SettlesLine settles n (span_of before after old new) (Ok r)
    → IsLeftReply entries posture work r
settled_commits entries posture work = settled_is (IsLeftReply entries posture work) (λ calls. tt) (λ k. tt)

pub settles_so : (lines : List Line) (e : Event) (r : Reply) (before after : Seen) (old new : World) (t : CloudState) → before.state ≡ Some t → SomeBookStands (session_at old.sessions) t
    → (handled : Handled (length lines + 1) e (span_of before after old new) (Ok r)) → SettlesSo lines e r (span_of before after old new) handled
settles_so lines event.Settle r before after old new t told stands handled =
    let right = settling_right (length lines + 1) event.Settle before after old new (Ok r) t told stands handled in (
      right.sound (standing lines 0).posture,
      record {
        explains = right.explains;
        calm = λ each s u seen told_after well. let is = right.calm each u told_after in (is.0, is.1, tt);
        passed = λ each. no_passed (length lines + 1) handled.asked before after old new (Ok r) handled.asks handled.answers;
        bounded = no_run lines (length lines + 1) handled.asked before after old new (Ok r) handled.asks handled.answers;
        names = no_checkpoint (length lines + 1) handled.asked before after old new (Ok r) handled.asks handled.answers;
        leaves = leaves_so (length lines + 1) event.Settle before after old new r (settling_leaves (length lines + 1) event.Settle before after old new (Ok r)) t told stands handled;
        ends = ends_so (length lines + 1) event.Settle before after old new r (settling_ends (length lines + 1) event.Settle before after old new (Ok r)) t told stands handled;
        kept = λ u seen.
            settled_keeps _ (standing lines 0).client (standing lines 0).posture (length lines + 1) before after old new r
            (subst (λ z. Answers (length lines + 1) z (span_of before after old new) (Ok r)) handled.asks handled.answers);
        landed = λ u seen.
            settled_lands lines u (standing lines 0).client (standing lines 0).posture (length lines + 1) before after old new r
            (subst (λ z. Answers (length lines + 1) z (span_of before after old new) (Ok r)) handled.asks handled.answers);
        left_none = λ u seen.
            settled_commits _ (standing lines 0).posture (session_at new.sessions 0).work (length lines + 1) before after old new r
            (subst (λ z. Answers (length lines + 1) z (span_of before after old new) (Ok r)) handled.asks handled.answers);
        shows = shown (length lines + 1) event.Settle before after old new (Ok r) handled;
        shows_by = settled_by lines (length lines + 1) handled.asked before after old new (Ok r) handled.asks handled.answers;
        tells_by = tt;
        left = λ u seen.
            settled_counts u (length lines + 1) before after old new r (subst (λ z. Answers (length lines + 1) z (span_of before after old new) (Ok r)) handled.asks handled.answers);
      },
    )
settles_so lines e r before after old new t told stands handled = tt

-- ---- all lines

went_left : (before : Seen) (old : World) (t : CloudState) (lines : List Line) (after : Seen) (new : World) → WentOn before old lines after new → before.state ≡ Some t
    → SomeBookStands (session_at old.sessions) t → (u : CloudState) × (after.state ≡ Some u) × SomeBookStands (session_at new.sessions) u
went_left before old t lines after new start told stands = (t, told, stands)
went_left before old t lines after new (further earlier line mid _ world _ went handled) told stands =
    let o = went_left before old t earlier mid world went told stands in
    keeps_book (length earlier + 1) line.event mid after world new (Ok line.reply) handled o.0 o.1 o.2

went_settled : (before : Seen) (old : World) (t : CloudState) (lines : List Line) (after : Seen) (new : World) → (went : WentOn before old lines after new) → before.state ≡ Some t
    → SomeBookStands (session_at old.sessions) t → AreSettled before old lines after new went
went_settled before old t lines after new start told stands = tt
went_settled before old t lines after new (further earlier line mid _ world _ went handled) told stands =
    let o = went_left before old t earlier mid world went told stands in
    (went_settled before old t earlier mid world went told stands, settles_so earlier line.event line.reply mid after world new o.0 o.1 o.2 handled)

-- ---- from a new world on

pub lines_left : {blind : Bool} → (lines : List Line) (s t : Seen) (first world : World) → WentOn s first lines t world → IsNew blind first → LeavesOne s t
lines_left lines s t first world went fresh x told runs =
    let o = went_left s first x lines t world went told (new_on_book first x fresh runs) in
    (o.0, o.1, was_left (session_at world.sessions) o.0 o.2)

pub lines_settled : {blind : Bool} → (lines : List Line) (s t : Seen) (first world : World) → (went : WentOn s first lines t world) → IsNew blind first → (x : CloudState) → s.state ≡ Some x → IsOfRuns x
    → AreSettled s first lines t world went
lines_settled lines s t first world went fresh x told runs = went_settled s first x lines t world went told (new_on_book first x fresh runs)
