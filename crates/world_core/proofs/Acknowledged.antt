-- Every commit that is answered as committed is among what was committed.
use Rattle.std.proofs.Common.{◌≡◌, ◌+◌, ℕ, List, [], ◌∷◌, ◌++◌, length, Some, Result, Ok, Err, sym, subst, ◌∙◌}
use Rattle.client_work.specs.Session.{StepsSession}
use Rattle.client_work.specs.declared.answer.Answer.TheVariants as answer
use Rattle.client_work.specs.declared.work.Work.{Work}
use Rattle.cloud_facts.specs.Words.{at, CommitAnswer, Entry, Ended, CloudState, Caller, Seen}
use Rattle.db_base.specs.declared.wish.Wish.{Wish}
use Rattle.event_text.specs.declared.event.Event.{Event}
use Rattle.replay_meaning.specs.Committed.{committed}
use Rattle.replay_meaning.specs.Standing.{Line, Posture, session_of, standing}
use Rattle.reply_text.specs.declared.reply.Reply.{Reply}
use Rattle.reply_text.specs.declared.reply.Reply.TheVariants as reply
use Rattle.session_facts.proofs.Lines.Acknowledged.{acknowledged}
use Rattle.session_facts.proofs.Lines.Committed.{committed_line}
use Rattle.session_facts.proofs.Lines.More.{line_of}
use Rattle.session_facts.proofs.Lines.Outcome.{CallLeaves, wish_holds}
use Rattle.session_facts.specs.Lines.Acknowledged.{IsKeptAt, IsKeptReply}
use Rattle.session_facts.specs.Lines.Facts.{session_at, CloudHolds}
use Rattle.world_core.specs.declared.world.WorldFault.{WorldFault}
use Rattle.world_core.specs.Acknowledged.{AnswersDurably}
use Rattle.world_core.specs.Handled.{StepsLooked, Handled}
use Rattle.world_core.specs.World.{World}
use Rattle.world_core.specs.Span.{span_of}
use Rattle.world_core.proofs.CommitReplies.{OfReply, SaysNothing, asked_keeps}
use Rattle.world_core.proofs.StandsLemmas.{IsUnderWay, told_under, call, steps_own}

-- the end of a commit that a step made
step_commits : (lines : List Line) (line : Line) (who : Caller) (wish : Wish) (before after : Seen) (old new : World) (u : CloudState) (c : CommitAnswer) → who.event ≡ length lines + 1
    → IsUnderWay lines old before → after.state ≡ Some u → StepsLooked who wish (span_of before after old new) (Ended (answer.Commit c))
    → IsKeptAt (committed (lines ++ line ∷ []) u) (standing lines who.session).client (standing lines who.session).posture c
step_commits lines line who wish before after old new u c number way told p =
    subst Kept (one left.state u (sym (p.look_after.stays left.state left.told) ∙ told))
    (subst (λ es. IsKeptAt es (standing lines who.session).client (standing lines who.session).posture c) (sym (committed_line lines line left.state left.holds.cloud.upto.trace))
    (acknowledged (length lines + 1) lines who p.under p.to (record way.after { wish = wish }) left.state (session_at old.sessions) p.session.after old.audit old.blind c held under left.told
    (way.goes.acts who.session).work own))
  where
    Kept : CloudState → Type 0
    Kept x = IsKeptAt (committed (lines ++ line ∷ []) x) (standing lines who.session).client (standing lines who.session).posture c

    held : CloudHolds (length lines + 1) lines (session_at old.sessions) old.audit old.blind (record way.after { wish = wish })
    held = wish_holds (length lines + 1) lines (session_at old.sessions) old.audit old.blind way.after wish way.goes.holds

    left : CallLeaves lines p.to (at who.session p.session.after (session_at old.sessions)) new.audit new.blind
    left = call lines who wish before after old new (Ended (answer.Commit c)) number way p

    under : p.under.state ≡ Some (record way.after { wish = wish })
    under = told_under lines who wish before after old new (Ended (answer.Commit c)) number way p

    own : StepsSession who p.under p.to (session_at old.sessions who.session) p.session.after (Ok (Ended (answer.Commit c)))
    own = steps_own lines who wish before after old new (Ended (answer.Commit c)) number way p

    one : (a b : CloudState) → Some a ≡ Some b → a ≡ b
    one a b e = cc

-- ---- every line

kept_nothing : (entries : List Entry) (client : ℕ) → SaysNothing (λ p left a. IsKeptAt entries client p a)
kept_nothing entries client = record { closed = λ left a. tt; idle = λ left a. tt; broken = λ left a. tt }

kept_reply : (entries : List Entry) (client : ℕ) (p : Posture) (left : Work) (r : Reply) → OfReply (λ q w a. IsKeptAt entries client q a) p left r → IsKeptReply entries client p r
kept_reply entries client p left (reply.Commit a) h = h
kept_reply entries client p left r h = tt

pub durable_after : (n : ℕ) (event : Event) (before after : Seen) (old new : World) (result : Result Reply WorldFault)
    → Handled n event (span_of before after old new) result → AnswersDurably n event (span_of before after old new) result
durable_after n event before after old new (Ok r) h = λ lines t u at told stands seen.
    let entries : List Entry = committed (lines ++ line_of event r ∷ []) u in
    let client : ℕ = (standing lines (session_of event)).client in
    kept_reply entries client (standing lines (session_of event)).posture (session_at new.sessions (session_of event)).work r
    (asked_keeps (λ p left a. IsKeptAt entries client p a) (kept_nothing entries client) n before after old new r lines t at told stands.by_lines event
    (λ wish mid world c way p. step_commits lines (line_of event r) (record { session = session_of event; event = n }) wish mid after world new u c (sym at) way seen p)
    h.asked h.asks h.answers)
durable_after n event before after old new (Err fault) h = tt
