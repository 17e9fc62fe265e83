-- Every commit that is answered as committed landed by its own session since it began.
use Rattle.std.proofs.Common.{◌≡◌, ◌+◌, ℕ, List, length, Some, Result, Ok, Err, sym, subst, ◌∙◌}
use Rattle.std.proofs.lemmas.Option.{same_Some}
use Rattle.client_work.specs.Session.{StepsSession}
use Rattle.client_work.specs.declared.answer.Answer.TheVariants as answer
use Rattle.client_work.specs.declared.work.Work.{Work}
use Rattle.cloud_facts.specs.Words.{at, CommitAnswer, Ended, CloudState, Caller, Seen}
use Rattle.db_base.specs.declared.wish.Wish.{Wish}
use Rattle.event_text.specs.declared.event.Event.{Event}
use Rattle.replay_meaning.specs.Standing.{Line, Posture, session_of, standing}
use Rattle.reply_text.specs.declared.reply.Reply.{Reply}
use Rattle.reply_text.specs.declared.reply.Reply.TheVariants as reply
use Rattle.session_facts.proofs.Lines.LandedCommits.{answered_landed}
use Rattle.session_facts.proofs.Lines.Outcome.{CallLeaves, wish_holds}
use Rattle.session_facts.specs.Lines.Acknowledged.{IsLandedAt, IsLandedReply}
use Rattle.session_facts.specs.Lines.Facts.{session_at, CloudHolds}
use Rattle.world_core.specs.declared.world.WorldFault.{WorldFault}
use Rattle.world_core.specs.Acknowledged.{AnswersLanded}
use Rattle.world_core.specs.Handled.{StepsLooked, Handled}
use Rattle.world_core.specs.World.{World}
use Rattle.world_core.specs.Span.{span_of}
use Rattle.world_core.proofs.CommitReplies.{OfReply, SaysNothing, asked_keeps}
use Rattle.world_core.proofs.StandsLemmas.{IsUnderWay, told_under, call, steps_own}

-- the end of a commit that a step made
step_lands : (lines : List Line) (who : Caller) (wish : Wish) (before after : Seen) (old new : World) (u : CloudState) (c : CommitAnswer) → who.event ≡ length lines + 1
    → IsUnderWay lines old before → after.state ≡ Some u → StepsLooked who wish (span_of before after old new) (Ended (answer.Commit c))
    → IsLandedAt lines u who.session (standing lines who.session).client (standing lines who.session).posture c
step_lands lines who wish before after old new u c number way told p =
    subst (λ (x : CloudState). IsLandedAt lines x who.session (standing lines who.session).client (standing lines who.session).posture c)
    (same_Some left.state u (sym (p.look_after.stays left.state left.told) ∙ told))
    (answered_landed lines who p.under p.to (record way.after { wish = wish }) left.state (session_at old.sessions) p.session.after old.audit old.blind c number held under left.told
    left.holds.cloud.upto.trace (way.goes.acts who.session).work own)
  where
    held : CloudHolds (length lines + 1) lines (session_at old.sessions) old.audit old.blind (record way.after { wish = wish })
    held = wish_holds (length lines + 1) lines (session_at old.sessions) old.audit old.blind way.after wish way.goes.holds

    left : CallLeaves lines p.to (at who.session p.session.after (session_at old.sessions)) new.audit new.blind
    left = call lines who wish before after old new (Ended (answer.Commit c)) number way p

    under : p.under.state ≡ Some (record way.after { wish = wish })
    under = told_under lines who wish before after old new (Ended (answer.Commit c)) number way p

    own : StepsSession who p.under p.to (session_at old.sessions who.session) p.session.after (Ok (Ended (answer.Commit c)))
    own = steps_own lines who wish before after old new (Ended (answer.Commit c)) number way p

-- ---- every line

landed_nothing : (lines : List Line) (u : CloudState) (session client : ℕ) → SaysNothing (λ p left a. IsLandedAt lines u session client p a)
landed_nothing lines u session client = record { closed = λ left a. tt; idle = λ left a. tt; broken = λ left a. tt }

landed_reply : (lines : List Line) (u : CloudState) (session client : ℕ) (p : Posture) (left : Work) (r : Reply) → OfReply (λ q w a. IsLandedAt lines u session client q a) p left r
    → IsLandedReply lines u session client p r
landed_reply lines u session client p left (reply.Commit a) h = h
landed_reply lines u session client p left r h = tt

pub landed_after : (n : ℕ) (event : Event) (before after : Seen) (old new : World) (result : Result Reply WorldFault)
    → Handled n event (span_of before after old new) result → AnswersLanded n event (span_of before after old new) result
landed_after n event before after old new (Ok r) h = λ lines t u at told stands seen.
    let session : ℕ = session_of event in
    let client : ℕ = (standing lines session).client in
    landed_reply lines u session client (standing lines session).posture (session_at new.sessions session).work r
    (asked_keeps (λ p left a. IsLandedAt lines u session client p a) (landed_nothing lines u session client) n before after old new r lines t at told stands.by_lines event
    (λ wish mid world c way p. step_lands lines (record { session = session; event = n }) wish mid after world new u c (sym at) way seen p)
    h.asked h.asks h.answers)
landed_after n event before after old new (Err fault) h = tt
