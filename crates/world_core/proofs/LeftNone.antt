-- Every commit that is answered `not-committed` left nothing among what was committed.
use Rattle.std.proofs.Common.{◌≡◌, ◌+◌, ℕ, List, [], ◌∷◌, ◌++◌, length, Some, Result, Ok, Err, refl, ap, sym, subst, ◌∙◌}
use Rattle.client_work.specs.Session.{Acting, StepsSession}
use Rattle.client_work.specs.declared.answer.Answer.TheVariants as answer
use Rattle.client_work.specs.declared.work.Work.{Work}
use Rattle.cloud_facts.proofs.Book.Names.{at_same}
use Rattle.cloud_facts.specs.Words.{at, CommitAnswer, Entry, Ended, CloudState, Caller, Seen}
use Rattle.db_base.specs.declared.wish.Wish.{Wish}
use Rattle.event_text.specs.declared.event.Event.{Event}
use Rattle.replay_meaning.specs.Committed.{committed}
use Rattle.replay_meaning.specs.Standing.{Line, Posture, session_of, standing}
use Rattle.reply_text.specs.declared.reply.Reply.{Reply}
use Rattle.reply_text.specs.declared.reply.Reply.TheVariants as reply
use Rattle.session_facts.proofs.Lines.LeftNone.{left_none}
use Rattle.session_facts.proofs.Lines.Committed.{committed_line}
use Rattle.session_facts.proofs.Lines.More.{line_of}
use Rattle.session_facts.proofs.Lines.Outcome.{CallLeaves, wish_holds}
use Rattle.session_facts.specs.Lines.LeftNone.{LeavesNoneAt, IsLeftReply}
use Rattle.session_facts.specs.Lines.Facts.{session_at, CloudHolds}
use Rattle.world_core.specs.declared.world.WorldFault.{WorldFault}
use Rattle.world_core.specs.LeftNone.{LeavesNoCommit}
use Rattle.world_core.specs.Handled.{StepsLooked, Handled}
use Rattle.world_core.specs.World.{World}
use Rattle.world_core.specs.Span.{span_of}
use Rattle.world_core.proofs.CommitReplies.{OfReply, SaysNothing, asked_keeps}
use Rattle.world_core.proofs.StandsLemmas.{changed_at, IsUnderWay, told_under, call, steps_own}

-- the end of a commit that a step made
step_leaves : (lines : List Line) (line : Line) (who : Caller) (wish : Wish) (before after : Seen) (old new : World) (u : CloudState) (c : CommitAnswer) → who.event ≡ length lines + 1
    → IsUnderWay lines old before → after.state ≡ Some u → StepsLooked who wish (span_of before after old new) (Ended (answer.Commit c))
    → LeavesNoneAt (committed (lines ++ line ∷ []) u) (standing lines who.session).posture (session_at new.sessions who.session).work c
step_leaves lines line who wish before after old new u c number way told p =
    subst Left (one left.state u (sym (p.look_after.stays left.state left.told) ∙ told))
    (subst (λ es. LeavesNoneAt es (standing lines who.session).posture (session_at new.sessions who.session).work c) (sym (committed_line lines line left.state left.holds.cloud.upto.trace))
    (subst (λ (w : Work). LeavesNoneAt (committed lines left.state) (standing lines who.session).posture w c) (sym now)
    (left_none (length lines + 1) lines who p.under p.to (record way.after { wish = wish }) left.state (session_at old.sessions) old.audit old.blind held under left.told p.session.after c
    (way.goes.acts who.session).work own)))
  where
    Left : CloudState → Type 0
    Left x = LeavesNoneAt (committed (lines ++ line ∷ []) x) (standing lines who.session).posture (session_at new.sessions who.session).work c

    now : (session_at new.sessions who.session).work ≡ p.session.after.work
    now =
        ap (λ (s : Acting). s.work)
        (changed_at who.session _ old.sessions new.sessions p.session who.session ∙ at_same who.session p.session.after (session_at old.sessions) who.session refl)

    held : CloudHolds (length lines + 1) lines (session_at old.sessions) old.audit old.blind (record way.after { wish = wish })
    held = wish_holds (length lines + 1) lines (session_at old.sessions) old.audit old.blind way.after wish way.goes.holds

    left : CallLeaves lines p.to (at who.session p.session.after (session_at old.sessions)) new.audit new.blind
    left = call lines who wish before after old new (Ended (answer.Commit c)) number way p

    under : p.under.state ≡ Some (record way.after { wish = wish })
    under = told_under lines who wish before after old new (Ended (answer.Commit c)) number way p

    own : StepsSession who p.under p.to (session_at old.sessions who.session) p.session.after (Ok (Ended (answer.Commit c)))
    own = steps_own lines who wish before after old new (Ended (answer.Commit c)) number way p

    one : (a b : CloudState) → Some a ≡ Some b → a ≡ b
    one a b e = cc

-- ---- every line

left_nothing : (entries : List Entry) → SaysNothing (LeavesNoneAt entries)
left_nothing entries = record { closed = λ left a. tt; idle = λ left a. tt; broken = λ left a. tt }

left_reply : (entries : List Entry) (p : Posture) (left : Work) (r : Reply) → OfReply (LeavesNoneAt entries) p left r → IsLeftReply entries p left r
left_reply entries p left (reply.Commit a) h = h
left_reply entries p left r h = tt

pub nothing_after : (n : ℕ) (event : Event) (before after : Seen) (old new : World) (result : Result Reply WorldFault)
    → Handled n event (span_of before after old new) result → LeavesNoCommit n event (span_of before after old new) result
nothing_after n event before after old new (Ok r) h = λ lines t u at told stands seen.
    let entries : List Entry = committed (lines ++ line_of event r ∷ []) u in
    left_reply entries (standing lines (session_of event)).posture (session_at new.sessions (session_of event)).work r
    (asked_keeps (LeavesNoneAt entries) (left_nothing entries) n before after old new r lines t at told stands.by_lines event
    (λ wish mid world c way p. step_leaves lines (line_of event r) (record { session = session_of event; event = n }) wish mid after world new u c (sym at) way seen p)
    h.asked h.asks h.answers)
nothing_after n event before after old new (Err fault) h = tt
