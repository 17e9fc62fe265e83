-- Each step of a line explains what it brought.
use Rattle.std.proofs.Common.{◌≡◌, ℕ, List, Some, Result, sym, subst, ◌∙◌}
use Rattle.client_work.specs.declared.answer.Answer.{Answer}
use Rattle.cloud_facts.specs.Words.{Turn, CloudState, Caller, Seen}
use Rattle.db_base.specs.declared.wish.Wish.{Wish}
use Rattle.event_text.specs.declared.event.Event.{Event}
use Rattle.replay_meaning.specs.Standing.{Line}
use Rattle.session_facts.specs.Lines.Facts.{session_at, CloudHolds}
use Rattle.session_facts.proofs.Lines.Outcome.{wish_holds}
use Rattle.reply_text.specs.declared.reply.Reply.{Reply}
use Rattle.session_facts.specs.Sessions.Knows.{SessionsStand}
use Rattle.session_facts.proofs.Sessions.Explains.Sessions.{session_explains}
use Rattle.world_core.specs.World.{World}
use Rattle.world_core.specs.declared.world.WorldFault.{WorldFault}
use Rattle.world_core.specs.Explained.{StepExplains, ExplainsSteps}
use Rattle.world_core.specs.Handled.{StepsLooked}
use Rattle.world_core.specs.Span.{span_of}
use Rattle.world_core.proofs.EachHeld.{each_held}
use Rattle.world_core.proofs.StandsLemmas.{changed_was}

-- ---- one step

state_is : (x y : CloudState) → Some x ≡ Some y → x ≡ y
state_is x y e = cc

-- what holds of the cloud when the step's call is made, where the sessions stand under a told state
step_explains : (n : ℕ) (lines : List Line) (who : Caller) (wish : Wish) (before after : Seen) (old new : World) (turn : Turn Answer) (x : CloudState)
    → CloudHolds n lines (session_at old.sessions) old.audit old.blind x → (p : StepsLooked who wish (span_of before after old new) turn) → p.under.state ≡ Some (record x { wish = wish })
    → StepExplains who wish (span_of before after old new) turn p
step_explains n lines who wish before after old new turn x holds p under s t told left =
    session_explains who p.under p.to s t held.book held.order (session_at old.sessions) told left stand p.session.before p.session.after turn
    (changed_was who.session _ old.sessions new.sessions p.session) p.session.does
  where
    held : CloudHolds n lines (session_at old.sessions) old.audit old.blind (record x { wish = wish })
    held = wish_holds n lines (session_at old.sessions) old.audit old.blind x wish holds

    stand : SessionsStand held.book held.order s (session_at old.sessions)
    stand = subst (λ y. SessionsStand held.book held.order y (session_at old.sessions)) (state_is (record x { wish = wish }) s (sym under ∙ told)) held.stand

pub explained : (n : ℕ) (event : Event) (before after : Seen) (old new : World) (result : Result Reply WorldFault) → ExplainsSteps n event (span_of before after old new) result
explained n event before after old new result lines t number told stands handled =
    each_held StepExplains step_explains lines n handled.asked before after old new result t number told stands.by_lines handled.answers
