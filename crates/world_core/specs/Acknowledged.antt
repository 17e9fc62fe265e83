-- Every commit that is answered as committed is among what was committed, and landed by its own session since it began.
use Rattle.std.specs.Prelude.{ℕ, ◌≡◌, ◌+◌, List, [], ◌∷◌, ◌++◌, length, Some, Result, Ok, Err}
use Rattle.cloud_trait.specs.State.{CloudState}
use Rattle.event_text.specs.declared.event.Event.{Event}
use Rattle.replay_meaning.specs.Committed.{committed}
use Rattle.replay_meaning.specs.Standing.{Line, session_of, standing}
use Rattle.reply_text.specs.declared.reply.Reply.{Reply}
use Rattle.session_facts.specs.Lines.Acknowledged.{IsKeptReply, IsLandedLine}
use Rattle.world_core.specs.declared.world.WorldFault.{WorldFault}
use Rattle.world_core.specs.Stands.{WorldStands}
use Rattle.world_core.specs.Span.{Span}

-- whatever lines a world and a cloud stood for before a line, where its reply says that a commit committed, each change on which its session
-- stood is an entry that these and the line committed, of the session's client and the transaction that the reply names
abbrev pub AnswersDurably : ℕ → Event → Span → Result Reply WorldFault → Type 0
AnswersDurably n event span (Ok reply) =
    (lines : List Line) (t u : CloudState) → length lines + 1 ≡ n → span.before.state ≡ Some t → WorldStands lines span.old t → span.after.state ≡ Some u
    → IsKeptReply (committed (lines ++ record { event = event; reply = reply } ∷ []) u) (standing lines (session_of event)).client (standing lines (session_of event)).posture reply
AnswersDurably n event span (Err fault) = Unit {0}

-- and it was this commit that landed: a row that its session made since its `commit` line began, up to this line, puts the open head of the transaction, and
-- each change on which the session stood is an entry that this row commits
abbrev pub AnswersLanded : ℕ → Event → Span → Result Reply WorldFault → Type 0
AnswersLanded n event span (Ok reply) =
    (lines : List Line) (t u : CloudState) → length lines + 1 ≡ n → span.before.state ≡ Some t → WorldStands lines span.old t → span.after.state ≡ Some u
    → IsLandedLine lines u (record { event = event; reply = reply })
AnswersLanded n event span (Err fault) = Unit {0}
