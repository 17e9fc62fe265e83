-- Every commit that is answered `not-committed` left nothing among what was committed.
use Rattle.std.specs.Prelude.{ℕ, ◌≡◌, ◌+◌, List, [], ◌∷◌, ◌++◌, length, Some, Result, Ok, Err}
use Rattle.cloud_trait.specs.State.{CloudState}
use Rattle.event_text.specs.declared.event.Event.{Event}
use Rattle.replay_meaning.specs.Committed.{committed}
use Rattle.replay_meaning.specs.Standing.{Line, session_of, standing}
use Rattle.reply_text.specs.declared.reply.Reply.{Reply}
use Rattle.session_facts.specs.Lines.Facts.{session_at}
use Rattle.session_facts.specs.Lines.LeftNone.{IsLeftReply}
use Rattle.world_core.specs.declared.world.WorldFault.{WorldFault}
use Rattle.world_core.specs.Stands.{WorldStands}
use Rattle.world_core.specs.Span.{Span}

-- whatever lines a world and a cloud stood for before a line, where its reply says that a commit which made calls committed nothing, its client is
-- idle, and no entry that these and the line committed is of the client's last attempt, which was this commit
abbrev pub LeavesNoCommit : ℕ → Event → Span → Result Reply WorldFault → Type 0
LeavesNoCommit n event span (Ok reply) =
    (lines : List Line) (t u : CloudState) → length lines + 1 ≡ n → span.before.state ≡ Some t → WorldStands lines span.old t → span.after.state ≡ Some u
    → IsLeftReply (committed (lines ++ record { event = event; reply = reply } ∷ []) u) (standing lines (session_of event)).posture (session_at span.new.sessions (session_of event)).work reply
LeavesNoCommit n event span (Err fault) = Unit {0}
