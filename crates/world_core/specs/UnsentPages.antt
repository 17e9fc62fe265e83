-- A page to whose pending update queue a message was ever sent is a leaf: its checkpoint finds it absent, or no leaf, only where none was.
use Rattle.std.specs.Prelude.{ℕ, ◌≡◌, [], Some}
use Rattle.client_work.specs.declared.work.Work.{Work}
use Rattle.cloud_trait.specs.State.{CloudState}
use Rattle.db_base.specs.declared.names.QueueName.TheVariants.{PagePu}
use Rattle.db_base.specs.declared.trouble.Trouble.{Trouble}
use Rattle.db_base.specs.declared.trouble.Trouble.TheVariants as trouble
use Rattle.event_text.specs.declared.event.Event.{Event}
use Rattle.event_text.specs.declared.event.Event.TheVariants as event
use Rattle.replay_meaning.specs.Standing.{Paging, Posture, Working}
use Rattle.reply_text.specs.declared.reply.Reply.{Reply}
use Rattle.reply_text.specs.declared.reply.Reply.TheVariants as reply
use Rattle.session_facts.specs.Sessions.Explains.{trouble_in}

-- no message was ever sent to the queue of a page
abbrev pub IsUnsent : ℕ → ℕ → CloudState → Type 0
IsUnsent tree page u = u.messages (PagePu tree page) ≡ []

-- so it is where the page was found absent, or no leaf
abbrev pub IsOfUnsent : ℕ → ℕ → CloudState → Trouble → Type 0
IsOfUnsent tree page u (trouble.Absent named) = IsUnsent tree page u
IsOfUnsent tree page u (trouble.NotALeaf named) = IsUnsent tree page u
IsOfUnsent tree page u k = Unit {0}

-- and where what is at work waits to answer that
abbrev pub KeepsUnsent : ℕ → ℕ → CloudState → Work → Type 0
KeepsUnsent tree page u w = (k : Trouble) → trouble_in w ≡ Some k → IsOfUnsent tree page u k

-- and where a reply tells it, or goes on with what is at work
abbrev pub RepliesUnsent : ℕ → ℕ → CloudState → Work → Reply → Type 0
RepliesUnsent tree page u w reply.Begun = KeepsUnsent tree page u w
RepliesUnsent tree page u w reply.Called = KeepsUnsent tree page u w
RepliesUnsent tree page u w (reply.Trouble k) = IsOfUnsent tree page u k
RepliesUnsent tree page u w reply = Unit {0}

-- what a session has at work while the cloud tells this state
pub record InHand : Type 0 where
  pub cloud : CloudState
  pub work : Work

-- a session whose checkpoint of a page had this at work, and then that
abbrev pub GoesOnUnsent : Posture → InHand → InHand → Reply → Type 0
GoesOnUnsent (Working (Paging tree page)) old new reply = KeepsUnsent tree page old.cloud old.work → RepliesUnsent tree page new.cloud new.work reply
GoesOnUnsent posture old new reply = Unit {0}

-- the line that begins the checkpoint of a page, and those that make its calls; other lines do not
abbrev pub LeavesUnsent : Event → Posture → InHand → InHand → Reply → Type 0
LeavesUnsent (event.Page session tree page) posture old new reply = RepliesUnsent tree page new.cloud new.work reply
LeavesUnsent (event.Step session wish) posture old new reply = GoesOnUnsent posture old new reply
LeavesUnsent (event.Run session) posture old new reply = GoesOnUnsent posture old new reply
LeavesUnsent event posture old new reply = Unit {0}
