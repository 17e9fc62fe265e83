-- How many messages wait in the pending update queues, by what a session's notes say that it sent.
use Rattle.std.specs.Prelude.{ℕ, ◌≤◌, ◌<◌, ◌+◌, List, [], ◌∷◌, ◌++◌, length, Option, Some, None}
use Rattle.cloud_trait.specs.Ask.{Ask}
use Rattle.cloud_trait.specs.Delivery.{unmarked}
use Rattle.cloud_trait.specs.State.{CloudState}
use Rattle.ckpt_policy.specs.declared.note.Note.{Note}
use Rattle.ckpt_policy.specs.declared.note.Note.TheVariants.{Sent, Got, Kept}
use Rattle.ckpt_policy.specs.declared.place.Place.{Place}
use Rattle.ckpt_policy.specs.Notes.{counts_at, queue_at}
use Rattle.db_base.specs.Limits.{most_changes}
use Rattle.db_base.specs.declared.names.QueueName.{QueueName}
use Rattle.session_notes.specs.Notebook.{note_of_ask, with_note}

-- how many messages of the queue at a place are not deleted
abbrev pub waiting_at : CloudState → Place → ℕ
waiting_at s place = length (unmarked (s.messages (queue_at place)))

-- how many were sent to it since its last checkpoint
abbrev pub sent_since : List Note → Place → ℕ
sent_since notes place = (counts_at notes place).sent

-- in no queue wait more messages than the notes say were sent since its last checkpoint
abbrev pub IsMetered : List Note → CloudState → Type 0
IsMetered notes s = (place : Place) → waiting_at s place ≤ sent_since notes place

-- to each queue fewer than k were sent since
abbrev pub AreBelow : ℕ → List Note → Type 0
AreBelow k notes = (place : Place) → sent_since notes place < k

-- no queue counts more sends than before
abbrev pub SendNoMore : List Note → List Note → Type 0
SendNoMore notes later = (place : Place) → sent_since later place ≤ sent_since notes place

-- none counts more than those of one commit beyond those before
abbrev pub SendOneCommit : List Note → List Note → Type 0
SendOneCommit notes later = (place : Place) → sent_since later place ≤ sent_since notes place + most_changes

-- ---- the calls of an operation

-- the notes behind calls, the newest first
abbrev pub noted : List Note → List Ask → List Note
noted notes [] = notes
noted notes (ask ∷ asks) = with_note (noted notes asks) (note_of_ask ask)

-- whether a note is of a send
abbrev pub sends_of : Option Note → ℕ
sends_of None = 0
sends_of (Some (Sent queue)) = 1
sends_of (Some (Got queue)) = 0
sends_of (Some (Kept queue)) = 0

-- how many of the calls send to a pending update queue
abbrev pub sends_in : List Ask → ℕ
sends_in [] = 0
sends_in (ask ∷ asks) = sends_of (note_of_ask ask) + sends_in asks

-- ---- the checkpoints of a line

-- each of these queues was checkpointed, one behind the other, and nothing was sent meanwhile
abbrev pub AllKept : List QueueName → List Note → List Note → Type 0
AllKept [] notes later = SendNoMore notes later
AllKept (queue ∷ queues) notes later = (mid : List Note) × SendNoMore notes mid × AllKept queues (mid ++ Kept queue ∷ []) later
