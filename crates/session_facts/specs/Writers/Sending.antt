-- How many messages what a session has in hand may still send to the pending update queues.
use Rattle.std.specs.Prelude.{ℕ, ◌-◌, ◌≤◌, length, Option, Some, None}
use Rattle.client_work.specs.declared.work.Work.{Work}
use Rattle.client_work.specs.declared.work.Work.TheVariants.{Closed, Idle, Opening, Committing, Reading, Scanning, Looking, Paging, Folding, Closing, Renewing, Settling, Sweeping, Broken}
use Rattle.cloud_trait.specs.Ask.{Ask}
use Rattle.commit_run.specs.declared.hand.Hand.{Hand}
use Rattle.commit_run.specs.declared.hand.Hand.TheVariants.{Writes, First, Change}
use Rattle.commit_run.specs.Run.{Run}
use Rattle.commit_writes.specs.declared.stage.Stage.{Stage}
use Rattle.commit_writes.specs.declared.stage.Stage.TheVariants as stage
use Rattle.commit_writes.specs.Writing.{Writing}
use Rattle.session_notes.specs.Metered.{sends_of}
use Rattle.session_notes.specs.Notebook.{note_of_ask}

-- the writes of a commit send one message for each record, and those before the place were sent
abbrev pub sends_at : Stage → Writing → ℕ
sends_at stage.Waiting w = length w.changes
sends_at stage.Logging w = length w.records
sends_at stage.Opening w = length w.records
sends_at stage.Sending w = length w.records - w.place
sends_at stage.Settling w = 0
sends_at stage.Deleting w = 0
sends_at stage.Finished w = 0

-- a walk comes before them
abbrev pub sends_in_hand : Hand → Writing → ℕ
sends_in_hand Writes w = sends_at w.stage w
sends_in_hand (First walk) w = length w.changes
sends_in_hand (Change walk) w = length w.changes

abbrev pub sends_left : Run → ℕ
sends_left r = sends_in_hand r.hand r.draft.writes

-- a session that was opened, and has no checkpoint in hand, sends at most so many
abbrev pub SendsAtMost : ℕ → Work → Type 0
SendsAtMost n (Committing r) = sends_left r ≤ n
SendsAtMost n Closed = Unit {0}
SendsAtMost n (Idle home) = Unit {0}
SendsAtMost n (Reading home m) = Unit {0}
SendsAtMost n (Scanning home m) = Unit {0}
SendsAtMost n (Looking home m) = Unit {0}
SendsAtMost n (Closing lease) = Unit {0}
SendsAtMost n (Renewing home) = Unit {0}
SendsAtMost n (Broken lease) = Unit {0}
SendsAtMost n (Opening r) = ⊥
SendsAtMost n (Paging home p) = ⊥
SendsAtMost n (Folding home m) = ⊥
SendsAtMost n (Settling m) = ⊥
SendsAtMost n (Sweeping m) = ⊥

-- whether a call sends such a message
abbrev pub ask_sends : Ask → ℕ
ask_sends ask = sends_of (note_of_ask ask)

abbrev pub hand_sends : Option Ask → ℕ
hand_sends None = 0
hand_sends (Some ask) = ask_sends ask
