-- How many calls a commit has left at most with what it writes.
use Rattle.std.specs.Prelude.{ℕ, ◌+◌, ◌-◌, length}
use Rattle.commit_writes.specs.declared.stage.Stage.{Stage}
use Rattle.commit_writes.specs.declared.stage.Stage.TheVariants.{Waiting, Logging, Opening, Sending, Settling, Deleting, Finished}
use Rattle.commit_writes.specs.Writing.{Writing}

-- by the stage, the number of records, how many calls of the stage were made, and the number of ATOMIC messages
abbrev pub left_at : Stage → ℕ → ℕ → ℕ → ℕ
left_at Waiting records place ids = 0
left_at Logging records place ids = (records - place) + (records - place) + records + ids + 2
left_at Opening records place ids = records + ids + 2
left_at Sending records place ids = (records - place) + ids + 1
left_at Settling records place ids = ids + 1
left_at Deleting records place ids = ids - place
left_at Finished records place ids = 0

abbrev pub calls_left : Writing → ℕ
calls_left w = left_at w.stage (length w.records) w.place (length w.ids)
