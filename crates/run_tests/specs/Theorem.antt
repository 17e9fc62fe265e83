-- What a replay over a new cloud has written.
use Rattle.std.specs.Prelude.{ℕ, ◌≡◌, List}
use Rattle.cloud_trait.specs.State.{CloudState}
use Rattle.cloud_trait.specs.Traced.{IsTraced}
use Rattle.db_io.specs.Lines.{lines_of}
use Rattle.replay_meaning.specs.Standing.{Line}
use Rattle.schedule_run.specs.Written.{replies}
use Rattle.schedule_run.specs.Answered.{ReportsAreRight, RepliesAreSound, ActsByTheLines, AcknowledgedStay}
use Rattle.schedule_run.specs.Replayed.{AreSpelled}

-- a text was replayed whole, and the writes are the replies to its lines, each in one: by the state in which these left some cloud every report among them is
-- right, every reply is sound, what was put and sent is what the lines allow, and what was acknowledged stays committed
pub record IsReplayOf (text : List ℕ) (writes : List (List ℕ)) : Type 0 where
  pub lines : List Line
  pub spelled : AreSpelled (lines_of text) lines
  pub wrote : writes ≡ replies lines
  pub cloud : CloudState
  pub right : ReportsAreRight lines cloud
  pub sound : RepliesAreSound lines
  pub acts : ActsByTheLines lines cloud
  pub kept : AcknowledgedStay lines cloud
  pub traced : IsTraced cloud
