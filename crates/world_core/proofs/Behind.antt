-- What stands behind a line, but for how many calls were made.
use Rattle.std.proofs.Common.{◌≡◌, List, Some}
use Rattle.cloud_trait.specs.Seen.{Seen}
use Rattle.cloud_trait.specs.State.{CloudState}
use Rattle.replay_meaning.specs.Right.{ReportIsRight}
use Rattle.replay_meaning.specs.Standing.{Line}
use Rattle.reply_text.specs.declared.reply.Reply.{Reply}
use Rattle.session_facts.specs.Lines.Facts.{session_at, Stands}
use Rattle.world_core.specs.Stands.{LeftIsRight}
use Rattle.world_core.specs.World.{World}

abbrev pub LinesStand : List Line → World → CloudState → Type 0
LinesStand lines world t = Stands lines (session_at world.sessions) world.audit world.blind t

pub record LineLeaves (lines : List Line) (world : World) (seen : Seen) (reply : Reply) : Type 0 where
  pub after : CloudState
  pub told : seen.state ≡ Some after
  pub stands : LinesStand lines world after
  pub right : ReportIsRight lines after reply
  pub left : LeftIsRight after reply
