-- Each step of lines has its cause, and what each reply says is so, over any cloud.
use Rattle.std.proofs.Common.{◌+◌, List, length, Ok}
use Rattle.cloud_trait.specs.Seen.{Seen}
use Rattle.replay_meaning.specs.Standing.{Line}
use Rattle.world_core.specs.World.{World}
use Rattle.world_core.proofs.Caused.{caused}
use Rattle.world_core.proofs.Tells.{tells}
use Rattle.schedule_run.specs.Answered.{WentOn, start, further, AreCaused, AreTold}

pub lines_caused : (before : Seen) (old : World) (lines : List Line) (after : Seen) (new : World) → (went : WentOn before old lines after new) → AreCaused before old lines after new went
lines_caused before old lines after new start = tt
lines_caused before old lines after new (further earlier line mid _ world _ went handled) =
    (lines_caused before old earlier mid world went, caused (length earlier + 1) line.event mid after world new (Ok line.reply) handled)

pub lines_told : (before : Seen) (old : World) (lines : List Line) (after : Seen) (new : World) → (went : WentOn before old lines after new) → AreTold before old lines after new went
lines_told before old lines after new start = tt
lines_told before old lines after new (further earlier line mid _ world _ went handled) =
    (lines_told before old earlier mid world went, tells (length earlier + 1) line.event mid after world new line.reply handled)
