-- Lines of which each step goes well.
use Rattle.std.specs.Prelude.{◌+◌, List, length, Ok}
use Rattle.cloud_trait.specs.Seen.{Seen}
use Rattle.replay_meaning.specs.Standing.{Line}
use Rattle.world_core.specs.Calm.{StepIsCalm}
use Rattle.world_core.specs.EachStep.{EachStep}
use Rattle.world_core.specs.World.{World}
use Rattle.world_core.specs.Span.{span_of}
use Rattle.schedule_run.specs.Answered.{WentOn, start, further}

-- each step that these lines made was calm: no count rose in it, the lock that it takes was free, and the leases that it names lasted
abbrev pub AreCalm : (before : Seen) (old : World) (lines : List Line) (after : Seen) (new : World) → WentOn before old lines after new → Type 0
AreCalm before old lines after new start = Unit {0}
AreCalm before old _ after new (further lines line mid _ world _ went handled) =
    AreCalm before old lines mid world went × EachStep StepIsCalm (length lines + 1) line.event (span_of mid after world new) (Ok line.reply) handled
