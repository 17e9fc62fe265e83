-- What lines add to the trace of a cloud, whatever was in it before them.
use Rattle.std.specs.Prelude.{List, length}
use Rattle.cloud_trait.specs.State.{CloudState}
use Rattle.cloud_trait.specs.Seen.{Seen}
use Rattle.replay_meaning.specs.Standing.{Line}
use Rattle.session_facts.specs.Rows.Added.{AddsTo}
use Rattle.session_facts.specs.Lines.Facts.{session_at, AllAct, SettlerRests}
use Rattle.world_core.specs.World.{World}

-- behind these lines the sessions of a world stand as they say, the settler rests, and each row that was added since the cloud stood so is of its kind
pub record WorldAdds (lines : List Line) (start : CloudState) (world : World) (seen : Seen) : Type 0 where
  pub rows : AddsTo (length lines) lines start seen
  pub acts : AllAct lines (session_at world.sessions)
  pub rests : SettlerRests (session_at world.sessions)
