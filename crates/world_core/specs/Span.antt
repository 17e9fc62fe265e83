-- What lies between two moments of a replay.
use Rattle.cloud_trait.specs.Seen.{Seen}
use Rattle.world_core.specs.World.{World}

-- how the cloud is seen before it and after it, and the world from which it goes to the one that it leaves
pub record Span : Type 0 where
  pub before : Seen
  pub after : Seen
  pub old : World
  pub new : World

abbrev pub span_of : Seen → Seen → World → World → Span
span_of before after old new = record { before = before; after = after; old = old; new = new }

-- that of a call, by how its cloud is seen
abbrev pub span_by : {C : Type 0} → (C → Seen) → C → C → World → World → Span
span_by seen before after old new = span_of (seen before) (seen after) old new
