use Rattle.std.proofs.Common.{◌+◌}
use Rattle.hostile_runs.proofs.AscendLemmas.{ascend_front}
use Rattle.hostile_runs.proofs.ascending.Ascending.into_pages.Goals as goal

pub returns : goal.returns
returns c = record { ascending = ascend_front 0 c.self.inside.pages.items (c.self.inside.last + 1) c.self.invariant }
