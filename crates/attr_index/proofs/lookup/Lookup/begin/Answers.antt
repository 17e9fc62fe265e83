use Rattle.std.proofs.Common.{◌≡◌, subst}
use Rattle.cloud_trait.specs.Machine.{Stops}
use Rattle.attr_index.specs.Look.{Look, walks}
use Rattle.attr_index.proofs.lookup.Lookup.begin.Goals as goal

pub returns-in-Err-clause-begun : goal.returns-in-Err-clause-begun
returns-in-Err-clause-begun c =
    let P : Look → Type 0 = λ l. walks l l.walk c.args.cache.now ≡ Stops (c.ready.new.self, c.ready.new.cache) c.in-Err.trouble in
    λ other. (c.ready.new.self, subst P c.in-Ok.ensures (c.in-Err.ensures.moves other))
