-- A sweep stops for a trouble exactly where an answer shows it.
use Rattle.std.specs.Prelude.{◌≡◌, ◌≢◌, Some}
use Rattle.db_base.specs.declared.trouble.Trouble.{Trouble}
use Rattle.db_base.specs.declared.trouble.Trouble.TheVariants as trouble
use Rattle.cloud_trait.specs.declared.turn.Turn.{Turn}
use Rattle.cloud_trait.specs.declared.turn.Turn.TheVariants.{More, Ended, Stopped}
use Rattle.orphan_sweep.specs.declared.swept.Swept.{Swept}
use Rattle.orphan_sweep.specs.Sweeping.{Sweeping}

-- the trouble is kept while the lease is given back, and then it is answered, unless memory ran out
abbrev pub Owes : Sweeping → Turn Swept → Trouble → Type 0
Owes n More t = n.trouble ≡ Some t
Owes n (Ended x) t = ⊥
Owes n (Stopped u) t = u ≢ trouble.Memory → u ≡ t
