-- A sweep whose calls go well.
use Rattle.std.specs.Prelude.{◌≢◌}
use Rattle.db_base.specs.declared.trouble.Trouble.{Trouble}
use Rattle.db_base.specs.declared.trouble.Trouble.TheVariants as trouble
use Rattle.cloud_trait.specs.declared.turn.Turn.{Turn}
use Rattle.cloud_trait.specs.declared.turn.Turn.TheVariants.{More, Ended, Stopped}
use Rattle.orphan_sweep.specs.declared.swept.Swept.{Swept}

-- A trouble that may come although all calls went well: of what the cloud holds of the tree, or want of memory. No call failed, no lease was
-- over, and no lock was held.
abbrev pub IsLeft : Trouble → Type 0
IsLeft trouble.Failed = ⊥
IsLeft (trouble.Late end now) = ⊥
IsLeft (trouble.Busy lock until) = ⊥
IsLeft (trouble.Absent page) = page ≢ 1
IsLeft (trouble.NotALeaf page) = ⊥
IsLeft (trouble.Damaged where_it_is at) = Unit {0}
IsLeft (trouble.BadFence page expected found) = Unit {0}
IsLeft (trouble.Loop page) = Unit {0}
IsLeft (trouble.Exhausted what) = ⊥
IsLeft (trouble.Waiting have need) = ⊥
IsLeft (trouble.Stale page least got) = ⊥
IsLeft trouble.Memory = Unit {0}

-- a stop is for such a trouble
abbrev pub IsWell : Turn Swept → Type 0
IsWell More = Unit {0}
IsWell (Ended x) = Unit {0}
IsWell (Stopped t) = IsLeft t
