-- What a sweep is.
use Rattle.std.specs.Prelude.{List}
use Rattle.cloud_trait.specs.Machine.{Deed}
use Rattle.orphan_sweep.specs.Leases.{Went}
use Rattle.orphan_sweep.specs.Sweeping.{Sweeping}
use Rattle.client_work.specs.Settling.{IsUntold}

-- a sweep came here from its first call on, whatever the cloud tells
abbrev pub IsSweeping : Sweeping → Type 0
IsSweeping m = (h : List Deed) × Went h m × IsUntold h
