-- What a settling is.
use Rattle.std.specs.Prelude.{◌≡◌, List, [], ◌∷◌, None}
use Rattle.cloud_trait.specs.Machine.{Deed}
use Rattle.settle_run.specs.Meaning.{Went}
use Rattle.settle_run.specs.Settling.{Settling}

-- the newest call tells nothing of the cloud's state
abbrev pub IsUntold : List Deed → Type 0
IsUntold [] = Unit {0}
IsUntold (d ∷ h) = d.after.state ≡ None

-- a settling came here from its first call on, whatever the cloud tells
abbrev pub IsSettling : Settling → Type 0
IsSettling m = (h : List Deed) × Went h m × IsUntold h
