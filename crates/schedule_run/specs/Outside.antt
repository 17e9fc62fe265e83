-- What a run meets outside itself.
use Rattle.cloud_trait.specs.Seen.{Seen}
use Rattle.db_io.specs.Content.{Told}
use Rattle.db_io.specs.Writes.{Written}

-- what a run did up to a moment: what was written, and what is seen of the cloud
pub record Effects : Type 0 where
  pub output : Written
  pub cloud : Seen

abbrev pub effects : Written → Seen → Effects
effects output cloud = record { output = output; cloud = cloud }

-- all that it meets: what the source tells besides
pub record Outside : Type 0 where
  pub input : Told
  pub output : Written
  pub cloud : Seen

abbrev pub outside : Told → Written → Seen → Outside
outside input output cloud = record { input = input; output = output; cloud = cloud }

abbrev pub effects_of : Outside → Effects
effects_of o = effects o.output o.cloud
