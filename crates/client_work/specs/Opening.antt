-- What an opening of a client is.
use Rattle.std.specs.Prelude.{◌≡◌, Option, Some, None, Result, Ok, Err}
use Rattle.db_base.specs.declared.trouble.Trouble.{Trouble}
use Rattle.recover_run.specs.declared.stage.Aim.TheVariants as aim
use Rattle.recover_run.specs.declared.stage.RecoverAnswer.{RecoverAnswer}
use Rattle.recover_run.specs.Recovery.{Recovery}

-- no answer waits for the release of the lease
abbrev pub StopsAtMost : Option (Result RecoverAnswer Trouble) → Type 0
StopsAtMost (Some (Ok a)) = ⊥
StopsAtMost (Some (Err t)) = Unit {0}
StopsAtMost None = Unit {0}

-- a recovery opens a client, and settles none
abbrev pub IsOpening : Recovery → Type 0
IsOpening m = (m.aim ≡ aim.Opening) × StopsAtMost m.ending
