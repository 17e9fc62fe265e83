-- A commit that needs no walk: its head has no pending entry, and none of its changes is an update.
use Rattle.std.specs.Prelude.{◌≡◌, ℕ, ◌+◌, ◌*◌, false, List, [], length}
use Rattle.std.specs.List.{AllByRecursion}
use Rattle.db_base.specs.declared.trouble.CommitAnswer.{CommitAnswer}
use Rattle.db_base.specs.declared.trouble.CommitAnswer.TheVariants.{Committed}
use Rattle.txn_buffer.specs.Noted.{Noted}
use Rattle.cloud_trait.specs.declared.turn.Turn.{Turn}
use Rattle.cloud_trait.specs.declared.turn.Turn.TheVariants.{Ended}
use Rattle.cloud_trait.specs.Machine.{Deed}
use Rattle.recover_run.specs.declared.home.Home.{Home}
use Rattle.db_base.specs.Change.{goes_to_leaf}
use Rattle.commit_run.specs.Within.{IsNoGet}

-- it is no update
abbrev pub IsPlainChange : Noted → Type 0
IsPlainChange n = goes_to_leaf n.change ≡ false

pub record IsPlain (home : Home) (changes : List Noted) : Type 0 where
  pub pending : home.head.pending ≡ []
  pub each : AllByRecursion IsPlainChange changes

-- it gets nothing, and once it is committed it made three calls for each change and two: five for one change
pub record GoesPlainly (changes : List Noted) (h : List Deed) (turn : Turn CommitAnswer) : Type 0 where
  pub none : AllByRecursion IsNoGet h
  pub calls : (x : ℕ) → turn ≡ Ended (Committed x) → length h ≡ 3 * length changes + 2
