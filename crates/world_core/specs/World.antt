-- How a world stands.
use Rattle.std.specs.Prelude.{ℕ, ◌+◌, List, Bool}
use Rattle.db_base.specs.Limits.{last_session}
use Rattle.client_work.specs.Session.{Acting}
use Rattle.history.specs.Audited.{Audited}
use Rattle.session_notes.specs.declared.notebook.Notebook.{Notebook}

-- how many sessions a replay has: the settler, and those that lines name
abbrev pub all_sessions : ℕ
all_sessions = last_session + 1

-- its sessions by their numbers, what was seen to commit and to be applied, whether a look failed, and what is kept of each session for the choice
-- of its checkpoints
pub record World : Type 0 where
  pub sessions : List Acting
  pub audit : Audited
  pub blind : Bool
  pub notes : List Notebook
