-- What is seen of a cloud.
use Rattle.std.specs.Prelude.{ℕ, List, Option}
use Rattle.db_base.specs.declared.names.ObjName.{ObjName}
use Rattle.cloud_trait.specs.declared.answer.Answer.{Answer}
use Rattle.cloud_trait.specs.State.{CloudState, Counts}

-- the bytes that a look at each object shows, or none
abbrev pub Showing : Type 0
Showing = ObjName → Option (List ℕ)

-- the counts; the state, the newest answer of a service call and what looks show, each where the cloud tells it
pub record Seen : Type 0 where
  pub counts : Counts
  pub state : Option CloudState
  pub heard : Option Answer
  pub shown : Option Showing
