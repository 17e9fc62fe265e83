-- The rows that lines add to the trace of a cloud, whatever was in it before.
use Rattle.std.specs.Prelude.{ℕ, ◌≡◌, ◌≤◌, List, ◌++◌, Some, All}
use Rattle.cloud_trait.specs.State.{CloudState}
use Rattle.cloud_trait.specs.Seen.{Seen}
use Rattle.cloud_trait.specs.declared.state.Landing.{Landing}
use Rattle.replay_meaning.specs.Standing.{Line}
use Rattle.replay_meaning.specs.Kinds.{IsOfKind}
use Rattle.session_facts.specs.Lines.Facts.{IsPlaced}

-- behind the rows of an earlier state there are these: each names a version that is there, landed by event n, and is of a kind that its session's
-- standing by the lines allows
pub record AddsKinds (n : ℕ) (lines : List Line) (start t : CloudState) : Type 0 where
  pub added : List Landing
  pub trace : t.trace ≡ start.trace ++ added
  pub placed : All (IsPlaced t.versions) added
  pub early : All (λ (row : Landing). row.who.event ≤ n) added
  pub kinds : All (IsOfKind lines t) added

-- of a cloud that is told
pub record AddsTo (n : ℕ) (lines : List Line) (start : CloudState) (seen : Seen) : Type 0 where
  pub state : CloudState
  pub told : seen.state ≡ Some state
  pub adds : AddsKinds n lines start state
