-- An opening, a commit and a checkpoint that a session has in hand are under way, and so is a settling.
use Rattle.std.specs.Prelude.{ℕ, ◌≡◌, length, Option, Some, Result, Err}
use Rattle.db_base.specs.declared.trouble.Trouble.{Trouble}
use Rattle.cloud_trait.specs.Claim.{Claim}
use Rattle.head_codec.specs.declared.head.Phase.TheVariants as phase
use Rattle.recover_run.specs.declared.stage.Aim.TheVariants as aim
use Rattle.recover_run.specs.declared.stage.RecoverAnswer.{RecoverAnswer}
use Rattle.recover_run.specs.declared.stage.Stage.{Stage as OpeningStage}
use Rattle.recover_run.specs.declared.stage.Stage.TheVariants as opening
use Rattle.recover_run.specs.Recovery.{Recovery}
use Rattle.commit_writes.specs.declared.stage.Stage.{Stage as CommitStage}
use Rattle.commit_writes.specs.declared.stage.Stage.TheVariants as commit
use Rattle.commit_writes.specs.Writing.{Writing}
use Rattle.commit_run.specs.declared.hand.Hand.{Hand}
use Rattle.commit_run.specs.declared.hand.Hand.TheVariants.{Writes, First, Change}
use Rattle.commit_run.specs.Run.{Run}
use Rattle.tree_ckpt.specs.declared.work.Onward.{Onward}
use Rattle.tree_ckpt.specs.declared.work.Onward.TheVariants as onward
use Rattle.tree_ckpt.specs.declared.work.Work.{Work}
use Rattle.tree_ckpt.specs.declared.work.Work.TheVariants as work
use Rattle.settle_run.specs.declared.part.Part.{Part}
use Rattle.settle_run.specs.declared.part.Part.TheVariants.{Client, Tree, Page}

-- the client's lease is in hand
abbrev pub IsHeld : Option Claim → Type 0
IsHeld lease = (l : Claim) × (lease ≡ Some l)

-- it stops once its lease is given back
abbrev pub EndsInTrouble : Option (Result RecoverAnswer Trouble) → Type 0
EndsInTrouble ending = (t : Trouble) × (ending ≡ Some (Err t))

-- from its take on an opening has the client's lease in hand, and where it gives the lease back it stops
abbrev pub OpensAt : OpeningStage → Recovery → Type 0
OpensAt opening.ReleasingOld r = Unit {0}
OpensAt opening.Taking r = Unit {0}
OpensAt opening.Getting r = IsHeld r.lease
OpensAt opening.Receiving r = IsHeld r.lease
OpensAt opening.Deleting r = IsHeld r.lease
OpensAt opening.Sending r = IsHeld r.lease
OpensAt opening.Putting r = IsHeld r.lease
OpensAt opening.Clearing r = IsHeld r.lease
OpensAt opening.Sweeping r = IsHeld r.lease
OpensAt opening.Releasing r = EndsInTrouble r.ending
OpensAt opening.Finished r = ⊥

-- a recovery is an opening that has a call in hand
pub record IsOpening (r : Recovery) : Type 0 where
  pub aim : r.aim ≡ aim.Opening
  pub at : OpensAt r.stage r

-- the head that a recovery puts is settled
abbrev pub IsSettledHead : Recovery → Type 0
IsSettledHead r = r.head.phase ≡ phase.Settled

-- a commit is at one of its writes: it has a record for each change, the head that it puts first counts them, and the last is settled
abbrev pub WritesAt : CommitStage → Writing → Type 0
WritesAt commit.Waiting w = ⊥
WritesAt commit.Logging w = length w.records ≡ length w.changes
WritesAt commit.Opening w = w.home.head.phase ≡ phase.Open (length w.changes)
WritesAt commit.Sending w = Unit {0}
WritesAt commit.Settling w = w.home.head.phase ≡ phase.Settled
WritesAt commit.Deleting w = Unit {0}
WritesAt commit.Finished w = ⊥

abbrev pub IsWriting : Writing → Type 0
IsWriting w = WritesAt w.stage w

-- a commit is at a walk, or at one of its writes
abbrev pub RunsAt : Hand → Writing → Type 0
RunsAt Writes w = IsWriting w
RunsAt (First walk) w = Unit {0}
RunsAt (Change walk) w = Unit {0}

abbrev pub IsRunning : Run → Type 0
IsRunning r = RunsAt r.hand r.draft.writes

-- what a tree checkpoint has in hand is of its tree
abbrev pub IsOnward : ℕ → Onward → Type 0
IsOnward tree (onward.Right c) = c.chart.tree ≡ tree
IsOnward tree (onward.Handled c) = c.tree ≡ tree

abbrev pub IsOfTree : ℕ → Work → Type 0
IsOfTree tree (work.Descending h d) = d.chart.tree ≡ tree
IsOfTree tree (work.TakingPage h c) = c.chart.tree ≡ tree
IsOfTree tree (work.Folding h f) = f.chart.tree ≡ tree
IsOfTree tree (work.ReleasingPage h l o) = IsOnward tree o
IsOfTree tree (work.LeftPage h o) = IsOnward tree o
IsOfTree tree (work.Rising h r) = r.chart.tree ≡ tree
IsOfTree tree w = Unit {0}

-- the part of a settling that is at work puts no head but settled ones
abbrev pub PutsSettled : Part → Type 0
PutsSettled (Client client r) = IsSettledHead r
PutsSettled (Tree tree m) = Unit {0}
PutsSettled (Page tree page m) = Unit {0}
