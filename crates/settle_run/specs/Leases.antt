-- The leases of a settling's part at work: it holds what it took and did not give back.
use Rattle.std.specs.Prelude.{◌≡◌, ◌≢◌, List, [], ◌++◌, None}
use Rattle.db_base.specs.declared.trouble.Trouble.TheVariants as trouble
use Rattle.cloud_trait.specs.declared.turn.Turn.{Turn}
use Rattle.cloud_trait.specs.declared.turn.Turn.TheVariants.{More, Ended, Stopped}
use Rattle.cloud_trait.specs.Machine.{Deed}
use Rattle.recover_run.specs.Recovery.{recovery_ask}
use Rattle.recover_run.specs.Leases.{leases_of, outstanding as recovery_outstanding, Names as RecoveryNames}
use Rattle.ckpt_parts.specs.Leasing.{claims_of, outstanding}
use Rattle.page_ckpt.specs.Paging.{paging_ask}
use Rattle.page_ckpt.specs.Leases.{Names as PageNames}
use Rattle.tree_ckpt.specs.Work.{claims_in}
use Rattle.tree_ckpt.specs.Making.{making_ask}
use Rattle.tree_ckpt.specs.Leases.{Names as TreeNames}
use Rattle.settle_run.specs.declared.part.Part.{Part}
use Rattle.settle_run.specs.declared.part.Part.TheVariants.{Client, Tree, Page}
use Rattle.settle_run.specs.declared.settled.Settled.{Settled}
use Rattle.settle_run.specs.Parts.{PartWent}
use Rattle.settle_run.specs.Settling.{Settling}

-- behind its calls a part holds the leases that it took and has not given back; its call names leases that it holds, and takes no lock
-- that it holds
abbrev pub PartHolds : Part → List Deed → Type 0
PartHolds (Client client m) h = (leases_of m ≡ recovery_outstanding None h) × RecoveryNames client None h (recovery_ask m)
PartHolds (Tree tree m) h = (claims_in m.work ≡ outstanding h) × TreeNames (making_ask m) (outstanding h)
PartHolds (Page tree page m) h = (claims_of m.held ≡ outstanding h) × PageNames (paging_ask m) (outstanding h)

-- the newest calls are all those of the part at work, and it holds so
pub record Holds (h : List Deed) (s : Settling) : Type 0 where
  pub own : List Deed
  pub rest : List Deed
  pub all : h ≡ own ++ rest
  pub went : PartWent own s.part
  pub holds : PartHolds s.part own

-- a part holds no lease
abbrev pub IsFree : Part → Type 0
IsFree (Client client m) = leases_of m ≡ []
IsFree (Tree tree m) = claims_in m.work ≡ []
IsFree (Page tree page m) = claims_of m.held ≡ []

-- before an end all leases were given back, and so before a stop but for want of memory
abbrev pub GivesBack : Settling → Turn Settled → Type 0
GivesBack n More = Unit {0}
GivesBack n (Ended x) = IsFree n.part
GivesBack n (Stopped t) = t ≢ trouble.Memory → IsFree n.part

-- .. by its calls: of the leases that they took none is left that no call gave back
abbrev pub AreReturned : List Deed → Turn Settled → Type 0
AreReturned h More = Unit {0}
AreReturned h (Ended x) = outstanding h ≡ []
AreReturned h (Stopped t) = t ≢ trouble.Memory → outstanding h ≡ []
