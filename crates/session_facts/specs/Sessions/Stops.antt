-- With which troubles a session may be answered, by what it has in hand: none that only damage could cause.
use Rattle.client_work.specs.declared.work.Work.{Work}
use Rattle.client_work.specs.declared.work.Work.TheVariants.{Closed, Idle, Opening, Committing, Reading, Scanning, Looking, Folding, Paging, Closing, Renewing, Settling, Sweeping, Broken}
use Rattle.session_facts.specs.Machines.CommitRuns.Stops.{MayStopCommit}
use Rattle.db_base.specs.declared.trouble.Trouble.{Trouble}
use Rattle.db_base.specs.declared.trouble.Trouble.TheVariants as trouble
use Rattle.session_facts.specs.Machines.Openings.Knows.{MayStopOpening}
use Rattle.session_facts.specs.Machines.PageCheckpoints.Knows.{MayStopPage}
use Rattle.session_facts.specs.Sessions.Spent.{IsOfSettling}
use Rattle.session_facts.specs.Machines.Sweeps.Knows.{MayStopSweep}
use Rattle.session_facts.specs.Machines.TreeCheckpoints.Knows.{MayStopTree}
use Rattle.session_facts.specs.Machines.Walks.Knows.{MayStopWalk}

-- the one call of a close or a renewal failed or came too late, or memory ran out
abbrev pub MayRefuse : Trouble → Type 0
MayRefuse trouble.Failed = Unit {0}
MayRefuse (trouble.Late end now) = Unit {0}
MayRefuse trouble.Memory = Unit {0}
MayRefuse t = ⊥

-- a settling stops as its openings and checkpoints do: no object is damaged, no page is absent or no leaf, no fence and no way is broken, and
-- no read is stale
abbrev pub MaySettle : Trouble → Type 0
MaySettle trouble.Failed = Unit {0}
MaySettle (trouble.Late end now) = Unit {0}
MaySettle (trouble.Busy lock until) = Unit {0}
MaySettle (trouble.Waiting have need) = Unit {0}
MaySettle (trouble.Exhausted what) = IsOfSettling what
MaySettle trouble.Memory = Unit {0}
MaySettle t = ⊥

-- by what is at work
abbrev pub MayAnswer : Work → Trouble → Type 0
MayAnswer (Opening r) t = MayStopOpening t
MayAnswer (Committing r) t = MayStopCommit t
MayAnswer (Reading home w) t = MayStopWalk t
MayAnswer (Scanning home m) t = MayStopWalk t
MayAnswer (Looking home m) t = MayStopWalk t
MayAnswer (Folding home m) t = MayStopTree t
MayAnswer (Paging home p) t = MayStopPage p.page t
MayAnswer (Closing l) t = MayRefuse t
MayAnswer (Renewing home) t = MayRefuse t
MayAnswer (Settling m) t = MaySettle t
MayAnswer (Sweeping m) t = MayStopSweep t
MayAnswer Closed t = ⊥
MayAnswer (Idle home) t = ⊥
MayAnswer (Broken l) t = ⊥
