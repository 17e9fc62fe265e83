-- With which troubles a reply is right, by how its session stands: none that only damage could cause.
use Rattle.session_facts.specs.Machines.CommitRuns.Stops.{MayStopCommit, MayEnd}
use Rattle.db_base.specs.declared.trouble.Trouble.{Trouble}
use Rattle.session_facts.specs.Machines.Openings.Knows.{MayStopOpening}
use Rattle.session_facts.specs.Machines.PageCheckpoints.Knows.{MayStopPage}
use Rattle.replay_meaning.specs.Standing.{Task, Opening, Closing, Renewing, Committing, Reading, Scanning, LookingUp, Paging, Folding, Posture, Closed, Idle, Broken, Working}
use Rattle.reply_text.specs.declared.reply.Reply.{Reply}
use Rattle.reply_text.specs.declared.reply.Reply.TheVariants as reply
use Rattle.session_facts.specs.Sessions.Stops.{MayRefuse, MaySettle}
use Rattle.session_facts.specs.Machines.TreeCheckpoints.Knows.{MayStopTree}
use Rattle.session_facts.specs.Machines.Walks.Knows.{MayStopWalk}

-- by what a session works on; that a page is absent or no leaf is answered for the page alone that the line named, and a stale page to reads
abbrev pub MayFail : Task → Trouble → Type 0
MayFail Opening t = MayStopOpening t
MayFail Closing t = MayRefuse t
MayFail Renewing t = MayRefuse t
MayFail (Committing changes) t = MayStopCommit t
MayFail (Reading tree key) t = MayStopWalk t
MayFail (Scanning tree from to) t = MayStopWalk t
MayFail (LookingUp tree attr) t = MayStopWalk t
MayFail (Paging tree page) t = MayStopPage page t
MayFail (Folding tree) t = MayStopTree t

-- by how it stands; one that is at no work is answered with none
abbrev pub MayTrouble : Posture → Trouble → Type 0
MayTrouble (Working task) t = MayFail task t
MayTrouble Closed t = ⊥
MayTrouble Idle t = ⊥
MayTrouble Broken t = ⊥

-- a reply to a session that stood so
abbrev pub IsSoundReply : Posture → Reply → Type 0
IsSoundReply posture (reply.Trouble t) = MayTrouble posture t
IsSoundReply posture (reply.Commit a) = MayEnd a
IsSoundReply posture (reply.NotSettled t) = MaySettle t
IsSoundReply posture reply = Unit {0}
