-- How a commit may end in trouble.
use Rattle.cloud_facts.specs.Words.{Trouble, CommitAnswer, CloudState}
use Rattle.db_base.specs.declared.trouble.CommitAnswer.TheVariants.{Committed, NotCommitted, InDoubt, CommittedOpen}
use Rattle.db_base.specs.declared.trouble.Trouble.TheVariants as trouble
use Rattle.session_facts.specs.Sessions.Spent.{IsOfCommit, IsSpentToCommit}

-- a call failed or came too late, a counter stands at its last value, or memory ran out: no object is damaged, no walk is stale
abbrev pub MayStopCommit : Trouble → Type 0
MayStopCommit trouble.Failed = Unit {0}
MayStopCommit (trouble.Late end now) = Unit {0}
MayStopCommit (trouble.Exhausted what) = IsOfCommit what
MayStopCommit trouble.Memory = Unit {0}
MayStopCommit t = ⊥

-- without a call a counter stands at its last value, as the cloud tells, or memory ran out
abbrev pub MayStopAtOnce : CloudState → Trouble → Type 0
MayStopAtOnce s (trouble.Exhausted what) = IsSpentToCommit s what
MayStopAtOnce s trouble.Memory = Unit {0}
MayStopAtOnce s t = ⊥

-- by the troubles that may come: a commit that is refused has such a trouble, and so has one that stays open; for one in doubt a call failed
abbrev pub EndsBy : (Trouble → Type 0) → CommitAnswer → Type 0
EndsBy May (NotCommitted t) = May t
EndsBy May (CommittedOpen t) = May t
EndsBy May InDoubt = May trouble.Failed
EndsBy May (Committed txn) = Unit {0}

abbrev pub MayEnd : CommitAnswer → Type 0
MayEnd a = EndsBy MayStopCommit a
