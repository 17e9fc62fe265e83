-- What the answer of a commit says of what was committed.
use Rattle.std.specs.Prelude.{ℕ, List, map}
use Rattle.commit_run.specs.Run.{Run, home_of}
use Rattle.db_base.specs.declared.trouble.CommitAnswer.{CommitAnswer}
use Rattle.db_base.specs.declared.trouble.CommitAnswer.TheVariants.{Committed, NotCommitted, InDoubt, CommittedOpen}
use Rattle.fleet.specs.Course.{Done, HasCommitted}
use Rattle.fleet.specs.Fleet.{Fleet}
use Rattle.history.specs.Audited.{committed_entry}
use Rattle.report_types.specs.declared.entry.Entry.{Entry}

-- the entries of a commit's changes, as one transaction of its client
abbrev pub entries_of_run : ℕ → ℕ → Run → List Entry
entries_of_run epoch txn r = map (committed_entry (home_of r).client epoch txn) r.draft.writes.changes

-- a call of the program since the commit began put all its changes among what was committed, as this transaction
abbrev pub IsCommitted : Fleet → List Done → ℕ → Run → ℕ → Type 0
IsCommitted start h program r txn = (epoch : ℕ) × HasCommitted start program (entries_of_run epoch txn r) h

-- a commit that is answered as committed is so, and so is one that stays open
abbrev pub IsKept : Fleet → List Done → ℕ → Run → CommitAnswer → Type 0
IsKept start h program r (Committed txn) = IsCommitted start h program r txn
IsKept start h program r (CommittedOpen t) = (txn : ℕ) × IsCommitted start h program r txn
IsKept start h program r (NotCommitted t) = Unit {0}
IsKept start h program r InDoubt = Unit {0}
