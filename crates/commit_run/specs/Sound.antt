-- What the bytes in hand spell.
use Rattle.commit_writes.specs.Writing.{Writing}
use Rattle.commit_writes.specs.Sound.{IsSound}
use Rattle.commit_run.specs.declared.hand.Hand.{Hand}
use Rattle.commit_run.specs.declared.hand.Hand.TheVariants.{Writes, First, Change}
use Rattle.commit_run.specs.Run.{Run}

-- a walk puts and sends nothing
abbrev pub IsSoundAt : Hand → Writing → Type 0
IsSoundAt Writes w = IsSound w
IsSoundAt (First walk) w = Unit {0}
IsSoundAt (Change walk) w = Unit {0}

-- a put in hand puts the home's head, a send the next record, and a deletion is of an ATOMIC message of the commit
abbrev pub IsSoundRun : Run → Type 0
IsSoundRun r = IsSoundAt r.hand r.draft.writes
