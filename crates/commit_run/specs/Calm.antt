-- How a whole commit ends where its calls go well.
use Rattle.std.specs.Prelude.{◌≡◌}
use Rattle.db_base.specs.declared.trouble.Trouble.{Trouble}
use Rattle.db_base.specs.declared.trouble.Trouble.TheVariants as trouble
use Rattle.db_base.specs.declared.trouble.CommitAnswer.{CommitAnswer}
use Rattle.db_base.specs.declared.trouble.CommitAnswer.TheVariants.{Committed, NotCommitted, InDoubt, CommittedOpen}
use Rattle.cloud_trait.specs.declared.turn.Turn.{Turn}
use Rattle.cloud_trait.specs.declared.turn.Turn.TheVariants.{More, Ended, Stopped}

-- the troubles that no call brings: what a walk met, and a number at its end
abbrev pub IsMet : Trouble → Type 0
IsMet (trouble.Damaged where_it_is offset) = Unit {0}
IsMet (trouble.BadFence page expected found) = Unit {0}
IsMet (trouble.Loop page) = Unit {0}
IsMet (trouble.Exhausted what) = Unit {0}
IsMet t = ⊥

-- it is committed, or such a trouble refused it
abbrev pub IsWell : CommitAnswer → Type 0
IsWell (Committed x) = Unit {0}
IsWell (NotCommitted t) = IsMet t
IsWell InDoubt = ⊥
IsWell (CommittedOpen t) = ⊥

-- the same of a turn; a stop is want of memory
abbrev pub EndsWell : Turn CommitAnswer → Type 0
EndsWell More = Unit {0}
EndsWell (Ended a) = IsWell a
EndsWell (Stopped t) = t ≡ trouble.Memory
