-- That a recovery goes well where its calls are calm.
use Rattle.db_base.specs.declared.trouble.Trouble.{Trouble}
use Rattle.db_base.specs.declared.trouble.Trouble.TheVariants as trouble
use Rattle.db_base.specs.declared.trouble.Counter.TheVariants as counter
use Rattle.cloud_trait.specs.declared.turn.Turn.{Turn}
use Rattle.cloud_trait.specs.declared.turn.Turn.TheVariants.{More, Ended, Stopped}
use Rattle.recover_run.specs.declared.stage.RecoverAnswer.{RecoverAnswer}

-- the troubles for which a recovery may stop where its calls are calm: want of memory, a head or a record in no spelling, the last epoch,
-- and records that are missing
abbrev pub MayStop : Trouble → Type 0
MayStop trouble.Memory = Unit {0}
MayStop (trouble.Damaged place offset) = Unit {0}
MayStop (trouble.Exhausted counter.Epoch) = Unit {0}
MayStop (trouble.Waiting have need) = Unit {0}
MayStop t = ⊥

abbrev pub StopsWell : Turn RecoverAnswer → Type 0
StopsWell More = Unit {0}
StopsWell (Ended a) = Unit {0}
StopsWell (Stopped t) = MayStop t
