-- What a step of a sweep is, all of it by the one answer that the cloud gave.
use Rattle.std.specs.Prelude.{◌≡◌, ◌≢◌, ◌+◌, List, ◌∷◌, length}
use Rattle.db_base.specs.declared.trouble.Trouble.{Trouble}
use Rattle.db_base.specs.declared.trouble.Trouble.TheVariants as trouble
use Rattle.cloud_trait.specs.declared.answer.Answer.{Answer}
use Rattle.cloud_trait.specs.declared.answer.Answer.TheVariants as call
use Rattle.cloud_trait.specs.declared.turn.Turn.{Turn}
use Rattle.cloud_trait.specs.declared.turn.Turn.TheVariants.{Stopped}
use Rattle.cloud_trait.specs.Caller.{Caller}
use Rattle.cloud_trait.specs.Calm.{AreCalm}
use Rattle.cloud_trait.specs.Machine.{Steps, Deed, calls_of, occasion_of}
use Rattle.cloud_trait.specs.Seen.{Seen}
use Rattle.ckpt_parts.specs.Leasing.{outstanding}
use Rattle.orphan_sweep.specs.declared.swept.Swept.{Swept}
use Rattle.orphan_sweep.specs.Sweeping.{Sweeping, sweep_ask, sweep_machine}
use Rattle.orphan_sweep.specs.Ample.{IsAmple}
use Rattle.orphan_sweep.specs.Leases.{Went, Stands, Names, AreReturned, AreFew}
use Rattle.orphan_sweep.specs.Causes.{IsShown, Tells}
use Rattle.orphan_sweep.specs.Demands.{Owes}
use Rattle.orphan_sweep.specs.Meaning.{Knows, Removes, MeansSwept}
use Rattle.orphan_sweep.specs.Calm.{IsWell}

-- the call in hand, as it was answered
abbrev pub deed_of : Caller → Sweeping → Answer → Seen → Seen → Deed
deed_of who old answer before after = record { who = who; ask = sweep_ask old; answer = answer; before = before; after = after }

-- What this answer came to behind these calls. The calls were those of the stage (`knows`): so nothing was removed before all levels were read and the
-- pages listed, and a removal in hand is of the next listed page that was not come to (`removes`). The call names the tree's lease, which is held
-- (`stands`, `names`), and few calls were made with it (`few`). Each trouble that is kept or answered was kept before or is shown by the answer
-- (`tells`), and each such trouble is kept or answered (`owes`); want of memory never takes the place of a refused call, nor of any once the pages are
-- listed (`ample`). At an end all orphans are removed (`swept`), and before it the lease was given back by
-- a call (`returned`). Where all calls were calm, a stop is for what the cloud holds or for want of memory (`well`).
pub record Means (d : Deed) (h : List Deed) (old new : Sweeping) (turn : Turn Swept) : Type 0 where
  pub knows : Knows old (calls_of h)
  pub removes : Removes old (calls_of h) (sweep_ask old)
  pub stands : Stands old h
  pub names : Names old.tree (sweep_ask old) (outstanding h)
  pub few : AreFew old (1 + length h)
  pub tells : Tells old d.answer new turn
  pub owes : (t : Trouble) → t ≢ trouble.Memory → IsShown old d.answer t → Owes new turn t
  pub ample : IsAmple d.answer old new turn
  pub swept : MeansSwept old (calls_of h) turn
  pub returned : AreReturned (outstanding (d ∷ h)) turn
  pub well : AreCalm (d ∷ h) → IsWell turn

-- The code made the call in hand and took the step that its answer leads to. Where the answer is want of memory, it stops for it. Whichever calls the
-- sweep came by, the answer came to this behind them.
pub record Stepped (who : Caller) (before after : Seen) (old new : Sweeping) (turn : Turn Swept) : Type 0 where
  pub did : Steps sweep_machine (occasion_of who before after) old new turn
  pub memory : did.answer ≡ call.Memory → turn ≡ Stopped trouble.Memory
  pub means : (h : List Deed) → Went h old → Means (deed_of who old did.answer before after) h old new turn
