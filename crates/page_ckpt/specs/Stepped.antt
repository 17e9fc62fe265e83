-- What a step of a page checkpoint is, all of it by the one answer that the cloud gave.
use Rattle.std.specs.Prelude.{◌≡◌, ◌≢◌, List, ◌∷◌}
use Rattle.db_base.specs.declared.trouble.Trouble.{Trouble}
use Rattle.db_base.specs.declared.trouble.Trouble.TheVariants as trouble
use Rattle.cloud_trait.specs.declared.answer.Answer.{Answer}
use Rattle.cloud_trait.specs.declared.answer.Answer.TheVariants as call
use Rattle.cloud_trait.specs.declared.turn.CkptAnswer.{CkptAnswer}
use Rattle.cloud_trait.specs.declared.turn.Turn.{Turn}
use Rattle.cloud_trait.specs.declared.turn.Turn.TheVariants.{Stopped}
use Rattle.cloud_trait.specs.Caller.{Caller}
use Rattle.cloud_trait.specs.Machine.{Steps, Deed, calls_of, occasion_of}
use Rattle.cloud_trait.specs.Seen.{Seen}
use Rattle.cloud_trait.specs.Calm.{AreCalm}
use Rattle.cloud_trait.specs.Plenty.{HadMemory}
use Rattle.ckpt_parts.specs.Leasing.{outstanding}
use Rattle.page_ckpt.specs.Paging.{Paging, paging_ask, paging_machine}
use Rattle.page_ckpt.specs.Ample.{IsAmple}
use Rattle.page_ckpt.specs.Leases.{Went, AreReturned}
use Rattle.page_ckpt.specs.Meaning.{MeansDone}
use Rattle.page_ckpt.specs.Causes.{IsShown, Tells}
use Rattle.page_ckpt.specs.Demands.{WasBrought, Owes}
use Rattle.page_ckpt.specs.Calm.{IsWell}

-- the call in hand, as it was answered
abbrev pub deed_of : Caller → Paging → Answer → Seen → Seen → Deed
deed_of who old answer before after = record { who = who; ask = paging_ask old; answer = answer; before = before; after = after }

-- What this answer came to behind these calls. Each trouble that is kept or answered was kept before or is shown by the answer (`tells`), and each
-- such trouble is kept or answered (`owes`). The leaves from which links lead on were brought by gets. At an end the calls were those of a
-- checkpoint that is done, in their order (`done`), and before it each lease that a call took was given back by a call (`returned`). Where all calls
-- were calm, and those before this one were not answered for want of memory, an end leaves no message, and a stop is for what the cloud holds
-- (`well`).
pub record Means (d : Deed) (h : List Deed) (old new : Paging) (turn : Turn CkptAnswer) : Type 0 where
  pub tells : Tells old d.answer new turn
  pub owes : (t : Trouble) → t ≢ trouble.Memory → IsShown old d.answer new t → Owes new turn t
  pub brought : WasBrought old (calls_of h)
  pub done : MeansDone (paging_ask old) new h turn
  pub returned : AreReturned (outstanding (d ∷ h)) turn
  pub well : AreCalm (d ∷ h) → HadMemory h → IsWell new turn

-- The code made the call in hand and took a step that its answer leads to. Where the answer is want of memory, it stops for it; where it
-- is a refusal, it does not (`ample`). Whichever calls the checkpoint came by, the answer came to this behind them.
pub record Stepped (who : Caller) (before after : Seen) (old new : Paging) (turn : Turn CkptAnswer) : Type 0 where
  pub did : Steps paging_machine (occasion_of who before after) old new turn
  pub memory : did.answer ≡ call.Memory → turn ≡ Stopped trouble.Memory
  pub ample : IsAmple did.answer old turn
  pub means : (h : List Deed) → Went h old → Means (deed_of who old did.answer before after) h old new turn
