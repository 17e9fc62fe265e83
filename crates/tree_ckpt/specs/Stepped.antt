-- What a step of a tree checkpoint is, all of it by the one answer that the cloud gave.
use Rattle.std.specs.Prelude.{◌≡◌, ◌≢◌, List, ◌∷◌, Some, None, ◌⊎◌}
use Rattle.db_base.specs.declared.trouble.Trouble.{Trouble}
use Rattle.db_base.specs.declared.trouble.Trouble.TheVariants as trouble
use Rattle.cloud_trait.specs.declared.answer.Answer.{Answer}
use Rattle.cloud_trait.specs.declared.answer.Answer.TheVariants as call
use Rattle.cloud_trait.specs.declared.turn.CkptAnswer.{CkptAnswer}
use Rattle.cloud_trait.specs.declared.turn.Turn.{Turn}
use Rattle.cloud_trait.specs.declared.turn.Turn.TheVariants.{More, Ended, Stopped}
use Rattle.cloud_trait.specs.Caller.{Caller}
use Rattle.cloud_trait.specs.Machine.{Deed, Steps, calls_of, occasion_of}
use Rattle.cloud_trait.specs.Seen.{Seen}
use Rattle.cloud_trait.specs.Calm.{AreCalm}
use Rattle.cloud_trait.specs.Plenty.{HadMemory}
use Rattle.ckpt_parts.specs.Leasing.{outstanding}
use Rattle.tree_ckpt.specs.Making.{Making, making_ask, making_machine}
use Rattle.tree_ckpt.specs.Leases.{Went, AreReturned}
use Rattle.tree_ckpt.specs.Causes.{Calls, Shows, kept_trouble}
use Rattle.tree_ckpt.specs.Due.{Due, IsDue, IsCutShort, NeedsFew, WasBrought, WasLastButOne}
use Rattle.tree_ckpt.specs.Demands.{Matters, Demands}
use Rattle.tree_ckpt.specs.Meaning.{MeansDone}
use Rattle.tree_ckpt.specs.Calm.{IsWell}

-- the calls with the newest one
abbrev pub calls_with : Making → List Deed → Answer → Calls
calls_with m h a = (making_ask m, a) ∷ calls_of h

-- the call in hand, as it was answered
abbrev pub deed_of : Caller → Making → Answer → Seen → Seen → Deed
deed_of who old answer before after = record { who = who; ask = making_ask old; answer = answer; before = before; after = after }

-- ---- why it stops

-- the answer demands it where the checkpoint stands, and the calls brought what shows it; want of memory is free
abbrev pub IsShown : Making → List Deed → Answer → Trouble → Type 0
IsShown m h a t = (t ≢ trouble.Memory → Demands m.tree m.work a t) × Shows m.tree (calls_with m h a) (making_ask m) a t

-- a trouble that is kept or answered was kept before, or is shown
abbrev pub IsCaused : Making → List Deed → Answer → Trouble → Type 0
IsCaused m h a t = (kept_trouble m.work ≡ Some t) ⊎ IsShown m h a t

abbrev pub Tells : Making → List Deed → Answer → Making → Turn CkptAnswer → Type 0
Tells m h a n More = (t : Trouble) → kept_trouble n.work ≡ Some t → IsCaused m h a t
Tells m h a n (Ended answer) = kept_trouble m.work ≡ None
Tells m h a n (Stopped t) = t ≢ trouble.Memory → IsCaused m h a t

-- ---- what makes it stop

-- the trouble is kept while leases are given back, and then it is answered, unless memory ran out
abbrev pub Owes : Making → Turn CkptAnswer → Trouble → Type 0
Owes n More t = kept_trouble n.work ≡ Some t
Owes n (Ended answer) t = ⊥
Owes n (Stopped u) t = u ≢ trouble.Memory → u ≡ t

-- it comes to keep or to answer that a call failed
abbrev pub ComesToFail : Making → Making → Turn CkptAnswer → Type 0
ComesToFail m n More = (kept_trouble m.work ≡ None) × (kept_trouble n.work ≡ Some trouble.Failed)
ComesToFail m n (Ended answer) = ⊥
ComesToFail m n (Stopped t) = (kept_trouble m.work ≡ None) × (t ≡ trouble.Failed)

-- ---- a step

-- What this answer came to behind these calls. Each trouble that is kept or answered was kept before or is shown (`tells`), and each that was kept, or
-- that the answer demands, is kept or answered (`owes`); no failed deletion or release brings one (`fails`). What is due was brought by gets and puts,
-- and needs few new pages (`few`); a tree object that is cut short stood at the last version but one. At an end the calls were those of a checkpoint that
-- is done, in their order (`done`), and before it each lease that a call took was given back by a call (`returned`). Where all calls were calm, and those
-- before this one were not answered for want of memory, an end leaves no message, and a stop is for what the cloud holds (`well`).
pub record Means (d : Deed) (h : List Deed) (old new : Making) (turn : Turn CkptAnswer) : Type 0 where
  pub tells : Tells old h d.answer new turn
  pub owes : (t : Trouble) → (kept_trouble old.work ≡ Some t) ⊎ Demands old.tree old.work d.answer t → Owes new turn t
  pub fails : ComesToFail old new turn → Matters (making_ask old)
  pub brought : (due : Due) → IsDue old.work d.answer due → WasBrought old.tree due (calls_with old h d.answer)
  pub few : (due : Due) → IsDue old.work d.answer due → NeedsFew due (calls_with old h d.answer)
  pub cut_short : IsCutShort old.work d.answer → WasLastButOne old.tree (calls_with old h d.answer)
  pub done : MeansDone (making_ask old) old h turn
  pub returned : AreReturned (outstanding (d ∷ h)) turn
  pub well : AreCalm (d ∷ h) → HadMemory h → IsWell old.tree (calls_with old h d.answer) turn

-- The code made the call in hand and took a step that its answer leads to. Where the answer is want of memory, it stops for it. Whichever calls the
-- checkpoint came by, the answer came to this behind them.
pub record Stepped (who : Caller) (before after : Seen) (old new : Making) (turn : Turn CkptAnswer) : Type 0 where
  pub did : Steps making_machine (occasion_of who before after) old new turn
  pub memory : did.answer ≡ call.Memory → turn ≡ Stopped trouble.Memory
  pub means : (h : List Deed) → Went h old → Means (deed_of who old did.answer before after) h old new turn
