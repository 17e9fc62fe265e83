-- What a step of a recovery is, all of it by the one answer that the cloud gave.
use Rattle.std.specs.Prelude.{ℕ, ◌≡◌, ◌≢◌, List, ◌∷◌, Option, Some, Result, Ok, Err}
use Rattle.db_base.specs.declared.trouble.Trouble.{Trouble}
use Rattle.db_base.specs.declared.trouble.Trouble.TheVariants as trouble
use Rattle.cloud_trait.specs.declared.answer.Answer.TheVariants as call
use Rattle.cloud_trait.specs.declared.turn.Turn.{Turn}
use Rattle.cloud_trait.specs.declared.turn.Turn.TheVariants.{Stopped}
use Rattle.cloud_trait.specs.Caller.{Caller}
use Rattle.cloud_trait.specs.Claim.{Claim}
use Rattle.cloud_trait.specs.Machine.{Steps, Deed, calls_of, occasion_of}
use Rattle.cloud_trait.specs.Seen.{Seen}
use Rattle.cloud_trait.specs.State.{CloudState}
use Rattle.cloud_trait.specs.Calm.{AreCalm, AreAlone}
use Rattle.recover_run.specs.declared.stage.Aim.{Aim}
use Rattle.recover_run.specs.declared.stage.RecoverAnswer.{RecoverAnswer}
use Rattle.recover_run.specs.declared.stage.RecoverAnswer.TheVariants.{Nothing}
use Rattle.recover_run.specs.Ample.{IsAmple}
use Rattle.recover_run.specs.Causes.{Shows, Tells, Keeps, AnswersKept, IsAbsent}
use Rattle.recover_run.specs.Emptying.{IsBeginning, HadMemory, LeavesNone, deed_of}
use Rattle.recover_run.specs.Meaning.{MeansTurn, HandsNone}
use Rattle.recover_run.specs.Missing.{NoneMissing, WaitsForNone}
use Rattle.recover_run.specs.Recovery.{Recovery, recovery_ask, recovery_machine}
use Rattle.recover_run.specs.Leases.{Went, AreReturned}
use Rattle.recover_run.specs.Calm.{StopsWell}

-- a client's recovery: whose it is, what it is for, the lease that it had before, and the calls by which it came here
pub record Course : Type 0 where
  pub client : ℕ
  pub aim : Aim
  pub former : Option Claim
  pub calls : List Deed

abbrev pub course_of : ℕ → Aim → Option Claim → List Deed → Course
course_of client aim former h = record { client = client; aim = aim; former = former; calls = h }

-- What this answer came to behind the calls of a client's recovery, which is that client's (`own`) and for that (`aims`). It keeps or answers a
-- trouble only where it is shown (`tells`), and wherever one is (`owes`); it is to answer that there is nothing wherever a settling reads no head
-- (`absent`); and what it kept it answers (`answers`). An answer means what the calls were (`done`), no home is handed out but behind Opened
-- (`hands`), and before an end each lease was given back by a call, but for that of a home (`returned`). Where all calls were calm, it stops for
-- what the cloud holds alone (`well`); where nobody else acted, it waits for no record if none was missing at the beginning (`waits`), and leaves no
-- message (`empties`).
pub record Means (course : Course) (d : Deed) (old new : Recovery) (turn : Turn RecoverAnswer) : Type 0 where
  pub own : old.client ≡ course.client
  pub aims : old.aim ≡ course.aim
  pub tells : Tells old d.answer ((recovery_ask old, d.answer) ∷ calls_of course.calls) new turn
  pub owes : (t : Trouble) → t ≢ trouble.Memory → Shows old d.answer ((recovery_ask old, d.answer) ∷ calls_of course.calls) t → Keeps new turn (Err t)
  pub absent : IsAbsent old d.answer → Keeps new turn (Ok Nothing)
  pub answers : (ending : Result RecoverAnswer Trouble) → old.ending ≡ Some ending → AnswersKept turn ending
  pub done : MeansTurn course.client course.aim course.former ((recovery_ask old, d.answer) ∷ calls_of course.calls) new turn
  pub hands : HandsNone new turn
  pub returned : AreReturned course.client course.aim course.former (d ∷ course.calls) turn
  pub well : AreCalm (d ∷ course.calls) → StopsWell turn
  pub waits : AreCalm (d ∷ course.calls) → AreAlone (d ∷ course.calls)
      → (first : CloudState) → IsBeginning (d ∷ course.calls) first → NoneMissing course.client first → WaitsForNone turn
  pub empties : HadMemory course.calls → AreCalm (d ∷ course.calls) → AreAlone (d ∷ course.calls)
      → (first : CloudState) → IsBeginning (d ∷ course.calls) first → LeavesNone course.client first d.after turn

-- The code made the call in hand and took the step that its answer leads to. Where the answer is want of memory, it stops for it; where the call
-- was refused, it does not (`ample`). Whichever calls the recovery came by, the answer came to this behind them.
pub record Stepped (who : Caller) (before after : Seen) (old new : Recovery) (turn : Turn RecoverAnswer) : Type 0 where
  pub did : Steps recovery_machine (occasion_of who before after) old new turn
  pub memory : did.answer ≡ call.Memory → turn ≡ Stopped trouble.Memory
  pub ample : IsAmple did.answer old new turn
  pub means : (client : ℕ) (aim : Aim) (former : Option Claim) (h : List Deed) → Went client aim former h old
      → Means (course_of client aim former h) (deed_of who old did.answer before after) old new turn
