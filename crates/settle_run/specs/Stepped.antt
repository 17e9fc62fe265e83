-- What a step of the part at work is: a step of its machine, with all that the machine's contract says of its one answer, its causes among it.
use Rattle.std.specs.Prelude.{ℕ, ◌≡◌}
use Rattle.cloud_trait.specs.declared.answer.Answer.{Answer}
use Rattle.cloud_trait.specs.declared.turn.CkptAnswer.{CkptAnswer}
use Rattle.cloud_trait.specs.declared.turn.Turn.{Turn}
use Rattle.cloud_trait.specs.Caller.{Caller}
use Rattle.cloud_trait.specs.Machine.{Deed, Steps, occasion_of}
use Rattle.cloud_trait.specs.Seen.{Seen}
use Rattle.recover_run.specs.declared.stage.RecoverAnswer.{RecoverAnswer}
use Rattle.recover_run.specs.Stepped.{Stepped as RecoveryStepped}
use Rattle.page_ckpt.specs.Stepped.{Stepped as PagingStepped}
use Rattle.tree_ckpt.specs.Stepped.{Stepped as MakingStepped}
use Rattle.settle_run.specs.declared.part.Part.{Part}
use Rattle.settle_run.specs.declared.part.Part.TheVariants.{Client, Tree, Page}
use Rattle.settle_run.specs.Parts.{recovered_turn, left_turn, part_ask, part_machine}

-- the call in hand of a part
abbrev pub part_deed : Caller → Part → Answer → Seen → Seen → Deed
part_deed who p answer before after = record { who = who; ask = part_ask p; answer = answer; before = before; after = after }

-- the part's machine took this step by this call
abbrev pub PartStepped : Deed → Part → Part → Turn ℕ → Type 0
PartStepped call (Client client m) (Client other n) left =
    (other ≡ client) × ((turn : Turn RecoverAnswer) × (left ≡ recovered_turn turn) × ((s : RecoveryStepped call.who call.before call.after m n turn) × (s.did.answer ≡ call.answer)))
PartStepped call (Tree tree m) (Tree other n) left =
    (other ≡ tree) × ((turn : Turn CkptAnswer) × (left ≡ left_turn turn) × ((s : MakingStepped call.who call.before call.after m n turn) × (s.did.answer ≡ call.answer)))
PartStepped call (Page tree page m) (Page other right n) left =
    (other ≡ tree) × (right ≡ page)
    × ((turn : Turn CkptAnswer) × (left ≡ left_turn turn) × ((s : PagingStepped call.who call.before call.after m n turn) × (s.did.answer ≡ call.answer)))
PartStepped call old new left = ⊥

-- the code made the call in hand of the part and took a step of it, and the same step of its machine
pub record PartSteps (who : Caller) (before after : Seen) (old new : Part) (turn : Turn ℕ) : Type 0 where
  pub did : Steps part_machine (occasion_of who before after) old new turn
  pub stepped : PartStepped (part_deed who old did.answer before after) old new turn
