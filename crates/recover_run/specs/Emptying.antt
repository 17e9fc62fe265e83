-- What a recovery leaves in its client's ATOMIC queue, where its calls are calm and nobody else acts.
use Rattle.std.specs.Prelude.{ℕ, ◌≡◌, ◌≢◌, ◌≤◌, ◌+◌, List, [], ◌∷◌, Some}
use Rattle.std.specs.List.{AllByRecursion}
use Rattle.db_base.specs.declared.names.QueueName.TheVariants as queue
use Rattle.log_codec.specs.declared.record.AtomicRec.{AtomicRec}
use Rattle.log_codec.specs.Atomic.{atomic_of}
use Rattle.cloud_trait.specs.declared.answer.Answer.{Answer}
use Rattle.cloud_trait.specs.declared.answer.Answer.TheVariants.{Memory}
use Rattle.cloud_trait.specs.declared.message.Message.{Message}
use Rattle.cloud_trait.specs.declared.state.Posted.{Posted}
use Rattle.cloud_trait.specs.declared.turn.Turn.{Turn}
use Rattle.cloud_trait.specs.declared.turn.Turn.TheVariants.{More, Ended, Stopped}
use Rattle.cloud_trait.specs.Caller.{Caller}
use Rattle.cloud_trait.specs.Delivery.{unmarked}
use Rattle.cloud_trait.specs.Machine.{Deed}
use Rattle.cloud_trait.specs.Seen.{Seen}
use Rattle.cloud_trait.specs.State.{CloudState}
use Rattle.recover_run.specs.declared.stage.RecoverAnswer.{RecoverAnswer}
use Rattle.recover_run.specs.declared.stage.RecoverAnswer.TheVariants.{Opened, Nothing}
use Rattle.recover_run.specs.Recovery.{Recovery, recovery_ask}

-- the state before the first of the calls, which stand the newest first
abbrev pub IsBeginning : List Deed → CloudState → Type 0
IsBeginning [] s = ⊥
IsBeginning (d ∷ []) s = d.before.state ≡ Some s
IsBeginning (d ∷ last ∷ h) s = IsBeginning (last ∷ h) s

-- in none of the calls memory ran out
abbrev pub HadMemory : List Deed → Type 0
HadMemory h = AllByRecursion (λ (d : Deed). d.answer ≢ Memory) h

-- the message is no record of an epoch above this one
abbrev pub IsUptoEpoch : ℕ → Message → Type 0
IsUptoEpoch epoch m = (rec : AtomicRec) → atomic_of m.bytes ≡ Some rec → rec.epoch ≤ epoch

-- no unmarked message of a queue is a record of a later epoch
abbrev pub HasNoLater : ℕ → List Posted → Type 0
HasNoLater epoch ms = AllByRecursion (IsUptoEpoch epoch) (unmarked ms)

-- where a client was opened in an epoch, and no unmarked record in its queue was of that epoch or a later one at the beginning, no unmarked
-- message is left in it
abbrev pub LeavesNone : ℕ → CloudState → Seen → Turn RecoverAnswer → Type 0
LeavesNone client first after (Ended (Opened epoch)) =
    (past : ℕ) → epoch ≡ past + 1 → HasNoLater past (first.messages (queue.Atomic client))
    → (last : CloudState) → after.state ≡ Some last → unmarked (last.messages (queue.Atomic client)) ≡ []
LeavesNone client first after (Ended Nothing) = Unit {0}
LeavesNone client first after More = Unit {0}
LeavesNone client first after (Stopped t) = Unit {0}

-- the call of a step
abbrev pub deed_of : Caller → Recovery → Answer → Seen → Seen → Deed
deed_of who r a before after = record { who = who; ask = recovery_ask r; answer = a; before = before; after = after }
