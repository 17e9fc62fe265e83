-- How a commit ends with what it writes where its calls go well.
use Rattle.std.specs.Prelude.{◌≡◌, ◌≤◌, ℕ, ◌-◌, List, ◌∷◌, ◌++◌, length, slice_get, true, Some}
use Rattle.std.specs.List.{AllByRecursion}
use Rattle.db_base.specs.declared.names.QueueName.TheVariants as queue
use Rattle.db_base.specs.declared.trouble.Trouble.TheVariants as trouble
use Rattle.db_base.specs.declared.trouble.CommitAnswer.{CommitAnswer}
use Rattle.db_base.specs.declared.trouble.CommitAnswer.TheVariants.{Committed, NotCommitted, InDoubt, CommittedOpen}
use Rattle.log_codec.specs.declared.record.AtomicRec.{AtomicRec}
use Rattle.cloud_trait.specs.declared.answer.Answer.TheVariants.{Done}
use Rattle.cloud_trait.specs.declared.state.Posted.{Posted}
use Rattle.cloud_trait.specs.declared.turn.Turn.{Turn}
use Rattle.cloud_trait.specs.declared.turn.Turn.TheVariants.{More, Ended, Stopped}
use Rattle.cloud_trait.specs.Ask.{Delete}
use Rattle.cloud_trait.specs.State.{CloudState}
use Rattle.cloud_trait.specs.Machine.{Deed}
use Rattle.cloud_trait.specs.Calm.{IsCalm, AreCalm, AreAlone}
use Rattle.recover_run.specs.declared.home.Home.{Home}
use Rattle.commit_writes.specs.Writing.{Writing}
use Rattle.commit_writes.specs.Calls.{Calls, told, all_logged}
use Rattle.commit_writes.specs.Within.{Went}

-- it is committed
abbrev pub IsWell : CommitAnswer → Type 0
IsWell (Committed x) = Unit {0}
IsWell (NotCommitted t) = ⊥
IsWell InDoubt = ⊥
IsWell (CommittedOpen t) = ⊥

-- the same of a turn; a stop is want of memory
abbrev pub EndsWell : Turn CommitAnswer → Type 0
EndsWell More = Unit {0}
EndsWell (Ended a) = IsWell a
EndsWell (Stopped t) = t ≡ trouble.Memory

-- the message of this number, from 1, is marked as deleted
abbrev pub IsMarked : List Posted → ℕ → Type 0
IsMarked ms id = 1 ≤ id → (m : Posted) → slice_get ms (id - 1) ≡ Some m → m.deleted ≡ true

-- the calls began with the sends of all records to the client's ATOMIC queue, and each message that they sent there is marked
pub record AreMarked (home : Home) (records : List AtomicRec) (calls : Calls) (s : CloudState) : Type 0 where
  pub ids : List ℕ
  pub later : Calls
  pub logged : length ids ≡ length records
  pub are : calls ≡ all_logged home records ids ++ later
  pub marked : AllByRecursion (IsMarked (s.messages (queue.Atomic home.client))) ids

-- the call did not raise the count of faults
abbrev pub RaisesNoFault : Deed → Type 0
RaisesNoFault d = d.after.counts.faults ≡ d.before.counts.faults

-- one of the calls deleted this message of the client's ATOMIC queue: it was done, and the message is marked in the state that it left
pub record IsGone (client : ℕ) (h : List Deed) (id : ℕ) : Type 0 where
  pub place : ℕ
  pub deletion : Deed
  pub among : slice_get h place ≡ Some deletion
  pub asks : deletion.ask ≡ Delete (queue.Atomic client) id
  pub done : deletion.answer ≡ Done
  pub marks : (s t : CloudState) → deletion.before.state ≡ Some s → deletion.after.state ≡ Some t → IsMarked (t.messages (queue.Atomic client)) id

-- the calls began with the sends of all records to the client's ATOMIC queue, and each message that they sent there was marked by its own deletion
pub record AreGone (home : Home) (records : List AtomicRec) (h : List Deed) : Type 0 where
  pub ids : List ℕ
  pub later : Calls
  pub logged : length ids ≡ length records
  pub are : told h ≡ all_logged home records ids ++ later
  pub gone : AllByRecursion (IsGone home.client h) ids

-- where the newest call of a step is calm it ends no other way
abbrev pub Well : Deed → Writing → Turn CommitAnswer → Type 0
Well call old turn = (home : Home) (records : List AtomicRec) (h : List Deed) → Went home records h old → IsCalm call → EndsWell turn

-- where all calls were calm and nobody else acted between them, the ATOMIC messages of a commit are marked in the state that its last call left
abbrev pub Marks : Deed → Writing → Turn CommitAnswer → Type 0
Marks call old turn =
    (home : Home) (records : List AtomicRec) (h : List Deed) → Went home records h old → AreCalm (call ∷ h) → AreAlone (call ∷ h) → (x : ℕ) → turn ≡ Ended (Committed x)
    → (s : CloudState) → call.after.state ≡ Some s → AreMarked home records (told (call ∷ h)) s

-- where no call raised the count of faults, each was marked by its own deletion, whoever else acted
abbrev pub Clears : Deed → Writing → Turn CommitAnswer → Type 0
Clears call old turn =
    (home : Home) (records : List AtomicRec) (h : List Deed) → Went home records h old → AllByRecursion RaisesNoFault (call ∷ h) → (x : ℕ) → turn ≡ Ended (Committed x)
    → AreGone home records (call ∷ h)
