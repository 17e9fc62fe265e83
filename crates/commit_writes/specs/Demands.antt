-- Which answer a commit ends with, exactly, by its calls so far and the answer of the call in hand.
use Rattle.std.specs.Prelude.{ℕ, ◌≡◌, ◌≢◌, ◌⊎◌, ◌+◌, List, [], ◌∷◌, length}
use Rattle.std.specs.List.{AllByRecursion}
use Rattle.db_base.specs.declared.trouble.Trouble.{Trouble}
use Rattle.db_base.specs.declared.trouble.Trouble.TheVariants as trouble
use Rattle.db_base.specs.declared.trouble.CommitAnswer.{CommitAnswer}
use Rattle.db_base.specs.declared.trouble.CommitAnswer.TheVariants.{Committed, NotCommitted, InDoubt, CommittedOpen}
use Rattle.log_codec.specs.declared.record.AtomicRec.{AtomicRec}
use Rattle.cloud_trait.specs.declared.answer.Answer.{Answer}
use Rattle.cloud_trait.specs.declared.answer.Answer.TheVariants.{Done, Late, Failed}
use Rattle.cloud_trait.specs.declared.turn.Turn.{Turn}
use Rattle.cloud_trait.specs.declared.turn.Turn.TheVariants.{Ended, Stopped}
use Rattle.cloud_trait.specs.Ask.{Ask, PutHeld, Delete, PutsNothing}
use Rattle.cloud_trait.specs.Machine.{Deed}
use Rattle.recover_run.specs.declared.home.Home.{Home}
use Rattle.commit_writes.specs.Writing.{Writing, writing_ask}
use Rattle.commit_writes.specs.Calls.{Calls, told}
use Rattle.commit_writes.specs.Meaning.{Refuses}
use Rattle.commit_writes.specs.Within.{Went}

abbrev pub IsPut : Ask → Type 0
IsPut (PutHeld name bytes one two) = Unit {0}
IsPut ask = ⊥

abbrev pub IsDeletion : Ask → Type 0
IsDeletion (Delete queue id) = Unit {0}
IsDeletion ask = ⊥

-- the call put no head
abbrev pub HasPutNothing : Ask × Answer → Type 0
HasPutNothing call = PutsNothing call.0

-- none of the calls put a head
abbrev pub NonePut : Calls → Type 0
NonePut calls = AllByRecursion HasPutNothing calls

-- the put of the head that commits landed
abbrev pub WasOpened : Calls → Type 0
WasOpened [] = ⊥
WasOpened (call ∷ calls) = (IsPut call.0 × (call.1 ≡ Done)) ⊎ WasOpened calls

abbrev pub deletions_in : Ask → ℕ
deletions_in (Delete queue id) = 1
deletions_in ask = 0

-- how many of the calls were deletions
abbrev pub deletions : Calls → ℕ
deletions [] = 0
deletions (call ∷ calls) = deletions_in call.0 + deletions calls

-- a call before the head's first put failed, or that put was late
abbrev pub DemandsNot : Calls → Ask → Answer → Trouble → Type 0
DemandsNot calls ask a trouble.Failed = NonePut calls × PutsNothing ask × (a ≡ Failed)
DemandsNot calls ask a (trouble.Late end now) = NonePut calls × IsPut ask × (a ≡ Late end now)
DemandsNot calls ask a t = ⊥

-- what demands an answer: the deletion of the last ATOMIC message was answered; the head's first put failed; that put landed, and a later send or
-- put failed or was late; or else nothing was committed
abbrev pub Demands : ℕ → ℕ → Calls → Ask → Answer → CommitAnswer → Type 0
Demands records attempt calls ask a (Committed x) = (x ≡ attempt) × IsDeletion ask × (deletions calls + 1 ≡ records)
Demands records attempt calls ask a (NotCommitted t) = DemandsNot calls ask a t
Demands records attempt calls ask a InDoubt = NonePut calls × IsPut ask × (a ≡ Failed)
Demands records attempt calls ask a (CommittedOpen t) = WasOpened calls × (IsDeletion ask → ⊥) × Refuses t a

-- the answer of a call that was refused
abbrev pub IsRefusal : Answer → Type 0
IsRefusal Failed = Unit {0}
IsRefusal (Late end now) = Unit {0}
IsRefusal a = ⊥

-- the turn ends with the answer exactly there; want of memory is free
pub record Exactly (why : Type 0) (answer : CommitAnswer) (turn : Turn CommitAnswer) : Type 0 where
  pub only : turn ≡ Ended answer → why
  pub always : why → (turn ≡ Ended answer) ⊎ (turn ≡ Stopped trouble.Memory)

-- what a step's answer says, by the calls so far and this one
abbrev pub Exact : Writing → Answer → Turn CommitAnswer → Type 0
Exact old answer turn =
    (home : Home) (records : List AtomicRec) (h : List Deed) → Went home records h old → (x : CommitAnswer)
    → Exactly (Demands (length records) home.attempt (told h) (writing_ask old) answer x) x turn

-- want of memory never takes the place of what a refused send or put demands
abbrev pub IsAmple : Ask → Answer → Turn CommitAnswer → Type 0
IsAmple ask answer turn = (IsDeletion ask → ⊥) → IsRefusal answer → turn ≢ Stopped trouble.Memory
