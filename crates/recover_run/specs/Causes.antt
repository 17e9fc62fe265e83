-- Why a recovery stops: where each trouble comes, by the answer of the step that brings it.
use Rattle.std.specs.Prelude.{ℕ, ◌≡◌, ◌≢◌, ◌<◌, ◌-◌, ◌^◌, ◌++◌, ◌⊎◌, List, [], ◌∷◌, length, map, Option, Some, None, Result, Ok, Err}
use Rattle.db_base.specs.declared.names.Lock.TheVariants as lock
use Rattle.db_base.specs.declared.names.ObjName.TheVariants as object
use Rattle.db_base.specs.declared.names.Place.{Place}
use Rattle.db_base.specs.declared.names.Place.TheVariants as place
use Rattle.db_base.specs.declared.trouble.Trouble.{Trouble}
use Rattle.db_base.specs.declared.trouble.Trouble.TheVariants as trouble
use Rattle.db_base.specs.declared.trouble.Counter.TheVariants as counter
use Rattle.head_codec.specs.declared.head.Head.{Head}
use Rattle.head_codec.specs.Spelling.{head_of, head_offset}
use Rattle.log_codec.specs.Atomic.{atomic_offset}
use Rattle.cloud_trait.specs.declared.answer.Answer.{Answer}
use Rattle.cloud_trait.specs.declared.answer.Answer.TheVariants as call
use Rattle.cloud_trait.specs.declared.message.Message.{Message}
use Rattle.cloud_trait.specs.declared.turn.Turn.{Turn}
use Rattle.cloud_trait.specs.declared.turn.Turn.TheVariants.{More, Ended, Stopped}
use Rattle.recover_run.specs.declared.items.AtomicItem.{AtomicItem}
use Rattle.recover_run.specs.declared.stage.Aim.TheVariants.{Settling}
use Rattle.recover_run.specs.declared.stage.Stage.{Stage}
use Rattle.recover_run.specs.declared.stage.Stage.TheVariants.{ReleasingOld, Taking, Getting, Receiving, Deleting, Clearing, Sweeping, Releasing, Finished}
use Rattle.recover_run.specs.declared.stage.RecoverAnswer.{RecoverAnswer}
use Rattle.recover_run.specs.Calls.{Calls, head_in}
use Rattle.recover_run.specs.Counting.{wanted_by, known_indices}
use Rattle.recover_run.specs.Gathering.{lost_now}
use Rattle.recover_run.specs.Ids.{new_ids, rest_of}
use Rattle.recover_run.specs.Items.{items_of}
use Rattle.recover_run.specs.Recovery.{Recovery, atomic_queue}

-- ---- what calls received

abbrev pub ids_in : Answer → List ℕ
ids_in (call.Received ms) = map (λ (m : Message). m.id) ms
ids_in a = []

-- the ids that calls received, each once, in the order in which they came first
abbrev pub known_ids : Calls → List ℕ
known_ids [] = []
known_ids (c ∷ cs) = known_ids cs ++ new_ids (known_ids cs) (ids_in c.1)

abbrev pub BringsNone : Answer → List ℕ → Type 0 → Type 0
BringsNone (call.Received ms) known earlier = new_ids known (ids_in (call.Received ms)) ≡ []
BringsNone a known earlier = earlier

-- the newest receive of the calls brought no id that was new to them
abbrev pub NothingNew : Calls → Type 0
NothingNew [] = ⊥
NothingNew (c ∷ cs) = BringsNone c.1 (known_ids cs) (NothingNew cs)

-- ---- what shows a trouble

-- what the call in hand answers counts: it is no release, and no deletion behind the put
abbrev pub Counts : Stage → Type 0
Counts ReleasingOld = ⊥
Counts Clearing = ⊥
Counts Releasing = ⊥
Counts Finished = ⊥
Counts stage = Unit {0}

-- the bytes of the head spell none
abbrev pub BreaksHead : Recovery → Answer → Place → ℕ → Type 0
BreaksHead r a where_it_is at =
    (r.stage ≡ Getting) × ((bytes : List ℕ) × (a ≡ call.Got (Some bytes)) × (head_of bytes ≡ None)
    × (where_it_is ≡ place.Object (object.Head r.client)) × (at ≡ head_offset bytes))

-- a received message is no record, the first such
abbrev pub BreaksMessage : Recovery → Answer → Place → ℕ → Type 0
BreaksMessage r a where_it_is at =
    ((r.stage ≡ Receiving) ⊎ (r.stage ≡ Sweeping)) × ((ms : List Message) × ((m : Message) × (a ≡ call.Received ms) × (items_of ms ≡ Err m)
    × (where_it_is ≡ place.Message (atomic_queue r) m.id) × (at ≡ atomic_offset m.bytes)))

-- the head that was read, the empty one where it was absent, is of the greatest epoch
abbrev pub IsLastEpoch : Recovery → Answer → Type 0
IsLastEpoch r a = (r.stage ≡ Getting) × ((v : Option (List ℕ)) × ((h : Head) × (a ≡ call.Got v) × (head_in v ≡ Some h) × (h.epoch ≡ 2 ^ 64 - 1)))

-- no lost record is left to be deleted: behind a receive that brought none that is new, or behind the last deletion
abbrev pub IsSifted : Recovery → Answer → Type 0
IsSifted r a =
    ((r.stage ≡ Receiving) × ((ms : List Message) × ((items : List AtomicItem) × (a ≡ call.Received ms) × (items_of ms ≡ Ok items)
    × (lost_now r.wanted r.gathered items ≡ []))))
    ⊎ ((r.stage ≡ Deleting) × (a ≡ call.Done) × (rest_of r.ids ≡ []))

-- the newest receive brought nothing new, and of the records that the head counts which the calls read, fewer came with the calls, each index once
pub record IsWaiting (r : Recovery) (a : Answer) (calls : Calls) (have need : ℕ) : Type 0 where
  pub sifted : IsSifted r a
  pub none : NothingNew calls
  pub have_is : have ≡ length (known_indices (wanted_by calls) calls)
  pub need_is : need ≡ (wanted_by calls).count
  pub fewer : have < need

-- what shows this trouble in a step, by the answer to the call in hand and by the calls with it; want of memory is free
abbrev pub Shows : Recovery → Answer → Calls → Trouble → Type 0
Shows r a calls trouble.Failed = Counts r.stage × (a ≡ call.Failed)
Shows r a calls (trouble.Late e n) = a ≡ call.Late e n
Shows r a calls (trouble.Busy held until) = (r.stage ≡ Taking) × (held ≡ lock.Client r.client) × (a ≡ call.Held until)
Shows r a calls (trouble.Damaged where_it_is at) = BreaksHead r a where_it_is at ⊎ BreaksMessage r a where_it_is at
Shows r a calls (trouble.Exhausted what) = (what ≡ counter.Epoch) × IsLastEpoch r a
Shows r a calls (trouble.Waiting have need) = IsWaiting r a calls have need
Shows r a calls trouble.Memory = Unit {0}
Shows r a calls t = ⊥

-- ---- a trouble comes only where it is shown

-- a trouble that is kept or answered after a call was kept before it, or the call's answer shows it
abbrev pub IsShown : Recovery → Answer → Calls → Trouble → Type 0
IsShown r a calls t = (r.ending ≡ Some (Err t)) ⊎ Shows r a calls t

abbrev pub Tells : Recovery → Answer → Calls → Recovery → Turn RecoverAnswer → Type 0
Tells r a calls n More = (t : Trouble) → n.ending ≡ Some (Err t) → IsShown r a calls t
Tells r a calls n (Ended answer) = (t : Trouble) → r.ending ≢ Some (Err t)
Tells r a calls n (Stopped t) = t ≢ trouble.Memory → IsShown r a calls t

-- ---- and wherever it is

-- the step keeps this ending, and goes on to give the lease back
abbrev pub Keeps : Recovery → Turn RecoverAnswer → Result RecoverAnswer Trouble → Type 0
Keeps n More ending = n.ending ≡ Some ending
Keeps n (Ended answer) ending = ⊥
Keeps n (Stopped t) ending = (t ≢ trouble.Memory → ending ≡ Err t)

-- what it keeps it answers
abbrev pub AnswersKept : Turn RecoverAnswer → Result RecoverAnswer Trouble → Type 0
AnswersKept More ending = ⊥
AnswersKept (Ended answer) ending = ending ≡ Ok answer
AnswersKept (Stopped t) ending = (t ≢ trouble.Memory → ending ≡ Err t)

-- the head is absent, and a settling has nothing to do
abbrev pub IsAbsent : Recovery → Answer → Type 0
IsAbsent r a = (r.aim ≡ Settling) × (r.stage ≡ Getting) × (a ≡ call.Got None)
