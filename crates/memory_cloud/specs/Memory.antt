-- What the cloud in memory tells of itself.
use Rattle.std.specs.Prelude.{ℕ, ◌≡◌, ◌+◌, min, Bool, cond, List, Option, Some, None}
use Rattle.std.specs.Option.{option_map}
use Rattle.cloud_trait.specs.State.{CloudState, Counts, greatest, newest, called, end_after}
use Rattle.cloud_trait.specs.declared.answer.Answer.{Answer}
use Rattle.cloud_trait.specs.Ask.{Ask}
use Rattle.cloud_trait.specs.Caller.{Caller}
use Rattle.cloud_trait.specs.Seen.{Seen}
use Rattle.memory_cloud.specs.Maps.{versions_in, messages_in, hold_in}
use Rattle.memory_cloud.specs.Mood.{mood_at}
use Rattle.memory_cloud.specs.Outcome.{Follows}
use Rattle.memory_cloud.specs.declared.mood.Mood.{Mood}
use Rattle.memory_cloud.specs.declared.store.Last.{Last}
use Rattle.memory_cloud.specs.declared.store.Store.{Store}
use Rattle.memory_cloud.specs.declared.memory.MemoryCloud.{MemoryCloud}

-- the state that it holds
abbrev pub store_state : Store → CloudState
store_state s = record {
  versions = λ name. versions_in s.objects name;
  messages = λ queue. messages_in s.queues queue;
  locks = λ lock. hold_in s.locks lock;
  now = s.clock;
  waits = s.waits;
  trace = s.trace.items;
  wish = s.wish;
  last = option_map (λ (l : Last). (l.who, l.wish)) s.last;
}

-- its counts; it never fails to look
abbrev pub store_counts : Store → Counts
store_counts s = record { faults = s.faults; withheld = s.withheld; stale = s.stale; dark = 0 }

abbrev pub state_of : MemoryCloud → CloudState
state_of c = store_state c.store

abbrev pub counts_of : MemoryCloud → Counts
counts_of c = store_counts c.store

-- foreign bytes were planted in it
abbrev pub is_planted : MemoryCloud → Bool
is_planted c = c.planted

-- the state, where it is told: until foreign bytes are planted
abbrev pub told_state : MemoryCloud → Option CloudState
told_state c = cond (is_planted c) None (Some (state_of c))

-- what is seen of it: a look at an object shows its newest version, planted or not; it does not tell what it answered
abbrev pub seen_of : MemoryCloud → Seen
seen_of c = record { counts = counts_of c; state = told_state c; heard = None; shown = Some (newest (state_of c)) }

-- the number of its next service call, from 1
abbrev pub next_call : MemoryCloud → ℕ
next_call c = min (c.calls + 1) greatest

-- the numbers of the calls that fail
abbrev pub failing_calls : MemoryCloud → List ℕ
failing_calls c = c.failing.items

-- how its next service call goes
abbrev pub next_mood : MemoryCloud → Mood
next_mood c = mood_at (counts_of c) (failing_calls c) (next_call c) c.store.wish

-- one service call more was made, those that fail are as they were, and the state is told where it was
pub record CountsCall (old new : MemoryCloud) : Type 0 where
  pub next : next_call new ≡ min (next_call old + 1) greatest
  pub failing : failing_calls new ≡ failing_calls old
  pub planted : is_planted new ≡ is_planted old

-- no service call was made, and those that fail are as they were
pub record MakesNoCall (old new : MemoryCloud) : Type 0 where
  pub next : next_call new ≡ next_call old
  pub failing : failing_calls new ≡ failing_calls old

-- who plants foreign bytes: the settler, before the first event
abbrev pub planter : Caller
planter = record { session = 0; event = 0 }

-- ---- what a call does

-- a call on the store that has begun in this mood does what that says
abbrev pub MeetsBy : Caller → Mood → Ask → Answer → Store → Store → Type 0
MeetsBy who mood ask answer old new =
    Follows mood who ask answer (store_counts old, store_state old) (store_counts new, store_state new)

-- whoever made it
abbrev pub Meets : Mood → Ask → Answer → Store → Store → Type 0
Meets mood ask answer old new = (who : Caller) → MeetsBy who mood ask answer old new

-- the state once its next service call has begun
abbrev pub begun : Caller → MemoryCloud → CloudState
begun who c = called who (state_of c).now (state_of c)

-- its next service call does what its mood says
abbrev pub Obeys : Caller → Ask → Answer → MemoryCloud → MemoryCloud → Type 0
Obeys who ask answer old new =
    Follows (next_mood old) who ask answer (counts_of old, begun who old) (counts_of new, state_of new)

-- ---- what is done to it beside the calls

-- the clock is later by the ticks, and one wait more is counted, both up to the greatest number
abbrev pub waited : ℕ → CloudState → CloudState
waited ticks s = record s { now = end_after s.now ticks; waits = min (s.waits + 1) greatest }

-- the bytes were planted, and the state is told no more
abbrev pub PlantsBytes : CloudState → MemoryCloud → Type 0
PlantsBytes planted new = (told_state new ≡ None) × (state_of new ≡ planted)

-- what it holds and tells is as it was
abbrev pub StaysSo : MemoryCloud → MemoryCloud → Type 0
StaysSo old new = (told_state new ≡ told_state old) × (state_of new ≡ state_of old)

-- nothing is counted yet
abbrev pub no_counts : Counts
no_counts = record { faults = 0; withheld = 0; stale = 0; dark = 0 }
