-- A machine: a pure state, the call that it asks for, and the step that an answer leads to.
use Rattle.std.specs.Prelude.{◌≡◌, ◌≢◌, List, [], ◌∷◌, map, Some}
use Rattle.db_base.specs.declared.trouble.Trouble.{Trouble}
use Rattle.db_base.specs.declared.trouble.Trouble.TheVariants as trouble
use Rattle.cloud_trait.specs.declared.answer.Answer.{Answer}
use Rattle.cloud_trait.specs.declared.turn.Turn.{Turn}
use Rattle.cloud_trait.specs.declared.turn.Turn.TheVariants.{More, Ended, Stopped}
use Rattle.cloud_trait.specs.Caller.{Caller}
use Rattle.cloud_trait.specs.State.{CloudState}
use Rattle.cloud_trait.specs.Seen.{Seen}
use Rattle.cloud_trait.specs.Ask.{Ask}
use Rattle.cloud_trait.specs.Weather.{Makes}
use Rattle.cloud_trait.specs.Growth.{HasGrown}

-- where a step leads, with the state that it leaves
pub data Next (M A : Type 0) : Type 0 where
  Goes : (state : M) → Next M A
  Ends : (state : M) (answer : A) → Next M A
  Stops : (state : M) (trouble : Trouble) → Next M A

-- a function leads to one step
abbrev pub LeadsBy : {M A : Type 0} → (M → Answer → Next M A) → M → Answer → Next M A → Type 0
LeadsBy next m a n = next m a ≡ n

-- the code took a step that the answer leads to; at want of memory it kept what is not to be lost, as leases and a home
abbrev pub Took : {M A : Type 0} → (M → Answer → Next M A → Type 0) → (M → Answer → M → Type 0) → M → Answer → M → Turn A → Type 0
Took leads keeps old answer new More = leads old answer (Goes new)
Took leads keeps old answer new (Ended a) = leads old answer (Ends new a)
Took leads keeps old answer new (Stopped t) = (t ≢ trouble.Memory → leads old answer (Stops new t)) × (t ≡ trouble.Memory → keeps old answer new)

-- a machine: what it asks for, where an answer leads it, and what it keeps at want of memory
pub record Machine (M A : Type 0) : Type 1 where
  pub ask : M → Ask
  pub leads : M → Answer → Next M A → Type 0
  pub keeps : M → Answer → M → Type 0

abbrev pub machine_by : {M A : Type 0} → (M → Ask) → (M → Answer → Next M A → Type 0) → (M → Answer → M → Type 0) → Machine M A
machine_by ask leads keeps = record { ask = ask; leads = leads; keeps = keeps }

-- who makes a call, and what is seen of the cloud before and after it
pub record Occasion : Type 0 where
  pub who : Caller
  pub before : Seen
  pub after : Seen

abbrev pub occasion_of : Caller → Seen → Seen → Occasion
occasion_of who before after = record { who = who; before = before; after = after }

-- the code made the call in hand, and took a step that its answer leads to
pub record Steps {M A : Type 0} (machine : Machine M A) (on : Occasion) (old new : M) (turn : Turn A) : Type 0 where
  pub answer : Answer
  pub made : Makes on.who (machine.ask old) answer on.before on.after
  pub took : Took machine.leads machine.keeps old answer new turn

-- a call that was made: by whom, what it asked and answered, and what was seen of the cloud before and after it
pub record Deed : Type 0 where
  pub who : Caller
  pub ask : Ask
  pub answer : Answer
  pub before : Seen
  pub after : Seen

-- the call was made so
abbrev pub IsMade : Deed → Type 0
IsMade d = Makes d.who d.ask d.answer d.before d.after

-- between the newest call of a history and the next one others may have acted, and nothing that landed was lost
abbrev pub Follows : List Deed → Deed → Type 0
Follows [] d = Unit {0}
Follows (last ∷ h) d = (s t : CloudState) → last.after.state ≡ Some s → d.before.state ≡ Some t → HasGrown s t

-- the machine came from its start to this state by these calls, the newest first
abbrev pub Came : {M A : Type 0} → (M → Ask) → (M → Answer → Next M A → Type 0) → M → List Deed → M → Type 0
Came ask leads start [] m = m ≡ start
Came {M} ask leads start (d ∷ h) m =
    (from : M) × Came ask leads start h from × (d.ask ≡ ask from) × IsMade d × leads from d.answer (Goes m) × Follows h d

-- what the calls asked and answered, the newest first
abbrev pub calls_of : List Deed → List (Ask × Answer)
calls_of h = map (λ (d : Deed). (d.ask, d.answer)) h
