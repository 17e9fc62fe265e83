-- What the local work of a machine comes to, where memory did not run out.
use Rattle.std.specs.Prelude.{◌≡◌, ◌≢◌, Bool, true, false, Option, Some, None, IsSomeAnd}
use Rattle.db_base.specs.declared.trouble.Trouble.TheVariants as trouble
use Rattle.cloud_trait.specs.declared.turn.Turn.{Turn}
use Rattle.cloud_trait.specs.declared.turn.Turn.TheVariants.{More, Ended, Stopped}
use Rattle.cloud_trait.specs.Machine.{Next, Goes, Ends, Stops}

-- there is a next call
abbrev pub is_more : {A : Type 0} → Turn A → Bool
is_more More = true
is_more (Ended a) = false
is_more (Stopped t) = false

-- the code moved so: it left this state, and answered this turn
abbrev pub Moves : {M A : Type 0} → Next M A → M → Turn A → Type 0
Moves next new More = next ≡ Goes new
Moves next new (Ended a) = next ≡ Ends new a
Moves next new (Stopped t) = t ≢ trouble.Memory → next ≡ Stops new t

-- the code moved so where there was a move; else it changed nothing
abbrev pub MovesIf : {M A : Type 0} → Option (Next M A) → M → M → Option (Turn A) → Type 0
MovesIf next old new None = (next ≡ None) × (new ≡ old)
MovesIf next old new (Some turn) = IsSomeAnd next (λ n. Moves n new turn)

-- the code moved so, and left this beside it
abbrev pub MovesBeside : {M C A : Type 0} → Next M A × C → M → C → Turn A → Type 0
MovesBeside next new beside More = (next.0 ≡ Goes new) × (next.1 ≡ beside)
MovesBeside next new beside (Ended a) = (next.0 ≡ Ends new a) × (next.1 ≡ beside)
MovesBeside next new beside (Stopped t) = t ≢ trouble.Memory → (next.0 ≡ Stops new t) × (next.1 ≡ beside)
