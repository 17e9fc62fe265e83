-- How many calls a recovery makes at most, over any cloud.
use Rattle.std.specs.Prelude.{ℕ, ◌+◌, ◌*◌, ◌≤◌, [], ◌∷◌, length, Option, Some, None}
use Rattle.head_codec.specs.declared.head.Head.{Head}
use Rattle.cloud_trait.specs.declared.answer.Answer.{Answer}
use Rattle.cloud_trait.specs.declared.answer.Answer.TheVariants.{Got}
use Rattle.cloud_trait.specs.Ask.{Ask, GetHeld}
use Rattle.recover_run.specs.Calls.{Calls, head_in}
use Rattle.recover_run.specs.Causes.{known_ids}
use Rattle.recover_run.specs.Gathering.{count_of}

abbrev pub count_in : Option Head → ℕ
count_in (Some h) = count_of h.phase
count_in None = 0

abbrev pub counted_after : Ask → Answer → ℕ → ℕ
counted_after (GetHeld name l) (Got v) n = count_in (head_in v)
counted_after ask answer n = n

-- how many records the open head counts that the held get of the calls brought, none where it brought none
abbrev pub counted : Calls → ℕ
counted [] = 0
counted (c ∷ cs) = counted_after c.0 c.1 (counted cs)

-- so many calls are few behind those: seven, four for each id that these received, and one for each record that the head counts
abbrev pub AreFew : Calls → ℕ → Type 0
AreFew calls made = made ≤ 7 + 4 * length (known_ids calls) + counted calls
