-- How the cloud in memory takes a call: by the wish that was set, and by the calls that are to fail.
use Rattle.std.specs.Prelude.{ℕ, ◌<◌, ◌==◌, Bool, true, cond, nat_lt, List}
use Rattle.std.specs.List.{list_any}
use Rattle.db_base.specs.declared.wish.Wish.{Wish}
use Rattle.db_base.specs.declared.wish.Wish.TheVariants as wish
use Rattle.cloud_trait.specs.State.{Counts, greatest}
use Rattle.memory_cloud.specs.declared.mood.Mood.{Mood}
use Rattle.memory_cloud.specs.declared.mood.Mood.TheVariants as mood

-- the mood that a wish makes
abbrev pub mood_of_wish : Wish → Mood
mood_of_wish wish.Plain = mood.Plain
mood_of_wish wish.Fail = mood.Fail
mood_of_wish wish.Lost = mood.Lost
mood_of_wish wish.Hide = mood.Hide
mood_of_wish (wish.Old n) = mood.Old n
mood_of_wish (wish.Give ps) = mood.Give

-- the count that a call of this mood may raise can rise
abbrev pub has_room : Mood → Counts → Bool
has_room mood.Plain c = true
has_room mood.Fail c = nat_lt c.faults greatest
has_room mood.Lost c = nat_lt c.faults greatest
has_room mood.Hide c = nat_lt c.withheld greatest
has_room (mood.Old n) c = nat_lt c.stale greatest
has_room mood.Give c = nat_lt c.withheld greatest

-- the mood, but Plain where its count could not rise
abbrev pub within_room : Counts → Mood → Mood
within_room c m = cond (has_room m c) m mood.Plain

-- the mood that is wanted of the call of this number: Fail where the call is to fail, and else by the wish
abbrev pub wanted_mood : List ℕ → ℕ → Wish → Mood
wanted_mood failing number w = cond (list_any (λ n. n == number) failing) mood.Fail (mood_of_wish w)

-- the mood of the call of this number
abbrev pub mood_at : Counts → List ℕ → ℕ → Wish → Mood
mood_at c failing number w = within_room c (wanted_mood failing number w)

-- a call has room for the count that it may raise
abbrev pub HasRoom : Mood → Counts → Type 0
HasRoom mood.Plain c = Unit {0}
HasRoom mood.Fail c = c.faults < greatest
HasRoom mood.Lost c = c.faults < greatest
HasRoom mood.Hide c = c.withheld < greatest
HasRoom (mood.Old n) c = c.stale < greatest
HasRoom mood.Give c = c.withheld < greatest
