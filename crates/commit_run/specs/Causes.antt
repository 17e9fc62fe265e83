-- Why a commit ends with nothing committed: the step that ends it shows it, and so does its beginning.
use Rattle.std.specs.Prelude.{◌≡◌, ◌⊎◌, ℕ, true, false, List, slice_get, Some}
use Rattle.db_base.specs.declared.trouble.Trouble.{Trouble}
use Rattle.db_base.specs.declared.trouble.Trouble.TheVariants as trouble
use Rattle.db_base.specs.declared.trouble.Counter.TheVariants as counter
use Rattle.db_base.specs.declared.trouble.CommitAnswer.{CommitAnswer}
use Rattle.db_base.specs.declared.trouble.CommitAnswer.TheVariants.{NotCommitted}
use Rattle.txn_buffer.specs.Noted.{Noted}
use Rattle.cloud_trait.specs.declared.answer.Answer.{Answer}
use Rattle.cloud_trait.specs.declared.turn.Turn.{Turn}
use Rattle.cloud_trait.specs.declared.turn.Turn.TheVariants.{Ended}
use Rattle.cloud_trait.specs.Views.{trouble_of}
use Rattle.cloud_trait.specs.Machine.{Stops}
use Rattle.page_cache.specs.Cache.{Cache}
use Rattle.tree_walk.specs.Causes.{Shows, LinkShows}
use Rattle.tree_walk.specs.Walk.{Walk, new_walk, walk_ready, walk_next}
use Rattle.commit_writes.specs.Writing.{routed_of, passes, is_spent}
use Rattle.commit_run.specs.declared.hand.Hand.{Hand}
use Rattle.commit_run.specs.declared.hand.Hand.TheVariants.{Writes, First, Change}
use Rattle.commit_run.specs.Run.{Run, home_of, target_of, long_target, is_stale}
use Rattle.commit_run.specs.Trips.{left_by_turn}

-- the walk in hand stops so beside the cache, at no stale page, and its step shows the trouble
abbrev pub StopsWalk : Walk × Cache → Answer → Trouble → Type 0
StopsWalk m a t = (left : Walk × Cache) × (walk_next m a ≡ Stops left t) × (is_stale t ≡ false) × Shows m a left.0 t

-- a walk stops before its first call, and what the cache keeps shows the trouble
abbrev pub StopsBegun : ℕ × List ℕ → Cache → Trouble → Type 0
StopsBegun to c t = (left : Walk × Cache) × (walk_ready (new_walk to.0 (Some to.1) false, c) ≡ Stops left t) × LinkShows c (new_walk to.0 (Some to.1) false) left.0 t

-- the walk for one of the changes does so
abbrev pub StopsNext : List Noted → Cache → Trouble → Type 0
StopsNext changes c t = (place : ℕ) × (n : Noted) × (slice_get changes place ≡ Some n) × StopsBegun (target_of n) c t

-- a number of the records to be written would pass the greatest one
abbrev pub PassesNumber : Run → Trouble → Type 0
PassesNumber r t = (t ≡ trouble.Exhausted counter.Number) × (passes (routed_of (home_of r) r.draft.writes.changes r.draft.plan.pages) ≡ true)

-- behind a walk: it stops so, or the next one does beside the cache that it left, or no walk is left and a number is too great
abbrev pub ShowsWalk : Walk × Cache → Answer → List Noted → Run → Trouble → Type 0
ShowsWalk m a changes new t = StopsWalk m a t ⊎ (StopsNext changes (left_by_turn (walk_next m a)).1 t ⊎ PassesNumber new t)

-- what the answer to the call in hand shows where it ends a commit with nothing committed: that of a write is the trouble itself
abbrev pub ShowsIn : Hand → Cache → Answer → List Noted → Run → Trouble → Type 0
ShowsIn Writes c a changes new t = t ≡ trouble_of a
ShowsIn (First w) c a changes new t = ShowsWalk (w, c) a changes new t
ShowsIn (Change w) c a changes new t = ShowsWalk (w, c) a changes new t

-- a trouble with which nothing was committed is so
abbrev pub TellsOf : (Trouble → Type 0) → CommitAnswer → Type 0
TellsOf shows (NotCommitted t) = shows t
TellsOf shows answer = Unit {0}

abbrev pub Tells : (Trouble → Type 0) → Turn CommitAnswer → Type 0
Tells shows (Ended answer) = TellsOf shows answer
Tells shows turn = Unit {0}

-- what a step tells of its trouble
abbrev pub Causes : Run × Cache → Answer → Run × Cache → Turn CommitAnswer → Type 0
Causes old answer new turn = Tells (ShowsIn old.0.hand old.1 answer old.0.draft.writes.changes new.0) turn

-- ---- at the beginning

-- the walk for a long list of pending entries stops before its first call
abbrev pub StopsLong : Run → Cache → Trouble → Type 0
StopsLong r c t =
    (to : ℕ × List ℕ) × (long_target (home_of r).head.pending ≡ Some to)
    × (left : Walk × Cache) × (walk_ready (new_walk to.0 (Some to.1) true, c) ≡ Stops left t) × LinkShows c (new_walk to.0 (Some to.1) true) left.0 t

-- no attempt number is left, or the first walk stops at what the cache keeps, or no walk is needed and a number is too great
abbrev pub ShowsReady : Run × Cache → Run → Trouble → Type 0
ShowsReady old new t =
    ((t ≡ trouble.Exhausted counter.Txn) × (is_spent (home_of old.0) ≡ true))
    ⊎ (StopsLong old.0 old.1 t ⊎ (StopsNext old.0.draft.writes.changes old.1 t ⊎ PassesNumber new t))

abbrev pub CausesReady : Run × Cache → Run → Turn CommitAnswer → Type 0
CausesReady old new turn = Tells (ShowsReady old new) turn
