-- When a commit ends as it plans, before its first call or behind a walk: the objects that the cache keeps demand it, or the numbers of its records.
use Rattle.std.specs.Prelude.{◌≡◌, ◌⊎◌, ℕ, Bool, true, false, List, find, Option, Some, None}
use Rattle.db_base.specs.Change.{key_of}
use Rattle.db_base.specs.declared.trouble.Trouble.{Trouble}
use Rattle.db_base.specs.declared.trouble.Trouble.TheVariants as trouble
use Rattle.db_base.specs.declared.trouble.Counter.TheVariants as counter
use Rattle.db_base.specs.declared.trouble.CommitAnswer.{CommitAnswer}
use Rattle.db_base.specs.declared.trouble.CommitAnswer.TheVariants.{NotCommitted}
use Rattle.txn_buffer.specs.Noted.{Noted}
use Rattle.cloud_trait.specs.declared.answer.Answer.{Answer}
use Rattle.cloud_trait.specs.declared.turn.Turn.{Turn}
use Rattle.cloud_trait.specs.declared.turn.Turn.TheVariants.{Ended, Stopped}
use Rattle.cloud_trait.specs.Machine.{Next, Goes, Ends, Stops}
use Rattle.recover_run.specs.declared.home.Home.{Home}
use Rattle.page_cache.specs.Cache.{Cache}
use Rattle.tree_walk.specs.Causes.{Meets}
use Rattle.tree_walk.specs.Walk.{Walk, new_walk, walk_next}
use Rattle.commit_run.specs.Plan.{seeks}
use Rattle.commit_writes.specs.Writing.{with_attempt, is_spent, routed_of, passes, first_leaves}
use Rattle.commit_run.specs.declared.hand.Hand.{Hand}
use Rattle.commit_run.specs.declared.hand.Hand.TheVariants.{Writes, First, Change}
use Rattle.commit_run.specs.Draft.{Draft, planned, pruned_behind, leaf_noted, paged}
use Rattle.commit_run.specs.Run.{Run, next_target, long_target, is_stale}

-- the objects that the cache keeps show a trouble on the way of a commit's first walk: that to the key of the first change that seeks a leaf. A
-- list of more than 256 pending entries is pruned before it, by a walk that gets the tree object anew
pub record MeetsFirst (home : Home) (changes : List Noted) (c : Cache) (t : Trouble) : Type 0 where
  pub few : long_target home.head.pending ≡ None
  pub change : Noted
  pub first : find (seeks home.head.pending) changes ≡ Some change
  pub meets : Meets c (new_walk change.tree (Some (key_of change.change)) false) t

-- no such list is to be pruned, no change seeks a leaf, and by page 1 for each change a number of the records would pass the greatest one
pub record PassesFirst (home : Home) (changes : List Noted) (t : Trouble) : Type 0 where
  pub few : long_target home.head.pending ≡ None
  pub none : find (seeks home.head.pending) changes ≡ None
  pub full : passes (routed_of (with_attempt home) changes (first_leaves changes)) ≡ true
  pub is : t ≡ trouble.Exhausted counter.Number

-- a commit that has an attempt number left ends with that trouble then, with nothing committed, if not for want of memory
abbrev pub DemandsReady : Home → List Noted → Cache → Turn CommitAnswer → Type 0
DemandsReady home changes c turn =
    (t : Trouble) → is_spent home ≡ false → MeetsFirst home changes c t ⊎ PassesFirst home changes t → (turn ≡ Ended (NotCommitted t)) ⊎ (turn ≡ Stopped trouble.Memory)

-- ---- behind a walk

-- behind a stale page: page 1 is that of the walk's change, and a walk for a long list of pending entries is passed over
abbrev pub behind_stop : Bool → Bool → Draft → Cache → Option (Draft × Cache)
behind_stop true true d c = Some (d, c)
behind_stop true false d c = Some (paged d 1, c)
behind_stop false first d c = None

abbrev pub behind_turn : Bool → Draft → Next (Walk × Cache) ℕ → Option (Draft × Cache)
behind_turn first d (Goes m) = None
behind_turn first d (Ends m page) = Some (leaf_noted (pruned_behind d m.0 m.1) m.0 m.1 page, m.1)
behind_turn first d (Stops m t) = behind_stop (is_stale t) first (pruned_behind d m.0 m.1) m.1

-- where this answer ends the walk in hand at a leaf or at a stale page: what is known then, beside the cache that the walk left
abbrev pub behind_walk : Hand → Draft → Cache → Answer → Option (Draft × Cache)
behind_walk Writes d c a = None
behind_walk (First w) d c a = behind_turn true d (walk_next (w, c) a)
behind_walk (Change w) d c a = behind_turn false d (walk_next (w, c) a)

-- the objects that the cache keeps show a trouble on the way of the next walk
abbrev pub MeetsNext : Draft → Cache → Trouble → Type 0
MeetsNext d c t = (to : ℕ × List ℕ) × (next_target (planned d) ≡ Some to) × Meets c (new_walk to.0 (Some to.1) false) t

-- no change needs a walk any more, and a number of the records would pass the greatest one
abbrev pub PassesNext : Draft → Trouble → Type 0
PassesNext d t =
    (next_target (planned d) ≡ None) × (passes (routed_of d.writes.home d.writes.changes (planned d).plan.pages) ≡ true) × (t ≡ trouble.Exhausted counter.Number)

-- the commit ends with that trouble then, with nothing committed, if not for want of memory
abbrev pub DemandsNext : Run × Cache → Answer → Turn CommitAnswer → Type 0
DemandsNext old a turn =
    (d : Draft) (c : Cache) (t : Trouble) → behind_walk old.0.hand old.0.draft old.1 a ≡ Some (d, c) → MeetsNext d c t ⊎ PassesNext d t
    → (turn ≡ Ended (NotCommitted t)) ⊎ (turn ≡ Stopped trouble.Memory)
