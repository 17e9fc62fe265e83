-- What a walk is served: the leaf at which it ends, what it gets at all, and what a calm call brings.
use Rattle.std.specs.Prelude.{ℕ, ◌≡◌, ◌≢◌, ◌⊎◌, true, List, Option, Some, None}
use Rattle.db_base.specs.declared.names.ObjName.TheVariants as object
use Rattle.db_base.specs.declared.trouble.Trouble.TheVariants as trouble
use Rattle.cloud_trait.specs.declared.answer.Answer.{Answer}
use Rattle.cloud_trait.specs.declared.answer.Answer.TheVariants as answer
use Rattle.cloud_trait.specs.declared.turn.Turn.{Turn}
use Rattle.cloud_trait.specs.declared.turn.Turn.TheVariants.{Ended, Stopped}
use Rattle.cloud_trait.specs.Caller.{Caller}
use Rattle.cloud_trait.specs.Machine.{Deed}
use Rattle.cloud_trait.specs.Seen.{Seen}
use Rattle.cloud_trait.specs.State.{CloudState, newest, version_at}
use Rattle.cloud_trait.specs.Calm.{IsCalm}
use Rattle.page_cache.specs.Cache.{Cache, kept_at}
use Rattle.page_cache.specs.Held.{inner_at, root_at}
use Rattle.tree_walk.specs.Walk.{Spot, Walk, object_of, is_leaf, is_got, asks}
use Rattle.tree_walk.specs.Causes.{IsOld}

-- ---- the leaf

-- the leaf of a page is what the call in hand got and the cache keeps now: a version that landed, and the newest where no count of stale
-- gets rose
pub record IsServed (before after : Seen) (old new : Walk × Cache) (a : Answer) (page : ℕ) : Type 0 where
  pub got : Option (List ℕ)
  pub answered : a ≡ answer.Got got
  pub in_hand : object_of old.0 ≡ object.Page new.0.tree page
  pub kept : kept_at new.1 (object.Page new.0.tree page) ≡ Some got
  pub landed : (s : CloudState) → before.state ≡ Some s → (k : ℕ) × (got ≡ version_at (s.versions (object_of old.0)) k)
  pub newest : (s : CloudState) → before.state ≡ Some s → after.counts.stale ≡ before.counts.stale → got ≡ newest s (object_of old.0)

-- a walk ends at a leaf that it was served so
abbrev pub Serves : Seen → Seen → Walk × Cache → Walk × Cache → Answer → Turn ℕ → Type 0
Serves before after old new a turn = (page : ℕ) → turn ≡ Ended page → IsServed before after old new a page

-- ---- what is got at all

-- the cache keeps no such tree object or inner node
abbrev pub IsMissing : Cache → ℕ → Option Spot → Type 0
IsMissing c tree None = root_at c (object.Tree tree) ≡ None
IsMissing c tree (Some s) = inner_at c (object.Page tree s.page) ≡ None

-- the object in hand is a leaf, or the tree object of a fresh walk, or the cache does not keep it
abbrev pub MustGet : Walk → Cache → Type 0
MustGet w c = (is_got w ≡ true) ⊎ IsMissing c w.tree w.spot

-- ---- a calm call

-- the call of a step
abbrev pub deed_of : Caller → Walk × Cache → Answer → Seen → Seen → Deed
deed_of who old answer before after = record { who = who; ask = asks old; answer = answer; before = before; after = after }

-- where the call is calm, the step does not stop as failed, and a page that it calls stale is so in its newest version
pub record GoesCalmly (who : Caller) (before after : Seen) (old : Walk × Cache) (a : Answer) (turn : Turn ℕ) : Type 0 where
  pub well : IsCalm (deed_of who old a before after) → turn ≢ Stopped trouble.Failed
  pub stale : IsCalm (deed_of who old a before after) → (page least found : ℕ) → turn ≡ Stopped (trouble.Stale page least found) → (s : CloudState)
      → before.state ≡ Some s → IsOld old.1 (object_of old.0) (is_leaf old.0) (newest s (object_of old.0)) (trouble.Stale page least found)
