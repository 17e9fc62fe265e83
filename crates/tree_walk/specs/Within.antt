-- How many calls a walk makes: one more at most than the pages that it comes to, each of them once.
use Rattle.std.specs.Prelude.{ℕ, ◌≡◌, ◌≢◌, ◌+◌, ◌≤◌, ◌==◌, ◌||◌, Bool, true, false, List, Option, Some}
use Rattle.std.specs.List.{IsDistinct}
use Rattle.db_base.specs.declared.trouble.Trouble.TheVariants as trouble
use Rattle.cloud_trait.specs.declared.turn.Turn.{Turn}
use Rattle.cloud_trait.specs.declared.turn.Turn.TheVariants.{Stopped}
use Rattle.cloud_trait.specs.Machine.{Goes, Deed, Came, LeadsBy}
use Rattle.page_cache.specs.Cache.{Cache}
use Rattle.tree_walk.specs.Walk.{Spot, Walk, new_walk, walk_ready, walk_next, asks, is_among, came_to, pages}

-- a walk that made no call: it is new, and went through what the cache keeps
abbrev pub IsBegun : Walk × Cache → Type 0
IsBegun start = (tree : ℕ) × (key : Option (List ℕ)) × (fresh : Bool) × (c : Cache) × (walk_ready (new_walk tree key fresh, c) ≡ Goes start)

-- the walk came so far by these calls, the newest first
abbrev pub Went : List Deed → Walk × Cache → Type 0
Went h m = (start : Walk × Cache) × IsBegun start × Came {A = ℕ} asks (LeadsBy walk_next) start h m

-- each page is listed once
abbrev pub AreOnce : List ℕ → Type 0
AreOnce ps = IsDistinct (λ p q. p == q) ps

-- no page was passed twice
pub record IsPassedOnce (w : Walk) : Type 0 where
  pub nodes : AreOnce w.nodes
  pub leaves : AreOnce w.leaves
  pub apart : (page : ℕ) → is_among w.nodes page ≡ true → is_among w.leaves page ≡ false

-- .. and the page in hand was not passed: the walk came to each of its pages once
pub record IsOnce (w : Walk) : Type 0 where
  pub passed : IsPassedOnce w
  pub in_hand : (s : Spot) → w.spot ≡ Some s → (is_among w.nodes s.page || is_among w.leaves s.page) ≡ false

-- these calls are one more at most than the pages that the walk had come to, each once; and it has come to them still
pub record WalksWithin (calls : ℕ) (old new : Walk) (turn : Turn ℕ) : Type 0 where
  pub once : IsOnce old
  pub bound : calls ≤ 1 + pages old
  pub still : turn ≢ Stopped trouble.Memory → (page : ℕ) → came_to old page ≡ true → came_to new page ≡ true
