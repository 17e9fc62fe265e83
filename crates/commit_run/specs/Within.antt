-- How many calls a commit makes at most: those of a walk for each change and of one more, and then what it writes.
use Rattle.std.specs.Prelude.{◌≡◌, ◌≤◌, ℕ, ◌+◌, ◌*◌, Bool, List, [], ◌∷◌, ◌++◌, length, Some}
use Rattle.std.specs.List.{AllByRecursion}
use Rattle.txn_buffer.specs.Noted.{Noted}
use Rattle.cloud_trait.specs.Ask.{Ask, Get}
use Rattle.cloud_trait.specs.Machine.{Goes, LeadsBy, Came, Deed}
use Rattle.recover_run.specs.declared.home.Home.{Home}
use Rattle.page_cache.specs.Cache.{Cache}
use Rattle.tree_walk.specs.Walk.{Walk, new_walk, walk_ready, walk_next}
use Rattle.tree_walk.specs.Walk.{asks as walk_asks}
use Rattle.commit_run.specs.Run.{Run, new_run, asks, run_ready, run_next}

-- the commit of changes by a home beside a cache came here by these calls, the newest first
abbrev pub Went : Home → List Noted → Cache → List Deed → Run × Cache → Type 0
Went home changes c h m = (start : Run × Cache) × (run_ready (new_run home changes, c) ≡ Goes start) × Came asks (LeadsBy run_next) start h m

-- a walk that began by itself came on by the calls before, the newest first, and the call is the one that it had in hand then
pub record IsCalledBy (call : Deed) (before : List Deed) : Type 0 where
  pub tree : ℕ
  pub key : List ℕ
  pub fresh : Bool
  pub cache : Cache
  pub start : Walk × Cache
  pub begins : walk_ready (new_walk tree (Some key) fresh, cache) ≡ Goes start
  pub walk : Walk × Cache
  pub came : Came walk_asks (LeadsBy walk_next) start before walk
  pub asked : call.ask ≡ walk_asks walk

-- one call or more, the newest first, are those of one walk
abbrev pub AreOfWalk : List Deed → Type 0
AreOfWalk [] = ⊥
AreOfWalk (call ∷ before) = IsCalledBy call before

-- the calls of one walk behind those of another
abbrev pub joined : List (List Deed) → List Deed
joined [] = []
joined (walk ∷ walks) = walk ++ joined walks

-- the call gets nothing
abbrev pub GetsNothing : Ask → Type 0
GetsNothing (Get name) = ⊥
GetsNothing ask = Unit {0}

abbrev pub IsNoGet : Deed → Type 0
IsNoGet d = GetsNothing d.ask

-- the calls of a commit of so many changes, the newest first: those of at most one walk for each change and of one more, and behind them
-- at most three for each change and two, which get nothing
pub record RunsWithin (changes : ℕ) (h : List Deed) : Type 0 where
  pub walks : List (List Deed)
  pub writes : List Deed
  pub are : h ≡ writes ++ joined walks
  pub each : AllByRecursion AreOfWalk walks
  pub written : AllByRecursion IsNoGet writes
  pub few_walks : length walks ≤ changes + 1
  pub few_writes : length writes ≤ 3 * changes + 2

-- so are the calls so far with the one in hand
abbrev pub Within : Run × Cache → Type 0
Within m =
    (home : Home) (changes : List Noted) (c : Cache) (h : List Deed) → 1 ≤ length changes → Went home changes c h m → (call : Deed) → call.ask ≡ asks m
    → RunsWithin (length changes) (call ∷ h)
