-- A commit before its first write: what it will write, and the leaves of its changes as far as they are known.
use Rattle.std.specs.Prelude.{ℕ, ◌≤◌, length, Option, Some, None}
use Rattle.db_base.specs.declared.names.ObjName.{ObjName}
use Rattle.db_base.specs.declared.names.ObjName.TheVariants as object
use Rattle.leaf_view.specs.Leaf.{Leaf}
use Rattle.node_codec.specs.Tree.{Tree}
use Rattle.page_cache.specs.Cache.{Cache}
use Rattle.page_cache.specs.Held.{leaf_at, root_at}
use Rattle.tree_walk.specs.Walk.{Walk, object_of}
use Rattle.route_plan.specs.Prune.{pruned_by_leaf, pruned_by_tree}
use Rattle.commit_run.specs.Plan.{Plan, empty_plan, advanced, with_leaf, with_page}
use Rattle.commit_writes.specs.Writing.{Writing, pruned}

pub record Draft : Type 0 where
  pub writes : Writing
  pub plan : Plan

abbrev pub new_draft : Writing → Draft
new_draft w = record { writes = w; plan = empty_plan }

-- no more leaves are known than there are changes
abbrev pub KnowsNoMore : Draft → Type 0
KnowsNoMore d = length d.plan.pages ≤ length d.writes.changes

-- ---- pruning

abbrev pub pruned_by_root : Writing → ℕ → Option Tree → Writing
pruned_by_root w tree (Some root) = pruned w (pruned_by_tree w.home.head w.home.client tree root)
pruned_by_root w tree None = w

abbrev pub pruned_by_kept : Writing → ℕ → Option Leaf → Writing
pruned_by_kept w tree (Some leaf) = pruned w (pruned_by_leaf w.home.head w.home.client tree leaf)
pruned_by_kept w tree None = w

-- without the pending entries that a tree object or leaf shows to be applied, as the cache keeps it
abbrev pub pruned_with : Writing → Cache → Option ObjName → Writing
pruned_with w c None = w
pruned_with w c (Some (object.Head client)) = w
pruned_with w c (Some (object.Tree tree)) = pruned_by_root w tree (root_at c (object.Tree tree))
pruned_with w c (Some (object.Page tree page)) = pruned_by_kept w tree (leaf_at c (object.Page tree page))

-- the tree object or leaf that the newest turn of a walk used prunes the head
abbrev pub pruned_behind : Draft → Walk → Cache → Draft
pruned_behind d w c = record d { writes = pruned_with d.writes c w.used }

-- ---- planning

-- the pages of the next changes are known, up to the first that needs a walk
abbrev pub planned : Draft → Draft
planned d = record d { plan = advanced d.plan d.writes.home.head.pending d.writes.changes }

abbrev pub with_kept : Plan → ℕ → ℕ → Option Leaf → Plan
with_kept p tree page (Some leaf) = with_leaf p tree page leaf
with_kept p tree page None = p

-- a walk ended at a leaf, which the cache keeps
abbrev pub leaf_noted : Draft → Walk → Cache → ℕ → Draft
leaf_noted d w c page = record d { plan = with_kept d.plan w.tree page (leaf_at c (object_of w)) }

-- the change of the walk has this page
abbrev pub paged : Draft → ℕ → Draft
paged d page = record d { plan = with_page d.plan page }
