-- What was found and made below goes up, as a machine.
use Rattle.std.specs.Prelude.{ℕ, ◌≡◌, ◌+◌, ◌||◌, ◌&&◌, not, false, List, [], ◌++◌, drop, slice_get, Option, Some, None, is_some, Result, Ok, Err, unwrap_or, if◌then◌else◌}
use Rattle.db_base.specs.declared.names.ObjName.TheVariants as object
use Rattle.db_base.specs.declared.trouble.Trouble.{Trouble}
use Rattle.cloud_trait.specs.declared.answer.Answer.{Answer}
use Rattle.cloud_trait.specs.Ask.{Ask, GetHeld, PutHeld}
use Rattle.cloud_trait.specs.Claim.{Claim}
use Rattle.cloud_trait.specs.Machine.{Next, Goes, Ends, Stops}
use Rattle.cloud_trait.specs.Views.{done_of}
use Rattle.node_codec.specs.Tree.{Tree}
use Rattle.ckpt_parts.specs.declared.fault.Fault.{Fault}
use Rattle.tree_phases.specs.Going.{Finds}
use Rattle.tree_phases.specs.declared.chart.Chart.{Chart}
use Rattle.tree_phases.specs.declared.kept.KeptNode.{KeptNode}
use Rattle.tree_phases.specs.Kept.{links_at}
use Rattle.tree_phases.specs.Placing.{put_in_hand, landed_root, landed_placing, has_nothing}
use Rattle.tree_phases.specs.Read.{tree_held}
use Rattle.tree_phases.specs.Reserve.{version_spent}
use Rattle.tree_phases.specs.declared.page_plan.PagePlan.{PagePlan}
use Rattle.tree_phases.specs.declared.rising.Rising.{Rising}
use Rattle.tree_phases.specs.declared.root.RootPlan.{RootPlan}
use Rattle.tree_phases.specs.Nodes.{node_plan, touched_at}
use Rattle.tree_phases.specs.Root.{raised_root, root_plan}

abbrev pub RisingStep : Type 0
RisingStep = Next Rising (Unit {0})

-- behind the last leaf
abbrev pub begun : Chart → Rising
begun chart = record { chart = chart; at = 0; placing = record { reserved = None; puts = [] }; last = None; is_spent = false }

-- the put in hand, all under the tree's lease: what is to be put before the tree object, and then that
abbrev pub last_ask : Rising → Claim → Option (List ℕ) → Ask
last_ask r l (Some bytes) = PutHeld (object.Tree r.chart.tree) bytes l None
last_ask r l None = GetHeld (object.Tree r.chart.tree) l

abbrev pub rising_ask : Rising → Claim → Ask
rising_ask r l = unwrap_or (put_in_hand r.placing r.chart.tree l None) (last_ask r l r.last)

-- ---- level by level

-- the place of the next node that a link goes to
abbrev pub next_touched : Rising → ℕ
next_touched r = r.at + touched_at r.chart.tree r.chart.links (drop r.at r.chart.nodes)

-- what was planned for a node is put next, and its new pieces are noted for the level above
abbrev pub put_node : Rising → ℕ → ℕ → Result PagePlan Trouble → RisingStep
put_node r next level (Ok p) = Goes (record r {
  chart = record r.chart { links = r.chart.links ++ links_at level p.entries };
  at = next;
  placing = p.placing;
})
put_node r next level (Err t) = Stops r t

-- ---- the tree object

abbrev pub plan_of : Tree → Result Tree Trouble → Result RootPlan Trouble
plan_of root (Ok t) = root_plan root t
plan_of root (Err f) = Err f

abbrev pub last_plan : Rising → Result RootPlan Trouble
last_plan r = plan_of (tree_held r.chart.root) (raised_root (tree_held r.chart.root) r.chart.links r.chart.run.top)

abbrev pub put_root : Rising → Result RootPlan Trouble → RisingStep
put_root r (Ok p) = Goes (record r { placing = p.placing; last = Some p.last; is_spent = p.is_spent })
put_root r (Err t) = Stops r t

abbrev pub finish : Rising → RisingStep
finish r = put_root r (last_plan r)

-- the next node that a link goes to
abbrev pub touched_node : Rising → Option KeptNode
touched_node r = slice_get r.chart.nodes (next_touched r)

-- the code found what is put for a node, with the place behind it and the level above it, or that there is no node
abbrev pub FindsPlan : Rising → Option (ℕ × ℕ × Result PagePlan Fault) → Option KeptNode → Type 0
FindsPlan r (Some x) (Some k) =
    (x.0 ≡ next_touched r + 1) × (x.1 ≡ k.level + 1) × Finds x.2 (node_plan (tree_held r.chart.root) r.chart.tree k r.chart.links)
FindsPlan r None None = Unit {0}
FindsPlan r (Some x) None = ⊥
FindsPlan r None (Some k) = ⊥

-- the next node that a link goes to is put, and the tree object where there is none
abbrev pub rise_at : Rising → ℕ → Option KeptNode → RisingStep
rise_at r at (Some k) = put_node r (at + 1) (k.level + 1) (node_plan (tree_held r.chart.root) r.chart.tree k r.chart.links)
rise_at r at None = finish r

abbrev pub rise : Rising → RisingStep
rise r = rise_at r (next_touched r) (touched_node r)

-- ---- the puts

abbrev pub landed : Rising → Rising
landed r = record r { chart = record r.chart { root = landed_root r.placing r.chart.root }; placing = landed_placing r.placing }

-- where no version is left for the tree object, it stops behind the last piece
abbrev pub put_next : Rising → RisingStep
put_next r = if has_nothing r.placing && r.is_spent then Stops r version_spent else Goes r

-- once all is put that was planned for a node, the way up goes on
abbrev pub after_put : Rising → RisingStep
after_put r = if not (has_nothing r.placing) || is_some r.last then put_next r else rise r

abbrev pub put_landed : Rising → RisingStep
put_landed r = if has_nothing r.placing then Ends r tt else after_put (landed r)

abbrev pub risen_by : {A : Type 0} → Rising → Result A Trouble → RisingStep
risen_by r (Ok _) = put_landed r
risen_by r (Err t) = Stops r t

-- ---- the machine

abbrev pub rising_next : Rising → Answer → RisingStep
rising_next r a = risen_by r (done_of a)
