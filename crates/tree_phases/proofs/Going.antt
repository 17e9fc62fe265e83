-- Where the way up goes on.
use Rattle.std.proofs.Common.{◌≡◌, ◌+◌, ℕ, List, Option, Some, None, Result, ap, subst, ◌∙◌}
use Rattle.std.specs.Prelude.{slice_get}
use Rattle.db_base.specs.declared.trouble.Trouble.{Trouble}
use Rattle.node_codec.specs.Tree.{Tree}
use Rattle.ckpt_parts.specs.declared.fault.Fault.{Fault}
use Rattle.tree_phases.specs.declared.kept.KeptNode.{KeptNode}
use Rattle.tree_phases.specs.declared.link.Link.{Link}
use Rattle.tree_phases.specs.declared.pace.Pace.{Pace}
use Rattle.tree_phases.specs.Going.{Finds, Went}
use Rattle.tree_phases.specs.Read.{tree_held}
use Rattle.tree_phases.specs.declared.page_plan.PagePlan.{PagePlan}
use Rattle.tree_phases.specs.declared.rising.Rising.{Rising}
use Rattle.tree_phases.specs.Nodes.{node_plan}
use Rattle.tree_phases.specs.Rising.{next_touched, touched_node, FindsPlan, put_node, finish, rise_at, rise}

-- what was planned from the parts of the chart
pub found_some : (r : Rising) (at next level : ℕ) (root : Tree) (ls : List Link) (k : KeptNode) (plan : Result PagePlan Fault)
    → at ≡ next_touched r → Some k ≡ slice_get r.chart.nodes at → next ≡ at + 1 → level ≡ k.level + 1 → root ≡ tree_held r.chart.root → ls ≡ r.chart.links
    → Finds plan (node_plan root r.chart.tree k ls) → FindsPlan r (Some (next, level, plan)) (touched_node r)
found_some r at next level root ls k plan e get n l t same h =
    let node : Some k ≡ touched_node r = get ∙ ap (slice_get r.chart.nodes) e in
    let held : Finds plan (node_plan (tree_held r.chart.root) r.chart.tree k ls) = subst (λ (x : Tree). Finds plan (node_plan x r.chart.tree k ls)) t h in
    let linked : Finds plan (node_plan (tree_held r.chart.root) r.chart.tree k r.chart.links) =
    subst (λ (x : List Link). Finds plan (node_plan (tree_held r.chart.root) r.chart.tree k x)) same held in
    subst (λ (o : Option KeptNode). FindsPlan r (Some (next, level, plan)) o) node (n ∙ ap (λ (i : ℕ). i + 1) e, l, linked)

pub found_none : (r : Rising) (at : ℕ) → at ≡ next_touched r → None ≡ slice_get r.chart.nodes at → FindsPlan r None (touched_node r)
found_none r at e get = subst (FindsPlan r None) (get ∙ ap (slice_get r.chart.nodes) e) tt

-- at a node that a link goes to
rise_some_at : (r new : Rising) (p : Pace (Unit {0})) (next level : ℕ) (plan : Result PagePlan Fault) (o : Option KeptNode)
    → FindsPlan r (Some (next, level, plan)) o → ((wanted : Result PagePlan Trouble) → Finds plan wanted → Went (put_node r next level wanted) new p)
    → Went (rise_at r (next_touched r) o) new p
rise_some_at r new p next level plan None f h = absurd f
rise_some_at r new p next level plan (Some k) f h =
    let wanted : Result PagePlan Trouble = node_plan (tree_held r.chart.root) r.chart.tree k r.chart.links in
    let behind : Went (put_node r (next_touched r + 1) level wanted) new p = subst (λ (i : ℕ). Went (put_node r i level wanted) new p) f.0 (h wanted f.2) in
    subst (λ (i : ℕ). Went (put_node r (next_touched r + 1) i wanted) new p) f.1 behind

pub rise_some : (r new : Rising) (p : Pace (Unit {0})) (next level : ℕ) (plan : Result PagePlan Fault)
    → FindsPlan r (Some (next, level, plan)) (touched_node r) → ((wanted : Result PagePlan Trouble) → Finds plan wanted → Went (put_node r next level wanted) new p)
    → Went (rise r) new p
rise_some r new p next level plan f h = rise_some_at r new p next level plan (touched_node r) f h

-- behind the last one
rise_none_at : (r new : Rising) (p : Pace (Unit {0})) (o : Option KeptNode) → FindsPlan r None o → Went (finish r) new p → Went (rise_at r (next_touched r) o) new p
rise_none_at r new p None f h = h
rise_none_at r new p (Some k) f h = absurd f

pub rise_none : (r new : Rising) (p : Pace (Unit {0})) → FindsPlan r None (touched_node r) → Went (finish r) new p → Went (rise r) new p
rise_none r new p f h = rise_none_at r new p (touched_node r) f h
