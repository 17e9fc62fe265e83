-- The way up stops for no damage: its nodes are those that were got, and read as they were.
use Rattle.std.proofs.Common.{◌≡◌, ◌+◌, ◌-◌, ◌==◌, ◌&&◌, ℕ, Bool, true, false, cond, List, length, drop, Option, None, Result, Ok, Err, refl, subst}
use Rattle.std.specs.Prelude.{nat_lt}
use Rattle.cloud_facts.specs.Words.{Trouble, Inner, Tree, Answer, Claim, Next, done_of, Store}
use Rattle.split_plan.specs.Sizes.{count_of}
use Rattle.session_facts.specs.Machines.TreeCheckpoints.Knows.{MayStopTree}
use Rattle.session_facts.proofs.Machines.TreeCheckpoints.Stops.{StopsWell, IsFair, spent_may, tree_refusals, next_fair, reservation_fair}
use Rattle.session_facts.proofs.Machines.Refusals.{done_may}
use Rattle.session_facts.specs.Machines.Trees.Charts.{KnowsNode, KnowsNodes}
use Rattle.session_facts.specs.Machines.Risings.Knows.{PutsOf, KnowsRising}
use Rattle.session_facts.proofs.Machines.Risings.Grounds.{get_dropped}
use Rattle.tree_phases.proofs.Reading.{inner_is}
use Rattle.tree_phases.specs.declared.kept.KeptNode.{KeptNode}
use Rattle.tree_phases.specs.declared.link.Link.{Link as Found}
use Rattle.tree_phases.specs.declared.reserve.Reserved.{Reserved}
use Rattle.tree_phases.specs.Read.{tree_held}
use Rattle.tree_phases.specs.Reserve.{version_spent, pages_spent, next_tree, reservation}
use Rattle.tree_phases.specs.declared.page_plan.PagePlan.{PagePlan}
use Rattle.tree_phases.specs.declared.rising.Rising.{Rising}
use Rattle.tree_phases.specs.declared.root.RootPlan.{RootPlan}
use Rattle.tree_phases.specs.Nodes.{touched_at, with_links, planned_by, planned_of, linked_by, node_plan}
use Rattle.tree_phases.specs.Rising.{plan_of, last_plan, landed}
use Rattle.tree_phases.specs.Rising as up
use Rattle.tree_ckpt.proofs.RiseOutcomes.{Rises, Lands, rises, lands}
use Rattle.tree_ckpt.proofs.RiseOutcomes as step
use Rattle.tree_phases.specs.Root.{risen_by as root_risen, lowered, cut_at, cut_by, cut_behind, root_cut, uncut, root_plan}

-- ---- the plan of a node

by_fair : (page : ℕ) (n : Inner) (r : Result Reserved Trouble) → IsFair r → IsFair (planned_by page n r)
by_fair page n (Ok r) may = tt
by_fair page n (Err t) may = may

pub linked_fair : (root : Tree) (page : ℕ) (n : Inner) (links : List Found) → IsFair (planned_of root page (linked_by links (Ok n)))
linked_fair root page n links = on (n.version == 18446744073709551615)
  where
    on : (b : Bool)
        → (let risen : Inner = record n { version = n.version + 1; entries = with_links n links n.entries } in IsFair (planned_of root page (cond b (Err version_spent) (Ok risen))))
    on true = tt
    on false =
        let risen : Inner = record n { version = n.version + 1; entries = with_links n links n.entries } in
        by_fair page risen (reservation root page (count_of (length risen.entries) - 1)) (reservation_fair root page (count_of (length risen.entries) - 1))

node_fair : (st : Store) (now : ℕ) (lease : Claim) (tree : ℕ) (root : Tree) (kept : KeptNode) (links : List Found) → KnowsNode st now lease tree kept → IsFair (node_plan root tree kept links)
node_fair st now lease tree root kept links k =
    subst (λ (x : Result Inner Trouble). IsFair (planned_of root kept.page (linked_by links x))) (inner_is tree kept.page kept.bytes k.inner k.spells)
    (linked_fair root kept.page k.inner links)

-- ---- that of the tree object

at_fair : (put : Option (List ℕ)) (count : ℕ) (spent : Bool) (t : Tree) → IsFair (cut_at put count spent t)
at_fair put count spent t = on (nat_lt 18446744073709551615 (t.next + count))
  where
    on : (b : Bool) → (let kept : Result RootPlan Trouble = Ok (lowered put spent (record t { next = t.next + count }) t.next) in IsFair (cond b (Err pages_spent) kept))
    on true = tt
    on false = tt

cut_fair : (put : Option (List ℕ)) (count : ℕ) (t : Tree) (next : Result Tree Trouble) → IsFair (cut_by put count t next)
cut_fair put count t (Err f) = at_fair put count true t
cut_fair put count t (Ok next) = at_fair put count false next

behind_fair : (t : Tree) (r : Result Reserved Trouble) → IsFair r → IsFair (cut_behind t r)
behind_fair t (Ok r) may = cut_fair r.put (count_of (length t.entries)) t (next_tree t)
behind_fair t (Err f) may = may

root_fair : (root t : Tree) → IsFair (root_plan root t)
root_fair root t = on (nat_lt 64 (length t.entries) && nat_lt root.level 255)
  where
    on : (b : Bool) → IsFair (cond b (root_cut root t) (Ok (uncut t)))
    on true = behind_fair t (reservation root 1 (count_of (length t.entries))) (reservation_fair root 1 (count_of (length t.entries)))
    on false = tt

pub last_fair : (r : Rising) → IsFair (last_plan r)
last_fair r = on (next_tree (tree_held r.chart.root)) (next_fair (tree_held r.chart.root))
  where
    on : (t : Result Tree Trouble) → IsFair t → IsFair (plan_of (tree_held r.chart.root) (root_risen (tree_held r.chart.root).level r.chart.links r.chart.run.top t))
    on (Ok t) may = root_fair (tree_held r.chart.root) _
    on (Err f) may = may

-- ---- level by level

-- the nodes from here on were got
rises_may : (st : Store) (now : ℕ) (lease : Claim) (r : Rising) {next : Next Rising (Unit {0})} → KnowsNodes st now lease r.chart.tree (drop r.at r.chart.nodes) → Rises r next
    → StopsWell next
rises_may st now lease r nodes (step.node_due kept p at e) = tt
rises_may st now lease r nodes (step.no_node kept t at e) =
    let place : ℕ = touched_at r.chart.tree r.chart.links (drop r.at r.chart.nodes) in
    spent_may t
    (subst (λ (p : Result PagePlan Trouble). IsFair p) e
    (node_fair st now lease r.chart.tree (tree_held r.chart.root) kept r.chart.links (nodes kept (place, get_dropped r.at place r.chart.nodes kept at))))
rises_may st now lease r nodes (step.root_due p none e) = tt
rises_may st now lease r nodes (step.no_root t none e) = spent_may t (subst (λ (p : Result RootPlan Trouble). IsFair p) e (last_fair r))

pub rise_may : (st : Store) (now : ℕ) (lease : Claim) (r : Rising) → KnowsNodes st now lease r.chart.tree (drop r.at r.chart.nodes) → StopsWell (up.rise r)
rise_may st now lease r nodes = rises_may st now lease r nodes (rises r)

-- ---- the puts

lands_may : (st : Store) (now : ℕ) (lease : Claim) (r : Rising) (ids : List ℕ) {g : Result (Unit {0}) Trouble} {next : Next Rising (Unit {0})} → KnowsRising st now lease r ids
    → ((t : Trouble) → g ≡ Err t → MayStopTree t) → Lands r g next → StopsWell next
lands_may st now lease r ids k refused (step.not_put t) = refused t refl
lands_may st now lease r ids k refused (step.goes_on x some nothing none next) =
    let puts : PutsOf st now lease r None = subst (PutsOf st now lease r) none k.puts in rises_may st now lease (landed r) puts.nodes next
lands_may st now lease r ids k refused c = tt

pub rising_may : (st : Store) (now : ℕ) (lease : Claim) (r : Rising) (ids : List ℕ) → KnowsRising st now lease r ids → (reply : Answer) → StopsWell (up.rising_next r reply)
rising_may st now lease r ids k reply = lands_may st now lease r ids k (done_may tree_refusals reply) (lands r (done_of reply))
