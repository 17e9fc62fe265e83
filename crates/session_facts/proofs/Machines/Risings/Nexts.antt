-- The way up leads from node to node, and behind the last one to the root.
use Rattle.std.proofs.Common.{◌≡◌, ◌+◌, ℕ, List, None, Result, refl, subst}
use Rattle.cloud_facts.specs.Words.{Trouble, Entry, CloudState, Claim, Book, store_of, StandsUnder}
use Rattle.tree_phases.specs.declared.chart.Chart.{Chart}
use Rattle.tree_phases.specs.declared.page_plan.PagePlan.{PagePlan}
use Rattle.tree_phases.specs.declared.rising.Rising.{Rising}
use Rattle.tree_phases.specs.declared.root.RootPlan.{RootPlan}
use Rattle.tree_phases.specs.Rising.{RisingStep, begun, next_touched, put_node, put_root, rise}
use Rattle.tree_ckpt.proofs.RiseOutcomes.{Rises, rises}
use Rattle.tree_ckpt.proofs.RiseOutcomes as step
use Rattle.session_facts.specs.Machines.Trees.Charts.{KnowsChart}
use Rattle.session_facts.specs.Machines.Risings.Knows.{AreApart, AppliesRun, KnowsUpward, RisesOn}
use Rattle.session_facts.proofs.Machines.Risings.Nodes.{node_leads}
use Rattle.session_facts.proofs.Machines.Risings.Roots.{root_leads}

pub rise_leads : (book : Book) (order : List Entry) (s : CloudState) → StandsUnder book order s → (now : ℕ) (lease : Claim) (r : Rising) (ids : List ℕ)
    → KnowsUpward (store_of book order s) now lease r.chart r.at ids → r.last ≡ None → RisesOn (store_of book order s) now lease ids (rise r)
rise_leads book order s stands now lease r ids k no_last = on (rises r)
  where
    on : {next : RisingStep} → Rises r next → RisesOn (store_of book order s) now lease ids next
    on (step.node_due kept p at e) =
        subst (λ (x : Result PagePlan Trouble). RisesOn (store_of book order s) now lease ids (put_node r (next_touched r + 1) (kept.level + 1) x)) e
        (node_leads book order s stands now lease r ids k no_last kept at)
    on (step.root_due p none e) =
        subst (λ (x : Result RootPlan Trouble). RisesOn (store_of book order s) now lease ids (put_root r x)) e (root_leads book order s stands now lease r ids k)
    on c = tt

-- behind the last leaf
pub rises_from : (book : Book) (order : List Entry) (s : CloudState) → StandsUnder book order s → (now : ℕ) (lease : Claim) (c : Chart) (ids : List ℕ)
    → KnowsChart (store_of book order s) now lease c → AreApart c.nodes → AppliesRun (store_of book order s) c ids → RisesOn (store_of book order s) now lease ids (rise (begun c))
rises_from book order s stands now lease c ids k apart run =
    rise_leads book order s stands now lease (begun c) ids
    (record { tree = k.tree; root = k.root; run = run; nodes = k.nodes; apart = apart; links = k.links }) refl
