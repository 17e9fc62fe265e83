-- What a checkpoint knows of its tree survives the calls of others, and its own that touch neither root nor inner nodes.
use Rattle.std.proofs.Common.{◌≡◌, ◌+◌, ◌-◌, ◌<◌, ◌≤◌, inl, inr, ℕ, List, [], ◌∷◌, length, refl, sym, ap, subst, ◌∙◌, arith}
use Rattle.cloud_facts.specs.Chains.Chain.{IsUnlinked}
use Rattle.cloud_facts.specs.Chains.Links.{newest_node, top_of}
use Rattle.cloud_facts.proofs.Meanings.Steps.{at_stays, passed_stays}
use Rattle.cloud_facts.specs.Words.{Inner, Tree, Claim, Lasts, Link, Store, Node, Leafy, Branch, IsIn}
use Rattle.db_base.specs.declared.names.Lock.TheVariants as lock
use Rattle.leaf_view.specs.Lookup.{empty_leaf}
use Rattle.cloud_facts.specs.Book.Growth.{Grows}
use Rattle.cloud_facts.specs.Book.Telling.{last_or}
use Rattle.tree_phases.specs.declared.chart.Chart.{Chart}
use Rattle.tree_phases.specs.declared.kept.KeptNode.{KeptNode}
use Rattle.tree_phases.specs.declared.link.Link.{Link as Found}
use Rattle.tree_phases.specs.Read.{tree_held}
use Rattle.session_facts.specs.Machines.Trees.Charts.{IsRootOf, KnowsRoot, KnowsNode, KnowsNodes, AreFound, KnowsChart}
use Rattle.cloud_facts.specs.Calls.Links.{SameLinks}
use Rattle.cloud_facts.specs.Calls.Others.{Others}
use Rattle.split_plan.specs.Part.{Part}
use Rattle.session_facts.specs.Machines.Trees.Placings.{AreReserved, numbered}
use Rattle.session_facts.proofs.Machines.Trees.Placings.{reserved_stays}
use Rattle.session_facts.specs.Machines.Trees.Ways.{IsOnWay}
use Rattle.session_facts.proofs.Machines.Walks.Caches.{in_grown}

-- ---- by what grows, and by what the lease keeps

pub root_stays : (st su : Store) (now later : ℕ) (lease : Claim) (tree : ℕ) (root : Tree) → now ≤ later → Grows st su
    → (Lasts later lease → su.tally.roots tree ≡ st.tally.roots tree) → KnowsRoot st now lease tree root → KnowsRoot su later lease tree root
root_stays st su now later lease tree root after grows same k = record {
  landed = landed k.landed;
  spelled = k.spelled;
  newest = λ lasts. ap top_of (same lasts) ∙ k.newest (omega (arith, lasts, after));
  covered = λ client is. let old = k.covered client is in let rises = grows.cursor tree 0 client is in omega (arith, old, rises);
}
  where
    landed : IsRootOf (st.tally.roots tree) root → IsRootOf (su.tally.roots tree) root
    landed (inl none) = inl none
    landed (inr there) = inr (in_grown (st.tally.roots tree) (su.tally.roots tree) root (grows.roots tree) there)

-- an inner node that is the newest of its page stays so
abbrev pub KeepsNodes : Store → Store → ℕ → ℕ → Claim → Type 0
KeepsNodes st su later tree lease =
    Lasts later lease → (page : ℕ) (n : Inner) → newest_node (st.tally.nodes tree) page ≡ Branch n → su.tally.nodes tree page ≡ st.tally.nodes tree page

pub nodes_stay : (st su : Store) (now later : ℕ) (lease : Claim) (tree : ℕ) (nodes : List KeptNode) → now ≤ later → Grows st su → KeepsNodes st su later tree lease
    → KnowsNodes st now lease tree nodes → KnowsNodes su later lease tree nodes
nodes_stay st su now later lease tree nodes after grows same k kept there = on (k kept there)
  where
    on : KnowsNode st now lease tree kept → KnowsNode su later lease tree kept
    on a = record {
      inner = a.inner;
      spells = a.spells;
      linked = grows.links tree kept.level (record { low = kept.low; page = kept.page }) a.linked;
      landed = in_grown (st.tally.nodes tree kept.page) (su.tally.nodes tree kept.page) (Branch a.inner) (grows.nodes tree kept.page) a.landed;
      newest = λ lasts.
          let is = a.newest (omega (arith, lasts, after)) in
          ap (λ (ns : List Node). last_or (Leafy empty_leaf) ns) (same lasts kept.page a.inner is) ∙ is;
    }

pub links_stay : (st su : Store) (tree : ℕ) (links : List Found) → Grows st su → AreFound (st.book.chain tree) links → AreFound (su.book.chain tree) links
links_stay st su tree links grows found l there =
    let f = found l there in
    record { above = f.above; linked = grows.links tree (l.level - 1) (record { low = l.low; page = l.page }) f.linked }

pub chart_stays : (st su : Store) (now later : ℕ) (lease : Claim) (c : Chart) → now ≤ later → Grows st su
    → (Lasts later lease → su.tally.roots c.tree ≡ st.tally.roots c.tree) → KeepsNodes st su later c.tree lease → KnowsChart st now lease c → KnowsChart su later lease c
chart_stays st su now later lease c after grows roots nodes k = record {
  tree = k.tree;
  root = root_stays st su now later lease c.tree (tree_held c.root) after grows roots k.root;
  nodes = nodes_stay st su now later lease c.tree c.nodes after grows nodes k.nodes;
  links = links_stay st su c.tree c.links grows k.links;
}

pub way_stays : (chain more : ℕ → List Link) (level page : ℕ) (low key : List ℕ) (visited : List ℕ) → ((l : ℕ) (a : Link) → IsIn (chain l) a → IsIn (more l) a)
    → IsOnWay chain level page low key visited → IsOnWay more level page low key visited
way_stays chain more level page low key visited stay w = record {
  at = at_stays chain more stay level page low key w.at;
  behind = λ p there. passed_stays chain more stay level low p (w.behind p there);
}

-- ---- others

pub keeps_nodes : (mine : List Claim) (st su : Store) (later tree : ℕ) (lease : Claim) → IsIn mine lease → lease.lock ≡ lock.Tree tree → Others mine later st su
    → KeepsNodes st su later tree lease
keeps_nodes mine st su later tree lease held is o lasts page n newest = o.page lease tree page held is lasts (inr (n, newest))

pub chart_others : (mine : List Claim) (st su : Store) (now later : ℕ) (lease : Claim) (c : Chart) → now ≤ later → IsIn mine lease → lease.lock ≡ lock.Tree c.tree
    → Others mine later st su → KnowsChart st now lease c → KnowsChart su later lease c
chart_others mine st su now later lease c after held is o k =
    chart_stays st su now later lease c after o.passes.grows (o.roots lease c.tree held is) (keeps_nodes mine st su later c.tree lease held is o) k

-- ---- numbers that are reserved

-- pages that are absent are guarded by the tree's lease, and those that landed and are in no chain stay as they are
pub reserved_others : {A X : Type 0} (node : Part A X → Node) (mine : List Claim) (st su : Store) (later : ℕ) (lease : Claim) (tree first : ℕ) (middle behind : List (Part A X)) → IsIn mine lease
    → lease.lock ≡ lock.Tree tree → Lasts later lease → Others mine later st su
    → AreReserved node (st.book.chain tree) (st.tally.nodes tree) (st.tally.gone tree) (top_of (st.tally.roots tree)).next (numbered first middle behind)
    → AreReserved node (su.book.chain tree) (su.tally.nodes tree) (su.tally.gone tree) (top_of (su.tally.roots tree)).next (numbered first middle behind)
reserved_others {A} {X} node mine st su later lease tree first middle behind held is lasts o r =
    reserved_stays node (st.book.chain tree) (su.book.chain tree) (st.tally.nodes tree) (su.tally.nodes tree) (st.tally.gone tree) (su.tally.gone tree) (top_of (st.tally.roots tree)).next (top_of (su.tally.roots tree)).next
    first middle behind unlinked pages (o.gone lease tree held is lasts) rises r
  where
    links : SameLinks st su tree
    links = o.links lease tree held is lasts

    unlinked : (page : ℕ) → IsUnlinked (st.book.chain tree) page → IsUnlinked (su.book.chain tree) page
    unlinked page none level link linked = none level link (subst (λ (ls : List Link). IsIn ls link) (links level) linked)

    pages : (page : ℕ) → first ≤ page → page < first + (length middle + length behind) → su.tally.nodes tree page ≡ st.tally.nodes tree page
    pages page low high = on (st.tally.nodes tree page) refl
      where
        none : IsUnlinked (st.book.chain tree) page
        none = r.unlinked page low high

        on : (ns : List Node) → st.tally.nodes tree page ≡ ns → su.tally.nodes tree page ≡ st.tally.nodes tree page
        on [] e = o.page lease tree page held is lasts (inl (e, λ one. absurd (let above = r.above page low high in omega (arith, above, one))))
        on (n ∷ ns) e = o.passes.grows.unlinked tree page (λ empty. never (sym empty ∙ e)) (λ level link. unlinked page none level link)
          where
            never : [] ≡ n ∷ ns → ⊥
            never q = cc

    rises : (top_of (st.tally.roots tree)).next ≤ (top_of (su.tally.roots tree)).next
    rises = let same = ap (λ rs. (top_of rs).next) (o.roots lease tree held is lasts) in omega (arith, same)
