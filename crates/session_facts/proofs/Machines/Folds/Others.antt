-- What a checkpoint knows at a leaf survives the calls of others.
use Rattle.std.proofs.Common.{◌≡◌, ◌≤◌, ◌⊎◌, inl, inr, ℕ, true, List, length, length-append, Option, Some, None, sym, ap, ◌∙◌, arith}
use Rattle.cloud_facts.specs.Chains.Cuts.{leaf_node}
use Rattle.cloud_facts.specs.Words.{IsClient, PuItem, Claim, Lasts, Store, Node, Leafy, IsIn}
use Rattle.db_base.specs.Change.{key_of}
use Rattle.db_base.specs.declared.names.Lock.TheVariants as lock
use Rattle.tree_phases.specs.declared.folding.Folding.{Folding}
use Rattle.leaf_view.specs.Lookup.{empty_leaf, holds}
use Rattle.session_facts.proofs.Machines.Runs.Marks.{run_stays}
use Rattle.cloud_facts.specs.Book.Growth.{Grows}
use Rattle.cloud_facts.specs.Book.Telling.{last_or}
use Rattle.cloud_facts.specs.Tellings.Taking.{IsLinked}
use Rattle.tree_phases.specs.declared.descent.Descent.{Descent}
use Rattle.tree_phases.specs.declared.chart.Chart.{Chart}
use Rattle.tree_ckpt.specs.declared.work.Coming.{Coming}
use Rattle.tree_phases.specs.Read.{tree_held}
use Rattle.session_facts.specs.Machines.Folds.Knows.{IsDone, KnowsRun, IsAtLeaf, IsNewestLeaf, Reserves, PutsPieces}
use Rattle.session_facts.specs.Machines.Trees.Leaves.{KnowsRest, IsGetting, IsCome, IsReading, IsPutting}
use Rattle.session_facts.specs.Machines.Trees.Placings.{numbered}
use Rattle.cloud_facts.specs.Calls.Others.{Others}
use Rattle.session_facts.proofs.Machines.Trees.Others.{root_stays, nodes_stay, links_stay, keeps_nodes, chart_others, way_stays, reserved_others}

-- ---- the run

pub done_stays : (st su : Store) (tree : ℕ) (x : PuItem) → Grows st su → IsClient x.rec.client → IsDone st tree x → IsDone su tree x
done_stays st su tree x grows is k = let rises = grows.done tree (key_of x.rec.change) 0 x.rec.client is in omega (arith, k, rises)

pub known_run_stays : (st su : Store) (c : Chart) (ids : List ℕ) → Grows st su → KnowsRun st c ids → KnowsRun su c ids
known_run_stays st su c ids grows k = record {
  took = run_stays st su c.tree 0 (tree_held c.root).cursor c.run ids grows k.took;
  done = λ x is below. done_stays st su c.tree x grows (k.took.clients x is) (k.done x is below);
}

-- ---- before the leaf is read

pub at_leaf_others : (mine : List Claim) (st su : Store) (now later : ℕ) (lease : Claim) (f : Folding) → now ≤ later → IsIn mine lease → lease.lock ≡ lock.Tree f.chart.tree
    → Others mine later st su → IsAtLeaf st now lease f → IsAtLeaf su later lease f
at_leaf_others mine st su now later lease f after held is o k = record {
  chart = chart_others mine st su now later lease f.chart after held is o k.chart;
  way = way_stays (st.book.chain f.chart.tree) (su.book.chain f.chart.tree) 0 f.page f.low f.chart.key f.visited (λ l a. o.passes.grows.links f.chart.tree l a) k.way;
  lock_is = k.lock_is;
}

-- ---- the puts of a leaf

pub pieces_others : (mine : List Claim) (st su : Store) (now later : ℕ) (lease : Claim) (f : Folding) (run : List PuItem) → now ≤ later → IsIn mine lease
    → lease.lock ≡ lock.Tree f.chart.tree → IsIn mine f.lease → f.lease.lock ≡ lock.Page f.chart.tree f.page → ((x : PuItem) → IsIn run x → IsClient x.rec.client)
    → Others mine later st su → PutsPieces st now lease f run → PutsPieces su later lease f run
pieces_others mine st su now later lease f run after held is own own_is clients o k = record {
  leaf = k.leaf;
  linked = linked;
  newest = newest;
  few = let log = ap length grows.log.1 ∙ length-append st.book.log grows.log.0 in let was = k.few in omega (arith, log, was);
  first = k.first;
  fit = k.fit;
  placing = k.placing;
  reserves = reserves f.placing.reserved k.reserves;
  lacks = k.lacks;
  rest = λ x there below. rest x there (k.rest x there below);
}
  where
    grows : Grows st su
    grows = o.passes.grows

    linked : IsLinked (su.book.chain f.chart.tree 0) f.page
    linked =
        let l = grows.links f.chart.tree 0 k.linked.link (k.linked.place, k.linked.linked) in
        record { place = l.0; link = k.linked.link; linked = l.1; page_is = k.linked.page_is }

    newest : Lasts later f.lease → IsNewestLeaf (su.tally.nodes f.chart.tree) f.page k.leaf
    newest lasts =
        let old = k.newest (omega (arith, lasts, after)) in
        let same = o.leaf f.lease f.chart.tree f.page own own_is lasts (record { leaf = k.leaf; is = old.is; absent = old.absent }) in
        record { is = ap (λ (ns : List Node). last_or (Leafy empty_leaf) ns) same ∙ old.is; absent = λ none. old.absent (sym same ∙ none) }

    reserves : (p : Option (List ℕ)) → Reserves st (Lasts now lease) f.chart.tree (tree_held f.chart.root) (numbered k.first k.placing.middle k.placing.behind) p
        → Reserves su (Lasts later lease) f.chart.tree (tree_held f.chart.root) (numbered k.first k.placing.middle k.placing.behind) p
    reserves (Some bytes) r = r
    reserves None r = λ lasts.
        reserved_others leaf_node mine st su later lease f.chart.tree k.first k.placing.middle k.placing.behind held is lasts o (r (omega (arith, lasts, after)))

    rest : (x : PuItem) → IsIn run x → IsDone st f.chart.tree x ⊎ (holds k.leaf (key_of x.rec.change) ≡ true)
        → IsDone su f.chart.tree x ⊎ (holds k.leaf (key_of x.rec.change) ≡ true)
    rest x there (inl done) = inl (done_stays st su f.chart.tree x grows (clients x there) done)
    rest x there (inr range) = inr range

-- ---- a leaf, with the chart

pub reading_others : (mine : List Claim) (st su : Store) (now later : ℕ) (lease : Claim) (f : Folding) (ids : List ℕ) → now ≤ later → IsIn mine lease
    → lease.lock ≡ lock.Tree f.chart.tree → Others mine later st su → IsReading st now lease f ids → IsReading su later lease f ids
reading_others mine st su now later lease f ids after held is o k = record {
  at = at_leaf_others mine st su now later lease f after held is o k.at;
  run = known_run_stays st su f.chart ids o.passes.grows k.run;
  apart = k.apart;
  least = k.least;
  placing_is = k.placing_is;
}

pub putting_others : (mine : List Claim) (st su : Store) (now later : ℕ) (lease : Claim) (f : Folding) (ids : List ℕ) → now ≤ later → IsIn mine lease
    → lease.lock ≡ lock.Tree f.chart.tree → IsIn mine f.lease → Others mine later st su → IsPutting st now lease f ids → IsPutting su later lease f ids
unfolding pieces_others
putting_others mine st su now later lease f ids after held is own o k = record {
  tree = k.tree;
  root = root_stays st su now later lease f.chart.tree (tree_held f.chart.root) after grows (o.roots lease f.chart.tree held is) k.root;
  nodes = nodes_stay st su now later lease f.chart.tree f.chart.nodes after grows (keeps_nodes mine st su later f.chart.tree lease held is o) k.nodes;
  apart = k.apart;
  took = run_stays st su f.chart.tree 0 (tree_held f.chart.root).cursor f.chart.run ids grows k.took;
  lock_is = k.lock_is;
  puts = pieces_others mine st su now later lease f f.chart.run.items after held is own k.lock_is k.took.clients o k.puts;
  notes = record { found = k.notes.found; are_found = links_stay st su f.chart.tree k.notes.found grows k.notes.are_found; links_are = k.notes.links_are };
}
  where
    grows : Grows st su
    grows = o.passes.grows

-- ---- before a leaf, and behind it

pub rest_others : (mine : List Claim) (st su : Store) (now later : ℕ) (lease : Claim) (c : Chart) (ids : List ℕ) → now ≤ later → IsIn mine lease → lease.lock ≡ lock.Tree c.tree
    → Others mine later st su → KnowsRest st now lease c ids → KnowsRest su later lease c ids
rest_others mine st su now later lease c ids after held is o k = record {
  chart = chart_others mine st su now later lease c after held is o k.chart;
  run = known_run_stays st su c ids o.passes.grows k.run;
  apart = k.apart;
}

pub come_others : (mine : List Claim) (st su : Store) (now later : ℕ) (lease : Claim) (c : Coming) (ids : List ℕ) → now ≤ later → IsIn mine lease
    → lease.lock ≡ lock.Tree c.chart.tree → Others mine later st su → IsCome st now lease c ids → IsCome su later lease c ids
come_others mine st su now later lease c ids after held is o k = record {
  rest = rest_others mine st su now later lease c.chart ids after held is o k.rest;
  way =
      way_stays (st.book.chain c.chart.tree) (su.book.chain c.chart.tree) 0 c.page c.low c.chart.key c.visited (λ l a. o.passes.grows.links c.chart.tree l a) k.way;
  least = k.least;
}

pub getting_others : (mine : List Claim) (st su : Store) (now later : ℕ) (lease : Claim) (d : Descent) (ids : List ℕ) → now ≤ later → IsIn mine lease
    → lease.lock ≡ lock.Tree d.chart.tree → Others mine later st su → IsGetting st now lease d ids → IsGetting su later lease d ids
getting_others mine st su now later lease d ids after held is o k = record {
  rest = rest_others mine st su now later lease d.chart ids after held is o k.rest;
  way =
      way_stays (st.book.chain d.chart.tree) (su.book.chain d.chart.tree) d.level d.page d.low d.chart.key d.visited (λ l a. o.passes.grows.links d.chart.tree l a) k.way;
  above = k.above;
  fresh = k.fresh;
  least = k.least;
}
