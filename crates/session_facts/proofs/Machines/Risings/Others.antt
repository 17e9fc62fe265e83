-- What a checkpoint knows on its way up survives the calls of others.
use Rattle.std.proofs.Common.{◌≡◌, ◌-◌, ◌≤◌, ℕ, List, [], drop, Option, Some, None, ap, ◌∙◌, arith}
use Rattle.cloud_facts.specs.Chains.Cuts.{inner_node}
use Rattle.cloud_facts.specs.Chains.Links.{top_of, NamesBelow}
use Rattle.cloud_facts.specs.Words.{Tree, Claim, Lasts, Store, Node, Leafy, Branch, IsIn}
use Rattle.db_base.specs.declared.names.Lock.TheVariants as lock
use Rattle.leaf_view.specs.Lookup.{empty_leaf}
use Rattle.node_codec.specs.Node.{Entry}
use Rattle.session_facts.proofs.Machines.Runs.Marks.{run_stays}
use Rattle.split_plan.specs.Part.{NodePart}
use Rattle.cloud_facts.specs.Book.Growth.{Grows}
use Rattle.cloud_facts.specs.Book.Telling.{last_or}
use Rattle.tree_phases.specs.declared.chart.Chart.{Chart}
use Rattle.tree_phases.specs.declared.kept.KeptNode.{KeptNode}
use Rattle.tree_phases.specs.Read.{tree_held}
use Rattle.tree_phases.specs.declared.rising.Rising.{Rising}
use Rattle.session_facts.specs.Machines.Trees.Charts.{KnowsNode}
use Rattle.session_facts.specs.Machines.Trees.Placings.{AreReserved, numbered}
use Rattle.session_facts.specs.Machines.Risings.Knows.{AppliesRun, ReservesNodes, PutsNode, IsRaised, PutsCut, PutsRoot, whole, cut, PutsOf, KnowsRising}
use Rattle.cloud_facts.specs.Calls.Others.{Others}
use Rattle.session_facts.proofs.Machines.Trees.Others.{root_stays, KeepsNodes, nodes_stay, links_stay, keeps_nodes, reserved_others}
use Rattle.session_facts.proofs.Machines.Folds.Others.{done_stays}
use Rattle.session_facts.proofs.Machines.Walks.Caches.{in_grown}

-- ---- what only grows

pub applies_stays : (st su : Store) (c : Chart) (ids : List ℕ) → Grows st su → AppliesRun st c ids → AppliesRun su c ids
applies_stays st su c ids grows k = record {
  took = run_stays st su c.tree 0 (tree_held c.root).cursor c.run ids grows k.took;
  done = λ x there. done_stays st su c.tree x grows (k.took.clients x there) (k.done x there);
}

pub names_stay : (st su : Store) (tree level : ℕ) (low : List ℕ) (es : List Entry) → Grows st su → NamesBelow (st.book.chain tree) level low es → NamesBelow (su.book.chain tree) level low es
names_stay st su tree level low es grows n = record {
  height = n.height;
  links = record { names = λ e there. grows.links tree (level - 1) (record { low = e.0; page = e.1 }) (n.links.names e there); first = n.links.first };
}

pub raised_stays : (st su : Store) (tree : ℕ) (root : Tree) (top : List (ℕ × ℕ)) (t : Tree) → Grows st su → IsRaised (st.book.chain tree) root top t → IsRaised (su.book.chain tree) root top t
raised_stays st su tree root top t grows k = record { level = k.level; cursor = k.cursor; names = names_stay st su tree t.level [] t.entries grows k.names; ascends = k.ascends }

-- a node is known on while its page stays as it is
abbrev pub node_stays : (st su : Store) (now later : ℕ) (lease : Claim) (tree : ℕ) (kept : KeptNode) → now ≤ later → Grows st su
    → (Lasts later lease → su.tally.nodes tree kept.page ≡ st.tally.nodes tree kept.page) → KnowsNode st now lease tree kept → KnowsNode su later lease tree kept
node_stays st su now later lease tree kept after grows same a = record {
  inner = a.inner;
  spells = a.spells;
  linked = grows.links tree kept.level (record { low = kept.low; page = kept.page }) a.linked;
  landed = in_grown (st.tally.nodes tree kept.page) (su.tally.nodes tree kept.page) (Branch a.inner) (grows.nodes tree kept.page) a.landed;
  newest = λ lasts. ap (λ (ns : List Node). last_or (Leafy empty_leaf) ns) (same lasts) ∙ a.newest (omega (arith, lasts, after));
}

-- ---- all of it

module _ (st su : Store) (now later : ℕ) (lease : Claim) (r : Rising) (ids : List ℕ) (after : now ≤ later) (grows : Grows st su)
    (roots : Lasts later lease → su.tally.roots r.chart.tree ≡ st.tally.roots r.chart.tree) (nodes : KeepsNodes st su later r.chart.tree lease)
    (free : (first : ℕ) (middle behind : List NodePart) → Lasts later lease
    → AreReserved inner_node (st.book.chain r.chart.tree) (st.tally.nodes r.chart.tree) (st.tally.gone r.chart.tree) (top_of (st.tally.roots r.chart.tree)).next (numbered first middle behind)
    → AreReserved inner_node (su.book.chain r.chart.tree) (su.tally.nodes r.chart.tree) (su.tally.gone r.chart.tree) (top_of (su.tally.roots r.chart.tree)).next (numbered first middle behind)) where
  abbrev tree : ℕ
  tree = r.chart.tree

  abbrev root : Tree
  root = tree_held r.chart.root

  before : Lasts later lease → Lasts now lease
  before lasts = omega (arith, lasts, after)

  node_puts : PutsNode st now lease r → PutsNode su later lease r
  node_puts k = record {
    kept = k.kept;
    node = node_stays st su now later lease tree k.kept after grows (λ lasts. nodes lasts k.kept.page k.node.inner (k.node.newest (before lasts))) k.node;
    nodes = nodes_stay st su now later lease tree (drop r.at r.chart.nodes) after grows nodes k.nodes;
    apart = k.apart;
    known = k.known;
    found = links_stay st su tree k.known grows k.found;
    first = k.first;
    links_are = k.links_are;
    fit = k.fit;
    placing = k.placing;
    reserves = reserves r.placing.reserved k.reserves;
  }
    where
      reserves : (o : Option (List ℕ)) → ReservesNodes st (Lasts now lease) tree root (numbered k.first k.placing.middle k.placing.behind) o
          → ReservesNodes su (Lasts later lease) tree root (numbered k.first k.placing.middle k.placing.behind) o
      reserves (Some bytes) e = e
      reserves None e = λ lasts. free k.first k.placing.middle k.placing.behind lasts (e (before lasts))

  cut_puts : (bytes : List ℕ) → PutsCut st now lease r bytes → PutsCut su later lease r bytes
  cut_puts bytes k = record {
    root = k.root;
    raises = raised_stays st su tree root r.chart.run.top k.root grows k.raises;
    first = k.first;
    fits = k.fits;
    bytes_are = k.bytes_are;
    middle = k.middle;
    behind = k.behind;
    pieces_are = k.pieces_are;
    puts_are = k.puts_are;
    fit = k.fit;
    left = k.left;
    spent = k.spent;
    succeeds = k.succeeds;
    reserves = reserves r.placing.reserved k.reserves;
  }
    where
      reserves : (o : Option (List ℕ)) → ReservesNodes st (Lasts now lease) tree root (numbered k.first k.middle k.behind) o
          → ReservesNodes su (Lasts later lease) tree root (numbered k.first k.middle k.behind) o
      reserves (Some bytes) e = e
      reserves None e = λ lasts. free k.first k.middle k.behind lasts (e (before lasts))

  root_puts : (bytes : List ℕ) → PutsRoot st now lease r bytes → PutsRoot su later lease r bytes
  root_puts bytes (whole k) =
      whole (record {
        root = k.root;
        raises = raised_stays st su tree root r.chart.run.top k.root grows k.raises;
        version = k.version;
        next = k.next;
        fits = k.fits;
        bytes_are = k.bytes_are;
        nothing_reserved = k.nothing_reserved;
        no_page = k.no_page;
      })
  root_puts bytes (cut k) = cut (cut_puts bytes k)

  puts : (o : Option (List ℕ)) → PutsOf st now lease r o → PutsOf su later lease r o
  puts None k = node_puts k
  puts (Some bytes) k = root_puts bytes k

  pub rising_stays : KnowsRising st now lease r ids → KnowsRising su later lease r ids
  rising_stays k = record {
    tree = k.tree;
    root = root_stays st su now later lease tree root after grows roots k.root;
    run = applies_stays st su r.chart ids grows k.run;
    puts = puts r.last k.puts;
  }

pub rising_others : (mine : List Claim) (st su : Store) (now later : ℕ) (lease : Claim) (r : Rising) (ids : List ℕ) → now ≤ later → IsIn mine lease → lease.lock ≡ lock.Tree r.chart.tree
    → Others mine later st su → KnowsRising st now lease r ids → KnowsRising su later lease r ids
rising_others mine st su now later lease r ids after held is o k =
    rising_stays st su now later lease r ids after o.passes.grows (o.roots lease r.chart.tree held is) (keeps_nodes mine st su later r.chart.tree lease held is o)
    (λ first middle behind lasts f. reserved_others inner_node mine st su later lease r.chart.tree first middle behind held is lasts o f) k
