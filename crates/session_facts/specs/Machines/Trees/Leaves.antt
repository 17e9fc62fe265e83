-- What a checkpoint knows of a key of its run: on the way down to the key's leaf, while the leaf is read and put, and behind it.
use Rattle.std.specs.Prelude.{ℕ, ◌≡◌, ◌≢◌, ◌<◌, ◌⊎◌, List, ◌++◌, drop, map}
use Rattle.cloud_facts.specs.Words.{IsTree, Leaf, Claim, Link, Store, IsIn}
use Rattle.db_base.specs.declared.names.Lock.TheVariants as lock
use Rattle.leaf_edit.specs.Applied.{applied}
use Rattle.tree_phases.specs.declared.folding.Folding.{Folding}
use Rattle.tree_phases.specs.Folding.{no_placing}
use Rattle.session_facts.specs.Machines.Runs.Knows.{TookRun}
use Rattle.split_plan.specs.Plan.{entry_of, on_pages, leaf_pieces}
use Rattle.tree_phases.specs.declared.descent.Descent.{Descent}
use Rattle.tree_phases.specs.declared.chart.Chart.{Chart}
use Rattle.tree_phases.specs.declared.kept.KeptNode.{KeptNode}
use Rattle.tree_phases.specs.declared.link.Link.{Link as Found}
use Rattle.tree_phases.specs.Kept.{links_at}
use Rattle.tree_phases.specs.Read.{tree_held}
use Rattle.tree_ckpt.specs.declared.work.Coming.{Coming}
use Rattle.session_facts.specs.Machines.Trees.Charts.{KnowsRoot, KnowsNodes, AreFound, KnowsChart}
use Rattle.session_facts.specs.Machines.Folds.Knows.{KnowsRun, IsLeast, IsAtLeaf, PutsPieces}
use Rattle.session_facts.specs.Machines.Risings.Knows.{AreApart}
use Rattle.session_facts.specs.Machines.Trees.Ways.{IsOnWay}

-- ---- before a leaf, and behind it

-- the records with keys below `from` are applied
pub record KnowsRest (st : Store) (now : ℕ) (lease : Claim) (c : Chart) (ids : List ℕ) : Type 0 where
  pub chart : KnowsChart st now lease c
  pub run : KnowsRun st c ids
  pub apart : AreApart c.nodes

-- a node above the leaves is to be got, for the least key of the run that is not handled; it was not got before
pub record IsGetting (st : Store) (now : ℕ) (lease : Claim) (d : Descent) (ids : List ℕ) : Type 0 where
  pub rest : KnowsRest st now lease d.chart ids
  pub way : IsOnWay (st.book.chain d.chart.tree) d.level d.page d.low d.chart.key d.visited
  pub above : 0 < d.level
  pub fresh : (k : KeptNode) → IsIn d.chart.nodes k → k.page ≢ d.page
  pub least : IsLeast d.chart

-- a leaf was come to, for the least key of the run that is not handled
pub record IsCome (st : Store) (now : ℕ) (lease : Claim) (c : Coming) (ids : List ℕ) : Type 0 where
  pub rest : KnowsRest st now lease c.chart ids
  pub way : IsOnWay (st.book.chain c.chart.tree) 0 c.page c.low c.chart.key c.visited
  pub least : IsLeast c.chart

-- ---- a leaf under its lease

-- it is to be read
pub record IsReading (st : Store) (now : ℕ) (lease : Claim) (f : Folding) (ids : List ℕ) : Type 0 where
  pub at : IsAtLeaf st now lease f
  pub run : KnowsRun st f.chart ids
  pub apart : AreApart f.chart.nodes
  pub least : IsLeast f.chart
  pub placing_is : f.placing ≡ no_placing

-- the links that go up were found, but for those of the leaf's new pieces, which are links once the leaf itself landed
pub record NotesPieces (chain : ℕ → List Link) (page first : ℕ) (whole : Leaf) (links : List Found) : Type 0 where
  pub found : List Found
  pub are_found : AreFound chain found
  pub links_are : links ≡ found ++ links_at 1 (drop 1 (map entry_of (on_pages page first (leaf_pieces first whole))))

-- its pieces are put
pub record IsPutting (st : Store) (now : ℕ) (lease : Claim) (f : Folding) (ids : List ℕ) : Type 0 where
  pub tree : IsTree f.chart.tree
  pub root : KnowsRoot st now lease f.chart.tree (tree_held f.chart.root)
  pub nodes : KnowsNodes st now lease f.chart.tree f.chart.nodes
  pub apart : AreApart f.chart.nodes
  pub took : TookRun st f.chart.tree 0 (tree_held f.chart.root).cursor f.chart.run ids
  pub lock_is : f.lease.lock ≡ lock.Page f.chart.tree f.page
  pub puts : PutsPieces st now lease f f.chart.run.items
  pub notes : NotesPieces (st.book.chain f.chart.tree) f.page puts.first (applied puts.leaf 0 f.chart.run.items) f.chart.links

abbrev pub KnowsLeaf : Store → ℕ → Claim → Folding → List ℕ → Type 0
KnowsLeaf st now lease f ids = IsReading st now lease f ids ⊎ IsPutting st now lease f ids
