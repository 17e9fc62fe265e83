-- What a checkpoint knows at a leaf under its lease: before the leaf is read, and while it and its right pieces are put.
use Rattle.std.specs.Prelude.{ℕ, ◌≡◌, ◌≤◌, ◌⊎◌, true, false, List, [], length, Option, Some, None}
use Rattle.std.specs.List.{AllByRecursion}
use Rattle.byte_format.specs.Order.{bytes_below, below_bound}
use Rattle.cloud_facts.specs.Chains.Cuts.{leaf_node}
use Rattle.cloud_facts.specs.Chains.Links.{newest_node, top_of}
use Rattle.cloud_facts.specs.Words.{PuItem, Leaf, Tree, Claim, Lasts, Store, Node, Leafy, IsIn}
use Rattle.db_base.specs.Change.{key_of}
use Rattle.db_base.specs.declared.names.Lock.TheVariants as lock
use Rattle.leaf_edit.specs.Applied.{applied}
use Rattle.leaf_edit.specs.Lacked.{lacked}
use Rattle.tree_phases.specs.declared.folding.Folding.{Folding}
use Rattle.leaf_view.specs.Lookup.{holds}
use Rattle.session_facts.specs.Machines.Runs.Knows.{TookRun}
use Rattle.split_plan.specs.Part.{LeafPart}
use Rattle.split_plan.specs.Plan.{IsLeafPart, leaf_bytes, leaf_pieces}
use Rattle.cloud_facts.specs.Tellings.Taking.{IsLinked}
use Rattle.tree_phases.specs.declared.chart.Chart.{Chart}
use Rattle.tree_phases.specs.Read.{tree_held}
use Rattle.session_facts.specs.Machines.Trees.Charts.{KnowsChart}
use Rattle.session_facts.specs.Machines.Trees.Placings.{IsPlacing, AreReserved, IsReservation, Numbered, numbered}
use Rattle.session_facts.specs.Machines.Trees.Ways.{IsOnWay}

-- ---- the run

-- a record of the tree's queue is applied
abbrev pub IsDone : Store → ℕ → PuItem → Type 0
IsDone st tree x = x.rec.number ≤ st.tally.done tree (key_of x.rec.change) 0 x.rec.client

-- the records with keys below a bound are applied, all of them where there is none
abbrev pub AreDoneTo : Store → ℕ → List PuItem → Option (List ℕ) → Type 0
AreDoneTo st tree run bound = (x : PuItem) → IsIn run x → below_bound (key_of x.rec.change) bound ≡ true → IsDone st tree x

-- a key is the least of the run that is not handled
abbrev pub IsLeast : Chart → Type 0
IsLeast c = (x : PuItem) → IsIn c.run.items x → (below_bound (key_of x.rec.change) c.from ≡ true) ⊎ (bytes_below (key_of x.rec.change) c.key ≡ false)

-- a run is taken behind the root's cursor, and handled key by key
pub record KnowsRun (st : Store) (c : Chart) (ids : List ℕ) : Type 0 where
  pub took : TookRun st c.tree 0 (tree_held c.root).cursor c.run ids
  pub done : AreDoneTo st c.tree c.run.items c.from

-- ---- before the leaf is read

pub record IsAtLeaf (st : Store) (now : ℕ) (lease : Claim) (f : Folding) : Type 0 where
  pub chart : KnowsChart st now lease f.chart
  pub way : IsOnWay (st.book.chain f.chart.tree) 0 f.page f.low f.chart.key f.visited
  pub lock_is : f.lease.lock ≡ lock.Page f.chart.tree f.page

-- ---- the puts of a leaf

-- the newest version of a page is this leaf; page 1 alone may be absent
pub record IsNewestLeaf (nodes : ℕ → List Node) (page : ℕ) (l : Leaf) : Type 0 where
  pub is : newest_node nodes page ≡ Leafy l
  pub absent : nodes page ≡ [] → page ≡ 1

-- the numbers of the pieces are reserved by the put in hand, or they were while this holds
abbrev pub Reserves : Store → Type 0 → ℕ → Tree → Numbered LeafPart → Option (List ℕ) → Type 0
Reserves st still tree root new (Some bytes) = (new.behind ≡ []) × IsReservation root (length new.middle) new.first bytes
Reserves st still tree root new None =
    still → AreReserved leaf_node (st.book.chain tree) (st.tally.nodes tree) (st.tally.gone tree) (top_of (st.tally.roots tree)).next new

-- a leaf that was read is the newest of its page while its lease lasts, and what is put are its pieces with the run applied
pub record PutsPieces (st : Store) (now : ℕ) (lease : Claim) (f : Folding) (run : List PuItem) : Type 0 where
  pub leaf : Leaf
  pub linked : IsLinked (st.book.chain f.chart.tree 0) f.page
  pub newest : Lasts now f.lease → IsNewestLeaf (st.tally.nodes f.chart.tree) f.page leaf
  -- it has no more records than were committed
  pub few : length leaf.records ≤ length st.book.log
  pub first : ℕ
  pub fit : AllByRecursion IsLeafPart (leaf_pieces first (applied leaf 0 run))
  pub placing : IsPlacing leaf_bytes f.page first (leaf_pieces first (applied leaf 0 run)) f.placing.puts
  pub reserves : Reserves st (Lasts now lease) f.chart.tree (tree_held f.chart.root) (numbered first placing.middle placing.behind) f.placing.reserved
  pub lacks : f.lacked ≡ lacked leaf 0 run
  -- of the records that are handled then, those that are not applied are in its range
  pub rest : (x : PuItem) → IsIn run x → below_bound (key_of x.rec.change) f.chart.from ≡ true → IsDone st f.chart.tree x ⊎ (holds leaf (key_of x.rec.change) ≡ true)
