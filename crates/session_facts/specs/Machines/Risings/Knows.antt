-- What a checkpoint of a tree knows on its way up: the run is applied, and the nodes and the root that take the links are put in pieces.
use Rattle.std.specs.Prelude.{ℕ, ◌≡◌, ◌≢◌, ◌+◌, ◌≤◌, Bool, true, false, List, [], ◌∷◌, ◌++◌, length, map, reverse, drop, Option, Some, None}
use Rattle.std.specs.List.{AllByRecursion}
use Rattle.byte_format.specs.Format.{greatest}
use Rattle.cloud_facts.specs.Chains.Cuts.{inner_node}
use Rattle.cloud_facts.specs.Chains.Links.{link_of, top_of, Ascends, NamesBelow}
use Rattle.cloud_facts.specs.Words.{IsTree, PuItem, Inner, Tree, Claim, Lasts, Next, Goes, Ends, Stops, Link, Store, IsIn}
use Rattle.node_codec.specs.Node.{raised}
use Rattle.node_codec.specs.Tree.{tree_bytes, HasTreeSpelling}
use Rattle.session_facts.specs.Machines.Runs.Knows.{TookRun, MayDelete}
use Rattle.split_plan.specs.Part.{NodePart}
use Rattle.split_plan.specs.Plan.{IsNodePart, put_of, entry_of, on_pages, node_bytes, node_pieces, root_pieces, root_above}
use Rattle.tree_phases.specs.declared.chart.Chart.{Chart}
use Rattle.tree_phases.specs.declared.kept.KeptNode.{KeptNode}
use Rattle.tree_phases.specs.declared.link.Link.{Link as Found}
use Rattle.tree_phases.specs.Kept.{links_at}
use Rattle.tree_phases.specs.Read.{tree_held}
use Rattle.tree_phases.specs.declared.rising.Rising.{Rising}
use Rattle.tree_phases.specs.Nodes.{with_links}
use Rattle.tree_phases.specs.Root.{new_pages}
use Rattle.session_facts.specs.Machines.Trees.Charts.{KnowsRoot, KnowsNode, KnowsNodes, AreFound}
use Rattle.session_facts.specs.Machines.Folds.Knows.{IsDone}
use Rattle.session_facts.specs.Machines.Trees.Placings.{IsPlacing, AreReserved, IsReservation, Numbered, numbered}

-- ---- nodes that were got

-- no page comes twice among them
abbrev pub AreApart : List KeptNode → Type 0
AreApart [] = Unit {0}
AreApart (k ∷ ks) = ((m : KeptNode) → IsIn ks m → m.page ≢ k.page) × AreApart ks

-- ---- the run

-- a run was taken behind the root's cursor, and each of its records is applied
pub record AppliesRun (st : Store) (c : Chart) (ids : List ℕ) : Type 0 where
  pub took : TookRun st c.tree 0 (tree_held c.root).cursor c.run ids
  pub done : (x : PuItem) → IsIn c.run.items x → IsDone st c.tree x

-- what is known of the tree between two nodes: those that were not passed are the newest, and the links that go up are found
pub record KnowsUpward (st : Store) (now : ℕ) (lease : Claim) (c : Chart) (at : ℕ) (ids : List ℕ) : Type 0 where
  pub tree : IsTree c.tree
  pub root : KnowsRoot st now lease c.tree (tree_held c.root)
  pub run : AppliesRun st c ids
  pub nodes : KnowsNodes st now lease c.tree (drop at c.nodes)
  pub apart : AreApart (drop at c.nodes)
  pub links : AreFound (st.book.chain c.tree) c.links

-- ---- the puts of a node

-- a node's next version, with the links that go to it
abbrev pub risen_node : Inner → List Found → Inner
risen_node n links = record n { version = n.version + 1; entries = with_links n links n.entries }

-- the links of a node's new pieces, for the level above
abbrev pub piece_links : KeptNode → ℕ → Inner → List Found
piece_links k first n = links_at (k.level + 1) (drop 1 (map entry_of (on_pages k.page first (node_pieces first n))))

-- the numbers of pieces are reserved by the put in hand, or they were while this holds
abbrev pub ReservesNodes : Store → Type 0 → ℕ → Tree → Numbered NodePart → Option (List ℕ) → Type 0
ReservesNodes st still tree root new (Some bytes) = (new.behind ≡ []) × IsReservation root (length new.middle) new.first bytes
ReservesNodes st still tree root new None =
    still → AreReserved inner_node (st.book.chain tree) (st.tally.nodes tree) (st.tally.gone tree) (top_of (st.tally.roots tree)).next new

-- what is put are the pieces of a node that was got, with the links that were known; those of its new pieces are noted for the level above
pub record PutsNode (st : Store) (now : ℕ) (lease : Claim) (r : Rising) : Type 0 where
  pub kept : KeptNode
  pub node : KnowsNode st now lease r.chart.tree kept
  pub nodes : KnowsNodes st now lease r.chart.tree (drop r.at r.chart.nodes)
  pub apart : AreApart (kept ∷ drop r.at r.chart.nodes)
  pub known : List Found
  pub found : AreFound (st.book.chain r.chart.tree) known
  pub first : ℕ
  pub links_are : r.chart.links ≡ known ++ piece_links kept first (risen_node node.inner known)
  pub fit : AllByRecursion IsNodePart (node_pieces first (risen_node node.inner known))
  pub placing : IsPlacing node_bytes kept.page first (node_pieces first (risen_node node.inner known)) r.placing.puts
  pub reserves : ReservesNodes st (Lasts now lease) r.chart.tree (tree_held r.chart.root) (numbered first placing.middle placing.behind) r.placing.reserved

-- ---- the last put

-- a root with the run's cursor, whose entries name links of the level below, from left to right
pub record IsRaised (chain : ℕ → List Link) (root : Tree) (top : List (ℕ × ℕ)) (t : Tree) : Type 0 where
  pub level : t.level ≡ root.level
  pub cursor : t.cursor ≡ raised root.cursor top
  pub names : NamesBelow chain t.level [] t.entries
  pub ascends : Ascends (map link_of t.entries)

-- it is put whole
pub record PutsWhole (st : Store) (r : Rising) (bytes : List ℕ) : Type 0 where
  pub root : Tree
  pub raises : IsRaised (st.book.chain r.chart.tree) (tree_held r.chart.root) r.chart.run.top root
  pub version : root.version ≡ (tree_held r.chart.root).version + 1
  pub next : root.next ≡ (tree_held r.chart.root).next
  pub fits : HasTreeSpelling root
  pub bytes_are : bytes ≡ tree_bytes root
  pub nothing_reserved : r.placing.reserved ≡ None
  pub no_page : r.placing.puts ≡ []

-- it is the root's next version, or the next but one with so many numbers where the put in hand reserves them
abbrev pub Succeeds : Bool → Tree → Tree → ℕ → Option (List ℕ) → Type 0
Succeeds spent root t count (Some bytes) = (spent ≡ false → t.version ≡ root.version + 1 + 1) × (t.next ≡ root.next + count)
Succeeds spent root t count None = (spent ≡ false → t.version ≡ root.version + 1) × (t.next ≡ root.next)

-- The reservation of a cut takes the last version of the tree object: before it lands the tree object stands at the last but one, and behind it at
-- the last.
abbrev pub IsLastVersion : Tree → Option (List ℕ) → Type 0
IsLastVersion root (Some bytes) = root.version + 1 ≡ greatest
IsLastVersion root None = root.version ≡ greatest

-- it is cut: its pieces are put, all of them new and the rightmost first, and then a root that names them, one level higher, unless no version is left
pub record PutsCut (st : Store) (now : ℕ) (lease : Claim) (r : Rising) (bytes : List ℕ) : Type 0 where
  pub root : Tree
  pub raises : IsRaised (st.book.chain r.chart.tree) (tree_held r.chart.root) r.chart.run.top root
  pub first : ℕ
  pub fits : HasTreeSpelling (root_above (new_pages first root) root)
  pub bytes_are : bytes ≡ tree_bytes (root_above (new_pages first root) root)
  pub middle : List NodePart
  pub behind : List NodePart
  pub pieces_are : root_pieces first root ≡ middle ++ behind
  pub puts_are : r.placing.puts ≡ reverse (map (put_of node_bytes) (on_pages first (first + 1) middle))
  pub fit : AllByRecursion IsNodePart (root_pieces first root)
  pub left : r.is_spent ≡ true → 1 ≤ length middle
  pub spent : r.is_spent ≡ true → IsLastVersion (tree_held r.chart.root) r.placing.reserved
  pub succeeds : Succeeds r.is_spent (tree_held r.chart.root) root (length middle) r.placing.reserved
  pub reserves : ReservesNodes st (Lasts now lease) r.chart.tree (tree_held r.chart.root) (numbered first middle behind) r.placing.reserved

pub data PutsRoot (st : Store) (now : ℕ) (lease : Claim) (r : Rising) (bytes : List ℕ) : Type 0 where
  whole : PutsWhole st r bytes → PutsRoot st now lease r bytes
  cut : PutsCut st now lease r bytes → PutsRoot st now lease r bytes

-- ---- the way up

-- what the put in hand is one of
abbrev pub PutsOf : Store → ℕ → Claim → Rising → Option (List ℕ) → Type 0
PutsOf st now lease r None = PutsNode st now lease r
PutsOf st now lease r (Some bytes) = PutsRoot st now lease r bytes

pub record KnowsRising (st : Store) (now : ℕ) (lease : Claim) (r : Rising) (ids : List ℕ) : Type 0 where
  pub tree : IsTree r.chart.tree
  pub root : KnowsRoot st now lease r.chart.tree (tree_held r.chart.root)
  pub run : AppliesRun st r.chart ids
  pub puts : PutsOf st now lease r r.last

-- where a step of the way up leads: to another put, or behind the last one, where the messages that the run covers may be deleted
abbrev pub RisesOn : Store → ℕ → Claim → List ℕ → Next Rising (Unit {0}) → Type 0
RisesOn st now lease ids (Goes r) = KnowsRising st now lease r ids
RisesOn st now lease ids (Ends r x) = MayDelete st r.chart.tree 0 ids
RisesOn st now lease ids (Stops r t) = Unit {0}
