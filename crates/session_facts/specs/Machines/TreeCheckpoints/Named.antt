-- The calls of a tree checkpoint in hand, and that its new pieces are named by the level above once it is done.
use Rattle.std.specs.Prelude.{ℕ, ◌≡◌, ◌⊎◌, List, [], ◌∷◌, Option, Some}
use Rattle.cloud_facts.specs.Words.{ObjName, Inner, Tree, Version, CloudState, Deed, calls_of, IsIn}
use Rattle.cloud_trait.specs.declared.turn.CkptAnswer.{CkptAnswer}
use Rattle.cloud_trait.specs.Growth.{HasGrown}
use Rattle.db_base.specs.declared.names.ObjName.TheVariants as object
use Rattle.node_codec.specs.Node.{Entry}
use Rattle.node_codec.specs.Tree.{tree_bytes}
use Rattle.session_facts.specs.Machines.TreeCheckpoints.Nesting.{AreNested}
use Rattle.split_plan.specs.Part.{NodePart}
use Rattle.split_plan.specs.Plan.{node_bytes}
use Rattle.tree_ckpt.specs.Causes.{WasNode}
use Rattle.tree_ckpt.specs.Making.{Making, making_ask}
use Rattle.tree_ckpt.specs.Meaning.{IsDone}
use Rattle.tree_ckpt.specs.Leases.{Went}
use Rattle.tree_ckpt.specs.Working.{IsAmong, Worked, IsInRange, IsNamed, HasClimbed, HasRisen, IsFollowed, IsLeafPiece, IsNodePiece, IsNamedAbove, last_root, last_links, looks_of}
use Rattle.tree_phases.specs.declared.link.Link.{Link}

-- ---- the calls

-- the cloud told its state before and behind each of these calls, the newest first, and nothing that landed was lost since
abbrev pub AreTold : List Deed → CloudState → Type 0
AreTold [] s = Unit {0}
AreTold (d ∷ h) s = (x : CloudState) × (y : CloudState) × (d.before.state ≡ Some x) × (d.after.state ≡ Some y) × HasGrown y s × AreTold h x

-- a checkpoint came from its begin by these calls, and what they brought nests
pub record CameTold (s : CloudState) (m : Making) : Type 0 where
  pub made : List Deed
  pub came : Went made m
  pub told : AreTold made s
  pub nested : AreNested m.tree (calls_of made)

-- ---- what landed

-- these bytes landed as a version of the object
abbrev pub HasLanded : CloudState → ObjName → List ℕ → Type 0
HasLanded s name bytes = (v : Version) × IsIn (s.versions name) v × (v.bytes ≡ Some bytes)

-- a version that landed has the entry: one of an inner node of the level, or of the tree object
abbrev pub IsTold : CloudState → ℕ → ℕ → Entry → Type 0
IsTold s tree level e =
    ((page : ℕ) × (q : NodePart) × HasLanded s (object.Page tree page) (node_bytes q) × (q.common ≡ level) × IsAmong e q.items)
    ⊎ ((t : Tree) × HasLanded s (object.Tree tree) (tree_bytes t) × (t.level ≡ level) × IsAmong e t.entries)

-- ---- what it comes to

-- The level above names a page with its low key: what was put there for a node that was got, in whose range the low key lies, or what was put for the
-- tree object, where the page is of its level.
abbrev pub HasAbove : ℕ → Option (List ℕ) → Worked → Link → Type 0
HasAbove tree got w l =
    ((page : ℕ) × (n : Inner) × WasNode tree page n (looks_of w.visits) × IsInRange n l × IsNamed (HasClimbed page l.level w.climbs) n.entries (last_links w) l)
    ⊎ ((l.level ≡ (last_root got w).level) × IsNamed (HasRisen l.level w.last) (last_root got w).entries (last_links w) l)

-- Done behind such calls, which the cloud told: each new piece of a leaf or of an inner node is named by the level above, and so is each page that was
-- come to by a right link. What names it, of a node or of the tree object, is a version that the cloud tells (`lands`).
pub record NamesPieces (s : CloudState) (m : Making) (answer : CkptAnswer) : Type 0 where
  pub made : List Deed
  pub came : Went made m
  pub told : AreTold made s
  pub done : IsDone (making_ask m) m.tree m.received made answer
  pub pieces : (w : Worked) → done.worked ≡ Some w → (l : Link) → IsLeafPiece l w.visits ⊎ IsNodePiece l w.climbs → HasAbove m.tree done.opening.got w l
  pub rights : (w : Worked) → done.worked ≡ Some w → (l : Link) → IsFollowed l w.visits → IsNamedAbove m.tree done.opening.got w l
  pub lands : (w : Worked) → done.worked ≡ Some w → (level : ℕ) (e : Entry) → ((page : ℕ) × HasClimbed page level w.climbs e) ⊎ HasRisen level w.last e → IsTold s m.tree level e
