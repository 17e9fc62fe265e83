-- What the bytes of each object and of each queue spell.
use Rattle.std.specs.Prelude.{ℕ, ◌≡◌, ◌+◌, ◌-◌, ◌*◌, ◌<◌, ◌≤◌, ◌⊎◌, List, length, Some, None}
use Rattle.db_base.specs.Limits.{most_changes}
use Rattle.db_base.specs.declared.names.ObjName.{ObjName}
use Rattle.db_base.specs.declared.names.ObjName.TheVariants as object
use Rattle.db_base.specs.declared.names.QueueName.{QueueName}
use Rattle.db_base.specs.declared.names.QueueName.TheVariants.{Atomic, TreePu, PagePu}
use Rattle.cloud_trait.specs.declared.state.Posted.{Posted}
use Rattle.cloud_trait.specs.declared.state.Version.{Version}
use Rattle.head_codec.specs.declared.head.Head.{Head}
use Rattle.head_codec.specs.Spelling.{head_of}
use Rattle.leaf_view.specs.Leaf.{IsLeaf}
use Rattle.log_codec.specs.Atomic.{atomic_of}
use Rattle.log_codec.specs.Pu.{pu_of}
use Rattle.log_codec.specs.declared.record.AtomicRec.{AtomicRec}
use Rattle.log_codec.specs.declared.record.PuRec.{PuRec}
use Rattle.node_codec.specs.Inner.{IsInner}
use Rattle.node_codec.specs.Tree.{Tree, IsTree}
use Rattle.route_plan.specs.Queue.{number_of_queue}
use Rattle.cloud_facts.specs.Book.Records.{StandsAt}
use Rattle.cloud_facts.specs.Book.Tally.{Node, Leafy, Branch, version_of}

-- ---- objects

-- the bytes of a page spell a leaf or an inner node
abbrev pub IsNode : List ℕ → Node → Type 0
IsNode bytes (Leafy l) = IsLeaf bytes l
IsNode bytes (Branch n) = IsInner bytes n

-- a head counts no further than so many heads do: each raises the epoch by at most one, and the counter of a queue by at most 200
pub record CountsWithin (n : ℕ) (h : Head) : Type 0 where
  pub epoch : h.epoch ≤ n
  pub numbers : (tree page : ℕ) → number_of_queue h.counters tree page ≤ most_changes * n

-- bytes are the version of this number of an object; a head has no number, and counts within it
abbrev pub IsNth : ObjName → ℕ → List ℕ → Type 0
IsNth (object.Head client) n bytes = (h : Head) × (head_of bytes ≡ Some h) × CountsWithin n h
IsNth (object.Tree tree) n bytes = (t : Tree) × IsTree bytes t × (t.version ≡ n)
IsNth (object.Page tree page) n bytes = (node : Node) × IsNode bytes node × (version_of node ≡ n)

-- a version has bytes, which are the version of this number
abbrev pub HasNth : ObjName → ℕ → Version → Type 0
HasNth name n v = (bytes : List ℕ) × (v.bytes ≡ Some bytes) × IsNth name n bytes

-- only pages are removed
abbrev pub IsRemoval : ObjName → Type 0
IsRemoval (object.Head client) = ⊥
IsRemoval (object.Tree tree) = ⊥
IsRemoval (object.Page tree page) = Unit {0}

-- a version without bytes, at a place of these, is that of a page, is the last, and not the first
pub record IsLastRemoval (name : ObjName) (vs : List Version) (place : ℕ) (v : Version) : Type 0 where
  pub removal : IsRemoval name
  pub none : v.bytes ≡ None
  pub behind : 0 < place
  pub last : place + 1 ≡ length vs

-- the n-th version of an object has bytes, is one of its kind, and has the number n, or counts within it; or it is the removal of the object
abbrev pub AreOfKind : ObjName → List Version → Type 0
AreOfKind name vs = (place : ℕ) (v : Version) → StandsAt vs place v → HasNth name (place + 1) v ⊎ IsLastRemoval name vs place v

-- two heads are of one epoch, transaction and phase
pub record IsSameMoment (g h : Head) : Type 0 where
  pub epoch : g.epoch ≡ h.epoch
  pub txn : g.txn ≡ h.txn
  pub phase : g.phase ≡ h.phase

-- these bytes do not spell heads of one moment
abbrev pub AreApart : List ℕ → List ℕ → Type 0
AreApart a b = (g h : Head) → head_of a ≡ Some g → head_of b ≡ Some h → IsSameMoment g h → ⊥

-- each version of a head is of another moment than the one before
abbrev pub MomentsDiffer : ObjName → List Version → Type 0
MomentsDiffer (object.Head client) vs =
    (place : ℕ) (v w : Version) (a b : List ℕ) → StandsAt vs place v → StandsAt vs (place + 1) w → v.bytes ≡ Some a → w.bytes ≡ Some b → AreApart a b
MomentsDiffer (object.Tree tree) vs = Unit {0}
MomentsDiffer (object.Page tree page) vs = Unit {0}

-- bytes that land behind these versions are of another moment than the newest
abbrev pub MovesOn : ObjName → List Version → List ℕ → Type 0
MovesOn (object.Head client) vs bytes = (v : Version) (last : List ℕ) → StandsAt vs (length vs - 1) v → v.bytes ≡ Some last → AreApart last bytes
MovesOn (object.Tree tree) vs bytes = Unit {0}
MovesOn (object.Page tree page) vs bytes = Unit {0}

-- ---- queues

-- the bytes of a message: of an ATOMIC queue a record of its client, of the others a pending update record
abbrev pub IsMessageOf : QueueName → List ℕ → Type 0
IsMessageOf (Atomic client) bytes = (r : AtomicRec) × (atomic_of bytes ≡ Some r) × (r.client ≡ client)
IsMessageOf (TreePu tree) bytes = (r : PuRec) × (pu_of bytes ≡ Some r)
IsMessageOf (PagePu tree page) bytes = (r : PuRec) × (pu_of bytes ≡ Some r)

abbrev pub AreMessagesOf : QueueName → List Posted → Type 0
AreMessagesOf queue ms = (place : ℕ) (m : Posted) → StandsAt ms place m → IsMessageOf queue m.bytes
