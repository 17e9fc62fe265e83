-- The way down that a step of a tree checkpoint takes between two calls, over inner nodes that were got before.
use Rattle.std.specs.Prelude.{ℕ, ◌≡◌, ◌≢◌, true, false, List, [], ◌∷◌, Some, ◌⊎◌}
use Rattle.byte_format.specs.Order.{bytes_same}
use Rattle.db_base.specs.declared.names.ObjName.TheVariants as object
use Rattle.db_base.specs.declared.names.Place.TheVariants as place
use Rattle.db_base.specs.declared.trouble.Trouble.{Trouble}
use Rattle.db_base.specs.declared.trouble.Trouble.TheVariants as trouble
use Rattle.node_codec.specs.Inner.{Inner, inner_of}
use Rattle.cloud_trait.specs.declared.answer.Answer.{Answer}
use Rattle.cloud_trait.specs.declared.answer.Answer.TheVariants as call
use Rattle.cloud_trait.specs.Claim.{Claim}
use Rattle.run_cursor.specs.Covered.{is_seen}
use Rattle.tree_phases.specs.declared.chart.Chart.{Chart}
use Rattle.tree_phases.specs.declared.kept.KeptNode.{KeptNode}
use Rattle.tree_phases.specs.declared.descent.Descent.{Descent}
use Rattle.tree_phases.specs.Fork.{forked_on}
use Rattle.tree_phases.specs.Descent.{begun, passed, kept_at, with_node}
use Rattle.tree_ckpt.specs.declared.work.Held.{Held}
use Rattle.tree_ckpt.specs.declared.work.Onward.TheVariants as onward
use Rattle.tree_ckpt.specs.declared.work.Work.{Work}
use Rattle.tree_ckpt.specs.declared.work.Work.TheVariants as work
use Rattle.tree_ckpt.specs.Moves.{root_entry, next_key}

-- ---- over a node

-- it stands at an inner node to which this key's way did not come before
abbrev pub IsFresh : Descent → Type 0
IsFresh d = (d.level ≢ 0) × (is_seen d.visited d.page ≡ false)

-- that node was got before
abbrev pub WasKept : Descent → Inner → Type 0
WasKept d n = (k : KeptNode) × (kept_at d ≡ Some k) × (inner_of k.bytes ≡ Some n)

-- a node has the level and the low key that the link to it promised
abbrev pub IsPromised : Descent → Inner → Type 0
IsPromised d n = (n.level ≡ d.level) × (bytes_same n.low d.low ≡ true)

-- behind a node, to the right or down, as the key in hand demands
abbrev pub behind : Descent → Inner → Descent
behind d n = passed d (forked_on d.chart.key n)

-- it leads on over a node that was got before
abbrev pub LeadsOver : Descent → Inner → Descent → Type 0
LeadsOver d n e = IsFresh d × WasKept d n × IsPromised d n × (e ≡ behind d n)

-- it comes from one place to another over such nodes, the newest first
abbrev pub ComesOver : List Inner → Descent → Descent → Type 0
ComesOver [] d e = e ≡ d
ComesOver (n ∷ ns) d e = (f : Descent) × ComesOver ns d f × LeadsOver f n e

-- ---- what stops it there

-- A node that was got before has another level, which stands at offset 10, or another low key than the link to it promised; or the link leads to a
-- page that this key's way came to before.
abbrev pub BreaksAt : ℕ → Descent → Trouble → Type 0
BreaksAt tree d (trouble.Damaged where_it_is at) =
    IsFresh d × ((n : Inner) × WasKept d n × (n.level ≢ d.level)) × (where_it_is ≡ place.Object (object.Page tree d.page)) × (at ≡ 10)
BreaksAt tree d (trouble.BadFence page expected found) =
    IsFresh d × ((n : Inner) × WasKept d n × (n.level ≡ d.level) × (found ≡ n.low) × (bytes_same n.low d.low ≡ false)) × (page ≡ d.page) × (expected ≡ d.low)
BreaksAt tree d (trouble.Loop page) = (d.level ≢ 0) × (is_seen d.visited d.page ≡ true) × (page ≡ d.page)
BreaksAt tree d t = ⊥

-- so it is stopped on the way from here
abbrev pub BreaksFrom : ℕ → Descent → Trouble → Type 0
BreaksFrom tree d t = (e : Descent) × (ns : List Inner) × ComesOver ns d e × BreaksAt tree e t

-- ---- where it begins

-- behind the inner node that the answer brought
pub record BeginsBehind (w : Work) (a : Answer) (d : Descent) : Type 0 where
  pub held : Held
  pub from : Descent
  pub bytes : List ℕ
  pub node : Inner
  pub stands : w ≡ work.Descending held from
  pub brought : a ≡ call.Got (Some bytes)
  pub reads : inner_of bytes ≡ Some node
  pub promised : IsPromised from node
  pub leads : d ≡ behind (with_node from bytes) node

-- the tree object's entry for the chart's key
abbrev pub from_root : Chart → Descent
from_root c = begun c (root_entry c).0 (root_entry c).1

-- at the tree object, for the next key, behind a leaf that is handled
pub record BeginsAgain (w : Work) (d : Descent) : Type 0 where
  pub held : Held
  pub lease : Claim
  pub chart : Chart
  pub key : List ℕ
  pub stands : w ≡ work.ReleasingPage held lease (onward.Handled chart)
  pub next : next_key chart ≡ Some key
  pub leads : d ≡ from_root (record chart { key = key })

-- the way of this step is stopped
abbrev pub BreaksWay : ℕ → Work → Answer → Trouble → Type 0
BreaksWay tree w a t = (d : Descent) × (BeginsBehind w a d ⊎ BeginsAgain w d) × BreaksFrom tree d t
