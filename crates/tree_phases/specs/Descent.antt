-- The way down to the leaf of a key.
use Rattle.std.specs.Prelude.{ℕ, zero, suc, ◌+◌, ◌-◌, ◌==◌, ◌&&◌, not, List, [], ◌∷◌, ◌++◌, length, find, Option, Some, None, Result, Ok, Err, if◌then◌else◌}
use Rattle.byte_format.specs.Order.{bytes_below, bytes_same}
use Rattle.db_base.specs.declared.names.ObjName.TheVariants as object
use Rattle.db_base.specs.declared.trouble.Trouble.{Trouble}
use Rattle.db_base.specs.declared.trouble.Trouble.TheVariants as trouble
use Rattle.cloud_trait.specs.declared.answer.Answer.{Answer}
use Rattle.cloud_trait.specs.Ask.{Ask, GetHeld}
use Rattle.cloud_trait.specs.Claim.{Claim}
use Rattle.cloud_trait.specs.Machine.{Next, Goes, Ends, Stops}
use Rattle.cloud_trait.specs.Views.{got_of}
use Rattle.node_codec.specs.Inner.{Inner}
use Rattle.run_cursor.specs.Covered.{is_seen}
use Rattle.tree_phases.specs.declared.chart.Chart.{Chart}
use Rattle.ckpt_parts.specs.declared.fault.Fault.{Fault}
use Rattle.tree_phases.specs.Going.{Finds}
use Rattle.tree_phases.specs.declared.kept.KeptNode.{KeptNode}
use Rattle.tree_phases.specs.Kept.{with_kept}
use Rattle.tree_phases.specs.Read.{damaged, inner_read, tree_held}
use Rattle.tree_phases.specs.declared.descent.Descent.{Descent}
use Rattle.tree_phases.specs.declared.descent.Reach.{Reach}
use Rattle.tree_phases.specs.declared.descent.Reach.TheVariants.{Node, Leaf}
use Rattle.tree_phases.specs.declared.fork.Fork.{Fork}
use Rattle.tree_phases.specs.declared.fork.Fork.TheVariants.{Right, Down}
use Rattle.tree_phases.specs.Fork.{bad_fence, forked_on}

-- the way from the tree object to a page of the level below it
abbrev pub begun : Chart → List ℕ → ℕ → Descent
begun chart low page = record { chart = chart; level = (tree_held chart.root).level - 1; page = page; low = low; visited = [] }

-- the node that it has come to is got under the tree's lease
abbrev pub descent_ask : Descent → Claim → Ask
descent_ask d l = GetHeld (object.Page d.chart.tree d.page) l

-- ---- a node

-- a node is checked against what led to it: its level, and then its low key
abbrev pub forked : Descent → Inner → Result Fork Trouble
forked d n =
    if n.level == d.level
    then (if bytes_same n.low d.low && not (bytes_below d.chart.key n.low) then Ok (forked_on d.chart.key n) else Err (bad_fence d.page d.low n.low))
    else Err (damaged d.chart.tree d.page 10)

abbrev pub forked_by : Descent → Result Inner Trouble → Result Fork Trouble
forked_by d (Ok n) = forked d n
forked_by d (Err t) = Err t

-- where the bytes of the node lead
abbrev pub fork_of : Descent → List ℕ → Result Fork Trouble
fork_of d bytes = forked_by d (inner_read d.chart.tree d.page bytes)

-- what the level above is to name
abbrev pub noted : Chart → ℕ → List ℕ → ℕ → Chart
noted c level low page = record c { links = c.links ++ record { level = level; low = low; page = page } ∷ [] }

-- behind the node: a page that was come to by a right link is noted for the level above
abbrev pub passed : Descent → Fork → Descent
passed d (Right low page) = record d { chart = noted d.chart (d.level + 1) low page; page = page; low = low; visited = d.visited ++ d.page ∷ [] }
passed d (Down low page) = record d { level = d.level - 1; page = page; low = low; visited = d.visited ++ d.page ∷ [] }

-- ---- nodes that were got before

abbrev pub go_on : Descent → Result Fork Trouble → Next Descent Reach
go_on d (Ok fork) = Goes (passed d fork)
go_on d (Err t) = Stops d t

abbrev pub stride_at : Descent → Option KeptNode → Next Descent Reach
stride_at d (Some k) = go_on d (fork_of d k.bytes)
stride_at d None = Ends d Node

-- the node that it has come to, where it was got before
abbrev pub kept_at : Descent → Option KeptNode
kept_at d = find (λ n. n.page == d.page) d.chart.nodes

-- the code found where a node that was got before leads, or that it was not
abbrev pub FindsKept : Descent → Option (Result Fork Fault) → Option KeptNode → Type 0
FindsKept d (Some found) (Some k) = Finds found (fork_of d k.bytes)
FindsKept d None None = Unit {0}
FindsKept d (Some found) None = ⊥
FindsKept d None (Some k) = ⊥

-- over one node that was got before
abbrev pub stride : Descent → Next Descent Reach
stride d =
    if d.level == 0
    then Ends d Leaf
    else (if is_seen d.visited d.page then Stops d (trouble.Loop d.page) else stride_at d (kept_at d))

abbrev pub follow : (Descent → Next Descent Reach) → Next Descent Reach → Next Descent Reach
follow next (Goes d) = next d
follow next (Ends d reach) = Ends d reach
follow next (Stops d t) = Stops d t

-- over at most so many nodes that were got before; a way over more of them comes to one twice
unfoldable pub walk : ℕ → Descent → Next Descent Reach
walk zero d = follow (λ e. Stops e (trouble.Loop e.page)) (stride d)
walk (suc n) d = follow (walk n) (stride d)

-- to the next node that is to be got, or to the leaf
abbrev pub arrived : Next Descent Reach → Next Descent (Unit {0})
arrived (Goes d) = Goes d
arrived (Ends d Node) = Goes d
arrived (Ends d Leaf) = Ends d tt
arrived (Stops d t) = Stops d t

abbrev pub arrive : Descent → Next Descent (Unit {0})
arrive d = arrived (walk (length d.chart.nodes) d)

-- ---- the get

-- a node that is not there: page 1 is a leaf
abbrev pub absent_node : Descent → Trouble
absent_node d = if d.page == 1 then damaged d.chart.tree d.page 0 else trouble.Absent d.page

-- the node that was got is kept
abbrev pub with_node : Descent → List ℕ → Descent
with_node d bytes = record d { chart = record d.chart { nodes = with_kept (record { page = d.page; level = d.level; low = d.low; bytes = bytes }) d.chart.nodes } }

abbrev pub got_node : Descent → List ℕ → Result Fork Trouble → Next Descent (Unit {0})
got_node d bytes (Ok fork) = arrive (passed (with_node d bytes) fork)
got_node d bytes (Err t) = Stops d t

-- after the held get of a node
abbrev pub descent_got : Descent → Result (Option (List ℕ)) Trouble → Next Descent (Unit {0})
descent_got d (Ok (Some bytes)) = got_node d bytes (fork_of d bytes)
descent_got d (Ok None) = Stops d (absent_node d)
descent_got d (Err t) = Stops d t

abbrev pub descent_next : Descent → Answer → Next Descent (Unit {0})
descent_next d a = descent_got d (got_of a)
