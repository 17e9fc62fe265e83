-- How many calls of a tree checkpoint are left, where its tree has so many pages, and that these are few with those that it made.
use Rattle.std.specs.Prelude.{ℕ, ◌≡◌, ◌+◌, ◌-◌, ◌*◌, ◌≤◌, ◌==◌, if◌then◌else◌, List, length, Option, Some, None}
use Rattle.ckpt_parts.specs.Leasing.{claims_of}
use Rattle.cloud_facts.specs.Book.Records.{Apart}
use Rattle.cloud_trait.specs.State.{CloudState}
use Rattle.session_facts.specs.Machines.TreeCheckpoints.Few.{distinct, next_page}
use Rattle.tree_ckpt.specs.End.{unhandled, behind_key, ids_in, calls_in}
use Rattle.tree_ckpt.specs.Making.{Making}
use Rattle.tree_ckpt.specs.declared.work.Held.{Held}
use Rattle.tree_ckpt.specs.declared.work.Onward.TheVariants as onward
use Rattle.tree_ckpt.specs.declared.work.Work.{Work}
use Rattle.tree_ckpt.specs.declared.work.Work.TheVariants as work
use Rattle.tree_phases.specs.declared.chart.Chart.{Chart}
use Rattle.tree_phases.specs.declared.placing.Placing.{Placing}
use Rattle.tree_phases.specs.Read.{tree_held}
use Rattle.tree_phases.specs.declared.rising.Rising.{Rising}

-- ---- what is left

-- the puts of what is planned, but for those of pages whose numbers are reserved
abbrev pub pieces_by : ℕ → Option (List ℕ) → ℕ → ℕ
pieces_by least (Some bytes) puts = least
pieces_by least None puts = puts

abbrev pub piece_calls : ℕ → Placing → ℕ
piece_calls least p = pieces_by least p.reserved (length p.puts)

-- the calls of so many keys: a take, a get and a release of each leaf on the way right, and those of the one that is put
unfoldable pub for_keys : ℕ → ℕ → ℕ
for_keys p keys = keys * (3 * p + 8)

-- the next number of a new page
abbrev pub next_of : Chart → ℕ
next_of c = (tree_held c.root).next

-- the deletions, the way up, inner nodes that were not got, and pages that may still be new
abbrev pub around : ℕ → Held → Chart → ℕ
around p h c = ids_in h + (2 * p + 8) + (p - length c.nodes) + ((p + 1) - next_of c)

abbrev pub at_leaves : ℕ → Held → Chart → ℕ → ℕ
at_leaves p h c visited = around p h c + for_keys p (behind_key c) + 3 * (p - visited)

abbrev pub up_left : ℕ → Option (List ℕ) → Rising → ℕ
up_left p None r = 2 * (length r.chart.nodes - r.at) + piece_calls 2 r.placing + ((p + 1) - next_of r.chart) + 3
up_left p (Some last) r = piece_calls 1 r.placing + ((p + 1) - next_of r.chart) + 1

-- the calls that are left of a tree checkpoint, for so many pages
abbrev pub calls_left : ℕ → Work → ℕ
calls_left p work.TakingTree = 16
calls_left p (work.GettingTree l) = 15
calls_left p (work.Receiving l root) = 14
calls_left p (work.Descending h d) = at_leaves p h d.chart 0 + 6
calls_left p (work.TakingPage h c) = at_leaves p h c.chart (length c.visited) + 6
calls_left p (work.Folding h f) =
    if length f.placing.puts == 0
    then at_leaves p h f.chart (length f.visited) + 5
    else around p h f.chart + for_keys p (unhandled f.chart) + piece_calls 2 f.placing + 2
calls_left p (work.ReleasingPage h l (onward.Right c)) = at_leaves p h c.chart (length c.visited) + 7
calls_left p (work.ReleasingPage h l (onward.Handled c)) = around p h c + for_keys p (unhandled c) + 1
calls_left p (work.LeftPage h (onward.Right c)) = at_leaves p h c.chart (length c.visited) + 7
calls_left p (work.LeftPage h (onward.Handled c)) = around p h c + for_keys p (unhandled c) + 1
calls_left p (work.Rising h r) = ids_in h + 4 + up_left p r.last r
calls_left p (work.Deleting h applied) = ids_in h + 3
calls_left p (work.Releasing held end) = length (claims_of held) + 1
calls_left p work.Finished = 1

-- ---- where it stands

-- the tree object in hand is this one
abbrev pub HasRoot : Option (List ℕ) → Work → Type 0
HasRoot got (work.Receiving l root) = root ≡ got
HasRoot got (work.Descending h d) = d.chart.root ≡ got
HasRoot got (work.TakingPage h c) = c.chart.root ≡ got
HasRoot got (work.Folding h f) = f.chart.root ≡ got
HasRoot got (work.ReleasingPage h l (onward.Right c)) = c.chart.root ≡ got
HasRoot got (work.ReleasingPage h l (onward.Handled c)) = c.root ≡ got
HasRoot got (work.LeftPage h (onward.Right c)) = c.chart.root ≡ got
HasRoot got (work.LeftPage h (onward.Handled c)) = c.root ≡ got
HasRoot got (work.Rising h r) = r.chart.root ≡ got
HasRoot got w = Unit {0}

-- no page was visited twice on the way
abbrev pub Once : Work → Type 0
Once (work.Descending h d) = Apart d.visited
Once (work.TakingPage h c) = Apart c.visited
Once (work.Folding h f) = Apart f.visited
Once (work.ReleasingPage h l (onward.Right c)) = Apart c.visited
Once (work.LeftPage h (onward.Right c)) = Apart c.visited
Once w = Unit {0}

-- Behind so many calls: no page was visited twice, no tree object in hand had more pages than the newest one, and the calls are few with those that
-- are left, for the distinct ids that were received.
pub record MadeFew (tree calls : ℕ) (s : CloudState) (w : Work) (received : List ℕ) : Type 0 where
  pub got : Option (List ℕ)
  pub root : HasRoot got w
  pub next : (tree_held got).next ≤ next_page s tree
  pub once : Once w
  pub few : (p : ℕ) → next_page s tree ≤ p + 1 → calls + calls_left p w ≤ 16 + length (distinct received) * (8 * p + 16)

-- so many calls were made of a checkpoint from its begin on, and they were few
pub record IsCounted (calls : ℕ) (s : CloudState) (m : Making) : Type 0 where
  pub early : calls + calls_in m.work ≤ calls_in work.TakingTree
  pub made : MadeFew m.tree calls s m.work m.received
