-- A leaf under its lease, as a machine.
use Rattle.std.specs.Prelude.{ℕ, ◌+◌, ◌==◌, ◌||◌, List, [], ◌∷◌, ◌++◌, length, Option, Some, None, Result, Ok, Err, unwrap_or, if◌then◌else◌}
use Rattle.byte_format.specs.Order.{bytes_below, bytes_same}
use Rattle.db_base.specs.declared.names.ObjName.TheVariants as object
use Rattle.db_base.specs.declared.trouble.Trouble.{Trouble}
use Rattle.db_base.specs.declared.trouble.Trouble.TheVariants as trouble
use Rattle.cloud_trait.specs.declared.answer.Answer.{Answer}
use Rattle.cloud_trait.specs.Ask.{Ask, GetHeld}
use Rattle.cloud_trait.specs.Claim.{Claim}
use Rattle.cloud_trait.specs.Machine.{Next, Goes, Ends, Stops}
use Rattle.cloud_trait.specs.Views.{got_of, done_of}
use Rattle.leaf_view.specs.Leaf.{Leaf}
use Rattle.leaf_view.specs.Lookup.{empty_leaf, page_at}
use Rattle.leaf_edit.specs.Lacked.{lacked}
use Rattle.log_codec.specs.declared.record.PuItem.{PuItem}
use Rattle.run_cursor.specs.Covered.{is_seen}
use Rattle.tree_phases.specs.declared.chart.Chart.{Chart}
use Rattle.tree_phases.specs.declared.placing.Placing.{Placing}
use Rattle.tree_phases.specs.Kept.{links_at}
use Rattle.tree_phases.specs.Placing.{put_in_hand, landed_root, landed_placing, has_nothing, has_one_page}
use Rattle.tree_phases.specs.Read.{leaf_read, tree_held}
use Rattle.tree_phases.specs.declared.folding.Folding.{Folding}
use Rattle.tree_phases.specs.declared.folding.Left.{Left}
use Rattle.tree_phases.specs.declared.folding.Left.TheVariants.{Right, Handled}
use Rattle.tree_phases.specs.declared.page_plan.PagePlan.{PagePlan}
use Rattle.tree_phases.specs.Plan.{leaf_plan}

abbrev pub FoldingStep : Type 0
FoldingStep = Next Folding Left

abbrev pub no_placing : Placing
no_placing = record { reserved = None; puts = [] }

-- a leaf whose lease was given
abbrev pub begun : Chart → Claim → ℕ → List ℕ → List ℕ → Folding
begun chart lease page low visited = record { chart = chart; lease = lease; page = page; low = low; visited = visited; placing = no_placing; lacked = [] }

-- what is to be put is put under the tree's lease and the leaf's; before that the leaf is got under its own
abbrev pub folding_ask : Folding → Claim → Ask
folding_ask f l = unwrap_or (put_in_hand f.placing f.chart.tree l (Some f.lease)) (GetHeld (object.Page f.chart.tree f.page) f.lease)

-- the items that the put in hand applies: those that the leaf lacks, at the leaf's own put, which is the last one
abbrev pub applying : Folding → List PuItem
applying f = if has_one_page f.placing then f.lacked else []

-- ---- the get

-- the low key differs from what led to the leaf
abbrev pub bad_low : Folding → List ℕ → Trouble
bad_low f found = trouble.BadFence f.page f.low found

-- a link to the right is noted for the level above, and the leaf is passed
abbrev pub turned : Folding → List ℕ → ℕ → Folding
turned f high right = record f {
  chart = record f.chart { links = f.chart.links ++ record { level = 1; low = high; page = right } ∷ [] };
  visited = f.visited ++ f.page ∷ [];
}

-- to the page on the right, which no way may come to twice
abbrev pub to_right : Folding → List ℕ → ℕ → FoldingStep
to_right f high right = if (right == f.page) || is_seen f.visited right then Stops f (trouble.Loop right) else Ends (turned f high right) (Right high right)

-- the keys below the high key are handled, all keys where there is none
abbrev pub handled_to : Folding → Option (List ℕ) → Folding
handled_to f high = record f { chart = record f.chart { from = high } }

-- what was planned is put next, and the new pieces are noted for the level above
abbrev pub put_planned : Folding → List PuItem → PagePlan → Folding
put_planned f items p = record f {
  chart = record f.chart { links = f.chart.links ++ links_at 1 p.entries };
  placing = p.placing;
  lacked = items;
}

abbrev pub planned : Folding → Option (List ℕ) → List PuItem → Result PagePlan Trouble → FoldingStep
planned f high items (Ok p) = Goes (put_planned (handled_to f high) items p)
planned f high items (Err t) = Stops f t

-- a leaf that lacks nothing of the run stays as it is
abbrev pub handled_by : Folding → Leaf → List PuItem → FoldingStep
handled_by f l [] = Ends (handled_to f l.high) Handled
handled_by f l (x ∷ xs) = planned f l.high (x ∷ xs) (leaf_plan (tree_held f.chart.root) f.page l f.chart.run.items)

abbrev pub handle : Folding → Leaf → FoldingStep
handle f l = handled_by f l (lacked l 0 f.chart.run.items)

-- to the right where there is a right page and the key is not below the high key
abbrev pub leaf_side : Folding → Leaf → Option (List ℕ) → Option ℕ → FoldingStep
leaf_side f l None right = handle f l
leaf_side f l (Some high) None = handle f l
leaf_side f l (Some high) (Some right) = if bytes_below f.chart.key high then handle f l else to_right f high right

-- the leaf is checked against what led to it
abbrev pub leaf_at : Folding → Leaf → FoldingStep
leaf_at f l = if bytes_same l.low f.low then leaf_side f l l.high (page_at l.right) else Stops f (bad_low f l.low)

abbrev pub leaf_found : Folding → Result Leaf Trouble → FoldingStep
leaf_found f (Ok l) = leaf_at f l
leaf_found f (Err t) = Stops f t

-- after the held get of the leaf: an absent page 1 is the empty leaf
abbrev pub leaf_got : Folding → Result (Option (List ℕ)) Trouble → FoldingStep
leaf_got f (Ok (Some bytes)) = leaf_found f (leaf_read f.chart.tree f.page bytes)
leaf_got f (Ok None) = if f.page == 1 then leaf_at f empty_leaf else Stops f (trouble.Absent f.page)
leaf_got f (Err t) = Stops f t

-- ---- the puts

abbrev pub landed : Folding → Folding
landed f = record f { chart = record f.chart { root = landed_root f.placing f.chart.root }; placing = landed_placing f.placing }

-- the records that the leaf lacked are applied
abbrev pub counted : Folding → Folding
counted f = record f { chart = record f.chart { applied = f.chart.applied + length f.lacked }; lacked = [] }

-- with the last put the leaf's part of the run is handled
abbrev pub placed : Folding → FoldingStep
placed f = if has_one_page f.placing then Ends (counted (landed f)) Handled else Goes (landed f)

abbrev pub leaf_put : {A : Type 0} → Folding → Result A Trouble → FoldingStep
leaf_put f (Ok _) = placed f
leaf_put f (Err t) = Stops f t

-- ---- the machine

abbrev pub folding_next : Folding → Answer → FoldingStep
folding_next f a = if has_nothing f.placing then leaf_got f (got_of a) else leaf_put f (done_of a)
