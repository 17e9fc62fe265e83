-- What the work at a leaf leaves to be done.
use Rattle.std.proofs.Common.{◌≡◌, ◌<◌, ◌≤◌, ◌+◌, ◌-◌, ℕ, Bool, true, false, cond, List, [], ◌∷◌, ◌++◌, length, length-append, Option, Some, None, Result, Ok, Err, refl, subst, arith}
use Rattle.std.specs.Prelude.{◌==◌, ◌&&◌, map, is_none}
use Rattle.std.proofs.lemmas.Bool.{ne_eqb}
use Rattle.std.proofs.lemmas.List.{length-map, length-reverse}
use Rattle.byte_format.specs.Order.{below_bound}
use Rattle.leaf_view.specs.Leaf.{Leaf}
use Rattle.leaf_edit.specs.Applied.{applied}
use Rattle.node_codec.specs.Tree.{Tree}
use Rattle.split_plan.specs.Cut.{cut_by}
use Rattle.split_plan.specs.Part.{LeafPart, record_key, part_of_leaf}
use Rattle.split_plan.specs.Plan.{put_of, on_pages, leaf_bytes, leaf_pieces}
use Rattle.split_plan.specs.Sizes.{count_of, cuts_of}
use Rattle.tree_phases.specs.Kept.{links_at}
use Rattle.tree_phases.specs.Placing.{puts_after}
use Rattle.tree_phases.specs.Read.{tree_held}
use Rattle.tree_phases.specs.Reserve.{reservation, version_spent}
use Rattle.tree_phases.specs.declared.folding.Left.TheVariants.{Right, Handled}
use Rattle.tree_phases.specs.Plan as plan
use Rattle.tree_phases.specs.Folding.{FoldingStep, folding_next}
use Rattle.tree_ckpt.specs.End.{unhandled, behind_key, from_on_or_none}
use Rattle.tree_ckpt.specs.Leases.{IsPlanned}
use Rattle.tree_ckpt.proofs.Words.{Trouble, PuItem, Answer, Goes, Ends, Stops, PagePut, Chart, Reserved, Folding, PagePlan}
use Rattle.tree_ckpt.proofs.LeafOutcomes.{Reads, Lands, Works, works}
use Rattle.tree_ckpt.proofs.LeafOutcomes as step
use Rattle.tree_ckpt.proofs.Keys.{from_above}

-- the records above the key at hand are what is left at most
pub record IsHandled (f : Folding) (c : Chart) : Type 0 where
  pub left : unhandled c ≤ behind_key f.chart
  pub nodes : length f.chart.nodes ≤ length c.nodes
  pub links : length f.chart.links ≤ length c.links

-- a link to the right was followed
pub record IsTurned (c d : Chart) : Type 0 where
  pub run : d.run ≡ c.run
  pub key : d.key ≡ c.key
  pub nodes : d.nodes ≡ c.nodes
  pub links : length d.links ≡ length c.links + 1

-- after the held get of a leaf
abbrev pub GetLeaves : Folding → FoldingStep → Type 0
GetLeaves f (Goes g) = IsHandled f g.chart × (0 < length g.placing.puts)
GetLeaves f (Ends g (Right low page)) = IsTurned f.chart g.chart
GetLeaves f (Ends g Handled) = IsHandled f g.chart
GetLeaves f (Stops g t) = Unit {0}

-- ---- a leaf is put in one piece at least

pages_some : (page free : ℕ) (ps : List LeafPart) → length (on_pages page free ps) ≡ length ps
pages_some page free [] = refl
pages_some page free (p ∷ ps) = omega (arith, pages_some free (free + 1) ps)

cut_some : (sizes : List ℕ) (free : ℕ) (p : LeafPart) → 0 < length (cut_by record_key sizes free p)
cut_some [] free p = omega arith
cut_some (n ∷ sizes) free p = omega arith

pieces_some : (page : ℕ) (l : Leaf) (r : Reserved) → 0 < length (plan.in_pieces page l r).placing.puts
pieces_some page l r =
    let ps : List LeafPart = leaf_pieces r.first l in
    omega (
      arith,
      length-reverse (map (put_of leaf_bytes) (on_pages page r.first ps)),
      length-map (on_pages page r.first ps) (put_of leaf_bytes),
      pages_some page r.first ps,
      cut_some (cuts_of (length l.records)) r.first (part_of_leaf l),
    )

planned_some : (page : ℕ) (l : Leaf) (r : Result Reserved Trouble) (p : PagePlan) → plan.planned_by page l r ≡ Ok p → 0 < length p.placing.puts
planned_some page l (Ok r) p e = let same : plan.in_pieces page l r ≡ p = cc (e) in subst (λ (q : PagePlan). 0 < length q.placing.puts) same (pieces_some page l r)
planned_some page l (Err t) p e = absurd (cc (e))

pub plan_some : (root : Tree) (page : ℕ) (l : Leaf) (run : List PuItem) (p : PagePlan) → plan.leaf_plan root page l run ≡ Ok p → 0 < length p.placing.puts
plan_some root page l run p e = on (l.version == 18446744073709551615) e where
  made : Leaf
  made = applied l 0 run

  on : (spent : Bool) → cond spent (Err version_spent) (plan.planned_by page (applied l 0 run) (reservation root page (count_of (length (applied l 0 run).records) - 1))) ≡ Ok p
      → 0 < length p.placing.puts
  on true f = absurd (cc (f))
  on false f = planned_some page (applied l 0 run) (reservation root page (count_of (length (applied l 0 run).records) - 1)) p f

-- ---- the get

-- the keys below the high key are handled, and the key in hand is one of them
handled_left : (f : Folding) (high : Option (List ℕ)) → below_bound f.chart.key high ≡ true → from_on_or_none high f.chart.run.items ≤ behind_key f.chart
handled_left f None below = omega arith
handled_left f (Some high) below = from_above f.chart.key high f.chart.run.items below

pub reads_leave : {f : Folding} {g : Result (Option (List ℕ)) Trouble} {next : FoldingStep} → Reads f g next → GetLeaves f next
reads_leave {f = f} (step.passes got l high right behind new) =
    record { run = refl; key = refl; nodes = refl; links = length-append f.chart.links (record { level = 1; low = high; page = right } ∷ []) }
reads_leave {f = f} (step.spares got l here none) = record { left = handled_left f l.high here.below; nodes = omega arith; links = omega arith }
reads_leave {f = f} (step.plans got l x xs p here some e) =
    let more : length (f.chart.links ++ links_at 1 p.entries) ≡ length f.chart.links + length (links_at 1 p.entries) = length-append f.chart.links (links_at 1 p.entries) in
    (record { left = handled_left f l.high here.below; nodes = omega arith; links = omega (arith, more) }, plan_some (tree_held f.chart.root) f.page l f.chart.run.items p e)
reads_leave c = tt

-- ---- a put

pub not_empty : {X : Type 0} (xs : List X) → 0 < length xs → (length xs == 0) ≡ false
not_empty xs h = ne_eqb (length xs) 0 (λ e. omega (arith, e, h))

more_pages : (reserved : Option (List ℕ)) (puts : List PagePut) → (is_none reserved && (length puts == 1)) ≡ false → 0 < length puts → 0 < length (puts_after reserved puts)
more_pages (Some bytes) puts more some = some
more_pages None [] more some = absurd (omega (arith, some))
more_pages None (x ∷ []) more some = absurd (cc (more))
more_pages None (x ∷ y ∷ ys) more some = omega arith

-- ---- what is planned has a page

abbrev pub PlansAfter : FoldingStep → Type 0
PlansAfter (Goes g) = IsPlanned g
PlansAfter (Ends g out) = Unit {0}
PlansAfter (Stops g t) = Unit {0}

reads_plan : {f : Folding} {g : Result (Option (List ℕ)) Trouble} {next : FoldingStep} → Reads f g next → PlansAfter next
reads_plan {f = f} (step.plans got l x xs p here some e) = λ more. plan_some (tree_held f.chart.root) f.page l f.chart.run.items p e
reads_plan c = tt

lands_plan : {f : Folding} {done : Result (Unit {0}) Trouble} {next : FoldingStep} → 0 < length f.placing.puts → Lands f done next → PlansAfter next
lands_plan {f = f} some (step.lands x e) = λ more. more_pages f.placing.reserved f.placing.puts e some
lands_plan some c = tt

works_plan : {f : Folding} {a : Answer} {next : FoldingStep} → IsPlanned f → Works f a next → PlansAfter next
works_plan planned (step.gets nothing r) = reads_plan r
works_plan planned (step.puts some l) = lands_plan (planned some) l

pub plans_after : (f : Folding) (a : Answer) → IsPlanned f → PlansAfter (folding_next f a)
plans_after f a planned = works_plan planned (works f a)
