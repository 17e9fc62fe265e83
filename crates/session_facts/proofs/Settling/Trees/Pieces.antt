-- How many pages the plans of a tree checkpoint put, beside those for which they reserve a number.
use Rattle.std.proofs.Common.{◌≡◌, ◌+◌, ◌-◌, ◌≤◌, ◌⊎◌, inl, inr, ℕ, List, [], ◌∷◌, ◌++◌, length, map, reverse, Option, Some, None, Result, Ok, refl, sym, ap, subst, ◌∙◌, arith}
use Rattle.std.proofs.lemmas.List.{length-map, length-reverse}
use Rattle.cloud_facts.specs.Words.{Trouble, PuItem, Leaf, Tree, Goes, Ends, Stops}
use Rattle.tree_phases.specs.declared.folding.Folding.{Folding}
use Rattle.tree_phases.specs.declared.folding.Left.TheVariants.{Right, Handled}
use Rattle.tree_phases.specs.declared.page_plan.PagePlan.{PagePlan}
use Rattle.tree_phases.specs.Plan.{leaf_plan}
use Rattle.tree_phases.specs.Folding.{FoldingStep, no_placing}
use Rattle.session_facts.specs.Machines.TreeCheckpoints.Counting.{pieces_by, piece_calls}
use Rattle.split_plan.specs.declared.entry_list.NewEntry.{NewEntry}
use Rattle.split_plan.specs.Part.{Part}
use Rattle.split_plan.specs.Plan.{put_of, on_pages}
use Rattle.tree_ckpt.proofs.Pieces.{PutsParts, leaf_puts, node_puts, root_places}
use Rattle.tree_ckpt.proofs.LeafOutcomes.{Reads}
use Rattle.tree_ckpt.proofs.LeafOutcomes as step
use Rattle.tree_ckpt.specs.Working.{Reserves, PutsPieces, form_of, raised_root}
use Rattle.tree_phases.specs.declared.kept.KeptNode.{KeptNode}
use Rattle.tree_phases.specs.declared.link.Link.{Link}
use Rattle.tree_phases.specs.declared.placing.Placing.{Placing}
use Rattle.tree_phases.specs.Read.{tree_held}
use Rattle.tree_phases.specs.declared.root.RootPlan.{RootPlan}
use Rattle.tree_phases.specs.Nodes.{node_plan}
use Rattle.tree_phases.specs.Rising.{plan_of}
use Rattle.tree_phases.specs.Root.{raised_root as planned_root}

-- ---- pieces

on_as_many : {A X : Type 0} (page free : ℕ) (ps : List (Part A X)) → length (on_pages page free ps) ≡ length ps
on_as_many page free [] = refl
on_as_many page free (p ∷ ps) = omega (arith, on_as_many free (free + 1) ps)

pub puts_as_many : {A X : Type 0} (bytes : Part A X → List ℕ) (page free : ℕ) (ps : List (Part A X))
    → length (reverse (map (put_of bytes) (on_pages page free ps))) ≡ length ps
puts_as_many bytes page free ps =
    length-reverse (map (put_of bytes) (on_pages page free ps)) ∙ length-map (on_pages page free ps) (put_of bytes) ∙ on_as_many page free ps

few_by : (root : Tree) (first count : ℕ) (reserved : Option (List ℕ)) (least puts : ℕ) → Reserves root first count reserved → (count ≡ 0 → puts ≤ least)
    → pieces_by least reserved puts ≤ least
few_by root first count (Some bytes) least puts numbers none = omega arith
few_by root first count None least puts numbers none = none numbers

pieces_few : {A X : Type 0} (key : A → List ℕ) (bytes : Part A X → List ℕ) (root : Tree) (page : ℕ) (whole : Part A X) (placing : Placing) (named : List NewEntry)
    → PutsPieces (form_of key bytes) root page whole placing named → piece_calls 2 placing ≤ 2
pieces_few key bytes root page whole placing named p =
    few_by root p.first (length p.pieces - 1) placing.reserved 2 (length placing.puts) p.numbers
    (λ none. let many = ap length p.puts ∙ puts_as_many bytes page p.first p.pieces in omega (arith, many, none))

root_few : (root t : Tree) (p : RootPlan) → (p.placing ≡ no_placing) ⊎ PutsParts root t p → piece_calls 1 p.placing ≤ 1
root_few root t p (inl h) = subst (λ (q : Placing). piece_calls 1 q ≤ 1) (sym h) (omega arith)
root_few root t p (inr b) =
    few_by root b.first (length b.pieces) p.placing.reserved 1 (length p.placing.puts) b.numbers
    (λ none. let many = ap length b.puts ∙ puts_as_many _ b.first (b.first + 1) b.pieces in omega (arith, many, none))

-- ---- plans

pub leaf_few : (root : Tree) (page : ℕ) (l : Leaf) (run : List PuItem) (p : PagePlan) → leaf_plan root page l run ≡ Ok p → piece_calls 2 p.placing ≤ 2
leaf_few root page l run p e = pieces_few _ _ root page _ p.placing p.entries (leaf_puts root page l run p e)

pub node_few : (root : Tree) (tree : ℕ) (k : KeptNode) (ls : List Link) (p : PagePlan) → node_plan root tree k ls ≡ Ok p → piece_calls 2 p.placing ≤ 2
node_few root tree k ls p e = let puts = node_puts root tree k ls p e in pieces_few _ _ root k.page _ p.placing p.entries puts.2

pub last_few : (root : Tree) (ls : List Link) (top : List (ℕ × ℕ)) (p : RootPlan) → plan_of root (planned_root root ls top) ≡ Ok p → piece_calls 1 p.placing ≤ 1
last_few root ls top p e = root_few root (raised_root root ls top) p (root_places root ls top p e)

-- ---- the get of a leaf

-- the tree object stays; what is planned has few puts beside those of new pages; a leaf that is passed is noted
abbrev pub GotLeaf : Folding → FoldingStep → Type 0
GotLeaf f (Goes g) = (g.chart.root ≡ f.chart.root) × (piece_calls 2 g.placing ≤ 2) × (g.visited ≡ f.visited)
GotLeaf f (Ends g (Right low page)) = (g.chart.root ≡ f.chart.root) × (g.visited ≡ f.visited ++ f.page ∷ [])
GotLeaf f (Ends g Handled) = g.chart.root ≡ f.chart.root
GotLeaf f (Stops g t) = Unit {0}

pub reads_leaf : {f : Folding} {got : Result (Option (List ℕ)) Trouble} {next : FoldingStep} → Reads f got next → GotLeaf f next
reads_leaf (step.passes got l high right behind e) = (refl, refl)
reads_leaf (step.spares got l here none) = refl
reads_leaf {f = f} (step.plans got l x xs p here some e) = (refl, leaf_few (tree_held f.chart.root) f.page l f.chart.run.items p e, refl)
reads_leaf c = tt
