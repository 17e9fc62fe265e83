-- The lease and the page of a leaf stay while the leaf is worked on.
use Rattle.std.proofs.Common.{◌≡◌, ℕ, List, Option, Result, refl}
use Rattle.tree_phases.specs.Folding.{FoldingStep, folding_next}
use Rattle.tree_ckpt.proofs.Words.{Trouble, Answer, Goes, Ends, Stops, Folding}
use Rattle.tree_ckpt.proofs.LeafOutcomes.{Reads, Lands, Works, works}
use Rattle.tree_ckpt.proofs.LeafOutcomes as step

-- a leaf of the same lease, page, tree and run
pub record SameLeaf (f g : Folding) : Type 0 where
  pub lease : g.lease ≡ f.lease
  pub page : g.page ≡ f.page
  pub tree : g.chart.tree ≡ f.chart.tree
  pub run : g.chart.run ≡ f.chart.run

abbrev pub LeavesLeaf : Folding → FoldingStep → Type 0
LeavesLeaf f (Goes g) = SameLeaf f g
LeavesLeaf f (Ends g out) = SameLeaf f g
LeavesLeaf f (Stops g t) = SameLeaf f g

reads_leave : {f : Folding} {g : Result (Option (List ℕ)) Trouble} {next : FoldingStep} → Reads f g next → LeavesLeaf f next
reads_leave (step.refused t) = record { lease = refl; page = refl; tree = refl; run = refl }
reads_leave c = record { lease = refl; page = refl; tree = refl; run = refl }

lands_leave : {f : Folding} {done : Result (Unit {0}) Trouble} {next : FoldingStep} → Lands f done next → LeavesLeaf f next
lands_leave (step.not_put t) = record { lease = refl; page = refl; tree = refl; run = refl }
lands_leave c = record { lease = refl; page = refl; tree = refl; run = refl }

works_leave : {f : Folding} {a : Answer} {next : FoldingStep} → Works f a next → LeavesLeaf f next
works_leave (step.gets nothing r) = reads_leave r
works_leave (step.puts some l) = lands_leave l

pub next_leaves : (f : Folding) (a : Answer) → LeavesLeaf f (folding_next f a)
next_leaves f a = works_leave (works f a)
