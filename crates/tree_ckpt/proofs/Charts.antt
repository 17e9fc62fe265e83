-- What is known of a tree only grows while a key is worked on.
use Rattle.std.proofs.Common.{◌≡◌, ◌≤◌, ◌+◌, ℕ, Bool, true, false, cond, List, [], ◌∷◌, ◌++◌, length, length-append, Option, Result, refl, arith}
use Rattle.std.proofs.lemmas.List.Edits.{length-insert}
use Rattle.tree_phases.specs.Kept.{stands_before, place_of, with_kept}
use Rattle.tree_phases.specs.declared.fork.Fork.TheVariants.{Right, Down}
use Rattle.tree_phases.specs.Descent.{passed, arrive, with_node, descent_next}
use Rattle.tree_ckpt.proofs.Words.{Trouble, Answer, Next, Goes, Ends, Stops, got_of, Chart, KeptNode, Descent, Fork}
use Rattle.tree_ckpt.proofs.WayOutcomes.{Arrives, Gets, arrives, gets}
use Rattle.tree_ckpt.proofs.WayOutcomes as way

-- a chart of the same tree, run and key with no fewer links, and so many nodes more at least
pub record IsFurther (more : ℕ) (c e : Chart) : Type 0 where
  pub tree : e.tree ≡ c.tree
  pub root : e.root ≡ c.root
  pub applied : e.applied ≡ c.applied
  pub run : e.run ≡ c.run
  pub from : e.from ≡ c.from
  pub key : e.key ≡ c.key
  pub nodes : length c.nodes + more ≤ length e.nodes
  pub links : length c.links ≤ length e.links

pub further_itself : (c : Chart) → IsFurther 0 c c
further_itself c = record { tree = refl; root = refl; applied = refl; run = refl; from = refl; key = refl; nodes = omega arith; links = omega arith }

-- where the way goes on or ends, the chart is further
abbrev pub GoesFurther : {A : Type 0} → ℕ → Chart → Next Descent A → Type 0
GoesFurther n c (Goes e) = IsFurther n c e.chart
GoesFurther n c (Ends e x) = IsFurther n c e.chart
GoesFurther n c (Stops e t) = Unit {0}

-- a link to the right is one more
passed_further : (n : ℕ) (c : Chart) (d : Descent) (fork : Fork) → IsFurther n c d.chart → IsFurther n c (passed d fork).chart
passed_further n c d (Right low page) f =
    let one : length (d.chart.links ++ record { level = d.level + 1; low = low; page = page } ∷ []) ≡ length d.chart.links + 1 =
    length-append d.chart.links (record { level = d.level + 1; low = low; page = page } ∷ []) in
    record { tree = f.tree; root = f.root; applied = f.applied; run = f.run; from = f.from; key = f.key; nodes = f.nodes; links = omega (arith, one, f.links) }
passed_further n c d (Down low page) f = f

way_further : {d : Descent} {next : Next Descent (Unit {0})} (n : ℕ) (c : Chart) → IsFurther n c d.chart → Arrives d next → GoesFurther n c next
way_further n c f (way.at_leaf d level) = f
way_further n c f (way.at_node d fresh none) = f
way_further n c f (way.further d k fork p on) = way_further n c (passed_further n c d fork f) on
way_further n c f w = tt

pub arrive_further : (d : Descent) → GoesFurther 0 d.chart (arrive d)
arrive_further d = way_further 0 d.chart (further_itself d.chart) (arrives d)

-- ---- a node that is got is one more

place_within : (k : KeptNode) (ks : List KeptNode) → place_of k ks ≤ length ks
place_within k [] = omega arith
place_within k (m ∷ ms) = on (stands_before k m) (place_within k ms) where
  on : (b : Bool) → place_of k ms ≤ length ms → cond b 0 (place_of k ms + 1) ≤ length (m ∷ ms)
  on true h = omega arith
  on false h = omega (arith, h)

node_further : (d : Descent) (bytes : List ℕ) → IsFurther 1 d.chart (with_node d bytes).chart
node_further d bytes =
    let k : KeptNode = record { page = d.page; level = d.level; low = d.low; bytes = bytes } in
    let one : length (with_kept k d.chart.nodes) ≡ length d.chart.nodes + 1 = length-insert d.chart.nodes (place_of k d.chart.nodes) k (place_within k d.chart.nodes) in
    record { tree = refl; root = refl; applied = refl; run = refl; from = refl; key = refl; nodes = omega (arith, one); links = omega arith }

gets_further : {d : Descent} {g : Result (Option (List ℕ)) Trouble} {next : Next Descent (Unit {0})} → Gets d g next → GoesFurther 1 d.chart next
gets_further {d = d} (way.goes_on bytes n fork is leads on) = way_further 1 d.chart (passed_further 1 d.chart (with_node d bytes) fork (node_further d bytes)) on
gets_further w = tt

pub descent_further : (d : Descent) (a : Answer) → GoesFurther 1 d.chart (descent_next d a)
descent_further d a = gets_further (gets d (got_of a))
