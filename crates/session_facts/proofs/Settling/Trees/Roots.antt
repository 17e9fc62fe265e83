-- The tree object that a tree checkpoint has in hand, from step to step.
use Rattle.std.proofs.Common.{◌≡◌, ℕ, true, false, List, Option, Result, Ok, refl, sym, ap, subst, ◌∙◌}
use Rattle.cloud_facts.specs.Words.{Trouble, Answer, Next, Goes, Ends, Stops, done_of, got_of}
use Rattle.tree_phases.specs.declared.folding.Folding.{Folding}
use Rattle.tree_phases.specs.declared.folding.Left.{Left}
use Rattle.tree_phases.specs.declared.folding.Left.TheVariants.{Right, Handled}
use Rattle.tree_phases.specs.Folding as fold
use Rattle.session_facts.specs.Machines.TreeCheckpoints.Counting.{HasRoot}
use Rattle.tree_ckpt.proofs.Charts.{GoesFurther, arrive_further, descent_further}
use Rattle.tree_ckpt.proofs.LeafOutcomes.{works}
use Rattle.tree_ckpt.proofs.LeafOutcomes as leaf
use Rattle.tree_ckpt.proofs.Outcomes.{Seeks, Descends, Ascends, Comes, comes}
use Rattle.tree_ckpt.proofs.Outcomes as step
use Rattle.tree_ckpt.proofs.RiseOutcomes.{rises, lands}
use Rattle.tree_ckpt.proofs.RiseOutcomes as rise
use Rattle.tree_phases.specs.declared.descent.Descent.{Descent}
use Rattle.tree_phases.specs.Descent as way
use Rattle.tree_ckpt.specs.declared.work.Held.{Held}
use Rattle.tree_ckpt.specs.declared.work.Work.{Work}
use Rattle.tree_ckpt.specs.declared.work.Work.TheVariants as work
use Rattle.tree_ckpt.specs.Moves.{Step, root_entry, down_from, onward_from, Leads}
use Rattle.tree_phases.specs.declared.chart.Chart.{Chart}
use Rattle.tree_phases.specs.Placing.{has_nothing, landed_root}
use Rattle.tree_phases.specs.declared.rising.Rising.{Rising}
use Rattle.tree_phases.specs.Rising as up

-- and wherever a step leads
abbrev pub RootNext : Option (List ℕ) → Step → Type 0
RootNext got (Goes w) = HasRoot got w
RootNext got (Ends w a) = Unit {0}
RootNext got (Stops w t) = Unit {0}

-- the newest tree object behind a call, by the one before it: a put may have landed
abbrev pub NewestBy : Work → Answer → Option (List ℕ) → Option (List ℕ) → Type 0
NewestBy (work.GettingTree l) a got new = (v : Option (List ℕ)) → got_of a ≡ Ok v → v ≡ new
NewestBy (work.Folding h f) a got new =
    (has_nothing f.placing ≡ true → new ≡ got) × (has_nothing f.placing ≡ false → done_of a ≡ Ok tt → new ≡ landed_root f.placing got)
NewestBy (work.Rising h r) a got new = has_nothing r.placing ≡ false → done_of a ≡ Ok tt → new ≡ landed_root r.placing got
NewestBy w a got new = new ≡ got

-- ---- down and up

-- where the way leads on, it has this tree object
abbrev WayRoot : Option (List ℕ) → Next Descent (Unit {0}) → Type 0
WayRoot got (Goes d) = d.chart.root ≡ got
WayRoot got (Ends d x) = d.chart.root ≡ got
WayRoot got (Stops d t) = Unit {0}

abbrev UpRoot : Option (List ℕ) → Next Rising (Unit {0}) → Type 0
UpRoot got (Goes r) = r.chart.root ≡ got
UpRoot got (Ends r x) = Unit {0}
UpRoot got (Stops r t) = Unit {0}

further_root : (got : Option (List ℕ)) (n : ℕ) (c : Chart) (next : Next Descent (Unit {0})) → c.root ≡ got → GoesFurther n c next → WayRoot got next
further_root got n c (Goes d) is f = f.root ∙ is
further_root got n c (Ends d x) is f = f.root ∙ is
further_root got n c (Stops d t) is f = tt

rises_root : {got : Option (List ℕ)} {r : Rising} {next : Next Rising (Unit {0})} → r.chart.root ≡ got → rise.Rises r next → UpRoot got next
rises_root is (rise.node_due k p at e) = is
rises_root is (rise.root_due p none e) = is
rises_root is c = tt

lands_root : (got new : Option (List ℕ)) {r : Rising} {done : Result (Unit {0}) Trouble} {next : Next Rising (Unit {0})} → r.chart.root ≡ got
    → (has_nothing r.placing ≡ false → done ≡ Ok tt → new ≡ landed_root r.placing got) → rise.Lands r done next → UpRoot new next
lands_root got new {r = r} is by (rise.more x some rising) = ap (λ (root : Option (List ℕ)). landed_root r.placing root) is ∙ sym (by some refl)
lands_root got new {r = r} is by (rise.goes_on x some nothing none next) = rises_root (ap (λ (root : Option (List ℕ)). landed_root r.placing root) is ∙ sym (by some refl)) next
lands_root got new is by c = tt

seeks_root : (got new : Option (List ℕ)) {tree : ℕ} {w : Work} {a : Answer} {h : Held} {c : Chart} → HasRoot got w → NewestBy w a got new → Seeks tree w a h c → c.root ≡ new
seeks_root got new is by (step.with_run l root ms i takes some) = is ∙ sym by
seeks_root got new is by (step.from_leaf h l c a) = is ∙ sym by
seeks_root got new is by (step.alone h c a) = is ∙ sym by

descends_root : (got new : Option (List ℕ)) {tree : ℕ} {w : Work} {a : Answer} {h : Held} {next : Next Descent (Unit {0})} → HasRoot got w → NewestBy w a got new
    → Descends tree w a h next → WayRoot new next
descends_root got new is by (step.begins {c = c} key seeks e) =
    let to : Chart = record c { key = key } in
    further_root new 0 to (down_from to (root_entry to)) (seeks_root got new is by seeks) (arrive_further (way.begun to (root_entry to).0 (root_entry to).1))
descends_root got new is by (step.goes_on h d a) = further_root new 1 d.chart (way.descent_next d a) (is ∙ sym by) (descent_further d a)

ascends_root : (got new : Option (List ℕ)) {tree : ℕ} {w : Work} {a : Answer} {h : Held} {next : Next Rising (Unit {0})} → HasRoot got w → NewestBy w a got new
    → Ascends tree w a h next → UpRoot new next
ascends_root got new is by (step.begins_up {c = c} seeks e) = rises_root (seeks_root got new is by seeks) (rises (up.begun c))
ascends_root got new is by (step.goes_up h r a) = lands_root got new is by (lands r (done_of a))

-- ---- a leaf

abbrev LeafRoot : Option (List ℕ) → Next Folding Left → Type 0
LeafRoot got (Goes f) = f.chart.root ≡ got
LeafRoot got (Ends f out) = f.chart.root ≡ got
LeafRoot got (Stops f t) = Unit {0}

reads_root : {got : Option (List ℕ)} {f : Folding} {g : Result (Option (List ℕ)) Trouble} {next : Next Folding Left} → f.chart.root ≡ got → leaf.Reads f g next → LeafRoot got next
reads_root is (leaf.passes read l high right behind e) = is
reads_root is (leaf.spares read l here none) = is
reads_root is (leaf.plans read l x xs p here some e) = is
reads_root is c = tt

placed_root : (got new : Option (List ℕ)) {f : Folding} {done : Result (Unit {0}) Trouble} {next : Next Folding Left} → f.chart.root ≡ got
    → (done ≡ Ok tt → new ≡ landed_root f.placing got) → leaf.Lands f done next → LeafRoot new next
placed_root got new is by (leaf.not_put t) = tt
placed_root got new {f = f} is by (leaf.lands x e) = ap (λ (root : Option (List ℕ)). landed_root f.placing root) is ∙ sym (by refl)
placed_root got new {f = f} is by (leaf.is_put x e) = ap (λ (root : Option (List ℕ)). landed_root f.placing root) is ∙ sym (by refl)

folding_root : (got new : Option (List ℕ)) (h : Held) (f : Folding) (a : Answer) → f.chart.root ≡ got → NewestBy (work.Folding h f) a got new → LeafRoot new (fold.folding_next f a)
folding_root got new h f a is by = on (works f a) where
  on : {next : Next Folding Left} → leaf.Works f a next → LeafRoot new next
  on (leaf.gets e r) = reads_root (is ∙ sym (by.0 e)) r
  on (leaf.puts e l) = placed_root got new is (by.1 e) l

onward_root : (got : Option (List ℕ)) (h : Held) (f : Folding) (out : Left) → f.chart.root ≡ got → HasRoot got (work.ReleasingPage h f.lease (onward_from f out))
onward_root got h f (Right low page) is = is
onward_root got h f Handled is = is

-- ---- wherever it stands

next_root : (got new : Option (List ℕ)) {tree : ℕ} {w : Work} {a : Answer} {next : Step} → HasRoot got w → NewestBy w a got new → Comes tree w a next → RootNext new next
next_root got new is by (step.reads_tree l read whole) = by read refl
next_root got new is by (step.descends h d down) = descends_root got new is by down
next_root got new is by (step.arrives h d x down) = descends_root got new is by down
next_root got new is by (step.takes_page h c l) = is ∙ sym by
next_root got new is by (step.folds h f g a e) = subst (LeafRoot new) e (folding_root got new h f a is by)
next_root got new is by (step.leaves h f g out a e) = onward_root new h g out (subst (LeafRoot new) e (folding_root got new h f a is by))
next_root got new is by (step.turns h l c a) = is ∙ sym by
next_root got new is by (step.turns_alone h c a) = is ∙ sym by
next_root got new is by (step.ascends h r rising) = ascends_root got new is by rising
next_root got new is by c = tt

pub root_goes : (tree : ℕ) (w : Work) (a : Answer) (next : Step) (got new : Option (List ℕ)) → HasRoot got w → NewestBy w a got new
    → Leads tree w a next → RootNext new next
root_goes tree w a next got new is by leads = next_root got new is by (comes tree w a next leads)
