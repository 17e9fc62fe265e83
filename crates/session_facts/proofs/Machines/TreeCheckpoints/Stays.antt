-- A tree checkpoint stays with its tree.
use Rattle.std.proofs.Common.{◌≡◌, ◌∙◌, ℕ, refl, sym, subst}
use Rattle.cloud_trait.specs.declared.answer.Answer.{Answer}
use Rattle.cloud_trait.specs.Machine.{Next, Goes, Ends, Stops}
use Rattle.tree_phases.specs.declared.folding.Folding.{Folding}
use Rattle.tree_phases.specs.declared.folding.Left.{Left}
use Rattle.tree_phases.specs.declared.folding.Left.TheVariants as left
use Rattle.session_facts.proofs.Machines.Risings.Stays.{StaysIn, rise_stays, rising_stays_in}
use Rattle.tree_phases.specs.declared.chart.Chart.{Chart}
use Rattle.tree_phases.specs.declared.descent.Descent.{Descent}
use Rattle.tree_phases.specs.Descent.{begun, descent_next}
use Rattle.tree_phases.specs.declared.rising.Rising.{Rising as Up}
use Rattle.tree_phases.specs.Rising.{begun as up_begun, rise, rising_next}
use Rattle.tree_ckpt.specs.declared.work.Held.{Held}
use Rattle.tree_ckpt.specs.declared.work.Work.{Work}
use Rattle.tree_ckpt.specs.Moves.{Step, down_from, root_entry, onward_from}
use Rattle.tree_ckpt.specs.Making.{Making, MakingLeads}
use Rattle.tree_ckpt.proofs.Charts.{GoesFurther, arrive_further, descent_further}
use Rattle.tree_ckpt.proofs.Leaving.{LeavesLeaf, next_leaves}
use Rattle.tree_ckpt.proofs.Outcomes.{Seeks, Descends, Ascends, Comes, comes}
use Rattle.tree_ckpt.proofs.Outcomes as step
use Rattle.session_facts.specs.Lines.Running.{IsOnward, IsOfTree}

-- the way stays in the tree
abbrev WayIn : ℕ → Next Descent (Unit {0}) → Type 0
WayIn tree (Goes d) = d.chart.tree ≡ tree
WayIn tree (Ends d x) = d.chart.tree ≡ tree
WayIn tree (Stops d t) = Unit {0}

further_in : (tree n : ℕ) (c : Chart) (next : Next Descent (Unit {0})) → c.tree ≡ tree → GoesFurther n c next → WayIn tree next
further_in tree n c (Goes d) s f = f.tree ∙ s
further_in tree n c (Ends d x) s f = f.tree ∙ s
further_in tree n c (Stops d t) s f = tt

seeks_in : {tree : ℕ} {w : Work} {a : Answer} {h : Held} {c : Chart} → IsOfTree tree w → Seeks tree w a h c → c.tree ≡ tree
seeks_in s (step.with_run l root ms i takes some) = refl
seeks_in s (step.from_leaf h l c a) = s
seeks_in s (step.alone h c a) = s

descends_in : {tree : ℕ} {w : Work} {a : Answer} {h : Held} {next : Next Descent (Unit {0})} → IsOfTree tree w → Descends tree w a h next → WayIn tree next
descends_in {tree = tree} s (step.begins {c = c} key seeks e) =
    let to : Chart = record c { key = key } in
    further_in tree 0 to (down_from to (root_entry to)) (seeks_in s seeks) (arrive_further (begun to (root_entry to).0 (root_entry to).1))
descends_in {tree = tree} s (step.goes_on h d a) = further_in tree 1 d.chart (descent_next d a) s (descent_further d a)

ascends_in : {tree : ℕ} {w : Work} {a : Answer} {h : Held} {next : Next Up (Unit {0})} → IsOfTree tree w → Ascends tree w a h next → StaysIn tree next
ascends_in s (step.begins_up {c = c} seeks e) = subst (λ (n : ℕ). StaysIn n (rise (up_begun c))) (seeks_in s seeks) (rise_stays (up_begun c))
ascends_in s (step.goes_up h r a) = subst (λ (n : ℕ). StaysIn n (rising_next r a)) s (rising_stays_in r a)

abbrev StepIn : ℕ → Step → Type 0
StepIn tree (Goes w) = IsOfTree tree w
StepIn tree (Ends w answer) = Unit {0}
StepIn tree (Stops w t) = Unit {0}

onward_in : (tree : ℕ) (f : Folding) (out : Left) → f.chart.tree ≡ tree → IsOnward tree (onward_from f out)
onward_in tree f (left.Right low page) s = s
onward_in tree f left.Handled s = s

stays_in : {tree : ℕ} {w : Work} {a : Answer} {next : Step} → IsOfTree tree w → Comes tree w a next → StepIn tree next
stays_in s (step.descends h d way) = descends_in s way
stays_in s (step.arrives h d x way) = descends_in s way
stays_in s (step.takes_page h c l) = s
stays_in s (step.folds h f g a e) = let same : LeavesLeaf f (Goes g) = subst (LeavesLeaf f) e (next_leaves f a) in same.tree ∙ s
stays_in {tree = tree} s (step.leaves h f g out a e) =
    let same : LeavesLeaf f (Ends g out) = subst (LeavesLeaf f) e (next_leaves f a) in onward_in tree g out (same.tree ∙ s)
stays_in s (step.turns h l c a) = s
stays_in s (step.turns_alone h c a) = s
stays_in s (step.ascends h r up) = ascends_in s up
stays_in s c = tt

pub tree_stays : (m n : Making) (a : Answer) → MakingLeads m a (Goes n) → IsOfTree m.tree m.work → IsOfTree n.tree n.work
tree_stays m n a leads s =
    subst (λ tree. IsOfTree tree n.work) (sym leads.0.0) (stays_in s (comes m.tree m.work a (Goes n.work) leads.1))
