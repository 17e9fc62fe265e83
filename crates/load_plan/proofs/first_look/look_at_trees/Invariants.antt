use Rattle.load_plan.specs.FirstLook.{numbers, tree_names, LookedAtAll}
use Rattle.load_plan.proofs.first_look.look_at_trees.Given as goal

-- the objects and pages so far are not there
abbrev pub invariant-loop-number : goal.invariant-loop-number
invariant-loop-number g l = LookedAtAll (tree_names (numbers 1 l.number)) (g.C.Cloud.seen l.fn.cloud) (g.C.Cloud.seen l.cloud)
