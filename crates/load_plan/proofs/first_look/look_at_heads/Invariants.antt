use Rattle.std.proofs.Common.{map}
use Rattle.db_base.specs.declared.names.ObjName.TheVariants.{Head}
use Rattle.load_plan.specs.FirstLook.{numbers, LookedAtAll}
use Rattle.load_plan.proofs.first_look.look_at_heads.Given as goal

-- the heads so far are not there
abbrev pub invariant-loop-number : goal.invariant-loop-number
invariant-loop-number g l = LookedAtAll (map Head (numbers 1 l.number)) (g.C.Cloud.seen l.fn.cloud) (g.C.Cloud.seen l.cloud)
