use Rattle.std.proofs.Common.{◌≡◌, ◌++◌, take, drop}
use Rattle.recover_run.specs.declared.items.AtomicItem.{AtomicItem}
use Rattle.recover_run.specs.Kept.{with_item}
use Rattle.recover_run.proofs.kept.place_of.Given as goal

abbrev pub invariant-loop-i : goal.invariant-loop-i
invariant-loop-i l = (x : AtomicItem) → x.rec.index ≡ l.index → with_item l.items x ≡ take l.i l.items ++ with_item (drop l.i l.items) x
