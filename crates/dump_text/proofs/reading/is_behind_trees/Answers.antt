use Rattle.std.proofs.Common.{◌≡◌, ◌-◌, Some, None, length, slice_get, nat_lt}
use Rattle.dump_text.specs.Dump.{tree_below}
use Rattle.dump_text.specs.Steps.{is_behind, last_behind}
use Rattle.dump_text.proofs.Ascents.{behind_last}
use Rattle.dump_text.proofs.States.{tree_alone}
use Rattle.dump_text.proofs.reading.is_behind_trees.Goals as goal

pub returns-in-Some : goal.returns-in-Some
returns-in-Some c =
    let at : Some c.in-Some.last.now ≡ slice_get c.args.trees.now (length c.args.trees.now - 1) = rw c.as_slice.ensures at c.in-Some.ensures.value in
    let is : nat_lt c.in-Some.last.now.tree c.args.tree ≡ is_behind tree_below (last_behind None c.args.trees.now) (tree_alone c.args.tree) = behind_last tree_below c.args.trees.now c.in-Some.last.now (tree_alone c.args.tree) at in
    cc (c.get.ensures.number)
