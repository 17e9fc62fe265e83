use Rattle.std.proofs.Common.{◌+◌, length, arith}
use Rattle.leaf_edit.proofs.Passed.{all-size, tried-size}
use Rattle.leaf_edit.proofs.merging.rest_len.Goals as goal

pub returns-in-Some : goal.returns-in-Some
returns-in-Some c =
    tried-size _ (c.args.total + length c.in-Some.bytes.now) _ c.checked_add.ensures
    (omega (arith, all-size c.args.records c.in-Some.bytes.now c.in-Some.ensures))
