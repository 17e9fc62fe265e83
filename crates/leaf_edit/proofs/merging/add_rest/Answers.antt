use Rattle.std.proofs.Common.{ℕ, List, arith, subst}
use Rattle.byte_format.specs.Adds.{Adds}
use Rattle.leaf_edit.proofs.Passed.{all-bytes, all-size}
use Rattle.leaf_edit.proofs.merging.add_rest.Goals as goal

pub add-requires : goal.add-requires
add-requires c = omega (arith, all-size c.args.records c.in-Some.bytes.now c.in-Some.ensures)

pub returns-in-Some : goal.returns-in-Some
returns-in-Some c =
    let A : List ℕ → Type 0 = λ bytes. Adds c.args.out.now c.add.new.out bytes in
    subst A (all-bytes c.args.records c.in-Some.bytes.now c.in-Some.ensures) c.add.ensures
