use Rattle.std.proofs.Common.{◌≡◌, ℕ, List, ◌++◌, subst}
use Rattle.std.specs.Prelude.{OnOk}
use Rattle.leaf_edit.proofs.Passed.{all-bytes}
use Rattle.leaf_edit.proofs.cut.add_rest.Goals as goal

pub returns-in-Some : goal.returns-in-Some
returns-in-Some c =
    let P : List ℕ → Type 0 = λ bytes. OnOk c.try_add.result (c.try_add.new.out.items ≡ c.args.out.now.items ++ bytes) in
    subst P (all-bytes c.args.records c.in-Some.bytes.now c.in-Some.ensures) c.try_add.ensures
