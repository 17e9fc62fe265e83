use Rattle.std.proofs.Common.{List, subst}
use Rattle.leaf_view.specs.Leaf.{Entry}
use Rattle.leaf_edit.specs.Passing.{Passes}
use Rattle.leaf_edit.specs.Spelled.{run_bytes}
use Rattle.leaf_edit.proofs.Passed.{run-front}
use Rattle.leaf_edit.proofs.passing.pass.Goals as goal

pub returns-in-Some-spelling : goal.returns-in-Some-spelling
returns-in-Some-spelling c =
    let front : List Entry = c.from_key-rest.ensures.0 in
    let P : List Entry → Type 0 = λ es. Passes c.args.key.now es front c.from_key-rest.result in
    let passes : Passes c.args.key.now c.args.records front c.from_key-rest.result = subst P c.again.ensures c.from_key-rest.ensures.1 in
    (front, passes, c.before-in-Some-spelling.ensures (run_bytes front) (run-front c.args.key.now _ front _ _ _ passes c.in-Some.ensures c.in-Some-spelling.ensures))
