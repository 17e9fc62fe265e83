use Rattle.std.proofs.Common.{◌≡◌, ℕ, List, take, subst}
use Rattle.std.specs.Prelude.{OnOk}
use Rattle.leaf_edit.proofs.Passed.{front-added}
use Rattle.leaf_edit.proofs.cut.add_front.Goals as goal

pub returns-in_ok-try_add-in-Some : goal.returns-in_ok-try_add-in-Some
returns-in_ok-try_add-in-Some c =
    let P : List ℕ → Type 0 = λ bytes. OnOk c.try_add_u8.result (c.try_add_u8.new.out.items ≡ bytes) in
    subst P (front-added c.args.out.now.items _ c.in-Some.bytes.now (take c.args.n c.args.records) c.in_ok-try_add-in-Some.ensures c.in-Some.ensures) c.try_add_u8.ensures
