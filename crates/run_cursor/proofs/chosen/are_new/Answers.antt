use Rattle.std.proofs.Common.{rules, ◌≡◌, ◌∷◌}
use Rattle.std.proofs.lemmas.List.{nil_from_length}
use Rattle.run_cursor.proofs.Coming.{begin, next, all}
use Rattle.run_cursor.proofs.chosen.are_new.Goals as goal

pub loop-x-init : goal.loop-x-init
loop-x-init c = begin _ _ _ _

pub loop-x-preserved : goal.loop-x-preserved
loop-x-preserved c =
    let left : c.loop-x.left.now ≡ c.in-Some.x.now ∷ c.in-Some.rest.now = search rules in
    next _ _ c.loop-x.upto _ _ _ c.in-Some.x.now _ c.loop-x.invariant left (c.is_new.ensures (search rules)) c.read.ensures c.in_ok-raise.ensures

pub returns : goal.returns
returns c = λ _. all _ _ c.loop-x.upto _ _ c.loop-x.invariant (nil_from_length _ c.in_default.ensures.cases)
