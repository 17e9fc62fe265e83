use Rattle.std.proofs.Common.{rules, ◌≡◌, ◌+◌, ◌++◌, ◌∷◌, []}
use Rattle.attr_index.proofs.Turns.{raised_next, left_next}
use Rattle.attr_index.proofs.prefix.next_of.Goals as goal

pub returns-then-last-lt255 : goal.returns-then-last-lt255
returns-then-last-lt255 c =
    let of : c.loop-last.front.now ≡ c.in-Some.rest.now ++ c.in-Some.field-0-0.now ∷ [] = search rules in
    let is : c.of.result ≡ c.in-Some.rest.now ++ (c.in-Some.field-0-0.now + 1) ∷ [] = search rules in
    raised_next c.args.prefix.now c.loop-last.front.now c.of.result c.in-Some.rest.now c.in-Some.field-0-0.now c.if-last-lt255.true of is c.loop-last.invariant

pub loop-last-preserved : goal.loop-last-preserved
loop-last-preserved c =
    let of : c.loop-last.front.now ≡ c.in-Some.rest.now ++ c.in-Some.field-0-0.now ∷ [] = search rules in
    left_next c.args.prefix.now c.loop-last.front.now c.in-Some.rest.now c.in-Some.field-0-0.now c.if-last-lt255.false of c.loop-last.invariant
