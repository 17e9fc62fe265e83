use Rattle.std.proofs.Common.{sym, ◌∙◌}
use Rattle.words.proofs.Shapes.{numbers_of-more, numbers_of-none, numbers_of-end}
use Rattle.words.proofs.parts.Parts.numbers.Goals as goal

pub loop-word-preserved : goal.loop-word-preserved
loop-word-preserved c =
    let here = rw c.in-Some.ensures.some at c.loop-word.invariant in
    rw c.in_ok-push-in-Some-number_of.ensures.items (numbers_of-more c.loop-word.numbers.items c.in-Some.word.now c.next.new.self c.in-Some-number_of.number (sym c.in-Some-number_of.ensures) ∙ here)

pub returns-in-None : goal.returns-in-None
returns-in-None c =
    let here = rw c.in-Some.ensures.some at c.loop-word.invariant in
    sym here ∙ numbers_of-none c.loop-word.numbers.items c.in-Some.word.now c.next.new.self (sym c.in-None.ensures)

pub returns : goal.returns
returns c =
    let here = rw c.in_default.ensures.none at c.loop-word.invariant in
    sym here ∙ numbers_of-end c.loop-word.numbers.items
