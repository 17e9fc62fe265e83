use Rattle.std.proofs.Common.{rules, tests, eqb, sym, ◌∙◌, ◌+◌}
use Rattle.std.proofs.lemmas.Iterator.{YieldsList-from_slice}
use Rattle.std.proofs.lemmas.Iterator.Search.{position_from_yields_List}
use Rattle.words.proofs.Splitting.{parts_of-first, take_rest}
use Rattle.words.proofs.parts.split_first.Goals as goal

pub returns-in-None : goal.returns-in-None
returns-in-None c =
    let at = position_from_yields_List (λ b. eqb b c.args.separator) _ _ c.position.result c.position.ensures.ran (YieldsList-from_slice c.args.text.now cc) (λ x b q k. search (rules, tests)) in
    parts_of-first c.args.separator c.args.text.now _ (sym c.in-None.is ∙ at)

pub returns-in-Some : goal.returns-in-Some
returns-in-Some c =
    let at = position_from_yields_List (λ b. eqb b c.args.separator) _ _ c.position.result c.position.ensures.ran (YieldsList-from_slice c.args.text.now cc) (λ x b q k. search (rules, tests)) in
    rw (take_rest (c.in-Some.at + 1) c.args.text.now) (parts_of-first c.args.separator c.args.text.now _ (sym c.in-Some.is ∙ at))
