use Rattle.std.proofs.Common.{rules, ◌≡◌, ◌∷◌, List, subst}
use Rattle.log_codec.specs.declared.record.PuItem.{PuItem}
use Rattle.run_cursor.proofs.Tops.{IsTopOfPassed, start, pass_step, end}
use Rattle.run_cursor.proofs.top.top_of.Goals as goal

pub loop-x-init : goal.loop-x-init
loop-x-init c = start _ _ _ c.in_ok-top.ensures

pub loop-x-preserved : goal.loop-x-preserved
loop-x-preserved c =
    let left : c.loop-x.left.now ≡ c.in-Some.x.now ∷ c.in-Some.rest.now = search rules in
    let P : List PuItem → Type 0 = λ left. IsTopOfPassed c.args.cursor.now c.args.items.now left c.loop-x.top in
    pass_step _ _ _ _ c.loop-x.top _ (subst P left c.loop-x.invariant) c.in_ok-pass.ensures

pub returns : goal.returns
returns c = end _ _ _ _ c.in_default.ensures.cases c.loop-x.invariant
