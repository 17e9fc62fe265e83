use Rattle.std.proofs.Common.{◌≡◌, ◌∷◌, List, Option, drop, sym, subst, ◌∙◌}
use Rattle.db_base.specs.Value.{Value}
use Rattle.log_codec.specs.declared.record.PuItem.{PuItem}
use Rattle.leaf_edit.specs.Merging.{Folds}
use Rattle.leaf_edit.proofs.Folding.{IsFolding, step, end}
use Rattle.leaf_edit.proofs.step.fold_key.Goals as goal

pub loop-x-preserved : goal.loop-x-preserved
loop-x-preserved c =
    let left : c.loop-x.left ≡ c.in-Some.x.now ∷ drop 1 c.loop-x.left = c.in-Some.ensures in
    let P : List PuItem → Type 0 = λ left. IsFolding c.args.key.now c.args.old c.args.changes c.loop-x.value left in
    let Q : Option Value → Type 0 = λ value. IsFolding c.args.key.now c.args.old c.args.changes value (drop 1 c.loop-x.left) in
    let R : List PuItem → Type 0 = λ left. IsFolding c.args.key.now c.args.old c.args.changes c.act-value.result left in
    subst R (sym c.behind-left.ensures)
    (subst Q (sym c.act-value.ensures) (step _ _ _ _ c.in-Some.x.now _ (subst P left c.loop-x.invariant) (sym c.is_at.ensures ∙ c.if-not-is_at.false)))

pub returns-then-not-is_at : goal.returns-then-not-is_at
returns-then-not-is_at c =
    let left : c.loop-x.left ≡ c.in-Some.x.now ∷ drop 1 c.loop-x.left = c.in-Some.ensures in
    let P : List PuItem → Type 0 = λ left. IsFolding c.args.key.now c.args.old c.args.changes c.loop-x.value left in
    let Q : List PuItem → Type 0 = λ left. Folds c.args.key.now c.args.old c.args.changes c.loop-x.value left in
    subst Q (sym left) (end _ _ _ _ c.in-Some.x.now _ (subst P left c.loop-x.invariant) (sym c.is_at.ensures ∙ c.if-not-is_at.true))
