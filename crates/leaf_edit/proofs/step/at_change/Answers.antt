use Rattle.std.proofs.Common.{Some, ◌∷◌, refl, sym, subst, ◌∙◌}
use Rattle.std.specs.Option.{option_map}
use Rattle.db_base.specs.Change.{key_of}
use Rattle.db_base.specs.Value.{Value}
use Rattle.leaf_view.specs.Leaf.{Entry}
use Rattle.leaf_view.specs.Shown.{shown, valued}
use Rattle.leaf_edit.specs.Merging.{Steps}
use Rattle.leaf_edit.proofs.Stepping.{tail-of, before-equal, before-greater, steps-less, steps-equal}
use Rattle.leaf_edit.proofs.step.at_change.Goals as goal

pub folded-requires-in-Equal-clause-records : goal.folded-requires-in-Equal-clause-records
folded-requires-in-Equal-clause-records c = tail-of _ (shown c.in-Some.record) _ (sym c.again.ensures ∙ c.in-Some.ensures) c.requires.records

pub folded-requires-in-Equal-clause-before : goal.folded-requires-in-Equal-clause-before
folded-requires-in-Equal-clause-before c =
    before-equal _ (shown c.in-Some.record) _ _ _ (sym c.again.ensures ∙ c.in-Some.ensures) c.requires.records c.key_at.ensures.key c.in-Equal.ensures

pub folded-requires-in-Greater-clause-before : goal.folded-requires-in-Greater-clause-before
folded-requires-in-Greater-clause-before c =
    before-greater _ (shown c.in-Some.record) _ _ _ (sym c.again.ensures ∙ c.in-Some.ensures) c.key_at.ensures.key c.in-Greater.ensures

pub returns-in-Less : goal.returns-in-Less
returns-in-Less c =
    let P : Entry → Type 0 = λ e. Steps c.args.records c.args.changes (Some e) c.in-Some.behind c.args.changes in
    subst P (sym c.kept.ensures)
    (steps-less _ (shown c.in-Some.record) _ _ c.args.x.now _ _ (sym c.again.ensures ∙ c.in-Some.ensures) c.requires.records c.requires.first
    c.requires.changes c.key_at.ensures.key c.in-Less.ensures)

pub returns-in-Equal : goal.returns-in-Equal
returns-in-Equal c =
    let Q : Value → Type 0 = λ value.
    Steps (record { key = key_of c.args.x.now.rec.change; value = value } ∷ c.in-Some.behind) c.args.changes
    (option_map valued c.folded-in-Equal.result.record) c.folded-in-Equal.result.records c.folded-in-Equal.result.changes in
    steps-equal _ (shown c.in-Some.record) _ _ _ _ _ _ _ _ (sym c.again.ensures ∙ c.in-Some.ensures) refl c.key_at.ensures.key
    c.in-Equal.ensures (subst Q c.with.ensures c.folded-in-Equal.ensures)
