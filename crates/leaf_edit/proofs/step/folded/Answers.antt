use Rattle.std.proofs.Common.{◌≡◌, ◌∷◌, List, Option, ℕ, drop, sym, subst, ◌∙◌, ap}
use Rattle.db_base.specs.Change.{key_of, act}
use Rattle.db_base.specs.Value.{Value}
use Rattle.leaf_view.specs.Leaf.{Entry}
use Rattle.log_codec.specs.declared.record.PuItem.{PuItem}
use Rattle.leaf_edit.specs.Edited.{with_value}
use Rattle.leaf_edit.specs.Merging.{AllFrom, AreChanges, Folds, Steps, entry_at}
use Rattle.leaf_edit.proofs.Stepping.{step-folded}
use Rattle.leaf_edit.proofs.step.folded.Goals as goal

pub fold_key-value-requires-clause-from : goal.fold_key-value-requires-clause-from
fold_key-value-requires-clause-from c =
    let are : AreChanges (c.args.x.now ∷ drop 1 c.args.changes) = subst AreChanges c.requires.first c.requires.changes in
    let F : List PuItem → Type 0 = λ rest. AllFrom c.key_at-key.result.now rest in
    let K : List ℕ → Type 0 = λ key. AllFrom key (drop 1 c.args.changes) in
    subst F (sym c.behind.ensures) (subst K (sym c.key_at-key.ensures.key) are.rise.0)

pub returns : goal.returns
returns c =
    let K : List ℕ → Type 0 = λ key. Folds key c.act_sized-value.result c.behind.result c.fold_key-value.result.0 c.fold_key-value.result.1 in
    let P : Option Value → Type 0 = λ value. Folds (key_of c.args.x.now.rec.change) value c.behind.result c.fold_key-value.result.0 c.fold_key-value.result.1 in
    let C : List PuItem → Type 0 = λ changes.
    Steps (with_value (key_of c.args.x.now.rec.change) c.args.old c.args.records) changes
    (entry_at (key_of c.args.x.now.rec.change) c.fold_key-value.result.0) c.args.records c.fold_key-value.result.1 in
    let R : Option Entry → Type 0 = λ known. Steps (with_value (key_of c.args.x.now.rec.change) c.args.old c.args.records) c.args.changes known c.args.records c.fold_key-value.result.1 in
    let first : c.args.x.now ∷ c.behind.result ≡ c.args.changes = ap (λ (rest : List PuItem). c.args.x.now ∷ rest) c.behind.ensures ∙ sym c.requires.first in
    let folds : Folds (key_of c.args.x.now.rec.change) (act c.args.old c.args.x.now.rec.change) c.behind.result c.fold_key-value.result.0 c.fold_key-value.result.1 =
    subst P c.act_sized-value.ensures.act (subst K c.key_at-key.ensures.key c.fold_key-value.ensures) in
    subst R (ap (λ k. entry_at k c.fold_key-value.result.0) (sym c.key_at-key.ensures.key) ∙ sym c.entry_at.ensures)
    (subst C first (step-folded c.args.old c.args.records c.args.x.now c.behind.result c.fold_key-value.result.0 c.fold_key-value.result.1
    c.requires.records c.requires.before c.key_at-key.ensures.is_key folds))
