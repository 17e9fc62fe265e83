-- Laws of what entries come to.
use Rattle.std.proofs.Common.{◌≡◌, ℕ, Bool, true, false, List, [], ◌∷◌, ◌++◌, refl, ap, sym, ◌∙◌, cond}
use Rattle.std.specs.Prelude.{◌==◌}
use Rattle.report_types.specs.declared.entry.Entry.{Entry}
use Rattle.history.specs.Fold.{Records, changed_by, fold_onto, of_tree}

-- entries fold one part after the other
pub fold_onto-append : (records : Records) (earlier later : List Entry) (tree : ℕ) → fold_onto records (earlier ++ later) tree ≡ fold_onto (fold_onto records earlier tree) later tree
fold_onto-append records [] later tree = refl
fold_onto-append records (entry ∷ earlier) later tree = fold_onto-append (cond (entry.tree == tree) (changed_by records entry.change) records) earlier later tree

-- entries of other trees do nothing
pub fold_onto-of_tree : (records : Records) (entries : List Entry) (tree : ℕ) → fold_onto records (of_tree tree entries) tree ≡ fold_onto records entries tree
fold_onto-of_tree records [] tree = refl
fold_onto-of_tree records (entry ∷ entries) tree = on (λ r. fold_onto-of_tree r entries tree) (entry.tree == tree) refl where
  on : ((r : Records) → fold_onto r (of_tree tree entries) tree ≡ fold_onto r entries tree) → (b : Bool) → (entry.tree == tree) ≡ b → fold_onto records (of_tree tree (entry ∷ entries)) tree ≡ fold_onto records (entry ∷ entries) tree
  on further true e =
      ap (λ b. fold_onto records (cond b (entry ∷ of_tree tree entries) (of_tree tree entries)) tree) e
      ∙ ap (λ b. fold_onto (cond b (changed_by records entry.change) records) (of_tree tree entries) tree) e
      ∙ further (changed_by records entry.change)
      ∙ sym (ap (λ b. fold_onto (cond b (changed_by records entry.change) records) entries tree) e)
  on further false e =
      ap (λ b. fold_onto records (cond b (entry ∷ of_tree tree entries) (of_tree tree entries)) tree) e
      ∙ further records
      ∙ sym (ap (λ b. fold_onto (cond b (changed_by records entry.change) records) entries tree) e)
