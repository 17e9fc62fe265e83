-- What entries that a leaf takes come to at a key.
use Rattle.std.proofs.Common.{◌≡◌, ◌≢◌, ℕ, Bool, true, false, cond, eqb, List, [], ◌∷◌, Option, refl, sym, ap, ◌∙◌}
use Rattle.std.specs.Prelude.{map, filter}
use Rattle.std.specs.List.{AllByRecursion}
use Rattle.std.proofs.lemmas.Bool.{eq-eqb, ne_eqb, and_parts}
use Rattle.byte_format.specs.Order.{bytes_same}
use Rattle.byte_format.proofs.OrderLemmas.{same_is}
use Rattle.db_base.specs.Change.{key_of}
use Rattle.db_base.specs.Value.{Value}
use Rattle.history.specs.Fold.{Records, changed_by, fold_onto}
use Rattle.leaf_edit.specs.Acted.{acted_by}
use Rattle.leaf_edit.specs.Lacked.{is_lacked, lacked}
use Rattle.leaf_view.specs.Leaf.{Leaf}
use Rattle.leaf_view.specs.Lookup.{holds}
use Rattle.log_codec.specs.declared.record.PuItem.{PuItem}
use Rattle.cloud_facts.specs.Book.Effects.{taken_entry}

-- in their own tree they act on the value at the key, one after another
pub fold_acts : (tree : ℕ) (r : Records) (xs : List PuItem) (key : List ℕ) → fold_onto r (map (taken_entry tree) xs) tree key ≡ acted_by key (r key) xs
fold_acts tree r [] key = refl
fold_acts tree r (x ∷ xs) key =
    fold_acts tree (cond (eqb tree tree) (changed_by r x.rec.change) r) xs key
    ∙ ap (λ (b : Bool). acted_by key (cond b (changed_by r x.rec.change) r key) xs) (eq-eqb tree tree refl)

-- in another tree they do nothing
pub fold_elsewhere : (tree other : ℕ) (r : Records) (xs : List PuItem) → tree ≢ other → fold_onto r (map (taken_entry tree) xs) other ≡ r
fold_elsewhere tree other r [] ne = refl
fold_elsewhere tree other r (x ∷ xs) ne =
    ap (λ (b : Bool). fold_onto (cond b (changed_by r x.rec.change) r) (map (taken_entry tree) xs) other) (ne_eqb tree other ne)
    ∙ fold_elsewhere tree other r xs ne

-- items of other keys do nothing at a key
pub acts_beside : (key : List ℕ) (value : Option Value) (xs : List PuItem) → AllByRecursion (λ x. bytes_same key (key_of x.rec.change) ≡ false) xs
    → acted_by key value xs ≡ value
acts_beside key value [] all = refl
acts_beside key value (x ∷ xs) all = ap (λ p. acted_by key p xs) (rw all.0 refl) ∙ acts_beside key value xs all.1

-- the items that a leaf lacks are of keys that it holds
pub lacked_beside : (l : Leaf) (queue : ℕ) (xs : List PuItem) (key : List ℕ) → holds l key ≡ false
    → AllByRecursion (λ x. bytes_same key (key_of x.rec.change) ≡ false) (lacked l queue xs)
lacked_beside l queue [] key out = tt
lacked_beside l queue (x ∷ xs) key out = on (is_lacked l queue x) refl (lacked_beside l queue xs key out)
  where
    Beside : PuItem → Type 0
    Beside y = bytes_same key (key_of y.rec.change) ≡ false

    other : (b : Bool) → holds l (key_of x.rec.change) ≡ true → bytes_same key (key_of x.rec.change) ≡ b → b ≡ false
    other true h e =
        let same : holds l key ≡ holds l (key_of x.rec.change) = ap (holds l) (same_is key (key_of x.rec.change) e) in
        let no : true ≡ false = sym h ∙ sym same ∙ out in
        absurd cc
    other false h e = refl

    on : (b : Bool) → is_lacked l queue x ≡ b → AllByRecursion (λ y. bytes_same key (key_of y.rec.change) ≡ false) (filter (is_lacked l queue) xs)
        → AllByRecursion (λ y. bytes_same key (key_of y.rec.change) ≡ false) (cond b (x ∷ filter (is_lacked l queue) xs) (filter (is_lacked l queue) xs))
    on true e again = (other (bytes_same key (key_of x.rec.change)) (and_parts (holds l (key_of x.rec.change)) _ e).0 refl, again)
    on false e again = again
