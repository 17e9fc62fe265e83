-- The keys of records behind changes.
use Rattle.std.proofs.Common.{ℕ, List, [], ◌∷◌, Option, Some, None}
use Rattle.std.specs.List.{AllByRecursion}
use Rattle.std.specs.declared.cmp.Ordering.{Ordering}
use Rattle.std.specs.declared.cmp.Ordering.TheVariants.{Less, Equal, Greater}
use Rattle.byte_format.specs.Order.{bytes_cmp}
use Rattle.db_base.specs.Change.{act, key_of}
use Rattle.db_base.specs.Value.{Value}
use Rattle.db_base.specs.declared.change.Change.{Change}
use Rattle.leaf_edit.specs.Edited.{edited, edited_at, edited_by, with_value}
use Rattle.leaf_view.specs.Leaf.{Entry}
use Rattle.log_codec.specs.declared.record.PuItem.{PuItem}

with_value-keys : (K : List ℕ → Type 0) (key : List ℕ) (value : Option Value) (es : List Entry) → K key → AllByRecursion (λ e. K e.key) es
    → AllByRecursion (λ e. K e.key) (with_value key value es)
with_value-keys K key None es here all = all
with_value-keys K key (Some v) es here all = (here, all)

edited-keys : (K : List ℕ → Type 0) (es : List Entry) (c : Change) → K (key_of c) → AllByRecursion (λ e. K e.key) es → AllByRecursion (λ e. K e.key) (edited es c)
edited-keys K [] c here all = with_value-keys K (key_of c) (act None c) [] here tt
edited-keys K (e ∷ es) c here all = on (bytes_cmp e.key (key_of c)) (edited-keys K es c here all.1)
  where
    on : (o : Ordering) → AllByRecursion (λ e. K e.key) (edited es c) → AllByRecursion (λ e. K e.key) (edited_at o e es (edited es c) c)
    on Less again = (all.0, again)
    on Equal again = with_value-keys K (key_of c) (act (Some e.value) c) es here all.1
    on Greater again = with_value-keys K (key_of c) (act None c) (e ∷ es) here all

-- what holds of each key of the records and of the changes holds of each key behind them
pub edited_by-keys : (K : List ℕ → Type 0) (es : List Entry) (xs : List PuItem) → AllByRecursion (λ x. K (key_of x.rec.change)) xs
    → AllByRecursion (λ e. K e.key) es → AllByRecursion (λ e. K e.key) (edited_by es xs)
edited_by-keys K es [] keys all = all
edited_by-keys K es (x ∷ xs) keys all = edited_by-keys K (edited es x.rec.change) xs keys.1 (edited-keys K es x.rec.change keys.0 all)
