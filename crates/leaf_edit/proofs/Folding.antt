-- The changes of one key, one after another.
use Rattle.std.proofs.Common.{◌≡◌, ℕ, ◌≤◌, true, false, List, [], ◌∷◌, length, Option, refl, sym, ap, ◌∙◌, arith}
use Rattle.std.specs.Option.{IfSome}
use Rattle.std.specs.declared.cmp.Ordering.{Ordering}
use Rattle.std.specs.declared.cmp.Ordering.TheVariants.{Less, Equal, Greater}
use Rattle.std.specs.Ordering.{is_lt, is_eq}
use Rattle.db_base.specs.Change.{key_of, act}
use Rattle.db_base.specs.Value.{Value}
use Rattle.byte_format.specs.Order.{bytes_cmp, bytes_below, bytes_same}
use Rattle.byte_format.proofs.OrderLemmas.{same_is}
use Rattle.leaf_view.specs.Leaf.{Entry}
use Rattle.log_codec.specs.declared.record.PuItem.{PuItem}
use Rattle.leaf_edit.specs.Edited.{with_value, edited_by}
use Rattle.leaf_edit.specs.Merging.{KeyBefore, AreChanges, AllFrom, Folds, IsValue}
use Rattle.leaf_edit.proofs.Ascends.{greater_below}
use Rattle.leaf_edit.proofs.InOrder.{above-from}
use Rattle.leaf_edit.proofs.Edits.{act-value, acts}

-- so far the changes of the key made `new` of `old`, and `rest` are left, none at a key below it
pub record IsFolding (key : List ℕ) (old : Option Value) (xs : List PuItem) (new : Option Value) (rest : List PuItem) : Type 0 where
  pub is : (es : List Entry) → KeyBefore key es → edited_by (with_value key old es) xs ≡ edited_by (with_value key new es) rest
  pub from : AllFrom key rest
  pub changes : AreChanges rest
  pub shorter : length rest ≤ length xs
  pub value : IfSome new IsValue

pub start : (key : List ℕ) (old : Option Value) (xs : List PuItem) → AreChanges xs → AllFrom key xs → IfSome old IsValue → IsFolding key old xs old xs
start key old xs changes from value = record { is = λ es first. refl; from = from; changes = changes; shorter = omega arith; value = value }

pub step : (key : List ℕ) (old : Option Value) (xs : List PuItem) (new : Option Value) (x : PuItem) (rest : List PuItem)
    → IsFolding key old xs new (x ∷ rest) → bytes_same (key_of x.rec.change) key ≡ true → IsFolding key old xs (act new x.rec.change) rest
step key old xs new x rest h same = record {
  is = λ es first. h.is es first ∙ ap (λ l. edited_by l rest) (acts key new es x.rec.change (sym (same_is _ _ same)) first);
  from = h.from.1;
  changes = record { rise = h.changes.rise.1; items = h.changes.items.1 };
  shorter = omega (arith, h.shorter);
  value = act-value new x.rec.change h.value h.changes.items.0.change;
}

-- a key that is not below and not the same is above
above : (a b : List ℕ) → bytes_below a b ≡ false → bytes_same a b ≡ false → bytes_below b a ≡ true
above a b p q = on (bytes_cmp a b) refl
  where
    on : (o : Ordering) → bytes_cmp a b ≡ o → bytes_below b a ≡ true
    on Less e = absurd (let f : is_lt Less ≡ false = sym (ap is_lt e) ∙ p in cc)
    on Equal e = absurd (let f : is_eq Equal ≡ false = sym (ap is_eq e) ∙ q in cc)
    on Greater e = greater_below a b e

pub end : (key : List ℕ) (old : Option Value) (xs : List PuItem) (new : Option Value) (x : PuItem) (rest : List PuItem)
    → IsFolding key old xs new (x ∷ rest) → bytes_same (key_of x.rec.change) key ≡ false → Folds key old xs new (x ∷ rest)
end key old xs new x rest h other = record {
  is = h.is;
  above = let here = above (key_of x.rec.change) key h.from.0 other in (here, above-from key (key_of x.rec.change) rest here h.changes.rise.0);
  changes = h.changes;
  shorter = h.shorter;
  value = h.value;
}

pub none : (key : List ℕ) (old : Option Value) (xs : List PuItem) (new : Option Value)
    → IsFolding key old xs new [] → Folds key old xs new []
none key old xs new h = record { is = h.is; above = tt; changes = h.changes; shorter = h.shorter; value = h.value }
