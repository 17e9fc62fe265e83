-- What a change leaves of records in order.
use Rattle.std.proofs.Common.{◌≡◌, ℕ, List, [], ◌∷◌, Option, Some, None, refl, sym, ap, subst, ◌∙◌}
use Rattle.std.specs.Prelude.{IsTrue}
use Rattle.std.specs.List.{AllByRecursion}
use Rattle.std.specs.declared.cmp.Ordering.{Ordering}
use Rattle.std.specs.declared.cmp.Ordering.TheVariants.{Less, Equal, Greater}
use Rattle.std.specs.Ordering.{ordering_reverse}
use Rattle.std.proofs.lemmas.Cmp.{nat_list_cmp_total, tied_itself}
use Rattle.std.specs.Option.{IfSome}
use Rattle.db_base.specs.Change.{key_of, act, IsChange}
use Rattle.db_base.specs.Key.{IsPayload, IsAttr}
use Rattle.db_base.specs.Value.{Value}
use Rattle.db_base.proofs.ChangeLaws.{act-payload, act-attr}
use Rattle.db_base.specs.declared.change.Change.{Change}
use Rattle.byte_format.specs.Order.{bytes_cmp, bytes_below}
use Rattle.leaf_view.specs.Leaf.{Entry}
use Rattle.leaf_view.specs.Fits.{Ascend, entry_below}
use Rattle.log_codec.specs.declared.record.PuItem.{PuItem}
use Rattle.leaf_edit.specs.Edited.{with_value, edited_at, edited, edited_by}
use Rattle.leaf_edit.specs.Merging.{IsValue, KeyBefore}
use Rattle.leaf_edit.proofs.Ascends.{below_less, greater_below, equal_same, KeyBehind, Ascend-behind, Ascend-skip, Ascend-first, entry-KeyBehind}

-- ---- order

with_value-ascends : (before : Option Entry) (key : List ℕ) (value : Option Value) (es : List Entry) (other : Option Entry)
    → Ascend entry_below other es → KeyBehind before key → KeyBefore key es → Ascend entry_below before (with_value key value es)
with_value-ascends before key None es other h behind first = Ascend-skip before key es other h behind first
with_value-ascends before key (Some value) es other h behind first =
    (entry-KeyBehind before (record { key = key; value = value }) behind, Ascend-behind (record { key = key; value = value }) es other h first)

-- a change keeps records in order
pub edited-ascends : (before : Option Entry) (es : List Entry) (c : Change) → Ascend entry_below before es → KeyBehind before (key_of c)
    → Ascend entry_below before (edited es c)
edited-ascends before [] c h behind = with_value-ascends before (key_of c) (act None c) [] None tt behind tt
edited-ascends before (e ∷ es) c h behind = on (bytes_cmp e.key (key_of c)) refl (edited-ascends (Some e) es c h.1)
  where
    on : (o : Ordering) → bytes_cmp e.key (key_of c) ≡ o
        → (IsTrue (bytes_below e.key (key_of c)) → Ascend entry_below (Some e) (edited es c))
        → Ascend entry_below before (edited_at o e es (edited es c) c)
    on Less is again = (h.0, again (rw is refl))
    on Equal is again =
        with_value-ascends before (key_of c) (act (Some e.value) c) es (Some e) h.1 behind
        (subst (λ k. KeyBefore k es) (equal_same e.key (key_of c) is) (Ascend-first e es h.1))
    on Greater is again = with_value-ascends before (key_of c) (act None c) (e ∷ es) before h behind (greater_below e.key (key_of c) is)

-- ---- each record

-- a change leaves a value that has a spelling, where it finds one
pub act-value : (old : Option Value) (c : Change) → IfSome old IsValue → IsChange c → IfSome (act old c) IsValue
act-value old c was h = both (act old c) (act-payload old c (payload old was) h.payload) (act-attr old c (attr old was) h.attr)
  where
    payload : (o : Option Value) → IfSome o IsValue → IfSome o (λ v. IsPayload v.payload)
    payload None is = tt
    payload (Some v) is = is.payload

    attr : (o : Option Value) → IfSome o IsValue → IfSome o (λ v. IfSome v.attr IsAttr)
    attr None is = tt
    attr (Some v) is = is.attr

    both : (o : Option Value) → IfSome o (λ v. IsPayload v.payload) → IfSome o (λ v. IfSome v.attr IsAttr) → IfSome o IsValue
    both None p a = tt
    both (Some v) p a = record { payload = p; attr = a }

-- what holds of each record, and of one at the change's key whatever its value
record Holds (P : Entry → Type 0) (c : Change) : Type 0 where
  pub sized : (e : Entry) → P e → IsValue e.value
  pub change : IsChange c
  pub here : (v : Value) → IsValue v → P (record { key = key_of c; value = v })

with_value-all : (P : Entry → Type 0) (c : Change) (old : Option Value) (es : List Entry) → Holds P c → IfSome old IsValue
    → AllByRecursion P es → AllByRecursion P (with_value (key_of c) (act old c) es)
with_value-all P c old es h was all = on (act old c) (act-value old c was h.change)
  where
    on : (o : Option Value) → IfSome o IsValue → AllByRecursion P (with_value (key_of c) o es)
    on None is = all
    on (Some v) is = (h.here v is, all)

-- what holds of each record holds of each behind a change
edited-all : (P : Entry → Type 0) (es : List Entry) (c : Change) → Holds P c → AllByRecursion P es → AllByRecursion P (edited es c)
edited-all P [] c h all = with_value-all P c None [] h tt tt
edited-all P (e ∷ es) c h all = on (bytes_cmp e.key (key_of c)) (edited-all P es c h all.1)
  where
    on : (o : Ordering) → AllByRecursion P (edited es c) → AllByRecursion P (edited_at o e es (edited es c) c)
    on Less again = (all.0, again)
    on Equal again = with_value-all P c (Some e.value) es h (h.sized e all.0) all.1
    on Greater again = with_value-all P c None (e ∷ es) h tt all

-- ---- a run of changes

pub edited_by-ascends : (es : List Entry) (xs : List PuItem) → Ascend entry_below None es → Ascend entry_below None (edited_by es xs)
edited_by-ascends es [] h = h
edited_by-ascends es (x ∷ xs) h = edited_by-ascends (edited es x.rec.change) xs (edited-ascends None es x.rec.change h tt)

-- an item leaves records of which this holds
pub record Sets (P : Entry → Type 0) (x : PuItem) : Type 0 where
  pub change : IsChange x.rec.change
  pub here : (v : Value) → IsValue v → P (record { key = key_of x.rec.change; value = v })

pub edited_by-all : (P : Entry → Type 0) (es : List Entry) (xs : List PuItem) → ((e : Entry) → P e → IsValue e.value) → AllByRecursion (Sets P) xs
    → AllByRecursion P es → AllByRecursion P (edited_by es xs)
edited_by-all P es [] sized sets all = all
edited_by-all P es (x ∷ xs) sized sets all =
    edited_by-all P (edited es x.rec.change) xs sized sets.1
    (edited-all P es x.rec.change (record { sized = sized; change = sets.0.change; here = sets.0.here }) all)

-- ---- as it is merged

-- a record whose key is below those of all changes stays in front
pub passes : (e : Entry) (es : List Entry) (xs : List PuItem) → AllByRecursion (λ x. IsTrue (bytes_below e.key (key_of x.rec.change))) xs
    → edited_by (e ∷ es) xs ≡ e ∷ edited_by es xs
passes e es [] all = refl
passes e es (x ∷ xs) all = ap (λ l. edited_by l xs) (front (bytes_cmp e.key (key_of x.rec.change)) (below_less e.key (key_of x.rec.change) all.0)) ∙ passes e (edited es x.rec.change) xs all.1
  where
    front : (o : Ordering) → o ≡ Less → edited_at o e es (edited es x.rec.change) x.rec.change ≡ e ∷ edited es x.rec.change
    front Less h = refl
    front Equal h = absurd cc
    front Greater h = absurd cc

-- a change at the key in front acts on its value
pub acts : (key : List ℕ) (old : Option Value) (es : List Entry) (c : Change) → key ≡ key_of c → KeyBefore key es
    → edited (with_value key old es) c ≡ with_value key (act old c) es
acts key (Some v) es c same first = front (bytes_cmp key (key_of c)) (ap (λ k. bytes_cmp key k) (sym same) ∙ tied_itself nat_list_cmp_total key) ∙ ap (λ k. with_value k (act (Some v) c) es) (sym same)
  where
    front : (o : Ordering) → o ≡ Equal
        → edited_at o (record { key = key; value = v }) es (edited es c) c ≡ with_value (key_of c) (act (Some v) c) es
    front Less h = absurd cc
    front Equal h = refl
    front Greater h = absurd cc
acts key None [] c same first = ap (λ k. with_value k (act None c) []) (sym same)
acts key None (e ∷ es) c same first =
    front (bytes_cmp e.key (key_of c)) (ap (λ k. bytes_cmp e.key k) (sym same) ∙ (nat_list_cmp_total.antisymm e.key key ∙ ap ordering_reverse (below_less key e.key first)))
    ∙ ap (λ k. with_value k (act None c) (e ∷ es)) (sym same)
  where
    front : (o : Ordering) → o ≡ Greater → edited_at o e es (edited es c) c ≡ with_value (key_of c) (act None c) (e ∷ es)
    front Less h = absurd cc
    front Equal h = absurd cc
    front Greater h = refl
