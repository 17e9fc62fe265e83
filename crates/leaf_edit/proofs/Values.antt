-- What is found at a key after changes.
use Rattle.std.proofs.Common.{◌≡◌, ℕ, Bool, true, false, cond, List, [], ◌∷◌, Option, Some, None, refl, sym, ap, subst, ◌∙◌}
use Rattle.std.specs.declared.cmp.Ordering.{Ordering}
use Rattle.std.specs.declared.cmp.Ordering.TheVariants.{Less, Equal, Greater}
use Rattle.std.specs.Ordering.{is_eq, ordering_reverse}
use Rattle.std.proofs.lemmas.Cmp.{nat_list_cmp_total}
use Rattle.db_base.specs.Change.{key_of, act}
use Rattle.db_base.specs.Value.{Value}
use Rattle.db_base.specs.declared.change.Change.{Change}
use Rattle.byte_format.specs.Order.{bytes_cmp, bytes_below, bytes_same}
use Rattle.byte_format.proofs.OrderLemmas.{same_is}
use Rattle.leaf_view.specs.Leaf.{Entry}
use Rattle.leaf_view.specs.Fits.{Ascend, entry_below}
use Rattle.leaf_view.specs.Lookup.{value_of}
use Rattle.log_codec.specs.declared.record.PuItem.{PuItem}
use Rattle.leaf_edit.specs.Acted.{acted_at, acted_by}
use Rattle.leaf_edit.specs.Edited.{with_value, edited_at, edited, edited_by}
use Rattle.leaf_edit.specs.Merging.{KeyBefore}
use Rattle.leaf_edit.proofs.Ascends.{below_less, below_trans, greater_below, equal_same, Ascend-first}
use Rattle.leaf_edit.proofs.Edits.{edited-ascends}

-- ---- whether two keys are the same

eq_turned : (o : Ordering) → is_eq (ordering_reverse o) ≡ is_eq o
eq_turned Less = refl
eq_turned Equal = refl
eq_turned Greater = refl

pub same_turned : (a b : List ℕ) → bytes_same a b ≡ bytes_same b a
same_turned a b = ap is_eq (nat_list_cmp_total.antisymm a b) ∙ eq_turned (bytes_cmp b a)

below_differs : (a b : List ℕ) → bytes_below a b ≡ true → bytes_same a b ≡ false
below_differs a b h = ap is_eq (below_less a b h)

-- ---- keys that are not there

KeyBefore-below : (key other : List ℕ) (es : List Entry) → bytes_below key other ≡ true → KeyBefore other es → KeyBefore key es
KeyBefore-below key other [] below first = tt
KeyBefore-below key other (e ∷ es) below first = below_trans key other e.key below first

-- a key that stands before records in order is none of theirs
pub value_of-before : (key : List ℕ) (before : Option Entry) (es : List Entry) → Ascend entry_below before es → KeyBefore key es → value_of key es ≡ None
value_of-before key before [] h first = refl
value_of-before key before (e ∷ es) h first =
    ap (λ b. cond b (Some e.value) (value_of key es)) (same_turned e.key key ∙ below_differs key e.key first)
    ∙ value_of-before key (Some e) es h.1 (KeyBefore-below key e.key es first (Ascend-first e es h.1))

-- a record is put in front of others that have none of its key
value_of-with_value : (key other : List ℕ) (value : Option Value) (es : List Entry) → (bytes_same key other ≡ true → value_of key es ≡ None)
    → value_of key (with_value other value es) ≡ cond (bytes_same key other) value (value_of key es)
value_of-with_value key other (Some v) es none = ap (λ b. cond b (Some v) (value_of key es)) (same_turned other key)
value_of-with_value key other None es none = on (bytes_same key other) refl
  where
    on : (b : Bool) → bytes_same key other ≡ b → value_of key es ≡ cond b None (value_of key es)
    on true e = none e
    on false e = refl

-- ---- one change

-- the front record stands before the change's key
less_acts : (key : List ℕ) (e : Entry) (es behind : List Entry) (c : Change) → bytes_cmp e.key (key_of c) ≡ Less → value_of key behind ≡ acted_at key (value_of key es) c
    → value_of key (e ∷ behind) ≡ acted_at key (value_of key (e ∷ es)) c
less_acts key e es behind c is again = on (bytes_same e.key key) refl
  where
    on : (b : Bool) → bytes_same e.key key ≡ b
        → cond b (Some e.value) (value_of key behind) ≡ cond (bytes_same key (key_of c)) (act (cond b (Some e.value) (value_of key es)) c) (cond b (Some e.value) (value_of key es))
    on true same =
        let other : bytes_same key (key_of c) ≡ false = ap (λ k. bytes_same k (key_of c)) (sym (same_is e.key key same)) ∙ ap is_eq is in
        sym (ap (λ d. cond d (act (Some e.value) c) (Some e.value)) other)
    on false same = again

-- the front record has the change's key
equal_acts : (key : List ℕ) (e : Entry) (es : List Entry) (c : Change) → bytes_cmp e.key (key_of c) ≡ Equal → Ascend entry_below (Some e) es
    → value_of key (with_value (key_of c) (act (Some e.value) c) es) ≡ acted_at key (value_of key (e ∷ es)) c
equal_acts key e es c is h =
    value_of-with_value key (key_of c) (act (Some e.value) c) es absent
    ∙ on (bytes_same key (key_of c))
    ∙ sym (ap (λ b. cond (bytes_same key (key_of c)) (act (cond b (Some e.value) (value_of key es)) c) (cond b (Some e.value) (value_of key es))) front)
  where
    front : bytes_same e.key key ≡ bytes_same key (key_of c)
    front = same_turned e.key key ∙ ap (λ k. bytes_same key k) (equal_same e.key (key_of c) is)

    absent : bytes_same key (key_of c) ≡ true → value_of key es ≡ None
    absent same = value_of-before key (Some e) es h (subst (λ k. KeyBefore k es) (equal_same e.key (key_of c) is ∙ sym (same_is key (key_of c) same)) (Ascend-first e es h))

    on : (b : Bool) → cond b (act (Some e.value) c) (value_of key es) ≡ cond b (act (cond b (Some e.value) (value_of key es)) c) (cond b (Some e.value) (value_of key es))
    on true = refl
    on false = refl

-- the change's key stands before all records
greater_acts : (key : List ℕ) (before : Option Entry) (es : List Entry) (c : Change) → Ascend entry_below before es → KeyBefore (key_of c) es
    → value_of key (with_value (key_of c) (act None c) es) ≡ acted_at key (value_of key es) c
greater_acts key before es c h first = value_of-with_value key (key_of c) (act None c) es absent ∙ on (bytes_same key (key_of c)) refl
  where
    absent : bytes_same key (key_of c) ≡ true → value_of key es ≡ None
    absent same = value_of-before key before es h (subst (λ k. KeyBefore k es) (sym (same_is key (key_of c) same)) first)

    on : (b : Bool) → bytes_same key (key_of c) ≡ b → cond b (act None c) (value_of key es) ≡ cond b (act (value_of key es) c) (value_of key es)
    on true same = ap (λ v. act v c) (sym (absent same))
    on false same = refl

-- a change of records in order acts on the value at its key, and on no other
pub value_of-edited : (key : List ℕ) (before : Option Entry) (es : List Entry) (c : Change) → Ascend entry_below before es
    → value_of key (edited es c) ≡ acted_at key (value_of key es) c
value_of-edited key before [] c h = greater_acts key None [] c tt tt
value_of-edited key before (e ∷ es) c h = on (bytes_cmp e.key (key_of c)) refl (value_of-edited key (Some e) es c h.1)
  where
    on : (o : Ordering) → bytes_cmp e.key (key_of c) ≡ o → value_of key (edited es c) ≡ acted_at key (value_of key es) c
        → value_of key (edited_at o e es (edited es c) c) ≡ acted_at key (value_of key (e ∷ es)) c
    on Less is again = less_acts key e es (edited es c) c is again
    on Equal is again = equal_acts key e es c is h.1
    on Greater is again = greater_acts key before (e ∷ es) c h (greater_below e.key (key_of c) is)

-- ---- a run of changes

pub value_of-edited_by : (key : List ℕ) (es : List Entry) (xs : List PuItem) → Ascend entry_below None es
    → value_of key (edited_by es xs) ≡ acted_by key (value_of key es) xs
value_of-edited_by key es [] h = refl
value_of-edited_by key es (x ∷ xs) h =
    value_of-edited_by key (edited es x.rec.change) xs (edited-ascends None es x.rec.change h tt)
    ∙ ap (λ (v : Option Value). acted_by key v xs) (value_of-edited key None es x.rec.change h)
