-- Where the attribute of what entries come to is from, and that what they insert stays where nothing is deleted.
use Rattle.std.proofs.Common.{◌≡◌, ◌∙◌, ◌⊎◌, inl, inr, ℕ, zero, suc, Bool, true, false, cond, List, [], ◌∷◌, Option, Some, None, ap, refl, sym, subst, eqb-true, eq-eqb}
use Rattle.std.specs.Prelude.{◌==◌}
use Rattle.std.proofs.lemmas.Option.{same_Some}
use Rattle.byte_format.proofs.OrderLemmas.{same_is, same_itself}
use Rattle.cloud_facts.specs.Book.Records.{StandsAt, IsIn}
use Rattle.db_base.specs.Change.{key_of, act, plus}
use Rattle.db_base.specs.Value.{Value}
use Rattle.db_base.specs.declared.change.Change.{Change}
use Rattle.db_base.specs.declared.change.Change.TheVariants.{Insert, Update, Delete, Add}
use Rattle.history.specs.Fold.{Records, is_same_key, changed_by, fold_onto}
use Rattle.report_types.specs.declared.entry.Entry.{Entry}
use Rattle.session_facts.specs.Index.Entries.{HasNoDelete}

-- there is a record with the attribute
pub record HasAttr (old : Option Value) (attr : List ℕ) : Type 0 where
  pub value : Value
  pub there : old ≡ Some value
  pub has : value.attr ≡ Some attr

-- an entry of the tree inserts at the key a record with the attribute
pub record Inserts (entries : List Entry) (tree : ℕ) (key attr : List ℕ) : Type 0 where
  pub entry : Entry
  pub is : IsIn entries entry
  pub own : entry.tree ≡ tree
  pub payload : List ℕ
  pub change : entry.change ≡ Insert key payload (Some attr)

-- ---- one change

-- a change inserts a record with the attribute
record Brings (c : Change) (attr : List ℕ) : Type 0 where
  payload : List ℕ
  is : c ≡ Insert (key_of c) payload (Some attr)

-- what is there after a change has its attribute from an insert, or had it before
act_attr : (old : Option Value) (c : Change) (attr : List ℕ) → HasAttr (act old c) attr → HasAttr old attr ⊎ Brings c attr
act_attr old (Insert key payload attr) own h =
    let same : record { payload = payload; attr = attr } ≡ h.value = same_Some _ _ h.there in
    inr (record { payload = payload; is = ap (Insert key payload) (ap (λ (v : Value). v.attr) same ∙ h.has) })
act_attr (Some old) (Update key payload) own h =
    let same : record { payload = payload; attr = old.attr } ≡ h.value = same_Some _ _ h.there in
    inl (record { value = old; there = refl; has = ap (λ (v : Value). v.attr) same ∙ h.has })
act_attr None (Update key payload) own h = let no : None ≡ Some h.value = h.there in absurd (cc (no))
act_attr old (Delete key) own h = let no : None ≡ Some h.value = h.there in absurd (cc (no))
act_attr (Some old) (Add key amount) own h =
    let same : record { payload = plus old.payload amount; attr = old.attr } ≡ h.value = same_Some _ _ h.there in
    inl (record { value = old; there = refl; has = ap (λ (v : Value). v.attr) same ∙ h.has })
act_attr None (Add key amount) own h = let no : None ≡ Some h.value = h.there in absurd (cc (no))

-- what is there stays there, whatever its value, where the change is no delete
act_stays : (old : Value) (c : Change) → ((key : List ℕ) → c ≡ Delete key → ⊥) → (v : Value) × (act (Some old) c ≡ Some v)
act_stays old (Insert key payload attr) kept = (record { payload = payload; attr = attr }, refl)
act_stays old (Update key payload) kept = (record { payload = payload; attr = old.attr }, refl)
act_stays old (Delete key) kept = absurd (kept key refl)
act_stays old (Add key amount) kept = (record { payload = plus old.payload amount; attr = old.attr }, refl)

-- ---- one entry

-- the records behind an entry
abbrev behind : Records → Entry → ℕ → Records
behind records entry tree = cond (entry.tree == tree) (changed_by records entry.change) records

-- an entry of the tree and key acts on what is there
record Acts (records : Records) (entry : Entry) (tree : ℕ) (key : List ℕ) (v : Option Value) : Type 0 where
  own : entry.tree ≡ tree
  at : key_of entry.change ≡ key
  is : v ≡ act (records key) entry.change

-- and where an entry is of another one, all stays
abbrev Comes : Records → Entry → ℕ → List ℕ → Option Value → Type 0
Comes records entry tree key v = Acts records entry tree key v ⊎ (v ≡ records key)

comes : (records : Records) (entry : Entry) (tree : ℕ) (key : List ℕ) → Comes records entry tree key (behind records entry tree key)
comes records entry tree key = on (entry.tree == tree) refl
  where
    of_key : entry.tree ≡ tree → (b : Bool) → is_same_key key (key_of entry.change) ≡ b
        → Comes records entry tree key (cond b (act (records key) entry.change) (records key))
    of_key own true e = inl (record { own = own; at = sym (same_is key (key_of entry.change) e); is = refl })
    of_key own false e = inr refl

    on : (b : Bool) → (entry.tree == tree) ≡ b → Comes records entry tree key (cond b (changed_by records entry.change) records key)
    on true e = of_key (eqb-true entry.tree tree e) (is_same_key key (key_of entry.change)) refl
    on false e = inr refl

acts : (records : Records) (entry : Entry) (tree : ℕ) (key : List ℕ) → entry.tree ≡ tree → key_of entry.change ≡ key
    → behind records entry tree key ≡ act (records key) entry.change
acts records entry tree key own is =
    ap (λ (b : Bool). cond b (changed_by records entry.change) records key) (eq-eqb entry.tree tree own)
    ∙ ap (λ (b : Bool). cond b (act (records key) entry.change) (records key)) (ap (is_same_key key) is ∙ same_itself key)

-- ---- all

-- the attribute of what entries come to was there before them, or is that of an insert
pub attr_from : (records : Records) (entries : List Entry) (tree : ℕ) (key attr : List ℕ) → HasAttr (fold_onto records entries tree key) attr
    → HasAttr (records key) attr ⊎ Inserts entries tree key attr
attr_from records [] tree key attr h = inl h
attr_from records (entry ∷ entries) tree key attr h = on (attr_from (behind records entry tree) entries tree key attr h)
  where
    brought : entry.tree ≡ tree → key_of entry.change ≡ key → HasAttr (records key) attr ⊎ Brings entry.change attr
        → HasAttr (records key) attr ⊎ Inserts (entry ∷ entries) tree key attr
    brought own at (inl before) = inl before
    brought own at (inr b) = inr (record {
      entry = entry;
      is = (zero, refl);
      own = own;
      payload = b.payload;
      change = b.is ∙ ap (λ (k : List ℕ). Insert k b.payload (Some attr)) at;
    })

    here : HasAttr (behind records entry tree key) attr → Comes records entry tree key (behind records entry tree key)
        → HasAttr (records key) attr ⊎ Inserts (entry ∷ entries) tree key attr
    here has (inl a) = brought a.own a.at (act_attr (records key) entry.change attr (subst (λ (v : Option Value). HasAttr v attr) a.is has))
    here has (inr same) = inl (subst (λ (v : Option Value). HasAttr v attr) same has)

    on : HasAttr (behind records entry tree key) attr ⊎ Inserts entries tree key attr → HasAttr (records key) attr ⊎ Inserts (entry ∷ entries) tree key attr
    on (inl has) = here has (comes records entry tree key)
    on (inr i) = inr (record { entry = i.entry; is = (suc i.is.0, i.is.1); own = i.own; payload = i.payload; change = i.change })

-- what is there stays
fold_stays : (records : Records) (entries : List Entry) (tree : ℕ) (key : List ℕ) (old : Value) → HasNoDelete entries tree → records key ≡ Some old
    → (v : Value) × (fold_onto records entries tree key ≡ Some v)
fold_stays records [] tree key old kept is = (old, is)
fold_stays records (entry ∷ entries) tree key old kept is =
    let first = on (comes records entry tree key) in
    fold_stays (behind records entry tree) entries tree key first.0 (λ e k there. kept e k (suc there.0, there.1)) first.1
  where
    on : Comes records entry tree key (behind records entry tree key) → (v : Value) × (behind records entry tree key ≡ Some v)
    on (inl a) =
        let stays = act_stays old entry.change (λ k deletes. kept entry k (zero, refl) a.own deletes) in
        (stays.0, a.is ∙ (ap (λ (o : Option Value). act o entry.change) is ∙ stays.1))
    on (inr same) = (old, same ∙ is)

-- what is inserted is there in the end
inserted_at : (records : Records) (entries : List Entry) (tree place : ℕ) (entry : Entry) (key payload : List ℕ) (attr : Option (List ℕ))
    → HasNoDelete entries tree → StandsAt entries place entry → entry.tree ≡ tree → entry.change ≡ Insert key payload attr
    → (v : Value) × (fold_onto records entries tree key ≡ Some v)
inserted_at records [] tree place entry key payload attr kept there own change = absurd (cc (there))
inserted_at records (first ∷ entries) tree zero entry key payload attr kept there own change =
    let same : first ≡ entry = same_Some first entry there in
    let inserts : first.change ≡ Insert key payload attr = ap (λ (e : Entry). e.change) same ∙ change in
    fold_stays (behind records first tree) entries tree key (record { payload = payload; attr = attr }) (λ e k is. kept e k (suc is.0, is.1))
    (acts records first tree key (ap (λ (e : Entry). e.tree) same ∙ own) (ap key_of inserts) ∙ ap (act (records key)) inserts)
inserted_at records (first ∷ entries) tree (suc place) entry key payload attr kept there own change =
    inserted_at (behind records first tree) entries tree place entry key payload attr (λ e k is. kept e k (suc is.0, is.1)) there own change

pub inserted : (records : Records) (entries : List Entry) (tree : ℕ) (entry : Entry) (key payload : List ℕ) (attr : Option (List ℕ))
    → HasNoDelete entries tree → IsIn entries entry → entry.tree ≡ tree → entry.change ≡ Insert key payload attr
    → (v : Value) × (fold_onto records entries tree key ≡ Some v)
inserted records entries tree entry key payload attr kept is own change = inserted_at records entries tree is.0 entry key payload attr kept is.1 own change
