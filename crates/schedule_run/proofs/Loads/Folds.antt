-- What inserts of records with distinct keys come to, in whatever order they act.
use Rattle.std.proofs.Common.{◌≡◌, ℕ, zero, suc, Bool, true, false, List, [], ◌∷◌, Option, Some, None, refl, sym, ap, ◌∙◌, ◌⊎◌, inl, inr, cond, eqb-true, eq-eqb}
use Rattle.std.specs.Prelude.{◌==◌, slice_get}
use Rattle.byte_format.specs.Order.{bytes_same}
use Rattle.byte_format.proofs.OrderLemmas.{same_is, same_itself}
use Rattle.db_base.specs.Change.{key_of, act}
use Rattle.db_base.specs.Value.{Value}
use Rattle.history.specs.Fold.{Records, no_records, is_same_key, changed_by, fold_onto, fold}
use Rattle.history.specs.Legal.{StandsAt}
use Rattle.report_types.specs.declared.entry.Entry.{Entry}
use Rattle.report_types.specs.declared.stored.Stored.{Stored}
use Rattle.replay_meaning.specs.Right.{value_at, value_stored}
use Rattle.schedule_run.specs.Loads.Inserts.{Inserts, InsertAll}

-- ---- one key

-- each entry of the tree and key leaves this there, whatever was there before
abbrev pub AllLeave : Option Value → ℕ → List ℕ → List Entry → Type 0
AllLeave v tree key entries =
    (place : ℕ) (entry : Entry) → StandsAt entries place entry → entry.tree ≡ tree → key_of entry.change ≡ key → (old : Option Value) → act old entry.change ≡ v

abbrev next : Records → Entry → ℕ → Records
next records entry tree = cond (entry.tree == tree) (changed_by records entry.change) records

-- an entry leaves what it leaves at its key, and nothing else changes
entry_leaves : (records : Records) (entry : Entry) (tree : ℕ) (key : List ℕ) (v : Option Value)
    → (entry.tree ≡ tree → key_of entry.change ≡ key → (old : Option Value) → act old entry.change ≡ v) → records key ≡ v → next records entry tree key ≡ v
entry_leaves records entry tree key v leaves is = on (entry.tree == tree) refl
  where
    changes : entry.tree ≡ tree → (b : Bool) → is_same_key key (key_of entry.change) ≡ b → cond b (act (records key) entry.change) (records key) ≡ v
    changes own true e = leaves own (sym (same_is key (key_of entry.change) e)) (records key)
    changes own false e = is

    on : (b : Bool) → (entry.tree == tree) ≡ b → cond b (changed_by records entry.change) records key ≡ v
    on true e = changes (eqb-true entry.tree tree e) (is_same_key key (key_of entry.change)) refl
    on false e = is

-- so what is there stays
pub fold_stays : (records : Records) (entries : List Entry) (tree : ℕ) (key : List ℕ) (v : Option Value) → AllLeave v tree key entries → records key ≡ v
    → fold_onto records entries tree key ≡ v
fold_stays records [] tree key v leave is = is
fold_stays records (entry ∷ entries) tree key v leave is =
    fold_stays (next records entry tree) entries tree key v (λ place e at. leave (suc place) e at) (entry_leaves records entry tree key v (leave zero entry refl) is)

-- and where there is such an entry it is there in the end
pub fold_reaches : (records : Records) (entries : List Entry) (tree : ℕ) (key : List ℕ) (v : Option Value) → AllLeave v tree key entries
    → (place : ℕ) (entry : Entry) → StandsAt entries place entry → entry.tree ≡ tree → key_of entry.change ≡ key → fold_onto records entries tree key ≡ v
fold_reaches records [] tree key v leave place entry there own is = absurd (cc)
fold_reaches records (first ∷ entries) tree key v leave zero entry there own is =
    let same : first ≡ entry = cc in
    fold_stays (next records first tree) entries tree key v (λ place e at. leave (suc place) e at)
    (acts first (ap (λ (e : Entry). e.tree) same ∙ own) (ap (λ (e : Entry). key_of e.change) same ∙ is) (leave zero first refl))
  where
    acts : (e : Entry) → e.tree ≡ tree → key_of e.change ≡ key → (e.tree ≡ tree → key_of e.change ≡ key → (old : Option Value) → act old e.change ≡ v)
        → next records e tree key ≡ v
    acts e own is leaves =
        ap (λ (b : Bool). cond b (changed_by records e.change) records key) (eq-eqb e.tree tree own)
        ∙ ap (λ (b : Bool). cond b (act (records key) e.change) (records key)) (ap (is_same_key key) is ∙ same_itself key)
        ∙ leaves own is (records key)
fold_reaches records (first ∷ entries) tree key v leave (suc place) entry there own is =
    fold_reaches (next records first tree) entries tree key v (λ k e at. leave (suc k) e at) place entry there own is

-- ---- all keys

-- none of the records has the key of a value
record HasNone (key : List ℕ) (records : List Stored) : Type 0 where
  none : value_at key records ≡ None
  others : (place : ℕ) (stored : Stored) → slice_get records place ≡ Some stored → bytes_same stored.key key ≡ false

-- a record has it
record HasOne (key : List ℕ) (records : List Stored) : Type 0 where
  stored : Stored
  place : ℕ
  there : slice_get records place ≡ Some stored
  own : stored.key ≡ key
  value : value_at key records ≡ Some (value_stored stored)

looked_up : (key : List ℕ) (records : List Stored) → HasNone key records ⊎ HasOne key records
looked_up key [] = inl (record { none = refl; others = λ place stored at. absurd (cc) })
looked_up key (s ∷ records) = on (bytes_same s.key key) refl (looked_up key records)
  where
    first : bytes_same s.key key ≡ false → (place : ℕ) (stored : Stored) → ((k : ℕ) → slice_get records k ≡ Some stored → bytes_same stored.key key ≡ false)
        → slice_get (s ∷ records) place ≡ Some stored → bytes_same stored.key key ≡ false
    first e zero stored later at = let same : s ≡ stored = cc in ap (λ (x : Stored). bytes_same x.key key) (sym same) ∙ e
    first e (suc place) stored later at = later place at

    on : (b : Bool) → bytes_same s.key key ≡ b → HasNone key records ⊎ HasOne key records → HasNone key (s ∷ records) ⊎ HasOne key (s ∷ records)
    on true e rest = inr (record {
      stored = s;
      place = zero;
      there = refl;
      own = same_is s.key key e;
      value = ap (λ (b : Bool). cond b (Some (value_stored s)) (value_at key records)) e;
    })
    on false e (inl none) = inl (record {
      none = ap (λ (b : Bool). cond b (Some (value_stored s)) (value_at key records)) e ∙ none.none;
      others = λ place stored at. first e place stored (λ k there. none.others k stored there) at;
    })
    on false e (inr one) = inr (record {
      stored = one.stored;
      place = suc one.place;
      there = one.there;
      own = one.own;
      value = ap (λ (b : Bool). cond b (Some (value_stored s)) (value_at key records)) e ∙ one.value;
    })

-- each record is the first of its key
abbrev pub AreDistinct : List Stored → Type 0
AreDistinct records = (place : ℕ) (stored : Stored) → slice_get records place ≡ Some stored → value_at stored.key records ≡ Some (value_stored stored)

-- an insert leaves the value that its record has
insert_leaves : (records : List Stored) (entry : Entry) (key : List ℕ) → AreDistinct records → Inserts records entry → key_of entry.change ≡ key → (old : Option Value)
    → act old entry.change ≡ value_at key records
insert_leaves records entry key distinct i is old =
    let own : i.stored.key ≡ key = sym (ap key_of i.change) ∙ is in
    ap (act old) i.change ∙ sym (distinct i.place i.stored i.there) ∙ ap (λ (k : List ℕ). value_at k records) own

-- Inserts of records with distinct keys, each of which is inserted, come to the values of the records, however they are ordered and however often each
-- stands.
pub inserts_fold : (tree : ℕ) (records : List Stored) (entries : List Entry) → AreDistinct records → InsertAll tree records entries → (key : List ℕ)
    → fold entries tree key ≡ value_at key records
inserts_fold tree records entries distinct all key = on (looked_up key records)
  where
    leave : AllLeave (value_at key records) tree key entries
    leave place entry at own is old = insert_leaves records entry key distinct (all.alone place entry at own) is old

    on : HasNone key records ⊎ HasOne key records → fold entries tree key ≡ value_at key records
    on (inl none) = fold_stays no_records entries tree key (value_at key records) leave (sym none.none)
    on (inr one) =
        let e = all.each one.place one.stored one.there in
        fold_reaches no_records entries tree key (value_at key records) leave e.0 e.1 e.2 e.3 (ap key_of e.4 ∙ one.own)
