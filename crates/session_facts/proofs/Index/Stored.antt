-- Records in the order of their keys are the values at their keys, each once; and the keys at which something is found are keys of records.
use Rattle.std.proofs.Common.{◌≡◌, ℕ, suc, Bool, true, false, List, [], ◌∷◌, Option, Some, None, Ok, refl, sym, ap, subst, ◌∙◌, cond, arith}
use Rattle.std.specs.List.{AllByRecursion, Contains}
use Rattle.std.proofs.lemmas.Option.{same_Some}
use Rattle.attr_index.specs.Tagged.{stored_value, AreRecords}
use Rattle.byte_format.specs.Order.{bytes_below, bytes_same}
use Rattle.byte_format.proofs.OrderLemmas.{same_is, same_itself}
use Rattle.cloud_facts.proofs.Chains.Pieces.{not_itself}
use Rattle.cloud_trait.specs.State.{CloudState, newest}
use Rattle.db_base.specs.Key.{IsKey}
use Rattle.db_base.specs.Value.{Value}
use Rattle.db_base.specs.declared.names.ObjName.TheVariants as object
use Rattle.leaf_view.proofs.Split.{leaf_fits}
use Rattle.leaf_view.specs.Fits.{Ascend, IsEntryIn}
use Rattle.leaf_view.specs.Leaf.{Entry, Leaf}
use Rattle.leaf_view.specs.Lookup.{value_of}
use Rattle.node_codec.proofs.EntryLemmas.{below_chain}
use Rattle.replay_meaning.specs.Chain.{IsReadAs, IsNewestLeaf}
use Rattle.replay_meaning.specs.Index.{Reaches, ends, right_leaf, right_inner, down, Finds}
use Rattle.replay_meaning.specs.Right.{stored_below, value_at}
use Rattle.report_types.specs.declared.stored.Stored.{Stored}

-- ---- records that ascend

-- a record is below all behind it
below_all : (s : Stored) (records : List Stored) → Ascend stored_below (Some s) records
    → AllByRecursion (λ (r : Stored). bytes_below s.key r.key ≡ true) records
below_all s [] up = tt
below_all s (r ∷ records) up = (up.0, below_all s records (behind records up.1))
  where
    behind : (rs : List Stored) → Ascend stored_below (Some r) rs → Ascend stored_below (Some s) rs
    behind [] more = tt
    behind (x ∷ xs) more = (below_chain s.key r.key x.key up.0 more.0, more.1)

-- keys that ascend differ
differs : (a b : List ℕ) → bytes_below a b ≡ true → bytes_same a b ≡ false
differs a b less = on (bytes_same a b) refl
  where
    on : (same : Bool) → bytes_same a b ≡ same → same ≡ false
    on true e =
        let itself : bytes_below a a ≡ true = ap (bytes_below a) (same_is a b e) ∙ less in
        let never : bytes_below a a ≡ false = not_itself a in
        absurd (cc (itself, never))
    on false e = refl

-- a record is the value at its key
abbrev HasOwn : List Stored → Stored → Type 0
HasOwn records r = value_at r.key records ≡ Some (stored_value r)

own_later : (s : Stored) (all records : List Stored) → AllByRecursion (λ (r : Stored). bytes_below s.key r.key ≡ true) records
    → AllByRecursion (HasOwn all) records → AllByRecursion (HasOwn (s ∷ all)) records
own_later s all [] less own = tt
own_later s all (r ∷ records) less own =
    (ap (λ (b : Bool). cond b (Some (stored_value s)) (value_at r.key all)) (differs s.key r.key less.0) ∙ own.0, own_later s all records less.1 own.1)

each_own : (before : Option Stored) (records : List Stored) → Ascend stored_below before records → AllByRecursion (HasOwn records) records
each_own before [] up = tt
each_own before (s ∷ records) up = (
  ap (λ (b : Bool). cond b (Some (stored_value s)) (value_at s.key records)) (same_itself s.key),
  own_later s records records (below_all s records up.1) (each_own (Some s) records up.1),
)

-- a value is that of one of the records
abbrev record_of : List ℕ → Value → Stored
record_of key v = record { key = key; payload = v.payload; attr = v.attr }

one_of : (records : List Stored) (key : List ℕ) (v : Value) → value_at key records ≡ Some v → Contains records (record_of key v)
one_of [] key v at = absurd (cc (at))
one_of (s ∷ records) key v at = on (bytes_same s.key key) refl (one_of records key v)
  where
    on : (same : Bool) → bytes_same s.key key ≡ same → (value_at key records ≡ Some v → Contains records (record_of key v))
        → Contains (s ∷ records) (record_of key v)
    on true e others =
        let own : s.key ≡ key = same_is s.key key e in
        let value : stored_value s ≡ v =
        same_Some (stored_value s) v (sym (ap (λ (b : Bool). cond b (Some (stored_value s)) (value_at key records)) e) ∙ at) in
        (0, omega arith, (λ i. record_of (own i) (value i)))
    on false e others =
        let later : Contains records (record_of key v) = others (sym (ap (λ (b : Bool). cond b (Some (stored_value s)) (value_at key records)) e) ∙ at) in
        let within = later.1 in
        (suc later.0, omega (arith, within), later.2)

pub are_records : (records : List Stored) → Ascend stored_below None records → AreRecords records (λ key. value_at key records)
are_records records up = record { ascending = up; each = each_own None records up; all = λ key v at. one_of records key v at }

-- ---- what is found

module _ (t : CloudState) (tree : ℕ) (key : List ℕ) where
  reached_newest : (level page : ℕ) (leaf : Leaf) → Reaches t tree key level page leaf → (p : ℕ) × IsNewestLeaf t tree p leaf
  reached_newest level page leaf (ends p l is within) = (p, is)
  reached_newest level page leaf (right_leaf p from l is right rest) = reached_newest 0 from.right l rest
  reached_newest level page leaf (right_inner above p node l is right rest) = reached_newest (suc above) node.right l rest
  reached_newest level page leaf (down above p node l low child is within entry rest) = reached_newest above child l rest

  records_have_keys : (low : List ℕ) (high : Option (List ℕ)) (es : List Entry) (v : Value) → AllByRecursion (IsEntryIn low high) es
      → value_of key es ≡ Some v → IsKey key
  records_have_keys low high [] v each at = absurd (cc (at))
  records_have_keys low high (e ∷ es) v each at = on (bytes_same e.key key) refl (records_have_keys low high es v each.1)
    where
      on : (same : Bool) → bytes_same e.key key ≡ same → (value_of key es ≡ Some v → IsKey key) → IsKey key
      on true is others = subst IsKey (same_is e.key key is) each.0.key
      on false is others = others (sym (ap (λ (b : Bool). cond b (Some e.value) (value_of key es)) is) ∙ at)

  leaf_has_keys : (page : ℕ) (leaf : Leaf) (bytes : Option (List ℕ)) (v : Value) → IsReadAs tree page bytes (Ok leaf)
      → value_of key leaf.records ≡ Some v → IsKey key
  leaf_has_keys page leaf None v is at =
      let none : value_of key leaf.records ≡ None = ap (λ (l : Leaf). value_of key l.records) is.1 in
      absurd (cc (none, at))
  leaf_has_keys page leaf (Some bytes) v is at =
      let formed = (leaf_fits leaf is.fits).1 in
      records_have_keys leaf.low leaf.high leaf.records v formed.records at

  -- where the index finds a value, the key is a record's
  pub found_is_key : (v : Value) → Finds t tree key (Some v) → IsKey key
  found_is_key v f =
      let at = reached_newest f.above f.child f.leaf f.reaches in
      leaf_has_keys at.0 f.leaf (newest t (object.Page tree at.0)) v at.1 (sym f.value_is)
