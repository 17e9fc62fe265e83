-- The entries that a client sees in a leaf of an index ascend, and are among those that are asked for; so do the records' keys of an attribute's.
use Rattle.std.proofs.Common.{◌≡◌, ℕ, Bool, true, false, List, [], ◌∷◌, ◌++◌, length, Option, Some, None, refl, ap, sym, subst, ◌∙◌}
use Rattle.std.specs.Prelude.{◌&&◌, ◌==◌, nat_lt, fold, if◌then◌else◌}
use Rattle.std.specs.List.{AllByRecursion}
use Rattle.std.specs.Ordering.{match_ordering, ordering_reverse}
use Rattle.std.specs.declared.cmp.Ordering.{Ordering}
use Rattle.std.specs.declared.cmp.Ordering.TheVariants.{Less, Equal, Greater}
use Rattle.std.proofs.lemmas.Bool.{eqb-true}
use Rattle.std.proofs.lemmas.Cmp.{nat_list_cmp_total}
use Rattle.byte_format.specs.Order.{bytes_cmp, bytes_same}
use Rattle.db_base.specs.Change.{act, key_of}
use Rattle.db_base.specs.declared.change.Change.{Change}
use Rattle.db_base.specs.Value.{Value}
use Rattle.head_codec.specs.declared.lists.Pending.{Pending}
use Rattle.leaf_view.specs.Leaf.{Entry}
use Rattle.leaf_view.specs.Lookup.{number_of, value_of}
use Rattle.txn_buffer.specs.Noted.{Noted}
use Rattle.range_scan.specs.Pairs.{Sight, is_listed, put_pair, without_pair, with_value, acted, with_record, with_pending, with_noted, items_of}
use Rattle.attr_index.specs.Prefix.{prefix_of, behind, record_key, joined, entry_keys}
use Rattle.attr_index.proofs.Ascents.{each_by, front_cmp, above_more, Ascends}

-- ---- what a client sees of a leaf

abbrev pub Each : (List ℕ → Type 0) → List Entry → Type 0
Each P es = AllByRecursion (λ (e : Entry). P e.key) es

abbrev pub EntriesAscend : List Entry → Type 0
EntriesAscend es = Ascends (λ (e : Entry). e.key) es

abbrev pair : List ℕ → Value → Entry
pair key value = record { key = key; value = value }

put_each : (P : List ℕ → Type 0) (es : List Entry) (key : List ℕ) (value : Value) → P key → Each P es → Each P (put_pair es key value)
put_each P [] key value this h = (this, tt)
put_each P (e ∷ es) key value this h = on (bytes_cmp key e.key) (put_each P es key value this h.1) where
  on : (o : Ordering) → Each P (put_pair es key value)
      → Each P (match_ordering o (pair key value ∷ e ∷ es) (pair e.key value ∷ es) (e ∷ put_pair es key value))
  on Less rest = (this, h)
  on Equal rest = h
  on Greater rest = (h.0, rest)

put_ascends : (es : List Entry) (key : List ℕ) (value : Value) → EntriesAscend es → EntriesAscend (put_pair es key value)
put_ascends [] key value h = (tt, tt)
put_ascends (e ∷ es) key value h = on (bytes_cmp key e.key) refl (put_ascends es key value h.1) where
  on : (o : Ordering) → bytes_cmp key e.key ≡ o → EntriesAscend (put_pair es key value)
      → EntriesAscend (match_ordering o (pair key value ∷ e ∷ es) (pair e.key value ∷ es) (e ∷ put_pair es key value))
  on Less is rest = ((is, above_more (λ (x : Entry). x.key) key e.key es is h.0), h)
  on Equal is rest = h
  on Greater is rest =
      let above : bytes_cmp e.key key ≡ Less = nat_list_cmp_total.antisymm e.key key ∙ ap ordering_reverse is in
      (put_each (λ k. bytes_cmp e.key k ≡ Less) es key value above h.0, rest)

without_each : (P : List ℕ → Type 0) (es : List Entry) (key : List ℕ) → Each P es → Each P (without_pair es key)
without_each P [] key h = tt
without_each P (e ∷ es) key h = on (bytes_same key e.key) (without_each P es key h.1) where
  on : (b : Bool) → Each P (without_pair es key) → Each P (if b then es else e ∷ without_pair es key)
  on true rest = h.1
  on false rest = (h.0, rest)

without_ascends : (es : List Entry) (key : List ℕ) → EntriesAscend es → EntriesAscend (without_pair es key)
without_ascends [] key h = tt
without_ascends (e ∷ es) key h = on (bytes_same key e.key) (without_ascends es key h.1) where
  on : (b : Bool) → EntriesAscend (without_pair es key) → EntriesAscend (if b then es else e ∷ without_pair es key)
  on true rest = h.1
  on false rest = (without_each (λ k. bytes_cmp e.key k ≡ Less) es key h.0, rest)

-- they ascend, and each is asked for
abbrev pub AreListed : Sight → List Entry → Type 0
AreListed s es = EntriesAscend es × Each (λ k. is_listed s k ≡ true) es

put_listed : (s : Sight) (es : List Entry) (key : List ℕ) (value : Value) → is_listed s key ≡ true → AreListed s es
    → AreListed s (put_pair es key value)
put_listed s es key value there h = (put_ascends es key value h.0, put_each (λ k. is_listed s k ≡ true) es key value there h.1)

acted_listed : (s : Sight) (es : List Entry) (c : Change) → is_listed s (key_of c) ≡ true → AreListed s es → AreListed s (acted es c)
acted_listed s es c there h = on (act (value_of (key_of c) es) c) where
  gone : AreListed s (without_pair es (key_of c))
  gone = (without_ascends es (key_of c) h.0, without_each (λ k. is_listed s k ≡ true) es (key_of c) h.1)

  on : (o : Option Value) → AreListed s (with_value (without_pair es (key_of c)) (key_of c) o)
  on None = gone
  on (Some value) = put_listed s (without_pair es (key_of c)) (key_of c) value there gone

where_listed : (s : Sight) (b : Bool) (new old : List Entry) → (b ≡ true → AreListed s new) → AreListed s old → AreListed s (if b then new else old)
where_listed s true new old h g = h refl
where_listed s false new old h g = g

all_listed : {X : Type 0} (s : Sight) (f : List Entry → X → List Entry) → ((es : List Entry) (x : X) → AreListed s es → AreListed s (f es x))
    → (xs : List X) (es : List Entry) → AreListed s es → AreListed s (fold f es xs)
all_listed s f keeps [] es h = h
all_listed s f keeps (x ∷ xs) es h = all_listed s f keeps xs (f es x) (keeps es x h)

pub both_true : (a b : Bool) → (a && b) ≡ true → (a ≡ true) × (b ≡ true)
both_true true b e = (refl, e)
both_true false b e = absurd (cc (e))

record_listed : (s : Sight) (es : List Entry) (e : Entry) → AreListed s es → AreListed s (with_record s es e)
record_listed s es e h = where_listed s (is_listed s e.key) _ es (λ there. put_listed s es e.key e.value there h) h

pending_listed : (s : Sight) (es : List Entry) (p : Pending) → AreListed s es → AreListed s (with_pending s es p)
pending_listed s es p h =
    let lacked = nat_lt (number_of s.leaf.done p.page s.client) p.number in
    where_listed s ((p.tree == s.tree) && (is_listed s (key_of p.change) && lacked)) _ es
    (λ is. acted_listed s es p.change (both_true (is_listed s (key_of p.change)) lacked (both_true (p.tree == s.tree) _ is).1).0 h) h

noted_listed : (s : Sight) (es : List Entry) (n : Noted) → AreListed s es → AreListed s (with_noted s es n)
noted_listed s es n h =
    where_listed s ((n.tree == s.tree) && is_listed s (key_of n.change)) _ es
    (λ is. acted_listed s es n.change (both_true (n.tree == s.tree) _ is).1 h) h

pub items_listed : (s : Sight) → AreListed s (items_of s)
items_listed s =
    all_listed s (with_noted s) (noted_listed s) s.buffer _
    (all_listed s (with_pending s) (pending_listed s) s.head.pending _
    (all_listed s (with_record s) (record_listed s) s.leaf.records [] (tt, tt)))

-- ---- those of one attribute

behind_is : (front bytes key : List ℕ) → behind front bytes ≡ Some key → bytes ≡ front ++ key
behind_is [] [] key e = absurd (cc (e))
behind_is [] (b ∷ bs) key e = cc (e)
behind_is (p ∷ ps) [] key e = absurd (cc (e))
behind_is (p ∷ ps) (b ∷ bs) key e = on (p == b) refl e (behind_is ps bs key) where
  on : (c : Bool) → (p == b) ≡ c → (if c then behind ps bs else None) ≡ Some key → (behind ps bs ≡ Some key → bs ≡ ps ++ key)
      → b ∷ bs ≡ p ∷ (ps ++ key)
  on true is h rest = let first : p ≡ b = eqb-true p b is in cc (first, rest h)
  on false is h rest = absurd (cc (h))

-- an entry of the attribute is its front followed by the record's key
record_is : (attr bytes key : List ℕ) → record_key attr bytes ≡ Some key → bytes ≡ prefix_of attr ++ key
record_is attr bytes key e = on (nat_lt 64 (length bytes)) e where
  on : (b : Bool) → (if b then None else behind (prefix_of attr) bytes) ≡ Some key → bytes ≡ prefix_of attr ++ key
  on true h = absurd (cc (h))
  on false h = behind_is (prefix_of attr) bytes key h

-- what holds of the entries holds of those that are of the attribute
pub keys_each : (P : List ℕ → Type 0) (attr : List ℕ) (es : List Entry) → Each P es
    → AllByRecursion (λ k. P (prefix_of attr ++ k)) (entry_keys attr es)
keys_each P attr [] h = tt
keys_each P attr (e ∷ es) h = on (record_key attr e.key) refl (keys_each P attr es h.1) where
  on : (o : Option (List ℕ)) → record_key attr e.key ≡ o → AllByRecursion (λ k. P (prefix_of attr ++ k)) (entry_keys attr es)
      → AllByRecursion (λ k. P (prefix_of attr ++ k)) (joined o (entry_keys attr es))
  on None is rest = rest
  on (Some key) is rest = (subst P (record_is attr e.key key is) h.0, rest)

pub keys_ascend : (attr : List ℕ) (es : List Entry) → EntriesAscend es → Ascends (λ k. k) (entry_keys attr es)
keys_ascend attr [] h = tt
keys_ascend attr (e ∷ es) h = on (record_key attr e.key) refl (keys_ascend attr es h.1) where
  below : (key : List ℕ) → e.key ≡ prefix_of attr ++ key → (k : List ℕ) → bytes_cmp e.key (prefix_of attr ++ k) ≡ Less → bytes_cmp key k ≡ Less
  below key is k less = sym (front_cmp (prefix_of attr) key k) ∙ (ap (λ (j : List ℕ). bytes_cmp j (prefix_of attr ++ k)) (sym is) ∙ less)

  on : (o : Option (List ℕ)) → record_key attr e.key ≡ o → Ascends (λ k. k) (entry_keys attr es) → Ascends (λ k. k) (joined o (entry_keys attr es))
  on None is rest = rest
  on (Some key) is rest =
      let entries = keys_each (λ k. bytes_cmp e.key k ≡ Less) attr es h.0 in
      let step = below key (record_is attr e.key key is) in
      (each_by (λ k. bytes_cmp e.key (prefix_of attr ++ k) ≡ Less) (λ k. bytes_cmp key k ≡ Less) step (entry_keys attr es) entries, rest)
