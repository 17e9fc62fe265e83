-- The list of a leaf's pairs has each of them once, in key order, and no other.
use Rattle.std.proofs.Common.{◌≡◌, ℕ, Bool, true, false, List, [], ◌∷◌, Option, Some, None, refl, ap, sym, subst, ◌∙◌, ◌+◌, ◌++◌, take, add-one}
use Rattle.std.specs.Prelude.{◌&&◌, nat_eq, nat_lt, ◌==◌, if◌then◌else◌, filter, fold, slice_get}
use Rattle.std.proofs.lemmas.Bool.{eq-eqb, eqb-true}
use Rattle.std.proofs.lemmas.List.Sums.{fold_push}
use Rattle.std.proofs.lemmas.Option.{slice_get_within, get_or_from_slice_get}
use Rattle.std.proofs.lemmas.Slice.Eq.{bytes_eq-Decides}
use Rattle.std.proofs.Math.Seq.{take-suc}
use Rattle.std.specs.Str.{bytes_eq}
use Rattle.std.specs.Ordering.{match_ordering, ordering_reverse, is_eq}
use Rattle.std.specs.declared.cmp.Ordering.{Ordering}
use Rattle.std.specs.declared.cmp.Ordering.TheVariants.{Less, Equal, Greater}
use Rattle.std.proofs.lemmas.Cmp.{tied_itself, nat_list_cmp_total}
use Rattle.std.proofs.lemmas.Map.Text.{is_eq-slice_cmp}
use Rattle.byte_format.specs.Order.{bytes_cmp, bytes_same}
use Rattle.byte_format.proofs.OrderLemmas.{same_is, same_itself}
use Rattle.leaf_view.specs.Fits.{Ascend, entry_below, IsWellFormed}
use Rattle.leaf_view.specs.Leaf.{Entry}
use Rattle.leaf_view.specs.Lookup.{value_of, number_of}
use Rattle.db_base.specs.Value.{Value}
use Rattle.db_base.specs.Change.{act, key_of}
use Rattle.db_base.specs.declared.change.Change.{Change}
use Rattle.head_codec.specs.declared.lists.Pending.{Pending}
use Rattle.txn_buffer.specs.Noted.{Noted, AreDistinct, found_in, is_of}
use Rattle.route_plan.specs.Seen.{is_lacked_by, after_pending, after_buffered}
use Rattle.range_scan.proofs.Order.{is_less}
use Rattle.range_scan.proofs.Placing.{below_more, none_below, same_flip, records_between}
use Rattle.range_scan.specs.Bounds.{cut_at, from_on, up_to}
use Rattle.range_scan.specs.Pairs.{Sight, BelowFirst, IsAscending, AreItems, is_listed, put_pair, without_pair, with_value, acted, with_record, with_records, is_listed_pending, with_pending, with_noted, items_of}

-- ---- a pair in its place

put_below : (low key : List ℕ) (value : Value) (es : List Entry) → bytes_cmp low key ≡ Less → BelowFirst low es → BelowFirst low (put_pair es key value)
put_below low key value [] below h = below
put_below low key value (e ∷ es) below h = on (bytes_cmp key e.key) where
  on : (o : Ordering)
      → BelowFirst low (match_ordering o (record { key = key; value = value } ∷ e ∷ es) (record { key = e.key; value = value } ∷ es) (e ∷ put_pair es key value))
  on Less = below
  on Equal = h
  on Greater = h

put_ascends : (es : List Entry) (key : List ℕ) (value : Value) → IsAscending es → IsAscending (put_pair es key value)
put_ascends [] key value h = (tt, tt)
put_ascends (e ∷ es) key value h = on (bytes_cmp key e.key) refl (put_ascends es key value h.1) where
  on : (o : Ordering) → bytes_cmp key e.key ≡ o → IsAscending (put_pair es key value)
      → IsAscending (match_ordering o (record { key = key; value = value } ∷ e ∷ es) (record { key = e.key; value = value } ∷ es) (e ∷ put_pair es key value))
  on Less is rest = (is, h)
  on Equal is rest = (h.0, h.1)
  on Greater is rest = (put_below e.key key value es (nat_list_cmp_total.antisymm e.key key ∙ ap ordering_reverse is) h.0, rest)

same_of : (a b : List ℕ) → bytes_cmp a b ≡ Equal → a ≡ b
same_of a b e = same_is a b (ap is_eq e)

put_finds : (q key : List ℕ) (value : Value) (es : List Entry) → value_of q (put_pair es key value) ≡ (if bytes_same key q then Some value else value_of q es)
put_finds q key value [] = refl
put_finds q key value (e ∷ es) = on (bytes_cmp key e.key) refl (put_finds q key value es) where
  twice : (a b : Bool) → (a ≡ true → b ≡ true → ⊥) → (x : Option Value) → x ≡ (if a then Some value else value_of q es)
      → (if b then Some e.value else x) ≡ (if a then Some value else if b then Some e.value else value_of q es)
  twice true true never x h = absurd (never refl refl)
  twice true false never x h = h
  twice false true never x h = refl
  twice false false never x h = h

  once : (b : Bool) → (if b then Some value else value_of q es) ≡ (if b then Some value else if b then Some e.value else value_of q es)
  once true = refl
  once false = refl

  apart : bytes_cmp key e.key ≡ Greater → bytes_same key q ≡ true → bytes_same e.key q ≡ true → ⊥
  apart is one two =
      let same : key ≡ e.key = same_is key q one ∙ sym (same_is e.key q two) in
      let equal : bytes_cmp key e.key ≡ Equal = subst (λ (k : List ℕ). bytes_cmp key k ≡ Equal) same (tied_itself nat_list_cmp_total key) in
      absurd (cc (is, equal))

  on : (o : Ordering) → bytes_cmp key e.key ≡ o → value_of q (put_pair es key value) ≡ (if bytes_same key q then Some value else value_of q es)
      → value_of q (match_ordering o (record { key = key; value = value } ∷ e ∷ es) (record { key = e.key; value = value } ∷ es) (e ∷ put_pair es key value))
      ≡ (if bytes_same key q then Some value else value_of q (e ∷ es))
  on Less is h = refl
  on Equal is h =
      subst (λ (k : List ℕ). (if bytes_same e.key q then Some value else value_of q es) ≡ (if bytes_same k q then Some value else value_of q (e ∷ es)))
      (sym (same_of key e.key is)) (once (bytes_same e.key q))
  on Greater is h = twice (bytes_same key q) (bytes_same e.key q) (apart is) (value_of q (put_pair es key value)) h

-- ---- a pair taken out

without_below : (low key : List ℕ) (es : List Entry) → IsAscending es → BelowFirst low es → BelowFirst low (without_pair es key)
without_below low key [] h below = tt
without_below low key (e ∷ es) h below = on (bytes_same key e.key) where
  on : (b : Bool) → BelowFirst low (if b then es else e ∷ without_pair es key)
  on true = below_more low e.key es below h.0
  on false = below

without_ascends : (key : List ℕ) (es : List Entry) → IsAscending es → IsAscending (without_pair es key)
without_ascends key [] h = tt
without_ascends key (e ∷ es) h = on (bytes_same key e.key) (without_ascends key es h.1) where
  on : (b : Bool) → IsAscending (without_pair es key) → IsAscending (if b then es else e ∷ without_pair es key)
  on true g = h.1
  on false g = (without_below e.key key es h.1 h.0, g)

without_finds : (q key : List ℕ) (es : List Entry) → IsAscending es → value_of q (without_pair es key) ≡ (if bytes_same key q then None else value_of q es)
without_finds q key [] h = on (bytes_same key q) where
  on : (b : Bool) → ◌≡◌ {A = Option Value} None (if b then None else None)
  on true = refl
  on false = refl
without_finds q key (e ∷ es) h = on (bytes_same key e.key) refl (without_finds q key es h.1) where
  first : (b : Bool) → bytes_same e.key q ≡ b → value_of q es ≡ (if b then None else if b then Some e.value else value_of q es)
  first true is = subst (λ (k : List ℕ). value_of k es ≡ None) (same_is e.key q is) (none_below e.key es h.1 h.0)
  first false is = refl

  other : (a b : Bool) → (a ≡ true → b ≡ true → ⊥) → (x : Option Value) → x ≡ (if a then None else value_of q es)
      → (if b then Some e.value else x) ≡ (if a then None else if b then Some e.value else value_of q es)
  other true true never x g = absurd (never refl refl)
  other true false never x g = g
  other false true never x g = refl
  other false false never x g = g

  apart : bytes_same key e.key ≡ false → bytes_same key q ≡ true → bytes_same e.key q ≡ true → ⊥
  apart is one two =
      let same : key ≡ e.key = same_is key q one ∙ sym (same_is e.key q two) in
      absurd (cc (is, subst (λ (k : List ℕ). bytes_same key k ≡ true) same (same_itself key)))

  on : (b : Bool) → bytes_same key e.key ≡ b → value_of q (without_pair es key) ≡ (if bytes_same key q then None else value_of q es)
      → value_of q (if b then es else e ∷ without_pair es key) ≡ (if bytes_same key q then None else value_of q (e ∷ es))
  on true is g =
      subst (λ (k : List ℕ). value_of q es ≡ (if bytes_same k q then None else if bytes_same e.key q then Some e.value else value_of q es))
      (sym (same_is key e.key is)) (first (bytes_same e.key q) refl)
  on false is g = other (bytes_same key q) (bytes_same e.key q) (apart is) (value_of q (without_pair es key)) g

-- ---- a change of one key

with_finds : (q key : List ℕ) (o : Option Value) (es : List Entry) → IsAscending es
    → value_of q (with_value (without_pair es key) key o) ≡ (if bytes_same key q then o else value_of q es)
with_finds q key None es h = without_finds q key es h
with_finds q key (Some value) es h = put_finds q key value (without_pair es key) ∙ on (bytes_same key q) (without_finds q key es h) where
  on : (b : Bool) → value_of q (without_pair es key) ≡ (if b then None else value_of q es)
      → (if b then Some value else value_of q (without_pair es key)) ≡ (if b then Some value else value_of q es)
  on true g = refl
  on false g = g

acted_finds : (q : List ℕ) (es : List Entry) (c : Change) → IsAscending es → value_of q (acted es c) ≡ (if bytes_same (key_of c) q then act (value_of q es) c else value_of q es)
acted_finds q es c h = with_finds q (key_of c) (act (value_of (key_of c) es) c) es h ∙ on (bytes_same (key_of c) q) refl where
  on : (b : Bool) → bytes_same (key_of c) q ≡ b → (if b then act (value_of (key_of c) es) c else value_of q es) ≡ (if b then act (value_of q es) c else value_of q es)
  on true is = ap (λ (k : List ℕ). act (value_of k es) c) (same_is (key_of c) q is)
  on false is = refl

acted_ascends : (es : List Entry) (c : Change) → IsAscending es → IsAscending (acted es c)
acted_ascends es c h = on (act (value_of (key_of c) es) c) where
  on : (o : Option Value) → IsAscending (with_value (without_pair es (key_of c)) (key_of c) o)
  on None = without_ascends (key_of c) es h
  on (Some value) = put_ascends (without_pair es (key_of c)) (key_of c) value (without_ascends (key_of c) es h)

-- ---- in order

if_ascends : (b : Bool) (new old : List Entry) → IsAscending new → IsAscending old → IsAscending (if b then new else old)
if_ascends true new old h g = h
if_ascends false new old h g = g

all_ascend : {X : Type 0} (f : List Entry → X → List Entry) → ((pairs : List Entry) (x : X) → IsAscending pairs → IsAscending (f pairs x))
    → (xs : List X) (pairs : List Entry) → IsAscending pairs → IsAscending (fold f pairs xs)
all_ascend f keeps [] pairs h = h
all_ascend f keeps (x ∷ xs) pairs h = all_ascend f keeps xs (f pairs x) (keeps pairs x h)

record_ascends : (s : Sight) (pairs : List Entry) (e : Entry) → IsAscending pairs → IsAscending (with_record s pairs e)
record_ascends s pairs e h = if_ascends (is_listed s e.key) _ _ (put_ascends pairs e.key e.value h) h

pub pending_ascends : (s : Sight) (pairs : List Entry) (p : Pending) → IsAscending pairs → IsAscending (with_pending s pairs p)
pending_ascends s pairs p h = if_ascends (is_listed_pending s p) _ _ (acted_ascends pairs p.change h) h

pub noted_ascends : (s : Sight) (pairs : List Entry) (n : Noted) → IsAscending pairs → IsAscending (with_noted s pairs n)
noted_ascends s pairs n h = if_ascends ((n.tree == s.tree) && is_listed s (key_of n.change)) _ _ (acted_ascends pairs n.change h) h

-- ---- what a list has at a key: a value where the key is asked for, and nothing else

abbrev Shows : Sight → List ℕ → Option Value → List Entry → Type 0
Shows s q v pairs = value_of q pairs ≡ (if is_listed s q then v else None)

-- ---- the records

ascending_behind : (before : Entry) (es : List Entry) → Ascend entry_below (Some before) es → BelowFirst before.key es × IsAscending es
ascending_behind before [] h = (tt, tt)
ascending_behind before (e ∷ es) h = (is_less (bytes_cmp before.key e.key) h.0, ascending_behind e es h.1)

record_finds : (s : Sight) (q : List ℕ) (e : Entry) (pairs : List Entry)
    → value_of q (with_record s pairs e) ≡ (if bytes_same e.key q then (if is_listed s q then Some e.value else value_of q pairs) else value_of q pairs)
record_finds s q e pairs = on (bytes_same e.key q) refl where
  put : (l : Bool) → value_of q (if l then put_pair pairs e.key e.value else pairs)
      ≡ (if l then (if bytes_same e.key q then Some e.value else value_of q pairs) else value_of q pairs)
  put true = put_finds q e.key e.value pairs
  put false = refl

  both : (l : Bool) → (if l then value_of q pairs else value_of q pairs) ≡ value_of q pairs
  both true = refl
  both false = refl

  on : (b : Bool) → bytes_same e.key q ≡ b
      → value_of q (with_record s pairs e) ≡ (if b then (if is_listed s q then Some e.value else value_of q pairs) else value_of q pairs)
  on true is =
      put (is_listed s e.key)
      ∙ ap (λ (b : Bool). if is_listed s e.key then (if b then Some e.value else value_of q pairs) else value_of q pairs) is
      ∙ ap (λ (k : List ℕ). if is_listed s k then Some e.value else value_of q pairs) (same_is e.key q is)
  on false is =
      put (is_listed s e.key)
      ∙ ap (λ (b : Bool). if is_listed s e.key then (if b then Some e.value else value_of q pairs) else value_of q pairs) is
      ∙ both (is_listed s e.key)

-- records of other keys leave a key as it is
others_stay : (s : Sight) (q : List ℕ) (es pairs : List Entry) → value_of q es ≡ None → value_of q (fold (with_record s) pairs es) ≡ value_of q pairs
others_stay s q [] pairs h = refl
others_stay s q (e ∷ es) pairs h = on (bytes_same e.key q) h (record_finds s q e pairs) (others_stay s q es (with_record s pairs e)) where
  on : (b : Bool) → (if b then Some e.value else value_of q es) ≡ None
      → value_of q (with_record s pairs e) ≡ (if b then (if is_listed s q then Some e.value else value_of q pairs) else value_of q pairs)
      → (value_of q es ≡ None → value_of q (fold (with_record s) (with_record s pairs e) es) ≡ value_of q (with_record s pairs e))
      → value_of q (fold (with_record s) (with_record s pairs e) es) ≡ value_of q pairs
  on true none g rest = absurd (cc (none))
  on false none g rest = rest none ∙ g

all_records : (s : Sight) (q : List ℕ) (es pairs : List Entry) → IsAscending es → value_of q pairs ≡ None → Shows s q (value_of q es) (fold (with_record s) pairs es)
all_records s q [] pairs h none = none ∙ on (is_listed s q) where
  on : (l : Bool) → ◌≡◌ {A = Option Value} None (if l then None else None)
  on true = refl
  on false = refl
all_records s q (e ∷ es) pairs h none = on (bytes_same e.key q) refl (record_finds s q e pairs) (all_records s q es (with_record s pairs e) h.1) where
  on : (b : Bool) → bytes_same e.key q ≡ b
      → value_of q (with_record s pairs e) ≡ (if b then (if is_listed s q then Some e.value else value_of q pairs) else value_of q pairs)
      → (value_of q (with_record s pairs e) ≡ None → Shows s q (value_of q es) (fold (with_record s) (with_record s pairs e) es))
      → value_of q (fold (with_record s) (with_record s pairs e) es) ≡ (if is_listed s q then (if b then Some e.value else value_of q es) else None)
  on true is g rest =
      others_stay s q es (with_record s pairs e) (subst (λ (k : List ℕ). value_of k es ≡ None) (same_is e.key q is) (none_below e.key es h.1 h.0))
      ∙ g ∙ ap (λ (o : Option Value). if is_listed s q then Some e.value else o) none
  on false is g rest = rest (g ∙ none)

-- ---- the client's own changes

pending_shows : (s : Sight) (q : List ℕ) (p : Pending) (pairs : List Entry) (v : Option Value) → IsAscending pairs → Shows s q v pairs
    → Shows s q (if is_lacked_by s.leaf s.client s.tree q p then act v p.change else v) (with_pending s pairs p)
pending_shows s q p pairs v up h = on (bytes_same (key_of p.change) q) refl (acted_finds q pairs p.change up) where
  hit : (t l n : Bool) → value_of q (acted pairs p.change) ≡ act (value_of q pairs) p.change → value_of q pairs ≡ (if l then v else None)
      → value_of q (if t && (l && n) then acted pairs p.change else pairs) ≡ (if l then (if (t && true) && n then act v p.change else v) else None)
  hit true true true f g = f ∙ ap (λ (o : Option Value). act o p.change) g
  hit true true false f g = g
  hit true false n f g = g
  hit false true n f g = g
  hit false false n f g = g

  miss : (t c l n : Bool) → value_of q (acted pairs p.change) ≡ value_of q pairs → value_of q pairs ≡ (if l then v else None)
      → value_of q (if t && c then acted pairs p.change else pairs) ≡ (if l then (if (t && false) && n then act v p.change else v) else None)
  miss true true l n f g = f ∙ g
  miss true false l n f g = g
  miss false c l n f g = g

  on : (b : Bool) → bytes_same (key_of p.change) q ≡ b → value_of q (acted pairs p.change) ≡ (if b then act (value_of q pairs) p.change else value_of q pairs)
      → Shows s q (if is_lacked_by s.leaf s.client s.tree q p then act v p.change else v) (with_pending s pairs p)
  on true is f =
      ap (λ (k : List ℕ). value_of q (if (p.tree == s.tree) && (is_listed s k && nat_lt (number_of s.leaf.done p.page s.client) p.number) then acted pairs p.change else pairs))
      (same_is (key_of p.change) q is)
      ∙ hit (p.tree == s.tree) (is_listed s q) (nat_lt (number_of s.leaf.done p.page s.client) p.number) f h
      ∙ ap (λ (e : Bool). if is_listed s q then (if ((p.tree == s.tree) && e) && nat_lt (number_of s.leaf.done p.page s.client) p.number then act v p.change else v) else None)
      (sym (sym (is_eq-slice_cmp (key_of p.change) q) ∙ is))
  on false is f =
      miss (p.tree == s.tree) (is_listed s (key_of p.change) && nat_lt (number_of s.leaf.done p.page s.client) p.number) (is_listed s q)
      (nat_lt (number_of s.leaf.done p.page s.client) p.number) f h
      ∙ ap (λ (e : Bool). if is_listed s q then (if ((p.tree == s.tree) && e) && nat_lt (number_of s.leaf.done p.page s.client) p.number then act v p.change else v) else None)
      (sym (sym (is_eq-slice_cmp (key_of p.change) q) ∙ is))

all_pending : (s : Sight) (q : List ℕ) (ps : List Pending) (pairs : List Entry) (v : Option Value) → IsAscending pairs → Shows s q v pairs
    → Shows s q (after_pending v (filter (is_lacked_by s.leaf s.client s.tree q) ps)) (fold (with_pending s) pairs ps)
all_pending s q [] pairs v up h = h
all_pending s q (p ∷ ps) pairs v up h =
    all_pending s q ps (with_pending s pairs p) (if lacked then act v p.change else v) (pending_ascends s pairs p up) (pending_shows s q p pairs v up h)
    ∙ ap (λ (o : Option Value). if is_listed s q then o else None) (on lacked)
  where
    lacked : Bool
    lacked = is_lacked_by s.leaf s.client s.tree q p

    rest : List Pending
    rest = filter (is_lacked_by s.leaf s.client s.tree q) ps

    on : (b : Bool) → after_pending (if b then act v p.change else v) rest ≡ after_pending v (if b then p ∷ rest else rest)
    on true = refl
    on false = refl

bytes_same_eq : (a b : List ℕ) → bytes_eq b a ≡ bytes_same a b
bytes_same_eq a b = sym (is_eq-slice_cmp b a) ∙ same_flip b a

nat_flip : (m n : ℕ) → nat_eq m n ≡ nat_eq n m
nat_flip m n = on (nat_eq m n) (nat_eq n m) refl refl where
  on : (a b : Bool) → nat_eq m n ≡ a → nat_eq n m ≡ b → a ≡ b
  on true true e f = refl
  on false false e f = refl
  on true false e f = absurd (cc (f, eq-eqb n m (sym (eqb-true m n e))))
  on false true e f = absurd (cc (e, eq-eqb m n (sym (eqb-true n m f))))

noted_shows : (s : Sight) (q : List ℕ) (n : Noted) (pairs : List Entry) (v : Option Value) → IsAscending pairs → Shows s q v pairs
    → Shows s q (if is_of s.tree q n then act v n.change else v) (with_noted s pairs n)
noted_shows s q n pairs v up h = on (bytes_same (key_of n.change) q) refl (acted_finds q pairs n.change up) where
  hit : (t l : Bool) → value_of q (acted pairs n.change) ≡ act (value_of q pairs) n.change → value_of q pairs ≡ (if l then v else None)
      → value_of q (if t && l then acted pairs n.change else pairs) ≡ (if l then (if t && true then act v n.change else v) else None)
  hit true true f g = f ∙ ap (λ (o : Option Value). act o n.change) g
  hit true false f g = g
  hit false true f g = g
  hit false false f g = g

  miss : (t c l : Bool) → value_of q (acted pairs n.change) ≡ value_of q pairs → value_of q pairs ≡ (if l then v else None)
      → value_of q (if t && c then acted pairs n.change else pairs) ≡ (if l then (if t && false then act v n.change else v) else None)
  miss true true l f g = f ∙ g
  miss true false l f g = g
  miss false c l f g = g

  as_is : (b : Bool) → bytes_same (key_of n.change) q ≡ b
      → (if is_listed s q then (if (n.tree == s.tree) && b then act v n.change else v) else None) ≡ (if is_listed s q then (if is_of s.tree q n then act v n.change else v) else None)
  as_is b is =
      ap (λ (e : Bool). if is_listed s q then (if (n.tree == s.tree) && e then act v n.change else v) else None) (sym is ∙ sym (bytes_same_eq (key_of n.change) q))
      ∙ ap (λ (t : Bool). if is_listed s q then (if t && bytes_eq q (key_of n.change) then act v n.change else v) else None) (nat_flip n.tree s.tree)

  on : (b : Bool) → bytes_same (key_of n.change) q ≡ b → value_of q (acted pairs n.change) ≡ (if b then act (value_of q pairs) n.change else value_of q pairs)
      → Shows s q (if is_of s.tree q n then act v n.change else v) (with_noted s pairs n)
  on true is f =
      ap (λ (k : List ℕ). value_of q (if (n.tree == s.tree) && is_listed s k then acted pairs n.change else pairs)) (same_is (key_of n.change) q is)
      ∙ hit (n.tree == s.tree) (is_listed s q) f h
      ∙ as_is true is
  on false is f = miss (n.tree == s.tree) (is_listed s (key_of n.change)) (is_listed s q) f h ∙ as_is false is

all_noted : (s : Sight) (q : List ℕ) (ns : List Noted) (pairs : List Entry) (v : Option Value) → AreDistinct ns → IsAscending pairs → Shows s q v pairs
    → Shows s q (after_buffered v (found_in ns s.tree q)) (fold (with_noted s) pairs ns)
all_noted s q [] pairs v apart up h = h
all_noted s q (n ∷ ns) pairs v apart up h = on (is_of s.tree q n) refl (noted_shows s q n pairs v up h) (λ (w : Option Value). all_noted s q ns (with_noted s pairs n) w apart.1 (noted_ascends s pairs n up)) where
  no_other : is_of s.tree q n ≡ true → found_in ns s.tree q ≡ None
  no_other is = split (nat_eq s.tree n.tree) (bytes_eq q (key_of n.change)) refl refl is where
    split : (a b : Bool) → nat_eq s.tree n.tree ≡ a → bytes_eq q (key_of n.change) ≡ b → (a && b) ≡ true → found_in ns s.tree q ≡ None
    split true true same key both =
        let trees : s.tree ≡ n.tree = eqb-true s.tree n.tree same in
        let keys : q ≡ key_of n.change = (bytes_eq-Decides q (key_of n.change)).0 key in
        ap (λ (t : ℕ). found_in ns t q) trees ∙ ap (λ (k : List ℕ). found_in ns n.tree k) keys ∙ apart.0
    split true false same key both = absurd (cc (both))
    split false b same key both = absurd (cc (both))

  on : (b : Bool) → is_of s.tree q n ≡ b → Shows s q (if b then act v n.change else v) (with_noted s pairs n)
      → ((w : Option Value) → Shows s q w (with_noted s pairs n) → Shows s q (after_buffered w (found_in ns s.tree q)) (fold (with_noted s) (with_noted s pairs n) ns))
      → Shows s q (after_buffered v (if b then Some n.change else found_in ns s.tree q)) (fold (with_noted s) (with_noted s pairs n) ns)
  on true is g rest =
      rest (act v n.change) g
      ∙ ap (λ (o : Option Change). if is_listed s q then after_buffered (act v n.change) o else None) (no_other is)
  on false is g rest = rest v g

-- ---- the whole list

pub ordered : (es : List Entry) → Ascend entry_below None es → IsAscending es
ordered [] g = tt
ordered (e ∷ es) g = ascending_behind e es g.1

pub with_records_ascend : (s : Sight) → IsAscending (with_records s)
with_records_ascend s = all_ascend (with_record s) (record_ascends s) s.leaf.records [] tt

abbrev with_pendings : Sight → List Entry
with_pendings s = fold (with_pending s) (with_records s) s.head.pending

are_items : (s : Sight) → Ascend entry_below None s.leaf.records → AreDistinct s.buffer → AreItems s (items_of s)
are_items s h apart = record { ascending = ascend; each = has } where
  up_first : IsAscending (with_records s)
  up_first = with_records_ascend s

  up_next : IsAscending (with_pendings s)
  up_next = all_ascend (with_pending s) (pending_ascends s) s.head.pending (with_records s) up_first

  ascend : IsAscending (items_of s)
  ascend = all_ascend (with_noted s) (noted_ascends s) s.buffer (with_pendings s) up_next

  has : (q : List ℕ) → Shows s q (after_buffered (after_pending (value_of q s.leaf.records) (filter (is_lacked_by s.leaf s.client s.tree q) s.head.pending)) (found_in s.buffer s.tree q)) (items_of s)
  has q = all_noted s q s.buffer (with_pendings s) _ apart up_next
      (all_pending s q s.head.pending (with_records s) _ up_first (all_records s q s.leaf.records [] (ordered s.leaf.records h) refl))

-- ---- one more of the buffer

take_one_more : {A : Type 0} (xs : List A) (i : ℕ) (x : A) → slice_get xs i ≡ Some x → take (i + 1) xs ≡ take i xs ++ x ∷ []
take_one_more xs i x h =
    let below = slice_get_within xs i x h in
    let at = get_or_from_slice_get xs i x x h in
    let t = take-suc xs i x below in
    rw add-one (cc)

pub one_buffered : (s : Sight) (start now new : List Entry) (buffer : List Noted) (i : ℕ) (n : Noted) → slice_get buffer i ≡ Some n
    → now ≡ fold (with_noted s) start (take i buffer) → new ≡ with_noted s now n → new ≡ fold (with_noted s) start (take (i + 1) buffer)
one_buffered s start now new buffer i n at before is =
    is
    ∙ ap (λ (x : List Entry). with_noted s x n) before
    ∙ sym (fold_push (with_noted s) start (take i buffer) n)
    ∙ ap (fold (with_noted s) start) (sym (take_one_more buffer i n at))

-- ---- what the code makes

pub are_listed : (s x : Sight) (b c d : List Entry) (pending : List Pending) → x ≡ s → pending ≡ x.head.pending → b ≡ with_records s
    → c ≡ fold (with_pending s) b pending → d ≡ fold (with_noted s) c x.buffer → d ≡ items_of s
are_listed s x b c d pending same of_head one two three =
    let C : c ≡ with_pendings s =
    two
    ∙ ap (λ (p : List Pending). fold (with_pending s) b p) of_head
    ∙ ap (λ (y : Sight). fold (with_pending s) b y.head.pending) same
    ∙ ap (λ (z : List Entry). fold (with_pending s) z s.head.pending) one in
    three
    ∙ ap (λ (y : Sight). fold (with_noted s) c y.buffer) same
    ∙ ap (λ (z : List Entry). fold (with_noted s) z s.buffer) C

pub items_are : (s x : Sight) (pairs : List Entry) → x ≡ s → Ascend entry_below None x.leaf.records → AreDistinct x.buffer → pairs ≡ items_of s → AreItems s pairs
items_are s x pairs same h apart e =
    subst (AreItems s) (sym e) (are_items s (subst (λ (y : Sight). Ascend entry_below None y.leaf.records) same h) (subst (λ (y : Sight). AreDistinct y.buffer) same apart))

pub records_listed : (s x : Sight) (records skipped start items : List Entry) (cut : Option (List ℕ)) → x ≡ s → IsWellFormed x.leaf → records ≡ x.leaf.records
    → skipped ≡ from_on x.from records → cut ≡ cut_at s.leaf.high s.to → start ≡ [] → items ≡ start ++ up_to cut skipped → items ≡ with_records s
records_listed s x records skipped start items cut same formed of_leaf skip end none up =
    let h : IsWellFormed s.leaf = subst (λ (y : Sight). IsWellFormed y.leaf) same formed in
    up
    ∙ ap (λ (z : List Entry). z ++ up_to cut skipped) none
    ∙ ap (λ (k : Option (List ℕ)). up_to k skipped) end
    ∙ ap (up_to (cut_at s.leaf.high s.to)) (skip ∙ ap (from_on x.from) of_leaf ∙ ap (λ (y : Sight). from_on y.from y.leaf.records) same)
    ∙ records_between s (ordered s.leaf.records h.records_ascend) h.records
