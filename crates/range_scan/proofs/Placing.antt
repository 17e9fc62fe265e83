-- A leaf's records that are asked for stand in one piece, and a change is made at the place of its key.
use Rattle.std.proofs.Common.{◌≡◌, ℕ, zero, suc, ◌<◌, ◌≤◌, Bool, true, false, List, [], ◌∷◌, ◌++◌, Option, Some, None, refl, ap, sym, subst, ◌∙◌, length, map, take, drop, arith, append_assoc, append-nil, Bor}
use Rattle.std.specs.Prelude.{◌&&◌, not, ⊤, fold, if◌then◌else◌, slice_index_or}
use Rattle.std.specs.List.{AllByRecursion, AllWithin, insert, remove}
use Rattle.std.specs.List.Sorted.{IsPartitionedBy}
use Rattle.std.specs.Ordering.{ordering_reverse, is_eq, is_lt}
use Rattle.std.specs.declared.cmp.Ordering.{Ordering}
use Rattle.std.specs.declared.cmp.Ordering.TheVariants.{Less, Equal, Greater}
use Rattle.std.proofs.Math.Seq.{drop-cons}
use Rattle.std.proofs.lemmas.Cmp.{nat_list_cmp_total}
use Rattle.std.proofs.lemmas.List.{drop-map, take-map, map-append, take-append-drop, get_or_default}
use Rattle.byte_format.specs.Order.{bytes_cmp, bytes_below, bytes_same, below_bound}
use Rattle.byte_format.proofs.OrderLemmas.{same_is}
use Rattle.db_base.specs.Change.{act, key_of}
use Rattle.db_base.specs.declared.change.Change.{Change}
use Rattle.db_base.specs.Value.{Value}
use Rattle.leaf_view.specs.Fits.{IsEntryIn}
use Rattle.range_scan.proofs.Words.{Entry, Leaf, holds, value_of, valued}
use Rattle.range_scan.specs.Bounds.{cut_at, from_on, up_to, place_of, first_value, without_first}
use Rattle.range_scan.specs.Pairs.{Sight, BelowFirst, IsAscending, is_listed, put_pair, without_pair, with_value, acted, with_record, with_records}
use Rattle.range_scan.proofs.Order.{below_trans, bound_trans, cut_same}

pub below_more : (key low : List ℕ) (es : List Entry) → bytes_cmp key low ≡ Less → BelowFirst low es → BelowFirst key es
below_more key low [] below h = tt
below_more key low (e ∷ es) below h = nat_list_cmp_total.trans key low e.key below h

flipped : (a b : List ℕ) (o : Ordering) → bytes_cmp a b ≡ o → bytes_cmp b a ≡ ordering_reverse o
flipped a b o is = nat_list_cmp_total.antisymm b a ∙ ap ordering_reverse is

pub same_flip : (a b : List ℕ) → bytes_same a b ≡ bytes_same b a
same_flip a b = ap is_eq (nat_list_cmp_total.antisymm a b) ∙ turned (bytes_cmp b a) where
  turned : (o : Ordering) → is_eq (ordering_reverse o) ≡ is_eq o
  turned Less = refl
  turned Equal = refl
  turned Greater = refl

-- a list that begins above a key has none there
pub none_below : (key : List ℕ) (es : List Entry) → IsAscending es → BelowFirst key es → value_of key es ≡ None
none_below key [] h below = refl
none_below key (e ∷ es) h below =
    ap (λ (b : Bool). if b then Some e.value else value_of key es) (same_flip e.key key ∙ ap is_eq below)
    ∙ none_below key es h.1 (below_more key e.key es below h.0)

-- ---- the records of a leaf that are asked for

-- the first key is not below this one
abbrev FirstFrom : List ℕ → List Entry → Type 0
FirstFrom from [] = ⊤
FirstFrom from (e ∷ es) = bytes_below e.key from ≡ false

-- each key is below this one
abbrev AllBelow : List ℕ → List Entry → Type 0
AllBelow key es = AllByRecursion (λ (e : Entry). bytes_cmp e.key key ≡ Less) es

abbrev AreBefore : List Entry → List Entry → Type 0
AreBefore pairs [] = ⊤
AreBefore pairs (e ∷ es) = AllBelow e.key pairs

abbrev AreIn : Leaf → List Entry → Type 0
AreIn l es = AllByRecursion (λ (e : Entry). IsEntryIn l.low l.high e) es

put_last : (pairs : List Entry) (e : Entry) → AllBelow e.key pairs → put_pair pairs e.key e.value ≡ pairs ++ e ∷ []
put_last [] e h = refl
put_last (p ∷ ps) e h =
    let above : bytes_cmp e.key p.key ≡ Greater = flipped p.key e.key Less h.0 in
    rw above (ap (λ (xs : List Entry). p ∷ xs) (put_last ps e h.1))

before_next : (pairs es : List Entry) (e : Entry) → AllBelow e.key pairs → BelowFirst e.key es → AreBefore (pairs ++ e ∷ []) es
before_next pairs [] e h below = tt
before_next pairs (x ∷ xs) e h below = all pairs h where
  all : (ps : List Entry) → AllBelow e.key ps → AllBelow x.key (ps ++ e ∷ [])
  all [] g = (below, tt)
  all (p ∷ ps) g = (nat_list_cmp_total.trans p.key e.key x.key g.0 below, all ps g.1)

still_from : (from low : List ℕ) (es : List Entry) → bytes_below low from ≡ false → BelowFirst low es → FirstFrom from es
still_from from low [] out below = tt
still_from from low (e ∷ es) out below = on (bytes_below e.key from) refl where
  on : (b : Bool) → bytes_below e.key from ≡ b → b ≡ false
  on false is = refl
  on true is =
      let less : bytes_below low from ≡ true = below_trans low e.key from (ap is_lt below) is in
      absurd (cc (less, out))

-- of a leaf's records from the first key on, those below the bound are listed
listed_by : (s : Sight) (e : Entry) → IsEntryIn s.leaf.low s.leaf.high e → bytes_below e.key s.from ≡ false → is_listed s e.key ≡ below_bound e.key s.to
listed_by s e here from =
    ap (λ (b : Bool). (b && below_bound e.key s.leaf.high) && (not (bytes_below e.key s.from) && below_bound e.key s.to)) here.from_low
    ∙ ap (λ (b : Bool). b && (not (bytes_below e.key s.from) && below_bound e.key s.to)) here.to_high
    ∙ ap (λ (b : Bool). not b && below_bound e.key s.to) from

none_more : (s : Sight) (low : List ℕ) (es pairs : List Entry) → below_bound low s.to ≡ false → BelowFirst low es → IsAscending es → fold (with_record s) pairs es ≡ pairs
none_more s low [] pairs out below h = refl
none_more s low (e ∷ es) pairs out below h =
    ap (λ (b : Bool). fold (with_record s) (if b then put_pair pairs e.key e.value else pairs) es) unlisted
    ∙ none_more s e.key es pairs past h.0 h.1
  where
    past : below_bound e.key s.to ≡ false
    past = on (below_bound e.key s.to) refl where
      on : (b : Bool) → below_bound e.key s.to ≡ b → b ≡ false
      on false is = refl
      on true is =
          let less : below_bound low s.to ≡ true = bound_trans low e.key s.to (ap is_lt below) is in
          absurd (cc (less, out))

    unlisted : is_listed s e.key ≡ false
    unlisted = ap (λ (b : Bool). holds s.leaf e.key && (not (bytes_below e.key s.from) && b)) past ∙ both (holds s.leaf e.key) (not (bytes_below e.key s.from)) where
      both : (a b : Bool) → (a && (b && false)) ≡ false
      both true true = refl
      both true false = refl
      both false b = refl

fold_from : (s : Sight) (es pairs : List Entry) → fold (with_record s) pairs (from_on s.from es) ≡ fold (with_record s) pairs es
fold_from s [] pairs = refl
fold_from s (e ∷ es) pairs = on (bytes_below e.key s.from) refl (fold_from s es pairs) where
  never : (h : Bool) → (h && false) ≡ false
  never true = refl
  never false = refl

  out : bytes_below e.key s.from ≡ true → is_listed s e.key ≡ false
  out is = ap (λ (b : Bool). holds s.leaf e.key && (not b && below_bound e.key s.to)) is ∙ never (holds s.leaf e.key)

  on : (b : Bool) → bytes_below e.key s.from ≡ b → fold (with_record s) pairs (from_on s.from es) ≡ fold (with_record s) pairs es
      → fold (with_record s) pairs (if b then from_on s.from es else e ∷ es) ≡ fold (with_record s) pairs (e ∷ es)
  on true is rest = rest ∙ sym (ap (λ (b : Bool). fold (with_record s) (if b then put_pair pairs e.key e.value else pairs) es) (out is))
  on false is rest = refl

fold_up_to : (s : Sight) (es pairs : List Entry) → IsAscending es → AreIn s.leaf es → FirstFrom s.from es → AreBefore pairs es
    → fold (with_record s) pairs es ≡ pairs ++ up_to (cut_at s.leaf.high s.to) es
fold_up_to s [] pairs h here from before = sym (append-nil pairs)
fold_up_to s (e ∷ es) pairs h here from before =
    on (below_bound e.key s.to) refl
    (fold_up_to s es (pairs ++ e ∷ []) h.1 here.1 (still_from s.from e.key es from h.0) (before_next pairs es e before h.0))
  where
    cut : Option (List ℕ)
    cut = cut_at s.leaf.high s.to

    same : below_bound e.key s.to ≡ below_bound e.key cut
    same = cut_same s.leaf.high s.to e.key here.0.to_high

    listed : is_listed s e.key ≡ below_bound e.key s.to
    listed = listed_by s e here.0 from

    by : (b : Bool) → below_bound e.key s.to ≡ b → fold (with_record s) pairs (e ∷ es) ≡ fold (with_record s) (if b then put_pair pairs e.key e.value else pairs) es
    by b is = ap (λ (x : Bool). fold (with_record s) (if x then put_pair pairs e.key e.value else pairs) es) (listed ∙ is)

    to : (b : Bool) → below_bound e.key s.to ≡ b → (if b then e ∷ up_to cut es else []) ≡ up_to cut (e ∷ es)
    to b is = ap (λ (x : Bool). if x then e ∷ up_to cut es else []) (sym is ∙ same)

    on : (b : Bool) → below_bound e.key s.to ≡ b → fold (with_record s) (pairs ++ e ∷ []) es ≡ (pairs ++ e ∷ []) ++ up_to cut es
        → fold (with_record s) pairs (e ∷ es) ≡ pairs ++ up_to cut (e ∷ es)
    on true is rest =
        by true is
        ∙ ap (λ (x : List Entry). fold (with_record s) x es) (put_last pairs e before)
        ∙ rest
        ∙ append_assoc pairs (e ∷ []) (up_to cut es)
        ∙ ap (λ (x : List Entry). pairs ++ x) (to true is)
    on false is rest =
        by false is
        ∙ none_more s e.key es pairs is h.0 h.1
        ∙ sym (append-nil pairs)
        ∙ ap (λ (x : List Entry). pairs ++ x) (to false is)

from_on_first : (from : List ℕ) (es : List Entry) → FirstFrom from (from_on from es)
from_on_first from [] = tt
from_on_first from (e ∷ es) = on (bytes_below e.key from) refl (from_on_first from es) where
  on : (b : Bool) → bytes_below e.key from ≡ b → FirstFrom from (from_on from es) → FirstFrom from (if b then from_on from es else e ∷ es)
  on true is rest = rest
  on false is rest = is

from_on_ascends : (from : List ℕ) (es : List Entry) → IsAscending es → IsAscending (from_on from es)
from_on_ascends from [] h = tt
from_on_ascends from (e ∷ es) h = on (bytes_below e.key from) (from_on_ascends from es h.1) where
  on : (b : Bool) → IsAscending (from_on from es) → IsAscending (if b then from_on from es else e ∷ es)
  on true rest = rest
  on false rest = h

from_on_in : (l : Leaf) (from : List ℕ) (es : List Entry) → AreIn l es → AreIn l (from_on from es)
from_on_in l from [] h = tt
from_on_in l from (e ∷ es) h = on (bytes_below e.key from) (from_on_in l from es h.1) where
  on : (b : Bool) → AreIn l (from_on from es) → AreIn l (if b then from_on from es else e ∷ es)
  on true rest = rest
  on false rest = h

before_none : (es : List Entry) → AreBefore [] es
before_none [] = tt
before_none (e ∷ es) = tt

pub records_between : (s : Sight) → IsAscending s.leaf.records → AreIn s.leaf s.leaf.records → up_to (cut_at s.leaf.high s.to) (from_on s.from s.leaf.records) ≡ with_records s
records_between s h here =
    let es : List Entry = from_on s.from s.leaf.records in
    sym (fold_up_to s es [] (from_on_ascends s.from _ h) (from_on_in s.leaf s.from _ here) (from_on_first s.from _) (before_none es))
    ∙ fold_from s s.leaf.records []

-- ---- the place of a key

pub place_within : (key : List ℕ) (es : List Entry) → place_of key es ≤ length es
place_within key [] = omega arith
place_within key (e ∷ es) = on (bytes_below e.key key) (place_within key es) where
  on : (b : Bool) → place_of key es ≤ length es → (if b then suc (place_of key es) else 0) ≤ suc (length es)
  on true h = omega arith
  on false h = omega arith

found_at : (key : List ℕ) (es : List Entry) → IsAscending es → value_of key es ≡ first_value key (drop (place_of key es) es)
found_at key [] h = refl
found_at key (e ∷ es) h = on (bytes_cmp e.key key) refl (found_at key es h.1) where
  on : (o : Ordering) → bytes_cmp e.key key ≡ o → value_of key es ≡ first_value key (drop (place_of key es) es)
      → value_of key (e ∷ es) ≡ first_value key (drop (place_of key (e ∷ es)) (e ∷ es))
  on Less is rest = rw is rest
  on Equal is rest = rw (is, is) refl
  on Greater is rest = rw (is, is) (none_below key es h.1 (below_more key e.key es (flipped e.key key Greater is) h.0))

gone_below : (key : List ℕ) (es : List Entry) → IsAscending es → BelowFirst key es → without_pair es key ≡ es
gone_below key [] h below = refl
gone_below key (e ∷ es) h below = rw below (ap (λ (xs : List Entry). e ∷ xs) (gone_below key es h.1 (below_more key e.key es below h.0)))

without_at : (key : List ℕ) (es : List Entry) → IsAscending es → without_pair es key ≡ take (place_of key es) es ++ without_first key (drop (place_of key es) es)
without_at key [] h = refl
without_at key (e ∷ es) h = on (bytes_cmp e.key key) refl (without_at key es h.1) where
  on : (o : Ordering) → bytes_cmp e.key key ≡ o → without_pair es key ≡ take (place_of key es) es ++ without_first key (drop (place_of key es) es)
      → without_pair (e ∷ es) key ≡ take (place_of key (e ∷ es)) (e ∷ es) ++ without_first key (drop (place_of key (e ∷ es)) (e ∷ es))
  on Less is rest = let back = flipped e.key key Less is in rw (is, back) (ap (λ (xs : List Entry). e ∷ xs) rest)
  on Equal is rest = let back = flipped e.key key Equal is in rw (is, back, is) refl
  on Greater is rest =
      let back = flipped e.key key Greater is in
      rw (is, back, is) (ap (λ (xs : List Entry). e ∷ xs) (gone_below key es h.1 (below_more key e.key es back h.0)))

above_first : (key : List ℕ) (es : List Entry) → IsAscending es → BelowFirst key (without_first key (drop (place_of key es) es))
above_first key [] h = tt
above_first key (e ∷ es) h = on (bytes_cmp e.key key) refl (above_first key es h.1) where
  on : (o : Ordering) → bytes_cmp e.key key ≡ o → BelowFirst key (without_first key (drop (place_of key es) es))
      → BelowFirst key (without_first key (drop (place_of key (e ∷ es)) (e ∷ es)))
  on Less is rest = rw is rest
  on Equal is rest = rw (is, is) (subst (λ (k : List ℕ). BelowFirst k es) (same_is e.key key (ap is_eq is)) h.0)
  on Greater is rest = rw (is, is) (flipped e.key key Greater is)

put_first : (key : List ℕ) (value : Value) (rest : List Entry) → BelowFirst key rest → record { key = key; value = value } ∷ rest ≡ put_pair rest key value
put_first key value [] below = refl
put_first key value (e ∷ es) below = rw below refl

-- a pair put behind the first i pairs, with others behind it, is put in its place
abbrev PutAt : List ℕ → Value → List Entry → ℕ → List Entry → Type 0
PutAt key value rest i es =
    take i (take i es ++ rest) ++ record { key = key; value = value } ∷ drop i (take i es ++ rest) ≡ put_pair (take i es ++ rest) key value

put_at : (key : List ℕ) (value : Value) (es rest : List Entry) → BelowFirst key rest → PutAt key value rest (place_of key es) es
put_at key value [] rest below = put_first key value rest below
put_at key value (e ∷ es) rest below = on (bytes_cmp e.key key) refl (put_at key value es rest below) where
  on : (o : Ordering) → bytes_cmp e.key key ≡ o → PutAt key value rest (place_of key es) es → PutAt key value rest (place_of key (e ∷ es)) (e ∷ es)
  on Less is more = let back = flipped e.key key Less is in rw (is, back) (ap (λ (xs : List Entry). e ∷ xs) more)
  on Equal is more = rw is (put_first key value rest below)
  on Greater is more = rw is (put_first key value rest below)

-- what a change leaves, by the value before it
by_value : (es left : List Entry) (c : Change) (k : List ℕ) (i : ℕ) (before after : Option Value) → k ≡ key_of c → IsAscending es → i ≡ place_of k es
    → before ≡ first_value k (drop i es) → left ≡ take i es ++ without_first k (drop i es) → after ≡ act before c → with_value left k after ≡ acted es c
by_value es left c k i before after key h at was removed is =
    let found : before ≡ value_of k es = was ∙ ap (λ (n : ℕ). first_value k (drop n es)) at ∙ sym (found_at k es h) in
    let gone : left ≡ without_pair es k = removed ∙ ap (λ (n : ℕ). take n es ++ without_first k (drop n es)) at ∙ sym (without_at k es h) in
    ap (λ (x : List Entry). with_value x k after) gone
    ∙ ap (λ (q : List ℕ). with_value (without_pair es q) q after) key
    ∙ ap (λ (o : Option Value). with_value (without_pair es (key_of c)) (key_of c) o) (is ∙ ap (λ (o : Option Value). act o c) (found ∙ ap (λ (q : List ℕ). value_of q es) key))

pub change_left : (es left : List Entry) (c : Change) (k : List ℕ) (i : ℕ) (before : Option Value) → k ≡ key_of c → IsAscending es → i ≡ place_of k es
    → before ≡ first_value k (drop i es) → left ≡ take i es ++ without_first k (drop i es) → None ≡ act before c → left ≡ acted es c
change_left es left c k i before key h at was removed is = by_value es left c k i before None key h at was removed is

pub change_put : (es left new : List Entry) (c : Change) (k : List ℕ) (i : ℕ) (before : Option Value) (value : Value) → k ≡ key_of c → IsAscending es → i ≡ place_of k es
    → before ≡ first_value k (drop i es) → left ≡ take i es ++ without_first k (drop i es) → Some value ≡ act before c
    → new ≡ take i left ++ record { key = k; value = value } ∷ drop i left → new ≡ acted es c
change_put es left new c k i before value key h at was removed is put =
    let placed : take i left ++ record { key = k; value = value } ∷ drop i left ≡ put_pair left k value =
    subst (λ (x : List Entry). take i x ++ record { key = k; value = value } ∷ drop i x ≡ put_pair x k value) (sym removed)
    (subst (λ (n : ℕ). PutAt k value (without_first k (drop n es)) n es) (sym at) (put_at k value es (without_first k (drop (place_of k es) es)) (above_first k es h))) in
    put ∙ placed ∙ by_value es left c k i before (Some value) key h at was removed is

pub left_room : (key : List ℕ) (es left rest : List Entry) (i : ℕ) → i ≡ place_of key es → left ≡ take i es ++ rest → i ≤ length left
left_room key es left rest i at is =
    subst (λ (x : List Entry). i ≤ length x) (sym is) (subst (λ (n : ℕ). n ≤ length (take n es ++ rest)) (sym at) (room es)) where
      room : (xs : List Entry) → place_of key xs ≤ length (take (place_of key xs) xs ++ rest)
      room [] = omega arith
      room (e ∷ xs) = on (bytes_below e.key key) (room xs) where
        on : (b : Bool) → place_of key xs ≤ length (take (place_of key xs) xs ++ rest)
            → (if b then suc (place_of key xs) else 0) ≤ length (take (if b then suc (place_of key xs) else 0) (e ∷ xs) ++ rest)
        on true h = omega arith
        on false h = omega arith

-- ---- how the code finds it, and takes a pair out

abbrev Listed : Type 0
Listed = Bor (List ℕ) × Value

-- each key is above one that is below the first
above_all : (low : List ℕ) (xs : List Listed) → IsAscending (map valued xs) → BelowFirst low (map valued xs)
    → (j : ℕ) (d : Listed) → j < length xs → bytes_below low (slice_index_or xs j d).0.now ≡ true
above_all low [] up below j d h = absurd (omega (arith, h))
above_all low (x ∷ xs) up below zero d h = ap is_lt below
above_all low (x ∷ xs) up below (suc j) d h = above_all low xs up.1 (below_more low x.0.now (map valued xs) below up.0) j d (omega (arith, h))

pub parted : (key : List ℕ) (xs : List Listed) → IsAscending (map valued xs) → IsPartitionedBy (λ (x : Listed). bytes_below x.0.now key) xs
parted key [] up i j d le lt e = absurd (omega (arith, lt))
parted key (x ∷ xs) up zero zero d le lt e = e
parted key (x ∷ xs) up (suc i) zero d le lt e = absurd (omega (arith, le))
parted key (x ∷ xs) up zero (suc j) d le lt e = below_trans x.0.now (slice_index_or xs j d).0.now key (above_all x.0.now xs up.1 up.0 j d (omega (arith, lt))) e
parted key (x ∷ xs) up (suc i) (suc j) d le lt e = parted key xs up.1 i j d (omega (arith, le)) (omega (arith, lt)) e

pub point_is_place : (key : List ℕ) (xs : List Listed) (i : ℕ) → i ≤ length xs → AllWithin (λ (x : Listed). bytes_below x.0.now key ≡ true) xs 0 i
    → AllWithin (λ (x : Listed). bytes_below x.0.now key ≡ false) xs i (length xs) → i ≡ place_of key (map valued xs)
point_is_place key [] i within below not_below = omega (arith, within)
point_is_place key (x ∷ xs) zero within below not_below =
    let first : bytes_below x.0.now key ≡ false = not_below 0 x (omega arith) (omega arith) in
    rw first refl
point_is_place key (x ∷ xs) (suc i) within below not_below =
    let first : bytes_below x.0.now key ≡ true = below 0 x (omega arith) (omega arith) in
    let rest : i ≡ place_of key (map valued xs) =
    point_is_place key xs i (omega (arith, within)) (λ k d low high. below (suc k) d (omega arith) (omega (arith, high)))
    (λ k d low high. not_below (suc k) d (omega (arith, low)) (omega (arith, high))) in
    rw first (ap suc rest)

-- an item of the code's list, and those behind it
item_at : (xs : List Listed) (i : ℕ) (x : Listed) → i < length xs → x ≡ slice_index_or xs i x → drop i xs ≡ x ∷ drop (suc i) xs
item_at xs i x within is = drop-cons xs i x within ∙ ap (λ (y : Listed). y ∷ drop (suc i) xs) (sym is)

shown_at : (xs : List Listed) (i : ℕ) (x : Listed) → i < length xs → x ≡ slice_index_or xs i x → drop i (map valued xs) ≡ valued x ∷ drop (suc i) (map valued xs)
shown_at xs i x within is =
    drop-map valued i xs ∙ ap (λ (ys : List Listed). map valued ys) (item_at xs i x within is) ∙ ap (λ (es : List Entry). valued x ∷ es) (sym (drop-map valued (suc i) xs))

pub not_taken : (key : List ℕ) (xs : List Listed) (old : List Entry) (i : ℕ) (x : Listed) → i < length xs → x ≡ slice_index_or xs i x → map valued xs ≡ old → bytes_same x.0.now key ≡ false
    → (None ≡ first_value key (drop i old)) × (old ≡ take i old ++ without_first key (drop i old))
not_taken key xs old i x within is view other =
    let here : drop i old ≡ valued x ∷ drop (suc i) old = subst (λ (es : List Entry). drop i es ≡ valued x ∷ drop (suc i) es) view (shown_at xs i x within is) in
    let none : ◌≡◌ {A = Option Value} None (first_value key (valued x ∷ drop (suc i) old)) = rw other refl in
    let all : drop i old ≡ without_first key (valued x ∷ drop (suc i) old) = here ∙ rw other refl in (
      none ∙ ap (first_value key) (sym here),
      sym (take-append-drop i old) ∙ ap (λ (es : List Entry). take i old ++ es) (all ∙ ap (without_first key) (sym here)),
    )

pub taken : (key : List ℕ) (xs : List Listed) (old : List Entry) (i : ℕ) (x y : Listed) → i < length xs → x ≡ slice_index_or xs i x → y ≡ slice_index_or xs i y → map valued xs ≡ old
    → bytes_same x.0.now key ≡ true → (Some y.1 ≡ first_value key (drop i old)) × (map valued (remove xs i) ≡ take i old ++ without_first key (drop i old))
taken key xs old i x y within is also view same =
    let equal : x ≡ y = is ∙ get_or_default xs i x y within ∙ sym also in
    let here : drop i old ≡ valued y ∷ drop (suc i) old = subst (λ (es : List Entry). drop i es ≡ valued y ∷ drop (suc i) es) view (shown_at xs i y within also) in
    let keys : bytes_same y.0.now key ≡ true = subst (λ (z : Listed). bytes_same z.0.now key ≡ true) equal same in
    let some : Some y.1 ≡ first_value key (valued y ∷ drop (suc i) old) = rw keys refl in
    let rest : drop (suc i) old ≡ without_first key (valued y ∷ drop (suc i) old) = rw keys refl in
    let split : map valued (remove xs i) ≡ take i (map valued xs) ++ drop (suc i) (map valued xs) =
    map-append valued (take i xs) (drop (suc i) xs)
    ∙ ap (λ (es : List Entry). es ++ map valued (drop (suc i) xs)) (sym (take-map valued i xs))
    ∙ ap (λ (es : List Entry). take i (map valued xs) ++ es) (sym (drop-map valued (suc i) xs)) in (
      some ∙ ap (first_value key) (sym here),
      split
          ∙ ap (λ (es : List Entry). take i es ++ drop (suc i) es) view
          ∙ ap (λ (es : List Entry). take i old ++ es) (rest ∙ ap (without_first key) (sym here)),
    )

pub placed : (xs : List Listed) (old : List Entry) (i : ℕ) (x : Listed) → map valued xs ≡ old → map valued (insert xs i x) ≡ take i old ++ valued x ∷ drop i old
placed xs old i x view =
    map-append valued (take i xs) (x ∷ drop i xs)
    ∙ ap (λ (es : List Entry). es ++ valued x ∷ map valued (drop i xs)) (sym (take-map valued i xs))
    ∙ ap (λ (es : List Entry). take i (map valued xs) ++ valued x ∷ es) (sym (drop-map valued i xs))
    ∙ ap (λ (es : List Entry). take i es ++ valued x ∷ drop i es) view
