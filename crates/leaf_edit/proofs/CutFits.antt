-- The parts of a cut leaf are well formed.
use Rattle.std.proofs.Common.{◌≡◌, ℕ, zero, suc, ◌-◌, ◌<◌, ◌≤◌, true, false, List, [], ◌∷◌, ◌++◌, length, Option, Some, None, refl, sym, ap, subst, ◌∙◌, arith, take, drop, append_assoc, inl}
use Rattle.std.specs.Prelude.{IsTrue, not}
use Rattle.std.specs.List.{AllByRecursion}
use Rattle.std.specs.declared.cmp.Ordering.{Ordering}
use Rattle.std.specs.declared.cmp.Ordering.TheVariants.{Less, Equal, Greater}
use Rattle.std.specs.Ordering.{is_lt, ordering_reverse}
use Rattle.std.proofs.lemmas.Bool.{ne_eqb}
use Rattle.std.proofs.lemmas.Cmp.{nat_list_cmp_total, tied_itself}
use Rattle.db_base.specs.Key.{IsKey}
use Rattle.byte_format.specs.Format.{greatest}
use Rattle.byte_format.specs.Order.{bytes_cmp, bytes_below, below_bound}
use Rattle.leaf_view.specs.Leaf.{Entry, Leaf}
use Rattle.leaf_view.specs.Fits.{Ascend, entry_below, IsEntryIn, IsHigh, IsWellFormed}
use Rattle.leaf_edit.specs.Cut.{first_key, left_part, right_part, TakesNone, TakesOne}
use Rattle.leaf_edit.specs.Merging.{AreRecords}
use Rattle.leaf_edit.specs.Spelled.{entries_bytes, entry_bytes}
use Rattle.leaf_edit.proofs.Stepping.{tail-records}
use Rattle.leaf_edit.proofs.Ascends.{below_less, below_trans, equal_same, greater_below}

-- a key that is above another is not below it
not_below : (a b : List ℕ) → bytes_below a b ≡ true → not (bytes_below b a) ≡ true
not_below a b h = ap (λ o. not (is_lt o)) (nat_list_cmp_total.antisymm b a ∙ ap ordering_reverse (below_less a b h))

not_below_itself : (a : List ℕ) → not (bytes_below a a) ≡ true
not_below_itself a = ap (λ o. not (is_lt o)) (tied_itself nat_list_cmp_total a)

-- what is not above a key that is below another is below that
upto_below : (low a b : List ℕ) → not (bytes_below a low) ≡ true → bytes_below a b ≡ true → bytes_below low b ≡ true
upto_below low a b p q = on (bytes_cmp a low) refl
  where
    on : (o : Ordering) → bytes_cmp a low ≡ o → bytes_below low b ≡ true
    on Less e = absurd (let f : false ≡ true = sym (ap (λ o. not (is_lt o)) e) ∙ p in cc)
    on Equal e = rw (sym (equal_same a low e)) q
    on Greater e = below_trans low a b (greater_below a low e) q

-- ---- parts of lists

all-take : (P : Entry → Type 0) (n : ℕ) (es : List Entry) → AllByRecursion P es → AllByRecursion P (take n es)
all-take P zero es h = tt
all-take P (suc n) [] h = tt
all-take P (suc n) (e ∷ es) h = (h.0, all-take P n es h.1)

all-drop : (P : Entry → Type 0) (n : ℕ) (es : List Entry) → AllByRecursion P es → AllByRecursion P (drop n es)
all-drop P zero es h = h
all-drop P (suc n) [] h = tt
all-drop P (suc n) (e ∷ es) h = all-drop P n es h.1

first-drop : (P : List ℕ → Type 0) (n : ℕ) (es : List Entry) → n < length es → AllByRecursion (λ e. P e.key) es → P (first_key (drop n es))
first-drop P n [] less h = absurd (omega arith)
first-drop P zero (e ∷ es) less h = h.0
first-drop P (suc n) (e ∷ es) less h = first-drop P n es (omega arith) h.1

ascend-take : (before : Option Entry) (n : ℕ) (es : List Entry) → Ascend entry_below before es → Ascend entry_below before (take n es)
ascend-take before zero es h = tt
ascend-take before (suc n) [] h = tt
ascend-take before (suc n) (e ∷ es) h = (h.0, ascend-take (Some e) n es h.1)

forget : (before : Option Entry) (es : List Entry) → Ascend entry_below before es → Ascend entry_below None es
forget before [] h = tt
forget before (e ∷ es) h = (tt, h.1)

ascend-drop : (before : Option Entry) (n : ℕ) (es : List Entry) → Ascend entry_below before es → Ascend entry_below None (drop n es)
ascend-drop before zero es h = forget before es h
ascend-drop before (suc n) [] h = tt
ascend-drop before (suc n) (e ∷ es) h = ascend-drop (Some e) n es h.1

-- each record behind another has a key above its key
above : (k : List ℕ) (es : List Entry) (before : Option Entry) → Ascend entry_below before es → bytes_below k (first_key es) ≡ true
    → AllByRecursion (λ f. IsTrue (bytes_below k f.key)) es
above k [] before h first = tt
above k (e ∷ []) before h first = (first, tt)
above k (e ∷ (f ∷ es)) before h first = (first, above k (f ∷ es) (Some e) h.1 (below_trans k e.key f.key first h.1.0))

above-entry : (e : Entry) (es : List Entry) → Ascend entry_below (Some e) es → AllByRecursion (λ f. IsTrue (bytes_below e.key f.key)) es
above-entry e [] h = tt
above-entry e (f ∷ es) h = above e.key (f ∷ es) (Some e) h h.0

take-below : (before : Option Entry) (n : ℕ) (es : List Entry) → n < length es → Ascend entry_below before es
    → AllByRecursion (λ e. IsTrue (bytes_below e.key (first_key (drop n es)))) (take n es)
take-below before zero es less h = tt
take-below before (suc n) [] less h = tt
take-below before (suc n) (e ∷ es) less h =
    (first-drop (λ k. IsTrue (bytes_below e.key k)) n es (omega arith) (above-entry e es h.1), take-below (Some e) n es (omega arith) h.1)

from-first : (es : List Entry) → Ascend entry_below None es → AllByRecursion (λ e. IsTrue (not (bytes_below e.key (first_key es)))) es
from-first [] h = tt
from-first (e ∷ es) h = (not_below_itself e.key, each es (above-entry e es h.1))
  where
    each : (es : List Entry) → AllByRecursion (λ f. IsTrue (bytes_below e.key f.key)) es → AllByRecursion (λ f. IsTrue (not (bytes_below f.key e.key))) es
    each [] all = tt
    each (f ∷ es) all = (not_below e.key f.key all.0, each es all.1)

weaken : (P Q R : Entry → Type 0) (es : List Entry) → ((e : Entry) → P e → Q e → R e) → AllByRecursion P es → AllByRecursion Q es → AllByRecursion R es
weaken P Q R [] f p q = tt
weaken P Q R (e ∷ es) f p q = (f e p.0 q.0, weaken P Q R es f p.1 q.1)

-- ---- the parts

-- the key of the cut is a key, above the low key, and below the high key
low-below : (low : List ℕ) (high : Option (List ℕ)) (n : ℕ) (es : List Entry) → 0 < n → n < length es → Ascend entry_below None es
    → AllByRecursion (IsEntryIn low high) es → bytes_below low (first_key (drop n es)) ≡ true
low-below low high zero es some less h all = absurd (omega arith)
low-below low high (suc n) [] some less h all = absurd (omega arith)
low-below low high (suc n) (e ∷ es) some less h all = upto_below low e.key (first_key (drop n es)) all.0.from_low (take-below None (suc n) (e ∷ es) less h).0

pub left-formed : (n right : ℕ) (l : Leaf) → 0 < n → n < length l.records → 1 ≤ right → right ≤ greatest → IsWellFormed l → IsWellFormed (left_part n right l)
left-formed n right l some less page small h = record {
  format = inl refl;
  low = h.low;
  right = small;
  high = (ap not (ne_eqb right 0 (λ e. absurd (omega (arith, e)))), first-drop IsKey n l.records less (all-keys l.records h.records), low-below l.low l.high n l.records some less h.records_ascend h.records);
  done = h.done;
  done_ascends = h.done_ascends;
  records = weaken (IsEntryIn l.low l.high) (λ e. IsTrue (bytes_below e.key (first_key (drop n l.records)))) (IsEntryIn l.low (Some (first_key (drop n l.records)))) (take n l.records)
      (λ e is below. record { key = is.key; payload = is.payload; attr = is.attr; from_low = is.from_low; to_high = below })
      (all-take (IsEntryIn l.low l.high) n l.records h.records) (take-below None n l.records less h.records_ascend);
  records_ascend = ascend-take None n l.records h.records_ascend;
}
  where
    all-keys : (es : List Entry) → AllByRecursion (IsEntryIn l.low l.high) es → AllByRecursion (λ e. IsKey e.key) es
    all-keys [] all = tt
    all-keys (e ∷ es) all = (all.0.key, all-keys es all.1)

pub right-formed : (n : ℕ) (l : Leaf) → n < length l.records → IsWellFormed l → IsWellFormed (right_part n l)
right-formed n l less h = record {
  format = inl refl;
  low = first-drop (λ k. length k ≤ 64) n l.records less (short l.records h.records);
  right = h.right;
  high = high l.high h.high (first-drop (λ k. IsTrue (below_bound k l.high)) n l.records less (bounded l.records h.records));
  done = h.done;
  done_ascends = h.done_ascends;
  records = weaken (IsEntryIn l.low l.high) (λ e. IsTrue (not (bytes_below e.key (first_key (drop n l.records))))) (IsEntryIn (first_key (drop n l.records)) l.high) (drop n l.records)
      (λ e is from. record { key = is.key; payload = is.payload; attr = is.attr; from_low = from; to_high = is.to_high })
      (all-drop (IsEntryIn l.low l.high) n l.records h.records) (from-first (drop n l.records) (ascend-drop None n l.records h.records_ascend));
  records_ascend = ascend-drop None n l.records h.records_ascend;
}
  where
    short : (es : List Entry) → AllByRecursion (IsEntryIn l.low l.high) es → AllByRecursion (λ e. length e.key ≤ 64) es
    short [] all = tt
    short (e ∷ es) all = (all.0.key.short, short es all.1)

    bounded : (es : List Entry) → AllByRecursion (IsEntryIn l.low l.high) es → AllByRecursion (λ e. IsTrue (below_bound e.key l.high)) es
    bounded [] all = tt
    bounded (e ∷ es) all = (all.0.to_high, bounded es all.1)

    high : (o : Option (List ℕ)) → IsHigh l.low l.right o → IsTrue (below_bound (first_key (drop n l.records)) o) → IsHigh (first_key (drop n l.records)) l.right o
    high None is below = is
    high (Some k) is below = (is.0, is.1, below)

-- ---- as they are walked

pub takes-one : (n : ℕ) (es : List Entry) (e : Entry) (rest : List Entry) → 0 < n → es ≡ e ∷ rest → TakesOne n es e rest
takes-one zero es e rest some is = absurd (omega arith)
takes-one (suc n) es e rest some is = record {
  some = some;
  is = is;
  taken = ap (λ l. take (suc n) l) is ∙ ap (λ m. e ∷ take m rest) (same n);
  dropped = ap (λ l. drop (suc n) l) is ∙ ap (λ m. drop m rest) (same n);
}
  where
    same : (n : ℕ) → n ≡ suc n - 1
    same n = omega arith

pub takes-none : (n : ℕ) (es : List Entry) → n ≡ 0 → TakesNone n es
takes-none zero es is = record { taken = refl; dropped = refl }
takes-none (suc n) es is = absurd (omega arith)

pub takes-empty : (n : ℕ) (es : List Entry) → es ≡ [] → TakesNone n es
takes-empty n es is = record { taken = ap (λ l. take n l) is ∙ nil n; dropped = ap (λ l. drop n l) is ∙ (nothing n ∙ sym is) }
  where
    nil : (n : ℕ) → take {A = Entry} n [] ≡ []
    nil zero = refl
    nil (suc n) = refl

    nothing : (n : ℕ) → drop {A = Entry} n [] ≡ []
    nothing zero = refl
    nothing (suc n) = refl

-- one of the first n records is appended
pub front-step : (out new start : List ℕ) (n : ℕ) (all es : List Entry) (e : Entry) (rest : List Entry) → es ≡ all → TakesOne n es e rest → AreRecords all
    → out ++ entries_bytes (take n all) ≡ start → new ≡ out ++ entry_bytes e → AreRecords rest × (new ++ entries_bytes (take (n - 1) rest) ≡ start)
front-step out new start n all es e rest same one records before appended = (
  tail-records e rest (subst AreRecords (sym same ∙ one.is) records),
  ap (λ l. l ++ entries_bytes (take (n - 1) rest)) appended
      ∙ (append_assoc out (entry_bytes e) (entries_bytes (take (n - 1) rest))
      ∙ (ap (λ l. out ++ entries_bytes l) (sym one.taken ∙ ap (λ es. take n es) same) ∙ before)),
)

pub rest-step : (out new start : List ℕ) (all : List Entry) (e : Entry) (rest : List Entry) → all ≡ e ∷ rest → AreRecords all
    → out ++ entries_bytes all ≡ start → new ≡ out ++ entry_bytes e → AreRecords rest × (new ++ entries_bytes rest ≡ start)
rest-step out new start all e rest is records before appended = (
  tail-records e rest (subst AreRecords is records),
  ap (λ l. l ++ entries_bytes rest) appended
      ∙ (append_assoc out (entry_bytes e) (entries_bytes rest) ∙ (ap (λ l. out ++ entries_bytes l) (sym is) ∙ before)),
)
