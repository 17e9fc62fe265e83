-- Lists of entries with one more, and in two parts.
use Rattle.std.proofs.Common.{◌≡◌, ℕ, zero, suc, ◌<◌, ◌≤◌, Bool, true, false, cond, List, [], ◌∷◌, ◌++◌, length, take, drop, Option, Some, None, Ok, refl, sym, ap, subst, ◌∙◌, append_assoc, arith}
use Rattle.std.specs.Prelude.{◌&&◌, nat_le}
use Rattle.std.specs.Ordering.{is_lt, is_eq, ordering_reverse}
use Rattle.std.specs.declared.cmp.Ordering.{Ordering}
use Rattle.std.specs.declared.cmp.Ordering.TheVariants.{Less, Equal, Greater}
use Rattle.std.proofs.lemmas.Cmp.{nat_list_cmp_total}
use Rattle.std.proofs.lemmas.Bool.{and_parts, and_from, leb-true, le-leb}
use Rattle.byte_format.specs.Format.{greatest, in_range, list_fits, list_spelling}
use Rattle.byte_format.specs.Order.{bytes_cmp, bytes_below, bytes_same, below_bound}
use Rattle.byte_format.proofs.OrderLemmas.{same_is, same_itself}
use Rattle.node_codec.specs.Node.{Entry, may_stand, entry, plain_entry, with_entry, entry_bytes}
use Rattle.node_codec.specs.Plain.{plain_list}
use Rattle.node_codec.proofs.NodeLemmas.{spelling_loosened, fits_loosened, plain_entry_exact, not_below_empty}
use Rattle.node_codec.specs.Inner.{first_low_of}
use Rattle.std.proofs.lemmas.List.{length-take}
use Rattle.node_codec.proofs.PlainLemmas.{spelling_read}

-- ---- the order of low keys

below_is : (o : Ordering) → is_lt o ≡ true → o ≡ Less
below_is Less h = refl
below_is Equal h = absurd cc
below_is Greater h = absurd cc

pub above : (a b : List ℕ) → bytes_below a b ≡ false → bytes_same a b ≡ false → bytes_below b a ≡ true
above a b below same = ap is_lt (nat_list_cmp_total.antisymm b a) ∙ on (bytes_cmp a b) below same
  where
    on : (o : Ordering) → is_lt o ≡ false → is_eq o ≡ false → is_lt (ordering_reverse o) ≡ true
    on Less h g = absurd cc
    on Equal h g = absurd cc
    on Greater h g = refl

pub below_chain : (a b c : List ℕ) → bytes_below a b ≡ true → bytes_below b c ≡ true → bytes_below a c ≡ true
below_chain a b c h g = ap is_lt (nat_list_cmp_total.trans a b c (below_is (bytes_cmp a b) h) (below_is (bytes_cmp b c) g))

-- ---- spellings

abbrev pub spelled : List Entry → List ℕ
spelled xs = list_spelling (λ _. plain_entry) None xs

spelled-cons : (e : Entry) (es : List Entry) → spelled (e ∷ es) ≡ entry_bytes e.0 e.1 ++ spelled es
spelled-cons e es = ap (λ s. entry_bytes e.0 e.1 ++ s) (spelling_loosened (λ _. plain_entry) plain_entry (λ _ _. refl) (Some e) None es)

-- ---- one more

-- what is written and what is left are the entries with one more
pub record IsAddedTo (low : List ℕ) (page : ℕ) (all : List Entry) (out : List ℕ) (left : List Entry) : Type 0 where
  pub same : out ++ spelled (with_entry low page left) ≡ spelled (with_entry low page all)

pub added_goes_on : (low : List ℕ) (page : ℕ) (all : List Entry) (out next : List ℕ) (left : List Entry) (e : Entry) (es : List Entry) → IsAddedTo low page all out left → left ≡ e ∷ es → bytes_below low e.0 ≡ false → bytes_same low e.0 ≡ false
    → next ≡ out ++ entry_bytes e.0 e.1 → IsAddedTo low page all next es
added_goes_on low page all out next left e es a is below same written =
    let passes : with_entry low page left ≡ e ∷ with_entry low page es = ap (with_entry low page) is ∙ rw (below, same) refl in
    record {
      same = ap (λ s. s ++ spelled (with_entry low page es)) written ∙ append_assoc out (entry_bytes e.0 e.1) (spelled (with_entry low page es))
          ∙ ap (λ s. out ++ s) (sym (spelled-cons e (with_entry low page es)) ∙ ap spelled (sym passes)) ∙ a.same;
    }

-- the low key is there
pub added_there : (low : List ℕ) (page : ℕ) (all : List Entry) (out rest result : List ℕ) (left : List Entry) (e : Entry) (es : List Entry) → IsAddedTo low page all out left → left ≡ e ∷ es → bytes_below low e.0 ≡ false → bytes_same low e.0 ≡ true
    → rest ≡ spelled left → result ≡ out ++ rest → result ≡ spelled (with_entry low page all)
added_there low page all out rest result left e es a is below same read written =
    let stays : with_entry low page left ≡ left = ap (with_entry low page) is ∙ rw (below, same) (sym is) in
    written ∙ ap (λ s. out ++ s) (read ∙ ap spelled (sym stays)) ∙ a.same

-- it goes in front of what is left
pub added_here : (low : List ℕ) (page : ℕ) (all : List Entry) (out rest result : List ℕ) (left : List Entry) → IsAddedTo low page all out left → with_entry low page left ≡ (low, page) ∷ left
    → rest ≡ spelled left → result ≡ (out ++ entry_bytes low page) ++ rest → result ≡ spelled (with_entry low page all)
added_here low page all out rest result left a here read written =
    written ∙ append_assoc out (entry_bytes low page) rest
    ∙ ap (λ s. out ++ s) (ap (λ s. entry_bytes low page ++ s) read ∙ sym (spelled-cons (low, page) left) ∙ ap spelled (sym here)) ∙ a.same

pub here_before : (low : List ℕ) (page : ℕ) (left : List Entry) (e : Entry) (es : List Entry) → left ≡ e ∷ es → bytes_below low e.0 ≡ true → with_entry low page left ≡ (low, page) ∷ left
here_before low page left e es is below = ap (with_entry low page) is ∙ rw below (ap (λ (xs : List Entry). (low, page) ∷ xs) (sym is))

pub here_last : (low : List ℕ) (page : ℕ) (left : List Entry) → left ≡ [] → with_entry low page left ≡ (low, page) ∷ left
here_last low page left is = ap (with_entry low page) is ∙ ap (λ (xs : List Entry). (low, page) ∷ xs) (sym is)

-- ---- two parts

-- what is written and what is left are the first n, and what is left are the others
pub record IsCutAt (n : ℕ) (all : List Entry) (out : List ℕ) (k : ℕ) (left : List Entry) : Type 0 where
  pub front : out ++ spelled (take k left) ≡ spelled (take n all)
  pub back : drop k left ≡ drop n all

pub cut_goes_on : (n : ℕ) (all : List Entry) (out next : List ℕ) (k less : ℕ) (left : List Entry) (e : Entry) (es : List Entry) → IsCutAt n all out k left → left ≡ e ∷ es → k ≡ suc less → next ≡ out ++ entry_bytes e.0 e.1 → IsCutAt n all next less es
cut_goes_on n all out next k less left e es c is count written =
    let taken : take k left ≡ e ∷ take less es = ap (λ xs. take k xs) is ∙ ap (λ m. take m (e ∷ es)) count in
    let dropped : drop k left ≡ drop less es = ap (λ xs. drop k xs) is ∙ ap (λ m. drop m (e ∷ es)) count in
    record {
      front = ap (λ s. s ++ spelled (take less es)) written ∙ append_assoc out (entry_bytes e.0 e.1) (spelled (take less es))
          ∙ ap (λ s. out ++ s) (sym (spelled-cons e (take less es)) ∙ ap spelled (sym taken)) ∙ c.front;
      back = sym dropped ∙ c.back;
    }

-- nothing more is to be written
pub cut_done : (n : ℕ) (all : List Entry) (out : List ℕ) (k : ℕ) (left : List Entry) → IsCutAt n all out k left → k ≡ 0 → IsCutAt n all out 0 left
cut_done n all out k left c is = subst (λ (m : ℕ). IsCutAt n all out m left) is c

-- nothing is left
pub cut_over : (n : ℕ) (all : List Entry) (out : List ℕ) (k : ℕ) (left : List Entry) → IsCutAt n all out k left → left ≡ [] → IsCutAt n all out 0 left
cut_over n all out k left c is = record {
  front = ap (λ xs. out ++ spelled (take 0 xs)) is ∙ sym (ap (λ xs. out ++ spelled xs) (ap (λ xs. take k xs) is ∙ take_nothing k)) ∙ c.front;
  back = ap (λ xs. drop 0 xs) is ∙ sym (ap (λ xs. drop k xs) is ∙ drop_nothing k) ∙ c.back;
}
  where
    take_nothing : (k : ℕ) → take {A = Entry} k [] ≡ []
    take_nothing zero = refl
    take_nothing (suc k) = refl

    drop_nothing : (k : ℕ) → drop {A = Entry} k [] ≡ []
    drop_nothing zero = refl
    drop_nothing (suc k) = refl

-- ---- what fits

-- a bound for the children that is no lower
pub fits_to_last : (low : List ℕ) (high : Option (List ℕ)) (last last' : ℕ) (may_end : Bool) (before : Option Entry) (xs : List Entry) → last ≤ last' → list_fits may_end (entry low high last) before xs ≡ true → list_fits may_end (entry low high last') before xs ≡ true
fits_to_last low high last last' may_end before [] le h = h
fits_to_last low high last last' may_end before (x ∷ xs) le h =
    let a = and_parts ((entry low high last before).fits x) (list_fits true (entry low high last) (Some x) xs) h in
    let b = and_parts (in_range 0 64 (length x.0) && may_stand low high before x.0) (in_range 1 greatest x.1 && nat_le x.1 last) a.0 in
    let d = and_parts (in_range 1 greatest x.1) (nat_le x.1 last) b.1 in
    and_from _ _ (and_from _ _ b.0 (and_from _ _ d.0 (le-leb x.1 last' (omega (arith, leb-true x.1 last d.1))))) (fits_to_last low high last last' true (Some x) xs le a.1)

-- behind an entry the node's low key makes no difference
pub fits_from_low : (low low' : List ℕ) (high : Option (List ℕ)) (last : ℕ) (may_end : Bool) (b : Entry) (xs : List Entry) → list_fits may_end (entry low high last) (Some b) xs ≡ true → list_fits may_end (entry low' high last) (Some b) xs ≡ true
fits_from_low low low' high last may_end b [] h = h
fits_from_low low low' high last may_end b (x ∷ xs) h =
    let a = and_parts ((entry low high last (Some b)).fits x) (list_fits true (entry low high last) (Some x) xs) h in
    and_from _ _ a.0 (fits_from_low low low' high last true x xs a.1)

stands_parts : (b t : Bool) → cond b t false ≡ true → (b ≡ true) × (t ≡ true)
stands_parts true t h = (refl, h)
stands_parts false t h = absurd cc

stands_from : (b t : Bool) → b ≡ true → t ≡ true → cond b t false ≡ true
stands_from b t h g = rw h g

-- the facts on one entry
pub record EntryFits (high : Option (List ℕ)) (last : ℕ) (e : Entry) : Type 0 where
  pub short : in_range 0 64 (length e.0) ≡ true
  pub bound : below_bound e.0 high ≡ true
  pub page : (in_range 1 greatest e.1 && nat_le e.1 last) ≡ true

pub behind_parts : (low : List ℕ) (high : Option (List ℕ)) (last : ℕ) (b e : Entry) → (entry low high last (Some b)).fits e ≡ true → (bytes_below b.0 e.0 ≡ true) × EntryFits high last e
behind_parts low high last b e h =
    let a = and_parts (in_range 0 64 (length e.0) && may_stand low high (Some b) e.0) (in_range 1 greatest e.1 && nat_le e.1 last) h in
    let d = and_parts (in_range 0 64 (length e.0)) (may_stand low high (Some b) e.0) a.0 in
    let s = stands_parts (bytes_below b.0 e.0) (below_bound e.0 high) d.1 in
    (s.0, record { short = d.0; bound = s.1; page = a.1 })

pub behind_from : (low : List ℕ) (high : Option (List ℕ)) (last : ℕ) (b e : Entry) → bytes_below b.0 e.0 ≡ true → EntryFits high last e → (entry low high last (Some b)).fits e ≡ true
behind_from low high last b e below f = and_from _ _ (and_from _ _ f.short (stands_from (bytes_below b.0 e.0) (below_bound e.0 high) below f.bound)) f.page

with_entry_behind : (low : List ℕ) (high : Option (List ℕ)) (last : ℕ) (key : List ℕ) (page : ℕ) → EntryFits high last (key, page) → (b : Entry) (xs : List Entry) → bytes_below b.0 key ≡ true
    → list_fits true (entry low high last) (Some b) xs ≡ true → list_fits true (entry low high last) (Some b) (with_entry key page xs) ≡ true
with_entry_behind low high last key page f b [] below h = and_from _ _ (behind_from low high last b (key, page) below f) refl
with_entry_behind low high last key page f b (e ∷ es) below h =
    let a = and_parts ((entry low high last (Some b)).fits e) (list_fits true (entry low high last) (Some e) es) h in
    on (λ lt. with_entry_behind low high last key page f e es lt a.1) a.0 a.1 (bytes_below key e.0) refl (bytes_same key e.0) refl
  where
    on : (bytes_below e.0 key ≡ true → list_fits true (entry low high last) (Some e) (with_entry key page es) ≡ true) → (entry low high last (Some b)).fits e ≡ true → list_fits true (entry low high last) (Some e) es ≡ true
        → (lt : Bool) → bytes_below key e.0 ≡ lt → (eq : Bool) → bytes_same key e.0 ≡ eq → list_fits true (entry low high last) (Some b) (cond lt ((key, page) ∷ e ∷ es) (cond eq (e ∷ es) (e ∷ with_entry key page es))) ≡ true
    on ih first rest true is eq _ =
        and_from _ _ (behind_from low high last b (key, page) below f) (and_from _ _ (behind_from low high last (key, page) e is (behind_parts low high last b e first).1) rest)
    on ih first rest false is true same = and_from _ _ first rest
    on ih first rest false is false same = and_from _ _ first (ih (above key e.0 is same))

-- one more entry in the range of the node fits
pub with_entry_fits : (low : List ℕ) (high : Option (List ℕ)) (last : ℕ) (key : List ℕ) (page : ℕ) (xs : List Entry) → EntryFits high last (key, page) → bytes_below key low ≡ false
    → list_fits false (entry low high last) None xs ≡ true → list_fits false (entry low high last) None (with_entry key page xs) ≡ true
with_entry_fits low high last key page [] f inside h = absurd cc
with_entry_fits low high last key page (e ∷ es) f inside h =
    let a = and_parts ((entry low high last None).fits e) (list_fits true (entry low high last) (Some e) es) h in
    let b = and_parts (in_range 0 64 (length e.0) && may_stand low high None e.0) _ a.0 in
    let d = and_parts (in_range 0 64 (length e.0)) (may_stand low high None e.0) b.0 in
    let is : e.0 ≡ low = same_is e.0 low (stands_parts (bytes_same e.0 low) (below_bound e.0 high) d.1).0 in
    let not_below : bytes_below key e.0 ≡ false = ap (bytes_below key) is ∙ inside in
    on a.0 a.1 not_below (bytes_same key e.0) refl
  where
    on : (entry low high last None).fits e ≡ true → list_fits true (entry low high last) (Some e) es ≡ true → bytes_below key e.0 ≡ false → (eq : Bool) → bytes_same key e.0 ≡ eq → list_fits false (entry low high last) None (with_entry key page (e ∷ es)) ≡ true
    on first rest below true same = rw (below, same) (and_from _ _ first rest)
    on first rest below false same = rw (below, same) (and_from _ _ first (with_entry_behind low high last key page f e es (above key e.0 below same) rest))

plain_fits : (low : List ℕ) (high : Option (List ℕ)) (last : ℕ) (before : Option Entry) (x : Entry) → (entry low high last before).fits x ≡ true → plain_entry.fits x ≡ true
plain_fits low high last before x h =
    let a = and_parts (in_range 0 64 (length x.0) && may_stand low high before x.0) (in_range 1 greatest x.1 && nat_le x.1 last) h in
    and_from _ _ (and_parts (in_range 0 64 (length x.0)) (may_stand low high before x.0) a.0).0 (and_parts (in_range 1 greatest x.1) (nat_le x.1 last) a.1).0

-- entries that fit are read from their spelling
pub spelled_read : (low : List ℕ) (high : Option (List ℕ)) (last : ℕ) (xs : List Entry) (bytes : List ℕ) → list_fits false (entry low high last) None xs ≡ true → bytes ≡ spelled xs → plain_list plain_entry bytes ≡ Ok (xs, [])
spelled_read low high last xs bytes fits is =
    spelling_read plain_entry plain_entry_exact bytes xs (fits_loosened (entry low high last) plain_entry (plain_fits low high last) false None None xs fits) is

-- ---- a cut

-- where n entries are not all, one is behind them
pub record IsSplit (n : ℕ) (xs : List Entry) : Type 0 where
  pub first : Entry
  pub others : List Entry
  pub back : drop n xs ≡ first ∷ others
  pub whole : xs ≡ take n xs ++ first ∷ others

pub split_at : (n : ℕ) (xs : List Entry) → n < length xs → IsSplit n xs
split_at n [] h = absurd (omega arith)
split_at zero (x ∷ xs) h = record { first = x; others = xs; back = refl; whole = refl }
split_at (suc n) (x ∷ xs) h = let s = split_at n xs (omega arith) in record { first = s.first; others = s.others; back = s.back; whole = ap (λ (ys : List Entry). x ∷ ys) s.whole }

module _ (low : List ℕ) (high : Option (List ℕ)) (last : ℕ) where
  first_behind : (b x : Entry) (xs : List Entry) → list_fits true (entry low high last) (Some b) (x ∷ xs) ≡ true → (bytes_below b.0 x.0 ≡ true) × EntryFits high last x × (list_fits true (entry low high last) (Some x) xs ≡ true)
  first_behind b x xs h =
      let a = and_parts ((entry low high last (Some b)).fits x) (list_fits true (entry low high last) (Some x) xs) h in
      let p = behind_parts low high last b x a.0 in
      (p.0, p.1, a.1)

  -- low keys ascend, also over others
  ascends : (b : Entry) (front : List Entry) (y : Entry) (ys : List Entry) → list_fits true (entry low high last) (Some b) (front ++ y ∷ ys) ≡ true → bytes_below b.0 y.0 ≡ true
  ascends b [] y ys h = (first_behind b y ys h).0
  ascends b (x ∷ xs) y ys h = let f = first_behind b x (xs ++ y ∷ ys) h in below_chain b.0 x.0 y.0 f.0 (ascends x xs y ys f.2)

  back_behind : (b : Entry) (front : List Entry) (y : Entry) (ys : List Entry) → list_fits true (entry low high last) (Some b) (front ++ y ∷ ys) ≡ true → EntryFits high last y × (list_fits true (entry low high last) (Some y) ys ≡ true)
  back_behind b [] y ys h = let f = first_behind b y ys h in (f.1, f.2)
  back_behind b (x ∷ xs) y ys h = back_behind x xs y ys (first_behind b x (xs ++ y ∷ ys) h).2

  front_behind : (b : Entry) (front : List Entry) (y : Entry) (ys : List Entry) → list_fits true (entry low high last) (Some b) (front ++ y ∷ ys) ≡ true → list_fits true (entry low (Some y.0) last) (Some b) front ≡ true
  front_behind b [] y ys h = refl
  front_behind b (x ∷ xs) y ys h =
      let f = first_behind b x (xs ++ y ∷ ys) h in
      and_from _ _ (behind_from low (Some y.0) last b x f.0 (record { short = f.1.short; bound = ascends x xs y ys f.2; page = f.1.page })) (front_behind x xs y ys f.2)

-- what a cut of entries that fit gives
pub record Cut (low : List ℕ) (high : Option (List ℕ)) (last n : ℕ) (xs : List Entry) : Type 0 where
  pub key : List ℕ
  pub first : first_low_of (drop n xs) ≡ Some key
  pub above_low : bytes_below low key ≡ true
  pub short : in_range 1 64 (length key) ≡ true
  pub bound : below_bound key high ≡ true
  pub left : list_fits false (entry low (Some key) last) None (take n xs) ≡ true
  pub right : list_fits false (entry key high last) None (drop n xs) ≡ true

some_byte : (a b : List ℕ) → bytes_below a b ≡ true → 1 ≤ length b
some_byte a [] h = absurd (false_true (not_below_empty a) h)
  where
    false_true : {t : Bool} → t ≡ false → t ≡ true → ⊥
    false_true h g = cc
some_byte a (b ∷ bs) h = omega arith

cut_from : (low : List ℕ) (high : Option (List ℕ)) (last : ℕ) (front : List Entry) (y : Entry) (ys : List Entry) → 0 < length front → list_fits false (entry low high last) None (front ++ y ∷ ys) ≡ true
    → (bytes_below low y.0 ≡ true) × EntryFits high last y × (list_fits false (entry low (Some y.0) last) None front ≡ true) × (list_fits false (entry y.0 high last) None (y ∷ ys) ≡ true)
cut_from low high last [] y ys some h = absurd (omega arith)
cut_from low high last (x ∷ xs) y ys some h =
    let a = and_parts ((entry low high last None).fits x) (list_fits true (entry low high last) (Some x) (xs ++ y ∷ ys)) h in
    let b = and_parts (in_range 0 64 (length x.0) && may_stand low high None x.0) (in_range 1 greatest x.1 && nat_le x.1 last) a.0 in
    let d = and_parts (in_range 0 64 (length x.0)) (may_stand low high None x.0) b.0 in
    let s = stands_parts (bytes_same x.0 low) (below_bound x.0 high) d.1 in
    let up = ascends low high last x xs y ys a.1 in
    let back = back_behind low high last x xs y ys a.1 in (
      ap (λ (l : List ℕ). bytes_below l y.0) (sym (same_is x.0 low s.0)) ∙ up,
      back.0,
      and_from _ _ (and_from _ _ (and_from _ _ d.0 (stands_from (bytes_same x.0 low) (bytes_below x.0 y.0) s.0 up)) b.1) (front_behind low high last x xs y ys a.1),
      and_from _ _ (and_from _ _ (and_from _ _ back.0.short (stands_from (bytes_same y.0 y.0) (below_bound y.0 high) (same_itself y.0) back.0.bound)) back.0.page) (fits_from_low low y.0 high last true y ys back.1),
    )

pub cut_of : (low : List ℕ) (high : Option (List ℕ)) (last n : ℕ) (xs : List Entry) → list_fits false (entry low high last) None xs ≡ true → 0 < n → n < length xs → Cut low high last n xs
cut_of low high last n xs h some short =
    let s = split_at n xs short in
    let some_front : 0 < length (take n xs) = omega (arith, length-take n xs) in
    let c = cut_from low high last (take n xs) s.first s.others some_front (subst (λ (ys : List Entry). list_fits false (entry low high last) None ys ≡ true) s.whole h) in
    record {
      key = s.first.0;
      first = ap first_low_of s.back;
      above_low = c.0;
      short = and_from _ _ (le-leb 1 (length s.first.0) (some_byte low s.first.0 c.0)) (and_parts (nat_le 0 (length s.first.0)) (nat_le (length s.first.0) 64) c.1.short).1;
      bound = c.1.bound;
      left = c.2;
      right = subst (λ (ys : List Entry). list_fits false (entry s.first.0 high last) None ys ≡ true) (sym s.back) c.3;
    }
