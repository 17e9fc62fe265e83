-- That a leaf fits is a list of independent facts.
use Rattle.std.proofs.Common.{◌≡◌, ℕ, zero, suc, ◌+◌, ◌<◌, ◌≤◌, Bool, true, false, cond, eqb, List, [], ◌∷◌, length, Option, Some, None, refl, sym, ap, subst, arith, inl, inr}
use Rattle.std.specs.Prelude.{◌&&◌, not, nat_lt, nat_le, IsTrue, IfSome}
use Rattle.std.specs.List.{AllByRecursion}
use Rattle.std.proofs.lemmas.Bool.{and_parts, and_from, or_cases, or_left, or_right, leb-true, le-leb, eqb-true, eqb-false, ltb-true, lt-ltb}
use Rattle.db_base.specs.Key.{IsAttr}
use Rattle.byte_format.specs.Format.{Format, greatest, in_range, only_where, maybe, list_fits, option_fits}
use Rattle.byte_format.specs.Order.{bytes_below, below_bound}
use Rattle.byte_format.specs.HighKey.{key_above, high_key}
use Rattle.leaf_view.specs.declared.done.Done.{Done}
use Rattle.leaf_view.specs.Leaf.{Entry, Leaf, leaf_head, attr_text, attribute, done_item, least_queue, least_client, record_item, key_stands, above_entry, leaf}
use Rattle.leaf_view.specs.Fits.{Behind, Ascend, done_below, entry_below, IsDone, IsEntryIn, AreBare, IsFormat, IsHigh, IsWellFormed, IsVersion}

pub range_is : (least most n : ℕ) → in_range least most n ≡ true → (least ≤ n) × (n ≤ most)
range_is least most n h = let p = and_parts (nat_le least n) (nat_le n most) h in (leb-true least n p.0, leb-true n most p.1)

pub range_from : (least most n : ℕ) → least ≤ n → n ≤ most → in_range least most n ≡ true
range_from least most n p q = and_from _ _ (le-leb least n p) (le-leb n most q)

-- ---- lists: each item, and the order

pub record IsSplit {A : Type 0} (item : Option A → Format A) (Is : A → Type 0) (below : A → A → Bool) : Type 0 where
  pub apart : (b : Option A) (x : A) → (item b).fits x ≡ true → Is x × Behind below b x
  pub together : (b : Option A) (x : A) → Is x → Behind below b x → (item b).fits x ≡ true

pub list_apart : {A : Type 0} (item : Option A → Format A) (Is : A → Type 0) (below : A → A → Bool) → IsSplit item Is below → (before : Option A) (xs : List A) → list_fits true item before xs ≡ true → AllByRecursion Is xs × Ascend below before xs
list_apart item Is below s before [] h = (tt, tt)
list_apart item Is below s before (x ∷ xs) h =
    let p = and_parts ((item before).fits x) (list_fits true item (Some x) xs) h in
    let here = s.apart before x p.0 in
    let rest = list_apart item Is below s (Some x) xs p.1 in
    ((here.0, rest.0), (here.1, rest.1))

pub list_together : {A : Type 0} (item : Option A → Format A) (Is : A → Type 0) (below : A → A → Bool) → IsSplit item Is below → (before : Option A) (xs : List A) → AllByRecursion Is xs → Ascend below before xs → list_fits true item before xs ≡ true
list_together item Is below s before [] all order = refl
list_together item Is below s before (x ∷ xs) all order = and_from _ _ (s.together before x all.0 order.0) (list_together item Is below s (Some x) xs all.1 order.1)

-- ---- records

-- format 1 has no attributes
abbrev pub IsPlain : ℕ → Entry → Type 0
IsPlain format e = eqb format 2 ≡ false → e.value.attr ≡ None

-- a record and its attribute
abbrev pub IsEntryOf : ℕ → List ℕ → Option (List ℕ) → Entry → Type 0
IsEntryOf format low high e = IsEntryIn low high e × IsPlain format e

maybe_apart : (attr : Option (List ℕ)) → (maybe attr_text).fits attr ≡ true → IfSome attr IsAttr
maybe_apart None h = tt
maybe_apart (Some a) h = let r = range_is 1 32 (length a) h in record { some = omega (arith, r.0); short = r.1 }

maybe_together : (attr : Option (List ℕ)) → IfSome attr IsAttr → (maybe attr_text).fits attr ≡ true
maybe_together None h = refl
maybe_together (Some a) h = range_from 1 32 (length a) (omega (arith, h.some)) h.short

attr_apart : (format : ℕ) (attr : Option (List ℕ)) → (attribute format).fits attr ≡ true → IfSome attr IsAttr × (eqb format 2 ≡ false → attr ≡ None)
attr_apart format attr h = of (eqb format 2) attr h
  where
    of : (b : Bool) (attr : Option (List ℕ)) → (cond b (maybe attr_text) (only_where false attr_text)).fits attr ≡ true → IfSome attr IsAttr × (b ≡ false → attr ≡ None)
    of true attr h = (maybe_apart attr h, λ never. absurd cc)
    of false None h = (tt, λ _. refl)
    of false (Some a) h = absurd cc

attr_together : (format : ℕ) (attr : Option (List ℕ)) → IfSome attr IsAttr → (eqb format 2 ≡ false → attr ≡ None) → (attribute format).fits attr ≡ true
attr_together format attr is plain = of (eqb format 2) attr is plain
  where
    of : (b : Bool) (attr : Option (List ℕ)) → IfSome attr IsAttr → (b ≡ false → attr ≡ None) → (cond b (maybe attr_text) (only_where false attr_text)).fits attr ≡ true
    of true attr is plain = maybe_together attr is
    of false attr is plain = rw (plain refl) refl

entry_apart : (format : ℕ) (low : List ℕ) (high : Option (List ℕ)) (b : Option Entry) (e : Entry) → (record_item format low high b).fits e ≡ true → IsEntryOf format low high e × Behind entry_below b e
unfolding record_item
entry_apart format low high b e h =
    let p = and_parts (in_range 1 64 (length e.key) && key_stands low high b e.key) (in_range 0 1024 (length e.value.payload) && (attribute format).fits e.value.attr) h in
    let q = and_parts (in_range 1 64 (length e.key)) (key_stands low high b e.key) p.0 in
    let r = and_parts (not (bytes_below e.key low) && below_bound e.key high) (above_entry b e.key) q.1 in
    let s = and_parts (not (bytes_below e.key low)) (below_bound e.key high) r.0 in
    let k = range_is 1 64 (length e.key) q.0 in
    let v = and_parts (in_range 0 1024 (length e.value.payload)) ((attribute format).fits e.value.attr) p.1 in
    let a = attr_apart format e.value.attr v.1 in
    ((record { key = record { some = omega (arith, k.0); short = k.1 }; payload = (range_is 0 1024 (length e.value.payload) v.0).1; attr = a.0; from_low = s.0; to_high = s.1 }, a.1), order b r.1)
  where
    order : (b : Option Entry) → above_entry b e.key ≡ true → Behind entry_below b e
    order None h = tt
    order (Some c) h = h

entry_together : (format : ℕ) (low : List ℕ) (high : Option (List ℕ)) (b : Option Entry) (e : Entry) → IsEntryOf format low high e → Behind entry_below b e → (record_item format low high b).fits e ≡ true
unfolding record_item
entry_together format low high b e is behind =
    and_from _ _ (and_from _ _ (range_from 1 64 (length e.key) (omega (arith, is.0.key.some)) is.0.key.short) (and_from _ _ (and_from _ _ is.0.from_low is.0.to_high) (order b behind)))
    (and_from _ _ (range_from 0 1024 (length e.value.payload) (omega arith) is.0.payload) (attr_together format e.value.attr is.0.attr is.1))
  where
    order : (b : Option Entry) → Behind entry_below b e → above_entry b e.key ≡ true
    order None h = refl
    order (Some c) h = h

entries_split : (format : ℕ) (low : List ℕ) (high : Option (List ℕ)) → IsSplit (record_item format low high) (IsEntryOf format low high) entry_below
entries_split format low high = record { apart = entry_apart format low high; together = entry_together format low high }

-- each record, and the format of all
entries_apart : (format : ℕ) (low : List ℕ) (high : Option (List ℕ)) (es : List Entry) → AllByRecursion (IsEntryOf format low high) es → AllByRecursion (IsEntryIn low high) es × AllByRecursion (IsPlain format) es
entries_apart format low high [] all = (tt, tt)
entries_apart format low high (e ∷ es) all = let rest = entries_apart format low high es all.1 in ((all.0.0, rest.0), (all.0.1, rest.1))

entries_together : (format : ℕ) (low : List ℕ) (high : Option (List ℕ)) (es : List Entry) → AllByRecursion (IsEntryIn low high) es → AllByRecursion (IsPlain format) es → AllByRecursion (IsEntryOf format low high) es
entries_together format low high [] all plain = tt
entries_together format low high (e ∷ es) all plain = ((all.0, plain.0), entries_together format low high es all.1 plain.1)

bare_of : (es : List Entry) → AllByRecursion (IsPlain 1) es → AreBare es
bare_of [] plain = tt
bare_of (e ∷ es) plain = (plain.0 refl, bare_of es plain.1)

format_apart : (format : ℕ) (es : List Entry) → in_range 1 2 format ≡ true → AllByRecursion (IsPlain format) es → IsFormat format es
format_apart zero es h plain = absurd (omega (arith, (range_is 1 2 zero h).0))
format_apart (suc zero) es h plain = inr (refl, bare_of es plain)
format_apart (suc (suc zero)) es h plain = inl refl
format_apart (suc (suc (suc n))) es h plain = absurd (omega (arith, (range_is 1 2 (suc (suc (suc n))) h).1))

plain_of : (es : List Entry) → AreBare es → AllByRecursion (IsPlain 1) es
plain_of [] bare = tt
plain_of (e ∷ es) bare = (λ _. bare.0, plain_of es bare.1)

all_plain : (es : List Entry) → AllByRecursion (IsPlain 2) es
all_plain [] = tt
all_plain (e ∷ es) = (λ never. absurd cc, all_plain es)

format_together : (format : ℕ) (es : List Entry) → IsFormat format es → (in_range 1 2 format ≡ true) × AllByRecursion (IsPlain format) es
format_together format es is =
    elim is [
      | inl two ↦ subst (λ (n : ℕ). (in_range 1 2 n ≡ true) × AllByRecursion (IsPlain n) es) (sym two) (refl, all_plain es)
      | inr one ↦ subst (λ (n : ℕ). (in_range 1 2 n ≡ true) × AllByRecursion (IsPlain n) es) (sym one.0) (refl, plain_of es one.1)
    ]

pub records_fit : (format : ℕ) (low : List ℕ) (high : Option (List ℕ)) (before : Option Entry) (es : List Entry) → list_fits true (record_item format low high) before es ≡ true
    → (AllByRecursion (IsEntryIn low high) es × AllByRecursion (IsPlain format) es) × Ascend entry_below before es
records_fit format low high before es h =
    let p = list_apart (record_item format low high) (IsEntryOf format low high) entry_below (entries_split format low high) before es h in
    (entries_apart format low high es p.0, p.1)

pub fit_records : (format : ℕ) (low : List ℕ) (high : Option (List ℕ)) (before : Option Entry) (es : List Entry) → AllByRecursion (IsEntryIn low high) es → AllByRecursion (IsPlain format) es → Ascend entry_below before es
    → list_fits true (record_item format low high) before es ≡ true
fit_records format low high before es all plain order =
    list_together (record_item format low high) (IsEntryOf format low high) entry_below (entries_split format low high) before es (entries_together format low high es all plain) order

-- ---- the table of what is done

done_apart : (b : Option Done) (d : Done) → (done_item b).fits d ≡ true → IsDone d × Behind done_below b d
unfolding done_item
done_apart b d h =
    let p = and_parts (in_range (least_queue b) greatest d.queue) (in_range (least_client b d.queue) 64 d.client && in_range 1 greatest d.number) h in
    let q = and_parts (in_range (least_client b d.queue) 64 d.client) (in_range 1 greatest d.number) p.1 in
    let queue = range_is (least_queue b) greatest d.queue p.0 in
    let client = range_is (least_client b d.queue) 64 d.client q.0 in
    let number = range_is 1 greatest d.number q.1 in
    let o = order b queue.0 client.0 in
    (record { queue = queue.1; client = record { some = o.0; most = client.1 }; some = number.0; most = number.1 }, o.1)
  where
    above : (c : Done) (same : Bool) → eqb c.queue d.queue ≡ same → c.queue ≤ d.queue → cond same (c.client + 1) 1 ≤ d.client → (1 ≤ d.client) × IsTrue (done_below c d)
    above c true is q h = (omega arith, or_right (nat_lt c.queue d.queue) _ (and_from _ _ is (lt-ltb c.client d.client (omega arith))))
    above c false is q h = (h, or_left _ _ (lt-ltb c.queue d.queue (omega (arith, eqb-false c.queue d.queue is))))

    order : (b : Option Done) → least_queue b ≤ d.queue → least_client b d.queue ≤ d.client → (1 ≤ d.client) × Behind done_below b d
    order None q c = (c, tt)
    order (Some b) q c = above b (eqb b.queue d.queue) refl q c

done_together : (b : Option Done) (d : Done) → IsDone d → Behind done_below b d → (done_item b).fits d ≡ true
unfolding done_item
done_together b d is behind =
    let o = order b behind in
    and_from _ _ (range_from (least_queue b) greatest d.queue o.0 is.queue) (and_from _ _ (range_from (least_client b d.queue) 64 d.client o.1 is.client.most) (range_from 1 greatest d.number is.some is.most))
  where
    lower : (c : Done) (same : Bool) → eqb c.queue d.queue ≡ same → c.queue < d.queue → cond same (c.client + 1) 1 ≤ d.client
    lower c true e lt = absurd (omega (arith, eqb-true c.queue d.queue e))
    lower c false e lt = is.client.some

    order : (b : Option Done) → Behind done_below b d → (least_queue b ≤ d.queue) × (least_client b d.queue ≤ d.client)
    order None h = (omega arith, is.client.some)
    order (Some c) h =
        elim (or_cases (nat_lt c.queue d.queue) (eqb c.queue d.queue && nat_lt c.client d.client) h) [
          | inl lt ↦ let l = ltb-true c.queue d.queue lt in (omega arith, lower c (eqb c.queue d.queue) refl l)
          | inr both ↦
              let p = and_parts (eqb c.queue d.queue) (nat_lt c.client d.client) both in
              let e = eqb-true c.queue d.queue p.0 in
              let l = ltb-true c.client d.client p.1 in
              (omega arith, rw p.0 (omega arith))
        ]

pub dones_split : IsSplit done_item IsDone done_below
dones_split = record { apart = done_apart; together = done_together }

pub dones_fit : (before : Option Done) (ds : List Done) → list_fits true done_item before ds ≡ true → AllByRecursion IsDone ds × Ascend done_below before ds
dones_fit before ds h = list_apart done_item IsDone done_below dones_split before ds h

pub fit_dones : (before : Option Done) (ds : List Done) → AllByRecursion IsDone ds → Ascend done_below before ds → list_fits true done_item before ds ≡ true
fit_dones before ds all order = list_together done_item IsDone done_below dones_split before ds all order

-- ---- the leaf

high_apart : (low : List ℕ) (right : ℕ) (high : Option (List ℕ)) → (high_key low right).fits high ≡ true → IsHigh low right high
high_apart low right high h = on (eqb right 0) refl high h
  where
    on : (none : Bool) → eqb right 0 ≡ none → (high : Option (List ℕ)) → option_fits (not none) (key_above low) high ≡ true → IsHigh low right high
    on true e None h = e
    on true e (Some k) h = absurd cc
    on false e None h = absurd cc
    on false e (Some k) h =
        let p = and_parts (in_range 1 64 (length k)) (bytes_below low k) h in
        let r = range_is 1 64 (length k) p.0 in
        (ap not e, record { some = omega (arith, r.0); short = r.1 }, p.1)

high_together : (low : List ℕ) (right : ℕ) (high : Option (List ℕ)) → IsHigh low right high → (high_key low right).fits high ≡ true
high_together low right None h = rw h refl
high_together low right (Some k) h = rw h.0 (and_from _ _ (range_from 1 64 (length k) (omega (arith, h.1.some)) h.1.short) h.2)

pub leaf_fits : (l : Leaf) → leaf.fits l ≡ true → IsVersion l.version × IsWellFormed l
unfolding leaf leaf_head
leaf_fits l h =
    let p = and_parts (in_range 1 2 l.format && (in_range 1 greatest l.version && (in_range 0 64 (length l.low) && (in_range 0 greatest l.right && (high_key l.low l.right).fits l.high))))
    (list_fits true done_item None l.done && list_fits true (record_item l.format l.low l.high) None l.records) h in
    let f = and_parts (in_range 1 2 l.format) (in_range 1 greatest l.version && (in_range 0 64 (length l.low) && (in_range 0 greatest l.right && (high_key l.low l.right).fits l.high))) p.0 in
    let v = and_parts (in_range 1 greatest l.version) (in_range 0 64 (length l.low) && (in_range 0 greatest l.right && (high_key l.low l.right).fits l.high)) f.1 in
    let w = and_parts (in_range 0 64 (length l.low)) (in_range 0 greatest l.right && (high_key l.low l.right).fits l.high) v.1 in
    let r = and_parts (in_range 0 greatest l.right) ((high_key l.low l.right).fits l.high) w.1 in
    let q = and_parts (list_fits true done_item None l.done) (list_fits true (record_item l.format l.low l.high) None l.records) p.1 in
    let version = range_is 1 greatest l.version v.0 in
    let d = dones_fit None l.done q.0 in
    let e = records_fit l.format l.low l.high None l.records q.1 in (
      record { some = version.0; most = version.1 },
      record {
        format = format_apart l.format l.records f.0 e.0.1;
        low = (range_is 0 64 (length l.low) w.0).1;
        right = (range_is 0 greatest l.right r.0).1;
        high = high_apart l.low l.right l.high r.1;
        done = d.0;
        done_ascends = d.1;
        records = e.0.0;
        records_ascend = e.1;
      },
    )

pub fits_leaf : (l : Leaf) → IsVersion l.version → IsWellFormed l → leaf.fits l ≡ true
unfolding leaf leaf_head
fits_leaf l v w =
    let f = format_together l.format l.records w.format in
    and_from _ _ (and_from _ _ f.0 (and_from _ _ (range_from 1 greatest l.version v.some v.most) (and_from _ _ (range_from 0 64 (length l.low) (omega arith) w.low) (and_from _ _ (range_from 0 greatest l.right (omega arith) w.right) (high_together l.low l.right l.high w.high)))))
    (and_from _ _ (fit_dones None l.done w.done w.done_ascends) (fit_records l.format l.low l.high None l.records w.records f.1 w.records_ascend))
