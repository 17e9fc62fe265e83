-- Entries and numbers by client are exact, and their rules only narrow them.
use Rattle.std.proofs.Common.{◌≡◌, ℕ, zero, suc, ◌+◌, ◌-◌, ◌^◌, ◌<◌, ◌≤◌, Bool, true, false, cond, List, [], ◌∷◌, ◌++◌, length, Option, Some, None, Ok, refl, sym, ap, subst, ◌∙◌, append_assoc, add-one, arith, inl, inr}
use Rattle.std.specs.Prelude.{◌&&◌, ◌==◌, max, nat_le, IsSome, if◌then◌else◌}
use Rattle.std.specs.Int.{Width, w8, w64, to_be_bytes}
use Rattle.std.proofs.lemmas.Bool.{and_parts, and_from, leb-true, le-leb, eqb-false, cases_lt}
use Rattle.std.specs.Ordering.{nat_cmp}
use Rattle.std.specs.declared.cmp.Ordering.TheVariants.{Greater}
use Rattle.std.specs.BTreeMap.{insert_entry}
use Rattle.std.specs.Cmp.{nat_cmp_is}
use Rattle.db_base.specs.Cursor.{number_of}
use Rattle.byte_format.specs.Format.{greatest, Reading, ◌>>=◌, Format, guarded, in_range, unsigned_at, number_at, number, text, ruled, ◌then◌, list_fits, list_spelling}
use Rattle.byte_format.specs.Order.{bytes_below, bytes_same, below_bound}
use Rattle.byte_format.proofs.OrderLemmas.{same_is}
use Rattle.byte_format.specs.Whole.{IsExact}
use Rattle.byte_format.proofs.Steps.{bind_ok, guarded_ok}
use Rattle.byte_format.proofs.Fields.{wide8, wide64, number_exact, text_exact}
use Rattle.byte_format.proofs.Exact.{ruled_exact, then_exact}
use Rattle.node_codec.specs.Node.{Entry, plain_entry, may_stand, entry, plain_number, least_client, client_number, later_of, child_of, pairs_from, pairs_of, raised, number_bytes}
use Rattle.node_codec.specs.Plain.{plain_list}
use Rattle.node_codec.proofs.PlainLemmas.{Loosens, spelling_read}

pub low_exact : IsExact (text w8 0 64)
low_exact = text_exact w8 (2 ^ 8) wide8 0 64 (omega arith)

pub whole_number_exact : (least : ℕ) → IsExact (number w64 least greatest)
whole_number_exact least = number_exact w64 (2 ^ 64) wide64 least greatest (omega arith)

pub plain_entry_exact : IsExact plain_entry
plain_entry_exact = then_exact (text w8 0 64) (λ _. number w64 1 greatest) low_exact (λ _. whole_number_exact 1)

pub entry_exact : (low : List ℕ) (high : Option (List ℕ)) (last : ℕ) (before : Option Entry) → IsExact (entry low high last before)
entry_exact low high last before =
    then_exact (ruled (may_stand low high before) (text w8 0 64)) (λ _. ruled (λ page. nat_le page last) (number w64 1 greatest))
    (ruled_exact (may_stand low high before) (text w8 0 64) low_exact) (λ _. ruled_exact (λ page. nat_le page last) (number w64 1 greatest) (whole_number_exact 1))

pub plain_number_exact : IsExact plain_number
plain_number_exact = then_exact (number w8 1 64) (λ _. number w64 1 greatest) (number_exact w8 (2 ^ 8) wide8 1 64 (omega arith)) (λ _. whole_number_exact 1)

pub client_number_exact : (before : Option (ℕ × ℕ)) → IsExact (client_number before)
client_number_exact before =
    then_exact (number w8 (least_client before) 64) (λ _. number w64 1 greatest) (number_exact w8 (2 ^ 8) wide8 (least_client before) 64 (omega arith)) (λ _. whole_number_exact 1)

-- what is read by a rule is read without it
ruled_loosens : {A : Type 0} (rule : A → Bool) (f : Format A) (bytes : List ℕ) (x : A × List ℕ) → (ruled rule f).reading bytes ≡ Ok x → f.reading bytes ≡ Ok x
ruled_loosens rule f bytes x h =
    let a = bind_ok (f.reading bytes) (λ y. guarded (rule y.0) bytes y) x h in
    a.1 ∙ ap (λ y. Ok y) (guarded_ok (rule a.0.0) bytes a.0 x a.2).1

-- what is read in a sequence is read by looser parts
then_loosens : {A B : Type 0} (f f' : Format A) (g g' : A → Format B) → ((bytes : List ℕ) (x : A × List ℕ) → f.reading bytes ≡ Ok x → f'.reading bytes ≡ Ok x)
    → ((a : A) (bytes : List ℕ) (x : B × List ℕ) → (g a).reading bytes ≡ Ok x → (g' a).reading bytes ≡ Ok x) → (bytes : List ℕ) (x : (A × B) × List ℕ) → (f then g).reading bytes ≡ Ok x → (f' then g').reading bytes ≡ Ok x
then_loosens {A = A} {B = B} f f' g g' l m bytes x h =
    let after : A × List ℕ → Reading (A × B) = λ a. (g a.0).reading a.1 >>= λ b. Ok ((a.0, b.0), b.1) in
    let a = bind_ok (f.reading bytes) after x h in
    let b = bind_ok ((g a.0.0).reading a.0.1) (λ (b : B × List ℕ). Ok ((a.0.0, b.0), b.1)) x a.2 in
    rw (l bytes a.0 a.1, m a.0.0 a.0.1 b.0 b.1) b.2

pub entry_loosens : (low : List ℕ) (high : Option (List ℕ)) (last : ℕ) → Loosens (entry low high last) plain_entry
entry_loosens low high last before bytes x h =
    then_loosens (ruled (may_stand low high before) (text w8 0 64)) (text w8 0 64) (λ _. ruled (λ page. nat_le page last) (number w64 1 greatest)) (λ _. number w64 1 greatest)
    (ruled_loosens (may_stand low high before) (text w8 0 64)) (λ _. ruled_loosens (λ page. nat_le page last) (number w64 1 greatest)) bytes x h

-- a number from further on is one from less far on
number_loosens : (w : Width) (least least' most : ℕ) → least' ≤ least → (bytes : List ℕ) (x : ℕ × List ℕ) → number_at w least most bytes ≡ Ok x → number_at w least' most bytes ≡ Ok x
unfolding number_at
number_loosens w least least' most le bytes x h =
    let a = bind_ok (unsigned_at w bytes) (λ y. guarded (in_range least most y.0) bytes y) x h in
    let g = guarded_ok (in_range least most a.0.0) bytes a.0 x a.2 in
    let p = and_parts (nat_le least a.0.0) (nat_le a.0.0 most) g.0 in
    let r : in_range least' most a.0.0 ≡ true = and_from _ _ (le-leb least' a.0.0 (omega (arith, leb-true least a.0.0 p.0))) p.1 in
    rw (a.1, r) (ap (λ y. Ok y) g.1)

least_positive : (before : Option (ℕ × ℕ)) → 1 ≤ least_client before
least_positive None = omega arith
least_positive (Some before) = omega arith

pub client_number_loosens : Loosens client_number plain_number
client_number_loosens before bytes x h =
    then_loosens (number w8 (least_client before) 64) (number w8 1 64) (λ _. number w64 1 greatest) (λ _. number w64 1 greatest)
    (number_loosens w8 (least_client before) 1 64 (least_positive before)) (λ _ _ _ h. h) bytes x h

-- ---- spellings

-- a list with rules is spelled as one without them
pub spelling_loosened : {A : Type 0} (item : Option A → Format A) (f : Format A) → ((before : Option A) (x : A) → (item before).spelling x ≡ f.spelling x) → (b c : Option A) (xs : List A) → list_spelling item b xs ≡ list_spelling (λ _. f) c xs
spelling_loosened item f same b c [] = refl
spelling_loosened item f same b c (x ∷ xs) = rw (same b x, spelling_loosened item f same (Some x) (Some x) xs) refl

pub fits_loosened : {A : Type 0} (item : Option A → Format A) (f : Format A) → ((before : Option A) (x : A) → (item before).fits x ≡ true → f.fits x ≡ true) → (may_end : Bool) (b c : Option A) (xs : List A) → list_fits may_end item b xs ≡ true → list_fits true (λ _. f) c xs ≡ true
fits_loosened item f looser may_end b c [] h = refl
fits_loosened item f looser may_end b c (x ∷ xs) h =
    let p = and_parts ((item b).fits x) (list_fits true item (Some x) xs) h in
    and_from _ _ (looser b x p.0) (fits_loosened item f looser true (Some x) (Some x) xs p.1)

pub in_range_from : (least most n : ℕ) → least ≤ n → n ≤ most → in_range least most n ≡ true
in_range_from least most n low high = and_from _ _ (le-leb least n low) (le-leb n most high)

pub in_range_parts : (least most n : ℕ) → in_range least most n ≡ true → (least ≤ n) × (n ≤ most)
in_range_parts least most n h = let p = and_parts (nat_le least n) (nat_le n most) h in (leb-true least n p.0, leb-true n most p.1)

number_fits_loosened : (before : Option (ℕ × ℕ)) (x : ℕ × ℕ) → (client_number before).fits x ≡ true → plain_number.fits x ≡ true
number_fits_loosened before x h =
    let p = and_parts (in_range (least_client before) 64 x.0) (in_range 1 greatest x.1) h in
    let r = in_range_parts (least_client before) 64 x.0 p.0 in
    and_from _ _ (in_range_from 1 64 x.0 (omega (arith, least_positive before)) r.1) p.1

pub numbers_plain_fit : (xs : List (ℕ × ℕ)) → list_fits true client_number None xs ≡ true → list_fits true (λ _. plain_number) None xs ≡ true
numbers_plain_fit xs h = fits_loosened client_number plain_number number_fits_loosened true None None xs h

-- ---- numbers by client

pub spelling-pairs_from : (number : ℕ → ℕ) (c count : ℕ) → list_spelling (λ _. plain_number) None (pairs_from number c (suc count)) ≡ number_bytes c (number c) ++ list_spelling (λ _. plain_number) None (pairs_from number (suc c) count)
unfolding pairs_from
spelling-pairs_from number c count = on (number c == 0)
  where
    rest : List (ℕ × ℕ)
    rest = pairs_from number (suc c) count

    on : (b : Bool) → list_spelling (λ _. plain_number) None (cond b rest ((c, number c) ∷ rest)) ≡ cond b [] (1 ∷ to_be_bytes w8 c ++ to_be_bytes w64 (number c)) ++ list_spelling (λ _. plain_number) None rest
    on true = refl
    on false = ap (λ (s : List ℕ). (1 ∷ to_be_bytes w8 c ++ to_be_bytes w64 (number c)) ++ s) (spelling_loosened (λ _. plain_number) plain_number (λ _ _. refl) (Some (c, number c)) None rest)

pub pairs_from_fit : (count_of : ℕ → ℕ) → ((c : ℕ) → c < 65 → 1 ≤ c → count_of c ≤ greatest) → (count c : ℕ) (before : Option (ℕ × ℕ)) → 1 ≤ c → least_client before ≤ c → c + count ≤ 65 → list_fits true client_number before (pairs_from count_of c count) ≡ true
unfolding pairs_from
pairs_from_fit count_of bound zero c before one low high = refl
pairs_from_fit count_of bound (suc count) c before one low high = on (λ b. pairs_from_fit count_of bound count (suc c) b (omega arith)) (count_of c == 0) refl
  where
    on : ((b : Option (ℕ × ℕ)) → least_client b ≤ suc c → suc c + count ≤ 65 → list_fits true client_number b (pairs_from count_of (suc c) count) ≡ true) → (b : Bool) → (count_of c == 0) ≡ b
        → list_fits true client_number before (cond b (pairs_from count_of (suc c) count) ((c, count_of c) ∷ pairs_from count_of (suc c) count)) ≡ true
    on ih true is = ih before (omega arith) (omega arith)
    on ih false is =
        let some : 1 ≤ count_of c = omega (arith, eqb-false (count_of c) 0 is) in
        and_from _ _ (and_from _ _ (in_range_from (least_client before) 64 c low (omega arith)) (in_range_from 1 greatest (count_of c) some (bound c (omega arith) one)))
        (ih (Some (c, count_of c)) (omega arith) (omega arith))

pub pairs_of_fit : (count_of : ℕ → ℕ) → ((c : ℕ) → c < 65 → 1 ≤ c → count_of c ≤ greatest) → list_fits true client_number None (pairs_of count_of) ≡ true
unfolding pairs_of
pairs_of_fit count_of bound = pairs_from_fit count_of bound 64 1 None (omega arith) (omega arith) (omega arith)

-- ---- children

-- the first entry has the node's own low key
pub first_low : (low : List ℕ) (high : Option (List ℕ)) (last : ℕ) (xs : List Entry) → list_fits false (entry low high last) None xs ≡ true → (page : ℕ) × (es : List Entry) × (xs ≡ (low, page) ∷ es)
first_low low high last [] h = absurd cc
first_low low high last (e ∷ es) h =
    let a = and_parts ((entry low high last None).fits e) (list_fits true (entry low high last) (Some e) es) h in
    let b = and_parts (in_range 0 64 (length e.0) && may_stand low high None e.0) _ a.0 in
    let d = and_parts (in_range 0 64 (length e.0)) (may_stand low high None e.0) b.0 in
    let is : e.0 ≡ low = same_is e.0 low (stands (bytes_same e.0 low) (below_bound e.0 high) d.1) in
    (e.1, es, ap (λ (key : List ℕ). (key, e.1) ∷ es) is)
  where
    stands : (b t : Bool) → cond b t false ≡ true → b ≡ true
    stands true t h = refl
    stands false t h = absurd cc

some_later : (e : Entry) (o : Option Entry) → IsSome (later_of (Some e) o)
some_later e (Some f) = refl
some_later e None = refl

-- a key that is not below the node's low key has a child
pub has_child : (key low : List ℕ) (high : Option (List ℕ)) (last : ℕ) (xs : List Entry) → list_fits false (entry low high last) None xs ≡ true → bytes_below key low ≡ false → IsSome (child_of key xs)
has_child key low high last xs h le =
    let f = first_low low high last xs h in
    let there : IsSome (child_of key ((low, f.0) ∷ f.1)) = rw le (some_later (low, f.0) (child_of key f.1)) in
    subst (λ (ys : List Entry). IsSome (child_of key ys)) (sym f.2) there

pub not_below_empty : (key : List ℕ) → bytes_below key [] ≡ false
not_below_empty [] = refl
not_below_empty (b ∷ bs) = refl

-- ---- raised numbers

-- for each client the greater number, as a function
abbrev pub greater_of : List (ℕ × ℕ) → List (ℕ × ℕ) → ℕ → ℕ
greater_of numbers others c = max (number_of numbers c) (number_of others c)

-- what is written and what is left are the list
pub record IsRaisedTo (numbers others : List (ℕ × ℕ)) (c : ℕ) (out : List ℕ) : Type 0 where
  pub same : out ++ list_spelling (λ _. plain_number) None (pairs_from (greater_of numbers others) c (65 - c)) ≡ list_spelling (λ _. plain_number) None (raised numbers others)
  pub small : (k : ℕ) → k < c → 1 ≤ k → greater_of numbers others k ≤ greatest

pub raised_begins : (numbers others : List (ℕ × ℕ)) → IsRaisedTo numbers others 1 []
unfolding raised pairs_of
raised_begins numbers others = record { same = refl; small = λ k below some. absurd (omega arith) }

pub raised_goes_on : (numbers others : List (ℕ × ℕ)) (c n : ℕ) (out : List ℕ) → IsRaisedTo numbers others c out → c < 65 → n ≡ greater_of numbers others c → n ≤ greatest → IsRaisedTo numbers others (c + 1) (out ++ number_bytes c n)
raised_goes_on numbers others c n out r below is small =
    let left : 65 - c ≡ suc (65 - (c + 1)) = omega arith in
    let step : list_spelling (λ _. plain_number) None (pairs_from (greater_of numbers others) c (65 - c)) ≡ number_bytes c n ++ list_spelling (λ _. plain_number) None (pairs_from (greater_of numbers others) (c + 1) (65 - (c + 1))) =
    ap (λ k. list_spelling (λ _. plain_number) None (pairs_from (greater_of numbers others) c k)) left ∙ spelling-pairs_from (greater_of numbers others) c (65 - (c + 1))
    ∙ ap (λ k. number_bytes c k ++ list_spelling (λ _. plain_number) None (pairs_from (greater_of numbers others) (suc c) (65 - (c + 1)))) (sym is)
    ∙ ap (λ k. number_bytes c n ++ list_spelling (λ _. plain_number) None (pairs_from (greater_of numbers others) k (65 - (c + 1)))) (sym (add-one c)) in
    record {
      same = append_assoc out (number_bytes c n) _ ∙ ap (λ s. out ++ s) (sym step) ∙ r.same;
      small = λ k less some. elim (cases_lt k c) [ inl lt ↦ r.small k lt some | inr le ↦ let e : k ≡ c = omega arith in rw (e, ← is) small ];
    }

-- what was written is the list
pub record IsRaised (numbers others : List (ℕ × ℕ)) (out : List ℕ) : Type 0 where
  pub reads : plain_list plain_number out ≡ Ok (raised numbers others, [])
  pub fits : list_fits true client_number None (raised numbers others) ≡ true

pub raised_ends : (numbers others : List (ℕ × ℕ)) (c : ℕ) (out all : List ℕ) → IsRaisedTo numbers others c out → c ≡ 65 → all ≡ out ++ 0 ∷ [] → IsRaised numbers others all
unfolding raised pairs_from
raised_ends numbers others c out all r is whole =
    let s = subst (λ (k : ℕ). IsRaisedTo numbers others k out) is r in
    let fits = pairs_of_fit (greater_of numbers others) s.small in
    record {
      reads = spelling_read plain_number plain_number_exact all (raised numbers others) (numbers_plain_fit (raised numbers others) fits) (whole ∙ s.same);
      fits = fits;
    }

-- ---- a list of numbers, one after another, is a cursor

-- each client of the list is below c
abbrev pub AreBelow : List (ℕ × ℕ) → ℕ → Type 0
AreBelow [] c = Unit {0}
AreBelow (x ∷ xs) c = (x.0 < c) × AreBelow xs c

first_below : (x : ℕ × ℕ) (front : List (ℕ × ℕ)) (y : ℕ × ℕ) (rest : List (ℕ × ℕ)) → list_fits true client_number (Some x) (front ++ y ∷ rest) ≡ true → x.0 < y.0
first_below x [] y rest h =
    let a = and_parts ((client_number (Some x)).fits y) (list_fits true client_number (Some y) rest) h in
    let b = and_parts (in_range (x.0 + 1) 64 y.0) _ a.0 in
    omega (arith, in_range_parts (x.0 + 1) 64 y.0 b.0)
first_below x (f ∷ fs) y rest h =
    let a = and_parts ((client_number (Some x)).fits f) (list_fits true client_number (Some f) (fs ++ y ∷ rest)) h in
    let b = and_parts (in_range (x.0 + 1) 64 f.0) _ a.0 in
    omega (arith, in_range_parts (x.0 + 1) 64 f.0 b.0, first_below f fs y rest a.1)

front_below : (before : Option (ℕ × ℕ)) (front : List (ℕ × ℕ)) (y : ℕ × ℕ) (rest : List (ℕ × ℕ)) → list_fits true client_number before (front ++ y ∷ rest) ≡ true → AreBelow front y.0
front_below before [] y rest h = tt
front_below before (x ∷ xs) y rest h =
    let a = and_parts ((client_number before).fits x) (list_fits true client_number (Some x) (xs ++ y ∷ rest)) h in
    (first_below x xs y rest a.1, front_below (Some x) xs y rest a.1)

insert_last : (front : List (ℕ × ℕ)) (c n : ℕ) → AreBelow front c → insert_entry nat_cmp front c n ≡ front ++ (c, n) ∷ []
insert_last [] c n h = refl
insert_last (x ∷ xs) c n h = rw (← nat_cmp_is c x.0 Greater h.0, insert_last xs c n h.1) refl

-- what the next number adds to the cursor
pub insert_next : (front : List (ℕ × ℕ)) (c n : ℕ) (rest all : List (ℕ × ℕ)) → list_fits true client_number None all ≡ true → front ++ (c, n) ∷ rest ≡ all → insert_entry nat_cmp front c n ++ rest ≡ all
insert_next front c n rest all fits is =
    let ordered = subst (λ (xs : List (ℕ × ℕ)). list_fits true client_number None xs ≡ true) (sym is) fits in
    ap (λ xs. xs ++ rest) (insert_last front c n (front_below None front (c, n) rest ordered)) ∙ append_assoc front ((c, n) ∷ []) rest ∙ is
