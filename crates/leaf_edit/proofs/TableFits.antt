-- The table behind a run is in order, and each of its entries has a spelling.
use Rattle.std.proofs.Common.{◌≡◌, ℕ, zero, suc, ◌+◌, ◌-◌, ◌<◌, ◌≤◌, Bool, true, false, cond, List, [], ◌∷◌, ◌++◌, Option, Some, None, refl, arith, eqb, inl, inr}
use Rattle.std.specs.Prelude.{◌==◌, ◌&&◌, nat_lt, filter}
use Rattle.std.specs.List.{AllByRecursion}
use Rattle.std.proofs.lemmas.Bool.{and_parts, and_from, or_cases, or_left, or_right, ltb-true, lt-ltb, eqb-true}
use Rattle.std.proofs.lemmas.Bool.Decides.{nat_tests}
use Rattle.db_base.specs.Ids.{IsClient}
use Rattle.byte_format.specs.Format.{greatest}
use Rattle.leaf_view.specs.declared.done.Done.{Done}
use Rattle.leaf_view.specs.Fits.{Behind, Ascend, done_below, IsDone}
use Rattle.leaf_view.specs.Lookup.{number_of}
use Rattle.log_codec.specs.declared.record.PuItem.{PuItem}
use Rattle.log_codec.specs.Order.{IsItem}
use Rattle.leaf_edit.specs.Raised.{greatest_of, raised_number, with_done, own_entries, raised}
use Rattle.leaf_edit.proofs.InOrder.{all-filter}

-- ---- the order of entries

-- one entry below another, by queue or within a queue
pub record IsBelow (q c q' c' : ℕ) : Type 0 where
  pub queue : q ≤ q'
  pub client : q ≡ q' → c < c'

below_is : (b d : Done) → done_below b d ≡ true → IsBelow b.queue b.client d.queue d.client
below_is b d h = elim (or_cases (nat_lt b.queue d.queue) (eqb b.queue d.queue && nat_lt b.client d.client) h) [
  | inl lt ↦ let l = ltb-true b.queue d.queue lt in record { queue = omega arith; client = λ e. absurd (omega arith) }
  | inr both ↦
      let p = and_parts (eqb b.queue d.queue) (nat_lt b.client d.client) both in
      let e = eqb-true b.queue d.queue p.0 in
      let l = ltb-true b.client d.client p.1 in
      record { queue = omega arith; client = λ _. l }
]

is_below : (b d : Done) → IsBelow b.queue b.client d.queue d.client → done_below b d ≡ true
is_below b d h = on (eqb b.queue d.queue) refl
  where
    on : (same : Bool) → eqb b.queue d.queue ≡ same → done_below b d ≡ true
    on true e = or_right (nat_lt b.queue d.queue) _ (and_from _ _ e (lt-ltb b.client d.client (h.client (eqb-true b.queue d.queue e))))
    on false e = or_left _ _ (lt-ltb b.queue d.queue (grind (arith, nat_tests, h.queue, e)))

below_trans : (a b c : Done) → done_below a b ≡ true → done_below b c ≡ true → done_below a c ≡ true
below_trans a b c p q = let f = below_is a b p in let g = below_is b c q in
    is_below a c (record { queue = omega (arith, f.queue, g.queue); client = λ e. on e f g })
  where
    on : a.queue ≡ c.queue → IsBelow a.queue a.client b.queue b.client → IsBelow b.queue b.client c.queue c.client → a.client < c.client
    on e f g = let same : a.queue ≡ b.queue = omega (arith, f.queue, g.queue) in let same' : b.queue ≡ c.queue = omega (arith, f.queue, g.queue) in omega (arith, f.client same, g.client same')

skip : (before : Option Done) (d : Done) (ds : List Done) → Behind done_below before d → Ascend done_below (Some d) ds → Ascend done_below before ds
skip before d [] behind h = tt
skip None d (e ∷ es) behind h = (tt, h.1)
skip (Some b) d (e ∷ es) behind h = (below_trans b d e behind h.0, h.1)

Ascend-filter : (p : Done → Bool) (before : Option Done) (ds : List Done) → Ascend done_below before ds → Ascend done_below before (filter p ds)
Ascend-filter p before [] h = tt
Ascend-filter p before (d ∷ ds) h = on (p d) (Ascend-filter p (Some d) ds h.1) (Ascend-filter p before ds (skip before d ds h.0 h.1))
  where
    on : (b : Bool) → Ascend done_below (Some d) (filter p ds) → Ascend done_below before (filter p ds) → Ascend done_below before (cond b (d ∷ filter p ds) (filter p ds))
    on true kept gone = (h.0, kept)
    on false kept gone = gone

-- what holds of the entry before, where there is one
abbrev OptionIs : (Done → Type 0) → Option Done → Type 0
OptionIs P None = Unit {0}
OptionIs P (Some d) = P d

-- two lists in order, where the second is in order behind each of the first
Ascend-append : (P : Done → Type 0) (before : Option Done) (xs ys : List Done) → OptionIs P before → AllByRecursion P xs
    → Ascend done_below before xs → ((b : Option Done) → OptionIs P b → Ascend done_below b ys) → Ascend done_below before (xs ++ ys)
Ascend-append P before [] ys is all h next = next before is
Ascend-append P before (x ∷ xs) ys is all h next = (h.0, Ascend-append P (Some x) xs ys all.0 all.1 h.1 next)

All-append : (P : Done → Type 0) (xs ys : List Done) → AllByRecursion P xs → AllByRecursion P ys → AllByRecursion P (xs ++ ys)
All-append P [] ys a b = b
All-append P (x ∷ xs) ys a b = (a.0, All-append P xs ys a.1 b)

pub filter-all : (p : Done → Bool) (ds : List Done) → AllByRecursion (λ d. p d ≡ true) (filter p ds)
filter-all p [] = tt
filter-all p (d ∷ ds) = on (p d) refl (filter-all p ds)
  where
    on : (b : Bool) → p d ≡ b → AllByRecursion (λ d. p d ≡ true) (filter p ds) → AllByRecursion (λ d. p d ≡ true) (cond b (d ∷ filter p ds) (filter p ds))
    on true e again = (e, again)
    on false e again = again

All-weaker : (P Q : Done → Type 0) (xs : List Done) → ((d : Done) → P d → Q d) → AllByRecursion P xs → AllByRecursion Q xs
All-weaker P Q [] f h = tt
All-weaker P Q (x ∷ xs) f h = (f x h.0, All-weaker P Q xs f h.1)

-- ---- the queue's own entries

-- the entry before is below those of the last so many clients
abbrev IsBeforeOwn : ℕ → ℕ → Option Done → Type 0
IsBeforeOwn queue left before = (d : Done) → d.queue ≡ queue → 64 < d.client + left → Behind done_below before d

own-ascend : (queue : ℕ) (number : ℕ → ℕ) (left : ℕ) (before : Option Done) → left ≤ 64 → IsBeforeOwn queue left before
    → Ascend done_below before (own_entries queue number left)
unfolding own_entries
own-ascend queue number zero before small h = tt
own-ascend queue number (suc left) before small h =
    on (number (64 - left)) (λ b. own-ascend queue number left b (omega arith))
  where
    on : (n : ℕ) → ((b : Option Done) → IsBeforeOwn queue left b → Ascend done_below b (own_entries queue number left))
        → Ascend done_below before (with_done queue (64 - left) n (own_entries queue number left))
    on zero again = again before (λ d same large. h d same (omega arith))
    on (suc n) again = (
      h (record { queue = queue; client = 64 - left; number = suc n }) refl (omega arith),
      again (Some (record { queue = queue; client = 64 - left; number = suc n }))
          (λ d same large. is_below (record { queue = queue; client = 64 - left; number = suc n }) d (record { queue = omega (arith, same); client = λ _. omega arith })),
    )

pub own-all : (P : Done → Type 0) (queue : ℕ) (number : ℕ → ℕ) (left : ℕ) → left ≤ 64
    → ((c n : ℕ) → IsClient c → number c ≡ suc n → P (record { queue = queue; client = c; number = suc n }))
    → AllByRecursion P (own_entries queue number left)
unfolding own_entries
own-all P queue number zero small h = tt
own-all P queue number (suc left) small h =
    on (number (64 - left)) refl (own-all P queue number left (omega arith) h)
  where
    on : (n : ℕ) → number (64 - left) ≡ n → AllByRecursion P (own_entries queue number left)
        → AllByRecursion P (with_done queue (64 - left) n (own_entries queue number left))
    on zero e again = again
    on (suc n) e again = (h (64 - left) n (record { some = omega arith; most = omega arith }) e, again)

-- ---- the whole table

pub raised-ascends : (ds : List Done) (queue : ℕ) (run : List PuItem) → Ascend done_below None ds → Ascend done_below None (raised ds queue run)
raised-ascends ds queue run h =
    Ascend-append (λ d. d.queue < queue) None (filter (λ d. nat_lt d.queue queue) ds) (own ++ higher) tt
    (All-weaker (λ d. nat_lt d.queue queue ≡ true) (λ d. d.queue < queue) (filter (λ d. nat_lt d.queue queue) ds) (λ d. ltb-true d.queue queue) (filter-all (λ d. nat_lt d.queue queue) ds))
    (Ascend-filter (λ d. nat_lt d.queue queue) None ds h)
    (λ b is. Ascend-append (λ d. d.queue ≤ queue) b own higher (upto b is) (own-all (λ d. d.queue ≤ queue) queue (raised_number ds queue run) 64 (omega arith) (λ c n is e. omega arith))
    (own-ascend queue (raised_number ds queue run) 64 b (omega arith) (lower b is)) behind)
  where
    own : List Done
    own = own_entries queue (raised_number ds queue run) 64

    higher : List Done
    higher = filter (λ d. nat_lt queue d.queue) ds

    upto : (b : Option Done) → OptionIs (λ d. d.queue < queue) b → OptionIs (λ d. d.queue ≤ queue) b
    upto None is = tt
    upto (Some b) is = omega arith

    lower : (b : Option Done) → OptionIs (λ d. d.queue < queue) b → IsBeforeOwn queue 64 b
    lower None is d same large = tt
    lower (Some b) is d same large = is_below b d (record { queue = omega (arith, same, is); client = λ e. absurd (omega (arith, same, is)) })

    behind : (b : Option Done) → OptionIs (λ d. d.queue ≤ queue) b → Ascend done_below b higher
    behind b is = on b is higher (Ascend-filter (λ d. nat_lt queue d.queue) None ds h) (filter-all (λ d. nat_lt queue d.queue) ds)
      where
        on : (b : Option Done) → OptionIs (λ d. d.queue ≤ queue) b → (ys : List Done) → Ascend done_below None ys → AllByRecursion (λ d. nat_lt queue d.queue ≡ true) ys → Ascend done_below b ys
        on b is [] h all = tt
        on None is (y ∷ ys) h all = h
        on (Some b) is (y ∷ ys) h all = (is_below b y (record { queue = omega (arith, is, ltb-true queue y.queue all.0); client = λ e. absurd (omega (arith, is, ltb-true queue y.queue all.0, e)) }), h.1)

-- ---- the numbers

number_of-most : (ds : List Done) (queue client : ℕ) → AllByRecursion IsDone ds → number_of ds queue client ≤ greatest
number_of-most [] queue client h = omega arith
number_of-most (d ∷ ds) queue client h = on ((d.queue == queue) && (d.client == client)) (number_of-most ds queue client h.1)
  where
    on : (b : Bool) → number_of ds queue client ≤ greatest → cond b d.number (number_of ds queue client) ≤ greatest
    on true again = h.0.most
    on false again = again

greatest_of-most : (run : List PuItem) (client : ℕ) → AllByRecursion IsItem run → greatest_of run client ≤ greatest
greatest_of-most [] client h = omega arith
greatest_of-most (x ∷ xs) client h = omega (arith, on (x.rec.client == client), greatest_of-most xs client h.1)
  where
    on : (b : Bool) → cond b x.rec.number 0 ≤ greatest
    on true = omega (arith, h.0.number)
    on false = omega arith

pub raised_number-most : (ds : List Done) (queue : ℕ) (run : List PuItem) (client : ℕ) → AllByRecursion IsDone ds → AllByRecursion IsItem run
    → raised_number ds queue run client ≤ greatest
raised_number-most ds queue run client h all = omega (arith, number_of-most ds queue client h, greatest_of-most run client all)

pub raised-all : (ds : List Done) (queue : ℕ) (run : List PuItem) → queue ≤ greatest → AllByRecursion IsDone ds → AllByRecursion IsItem run
    → AllByRecursion IsDone (raised ds queue run)
raised-all ds queue run small h all =
    All-append IsDone (filter (λ d. nat_lt d.queue queue) ds) _ (all-filter IsDone (λ d. nat_lt d.queue queue) ds h)
    (All-append IsDone (own_entries queue (raised_number ds queue run) 64) _
    (own-all IsDone queue (raised_number ds queue run) 64 (omega arith)
    (λ c n is e. record { queue = small; client = is; some = omega arith; most = omega (arith, e, raised_number-most ds queue run c h all) }))
    (all-filter IsDone (λ d. nat_lt queue d.queue) ds h))
