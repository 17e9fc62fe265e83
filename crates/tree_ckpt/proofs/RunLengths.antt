-- A run has no more items than were received, and a leaf that takes it no more records than its own and the run's.
use Rattle.std.proofs.Common.{◌≡◌, ◌+◌, ◌≤◌, ◌==◌, ℕ, zero, suc, Bool, true, false, cond, count_by, List, [], ◌∷◌, length, Option, Some, None, refl, sym, subst, arith}
use Rattle.std.specs.Prelude.{◌||◌, All}
use Rattle.std.specs.List.{AllByRecursion}
use Rattle.std.specs.declared.cmp.Ordering.{Ordering}
use Rattle.std.specs.declared.cmp.Ordering.TheVariants.{Less, Equal, Greater}
use Rattle.std.proofs.lemmas.Bool.{and_from, and_parts, eq-eqb, eqb-true}
use Rattle.std.proofs.lemmas.List.Elements.{All-head, All-tail}
use Rattle.std.proofs.lemmas.List.Sums.{sum_by-cons}
use Rattle.byte_format.specs.Order.{bytes_cmp}
use Rattle.db_base.specs.Change.{key_of, act}
use Rattle.db_base.specs.Value.{Value}
use Rattle.db_base.specs.declared.change.Change.{Change}
use Rattle.leaf_edit.specs.Applied.{applied}
use Rattle.leaf_edit.specs.Edited.{with_value, edited_at, edited, edited_by}
use Rattle.leaf_edit.specs.Lacked.{is_lacked, lacked}
use Rattle.leaf_view.specs.Leaf.{Leaf, Entry}
use Rattle.log_codec.specs.declared.record.PuItem.{PuItem}
use Rattle.run_cursor.specs.Run.{IsRun, IsWithin, first_at, has_number, is_at}

-- ---- items of numbers of their own

-- each has the client and number of one of these, and none those of another
abbrev AreOf : List PuItem → List PuItem → Type 0
AreOf received xs = AllByRecursion (λ x. has_number received x.rec.client x.rec.number ≡ true) xs

abbrev AreOnce : List PuItem → Type 0
AreOnce xs = (client number : ℕ) → count_by (is_at client number) xs ≤ 1

-- those at which the test does not give true
abbrev without : (PuItem → Bool) → List PuItem → List PuItem
without p [] = []
without p (x ∷ xs) = cond (p x) (without p xs) (x ∷ without p xs)

counted : (p : PuItem → Bool) (x : PuItem) (xs : List PuItem) → count_by p (x ∷ xs) ≡ cond (p x) 1 0 + count_by p xs
counted p x xs = sum_by-cons _ x xs

with_others : (p : PuItem → Bool) (xs : List PuItem) → length xs ≡ count_by p xs + length (without p xs)
with_others p [] = refl
with_others p (x ∷ xs) =
    subst (λ (n : ℕ). length (x ∷ xs) ≡ n + length (without p (x ∷ xs))) (sym (counted p x xs)) (on (p x) (with_others p xs)) where
      on : (b : Bool) → length xs ≡ count_by p xs + length (without p xs)
          → length (x ∷ xs) ≡ (cond b 1 0 + count_by p xs) + length (cond b (without p xs) (x ∷ without p xs))
      on true rest = omega (arith, rest)
      on false rest = omega (arith, rest)

others_count : (p q : PuItem → Bool) (xs : List PuItem) → count_by q (without p xs) ≤ count_by q xs
others_count p q [] = omega arith
others_count p q (x ∷ xs) = on (p x) (others_count p q xs) where
  on : (b : Bool) → count_by q (without p xs) ≤ count_by q xs → count_by q (cond b (without p xs) (x ∷ without p xs)) ≤ count_by q (x ∷ xs)
  on true rest = let all = counted q x xs in omega (arith, rest, all)
  on false rest = let all = counted q x xs in let some = counted q x (without p xs) in omega (arith, rest, all, some)

-- two items have one client and number, or they do not, whichever is asked
at_each_other : (x y : PuItem) → is_at x.rec.client x.rec.number y ≡ true → is_at y.rec.client y.rec.number x ≡ true
at_each_other x y e =
    let parts = and_parts (y.rec.client == x.rec.client) (y.rec.number == x.rec.number) e in
    and_from (x.rec.client == y.rec.client) (x.rec.number == y.rec.number)
    (eq-eqb x.rec.client y.rec.client (sym (eqb-true y.rec.client x.rec.client parts.0)))
    (eq-eqb x.rec.number y.rec.number (sym (eqb-true y.rec.number x.rec.number parts.1)))

of_others : (r : PuItem) (received xs : List PuItem) → AreOf (r ∷ received) xs → AreOf received (without (is_at r.rec.client r.rec.number) xs)
of_others r received [] h = tt
of_others r received (x ∷ xs) h = on (is_at r.rec.client r.rec.number x) refl (is_at x.rec.client x.rec.number r) refl h.0 (of_others r received xs h.1) where
  on : (b : Bool) → is_at r.rec.client r.rec.number x ≡ b → (c : Bool) → is_at x.rec.client x.rec.number r ≡ c
      → (c || has_number received x.rec.client x.rec.number) ≡ true → AreOf received (without (is_at r.rec.client r.rec.number) xs)
      → AreOf received (cond b (without (is_at r.rec.client r.rec.number) xs) (x ∷ without (is_at r.rec.client r.rec.number) xs))
  on true e c f there rest = rest
  on false e true f there rest = absurd (let same : is_at r.rec.client r.rec.number x ≡ true = at_each_other x r f in cc (same, e))
  on false e false f there rest = (there, rest)

few_of : (received xs : List PuItem) → AreOf received xs → AreOnce xs → length xs ≤ length received
few_of [] [] h once = omega arith
few_of [] (x ∷ xs) h once = absurd (let never = h.0 in cc (never))
few_of (r ∷ received) xs h once =
    let p : PuItem → Bool = is_at r.rec.client r.rec.number in
    let rest = few_of received (without p xs) (of_others r received xs h)
    (λ client number. let one = once client number in let fewer = others_count p (is_at client number) xs in omega (arith, one, fewer)) in
    let one = once r.rec.client r.rec.number in
    let all = with_others p xs in
    omega (arith, rest, one, all)

-- ---- a run

found_has : (client number : ℕ) (received : List PuItem) (x : PuItem) → first_at received client number ≡ Some x → has_number received client number ≡ true
found_has client number [] x e = absurd (cc (e))
found_has client number (r ∷ received) x e = on (is_at client number r) (λ there. found_has client number received x there) e where
  on : (b : Bool) → (first_at received client number ≡ Some x → has_number received client number ≡ true)
      → cond b (Some r) (first_at received client number) ≡ Some x → (b || has_number received client number) ≡ true
  on true rest f = refl
  on false rest f = rest f

module _ (cursor : List (ℕ × ℕ)) (received run : List PuItem) (top : List (ℕ × ℕ)) (is : IsRun cursor received run top) where
  abbrev IsFirst : PuItem → Type 0
  IsFirst x = first_at received x.rec.client x.rec.number ≡ Some x

  abbrev Lies : PuItem → Type 0
  Lies x = IsWithin cursor top x.rec.client x.rec.number

  all_of : (xs : List PuItem) → All IsFirst xs → AreOf received xs
  all_of [] h = tt
  all_of (x ∷ xs) h = (found_has x.rec.client x.rec.number received x (All-head IsFirst x xs h), all_of xs (All-tail IsFirst x xs h))

  counts_within : (client number : ℕ) (xs : List PuItem) → All Lies xs → 1 ≤ count_by (is_at client number) xs → IsWithin cursor top client number
  counts_within client number [] h some = absurd (omega (arith, some))
  counts_within client number (x ∷ xs) h some =
      on (is_at client number x) refl (subst (λ (n : ℕ). 1 ≤ n) (counted (is_at client number) x xs) some) (λ there. counts_within client number xs (All-tail Lies x xs h) there) where
        on : (b : Bool) → is_at client number x ≡ b → 1 ≤ cond b 1 0 + count_by (is_at client number) xs
            → (1 ≤ count_by (is_at client number) xs → IsWithin cursor top client number) → IsWithin cursor top client number
        on true e there rest =
            let parts = and_parts (x.rec.client == client) (x.rec.number == number) e in
            subst (λ (c : ℕ). IsWithin cursor top c number) (eqb-true x.rec.client client parts.0)
            (subst (λ (n : ℕ). IsWithin cursor top x.rec.client n) (eqb-true x.rec.number number parts.1) (All-head Lies x xs h))
        on false e there rest = rest (omega (arith, there))

  all_once : AreOnce run
  all_once client number = on (count_by (is_at client number) run) refl where
    on : (n : ℕ) → count_by (is_at client number) run ≡ n → count_by (is_at client number) run ≤ 1
    on zero e = omega (arith, e)
    on (suc n) e =
        let one = is.once client number (counts_within client number run is.within (omega (arith, e))) in
        omega (arith, one)

  pub run_length : length run ≤ length received
  run_length = few_of received run (all_of run is.first) all_once

-- ---- a leaf

valued_length : (key : List ℕ) (new : Option Value) (es : List Entry) → length (with_value key new es) ≤ length es + 1
valued_length key None es = omega arith
valued_length key (Some value) es = omega arith

edited_length : (es : List Entry) (c : Change) → length (edited es c) ≤ length es + 1
edited_length [] c = valued_length (key_of c) (act None c) []
edited_length (e ∷ es) c = on (bytes_cmp e.key (key_of c)) (edited_length es c)
  where
    on : (o : Ordering) → length (edited es c) ≤ length es + 1 → length (edited_at o e es (edited es c) c) ≤ length (e ∷ es) + 1
    on Less again = omega (arith, again)
    on Equal again = let more = valued_length (key_of c) (act (Some e.value) c) es in omega (arith, more)
    on Greater again = valued_length (key_of c) (act None c) (e ∷ es)

all_length : (es : List Entry) (xs : List PuItem) → length (edited_by es xs) ≤ length es + length xs
all_length es [] = omega arith
all_length es (x ∷ xs) = let rest = all_length (edited es x.rec.change) xs in let one = edited_length es x.rec.change in omega (arith, rest, one)

lacked_length : (l : Leaf) (queue : ℕ) (xs : List PuItem) → length (lacked l queue xs) ≤ length xs
lacked_length l queue [] = omega arith
lacked_length l queue (x ∷ xs) = on (is_lacked l queue x) (lacked_length l queue xs)
  where
    on : (b : Bool) → length (lacked l queue xs) ≤ length xs → length (cond b (x ∷ lacked l queue xs) (lacked l queue xs)) ≤ length (x ∷ xs)
    on true again = omega (arith, again)
    on false again = omega (arith, again)

pub applied_records : (l : Leaf) (run : List PuItem) → length (applied l 0 run).records ≤ length l.records + length run
applied_records l run = let all = all_length l.records (lacked l 0 run) in let few = lacked_length l 0 run in omega (arith, all, few)
