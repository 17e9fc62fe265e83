-- What a deletion leaves of the messages that are not deleted, and what a delivering receive brings of them.
use Rattle.std.proofs.Common.{◌≡◌, ◌≢◌, ◌<◌, ◌≤◌, ◌+◌, ◌-◌, ℕ, zero, suc, List, [], ◌∷◌, take, Bool, true, false, cond, not, refl, ap, sym, subst, ◌∙◌, arith}
use Rattle.std.specs.Prelude.{◌==◌, filter}
use Rattle.std.specs.List.{AllByRecursion}
use Rattle.std.proofs.lemmas.Bool.Decides.{nat_tests}
use Rattle.std.proofs.lemmas.List.Elements.{All-from_recursion, recursion_from_All, All-take, All-nil}
use Rattle.std.proofs.lemmas.List.Sorted.{All-permutation, IsPermutation-sym}
use Rattle.cloud_trait.specs.declared.message.Message.{Message}
use Rattle.cloud_trait.specs.declared.state.Posted.{Posted}
use Rattle.cloud_trait.specs.Delivery.{unmarked, unmarked_from, IsDelivering}
use Rattle.cloud_trait.specs.State.{mark_at, marked}

-- no message that is not deleted has this id
abbrev pub IsGone : List Posted → ℕ → Type 0
IsGone ms id = AllByRecursion (λ (m : Message). m.id ≢ id) (unmarked ms)

-- the messages whose id is another
abbrev pub others : ℕ → List Message → List Message
others id ms = filter (λ (m : Message). not (m.id == id)) ms

same_true : (a b : ℕ) → a ≡ b → (a == b) ≡ true
same_true a b e = grind (arith, nat_tests)

other_false : (a b : ℕ) → a ≢ b → (a == b) ≡ false
other_false a b e = grind (arith, nat_tests)

other_true : (a b : ℕ) → (a == b) ≡ false → a ≢ b
other_true a b e = grind (arith, nat_tests)

-- ---- ids

unmarked_above : (n k : ℕ) (ms : List Posted) → k < n → AllByRecursion (λ (m : Message). m.id ≢ k) (unmarked_from n ms)
unmarked_above n k [] less = tt
unmarked_above n k (m ∷ ms) less = on m.deleted (unmarked_above (n + 1) k ms (omega (arith, less))) where
  on : (b : Bool) → AllByRecursion (λ (x : Message). x.id ≢ k) (unmarked_from (n + 1) ms)
      → AllByRecursion (λ (x : Message). x.id ≢ k) (cond b (unmarked_from (n + 1) ms) (record { id = n; bytes = m.bytes } ∷ unmarked_from (n + 1) ms))
  on true rest = rest
  on false rest = (λ e. omega (arith, less, e), rest)

others_all : (id : ℕ) (ms : List Message) → AllByRecursion (λ (m : Message). m.id ≢ id) ms → others id ms ≡ ms
others_all id [] all = refl
others_all id (m ∷ ms) all = rw (other_false m.id id all.0) (ap (λ l. m ∷ l) (others_all id ms all.1))

others_none : (id : ℕ) (ms : List Message) → AllByRecursion (λ (m : Message). m.id ≢ id) (others id ms)
others_none id [] = tt
others_none id (m ∷ ms) = on (m.id == id) refl (others_none id ms) where
  on : (b : Bool) → (m.id == id) ≡ b → AllByRecursion (λ (x : Message). x.id ≢ id) (others id ms)
      → AllByRecursion (λ (x : Message). x.id ≢ id) (cond (not b) (m ∷ others id ms) (others id ms))
  on true e rest = rest
  on false e rest = (other_true m.id id e, rest)

-- ---- a deletion

mark_at_leaves : (n i : ℕ) (ms : List Posted) → unmarked_from n (mark_at ms i) ≡ others (n + i) (unmarked_from n ms)
mark_at_leaves n i [] = refl
mark_at_leaves n zero (m ∷ ms) =
    let at : n + zero ≡ n = omega arith in
    on m.deleted (others_all (n + zero) (unmarked_from (n + 1) ms) (unmarked_above (n + 1) (n + zero) ms (omega arith)))
  where
    on : (b : Bool) → others (n + zero) (unmarked_from (n + 1) ms) ≡ unmarked_from (n + 1) ms
        → unmarked_from (n + 1) ms ≡ others (n + zero) (cond b (unmarked_from (n + 1) ms) (record { id = n; bytes = m.bytes } ∷ unmarked_from (n + 1) ms))
    on true all = sym all
    on false all = rw (same_true n (n + zero) (omega arith)) (sym all)
mark_at_leaves n (suc i) (m ∷ ms) =
    let next : n + 1 + i ≡ n + suc i = omega arith in
    let rest : unmarked_from (n + 1) (mark_at ms i) ≡ others (n + suc i) (unmarked_from (n + 1) ms) =
    mark_at_leaves (n + 1) i ms ∙ ap (λ k. others k (unmarked_from (n + 1) ms)) next in
    on m.deleted rest
  where
    on : (b : Bool) → unmarked_from (n + 1) (mark_at ms i) ≡ others (n + suc i) (unmarked_from (n + 1) ms)
        → cond b (unmarked_from (n + 1) (mark_at ms i)) (record { id = n; bytes = m.bytes } ∷ unmarked_from (n + 1) (mark_at ms i))
        ≡ others (n + suc i) (cond b (unmarked_from (n + 1) ms) (record { id = n; bytes = m.bytes } ∷ unmarked_from (n + 1) ms))
    on true rest = rest
    on false rest = rw (other_false n (n + suc i) (λ e. omega (arith, e))) (ap (λ l. record { id = n; bytes = m.bytes } ∷ l) rest)

-- a deletion leaves the messages whose id is another
pub marked_leaves : (ms : List Posted) (id : ℕ) → unmarked (marked ms id) ≡ others id (unmarked ms)
marked_leaves ms id = on (id == 0) refl where
  on : (b : Bool) → (id == 0) ≡ b → unmarked (cond b ms (mark_at ms (id - 1))) ≡ others id (unmarked ms)
  on true e = let none : id ≡ 0 = grind (arith, nat_tests, e) in sym (others_all id (unmarked ms) (unmarked_above 1 id ms (omega (arith, none))))
  on false e = let some : id ≢ 0 = grind (arith, nat_tests, e) in
      mark_at_leaves 1 (id - 1) ms ∙ ap (λ k. others k (unmarked ms)) (omega (arith, some))

pub all_others : (P : Message → Type 0) (id : ℕ) (ms : List Message) → AllByRecursion P ms → AllByRecursion P (others id ms)
all_others P id [] all = tt
all_others P id (m ∷ ms) all = on (m.id == id) (all_others P id ms all.1) where
  on : (b : Bool) → AllByRecursion P (others id ms) → AllByRecursion P (cond (not b) (m ∷ others id ms) (others id ms))
  on true rest = rest
  on false rest = (all.0, rest)

-- what holds of every message that is not deleted holds of them behind a deletion
pub marked_all : (P : Message → Type 0) (ms : List Posted) (id : ℕ) → AllByRecursion P (unmarked ms) → AllByRecursion P (unmarked (marked ms id))
marked_all P ms id all = subst (AllByRecursion P) (sym (marked_leaves ms id)) (all_others P id (unmarked ms) all)

-- and the message that was deleted is gone
pub marked_gone : (ms : List Posted) (id : ℕ) → IsGone (marked ms id) id
marked_gone ms id = subst (AllByRecursion (λ (m : Message). m.id ≢ id)) (sym (marked_leaves ms id)) (others_none id (unmarked ms))

-- ---- a receive

own_in : {X : Type 0} (P : X → X → Type 0) (xs ys : List X) → ((m : X) → AllByRecursion (P m) ys → AllByRecursion (P m) xs)
    → AllByRecursion (λ m. AllByRecursion (P m) ys → P m m) xs
own_in P [] ys f = tt
own_in P (x ∷ xs) ys f = (λ all. (f x all).0, own_in P xs ys (λ m all. (f m all).1))

-- no message that is not deleted is gone
pub none_gone : (ms : List Posted) → AllByRecursion (λ (m : Message). IsGone ms m.id → ⊥) (unmarked ms)
none_gone ms = all_none (unmarked ms) (own_in (λ (m x : Message). x.id ≢ m.id) (unmarked ms) (unmarked ms) (λ m all. all)) where
  all_none : (xs : List Message) → AllByRecursion (λ (m : Message). IsGone ms m.id → m.id ≢ m.id) xs → AllByRecursion (λ (m : Message). IsGone ms m.id → ⊥) xs
  all_none [] all = tt
  all_none (x ∷ xs) all = (λ gone. all.0 gone refl, all_none xs all.1)

-- what holds of every message that is not deleted holds of each that a delivering receive brings
pub brought_all : (P : Message → Type 0) (ms : List Posted) (most : ℕ) (answer : List Message) → IsDelivering ms most answer → AllByRecursion P (unmarked ms) → AllByRecursion P answer
brought_all P ms most answer is all =
    recursion_from_All P answer (All-permutation P (take most (unmarked ms)) answer is (All-take P most (unmarked ms) (All-from_recursion P (unmarked ms) all)))

none_taken : (most : ℕ) (xs : List Message) → 1 ≤ most → AllByRecursion (λ (m : Message). ⊥) (take most xs) → xs ≡ []
none_taken most [] some none = refl
none_taken zero (x ∷ xs) some none = absurd (omega (arith, some))
none_taken (suc most) (x ∷ xs) some none = absurd none.0

-- one that brings nothing leaves nothing
pub brought_none : (ms : List Posted) (most : ℕ) → 1 ≤ most → IsDelivering ms most [] → unmarked ms ≡ []
brought_none ms most some is =
    none_taken most (unmarked ms) some (recursion_from_All (λ (m : Message). ⊥) (take most (unmarked ms))
    (All-permutation (λ (m : Message). ⊥) [] (take most (unmarked ms)) (IsPermutation-sym (take most (unmarked ms)) [] is) (All-nil (λ (m : Message). ⊥))))
