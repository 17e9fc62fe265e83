-- The messages of a queue that are not deleted.
use Rattle.std.proofs.Common.{◌≡◌, ◌≢◌, ◌+◌, ◌<◌, ◌≤◌, ◌||◌, ℕ, zero, suc, Bool, true, false, cond, List, [], ◌∷◌, Some, refl, sym, ap, subst, ◌∙◌, arith}
use Rattle.std.specs.Prelude.{slice_get}
use Rattle.std.specs.List.{AllByRecursion, list_any}
use Rattle.cloud_trait.specs.Delivery.{unmarked, unmarked_from}
use Rattle.cloud_trait.specs.declared.message.Message.{Message}
use Rattle.cloud_trait.specs.declared.state.Posted.{Posted}
use Rattle.cloud_facts.specs.Book.Messages.{IsDeleted}
use Rattle.recover_run.proofs.Marks.{IsGone}

-- ---- their ids

-- ids ascend strictly, from n on
abbrev pub IsAscending : ℕ → List Message → Type 0
IsAscending n [] = Unit {0}
IsAscending n (m ∷ ms) = (n ≤ m.id) × IsAscending (m.id + 1) ms

ascending_lower : (n k : ℕ) (ms : List Message) → n ≤ k → IsAscending k ms → IsAscending n ms
ascending_lower n k [] low up = tt
ascending_lower n k (m ∷ ms) low up = (omega (arith, low, up.0), up.1)

pub unmarked_ascend : (n : ℕ) (ms : List Posted) → IsAscending n (unmarked_from n ms)
unmarked_ascend n [] = tt
unmarked_ascend n (m ∷ ms) = on m.deleted (unmarked_ascend (n + 1) ms)
  where
    on : (b : Bool) → IsAscending (n + 1) (unmarked_from (n + 1) ms)
        → IsAscending n (cond b (unmarked_from (n + 1) ms) (record { id = n; bytes = m.bytes } ∷ unmarked_from (n + 1) ms))
    on true up = ascending_lower n (n + 1) (unmarked_from (n + 1) ms) (omega arith) up
    on false up = (omega arith, up)

pub ascending_others : (n k : ℕ) (ms : List Message) → IsAscending n ms → k < n → AllByRecursion (λ (m : Message). m.id ≢ k) ms
ascending_others n k [] up less = tt
ascending_others n k (m ∷ ms) up less = (λ e. omega (arith, less, up.0, e), ascending_others (m.id + 1) k ms up.1 (omega (arith, less, up.0)))

-- ---- a deleted message

gone_from : (n : ℕ) (ms : List Posted) (place : ℕ) (m : Posted) → slice_get ms place ≡ Some m → m.deleted ≡ true → AllByRecursion (λ (x : Message). x.id ≢ n + place) (unmarked_from n ms)
gone_from n [] place m there gone = tt
gone_from n (p ∷ ms) zero m there gone =
    let same : p ≡ m = cc in
    subst (λ b. AllByRecursion (λ (x : Message). x.id ≢ n + 0) (cond b (unmarked_from (n + 1) ms) (record { id = n; bytes = p.bytes } ∷ unmarked_from (n + 1) ms)))
    (sym (ap (λ (q : Posted). q.deleted) same ∙ gone))
    (ascending_others (n + 1) (n + 0) (unmarked_from (n + 1) ms) (unmarked_ascend (n + 1) ms) (omega arith))
gone_from n (p ∷ ms) (suc place) m there gone =
    let next : n + 1 + place ≡ n + suc place = omega arith in
    on p.deleted (subst (λ k. AllByRecursion (λ (x : Message). x.id ≢ k) (unmarked_from (n + 1) ms)) next (gone_from (n + 1) ms place m there gone))
  where
    on : (b : Bool) → AllByRecursion (λ (x : Message). x.id ≢ n + suc place) (unmarked_from (n + 1) ms)
        → AllByRecursion (λ (x : Message). x.id ≢ n + suc place) (cond b (unmarked_from (n + 1) ms) (record { id = n; bytes = p.bytes } ∷ unmarked_from (n + 1) ms))
    on true rest = rest
    on false rest = (λ e. omega (arith, e), rest)

pub deleted_gone : (ms : List Posted) (id : ℕ) → IsDeleted ms id → IsGone ms id
deleted_gone ms id d =
    let at : 1 + d.place ≡ id = omega (arith, d.id_is) in
    subst (λ k. AllByRecursion (λ (x : Message). x.id ≢ k) (unmarked ms)) at (gone_from 1 ms d.place d.message d.there d.marked)

-- ---- one that is not

pub unmarked_any : (p : Message → Bool) (n : ℕ) (ms : List Posted) (place : ℕ) (m : Posted) → slice_get ms place ≡ Some m → m.deleted ≡ false
    → ((id : ℕ) → p (record { id = id; bytes = m.bytes }) ≡ true) → list_any p (unmarked_from n ms) ≡ true
unmarked_any p n [] place m there left passes = absurd (cc)
unmarked_any p n (q ∷ ms) zero m there left passes =
    let same : q ≡ m = cc in
    ap (λ b. list_any p (cond b (unmarked_from (n + 1) ms) (record { id = n; bytes = q.bytes } ∷ unmarked_from (n + 1) ms))) (ap (λ (x : Posted). x.deleted) same ∙ left)
    ∙ ap (λ b. b || list_any p (unmarked_from (n + 1) ms)) (subst (λ (x : Posted). p (record { id = n; bytes = x.bytes }) ≡ true) (sym same) (passes n))
unmarked_any p n (q ∷ ms) (suc place) m there left passes = on q.deleted (unmarked_any p (n + 1) ms place m there left passes)
  where
    or_there : (b c : Bool) → c ≡ true → (b || c) ≡ true
    or_there true c e = refl
    or_there false c e = e

    on : (b : Bool) → list_any p (unmarked_from (n + 1) ms) ≡ true
        → list_any p (cond b (unmarked_from (n + 1) ms) (record { id = n; bytes = q.bytes } ∷ unmarked_from (n + 1) ms)) ≡ true
    on true rest = rest
    on false rest = or_there _ _ rest
