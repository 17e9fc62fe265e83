-- How many distinct ids there are: no list without repetition of some of them is longer.
use Rattle.std.proofs.Common.{◌≡◌, ◌≢◌, ◌+◌, ◌*◌, ◌≤◌, ◌==◌, ◌⊎◌, inl, inr, ℕ, Bool, true, false, cond, List, [], ◌∷◌, ◌++◌, length, refl, sym, subst, arith, mul-le-mul_right}
use Rattle.std.proofs.lemmas.Bool.{eq-eqb}
use Rattle.cloud_facts.proofs.Book.Places.{in_behind}
use Rattle.cloud_facts.proofs.Chains.Pieces.{none_in, in_first, in_front, in_cases}
use Rattle.cloud_facts.proofs.Copies.Tops.{any_of}
use Rattle.cloud_facts.proofs.Book.Lengths.{apart_fits}
use Rattle.cloud_facts.specs.Book.Records.{IsIn, Apart}
use Rattle.run_cursor.specs.Covered.{is_seen, new_ones}
use Rattle.session_facts.proofs.Machines.Runs.Received.{new_in}
use Rattle.session_facts.proofs.Settling.Drains.{new_all}
use Rattle.session_facts.specs.Machines.TreeCheckpoints.Few.{distinct}

-- what was seen is not new
new_unseen : (seen ns : List ℕ) (n : ℕ) → IsIn (new_ones seen ns) n → IsIn seen n → ⊥
new_unseen seen [] n is old = none_in n is
new_unseen seen (x ∷ ns) n is old =
    on (is_seen seen x) (λ same. any_of (λ m. m == x) seen old.0 n old.1 (eq-eqb n x (sym same))) (λ there. new_unseen seen ns n there old)
    (λ there. new_unseen (seen ++ x ∷ []) ns n there (in_front seen (x ∷ []) n old)) is
  where
    new : (x ≡ n → false ≡ true) → (IsIn (new_ones (seen ++ x ∷ []) ns) n → ⊥) → (x ≡ n) ⊎ IsIn (new_ones (seen ++ x ∷ []) ns) n → ⊥
    new found further (inl same) = let e : false ≡ true = found same in absurd (cc (e))
    new found further (inr there) = further there

    on : (b : Bool) → (x ≡ n → b ≡ true) → (IsIn (new_ones seen ns) n → ⊥) → (IsIn (new_ones (seen ++ x ∷ []) ns) n → ⊥)
        → IsIn (cond b (new_ones seen ns) (x ∷ new_ones (seen ++ x ∷ []) ns)) n → ⊥
    on true found again further there = again there
    on false found again further there = new found further (in_cases x (new_ones (seen ++ x ∷ []) ns) n there)

pub new_apart : (seen ns : List ℕ) → Apart (new_ones seen ns)
new_apart seen [] = tt
new_apart seen (x ∷ ns) = on (is_seen seen x) (new_apart seen ns) (new_apart (seen ++ x ∷ []) ns)
  where
    here : IsIn (seen ++ x ∷ []) x
    here = in_behind seen (x ∷ []) x (in_first x [])

    other : (y : ℕ) → IsIn (new_ones (seen ++ x ∷ []) ns) y → y ≢ x
    other y is same = new_unseen (seen ++ x ∷ []) ns y is (subst (IsIn (seen ++ x ∷ [])) (sym same) here)

    on : (b : Bool) → Apart (new_ones seen ns) → Apart (new_ones (seen ++ x ∷ []) ns) → Apart (cond b (new_ones seen ns) (x ∷ new_ones (seen ++ x ∷ []) ns))
    on true one further = one
    on false one further = (other, further)

-- each id is among the distinct ones
in_distinct : (ids : List ℕ) (n : ℕ) → IsIn ids n → IsIn (distinct ids) n
in_distinct ids n is = on (new_all [] ids n is)
  where
    on : IsIn {A = ℕ} [] n ⊎ IsIn (new_ones [] ids) n → IsIn (distinct ids) n
    on (inl none) = absurd (none_in n none)
    on (inr there) = there

-- a list without repetition of some of these ids
pub apart_distinct : (xs ids : List ℕ) → Apart xs → ((n : ℕ) → IsIn xs n → IsIn ids n) → length xs ≤ length (distinct ids)
apart_distinct xs ids apart within = apart_fits xs (distinct ids) apart (λ n is. in_distinct ids n (within n is))

-- there are no more than ids
pub distinct_few : (ids : List ℕ) → length (distinct ids) ≤ length ids
distinct_few ids = apart_fits (distinct ids) ids (new_apart [] ids) (λ n is. new_in [] ids n is)

-- there are some where there is an id
pub distinct_none : (ids : List ℕ) → length (distinct ids) ≡ 0 → length ids ≡ 0
distinct_none [] e = refl
distinct_none (n ∷ ids) e = absurd (omega (arith, e))

-- calls that are few for the distinct ids are few for as many as there are
pub few_of : (calls pages : ℕ) (ids : List ℕ) → calls ≤ 16 + length (distinct ids) * (8 * pages + 16) → calls ≤ 16 + length ids * (8 * pages + 16)
few_of calls pages ids few =
    let more : length (distinct ids) * (8 * pages + 16) ≤ length ids * (8 * pages + 16) = mul-le-mul_right (8 * pages + 16) (distinct_few ids) in
    omega (arith, few, more)
