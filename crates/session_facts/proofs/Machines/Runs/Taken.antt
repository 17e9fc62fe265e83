-- The runs of received items.
use Rattle.std.proofs.Common.{◌≡◌, ◌<◌, ◌≤◌, ◌==◌, ◌⊎◌, inl, inr, ℕ, zero, suc, cond, max, eqb, eqb-true, List, [], ◌∷◌, Some, refl, ap, subst, arith}
use Rattle.std.proofs.lemmas.Bool.{and_parts, cases_lt, eq-eqb}
use Rattle.db_base.specs.Cursor.{number_of}
use Rattle.cloud_facts.specs.Words.{IsClient, PuItem, Store, IsIn}
use Rattle.leaf_edit.specs.Raised.{greatest_of}
use Rattle.cloud_facts.proofs.Numbers.Runs.{counted_there, greatest_upto}
use Rattle.run_cursor.specs.Run.{is_at, first_at, IsWithin, IsRun}
use Rattle.cloud_facts.specs.Book.Premises.{IsConsecutive}
use Rattle.cloud_facts.proofs.Calls.Searching.{found}
use Rattle.session_facts.proofs.Machines.Runs.Received.{all_in}

-- an item of a run was received
pub run_in : (cursor : List (ℕ × ℕ)) (received items : List PuItem) (top : List (ℕ × ℕ)) → IsRun cursor received items top → (x : PuItem) → IsIn items x → IsIn received x
run_in cursor received items top is_run x is =
    (found (is_at x.rec.client x.rec.number) received x (all_in (λ (y : PuItem). first_at received y.rec.client y.rec.number ≡ Some y) items is_run.first x is)).0

pub run_within : (cursor : List (ℕ × ℕ)) (received items : List PuItem) (top : List (ℕ × ℕ)) → IsRun cursor received items top → (x : PuItem) → IsIn items x
    → IsWithin cursor top x.rec.client x.rec.number
run_within cursor received items top is_run x is = all_in (λ (y : PuItem). IsWithin cursor top y.rec.client y.rec.number) items is_run.within x is

-- a number behind the cursor and up to the top has an item
pub run_has : (cursor : List (ℕ × ℕ)) (received items : List PuItem) (top : List (ℕ × ℕ)) → IsRun cursor received items top → (client number : ℕ) → number_of cursor client < number
    → number ≤ number_of top client → (x : PuItem) × IsIn items x × (x.rec.client ≡ client) × (x.rec.number ≡ number)
run_has cursor received items top is_run client number above upto =
    let one = is_run.once client number (record { above = above; upto = upto }) in
    let r = counted_there (is_at client number) items (omega (arith, one)) in
    let parts = and_parts (r.0.rec.client == client) (r.0.rec.number == number) r.2 in
    (r.0, r.1, eqb-true r.0.rec.client client parts.0, eqb-true r.0.rec.number number parts.1)

nothing_in : (xs : List PuItem) (x : PuItem) → xs ≡ [] → IsIn xs x → ⊥
nothing_in [] x e (place, there) = cc
nothing_in (y ∷ ys) x e is = cc

-- where the run is empty the top is the cursor
pub empty_top : (cursor : List (ℕ × ℕ)) (received : List PuItem) (top : List (ℕ × ℕ)) (items : List PuItem) → IsRun cursor received items top → items ≡ [] → (client : ℕ)
    → number_of top client ≤ number_of cursor client
empty_top cursor received top items is_run none client = on (cases_lt (number_of cursor client) (number_of top client))
  where
    on : (number_of cursor client < number_of top client) ⊎ (number_of top client ≤ number_of cursor client) → number_of top client ≤ number_of cursor client
    on (inr le) = le
    on (inl above) =
        let r = run_has cursor received items top is_run client (number_of top client) above (omega arith) in
        absurd (nothing_in items r.0 none r.1)

-- each number of a run is at most the greatest of its client
pub upto_greatest : (run : List PuItem) (x : PuItem) → IsIn run x → x.rec.number ≤ greatest_of run x.rec.client
upto_greatest [] x (place, there) = absurd (cc)
upto_greatest (y ∷ ys) x (zero, there) =
    let same : y ≡ x = cc in
    subst (λ (z : PuItem). z.rec.number ≤ max (cond (eqb y.rec.client z.rec.client) y.rec.number 0) (greatest_of ys z.rec.client)) same
    (let own : cond (eqb y.rec.client y.rec.client) y.rec.number 0 ≡ y.rec.number = ap (λ b. cond b y.rec.number 0) (eq-eqb y.rec.client y.rec.client refl) in omega (arith, own))
upto_greatest (y ∷ ys) x (suc place, there) = let again = upto_greatest ys x (place, there) in omega (arith, again)

-- the top of a client is at most the cursor, or its greatest number in the run
pub top_upto : (cursor : List (ℕ × ℕ)) (received items : List PuItem) (top : List (ℕ × ℕ)) → IsRun cursor received items top → (client : ℕ)
    → number_of top client ≤ max (number_of cursor client) (greatest_of items client)
top_upto cursor received items top is_run client = on (cases_lt (number_of cursor client) (number_of top client))
  where
    on : (number_of cursor client < number_of top client) ⊎ (number_of top client ≤ number_of cursor client)
        → number_of top client ≤ max (number_of cursor client) (greatest_of items client)
    on (inr le) = omega (arith, le)
    on (inl above) =
        let r = run_has cursor received items top is_run client (number_of top client) above (omega arith) in
        let upto : number_of top client ≤ greatest_of items client =
        subst (λ n. n ≤ greatest_of items client) r.3 (subst (λ c. r.0.rec.number ≤ greatest_of items c) r.2 (upto_greatest items r.0 r.1)) in
        omega (arith, upto)

-- a run of committed records is one of consecutive numbers behind what the cursor covers
pub consecutive : (st : Store) (tree page : ℕ) (cursor : List (ℕ × ℕ)) (received items : List PuItem) (top : List (ℕ × ℕ)) → IsRun cursor received items top
    → ((client : ℕ) → IsClient client → number_of cursor client ≤ st.tally.cursor tree page client) → (client : ℕ) → IsClient client
    → IsConsecutive st tree page items client (number_of cursor client)
consecutive st tree page cursor received items top is_run covered client is = record {
  covered = covered client is;
  each = λ n above most. is_run.once client n (record { above = above; upto = omega (arith, most, greatest) });
  above = λ x there own. subst (λ c. number_of cursor c < x.rec.number) own (run_within cursor received items top is_run x there).above;
}
  where
    greatest : greatest_of items client ≤ number_of top client
    greatest = greatest_upto client (number_of top client) items (λ x there own. subst (λ c. x.rec.number ≤ number_of top c) own (run_within cursor received items top is_run x there).upto)
