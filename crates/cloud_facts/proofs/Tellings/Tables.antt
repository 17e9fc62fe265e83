-- The table of a leaf with a run applied, for every client: there is nothing of those who are none.
use Rattle.std.proofs.Common.{◌≡◌, ◌<◌, ◌≤◌, ℕ, zero, suc, Bool, true, false, cond, max, List, [], ◌∷◌, ◌++◌, refl, sym, ap, subst, ◌∙◌, ◌⊎◌, inl, inr, arith}
use Rattle.std.specs.Prelude.{◌==◌, ◌&&◌, nat_lt, filter}
use Rattle.std.specs.List.{AllByRecursion}
use Rattle.std.proofs.lemmas.Bool.{cases_lt, ne_eqb}
use Rattle.db_base.specs.Ids.{IsClient}
use Rattle.leaf_edit.specs.Raised.{number_in, greatest_of, raised, raised_number, own_entries}
use Rattle.leaf_edit.proofs.TableFits.{own-all}
use Rattle.leaf_edit.proofs.TableNumbers.{raises}
use Rattle.leaf_view.specs.Lookup.{number_of}
use Rattle.leaf_view.specs.declared.done.Done.{Done}
use Rattle.log_codec.specs.declared.record.PuItem.{PuItem}
use Rattle.cloud_facts.specs.Tellings.Taking.{AreClients}

abbrev pub AreOfClients : List Done → Type 0
AreOfClients ds = AllByRecursion (λ (d : Done). IsClient d.client) ds

client_cases : (c : ℕ) → IsClient c ⊎ (IsClient c → ⊥)
client_cases zero = inr (λ is. omega (arith, is.some))
client_cases (suc c) = on (cases_lt c 64)
  where
    on : (c < 64) ⊎ (64 ≤ c) → IsClient (suc c) ⊎ (IsClient (suc c) → ⊥)
    on (inl less) = inl (record { some = omega arith; most = omega arith })
    on (inr more) = inr (λ is. omega (arith, more, is.most))

-- nothing is done of a client who is none
nothing_done : (ds : List Done) (q c : ℕ) → (IsClient c → ⊥) → AreOfClients ds → number_of ds q c ≡ 0
nothing_done [] q c none all = refl
nothing_done (d ∷ ds) q c none all = on (d.queue == q) (nothing_done ds q c none all.1)
  where
    other : (d.client == c) ≡ false
    other = ne_eqb d.client c (λ e. none (subst IsClient e all.0))

    on : (b : Bool) → number_of ds q c ≡ 0 → cond (b && (d.client == c)) d.number (number_of ds q c) ≡ 0
    on true again = ap (λ e. cond e d.number (number_of ds q c)) other ∙ again
    on false again = again

nothing_taken : (run : List PuItem) (c : ℕ) → (IsClient c → ⊥) → AreClients run → greatest_of run c ≡ 0
nothing_taken [] c none all = refl
nothing_taken (x ∷ xs) c none all =
    let other : (x.rec.client == c) ≡ false = ne_eqb x.rec.client c (λ e. none (subst IsClient e all.0)) in
    let first : number_in x c ≡ 0 = rw other refl in
    let rest = nothing_taken xs c none all.1 in
    omega (arith, first, rest)

both : (xs ys : List Done) → AreOfClients xs → AreOfClients ys → AreOfClients (xs ++ ys)
both [] ys a b = b
both (x ∷ xs) ys a b = (a.0, both xs ys a.1 b)

some_of : (p : Done → Bool) (ds : List Done) → AreOfClients ds → AreOfClients (filter p ds)
some_of p [] all = tt
some_of p (d ∷ ds) all = on (p d) (some_of p ds all.1)
  where
    on : (b : Bool) → AreOfClients (filter p ds) → AreOfClients (cond b (d ∷ filter p ds) (filter p ds))
    on true again = (all.0, again)
    on false again = again

raised_clients : (ds : List Done) (queue : ℕ) (run : List PuItem) → AreOfClients ds → AreOfClients (raised ds queue run)
raised_clients ds queue run all =
    both (filter (λ d. nat_lt d.queue queue) ds) (own_entries queue (raised_number ds queue run) 64 ++ filter (λ d. nat_lt queue d.queue) ds)
    (some_of (λ d. nat_lt d.queue queue) ds all)
    (both (own_entries queue (raised_number ds queue run) 64) (filter (λ d. nat_lt queue d.queue) ds)
    (own-all (λ (d : Done). IsClient d.client) queue (raised_number ds queue run) 64 (omega arith) (λ c n is e. is))
    (some_of (λ d. nat_lt queue d.queue) ds all))

-- of the run's queue each number is raised, and the others stay
pub raises_all : (ds : List Done) (queue : ℕ) (run : List PuItem) → AreOfClients ds → AreClients run → (q c : ℕ)
    → number_of (raised ds queue run) q c ≡ cond (q == queue) (max (number_of ds q c) (greatest_of run c)) (number_of ds q c)
raises_all ds queue run all clients q c = on (client_cases c)
  where
    on : IsClient c ⊎ (IsClient c → ⊥) → number_of (raised ds queue run) q c ≡ cond (q == queue) (max (number_of ds q c) (greatest_of run c)) (number_of ds q c)
    on (inl is) = raises ds queue run q c is
    on (inr none) = none_of (q == queue)
      where
        none_of : (b : Bool) → number_of (raised ds queue run) q c ≡ cond b (max (number_of ds q c) (greatest_of run c)) (number_of ds q c)
        none_of true =
            let new = nothing_done (raised ds queue run) q c none (raised_clients ds queue run all) in
            let old = nothing_done ds q c none all in
            let most = nothing_taken run c none clients in
            omega (arith, new, old, most)
        none_of false = nothing_done (raised ds queue run) q c none (raised_clients ds queue run all) ∙ sym (nothing_done ds q c none all)
