-- What the table says behind a run.
use Rattle.std.proofs.Common.{◌≡◌, ◌≢◌, ℕ, zero, suc, ◌+◌, ◌-◌, ◌<◌, ◌≤◌, Bool, true, false, cond, List, [], ◌∷◌, ◌++◌, refl, sym, ap, subst, ◌∙◌, arith, eqb, max, ⊎_elim}
use Rattle.std.specs.Prelude.{◌==◌, ◌&&◌, nat_lt, filter, if◌then◌else◌}
use Rattle.std.specs.List.{AllByRecursion}
use Rattle.std.proofs.lemmas.Bool.{cases_eq, cases_lt, ltb-true, lt-ltb, eqb-true, eq-eqb, ne_eqb}
use Rattle.std.proofs.lemmas.List.{append-nil}
use Rattle.db_base.specs.Ids.{IsClient}
use Rattle.leaf_view.specs.declared.done.Done.{Done}
use Rattle.leaf_view.specs.Lookup.{number_of}
use Rattle.log_codec.specs.declared.record.PuItem.{PuItem}
use Rattle.leaf_edit.specs.Raised.{greatest_of, RaisesNumbers, raised_number, with_done, own_entries, raised}
use Rattle.leaf_edit.proofs.TableFits.{filter-all, own-all}

-- no entry is of this queue
abbrev AllOther : ℕ → List Done → Type 0
AllOther q ds = AllByRecursion (λ d. d.queue ≢ q) ds

other : (d : Done) (q c : ℕ) → d.queue ≢ q → ((d.queue == q) && (d.client == c)) ≡ false
other d q c h = ap (λ b. b && (d.client == c)) (ne_eqb d.queue q h)

-- entries of other queues say nothing
absent : (xs ys : List Done) (q c : ℕ) → AllOther q xs → number_of (xs ++ ys) q c ≡ number_of ys q c
absent [] ys q c h = refl
absent (d ∷ xs) ys q c h = ap (λ b. cond b d.number (number_of (xs ++ ys) q c)) (other d q c h.0) ∙ absent xs ys q c h.1

nothing : (ys : List Done) (q c : ℕ) → AllOther q ys → number_of ys q c ≡ 0
nothing ys q c h = ap (λ l. number_of l q c) (sym (append-nil ys)) ∙ absent ys [] q c h

-- a filter that keeps a queue's entries says the same of it
kept : (p : Done → Bool) (ds ys : List Done) (q c : ℕ) → ((d : Done) → d.queue ≡ q → p d ≡ true) → AllOther q ys
    → number_of (filter p ds ++ ys) q c ≡ number_of ds q c
kept p [] ys q c keeps h = nothing ys q c h
kept p (d ∷ ds) ys q c keeps h = on (p d) refl (kept p ds ys q c keeps h)
  where
    on : (b : Bool) → p d ≡ b → number_of (filter p ds ++ ys) q c ≡ number_of ds q c
        → number_of (cond b (d ∷ filter p ds) (filter p ds) ++ ys) q c ≡ cond ((d.queue == q) && (d.client == c)) d.number (number_of ds q c)
    on true e again = ap (λ n. cond ((d.queue == q) && (d.client == c)) d.number n) again
    on false e again = again ∙ sym (ap (λ b. cond b d.number (number_of ds q c)) (other d q c (λ same. let f : true ≡ false = sym (keeps d same) ∙ e in cc)))

here : (queue c n : ℕ) (rest : List Done) → number_of (record { queue = queue; client = c; number = n } ∷ rest) queue c ≡ n
here queue c n rest = ap (λ b. cond (b && (c == c)) n (number_of rest queue c)) (eq-eqb queue queue refl) ∙ ap (λ b. cond b n (number_of rest queue c)) (eq-eqb c c refl)

there : (queue c c' n : ℕ) (rest : List Done) → c ≢ c' → number_of (record { queue = queue; client = c; number = n } ∷ rest) queue c' ≡ number_of rest queue c'
there queue c c' n rest h = ap (λ b. cond (b && (c == c')) n (number_of rest queue c')) (eq-eqb queue queue refl) ∙ ap (λ b. cond b n (number_of rest queue c')) (ne_eqb c c' h)

-- a client before the last so many has no entry among theirs
own-out : (queue : ℕ) (number : ℕ → ℕ) (left : ℕ) (ys : List Done) (c : ℕ) → AllOther queue ys → c + left ≤ 64
    → number_of (own_entries queue number left ++ ys) queue c ≡ 0
unfolding own_entries
own-out queue number zero ys c h small = nothing ys queue c h
own-out queue number (suc left) ys c h small = on (number (64 - left)) (own-out queue number left ys c h (omega arith))
  where
    on : (n : ℕ) → number_of (own_entries queue number left ++ ys) queue c ≡ 0
        → number_of (with_done queue (64 - left) n (own_entries queue number left) ++ ys) queue c ≡ 0
    on zero again = again
    on (suc n) again = there queue (64 - left) c (suc n) (own_entries queue number left ++ ys) (λ e. absurd (omega (arith, e))) ∙ again

own-in : (queue : ℕ) (number : ℕ → ℕ) (left : ℕ) (ys : List Done) (c : ℕ) → AllOther queue ys → c ≤ 64 → 64 < c + left → left ≤ 64
    → number_of (own_entries queue number left ++ ys) queue c ≡ number c
unfolding own_entries
own-in queue number zero ys c h small large most = absurd (omega arith)
own-in queue number (suc left) ys c h small large most =
    ⊎_elim (λ e. at (number (64 - left)) e (ap number e))
    (λ ne. beyond (number (64 - left)) ne (own-in queue number left ys c h small (omega (arith, ne)) (omega arith)))
    (cases_eq (64 - left) c)
  where
    at : (n : ℕ) → 64 - left ≡ c → n ≡ number c → number_of (with_done queue (64 - left) n (own_entries queue number left) ++ ys) queue c ≡ number c
    at zero e is = own-out queue number left ys c h (omega arith) ∙ is
    at (suc n) e is = ap (λ d. number_of (record { queue = queue; client = d; number = suc n } ∷ (own_entries queue number left ++ ys)) queue c) e
        ∙ (here queue c (suc n) (own_entries queue number left ++ ys) ∙ is)

    beyond : (n : ℕ) → 64 - left ≢ c → number_of (own_entries queue number left ++ ys) queue c ≡ number c
        → number_of (with_done queue (64 - left) n (own_entries queue number left) ++ ys) queue c ≡ number c
    beyond zero ne again = again
    beyond (suc n) ne again = there queue (64 - left) c (suc n) (own_entries queue number left ++ ys) ne ∙ again

-- each client's number of the run's queue is raised, and those of other queues stay
pub number_of-raised : (ds : List Done) (queue : ℕ) (run : List PuItem) (q c : ℕ) → IsClient c
    → number_of (raised ds queue run) q c ≡ (if q == queue then raised_number ds queue run c else number_of ds q c)
number_of-raised ds queue run q c is =
    ⊎_elim (λ e. subst (λ q. number_of (raised ds queue run) q c ≡ (if q == queue then raised_number ds queue run c else number_of ds q c)) (sym e) same)
    (λ ne. others ne ∙ sym (ap (λ b. cond b (raised_number ds queue run c) (number_of ds q c)) (ne_eqb q queue ne)))
    (cases_eq q queue)
  where
    lower : List Done
    lower = filter (λ d. nat_lt d.queue queue) ds

    own : List Done
    own = own_entries queue (raised_number ds queue run) 64

    higher : List Done
    higher = filter (λ d. nat_lt queue d.queue) ds

    weaken : (P Q : Done → Type 0) (xs : List Done) → ((d : Done) → P d → Q d) → AllByRecursion P xs → AllByRecursion Q xs
    weaken P Q [] f h = tt
    weaken P Q (x ∷ xs) f h = (f x h.0, weaken P Q xs f h.1)

    lower-other : (q : ℕ) → queue ≤ q → AllOther q lower
    lower-other q h = weaken (λ d. nat_lt d.queue queue ≡ true) (λ d. d.queue ≢ q) lower (λ d lt e. absurd (omega (arith, ltb-true d.queue queue lt, e))) (filter-all (λ d. nat_lt d.queue queue) ds)

    higher-other : (q : ℕ) → q ≤ queue → AllOther q higher
    higher-other q h = weaken (λ d. nat_lt queue d.queue ≡ true) (λ d. d.queue ≢ q) higher (λ d lt e. absurd (omega (arith, ltb-true queue d.queue lt, e))) (filter-all (λ d. nat_lt queue d.queue) ds)

    own-other : (q : ℕ) → q ≢ queue → AllOther q own
    own-other q ne = own-all (λ d. d.queue ≢ q) queue (raised_number ds queue run) 64 (omega arith) (λ c n is e same. ne (sym same))

    append-other : (q : ℕ) (xs ys : List Done) → AllOther q xs → AllOther q ys → AllOther q (xs ++ ys)
    append-other q [] ys a b = b
    append-other q (x ∷ xs) ys a b = (a.0, append-other q xs ys a.1 b)

    same : number_of (raised ds queue run) queue c ≡ (if queue == queue then raised_number ds queue run c else number_of ds queue c)
    same = absent lower (own ++ higher) queue c (lower-other queue (omega arith))
        ∙ (own-in queue (raised_number ds queue run) 64 higher c (higher-other queue (omega arith)) is.most (omega (arith, is.some)) (omega arith)
        ∙ sym (ap (λ b. cond b (raised_number ds queue run c) (number_of ds queue c)) (eq-eqb queue queue refl)))

    below : q < queue → number_of (raised ds queue run) q c ≡ number_of ds q c
    below h = kept (λ d. nat_lt d.queue queue) ds (own ++ higher) q c (λ d e. lt-ltb d.queue queue (omega (arith, e)))
        (append-other q own higher (own-other q (λ e. absurd (omega (arith, e)))) (higher-other q (omega arith)))

    above : queue < q → number_of (raised ds queue run) q c ≡ number_of ds q c
    above h = absent lower (own ++ higher) q c (lower-other q (omega arith))
        ∙ (absent own higher q c (own-other q (λ e. absurd (omega (arith, e))))
        ∙ (ap (λ l. number_of l q c) (sym (append-nil higher)) ∙ kept (λ d. nat_lt queue d.queue) ds [] q c (λ d e. lt-ltb queue d.queue (omega (arith, e))) tt))

    others : q ≢ queue → number_of (raised ds queue run) q c ≡ number_of ds q c
    others ne = ⊎_elim below (λ le. above (omega (arith, ne))) (cases_lt q queue)

pub raises : (ds : List Done) (queue : ℕ) (run : List PuItem) → RaisesNumbers ds (raised ds queue run) queue run
raises ds queue run q c is = number_of-raised ds queue run q c is ∙ on (eqb q queue) refl
  where
    on : (b : Bool) → eqb q queue ≡ b → cond b (raised_number ds queue run c) (number_of ds q c) ≡ cond b (max (number_of ds q c) (greatest_of run c)) (number_of ds q c)
    on true e = ap (λ x. max (number_of ds x c) (greatest_of run c)) (sym (eqb-true q queue e))
    on false e = refl
