-- Laws of the records of a commit.
use Rattle.std.proofs.Common.{◌≡◌, ℕ, ◌+◌, ◌-◌, ◌^◌, ◌<◌, ◌≤◌, true, cond, refl, List, [], ◌∷◌, ◌++◌, length, drop, Some, None, ap, sym, ◌∙◌, subst, arith, append_assoc, length-append, slice_index_or}
use Rattle.std.specs.Prelude.{◌==◌, ◌&&◌, count_by, slice_get}
use Rattle.std.proofs.lemmas.Bool.Decides.{nat_tests}
use Rattle.std.proofs.lemmas.List.Sums.{sum_by_push}
use Rattle.std.proofs.lemmas.List.{append-nil}
use Rattle.std.proofs.lemmas.List.Elements.{All-push}
use Rattle.std.proofs.lemmas.Option.{slice_get_within}
use Rattle.std.proofs.Math.ListN.{drop_of_length-le}
use Rattle.head_codec.specs.declared.head.Head.{Head}
use Rattle.log_codec.specs.declared.record.AtomicRec.{AtomicRec}
use Rattle.txn_buffer.specs.Noted.{Noted}
use Rattle.route_plan.specs.Queue.{queue_of}
use Rattle.route_plan.specs.Route.{goes_to, next_number, record_behind, routed, routed_behind, AllFit, PassesGreatest, transaction}
use Rattle.route_plan.proofs.Places.{drop-at, drop-here, past_none, Any-middle}

-- the records so far, with those of the changes that are left behind them, are those of the commit
pub record IsRoutedSoFar (client epoch txn count : ℕ) (head : Head) (changes : List Noted) (leaves : List ℕ) (records : List AtomicRec) : Type 0 where
  pub whole : records ++ routed_behind (transaction client epoch txn count) head records (drop (length records) changes) (drop (length records) leaves)
      ≡ routed_behind (transaction client epoch txn count) head [] changes leaves
  pub short : length records ≤ length changes
  pub fits : AllFit records

-- what is left at a place: the record of its change, and those behind it
routed-here : (client epoch txn count : ℕ) (head : Head) (changes : List Noted) (leaves : List ℕ) (records : List AtomicRec) (noted : Noted) (leaf : ℕ)
    → length leaves ≡ length changes → slice_get changes (length records) ≡ Some noted → slice_index_or leaves (length records) leaf ≡ leaf
    → routed_behind (transaction client epoch txn count) head records (drop (length records) changes) (drop (length records) leaves)
    ≡ record_behind (transaction client epoch txn count) head records noted leaf
    ∷ routed_behind (transaction client epoch txn count) head (records ++ record_behind (transaction client epoch txn count) head records noted leaf ∷ []) (drop (length records + 1) changes) (drop (length records + 1) leaves)
routed-here client epoch txn count head changes leaves records noted leaf same here at =
    let below : length records < length leaves = omega (arith, slice_get_within changes (length records) noted here) in
    ap (λ l. routed_behind (transaction client epoch txn count) head records (drop (length records) changes) l) (drop-at leaves (length records) leaf below at)
    ∙ ap (λ l. routed_behind (transaction client epoch txn count) head records l (leaf ∷ drop (length records + 1) leaves)) (drop-here changes (length records) noted here)

pub routed-goes : (client epoch txn count : ℕ) (head : Head) (changes : List Noted) (leaves : List ℕ) (records : List AtomicRec) (noted : Noted) (leaf : ℕ) (r : AtomicRec)
    → length leaves ≡ length changes → IsRoutedSoFar client epoch txn count head changes leaves records
    → slice_get changes (length records) ≡ Some noted → slice_index_or leaves (length records) leaf ≡ leaf
    → r ≡ record_behind (transaction client epoch txn count) head records noted leaf → r.number < 2 ^ 64
    → IsRoutedSoFar client epoch txn count head changes leaves (records ++ r ∷ [])
routed-goes client epoch txn count head changes leaves records noted leaf r same h here at is fits =
    record { whole = whole; short = omega (arith, longer, slice_get_within changes (length records) noted here); fits = All-push (λ r. r.number < 2 ^ 64) records r h.fits fits }
  where
    longer : length (records ++ r ∷ []) ≡ length records + 1
    longer = length-append records (r ∷ [])

    further : ℕ → List AtomicRec → List AtomicRec
    further k before = routed_behind (transaction client epoch txn count) head before (drop k changes) (drop k leaves)

    whole : (records ++ r ∷ []) ++ routed_behind (transaction client epoch txn count) head (records ++ r ∷ []) (drop (length (records ++ r ∷ [])) changes) (drop (length (records ++ r ∷ [])) leaves)
        ≡ routed_behind (transaction client epoch txn count) head [] changes leaves
    whole =
        ap (λ k. (records ++ r ∷ []) ++ routed_behind (transaction client epoch txn count) head (records ++ r ∷ []) (drop k changes) (drop k leaves)) longer
        ∙ (append_assoc records (r ∷ []) (routed_behind (transaction client epoch txn count) head (records ++ r ∷ []) (drop (length records + 1) changes) (drop (length records + 1) leaves))
        ∙ (ap (λ q. records ++ q ∷ routed_behind (transaction client epoch txn count) head (records ++ q ∷ []) (drop (length records + 1) changes) (drop (length records + 1) leaves)) is
        ∙ (ap (λ l. records ++ l) (sym (routed-here client epoch txn count head changes leaves records noted leaf same here at))
        ∙ h.whole)))

pub routed-end : (client epoch txn count : ℕ) (head : Head) (changes : List Noted) (leaves : List ℕ) (records : List AtomicRec)
    → IsRoutedSoFar client epoch txn count head changes leaves records → slice_get changes (length records) ≡ None
    → records ≡ routed_behind (transaction client epoch txn count) head [] changes leaves
routed-end client epoch txn count head changes leaves records h none =
    sym (append-nil records)
    ∙ (ap (λ l. records ++ routed_behind (transaction client epoch txn count) head records l (drop (length records) leaves)) (sym (drop_of_length-le changes (past_none changes (length records) none)))
    ∙ h.whole)

-- a number that would pass the greatest u64 is among those of the commit
pub routed-passes : (client epoch txn count : ℕ) (head : Head) (changes : List Noted) (leaves : List ℕ) (records : List AtomicRec) (noted : Noted) (leaf : ℕ)
    → length leaves ≡ length changes → IsRoutedSoFar client epoch txn count head changes leaves records
    → slice_get changes (length records) ≡ Some noted → slice_index_or leaves (length records) leaf ≡ leaf
    → 2 ^ 64 ≤ (record_behind (transaction client epoch txn count) head records noted leaf).number
    → PassesGreatest (routed_behind (transaction client epoch txn count) head [] changes leaves)
routed-passes client epoch txn count head changes leaves records noted leaf same h here at passes =
    subst (λ l. PassesGreatest l) (ap (λ l. records ++ l) (sym (routed-here client epoch txn count head changes leaves records noted leaf same here at)) ∙ h.whole)
    (Any-middle (λ r. 2 ^ 64 ≤ r.number) records _ _ passes)

-- the same three, as the loop over the changes meets them: at the number n of the records so far, which it passes as `earlier`
pub goes : (client epoch txn count : ℕ) (head : Head) (changes : List Noted) (leaves : List ℕ) (records earlier new : List AtomicRec) (n m : ℕ) (noted : Noted) (leaf : ℕ) (r : AtomicRec)
    → length leaves ≡ length changes → IsRoutedSoFar client epoch txn count head changes leaves records
    → n ≡ length records → m ≡ length records → earlier ≡ records → slice_get changes n ≡ Some noted → leaf ≡ slice_index_or leaves m leaf
    → r ≡ record_behind (transaction client epoch txn count) head earlier noted leaf → r.number < 2 ^ 64 → new ≡ records ++ r ∷ []
    → IsRoutedSoFar client epoch txn count head changes leaves new
goes client epoch txn count head changes leaves records earlier new n m noted leaf r same h en em ee here at is fits enew =
    subst (λ l. IsRoutedSoFar client epoch txn count head changes leaves l) (sym enew)
    (routed-goes client epoch txn count head changes leaves records noted leaf r same h (subst (λ k. slice_get changes k ≡ Some noted) en here)
    (sym (subst (λ k. leaf ≡ slice_index_or leaves k leaf) em at)) (subst (λ l. r ≡ record_behind (transaction client epoch txn count) head l noted leaf) ee is) fits)

pub ends : (client epoch txn count : ℕ) (head : Head) (changes : List Noted) (leaves : List ℕ) (records : List AtomicRec) (n : ℕ)
    → IsRoutedSoFar client epoch txn count head changes leaves records → n ≡ length records → slice_get changes n ≡ None → count ≡ length changes
    → records ≡ routed client epoch txn head changes leaves
ends client epoch txn count head changes leaves records n h en none ec =
    routed-end client epoch txn count head changes leaves records h (subst (λ k. slice_get changes k ≡ None) en none)
    ∙ ap (λ k. routed_behind (transaction client epoch txn k) head [] changes leaves) ec

pub passes : (client epoch txn count : ℕ) (head : Head) (changes : List Noted) (leaves : List ℕ) (records earlier : List AtomicRec) (n m : ℕ) (noted : Noted) (leaf : ℕ)
    → length leaves ≡ length changes → IsRoutedSoFar client epoch txn count head changes leaves records → count ≡ length changes
    → n ≡ length records → m ≡ length records → earlier ≡ records → slice_get changes n ≡ Some noted → leaf ≡ slice_index_or leaves m leaf
    → 2 ^ 64 ≤ next_number head earlier noted.tree (queue_of head.pending noted.tree noted.change leaf)
    → PassesGreatest (routed client epoch txn head changes leaves)
passes client epoch txn count head changes leaves records earlier n m noted leaf same h ec en em ee here at over =
    subst (λ k. PassesGreatest (routed_behind (transaction client epoch txn k) head [] changes leaves)) ec
    (routed-passes client epoch txn count head changes leaves records noted leaf same h (subst (λ k. slice_get changes k ≡ Some noted) en here)
    (sym (subst (λ k. leaf ≡ slice_index_or leaves k leaf) em at))
    (subst (λ l. 2 ^ 64 ≤ next_number head l noted.tree (queue_of head.pending noted.tree noted.change leaf)) ee over))

-- behind a new record the next one of its queue has the number behind its own
newest-at : (head : Head) (earlier records new : List AtomicRec) (client epoch txn count : ℕ) (noted : Noted) (leaf : ℕ) (r : AtomicRec)
    → r ≡ record_behind (transaction client epoch txn count) head earlier noted leaf → earlier ≡ records → new ≡ records ++ r ∷ []
    → next_number head new r.tree r.page ≡ r.number + 1
newest-at head earlier records new client epoch txn count noted leaf r is ee enew =
    ap (λ l. next_number head l r.tree r.page) enew ∙ omega (arith, own, more)
  where
    own : r.number ≡ next_number head records r.tree r.page
    own = subst (λ l. r.number ≡ next_number head l r.tree r.page) ee
        (subst (λ (q : AtomicRec). q.number ≡ next_number head earlier q.tree q.page) (sym is) refl)

    here : (tree page : ℕ) → ((tree == tree) && (page == page)) ≡ true
    here tree page = grind (arith, nat_tests)

    more : count_by (goes_to r.tree r.page) (records ++ r ∷ []) ≡ count_by (goes_to r.tree r.page) records + 1
    more = sum_by_push (λ q. cond (goes_to r.tree r.page q) 1 0) records r
        ∙ ap (λ b. count_by (goes_to r.tree r.page) records + cond b 1 0) (here r.tree r.page)

pub newest-number : (head : Head) (earlier records new : List AtomicRec) (client epoch txn count : ℕ) (noted : Noted) (leaf : ℕ) (r : AtomicRec) (tree page number : ℕ)
    → r ≡ record_behind (transaction client epoch txn count) head earlier noted leaf → earlier ≡ records → new ≡ records ++ r ∷ []
    → tree ≡ r.tree → page ≡ r.page → number ≡ r.number → next_number head new tree page ≡ number + 1
newest-number head earlier records new client epoch txn count noted leaf r tree page number is ee enew et ep en =
    ap (λ t. next_number head new t page) et ∙ (ap (λ p. next_number head new r.tree p) ep
    ∙ (newest-at head earlier records new client epoch txn count noted leaf r is ee enew ∙ ap (λ n. n + 1) (sym en)))

-- fewer are left
pub fewer : (changes : List Noted) (records new : List AtomicRec) (n : ℕ) (noted : Noted) (r : AtomicRec) → n ≡ length records
    → slice_get changes n ≡ Some noted → new ≡ records ++ r ∷ [] → length changes - length new < length changes - length records
fewer changes records new n noted r en here enew =
    let below : n < length changes = slice_get_within changes n noted here in
    let longer : length new ≡ length records + 1 = ap length enew ∙ length-append records (r ∷ []) in
    omega (arith, below, longer, en)
