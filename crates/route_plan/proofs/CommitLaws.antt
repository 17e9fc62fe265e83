-- Laws of the records of a commit and of its two heads.
use Rattle.std.proofs.Common.{◌≡◌, ℕ, ◌+◌, ◌≤◌, Bool, true, false, cond, List, [], ◌∷◌, ◌++◌, length, take, Some, refl, ap, sym, ◌∙◌, arith, append_assoc, length-append, zero, suc, count_by, add-zero}
use Rattle.std.specs.Prelude.{slice_get, map}
use Rattle.std.specs.List.{AllByRecursion}
use Rattle.std.proofs.lemmas.List.{append-nil}
use Rattle.std.proofs.lemmas.List.Sums.{sum_by_push}
use Rattle.std.proofs.lemmas.Bool.Decides.{nat_tests}
use Rattle.head_codec.proofs.Keeping.{HasSpelling-append}
use Rattle.head_codec.specs.Spelling.{HasSpelling}
use Rattle.head_codec.specs.declared.head.Head.{Head}
use Rattle.head_codec.specs.declared.lists.Pending.{Pending}
use Rattle.log_codec.specs.Atomic.{HasPlace}
use Rattle.log_codec.specs.declared.record.AtomicRec.{AtomicRec}
use Rattle.txn_buffer.specs.Noted.{Noted}
use Rattle.route_plan.specs.Heads.{opened_head, raised_by, settled_head}
use Rattle.route_plan.specs.Queue.{number_of_queue}
use Rattle.route_plan.specs.Record.{pending_of}
use Rattle.route_plan.specs.Route.{goes_to, last_number, next_number, record_behind, routed, routed_behind, transaction}
use Rattle.route_plan.proofs.CounterLaws.{raised_by-ascends, number_of_queue-raised_by}

-- the head that commits has a spelling
pub HasSpelling-opened_head : (head : Head) (txn : ℕ) (records : List AtomicRec) → HasSpelling head → 1 ≤ length records → length records ≤ 200
    → AllByRecursion (λ (r : AtomicRec). 1 ≤ r.number) records → HasSpelling (opened_head head txn records)
HasSpelling-opened_head head txn records is some few all = record {
  epoch = is.epoch;
  phase = (some, few);
  counters = raised_by-ascends head.counters records is.counters all;
  pending = is.pending;
}

pending-count : (records : List AtomicRec) → AllByRecursion (λ (r : AtomicRec). 1 ≤ r.number) records → AllByRecursion (λ (p : Pending). 1 ≤ p.number) (map pending_of records)
pending-count [] all = tt
pending-count (r ∷ records) all = (all.0, pending-count records all.1)

-- the head behind the commit has a spelling
pub HasSpelling-settled_head : (head : Head) (records : List AtomicRec) → HasSpelling head
    → AllByRecursion (λ (r : AtomicRec). 1 ≤ r.number) records → HasSpelling (settled_head head records)
HasSpelling-settled_head head records is all =
    let more = HasSpelling-append head (map pending_of records) is (pending-count records all) in
    record { epoch = more.epoch; phase = tt; counters = more.counters; pending = more.pending }

-- there is a record for each change
pub length-routed_behind : (client epoch txn count : ℕ) (head : Head) (earlier : List AtomicRec) (changes : List Noted) (leaves : List ℕ)
    → length leaves ≡ length changes → length (routed_behind (transaction client epoch txn count) head earlier changes leaves) ≡ length changes
length-routed_behind client epoch txn count head earlier [] leaves same = refl
length-routed_behind client epoch txn count head earlier (noted ∷ changes) [] same = absurd (omega arith)
length-routed_behind client epoch txn count head earlier (noted ∷ changes) (leaf ∷ leaves) same =
    ap suc (length-routed_behind client epoch txn count head (earlier ++ record_behind (transaction client epoch txn count) head earlier noted leaf ∷ []) changes leaves (omega arith))

pub length-routed : (client epoch txn : ℕ) (head : Head) (changes : List Noted) (leaves : List ℕ)
    → length leaves ≡ length changes → length (routed client epoch txn head changes leaves) ≡ length changes
length-routed client epoch txn head changes leaves same = length-routed_behind client epoch txn (length changes) head [] changes leaves same

-- the record at each place
pub routed_behind-at : (client epoch txn count : ℕ) (head : Head) (earlier : List AtomicRec) (changes : List Noted) (leaves : List ℕ) (i : ℕ) (noted : Noted) (leaf : ℕ)
    → slice_get changes i ≡ Some noted → slice_get leaves i ≡ Some leaf
    → slice_get (routed_behind (transaction client epoch txn count) head earlier changes leaves) i
    ≡ Some (record_behind (transaction client epoch txn count) head (earlier ++ take i (routed_behind (transaction client epoch txn count) head earlier changes leaves)) noted leaf)
routed_behind-at client epoch txn count head earlier [] leaves i noted leaf here at = absurd (cc)
routed_behind-at client epoch txn count head earlier (first ∷ changes) [] i noted leaf here at = absurd (cc)
routed_behind-at client epoch txn count head earlier (first ∷ changes) (to ∷ leaves) zero noted leaf here at =
    let same : first ≡ noted = cc in
    let there : to ≡ leaf = cc in
    ap (λ e. Some (record_behind (transaction client epoch txn count) head e first to)) (sym (append-nil earlier))
    ∙ (ap (λ n. Some (record_behind (transaction client epoch txn count) head (earlier ++ []) n to)) same
    ∙ ap (λ l. Some (record_behind (transaction client epoch txn count) head (earlier ++ []) noted l)) there)
routed_behind-at client epoch txn count head earlier (first ∷ changes) (to ∷ leaves) (suc i) noted leaf here at =
    routed_behind-at client epoch txn count head (earlier ++ record_behind (transaction client epoch txn count) head earlier first to ∷ []) changes leaves i noted leaf here at
    ∙ ap (λ e. Some (record_behind (transaction client epoch txn count) head e noted leaf)) (append_assoc earlier (record_behind (transaction client epoch txn count) head earlier first to ∷ []) (take i (routed_behind (transaction client epoch txn count) head (earlier ++ record_behind (transaction client epoch txn count) head earlier first to ∷ []) changes leaves)))

-- every record has its place in the transaction, and its numbers count from 1
pub HasPlace-routed_behind : (client epoch txn count : ℕ) (head : Head) (earlier : List AtomicRec) (changes : List Noted) (leaves : List ℕ)
    → 1 ≤ epoch → 1 ≤ txn → count ≡ length earlier + length changes → count ≤ 200
    → AllByRecursion HasPlace (routed_behind (transaction client epoch txn count) head earlier changes leaves)
HasPlace-routed_behind client epoch txn count head earlier [] leaves e t all few = tt
HasPlace-routed_behind client epoch txn count head earlier (noted ∷ changes) [] e t all few = tt
HasPlace-routed_behind client epoch txn count head earlier (noted ∷ changes) (leaf ∷ leaves) e t all few = (
  record { epoch = e; txn = t; position = record { some = omega arith; within = omega arith; few = few }; number = omega arith },
  HasPlace-routed_behind client epoch txn count head (earlier ++ record_behind (transaction client epoch txn count) head earlier noted leaf ∷ []) changes leaves e t
      (omega (arith, length-append earlier (record_behind (transaction client epoch txn count) head earlier noted leaf ∷ []))) few,
)

pub HasPlace-routed : (client epoch txn : ℕ) (head : Head) (changes : List Noted) (leaves : List ℕ)
    → 1 ≤ epoch → 1 ≤ txn → length changes ≤ 200 → AllByRecursion HasPlace (routed client epoch txn head changes leaves)
HasPlace-routed client epoch txn head changes leaves e t few = HasPlace-routed_behind client epoch txn (length changes) head [] changes leaves e t (omega arith) few

-- numbers of records that have a place count from 1
pub AllCount-from_place : (records : List AtomicRec) → AllByRecursion HasPlace records → AllByRecursion (λ (r : AtomicRec). 1 ≤ r.number) records
AllCount-from_place [] all = tt
AllCount-from_place (r ∷ records) all = (all.0.number, AllCount-from_place records all.1)

-- a record that goes to a queue is of its tree and page
goes_to-tree : (tree page : ℕ) (r : AtomicRec) → goes_to tree page r ≡ true → r.tree ≡ tree
goes_to-tree tree page r e = grind (arith, nat_tests)

goes_to-page : (tree page : ℕ) (r : AtomicRec) → goes_to tree page r ≡ true → r.page ≡ page
goes_to-page tree page r e = grind (arith, nat_tests)

-- the next record of a queue is one behind the last
next-number : (head : Head) (earlier : List AtomicRec) (r : AtomicRec) (tree page : ℕ) → r.number ≡ next_number head earlier r.tree r.page
    → cond (goes_to tree page r) r.number (number_of_queue head.counters tree page + count_by (goes_to tree page) earlier)
    ≡ number_of_queue head.counters tree page + count_by (goes_to tree page) (earlier ++ r ∷ [])
next-number head earlier r tree page is =
    on (goes_to tree page r) refl ∙ sym (ap (λ n. number_of_queue head.counters tree page + n) (sum_by_push (λ y. cond (goes_to tree page y) 1 0) earlier r))
  where
    on : (b : Bool) → goes_to tree page r ≡ b
        → cond b r.number (number_of_queue head.counters tree page + count_by (goes_to tree page) earlier)
        ≡ number_of_queue head.counters tree page + (count_by (goes_to tree page) earlier + cond b 1 0)
    on false e = sym (ap (λ n. number_of_queue head.counters tree page + n) (add-zero (count_by (goes_to tree page) earlier)))
    on true e =
        is ∙ (ap (λ t. next_number head earlier t r.page) (goes_to-tree tree page r e)
        ∙ (ap (λ p. next_number head earlier tree p) (goes_to-page tree page r e) ∙ omega arith))

-- the last number of a queue in the records of a commit: each of its records of that queue adds one
pub last_number-routed_behind : (client epoch txn count : ℕ) (head : Head) (earlier : List AtomicRec) (changes : List Noted) (leaves : List ℕ) (tree page : ℕ)
    → last_number tree page (number_of_queue head.counters tree page + count_by (goes_to tree page) earlier) (routed_behind (transaction client epoch txn count) head earlier changes leaves)
    ≡ number_of_queue head.counters tree page + count_by (goes_to tree page) (earlier ++ routed_behind (transaction client epoch txn count) head earlier changes leaves)
last_number-routed_behind client epoch txn count head earlier [] leaves tree page =
    ap (λ l. number_of_queue head.counters tree page + count_by (goes_to tree page) l) (sym (append-nil earlier))
last_number-routed_behind client epoch txn count head earlier (noted ∷ changes) [] tree page =
    ap (λ l. number_of_queue head.counters tree page + count_by (goes_to tree page) l) (sym (append-nil earlier))
last_number-routed_behind client epoch txn count head earlier (noted ∷ changes) (leaf ∷ leaves) tree page =
    ap (λ n. last_number tree page n (routed_behind (transaction client epoch txn count) head (earlier ++ record_behind (transaction client epoch txn count) head earlier noted leaf ∷ []) changes leaves))
    (next-number head earlier (record_behind (transaction client epoch txn count) head earlier noted leaf) tree page refl)
    ∙ (last_number-routed_behind client epoch txn count head (earlier ++ record_behind (transaction client epoch txn count) head earlier noted leaf ∷ []) changes leaves tree page
    ∙ ap (λ l. number_of_queue head.counters tree page + count_by (goes_to tree page) l)
    (append_assoc earlier (record_behind (transaction client epoch txn count) head earlier noted leaf ∷ []) (routed_behind (transaction client epoch txn count) head (earlier ++ record_behind (transaction client epoch txn count) head earlier noted leaf ∷ []) changes leaves)))

-- the counters of the head that commits: each record of a queue raises the queue's counter by one
pub number_of_queue-opened_head : (client epoch txn : ℕ) (head : Head) (changes : List Noted) (leaves : List ℕ) (tree page : ℕ)
    → number_of_queue (raised_by head.counters (routed client epoch txn head changes leaves)) tree page
    ≡ number_of_queue head.counters tree page + count_by (goes_to tree page) (routed client epoch txn head changes leaves)
number_of_queue-opened_head client epoch txn head changes leaves tree page =
    number_of_queue-raised_by head.counters (routed client epoch txn head changes leaves) tree page
    ∙ (ap (λ n. last_number tree page n (routed client epoch txn head changes leaves)) (omega arith)
    ∙ last_number-routed_behind client epoch txn (length changes) head [] changes leaves tree page)
