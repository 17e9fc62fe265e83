-- The records of a log whose queues are numbered in order: which one has a number.
use Rattle.std.proofs.Common.{◌≡◌, ◌+◌, ◌-◌, ◌<◌, ◌≤◌, ℕ, zero, suc, List, [], ◌∷◌, ◌++◌, length, slice_get, Some, refl, ap, ap₂, ◌∙◌, true, ◌==◌, ◌&&◌, arith, eq-eqb, eqb-true}
use Rattle.std.proofs.lemmas.Bool.{and_parts}
use Rattle.std.proofs.lemmas.List.{length-append}
use Rattle.std.proofs.lemmas.List.Elements.{filter-append}
use Rattle.std.proofs.lemmas.Option.{slice_get_within}
use Rattle.log_codec.specs.declared.record.AtomicRec.{AtomicRec}
use Rattle.cloud_facts.specs.Book.Records.{StandsAt, IsIn, is_of_queue, of_queue, count_of}
use Rattle.cloud_facts.proofs.Book.Places.{get_front}
use Rattle.cloud_facts.proofs.Numbers.Lists.{get_same, filter_there, filter_at}

-- ---- of which queue a record is

pub record IsOfQueue (tree page client : ℕ) (r : AtomicRec) : Type 0 where
  pub client_is : r.client ≡ client
  pub tree_is : r.tree ≡ tree
  pub page_is : r.page ≡ page

pub queue_test : (tree page client : ℕ) (r : AtomicRec) → IsOfQueue tree page client r → is_of_queue tree page client r ≡ true
queue_test tree page client r is = ap₂ ◌&&◌ (eq-eqb r.client client is.client_is) (ap₂ ◌&&◌ (eq-eqb r.tree tree is.tree_is) (eq-eqb r.page page is.page_is))

pub queue_parts : (tree page client : ℕ) (r : AtomicRec) → is_of_queue tree page client r ≡ true → IsOfQueue tree page client r
queue_parts tree page client r test =
    let own = and_parts (r.client == client) ((r.tree == tree) && (r.page == page)) test in
    let queue = and_parts (r.tree == tree) (r.page == page) own.1 in
    record { client_is = eqb-true r.client client own.0; tree_is = eqb-true r.tree tree queue.0; page_is = eqb-true r.page page queue.1 }

pub own_queue : (r : AtomicRec) → IsOfQueue r.tree r.page r.client r
own_queue r = record { client_is = refl; tree_is = refl; page_is = refl }

-- ---- more records

pub of_queue-append : (tree page client : ℕ) (log more : List AtomicRec)
    → of_queue tree page client (log ++ more) ≡ of_queue tree page client log ++ of_queue tree page client more
of_queue-append tree page client log more = filter-append (is_of_queue tree page client) log more

pub count_of-append : (tree page client : ℕ) (log more : List AtomicRec)
    → count_of tree page client (log ++ more) ≡ count_of tree page client log + count_of tree page client more
count_of-append tree page client log more =
    ap length (of_queue-append tree page client log more) ∙ length-append (of_queue tree page client log) (of_queue tree page client more)

pub in_more : {X : Type 0} (xs ys : List X) (x : X) → IsIn xs x → IsIn (xs ++ ys) x
in_more xs ys x is = (is.0, get_front xs ys is.0 x is.1)

-- ---- the record of a number

-- a client's records of a queue have the numbers 1, 2, 3 .. in the order of commit
abbrev pub InOrder : List AtomicRec → Type 0
InOrder log = (tree page client place : ℕ) (r : AtomicRec) → StandsAt (of_queue tree page client log) place r → r.number ≡ place + 1

-- where a record stands among those of its queue
pub record HasSeat (log : List AtomicRec) (tree page client : ℕ) (r : AtomicRec) : Type 0 where
  pub place : ℕ
  pub there : StandsAt (of_queue tree page client log) place r
  pub number_is : r.number ≡ place + 1
  pub within : r.number ≤ count_of tree page client log

-- the record of a number
pub record HasNumber (log : List AtomicRec) (tree page client number : ℕ) : Type 0 where
  pub of : AtomicRec
  pub logged : IsIn log of
  pub is : IsOfQueue tree page client of
  pub number_is : of.number ≡ number

get_within : {X : Type 0} (xs : List X) (k : ℕ) → k < length xs → (x : X) × (slice_get xs k ≡ Some x)
get_within [] k less = absurd (omega (arith, less))
get_within (x ∷ xs) zero less = (x, refl)
get_within (x ∷ xs) (suc k) less = get_within xs k (omega (arith, less))

module _ (log : List AtomicRec) (in_order : InOrder log) where
  pub seat : (tree page client : ℕ) (r : AtomicRec) → IsIn log r → IsOfQueue tree page client r → HasSeat log tree page client r
  seat tree page client r logged is =
      let at = filter_at (is_of_queue tree page client) log logged.0 r (queue_test tree page client r is) logged.1 in
      let number = in_order tree page client at.0 r at.1 in
      let less = slice_get_within (of_queue tree page client log) at.0 r at.1 in
      record { place = at.0; there = at.1; number_is = number; within = omega (arith, number, less) }

  -- a record is determined by its queue, client and number
  pub record_determined : (r q : AtomicRec) → IsIn log r → IsIn log q → IsOfQueue q.tree q.page q.client r → r.number ≡ q.number → r ≡ q
  record_determined r q in_r in_q is same =
      let one = seat q.tree q.page q.client r in_r is in
      let other = seat q.tree q.page q.client q in_q (own_queue q) in
      get_same (of_queue q.tree q.page q.client log) one.place other.place r q
      (omega (arith, one.number_is, other.number_is, same)) one.there other.there

  -- numbers are from 1 to the count
  pub number_some : (r : AtomicRec) → IsIn log r → 1 ≤ r.number
  number_some r logged = let at = seat r.tree r.page r.client r logged (own_queue r) in omega (arith, at.number_is)

  pub number_within : (r : AtomicRec) → IsIn log r → r.number ≤ count_of r.tree r.page r.client log
  number_within r logged = (seat r.tree r.page r.client r logged (own_queue r)).within

  -- each number from 1 to the count is that of a record
  pub number_taken : (tree page client number : ℕ) → 1 ≤ number → number ≤ count_of tree page client log → HasNumber log tree page client number
  number_taken tree page client number some most =
      let at = get_within (of_queue tree page client log) (number - 1) (omega (arith, some, most)) in
      let found = filter_there (is_of_queue tree page client) log (number - 1) at.0 at.1 in
      let number_is = in_order tree page client (number - 1) at.0 at.1 in
      record {
        of = at.0;
        logged = (found.place, found.there);
        is = queue_parts tree page client at.0 found.test;
        number_is = omega (arith, number_is, some);
      }
