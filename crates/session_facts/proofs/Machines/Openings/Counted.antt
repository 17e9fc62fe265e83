-- The counters of a head that landed are the counts of its client's records, and at most their counts from then on.
use Rattle.std.proofs.Common.{ℕ, List, sym, ap, subst, arith}
use Rattle.cloud_facts.proofs.Numbers.Queues.{count_of-append}
use Rattle.cloud_facts.specs.Book.Growth.{Grows}
use Rattle.cloud_facts.proofs.Book.Places.{in_front}
use Rattle.cloud_facts.specs.Book.Premises.{Settles}
use Rattle.cloud_facts.specs.Words.{AtomicRec, Head, Store, IsIn}
use Rattle.cloud_facts.specs.Book.Records.{count_of}
use Rattle.cloud_facts.specs.Numbers.Numbers.{Numbers}
use Rattle.cloud_trait.specs.Growth.{BeginsWith}
use Rattle.head_codec.specs.declared.lists.QueueCount.{QueueCount}
use Rattle.session_facts.specs.Machines.Openings.Client.{AreCounted}

pub counted_in : (log more : List AtomicRec) (client : ℕ) (counters : List QueueCount) → BeginsWith log more → AreCounted log client counters → AreCounted more client counters
counted_in log more client counters begins counted tree page =
    let few = counted tree page in
    let all = ap (count_of tree page client) begins.1 in
    let both = count_of-append tree page client log begins.0 in
    omega (arith, few, all, both)

pub counted_stay : (st su : Store) (client : ℕ) (counters : List QueueCount) → Grows st su → AreCounted st.book.log client counters → AreCounted su.book.log client counters
counted_stay st su client counters grows counted = counted_in st.book.log su.book.log client counters grows.log counted

-- those of a head that settles are those of the newest one
pub settled_counted : (st : Store) (client : ℕ) (head : Head) → Settles st client head → Numbers st → AreCounted st.book.log client head.counters
settled_counted st client head settles numbers tree page =
    let is = numbers.counters client tree page in
    let own = settles.counters tree page in
    omega (arith, is, own)

-- what is committed stays so
pub log_in : (log more : List AtomicRec) → BeginsWith log more → (r : AtomicRec) → IsIn log r → IsIn more r
log_in log more begins r is = subst (λ (l : List AtomicRec). IsIn l r) (sym begins.1) (in_front log begins.0 r is)
