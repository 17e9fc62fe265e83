-- The pending entries of a head that settles are of trees, and of committed records.
use Rattle.std.proofs.Common.{◌≡◌, ◌⊎◌, inl, inr, ℕ, List, sym, subst}
use Rattle.cloud_facts.specs.Book.Growth.{Grows}
use Rattle.cloud_facts.specs.Book.Premises.{Settles}
use Rattle.cloud_facts.specs.Words.{IsTree, AtomicRec, Head, Store, IsIn}
use Rattle.cloud_facts.specs.Book.Records.{IsUnderWay}
use Rattle.cloud_facts.specs.Landings.Holding.{Holds}
use Rattle.cloud_facts.specs.Pendings.Pending.{IsOwn}
use Rattle.cloud_facts.proofs.Calls.Copies.{log_stays}
use Rattle.head_codec.specs.declared.lists.Pending.{Pending}
use Rattle.route_plan.specs.Record.{pending_of}
use Rattle.session_facts.specs.Machines.Openings.Client.{AreOfTrees, AreOfRecords}

-- they are of committed records, old or new
pub settled_trees : (st : Store) (client : ℕ) (head : Head) → Holds st → Settles st client head → AreOfTrees head.pending
settled_trees st client head h settles p is = on (settles.pending_from p is)
  where
    of_record : (r : AtomicRec) → IsIn st.book.log r → p ≡ pending_of r → IsTree p.tree
    of_record r logged same = subst (λ (x : Pending). IsTree x.tree) (sym same) (h.numbers.placed r logged).tree

    on : IsIn (st.tally.head client).pending p ⊎ ((r : AtomicRec) × IsIn st.book.log r × (r.client ≡ client) × IsUnderWay st.tally r × (p ≡ pending_of r)) → IsTree p.tree
    on (inl old) = let own = (h.pends.heads client settles.is_client).of_records p old in of_record own.0 own.1.logged own.2
    on (inr new) = of_record new.0 new.1 new.4

pub settled_records : (st : Store) (client : ℕ) (head : Head) → Settles st client head → (h : Holds st) → AreOfRecords st.book.log client head.pending
settled_records st client head settles h p is = on (settles.pending_from p is)
  where
    on : IsIn (st.tally.head client).pending p ⊎ ((r : AtomicRec) × IsIn st.book.log r × (r.client ≡ client) × IsUnderWay st.tally r × (p ≡ pending_of r))
        → (r : AtomicRec) × IsOwn st.book.log client r × (p ≡ pending_of r)
    on (inl old) = (h.pends.heads client settles.is_client).of_records p old
    on (inr new) = (new.0, record { logged = new.1; client_is = new.2 }, new.4)

-- what is committed stays so
pub records_in : (log more : List AtomicRec) (client : ℕ) (pending : List Pending) → ((r : AtomicRec) → IsIn log r → IsIn more r) → AreOfRecords log client pending
    → AreOfRecords more client pending
records_in log more client pending stays of p is = let own = of p is in (own.0, record { logged = stays own.0 own.1.logged; client_is = own.1.client_is }, own.2)

pub records_stay : (st su : Store) (client : ℕ) (pending : List Pending) → Grows st su → AreOfRecords st.book.log client pending → AreOfRecords su.book.log client pending
records_stay st su client pending grows of = records_in st.book.log su.book.log client pending (λ r is. log_stays st su r grows is) of
