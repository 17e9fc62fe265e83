-- What holds of a client's head, by the head itself.
use Rattle.std.proofs.Common.{◌≡◌, ℕ, true, List, sym, subst}
use Rattle.db_base.specs.Change.{key_of}
use Rattle.cloud_facts.specs.Words.{AtomicRec, Head, Store, IsIn}
use Rattle.head_codec.specs.declared.lists.Pending.{Pending}
use Rattle.cloud_facts.specs.Pendings.Pending.{IsOwn, IsOfKey, HeadPends}
use Rattle.cloud_facts.proofs.Numbers.Ways.{is_way}
use Rattle.route_plan.specs.Record.{pending_of}
use Rattle.cloud_facts.specs.Book.Records.{key_in}

-- the same of a head and a log
pub record Holds (log : List AtomicRec) (client : ℕ) (h : Head) : Type 0 where
  pub of_records : (p : Pending) → IsIn h.pending p → (r : AtomicRec) × IsOwn log client r × (p ≡ pending_of r)
  pub one_queue : (p q : Pending) → IsIn h.pending p → IsIn h.pending q → IsOfKey q p.tree (key_of p.change) → q.page ≡ p.page
  pub under_way : (p : Pending) (r : AtomicRec) → IsIn h.pending p → IsOwn log client r → is_way h r ≡ true → IsOfKey p r.tree (key_in r) → r.page ≡ p.page

pub holds_of : (st : Store) (client : ℕ) → HeadPends st client → Holds st.book.log client (st.tally.head client)
holds_of st client pends = record {
  of_records = pends.of_records;
  one_queue = pends.one_queue;
  under_way = λ p r is own way key. pends.under_way p r is own (subst (λ c. is_way (st.tally.head c) r ≡ true) (sym own.client_is) way) key;
}

pub pends_of : (st : Store) (client : ℕ) → Holds st.book.log client (st.tally.head client) → HeadPends st client
pends_of st client h = record {
  of_records = h.of_records;
  one_queue = h.one_queue;
  under_way = λ p r is own way key. h.under_way p r is own (subst (λ c. is_way (st.tally.head c) r ≡ true) own.client_is way) key;
}
