-- What a send to the ATOMIC queue, and a deletion there, rest on.
use Rattle.std.proofs.Common.{◌≡◌, ◌≤◌, ◌⊎◌, inl, inr, ℕ, true, false, take, Some, refl, sym, ap, subst, ◌∙◌, arith}
use Rattle.std.specs.Prelude.{slice_get}
use Rattle.cloud_facts.specs.Words.{IsClient, AtomicRec, Head, Caller, Store, IsIn}
use Rattle.session_facts.specs.Machines.Commits.Knows.{attempt_of, IsHomeOf, LogsNext, Deletes}
use Rattle.session_facts.proofs.Machines.Commits.Records.{in_take, record_of, one_record}
use Rattle.commit_writes.specs.Writing.{Writing}
use Rattle.head_codec.specs.declared.head.Phase.{Phase}
use Rattle.head_codec.specs.declared.head.Phase.TheVariants.{Settled, Open}
use Rattle.cloud_facts.specs.Homes.Homes.{Home, Part, Parts, HomeHolds, HomesHold, IsSpared}
use Rattle.cloud_facts.proofs.Homes.HomeLemmas.{spared_own}
use Rattle.cloud_facts.specs.Landings.Landing.{sent_by}
use Rattle.log_codec.specs.Atomic.{atomic_of}
use Rattle.cloud_facts.specs.Book.Growth.{PhaseRises, IsLater}
use Rattle.cloud_facts.specs.Book.Messages.{IsLogMessage}
use Rattle.cloud_facts.specs.Book.Premises.{Logs, MarksLog}
use Rattle.cloud_facts.specs.Book.Records.{is_open}

-- ---- a send

module _ (st : Store) (now : ℕ) (w : Writing) (g : Home) (who : Caller) (is_client : IsClient w.home.client) (part : Part) (home : IsHomeOf (attempt_of w) part g)
    (holds : HomeHolds st.tally now g) (a : LogsNext st now w g) (r : AtomicRec) (there : slice_get w.records w.place ≡ Some r) (reads : atomic_of w.out ≡ Some r) where
  -- a message of the transaction is one of the records before the next one
  first : (id : ℕ) (q : AtomicRec) → IsLogMessage (st.tally.logged w.home.client) id q → q.epoch ≡ r.epoch → q.txn ≡ r.txn → q.index ≡ r.index → ⊥
  first id q m epoch txn index =
      let of = record_of st now (attempt_of w) w.changes w.records w.home.head a.routes w.place r there in
      let own = holds.own id q (subst (λ c. IsLogMessage (st.tally.logged c) id q) (sym home.client_is) m) (epoch ∙ (of.is.epoch_is ∙ sym home.epoch_is))
      (txn ∙ (of.is.txn_is ∙ sym home.attempt_is)) in
      let sent : IsIn (take w.place w.records) q = subst (λ rs. IsIn rs q) (a.has).sent own in
      let before = in_take w.place w.records sent.0 q sent.1 in
      let here = (record_of st now (attempt_of w) w.changes w.records w.home.head a.routes sent.0 q before.0).index_is in
      let last = of.index_is in
      omega (arith, before.1, here, last, index)

  pub logs : Logs st w.home.client (sent_by who w.out) r
  logs =
      let of = record_of st now (attempt_of w) w.changes w.records w.home.head a.routes w.place r there in
      record {
        is_client = is_client;
        reads = reads;
        unmarked = refl;
        client_is = of.is.client_is;
        epoch = let low = subst (λ c. g.epoch ≤ (st.tally.head c).epoch) home.client_is holds.early in let e = of.is.epoch_is in let f = home.epoch_is in omega (arith, low, e, f);
        first = first;
        uncommitted = λ q logged own epoch txn.
            a.routes.uncommitted q logged (record { client_is = own; epoch_is = epoch ∙ of.is.epoch_is; txn_is = txn ∙ of.is.txn_is });
      }

-- ---- a deletion

module _ (st : Store) (now : ℕ) (w : Writing) (g : Home) (a : Deletes st now w g) (id : ℕ) (there : slice_get w.ids w.place ≡ Some id) where
  -- the message is of the transaction
  of_attempt : (r : AtomicRec) → IsLogMessage (st.tally.logged w.home.client) id r → (r.epoch ≡ w.home.head.epoch) × (r.txn ≡ w.home.head.txn)
  of_attempt r m =
      let known = a.messages id (w.place, there) in
      let same : known.of ≡ r = one_record (st.tally.logged w.home.client) id known.of r known.message m in
      (ap (λ (q : AtomicRec). q.epoch) (sym same) ∙ (known.is).epoch_is, ap (λ (q : AtomicRec). q.txn) (sym same) ∙ ((known.is).txn_is ∙ sym a.txn_is))

  -- the transaction is not that of an open newest head
  pub marks : MarksLog st w.home.client id
  marks = record { past = λ r m opened epoch txn. on r (of_attempt r m) opened epoch txn a.past }
    where
      closed : (p : Phase) → p ≡ Settled → is_open p ≡ true → ⊥
      closed p e opened = never (sym (ap is_open e) ∙ opened)
        where
          never : false ≡ true → ⊥
          never q = cc

      stays : (p q : Phase) → p ≡ Settled → PhaseRises p q → ⊥
      stays Settled q e rises = rises
      stays (Open n) q e rises = absurd (cc)

      on : (r : AtomicRec) → (r.epoch ≡ w.home.head.epoch) × (r.txn ≡ w.home.head.txn) → is_open (st.tally.head w.home.client).phase ≡ true → r.epoch ≡ (st.tally.head w.home.client).epoch → r.txn ≡ (st.tally.head w.home.client).txn
          → (st.tally.head w.home.client ≡ w.home.head) ⊎ IsLater w.home.head (st.tally.head w.home.client) → ⊥
      on r of opened epoch txn (inl same) = closed (st.tally.head w.home.client).phase (ap (λ (h : Head). h.phase) same ∙ a.settled) opened
      on r of opened epoch txn (inr (inl e)) = let own = of.0 in omega (arith, e, own, epoch)
      on r of opened epoch txn (inr (inr (e, inl t))) = let own = of.1 in omega (arith, t, own, txn)
      on r of opened epoch txn (inr (inr (e, inr t))) = stays w.home.head.phase (st.tally.head w.home.client).phase a.settled t.1

  -- and no other commit needs the message
  pub spared : (parts : Parts) (session : ℕ) (part : Part) → IsHomeOf (attempt_of w) part g → parts session ≡ part → HomesHold st.tally now parts
      → IsSpared st.tally now parts w.home.client id
  spared parts session part home is holds =
      subst (λ c. IsSpared st.tally now parts c id) home.client_is
      (spared_own st.tally now parts session g id (is ∙ home.part_is) a.needed
      (λ r m. (of_attempt r (subst (λ c. IsLogMessage (st.tally.logged c) id r) home.client_is m)).0 ∙ sym home.epoch_is) holds)
