-- Which ATOMIC messages an opening may mark.
use Rattle.std.proofs.Common.{◌≡◌, ◌<◌, ◌≤◌, ◌==◌, ◌⊎◌, inl, inr, ℕ, Bool, true, false, sym, ap, ◌∙◌, arith}
use Rattle.std.specs.Prelude.{not}
use Rattle.std.proofs.lemmas.Bool.{and_parts, and_from, eq-eqb, leb-true}
use Rattle.cloud_facts.specs.Words.{AtomicRec, Head, Store}
use Rattle.session_facts.specs.Machines.Openings.Knows.{IsMessageThat}
use Rattle.recover_run.specs.declared.wanted.Wanted.{Wanted}
use Rattle.recover_run.specs.Gathering.{wanted_of, is_of, is_past, is_lost}
use Rattle.cloud_facts.specs.Book.Messages.{IsLogMessage}
use Rattle.cloud_facts.specs.Book.Premises.{MarksLog}
use Rattle.cloud_facts.specs.Book.Records.{is_open}
use Rattle.session_facts.proofs.Machines.Commits.Records.{one_record}

-- a record that passes as a past one is of no later epoch than is wanted
past_epoch : (w : Wanted) (r : AtomicRec) → is_past w r ≡ true → r.epoch ≤ w.epoch
past_epoch w r e = leb-true r.epoch w.epoch e

-- a lost one is past, and not of the wanted transaction
lost_past : (w : Wanted) (r : AtomicRec) → is_lost w r ≡ true → is_past w r ≡ true
lost_past w r e = (and_parts (is_past w r) (not (is_of w r)) e).0

lost_other : (w : Wanted) (r : AtomicRec) → is_lost w r ≡ true → r.epoch ≡ w.epoch → r.txn ≡ w.txn → ⊥
lost_other w r e epoch txn = never (is_of w r) (and_parts (is_past w r) (not (is_of w r)) e).1 (and_from (r.epoch == w.epoch) (r.txn == w.txn) (eq-eqb r.epoch w.epoch epoch) (eq-eqb r.txn w.txn txn))
  where
    never : (b : Bool) → not b ≡ true → b ≡ true → ⊥
    never true e f = cc
    never false e f = cc

-- what the message of a number is passes the test
all_pass : (st : Store) (client : ℕ) (test : AtomicRec → Bool) (id : ℕ) → IsMessageThat st client test id → (r : AtomicRec) → IsLogMessage (st.tally.logged client) id r → test r ≡ true
all_pass st client test id that r m = ap test (one_record (st.tally.logged client) id r that.of m that.message) ∙ that.passes

-- ---- past ones

pub past_low : (st : Store) (client : ℕ) (w : Wanted) (id : ℕ) → IsMessageThat st client (is_past w) id → (r : AtomicRec) → IsLogMessage (st.tally.logged client) id r → r.epoch ≤ w.epoch
past_low st client w id that r m = past_epoch w r (all_pass st client (is_past w) id that r m)

-- behind a head of a later epoch
pub marks_past : (st : Store) (client : ℕ) (w : Wanted) (id : ℕ) → w.epoch < (st.tally.head client).epoch → IsMessageThat st client (is_past w) id → MarksLog st client id
marks_past st client w id later that = record {
  past = λ r m opens epoch txn. let low = past_low st client w id that r m in absurd (omega (arith, low, later, epoch));
}

-- ---- lost ones

pub lost_low : (st : Store) (client : ℕ) (w : Wanted) (id : ℕ) → IsMessageThat st client (is_lost w) id → (r : AtomicRec) → IsLogMessage (st.tally.logged client) id r → r.epoch ≤ w.epoch
lost_low st client w id that r m = past_epoch w r (lost_past w r (all_pass st client (is_lost w) id that r m))

-- the newest head is the one that was read, or of a later epoch
pub marks_lost : (st : Store) (client : ℕ) (w : Wanted) (before : Head) (id : ℕ) → w ≡ wanted_of before → (st.tally.head client ≡ before) ⊎ (before.epoch < (st.tally.head client).epoch)
    → IsMessageThat st client (is_lost w) id → MarksLog st client id
marks_lost st client w before id wanted later that = record { past = past later }
  where
    past : (st.tally.head client ≡ before) ⊎ (before.epoch < (st.tally.head client).epoch) → (r : AtomicRec) → IsLogMessage (st.tally.logged client) id r
        → is_open (st.tally.head client).phase ≡ true → r.epoch ≡ (st.tally.head client).epoch → r.txn ≡ (st.tally.head client).txn → ⊥
    past (inl same) r m opens epoch txn =
        lost_other w r (all_pass st client (is_lost w) id that r m)
        (epoch ∙ (ap (λ (h : Head). h.epoch) same ∙ sym (ap (λ (v : Wanted). v.epoch) wanted)))
        (txn ∙ (ap (λ (h : Head). h.txn) same ∙ sym (ap (λ (v : Wanted). v.txn) wanted)))
    past (inr above) r m opens epoch txn =
        let low = lost_low st client w id that r m in
        let is : w.epoch ≡ before.epoch = ap (λ (v : Wanted). v.epoch) wanted in
        absurd (omega (arith, low, is, above, epoch))
