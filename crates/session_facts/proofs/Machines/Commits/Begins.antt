-- A commit begins to write.
use Rattle.std.proofs.Common.{◌≡◌, ◌≤◌, ℕ, List, [], length, refl, sym, subst, ◌∙◌, arith}
use Rattle.cloud_facts.specs.Calls.Acting.{opened_client, KnowsHome}
use Rattle.session_facts.specs.Machines.Openings.Client.{KnowsClient}
use Rattle.cloud_facts.specs.Words.{AtomicRec, Lasts, Store, at, IsIn}
use Rattle.session_facts.specs.Machines.Commits.Knows.{MayCommit, AreLeavesFor, attempt_of, IsOfAttempt, Routes, KnowsTaken, KnowsNext, ReachesPart}
use Rattle.session_facts.proofs.Machines.Commits.Nexts.{Known, Stands, part_next, next_homes, logs_on}
use Rattle.commit_writes.specs.Writing.{Writing, routed_of, begun}
use Rattle.commit_writes.proofs.Outcomes.{begins}
use Rattle.cloud_facts.specs.Homes.Homes.{Home, Part, AtHome, Parts, HomeHolds, PartHolds, HomesHold}
use Rattle.cloud_facts.proofs.Homes.HomeLemmas.{begins_keeps}
use Rattle.cloud_facts.specs.Lefts.Left.{WasLogged, Leaves}
use Rattle.recover_run.specs.declared.home.Home.{Home as Held}
use Rattle.cloud_facts.specs.Book.Messages.{IsLogMessage}
use Rattle.cloud_facts.proofs.Book.Places.{in_none}

-- the home of a session that works on no commit
abbrev pub KnowsHeld : Store → ℕ → Held → Part → Type 0
KnowsHeld st now home part = KnowsClient st now (opened_client home.client home.lease home.head home.attempt) part

-- with the number that was taken, it is left so where nothing is written
pub taken_left : (st : Store) (now : ℕ) (home : Held) (part : Part) → KnowsTaken st now home part → KnowsHeld st now home part
taken_left st now home part t = record {
  at = record {
    is_client = k.is_client;
    lock_is = k.lock_is;
    within = let within = k.within in let taken = t.taken in omega (arith, within, taken);
    settled = k.settled;
    newest = k.newest;
    home = k.home;
    part_is = k.part_is;
    client_is = k.client_is;
    lease_is = k.lease_is;
    epoch_is = k.epoch_is;
    begun = let before = k.begun in let taken = t.taken in omega (arith, before, taken);
  };
  trees = t.home.trees;
  of_records = t.home.of_records;
  counted = t.home.counted;
}
  where
    k : KnowsHome st now (opened_client home.client home.lease home.head t.before) part
    k = t.home.at

module _ (st : Store) (now : ℕ) (parts : Parts) (session : ℕ) (w : Writing) (pages : List ℕ) (t : KnowsTaken st now w.home (parts session)) (may : MayCommit w.changes)
    (some : 1 ≤ length w.changes) (none : w.ids ≡ []) (paged : length w.changes ≤ length pages) (leaves : Lasts now w.home.lease → AreLeavesFor st.book w.changes pages)
    (homes : HomesHold st.tally now parts) (left : Leaves st) where
  abbrev k : KnowsHome st now (opened_client w.home.client w.home.lease w.home.head t.before) (parts session)
  k = t.home.at

  abbrev recs : List AtomicRec
  recs = routed_of w.home w.changes pages

  abbrev began : Home
  began = record t.home.at.home { attempt = w.home.attempt; sent = []; needed = [] }

  -- no record of the epoch is of a later transaction than was begun
  uncommitted : (r : AtomicRec) → IsIn st.book.log r → IsOfAttempt (attempt_of w) r → ⊥
  uncommitted r logged of = on (left.sent r logged)
    where
      holds : HomeHolds st.tally now k.home
      holds = subst (λ (p : Part). PartHolds st.tally now p) k.part_is (homes.each session)

      same_client : r.client ≡ (k.home).client
      same_client = of.client_is ∙ sym k.client_is

      on : WasLogged st.tally r → ⊥
      on (id, m) =
          let within = holds.begun id r (subst (λ c. IsLogMessage (st.tally.logged c) id r) same_client m) (of.epoch_is ∙ sym k.epoch_is) in
          let txn = of.txn_is in
          let before = k.begun in
          let taken = t.taken in
          omega (arith, within, txn, before, taken)

  routes : Routes st now (attempt_of w) w.changes recs w.home.head
  routes = record {
    settled = k.settled;
    epoch_is = refl;
    later = let within = k.within in let taken = t.taken in omega (arith, within, taken);
    some = some;
    pages = pages;
    paged = paged;
    leaves = leaves;
    records_are = refl;
    newest = k.newest;
    trees = t.home.trees;
    of_records = t.home.of_records;
    counted = t.home.counted;
    uncommitted = uncommitted;
  }

  stands : Stands (attempt_of w) w.changes (AtHome began) began
  stands = record {
    client = k.is_client;
    lock = k.lock_is;
    changes_may = may;
    home = record { part_is = refl; client_is = k.client_is; epoch_is = k.epoch_is; attempt_is = refl; lease_is = k.lease_is };
  }

  begun_known : Known (begun w recs) st now (AtHome began)
  begun_known =
      logs_on st now (AtHome began) (begins w recs) stands
      (record { routes = routes; has = record { sent = refl; needed = refl }; messages = λ id is. absurd (in_none w.ids id none is) })

  begun_homes : HomesHold st.tally now (at session (AtHome began) parts)
  begun_homes = begins_keeps st.tally now parts session k.home w.home.attempt k.part_is (let before = k.begun in let taken = t.taken in omega (arith, before, taken)) homes

  -- the first record is sent
  pub begun_reaches : ReachesPart st now parts session (KnowsNext (begun w recs))
  begun_reaches = record {
    part = part_next (begun w recs) (AtHome began);
    homes = next_homes st.tally now parts session (AtHome began) (begun w recs) begun_homes;
    knows = begun_known;
  }
