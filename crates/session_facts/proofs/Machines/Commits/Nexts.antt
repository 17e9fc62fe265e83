-- What a commit knows where an answer leads.
use Rattle.std.proofs.Common.{◌≡◌, ◌≤◌, ◌+◌, ℕ, List, Ok, Err, refl, sym, ap, subst, ◌∙◌, arith}
use Rattle.cloud_facts.specs.Calls.Acting.{opened_client, IsPruned}
use Rattle.session_facts.specs.Machines.Openings.Client.{AreOfTrees, AreOfRecords, AreCounted, KnowsClient}
use Rattle.cloud_facts.proofs.Calls.OthersLemmas.{pruned_itself}
use Rattle.cloud_facts.specs.Words.{IsClient, Answer, CommitAnswer, Head, Lasts, Next, Goes, Ends, Stops, Store, at, sent_of, done_of}
use Rattle.session_facts.specs.Machines.Commits.Knows.{MayCommit, Attempt, attempt_of, LogsNext, SendsNext, Deletes, IsHomeOf, KnowsCommitAt, KnowsCommit, KnowsNext}
use Rattle.session_facts.proofs.Machines.Commits.Records.{take_all}
use Rattle.commit_writes.specs.declared.stage.Stage.{Stage}
use Rattle.commit_writes.specs.declared.stage.Stage.TheVariants.{Waiting, Logging, Opening, Sending, Settling, Deleting, Finished}
use Rattle.commit_writes.specs.Writing.{Writing, before_of, restored}
use Rattle.commit_writes.proofs.Outcomes.{logged, placed, Logs, Posts, Clears, Comes}
use Rattle.commit_writes.proofs.Outcomes as step
use Rattle.db_base.specs.declared.names.Lock.TheVariants as lock
use Rattle.db_base.specs.declared.trouble.CommitAnswer.TheVariants.{Committed, NotCommitted, InDoubt, CommittedOpen}
use Rattle.db_base.specs.declared.trouble.Trouble.TheVariants as trouble
use Rattle.head_codec.specs.declared.head.Phase.TheVariants as phase
use Rattle.cloud_facts.specs.Homes.Homes.{Home, Part, Away, Parts, HomesHold}
use Rattle.cloud_facts.proofs.Homes.HomeLemmas.{away_keeps, part_again}
use Rattle.route_plan.specs.Heads.{opened_head}
use Rattle.route_plan.proofs.Places.{past_none}
use Rattle.cloud_facts.specs.Book.Tally.{Tally}
use Rattle.txn_buffer.specs.Noted.{Noted}

abbrev pub WriteStep : Type 0
WriteStep = Next Writing CommitAnswer

-- ---- the part that a step leaves

-- where the commit may stand open the home is given up
abbrev pub part_end : CommitAnswer → Part → Part
part_end (Committed txn) p = p
part_end (NotCommitted t) p = p
part_end InDoubt p = Away
part_end (CommittedOpen t) p = Away

abbrev pub part_next : WriteStep → Part → Part
part_next (Goes w) p = p
part_next (Ends w a) p = part_end a p
part_next (Stops w t) p = Away

pub next_homes : (t : Tally) (now : ℕ) (parts : Parts) (session : ℕ) (p : Part) (step : WriteStep) → HomesHold t now (at session p parts) → HomesHold t now (at session (part_next step p) parts)
next_homes t now parts session p step h = on step
  where
    given_up : HomesHold t now (at session Away parts)
    given_up = subst (λ (ps : Parts). HomesHold t now ps) (part_again session p Away parts) (away_keeps t now (at session p parts) session h)

    ended : (a : CommitAnswer) → HomesHold t now (at session (part_end a p) parts)
    ended (Committed txn) = h
    ended (NotCommitted k) = h
    ended InDoubt = given_up
    ended (CommittedOpen k) = given_up

    on : (n : WriteStep) → HomesHold t now (at session (part_next n p) parts)
    on (Goes w) = h
    on (Ends w a) = ended a
    on (Stops w k) = given_up

-- what is known where a step leads from a part
abbrev pub Known : WriteStep → Store → ℕ → Part → Type 0
Known step u now p = KnowsNext step u now (part_next step p)

-- ---- what stays so throughout a commit

-- a part is at home for a transaction of these changes
pub record Stands (x : Attempt) (changes : List Noted) (part : Part) (g : Home) : Type 0 where
  pub client : IsClient x.client
  pub lock : x.lease.lock ≡ lock.Client x.client
  pub changes_may : MayCommit changes
  pub home : IsHomeOf x part g

pub stands_of : (st : Store) (now : ℕ) (w : Writing) (part : Part) → (k : KnowsCommit st now w part) → Stands (attempt_of w) w.changes part k.home
stands_of st now w part k = record { client = k.client; lock = k.lock; changes_may = k.changes; home = k.at_home }

-- a settled head of the epoch is left
pub knows_home : (u : Store) (now : ℕ) (x : Attempt) (changes : List Noted) (part : Part) (g : Home) (head : Head) → Stands x changes part g → head.epoch ≡ x.epoch → head.txn ≤ x.txn
    → head.phase ≡ phase.Settled → (Lasts now x.lease → IsPruned u.tally x.client (u.tally.head x.client) head) → AreOfTrees head.pending
    → AreOfRecords u.book.log x.client head.pending → AreCounted u.book.log x.client head.counters → KnowsClient u now (opened_client x.client x.lease head x.txn) part
knows_home u now x changes part g head stands epoch within settled newest trees of_records counted = record {
  at = record {
    is_client = stands.client;
    lock_is = stands.lock;
    within = within;
    settled = settled;
    newest = newest;
    home = g;
    part_is = (stands.home).part_is;
    client_is = (stands.home).client_is;
    lease_is = (stands.home).lease_is;
    epoch_is = (stands.home).epoch_is ∙ sym epoch;
    begun = let e = (stands.home).attempt_is in omega (arith, e);
  };
  trees = trees;
  of_records = of_records;
  counted = counted;
}

-- ---- where a step leads

module _ (u : Store) (now : ℕ) (part : Part) where
  -- a call of the commit is in hand
  in_hand : (w : Writing) {g : Home} → Stands (attempt_of w) w.changes part g → KnowsCommitAt w.stage u now w g → KnowsCommit u now w part
  in_hand w {g = g} stands at = record { client = stands.client; lock = stands.lock; changes = stands.changes_may; home = g; at_home = stands.home; at = at }

  -- a home that nothing was committed from
  abbrev pub IsLeft : Writing → Head → Type 0
  IsLeft w head = KnowsClient u now (opened_client w.home.client w.home.lease head w.home.attempt) part

  -- what is known behind the call of each stage, by what it answered
  abbrev pub Behind : Stage → Writing → Home → Answer → Type 0
  Behind Waiting w g a = ⊥
  Behind Logging w g a = ((id : ℕ) → sent_of a ≡ Ok id → LogsNext u now (logged w id) g) × IsLeft w w.home.head
  Behind Opening w g a = (done_of a ≡ Ok tt → SendsNext u now (placed w 0)) × ((end late : ℕ) → done_of a ≡ Err (trouble.Late end late) → IsLeft w (restored w.home.head w.before))
  Behind Sending w g a = (id : ℕ) → sent_of a ≡ Ok id → SendsNext u now (placed w (w.place + 1))
  Behind Settling w g a = done_of a ≡ Ok tt → Deletes u now w g
  Behind Deleting w g a = Deletes u now w g
  Behind Finished w g a = ⊥

  -- the next record is sent to the ATOMIC queue, or all were
  pub logs_on : {w : Writing} {g : Home} {next : WriteStep} → Logs w next → Stands (attempt_of w) w.changes part g → LogsNext u now w g → Known next u now part
  logs_on (step.logs r e) stands k = in_hand _ stands (record { routes = k.routes; has = k.has; messages = k.messages })
  logs_on {w = w} (step.opens e) stands k =
      let all = take_all w.place w.records (past_none w.records w.place e) in
      in_hand _ stands
      (record { base = w.home.head; routes = k.routes; head = refl; before = refl; has = record { sent = k.has.sent ∙ all; needed = k.has.needed ∙ all }; messages = k.messages })

  posted : (g : Home) {w : Writing} {a : Answer} {n : ℕ} → Posts w a n → Behind w.stage w g a → SendsNext u now (placed w n)
  posted g (step.opened w) k = k.0 refl
  posted g (step.one_sent w id) k = k id refl

  cleared : {w : Writing} {g : Home} {a : Answer} {n : ℕ} → Clears w a n → Behind w.stage w g a → Deletes u now w g
  cleared (step.settled w) k = k refl
  cleared (step.one_tried w a found) k = k

  pub leads : {w : Writing} {g : Home} {a : Answer} {next : WriteStep} → Comes w a next → Stands (attempt_of w) w.changes part g → Behind w.stage w g a → Known next u now part
  leads (step.goes_on w id next on) stands k = logs_on on stands (k.0 id refl)
  leads (step.not_logged w a failed) stands k = k.1
  leads (step.late w end late) stands k = k.1 end late refl
  leads (step.doubts w a failed) stands k = refl
  leads {g = g} (step.sends n r posts e) stands k =
      let on = posted g posts k in in_hand _ stands (record { has = on.has; committed = on.committed; sent = on.sent; messages = on.messages })
  leads {w = w} {g = g} (step.settles n posts e) stands k =
      let on = posted g posts k in
      in_hand _ stands (record {
        opened = w.home.head;
        has = on.has;
        committed = on.committed;
        head = refl;
        sent = λ place r less there. let past = past_none w.records n e in on.sent place r (omega (arith, less, past)) there;
        messages = on.messages;
      })
  leads (step.stays_open leaves) stands k = refl
  leads (step.deletes n id clears e) stands k =
      let on = cleared clears k in
      in_hand _ stands (record { committed = on.committed; settled = on.settled; txn_is = on.txn_is; past = on.past; newest = on.newest; trees = on.trees; of_records = on.of_records; counted = on.counted; needed = on.needed; messages = on.messages })
  leads {w = w} {g = g} (step.ends n clears e) stands k =
      let on = cleared clears k in
      knows_home u now (attempt_of w) w.changes part g w.home.head stands refl (let e = on.txn_is in omega (arith, e)) on.settled
      (λ lasts. subst (λ (h : Head). IsPruned u.tally w.home.client h w.home.head) (sym (on.newest lasts)) (pruned_itself u.tally w.home.client w.home.head)) on.trees on.of_records on.counted
  leads (step.lacks w under) stands k = refl
  leads (step.waits w a) stands k = refl
  leads (step.rests w a) stands k = refl

-- a put that was late leaves the head as it was
pub restored_is : (w : Writing) (base : Head) → w.home.head ≡ opened_head base w.home.attempt w.records → w.before ≡ before_of base → restored w.home.head w.before ≡ base
restored_is w base head before = ap (λ h. restored h w.before) head ∙ ap (λ b. restored (opened_head base w.home.attempt w.records) b) before
