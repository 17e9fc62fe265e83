-- What is known of a run goes on, and what a deletion rests on.
use Rattle.std.proofs.Common.{◌≡◌, ◌≤◌, ℕ, List, Some, sym, ap, subst, ◌∙◌, arith}
use Rattle.std.specs.Prelude.{slice_get}
use Rattle.cloud_facts.specs.Words.{IsClient, Posted, Store}
use Rattle.db_base.specs.Cursor.{number_of}
use Rattle.log_codec.specs.Pu.{pu_of}
use Rattle.log_codec.specs.declared.record.PuRec.{PuRec}
use Rattle.run_cursor.specs.Run.{Taken}
use Rattle.cloud_facts.specs.Book.Growth.{Grows}
use Rattle.cloud_facts.specs.Book.Messages.{IsMessage}
use Rattle.cloud_facts.specs.Book.Premises.{MarksPost}
use Rattle.session_facts.specs.Machines.Runs.Knows.{IsCoveredBy, TookRun, MayDelete}
use Rattle.cloud_facts.proofs.Calls.Copies.{is_message_stays, item_stays}
use Rattle.session_facts.proofs.Machines.Runs.Received.{message_client}

-- ---- what was known stays so

pub covered_stays : (st su : Store) (tree page : ℕ) (upto : ℕ → ℕ) (id : ℕ) → Grows st su → IsCoveredBy upto st tree page id → IsCoveredBy upto su tree page id
covered_stays st su tree page upto id grows (rec, m, below) =
    (rec, is_message_stays (st.tally.posts tree page) (su.tally.posts tree page) id rec (grows.posts tree page) m, below)

-- numbers of clients that are covered are so by numbers that are no less
pub covered_more : (st : Store) (tree page id : ℕ) (upto more : ℕ → ℕ) → ((client : ℕ) → IsClient client → upto client ≤ more client) → IsCoveredBy upto st tree page id
    → IsCoveredBy more st tree page id
covered_more st tree page id upto more rises (rec, m, below) =
    let up = rises rec.client (message_client (st.tally.posts tree page) id rec m) in
    (rec, m, omega (arith, below, up))

pub run_stays : (st su : Store) (tree page : ℕ) (from : List (ℕ × ℕ)) (run : Taken) (ids : List ℕ) → Grows st su → TookRun st tree page from run ids
    → TookRun su tree page from run ids
run_stays st su tree page from run ids grows k = record {
  received = k.received;
  is_run = k.is_run;
  behind = λ client is. let old = k.behind client is in let rises = grows.cursor tree page client is in omega (arith, old, rises);
  clients = k.clients;
  items = λ x is. item_stays st su tree page x grows (k.items x is);
  covers = λ id is. covered_stays st su tree page (number_of run.top) id grows (k.covers id is);
}

-- what may be deleted may be still
pub delete_stays : (st su : Store) (tree page : ℕ) (ids : List ℕ) → Grows st su → MayDelete st tree page ids → MayDelete su tree page ids
delete_stays st su tree page ids grows k id is =
    covered_more su tree page id (st.tally.cursor tree page) (su.tally.cursor tree page) (grows.cursor tree page)
    (covered_stays st su tree page (st.tally.cursor tree page) id grows (k id is))

-- ---- deletions

message_is : (posts : List Posted) (id : ℕ) (a b : PuRec) → IsMessage posts id a → IsMessage posts id b → a ≡ b
message_is posts id a b m n =
    let place : m.place ≡ n.place = omega (arith, m.id_is, n.id_is) in
    let both : Some m.message ≡ Some n.message = sym m.there ∙ (ap (slice_get posts) place ∙ n.there) in
    let one : m.message ≡ n.message = posted_is m.message n.message both in
    rec_is a b (sym m.reads ∙ (ap (λ (p : Posted). pu_of p.bytes) one ∙ n.reads))
  where
    posted_is : (x y : Posted) → Some x ≡ Some y → x ≡ y
    posted_is x y e = cc

    rec_is : (x y : PuRec) → Some x ≡ Some y → x ≡ y
    rec_is x y e = cc

-- a message that the cursor covers may be marked
pub may_mark : (st : Store) (tree page id : ℕ) → IsCoveredBy (st.tally.cursor tree page) st tree page id → MarksPost st tree page id
may_mark st tree page id (rec, m, below) = record {
  covered = λ other n. subst (λ (r : PuRec). r.number ≤ st.tally.cursor tree page r.client) (message_is (st.tally.posts tree page) id rec other m n) below;
}
