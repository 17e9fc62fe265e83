-- What the put that settles, and a send to a queue, rest on.
use Rattle.std.proofs.Common.{◌≡◌, ◌+◌, ◌⊎◌, inl, inr, ℕ, zero, suc, true, List, [], ◌∷◌, ◌++◌, length, map, Some, refl, sym, ap, subst, ◌∙◌, arith}
use Rattle.std.specs.Prelude.{◌==◌, cond}
use Rattle.std.proofs.lemmas.Bool.{and_from, eq-eqb, ne_eqb}
use Rattle.cloud_facts.specs.Calls.Others.{WasSentOn}
use Rattle.cloud_facts.specs.Copies.Copies.{SendsInTurn}
use Rattle.cloud_facts.specs.Words.{IsClient, AtomicRec, Head, Posted, Caller, Lasts, Store, IsIn}
use Rattle.session_facts.specs.Machines.Commits.Knows.{attempt_of, IsOfAttempt, SettlesOpened}
use Rattle.commit_writes.specs.Writing.{Writing}
use Rattle.db_base.specs.declared.names.QueueName.TheVariants.{TreePu, PagePu}
use Rattle.head_codec.specs.declared.lists.Pending.{Pending}
use Rattle.cloud_facts.specs.Landings.Landing.{sent_by}
use Rattle.cloud_facts.specs.Lefts.Left.{IsCopied, IsWaiting}
use Rattle.log_codec.specs.Pu.{pu_of}
use Rattle.cloud_facts.proofs.Numbers.Ways.{is_way, open_way, way_epoch, way_txn}
use Rattle.route_plan.specs.Queue.{number_of_queue, queue_name}
use Rattle.route_plan.specs.Record.{pu_record_of, pending_of}
use Rattle.cloud_facts.specs.Book.Effects.{after_posted}
use Rattle.cloud_facts.specs.Book.Messages.{HasCopy, Waits, IsMessage}
use Rattle.cloud_facts.specs.Book.Premises.{Settles, Posts}
use Rattle.cloud_facts.specs.Book.Records.{IsUnderWay, is_open}
use Rattle.cloud_facts.specs.Book.Tally.{at2}
use Rattle.cloud_facts.specs.Book.Telling.{queue_of}
use Rattle.cloud_facts.proofs.Book.Places.{get_behind, get_map, get_within, in_either, in_front, in_behind}
use Rattle.cloud_facts.proofs.Lefts.MessageLemmas.{copy_of_waits}

-- ---- the put that settles

-- what is in a mapped list is the image of something
pub from_map : {X Y : Type 0} (f : X → Y) (xs : List X) (y : Y) → IsIn (map f xs) y → (x : X) × IsIn xs x × (y ≡ f x)
from_map f [] y (place, there) = absurd (cc)
from_map f (x ∷ xs) y (zero, there) = let same : f x ≡ y = cc in (x, (zero, refl), sym same)
from_map f (x ∷ xs) y (suc place, there) = let r = from_map f xs y (place, there) in (r.0, (suc r.1.0, r.1.1), r.2)

module _ (st : Store) (now : ℕ) (w : Writing) (is_client : IsClient w.home.client) (k : SettlesOpened st now w) (lasts : Lasts now w.home.lease) where
  newest : st.tally.head w.home.client ≡ k.opened
  newest = (k.has).newest lasts

  head_of : (r : AtomicRec) → r.client ≡ w.home.client → st.tally.head r.client ≡ k.opened
  head_of r own = ap st.tally.head own ∙ newest

  -- a record under way is of the transaction
  of_way : (r : AtomicRec) → r.client ≡ w.home.client → IsUnderWay st.tally r → IsOfAttempt (attempt_of w) r
  of_way r own way =
      let here : is_way k.opened r ≡ true = subst (λ (h : Head). is_way h r ≡ true) (head_of r own) way in
      record { client_is = own; epoch_is = way_epoch k.opened r here ∙ (k.has).epoch_is; txn_is = way_txn k.opened r here ∙ (k.has).txn_is }

  -- so it is one of the records, and was sent on
  record_of : (r : AtomicRec) → IsIn st.book.log r → r.client ≡ w.home.client → IsUnderWay st.tally r → IsIn w.records r
  record_of r logged own way = (k.has).all r logged (of_way r own way)

  sent_of : (r : AtomicRec) → IsIn w.records r → WasSentOn st.tally r × IsCopied st.tally r
  sent_of r is = k.sent is.0 r (get_within w.records is.0 r is.1) is.1

  message_of : (posts : List Posted) (r : AtomicRec) → HasCopy posts (pu_record_of r) → (id : ℕ) × IsMessage posts id (pu_record_of r)
  message_of posts r h = (h.place + 1, record { place = h.place; message = h.message; id_is = refl; there = h.there; reads = h.reads })

  pending_is : w.home.head.pending ≡ k.opened.pending ++ map pending_of w.records
  pending_is = ap (λ (h : Head). h.pending) k.head

  old_pending : (st.tally.head w.home.client).pending ≡ k.opened.pending
  old_pending = ap (λ (h : Head). h.pending) newest

  pub settles_opened : Settles st w.home.client w.home.head
  settles_opened = record {
    is_client = is_client;
    phase = ap (λ (h : Head). h.phase) k.head;
    behind = inl (
      ap (λ (h : Head). h.epoch) k.head ∙ sym (ap (λ (h : Head). h.epoch) newest),
      ap (λ (h : Head). h.txn) k.head ∙ sym (ap (λ (h : Head). h.txn) newest),
      ap (λ (h : Head). is_open h.phase) newest ∙ ap is_open (k.has).phase,
    );
    counters = λ tree page. ap (λ (h : Head). number_of_queue h.counters tree page) k.head ∙ sym (ap (λ (h : Head). number_of_queue h.counters tree page) newest);
    sent = λ r logged own way. (sent_of r (record_of r logged own way)).0;
    copied = λ r logged own way. message_of (st.tally.posts r.tree r.page) r (sent_of r (record_of r logged own way)).1;
    pending_kept = λ p is. inl (subst (λ ps. IsIn ps p) (sym pending_is) (in_front k.opened.pending (map pending_of w.records) p (subst (λ ps. IsIn ps p) old_pending is)));
    pending_taken = λ r logged own way.
        let is = record_of r logged own way in
        subst (λ ps. IsIn ps (pending_of r)) (sym pending_is)
        (in_behind k.opened.pending (map pending_of w.records) (pending_of r) (is.0, get_map pending_of w.records is.0 r is.1));
    pending_from = λ p is. on p (in_either k.opened.pending (map pending_of w.records) p (subst (λ ps. IsIn ps p) pending_is is));
  }
    where
      Of : Pending → Type 0
      Of p = (r : AtomicRec) × IsIn st.book.log r × (r.client ≡ w.home.client) × IsUnderWay st.tally r × (p ≡ pending_of r)

      on : (p : Pending) → IsIn k.opened.pending p ⊎ IsIn (map pending_of w.records) p → IsIn (st.tally.head w.home.client).pending p ⊎ Of p
      on p (inl old) = inl (subst (λ ps. IsIn ps p) (sym old_pending) old)
      on p (inr new) =
          let r = from_map pending_of w.records p new in
          let of = (k.has).logged r.0 r.1 in
          let way : is_way k.opened r.0 ≡ true = open_way k.opened r.0 (length w.records) (k.has).phase ((of.1).epoch_is ∙ sym (k.has).epoch_is) ((of.1).txn_is ∙ sym (k.has).txn_is) in
          inr (r.0, of.0, (of.1).client_is, subst (λ (h : Head). is_way h r.0 ≡ true) (sym (head_of r.0 (of.1).client_is)) way, r.2)

-- ---- a send

pub queue_is : (tree page : ℕ) → queue_name tree page ≡ queue_of tree page
queue_is tree zero = ap (λ b. cond b (TreePu tree) (PagePu tree 0)) (eq-eqb 0 0 refl)
queue_is tree (suc page) = ap (λ b. cond b (TreePu tree) (PagePu tree (suc page))) (ne_eqb (suc page) 0 (λ e. absurd (omega (arith, e))))

pub posts_record : (st : Store) (who : Caller) (r : AtomicRec) (bytes : List ℕ) → IsIn st.book.log r → pu_of bytes ≡ Some (pu_record_of r) → SendsInTurn st r
    → Posts st r.tree r.page (sent_by who bytes) r
posts_record st who r bytes logged reads turn = record { logged = logged; tree_is = refl; page_is = refl; reads = reads; unmarked = refl; turn = turn }

pub at2_same : {V : Type 0} (a b : ℕ) (v : V) (f : ℕ → ℕ → V) → at2 a b v f a b ≡ v
at2_same a b v f = ap (λ t. cond t v (f a b)) (and_from (a == a) (b == b) (eq-eqb a a refl) (eq-eqb b b refl))

-- the record waits then
pub posted_waits : (st : Store) (who : Caller) (r : AtomicRec) (bytes : List ℕ) → pu_of bytes ≡ Some (pu_record_of r)
    → IsWaiting (after_posted r.tree r.page (sent_by who bytes) st).tally r
posted_waits st who r bytes reads = subst (λ ps. Waits ps (pu_record_of r)) (sym (at2_same r.tree r.page (st.tally.posts r.tree r.page ++ sent_by who bytes ∷ []) st.tally.posts)) last
  where
    last : Waits (st.tally.posts r.tree r.page ++ sent_by who bytes ∷ []) (pu_record_of r)
    last = record {
      place = length (st.tally.posts r.tree r.page) + 0;
      message = sent_by who bytes;
      there = get_behind (st.tally.posts r.tree r.page) (sent_by who bytes ∷ []) 0 (sent_by who bytes) refl;
      reads = reads;
      unmarked = refl;
    }

-- and so has a copy
pub posted_copied : (st : Store) (who : Caller) (r : AtomicRec) (bytes : List ℕ) → pu_of bytes ≡ Some (pu_record_of r)
    → IsCopied (after_posted r.tree r.page (sent_by who bytes) st).tally r
posted_copied st who r bytes reads = copy_of_waits _ (pu_record_of r) (posted_waits st who r bytes reads)
