-- The records of a transaction, and its messages.
use Rattle.std.proofs.Common.{◌≡◌, ◌<◌, ◌≤◌, ◌+◌, ℕ, zero, suc, List, [], ◌∷◌, ◌++◌, length, take, Some, refl, sym, ap, subst, ◌∙◌, arith}
use Rattle.std.specs.Prelude.{slice_get}
use Rattle.cloud_facts.proofs.Calls.Copies.{message_stays}
use Rattle.cloud_trait.specs.Growth.{BeginsWith}
use Rattle.cloud_trait.specs.Upto.{posts_of}
use Rattle.cloud_facts.specs.Words.{AtomicRec, Head, Posted, Store, StandsAt}
use Rattle.session_facts.specs.Machines.Commits.Knows.{Attempt, IsOfAttempt, AreMessagesOf, Routes}
use Rattle.session_facts.proofs.Machines.Commits.Routes.{record_at}
use Rattle.log_codec.specs.Atomic.{atomic_of}
use Rattle.cloud_facts.specs.Book.Growth.{Grows}
use Rattle.cloud_facts.specs.Book.Messages.{IsLogMessage}
use Rattle.cloud_facts.proofs.Book.Places.{get_within}
use Rattle.cloud_facts.proofs.Calls.Searching.{stands_below}
use Rattle.route_plan.specs.Route.{record_behind, routed, transaction}
use Rattle.route_plan.proofs.CommitLaws.{routed_behind-at}
use Rattle.txn_buffer.specs.Noted.{Noted}

-- ---- the first records

module _ {X : Type 0} where
  -- what stands among the first n stands there, below n
  pub in_take : (n : ℕ) (xs : List X) (i : ℕ) (x : X) → slice_get (take n xs) i ≡ Some x → (slice_get xs i ≡ Some x) × (i < n)
  in_take zero xs i x there = absurd (cc)
  in_take (suc n) [] i x there = absurd (cc)
  in_take (suc n) (y ∷ ys) zero x there = (there, omega arith)
  in_take (suc n) (y ∷ ys) (suc i) x there = let r = in_take n ys i x there in (r.0, omega (arith, r.1))

  pub take_next : (n : ℕ) (xs : List X) (x : X) → slice_get xs n ≡ Some x → take (suc n) xs ≡ take n xs ++ x ∷ []
  take_next n [] x there = absurd (cc)
  take_next zero (y ∷ ys) x there = let e : y ≡ x = cc in ap (λ z. z ∷ []) e
  take_next (suc n) (y ∷ ys) x there = ap (λ l. y ∷ l) (take_next n ys x there)

  pub take_all : (n : ℕ) (xs : List X) → length xs ≤ n → take n xs ≡ xs
  take_all zero [] past = refl
  take_all (suc n) [] past = refl
  take_all zero (y ∷ ys) past = absurd (omega (arith, past))
  take_all (suc n) (y ∷ ys) past = ap (λ l. y ∷ l) (take_all n ys (omega (arith, past)))

-- ---- what a record is

-- the record at a place is of the transaction, and has the place's index
pub record IsRecordOf (x : Attempt) (place : ℕ) (r : AtomicRec) : Type 0 where
  pub is : IsOfAttempt x r
  pub index_is : r.index ≡ place + 1

pub record_of : (st : Store) (now : ℕ) (x : Attempt) (changes : List Noted) (records : List AtomicRec) (base : Head) → Routes st now x changes records base → (place : ℕ) (r : AtomicRec)
    → StandsAt records place r → IsRecordOf x place r
record_of st now x changes records base routes place r there =
    let of = record_at x.client base.epoch x.txn base changes routes.pages routes.paged place r (subst (λ rs. StandsAt rs place r) routes.records_are there) in
    record {
      is = record {
        client_is = ap (λ (q : AtomicRec). q.client) of.is;
        epoch_is = ap (λ (q : AtomicRec). q.epoch) of.is ∙ routes.epoch_is;
        txn_is = ap (λ (q : AtomicRec). q.txn) of.is;
      };
      index_is = ap (λ (q : AtomicRec). q.index) of.is ∙ ap (λ k. k + 1) of.behind;
    }

-- the record at a place is of the change
pub record IsRecordFor (records : List AtomicRec) (place : ℕ) (n : Noted) : Type 0 where
  pub of : AtomicRec
  pub is : StandsAt records place of
  pub tree_is : of.tree ≡ n.tree
  pub change_is : of.change ≡ n.change

-- each change has one
pub record_for : (st : Store) (now : ℕ) (x : Attempt) (changes : List Noted) (records : List AtomicRec) (base : Head) → Routes st now x changes records base → (place : ℕ) (n : Noted)
    → StandsAt changes place n → IsRecordFor records place n
record_for st now x changes records base routes place n there =
    let within = get_within changes place n there in
    let page = stands_below routes.pages place (let paged = routes.paged in omega (arith, within, paged)) in
    record {
      of = record_behind (transaction x.client base.epoch x.txn (length changes)) base (take place (routed x.client base.epoch x.txn base changes routes.pages)) n page.0;
      is = subst (λ rs. StandsAt rs place (record_behind (transaction x.client base.epoch x.txn (length changes)) base (take place (routed x.client base.epoch x.txn base changes routes.pages)) n page.0)) (sym routes.records_are)
          (routed_behind-at x.client base.epoch x.txn (length changes) base [] changes routes.pages place n page.0 there page.1);
      tree_is = refl;
      change_is = refl;
    }

-- ---- its messages

-- a number has one message, and a message one record
pub one_record : (posts : List Posted) (id : ℕ) (r q : AtomicRec) → IsLogMessage posts id r → IsLogMessage posts id q → r ≡ q
one_record posts id r q a b = record_is (sym a.reads ∙ (ap (λ (m : Posted). atomic_of m.bytes) message ∙ b.reads))
  where
    place : a.place ≡ b.place
    place = let e = a.id_is in let f = b.id_is in omega (arith, e, f)

    message_is : (m n : Posted) → Some m ≡ Some n → m ≡ n
    message_is m n e = cc

    message : a.message ≡ b.message
    message = message_is a.message b.message (sym a.there ∙ (ap (slice_get posts) place ∙ b.there))

    record_is : Some r ≡ Some q → r ≡ q
    record_is e = cc

pub log_message_stays : (posts more : List Posted) (id : ℕ) (r : AtomicRec) → BeginsWith (posts_of posts) (posts_of more) → IsLogMessage posts id r → IsLogMessage more id r
log_message_stays posts more id r begins h =
    let n = message_stays posts more begins h.place h.message h.there in
    record { place = h.place; message = n.0; id_is = h.id_is; there = n.1; reads = ap atomic_of n.2 ∙ h.reads }

pub messages_stay : (st su : Store) (x : Attempt) (ids : List ℕ) → Grows st su → AreMessagesOf st x ids → AreMessagesOf su x ids
messages_stay st su x ids grows all id is =
    let m = all id is in
    record { of = m.of; is = m.is; message = log_message_stays (st.tally.logged x.client) (su.tally.logged x.client) id m.of (grows.logged x.client) m.message }
