-- ATOMIC messages that were received, and what they show of the log.
use Rattle.std.proofs.Common.{◌≡◌, ◌+◌, ◌-◌, ◌==◌, ◌≤◌, ℕ, zero, suc, Bool, true, false, cond, eqb-true, List, [], ◌∷◌, filter, Option, Some, None, Result, Ok, Err, refl, sym, ap, subst, ◌∙◌, arith}
use Rattle.std.specs.Prelude.{slice_get, nat_le}
use Rattle.std.specs.List.{AllByRecursion}
use Rattle.std.specs.Option.{option_map}
use Rattle.std.proofs.lemmas.Bool.{and_parts, leb-true}
use Rattle.cloud_trait.specs.Delivery.{WasSent}
use Rattle.cloud_trait.specs.Growth.{BeginsWith}
use Rattle.cloud_trait.specs.State.{message_at}
use Rattle.cloud_trait.specs.Upto.{posts_of}
use Rattle.cloud_trait.specs.declared.message.Message.{Message}
use Rattle.cloud_facts.specs.Words.{AtomicRec, Posted, Store}
use Rattle.cloud_facts.proofs.Calls.Copies.{message_stays}
use Rattle.cloud_facts.specs.Lefts.Left.{AreLogged}
use Rattle.log_codec.proofs.AtomicLaws.{atomic_of-some}
use Rattle.log_codec.specs.Atomic.{atomic_of}
use Rattle.session_facts.specs.Machines.Openings.Knows.{IsCommitted, IsWanted, IsMessageThat}
use Rattle.recover_run.specs.declared.items.AtomicItem.{AtomicItem}
use Rattle.recover_run.specs.declared.wanted.Wanted.{Wanted}
use Rattle.recover_run.specs.Gathering.{is_of, is_counted}
use Rattle.recover_run.specs.Items.{items_of, ids_of, with_first, item_with}
use Rattle.cloud_facts.specs.Book.Messages.{IsLogMessage}

-- an item is a message that was sent
abbrev pub IsSent : List Posted → AtomicItem → Type 0
IsSent posts x = IsLogMessage posts x.id x.rec

-- ---- one message

-- it stays where more are sent and marked
pub log_message_stays : (posts more : List Posted) (id : ℕ) (r : AtomicRec) → BeginsWith (posts_of posts) (posts_of more) → IsLogMessage posts id r → IsLogMessage more id r
log_message_stays posts more id r begins h =
    let n = message_stays posts more begins h.place h.message h.there in
    record { place = h.place; message = n.0; id_is = h.id_is; there = n.1; reads = ap atomic_of n.2 ∙ h.reads }

-- ---- what a receive brings

-- a message that was sent stands at its place
sent_at : (posts : List Posted) (m : Message) → WasSent posts m → (place : ℕ) × (p : Posted) × (m.id ≡ place + 1) × (slice_get posts place ≡ Some p) × (p.bytes ≡ m.bytes)
sent_at posts m was = on m.id refl was
  where
    on : (id : ℕ) → m.id ≡ id → message_at posts id ≡ Some m.bytes → (place : ℕ) × (p : Posted) × (m.id ≡ place + 1) × (slice_get posts place ≡ Some p) × (p.bytes ≡ m.bytes)
    on zero e w = absurd (cc)
    on (suc place) e w = at (suc place == 0) (slice_get posts (suc place - 1)) refl w
      where
        at : (b : Bool) (o : Option Posted) → slice_get posts (suc place - 1) ≡ o → cond b None (option_map (λ (p : Posted). p.bytes) o) ≡ Some m.bytes
            → (place : ℕ) × (p : Posted) × (m.id ≡ place + 1) × (slice_get posts place ≡ Some p) × (p.bytes ≡ m.bytes)
        at true o h g = absurd (cc)
        at false None h g = absurd (cc)
        at false (Some p) h g = (suc place - 1, p, omega (arith, e), h, cc)

pub sent_message : (posts : List Posted) (m : Message) (r : AtomicRec) → WasSent posts m → atomic_of m.bytes ≡ Some r → IsLogMessage posts m.id r
sent_message posts m r was e = let at = sent_at posts m was in record { place = at.0; message = at.1; id_is = at.2; there = at.3; reads = ap atomic_of at.4 ∙ e }

-- the items of messages are their records
pub items_sent : (posts : List Posted) (ms : List Message) (items : List AtomicItem) → AllByRecursion (WasSent posts) ms → items_of ms ≡ Ok items → AllByRecursion (IsSent posts) items
items_sent posts [] items was e = let same : [] ≡ items = cc in subst (AllByRecursion (IsSent posts)) same tt
items_sent posts (m ∷ ms) items was e = on (λ rest q. items_sent posts ms rest was.1 q) (atomic_of m.bytes) (items_of ms) refl refl e
  where
    on : ((rest : List AtomicItem) → items_of ms ≡ Ok rest → AllByRecursion (IsSent posts) rest) → (o : Option AtomicRec) (g : Result (List AtomicItem) Message) → atomic_of m.bytes ≡ o
        → items_of ms ≡ g → with_first m o g ≡ Ok items → AllByRecursion (IsSent posts) items
    on again None g p q h = absurd (cc)
    on again (Some rec) (Ok rest) p q h =
        let is : item_with m.id rec ∷ rest ≡ items = cc in
        subst (AllByRecursion (IsSent posts)) is (sent_message posts m rec was.0 p, again rest q)
    on again (Some rec) (Err bad) p q h = absurd (cc)

-- an index is from 1 on
sent_index : (posts : List Posted) (x : AtomicItem) → IsSent posts x → 1 ≤ x.rec.index
sent_index posts x m = (atomic_of-some m.message.bytes x.rec m.reads).0.position.some

-- a record that the head counts is a wanted one
pub sent_wanted : (st : Store) (client : ℕ) (w : Wanted) (x : AtomicItem) → AreLogged st client → (1 ≤ w.count → IsCommitted st.book.log client w) → IsSent (st.tally.logged client) x
    → is_counted w x.rec ≡ true → IsWanted st client w x
sent_wanted st client w x logged committed m counted = record {
  message = record { place = m.place; message = m.message; id_is = m.id_is; there = m.there; reads = m.reads };
  logged = logged.committed x.id x.rec of.of m of.logged of.client_is (of.epoch_is ∙ sym epoch) (of.txn_is ∙ sym txn);
  client_is = logged.own x.id x.rec m;
  epoch_is = epoch;
  txn_is = txn;
  within = within;
}
  where
    parts : (is_of w x.rec ≡ true) × (nat_le x.rec.index w.count ≡ true)
    parts = and_parts (is_of w x.rec) (nat_le x.rec.index w.count) counted

    own : ((x.rec.epoch == w.epoch) ≡ true) × ((x.rec.txn == w.txn) ≡ true)
    own = and_parts (x.rec.epoch == w.epoch) (x.rec.txn == w.txn) parts.0

    epoch : x.rec.epoch ≡ w.epoch
    epoch = eqb-true x.rec.epoch w.epoch own.0

    txn : x.rec.txn ≡ w.txn
    txn = eqb-true x.rec.txn w.txn own.1

    within : x.rec.index ≤ w.count
    within = leb-true x.rec.index w.count parts.1

    of : IsCommitted st.book.log client w
    of = let first = sent_index (st.tally.logged client) x m in committed (omega (arith, first, within))

-- the ids of those of the items that pass a test
pub that_ids : (st : Store) (client : ℕ) (test : AtomicRec → Bool) (items : List AtomicItem) → AllByRecursion (IsSent (st.tally.logged client)) items
    → AllByRecursion (IsMessageThat st client test) (ids_of (filter (λ (x : AtomicItem). test x.rec) items))
that_ids st client test [] all = tt
that_ids st client test (x ∷ items) all = on (test x.rec) refl (that_ids st client test items all.1)
  where
    on : (b : Bool) → test x.rec ≡ b → AllByRecursion (IsMessageThat st client test) (ids_of (filter (λ (y : AtomicItem). test y.rec) items))
        → AllByRecursion (IsMessageThat st client test) (ids_of (cond b (x ∷ filter (λ (y : AtomicItem). test y.rec) items) (filter (λ (y : AtomicItem). test y.rec) items)))
    on true e rest = (record { of = x.rec; message = all.0; passes = e }, rest)
    on false e rest = rest
