-- What a commit knows survives the calls of others.
use Rattle.std.proofs.Common.{◌≡◌, ◌≤◌, ◌<◌, ◌⊎◌, inl, inr, ℕ, List, [], ◌∷◌, refl, sym, ap, subst, ◌∙◌, arith}
use Rattle.cloud_facts.specs.Calls.Others.{Passes, Others, IsOfPart, NoneJoins}
use Rattle.cloud_facts.specs.Calls.Acting.{HasLeaseOf}
use Rattle.cloud_facts.proofs.Calls.Copies.{copied_stays, log_stays}
use Rattle.cloud_facts.specs.Words.{IsClient, AtomicRec, Head, Claim, Lasts, Store, IsIn}
use Rattle.cloud_facts.proofs.Calls.OthersLemmas.{pruned_stays}
use Rattle.session_facts.specs.Machines.Commits.Knows.{IsLeafFor, AreLeavesFor, Attempt, attempt_of, IsOfAttempt, AreMessagesOf, Routes, HasOpened, HasCommitted, AreSentOn, KnowsCommitAt, IsHomeOf, KnowsCommit}
use Rattle.session_facts.proofs.Machines.Commits.Records.{messages_stay}
use Rattle.commit_writes.specs.declared.stage.Stage.{Stage}
use Rattle.commit_writes.specs.declared.stage.Stage.TheVariants.{Waiting, Logging, Opening, Sending, Settling, Deleting, Finished}
use Rattle.commit_writes.specs.Writing.{Writing}
use Rattle.db_base.specs.declared.change.Change.{Change}
use Rattle.db_base.specs.declared.names.Lock.TheVariants as lock
use Rattle.head_codec.specs.declared.head.Phase.{Phase}
use Rattle.head_codec.specs.declared.head.Phase.TheVariants.{Settled, Open}
use Rattle.cloud_facts.specs.Homes.Homes.{Home, Part}
use Rattle.cloud_facts.specs.Book.Growth.{PhaseRises, IsLater, Grows}
use Rattle.txn_buffer.specs.Noted.{Noted}
use Rattle.session_facts.proofs.Machines.Openings.Counted.{counted_stay}
use Rattle.session_facts.proofs.Machines.Openings.Entries.{records_stay}

-- nothing of the transaction joins the log
abbrev pub NoneOf : Attempt → Store → Store → Type 0
NoneOf x st su = (r : AtomicRec) → IsIn su.book.log r → IsOfAttempt x r → IsIn st.book.log r

pub none_of : (x : Attempt) (part : Part) (g : Home) (st su : Store) → IsHomeOf x part g → NoneJoins part st su → NoneOf x st su
none_of x part g st su home none r is of =
    none r is (subst (λ (p : Part). IsOfPart p r) (sym home.part_is) (of.client_is ∙ sym home.client_is, of.epoch_is ∙ sym home.epoch_is))

-- ---- heads

-- later than later is later
pub later_on : (a b c : Head) → IsLater a b → IsLater b c → IsLater a c
later_on a b c (inl e) (inl f) = inl (omega (arith, e, f))
later_on a b c (inl e) (inr f) = let same = f.0 in inl (omega (arith, e, same))
later_on a b c (inr e) (inl f) = let same = e.0 in inl (omega (arith, f, same))
later_on a b c (inr e) (inr f) = inr (e.0 ∙ f.0, on e.1 f.1)
  where
    never : (p q r : Phase) → PhaseRises p q → PhaseRises q r → ⊥
    never Settled q r rises again = absurd rises
    never (Open n) Settled r rises again = absurd again
    never (Open n) (Open m) r rises again = absurd rises

    on : (a.txn < b.txn) ⊎ ((a.txn ≡ b.txn) × PhaseRises a.phase b.phase) → (b.txn < c.txn) ⊎ ((b.txn ≡ c.txn) × PhaseRises b.phase c.phase)
        → (a.txn < c.txn) ⊎ ((a.txn ≡ c.txn) × PhaseRises a.phase c.phase)
    on (inl p) (inl q) = inl (omega (arith, p, q))
    on (inl p) (inr q) = let same = q.0 in inl (omega (arith, p, same))
    on (inr p) (inl q) = let same = p.0 in inl (omega (arith, q, same))
    on (inr p) (inr q) = absurd (never a.phase b.phase c.phase p.1 q.1)

-- a head that is past another stays so
pub past_on : (a b c : Head) → (b ≡ a) ⊎ IsLater a b → (c ≡ b) ⊎ IsLater b c → (c ≡ a) ⊎ IsLater a c
past_on a b c (inl e) (inl f) = inl (f ∙ e)
past_on a b c (inl e) (inr f) = inr (subst (λ (h : Head). IsLater h c) e f)
past_on a b c (inr e) (inl f) = inr (subst (λ (h : Head). IsLater a h) (sym f) e)
past_on a b c (inr e) (inr f) = inr (later_on a b c e f)

-- ---- records

-- the records that were sent on stay so
pub sent_others : (st su : Store) (records : List AtomicRec) (upto : ℕ) → Passes st su → ((r : AtomicRec) → IsIn records r → IsIn st.book.log r) → AreSentOn st records upto
    → AreSentOn su records upto
sent_others st su records upto p logged sent place r below there =
    let old = sent place r below there in
    (p.sent_on r (logged r (place, there)) old.0, copied_stays st su r p.grows old.1)

-- ---- pages

-- what was a link is one
leaf_others : (st su : Store) (tree page : ℕ) (change : Change) → Grows st su → IsLeafFor st.book tree change page → IsLeafFor su.book tree change page
leaf_others st su tree page change grows leaf goes =
    let l = leaf goes in record { link = l.link; linked = grows.links tree 0 l.link l.linked; page_is = l.page_is; low = l.low }

pub leaves_others : (st su : Store) (changes : List Noted) (pages : List ℕ) → Grows st su → AreLeavesFor st.book changes pages → AreLeavesFor su.book changes pages
leaves_others st su changes pages grows leaves place n page there paged = leaf_others st su n.tree page n.change grows (leaves place n page there paged)

-- ---- before and behind the put that commits

-- the store and the clock go on, and the newest head of the client stays while the lease lasts
module _ (st su : Store) (now later : ℕ) (x : Attempt) (after : now ≤ later) (still : Lasts later x.lease → su.tally.head x.client ≡ st.tally.head x.client)
    (none : NoneOf x st su) where
  earlier : Lasts later x.lease → Lasts now x.lease
  earlier lasts = omega (arith, lasts, after)

  pub routes_others : IsClient x.client → Grows st su → (changes : List Noted) (records : List AtomicRec) (base : Head) → Routes st now x changes records base
      → Routes su later x changes records base
  routes_others is_client grows changes records base a = record {
    settled = a.settled;
    epoch_is = a.epoch_is;
    later = a.later;
    some = a.some;
    pages = a.pages;
    paged = a.paged;
    leaves = λ lasts. leaves_others st su changes a.pages grows (a.leaves (earlier lasts));
    records_are = a.records_are;
    newest = λ lasts. pruned_stays st su x.client base is_client grows (still lasts) (a.newest (earlier lasts));
    trees = a.trees;
    of_records = records_stay st su x.client base.pending grows a.of_records;
    counted = counted_stay st su x.client base.counters grows a.counted;
    uncommitted = λ r is of. a.uncommitted r (none r is of) of;
  }

  pub opened_others : (records : List AtomicRec) (opened : Head) → ((r : AtomicRec) → IsIn st.book.log r → IsIn su.book.log r) → HasOpened st now x records opened
      → HasOpened su later x records opened
  opened_others records opened stays k = record {
    phase = k.phase;
    epoch_is = k.epoch_is;
    txn_is = k.txn_is;
    logged = λ r is. (stays r (k.logged r is).0, (k.logged r is).1);
    indexed = k.indexed;
    newest = λ lasts. still lasts ∙ k.newest (earlier lasts);
    all = λ r is of. k.all r (none r is of) of;
  }

-- what is committed stays so
pub committed_on : (log more : List AtomicRec) (x : Attempt) (changes : List Noted) → ((r : AtomicRec) → IsIn log r → IsIn more r) → HasCommitted log x changes → HasCommitted more x changes
committed_on log more x changes stays committed place n at =
    let of = committed place n at in record { of = of.of; logged = stays of.of of.logged; is = of.is; index_is = of.index_is; tree_is = of.tree_is; change_is = of.change_is }

-- ---- the whole

pub commit_others : (st su : Store) (now later : ℕ) (w : Writing) (part : Part) → now ≤ later → Others (w.home.lease ∷ []) later st su → NoneJoins part st su → KnowsCommit st now w part
    → KnowsCommit su later w part
commit_others st su now later w part after o joins k =
    record { client = k.client; lock = k.lock; changes = k.changes; home = k.home; at_home = k.at_home; at = on w.stage k.at }
  where
    still : Lasts later w.home.lease → su.tally.head w.home.client ≡ st.tally.head w.home.client
    still lasts = o.head w.home.lease w.home.client (0, refl) k.lock lasts

    none : NoneOf (attempt_of w) st su
    none = none_of (attempt_of w) part k.home st su k.at_home joins

    stays : (r : AtomicRec) → IsIn st.book.log r → IsIn su.book.log r
    stays r is = log_stays st su r (o.passes).grows is

    committed : HasCommitted st.book.log (attempt_of w) w.changes → HasCommitted su.book.log (attempt_of w) w.changes
    committed = committed_on st.book.log su.book.log (attempt_of w) w.changes stays

    messages : AreMessagesOf st (attempt_of w) w.ids → AreMessagesOf su (attempt_of w) w.ids
    messages = messages_stay st su (attempt_of w) w.ids (o.passes).grows

    on : (stage : Stage) → KnowsCommitAt stage st now w k.home → KnowsCommitAt stage su later w k.home
    on Waiting never = never
    on Logging a = record { routes = routes_others st su now later (attempt_of w) after still none k.client (o.passes).grows w.changes w.records w.home.head a.routes; has = a.has; messages = messages a.messages }
    on Opening a = record {
      base = a.base;
      routes = routes_others st su now later (attempt_of w) after still none k.client (o.passes).grows w.changes w.records a.base a.routes;
      head = a.head;
      before = a.before;
      has = a.has;
      messages = messages a.messages;
    }
    on Sending a = record {
      has = opened_others st su now later (attempt_of w) after still none w.records w.home.head stays a.has;
      committed = committed a.committed;
      sent = sent_others st su w.records w.place o.passes (λ r is. ((a.has).logged r is).0) a.sent;
      messages = messages a.messages;
    }
    on Settling a = record {
      opened = a.opened;
      has = opened_others st su now later (attempt_of w) after still none w.records a.opened stays a.has;
      committed = committed a.committed;
      head = a.head;
      sent = sent_others st su w.records _ o.passes (λ r is. ((a.has).logged r is).0) a.sent;
      messages = messages a.messages;
    }
    on Deleting a = record {
      committed = committed a.committed;
      settled = a.settled;
      txn_is = a.txn_is;
      past = past_on w.home.head (st.tally.head w.home.client) (su.tally.head w.home.client) a.past ((o.passes).grows.heads w.home.client);
      newest = λ lasts. still lasts ∙ a.newest (omega (arith, lasts, after));
      trees = a.trees;
      of_records = records_stay st su w.home.client w.home.head.pending (o.passes).grows a.of_records;
      counted = counted_stay st su w.home.client w.home.head.counters (o.passes).grows a.counted;
      needed = a.needed;
      messages = messages a.messages;
    }
    on Finished never = never

-- the lease of its part is in hand
pub commit_lease : (st : Store) (now : ℕ) (w : Writing) (part : Part) → KnowsCommit st now w part → HasLeaseOf (w.home.lease ∷ []) part
commit_lease st now w part k = subst (HasLeaseOf (w.home.lease ∷ [])) (sym k.at_home.part_is) (in_hand, locked)
  where
    in_hand : IsIn (w.home.lease ∷ []) k.home.lease
    in_hand = subst (λ (l : Claim). IsIn (w.home.lease ∷ []) l) (sym k.at_home.lease_is) (0, refl)

    locked : k.home.lease.lock ≡ lock.Client k.home.client
    locked = ap (λ (l : Claim). l.lock) k.at_home.lease_is ∙ (k.lock ∙ ap (λ c. lock.Client c) (sym k.at_home.client_is))
