-- A call of one session beside all others: what stands before it, and what it leaves, whatever machine made it.
use Rattle.std.specs.Prelude.{ℕ, ◌≡◌, ◌≤◌, ◌⊎◌, List, [], ◌∷◌, Option, Some, None}
use Rattle.cloud_facts.specs.Calls.Links.{LinksBy, GoneBy}
use Rattle.cloud_facts.specs.Calls.Looks.{audited_at, audit_of}
use Rattle.cloud_facts.specs.Calls.Others.{Passes, IsOfPart}
use Rattle.cloud_facts.specs.Words.{IsClient, Entry, AtomicRec, Head, Answer, CloudState, called, newest, Caller, Claim, Lasts, Ask, Book, Store, at, IsIn, store_of, StandsUnder}
use Rattle.db_base.specs.declared.names.Lock.TheVariants as lock
use Rattle.head_codec.specs.declared.head.Phase.TheVariants.{Settled}
use Rattle.head_codec.specs.declared.lists.Pending.{Pending}
use Rattle.history.specs.Audited.{Audited}
use Rattle.cloud_facts.specs.Homes.Homes.{Home, Part, Away, AtHome, Opens, Parts, IsAlone, HomesHold}
use Rattle.cloud_facts.specs.Leases.Guards.{IsGuarded}
use Rattle.cloud_facts.specs.Leases.Leases.{Owns, KeptBy, GainedBy, RenewedTo}
use Rattle.cloud_facts.specs.Book.Premises.{IsAppliedEntry}
use Rattle.cloud_facts.specs.Book.Tally.{Tally}

-- ---- an open client

-- a head is another one without some pending entries, which are of records that are applied
pub record IsPruned (t : Tally) (client : ℕ) (whole pruned : Head) : Type 0 where
  pub epoch : pruned.epoch ≡ whole.epoch
  pub txn : pruned.txn ≡ whole.txn
  pub phase : pruned.phase ≡ whole.phase
  pub counters : pruned.counters ≡ whole.counters
  pub kept : (p : Pending) → IsIn whole.pending p → IsIn pruned.pending p ⊎ IsAppliedEntry t client p
  pub from : (p : Pending) → IsIn pruned.pending p → IsIn whole.pending p

-- an open client that works on no commit: its number, its lease, its head, and the last number that a commit took
pub record OpenClient : Type 0 where
  pub client : ℕ
  pub lease : Claim
  pub head : Head
  pub attempt : ℕ

abbrev pub opened_client : ℕ → Claim → Head → ℕ → OpenClient
opened_client client lease head attempt = record { client = client; lease = lease; head = head; attempt = attempt }

-- what is known of one: its head is settled, and but for pruned entries the newest while its lease lasts, and its part is
-- at home
pub record KnowsHome (st : Store) (now : ℕ) (of : OpenClient) (part : Part) : Type 0 where
  pub is_client : IsClient of.client
  pub lock_is : of.lease.lock ≡ lock.Client of.client
  pub within : of.head.txn ≤ of.attempt
  pub settled : of.head.phase ≡ Settled
  pub newest : Lasts now of.lease → IsPruned st.tally of.client (st.tally.head of.client) of.head
  pub home : Home
  pub part_is : part ≡ AtHome home
  pub client_is : home.client ≡ of.client
  pub lease_is : home.lease ≡ of.lease
  pub epoch_is : home.epoch ≡ of.head.epoch
  pub begun : home.attempt ≤ of.attempt

-- the leases in hand of one that may have none
abbrev pub of_option : Option Claim → List Claim
of_option (Some l) = l ∷ []
of_option None = []

-- the lease of a part is in hand, and of its client
abbrev pub HasLeaseOf : List Claim → Part → Type 0
HasLeaseOf mine Away = Unit {0}
HasLeaseOf mine (AtHome h) = IsIn mine h.lease × (h.lease.lock ≡ lock.Client h.client)
HasLeaseOf mine (Opens o) = IsIn mine o.lease × (o.lease.lock ≡ lock.Client o.client)

-- ---- before a call

-- what a call stands on: a cloud, and the book and the order that tell it
pub record Footing : Type 0 where
  pub book : Book
  pub order : List Entry
  pub state : CloudState

abbrev pub footing : Book → List Entry → CloudState → Footing
footing book order s = record { book = book; order = order; state = s }

abbrev pub store_on : Footing → Store
store_on on = store_of on.book on.order on.state

-- the session that makes it: the parts of all sessions, which of them it is, and the leases that it has in hand
pub record Actor : Type 0 where
  pub parts : Parts
  pub session : ℕ
  pub mine : List Claim

abbrev pub actor : Parts → ℕ → List Claim → Actor
actor parts session mine = record { parts = parts; session = session; mine = mine }

-- what stands before a call of a session, at the clock that the call leaves
pub record Setting (on : Footing) (now : ℕ) (by : Actor) : Type 0 where
  pub cloud : StandsUnder on.book on.order on.state
  pub homes : HomesHold (store_on on).tally now by.parts
  -- while its lease of a client lasts, no other session has a part of the client with a lease that lasts
  pub alone : (l : Claim) (client : ℕ) → IsIn by.mine l → l.lock ≡ lock.Client client → Lasts now l → IsAlone now by.parts by.session client

-- ---- after it

-- what a call leaves, the leases apart: what stands goes on exactly by what was seen to land, the session's part is a new one, and this is
-- known; a landed put adds so much to the audit
pub record Outcome (on : Footing) (t : CloudState) (by : Actor) (ask : Ask) (note : Audited → Audited) (Knows : Store → ℕ → Part → Type 0) : Type 0 where
  pub book_after : Book
  pub order_after : List Entry
  pub cloud : StandsUnder book_after order_after t
  pub passes : Passes (store_on on) (store_of book_after order_after t)
  -- what joins the log is of the session's own home
  pub joins : (r : AtomicRec) → IsIn book_after.log r → IsIn on.book.log r ⊎ IsOfPart (by.parts by.session) r
  -- and what joins a tree's links, and a page that is removed, is of a tree of which it has a lease that lasts
  pub links : LinksBy by.mine t.now (store_on on) (store_of book_after order_after t)
  pub gone : GoneBy by.mine t.now (store_on on) (store_of book_after order_after t)
  pub part : Part
  pub homes : HomesHold (store_of book_after order_after t).tally t.now (at by.session part by.parts)
  pub knows : Knows (store_of book_after order_after t) t.now part
  pub noted : audited_at (newest on.state) (newest t) ask note (audit_of on.book on.order) ≡ audit_of book_after order_after

-- what a machine knows that touches neither the session's part nor any head
pub record Aside (st : Store) (before : Part) (Knows : Store → ℕ → Type 0) (u : Store) (now : ℕ) (part : Part) : Type 0 where
  pub part_is : part ≡ before
  pub heads : (client : ℕ) → u.tally.head client ≡ st.tally.head client
  pub knows : Knows u now

-- a call and its answer, with the states of the cloud before and after it
pub record Exchange : Type 0 where
  pub who : Caller
  pub before : CloudState
  pub after : CloudState
  pub ask : Ask
  pub reply : Answer

abbrev pub exchange : Caller → CloudState → CloudState → Ask → Answer → Exchange
exchange who s t ask reply = record { who = who; before = s; after = t; ask = ask; reply = reply }

-- what a call does to the leases in hand: it names the session's own, which guard what it puts, and none is new but one that it was given
-- or that a renewal left
pub record Handles (call : Exchange) (mine after : List Claim) : Type 0 where
  pub owns : Owns (λ session. mine) call.who.session call.ask
  pub guarded : IsGuarded call.before call.after.now call.ask
  pub renewed : Claim
  pub renews : RenewedTo call.who call.ask renewed (called call.who call.after.now call.before) call.after
  pub own : (x : Claim) → IsIn after x → (IsIn mine x × KeptBy call.ask x) ⊎ GainedBy call.ask call.reply renewed x
