-- Open clients and openings under way, of all sessions.
use Rattle.std.specs.Prelude.{ℕ, ◌≡◌, ◌≢◌, ◌<◌, ◌≤◌, ◌⊎◌, List}
use Rattle.db_base.specs.Ids.{IsClient}
use Rattle.cloud_trait.specs.Claim.{Claim, Lasts}
use Rattle.head_codec.specs.declared.head.Head.{Head}
use Rattle.log_codec.specs.declared.record.AtomicRec.{AtomicRec}
use Rattle.cloud_facts.specs.Book.Messages.{IsLogMessage, WaitsLogged}
use Rattle.cloud_facts.specs.Book.Records.{IsIn}
use Rattle.cloud_facts.specs.Book.Tally.{Tally}

-- an open client: its epoch, the last transaction that it began in it, its lease, the records of that transaction that it sent to its ATOMIC
-- queue, and those of them that its commit still needs there
pub record Home : Type 0 where
  pub client : ℕ
  pub epoch : ℕ
  pub attempt : ℕ
  pub lease : Claim
  pub sent : List AtomicRec
  pub needed : List AtomicRec

-- an opening that read the head and has not put the next one, and its lease
pub record Opening : Type 0 where
  pub client : ℕ
  pub read : Head
  pub lease : Claim

-- what a session has of a client
pub data Part : Type 0 where
  Away : Part
  AtHome : (home : Home) → Part
  Opens : (opening : Opening) → Part

abbrev pub Parts : Type 0
Parts = ℕ → Part

-- a part of the client whose lease lasts
abbrev pub IsLastingPart : ℕ → ℕ → Part → Type 0
IsLastingPart now client Away = ⊥
IsLastingPart now client (AtHome h) = (h.client ≡ client) × Lasts now h.lease
IsLastingPart now client (Opens o) = (o.client ≡ client) × Lasts now o.lease

-- no other session has a part of the client with a lease that lasts
abbrev pub IsAlone : ℕ → Parts → ℕ → ℕ → Type 0
IsAlone now parts session client = (other : ℕ) → other ≢ session → IsLastingPart now client (parts other) → ⊥

-- an open client is not of a later epoch than the newest head; no ATOMIC message is of its epoch and a later transaction than it began, and
-- those of its last transaction are the records that it sent; while its lease lasts the newest head is of its epoch, and what its commit
-- needs, which is of its epoch, is not deleted
pub record HomeHolds (t : Tally) (now : ℕ) (h : Home) : Type 0 where
  pub is_client : IsClient h.client
  pub early : h.epoch ≤ (t.head h.client).epoch
  pub begun : (id : ℕ) (r : AtomicRec) → IsLogMessage (t.logged h.client) id r → r.epoch ≡ h.epoch → r.txn ≤ h.attempt
  pub own : (id : ℕ) (r : AtomicRec) → IsLogMessage (t.logged h.client) id r → r.epoch ≡ h.epoch → r.txn ≡ h.attempt → IsIn h.sent r
  pub newest : Lasts now h.lease → (t.head h.client).epoch ≡ h.epoch
  pub needs : (r : AtomicRec) → IsIn h.needed r → r.epoch ≡ h.epoch
  pub waiting : Lasts now h.lease → (r : AtomicRec) → IsIn h.needed r → WaitsLogged (t.logged h.client) r

-- the newest head is the one that an opening read, or of a later epoch; it is the one while the opening's lease lasts
pub record OpeningHolds (t : Tally) (now : ℕ) (o : Opening) : Type 0 where
  pub is_client : IsClient o.client
  pub later : (t.head o.client ≡ o.read) ⊎ (o.read.epoch < (t.head o.client).epoch)
  pub newest : Lasts now o.lease → t.head o.client ≡ o.read

abbrev pub PartHolds : Tally → ℕ → Part → Type 0
PartHolds t now Away = Unit {0}
PartHolds t now (AtHome h) = HomeHolds t now h
PartHolds t now (Opens o) = OpeningHolds t now o

-- two sessions: open clients of one client differ in epoch, and one whose lease lasts is of a later epoch than what an opening read
abbrev pub AreApart : ℕ → Part → Part → Type 0
AreApart now (AtHome h) (AtHome g) = h.client ≡ g.client → h.epoch ≢ g.epoch
AreApart now (AtHome h) (Opens o) = h.client ≡ o.client → Lasts now h.lease → o.read.epoch < h.epoch
AreApart now (Opens o) (AtHome h) = h.client ≡ o.client → Lasts now h.lease → o.read.epoch < h.epoch
AreApart now (Opens o) (Opens p) = Unit {0}
AreApart now Away part = Unit {0}
AreApart now (AtHome h) Away = Unit {0}
AreApart now (Opens o) Away = Unit {0}

pub record HomesHold (t : Tally) (now : ℕ) (parts : Parts) : Type 0 where
  pub each : (session : ℕ) → PartHolds t now (parts session)
  pub apart : (s u : ℕ) → s ≢ u → AreApart now (parts s) (parts u)

-- the ATOMIC message of a number is none that the commit of a session whose lease lasts needs
abbrev pub IsSpared : Tally → ℕ → Parts → ℕ → ℕ → Type 0
IsSpared t now parts client id =
    (session : ℕ) (h : Home) (r : AtomicRec) → parts session ≡ AtHome h → h.client ≡ client → Lasts now h.lease → IsIn h.needed r → IsLogMessage (t.logged client) id r → ⊥
