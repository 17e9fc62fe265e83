-- The leases that sessions have in hand, and the locks.
use Rattle.std.specs.Prelude.{ℕ, ◌≡◌, ◌≢◌, ◌<◌, ◌≤◌, ◌⊎◌, List, slice_get, Some}
use Rattle.std.specs.Option.{IfSome}
use Rattle.cloud_facts.specs.Words.{Lock, Answer, CloudState, Caller, Claim, Lasts, Ask, Get, GetHeld, PutHeld, Send, Receive, Delete, Take, Renew, Release}
use Rattle.cloud_trait.specs.declared.answer.Answer.TheVariants.{Given}
use Rattle.cloud_trait.specs.declared.state.Hold.{Hold}
use Rattle.cloud_trait.specs.Ask.{ListHeld, RemoveHeld}
use Rattle.cloud_trait.specs.Weather.{RenewsBoth}

-- the leases in hand of each session
abbrev pub Hands : Type 0
Hands = ℕ → List Claim

abbrev pub Holds : Hands → ℕ → Claim → Type 0
Holds hands session l = (place : ℕ) × (slice_get (hands session) place ≡ Some l)

-- two leases are of one lock and one generation of it
pub record AreOne (l m : Claim) : Type 0 where
  pub lock : l.lock ≡ m.lock
  pub generation : l.generation ≡ m.generation

-- how a lease in hand stands to its lock: it was given, and the lock has come to its generation; one that lasts is of the lock's own
-- generation, and one of that generation does not outlast the lock
pub record Stands (now : ℕ) (hold : Hold) (l : Claim) : Type 0 where
  pub given : 0 < l.generation
  pub within : l.generation ≤ hold.generation
  pub lasting : Lasts now l → l.generation ≡ hold.generation
  pub ends : l.generation ≡ hold.generation → l.end ≤ hold.until

-- every lease in hand stands so, and two sessions have no lock in one generation
pub record LeasesHold (now : ℕ) (locks : Lock → Hold) (hands : Hands) : Type 0 where
  pub each : (session : ℕ) (l : Claim) → Holds hands session l → Stands now (locks l.lock) l
  pub apart : (s u : ℕ) (l m : Claim) → s ≢ u → Holds hands s l → Holds hands u m → AreOne l m → ⊥

-- ---- what a call does to the leases in hand

-- the leases that a call names are the session's own
abbrev pub Owns : Hands → ℕ → Ask → Type 0
Owns hands session (Get name) = Unit {0}
Owns hands session (GetHeld name l) = Holds hands session l
Owns hands session (PutHeld name bytes one two) = Holds hands session one × IfSome two (Holds hands session)
Owns hands session (ListHeld tree l) = Holds hands session l
Owns hands session (RemoveHeld name l) = Holds hands session l
Owns hands session (Send queue bytes) = Unit {0}
Owns hands session (Receive queue most) = Unit {0}
Owns hands session (Delete queue id) = Unit {0}
Owns hands session (Take lock ticks) = Unit {0}
Owns hands session (Renew l ticks) = Holds hands session l
Owns hands session (Release l) = Holds hands session l

-- a lease that the session has after a call, where `renewed` is what a renewal leaves of its lease: one that it had, and none that it gave
-- back or renewed; or the one that it was given, or the renewed one
abbrev pub KeptBy : Ask → Claim → Type 0
KeptBy (Renew l ticks) x = AreOne l x → ⊥
KeptBy (Release l) x = AreOne l x → ⊥
KeptBy (Get name) x = Unit {0}
KeptBy (GetHeld name l) x = Unit {0}
KeptBy (PutHeld name bytes one two) x = Unit {0}
KeptBy (ListHeld tree l) x = Unit {0}
KeptBy (RemoveHeld name l) x = Unit {0}
KeptBy (Send queue bytes) x = Unit {0}
KeptBy (Receive queue most) x = Unit {0}
KeptBy (Delete queue id) x = Unit {0}
KeptBy (Take lock ticks) x = Unit {0}

abbrev pub GainedBy : Ask → Answer → Claim → Claim → Type 0
GainedBy (Take lock ticks) (Given l) renewed x = x ≡ l
GainedBy (Take lock ticks) answer renewed x = ⊥
GainedBy (Renew l ticks) answer renewed x = x ≡ renewed
GainedBy ask answer renewed x = ⊥

-- the leases in hand after a call of a session; it may drop any of its own besides
pub record HandsAfter (session : ℕ) (ask : Ask) (answer : Answer) (renewed : Claim) (old new : Hands) : Type 0 where
  pub others : (other : ℕ) → other ≢ session → new other ≡ old other
  pub own : (x : Claim) → Holds new session x → (Holds old session x × KeptBy ask x) ⊎ GainedBy ask answer renewed x

-- what a renewal leaves of its lease: it is as it was, or extended where it landed
abbrev pub RenewedTo : Caller → Ask → Claim → CloudState → CloudState → Type 0
RenewedTo who (Renew l ticks) m b t = RenewsBoth who ticks l m b t
RenewedTo who (Get name) m b t = Unit {0}
RenewedTo who (GetHeld name l) m b t = Unit {0}
RenewedTo who (PutHeld name bytes one two) m b t = Unit {0}
RenewedTo who (ListHeld tree l) m b t = Unit {0}
RenewedTo who (RemoveHeld name l) m b t = Unit {0}
RenewedTo who (Send queue bytes) m b t = Unit {0}
RenewedTo who (Receive queue most) m b t = Unit {0}
RenewedTo who (Delete queue id) m b t = Unit {0}
RenewedTo who (Take lock ticks) m b t = Unit {0}
RenewedTo who (Release l) m b t = Unit {0}
