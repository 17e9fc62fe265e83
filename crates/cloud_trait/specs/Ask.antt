-- What a service call asks for, and what it does where it lands.
use Rattle.std.specs.Prelude.{ℕ, ◌≡◌, ◌≤◌, List, Option, IfSome}
use Rattle.db_base.specs.declared.names.ObjName.{ObjName}
use Rattle.db_base.specs.declared.names.QueueName.{QueueName}
use Rattle.db_base.specs.declared.names.Lock.{Lock}
use Rattle.cloud_trait.specs.Caller.{Caller}
use Rattle.cloud_trait.specs.Claim.{Claim, Lasts}
use Rattle.cloud_trait.specs.State.{CloudState, landed, removed, sent, deleted, taken, renewed, released}

-- a service call, with what its references point to
pub data Ask : Type 0 where
  Get : (name : ObjName) → Ask
  GetHeld : (name : ObjName) (lease : Claim) → Ask
  PutHeld : (name : ObjName) (bytes : List ℕ) (first : Claim) (second : Option Claim) → Ask
  ListHeld : (tree : ℕ) (lease : Claim) → Ask
  RemoveHeld : (name : ObjName) (lease : Claim) → Ask
  Send : (queue : QueueName) (bytes : List ℕ) → Ask
  Receive : (queue : QueueName) (most : ℕ) → Ask
  Delete : (queue : QueueName) (id : ℕ) → Ask
  Take : (lock : Lock) (ticks : ℕ) → Ask
  Renew : (lease : Claim) (ticks : ℕ) → Ask
  Release : (lease : Claim) → Ask

-- the state after the call where it lands
abbrev pub effect : Caller → Ask → CloudState → CloudState
effect who (Get name) s = s
effect who (GetHeld name l) s = s
effect who (PutHeld name bytes one two) s = landed who name bytes s
effect who (ListHeld tree l) s = s
effect who (RemoveHeld name l) s = removed who name s
effect who (Send queue bytes) s = sent who queue bytes s
effect who (Receive queue most) s = s
effect who (Delete queue id) s = deleted queue id s
effect who (Take lock ticks) s = taken lock ticks s
effect who (Renew l ticks) s = renewed l ticks s
effect who (Release l) s = released l s

-- the call may land: the leases that it names last, and a lock that it takes is free
abbrev pub Permits : Ask → CloudState → Type 0
Permits (Get name) s = Unit {0}
Permits (GetHeld name l) s = Lasts s.now l
Permits (PutHeld name bytes one two) s = Lasts s.now one × IfSome two (Lasts s.now)
Permits (ListHeld tree l) s = Lasts s.now l
Permits (RemoveHeld name l) s = Lasts s.now l
Permits (Send queue bytes) s = Unit {0}
Permits (Receive queue most) s = Unit {0}
Permits (Delete queue id) s = Unit {0}
Permits (Take lock ticks) s = (s.locks lock).until ≤ s.now
Permits (Renew l ticks) s = Lasts s.now l
Permits (Release l) s = Unit {0}

-- the call landed
abbrev pub Lands : Caller → Ask → CloudState → CloudState → Type 0
Lands who ask b t = (t ≡ effect who ask b) × Permits ask b

-- the call moves no lock
abbrev pub MovesNoLock : Ask → Type 0
MovesNoLock (Take lock ticks) = ⊥
MovesNoLock (Renew l ticks) = ⊥
MovesNoLock (Release l) = ⊥
MovesNoLock ask = Unit {0}

-- the call puts no version, with bytes or without
abbrev pub PutsNothing : Ask → Type 0
PutsNothing (PutHeld name bytes one two) = ⊥
PutsNothing (RemoveHeld name l) = ⊥
PutsNothing ask = Unit {0}

-- the call touches no message
abbrev pub TouchesNoMessage : Ask → Type 0
TouchesNoMessage (Send queue bytes) = ⊥
TouchesNoMessage (Delete queue id) = ⊥
TouchesNoMessage ask = Unit {0}

-- the call leaves no row in the trace
abbrev pub LandsNoRow : Ask → Type 0
LandsNoRow (PutHeld name bytes one two) = ⊥
LandsNoRow (RemoveHeld name l) = ⊥
LandsNoRow (Send queue bytes) = ⊥
LandsNoRow ask = Unit {0}
