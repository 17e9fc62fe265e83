-- What each service call may answer, and what it leaves: one table.
use Rattle.std.specs.Prelude.{ℕ, ◌≡◌, ◌+◌, ◌≤◌, ◌<◌, ◌⊎◌, length, Option, Some, None, All, IsSomeAnd}
use Rattle.db_base.specs.declared.names.ObjName.{ObjName}
use Rattle.cloud_trait.specs.declared.answer.Answer.{Answer}
use Rattle.cloud_trait.specs.declared.answer.Answer.TheVariants.{Got, Sent, Received, Listed, Done, Given, Held, Renewed, Late, Failed, Memory}
use Rattle.cloud_trait.specs.Caller.{Caller}
use Rattle.cloud_trait.specs.Claim.{Claim, Lasts, IsOver, extended}
use Rattle.cloud_trait.specs.State.{CloudState, Counts, put_at, newest, version_at, called, end_after, lease_given}
use Rattle.cloud_trait.specs.Names.{object_cmp}
use Rattle.cloud_trait.specs.Seen.{Seen, Showing}
use Rattle.cloud_trait.specs.Delivery.{WasSent, IsDelivering}
use Rattle.cloud_trait.specs.Listing.{AscendAbove, IsListing}
use Rattle.cloud_trait.specs.Ask.{Ask, Get, GetHeld, PutHeld, ListHeld, RemoveHeld, Send, Receive, Delete, Take, Renew, Release, Lands}

-- a count rose
abbrev pub Rose : ℕ → ℕ → Type 0
Rose before after = before < after

-- no count falls
pub record Rises (c d : Counts) : Type 0 where
  pub faults : c.faults ≤ d.faults
  pub withheld : c.withheld ≤ d.withheld
  pub stale : c.stale ≤ d.stale
  pub dark : c.dark ≤ d.dark

-- the first lease that is over has this end
abbrev pub FirstOver : ℕ → Claim → Option Claim → ℕ → Type 0
FirstOver now one two end =
    (IsOver now one × (end ≡ one.end)) ⊎ (Lasts now one × IsSomeAnd two (λ l. IsOver now l × (end ≡ l.end)))

-- the counts of a cloud, with a state of it
pub record Counted : Type 0 where
  pub counts : Counts
  pub state : CloudState

abbrev pub counted : Counts → CloudState → Counted
counted counts state = record { counts = counts; state = state }

-- what a call may answer and leave, from the state that differs from the one before in the clock, the
-- newest call and the wish alone
abbrev pub Weather : Caller → Ask → Answer → Counted → Counted → Type 0
Weather who ask Failed from to = (to.state ≡ from.state) ⊎ Lands who ask from.state to.state
Weather who ask Memory from to = to.state ≡ from.state
Weather who (Get name) (Got v) from to =
    (to.state ≡ from.state) × ((k : ℕ) × (v ≡ version_at (from.state.versions name) k)) × ((v ≡ newest from.state name) ⊎ Rose from.counts.stale to.counts.stale)
Weather who (GetHeld name l) (Got v) from to = (to.state ≡ from.state) × Lasts from.state.now l × (v ≡ newest from.state name)
Weather who (GetHeld name l) (Late e n) from to = (to.state ≡ from.state) × IsOver from.state.now l × (e ≡ l.end) × (n ≡ from.state.now)
Weather who (PutHeld name bytes one two) Done from to = Lands who (PutHeld name bytes one two) from.state to.state
Weather who (PutHeld name bytes one two) (Late e n) from to = (to.state ≡ from.state) × FirstOver from.state.now one two e × (n ≡ from.state.now)
Weather who (ListHeld tree l) (Listed ps) from to = (to.state ≡ from.state) × Lasts from.state.now l × IsListing from.state tree ps
Weather who (ListHeld tree l) (Late e n) from to = (to.state ≡ from.state) × IsOver from.state.now l × (e ≡ l.end) × (n ≡ from.state.now)
Weather who (RemoveHeld name l) Done from to = Lands who (RemoveHeld name l) from.state to.state
Weather who (RemoveHeld name l) (Late e n) from to = (to.state ≡ from.state) × IsOver from.state.now l × (e ≡ l.end) × (n ≡ from.state.now)
Weather who (Send queue bytes) (Sent id) from to = Lands who (Send queue bytes) from.state to.state × (id ≡ length (from.state.messages queue) + 1)
Weather who (Receive queue most) (Received ms) from to =
    (to.state ≡ from.state) × All (WasSent (from.state.messages queue)) ms × (IsDelivering (from.state.messages queue) most ms ⊎ Rose from.counts.withheld to.counts.withheld)
Weather who (Delete queue id) Done from to = Lands who (Delete queue id) from.state to.state
Weather who (Take lock ticks) (Given l) from to = Lands who (Take lock ticks) from.state to.state × (l ≡ lease_given lock ticks from.state)
Weather who (Take lock ticks) (Held until) from to =
    (to.state ≡ from.state) × (((until ≡ (from.state.locks lock).until) × (from.state.now < until)) ⊎ Rose from.counts.withheld to.counts.withheld)
Weather who (Renew l ticks) (Renewed e) from to = Lands who (Renew l ticks) from.state to.state × (e ≡ end_after from.state.now ticks)
Weather who (Renew l ticks) (Late e n) from to = (to.state ≡ from.state) × IsOver from.state.now l × (e ≡ l.end) × (n ≡ from.state.now)
Weather who (Release l) Done from to = Lands who (Release l) from.state to.state
Weather who ask answer from to = ⊥

-- what holds of an answer also over a cloud that tells no state
abbrev pub Fits : Ask → Answer → Type 0
Fits ask Failed = Unit {0}
Fits ask Memory = Unit {0}
Fits (Get name) (Got v) = Unit {0}
Fits (GetHeld name l) (Got v) = Unit {0}
Fits (GetHeld name l) (Late e n) = IsOver n l × (e ≡ l.end)
Fits (PutHeld name bytes one two) Done = Unit {0}
Fits (PutHeld name bytes one two) (Late e n) = FirstOver n one two e
Fits (ListHeld tree l) (Listed ps) = AscendAbove 0 ps
Fits (ListHeld tree l) (Late e n) = IsOver n l × (e ≡ l.end)
Fits (RemoveHeld name l) Done = Unit {0}
Fits (RemoveHeld name l) (Late e n) = IsOver n l × (e ≡ l.end)
Fits (Send queue bytes) (Sent id) = Unit {0}
Fits (Receive queue most) (Received ms) = length ms ≤ most
Fits (Delete queue id) Done = Unit {0}
Fits (Take lock ticks) (Given l) = l.lock ≡ lock
Fits (Take lock ticks) (Held until) = Unit {0}
Fits (Renew l ticks) (Renewed e) = Unit {0}
Fits (Renew l ticks) (Late e n) = IsOver n l × (e ≡ l.end)
Fits (Release l) Done = Unit {0}
Fits ask answer = ⊥

-- what a call leaves of a told state: the clock does not fall, and the table's row holds
pub record Leaves (who : Caller) (ask : Ask) (answer : Answer) (from : Counted) (d : Counts) (new : Option CloudState) : Type 0 where
  pub after : CloudState
  pub told : new ≡ Some after
  pub later : from.state.now ≤ after.now
  pub row : Weather who ask answer (counted from.counts (called who after.now from.state)) (counted d after)

-- what a call may leave of what looks show: all, or of a put or a removal all but its object, which has the new bytes or none
abbrev pub LeavesShown : Ask → Showing → Showing → Type 0
LeavesShown (PutHeld put bytes one two) p q =
    ((name : ObjName) → q name ≡ p name) ⊎ ((name : ObjName) → q name ≡ put_at object_cmp p put (Some bytes) name)
LeavesShown (RemoveHeld gone l) p q =
    ((name : ObjName) → q name ≡ p name) ⊎ ((name : ObjName) → q name ≡ put_at object_cmp p gone None name)
LeavesShown ask p q = (name : ObjName) → q name ≡ p name

-- where the cloud tells what looks show, it tells it after a call too, and that is what the call may leave
abbrev pub GoesOnShowing : Ask → Option Showing → Option Showing → Type 0
GoesOnShowing ask old new = (p : Showing) → old ≡ Some p → (q : Showing) × (new ≡ Some q) × LeavesShown ask p q

-- what one service call is, by what it asked and answered: where the cloud tells what it answered, that is the answer; want
-- of memory raises no count
pub record Makes (who : Caller) (ask : Ask) (answer : Answer) (old new : Seen) : Type 0 where
  pub fits : Fits ask answer
  pub heard : (a : Answer) → new.heard ≡ Some a → answer ≡ a
  pub counts : Rises old.counts new.counts
  pub dark : new.counts.dark ≡ old.counts.dark
  pub failed : answer ≡ Failed → Rose old.counts.faults new.counts.faults
  pub memory : answer ≡ Memory → new.counts ≡ old.counts
  pub shown : GoesOnShowing ask old.shown new.shown
  pub state : (s : CloudState) → old.state ≡ Some s → Leaves who ask answer (counted old.counts s) new.counts new.state

-- what a failed renewal leaves of a told state and of the lease: both as they were, or both renewed
abbrev pub RenewsBoth : Caller → ℕ → Claim → Claim → CloudState → CloudState → Type 0
RenewsBoth who ticks l m b t =
    ((t ≡ b) × (m ≡ l)) ⊎ (Lands who (Renew l ticks) b t × (m ≡ extended l (end_after b.now ticks)))

-- a lease, with what is seen of the cloud
pub record Leased : Type 0 where
  pub lease : Claim
  pub seen : Seen

abbrev pub leased : Claim → Seen → Leased
leased lease seen = record { lease = lease; seen = seen }

-- what a renewal leaves of the lease
abbrev pub RenewsLease : Caller → ℕ → Answer → Leased → Leased → Type 0
RenewsLease who ticks (Renewed e) old new = new.lease ≡ extended old.lease e
RenewsLease who ticks Failed old new =
    (new.lease ≡ extended old.lease new.lease.end)
    × ((s t : CloudState) → old.seen.state ≡ Some s → new.seen.state ≡ Some t → RenewsBoth who ticks old.lease new.lease (called who t.now s) t)
RenewsLease who ticks answer old new = new.lease ≡ old.lease

-- a renewal that left the lease as it was, as this answer says
abbrev pub LeavesLeases : Caller → Answer → Seen → Seen → Type 0
LeavesLeases who answer old new = (ticks : ℕ) (l : Claim) → RenewsLease who ticks answer (leased l old) (leased l new)

-- whatever was asked, it was answered so
abbrev pub MakesAny : Caller → Answer → Seen → Seen → Type 0
MakesAny who answer old new = (ask : Ask) → Makes who ask answer old new
