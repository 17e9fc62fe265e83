-- What the cloud in memory answers and leaves, exactly.
use Rattle.std.specs.Prelude.{ℕ, ◌≡◌, ◌+◌, ◌&&◌, ◌⊎◌, Bool, cond, if◌then◌else◌, not, nat_le, nat_lt, min, List, [], length, take, Option, Some, None, is_none}
use Rattle.db_base.specs.declared.names.Lock.{Lock}
use Rattle.db_base.specs.declared.wish.Wish.{Wish}
use Rattle.db_base.specs.declared.wish.Wish.TheVariants.{Give}
use Rattle.cloud_trait.specs.declared.answer.Answer.{Answer}
use Rattle.cloud_trait.specs.declared.answer.Answer.TheVariants.{Got, Sent, Received, Listed, Done, Given, Held, Renewed, Late, Failed, Memory}
use Rattle.cloud_trait.specs.declared.state.Version.{Version}
use Rattle.cloud_trait.specs.declared.state.Hold.{Hold}
use Rattle.cloud_trait.specs.Caller.{Caller}
use Rattle.cloud_trait.specs.Claim.{Claim, extended}
use Rattle.cloud_trait.specs.State.{CloudState, Counts, greatest, newest, version_at, end_after, lease_given, taken}
use Rattle.cloud_trait.specs.Delivery.{unmarked}
use Rattle.cloud_trait.specs.Listing.{IsListing}
use Rattle.cloud_trait.specs.Ask.{Ask, Get, GetHeld, PutHeld, ListHeld, RemoveHeld, Send, Receive, Delete, Take, Renew, Release, effect}
use Rattle.memory_cloud.specs.Choice.{chosen}
use Rattle.memory_cloud.specs.declared.mood.Mood.{Mood}
use Rattle.memory_cloud.specs.declared.mood.Mood.TheVariants as mood

-- the end of the lease, where it is over
abbrev pub end_if_over : ℕ → Claim → Option ℕ
end_if_over now l = cond (nat_le l.end now) (Some l.end) None

-- the end of the second lease, where there is one and it is over
abbrev pub end_of_second : ℕ → Option Claim → Option ℕ
end_of_second now None = None
end_of_second now (Some l) = end_if_over now l

-- the end of the first lease that is over
abbrev pub end_of_first : ℕ → Claim → Option Claim → Option ℕ
end_of_first now one two = cond (nat_le one.end now) (Some one.end) (end_of_second now two)

-- the end of the first lease that the call names and that is over
abbrev pub late : Ask → CloudState → Option ℕ
late (GetHeld name l) b = end_if_over b.now l
late (PutHeld name bytes one two) b = end_of_first b.now one two
late (ListHeld tree l) b = end_if_over b.now l
late (RemoveHeld name l) b = end_if_over b.now l
late (Renew l ticks) b = end_if_over b.now l
late ask b = None

-- a lock can be given: it is not held, and its generation can rise
abbrev pub is_free : Hold → ℕ → Bool
is_free h now = nat_le h.until now && nat_lt h.generation greatest

-- a lock that is not held, and whose generation cannot rise
abbrev pub is_spent : Hold → ℕ → Bool
is_spent h now = nat_le h.until now && not (nat_lt h.generation greatest)

-- the same of a lock in a state
abbrev pub is_spent_in : CloudState → Lock → Bool
is_spent_in b lock = is_spent (b.locks lock) b.now

-- the lock is given where it is free, and the lease of that
abbrev pub given_if_free : Lock → ℕ → CloudState → CloudState
given_if_free lock ticks b = if is_free (b.locks lock) b.now then taken lock ticks b else b

abbrev pub lease_if_free : Lock → ℕ → CloudState → Option Claim
lease_if_free lock ticks b = if is_free (b.locks lock) b.now then Some (lease_given lock ticks b) else None

-- the call may land
abbrev pub may_land : Ask → CloudState → Bool
may_land (Take lock ticks) b = is_free (b.locks lock) b.now
may_land ask b = is_none (late ask b)

-- Late where a lease is over
abbrev pub in_time : Option ℕ → ℕ → Answer → Answer
in_time None now a = a
in_time (Some e) now a = Late e now

-- a listing answers Late where its lease is over, and else just the pages of the tree whose newest version has bytes
abbrev pub Lists : Option ℕ → ℕ → CloudState → Answer → Type 0
Lists None tree b (Listed pages) = IsListing b tree pages
Lists None tree b a = ⊥
Lists (Some e) tree b a = a ≡ Late e b.now

-- what a call answers that goes as it should
abbrev pub AnswersPlainly : Ask → CloudState → Answer → Type 0
AnswersPlainly (Get name) b a = a ≡ Got (newest b name)
AnswersPlainly (GetHeld name l) b a = a ≡ in_time (end_if_over b.now l) b.now (Got (newest b name))
AnswersPlainly (PutHeld name bytes one two) b a = a ≡ in_time (end_of_first b.now one two) b.now Done
AnswersPlainly (ListHeld tree l) b a = Lists (end_if_over b.now l) tree b a
AnswersPlainly (RemoveHeld name l) b a = a ≡ in_time (end_if_over b.now l) b.now Done
AnswersPlainly (Send queue bytes) b a = a ≡ Sent (length (b.messages queue) + 1)
AnswersPlainly (Receive queue most) b a = a ≡ Received (take most (unmarked (b.messages queue)))
AnswersPlainly (Delete queue id) b a = a ≡ Done
AnswersPlainly (Take lock ticks) b a = a ≡ cond (is_free (b.locks lock) b.now) (Given (lease_given lock ticks b)) (Held (b.locks lock).until)
AnswersPlainly (Renew l ticks) b a = a ≡ in_time (end_if_over b.now l) b.now (Renewed (end_after b.now ticks))
AnswersPlainly (Release l) b a = a ≡ Done

-- the bytes of the n-th version, removals counted; none for 0 and of a removal, the newest where n is too large
abbrev pub old_version : List Version → ℕ → Option (List ℕ)
old_version vs n = version_at vs (min n (length vs))

-- the positions that a wish gives
abbrev pub positions_in : Wish → List ℕ
positions_in (Give ps) = ps
positions_in w = []

-- the positions that the wish of the newest call gives
abbrev pub positions_of : Option (Caller × Wish) → List ℕ
positions_of None = []
positions_of (Some l) = positions_in l.1

-- what the call answers
abbrev pub Answers : Mood → Ask → CloudState → Answer → Type 0
Answers mood.Fail ask b a = a ≡ Failed
Answers mood.Lost ask b a = a ≡ in_time (late ask b) b.now Failed
Answers mood.Hide (Receive queue most) b a = a ≡ Received []
Answers mood.Hide (Take lock ticks) b a = a ≡ Held b.now
Answers (mood.Old n) (Get name) b a = a ≡ Got (old_version (b.versions name) n)
Answers mood.Give (Receive queue most) b a = a ≡ Received (take most (chosen (b.messages queue) (positions_of b.last)))
Answers m ask b a = AnswersPlainly ask b a

-- what the call leaves
abbrev pub state_in : Mood → Caller → Ask → CloudState → CloudState
state_in mood.Fail who ask b = b
state_in mood.Hide who (Take lock ticks) b = b
state_in m who ask b = cond (may_land ask b) (effect who ask b) b

-- one failure more
abbrev pub one_fault : Counts → Counts
one_fault c = record c { faults = c.faults + 1 }

-- one withheld message or lock more
abbrev pub one_withheld : Counts → Counts
one_withheld c = record c { withheld = c.withheld + 1 }

-- one stale get more
abbrev pub one_stale : Counts → Counts
one_stale c = record c { stale = c.stale + 1 }

-- what the call leaves of the counts
abbrev pub counts_in : Mood → Ask → CloudState → Counts → Counts
counts_in mood.Fail ask b c = one_fault c
counts_in mood.Lost ask b c = cond (is_none (late ask b)) (one_fault c) c
counts_in mood.Hide (Receive queue most) b c = one_withheld c
counts_in mood.Hide (Take lock ticks) b c = one_withheld c
counts_in (mood.Old n) (Get name) b c = one_stale c
counts_in mood.Give (Receive queue most) b c = one_withheld c
counts_in m (Take lock ticks) b c = cond (is_spent (b.locks lock) b.now) (one_withheld c) c
counts_in m ask b c = c

-- the counts and the state of a cloud
abbrev pub Holding : Type 0
Holding = Counts × CloudState

-- a call did what its mood says, or memory ran out and it did nothing
abbrev pub Follows : Mood → Caller → Ask → Answer → Holding → Holding → Type 0
Follows m who ask a old new =
    (Answers m ask old.1 a × (new.1 ≡ state_in m who ask old.1) × (new.0 ≡ counts_in m ask old.1 old.0))
    ⊎ ((a ≡ Memory) × (new.1 ≡ old.1) × (new.0 ≡ old.0))

-- what a renewal leaves of the lease
abbrev pub lease_in : Mood → Claim → ℕ → CloudState → Claim
lease_in mood.Fail l ticks b = l
lease_in m l ticks b = cond (nat_le l.end b.now) l (extended l (end_after b.now ticks))
