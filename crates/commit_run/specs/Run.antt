-- A whole commit as a machine beside the cache: what it knows, what it asks, and where each answer leads.
use Rattle.std.specs.Prelude.{◌≡◌, ◌≢◌, ℕ, ◌≤◌, Bool, true, false, nat_lt, if◌then◌else◌, List, length, slice_get, Option, Some, None}
use Rattle.std.specs.Option.{option_map}
use Rattle.db_base.specs.Change.{key_of}
use Rattle.db_base.specs.declared.trouble.Trouble.{Trouble}
use Rattle.db_base.specs.declared.trouble.Trouble.TheVariants as trouble
use Rattle.db_base.specs.declared.trouble.Counter.TheVariants as counter
use Rattle.db_base.specs.declared.trouble.CommitAnswer.{CommitAnswer}
use Rattle.db_base.specs.declared.trouble.CommitAnswer.TheVariants.{NotCommitted}
use Rattle.head_codec.specs.declared.head.Head.{Head}
use Rattle.head_codec.specs.declared.lists.Pending.{Pending}
use Rattle.txn_buffer.specs.Noted.{Noted}
use Rattle.cloud_trait.specs.declared.answer.Answer.{Answer}
use Rattle.cloud_trait.specs.Ask.{Ask}
use Rattle.cloud_trait.specs.declared.turn.Turn.{Turn}
use Rattle.cloud_trait.specs.declared.turn.Turn.TheVariants.{More, Ended, Stopped}
use Rattle.cloud_trait.specs.Machine.{Next, Goes, Ends, Stops, Machine, machine_by, LeadsBy}
use Rattle.recover_run.specs.declared.home.Home.{Home}
use Rattle.page_cache.specs.Cache.{Cache}
use Rattle.tree_walk.specs.Walk.{Walk, sought, new_walk, walk_ask, walk_ready, walk_next}
use Rattle.commit_writes.specs.Writing.{Writing, waiting, numbered, is_spent, routing, finished, writing_ask, writing_next, opens_at}
use Rattle.commit_run.specs.declared.hand.Hand.{Hand}
use Rattle.commit_run.specs.declared.hand.Hand.TheVariants.{Writes, First, Change}
use Rattle.commit_run.specs.Draft.{Draft, KnowsNoMore, new_draft, pruned_behind, planned, leaf_noted, paged}

-- the draft, and what is in hand: a walk, or what the commit writes
pub record Run : Type 0 where
  pub draft : Draft
  pub hand : Hand

-- the commit of changes by a home, before its first call
abbrev pub new_run : Home → List Noted → Run
new_run home changes = record { draft = new_draft (waiting home changes); hand = Writes }

abbrev pub home_of : Run → Home
home_of r = r.draft.writes.home

-- the tree and key of the first change whose leaf is not known
abbrev pub target_of : Noted → ℕ × List ℕ
target_of n = (n.tree, key_of n.change)

abbrev pub next_target : Draft → Option (ℕ × List ℕ)
next_target d = option_map target_of (slice_get d.writes.changes (length d.plan.pages))

-- while a walk is in hand the home has taken its number, and a walk for a change is for the next one
abbrev pub IsHeld : Draft → Hand → Type 0
IsHeld d Writes = Unit {0}
IsHeld d (First w) = (1 ≤ d.writes.home.attempt) × KnowsNoMore d
IsHeld d (Change w) = (1 ≤ d.writes.home.attempt) × (next_target d ≡ Some (w.tree, sought w))

-- ---- the call in hand

abbrev pub ask_at : Hand → Writing → Ask
ask_at Writes w = writing_ask w
ask_at (First walk) w = walk_ask walk
ask_at (Change walk) w = walk_ask walk

abbrev pub run_ask : Run → Ask
run_ask r = ask_at r.hand r.draft.writes

-- the same beside the cache
abbrev pub asks : Run × Cache → Ask
asks m = run_ask m.0

-- the head that the put in hand opens, where it is the one that commits; a walk puts none
abbrev pub opens_in : Hand → Writing → Option Head
opens_in Writes w = opens_at w.stage w
opens_in (First walk) w = None
opens_in (Change walk) w = None

abbrev pub run_opens : Run → Option Head
run_opens r = opens_in r.hand r.draft.writes

-- ---- from the writes

abbrev pub written : Draft → Writing → Run
written d w = record { draft = record d { writes = w }; hand = Writes }

abbrev pub wrote : Draft → Cache → Next Writing CommitAnswer → Next (Run × Cache) CommitAnswer
wrote d c (Goes w) = Goes (written d w, c)
wrote d c (Ends w a) = Ends (written d w, c) a
wrote d c (Stops w t) = Stops (written d w, c) t

-- the records are written to the pages that are known
abbrev pub routed_on : Draft → Cache → Next (Run × Cache) CommitAnswer
routed_on d c = wrote d c (routing d.writes d.plan.pages)

-- nothing was committed
abbrev pub refused : Draft → Cache → Trouble → Next (Run × Cache) CommitAnswer
refused d c t = Ends (written d (finished d.writes), c) (NotCommitted t)

-- a trouble of a walk; want of memory stops
abbrev pub troubled : Draft → Cache → Trouble → Next (Run × Cache) CommitAnswer
troubled d c trouble.Memory = Stops (written d d.writes, c) trouble.Memory
troubled d c t = refused d c t

-- ---- from one walk to the next

-- a walk in hand is that for a long list of pending entries, or that of a change
abbrev pub held : Bool → Walk → Hand
held true w = First w
held false w = Change w

-- the walk is in hand
abbrev pub walking : Bool → Draft → Walk → Cache → Next (Run × Cache) CommitAnswer
walking first d w c = Goes (record { draft = d; hand = held first w }, c)

-- where a turn of a walk leads, by the walk and the cache that it left
abbrev pub by_turn : (Walk → Cache → Turn ℕ → Next (Run × Cache) CommitAnswer) → Next (Walk × Cache) ℕ → Next (Run × Cache) CommitAnswer
by_turn on (Goes m) = on m.0 m.1 More
by_turn on (Ends m page) = on m.0 m.1 (Ended page)
by_turn on (Stops m t) = on m.0 m.1 (Stopped t)

-- a walk begins; it comes to no end before its first call
abbrev pub begun_turn : Bool → Draft → Walk → Cache → Turn ℕ → Next (Run × Cache) CommitAnswer
begun_turn first d w c More = walking first (pruned_behind d w c) w c
begun_turn first d w c (Ended page) = walking first (pruned_behind d w c) w c
begun_turn first d w c (Stopped t) = troubled (pruned_behind d w c) c t

abbrev pub walk_to : Bool → Draft → Cache → ℕ × List ℕ → Next (Run × Cache) CommitAnswer
walk_to first d c to = by_turn (begun_turn first d) (walk_ready (new_walk to.0 (Some to.1) first, c))

-- the next change needs a walk; behind the last one the records are written
abbrev pub seek : Draft → Cache → Option (ℕ × List ℕ) → Next (Run × Cache) CommitAnswer
seek d c (Some to) = walk_to false d c to
seek d c None = routed_on d c

abbrev pub plan_on : Draft → Cache → Next (Run × Cache) CommitAnswer
plan_on d c = seek (planned d) c (next_target (planned d))

-- a walk came to this page
abbrev pub walk_ended : Draft → Walk → Cache → ℕ → Next (Run × Cache) CommitAnswer
walk_ended d w c page = plan_on (leaf_noted d w c page) c

-- a stale walk counts as having come to page 1; that for a long list is passed over
abbrev pub stale_at : Bool → Draft → Cache → Next (Run × Cache) CommitAnswer
stale_at true d c = plan_on d c
stale_at false d c = plan_on (paged d 1) c

abbrev pub is_stale : Trouble → Bool
is_stale (trouble.Stale page least found) = true
is_stale t = false

abbrev pub walk_stopped : Bool → Draft → Cache → Trouble → Next (Run × Cache) CommitAnswer
walk_stopped first d c t = if is_stale t then stale_at first d c else troubled d c t

-- the tree object or leaf that a turn used prunes the head; the leaf at which a walk ends is known from then on
abbrev pub walk_turned : Bool → Draft → Walk → Cache → Turn ℕ → Next (Run × Cache) CommitAnswer
walk_turned first d w c More = walking first (pruned_behind d w c) w c
walk_turned first d w c (Ended page) = walk_ended (pruned_behind d w c) w c page
walk_turned first d w c (Stopped t) = walk_stopped first (pruned_behind d w c) c t

abbrev pub walked : Bool → Draft → Walk → Cache → Answer → Next (Run × Cache) CommitAnswer
walked first d w c a = by_turn (walk_turned first d) (walk_next (w, c) a)

-- ---- turns

-- a head of more than 256 pending entries is pruned first, by a walk to the first of them
abbrev pub long_walk : Draft → Cache → Option (ℕ × List ℕ) → Next (Run × Cache) CommitAnswer
long_walk d c (Some to) = walk_to true d c to
long_walk d c None = plan_on d c

-- the tree and key of the first pending entry, where there are more than 256
abbrev pub pending_target : Pending → ℕ × List ℕ
pending_target e = (e.tree, key_of e.change)

-- pending entries beyond these are many
abbrev pub long_pending : ℕ
long_pending = 256

abbrev pub long_target : List Pending → Option (ℕ × List ℕ)
long_target pending = if nat_lt long_pending (length pending) then option_map pending_target (slice_get pending 0) else None

abbrev pub begin_walks : Draft → Cache → Next (Run × Cache) CommitAnswer
begin_walks d c = long_walk d c (long_target d.writes.home.head.pending)

-- before the first call: the next attempt number is taken
abbrev pub run_ready : Run × Cache → Next (Run × Cache) CommitAnswer
run_ready m =
    if is_spent m.0.draft.writes.home
    then refused (new_draft m.0.draft.writes) m.1 (trouble.Exhausted counter.Txn)
    else begin_walks (new_draft (numbered m.0.draft.writes)) m.1

abbrev pub next_at : Hand → Draft → Cache → Answer → Next (Run × Cache) CommitAnswer
next_at Writes d c a = wrote d c (writing_next d.writes a)
next_at (First w) d c a = walked true d w c a
next_at (Change w) d c a = walked false d w c a

-- where an answer leads
abbrev pub run_next : Run × Cache → Answer → Next (Run × Cache) CommitAnswer
run_next m a = next_at m.0.hand m.0.draft m.1 a

-- a home as it was but for its head and its attempt
abbrev pub Keeps : Home → Home → Type 0
Keeps h n = n ≡ record h { head = n.head; attempt = n.attempt }

-- at want of memory too
abbrev pub KeepsHome : Run × Cache → Answer → Run × Cache → Type 0
KeepsHome m a n = Keeps (home_of m.0) (home_of n.0)

-- a commit beside its cache, as a machine
abbrev pub run_machine : Machine (Run × Cache) CommitAnswer
run_machine = machine_by asks (LeadsBy run_next) KeepsHome

-- the code was led so, unless memory ran out
abbrev pub Led : Next (Run × Cache) CommitAnswer → Run × Cache → Turn CommitAnswer → Type 0
Led next n More = next ≡ Goes n
Led next n (Ended a) = next ≡ Ends n a
Led next n (Stopped t) = t ≢ trouble.Memory → next ≡ Stops n t

-- a draft with this in hand, beside a cache
abbrev pub at_work : Draft → Hand → Cache → Run × Cache
at_work draft hand cache = (record { draft = draft; hand = hand }, cache)

-- the code was led so, to this draft beside this cache, with this in hand and this turn
abbrev pub LedTo : Next (Run × Cache) CommitAnswer → Draft → Cache → Hand × Turn CommitAnswer → Type 0
LedTo next draft cache led = Led next (at_work draft led.0 cache) led.1

-- this holds of the home and the changes that the run is new with
abbrev pub IfNew : Run → (Home → List Noted → Type 0) → Type 0
IfNew run holds = (home : Home) (changes : List Noted) → run ≡ new_run home changes → holds home changes
