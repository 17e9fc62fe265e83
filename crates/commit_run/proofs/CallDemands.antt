-- Which answer each call of a whole commit demands, what it names, and that it ends well where it is calm.
use Rattle.std.proofs.Common.{◌≡◌, ◌≤◌, ◌+◌, ℕ, Bool, true, false, List, [], ◌∷◌, ◌++◌, length, Some, refl, ap, sym, subst, ◌∙◌, inl, inr, ◌⊎◌, arith}
use Rattle.std.specs.List.{AllByRecursion}
use Rattle.db_base.specs.declared.names.ObjName.TheVariants as object
use Rattle.db_base.specs.declared.names.QueueName.TheVariants as queue
use Rattle.db_base.specs.declared.trouble.Trouble.TheVariants as trouble
use Rattle.db_base.specs.declared.trouble.Counter.TheVariants as counter
use Rattle.db_base.specs.declared.trouble.CommitAnswer.TheVariants.{Committed, InDoubt, CommittedOpen}
use Rattle.cloud_trait.specs.declared.answer.Answer.TheVariants as answer
use Rattle.cloud_trait.specs.declared.turn.Turn.TheVariants.{Ended}
use Rattle.cloud_trait.specs.Ask.{PutHeld, Send, Delete, PutsNothing}
use Rattle.cloud_trait.specs.Caller.{Caller}
use Rattle.cloud_trait.specs.Seen.{Seen}
use Rattle.cloud_trait.specs.Weather.{Fits, Makes}
use Rattle.cloud_trait.specs.Calm.{GoesWell, IsCalm, AreCalm, ComesNext, AreAlone}
use Rattle.cloud_trait.proofs.CalmLemmas.{goes_well}
use Rattle.commit_writes.specs.Demands.{IsPut, NonePut, WasOpened, deletions_in, deletions, DemandsNot, Demands, Exactly}
use Rattle.commit_writes.specs.Meaning.{MeansTurn as WritesTurn}
use Rattle.commit_writes.specs.Leases.{IsSentTo, IsOwnCall}
use Rattle.commit_writes.specs.Stepped.{deed_of}
use Rattle.commit_writes.specs.Stepped.{Stepped as WritesStepped}
use Rattle.commit_writes.specs.Calm.{RaisesNoFault, AreMarked, AreGone}
use Rattle.commit_writes.specs.Calm.{EndsWell as WritesEndWell}
use Rattle.commit_writes.specs.Within.{Went as WritesWent}
use Rattle.commit_writes.proofs.Knows.{KnowsAt as WritesKnowAt}
use Rattle.commit_writes.proofs.Knows.{Knows as WritesKnow}
use Rattle.commit_writes.proofs.Meaning.{only_memory}
use Rattle.commit_writes.proofs.Meaning.{went_knows as writes_know}
use Rattle.commit_writes.proofs.Within.{opened_put}
use Rattle.commit_writes.proofs.Demands.{names_at}
use Rattle.commit_writes.proofs.RoutedLaws.{routed_some}
use Rattle.commit_run.specs.Causes.{TellsOf, ShowsReady, CausesReady}
use Rattle.commit_run.specs.Demands.{DemandsNext}
use Rattle.commit_run.specs.CallDemands.{IsOfCalls, StopsIn, Exact, IsRefusing, ExactReady}
use Rattle.commit_run.specs.Meaning.{IsRefused, Refuses}
use Rattle.commit_run.specs.Leases.{Names}
use Rattle.commit_run.specs.Plain.{IsPlain}
use Rattle.commit_run.specs.Stepped.{course_of, MeansWrites, MeansIn, Whole, Stepped}
use Rattle.commit_run.specs.Calm.{IsMet, IsWell, EndsWell}
use Rattle.commit_run.proofs.Words.{Trouble, CommitAnswer, NotCommitted, AtomicRec, Noted, Answer, Turn, More, Stopped, Ask, Get, Goes, Ends, Stops, LeadsBy, Took, Deed, Home, Cache, LinkShows, Walk, new_walk, walk_ask, walk_next, Stage, Waiting, Logging, Opening, Sending, Settling, Deleting, Finished, Writing, is_spent, writing_ask, Calls, told, routed_length, Hand, Writes, First, Change, Draft, Run, held, new_run, home_of, asks, ask_at, target_of, written, is_stale, walked, run_ready, run_next, Led, KeepsHome, walked_home, MeansWalks, left_by_turn, Trip, uses_of, Went, GetsNothing}
use Rattle.commit_run.proofs.Outcomes as step
use Rattle.commit_run.proofs.Outcomes.{NextRun, Behind, Comes, Starts, comes, starts}
use Rattle.commit_run.proofs.Causes.{Shown, WalkCause, walked_shown, write_causes, walk_causes, ready_causes}
use Rattle.commit_run.proofs.Knows.{KnowsHeld, KnowsWrites, KnowsAt}
use Rattle.commit_run.proofs.Leading.{wrote_took}
use Rattle.commit_run.proofs.Meaning.{went_knows, went_held, walk_means, told_append, same_records, writing_so}
use Rattle.commit_run.proofs.Plain.{plain_walks, goes_plainly}
use Rattle.commit_run.proofs.Trips.{IsGet, walks_get}
use Rattle.commit_run.proofs.Walked.{turned_by}

-- ---- behind a walk a commit ends with nothing committed, or not yet

abbrev pub IsNot : CommitAnswer → Type 0
IsNot (NotCommitted t) = Unit {0}
IsNot x = ⊥

not_by : (home : Home) (changes : List Noted) (c : Cache) (calls : Calls) (left : Home) (turn : Turn CommitAnswer) → MeansWalks home changes c calls left turn → (x : CommitAnswer) → turn ≡ Ended x → IsNot x
not_by home changes c calls left turn m x e = let so : IsRefused home changes m.trips left x = subst (Refuses home changes m.trips left) e m.means in subst IsNot (sym so.is) tt

-- ---- what the get of a walk demands

link_other : (c : Cache) (old w : Walk) (t : Trouble) → LinkShows c old w t → IsOfCalls (NotCommitted t) → ⊥
link_other c old w t (inl (s, at, led, inl level)) of = subst (λ (u : Trouble). IsOfCalls (NotCommitted u)) level.is of
link_other c old w t (inl (s, at, led, inr fence)) of = subst (λ (u : Trouble). IsOfCalls (NotCommitted u)) fence.is of
link_other c old w t (inr loop) of = subst (λ (u : Trouble). IsOfCalls (NotCommitted u)) loop.is of

-- where the answer alone shows why, the get failed
get_failed : (w : Walk) (c : Cache) (a : Answer) (changes : List Noted) (n : Run) (t : Trouble) → WalkCause w c a changes n t → IsOfCalls (NotCommitted t) → (t ≡ trouble.Failed) × (a ≡ answer.Failed)
get_failed w c a changes n t (inl (left, e, stale, inl (inl both))) of = both
get_failed w c a changes n t (inl (left, e, stale, inl (inr (got, answered, inl old)))) of = absurd (subst (λ (u : Trouble). IsOfCalls (NotCommitted u)) old.is of)
get_failed w c a changes n t (inl (left, e, stale, inl (inr (got, answered, inr damaged)))) of = absurd (subst (λ (u : Trouble). IsOfCalls (NotCommitted u)) damaged.is of)
get_failed w c a changes n t (inl (left, e, stale, inr (d, brings, link))) of = absurd (link_other d w left.0 t link of)
get_failed w c a changes n t (inr (inl (place, change, is, (left, e, link)))) of =
    absurd (link_other (left_by_turn (walk_next (w, c) a)).1 (new_walk change.tree (Some (target_of change).1) false) left.0 t link of)
get_failed w c a changes n t (inr (inr number)) of = absurd (subst (λ (u : Trouble). IsOfCalls (NotCommitted u)) number.0 of)

get_shows : (m k : ℕ) (cs : Calls) (w : Walk) (c : Cache) (a : Answer) (changes : List Noted) (n : Run) → NonePut cs → (x : CommitAnswer) → IsNot x → TellsOf (WalkCause w c a changes n) x → IsOfCalls x
    → Demands m k cs (walk_ask w) a x
get_shows m k cs w c a changes n none (Committed y) is tells of = absurd is
get_shows m k cs w c a changes n none (NotCommitted t) is tells of =
    let both : (t ≡ trouble.Failed) × (a ≡ answer.Failed) = get_failed w c a changes n t tells of in
    subst (λ (u : Trouble). DemandsNot cs (walk_ask w) a u) (sym both.0) (none, tt, both.1)
get_shows m k cs w c a changes n none InDoubt is tells of = absurd is
get_shows m k cs w c a changes n none (CommittedOpen t) is tells of = absurd is

-- of a step of the walk in hand
abbrev pub StepsWalk : Bool → Draft → Walk → Cache → Answer → Run × Cache → Turn CommitAnswer → Type 0
StepsWalk first d w c a n turn = Took (λ m b next. walked first d w c b ≡ next) KeepsHome (record { draft = d; hand = held first w }, c) a n turn

walk_took : (first : Bool) (d : Draft) (w : Walk) (c : Cache) (a : Answer) (n : Run × Cache) (turn : Turn CommitAnswer)
    → Took (LeadsBy run_next) KeepsHome (record { draft = d; hand = held first w }, c) a n turn → StepsWalk first d w c a n turn
walk_took true d w c a n More took = took
walk_took true d w c a n (Ended x) took = took
walk_took true d w c a n (Stopped t) took = took
walk_took false d w c a n More took = took
walk_took false d w c a n (Ended x) took = took
walk_took false d w c a n (Stopped t) took = took

-- a turn ends with the trouble, or memory ran out
abbrev pub EndsBy : Trouble → NextRun → Type 0
EndsBy t (Goes m) = ⊥
EndsBy t (Ends m y) = y ≡ NotCommitted t
EndsBy t (Stops m u) = u ≡ trouble.Memory

-- a walk that stops, and at no stale page, ends the commit
fresh_behind : {d e : Draft} {w : Walk} {c k : Cache} {a : Answer} {first : Bool} {after : Walk × Cache} {t : Trouble} → Behind d w c a first e k → walk_next (w, c) a ≡ Stops after t → is_stale t ≡ false → ⊥
fresh_behind (step.at_leaf first m page ended aims) stops fresh = absurd (cc (ended, stops))
fresh_behind (step.at_stale m u e stale) stops fresh = absurd (cc (e, stops, stale, fresh))
fresh_behind (step.passed_over m u e stale) stops fresh = absurd (cc (e, stops, stale, fresh))

stops_by : {d : Draft} {w : Walk} {c : Cache} {a : Answer} {first : Bool} {x : NextRun} {after : Walk × Cache} {t : Trouble} → Comes d w c a first x → walk_next (w, c) a ≡ Stops after t → is_stale t ≡ false
    → EndsBy t x
stops_by (step.goes m e is aims) stops fresh = absurd (cc (e, stops))
stops_by {t = t} (step.ends m u e own other) stops fresh = let same : u ≡ t = cc (e, stops) in ap NotCommitted same
stops_by (step.lacks m e) stops fresh = refl
stops_by (step.plans e k y from p) stops fresh = absurd (fresh_behind from stops fresh)

took_by : (first : Bool) (d : Draft) (w : Walk) (c : Cache) (a : Answer) (m : Run × Cache) (turn : Turn CommitAnswer) (t : Trouble) → StepsWalk first d w c a m turn → EndsBy t (walked first d w c a)
    → (turn ≡ Ended (NotCommitted t)) ⊎ (turn ≡ Stopped trouble.Memory)
took_by first d w c a m More t took by = absurd (subst (EndsBy t) took by)
took_by first d w c a m (Ended z) t took by = inl (ap Ended (subst (EndsBy t) took by))
took_by first d w c a m (Stopped u) t took by = inr (ap Stopped (only_memory u (λ other. subst (EndsBy t) (took.0 other) by)))

get_demands : (n k : ℕ) (cs : Calls) (first : Bool) (d : Draft) (w : Walk) (c : Cache) (a : Answer) (m : Run × Cache) (turn : Turn CommitAnswer) → NonePut cs → StepsWalk first d w c a m turn
    → (x : CommitAnswer) → Demands n k cs (walk_ask w) a x → (turn ≡ Ended x) ⊎ (turn ≡ Stopped trouble.Memory)
get_demands n k cs first d w c a m turn none took (Committed y) h = absurd h.1
get_demands n k cs first d w c a m turn none took (NotCommitted trouble.Failed) h =
    took_by first d w c a m turn trouble.Failed took (stops_by (comes d w c a first) (ap (λ (b : Answer). walk_next (w, c) b) h.2) refl)
get_demands n k cs first d w c a m turn none took (NotCommitted (trouble.Late end now)) h = absurd h.1
get_demands n k cs first d w c a m turn none took (NotCommitted t) h = absurd h
get_demands n k cs first d w c a m turn none took InDoubt h = absurd h.1
get_demands n k cs first d w c a m turn none took (CommittedOpen t) h = absurd (opened_put cs h.0 none)

get_exactly : (k n : ℕ) (cs : Calls) (first : Bool) (d : Draft) (w : Walk) (c : Cache) (a : Answer) (m : Run × Cache) (turn : Turn CommitAnswer) → NonePut cs → Fits (walk_ask w) a → StepsWalk first d w c a m turn
    → ((x : CommitAnswer) → turn ≡ Ended x → IsNot x) → (x : CommitAnswer) → IsOfCalls x → Exactly (Demands k n cs (walk_ask w) a x) x turn
get_exactly k n cs first d w c a m turn none fits took not x of = record {
  only = λ e.
      let ends : walked first d w c a ≡ Ends m x = subst (StepsWalk first d w c a m) e took in
      get_shows k n cs w c a d.writes.changes m.0 none x (not x e) (subst (Shown (WalkCause w c a d.writes.changes)) ends (walked_shown first d w c a fits)) of;
  always = λ y. get_demands k n cs first d w c a m turn none took x y;
}

stops_in : (first : Bool) (w : Walk) (c : Cache) (a : Answer) (t : Trouble) → StopsIn (held first w) c a t → (after : Walk × Cache) × (walk_next (w, c) a ≡ Stops after t) × (is_stale t ≡ false)
stops_in true w c a t s = s
stops_in false w c a t s = s

-- gets put nothing
gets_none : (cs : Calls) → AllByRecursion IsGet cs → NonePut cs
gets_none [] all = tt
gets_none ((q, a) ∷ cs) ((name, is), all) = (subst PutsNothing (sym is) tt, gets_none cs all)

walk_asks_get : (first : Bool) (d : Draft) (w : Walk) (c : Cache) → walk_ask w ≡ asks (record { draft = d; hand = held first w }, c)
walk_asks_get true d w c = refl
walk_asks_get false d w c = refl

pub walk_refuses : (first : Bool) (d : Draft) (w : Walk) (c : Cache) (a : Answer) (n : Run × Cache) (turn : Turn CommitAnswer) → Took (LeadsBy run_next) KeepsHome (record { draft = d; hand = held first w }, c) a n turn
    → IsRefusing (record { draft = d; hand = held first w }, c) a turn
walk_refuses first d w c a n turn took t s =
    let stop : (e : Walk × Cache) × (walk_next (w, c) a ≡ Stops e t) × (is_stale t ≡ false) = stops_in first w c a t s in
    took_by first d w c a n turn t (walk_took first d w c a n turn took) (stops_by (comes d w c a first) stop.1 stop.2)

walk_exact : (home : Home) (changes : List Noted) (begin : Cache) (h : List Deed) (first : Bool) (d : Draft) (w : Walk) (c : Cache) (a : Answer) (n : Run × Cache) (turn : Turn CommitAnswer) → Fits (walk_ask w) a
    → Took (LeadsBy run_next) KeepsHome (record { draft = d; hand = held first w }, c) a n turn → KnowsHeld home changes begin (told h) d first (w, c)
    → ((x : CommitAnswer) → turn ≡ Ended x → IsNot x) → Exact home changes h (asks (record { draft = d; hand = held first w }, c)) a turn
walk_exact home changes begin h first d w c a n turn fits took k not x of =
    subst (λ (q : Ask). Exactly (Demands (length changes) (home.attempt + 1) (told h) q a x) x turn) (walk_asks_get first d w c)
    (get_exactly (length changes) (home.attempt + 1) (told h) first d w c a n turn (gets_none (told h) (walks_get home changes begin (k.earlier ++ k.trip ∷ []) (told h) k.walks)) fits
    (walk_took first d w c a n turn took) not x of)

-- ---- what the writes demand, behind the gets of the walks

none_behind : (gets cs : Calls) → AllByRecursion IsGet gets → NonePut cs → NonePut (gets ++ cs)
none_behind [] cs all none = none
none_behind ((q, a) ∷ gets) cs ((name, is), all) none = (subst PutsNothing (sym is) tt, none_behind gets cs all none)

none_front : (gets cs : Calls) → NonePut (gets ++ cs) → NonePut cs
none_front [] cs none = none
none_front (g ∷ gets) cs none = none_front gets cs none.1

opened_behind : (gets cs : Calls) → WasOpened cs → WasOpened (gets ++ cs)
opened_behind [] cs opened = opened
opened_behind (g ∷ gets) cs opened = inr (opened_behind gets cs opened)

opened_front : (gets cs : Calls) → AllByRecursion IsGet gets → WasOpened (gets ++ cs) → WasOpened cs
opened_front [] cs all opened = opened
opened_front ((q, a) ∷ gets) cs ((name, is), all) (inl here) = absurd (subst IsPut is here.0)
opened_front ((q, a) ∷ gets) cs ((name, is), all) (inr later) = opened_front gets cs all later

deletions_behind : (gets cs : Calls) → AllByRecursion IsGet gets → deletions (gets ++ cs) ≡ deletions cs
deletions_behind [] cs all = refl
deletions_behind ((q, a) ∷ gets) cs ((name, is), all) = omega (arith, deletions_behind gets cs all, ap deletions_in is)

not_behind : (gets cs : Calls) (ask : Ask) (a : Answer) (t : Trouble) → AllByRecursion IsGet gets → DemandsNot cs ask a t → DemandsNot (gets ++ cs) ask a t
not_behind gets cs ask a trouble.Failed all d = (none_behind gets cs all d.0, d.1, d.2)
not_behind gets cs ask a (trouble.Late end now) all d = (none_behind gets cs all d.0, d.1, d.2)
not_behind gets cs ask a t all d = d

not_front : (gets cs : Calls) (ask : Ask) (a : Answer) (t : Trouble) → DemandsNot (gets ++ cs) ask a t → DemandsNot cs ask a t
not_front gets cs ask a trouble.Failed d = (none_front gets cs d.0, d.1, d.2)
not_front gets cs ask a (trouble.Late end now) d = (none_front gets cs d.0, d.1, d.2)
not_front gets cs ask a t d = d

demands_behind : (n m k : ℕ) (gets cs : Calls) (ask : Ask) (a : Answer) → AllByRecursion IsGet gets → n ≡ m → (x : CommitAnswer) → Demands n k cs ask a x → Demands m k (gets ++ cs) ask a x
demands_behind n m k gets cs ask a all same (Committed y) d = (d.0, d.1, omega (arith, d.2, same, deletions_behind gets cs all))
demands_behind n m k gets cs ask a all same (NotCommitted t) d = not_behind gets cs ask a t all d
demands_behind n m k gets cs ask a all same InDoubt d = (none_behind gets cs all d.0, d.1, d.2)
demands_behind n m k gets cs ask a all same (CommittedOpen t) d = (opened_behind gets cs d.0, d.1, d.2)

demands_front : (n m k : ℕ) (gets cs : Calls) (ask : Ask) (a : Answer) → AllByRecursion IsGet gets → n ≡ m → (x : CommitAnswer) → Demands m k (gets ++ cs) ask a x → Demands n k cs ask a x
demands_front n m k gets cs ask a all same (Committed y) d = (d.0, d.1, omega (arith, d.2, same, deletions_behind gets cs all))
demands_front n m k gets cs ask a all same (NotCommitted t) d = not_front gets cs ask a t d
demands_front n m k gets cs ask a all same InDoubt d = (none_front gets cs d.0, d.1, d.2)
demands_front n m k gets cs ask a all same (CommittedOpen t) d = (opened_front gets cs all d.0, d.1, d.2)

writes_went : (home : Home) (changes : List Noted) (c : Cache) (h : List Deed) (w : Writing) → 1 ≤ length changes → (k : KnowsWrites home changes c h w)
    → WritesWent (walked_home home (uses_of k.begun_so.routed.trips)) k.begun_so.records k.later w
writes_went home changes c h w some k = (
  subst (λ (rs : List AtomicRec). 1 ≤ length rs) (sym k.begun_so.routed.are)
      (routed_some (walked_home home (uses_of k.begun_so.routed.trips)) changes k.begun_so.routed.pages k.begun_so.routed.known some),
  changes,
  k.start,
  k.begun_so.begins,
  k.came,
)

exact_behind : (home : Home) (changes : List Noted) (c : Cache) (h : List Deed) (w : Writing) (a : Answer) (turn : Turn CommitAnswer) (k : KnowsWrites home changes c h w) (x : CommitAnswer)
    → Exactly (Demands (length k.begun_so.records) (home.attempt + 1) (told k.later) (writing_ask w) a x) x turn
    → Exactly (Demands (length changes) (home.attempt + 1) (told h) (writing_ask w) a x) x turn
exact_behind home changes c h w a turn k x e =
    subst (λ (cs : Calls). Exactly (Demands (length changes) (home.attempt + 1) cs (writing_ask w) a x) x turn) (sym (ap told k.are ∙ told_append k.later k.first)) (record {
      only = λ y. demands_behind (length k.begun_so.records) (length changes) (home.attempt + 1) (told k.first) (told k.later) (writing_ask w) a gets many x (e.only y);
      always = λ y. e.always (demands_front (length k.begun_so.records) (length changes) (home.attempt + 1) (told k.first) (told k.later) (writing_ask w) a gets many x y);
    }) where
      many : length k.begun_so.records ≡ length changes
      many =
          ap length k.begun_so.routed.are
          ∙ routed_length (walked_home home (uses_of k.begun_so.routed.trips)) changes k.begun_so.routed.pages k.begun_so.routed.known

      gets : AllByRecursion IsGet (told k.first)
      gets = walks_get home changes c k.begun_so.routed.trips (told k.first) k.begun_so.routed.walks

-- ---- what calls name

own_by : (a b : Home) → a.client ≡ b.client → a.lease ≡ b.lease → (ask : Ask) → IsOwnCall a ask → IsOwnCall b ask
own_by a b client lease (Get name) own = tt
own_by a b client lease (Send q bytes) own = subst (λ (n : ℕ). IsSentTo n q) client own
own_by a b client lease (Delete q id) own = own ∙ ap queue.Atomic client
own_by a b client lease (PutHeld name bytes one two) own = (own.0 ∙ ap object.Head client, own.1 ∙ lease, own.2)
own_by a b client lease ask own = absurd own

-- the home that writes is the one that was handed in, but for its head and its attempt
home_at : (stage : Stage) (home : Home) (cs : Calls) (w : Writing) → WritesKnowAt stage home cs w → (w.home.client ≡ home.client) × (w.home.lease ≡ home.lease)
home_at Waiting home cs w k = absurd k
home_at Logging home cs w k = (ap (λ (x : Home). x.client) k.home, ap (λ (x : Home). x.lease) k.home)
home_at Opening home cs w k = (ap (λ (x : Home). x.client) k.home, ap (λ (x : Home). x.lease) k.home)
home_at Sending home cs w k = (ap (λ (x : Home). x.client) k.home, ap (λ (x : Home). x.lease) k.home)
home_at Settling home cs w k = (ap (λ (x : Home). x.client) k.home, ap (λ (x : Home). x.lease) k.home)
home_at Deleting home cs w k = (ap (λ (x : Home). x.client) k.home, ap (λ (x : Home). x.lease) k.home)
home_at Finished home cs w k = absurd k

pub run_names : (m : Run × Cache) → Names m
run_names m home changes c h some went = on m.0.draft m.0.hand (went_knows home changes c h m went) where
  on : (d : Draft) (hand : Hand) → KnowsAt home changes c h d hand m.1 → IsOwnCall home (ask_at hand d.writes)
  on d Writes k =
      let knows : WritesKnow (walked_home home (uses_of k.begun_so.routed.trips)) k.begun_so.records (told k.later) d.writes =
      writes_know (walked_home home (uses_of k.begun_so.routed.trips)) k.begun_so.records k.later d.writes (writes_went home changes c h d.writes some k) in
      let same : (d.writes.home.client ≡ home.client) × (d.writes.home.lease ≡ home.lease) =
      home_at d.writes.stage (walked_home home (uses_of k.begun_so.routed.trips)) (told k.later) d.writes knows.1 in
      own_by d.writes.home home same.0 same.1 (writing_ask d.writes) (names_at d.writes.stage d.writes)
  on d (First w) k = tt
  on d (Change w) k = tt

-- ---- calm calls

-- the troubles of links
abbrev IsOfLink : Trouble → Type 0
IsOfLink (trouble.BadFence page expected found) = Unit {0}
IsOfLink (trouble.Damaged where_it_is offset) = Unit {0}
IsOfLink (trouble.Loop page) = Unit {0}
IsOfLink t = ⊥

link_is : (c : Cache) (old w : Walk) (t : Trouble) → LinkShows c old w t → IsOfLink t
link_is c old w t (inl (s, at, led, inl level)) = subst IsOfLink (sym level.is) tt
link_is c old w t (inl (s, at, led, inr fence)) = subst IsOfLink (sym fence.is) tt
link_is c old w t (inr loop) = subst IsOfLink (sym loop.is) tt

is_met : (t : Trouble) → IsOfLink t → IsMet t
is_met (trouble.BadFence page expected found) of = tt
is_met (trouble.Damaged where_it_is offset) of = tt
is_met (trouble.Loop page) of = tt
is_met t of = absurd of

link_met : (c : Cache) (old w : Walk) (t : Trouble) → LinkShows c old w t → IsMet t
link_met c old w t link = is_met t (link_is c old w t link)

cause_met : (w : Walk) (c : Cache) (a : Answer) (changes : List Noted) (n : Run) (t : Trouble) → GoesWell a → WalkCause w c a changes n t → IsMet t
cause_met w c a changes n t goes (inl (left, e, stale, inl (inl both))) = absurd (subst GoesWell both.1 goes)
cause_met w c a changes n t goes (inl (left, e, stale, inl (inr (got, answered, inl old)))) = absurd (never_both (sym (ap is_stale old.is) ∙ stale)) where
  never_both : true ≡ false → ⊥
  never_both h = absurd (cc (h))
cause_met w c a changes n t goes (inl (left, e, stale, inl (inr (got, answered, inr damaged)))) = subst IsMet (sym damaged.is) tt
cause_met w c a changes n t goes (inl (left, e, stale, inr (d, brings, link))) = link_met d w left.0 t link
cause_met w c a changes n t goes (inr (inl (place, change, is, (left, e, link)))) =
    link_met (left_by_turn (walk_next (w, c) a)).1 (new_walk change.tree (Some (target_of change).1) false) left.0 t link
cause_met w c a changes n t goes (inr (inr number)) = subst IsMet (sym number.0) tt

get_well : (w : Walk) (c : Cache) (a : Answer) (changes : List Noted) (n : Run) (x : CommitAnswer) → GoesWell a → IsNot x → TellsOf (WalkCause w c a changes n) x → IsWell x
get_well w c a changes n (Committed y) goes is tells = tt
get_well w c a changes n (NotCommitted t) goes is tells = cause_met w c a changes n t goes tells
get_well w c a changes n InDoubt goes is tells = is
get_well w c a changes n (CommittedOpen t) goes is tells = is

walk_well : (first : Bool) (d : Draft) (w : Walk) (c : Cache) (a : Answer) (m : Run × Cache) (turn : Turn CommitAnswer) → GoesWell a → Fits (walk_ask w) a → StepsWalk first d w c a m turn
    → ((x : CommitAnswer) → turn ≡ Ended x → IsNot x) → ((t : Trouble) → turn ≡ Stopped t → t ≡ trouble.Memory) → EndsWell turn
walk_well first d w c a m More goes fits took not stops = tt
walk_well first d w c a m (Ended x) goes fits took not stops =
    get_well w c a d.writes.changes m.0 x goes (not x refl) (subst (Shown (WalkCause w c a d.writes.changes)) took (walked_shown first d w c a fits))
walk_well first d w c a m (Stopped t) goes fits took not stops = stops t refl

turn_memory : (home : Home) (changes : List Noted) (trips : List Trip) (left : Home) (turn : Turn CommitAnswer) → Refuses home changes trips left turn → (t : Trouble) → turn ≡ Stopped t → t ≡ trouble.Memory
turn_memory home changes trips left turn means t e = subst (Refuses home changes trips left) e means

-- .. and of a commit that writes, behind the walks
calm_front : (later first : List Deed) → AreCalm (later ++ first) → AreCalm later
calm_front [] first calm = tt
calm_front (x ∷ later) first calm = (calm.0, calm_front later first calm.1)

faultless_front : (later first : List Deed) → AllByRecursion RaisesNoFault (later ++ first) → AllByRecursion RaisesNoFault later
faultless_front [] first none = tt
faultless_front (x ∷ later) first none = (none.0, faultless_front later first none.1)

next_front : (later first : List Deed) (x : Deed) → ComesNext (later ++ first) x → ComesNext later x
next_front [] first x next = tt
next_front (y ∷ later) first x next = next

alone_front : (later first : List Deed) → AreAlone (later ++ first) → AreAlone later
alone_front [] first alone = tt
alone_front (x ∷ later) first alone = (next_front later first x alone.0, alone_front later first alone.1)

ends_more : (turn : Turn CommitAnswer) → WritesEndWell turn → EndsWell turn
ends_more More well = tt
ends_more (Ended (Committed x)) well = tt
ends_more (Ended (NotCommitted t)) well = absurd well
ends_more (Ended InDoubt) well = well
ends_more (Ended (CommittedOpen t)) well = well
ends_more (Stopped t) well = well

-- ---- a step

-- of the walk in hand
walk_whole : (home : Home) (changes : List Noted) (begin : Cache) (h : List Deed) (first : Bool) (d : Draft) (w : Walk) (c : Cache) (who : Caller) (before after : Seen) (a : Answer) (n : Run × Cache) (turn : Turn CommitAnswer)
    → Makes who (walk_ask w) a before after → Took (LeadsBy run_next) KeepsHome (record { draft = d; hand = held first w }, c) a n turn → KnowsHeld home changes begin (told h) d first (w, c)
    → (IsPlain home changes → ⊥) → Whole (course_of home changes begin h) (deed_of who (asks (record { draft = d; hand = held first w }, c)) a before after) (record { draft = d; hand = held first w }, c) n turn
walk_whole home changes begin h first d w c who before after a n turn made took k walks = record {
  means = in_hand first means;
  exact = λ some. walk_exact home changes begin h first d w c a n turn made.fits took k ended_not;
  well = λ some calm.
      walk_well first d w c a n turn (goes_well (deed_of who (walk_ask w) a before after) made (subst (λ (q : Ask). IsCalm (deed_of who q a before after)) (sym (walk_asks_get first d w c)) calm)) made.fits
      (walk_took first d w c a n turn took) ended_not (turn_memory home changes means.trips (home_of n.0) turn means.means);
  plain = λ plain. absurd (walks plain);
} where
  means : MeansWalks home changes begin (told h ++ (walk_ask w, a) ∷ []) (home_of n.0) turn
  means = walk_means home changes begin (told h ++ (walk_ask w, a) ∷ []) (walked first d w c a) (record { draft = d; hand = held first w }, c) a n turn (turned_by home changes begin (told h) first d w c a k) (walk_took first d w c a n turn took)

  ended_not : (x : CommitAnswer) → turn ≡ Ended x → IsNot x
  ended_not = not_by home changes begin (told h ++ (walk_ask w, a) ∷ []) (home_of n.0) turn means

  in_hand : (b : Bool) → MeansWalks home changes begin (told h ++ (walk_ask w, a) ∷ []) (home_of n.0) turn
      → MeansIn (held b w) (course_of home changes begin h) (deed_of who (asks (record { draft = d; hand = held b w }, c)) a before after) d.writes (home_of n.0) turn
  in_hand true m = m
  in_hand false m = m

walk_gets : (first : Bool) (d : Draft) (w : Walk) (c : Cache) → GetsNothing (asks (record { draft = d; hand = held first w }, c)) → ⊥
walk_gets true d w c gets = gets
walk_gets false d w c gets = gets

pub walk_stepped : (first : Bool) (d : Draft) (w : Walk) (c : Cache) (who : Caller) (before after : Seen) (a : Answer) (n : Run × Cache) (turn : Turn CommitAnswer) → Makes who (walk_ask w) a before after
    → Took (LeadsBy run_next) KeepsHome (record { draft = d; hand = held first w }, c) a n turn → DemandsNext (record { draft = d; hand = held first w }, c) a turn
    → Stepped who before after (record { draft = d; hand = held first w }, c) n turn
walk_stepped first d w c who before after a n turn made took demands = record {
  answer = a;
  made = subst (λ (q : Ask). Makes who q a before after) (walk_asks_get first d w c) made;
  took = took;
  causes = walk_causes first d w c a n turn made.fits took;
  refused = walk_refuses first d w c a n turn took;
  demands = demands;
  ample = λ gets. absurd (walk_gets first d w c gets);
  whole = λ home changes begin h went.
      walk_whole home changes begin h first d w c who before after a n turn made took (went_held home changes begin h first d w c went)
      (λ plain. plain_walks home changes begin h first d w c plain went);
}

-- of what is written
write_whole : (home : Home) (changes : List Noted) (begin : Cache) (h : List Deed) (d : Draft) (c : Cache) (who : Caller) (before after : Seen) (w : Writing) (turn : Turn CommitAnswer)
    (s : WritesStepped who before after d.writes w turn) → Went home changes begin h (record { draft = d; hand = Writes }, c)
    → Whole (course_of home changes begin h) (deed_of who (writing_ask d.writes) s.answer before after) (record { draft = d; hand = Writes }, c) (written d w, c) turn
write_whole home changes begin h d c who before after w turn s went = record {
  means = so;
  exact = λ some x of. exact_behind home changes begin h d.writes s.answer turn k x (s.exact from k.begun_so.records k.later (writes_went home changes begin h d.writes some k) x);
  well = λ some calm. ends_more turn (s.well from k.begun_so.records k.later (writes_went home changes begin h d.writes some k) calm);
  plain = λ plain. goes_plainly home changes begin h d c call w.home turn plain went refl so;
} where
  k : KnowsWrites home changes begin h d.writes
  k = went_knows home changes begin h (record { draft = d; hand = Writes }, c) went

  from : Home
  from = walked_home home (uses_of k.begun_so.routed.trips)

  call : Deed
  call = deed_of who (writing_ask d.writes) s.answer before after

  same : k.begun_so.records ≡ d.writes.records
  same = sym (same_records home changes begin h d.writes k)

  so : MeansWrites (course_of home changes begin h) call d.writes w.home turn
  so = record {
    writing = writing_so home changes begin h d.writes k;
    means =
        subst (λ (rs : List AtomicRec). WritesTurn from rs (told (call ∷ k.later)) w.home turn) same
        (s.means from changes k.begun_so.records k.start k.later k.begun_so.begins k.came);
    marks = λ some calm alone x ended t left.
        subst (λ (rs : List AtomicRec). AreMarked from rs (told (call ∷ k.later)) t) same
        (s.marks from k.begun_so.records k.later (writes_went home changes begin h d.writes some k) (calm.0, calm_front k.later k.first (subst AreCalm k.are calm.1))
        (next_front k.later k.first call (subst (λ (l : List Deed). ComesNext l call) k.are alone.0), alone_front k.later k.first (subst AreAlone k.are alone.1)) x ended t left);
    clears = λ some none x ended.
        subst (λ (rs : List AtomicRec). AreGone from rs (call ∷ k.later)) same
        (s.clears from k.begun_so.records k.later (writes_went home changes begin h d.writes some k)
        (none.0, faultless_front k.later k.first (subst (AllByRecursion RaisesNoFault) k.are none.1)) x ended);
  }

write_stepped : (d : Draft) (c : Cache) (who : Caller) (before after : Seen) (w : Writing) (turn : Turn CommitAnswer) → WritesStepped who before after d.writes w turn
    → Stepped who before after (record { draft = d; hand = Writes }, c) (written d w, c) turn
write_stepped d c who before after w turn s = record {
  answer = s.answer;
  made = s.made;
  took = took;
  causes = write_causes d c s.answer (written d w, c) turn took;
  refused = λ t never. absurd never;
  demands = λ e k t none. absurd (cc (none));
  ample = λ gets. s.ample;
  whole = λ home changes begin h went. write_whole home changes begin h d c who before after w turn s went;
} where
  took : Took (LeadsBy run_next) KeepsHome (record { draft = d; hand = Writes }, c) s.answer (written d w, c) turn
  took = wrote_took d c s.answer w turn s.took

-- where the code's draft is another name of it
pub write_stepped_at : (old d : Draft) → d ≡ old → (c : Cache) (who : Caller) (before after : Seen) (w : Writing) (turn : Turn CommitAnswer) → WritesStepped who before after d.writes w turn
    → Stepped who before after (record { draft = old; hand = Writes }, c) (written d w, c) turn
write_stepped_at old d is c who before after w turn s =
    subst (λ (x : Draft). Stepped who before after (record { draft = x; hand = Writes }, c) (written d w, c) turn) is (write_stepped d c who before after w turn s)

-- ---- at the beginning

never_number : trouble.Exhausted counter.Txn ≡ trouble.Exhausted counter.Number → ⊥
never_number e = absurd (cc (e))

never_link : (c : Cache) (old w : Walk) → LinkShows c old w (trouble.Exhausted counter.Txn) → ⊥
never_link c old w link = link_is c old w (trouble.Exhausted counter.Txn) link

-- the code was led to the trouble, unless memory ran out
pub led_by : (t : Trouble) (next : NextRun) (n : Run × Cache) (turn : Turn CommitAnswer) → EndsBy t next → Led next n turn → (turn ≡ Ended (NotCommitted t)) ⊎ (turn ≡ Stopped trouble.Memory)
led_by t next n More by led = absurd (subst (EndsBy t) led by)
led_by t next n (Ended z) by led = inl (ap Ended (subst (EndsBy t) led by))
led_by t next n (Stopped u) by led = inr (ap Stopped (only_memory u (λ other. subst (EndsBy t) (led other) by)))

ends_spent : {home : Home} {changes : List Noted} {c : Cache} {x : NextRun} → Starts home changes c x → is_spent home ≡ true → EndsBy (trouble.Exhausted counter.Txn) x
ends_spent (step.spent e) is = refl
ends_spent (step.long to y left e b) is = absurd (cc (left, is))
ends_spent (step.few y left e p) is = absurd (cc (left, is))

ready_other : (home : Home) (changes : List Noted) (c : Cache) (n : Run) → ShowsReady (new_run home changes, c) n (trouble.Exhausted counter.Txn) → is_spent home ≡ true
ready_other home changes c n (inl spent) = spent.1
ready_other home changes c n (inr (inl (to, long, left, e, link))) = absurd (never_link c (new_walk to.0 (Some to.1) true) left.0 link)
ready_other home changes c n (inr (inr (inl (place, change, is, (left, e, link))))) = absurd (never_link c (new_walk change.tree (Some (target_of change).1) false) left.0 link)
ready_other home changes c n (inr (inr (inr number))) = absurd (never_number number.0)

pub ready_exact : (home : Home) (changes : List Noted) (c : Cache) (old : Run) (n : Run × Cache) (turn : Turn CommitAnswer) → old ≡ new_run home changes → Led (run_ready (old, c)) n turn → ExactReady home turn
ready_exact home changes c old n turn new led = record {
  only = λ e. ready_other home changes c n.0
      (subst (λ (r : Run). ShowsReady (r, c) n.0 (trouble.Exhausted counter.Txn)) new (subst (CausesReady (old, c) n.0) e (ready_causes home changes c old n turn new led)));
  always = λ e. led_by (trouble.Exhausted counter.Txn) (run_ready (new_run home changes, c)) n turn (ends_spent (starts home changes c) e) (subst (λ (r : Run). Led (run_ready (r, c)) n turn) new led);
}
