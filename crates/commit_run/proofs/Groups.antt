-- The calls of a commit in groups: those of each of its walks, and those behind them.
use Rattle.std.proofs.Common.{◌≡◌, ◌≤◌, ◌+◌, ℕ, Bool, true, false, List, [], ◌∷◌, ◌++◌, length, Option, Some, None, refl, ap, sym, subst, ◌∙◌, arith}
use Rattle.std.specs.Prelude.{slice_get}
use Rattle.std.specs.List.{AllByRecursion}
use Rattle.cloud_trait.specs.Machine.{IsMade, Follows}
use Rattle.tree_walk.specs.Walk.{asks as walk_asks}
use Rattle.tree_walk.proofs.Leaves.{ends_at}
use Rattle.commit_writes.specs.Writing.{send_ask, delete_ask}
use Rattle.commit_writes.specs.Writing.{ask_at as written_ask}
use Rattle.commit_writes.proofs.Within.{went_within}
use Rattle.commit_run.specs.Draft.{KnowsNoMore}
use Rattle.commit_run.specs.Run.{next_at}
use Rattle.commit_run.specs.Within.{AreOfWalk, joined, IsNoGet, RunsWithin, Within}
use Rattle.commit_run.proofs.Words.{CommitAnswer, AtomicRec, Noted, Answer, Next, Goes, Ends, Stops, LeadsBy, Came, Deed, Home, Cache, Walk, sought, new_walk, walk_ask, walk_ready, walk_next, Writing, waiting, with_attempt, begun, writing_ask, writing_next, Stage, Waiting, Logging, Opening, Sending, Settling, Deleting, Finished, Calls, told, routed_length, Hand, Writes, First, Change, Draft, pruned_behind, planned, Run, held, new_run, target_of, asks, ask_at, written, wrote, walked, run_ready, run_next, Use, used_in, uses_of, walked_home, GetsNothing}
use Rattle.commit_run.proofs.Knows.{KnowsHeld, KnowsAt}
use Rattle.commit_run.proofs.Hands.{all_known, one_left}
use Rattle.commit_run.proofs.Planning.{planned_within}
use Rattle.commit_run.proofs.Outcomes as step
use Rattle.commit_run.proofs.Outcomes.{NextRun, records_of, Begins, Plans, Behind, Comes, Starts, comes, starts}
use Rattle.commit_run.proofs.Pages.{known_then, IsBehind, behind_pages}
use Rattle.commit_run.proofs.Walked.{knows_pruned}
use Rattle.commit_run.proofs.Meaning.{came_knows, follows_part}

-- all calls are those of so many walks at most
pub record WalksMade (few : ℕ) (h : List Deed) : Type 0 where
  pub walks : List (List Deed)
  pub are : h ≡ joined walks
  pub each : AllByRecursion AreOfWalk walks
  pub few_walks : length walks ≤ few

-- behind them a walk has come here
pub record WalkInHand (few : ℕ) (h : List Deed) (m : Walk × Cache) : Type 0 where
  pub walks : List (List Deed)
  pub own : List Deed
  pub are : h ≡ own ++ joined walks
  pub each : AllByRecursion AreOfWalk walks
  pub few_walks : length walks ≤ few
  pub tree : ℕ
  pub key : List ℕ
  pub fresh : Bool
  pub cache : Cache
  pub start : Walk × Cache
  pub begins : walk_ready (new_walk tree (Some key) fresh, cache) ≡ Goes start
  pub came : Came walk_asks (LeadsBy walk_next) start own m

-- .. or what the commit writes has
pub record WritesInHand (n : ℕ) (h : List Deed) (w : Writing) : Type 0 where
  pub walks : List (List Deed)
  pub own : List Deed
  pub are : h ≡ own ++ joined walks
  pub each : AllByRecursion AreOfWalk walks
  pub few_walks : length walks ≤ n + 1
  pub written : AllByRecursion IsNoGet own
  pub home : Home
  pub changes : List Noted
  pub records : List AtomicRec
  pub many : length records ≡ n
  pub start : Writing
  pub begins : begun (waiting home changes) records ≡ Goes start
  pub came : Came writing_ask (LeadsBy writing_next) start own w

-- how many walks were before the one in hand at most
abbrev pub few_before : Bool → Draft → ℕ
few_before true d = 0
few_before false d = length d.plan.pages + 1

abbrev pub GroupedAt : ℕ → List Deed → Draft → Hand → Cache → Type 0
GroupedAt n h d Writes c = WritesInHand n h d.writes
GroupedAt n h d (First w) c = WalkInHand 0 h (w, c)
GroupedAt n h d (Change w) c = WalkInHand (length d.plan.pages + 1) h (w, c)

abbrev pub GroupedNext : ℕ → List Deed → Next (Run × Cache) CommitAnswer → Type 0
GroupedNext n h (Goes m) = GroupedAt n h m.0.draft m.0.hand m.1
GroupedNext n h (Ends m a) = Unit {0}
GroupedNext n h (Stops m t) = Unit {0}

-- what is used of a draft between walks
pub record IsPlain (n : ℕ) (d : Draft) : Type 0 where
  pub home : Home
  pub changes : List Noted
  pub writes : d.writes ≡ waiting home changes
  pub many : length changes ≡ n
  pub within : KnowsNoMore d

-- ---- a walk begins

few_more : (few more : ℕ) (h : List Deed) → few ≤ more → WalksMade few h → WalksMade more h
few_more few more h le g = record { walks = g.walks; are = g.are; each = g.each; few_walks = omega (arith, le, g.few_walks) }

held_groups : (n : ℕ) (h : List Deed) (first : Bool) (d : Draft) (w : Walk) (c : Cache) → WalkInHand (few_before first d) h (w, c) → GroupedAt n h d (held first w) c
held_groups n h true d w c g = g
held_groups n h false d w c g = g

begun_groups : (n : ℕ) (h : List Deed) (first : Bool) (d : Draft) (c : Cache) (to : ℕ × List ℕ) (x : NextRun) → WalksMade (few_before first d) h → Begins first d c to x → GroupedNext n h x
begun_groups n h first d c to x g (step.walks m e is aims) =
    held_groups n h first (pruned_behind d m.0 m.1) m.0 m.1 (few_kept first (record {
      walks = g.walks;
      own = [];
      are = g.are;
      each = g.each;
      few_walks = g.few_walks;
      tree = to.0;
      key = to.1;
      fresh = first;
      cache = c;
      start = m;
      begins = e;
      came = refl;
    })) where
      few_kept : (b : Bool) → WalkInHand (few_before b d) h (m.0, m.1) → WalkInHand (few_before b (pruned_behind d m.0 m.1)) h (m.0, m.1)
      few_kept true k = k
      few_kept false k = k
begun_groups n h first d c to x g (step.stops m t e link other) = tt
begun_groups n h first d c to x g (step.lacks m e) = tt

-- ---- planning on

plan_groups : (n few : ℕ) (h : List Deed) (d : Draft) (c : Cache) (x : NextRun) → IsPlain n d → few ≤ length (planned d).plan.pages + 1 → WalksMade few h → Plans d c x → GroupedNext n h x
plan_groups n few h d c x p le g (step.seeks m y is begins) = begun_groups n h false (planned d) c (target_of m) x (few_more few (length (planned d).plan.pages + 1) h le g) begins
plan_groups n few h d c x p le g (step.full none e) = tt
plan_groups n few h d c x p le g (step.writes w none fits e) =
    let within = planned_within d.writes.home.head.pending d.plan.ended d.writes.changes d.plan.pages p.within in
    let known : length (planned d).plan.pages ≡ length d.writes.changes = all_known (planned d) within none in
    let many : length d.writes.changes ≡ n = ap (λ (w : Writing). length w.changes) p.writes ∙ p.many in
    record {
      walks = g.walks;
      own = [];
      are = g.are;
      each = g.each;
      few_walks = omega (arith, le, known, many, g.few_walks);
      written = tt;
      home = p.home;
      changes = p.changes;
      records = records_of (planned d);
      many = routed_length d.writes.home d.writes.changes (planned d).plan.pages known ∙ many;
      start = w;
      begins = subst (λ (v : Writing). begun v (records_of (planned d)) ≡ Goes w) p.writes e;
      came = refl;
    }

-- ---- a turn of the walk in hand

-- the walk in hand made one call more, and it is behind
walk_made : (few : ℕ) (h : List Deed) (x : Deed) (m : Walk × Cache) → WalkInHand few h m → x.ask ≡ walk_asks m → WalksMade (few + 1) (x ∷ h)
walk_made few h x m g asked = record {
  walks = (x ∷ g.own) ∷ g.walks;
  are = ap (λ (l : List Deed). x ∷ l) g.are;
  each = (
    record { tree = g.tree; key = g.key; fresh = g.fresh; cache = g.cache; start = g.start; begins = g.begins; walk = m; came = g.came; asked = asked },
    g.each,
  );
  few_walks = omega (arith, g.few_walks);
}

-- .. and it goes on
walk_on : (few : ℕ) (h : List Deed) (x : Deed) (m e : Walk × Cache) → WalkInHand few h m → x.ask ≡ walk_asks m → IsMade x → Follows h x → walk_next m x.answer ≡ Goes e → WalkInHand few (x ∷ h) e
walk_on few h x m e g asked made follows goes = record {
  walks = g.walks;
  own = x ∷ g.own;
  are = ap (λ (l : List Deed). x ∷ l) g.are;
  each = g.each;
  few_walks = g.few_walks;
  tree = g.tree;
  key = g.key;
  fresh = g.fresh;
  cache = g.cache;
  start = g.start;
  begins = g.begins;
  came = (m, g.came, asked, made, goes, follows_part g.own (joined g.walks) x (subst (λ (l : List Deed). Follows l x) g.are follows));
}

behind_plain : (home : Home) (changes : List Noted) (begin : Cache) (calls : Calls) (d : Draft) (w : Walk) (c : Cache) (a : Answer) (first : Bool) (e : Draft) (b : Cache) → KnowsHeld home changes begin calls d first (w, c) → KnowsNoMore e
    → Behind d w c a first e b → IsPlain (length changes) e
behind_plain home changes begin calls d w c a first e b k within from = let to = left first e b from in record { home = to.0; changes = changes; writes = to.1; many = refl; within = within } where
  uses : List Use
  uses = uses_of (k.earlier ++ k.trip ∷ [])

  left : (one : Bool) (f : Draft) (k : Cache) → Behind d w c a one f k → (left : Home) × (f.writes ≡ waiting left changes)
  left one f l (step.at_leaf first m page ended aims) = (walked_home home (uses ++ used_in m.1 m.0.used), (knows_pruned home changes k.earlier uses d m.0 m.1 k.draft).writes)
  left one f l (step.at_stale m t stopped is) = (walked_home home (uses ++ used_in m.1 m.0.used), (knows_pruned home changes k.earlier uses d m.0 m.1 k.draft).writes)
  left one f l (step.passed_over m t stopped is) = (walked_home home (uses ++ used_in m.1 m.0.used), (knows_pruned home changes k.earlier uses d m.0 m.1 k.draft).writes)

turned_groups : (home : Home) (changes : List Noted) (begin : Cache) (calls : Calls) (h : List Deed) (first : Bool) (d : Draft) (w : Walk) (c : Cache) (x : Deed) → KnowsHeld home changes begin calls d first (w, c)
    → WalkInHand (few_before first d) h (w, c) → x.ask ≡ walk_ask w → IsMade x → Follows h x → GroupedNext (length changes) (x ∷ h) (walked first d w c x.answer)
turned_groups home changes begin calls h first d w c x k g asked made follows = on (walked first d w c x.answer) (comes d w c x.answer first) where
  few_known : (b : Bool) (pages : ℕ) → known_then b d ≤ pages → few_before b d + 1 ≤ pages + 1
  few_known true pages known = omega arith
  few_known false pages known = omega (arith, known)

  on : (y : NextRun) → Comes d w c x.answer first y → GroupedNext (length changes) (x ∷ h) y
  on y (step.goes m e is aims) = held_groups (length changes) (x ∷ h) first (pruned_behind d m.0 m.1) m.0 m.1 (few_kept first (walk_on (few_before first d) h x (w, c) m g asked made follows e)) where
    few_kept : (b : Bool) → WalkInHand (few_before b d) (x ∷ h) m → WalkInHand (few_before b (pruned_behind d m.0 m.1)) (x ∷ h) m
    few_kept true i = i
    few_kept false i = i
  on y (step.ends m t e is other) = tt
  on y (step.lacks m e) = tt
  on y (step.plans e b z from p) =
      let so : IsBehind first d e = behind_pages d w c x.answer first e b k.draft.within k.aimed (λ m page ended. ends_at (w, c) m x.answer page k.is ended) from in
      plan_groups (length changes) (few_before first d + 1) (x ∷ h) e b y (behind_plain home changes begin calls d w c x.answer first e b k so.within from) (few_known first (length (planned e).plan.pages) so.known)
      (walk_made (few_before first d) h x (w, c) g asked) p

-- ---- a step of what the commit writes

pub no_get : (stage : Stage) (w : Writing) → GetsNothing (written_ask stage w)
no_get Waiting w = tt
no_get Logging w = tt
no_get Opening w = tt
no_get Sending w = on (slice_get w.records w.place) where
  on : (o : Option AtomicRec) → GetsNothing (send_ask w o)
  on (Some r) = tt
  on None = tt
no_get Settling w = tt
no_get Deleting w = on (slice_get w.ids w.place) where
  on : (o : Option ℕ) → GetsNothing (delete_ask w o)
  on (Some id) = tt
  on None = tt
no_get Finished w = tt

write_groups : (n : ℕ) (h : List Deed) (x : Deed) (d : Draft) (c : Cache) (m : Run × Cache) → WritesInHand n h d.writes → x.ask ≡ writing_ask d.writes → IsMade x → Follows h x → (y : Next Writing CommitAnswer)
    → writing_next d.writes x.answer ≡ y → wrote d c y ≡ Goes m → GroupedAt n (x ∷ h) m.0.draft m.0.hand m.1
write_groups n h x d c m g asked made follows (Goes w) e goes =
    let is : ◌≡◌ {A = Run × Cache} (written d w, c) m = cc (goes) in
    subst (λ (r : Run × Cache). GroupedAt n (x ∷ h) r.0.draft r.0.hand r.1) is (record {
      walks = g.walks;
      own = x ∷ g.own;
      are = ap (λ (l : List Deed). x ∷ l) g.are;
      each = g.each;
      few_walks = g.few_walks;
      written = (subst GetsNothing (sym asked) (no_get d.writes.stage d.writes), g.written);
      home = g.home;
      changes = g.changes;
      records = g.records;
      many = g.many;
      start = g.start;
      begins = g.begins;
      came = (d.writes, g.came, asked, made, e, follows_part g.own (joined g.walks) x (subst (λ (l : List Deed). Follows l x) g.are follows));
    })
write_groups n h x d c m g asked made follows (Ends w a) e goes = absurd (cc (goes))
write_groups n h x d c m g asked made follows (Stops w t) e goes = absurd (cc (goes))

-- ---- from call to call

step_groups : (home : Home) (changes : List Noted) (begin : Cache) (h : List Deed) (x : Deed) (d : Draft) (hand : Hand) (c : Cache) (m : Run × Cache) → KnowsAt home changes begin h d hand c
    → GroupedAt (length changes) h d hand c → x.ask ≡ ask_at hand d.writes → IsMade x → next_at hand d c x.answer ≡ Goes m → Follows h x → GroupedAt (length changes) (x ∷ h) m.0.draft m.0.hand m.1
step_groups home changes begin h x d Writes c m k g asked made goes follows = write_groups (length changes) h x d c m g asked made follows (writing_next d.writes x.answer) refl goes
step_groups home changes begin h x d (First w) c m k g asked made goes follows =
    subst (GroupedNext (length changes) (x ∷ h)) goes (turned_groups home changes begin (told h) h true d w c x k g asked made follows)
step_groups home changes begin h x d (Change w) c m k g asked made goes follows =
    subst (GroupedNext (length changes) (x ∷ h)) goes (turned_groups home changes begin (told h) h false d w c x k g asked made follows)

none_made : (few : ℕ) → WalksMade few []
none_made few = record { walks = []; are = refl; each = tt; few_walks = omega arith }

start_groups : (home : Home) (changes : List Noted) (c : Cache) (x : NextRun) → Starts home changes c x → GroupedNext (length changes) [] x
start_groups home changes c x (step.spent e) = tt
start_groups home changes c x (step.long to y left e begins) = begun_groups (length changes) [] true (step.taken home changes) c to x (none_made 0) begins
start_groups home changes c x (step.few y left e plans) =
    plan_groups (length changes) 0 [] (step.taken home changes) c x (record { home = with_attempt home; changes = changes; writes = refl; many = refl; within = omega arith }) (omega arith) (none_made 0) plans

came_groups : (home : Home) (changes : List Noted) (c : Cache) (start : Run × Cache) → run_ready (new_run home changes, c) ≡ Goes start → (h : List Deed) (m : Run × Cache)
    → Came asks (LeadsBy run_next) start h m → GroupedAt (length changes) h m.0.draft m.0.hand m.1
came_groups home changes c start goes [] m came =
    subst (λ (r : Run × Cache). GroupedAt (length changes) [] r.0.draft r.0.hand r.1) (sym came) (subst (GroupedNext (length changes) []) goes (start_groups home changes c (run_ready (new_run home changes, c)) (starts home changes c)))
came_groups home changes c start goes (x ∷ h) m (from, came, asked, made, leads, follows) =
    step_groups home changes c h x from.0.draft from.0.hand from.1 m (came_knows home changes c start goes h from came) (came_groups home changes c start goes h from came) asked made leads follows

-- ---- with the call in hand

walks_within : (n : ℕ) (h : List Deed) → WalksMade (n + 1) h → RunsWithin n h
walks_within n h g = record { walks = g.walks; writes = []; are = g.are; each = g.each; written = tt; few_walks = g.few_walks; few_writes = omega arith }

within_at : (home : Home) (changes : List Noted) (begin : Cache) (h : List Deed) (d : Draft) (hand : Hand) (c : Cache) (x : Deed) → 1 ≤ length changes → KnowsAt home changes begin h d hand c
    → GroupedAt (length changes) h d hand c → x.ask ≡ ask_at hand d.writes → RunsWithin (length changes) (x ∷ h)
within_at home changes begin h d Writes c x some k g asked = record {
  walks = g.walks;
  writes = x ∷ g.own;
  are = ap (λ (l : List Deed). x ∷ l) g.are;
  each = g.each;
  written = (subst GetsNothing (sym asked) (no_get d.writes.stage d.writes), g.written);
  few_walks = g.few_walks;
  few_writes = omega (arith, g.many, went_within g.home g.records g.own d.writes (omega (arith, some, g.many), g.changes, g.start, g.begins, g.came));
}
within_at home changes begin h d (First w) c x some k g asked =
    walks_within (length changes) (x ∷ h) (few_more (0 + 1) (length changes + 1) (x ∷ h) (omega arith) (walk_made 0 h x (w, c) g asked))
within_at home changes begin h d (Change w) c x some k g asked =
    walks_within (length changes) (x ∷ h)
    (few_more (length d.plan.pages + 1 + 1) (length changes + 1) (x ∷ h)
    (omega (arith, one_left d (w.tree, sought w) (k.aimed refl), ap (λ (v : Writing). length v.changes) k.draft.writes))
    (walk_made (length d.plan.pages + 1) h x (w, c) g asked))

pub run_within : (m : Run × Cache) → Within m
run_within m home changes begin h some (start, begins, came) x asked =
    within_at home changes begin h m.0.draft m.0.hand m.1 x some (came_knows home changes begin start begins h m came) (came_groups home changes begin start begins h m came) asked
