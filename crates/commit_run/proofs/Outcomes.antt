-- What a step of the walk in hand comes to, and a commit's begin, whatever branches led there.
use Rattle.std.proofs.Common.{◌≡◌, ◌≢◌, ◌≤◌, ℕ, Bool, true, false, List, length, Option, Some, None, refl, ◌∙◌, ◌⊎◌, inl, inr}
use Rattle.std.specs.Prelude.{slice_get, if◌then◌else◌}
use Rattle.std.specs.Option.{option_map}
use Rattle.db_base.specs.declared.names.ObjName.TheVariants as object
use Rattle.db_base.specs.declared.trouble.Trouble.TheVariants as trouble
use Rattle.db_base.specs.declared.trouble.Counter.TheVariants as counter
use Rattle.page_cache.specs.Held.{root_at}
use Rattle.route_plan.proofs.Places.{past_none}
use Rattle.tree_walk.proofs.Causes.{ready_shows}
use Rattle.tree_walk.proofs.Outcomes.{unended_ready}
use Rattle.tree_walk.proofs.Stays.{IsTo, WalksBeside, next_walks, ready_walks}
use Rattle.commit_run.specs.Draft.{pruned_by_root, pruned_by_kept, pruned_with}
use Rattle.commit_run.specs.Run.{walking, walk_to, long_walk}
use Rattle.commit_run.proofs.Words.{ObjName, Trouble, CommitAnswer, Leaf, Tree, AtomicRec, Noted, Answer, Stopped, Next, Goes, Ends, Stops, Home, Cache, leaf_at, LinkShows, Walk, IsWalk, new_walk, walk_ready, walk_next, Writing, waiting, with_attempt, is_spent, routed_of, passes, begun, log_or_open, not_committed, Draft, new_draft, pruned_behind, planned, leaf_noted, paged, Run, new_run, target_of, long_target, written, wrote, refused, troubled, by_turn, begun_turn, seek, plan_on, is_stale, stale_at, walk_turned, walked, begin_walks, run_ready}

abbrev pub NextRun : Type 0
NextRun = Next (Run × Cache) CommitAnswer

-- want of memory stops the commit
abbrev pub lacking : Draft → Cache → NextRun
lacking d c = Stops (written d d.writes, c) trouble.Memory

-- ---- from one walk to the next

-- A walk begins beside a cache: it has a call in hand, or what the cache keeps stops it.
pub data Begins (first : Bool) (d : Draft) (k : Cache) (to : ℕ × List ℕ) : NextRun → Type 0 where
  walks : (m : Walk × Cache) → walk_ready (new_walk to.0 (Some to.1) first, k) ≡ Goes m → IsWalk m.0 → IsTo to.0 (Some to.1) m.0
      → Begins first d k to (walking first (pruned_behind d m.0 m.1) m.0 m.1)
  stops : (m : Walk × Cache) (t : Trouble) → walk_ready (new_walk to.0 (Some to.1) first, k) ≡ Stops m t → LinkShows k (new_walk to.0 (Some to.1) first) m.0 t → t ≢ trouble.Memory
      → Begins first d k to (refused (pruned_behind d m.0 m.1) m.1 t)
  lacks : (m : Walk × Cache) → walk_ready (new_walk to.0 (Some to.1) first, k) ≡ Stops m trouble.Memory → Begins first d k to (lacking (pruned_behind d m.0 m.1) m.1)

-- the records of a draft
abbrev pub records_of : Draft → List AtomicRec
records_of d = routed_of d.writes.home d.writes.changes d.plan.pages

-- the next change whose leaf is not known
abbrev pub next_change : Draft → Option Noted
next_change d = slice_get d.writes.changes (length d.plan.pages)

-- Planning goes on from a draft beside a cache: a walk for the next change begins; or each leaf is known, and a number would pass the greatest one or
-- the first record is written.
pub data Plans (d : Draft) (k : Cache) : NextRun → Type 0 where
  seeks : (n : Noted) (next : NextRun) → next_change (planned d) ≡ Some n → Begins false (planned d) k (target_of n) next → Plans d k next
  full : next_change (planned d) ≡ None → passes (records_of (planned d)) ≡ true → Plans d k (refused (planned d) k (trouble.Exhausted counter.Number))
  writes : (w : Writing) → next_change (planned d) ≡ None → passes (records_of (planned d)) ≡ false → begun d.writes (records_of (planned d)) ≡ Goes w
      → Plans d k (Goes (written (planned d) w, k))

-- ---- behind a turn of the walk in hand

-- The turn ended the walk at a leaf, or at a stale page: from here planning goes on.
pub data Behind (d : Draft) (w : Walk) (c : Cache) (a : Answer) : Bool → Draft → Cache → Type 0 where
  at_leaf : (first : Bool) (m : Walk × Cache) (page : ℕ) → walk_next (w, c) a ≡ Ends m page → IsTo w.tree w.key m.0
      → Behind d w c a first (leaf_noted (pruned_behind d m.0 m.1) m.0 m.1 page) m.1
  at_stale : (m : Walk × Cache) (t : Trouble) → walk_next (w, c) a ≡ Stops m t → is_stale t ≡ true → Behind d w c a false (paged (pruned_behind d m.0 m.1) 1) m.1
  passed_over : (m : Walk × Cache) (t : Trouble) → walk_next (w, c) a ≡ Stops m t → is_stale t ≡ true → Behind d w c a true (pruned_behind d m.0 m.1) m.1

pub data Comes (d : Draft) (w : Walk) (c : Cache) (a : Answer) (first : Bool) : NextRun → Type 0 where
  goes : (m : Walk × Cache) → walk_next (w, c) a ≡ Goes m → IsWalk m.0 → IsTo w.tree w.key m.0 → Comes d w c a first (walking first (pruned_behind d m.0 m.1) m.0 m.1)
  ends : (m : Walk × Cache) (t : Trouble) → walk_next (w, c) a ≡ Stops m t → is_stale t ≡ false → t ≢ trouble.Memory → Comes d w c a first (refused (pruned_behind d m.0 m.1) m.1 t)
  lacks : (m : Walk × Cache) → walk_next (w, c) a ≡ Stops m trouble.Memory → Comes d w c a first (lacking (pruned_behind d m.0 m.1) m.1)
  plans : (e : Draft) (k : Cache) (next : NextRun) → Behind d w c a first e k → Plans e k next → Comes d w c a first next

-- ---- at the beginning

-- with the next attempt number
abbrev pub taken : Home → List Noted → Draft
taken home changes = new_draft (waiting (with_attempt home) changes)

-- A commit begins: no attempt number is left, a long list of pending entries is pruned first, or planning begins.
pub data Starts (home : Home) (changes : List Noted) (c : Cache) : NextRun → Type 0 where
  spent : is_spent home ≡ true → Starts home changes c (refused (new_draft (waiting home changes)) c (trouble.Exhausted counter.Txn))
  long : (to : ℕ × List ℕ) (next : NextRun) → is_spent home ≡ false → long_target home.head.pending ≡ Some to → Begins true (taken home changes) c to next
      → Starts home changes c next
  few : (next : NextRun) → is_spent home ≡ false → long_target home.head.pending ≡ None → Plans (taken home changes) c next → Starts home changes c next

-- ---- taken apart

begins : (first : Bool) (d : Draft) (k : Cache) (to : ℕ × List ℕ) → Begins first d k to (walk_to first d k to)
begins first d k to = on (walk_ready (new_walk to.0 (Some to.1) first, k)) refl (ready_walks to.0 (Some to.1) first k) where
  stopped : (m : Walk × Cache) (t : Trouble) → walk_ready (new_walk to.0 (Some to.1) first, k) ≡ Stops m t → Begins first d k to (troubled (pruned_behind d m.0 m.1) m.1 t)
  stopped m trouble.Memory e = lacks m e
  stopped m t e = stops m t e (ready_shows (new_walk to.0 (Some to.1) first) k m (Stopped t) (λ other. e) t refl (λ memory. cc)) (λ memory. cc)

  on : (x : Next (Walk × Cache) ℕ) → walk_ready (new_walk to.0 (Some to.1) first, k) ≡ x → WalksBeside to.0 (Some to.1) x → Begins first d k to (by_turn (begun_turn first d) x)
  on (Goes m) e is = walks m e is.0 is.1
  on (Ends m page) e is = absurd (unended_ready (new_walk to.0 (Some to.1) first, k) m page e)
  on (Stops m t) e is = stopped m t e

pub plans_on : (d : Draft) (k : Cache) → Plans d k (plan_on d k)
plans_on d k = on (next_change (planned d)) refl where
  records : List AtomicRec
  records = records_of (planned d)

  begun_by : next_change (planned d) ≡ None → passes records ≡ false → (o : Option AtomicRec) → begun d.writes records ≡ log_or_open (record d.writes { records = records; place = 0 }) o
      → Plans d k (wrote (planned d) k (log_or_open (record d.writes { records = records; place = 0 }) o))
  begun_by none fits (Some r) e = writes _ none fits e
  begun_by none fits None e = writes _ none fits e

  routed : next_change (planned d) ≡ None → (b : Bool) → passes records ≡ b
      → Plans d k (wrote (planned d) k (if b then not_committed d.writes (trouble.Exhausted counter.Number) else begun d.writes records))
  routed none true e = full none e
  routed none false e = begun_by none e (slice_get records 0) refl

  on : (o : Option Noted) → next_change (planned d) ≡ o → Plans d k (seek (planned d) k (option_map target_of o))
  on (Some n) e = seeks n _ e (begins false (planned d) k (target_of n))
  on None e = routed e (passes records) refl

pub comes : (d : Draft) (w : Walk) (c : Cache) (a : Answer) (first : Bool) → Comes d w c a first (walked first d w c a)
comes d w c a first = on (walk_next (w, c) a) refl (next_walks w.tree w.key (w, c) a (refl, refl)) where
  stale : (b : Bool) (m : Walk × Cache) (t : Trouble) → walk_next (w, c) a ≡ Stops m t → is_stale t ≡ true → Comes d w c a b (stale_at b (pruned_behind d m.0 m.1) m.1)
  stale true m t e is = plans _ _ _ (passed_over m t e is) (plans_on (pruned_behind d m.0 m.1) m.1)
  stale false m t e is = plans _ _ _ (at_stale m t e is) (plans_on (paged (pruned_behind d m.0 m.1) 1) m.1)

  other : (m : Walk × Cache) (t : Trouble) → walk_next (w, c) a ≡ Stops m t → is_stale t ≡ false → Comes d w c a first (troubled (pruned_behind d m.0 m.1) m.1 t)
  other m trouble.Memory e is = lacks m e
  other m t e is = ends m t e is (λ memory. cc)

  stopped : (m : Walk × Cache) (t : Trouble) → walk_next (w, c) a ≡ Stops m t → (b : Bool) → is_stale t ≡ b
      → Comes d w c a first (if b then stale_at first (pruned_behind d m.0 m.1) m.1 else troubled (pruned_behind d m.0 m.1) m.1 t)
  stopped m t e true is = stale first m t e is
  stopped m t e false is = other m t e is

  on : (x : Next (Walk × Cache) ℕ) → walk_next (w, c) a ≡ x → WalksBeside w.tree w.key x → Comes d w c a first (by_turn (walk_turned first d) x)
  on (Goes m) e is = goes m e is.0 is.1
  on (Ends m page) e is = plans _ _ _ (at_leaf first m page e is) (plans_on (leaf_noted (pruned_behind d m.0 m.1) m.0 m.1 page) m.1)
  on (Stops m t) e is = stopped m t e (is_stale t) refl

pub starts : (home : Home) (changes : List Noted) (c : Cache) → Starts home changes c (run_ready (new_run home changes, c))
starts home changes c = on (is_spent home) refl where
  begun_by : is_spent home ≡ false → (o : Option (ℕ × List ℕ)) → long_target home.head.pending ≡ o → Starts home changes c (long_walk (taken home changes) c o)
  begun_by left (Some to) e = long to _ left e (begins true (taken home changes) c to)
  begun_by left None e = few _ left e (plans_on (taken home changes) c)

  on : (b : Bool) → is_spent home ≡ b
      → Starts home changes c (if b then refused (new_draft (waiting home changes)) c (trouble.Exhausted counter.Txn) else begin_walks (new_draft (if b then waiting home changes else waiting (with_attempt home) changes)) c)
  on true e = spent e
  on false e = begun_by e (long_target home.head.pending) refl

-- ---- in short, where only that is asked which local work leaves as it was

-- of what will be written all but the pending entries of the head
pub record HasKept (w v : Writing) : Type 0 where
  pub changes : v.changes ≡ w.changes
  pub ids : v.ids ≡ w.ids
  pub client : v.home.client ≡ w.home.client
  pub lease : v.home.lease ≡ w.home.lease
  pub epoch : v.home.head.epoch ≡ w.home.head.epoch
  pub attempt : v.home.attempt ≡ w.home.attempt

kept : (w : Writing) → HasKept w w
kept w = record { changes = refl; ids = refl; client = refl; lease = refl; epoch = refl; attempt = refl }

kept_on : {u v w : Writing} → HasKept u v → HasKept v w → HasKept u w
kept_on a b = record {
  changes = b.changes ∙ a.changes;
  ids = b.ids ∙ a.ids;
  client = b.client ∙ a.client;
  lease = b.lease ∙ a.lease;
  epoch = b.epoch ∙ a.epoch;
  attempt = b.attempt ∙ a.attempt;
}

root_kept : (w : Writing) (tree : ℕ) (o : Option Tree) → HasKept w (pruned_by_root w tree o)
root_kept w tree None = kept w
root_kept w tree (Some root) = record { changes = refl; ids = refl; client = refl; lease = refl; epoch = refl; attempt = refl }

leaf_kept : (w : Writing) (tree : ℕ) (o : Option Leaf) → HasKept w (pruned_by_kept w tree o)
leaf_kept w tree None = kept w
leaf_kept w tree (Some leaf) = record { changes = refl; ids = refl; client = refl; lease = refl; epoch = refl; attempt = refl }

pub used_kept : (w : Writing) (c : Cache) (used : Option ObjName) → HasKept w (pruned_with w c used)
used_kept w c None = kept w
used_kept w c (Some (object.Head client)) = kept w
used_kept w c (Some (object.Tree tree)) = root_kept w tree (root_at c (object.Tree tree))
used_kept w c (Some (object.Page tree page)) = leaf_kept w tree (leaf_at c (object.Page tree page))

-- Local work leads to a walk, to the first write, or to an end with nothing committed.
pub data Leads (w : Writing) : NextRun → Type 0 where
  walks : (first : Bool) (e : Draft) (v : Walk) (k : Cache) → HasKept w e.writes → Leads w (walking first e v k)
  writes : (e : Draft) (k : Cache) (v : Writing) → HasKept w e.writes → length e.writes.changes ≤ length e.plan.pages → begun e.writes (records_of e) ≡ Goes v
      → Leads w (Goes (written e v, k))
  refuses : (e : Draft) (k : Cache) (t : Trouble) → HasKept w e.writes → t ≢ trouble.Memory → Leads w (refused e k t)
  lacks : (e : Draft) (k : Cache) → HasKept w e.writes → Leads w (lacking e k)

begins_lead : (w : Writing) (first : Bool) (d : Draft) (k : Cache) (to : ℕ × List ℕ) (x : NextRun) → HasKept w d.writes → Begins first d k to x → Leads w x
begins_lead w first d k to x h (walks m e is aims) = walks first (pruned_behind d m.0 m.1) m.0 m.1 (kept_on h (used_kept d.writes m.1 m.0.used))
begins_lead w first d k to x h (stops m t e link other) = refuses (pruned_behind d m.0 m.1) m.1 t (kept_on h (used_kept d.writes m.1 m.0.used)) other
begins_lead w first d k to x h (lacks m e) = lacks (pruned_behind d m.0 m.1) m.1 (kept_on h (used_kept d.writes m.1 m.0.used))

plans_lead : (w : Writing) (d : Draft) (k : Cache) (x : NextRun) → HasKept w d.writes → Plans d k x → Leads w x
plans_lead w d k x h (seeks n y is b) = begins_lead w false (planned d) k (target_of n) x h b
plans_lead w d k x h (full none e) = refuses (planned d) k (trouble.Exhausted counter.Number) h (λ memory. cc)
plans_lead w d k x h (writes v none fits e) = writes (planned d) k v h (past_none d.writes.changes (length (planned d).plan.pages) none) e

behind_kept : {d : Draft} {w : Walk} {c : Cache} {a : Answer} {first : Bool} {e : Draft} {k : Cache} → Behind d w c a first e k → HasKept d.writes e.writes
behind_kept {d = d} (at_leaf first m page e is) = used_kept d.writes m.1 m.0.used
behind_kept {d = d} (at_stale m t e is) = used_kept d.writes m.1 m.0.used
behind_kept {d = d} (passed_over m t e is) = used_kept d.writes m.1 m.0.used

comes_lead : {d : Draft} {w : Walk} {c : Cache} {a : Answer} {first : Bool} {next : NextRun} → Comes d w c a first next → Leads d.writes next
comes_lead {d = d} {first = first} (goes m e on is) = walks first (pruned_behind d m.0 m.1) m.0 m.1 (used_kept d.writes m.1 m.0.used)
comes_lead {d = d} (ends m t e is other) = refuses (pruned_behind d m.0 m.1) m.1 t (used_kept d.writes m.1 m.0.used) other
comes_lead {d = d} (lacks m e) = lacks (pruned_behind d m.0 m.1) m.1 (used_kept d.writes m.1 m.0.used)
comes_lead {d = d} (plans e k next behind p) = plans_lead d.writes e k next (behind_kept behind) p

pub walked_leads : (d : Draft) (first : Bool) (w : Walk) (c : Cache) (a : Answer) → Leads d.writes (walked first d w c a)
walked_leads d first w c a = comes_lead (comes d w c a first)

abbrev pub spent_at : Home → List Noted → Cache → NextRun
spent_at home changes c = refused (new_draft (waiting home changes)) c (trouble.Exhausted counter.Txn)

-- at the beginning no attempt number is left, or it leads on with the next one
abbrev pub BeginsWith : Home → List Noted → Cache → NextRun → Type 0
BeginsWith home changes c x = ((is_spent home ≡ true) × (x ≡ spent_at home changes c)) ⊎ ((is_spent home ≡ false) × Leads (taken home changes).writes x)

start_leads : (home : Home) (changes : List Noted) (c : Cache) (x : NextRun) → Starts home changes c x → BeginsWith home changes c x
start_leads home changes c x (spent e) = inl (e, refl)
start_leads home changes c x (long to y left e b) = inr (left, begins_lead (taken home changes).writes true (taken home changes) c to x (kept (taken home changes).writes) b)
start_leads home changes c x (few y left e p) = inr (left, plans_lead (taken home changes).writes (taken home changes) c x (kept (taken home changes).writes) p)

pub ready_leads : (home : Home) (changes : List Noted) (c : Cache) → BeginsWith home changes c (run_ready (new_run home changes, c))
ready_leads home changes c = start_leads home changes c (run_ready (new_run home changes, c)) (starts home changes c)
