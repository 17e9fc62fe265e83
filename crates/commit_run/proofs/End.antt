-- A commit ends: each step leaves fewer calls than were left before it.
use Rattle.std.proofs.Common.{◌≡◌, ◌≢◌, ◌≤◌, ◌<◌, ◌+◌, ◌-◌, ◌*◌, ◌^◌, ℕ, Bool, true, false, List, length, Some, refl, ap, sym, subst, ◌∙◌, arith}
use Rattle.std.proofs.lemmas.Option.{slice_get_within}
use Rattle.db_base.specs.declared.trouble.Trouble.TheVariants as trouble
use Rattle.cloud_trait.specs.declared.turn.Turn.TheVariants.{Ended}
use Rattle.tree_walk.specs.Moves.{Moves}
use Rattle.tree_walk.specs.Walk.{KeepsServed}
use Rattle.tree_walk.specs.Walk.{calls_left as walk_left}
use Rattle.commit_writes.specs.End.{calls_left as writes_left}
use Rattle.commit_run.specs.Draft.{KnowsNoMore}
use Rattle.commit_run.specs.Run.{IsHeld}
use Rattle.commit_run.specs.End.{walk_calls, written_calls, unknown, walks_and_writes, left_at, calls_left, most_calls}
use Rattle.commit_run.proofs.Words.{CommitAnswer, AtomicRec, Noted, Answer, Turn, More, Stopped, Next, Goes, Ends, Stops, LeadsBy, Took, Home, Cache, Walk, IsAtLeaf, sought, walk_next, Writing, begun, routed_length, Draft, pruned_behind, planned, Run, held, new_run, target_of, next_target, walk_turned, walked, run_ready, Led}
use Rattle.commit_run.proofs.Planning.{planned_within}
use Rattle.commit_run.proofs.Hands.{all_known, one_left}
use Rattle.commit_run.proofs.Leading.{by_turn_led, took_moves}
use Rattle.commit_run.proofs.Outcomes as step
use Rattle.commit_run.proofs.Outcomes.{NextRun, Begins, Plans, Comes, Starts, HasKept, used_kept, records_of, comes, starts}
use Rattle.commit_run.proofs.Pages.{known_then, IsBehind, behind_pages}
use Rattle.commit_writes.proofs.Outcomes as wrote
use Rattle.commit_writes.proofs.Outcomes.{Logs, begins}

-- where a turn goes on, no more calls are left than this
abbrev pub AtMost : ℕ → NextRun → Type 0
AtMost n (Goes m) = calls_left m.0 ≤ n
AtMost n (Ends m a) = Unit {0}
AtMost n (Stops m t) = Unit {0}

-- ---- numbers

-- one walk more has room for the walk in hand
walk_room : (left walks more written : ℕ) → left ≤ 2 ^ 66 → walks + 1 ≤ more → (left + 1) + (walks * walk_calls + written) ≤ more * walk_calls + written
walk_room left walks more written few room = omega (arith, few, room)

walk_few : (w : Walk) → walk_left w ≤ 2 ^ 66
walk_few w = omega arith

-- the changes and the messages are the same
same_written : (w v : Writing) → HasKept w v → written_calls v ≡ written_calls w
same_written w v same = omega (arith, ap length same.changes, ap length same.ids)

-- ---- a walk begins

-- with so many walks behind it
held_left : (first : Bool) (d e : Draft) (w : Walk) (walks : ℕ) → HasKept d.writes e.writes → e.plan ≡ d.plan → (first ≡ true → unknown d + 1 ≤ walks) → (first ≡ false → (unknown d - 1) + 1 ≤ walks)
    → left_at (held first w) e ≤ walks_and_writes walks d.writes
held_left first d e w walks same plan long most = on first long most where
  changes : unknown e ≡ unknown d
  changes = ap (λ (cs : List Noted). length cs - length e.plan.pages) same.changes ∙ ap (λ p. length d.writes.changes - length p.pages) plan

  on : (b : Bool) → (b ≡ true → unknown d + 1 ≤ walks) → (b ≡ false → (unknown d - 1) + 1 ≤ walks) → left_at (held b w) e ≤ walks_and_writes walks d.writes
  on true long most =
      subst (λ (k : ℕ). (walk_left w + 1) + (unknown e * walk_calls + k) ≤ walks_and_writes walks d.writes) (sym (same_written d.writes e.writes same))
      (walk_room (walk_left w) (unknown e) walks (written_calls d.writes) (walk_few w) (subst (λ (k : ℕ). k + 1 ≤ walks) (sym changes) (long refl)))
  on false long most =
      subst (λ (k : ℕ). (walk_left w + 1) + ((unknown e - 1) * walk_calls + k) ≤ walks_and_writes walks d.writes) (sym (same_written d.writes e.writes same))
      (walk_room (walk_left w) (unknown e - 1) walks (written_calls d.writes) (walk_few w) (subst (λ (k : ℕ). (k - 1) + 1 ≤ walks) (sym changes) (most refl)))

begun_most : (first : Bool) (d : Draft) (k : Cache) (to : ℕ × List ℕ) (x : NextRun) (walks : ℕ) → (first ≡ true → unknown d + 1 ≤ walks) → (first ≡ false → (unknown d - 1) + 1 ≤ walks) → Begins first d k to x
    → AtMost (walks_and_writes walks d.writes) x
begun_most first d k to x walks long most (step.walks m e is aims) = held_left first d (pruned_behind d m.0 m.1) m.0 walks (used_kept d.writes m.1 m.0.used) refl long most
begun_most first d k to x walks long most (step.stops m t e link other) = tt
begun_most first d k to x walks long most (step.lacks m e) = tt

-- ---- the first record is written

abbrev WritesFew : ℕ → Next Writing CommitAnswer → Type 0
WritesFew n (Goes w) = writes_left w ≤ n
WritesFew n (Ends w a) = Unit {0}
WritesFew n (Stops w t) = Unit {0}

begun_few : (w : Writing) (records : List AtomicRec) (x : Next Writing CommitAnswer) (walks : ℕ) → length records ≡ length w.changes → Logs (record w { records = records; place = 0 }) x
    → WritesFew (walks_and_writes walks w) x
begun_few w records x walks many (wrote.logs r e) = omega (arith, many)
begun_few w records x walks many (wrote.opens e) = omega (arith, many)

-- ---- planning on: each change whose leaf is not known then has a walk

plan_most : (d : Draft) (c : Cache) (x : NextRun) (walks : ℕ) → KnowsNoMore d → unknown (planned d) ≤ walks → Plans d c x → AtMost (walks_and_writes walks d.writes) x
plan_most d c x walks within few (step.seeks n y is begins) =
    begun_most false (planned d) c (target_of n) x walks (λ change. absurd (cc (change))) (λ long. omega (arith, few, slice_get_within d.writes.changes (length (planned d).plan.pages) n is)) begins
plan_most d c x walks within few (step.full none e) = tt
plan_most d c x walks within few (step.writes w none fits e) =
    let known = all_known (planned d) (planned_within d.writes.home.head.pending d.plan.ended d.writes.changes d.plan.pages within) none in
    subst (WritesFew (walks_and_writes walks d.writes)) e (begun_few d.writes (records_of (planned d)) (begun d.writes (records_of (planned d))) walks (routed_length d.writes.home d.writes.changes (planned d).plan.pages known) (begins d.writes (records_of (planned d))))

-- ---- a step of the walk in hand

-- where a turn goes on, fewer calls are left than this
abbrev pub IsBelow : ℕ → NextRun → Type 0
IsBelow n (Goes m) = calls_left m.0 < n
IsBelow n (Ends m a) = Unit {0}
IsBelow n (Stops m t) = Unit {0}

most_below : (n k : ℕ) (x : NextRun) → n < k → AtMost n x → IsBelow k x
most_below n k (Goes m) h most = omega (arith, h, most)
most_below n k (Ends m a) h most = tt
most_below n k (Stops m t) h most = tt

-- how many walks may come behind the one in hand
abbrev pub behind_of : Bool → Draft → ℕ
behind_of true d = unknown d
behind_of false d = unknown d - 1

abbrev pub with_walk : ℕ → Bool → Draft → ℕ
with_walk left first d = (left + 1) + walks_and_writes (behind_of first d) d.writes

-- where the walk ends, or met a stale page, the plan goes on
plan_below : (left : ℕ) (first : Bool) (d e : Draft) (c : Cache) (x : NextRun) → IsBehind first d e → Plans e c x → IsBelow (with_walk left first d) x
plan_below left first d e c x b plans =
    most_below (walks_and_writes (behind_of first d) e.writes) (with_walk left first d) x (room left (behind_of first d * walk_calls) (written_calls e.writes) (written_calls d.writes) (same_written d.writes e.writes b.same))
    (plan_most e c x (behind_of first d) b.within (fewer first b.known) plans) where
      room : (a k u v : ℕ) → u ≡ v → k + u < (a + 1) + (k + v)
      room a k u v e = omega (arith, e)

      fewer : (b : Bool) → known_then b d ≤ length (planned e).plan.pages → unknown (planned e) ≤ behind_of b d
      fewer true h = omega (arith, h, ap length b.same.changes)
      fewer false h = omega (arith, h, ap length b.same.changes)

goes_below : (left : ℕ) (first : Bool) (d : Draft) (w : Walk) (c : Cache) → walk_left w < left → left_at (held first w) (pruned_behind d w c) < with_walk left first d
goes_below left first d w c less = on first where
  same : HasKept d.writes (pruned_behind d w c).writes
  same = used_kept d.writes c w.used

  unknown_so : unknown (pruned_behind d w c) ≡ unknown d
  unknown_so = ap (λ (cs : List Noted). length cs - length d.plan.pages) same.changes

  less_walk : (a b k u v : ℕ) → a < b → u ≡ v → (a + 1) + (k + u) < (b + 1) + (k + v)
  less_walk a b k u v h e = omega (arith, h, e)

  on : (b : Bool) → left_at (held b w) (pruned_behind d w c) < with_walk left b d
  on true =
      subst (λ (k : ℕ). (walk_left w + 1) + (k * walk_calls + written_calls (pruned_behind d w c).writes) < with_walk left true d) (sym unknown_so)
      (less_walk (walk_left w) left (unknown d * walk_calls) (written_calls (pruned_behind d w c).writes) (written_calls d.writes) less (same_written d.writes (pruned_behind d w c).writes same))
  on false =
      subst (λ (k : ℕ). (walk_left w + 1) + ((k - 1) * walk_calls + written_calls (pruned_behind d w c).writes) < with_walk left false d) (sym unknown_so)
      (less_walk (walk_left w) left ((unknown d - 1) * walk_calls) (written_calls (pruned_behind d w c).writes) (written_calls d.writes) less (same_written d.writes (pruned_behind d w c).writes same))

turn_below : (left : ℕ) (first : Bool) (d : Draft) (w : Walk) (c : Cache) (a : Answer) (x : NextRun) → KnowsNoMore d → (first ≡ false → next_target d ≡ Some (w.tree, sought w))
    → ((m : Walk × Cache) → walk_next (w, c) a ≡ Goes m → walk_left m.0 < left) → ((m : Walk × Cache) (page : ℕ) → walk_next (w, c) a ≡ Ends m page → IsAtLeaf m.0 m.1 page)
    → Comes d w c a first x → IsBelow (with_walk left first d) x
turn_below left first d w c a x within target less ends (step.goes m e is aims) = goes_below left first d m.0 m.1 (less m e)
turn_below left first d w c a x within target less ends (step.ends m t e fresh other) = tt
turn_below left first d w c a x within target less ends (step.lacks m e) = tt
turn_below left first d w c a x within target less ends (step.plans e k y from plans) = plan_below left first d e k x (behind_pages d w c a first e k within target ends from) plans

held_within : (first : Bool) (d : Draft) (w : Walk) → IsHeld d (held first w) → KnowsNoMore d
held_within true d w is = is.1
held_within false d w is = omega (arith, one_left d (w.tree, sought w) is.1)

held_target : (first : Bool) (d : Draft) (w : Walk) → IsHeld d (held first w) → first ≡ false → next_target d ≡ Some (w.tree, sought w)
held_target true d w is change = absurd (cc (change))
held_target false d w is change = is.1

held_with : (first : Bool) (d : Draft) (w : Walk) → left_at (held first w) d ≡ with_walk (walk_left w) first d
held_with true d w = refl
held_with false d w = refl

led_below : (k : ℕ) (x : NextRun) (n : Run × Cache) (result : Turn CommitAnswer) → IsBelow k x → Led x n result → result ≡ More → calls_left n.0 < k
led_below k x n result below led more = let At : Turn CommitAnswer → Type 0 = Led x n in subst (IsBelow k) (subst At more led) below

-- where memory did not run out, the code's walk went as the model's
goes_so : (y : Next (Walk × Cache) ℕ) (k m : Walk × Cache) (turn : Turn ℕ) → Moves y k turn → turn ≢ Stopped trouble.Memory → y ≡ Goes m → (turn ≡ More) × (k ≡ m)
goes_so y k m More moves found e = (refl, cc (moves, e))
goes_so y k m (Ended page) moves found e = absurd (cc (moves, e))
goes_so y k m (Stopped t) moves found e = absurd (let stops = moves (λ memory. found (ap Stopped memory)) in cc (stops, e))

ends_so : (y : Next (Walk × Cache) ℕ) (k m : Walk × Cache) (page : ℕ) (turn : Turn ℕ) → Moves y k turn → turn ≢ Stopped trouble.Memory → y ≡ Ends m page → (turn ≡ Ended page) × (k ≡ m)
ends_so y k m page More moves found e = absurd (cc (moves, e))
ends_so y k m page (Ended other) moves found e = let same : other ≡ page = cc (moves, e) in (ap Ended same, cc (moves, e))
ends_so y k m page (Stopped t) moves found e = absurd (let stops = moves (λ memory. found (ap Stopped memory)) in cc (stops, e))

-- it leaves fewer calls
pub walk_less : (first : Bool) (d : Draft) (from : Walk) (c : Cache) (a : Answer) (k : Walk × Cache) (turn : Turn ℕ) (n : Run × Cache) (result : Turn CommitAnswer) → IsHeld d (held first from)
    → Took (LeadsBy walk_next) KeepsServed (from, c) a k turn → (turn ≡ Stopped trouble.Memory → result ≡ Stopped trouble.Memory) → (turn ≡ More → walk_left k.0 < walk_left from)
    → ((page : ℕ) → turn ≡ Ended page → IsAtLeaf k.0 k.1 page) → Led (walk_turned first d k.0 k.1 turn) n result → result ≡ More → calls_left n.0 < left_at (held first from) d
walk_less first d from c a k turn n result is took memory less ends led more =
    subst (λ (k : ℕ). calls_left n.0 < k) (sym (held_with first d from))
    (led_below (with_walk (walk_left from) first d) (walked first d from c a) n result
    (turn_below (walk_left from) first d from c a (walked first d from c a) (held_within first d from is) (held_target first d from is) fewer at_leaf (comes d from c a first))
    (by_turn_led (walk_turned first d) (walk_next (from, c) a) k.0 k.1 turn n result moves memory led) more) where
      moves : Moves (walk_next (from, c) a) k turn
      moves = took_moves (from, c) a k turn took

      found : turn ≢ Stopped trouble.Memory
      found lacks = let stops = memory lacks in cc (stops, more)

      fewer : (m : Walk × Cache) → walk_next (from, c) a ≡ Goes m → walk_left m.0 < walk_left from
      fewer m e = let so = goes_so (walk_next (from, c) a) k m turn moves found e in subst (λ (v : Walk × Cache). walk_left v.0 < walk_left from) so.1 (less so.0)

      at_leaf : (m : Walk × Cache) (page : ℕ) → walk_next (from, c) a ≡ Ends m page → IsAtLeaf m.0 m.1 page
      at_leaf m page e = let so = ends_so (walk_next (from, c) a) k m page turn moves found e in subst (λ (v : Walk × Cache). IsAtLeaf v.0 v.1 page) so.1 (ends page so.0)

-- ---- at the beginning

start_most : (home : Home) (changes : List Noted) (c : Cache) (x : NextRun) → Starts home changes c x → AtMost (walks_and_writes (length changes + 1) (step.taken home changes).writes) x
start_most home changes c x (step.spent e) = tt
start_most home changes c x (step.long to y left e begins) = begun_most true (step.taken home changes) c to x (length changes + 1) (λ long. omega arith) (λ change. absurd (cc (change))) begins
start_most home changes c x (step.few y left e plans) = plan_most (step.taken home changes) c x (length changes + 1) (omega arith) (omega arith) plans

-- a commit begins with the calls that its changes need at most
pub ready_most : (home : Home) (changes : List Noted) (c : Cache) (old : Run) (n : Run × Cache) (turn : Turn CommitAnswer) → old ≡ new_run home changes → Led (run_ready (old, c)) n turn → turn ≡ More
    → calls_left n.0 ≤ most_calls (length changes)
ready_most home changes c old n turn new led more =
    let At : Turn CommitAnswer → Type 0 = Led (run_ready (new_run home changes, c)) n in
    let goes : run_ready (new_run home changes, c) ≡ Goes n = subst At more (subst (λ (r : Run). Led (run_ready (r, c)) n turn) new led) in
    omega (arith, subst (AtMost (walks_and_writes (length changes + 1) (step.taken home changes).writes)) goes (start_most home changes c (run_ready (new_run home changes, c)) (starts home changes c)))
