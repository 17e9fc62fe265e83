-- Where the cache demands a trouble on the way of a commit's next walk, the commit ends with it, before its first call or behind a walk.
use Rattle.std.proofs.Common.{◌≡◌, ℕ, Bool, true, false, List, [], ◌∷◌, length, Option, Some, None, refl, ap, sym, subst, ◌∙◌, ◌⊎◌, inl, inr}
use Rattle.std.specs.Prelude.{slice_get, find, if◌then◌else◌}
use Rattle.std.specs.Option.{option_map, option_map_or}
use Rattle.std.proofs.lemmas.Option.{same_Some}
use Rattle.db_base.specs.declared.trouble.Trouble.TheVariants as trouble
use Rattle.cloud_trait.specs.declared.turn.Turn.TheVariants.{Ended}
use Rattle.page_cache.specs.Cache.{IsCache}
use Rattle.tree_walk.specs.Causes.{Meets}
use Rattle.tree_walk.specs.Moves.{Moves}
use Rattle.tree_walk.specs.Walk.{KeepsServed}
use Rattle.tree_walk.proofs.Demands.{ready_meets}
use Rattle.commit_writes.specs.Writing.{first_leaves}
use Rattle.commit_run.specs.Demands.{MeetsFirst, PassesFirst, DemandsReady, behind_stop, behind_turn, MeetsNext, PassesNext, DemandsNext}
use Rattle.commit_run.proofs.Words.{Trouble, CommitAnswer, NotCommitted, Pending, Noted, Answer, Turn, More, Stopped, Next, Stops, LeadsBy, Took, Home, Cache, Walk, new_walk, walk_ready, walk_next, seeks, pages_of, is_spent, with_attempt, routed_of, passes, Draft, pruned_behind, Run, Led, held, walk_turned, walked, left_by_turn, long_target, new_run, run_ready, target_of}
use Rattle.commit_run.proofs.CallDemands.{EndsBy, led_by}
use Rattle.commit_run.proofs.Causes.{behind_shown}
use Rattle.commit_run.proofs.Leading.{by_turn_led, took_moves}
use Rattle.commit_run.proofs.Outcomes as step
use Rattle.commit_run.proofs.Outcomes.{NextRun, Begins, Plans, Behind, Comes, Starts, comes, starts, taken}

-- behind the pages that are known without a walk stands the first change that seeks a leaf
first_sought : (pending : List Pending) (changes : List Noted) → slice_get changes (length (pages_of pending [] changes)) ≡ find (seeks pending) changes
first_sought pending [] = refl
first_sought pending (n ∷ changes) = on (seeks pending n) (first_sought pending changes) where
  on : (b : Bool) → slice_get changes (length (pages_of pending [] changes)) ≡ find (seeks pending) changes
      → slice_get (n ∷ changes) (length (option_map_or (λ page. page ∷ pages_of pending [] changes) (if b then None else Some 1) [])) ≡ (if b then Some n else find (seeks pending) changes)
  on true more = refl
  on false more = more

-- a walk that stops before its first call ends the commit
walk_ends : {d : Draft} {c : Cache} {to : ℕ × List ℕ} {x : NextRun} {k : Walk × Cache} {t : Trouble} → Begins false d c to x → walk_ready (new_walk to.0 (Some to.1) false, c) ≡ Stops k t → EndsBy t x
walk_ends (step.walks m e is aims) stops = absurd (cc (e, stops))
walk_ends {t = t} (step.stops m u e link other) stops = let same : u ≡ t = cc (e, stops) in ap NotCommitted same
walk_ends (step.lacks m e) stops = refl

-- planning goes on
plan_ends : {d : Draft} {c : Cache} {x : NextRun} {t : Trouble} → IsCache c → MeetsNext d c t ⊎ PassesNext d t → Plans d c x → EndsBy t x
plan_ends {c = c} {t = t} ok (inl (to, next, meets)) (step.seeks n y is begins) =
    let same = same_Some to (target_of n) (sym next ∙ ap (option_map target_of) is) in
    walk_ends begins (ready_meets (target_of n).0 (Some (target_of n).1) c t ok (subst (λ (k : ℕ × List ℕ). Meets c (new_walk k.0 (Some k.1) false) t) same meets)).1
plan_ends ok (inl (to, next, meets)) (step.full none e) = absurd (let never = sym next ∙ ap (option_map target_of) none in cc (never))
plan_ends ok (inl (to, next, meets)) (step.writes w none fits e) = absurd (let never = sym next ∙ ap (option_map target_of) none in cc (never))
plan_ends ok (inr (none, full, is)) (step.seeks n y some begins) = absurd (let never = sym none ∙ ap (option_map target_of) some in cc (never))
plan_ends ok (inr (none, full, is)) (step.full known e) = ap NotCommitted (sym is)
plan_ends ok (inr (none, full, is)) (step.writes w known fits e) = absurd (let never = sym full ∙ fits in cc (never))

-- ---- at the beginning

-- where no change seeks a leaf, each has page 1
first_pages : (pending : List Pending) (changes : List Noted) → find (seeks pending) changes ≡ None → pages_of pending [] changes ≡ first_leaves changes
first_pages pending [] = λ none. refl
first_pages pending (n ∷ changes) = on (seeks pending n) (first_pages pending changes) where
  on : (b : Bool) → (find (seeks pending) changes ≡ None → pages_of pending [] changes ≡ first_leaves changes) → (if b then Some n else find (seeks pending) changes) ≡ None
      → option_map_or (λ page. page ∷ pages_of pending [] changes) (if b then None else Some 1) [] ≡ 1 ∷ first_leaves changes
  on true more none = absurd (cc (none))
  on false more none = ap (λ (pages : List ℕ). 1 ∷ pages) (more none)

-- what is demanded there is demanded where planning goes on with no leaf known
demands_next : (home : Home) (changes : List Noted) (c : Cache) (t : Trouble) → MeetsFirst home changes c t ⊎ PassesFirst home changes t
    → (long_target home.head.pending ≡ None) × (MeetsNext (taken home changes) c t ⊎ PassesNext (taken home changes) t)
demands_next home changes c t (inl m) = (m.few, inl (target_of m.change, ap (option_map target_of) (first_sought home.head.pending changes ∙ m.first), m.meets))
demands_next home changes c t (inr p) = (
  p.few,
  inr (
    ap (option_map target_of) (first_sought home.head.pending changes ∙ p.none),
    ap (λ (pages : List ℕ). passes (routed_of (with_attempt home) changes pages)) (first_pages home.head.pending changes p.none) ∙ p.full,
    p.is,
  ),
)

starts_end : {home : Home} {changes : List Noted} {c : Cache} {x : NextRun} {t : Trouble} → IsCache c → is_spent home ≡ false → (long_target home.head.pending ≡ None) × (MeetsNext (taken home changes) c t ⊎ PassesNext (taken home changes) t)
    → Starts home changes c x → EndsBy t x
starts_end ok left (few, next) (step.spent e) = absurd (cc (left, e))
starts_end ok left (few, next) (step.long to y unspent long begins) = absurd (cc (few, long))
starts_end ok left (few, next) (step.few y unspent none plans) = plan_ends ok next plans

pub ready_demands : (home : Home) (changes : List Noted) (c : Cache) (old : Run) (n : Run × Cache) (turn : Turn CommitAnswer) → IsCache c → old ≡ new_run home changes → Led (run_ready (old, c)) n turn
    → DemandsReady home changes c turn
ready_demands home changes c old n turn ok new led =
    λ t left m. led_by t (run_ready (new_run home changes, c)) n turn (starts_end ok left (demands_next home changes c t m) (starts home changes c)) (subst (λ (r : Run). Led (run_ready (r, c)) n turn) new led)

-- ---- behind a walk

planned_behind : {d e : Draft} {w : Walk} {c k : Cache} {a : Answer} {first : Bool} → Behind d w c a first e k → behind_turn first d (walk_next (w, c) a) ≡ Some (e, k)
planned_behind {d = d} (step.at_leaf first m page e aims) = ap (behind_turn first d) e
planned_behind {d = d} (step.at_stale m t e stale) = ap (behind_turn false d) e ∙ ap (λ (b : Bool). behind_stop b false (pruned_behind d m.0 m.1) m.1) stale
planned_behind {d = d} (step.passed_over m t e stale) = ap (behind_turn true d) e ∙ ap (λ (b : Bool). behind_stop b true (pruned_behind d m.0 m.1) m.1) stale

-- the step ends with what is demanded where planning goes on so
DemandsBehind : Option (Draft × Cache) → Turn CommitAnswer → Type 0
DemandsBehind o turn =
    (d : Draft) (c : Cache) (t : Trouble) → o ≡ Some (d, c) → MeetsNext d c t ⊎ PassesNext d t → (turn ≡ Ended (NotCommitted t)) ⊎ (turn ≡ Stopped trouble.Memory)

none_demands : (o : Option (Draft × Cache)) (turn : Turn CommitAnswer) → o ≡ None → DemandsBehind o turn
unfolding DemandsBehind
none_demands o turn none d c t some = absurd (cc (none, some))

turn_demands : (first : Bool) (d : Draft) (w : Walk) (c : Cache) (a : Answer) (x : NextRun) (n : Run × Cache) (turn : Turn CommitAnswer) → IsCache (left_by_turn (walk_next (w, c) a)).1 → Led x n turn
    → Comes d w c a first x → DemandsBehind (behind_turn first d (walk_next (w, c) a)) turn
unfolding DemandsBehind
turn_demands first d w c a x n turn ok led (step.goes m e is aims) = none_demands (behind_turn first d (walk_next (w, c) a)) turn (ap (behind_turn first d) e)
turn_demands first d w c a x n turn ok led (step.ends m t e fresh other) =
    none_demands (behind_turn first d (walk_next (w, c) a)) turn (ap (behind_turn first d) e ∙ ap (λ (b : Bool). behind_stop b first (pruned_behind d m.0 m.1) m.1) fresh)
turn_demands first d w c a x n turn ok led (step.lacks m e) = none_demands (behind_turn first d (walk_next (w, c) a)) turn (ap (behind_turn first d) e)
turn_demands first d w c a x n turn ok led (step.plans e k y from plans) = λ f b t is shows.
    let same : (e, k) ≡ (f, b) = cc (planned_behind from, is) in
    led_by t x n turn
    (plan_ends (subst IsCache (behind_shown d w c a first e k from).1 ok) (subst (λ (p : Draft × Cache). MeetsNext p.0 p.1 t ⊎ PassesNext p.0 t) (sym same) shows) plans) led

-- the cache that the walk left, where memory did not run out
left_whole : (y : Next (Walk × Cache) ℕ) (k : Walk × Cache) (x : Turn ℕ) → Moves y k x → IsCache k.1 → (x ≡ Stopped trouble.Memory) ⊎ IsCache (left_by_turn y).1
left_whole y k More moves ok = inr (subst (λ (n : Next (Walk × Cache) ℕ). IsCache (left_by_turn n).1) (sym moves) ok)
left_whole y k (Ended page) moves ok = inr (subst (λ (n : Next (Walk × Cache) ℕ). IsCache (left_by_turn n).1) (sym moves) ok)
left_whole y k (Stopped trouble.Memory) moves ok = inl refl
left_whole y k (Stopped t) moves ok = inr (subst (λ (n : Next (Walk × Cache) ℕ). IsCache (left_by_turn n).1) (sym (moves (λ e. cc))) ok)

led_demands : (first : Bool) (d : Draft) (w : Walk) (c : Cache) (a : Answer) (k : Walk × Cache) (x : Turn ℕ) (n : Run × Cache) (turn : Turn CommitAnswer)
    → Moves (walk_next (w, c) a) k x → IsCache k.1 → (x ≡ Stopped trouble.Memory → turn ≡ Stopped trouble.Memory) → Led (walk_turned first d k.0 k.1 x) n turn
    → DemandsBehind (behind_turn first d (walk_next (w, c) a)) turn
unfolding DemandsBehind
led_demands first d w c a k x n turn moves ok memory led = on (left_whole (walk_next (w, c) a) k x moves ok) where
  on : (x ≡ Stopped trouble.Memory) ⊎ IsCache (left_by_turn (walk_next (w, c) a)).1 → DemandsBehind (behind_turn first d (walk_next (w, c) a)) turn
  on (inl lacks) = λ e b t is shows. inr (memory lacks)
  on (inr whole) =
      turn_demands first d w c a (walked first d w c a) n turn whole (by_turn_led (walk_turned first d) (walk_next (w, c) a) k.0 k.1 x n turn moves memory led) (comes d w c a first)

pub walk_demands : (first : Bool) (d : Draft) (w : Walk) (c : Cache) (a : Answer) (k : Walk × Cache) (x : Turn ℕ) (n : Run × Cache) (turn : Turn CommitAnswer)
    → Took (LeadsBy walk_next) KeepsServed (w, c) a k x → IsCache k.1 → (x ≡ Stopped trouble.Memory → turn ≡ Stopped trouble.Memory) → Led (walk_turned first d k.0 k.1 x) n turn
    → DemandsNext (record { draft = d; hand = held first w }, c) a turn
unfolding DemandsBehind
walk_demands true d w c a k x n turn took ok memory led = led_demands true d w c a k x n turn (took_moves (w, c) a k x took) ok memory led
walk_demands false d w c a k x n turn took ok memory led = led_demands false d w c a k x n turn (took_moves (w, c) a k x took) ok memory led
