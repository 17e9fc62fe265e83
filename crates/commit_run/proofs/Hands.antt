-- What is in hand is for the next change.
use Rattle.std.proofs.Common.{◌≡◌, ◌≢◌, ℕ, ◌≤◌, ◌<◌, length, Bool, true, false, List, [], Option, Some, None, unwrap_or, refl, ap, sym, subst, ◌∙◌, arith}
use Rattle.std.specs.Prelude.{slice_get, if◌then◌else◌}
use Rattle.std.specs.Option.{option_map}
use Rattle.std.proofs.lemmas.Option.{slice_get_within}
use Rattle.route_plan.proofs.Places.{past_none}
use Rattle.db_base.specs.declared.trouble.Trouble.TheVariants as trouble
use Rattle.cloud_trait.specs.declared.turn.Turn.TheVariants.{Ended}
use Rattle.commit_writes.specs.Writing.{routing}
use Rattle.tree_walk.specs.Moves.{Moves}
use Rattle.tree_walk.specs.Walk.{HasAim}
use Rattle.tree_walk.proofs.Stays.{IsTo, WalksBeside, ready_walks}
use Rattle.commit_run.specs.Draft.{KnowsNoMore}
use Rattle.commit_run.specs.Run.{IsHeld, walk_stopped}
use Rattle.commit_run.proofs.Words.{Trouble, CommitAnswer, Noted, Turn, More, Stopped, Next, Cache, Walk, sought, new_walk, walk_ready, Draft, pruned_behind, Run, held, Led, target_of, next_target, wrote, seek, troubled, is_stale, stale_at, begun_turn}
use Rattle.commit_run.proofs.Outcomes.{next_change}

-- what a walk looks for
pub same_target : (tree : ℕ) (key : Option (List ℕ)) (w : Walk) → IsTo tree key w → ◌≡◌ {A = ℕ × List ℕ} (tree, unwrap_or key []) (w.tree, sought w)
same_target tree key w to = ap (λ (t : ℕ). (t, unwrap_or key [])) (sym to.0) ∙ ap (λ (k : Option (List ℕ)). (w.tree, unwrap_or k [])) (sym to.1)

is_held : (first : Bool) (d : Draft) (w : Walk) → 1 ≤ d.writes.home.attempt → KnowsNoMore d → (first ≡ false → next_target d ≡ Some (w.tree, sought w)) → IsHeld d (held first w)
is_held true d w attempt within aimed = (attempt, within)
is_held false d w attempt within aimed = (attempt, aimed refl)

moved_to : (tree : ℕ) (key : Option (List ℕ)) (x : Next (Walk × Cache) ℕ) (w : Walk) (c : Cache) (turn : Turn ℕ) → WalksBeside tree key x → Moves x (w, c) turn → ((t : Trouble) → turn ≡ Stopped t → ⊥)
    → IsTo tree key w
moved_to tree key x w c More walks moved goes = (subst (WalksBeside tree key) moved walks).1
moved_to tree key x w c (Ended page) walks moved goes = subst (WalksBeside tree key) moved walks
moved_to tree key x w c (Stopped t) walks moved goes = absurd (goes t refl)

-- a walk that begins is for what it was made for
pub begins_held : (first : Bool) (d : Draft) (to : ℕ × List ℕ) (w₀ w : Walk) (c e : Cache) (turn : Turn ℕ) → w₀ ≡ new_walk to.0 (Some to.1) first
    → Moves (walk_ready (w₀, c)) (w, e) turn → 1 ≤ d.writes.home.attempt → KnowsNoMore d → (first ≡ false → next_target d ≡ Some to)
    → ((t : Trouble) → turn ≡ Stopped t → ⊥) → IsHeld d (held first w)
begins_held first d to w₀ w c e turn new moved attempt within aimed goes =
    let led : Moves (walk_ready (new_walk to.0 (Some to.1) first, c)) (w, e) turn = subst (λ (v : Walk). Moves (walk_ready (v, c)) (w, e) turn) new moved in
    let is : IsTo to.0 (Some to.1) w = moved_to to.0 (Some to.1) (walk_ready (new_walk to.0 (Some to.1) first, c)) w e turn (ready_walks to.0 (Some to.1) first c) led goes in
    is_held first d w attempt within (λ no. aimed no ∙ ap Some (same_target to.0 (Some to.1) w is))

-- behind the last change all leaves are known
pub all_known : (d : Draft) → KnowsNoMore d → next_change d ≡ None → length d.plan.pages ≡ length d.writes.changes
all_known d within none = omega (arith, past_none d.writes.changes (length d.plan.pages) none, within)

none_left : (o : Option Noted) → None ≡ option_map target_of o → o ≡ None
none_left None e = refl
none_left (Some n) e = absurd (cc (e))

pub no_target : (d : Draft) → None ≡ next_target d → next_change d ≡ None
no_target d e = none_left (next_change d) e

some_left : (changes : List Noted) (i : ℕ) (to : ℕ × List ℕ) (o : Option Noted) → slice_get changes i ≡ o → option_map target_of o ≡ Some to → i < length changes
some_left changes i to (Some n) e h = slice_get_within changes i n e
some_left changes i to None e h = absurd (cc (h))

-- where a change is next, not all leaves are known
pub one_left : (d : Draft) (to : ℕ × List ℕ) → next_target d ≡ Some to → length d.plan.pages < length d.writes.changes
one_left d to e = some_left d.writes.changes (length d.plan.pages) to (next_change d) refl e

-- a walk that stops at once
pub begun_stopped : (first : Bool) (d e : Draft) (w : Walk) (c : Cache) (turn : Turn ℕ) (t : Trouble) (n : Run × Cache) (result : Turn CommitAnswer) → turn ≡ Stopped t
    → e ≡ pruned_behind d w c → Led (troubled e c t) n result → Led (begun_turn first d w c turn) n result
begun_stopped first d e w c turn t n result stopped is led =
    subst (λ (u : Turn ℕ). Led (begun_turn first d w c u) n result) (sym stopped) (subst (λ (x : Draft). Led (troubled x c t) n result) is led)

-- behind the last change
pub seek_none : (d : Draft) (c : Cache) (to : Option (ℕ × List ℕ)) (n : Run × Cache) (result : Turn CommitAnswer) → to ≡ None → Led (wrote d c (routing d.writes d.plan.pages)) n result
    → Led (seek d c to) n result
seek_none d c to n result e led = subst (λ (o : Option (ℕ × List ℕ)). Led (seek d c o) n result) (sym e) led

-- a walk that stopped, and not at a stale page
pub stopped_other : (first : Bool) (d : Draft) (c : Cache) (t : Trouble) (n : Run × Cache) (result : Turn CommitAnswer) → is_stale t ≡ false → Led (troubled d c t) n result
    → Led (walk_stopped first d c t) n result
stopped_other first d c t n result e led = subst (λ (b : Bool). Led (if b then stale_at first d c else troubled d c t) n result) (sym e) led

-- a walk that goes on is for what it was for
pub steps_held : (first : Bool) (d : Draft) (from w : Walk) (turn : Turn ℕ) → IsHeld d (held first from) → (turn ≢ Stopped trouble.Memory → HasAim from w) → turn ≡ More → IsHeld d (held first w)
steps_held true d from w turn is aim more = is
steps_held false d from w turn is aim more =
    let same : HasAim from w = aim (λ stopped. absurd (cc (more, stopped))) in (is.0, is.1 ∙ ap Some (same_target from.tree from.key w (same.tree, same.key)))
