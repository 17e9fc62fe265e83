-- A sweep keeps a trouble only while its lease is given back, and where its calls go well it stops for what the cloud holds alone.
use Rattle.std.proofs.Common.{◌≡◌, ◌≢◌, ◌⊎◌, ℕ, List, [], ◌∷◌, Option, Some, None, refl, sym, subst, inl, inr, ◌∙◌}
use Rattle.db_base.specs.declared.trouble.Trouble.TheVariants as trouble
use Rattle.cloud_trait.specs.Calm.{GoesWell, AreCalm}
use Rattle.cloud_trait.proofs.CalmLemmas.{goes_well}
use Rattle.orphan_sweep.specs.Causes.{Shows, IsShown, Tells}
use Rattle.orphan_sweep.specs.Leases.{Went}
use Rattle.orphan_sweep.specs.Sweeping.{Sweeping, Step, new_sweeping, sweep_ask, sweep_next}
use Rattle.orphan_sweep.specs.Calm.{IsLeft, IsWell}
use Rattle.orphan_sweep.proofs.Causes.{NextTells, step_tells}
use Rattle.orphan_sweep.proofs.Leases.{fits_of, came_stands}
use Rattle.orphan_sweep.proofs.Outcomes.{Onward, Clears, Comes, came_by}
use Rattle.orphan_sweep.proofs.Outcomes as step
use Rattle.orphan_sweep.proofs.Words.{Trouble, Answer, Turn, More, Ended, Stopped, Goes, Ends, Stops, LeadsBy, Deed, Came, Spot, Releasing, Swept}

-- ---- a trouble is kept only while the lease is given back

abbrev pub IsQuiet : Sweeping → Type 0
IsQuiet s = (s.stage ≡ Releasing) ⊎ (s.trouble ≡ None)

-- a step that goes on gives the lease back, or keeps no new trouble
abbrev NextRests : Sweeping → Step → Type 0
NextRests s (Goes n) = (n.stage ≡ Releasing) ⊎ ((s.stage ≢ Releasing) × (n.trouble ≡ s.trouble))
NextRests s (Ends n x) = Unit {0}
NextRests s (Stops n t) = Unit {0}

-- local work is done while the lease is not given back
record Stays (s q : Sweeping) : Type 0 where
  going : s.stage ≢ Releasing
  trouble : q.trouble ≡ s.trouble

clears_stays : {s q : Sweeping} {a : Answer} → Clears s a q → Stays s q
clears_stays (step.listed s held pages) = record { going = λ e. absurd (cc (e)); trouble = refl }
clears_stays (step.removed s held) = record { going = λ e. absurd (cc (e)); trouble = refl }

onward_going : {s : Sweeping} {a : Answer} {o : Option Spot} → Onward s a o → s.stage ≢ Releasing
onward_going (step.from_root s held got root e) = λ k. absurd (cc (k))
onward_going (step.from_page s held got paths e) = λ k. absurd (cc (k))

rests : {s : Sweeping} {a : Answer} {next : Step} → Comes s a next → NextRests s next
rests (step.takes s held l) = inr (λ e. absurd (cc (e)), refl)
rests (step.refused s held a t e) = tt
rests (step.stops t f) = inl refl
rests (step.reads_on spot on new) = inr (onward_going on, refl)
rests (step.has_read on) = inr (onward_going on, refl)
rests (step.removes q page c e) = inr ((clears_stays c).going, (clears_stays c).trouble)
rests (step.rests q c e) = inl refl
rests (step.ends s held a e) = tt
rests (step.stopped s held a t e) = tt
rests (step.nothing s held a) = tt

quiet_after : (s n : Sweeping) → IsQuiet s → NextRests s (Goes n) → IsQuiet n
quiet_after s n quiet (inl stage) = inl stage
quiet_after s n (inl stage) (inr (going, same)) = absurd (going stage)
quiet_after s n (inr none) (inr (going, same)) = inr (same ∙ none)

came_quiet : (tree : ℕ) (h : List Deed) (s : Sweeping) → Came sweep_ask (LeadsBy sweep_next) (new_sweeping tree) h s → IsQuiet s
came_quiet tree [] s came = subst IsQuiet (sym came) (inr refl)
came_quiet tree (d ∷ h) s came =
    quiet_after came.0 s (came_quiet tree h came.0 came.1) (rests (came_by came.0 d.answer (Goes s) came.4))

pub went_quiet : (s : Sweeping) (h : List Deed) → Went h s → IsQuiet s
went_quiet s h came = came_quiet s.tree h s came

-- ---- what is shown where the call went well

shown_left : (s : Sweeping) (a : Answer) (t : Trouble) → GoesWell a → Shows s a t → IsLeft t
shown_left s a trouble.Failed well shown = subst GoesWell shown.0 well
shown_left s a (trouble.Late end now) well shown = subst GoesWell shown well
shown_left s a (trouble.Busy lock until) well shown = subst GoesWell shown.1 well
shown_left s a (trouble.Absent page) well shown = shown.2
shown_left s a (trouble.NotALeaf page) well shown = shown
shown_left s a (trouble.Damaged where_it_is at) well shown = tt
shown_left s a (trouble.BadFence page expected found) well shown = tt
shown_left s a (trouble.Loop page) well shown = tt
shown_left s a (trouble.Exhausted what) well shown = shown
shown_left s a (trouble.Waiting have need) well shown = shown
shown_left s a (trouble.Stale page least got) well shown = shown
shown_left s a trouble.Memory well shown = tt

is_left : (s : Sweeping) (a : Answer) (t : Trouble) → GoesWell a → (s.trouble ≡ Some t → IsLeft t) → IsShown s a t → IsLeft t
is_left s a t well before (inl kept) = before kept
is_left s a t well before (inr shown) = shown_left s a t well shown

-- a trouble that is kept behind calm calls
came_left : (tree : ℕ) (h : List Deed) (s : Sweeping) (t : Trouble) → Came sweep_ask (LeadsBy sweep_next) (new_sweeping tree) h s → AreCalm h
    → s.trouble ≡ Some t → IsLeft t
came_left tree [] s t came calm kept = never (subst (λ (q : Sweeping). q.trouble ≡ Some t) came kept) where
  never : None ≡ Some t → IsLeft t
  never e = absurd (cc (e))
came_left tree (d ∷ h) s t came calm kept =
    let from : Sweeping = came.0 in
    let told : NextTells from d.answer (Goes s) =
    step_tells from d.answer (Goes s) (came_stands tree h from came.1).own (fits_of from d came.2 came.3.fits) came.4 in
    is_left from d.answer t (goes_well d came.3 calm.0) (λ e. came_left tree h from t came.1 calm.1 e) (told t kept)

is_memory : (t : Trouble) → (t ≡ trouble.Memory) ⊎ (t ≢ trouble.Memory)
is_memory trouble.Memory = inl refl
is_memory trouble.Failed = inr (λ e. absurd (cc (e)))
is_memory (trouble.Late end now) = inr (λ e. absurd (cc (e)))
is_memory (trouble.Busy lock until) = inr (λ e. absurd (cc (e)))
is_memory (trouble.Absent page) = inr (λ e. absurd (cc (e)))
is_memory (trouble.NotALeaf page) = inr (λ e. absurd (cc (e)))
is_memory (trouble.Damaged where_it_is at) = inr (λ e. absurd (cc (e)))
is_memory (trouble.BadFence page expected found) = inr (λ e. absurd (cc (e)))
is_memory (trouble.Loop page) = inr (λ e. absurd (cc (e)))
is_memory (trouble.Exhausted what) = inr (λ e. absurd (cc (e)))
is_memory (trouble.Waiting have need) = inr (λ e. absurd (cc (e)))
is_memory (trouble.Stale page least got) = inr (λ e. absurd (cc (e)))

stop_left : (old new : Sweeping) (h : List Deed) (a : Answer) (t : Trouble) → Went h old → AreCalm h → GoesWell a → Tells old a new (Stopped t)
    → (t ≡ trouble.Memory) ⊎ (t ≢ trouble.Memory) → IsLeft t
stop_left old new h a t came calm well told (inl memory) = subst IsLeft (sym memory) tt
stop_left old new h a t came calm well told (inr other) = is_left old a t well (λ e. came_left old.tree h old t came calm e) (told other)

pub tells_well : (old new : Sweeping) (h : List Deed) (a : Answer) (turn : Turn Swept) → Went h old → AreCalm h → GoesWell a → Tells old a new turn → IsWell turn
tells_well old new h a More came calm well told = tt
tells_well old new h a (Ended x) came calm well told = tt
tells_well old new h a (Stopped t) came calm well told = stop_left old new h a t came calm well told (is_memory t)
