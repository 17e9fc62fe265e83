-- Why a step ends a commit with nothing committed.
use Rattle.std.proofs.Common.{◌≡◌, ℕ, Bool, true, false, List, length, refl, ap, sym, subst, ◌∙◌, inl, inr, ◌⊎◌}
use Rattle.std.specs.Prelude.{slice_get}
use Rattle.db_base.specs.declared.trouble.Trouble.TheVariants as trouble
use Rattle.db_base.specs.declared.trouble.Counter.TheVariants as counter
use Rattle.cloud_trait.specs.declared.turn.Turn.TheVariants.{Ended}
use Rattle.cloud_trait.specs.Views.{trouble_of}
use Rattle.cloud_trait.specs.Weather.{Fits}
use Rattle.tree_walk.proofs.Causes.{StopsBeside, next_stops}
use Rattle.commit_run.proofs.Words.{Trouble, CommitAnswer, Noted, Answer, Turn, More, Stopped, Get, Next, Goes, Ends, Stops, LeadsBy, Took, Home, Cache, Walk, object_of, walk_next, Writing, writing_next, Writes, First, Change, Draft, planned, Run, held, new_run, wrote, walked, run_ready, run_next, Led, KeepsHome, left_by_turn}
use Rattle.commit_run.proofs.Outcomes as step
use Rattle.commit_run.proofs.Outcomes.{NextRun, Plans, Behind, Comes, Starts, used_kept, comes, starts}
use Rattle.commit_writes.proofs.Outcomes as wrote_so
use Rattle.commit_writes.proofs.Outcomes.{Comes as Wrote, comes as wrote_by}
use Rattle.commit_run.specs.Causes.{StopsNext, PassesNumber, ShowsWalk, ShowsIn, TellsOf, Tells, Causes, ShowsReady, CausesReady}

-- where a turn ends with nothing committed, its trouble is so, by where it leads
abbrev pub Shown : (Run → Trouble → Type 0) → NextRun → Type 0
Shown shows (Goes n) = Unit {0}
Shown shows (Ends n a) = TellsOf (shows n.0) a
Shown shows (Stops n t) = Unit {0}

-- ---- behind a walk

-- a walk for one of the changes begins beside the cache, and where none does a number is too great
plan_shown : (shows : Run → Trouble → Type 0) (changes : List Noted) (d : Draft) (c : Cache) (x : NextRun) → ((n : Run) (t : Trouble) → StopsNext changes c t → shows n t) → ((n : Run) (t : Trouble) → PassesNumber n t → shows n t)
    → d.writes.changes ≡ changes → Plans d c x → Shown shows x
plan_shown shows changes d c x next number same (step.seeks n y is (step.walks m e ok aims)) = tt
plan_shown shows changes d c x next number same (step.seeks n y is (step.stops m t e link other)) =
    next _ t (length (planned d).plan.pages, n, ap (λ (cs : List Noted). slice_get cs (length (planned d).plan.pages)) (sym same) ∙ is, (m, e, link))
plan_shown shows changes d c x next number same (step.seeks n y is (step.lacks m e)) = tt
plan_shown shows changes d c x next number same (step.full none e) = number _ (trouble.Exhausted counter.Number) (refl, e)
plan_shown shows changes d c x next number same (step.writes w none fits e) = tt

-- where the walk in hand stops so, or goes on to its end
abbrev pub WalkCause : Walk → Cache → Answer → List Noted → Run → Trouble → Type 0
WalkCause w c a changes n t = ShowsWalk (w, c) a changes n t

pub behind_shown : (d : Draft) (w : Walk) (c : Cache) (a : Answer) (first : Bool) (e : Draft) (k : Cache) → Behind d w c a first e k → (e.writes.changes ≡ d.writes.changes) × ((left_by_turn (walk_next (w, c) a)).1 ≡ k)
behind_shown d w c a first e k (step.at_leaf one m page ended aims) = ((used_kept d.writes m.1 m.0.used).changes, ap (λ (x : Next (Walk × Cache) ℕ). (left_by_turn x).1) ended)
behind_shown d w c a first e k (step.at_stale m t stopped is) = ((used_kept d.writes m.1 m.0.used).changes, ap (λ (x : Next (Walk × Cache) ℕ). (left_by_turn x).1) stopped)
behind_shown d w c a first e k (step.passed_over m t stopped is) = ((used_kept d.writes m.1 m.0.used).changes, ap (λ (x : Next (Walk × Cache) ℕ). (left_by_turn x).1) stopped)

or_else : {A B : Type 0} → A ⊎ B → (A → ⊥) → B
or_else (inl a) never = absurd (never a)
or_else (inr b) never = b

comes_shown : (first : Bool) (d : Draft) (w : Walk) (c : Cache) (a : Answer) (x : NextRun) → Fits (Get (object_of w)) a → Comes d w c a first x → Shown (WalkCause w c a d.writes.changes) x
comes_shown first d w c a x fits (step.goes m e is aims) = tt
comes_shown first d w c a x fits (step.ends m t e is other) = inl (m, e, is, or_else (subst (StopsBeside (w, c) a) e (next_stops w c a fits)) other)
comes_shown first d w c a x fits (step.lacks m e) = tt
comes_shown first d w c a x fits (step.plans e k y from p) =
    let so = behind_shown d w c a first e k from in
    plan_shown (WalkCause w c a d.writes.changes) d.writes.changes e k x (λ n t h. inr (inl (subst (λ (b : Cache). StopsNext d.writes.changes b t) (sym so.1) h))) (λ n t h. inr (inr h)) so.0 p

pub walked_shown : (first : Bool) (d : Draft) (w : Walk) (c : Cache) (a : Answer) → Fits (Get (object_of w)) a → Shown (WalkCause w c a d.writes.changes) (walked first d w c a)
walked_shown first d w c a fits = comes_shown first d w c a (walked first d w c a) fits (comes d w c a first)

-- ---- at the beginning

start_shown : (home : Home) (changes : List Noted) (c : Cache) (x : NextRun) → Starts home changes c x → Shown (ShowsReady (new_run home changes, c)) x
start_shown home changes c x (step.spent e) = inl (refl, e)
start_shown home changes c x (step.long to y left long (step.walks m e is aims)) = tt
start_shown home changes c x (step.long to y left long (step.stops m t e link other)) = inr (inl (to, long, m, e, link))
start_shown home changes c x (step.long to y left long (step.lacks m e)) = tt
start_shown home changes c x (step.few y left few p) =
    plan_shown (ShowsReady (new_run home changes, c)) changes (step.taken home changes) c x (λ n t h. inr (inr (inl h))) (λ n t h. inr (inr (inr h))) refl p

pub ready_causes : (home : Home) (changes : List Noted) (c : Cache) (old : Run) (n : Run × Cache) (turn : Turn CommitAnswer) → old ≡ new_run home changes → Led (run_ready (old, c)) n turn
    → CausesReady (old, c) n.0 turn
ready_causes home changes c old n turn new led =
    subst (λ (r : Run). CausesReady (r, c) n.0 turn) (sym new) (on turn (subst (λ (r : Run). Led (run_ready (r, c)) n turn) new led)) where
      on : (t : Turn CommitAnswer) → Led (run_ready (new_run home changes, c)) n t → CausesReady (new_run home changes, c) n.0 t
      on More h = tt
      on (Ended a) h = subst (Shown (ShowsReady (new_run home changes, c))) h (start_shown home changes c (run_ready (new_run home changes, c)) (starts home changes c))
      on (Stopped t) h = tt

-- ---- the writes

abbrev WriteShown : Answer → Next Writing CommitAnswer → Type 0
WriteShown a (Goes w) = Unit {0}
WriteShown a (Ends w x) = TellsOf (λ t. t ≡ trouble_of a) x
WriteShown a (Stops w t) = Unit {0}

write_shown : {w : Writing} {a : Answer} {x : Next Writing CommitAnswer} → Wrote w a x → WriteShown a x
write_shown (wrote_so.goes_on w id next (wrote_so.logs r e)) = tt
write_shown (wrote_so.goes_on w id next (wrote_so.opens e)) = tt
write_shown (wrote_so.not_logged w a failed) = refl
write_shown (wrote_so.late w end now) = refl
write_shown (wrote_so.doubts w a failed) = tt
write_shown (wrote_so.sends n r posts e) = tt
write_shown (wrote_so.settles n posts e) = tt
write_shown (wrote_so.stays_open leaves) = tt
write_shown (wrote_so.deletes n id clears e) = tt
write_shown (wrote_so.ends n clears e) = tt
write_shown (wrote_so.lacks w under) = tt
write_shown (wrote_so.waits w a) = tt
write_shown (wrote_so.rests w a) = tt

wrote_shown : (d : Draft) (c : Cache) (a : Answer) (changes : List Noted) (x : Next Writing CommitAnswer) → WriteShown a x → Shown (ShowsIn Writes c a changes) (wrote d c x)
wrote_shown d c a changes (Goes w) h = tt
wrote_shown d c a changes (Ends w x) h = h
wrote_shown d c a changes (Stops w t) h = tt

-- ---- a step

took_tells : (shows : Run → Trouble → Type 0) (m : Run × Cache) (a : Answer) (n : Run × Cache) (turn : Turn CommitAnswer) → Shown shows (run_next m a) → Took (LeadsBy run_next) KeepsHome m a n turn
    → Tells (shows n.0) turn
took_tells shows m a n More shown took = tt
took_tells shows m a n (Ended x) shown took = subst (Shown shows) took shown
took_tells shows m a n (Stopped t) shown took = tt

pub write_causes : (d : Draft) (c : Cache) (a : Answer) (n : Run × Cache) (turn : Turn CommitAnswer) → Took (LeadsBy run_next) KeepsHome (record { draft = d; hand = Writes }, c) a n turn
    → Causes (record { draft = d; hand = Writes }, c) a n turn
write_causes d c a n turn took =
    took_tells (ShowsIn Writes c a d.writes.changes) (record { draft = d; hand = Writes }, c) a n turn
    (wrote_shown d c a d.writes.changes (writing_next d.writes a) (write_shown (wrote_by d.writes a))) took

pub walk_causes : (first : Bool) (d : Draft) (w : Walk) (c : Cache) (a : Answer) (n : Run × Cache) (turn : Turn CommitAnswer) → Fits (Get (object_of w)) a
    → Took (LeadsBy run_next) KeepsHome (record { draft = d; hand = held first w }, c) a n turn → Causes (record { draft = d; hand = held first w }, c) a n turn
walk_causes true d w c a n turn fits took = took_tells (WalkCause w c a d.writes.changes) (record { draft = d; hand = First w }, c) a n turn (walked_shown true d w c a fits) took
walk_causes false d w c a n turn fits took = took_tells (WalkCause w c a d.writes.changes) (record { draft = d; hand = Change w }, c) a n turn (walked_shown false d w c a fits) took
