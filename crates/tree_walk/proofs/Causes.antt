-- Why a walk stops: by the answer of its call, or by what it read behind it.
use Rattle.std.proofs.Common.{◌≡◌, ◌≢◌, ℕ, Bool, true, false, List, [], ◌∷◌, ◌++◌, Some, Err, refl, ap, subst, inl, inr, ◌⊎◌}
use Rattle.std.specs.Prelude.{◌==◌, ◌||◌}
use Rattle.std.proofs.lemmas.Bool.{eq-eqb}
use Rattle.tree_walk.proofs.Words.{Get, Caller, Ends, Goes, Next, Stops, Seen, got_of, Makes, Answer, Turn, Stopped, Trouble}
use Rattle.db_base.specs.declared.trouble.Trouble.TheVariants as trouble
use Rattle.cloud_trait.specs.declared.answer.Answer.TheVariants as answer
use Rattle.cloud_trait.specs.Ask.{Ask}
use Rattle.cloud_trait.specs.Weather.{Fits}
use Rattle.page_cache.specs.Cache.{Cache}
use Rattle.tree_walk.specs.Moves.{Moves}
use Rattle.tree_walk.specs.Walk.{Spot, Walk, is_leaf, is_among, object_of, rested, walk_ask, walk_ready, walk_next}
use Rattle.tree_walk.specs.Causes.{IsLinked, WasLed, LinkShows, Shows, CausesReady}
use Rattle.tree_walk.proofs.Outcomes as step
use Rattle.tree_walk.proofs.Outcomes.{Passes, Halts, Links, Way, StopsFor, Comes, comes, Readies, readies}
use Rattle.tree_walk.proofs.Refusals.{refused_shows}

-- ---- what the objects show

-- a page is among others with it at their end
pub among_last : (ps : List ℕ) (p : ℕ) → is_among (ps ++ p ∷ []) p ≡ true
among_last [] p = ap (λ b. b || false) (eq-eqb p p refl)
among_last (q ∷ ps) p = on (q == p) (among_last ps p) where
  on : (b : Bool) → is_among (ps ++ p ∷ []) p ≡ true → (b || is_among (ps ++ p ∷ []) p) ≡ true
  on true h = refl
  on false h = h

passed_links : (c : Cache) (w v : Walk) (s : Spot) → Passes c w v s → IsLinked c v s
passed_links c w _ _ (step.by_root t none kept) = inl (t, kept, refl)
passed_links c w _ _ (step.by_node s n turned at) = inr (inl (s.page, n, among_last w.nodes s.page, at.kept, refl))
passed_links c w _ _ (step.by_leaf s l next at right) = inr (inr (s.page, l, next, among_last w.leaves s.page, at.kept, right, refl))

-- how the page in hand was come to
abbrev pub IsLed : Cache → Walk → Walk → Type 0
IsLed c old w = (s : Spot) → w.spot ≡ Some s → WasLed c old w s

link_led : (c : Cache) (old w v : Walk) → Links c w v → IsLed c old v
link_led c old w _ (step.links v s passes new) u e = let same : s ≡ u = cc (e) in inr (subst (IsLinked c v) same (passed_links c w v s passes))

pub way_led : (c : Cache) (old w v : Walk) → Way c w v → IsLed c old w → IsLed c old v
way_led c old w _ (step.here _) led = led
way_led c old w u (step.on _ v _ link way) led = way_led c old v u way (link_led c old w v link)

halt_shows : (c : Cache) (old w v : Walk) (t : Trouble) → Halts c w v t → IsLed c old w → LinkShows c old v t
halt_shows c old w _ _ (step.loops v s passes came) led = inr (record { spot = s; linked = passed_links c w v s passes; came = came; is = refl })
halt_shows c old w _ _ (step.breaks s t at shown) led = inl (s, at, led s at, shown)

-- ---- where a step stops, and not for want of memory, it shows why

-- a get that brought nothing failed, or memory ran out
pub nothing_got : (name : _) (a : Answer) (t : Trouble) → Fits (Get name) a → got_of a ≡ Err t → (t ≡ trouble.Memory) ⊎ ((t ≡ trouble.Failed) × (a ≡ answer.Failed))
nothing_got name (answer.Got got) t fits e = absurd (cc (e))
nothing_got name answer.Failed t fits e = inr (cc (e), refl)
nothing_got name answer.Memory t fits e = inl (cc (e))
nothing_got name (answer.Sent id) t fits e = absurd fits
nothing_got name (answer.Received ms) t fits e = absurd fits
nothing_got name (answer.Listed ps) t fits e = absurd fits
nothing_got name answer.Done t fits e = absurd fits
nothing_got name (answer.Given l) t fits e = absurd fits
nothing_got name (answer.Held until) t fits e = absurd fits
nothing_got name (answer.Renewed end) t fits e = absurd fits
nothing_got name (answer.Late end now) t fits e = absurd fits

stop_shows : (m n : Walk × Cache) (a : Answer) (t : Trouble) → Fits (Get (object_of m.0)) a → StopsFor m a n t → (t ≡ trouble.Memory) ⊎ Shows m a n.0 t
stop_shows m _ a _ fits (step.fails t e) = by (nothing_got (object_of m.0) a t fits e) where
  by : (t ≡ trouble.Memory) ⊎ ((t ≡ trouble.Failed) × (a ≡ answer.Failed)) → (t ≡ trouble.Memory) ⊎ Shows m a (rested m.0) t
  by (inl memory) = inl memory
  by (inr failed) = inr (inl (inl failed))
stop_shows m _ a _ fits (step.refuses got t is e) = inr (inl (inr (got, is, refused_shows m.1 (object_of m.0) (is_leaf m.0) got t e)))
stop_shows m _ a _ fits (step.halts d u v t b way halt) =
    inr (inr (d, (b.got, b.version, b.answered, b.accepted), halt_shows d m.0 u v t halt (way_led d m.0 (rested m.0) u way (λ s e. inl e))))

abbrev pub StopsBeside : Walk × Cache → Answer → Next (Walk × Cache) ℕ → Type 0
StopsBeside m a (Goes n) = Unit {0}
StopsBeside m a (Ends n page) = Unit {0}
StopsBeside m a (Stops n t) = (t ≡ trouble.Memory) ⊎ Shows m a n.0 t

pub next_stops : (w : Walk) (c : Cache) (a : Answer) → Fits (Get (object_of w)) a → StopsBeside (w, c) a (walk_next (w, c) a)
next_stops w c a fits = on (walk_next (w, c) a) (comes (w, c) a) where
  on : (x : Next (Walk × Cache) ℕ) → Comes (w, c) a x → StopsBeside (w, c) a x
  on (Goes n) o = tt
  on (Ends n page) o = tt
  on (Stops n t) o = stop_shows (w, c) n a t fits o

-- ---- of the code's step

or_else : {A B : Type 0} → A ⊎ B → (A → ⊥) → B
or_else (inl a) never = absurd (never a)
or_else (inr b) never = b

pub moved_shows : (w : Walk) (c : Cache) (n : Walk × Cache) (a : Answer) (turn : Turn ℕ) → Fits (Get (object_of w)) a → Moves (walk_next (w, c) a) n turn
    → (t : Trouble) → turn ≡ Stopped t → t ≢ trouble.Memory → Shows (w, c) a n.0 t
moved_shows w c n a turn fits moved t stopped other =
    let At : Turn ℕ → Type 0 = Moves (walk_next (w, c) a) n in
    or_else (subst (StopsBeside (w, c) a) (subst At stopped moved other) (next_stops w c a fits)) other

-- .. and of the local work before the first call
pub ready_shows : (w : Walk) (c : Cache) (n : Walk × Cache) (turn : Turn ℕ) → Moves (walk_ready (w, c)) n turn → CausesReady (w, c) n.0 turn
ready_shows w c n turn moved t stopped other =
    let At : Turn ℕ → Type 0 = Moves (walk_ready (w, c)) n in
    let (left, shown) = subst (Readies (w, c)) (subst At stopped moved other) (readies (w, c)) in
    let (u, way, halt) = shown in
    halt_shows c w u n.0 t halt (way_led c w (rested w) u way (λ s e. inl e))

-- a call of the walk's object
pub asked : (who : Caller) (k : Ask) (w : Walk) (a : Answer) (before after : Seen) → k ≡ walk_ask w → Makes who k a before after → Makes who (walk_ask w) a before after
asked who k w a before after is made = subst (λ (l : Ask). Makes who l a before after) is made
