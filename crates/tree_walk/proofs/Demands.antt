-- Where the answer shows a trouble, or the objects that the cache keeps show one on the walk's way, it stops with that.
use Rattle.std.proofs.Common.{◌≡◌, ◌≢◌, ℕ, zero, suc, Bool, true, false, List, [], ◌∷◌, ◌++◌, Option, Some, None, Result, Err, unwrap_or, refl, ap, sym, subst, ◌∙◌, inl, inr, ◌⊎◌}
use Rattle.std.specs.Prelude.{if◌then◌else◌, ◌==◌, ◌||◌}
use Rattle.std.specs.Option.{option_map}
use Rattle.std.proofs.lemmas.Bool.{eqb-true}
use Rattle.byte_format.specs.Order.{bytes_same}
use Rattle.tree_walk.proofs.Words.{Ends, Goes, Next, Stops, Answer, Turn, Ended, More, Stopped, ObjName, Trouble, Leaf, Inner, page_at as node_at}
use Rattle.db_base.specs.declared.names.ObjName.TheVariants as object
use Rattle.db_base.specs.declared.trouble.Trouble.TheVariants as trouble
use Rattle.leaf_view.specs.Lookup.{page_at}
use Rattle.page_cache.specs.Cache.{Cache, IsCache, accepts}
use Rattle.page_cache.specs.Held.{leaf_at, inner_at, root_at}
use Rattle.page_cache.specs.Refused.{IsDamaged}
use Rattle.tree_walk.specs.Moves.{Moves}
use Rattle.tree_walk.specs.Walk.{Spot, Walk, new_walk, sought, is_got_at, is_got, is_leaf, is_among, is_page, object_of, came_to, use_of, entry_for, right_of, linked, node_passed, leaf_passed, root_read, node_read, read_at, read_from, read_kept, follow, onward, goes_through, goes_on, got_read, accepted_by, left_by, beside, rested, walk_ready, walk_next}
use Rattle.tree_walk.specs.Causes.{below, aside, node_link, node_link_by, LeadsTo, BreaksLevel, BreaksFence, HasLow, IsOld, AnswerShows, Brings, IsStopped, passed_with, led_on, Meets, breaks, leads_back, beyond}
use Rattle.tree_walk.specs.Served.{IsMissing, MustGet}
use Rattle.tree_walk.proofs.Gets.{goes_must, ready_must}
use Rattle.tree_walk.proofs.Within.{among_push, or_right, passed_still}
use Rattle.tree_walk.proofs.Outcomes as step
use Rattle.tree_walk.proofs.Outcomes.{Passes, came_by}
use Rattle.tree_walk.proofs.Refusals.{damaged_refused, old_refused}

-- ---- what the answer shows

-- a trouble is want of memory, or it is not
pub memory_or : (t : Trouble) → (t ≡ trouble.Memory) ⊎ (t ≢ trouble.Memory)
memory_or trouble.Memory = inl refl
memory_or trouble.Failed = inr (λ e. cc)
memory_or (trouble.Late end now) = inr (λ e. cc)
memory_or (trouble.Busy lock until) = inr (λ e. cc)
memory_or (trouble.Waiting have need) = inr (λ e. cc)
memory_or (trouble.Stale page least got) = inr (λ e. cc)
memory_or (trouble.Absent page) = inr (λ e. cc)
memory_or (trouble.NotALeaf page) = inr (λ e. cc)
memory_or (trouble.Damaged place offset) = inr (λ e. cc)
memory_or (trouble.BadFence page expected found) = inr (λ e. cc)
memory_or (trouble.Loop page) = inr (λ e. cc)
memory_or (trouble.Exhausted what) = inr (λ e. cc)

-- where the pure step stops, so does the code, if not for want of memory
pub moved_stopped : {M : Type 0} (next : Next M ℕ) (k n : M) (t : Trouble) (turn : Turn ℕ) → next ≡ Stops k t → Moves next n turn → IsStopped turn t
moved_stopped next k n t More e moved = absurd (cc (e, moved))
moved_stopped next k n t (Ended page) e moved = absurd (cc (e, moved))
moved_stopped {M} next k n t (Stopped u) e moved = on (memory_or u) where
  on : (u ≡ trouble.Memory) ⊎ (u ≢ trouble.Memory) → IsStopped (Stopped u) t
  on (inl memory) = inr (ap Stopped memory)
  on (inr other) =
      let both : ◌≡◌ {A = Next M ℕ} (Stops n u) (Stops k t) = sym (moved other) ∙ e in
      let same : u ≡ t = cc (both) in
      inl (ap Stopped same)

refused_by : (w : Walk) (c : Cache) (got : Option (List ℕ)) (t : Trouble) → IsOld c (object_of w) (is_leaf w) got t ⊎ IsDamaged (object_of w) (is_leaf w) got t
    → accepts c (object_of w) (is_leaf w) got ≡ Err t
refused_by w c got t (inl old) = old_refused c (object_of w) (is_leaf w) got t old
refused_by w c got t (inr damaged) = damaged_refused c (object_of w) (is_leaf w) got t damaged

-- where the answer shows a trouble
pub answer_stops : (w : Walk) (c : Cache) (a : Answer) (t : Trouble) → AnswerShows (w, c) a t → walk_next (w, c) a ≡ Stops (rested w, left_by (rested w) c) t
answer_stops w c a t (inl h) = ap (walk_next (w, c)) h.1 ∙ ap (λ (u : Trouble). Stops (rested w, left_by (rested w) c) u) (sym h.0)
answer_stops w c a t (inr h) =
    ap (walk_next (w, c)) h.1 ∙ ap (λ (r : Result (ℕ × Cache) Trouble). beside (accepted_by (rested w) c r)) (refused_by w c h.0 t h.2)

-- ---- what the page in hand shows

fence_read : (c : Cache) (w : Walk) (s : Spot) (found : List ℕ) (t : Trouble) → HasLow c w.tree s found → bytes_same found s.low ≡ false → t ≡ trouble.BadFence s.page s.low found
    → (let v : Walk = record w { spot = Some s } in read_from v c ≡ Some (Stops v t))
fence_read c w s found t (inl (l, bottom, kept, low)) differs is =
    let here : bytes_same l.low s.low ≡ false = rw low at differs in rw (bottom, kept, here, is, low)
fence_read c w s found t (inr (n, above, kept, level, low)) differs is =
    let here : bytes_same n.low s.low ≡ false = rw low at differs in rw (above, kept, level, here, is, low)

broken_at : (c : Cache) (w : Walk) (s : Spot) (t : Trouble) → BreaksLevel c w.tree s t ⊎ BreaksFence c w.tree s t → (let v : Walk = record w { spot = Some s } in read_from v c ≡ Some (Stops v t))
broken_at c w s t (inl h) = rw (h.above, h.kept, h.differs, h.is)
broken_at c w s t (inr h) = fence_read c w s h.found t h.has h.differs h.is

broken : (c : Cache) (w : Walk) (s : Spot) (t : Trouble) → w.spot ≡ Some s → BreaksLevel c w.tree s t ⊎ BreaksFence c w.tree s t → read_from w c ≡ Some (Stops w t)
broken c w s t at shown = subst (λ (o : Option Spot). (let v : Walk = record w { spot = o } in read_from v c ≡ Some (Stops v t))) (sym at) (broken_at c w s t shown)

-- ---- where the object in hand leads

LinksTo : Cache → Walk → Spot → Type 0
LinksTo c w to = (v : Walk) × Passes c w v to × (read_from w c ≡ Some (linked v to))

node_leads : (c : Cache) (w : Walk) (s : Spot) (n : Inner) (to : Spot) → (s.level == 0) ≡ false → inner_at c (object.Page w.tree s.page) ≡ Some n → (n.level == s.level) ≡ true
    → bytes_same n.low s.low ≡ true → to ≡ node_link (sought w) n → (let v : Walk = record w { spot = Some s } in LinksTo c v to)
unfolding LinksTo
node_leads c w s n to above kept level low is = by (right_of (sought w) n.high (node_at n.right)) refl where
  v : Walk
  v = record w { spot = Some s }

  passes : (turned : Bool) → Passes c v (record (node_passed v) { turned = turned }) to
  passes turned =
      subst (Passes c v (record (node_passed v) { turned = turned })) (sym is) (step.by_node s n turned (record { in_hand = refl; above = above; kept = kept; level = level; low = low }))

  by : (o : Option (ℕ × List ℕ)) → right_of (sought w) n.high (node_at n.right) ≡ o → LinksTo c v to
  by (Some next) r =
      let led : to ≡ aside s.level next = is ∙ ap (node_link_by (sought w) n) r ∙ ap (λ (k : ℕ). aside k next) (eqb-true n.level s.level level) in
      (record (node_passed v) { turned = true }, passes true, rw (above, kept, level, low, r, led))
  by None r =
      let led : to ≡ below s.level (entry_for (sought w) n.entries) =
      is ∙ ap (node_link_by (sought w) n) r ∙ ap (λ (k : ℕ). below k (entry_for (sought w) n.entries)) (eqb-true n.level s.level level) in
      (node_passed v, passes w.turned, rw (above, kept, level, low, r, led))

leaf_leads : (c : Cache) (w : Walk) (s : Spot) (l : Leaf) (next : ℕ × List ℕ) (to : Spot) → (s.level == 0) ≡ true → leaf_at c (object.Page w.tree s.page) ≡ Some l → bytes_same l.low s.low ≡ true
    → right_of (sought w) l.high (page_at l.right) ≡ Some next → to ≡ aside 0 next → (let v : Walk = record w { spot = Some s } in LinksTo c v to)
unfolding LinksTo
leaf_leads c w s l next to bottom kept low right is =
    let v : Walk = record w { spot = Some s } in
    let led : to ≡ aside s.level next = is ∙ ap (λ (k : ℕ). aside k next) (sym (eqb-true s.level 0 bottom)) in
    let u : Walk = record (leaf_passed (use_of v)) { turned = true } in
    (u, subst (Passes c v u) (sym is) (step.by_leaf s l next (record { in_hand = refl; bottom = bottom; kept = kept; low = low }) right), rw (bottom, kept, low, right, led))

leads : (c : Cache) (w : Walk) (to : Spot) → LeadsTo c w w.spot to → LinksTo c w to
unfolding LinksTo
leads c w to = at w.spot where
  at : (o : Option Spot) → LeadsTo c w o to → (let v : Walk = record w { spot = o } in LinksTo c v to)
  at None (t, kept, is) =
      let v : Walk = record w { spot = None } in (use_of v, subst (Passes c v (use_of v)) (sym is) (step.by_root t refl kept), rw (kept, is))
  at (Some s) (inl (n, above, kept, level, low, is)) = node_leads c w s n to above kept level low is
  at (Some s) (inr (l, next, bottom, kept, low, right, is)) = leaf_leads c w s l next to bottom kept low right is

-- .. back to a page that the walk had come to
Loops : Cache → Walk → ℕ → Type 0
Loops c w page = (v : Walk) × (read_from w c ≡ Some (Stops v (trouble.Loop page)))

leads_loops : (c : Cache) (w : Walk) (to : Spot) → LeadsTo c w w.spot to → came_to w to.page ≡ true → Loops c w to.page
unfolding LinksTo Loops
leads_loops c w to h came =
    let (v, passes, read) = leads c w to h in
    let again : came_to v to.page ≡ true = or_right (is_page to.page v.spot) (is_among v.nodes to.page || is_among v.leaves to.page) (passed_still c w v to passes to.page came) in
    (v, read ∙ ap (λ (b : Bool). Some (if b then Stops v (trouble.Loop to.page) else Goes (record v { spot = Some to }))) again)

-- .. or on to a node, as the walk that the link led on, whatever it notes beside its way
abbrev Led : Walk → Spot → Bool → Option ObjName → Walk
Led w to turned used = record (led_on w to) { turned = turned; used = used }

LeadsOn : Cache → Walk → Spot → Type 0
LeadsOn c w to = (turned : Bool) × (used : Option ObjName) × (read_from w c ≡ Some (Goes (Led w to turned used)))

-- a page that the walk has not come to, it has not either with the node in hand passed
push_new : (a b c d e : Bool) → e ≡ (b || (d || false)) → d ≡ false → (a || (b || c)) ≡ false → (a || (e || c)) ≡ false
push_new false false false false e is other new = rw is
push_new true b c d e is other new = absurd (cc (new))
push_new false true c d e is other new = absurd (cc (new))
push_new false false true d e is other new = absurd (cc (new))
push_new false false false true e is other new = absurd (cc (other))

not_first : (a b : Bool) → (a || b) ≡ false → a ≡ false
not_first true b e = absurd (cc (e))
not_first false b e = refl

never_leaf : (to : Spot) (next : ℕ × List ℕ) → (let s = aside 0 next in (s.level == 0) ≡ false) → ⊥
never_leaf to next above = absurd (cc (above))

goes_by : (c : Cache) (w v : Walk) (to : Spot) → Passes c w v to → read_from w c ≡ Some (linked v to) → came_to w to.page ≡ false → (to.level == 0) ≡ false → LeadsOn c w to
unfolding LeadsOn
goes_by c w _ to (step.by_root t none kept) read new above = (
  w.turned,
  Some (object_of w),
  read ∙ ap (λ (b : Bool). Some (if b then Stops (use_of w) (trouble.Loop to.page) else Goes (record (use_of w) { spot = Some to }))) new
      ∙ ap (λ (ns : List ℕ). Some (Goes (record (use_of w) { spot = Some to; nodes = ns }))) (sym (ap (passed_with w.nodes) none)),
)
goes_by c w _ to (step.by_node s n turned at) read new above =
    let v : Walk = record w { nodes = w.nodes ++ s.page ∷ []; turned = turned } in
    let here : (s.page == to.page) ≡ false = subst (λ (o : Option Spot). is_page to.page o ≡ false) at.in_hand (not_first (is_page to.page w.spot) (is_among w.nodes to.page || is_among w.leaves to.page) new) in
    let other : came_to v to.page ≡ false =
    push_new (is_page to.page w.spot) (is_among w.nodes to.page) (is_among w.leaves to.page) (s.page == to.page) (is_among v.nodes to.page) (among_push w.nodes s.page to.page) here new in (
      turned,
      w.used,
      read ∙ ap (λ (b : Bool). Some (if b then Stops v (trouble.Loop to.page) else Goes (record v { spot = Some to }))) other
          ∙ ap (λ (ns : List ℕ). Some (Goes (record v { spot = Some to; nodes = ns }))) (sym (ap (passed_with w.nodes) at.in_hand)),
    )
goes_by c w _ _ (step.by_leaf s l next at right) read new above = absurd (cc (above))

leads_on : (c : Cache) (w : Walk) (to : Spot) → LeadsTo c w w.spot to → came_to w to.page ≡ false → (to.level == 0) ≡ false → LeadsOn c w to
unfolding LinksTo
leads_on c w to h new above = let (v, passes, read) = leads c w to h in goes_by c w v to passes read new above

-- ---- what is read of the object in hand

-- it stops with the trouble, or goes on to what shows it
abbrev MeetsIn : Cache → Walk → Trouble → Next Walk ℕ → Type 0
MeetsIn c w t x =
    ((u : Walk) × (x ≡ Stops u t))
    ⊎ ((to : Spot) × (turned : Bool) × (used : Option ObjName) × (x ≡ Goes (Led w to turned used)) × ((to.level == 0) ≡ false) × Meets c (led_on w to) t)

MeetsHere : Cache → Walk → Walk → Trouble → Type 0
MeetsHere c w v t = (x : Next Walk ℕ) × (read_from v c ≡ Some x) × MeetsIn c w t x

meets_reads : (c : Cache) (w : Walk) (turned : Bool) (used : Option ObjName) (t : Trouble) → Meets c w t → MeetsHere c w (record w { turned = turned; used = used }) t
unfolding MeetsHere LeadsOn Loops
meets_reads c w turned used t (breaks _ s _ at h) = let v : Walk = record w { turned = turned; used = used } in (Stops v t, broken c v s t at h, inl (v, refl))
meets_reads c w turned used _ (leads_back _ to leads came) =
    let (u, read) = leads_loops c (record w { turned = turned; used = used }) to leads came in (Stops u (trouble.Loop to.page), read, inl (u, refl))
meets_reads c w turned used t (beyond _ to _ leads new above more) =
    let v : Walk = record w { turned = turned; used = used } in
    let (b, o, read) = leads_on c v to leads new above in (Goes (Led v to b o), read, inr (to, b, o, refl, above, more))

-- ---- through kept objects

-- the trouble is met, or what is in hand still is kept and need not be got
abbrev Met : Cache → Trouble → Next Walk ℕ → Type 0
Met c t (Goes u) = (x : Next Walk ℕ) × (read_kept u c ≡ Some x)
Met c t (Ends u page) = ⊥
Met c t (Stops u q) = q ≡ t

kept_read : (v : Walk) (c : Cache) (x : Next Walk ℕ) → is_got v ≡ false → read_from v c ≡ Some x → read_kept v c ≡ Some x
kept_read v c x free read = ap (λ (b : Bool). if b then None else read_from v c) free ∙ read

through_meets : (c : Cache) (k : ℕ) (w : Walk) (turned : Bool) (used : Option ObjName) (t : Trouble) → is_got w ≡ false → Meets c w t
    → Met c t (goes_through c k (record w { turned = turned; used = used }))
unfolding goes_through MeetsHere
through_meets c zero w turned used t free meets =
    let v : Walk = record w { turned = turned; used = used } in
    let reads : MeetsHere c w v t = meets_reads c w turned used t meets in
    (reads.0, kept_read v c reads.0 free reads.1)
through_meets c (suc k) w turned used t free meets =
    let v : Walk = record w { turned = turned; used = used } in
    let reads : MeetsHere c w v t = meets_reads c w turned used t meets in
    subst (λ (o : Option (Next Walk ℕ)). Met c t (onward (goes_through c k) v o)) (sym (kept_read v c reads.0 free reads.1)) (on (through_meets c k) reads.0 reads.2)
  where
    on : ((z : Walk) (turned : Bool) (used : Option ObjName) (q : Trouble) → is_got z ≡ false → Meets c z q → Met c q (goes_through c k (record z { turned = turned; used = used })))
        → (x : Next Walk ℕ) → MeetsIn c w t x → Met c t (follow (goes_through c k) x)
    on more x (inl (u, is)) = subst (λ (y : Next Walk ℕ). Met c t (follow (goes_through c k) y)) (sym is) refl
    on more x (inr (to, turned, used, is, above, meets)) = subst (λ (y : Next Walk ℕ). Met c t (follow (goes_through c k) y)) (sym is) (more (led_on w to) turned used t above meets)

-- what has to be got is not read
must_not : (u : Walk) (c : Cache) (x : Next Walk ℕ) → MustGet u c → read_kept u c ≡ Some x → ⊥
must_not u c x must read = on u.spot must read where
  root : (b : Bool) → (b ≡ true) ⊎ (root_at c (object.Tree u.tree) ≡ None) → (if b then None else option_map (root_read u) (root_at c (object.Tree u.tree))) ≡ Some x → ⊥
  root true m e = absurd (cc (e))
  root false (inl m) e = absurd (cc (m))
  root false (inr m) e = let none : ◌≡◌ {A = Option (Next Walk ℕ)} None (Some x) = sym (ap (option_map (root_read u)) m) ∙ e in absurd (cc (none))

  page : (s : Spot) (b : Bool) (leaf : Option (Next Walk ℕ)) → (b ≡ true) ⊎ (inner_at c (object.Page u.tree s.page) ≡ None)
      → (if b then None else (if b then leaf else option_map (node_read u) (inner_at c (object.Page u.tree s.page)))) ≡ Some x → ⊥
  page s true leaf m e = absurd (cc (e))
  page s false leaf (inl m) e = absurd (cc (m))
  page s false leaf (inr m) e = let none : ◌≡◌ {A = Option (Next Walk ℕ)} None (Some x) = sym (ap (option_map (node_read u)) m) ∙ e in absurd (cc (none))

  on : (o : Option Spot) → (is_got_at u.fresh o ≡ true) ⊎ IsMissing c u.tree o → (if is_got_at u.fresh o then None else read_at u c o) ≡ Some x → ⊥
  on None m e = root u.fresh m e
  on (Some s) m e = page s (s.level == 0) _ m e

-- ---- a whole step

-- where it would go on, what is in hand would not have to be got
met_stops : (d : Cache) (t : Trouble) (whole : Next (Walk × Cache) ℕ) → ((n : Walk × Cache) → whole ≡ Goes n → MustGet n.0 n.1) → (x : Next Walk ℕ) → whole ≡ beside (x, d) → Met d t x
    → (k : Walk × Cache) × (whole ≡ Stops k t)
met_stops d t whole must (Goes u) leads (x, read) = absurd (must_not u d x (must (u, d) leads) read)
met_stops d t whole must (Ends u page) leads met = absurd met
met_stops d t whole must (Stops u q) leads is = ((u, left_by u d), leads ∙ ap (λ (r : Trouble). Stops (u, left_by u d) r) is)

got_meets : (w : Walk) (c : Cache) (t : Trouble) → Meets c w t → Met c t (got_read (rested w) c)
unfolding MeetsHere
got_meets w c t meets =
    let reads : MeetsHere c w (rested w) t = meets_reads c w w.turned None t meets in
    subst (λ (o : Option (Next Walk ℕ)). Met c t (follow (goes_on c) (unwrap_or o (Stops (rested w) trouble.Failed)))) (sym reads.1) (on reads.0 reads.2)
  where
    on : (x : Next Walk ℕ) → MeetsIn c w t x → Met c t (follow (goes_on c) x)
    on x (inl (u, is)) = subst (λ (y : Next Walk ℕ). Met c t (follow (goes_on c) y)) (sym is) refl
    on x (inr (to, turned, used, is, above, more)) =
        subst (λ (y : Next Walk ℕ). Met c t (follow (goes_on c) y)) (sym is) (through_meets c 64 (led_on w to) turned used t above more)

pub brought_meets : (w : Walk) (c : Cache) (a : Answer) (d : Cache) (t : Trouble) → Brings (w, c) a d → Meets d w t → (k : Walk × Cache) × (walk_next (w, c) a ≡ Stops k t)
brought_meets w c a d t (got, version, answered, accepted) meets =
    met_stops d t (walk_next (w, c) a) (λ n goes. goes_must (w, c) a n (came_by (w, c) a (Goes n) goes)) (got_read (rested w) d)
    (ap (walk_next (w, c)) answered ∙ ap (λ (r : Result (ℕ × Cache) Trouble). beside (accepted_by (rested w) c r)) accepted) (got_meets w d t meets)

-- ---- before the first call

pub ready_meets : (tree : ℕ) (key : Option (List ℕ)) (c : Cache) (t : Trouble) → IsCache c → Meets c (new_walk tree key false) t
    → (k : Walk × Cache) × (walk_ready (new_walk tree key false, c) ≡ Stops k t)
ready_meets tree key c t ok meets =
    let w = new_walk tree key false in
    met_stops c t (walk_ready (w, c)) (λ n goes. ready_must tree key false c n ok goes) (goes_on c (rested w)) refl (through_meets c 64 w false None t refl meets)

pub ready_exact : (tree : ℕ) (key : Option (List ℕ)) (c : Cache) (n : Walk × Cache) (turn : Turn ℕ) (t : Trouble) → IsCache c → Moves (walk_ready (new_walk tree key false, c)) n turn
    → Meets c (new_walk tree key false) t → IsStopped turn t
ready_exact tree key c n turn t ok moved meets =
    let stops = ready_meets tree key c t ok meets in
    moved_stopped (walk_ready (new_walk tree key false, c)) stops.0 n t turn stops.1 moved
