-- Where the answer shows a trouble, or what it brings shows one, a scan stops with that.
use Rattle.std.proofs.Common.{◌≡◌, ◌⊎◌, ℕ, Bool, true, false, List, [], ◌∷◌, ◌++◌, Option, Some, None, Result, Ok, Err, inl, inr, unwrap_or, refl, ap, sym, subst, ◌∙◌}
use Rattle.std.specs.Prelude.{◌&&◌, ◌||◌, ◌==◌, if◌then◌else◌}
use Rattle.byte_format.specs.Order.{bytes_same, below_bound}
use Rattle.db_base.specs.declared.names.ObjName.{ObjName}
use Rattle.db_base.specs.declared.names.ObjName.TheVariants as object
use Rattle.range_scan.proofs.Words.{Ends, LeadsBy, Next, Stops, Took, Answer, Turn, Ended, More, Stopped, Trouble, Leaf, page_at}
use Rattle.db_base.specs.declared.trouble.Trouble.TheVariants as trouble
use Rattle.cloud_trait.specs.declared.answer.Answer.TheVariants as answer
use Rattle.page_cache.specs.Cache.{Cache, IsCache, accepts, kept_at}
use Rattle.page_cache.specs.Held.{leaf_at, as_leaf}
use Rattle.page_cache.specs.Refused.{IsDamaged}
use Rattle.page_cache.proofs.CacheLemmas.{accept_kept}
use Rattle.tree_walk.specs.Moves.{Moves}
use Rattle.tree_walk.specs.Walk.{Spot, Walk, IsWalk, sought, is_leaf, object_at, object_of, is_page, is_among, came_to, use_of, right_of, read_from, follow, goes_on, accepted_by, left_by, beside, rested, walk_ready, walk_next}
use Rattle.tree_walk.specs.Causes.{FailsSo, IsOld, IsStopped, Meets}
use Rattle.tree_walk.proofs.Causes.{ready_shows}
use Rattle.tree_walk.proofs.Demands.{answer_stops, moved_stopped, brought_meets, ready_meets}
use Rattle.tree_walk.proofs.Refusals.{old_refused, damaged_refused}
use Rattle.tree_walk.proofs.Served.{IsServedBy, end_served}
use Rattle.range_scan.specs.Scan.{Scan, scan_came_to, right_behind, ended_at, leaf_ended, first_in, scan_beside, walked_by, scan_ready, next_at, scan_next, KeepsServed}
use Rattle.range_scan.specs.Meaning.{Range, Move, Scanned, scan_of}
use Rattle.range_scan.specs.Causes.{RefusesSo, BreaksFence, CausesReady, FirstLeadsBack, LeadsBack, IsExactWalk, IsExactRight, Exact}
use Rattle.range_scan.proofs.Meaning.{walk_of, scanned_stands}
use Rattle.range_scan.proofs.Outcomes.{Readies, scan_readies}

took_moves : (m : Scan × Cache) (a : Answer) (n : Scan × Cache) (turn : Turn ℕ) → Took (LeadsBy scan_next) KeepsServed m a n turn → Moves (scan_next m a) n turn
took_moves m a n More h = h
took_moves m a n (Ended page) h = h
took_moves m a n (Stopped t) h = h.0

-- the pure step stops with this
StopsWith : Next (Scan × Cache) ℕ → Trouble → Type 0
StopsWith x t = (k : Scan × Cache) × (x ≡ Stops k t)

stopped : (m n : Scan × Cache) (a : Answer) (t : Trouble) (turn : Turn ℕ) → StopsWith (scan_next m a) t → Took (LeadsBy scan_next) KeepsServed m a n turn → IsStopped turn t
unfolding StopsWith
stopped m n a t turn h took = moved_stopped (scan_next m a) h.0 n t turn h.1 (took_moves m a n turn took)

-- ---- the end of a leaf

ended_loops : (s : Scan) (l : Leaf) (page : ℕ) (next : Spot) (c : Cache) (t : Trouble) → right_behind l.high (page_at l.right) ≡ Some next → below_bound next.low s.to ≡ true → scan_came_to s next.page ≡ true
    → t ≡ trouble.Loop next.page → scan_beside (leaf_ended s l page, c) ≡ Stops (s, c) t
ended_loops s l page next c t linked wanted came is =
    ap (λ (o : Option Spot). scan_beside (ended_at s page o, c)) linked
    ∙ ap (λ (b : Bool). scan_beside (if b && scan_came_to s next.page then Stops s (trouble.Loop next.page) else Ends (record s { next = Some next }) page, c)) wanted
    ∙ ap (λ (b : Bool). scan_beside (if b then Stops s (trouble.Loop next.page) else Ends (record s { next = Some next }) page, c)) came
    ∙ ap (λ (u : Trouble). Stops (s, c) u) (sym is)

-- ---- the walk

walk_stops : (m : Scan × Cache) (a : Answer) (k : Walk × Cache) (t : Trouble) → m.0.spot ≡ None → walk_next (m.0.walk, m.1) a ≡ Stops k t → StopsWith (scan_next m a) t
unfolding StopsWith
walk_stops m a k t none e = ((record m.0 { walk = k.0 }, k.1), ap (λ (o : Option Spot). next_at o m a) none ∙ ap (walked_by m.0) e)

-- what is read of the leaf in hand ends there
leaf_ends : (w : Walk) (d : Cache) (s : Spot) (l : Leaf) → w.spot ≡ Some s → (s.level == 0) ≡ true → leaf_at d (object.Page w.tree s.page) ≡ Some l → bytes_same l.low s.low ≡ true
    → right_of (sought w) l.high (page_at l.right) ≡ None → read_from w d ≡ Some (Ends (use_of w) s.page)
leaf_ends w d s l at bottom kept same ends =
    subst (λ (o : Option Spot). (let v : Walk = record w { spot = o } in read_from v d ≡ Some (Ends (use_of v) s.page))) (sym at) (rw (bottom, kept, same, ends))

walk_ends : (w : Walk) (c : Cache) (a : Answer) (d : Cache) (got : Option (List ℕ)) (version page : ℕ) → a ≡ answer.Got got → accepts c (object_of w) (is_leaf w) got ≡ Ok (version, d)
    → read_from (rested w) d ≡ Some (Ends (use_of (rested w)) page) → walk_next (w, c) a ≡ Ends (use_of (rested w), left_by (use_of (rested w)) d) page
walk_ends w c a d got version page answered accepted read =
    ap (walk_next (w, c)) answered ∙ ap (λ (r : Result (ℕ × Cache) Trouble). beside (accepted_by (rested w) c r)) accepted
    ∙ ap (λ (o : Option (Next Walk ℕ)). beside (follow (goes_on d) (unwrap_or o (Stops (rested w) trouble.Failed)), d)) read

-- the leaf at which it ends is the one that was brought
same_leaf : (w : Walk) (a : Answer) (n : Walk × Cache) (page : ℕ) (c d : Cache) (got : Option (List ℕ)) (version : ℕ) (s : Spot) (l : Leaf) → a ≡ answer.Got got → accepts c (object_of w) (is_leaf w) got ≡ Ok (version, d)
    → w.spot ≡ Some s → leaf_at d (object.Page w.tree s.page) ≡ Some l → IsServedBy w a n page → leaf_at n.1 (object_of n.0) ≡ Some l
same_leaf w a n page c d got version s l answered accepted at kept served =
    let bytes : got ≡ served.bytes = cc (answered, served.answered) in
    let held : kept_at d (object_of w) ≡ Some got = accept_kept c (object_of w) (is_leaf w) got version d accepted in
    let here : as_leaf (Some got) ≡ Some l = sym (ap as_leaf held) ∙ (ap (λ (o : Option Spot). as_leaf (kept_at d (object_at w.tree o))) at ∙ kept) in
    served.kept ∙ (sym served.spelled ∙ (ap (λ (b : Option (List ℕ)). as_leaf (Some b)) (sym bytes) ∙ here))

first_back : (m : Scan × Cache) (a : Answer) (t : Trouble) → IsWalk m.0.walk → m.0.spot ≡ None → FirstLeadsBack m a t → StopsWith (scan_next m a) t
unfolding StopsWith
first_back m a t ok none h =
    let w = m.0.walk in
    let k : Walk × Cache = (use_of (rested w), left_by (use_of (rested w)) h.cache) in
    let read = leaf_ends (rested w) h.cache h.spot h.leaf h.in_hand h.bottom h.kept h.same h.ends in
    let ended : walk_next (w, m.1) a ≡ Ends k h.spot.page = walk_ends w m.1 a h.cache h.brings.0 h.brings.1 h.spot.page h.brings.2 h.brings.3 read in
    let served : IsServedBy w a k h.spot.page = end_served (w, m.1) k a h.spot.page ok ended in
    let kept : leaf_at k.1 (object_of k.0) ≡ Some h.leaf = same_leaf w a k h.spot.page m.1 h.cache h.brings.0 h.brings.1 h.spot h.leaf h.brings.2 h.brings.3 h.in_hand h.kept served in (
      (record m.0 { walk = k.0 }, k.1),
      ap (λ (o : Option Spot). next_at o m a) none ∙ ap (walked_by m.0) ended
          ∙ ap (λ (o : Option Leaf). scan_beside (first_in (record m.0 { walk = k.0 }) h.spot.page o, k.1)) kept
          ∙ ended_loops (record m.0 { walk = k.0 }) h.leaf h.spot.page h.next k.1 t h.linked h.wanted h.came h.is,
    )

walk_exact : (m n : Scan × Cache) (a : Answer) (turn : Turn ℕ) → IsWalk m.0.walk → m.0.spot ≡ None → Took (LeadsBy scan_next) KeepsServed m a n turn → IsExactWalk m a turn
walk_exact m n a turn ok none took = record {
  answered = λ t shows. stopped m n a t turn (walk_stops m a (rested m.0.walk, left_by (rested m.0.walk) m.1) t none (answer_stops m.0.walk m.1 a t shows)) took;
  met = λ d t brings meets. let stops = brought_meets m.0.walk m.1 a d t brings meets in stopped m n a t turn (walk_stops m a stops.0 t none stops.1) took;
  led_back = λ t back. stopped m n a t turn (first_back m a t ok none back) took;
}

-- ---- a right page

refused : (c : Cache) (name : ObjName) (got : Option (List ℕ)) (t : Trouble) → IsOld c name true got t ⊎ IsDamaged name true got t → accepts c name true got ≡ Err t
refused c name got t (inl old) = old_refused c name true got t old
refused c name got t (inr damaged) = damaged_refused c name true got t damaged

-- a page that is among others is so with one more
among_still : (ps : List ℕ) (p q : ℕ) → is_among ps q ≡ true → is_among (ps ++ p ∷ []) q ≡ true
among_still [] p q e = absurd (cc (e))
among_still (o ∷ ps) p q e = on (o == q) e (among_still ps p q) where
  on : (b : Bool) → (b || is_among ps q) ≡ true → (is_among ps q ≡ true → is_among (ps ++ p ∷ []) q ≡ true) → (b || is_among (ps ++ p ∷ []) q) ≡ true
  on true h more = refl
  on false h more = more h

came_still : (s : Scan) (p q : ℕ) → scan_came_to s q ≡ true → scan_came_to (record s { passed = s.passed ++ p ∷ [] }) q ≡ true
came_still s p q e = on (is_page q s.spot) (came_to s.walk q) e where
  on : (a b : Bool) → (a || (b || is_among s.passed q)) ≡ true → (a || (b || is_among (s.passed ++ p ∷ []) q)) ≡ true
  on true b h = refl
  on false true h = refl
  on false false h = among_still s.passed p q h

-- what is shown there
abbrev Shown : Scan × Cache → Answer → Spot → Trouble → Type 0
Shown m a spot t = FailsSo a t ⊎ (RefusesSo m a t ⊎ (BreaksFence m a spot t ⊎ LeadsBack m a spot t))

shown_stops : (s : Scan) (c : Cache) (a : Answer) (spot : Spot) (t : Trouble) → (let k : Scan × Cache = (record s { spot = Some spot }, c) in Shown k a spot t → StopsWith (scan_next k a) t)
unfolding StopsWith
shown_stops s c a spot t (inl (is, failed)) = ((record s { spot = Some spot }, c), rw (failed, is))
shown_stops s c a spot t (inr (inl (got, answered, refuses))) =
    let no : accepts c (object.Page s.walk.tree spot.page) true got ≡ Err t = refused c (object.Page s.walk.tree spot.page) got t refuses in
    ((record s { spot = Some spot }, c), rw (answered, no))
shown_stops s c a spot t (inr (inr (inl h))) = ((record s { spot = Some spot }, h.cache), rw (h.answered, h.accepted, h.kept, h.differs, h.is))
shown_stops s c a spot t (inr (inr (inr h))) =
    let k : Scan = record s { spot = Some spot } in
    let passed : Scan = record k { passed = s.passed ++ spot.page ∷ [] } in (
      (passed, h.cache),
      rw (h.answered, h.accepted, h.kept, h.same)
          (ended_loops passed h.leaf spot.page h.next h.cache t h.linked h.wanted (came_still k spot.page h.next.page h.came) h.is),
    )

right_stops : (m : Scan × Cache) (a : Answer) (spot : Spot) (t : Trouble) → m.0.spot ≡ Some spot → Shown m a spot t → StopsWith (scan_next m a) t
right_stops m a spot t some =
    subst (λ (o : Option Spot). (let k : Scan × Cache = (record m.0 { spot = o }, m.1) in Shown k a spot t → StopsWith (scan_next k a) t)) (sym some) (shown_stops m.0 m.1 a spot t)

right_exact : (m n : Scan × Cache) (a : Answer) (spot : Spot) (turn : Turn ℕ) → m.0.spot ≡ Some spot → Took (LeadsBy scan_next) KeepsServed m a n turn → IsExactRight m a spot turn
right_exact m n a spot turn some took =
    let by = λ (t : Trouble) (shown : Shown m a spot t). stopped m n a t turn (right_stops m a spot t some shown) took in
    record { failed = λ t h. by t (inl h); refused = λ t h. by t (inr (inl h)); broken = λ t h. by t (inr (inr (inl h))); led_back = λ t h. by t (inr (inr (inr h))) }

-- ---- a step

pub next_exact : (r : Range) (h : List Move) (m n : Scan × Cache) (a : Answer) (turn : Turn ℕ) → Scanned r h m → Took (LeadsBy scan_next) KeepsServed m a n turn → Exact m a turn
next_exact r h m n a turn came took = record {
  walked = λ none. walk_exact m n a turn (walk_of r _ m.0.walk m.0.spot none (scanned_stands r h m came).holds.hand) none took;
  right = λ spot some. right_exact m n a spot turn some took;
}

-- ---- before the first call

pub scan_ready_shows : (s : Scan) (c : Cache) (n : Scan × Cache) (turn : Turn ℕ) → Moves (scan_ready (s, c)) n turn → CausesReady (s, c) n turn
scan_ready_shows s c n turn moved t is other =
    let At : Turn ℕ → Type 0 = Moves (scan_ready (s, c)) n in
    let walk : walk_ready (s.walk, c) ≡ Stops (n.0.walk, n.1) t = subst (Readies (s, c)) (subst At is moved other) (scan_readies (s, c)) in
    ready_shows s.walk c (n.0.walk, n.1) (Stopped t) (λ same. walk) t refl other

-- where the objects that the cache keeps show a trouble on the way of its walk, it stops with that
pub scan_ready_exact : (r : Range) (c : Cache) (n : Scan × Cache) (turn : Turn ℕ) (t : Trouble) → IsCache c → Moves (scan_ready (scan_of r, c)) n turn → Meets c (scan_of r).walk t
    → IsStopped turn t
scan_ready_exact r c n turn t ok moved meets =
    let stops = ready_meets r.tree r.from c t ok meets in
    moved_stopped (scan_ready (scan_of r, c)) (record (scan_of r) { walk = stops.0.0 }, stops.0.1) n t turn (ap (walked_by (scan_of r)) stops.1) moved
