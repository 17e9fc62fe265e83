-- A walk comes to each of its pages once, and to one more at least with each call.
use Rattle.std.proofs.Common.{◌≡◌, ◌≢◌, ℕ, ◌+◌, ◌≤◌, ◌<◌, Bool, true, false, List, [], ◌∷◌, ◌++◌, length, Option, Some, None, refl, ap, sym, subst, ◌∙◌, arith}
use Rattle.std.specs.Prelude.{◌==◌, ◌||◌}
use Rattle.std.specs.List.{AllByRecursion, IsDistinct}
use Rattle.std.proofs.lemmas.Bool.{eqb-true}
use Rattle.std.proofs.lemmas.List.Folds.{list_any-append}
use Rattle.tree_walk.proofs.Words.{Ends, Goes, Next, Stops, Answer, Turn, Ended, More, Stopped, Trouble}
use Rattle.db_base.specs.declared.trouble.Trouble.TheVariants as trouble
use Rattle.cloud_trait.specs.Machine.{Deed, Came, LeadsBy}
use Rattle.page_cache.specs.Cache.{Cache}
use Rattle.tree_walk.specs.Moves.{Moves}
use Rattle.tree_walk.specs.Walk.{Spot, Walk, new_walk, is_among, is_page, came_to, rested, walk_next, asks, pages}
use Rattle.tree_walk.specs.Within.{IsBegun, Went, AreOnce, IsPassedOnce, IsOnce, WalksWithin}
use Rattle.tree_walk.proofs.End.{more_pages}
use Rattle.tree_walk.proofs.Outcomes as step
use Rattle.tree_walk.proofs.Outcomes.{Passes, Halts, Links, Arrives, Way, StopsFor, Comes, comes, came_by, way_behind, Readies, readies}

-- ---- lists of pages

pub or_false : (a b : Bool) → (a || b) ≡ false → (a ≡ false) × (b ≡ false)
or_false true b h = absurd (cc (h))
or_false false b h = (refl, h)

all_apart : (ps : List ℕ) (q p : ℕ) → AllByRecursion (λ y. (q == y) ≡ false) ps → (q == p) ≡ false → AllByRecursion (λ y. (q == y) ≡ false) (ps ++ p ∷ [])
all_apart [] q p h apart = (apart, tt)
all_apart (x ∷ ps) q p h apart = (h.0, all_apart ps q p h.1 apart)

pub once_push : (ps : List ℕ) (p : ℕ) → AreOnce ps → is_among ps p ≡ false → AreOnce (ps ++ p ∷ [])
unfolding IsDistinct
once_push [] p h apart = (tt, tt)
once_push (q ∷ ps) p h apart =
    let two = or_false (q == p) (is_among ps p) apart in
    (all_apart ps q p h.0 two.0, once_push ps p h.1 two.1)

-- what is among pages with one more at their end is that page, or was among them
pub among_push : (ps : List ℕ) (p q : ℕ) → is_among (ps ++ p ∷ []) q ≡ (is_among ps q || ((p == q) || false))
among_push ps p q = list_any-append (λ (x : ℕ). x == q) ps (p ∷ [])

-- ---- each page once

-- a page that was passed as a node
node_once : (w : Walk) (s : Spot) → IsOnce w → w.spot ≡ Some s → IsPassedOnce (record w { nodes = w.nodes ++ s.page ∷ [] })
node_once w s once at =
    let p = s.page in
    let two = or_false (is_among w.nodes p) (is_among w.leaves p) (once.in_hand s at) in
    record {
      nodes = once_push w.nodes p once.passed.nodes two.0;
      leaves = once.passed.leaves;
      apart = λ q among. apart_of q two.1 (is_among w.nodes q) refl (p == q) refl (sym (among_push w.nodes p q) ∙ among);
    }
  where
    apart_of : (q : ℕ) → is_among w.leaves s.page ≡ false → (a : Bool) → is_among w.nodes q ≡ a → (b : Bool) → (s.page == q) ≡ b → (a || (b || false)) ≡ true → is_among w.leaves q ≡ false
    apart_of q none true e b f h = once.passed.apart q e
    apart_of q none false e true f h = subst (λ (x : ℕ). is_among w.leaves x ≡ false) (eqb-true s.page q f) none
    apart_of q none false e false f h = absurd (cc (h))

-- .. and as a leaf
leaf_once : (w : Walk) (s : Spot) → IsOnce w → w.spot ≡ Some s → IsPassedOnce (record w { leaves = w.leaves ++ s.page ∷ [] })
leaf_once w s once at =
    let p = s.page in
    let two = or_false (is_among w.nodes p) (is_among w.leaves p) (once.in_hand s at) in
    record {
      nodes = once.passed.nodes;
      leaves = once_push w.leaves p once.passed.leaves two.1;
      apart = λ q among. among_push w.leaves p q ∙ apart_of q two.0 among (is_among w.leaves q) (once.passed.apart q among) (p == q) refl;
    }
  where
    apart_of : (q : ℕ) → is_among w.nodes s.page ≡ false → is_among w.nodes q ≡ true → (a : Bool) → a ≡ false → (b : Bool) → (s.page == q) ≡ b → (a || (b || false)) ≡ false
    apart_of q none among true e b f = absurd (cc (e))
    apart_of q none among false e true f = absurd (cc (none, among, ap (is_among w.nodes) (eqb-true s.page q f)))
    apart_of q none among false e false f = refl

passed_once : (c : Cache) (w v : Walk) (s : Spot) → Passes c w v s → IsOnce w → IsPassedOnce v
passed_once c w _ _ (step.by_root t none kept) once = record { nodes = once.passed.nodes; leaves = once.passed.leaves; apart = once.passed.apart }
passed_once c w _ _ (step.by_node s n turned at) once = let h = node_once w s once at.in_hand in record { nodes = h.nodes; leaves = h.leaves; apart = h.apart }
passed_once c w _ _ (step.by_leaf s l next at right) once = let h = leaf_once w s once at.in_hand in record { nodes = h.nodes; leaves = h.leaves; apart = h.apart }

-- what a link leads to was not passed
new_page : (w : Walk) (s : Spot) → came_to w s.page ≡ false → (is_among w.nodes s.page || is_among w.leaves s.page) ≡ false
new_page w s new = (or_false (is_page s.page w.spot) (is_among w.nodes s.page || is_among w.leaves s.page) new).1

pub link_free : (c : Cache) (w v : Walk) → Links c w v → (u : Spot) → v.spot ≡ Some u → (is_among v.nodes u.page || is_among v.leaves u.page) ≡ false
link_free c w _ (step.links v s passes new) u e =
    let same : s ≡ u = cc (e) in subst (λ (x : Spot). (is_among v.nodes x.page || is_among v.leaves x.page) ≡ false) same (new_page v s new)

link_once : (c : Cache) (w v : Walk) → Links c w v → IsOnce w → IsOnce v
link_once c w _ (step.links v s passes new) once =
    let h = passed_once c w v s passes once in
    record { passed = record { nodes = h.nodes; leaves = h.leaves; apart = h.apart }; in_hand = link_free c w _ (step.links v s passes new) }

way_once : (c : Cache) (w v : Walk) → Way c w v → IsOnce w → IsOnce v
way_once c w _ (step.here _) once = once
way_once c w u (step.on _ v _ link way) once = way_once c v u way (link_once c w v link once)

rested_once : (w : Walk) → IsOnce w → IsOnce (rested w)
rested_once w h = record { passed = record { nodes = h.passed.nodes; leaves = h.passed.leaves; apart = h.passed.apart }; in_hand = h.in_hand }

-- each call keeps that it came to each page once
pub once_goes : (m n : Walk × Cache) (a : Answer) → IsOnce m.0 → walk_next m a ≡ Goes n → IsOnce n.0
once_goes m n a once leads =
    let o = came_by m a (Goes n) leads in
    way_once n.1 o.next n.0 (way_behind m a n o) (link_once n.1 (rested m.0) o.next o.link (rested_once m.0 once))

new_once : (tree : ℕ) (key : Option (List ℕ)) (fresh : Bool) → IsOnce (new_walk tree key fresh)
unfolding IsDistinct
new_once tree key fresh = record {
  passed = record { nodes = tt; leaves = tt; apart = λ page among. refl };
  in_hand = λ s e. refl;
}

-- a walk that begins came to each page once
pub once_begun : (start : Walk × Cache) → IsBegun start → IsOnce start.0
once_begun start (tree, key, fresh, c, leads) =
    let w = new_walk tree key fresh in
    way_once c (rested w) start.0 (subst (Readies (w, c)) leads (readies (w, c))).2 (rested_once w (new_once tree key fresh))

-- ---- a whole run

pub came_within : (start : Walk × Cache) (h : List Deed) (m : Walk × Cache) → IsOnce start.0 → Came {A = ℕ} asks (LeadsBy walk_next) start h m
    → IsOnce m.0 × (length h ≤ pages m.0)
came_within start [] m once came = (subst (λ (k : Walk × Cache). IsOnce k.0) (sym came) once, omega arith)
came_within start (d ∷ h) m once came =
    let before = came_within start h came.0 once came.1 in
    let grows : pages came.0.0 < pages m.0 = more_pages came.0 m d.answer came.4 in
    let few : length h ≤ pages came.0.0 = before.1 in
    (once_goes came.0 m d.answer before.0 came.4, omega (arith, grows, few))

-- ---- what it came to stays so

-- a walk has come to these pages still
abbrev pub HasStill : Walk → Walk → Type 0
HasStill old w = (page : ℕ) → came_to old page ≡ true → came_to w page ≡ true

-- .. and has passed them but for the page in hand
abbrev pub PassedStill : Walk → Walk → Type 0
PassedStill old w = (page : ℕ) → came_to old page ≡ true → (is_among w.nodes page || is_among w.leaves page) ≡ true

pub or_right : (a b : Bool) → b ≡ true → (a || b) ≡ true
or_right true b h = refl
or_right false b h = h

or_push : (a x n l : Bool) → a ≡ (n || (x || false)) → (x || (n || l)) ≡ true → (a || l) ≡ true
or_push a true true l e h = ap (λ b. b || l) e
or_push a true false l e h = ap (λ b. b || l) e
or_push a false true l e h = ap (λ b. b || l) e
or_push a false false l e h = ap (λ b. b || l) e ∙ h

or_push_behind : (a x n l : Bool) → a ≡ (l || (x || false)) → (x || (n || l)) ≡ true → (n || a) ≡ true
or_push_behind a x true l e h = refl
or_push_behind a true false true e h = e
or_push_behind a true false false e h = e
or_push_behind a false false true e h = e
or_push_behind a false false false e h = absurd (cc (h))

in_hand_or : (w : Walk) (o : Option Spot) (page : ℕ) → w.spot ≡ o → came_to w page ≡ true → (is_page page o || (is_among w.nodes page || is_among w.leaves page)) ≡ true
in_hand_or w o page at came = subst (λ (x : Option Spot). (is_page page x || (is_among w.nodes page || is_among w.leaves page)) ≡ true) at came

pub passed_still : (c : Cache) (w v : Walk) (s : Spot) → Passes c w v s → PassedStill w v
passed_still c w _ _ (step.by_root t none kept) page came = in_hand_or w None page none came
passed_still c w _ _ (step.by_node s n turned at) page came =
    or_push (is_among (w.nodes ++ s.page ∷ []) page) (s.page == page) (is_among w.nodes page) (is_among w.leaves page)
    (among_push w.nodes s.page page) (in_hand_or w (Some s) page at.in_hand came)
passed_still c w _ _ (step.by_leaf s l next at right) page came =
    or_push_behind (is_among (w.leaves ++ s.page ∷ []) page) (s.page == page) (is_among w.nodes page) (is_among w.leaves page)
    (among_push w.leaves s.page page) (in_hand_or w (Some s) page at.in_hand came)

-- a walk that passed them, whatever it has in hand
came_still : (w v : Walk) → PassedStill w v → HasStill w v
came_still w v passed page came = or_right (is_page page v.spot) (is_among v.nodes page || is_among v.leaves page) (passed page came)

link_still : (c : Cache) (w v : Walk) → Links c w v → HasStill w v
link_still c w _ (step.links v s passes new) page came = came_still w (record v { spot = Some s }) (passed_still c w v s passes) page came

way_still : (c : Cache) (w v : Walk) → Way c w v → HasStill w v
way_still c w _ (step.here _) page came = came
way_still c w u (step.on _ v _ link way) page came = way_still c v u way page (link_still c w v link page came)

halt_still : (c : Cache) (w v : Walk) (t : Trouble) → Halts c w v t → HasStill w v
halt_still c w _ _ (step.loops v s passes again) page came = came_still w v (passed_still c w v s passes) page came
halt_still c w _ _ (step.breaks s t at shown) page came = came

arrives_still : (c : Cache) (w v : Walk) (page : ℕ) → Arrives c w v page → HasStill w v
arrives_still c w _ _ (step.arrives s l at right) page came = came

stops_still : (m n : Walk × Cache) (a : Answer) (t : Trouble) → StopsFor m a n t → HasStill m.0 n.0
stops_still m _ a _ (step.fails t e) page came = came
stops_still m _ a _ (step.refuses got t is e) page came = came
stops_still m _ a _ (step.halts d u v t brought way halt) page came = halt_still d u v t halt page (way_still d (rested m.0) u way page came)

abbrev StillBeside : Walk → Next (Walk × Cache) ℕ → Type 0
StillBeside old (Goes n) = HasStill old n.0
StillBeside old (Ends n page) = HasStill old n.0
StillBeside old (Stops n t) = HasStill old n.0

next_still : (m : Walk × Cache) (a : Answer) → StillBeside m.0 (walk_next m a)
next_still m a = on (walk_next m a) (comes m a) where
  on : (x : Next (Walk × Cache) ℕ) → Comes m a x → StillBeside m.0 x
  on (Goes n) o = λ page came. way_still n.1 o.next n.0 (way_behind m a n o) page (link_still n.1 (rested m.0) o.next o.link page came)
  on (Ends n last) o = arrives_still o.cache (rested m.0) n.0 last o.arrives
  on (Stops n t) o = stops_still m n a t o

-- ---- of the code's step

pub moved_within : (h : List Deed) (w : Walk) (c : Cache) (n : Walk × Cache) (a : Answer) (turn : Turn ℕ) → Went h (w, c) → Moves (walk_next (w, c) a) n turn
    → WalksWithin (length h + 1) w n.0 turn
moved_within h w c n a turn went moved =
    let is = came_within went.0 h (w, c) (once_begun went.0 went.1) went.2 in
    let few : length h ≤ pages w = is.1 in
    record { once = is.0; bound = omega (arith, few); still = still turn moved }
  where
    still : (turn : Turn ℕ) → Moves (walk_next (w, c) a) n turn → turn ≢ Stopped trouble.Memory → HasStill w n.0
    still More moved other = subst (StillBeside w) moved (next_still (w, c) a)
    still (Ended page) moved other = subst (StillBeside w) moved (next_still (w, c) a)
    still (Stopped t) moved other = subst (StillBeside w) (moved (λ e. other (ap Stopped e))) (next_still (w, c) a)
