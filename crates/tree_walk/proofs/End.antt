-- A walk ends: it comes to one more page with each call that it goes on from.
use Rattle.std.proofs.Common.{◌≡◌, ℕ, ◌+◌, ◌^◌, ◌<◌, ◌≤◌, List, [], ◌∷◌, ◌++◌, length, Option, Some, None, ap, subst, arith, length-append}
use Rattle.tree_walk.proofs.Words.{Goes, Answer, Turn, More}
use Rattle.page_cache.specs.Cache.{Cache}
use Rattle.tree_walk.specs.Moves.{Moves}
use Rattle.tree_walk.specs.Walk.{Spot, Walk, walk_next, spots, pages, calls_left}
use Rattle.tree_walk.proofs.Outcomes as step
use Rattle.tree_walk.proofs.Outcomes.{Passes, Links, Way, came_by, way_behind}

pub spots_most : (o : Option Spot) → spots o ≤ 1
spots_most None = omega arith
spots_most (Some s) = omega arith

one_more : (xs : List ℕ) (n : ℕ) (o : Option Spot) (p : ℕ) → (length xs + n) + spots o ≤ length (xs ++ p ∷ []) + n
one_more xs n o p = omega (arith, length-append xs (p ∷ []), spots_most o)

one_more_behind : (n : ℕ) (xs : List ℕ) (o : Option Spot) (p : ℕ) → (n + length xs) + spots o ≤ n + length (xs ++ p ∷ [])
one_more_behind n xs o p = omega (arith, length-append xs (p ∷ []), spots_most o)

-- the object in hand is passed, or was the tree object
passed_pages : (c : Cache) (w v : Walk) (s : Spot) → Passes c w v s → pages w ≤ length v.nodes + length v.leaves
passed_pages c w _ _ (step.by_root t none kept) = let no_spot : spots w.spot ≡ 0 = ap spots none in omega (arith, no_spot)
passed_pages c w _ _ (step.by_node s n turned at) = one_more w.nodes (length w.leaves) w.spot s.page
passed_pages c w _ _ (step.by_leaf s l next at right) = one_more_behind (length w.nodes) w.leaves w.spot s.page

link_pages : (c : Cache) (w v : Walk) → Links c w v → pages w < pages v
link_pages c w _ (step.links v s passes new) = let most = passed_pages c w v s passes in omega (arith, most)

way_pages : (c : Cache) (w v : Walk) → Way c w v → pages w ≤ pages v
way_pages c w _ (step.here _) = omega arith
way_pages c w u (step.on _ v _ link way) =
    let more : pages w < pages v = link_pages c w v link in
    let rest : pages v ≤ pages u = way_pages c v u way in
    omega (arith, more, rest)

pub more_pages : (m n : Walk × Cache) (a : Answer) → walk_next m a ≡ Goes n → pages m.0 < pages n.0
more_pages m n a leads =
    let o = came_by m a (Goes n) leads in
    let more : pages m.0 < pages o.next = link_pages n.1 _ o.next o.link in
    let rest : pages o.next ≤ pages n.0 = way_pages n.1 o.next n.0 (way_behind m a n o) in
    omega (arith, more, rest)

-- the same of the code's step
pub moved_less : (m n : Walk × Cache) (a : Answer) (turn : Turn ℕ) → pages m.0 < 2 ^ 66 → Moves (walk_next m a) n turn → turn ≡ More
    → calls_left n.0 < calls_left m.0
moved_less m n a turn few moved more =
    let At : Turn ℕ → Type 0 = Moves (walk_next m a) n in
    let grows : pages m.0 < pages n.0 = more_pages m n a (subst At more moved) in
    omega (arith, few, grows)
