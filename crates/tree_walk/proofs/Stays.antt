-- A walk stays one to its key in its tree: the low key that a link promised is not above the key, and a leaf in hand is none of the inner
-- nodes that it passed.
use Rattle.std.proofs.Common.{◌≡◌, ℕ, Bool, true, false, List, [], Option, Some, None, unwrap_or, refl, subst}
use Rattle.std.specs.Prelude.{if◌then◌else◌, ◌||◌}
use Rattle.byte_format.specs.Order.{bytes_below}
use Rattle.tree_walk.proofs.Words.{Ends, Goes, Next, Stops, Answer, Trouble, Inner, page_at as node_at}
use Rattle.node_codec.specs.Node.{Entry, child_of}
use Rattle.page_cache.specs.Cache.{Cache}
use Rattle.tree_walk.specs.Walk.{Spot, Walk, IsWalk, sought, is_page, is_among, entry_for, right_of, rested, new_walk, walk_ready, walk_next}
use Rattle.tree_walk.specs.Causes.{node_link, node_link_by}
use Rattle.tree_walk.proofs.Outcomes as step
use Rattle.tree_walk.proofs.Outcomes.{Passes, Halts, Links, Arrives, Way, StopsFor, Comes, comes, way_behind, Readies, readies}
use Rattle.tree_walk.proofs.Turns.{below_empty, child_at_most}

-- ---- a link

-- a walk in a tree to a key, or without one to the left end
abbrev pub IsTo : ℕ → Option (List ℕ) → Walk → Type 0
IsTo tree key w = (w.tree ≡ tree) × (w.key ≡ key)

entry_low : (key : List ℕ) (es : List Entry) → bytes_below key (entry_for key es).0 ≡ false
entry_low key es = on (child_of key es) refl where
  on : (o : Option Entry) → child_of key es ≡ o → bytes_below key (unwrap_or o ([], 1)).0 ≡ false
  on None e = below_empty key
  on (Some x) e = child_at_most key es x e

right_low : (key : List ℕ) (high : Option (List ℕ)) (page : Option ℕ) (next : ℕ × List ℕ) → right_of key high page ≡ Some next → bytes_below key next.1 ≡ false
right_low key None page next e = absurd (cc (e))
right_low key (Some high) page next e = on (bytes_below key high) refl e where
  on : (b : Bool) → bytes_below key high ≡ b → (if b then None else Some (unwrap_or page 1, high)) ≡ Some next → bytes_below key next.1 ≡ false
  on true below e = absurd (cc (e))
  on false below e =
      let same : ◌≡◌ {A = ℕ × List ℕ} (unwrap_or page 1, high) next = cc (e) in subst (λ (x : ℕ × List ℕ). bytes_below key x.1 ≡ false) same below

node_low : (key : List ℕ) (n : Inner) → bytes_below key (node_link key n).low ≡ false
node_low key n = on (right_of key n.high (node_at n.right)) refl where
  on : (o : Option (ℕ × List ℕ)) → right_of key n.high (node_at n.right) ≡ o → bytes_below key (node_link_by key n o).low ≡ false
  on (Some next) right = right_low key n.high (node_at n.right) next right
  on None right = entry_low key n.entries

passed_low : (c : Cache) (w v : Walk) (s : Spot) → Passes c w v s → bytes_below (sought v) s.low ≡ false
passed_low c w _ _ (step.by_root t none kept) = entry_low (sought w) t.entries
passed_low c w _ _ (step.by_node s n turned at) = node_low (sought w) n
passed_low c w _ _ (step.by_leaf s l next at right) = right_low (sought w) l.high _ next right

passed_to : (tree : ℕ) (key : Option (List ℕ)) (c : Cache) (w v : Walk) (s : Spot) → Passes c w v s → IsTo tree key w → IsTo tree key v
passed_to tree key c w _ _ (step.by_root t none kept) to = to
passed_to tree key c w _ _ (step.by_node s n turned at) to = to
passed_to tree key c w _ _ (step.by_leaf s l next at right) to = to

-- ---- where it leads

-- it is a walk to the key
abbrev pub WalksTo : ℕ → Option (List ℕ) → Walk → Type 0
WalksTo tree key w = IsWalk w × IsTo tree key w

neither : (a b c : Bool) → (a || (b || c)) ≡ false → b ≡ false
neither true b c e = absurd (cc (e))
neither false true c e = absurd (cc (e))
neither false false c e = refl

linked_to : (tree : ℕ) (key : Option (List ℕ)) (c : Cache) (w v : Walk) → Links c w v → IsTo tree key w → WalksTo tree key v
linked_to tree key c w _ (step.links v s passes new) to = (
  record { promised = passed_low c w v s passes; apart = λ bottom. neither (is_page s.page v.spot) (is_among v.nodes s.page) (is_among v.leaves s.page) new },
  passed_to tree key c w v s passes to,
)

way_to : (tree : ℕ) (key : Option (List ℕ)) (c : Cache) (w v : Walk) → Way c w v → WalksTo tree key w → WalksTo tree key v
way_to tree key c w _ (step.here _) to = to
way_to tree key c w u (step.on _ v _ link way) to = way_to tree key c v u way (linked_to tree key c w v link to.1)

-- .. or from a walk of which that alone is known
led_to : (tree : ℕ) (key : Option (List ℕ)) (c : Cache) (w v : Walk) → Way c w v → IsTo tree key w → IsTo tree key v
led_to tree key c w _ (step.here _) to = to
led_to tree key c w u (step.on _ v _ link way) to = led_to tree key c v u way (linked_to tree key c w v link to).1

halts_to : (tree : ℕ) (key : Option (List ℕ)) (c : Cache) (w v : Walk) (t : Trouble) → Halts c w v t → IsTo tree key w → IsTo tree key v
halts_to tree key c w _ _ (step.loops v s passes came) to = passed_to tree key c w v s passes to
halts_to tree key c w _ _ (step.breaks s t at shown) to = to

arrives_to : (tree : ℕ) (key : Option (List ℕ)) (c : Cache) (w v : Walk) (page : ℕ) → Arrives c w v page → IsTo tree key w → IsTo tree key v
arrives_to tree key c w _ _ (step.arrives s l at right) to = to

stops_to : (tree : ℕ) (key : Option (List ℕ)) (m n : Walk × Cache) (a : Answer) (t : Trouble) → StopsFor m a n t → IsTo tree key m.0 → IsTo tree key n.0
stops_to tree key m _ a _ (step.fails t e) to = to
stops_to tree key m _ a _ (step.refuses got t is e) to = to
stops_to tree key m _ a _ (step.halts d u v t brought way halt) to = halts_to tree key d u v t halt (led_to tree key d (rested m.0) u way to)

abbrev pub WalksBeside : ℕ → Option (List ℕ) → Next (Walk × Cache) ℕ → Type 0
WalksBeside tree key (Goes m) = IsWalk m.0 × IsTo tree key m.0
WalksBeside tree key (Ends m page) = IsTo tree key m.0
WalksBeside tree key (Stops m t) = IsTo tree key m.0

pub next_walks : (tree : ℕ) (key : Option (List ℕ)) (m : Walk × Cache) (answer : Answer) → IsTo tree key m.0 → WalksBeside tree key (walk_next m answer)
next_walks tree key m answer to = on (walk_next m answer) (comes m answer) where
  on : (x : Next (Walk × Cache) ℕ) → Comes m answer x → WalksBeside tree key x
  on (Goes n) o = way_to tree key n.1 o.next n.0 (way_behind m answer n o) (linked_to tree key n.1 (rested m.0) o.next o.link to)
  on (Ends n page) o = arrives_to tree key o.cache (rested m.0) n.0 page o.arrives to
  on (Stops n t) o = stops_to tree key m n answer t o to

pub ready_walks : (tree : ℕ) (key : Option (List ℕ)) (fresh : Bool) (c : Cache) → WalksBeside tree key (walk_ready (new_walk tree key fresh, c))
ready_walks tree key fresh c = on (walk_ready m) (readies m) where
  m : Walk × Cache
  m = (new_walk tree key fresh, c)

  on : (x : Next (Walk × Cache) ℕ) → Readies m x → WalksBeside tree key x
  on (Goes n) o = way_to tree key c (rested m.0) n.0 o.2 (record { promised = tt; apart = tt }, (refl, refl))
  on (Ends n page) never = absurd never
  on (Stops n t) (left, shown) = let (u, way, halt) = shown in halts_to tree key c u n.0 t halt (led_to tree key c (rested m.0) u way (refl, refl))
