-- A walk ends at a leaf that the cache keeps, and whose range holds the key.
use Rattle.std.proofs.Common.{◌≡◌, ℕ, Bool, true, false, not, List, [], ◌∷◌, Option, Some, None, unwrap_or, refl, ap, sym, subst, ◌∙◌}
use Rattle.std.specs.Prelude.{if◌then◌else◌, ◌==◌, ◌&&◌, ◌||◌, fold, map}
use Rattle.std.proofs.lemmas.Bool.{eqb-true, eqb-false}
use Rattle.byte_format.specs.Order.{bytes_below, below_bound}
use Rattle.byte_format.proofs.OrderLemmas.{same_is}
use Rattle.tree_walk.proofs.Words.{Ends, Answer, Turn, Ended, ObjName}
use Rattle.db_base.specs.declared.names.ObjName.TheVariants as object
use Rattle.leaf_view.specs.Lookup.{page_at}
use Rattle.page_cache.specs.Cache.{Cache, dropped, kept_at}
use Rattle.page_cache.specs.Held.{leaf_at, as_leaf}
use Rattle.page_cache.proofs.CacheLemmas.{drop_others}
use Rattle.tree_walk.specs.Moves.{Moves}
use Rattle.tree_walk.specs.Walk.{Walk, IsApart, IsPromised, IsWalk, IsAtLeaf, sought, is_among, object_at, object_of, right_of, passed, left_by, rested, walk_next}
use Rattle.tree_walk.proofs.Outcomes as step
use Rattle.tree_walk.proofs.Outcomes.{Arrives, EndsAt, came_by}

-- ---- at a leaf

both_hold : (a b : Bool) → a ≡ false → b ≡ true → (not a && b) ≡ true
both_hold a b e f = ap (λ x. not x && b) e ∙ f

below_high : (key : List ℕ) (high : Option (List ℕ)) (page : Option ℕ) → right_of key high page ≡ None → below_bound key high ≡ true
below_high key None page e = refl
below_high key (Some high) page e = on (unwrap_or page 1, high) (bytes_below key high) e where
  on : (next : ℕ × List ℕ) (b : Bool) → (if b then None else Some next) ≡ None → b ≡ true
  on next true e = refl
  on next false e = absurd (cc (e))

nothing_below : (low : List ℕ) → bytes_below [] low ≡ false → low ≡ []
nothing_below [] e = refl
nothing_below (b ∷ bs) e = absurd (cc (e))

leftmost_of : (key : Option (List ℕ)) (low : List ℕ) → bytes_below (unwrap_or key []) low ≡ false → key ≡ None → low ≡ []
leftmost_of key low h e = nothing_below low (subst (λ (k : Option (List ℕ)). bytes_below (unwrap_or k []) low ≡ false) e h)

-- where the walk ended, it is at such a leaf, which is none of the inner nodes that it passed
pub arrives_at : (c : Cache) (w v : Walk) (page : ℕ) → IsWalk w → Arrives c w v page → IsAtLeaf v c page × (is_among v.nodes page ≡ false)
arrives_at c w _ _ ok (step.arrives s l at right) =
    let promised : bytes_below (sought w) s.low ≡ false = subst (IsPromised (sought w)) at.in_hand ok.promised in
    let low : bytes_below (sought w) l.low ≡ false = subst (λ (k : List ℕ). bytes_below (sought w) k ≡ false) (sym (same_is l.low s.low at.low)) promised in (
      record {
        leaf = l;
        in_hand = ap (object_at w.tree) at.in_hand;
        kept = at.kept;
        holds = both_hold (bytes_below (sought w) l.low) (below_bound (sought w) l.high) low (below_high (sought w) l.high (page_at l.right) right);
        leftmost = leftmost_of w.key l.low low;
      },
      subst (IsApart w.nodes) at.in_hand ok.apart (eqb-true s.level 0 at.bottom),
    )

-- it had the leaf in hand before, and it does not go to another tree
pub arrives_in_hand : (c : Cache) (w v : Walk) (page : ℕ) → Arrives c w v page → object_of w ≡ object.Page v.tree page
arrives_in_hand c w _ _ (step.arrives s l at right) = ap (object_at w.tree) at.in_hand

-- ---- the leaf stays in the cache

-- the page of a name
page_in : ObjName → ℕ
page_in (object.Page tree page) = page
page_in (object.Tree tree) = 0
page_in (object.Head client) = 0

never_tree : (t u page : ℕ) → object.Page t page ≡ object.Tree u → ⊥
never_tree t u page e = absurd (cc (e))

-- what is dropped of other pages leaves the page as it was
others_dropped : (ps : List ℕ) (c : Cache) (tree page : ℕ) → is_among ps page ≡ false
    → kept_at (fold dropped c (map (λ p. object.Page tree p) ps)) (object.Page tree page) ≡ kept_at c (object.Page tree page)
unfolding page_in
others_dropped [] c tree page h = refl
others_dropped (p ∷ ps) c tree page h = on (p == page) refl (others_dropped ps (dropped c (object.Page tree p)) tree page) h where
  other : (p == page) ≡ false → object.Page tree page ≡ object.Page tree p → ⊥
  other ne e = eqb-false p page ne (sym (ap page_in e))

  on : (b : Bool) → (p == page) ≡ b
      → (is_among ps page ≡ false → kept_at (fold dropped (dropped c (object.Page tree p)) (map (λ q. object.Page tree q) ps)) (object.Page tree page) ≡ kept_at (dropped c (object.Page tree p)) (object.Page tree page))
      → (b || is_among ps page) ≡ false
      → kept_at (fold dropped (dropped c (object.Page tree p)) (map (λ q. object.Page tree q) ps)) (object.Page tree page) ≡ kept_at c (object.Page tree page)
  on true is more h = absurd (cc (h))
  on false ne more h = more h ∙ drop_others c (object.Page tree p) (object.Page tree page) (other ne)

pub kept_stays : (w : Walk) (c : Cache) (page : ℕ) → is_among w.nodes page ≡ false → kept_at (left_by w c) (object.Page w.tree page) ≡ kept_at c (object.Page w.tree page)
kept_stays w c page apart = on w.turned where
  on : (b : Bool) → kept_at (if b then fold dropped c (passed w) else c) (object.Page w.tree page) ≡ kept_at c (object.Page w.tree page)
  on false = refl
  on true =
      others_dropped w.nodes (dropped c (object.Tree w.tree)) w.tree page apart
      ∙ drop_others c (object.Tree w.tree) (object.Page w.tree page) (never_tree w.tree w.tree page)

pub leaf_stays : (w : Walk) (c : Cache) (page : ℕ) → is_among w.nodes page ≡ false → leaf_at (left_by w c) (object.Page w.tree page) ≡ leaf_at c (object.Page w.tree page)
leaf_stays w c page apart = ap as_leaf (kept_stays w c page apart)

pub stays_at : (w : Walk) (c : Cache) (page : ℕ) → IsAtLeaf w c page → is_among w.nodes page ≡ false → IsAtLeaf w (left_by w c) page
stays_at w c page h apart = record { leaf = h.leaf; in_hand = h.in_hand; kept = leaf_stays w c page apart ∙ h.kept; holds = h.holds; leftmost = h.leftmost }

pub rested_ok : (w : Walk) → IsWalk w → IsWalk (rested w)
rested_ok w ok = record { promised = ok.promised; apart = ok.apart }

pub ended_at : (m n : Walk × Cache) (a : Answer) (page : ℕ) → IsWalk m.0 → (o : EndsAt m a n page) → IsAtLeaf n.0 o.cache page × (is_among n.0.nodes page ≡ false)
ended_at m n a page ok o = arrives_at o.cache (rested m.0) n.0 page (rested_ok m.0 ok) o.arrives

pub ends_at : (m n : Walk × Cache) (a : Answer) (page : ℕ) → IsWalk m.0 → walk_next m a ≡ Ends n page → IsAtLeaf n.0 n.1 page
ends_at m n a page ok leads =
    let o = came_by m a (Ends n page) leads in
    let (leaf, apart) = ended_at m n a page ok o in
    subst (λ (c : Cache). IsAtLeaf n.0 c page) (sym o.left) (stays_at n.0 o.cache page leaf apart)

-- the same of the code's step
pub moved_ends : (m n : Walk × Cache) (a : Answer) (turn : Turn ℕ) (page : ℕ) → IsWalk m.0 → Moves (walk_next m a) n turn → turn ≡ Ended page
    → IsAtLeaf n.0 n.1 page
moved_ends m n a turn page ok moved ended =
    let At : Turn ℕ → Type 0 = Moves (walk_next m a) n in
    ends_at m n a page ok (subst At ended moved)
