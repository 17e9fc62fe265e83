-- What a walk is served: at its end the leaf is what its newest get answered.
use Rattle.std.proofs.Common.{◌≡◌, ℕ, List, Option, Some, refl, ap, sym, subst, ◌∙◌, inl, inr, ◌⊎◌, arith}
use Rattle.tree_walk.proofs.Words.{Get, Caller, Ends, Seen, Makes, Answer, Turn, ObjName, Leaf}
use Rattle.db_base.specs.declared.names.ObjName.TheVariants as object
use Rattle.cloud_trait.specs.declared.answer.Answer.TheVariants as answer
use Rattle.cloud_trait.specs.State.{CloudState, newest, version_at}
use Rattle.cloud_trait.specs.Weather.{Rose}
use Rattle.page_cache.specs.Cache.{Cache, kept_at}
use Rattle.page_cache.specs.Held.{leaf_at, as_leaf}
use Rattle.page_cache.proofs.CacheLemmas.{accept_kept}
use Rattle.tree_walk.specs.Moves.{Moves}
use Rattle.tree_walk.specs.Walk.{Walk, IsWalk, IsAtLeaf, is_leaf, object_of, use_of, rested, walk_ask, walk_next}
use Rattle.tree_walk.specs.Served.{Serves}
use Rattle.tree_walk.proofs.Leaves.{arrives_in_hand, ended_at, ends_at, kept_stays}
use Rattle.tree_walk.proofs.Outcomes as step
use Rattle.tree_walk.proofs.Outcomes.{Arrives, came_by}

-- ---- the leaf at which it ends

-- what a get answered landed, and is the newest where no stale get was counted
pub get_row : (who : Caller) (name : ObjName) (got : Option (List ℕ)) (before after : Seen) → Makes who (Get name) (answer.Got got) before after → (s : CloudState) → before.state ≡ Some s
    → ((k : ℕ) × (got ≡ version_at (s.versions name) k)) × ((got ≡ newest s name) ⊎ Rose before.counts.stale after.counts.stale)
get_row who name got before after made s told = let row = (made.state s told).row in (row.1, row.2)

pub steady : (got : Option (List ℕ)) (new : Option (List ℕ)) (m n : ℕ) → (got ≡ new) ⊎ Rose m n → n ≡ m → got ≡ new
steady got new m n (inl is) same = is
steady got new m n (inr rose) same = absurd (omega (arith, rose, same))

-- the leaf at which a walk ended, by the answer of its newest get
pub record IsServedBy (w : Walk) (a : Answer) (n : Walk × Cache) (page : ℕ) : Type 0 where
  pub bytes : Option (List ℕ)
  pub leaf : Leaf
  pub answered : a ≡ answer.Got bytes
  pub asked : walk_ask w ≡ Get (object.Page n.0.tree page)
  pub in_hand : object_of w ≡ object.Page n.0.tree page
  pub spelled : as_leaf (Some bytes) ≡ Some leaf
  pub got : kept_at n.1 (object.Page n.0.tree page) ≡ Some bytes
  pub kept : leaf_at n.1 (object_of n.0) ≡ Some leaf

pub end_served : (m n : Walk × Cache) (a : Answer) (page : ℕ) → IsWalk m.0 → walk_next m a ≡ Ends n page → IsServedBy m.0 a n page
end_served m n a page ok leads =
    let o = came_by m a (Ends n page) leads in
    let b = o.brought in
    let (leaf, apart) = ended_at m n a page ok o in
    let at : IsAtLeaf n.0 n.1 page = ends_at m n a page ok leads in
    let named : object_of m.0 ≡ object.Page n.0.tree page = arrives_in_hand o.cache (rested m.0) n.0 page o.arrives in
    let got : kept_at n.1 (object.Page n.0.tree page) ≡ Some b.got =
    ap (λ (c : Cache). kept_at c (object.Page n.0.tree page)) o.left ∙ kept_stays n.0 o.cache page apart ∙ ap (kept_at o.cache) (sym named)
    ∙ accept_kept m.1 (object_of m.0) (is_leaf m.0) b.got b.version o.cache b.accepted in
    record {
      bytes = b.got;
      leaf = at.leaf;
      answered = b.answered;
      asked = ap Get named;
      in_hand = named;
      spelled = sym (ap as_leaf got) ∙ at.kept;
      got = got;
      kept = ap (leaf_at n.1) at.in_hand ∙ at.kept;
    }

-- it has the object in hand that it had, and used it
pub ended_as : (m n : Walk × Cache) (a : Answer) (page : ℕ) → walk_next m a ≡ Ends n page → n.0 ≡ use_of (rested m.0)
ended_as m n a page leads = let o = came_by m a (Ends n page) leads in used o.cache (rested m.0) n.0 page o.arrives where
  used : (c : Cache) (w v : Walk) (p : ℕ) → Arrives c w v p → v ≡ use_of w
  used c w _ _ (step.arrives s l at right) = refl

pub moved_serves : (who : Caller) (w : Walk) (c : Cache) (n : Walk × Cache) (a : Answer) (turn : Turn ℕ) (before after : Seen) → IsWalk w → Makes who (walk_ask w) a before after
    → Moves (walk_next (w, c) a) n turn → Serves before after (w, c) n a turn
moved_serves who w c n a turn before after ok made moved page ended =
    let At : Turn ℕ → Type 0 = Moves (walk_next (w, c) a) n in
    let h = end_served (w, c) n a page ok (subst At ended moved) in
    let row = get_row who (object_of w) h.bytes before after (subst (λ (b : Answer). Makes who (Get (object_of w)) b before after) h.answered made) in
    record {
      got = h.bytes;
      answered = h.answered;
      in_hand = h.in_hand;
      kept = h.got;
      landed = λ s told. (row s told).0;
      newest = λ s told same. steady h.bytes (newest s (object_of w)) before.counts.stale after.counts.stale (row s told).1 same;
    }
