-- Where its call is calm, a walk does not stop as failed, and a page that it calls stale is so in its newest version.
use Rattle.std.proofs.Common.{◌≡◌, ◌≢◌, ℕ, List, Option, Some, refl, ap, subst, inl, inr, arith}
use Rattle.tree_walk.proofs.Words.{Get, Caller, Seen, Makes, Answer, Turn, Stopped, Trouble}
use Rattle.db_base.specs.declared.trouble.Trouble.TheVariants as trouble
use Rattle.cloud_trait.specs.declared.answer.Answer.TheVariants as answer
use Rattle.cloud_trait.specs.State.{CloudState, newest}
use Rattle.cloud_trait.specs.Weather.{Rose}
use Rattle.cloud_trait.specs.Calm.{IsCalm}
use Rattle.page_cache.specs.Cache.{Cache}
use Rattle.tree_walk.specs.Moves.{Moves}
use Rattle.tree_walk.specs.Walk.{Walk, is_leaf, object_of, walk_ask, walk_next}
use Rattle.tree_walk.specs.Causes.{IsOld, LinkShows, Shows}
use Rattle.tree_walk.specs.Served.{deed_of, GoesCalmly}
use Rattle.tree_walk.proofs.Causes.{moved_shows}
use Rattle.tree_walk.proofs.Served.{get_row, steady}

-- what the objects show is no failed call and no old page
abbrev IsOfLinks : Trouble → Type 0
IsOfLinks t = (t ≢ trouble.Failed) × ((page least found : ℕ) → t ≢ trouble.Stale page least found)

links_show : (c : Cache) (old w : Walk) (t : Trouble) → LinkShows c old w t → IsOfLinks t
links_show c old w t (inl (s, at, led, inl level)) = (λ e. cc (e, level.is), λ page least found e. cc (e, level.is))
links_show c old w t (inl (s, at, led, inr fence)) = (λ e. cc (e, fence.is), λ page least found e. cc (e, fence.is))
links_show c old w t (inr loop) = (λ e. cc (e, loop.is), λ page least found e. cc (e, loop.is))

never_rose : (m n : ℕ) → m ≡ n → Rose n m → ⊥
never_rose m n e rose = absurd (omega (arith, e, rose))

-- only a get that failed shows that
pub shows_failed : (m : Walk × Cache) (a : Answer) (v : Walk) → Shows m a v trouble.Failed → a ≡ answer.Failed
shows_failed m a v (inl (inl h)) = h.1
shows_failed m a v (inl (inr (got, is, inl old))) = absurd (cc (old.is))
shows_failed m a v (inl (inr (got, is, inr damaged))) = absurd (cc (damaged.is))
shows_failed m a v (inr (c, brings, links)) = absurd ((links_show c m.0 v trouble.Failed links).0 refl)

-- .. and only an old page that it is stale
shows_stale : (m : Walk × Cache) (a : Answer) (v : Walk) (page least found : ℕ) → Shows m a v (trouble.Stale page least found)
    → (got : Option (List ℕ)) × (a ≡ answer.Got got) × IsOld m.1 (object_of m.0) (is_leaf m.0) got (trouble.Stale page least found)
shows_stale m a v page least found (inl (inl h)) = absurd (cc (h.0))
shows_stale m a v page least found (inl (inr (got, is, inl old))) = (got, is, old)
shows_stale m a v page least found (inl (inr (got, is, inr damaged))) = absurd (cc (damaged.is))
shows_stale m a v page least found (inr (c, brings, links)) = absurd ((links_show c m.0 v (trouble.Stale page least found) links).1 page least found refl)

pub moved_calmly : (who : Caller) (w : Walk) (c : Cache) (n : Walk × Cache) (a : Answer) (turn : Turn ℕ) (before after : Seen) → Makes who (walk_ask w) a before after
    → Moves (walk_next (w, c) a) n turn → GoesCalmly who before after (w, c) a turn
moved_calmly who w c n a turn before after made moved = record { well = well made; stale = stale made }
  where
    well : Makes who (walk_ask w) a before after → IsCalm (deed_of who (w, c) a before after) → turn ≢ Stopped trouble.Failed
    well so calm stopped =
        let failed : a ≡ answer.Failed = shows_failed (w, c) a n.0 (moved_shows w c n a turn so.fits moved trouble.Failed stopped (λ e. cc)) in
        never_rose after.counts.faults before.counts.faults (ap (λ x. x.faults) calm.counts) (so.failed failed)

    stale : Makes who (walk_ask w) a before after → IsCalm (deed_of who (w, c) a before after) → (page least found : ℕ) → turn ≡ Stopped (trouble.Stale page least found) → (s : CloudState)
        → before.state ≡ Some s → IsOld c (object_of w) (is_leaf w) (newest s (object_of w)) (trouble.Stale page least found)
    stale so calm page least found stopped s told =
        let shown = shows_stale (w, c) a n.0 page least found (moved_shows w c n a turn so.fits moved (trouble.Stale page least found) stopped (λ e. cc)) in
        let row = get_row who (object_of w) shown.0 before after (subst (λ (b : Answer). Makes who (Get (object_of w)) b before after) shown.1 so) s told in
        let is_newest : shown.0 ≡ newest s (object_of w) = steady shown.0 (newest s (object_of w)) before.counts.stale after.counts.stale row.1 (ap (λ x. x.stale) calm.counts) in
        subst (λ (g : Option (List ℕ)). IsOld c (object_of w) (is_leaf w) g (trouble.Stale page least found)) is_newest shown.2
