-- Why a scan stops: by the answer of its call, or by the leaves that it read.
use Rattle.std.proofs.Common.{◌≡◌, ◌≢◌, ◌<◌, ◌⊎◌, ℕ, true, List, Option, Some, None, inl, inr, refl, ap, sym, subst, arith}
use Rattle.range_scan.proofs.Words.{Get, Caller, Ends, Goes, LeadsBy, Next, Stops, Took, Seen, Makes, Answer, Turn, Stopped, Trouble, Leaf}
use Rattle.db_base.specs.declared.trouble.Trouble.TheVariants as trouble
use Rattle.cloud_trait.specs.declared.answer.Answer.TheVariants as answer
use Rattle.cloud_trait.specs.Weather.{Fits}
use Rattle.cloud_trait.specs.Calm.{IsCalm}
use Rattle.page_cache.specs.Cache.{Cache}
use Rattle.page_cache.specs.Held.{leaf_at}
use Rattle.tree_walk.specs.Walk.{Spot, IsWalk, object_of}
use Rattle.tree_walk.specs.Causes.{Shows as WalkShows}
use Rattle.tree_walk.proofs.Calm.{shows_failed as walk_failed}
use Rattle.tree_walk.proofs.Causes.{StopsBeside, nothing_got}
use Rattle.tree_walk.proofs.Causes.{next_stops as walk_stops}
use Rattle.tree_walk.proofs.Refusals.{refused_shows}
use Rattle.tree_walk.proofs.Served.{end_served}
use Rattle.range_scan.specs.Scan.{Scan, scan_object_at, scan_object, scan_asks, scan_next, KeepsServed}
use Rattle.range_scan.specs.Meaning.{Range, Move, Scanned}
use Rattle.range_scan.specs.Causes.{ClosesLoop, ShowsAt, Shows, Causes, deed_of}
use Rattle.range_scan.proofs.Meaning.{walk_of, scanned_stands}
use Rattle.range_scan.proofs.Outcomes as step
use Rattle.range_scan.proofs.Outcomes.{IsRead, Loops, StopsFor, Comes, comes, reached_kept}
use Rattle.cloud_trait.specs.State.{Counts}

-- while its walk is in hand, and at a right page
walk_shows : (m n : Scan × Cache) (a : Answer) (t : Trouble) → m.0.spot ≡ None → ShowsAt None m a n t → Shows m a n t
walk_shows m n a t none = subst (λ (o : Option Spot). ShowsAt o m a n t) (sym none)

right_shows : (m n : Scan × Cache) (a : Answer) (t : Trouble) (spot : Spot) → m.0.spot ≡ Some spot → ShowsAt (Some spot) m a n t → Shows m a n t
right_shows m n a t spot some = subst (λ (o : Option Spot). ShowsAt o m a n t) (sym some)

loop_shows : (m n : Scan × Cache) (a : Answer) (t : Trouble) → ClosesLoop n t → Shows m a n t
loop_shows m n a t loop = on m.0.spot where
  on : (o : Option Spot) → ShowsAt o m a n t
  on None = inr loop
  on (Some spot) = inr (inr (inr loop))

lost : {A : Type 0} (o : Option Leaf) (l : Leaf) → o ≡ None → o ≡ Some l → A
lost o l none some = absurd (cc (none, some))

stop_shows : (m n : Scan × Cache) (a : Answer) (t : Trouble) → (m.0.spot ≡ None → IsWalk m.0.walk) → Fits (scan_asks m) a → StopsFor m a n t → (t ≡ trouble.Memory) ⊎ Shows m a n t
stop_shows m _ a _ ok fits (step.walk_stops w t none e) =
    on (subst (StopsBeside (m.0.walk, m.1) a) e (walk_stops m.0.walk m.1 a (subst (λ (o : Option Spot). Fits (Get (scan_object_at m.0 o)) a) none fits))) where
      on : (t ≡ trouble.Memory) ⊎ WalkShows (m.0.walk, m.1) a w.0 t → (t ≡ trouble.Memory) ⊎ Shows m a (record m.0 { walk = w.0 }, w.1) t
      on (inl memory) = inl memory
      on (inr shown) = inr (walk_shows m (record m.0 { walk = w.0 }, w.1) a t none (inl shown))
stop_shows m _ a _ ok fits (step.no_leaf w page none e never) =
    let served = end_served (m.0.walk, m.1) w a page (ok none) e in lost (leaf_at w.1 (object_of w.0)) served.leaf never served.kept
stop_shows m _ a _ ok fits (step.fails spot t some e) = on (nothing_got (scan_object m.0) a t fits e) where
  on : (t ≡ trouble.Memory) ⊎ ((t ≡ trouble.Failed) × (a ≡ answer.Failed)) → (t ≡ trouble.Memory) ⊎ Shows m a m t
  on (inl memory) = inl memory
  on (inr failed) = inr (right_shows m m a t spot some (inl failed))
stop_shows m _ a _ ok fits (step.refuses spot got t some is e) =
    inr (right_shows m m a t spot some (inr (inl (got, is, refused_shows m.1 (scan_object m.0) true got t e))))
stop_shows m _ a _ ok fits (step.breaks spot c l read differs) =
    inr (right_shows m (m.0, c) a (trouble.BadFence spot.page spot.low l.low) spot read.in_hand
    (inr (inr (inl (record { got = read.got; version = read.version; cache = c; leaf = l; answered = read.answered; accepted = read.accepted; kept = read.kept; differs = differs; is = refl })))))
stop_shows m _ a _ ok fits (step.loops s n c l page t reached loop) = inr (loop_shows m (n, c) a t (subst (λ (k : Scan). ClosesLoop (k, c) t) (sym loop.stays) closes)) where
  closes : ClosesLoop (s, c) t
  closes = record { leaf = l; next = loop.next; kept = reached_kept m a s c l page reached; linked = loop.linked; wanted = loop.wanted; came = loop.came; is = loop.is }

-- where a step stops, but for want of memory, this is shown
abbrev StopsBy : Scan × Cache → Answer → Next (Scan × Cache) ℕ → Type 0
StopsBy m a (Goes n) = Unit {0}
StopsBy m a (Ends n page) = Unit {0}
StopsBy m a (Stops n t) = (t ≡ trouble.Memory) ⊎ Shows m a n t

next_stops : (m : Scan × Cache) (a : Answer) → (m.0.spot ≡ None → IsWalk m.0.walk) → Fits (scan_asks m) a → StopsBy m a (scan_next m a)
next_stops m a ok fits = on (scan_next m a) (comes m a) where
  on : (x : Next (Scan × Cache) ℕ) → Comes m a x → StopsBy m a x
  on (Goes n) o = tt
  on (Ends n page) o = tt
  on (Stops n t) o = stop_shows m n a t ok fits o

-- ---- of the code's step

other_one : {A B : Type 0} → A ⊎ B → (A → ⊥) → B
other_one (inl a) never = absurd (never a)
other_one (inr b) never = b

took_shows : (m n : Scan × Cache) (a : Answer) (turn : Turn ℕ) → StopsBy m a (scan_next m a) → Took (LeadsBy scan_next) KeepsServed m a n turn
    → (t : Trouble) → turn ≡ Stopped t → t ≢ trouble.Memory → Shows m a n t
took_shows m n a turn stops took t stopped other =
    let At : Turn ℕ → Type 0 = Took (LeadsBy scan_next) KeepsServed m a n in
    other_one (subst (StopsBy m a) ((subst At stopped took).0 other) stops) other

-- what stops as failed was answered so
shows_failed : (o : Option Spot) (m n : Scan × Cache) (a : Answer) → ShowsAt o m a n trouble.Failed → a ≡ answer.Failed
shows_failed None m n a (inl h) = walk_failed (m.0.walk, m.1) a n.0.walk h
shows_failed None m n a (inr loop) = absurd (cc (loop.is))
shows_failed (Some spot) m n a (inl h) = h.1
shows_failed (Some spot) m n a (inr (inl (got, answered, inl old))) = absurd (cc (old.is))
shows_failed (Some spot) m n a (inr (inl (got, answered, inr damaged))) = absurd (cc (damaged.is))
shows_failed (Some spot) m n a (inr (inr (inl fence))) = absurd (cc (fence.is))
shows_failed (Some spot) m n a (inr (inr (inr loop))) = absurd (cc (loop.is))

failed_is : trouble.Failed ≢ trouble.Memory
failed_is e = absurd (cc (e))

pub next_causes : (r : Range) (h : List Move) (who : Caller) (before after : Seen) (m n : Scan × Cache) (a : Answer) (turn : Turn ℕ) → Scanned r h m
    → Makes who (scan_asks m) a before after → Took (LeadsBy scan_next) KeepsServed m a n turn → Causes m a n turn
next_causes r h who before after m n a turn came made took =
    took_shows m n a turn (next_stops m a (λ none. walk_of r _ m.0.walk m.0.spot none (scanned_stands r h m came).holds.hand) made.fits) took

pub next_calm : (who : Caller) (before after : Seen) (m n : Scan × Cache) (a : Answer) (turn : Turn ℕ) → Makes who (scan_asks m) a before after → Causes m a n turn
    → IsCalm (deed_of who m a before after) → turn ≢ Stopped trouble.Failed
next_calm who before after m n a turn made causes calm stopped =
    let failed : a ≡ answer.Failed = shows_failed m.0.spot m n a (causes trouble.Failed stopped failed_is) in
    let rose : before.counts.faults < after.counts.faults = made.failed failed in
    let same : after.counts.faults ≡ before.counts.faults = ap (λ (k : Counts). k.faults) calm.counts in
    omega (arith, same, rose)
