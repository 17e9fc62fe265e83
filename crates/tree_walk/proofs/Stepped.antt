-- One step of a walk, read off where its answer leads.
use Rattle.std.proofs.Common.{◌≡◌, ◌≢◌, ◌≤◌, ℕ, Bool, true, false, List, [], ◌∷◌, Option, Result, Ok, Err, refl, ap, subst, ◌∙◌, arith}
use Rattle.std.specs.Prelude.{fold, if◌then◌else◌}
use Rattle.tree_walk.proofs.Words.{Caller, Seen, Makes, Answer, Turn, Ended, More, Stopped, ObjName, Trouble}
use Rattle.db_base.specs.declared.trouble.Trouble.TheVariants as trouble
use Rattle.cloud_trait.specs.declared.answer.Answer.TheVariants as answer
use Rattle.cloud_trait.specs.Ask.{Ask}
use Rattle.cloud_trait.specs.Machine.{LeadsBy, Took}
use Rattle.page_cache.specs.Cache.{Cache, Did, accepts, dropped, served_at}
use Rattle.page_cache.proofs.CacheLemmas.{accept_rises}
use Rattle.tree_walk.specs.Moves.{Moves}
use Rattle.tree_walk.specs.Walk.{Walk, IsWalk, ServesOn, KeepsServed, HasAim, walk_ask, walk_next, left_by, passed, rested}
use Rattle.tree_walk.specs.Stepped.{Stepped}
use Rattle.tree_walk.specs.Served.{deed_of}
use Rattle.tree_walk.proofs.Calm.{moved_calmly}
use Rattle.tree_walk.proofs.Causes.{asked, moved_shows}
use Rattle.tree_walk.proofs.Demands.{answer_stops, moved_stopped, brought_meets}
use Rattle.tree_walk.proofs.Meaning.{walked_led}
use Rattle.tree_walk.proofs.Served.{moved_serves}
use Rattle.tree_walk.proofs.Stays.{WalksBeside, next_walks}

-- ---- served versions

pub same_on : (c : Cache) → ServesOn c c
same_on c other = omega arith

-- .. by an accept, whatever it came to
pub accept_on : (c d : Cache) (name : ObjName) (as_leaf : Bool) (got : Option (List ℕ)) (result : Result ℕ Trouble) → Did (accepts c name as_leaf got) c d result → ServesOn c d
accept_on c d name as_leaf got (Ok version) did = accept_rises c name as_leaf got version d did
accept_on c d name as_leaf got (Err t) did = λ other. let same : served_at d other ≡ served_at c other = ap (λ (k : Cache). served_at k other) did.1 in omega (arith, same)

dropped_versions : (names : List ObjName) (c : Cache) → (fold dropped c names).versions ≡ c.versions
dropped_versions [] c = refl
dropped_versions (name ∷ names) c = dropped_versions names (dropped c name)

-- .. at the end of a turn, which may drop objects and forgets no version
pub left_on : (w : Walk) (c d e : Cache) (more : Bool) → ServesOn c d → e ≡ (if more then d else left_by w d) → ServesOn c e
left_on w c d e more on is other =
    let same : served_at e other ≡ served_at d other = served_same more is in
    let less : served_at c other ≤ served_at d other = on other in
    omega (arith, same, less)
  where
    left : (b : Bool) → served_at (if b then fold dropped d (passed w) else d) other ≡ served_at d other
    left false = refl
    left true = ap (λ (k : List (ObjName × ℕ)). served_at (record { objects = []; versions = k }) other) (dropped_versions (passed w) d)

    served_same : (b : Bool) → e ≡ (if b then d else left_by w d) → served_at e other ≡ served_at d other
    served_same true is = ap (λ (k : Cache). served_at k other) is
    served_same false is = ap (λ (k : Cache). served_at k other) is ∙ left w.turned

-- ---- a step

moves_took : (m n : Walk × Cache) (a : Answer) (turn : Turn ℕ) → ServesOn m.1 n.1 → Moves (walk_next m a) n turn → Took (LeadsBy walk_next) KeepsServed m a n turn
moves_took m n a More on h = h
moves_took m n a (Ended page) on h = h
moves_took m n a (Stopped t) on h = (h, λ memory. on)

same_aim : (m n : Walk × Cache) (a : Answer) (turn : Turn ℕ) → Moves (walk_next m a) n turn → turn ≢ Stopped trouble.Memory → HasAim m.0 n.0
same_aim m n a turn moved other = on turn moved other where
  walks : WalksBeside m.0.tree m.0.key (walk_next m a)
  walks = next_walks m.0.tree m.0.key m a (refl, refl)

  on : (turn : Turn ℕ) → Moves (walk_next m a) n turn → turn ≢ Stopped trouble.Memory → HasAim m.0 n.0
  on More h other = let to = subst (WalksBeside m.0.tree m.0.key) h walks in record { tree = to.1.0; key = to.1.1 }
  on (Ended page) h other = let to = subst (WalksBeside m.0.tree m.0.key) h walks in record { tree = to.0; key = to.1 }
  on (Stopped t) h other = let to = subst (WalksBeside m.0.tree m.0.key) (h (λ memory. other (ap Stopped memory))) walks in record { tree = to.0; key = to.1 }

pub moved_stepped : (who : Caller) (k : Ask) (w : Walk) (c : Cache) (n : Walk × Cache) (a : Answer) (turn : Turn ℕ) (before after : Seen) → IsWalk w → k ≡ walk_ask w
    → Makes who k a before after → Moves (walk_next (w, c) a) n turn → ServesOn c n.1 → (a ≡ answer.Failed → turn ≡ Stopped trouble.Failed) → Stepped who before after (w, c) n turn
moved_stepped who k w c n a turn before after ok is made moved on failed =
    let so = asked who k w a before after is made in
    record {
      answer = a;
      made = so;
      took = moves_took (w, c) n a turn on moved;
      aim = same_aim (w, c) n a turn moved;
      served = on;
      causes = moved_shows w c n a turn so.fits moved;
      led = λ start begun h walked. walked_led start begun h (w, c) (deed_of who (w, c) a before after) walked refl;
      exact = record {
        failed = failed;
        answered = λ t shows. moved_stopped (walk_next (w, c) a) (rested w, left_by (rested w) c) n t turn (answer_stops w c a t shows) moved;
        met = λ d t brings meets. let stops = brought_meets w c a d t brings meets in moved_stopped (walk_next (w, c) a) stops.0 n t turn stops.1 moved;
      };
      serves = moved_serves who w c n a turn before after ok so moved;
      calm = moved_calmly who w c n a turn before after so moved;
    }
