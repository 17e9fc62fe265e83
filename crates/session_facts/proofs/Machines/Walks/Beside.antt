-- The cache that a walk leaves is known, whatever the walk.
use Rattle.std.proofs.Common.{ℕ, sym, subst}
use Rattle.cloud_facts.specs.Words.{Trouble, Answer, Next, Goes, Ends, Stops, got_of, Store}
use Rattle.page_cache.specs.Cache.{Cache}
use Rattle.tree_walk.specs.Walk.{Walk, object_of, rested, walk_ready, walk_next}
use Rattle.tree_walk.proofs.Outcomes as step
use Rattle.tree_walk.proofs.Outcomes.{StopsFor, Comes, comes, Readies, readies}
use Rattle.session_facts.specs.Machines.Walks.Caches.{KnowsCache}
use Rattle.session_facts.proofs.Machines.Walks.Turns.{MayAnswer, brought_known, left_known}

-- wherever a turn leads
abbrev pub LeavesKnown : Store → Next (Walk × Cache) ℕ → Type 0
LeavesKnown st (Goes m) = KnowsCache st m.1
LeavesKnown st (Ends m page) = KnowsCache st m.1
LeavesKnown st (Stops m t) = KnowsCache st m.1

pub ready_leaves : (st : Store) (w : Walk) (c : Cache) → KnowsCache st c → LeavesKnown st (walk_ready (w, c))
ready_leaves st w c k = on (walk_ready (w, c)) (readies (w, c))
  where
    on : (x : Next (Walk × Cache) ℕ) → Readies (w, c) x → LeavesKnown st x
    on (Goes n) ready = subst (KnowsCache st) (sym ready.0) k
    on (Ends n page) never = absurd never
    on (Stops n t) ready = subst (KnowsCache st) (sym ready.0) (left_known st n.0 c k)

pub turn_leaves : (st : Store) (w : Walk) (c : Cache) (a : Answer) → KnowsCache st c → MayAnswer st (object_of w) (got_of a) → LeavesKnown st (walk_next (w, c) a)
turn_leaves st w c a k may = on (walk_next (w, c) a) (comes (w, c) a)
  where
    stopped : (n : Walk × Cache) (t : Trouble) → StopsFor (w, c) a n t → KnowsCache st n.1
    stopped _ _ (step.fails t e) = left_known st (rested w) c k
    stopped _ _ (step.refuses got t answered e) = left_known st (rested w) c k
    stopped _ _ (step.halts d u v t brought way halt) = left_known st v d (brought_known st w c d a k may brought)

    on : (x : Next (Walk × Cache) ℕ) → Comes (w, c) a x → LeavesKnown st x
    on (Goes n) o = brought_known st w c n.1 a k may o.brought
    on (Ends n page) o = subst (KnowsCache st) (sym o.left) (left_known st n.0 o.cache (brought_known st w c o.cache a k may o.brought))
    on (Stops n t) o = stopped n t o
