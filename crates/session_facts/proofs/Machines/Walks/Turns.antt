-- Where a turn of a walk leads: through what the cache keeps, and from what a get answered.
use Rattle.std.proofs.Common.{◌≡◌, ◌==◌, ◌⊎◌, inl, inr, ℕ, Bool, true, false, cond, List, Option, Some, None, Result, Ok, Err, refl, sym, ap, subst, ◌∙◌}
use Rattle.std.specs.Prelude.{fold}
use Rattle.std.proofs.lemmas.Bool.{eqb-true, eqb-false}
use Rattle.cloud_facts.specs.Chains.Chain.{ChainHolds}
use Rattle.cloud_facts.specs.Words.{Trouble, ObjName, Leaf, Inner, Tree, Answer, Next, Goes, Ends, Stops, got_of, Store}
use Rattle.cloud_trait.specs.declared.answer.Answer.TheVariants as answer
use Rattle.db_base.specs.declared.names.ObjName.TheVariants as object
use Rattle.cloud_facts.specs.Decoding.Kinds.{IsNode}
use Rattle.leaf_view.specs.Leaf.{IsLeaf, leaf}
use Rattle.leaf_view.proofs.Exact.{leaf_exact}
use Rattle.node_codec.specs.Inner.{IsInner, inner_format}
use Rattle.node_codec.specs.Tree.{IsTree as IsRootSpelled, tree_format}
use Rattle.node_codec.proofs.InnerLemmas.{inner_exact}
use Rattle.node_codec.proofs.TreeLemmas.{tree_exact}
use Rattle.page_cache.specs.Cache.{Cache, dropped, accepts}
use Rattle.page_cache.specs.Refused.{IsDamaged}
use Rattle.page_cache.specs.Spelled.{leaf_version, inner_version, root_version, version_read}
use Rattle.page_cache.proofs.ReadingLemmas.{version_spelled}
use Rattle.tree_walk.specs.Causes.{IsOld}
use Rattle.tree_walk.specs.Walk.{Spot, Walk, object_at, object_of, is_leaf, is_leaf_at, is_among, passed, left_by, beside, got_by, accepted_by, rested, walk_ready, walk_next}
use Rattle.tree_walk.proofs.Leaves.{leaf_stays}
use Rattle.tree_walk.proofs.Outcomes as step
use Rattle.tree_walk.proofs.Outcomes.{Brought, StopsFor, Comes, comes, way_behind, Readies, readies}
use Rattle.tree_walk.proofs.Refusals.{refused_shows}
use Rattle.session_facts.specs.Machines.Walks.Caches.{HasLanded, KnowsCache}
use Rattle.session_facts.specs.Machines.Walks.Knows.{KnowsWalk, KnowsWalking, IsAtSeenLeaf, MayStopWalk, WalkLeads}
use Rattle.session_facts.proofs.Machines.Walks.Caches.{cache_drops_all, MayServe, cache_accepts}
use Rattle.session_facts.proofs.Machines.Walks.Steps.{leaf_of_level, inner_of_level, version, leads_on, leads_to, halts_never, way_known}

-- ---- what a get answered

-- what a get may have answered: any landed version of the object, or a fault
abbrev pub MayAnswer : Store → ObjName → Result (Option (List ℕ)) Trouble → Type 0
MayAnswer st name (Ok got) = MayServe st name got
MayAnswer st name (Err t) = MayStopWalk t

leaf_versioned : (bytes : List ℕ) (l : Leaf) → IsLeaf bytes l → leaf_version bytes ≡ Ok l.version
unfolding leaf_version
leaf_versioned bytes l s = version_spelled leaf leaf_exact bytes (λ (x : Leaf). x.version) l s

inner_versioned : (bytes : List ℕ) (n : Inner) → IsInner bytes n → inner_version bytes ≡ Ok n.version
unfolding inner_version
inner_versioned bytes n s = version_spelled inner_format inner_exact bytes (λ (x : Inner). x.version) n s

root_versioned : (bytes : List ℕ) (root : Tree) → IsRootSpelled bytes root → root_version bytes ≡ Ok root.version
unfolding root_version
root_versioned bytes root s = version_spelled tree_format tree_exact bytes (λ (x : Tree). x.version) root s

module _ (st : Store) (h : ChainHolds st) (w : Walk) (k : KnowsWalk st w) where
  -- a version that landed of the object in hand is in a spelling of its kind
  undamaged : (bytes : List ℕ) (offset : ℕ) → HasLanded st (object_of w) (Some bytes) → version_read (object_of w) (is_leaf w) bytes ≡ Err offset → ⊥
  undamaged bytes offset landed fault = at w.spot refl landed fault
    where
      page : (s : Spot) → w.spot ≡ Some s → HasLanded st (object.Page w.tree s.page) (Some bytes) → (b : Bool) → (s.level == 0) ≡ b
          → version_read (object.Page w.tree s.page) b bytes ≡ Err offset → ⊥
      page s in_hand (node, spelled, there) true bottom fault =
          let l = leaf_of_level s.level node (eqb-true s.level 0 bottom) (version st h w s in_hand k node there).level_is in
          let fine = leaf_versioned bytes l.0 (subst (IsNode bytes) l.1 spelled) in
          absurd (cc (fine, fault))
      page s in_hand (node, spelled, there) false above fault =
          let n = inner_of_level s.level node (eqb-false s.level 0 above) (version st h w s in_hand k node there).level_is in
          let fine = inner_versioned bytes n.0 (subst (IsNode bytes) n.1 spelled) in
          absurd (cc (fine, fault))

      at : (o : Option Spot) → w.spot ≡ o → HasLanded st (object_at w.tree o) (Some bytes)
          → version_read (object_at w.tree o) (is_leaf_at o) bytes ≡ Err offset → ⊥
      at None none (root, spelled, there) fault = let fine = root_versioned bytes root spelled in absurd (cc (fine, fault))
      at (Some s) in_hand landed fault = page s in_hand landed (s.level == 0) refl fault

  -- so what a cache refuses is stale
  pub refusal : (c : Cache) (got : Option (List ℕ)) (t : Trouble) → MayServe st (object_of w) got → accepts c (object_of w) (is_leaf w) got ≡ Err t → MayStopWalk t
  refusal c got t may e = on (refused_shows c (object_of w) (is_leaf w) got t e)
    where
      on : IsOld c (object_of w) (is_leaf w) got t ⊎ IsDamaged (object_of w) (is_leaf w) got t → MayStopWalk t
      on (inl old) = subst MayStopWalk (sym old.is) tt
      on (inr damaged) = absurd (undamaged damaged.bytes damaged.offset (subst (MayServe st (object_of w)) damaged.were may) damaged.fault)

-- ---- at the end of a turn

-- at its end a walk drops what it passed, and no leaf
pub left_known : (st : Store) (w : Walk) (d : Cache) → KnowsCache st d → KnowsCache st (left_by w d)
left_known st w d cache = on w.turned
  where
    on : (b : Bool) → KnowsCache st (cond b (fold dropped d (passed w)) d)
    on true = cache_drops_all st (passed w) d cache
    on false = cache

left_at : (st : Store) (w : Walk) (d : Cache) (page : ℕ) → IsAtSeenLeaf st w d page → is_among w.nodes page ≡ false → IsAtSeenLeaf st w (left_by w d) page
left_at st w d page a apart = record {
  leaf = a.leaf;
  in_hand = a.in_hand;
  kept = leaf_stays w d page apart ∙ a.kept;
  linked = a.linked;
  seen = a.seen;
  holds = a.holds;
}

-- ---- a turn

-- a get that failed stops a walk, and so does what the cache refuses
pub walk_fails : (w : Walk) (c : Cache) (a : Answer) (t : Trouble) → got_of a ≡ Err t → walk_next (w, c) a ≡ Stops (rested w, left_by (rested w) c) t
walk_fails w c a t e = ap (λ (g : Result (Option (List ℕ)) Trouble). beside (got_by (rested w) c g)) e

pub walk_refuses : (w : Walk) (c : Cache) (a : Answer) (got : Option (List ℕ)) (t : Trouble) → a ≡ answer.Got got
    → accepts c (object_of w) (is_leaf w) got ≡ Err t → walk_next (w, c) a ≡ Stops (rested w, left_by (rested w) c) t
walk_refuses w c a got t answered e =
    ap (λ (x : Answer). walk_next (w, c) x) answered ∙ ap (λ (r : Result (ℕ × Cache) Trouble). beside (accepted_by (rested w) c r)) e

-- what a get answered is served
pub served_by : (st : Store) (name : ObjName) (a : Answer) (got : Option (List ℕ)) → a ≡ answer.Got got → MayAnswer st name (got_of a) → MayServe st name got
served_by st name a got e may = subst (λ (x : Answer). MayAnswer st name (got_of x)) e may

pub brought_known : (st : Store) (w : Walk) (c d : Cache) (a : Answer) → KnowsCache st c → MayAnswer st (object_of w) (got_of a) → Brought (w, c) a d
    → KnowsCache st d
brought_known st w c d a cache may b =
    cache_accepts st c (object_of w) (is_leaf w) b.got b.version d cache (served_by st (object_of w) a b.got b.answered may) b.accepted

pub rests : (st : Store) (w : Walk) → KnowsWalk st w → KnowsWalk st (rested w)
rests st w k = record { tree = k.tree; stands = k.stands; used = tt }

module _ (st : Store) (h : ChainHolds st) (w : Walk) (c : Cache) (k : KnowsWalking st w c) where
  at_rest : KnowsWalk st (rested w)
  at_rest = rests st w k.walk

  module _ (a : Answer) (may : MayAnswer st (object_of w) (got_of a)) where
    known : (d : Cache) → Brought (w, c) a d → KnowsCache st d
    known d b = brought_known st w c d a k.cache may b

    stopped : (n : Walk × Cache) (t : Trouble) → StopsFor (w, c) a n t → KnowsWalking st n.0 n.1 × MayStopWalk t
    stopped _ _ (step.fails t e) = (record { walk = at_rest; cache = left_known st (rested w) c k.cache }, subst (MayAnswer st (object_of w)) e may)
    stopped _ _ (step.refuses got t answered e) =
        (record { walk = at_rest; cache = left_known st (rested w) c k.cache }, refusal st h w k.walk c got t (served_by st (object_of w) a got answered may) e)
    stopped _ _ (step.halts d u v t brought way halt) =
        absurd (halts_never st h d (known d brought) u (way_known st h d (known d brought) (rested w) u way at_rest) v t halt)

    came : (next : Next (Walk × Cache) ℕ) → Comes (w, c) a next → WalkLeads st MayStopWalk next
    came (Goes n) o =
        let cache = known n.1 o.brought in
        let next = leads_on st h n.1 cache (rested w) at_rest o.next o.link in
        record { walk = way_known st h n.1 cache o.next n.0 (way_behind (w, c) a n o) next; cache = cache }
    came (Ends n page) o =
        let cache = known o.cache o.brought in
        let (walk, at, apart) = leads_to st h o.cache cache (rested w) at_rest n.0 page o.arrives in
        subst (λ (d : Cache). KnowsWalking st n.0 d × IsAtSeenLeaf st n.0 d page) (sym o.left)
        (record { walk = walk; cache = left_known st n.0 o.cache cache }, left_at st n.0 o.cache page at apart)
    came (Stops n t) o = stopped n t o

    -- a turn of a walk, by what its get may have answered
    pub walk_turns : WalkLeads st MayStopWalk (walk_next (w, c) a)
    walk_turns = came (walk_next (w, c) a) (comes (w, c) a)

  -- before its first call a walk goes on, with all that it knows; it stops for nothing that the cache keeps
  pub walk_readies : (m : Walk × Cache) × (walk_ready (w, c) ≡ Goes m) × KnowsWalking st m.0 m.1
  walk_readies = on (walk_ready (w, c)) (readies (w, c))
    where
      on : (x : Next (Walk × Cache) ℕ) → Readies (w, c) x → (m : Walk × Cache) × (x ≡ Goes m) × KnowsWalking st m.0 m.1
      on (Goes n) (same, ran, way) =
          (n, refl, record { walk = way_known st h c k.cache (rested w) n.0 way at_rest; cache = subst (KnowsCache st) (sym same) k.cache })
      on (Ends n page) never = absurd never
      on (Stops n t) (left, (u, way, halt)) = absurd (halts_never st h c k.cache u (way_known st h c k.cache (rested w) u way at_rest) n.0 t halt)
