-- What each turn of a walk makes of what is known.
use Rattle.std.proofs.Common.{◌≡◌, ◌≤◌, ℕ, zero, suc, Bool, true, false, List, [], ◌∷◌, ◌++◌, length, drop, Option, Some, None, unwrap_or, refl, ap, sym, subst, ◌∙◌, inl, inr, arith, length-append}
use Rattle.std.specs.Prelude.{slice_get}
use Rattle.std.specs.Option.{option_map}
use Rattle.std.proofs.lemmas.List.{append-nil}
use Rattle.db_base.specs.declared.names.ObjName.TheVariants as object
use Rattle.db_base.specs.declared.trouble.Trouble.TheVariants as trouble
use Rattle.db_base.specs.declared.trouble.Counter.TheVariants as counter
use Rattle.head_codec.specs.declared.head.Head.{Head}
use Rattle.page_cache.specs.Held.{root_at}
use Rattle.commit_writes.specs.Writing.{with_head, pruned}
use Rattle.commit_run.specs.Draft.{pruned_by_root, pruned_by_kept, pruned_with, with_kept}
use Rattle.commit_run.specs.Trips.{OfTree, OfLeaf, use_of_root, use_of_leaf, IsAimed}
use Rattle.commit_run.specs.Meaning.{pruned_once, pruned_by, IsLeafOf}
use Rattle.commit_run.proofs.Words.{ObjName, Trouble, Leaf, Tree, Noted, Answer, Ask, Get, Next, Goes, Ends, Stops, Home, Cache, leaf_at, LinkShows, Walk, sought, object_of, new_walk, walk_ask, walk_next, ended_of, Writing, waiting, begun, routed_of, passes, Calls, Draft, pruned_behind, planned, leaf_noted, paged, held, target_of, next_target, is_stale, walked, Use, used_in, left_by_turn, used_by_turn, Trip, uses_of, AreWalks, walked_home, AreLeaves}
use Rattle.commit_run.proofs.Knows.{KeepsRead, IsGotAt, KnowsDraft, KnowsOver, KnowsHeld, KnowsHand, KnowsNext}
use Rattle.commit_run.proofs.Planning.{get_last, all_more, ended_more, leaves_more, leaves_append, pages_leaves, planned_within}
use Rattle.commit_run.proofs.Hands.{one_left, all_known, same_target}
use Rattle.commit_run.proofs.Outcomes as step
use Rattle.commit_run.proofs.Outcomes.{NextRun, records_of, Begins, Plans, Behind, Comes, comes}
use Rattle.tree_walk.proofs.Served.{IsServedBy as IsServed, end_served}
use Rattle.commit_run.proofs.Reading.{LeavesRead, ready_read, next_read}
use Rattle.commit_run.proofs.Trips.{uses_last, behind_last, begun_trip, walks_begin, gone_on, uses_on, walks_on}

-- ---- pruning

pruned_last : (client : ℕ) (head : Head) (uses : List Use) (u : Use) → pruned_by client head (uses ++ u ∷ []) ≡ pruned_once client (pruned_by client head uses) u
pruned_last client head [] u = refl
pruned_last client head (v ∷ uses) u = pruned_last client (pruned_once client head v) uses u

pruned_more : (home : Home) (changes : List Noted) (uses : List Use) (u : Use) → pruned (waiting (walked_home home uses) changes) (pruned_once home.client (pruned_by home.client home.head uses) u)
    ≡ waiting (walked_home home (uses ++ u ∷ [])) changes
pruned_more home changes uses (OfTree tree root) =
    ap (λ (h : Head). waiting (with_head (walked_home home uses) h) changes) (sym (pruned_last home.client home.head uses (OfTree tree root)))
pruned_more home changes uses (OfLeaf tree leaf) =
    ap (λ (h : Head). waiting (with_head (walked_home home uses) h) changes) (sym (pruned_last home.client home.head uses (OfLeaf tree leaf)))

-- the uses of a turn more
root_more : (home : Home) (changes : List Noted) (uses : List Use) (tree : ℕ) (o : Option Tree)
    → pruned_by_root (waiting (walked_home home uses) changes) tree o ≡ waiting (walked_home home (uses ++ use_of_root tree o)) changes
root_more home changes uses tree None = ap (λ (us : List Use). waiting (walked_home home us) changes) (sym (append-nil uses))
root_more home changes uses tree (Some root) = pruned_more home changes uses (OfTree tree root)

leaf_more : (home : Home) (changes : List Noted) (uses : List Use) (tree : ℕ) (o : Option Leaf)
    → pruned_by_kept (waiting (walked_home home uses) changes) tree o ≡ waiting (walked_home home (uses ++ use_of_leaf tree o)) changes
leaf_more home changes uses tree None = ap (λ (us : List Use). waiting (walked_home home us) changes) (sym (append-nil uses))
leaf_more home changes uses tree (Some leaf) = pruned_more home changes uses (OfLeaf tree leaf)

used_more : (home : Home) (changes : List Noted) (uses : List Use) (c : Cache) (used : Option ObjName)
    → pruned_with (waiting (walked_home home uses) changes) c used ≡ waiting (walked_home home (uses ++ used_in c used)) changes
used_more home changes uses c None = ap (λ (us : List Use). waiting (walked_home home us) changes) (sym (append-nil uses))
used_more home changes uses c (Some (object.Head client)) = ap (λ (us : List Use). waiting (walked_home home us) changes) (sym (append-nil uses))
used_more home changes uses c (Some (object.Tree tree)) = root_more home changes uses tree (root_at c (object.Tree tree))
used_more home changes uses c (Some (object.Page tree page)) = leaf_more home changes uses tree (leaf_at c (object.Page tree page))

within_of : (home : Home) (changes : List Noted) (uses more : List Use) (w v : Writing) (pages : List ℕ) → w ≡ waiting (walked_home home uses) changes → v ≡ waiting (walked_home home more) changes
    → length pages ≤ length w.changes → length pages ≤ length v.changes
within_of home changes uses more w v pages e f h =
    subst (λ (cs : List Noted). length pages ≤ length cs) (ap (λ (x : Writing). x.changes) e ∙ sym (ap (λ (x : Writing). x.changes) f)) h

pub knows_pruned : (home : Home) (changes : List Noted) (trips : List Trip) (uses : List Use) (d : Draft) (w : Walk) (c : Cache) → KnowsDraft home changes trips uses d
    → KnowsDraft home changes trips (uses ++ used_in c w.used) (pruned_behind d w c)
knows_pruned home changes trips uses d w c k = record {
  writes = so;
  within = within_of home changes uses (uses ++ used_in c w.used) d.writes (pruned_with d.writes c w.used) d.plan.pages k.writes so k.within;
  leaves = k.leaves;
  ended = k.ended;
} where
  so : pruned_with d.writes c w.used ≡ waiting (walked_home home (uses ++ used_in c w.used)) changes
  so = ap (λ (x : Writing). pruned_with x c w.used) k.writes ∙ used_more home changes uses c w.used

-- the next change is the same
target_same : (home : Home) (changes : List Noted) (ts us : List Trip) (uses more : List Use) (d e : Draft) → KnowsDraft home changes ts uses d → KnowsDraft home changes us more e → d.plan ≡ e.plan
    → next_target d ≡ next_target e
target_same home changes ts us uses more d e k l same =
    ap (λ (cs : List Noted). option_map target_of (slice_get cs (length d.plan.pages))) (ap (λ (x : Writing). x.changes) k.writes ∙ sym (ap (λ (x : Writing). x.changes) l.writes))
    ∙ ap (λ (pages : List ℕ). option_map target_of (slice_get e.writes.changes (length pages))) (ap (λ p. p.pages) same)

-- ---- walks more

same_uses : (home : Home) (changes : List Noted) (trips : List Trip) (uses more : List Use) (d : Draft) → uses ≡ more → KnowsDraft home changes trips uses d → KnowsDraft home changes trips more d
same_uses home changes trips uses more d e k = subst (λ (us : List Use). KnowsDraft home changes trips us d) e k

knows_more : (home : Home) (changes : List Noted) (trips more : List Trip) (uses : List Use) (d : Draft) → KnowsDraft home changes trips uses d → KnowsDraft home changes (trips ++ more) uses d
knows_more home changes trips more uses d k = record {
  writes = k.writes;
  within = k.within;
  leaves = leaves_more trips more changes d.plan.pages k.leaves;
  ended = ended_more trips more d.plan.ended k.ended;
}

-- ---- planning on

knows_planned : (home : Home) (changes : List Noted) (trips : List Trip) (uses : List Use) (d : Draft) → KnowsDraft home changes trips uses d → KnowsDraft home changes trips uses (planned d)
knows_planned home changes trips uses d k = record {
  writes = k.writes;
  within = planned_within d.writes.home.head.pending d.plan.ended d.writes.changes d.plan.pages k.within;
  leaves =
      subst (λ (cs : List Noted). AreLeaves trips cs (planned d).plan.pages) (ap (λ (w : Writing). w.changes) k.writes)
      (leaves_append trips d.writes.changes d.plan.pages _ (subst (λ (cs : List Noted). AreLeaves trips cs d.plan.pages) (sym (ap (λ (w : Writing). w.changes) k.writes)) k.leaves)
      (pages_leaves trips d.writes.home.head.pending d.plan.ended k.ended (drop (length d.plan.pages) d.writes.changes)));
  ended = k.ended;
}

-- ---- a walk begins

hand_by : (home : Home) (changes : List Noted) (c : Cache) (calls : Calls) (first : Bool) (d : Draft) (m : Walk × Cache) → KnowsHeld home changes c calls d first m
    → KnowsHand home changes c calls d (held first m.0) m.1
hand_by home changes c calls true d m k = k
hand_by home changes c calls false d m k = k

-- what the cache keeps shows no stale page
link_fresh : (c : Cache) (old w : Walk) (t : Trouble) → LinkShows c old w t → is_stale t ≡ false
link_fresh c old w t (inl (s, at, led, inl level)) = ap is_stale level.is
link_fresh c old w t (inl (s, at, led, inr fence)) = ap is_stale fence.is
link_fresh c old w t (inr loop) = ap is_stale loop.is

-- behind walks that were made
module _ (home : Home) (changes : List Noted) (c : Cache) (calls : Calls) where
  pub begins_walk : (first : Bool) (d : Draft) (k : Cache) (to : ℕ × List ℕ) (x : NextRun) (o : KnowsOver home changes c calls d k) → IsAimed home changes (begun_trip to first k) → (first ≡ false → next_target d ≡ Some to)
      → Begins first d k to x → KnowsNext home changes c calls x
  begins_walk first d k to x o is_aimed aimed b = on x b where
    trip : Trip
    trip = begun_trip to first k

    read : LeavesRead c calls trip.turn
    read = ready_read c calls (new_walk to.0 (Some to.1) first) k o.reads

    walks : AreWalks home changes c (o.trips ++ trip ∷ []) calls
    walks = walks_begin home changes c o.trips calls to first k o.walks o.behind is_aimed read

    behind : (m : Walk × Cache) (y : Next (Walk × Cache) ℕ) → trip.turn ≡ y → used_by_turn y ≡ used_in m.1 m.0.used → KnowsDraft home changes o.trips (uses_of (o.trips ++ trip ∷ [])) (pruned_behind d m.0 m.1)
    behind m y e used =
        same_uses home changes o.trips (uses_of o.trips ++ used_in m.1 m.0.used) (uses_of (o.trips ++ trip ∷ [])) (pruned_behind d m.0 m.1)
        (ap (λ (us : List Use). uses_of o.trips ++ us) (sym (ap used_by_turn e ∙ used)) ∙ sym (uses_last o.trips trip)) (knows_pruned home changes o.trips (uses_of o.trips) d m.0 m.1 o.draft)

    on : (y : NextRun) → Begins first d k to y → KnowsNext home changes c calls y
    on y (step.walks m e is aims) =
        let p : KnowsDraft home changes o.trips (uses_of (o.trips ++ trip ∷ [])) (pruned_behind d m.0 m.1) = behind m (Goes m) e refl in
        let same = same_target to.0 (Some to.1) m.0 aims in
        hand_by home changes c calls first (pruned_behind d m.0 m.1) m (record {
          earlier = o.trips;
          trip = trip;
          walks = walks;
          fresh = refl;
          goes = e;
          reads = subst (LeavesRead c calls) e read;
          draft = p;
          is = is;
          to = same;
          aimed = λ no. target_same home changes o.trips o.trips (uses_of (o.trips ++ trip ∷ [])) (uses_of o.trips) (pruned_behind d m.0 m.1) d p o.draft refl ∙ (aimed no ∙ ap Some same);
        })
    on y (step.stops m t e link other) = record {
      trips = o.trips ++ trip ∷ [];
      walks = walks;
      means = record {
        trouble = t;
        is = refl;
        left_so = ap (λ (w : Writing). w.home) (behind m (Stops m t) e refl).writes;
        why = inl (record { earlier = o.trips; trip = trip; are = refl; left = m; stopped = e; other = link_fresh k (new_walk to.0 (Some to.1) first) m.0 t link });
      };
    }
    on y (step.lacks m e) = record { trips = o.trips ++ trip ∷ []; walks = walks; means = refl }

  -- planning goes on
  pub plans_by : (d : Draft) (k : Cache) (x : NextRun) → KnowsOver home changes c calls d k → Plans d k x → KnowsNext home changes c calls x
  plans_by d k x o p = on (knows_planned home changes o.trips (uses_of o.trips) d o.draft) x p where
    same : d.writes.changes ≡ changes
    same = ap (λ (w : Writing). w.changes) o.draft.writes

    on : KnowsDraft home changes o.trips (uses_of o.trips) (planned d) → (y : NextRun) → Plans d k y → KnowsNext home changes c calls y
    on draft y (step.seeks n z is b) =
        begins_walk false (planned d) k (target_of n) y (record { trips = o.trips; walks = o.walks; behind = o.behind; reads = o.reads; draft = draft })
        (inl (refl, length (planned d).plan.pages, n, ap (λ (cs : List Noted). slice_get cs (length (planned d).plan.pages)) (sym same) ∙ is, refl)) (λ no. ap (option_map target_of) is) b
    on draft y (step.full none e) = record {
      trips = o.trips;
      walks = o.walks;
      means = record {
        trouble = trouble.Exhausted counter.Number;
        is = refl;
        left_so = ap (λ (w : Writing). w.home) o.draft.writes;
        why = inr (record {
          pages = (planned d).plan.pages;
          known = all_known (planned d) draft.within none ∙ ap length same;
          leaves = draft.leaves;
          full = subst (λ (w : Writing). passes (routed_of w.home w.changes (planned d).plan.pages) ≡ true) o.draft.writes e;
          is = refl;
        });
      };
    }
    on draft y (step.writes w none fits e) = record {
      records = records_of (planned d);
      routed = record {
        trips = o.trips;
        walks = o.walks;
        pages = (planned d).plan.pages;
        known = all_known (planned d) draft.within none ∙ ap length same;
        leaves = draft.leaves;
        are = ap (λ (w : Writing). routed_of w.home w.changes (planned d).plan.pages) o.draft.writes;
      };
      fits = fits;
      begins = subst (λ (v : Writing). begun v (records_of (planned d)) ≡ Goes w) o.draft.writes e;
    }

-- ---- a walk ends

noted_kept : (home : Home) (changes : List Noted) (trips : List Trip) (uses : List Use) (d : Draft) (tree page : ℕ) (o : Option Leaf) (leaf : Leaf) → o ≡ Some leaf → KnowsDraft home changes trips uses d
    → IsGotAt trips (ended_of tree page leaf) → KnowsDraft home changes trips uses (record d { plan = with_kept d.plan tree page o })
noted_kept home changes trips uses d tree page o leaf e k got =
    subst (λ (x : Option Leaf). KnowsDraft home changes trips uses (record d { plan = with_kept d.plan tree page x })) (sym e) (record {
      writes = k.writes;
      within = k.within;
      leaves = k.leaves;
      ended = all_more (IsGotAt trips) d.plan.ended (ended_of tree page leaf ∷ []) k.ended (got, tt);
    })

served_got : (earlier : List Trip) (trip : Trip) (w : Walk) (k : Cache) (a : Answer) (n : Walk × Cache) (page : ℕ) → trip.tree ≡ n.0.tree → walk_next (w, k) a ≡ Ends n page → (s : IsServed w a n page)
    → IsGotAt (earlier ++ gone_on trip (w, k) a ∷ []) (ended_of n.0.tree page s.leaf)
served_got earlier trip w k a n page in_tree ended s = record {
  place = length earlier;
  trip = gone_on trip (w, k) a;
  among = get_last earlier (gone_on trip (w, k) a);
  in_tree = in_tree;
  left = n;
  ended = ended;
  earlier = trip.calls;
  bytes = s.bytes;
  got =
      ap (λ (q : Ask). trip.calls ++ (q, a) ∷ []) s.asked
      ∙ ap (λ (b : Answer). trip.calls ++ (Get (object.Page n.0.tree page), b) ∷ []) s.answered;
  leaf = s.leaf;
  spelled = s.spelled;
  low = refl;
  high = refl;
}

-- ---- a stale walk

paged_by : (home : Home) (changes : List Noted) (trips : List Trip) (uses : List Use) (d : Draft) (w : Walk) → KnowsDraft home changes trips uses d → next_target d ≡ Some (w.tree, sought w)
    → ((n : Noted) → target_of n ≡ (w.tree, sought w) → IsLeafOf trips n 1) → KnowsDraft home changes trips uses (paged d 1)
paged_by home changes trips uses d w k target leaf = record {
  writes = k.writes;
  within = omega (arith, one_left d (w.tree, sought w) target, length-append d.plan.pages (1 ∷ []));
  leaves = leaves_append trips changes d.plan.pages (1 ∷ []) k.leaves (next_leaf changes (length d.plan.pages) here);
  ended = k.ended;
} where
  here : option_map target_of (slice_get changes (length d.plan.pages)) ≡ Some (w.tree, sought w)
  here = ap (λ (x : Writing). option_map target_of (slice_get x.changes (length d.plan.pages))) (sym k.writes) ∙ target

  next_leaf : (cs : List Noted) (i : ℕ) → option_map target_of (slice_get cs i) ≡ Some (w.tree, sought w) → AreLeaves trips (drop i cs) (1 ∷ [])
  next_leaf [] zero e = tt
  next_leaf [] (suc i) e = tt
  next_leaf (n ∷ cs) zero e = (λ update. leaf n (the_target (target_of n) (w.tree, sought w) e), rest cs) where
    rest : (xs : List Noted) → AreLeaves trips xs []
    rest [] = tt
    rest (x ∷ xs) = tt

    the_target : (x y : ℕ × List ℕ) → ◌≡◌ {A = Option (ℕ × List ℕ)} (Some x) (Some y) → x ≡ y
    the_target x y e = ap (λ (o : Option (ℕ × List ℕ)). unwrap_or o x) e
  next_leaf (n ∷ cs) (suc i) e = next_leaf cs i e

-- ---- a turn of the walk in hand

pub turned_by : (home : Home) (changes : List Noted) (c : Cache) (calls : Calls) (first : Bool) (d : Draft) (w : Walk) (k : Cache) (a : Answer) → KnowsHeld home changes c calls d first (w, k)
    → KnowsNext home changes c (calls ++ (walk_ask w, a) ∷ []) (walked first d w k a)
turned_by home changes c calls first d w k a h = on (walked first d w k a) (comes d w k a first) where
  now : Calls
  now = calls ++ (walk_ask w, a) ∷ []

  trip : Trip
  trip = gone_on h.trip (w, k) a

  trips : List Trip
  trips = h.earlier ++ trip ∷ []

  read : LeavesRead c now trip.turn
  read = next_read c calls w k a h.reads

  walks : AreWalks home changes c trips now
  walks = walks_on home changes c h.earlier h.trip calls (w, k) a h.walks h.goes read

  pruned : (m : Walk × Cache) (x : Next (Walk × Cache) ℕ) → trip.turn ≡ x → used_by_turn x ≡ used_in m.1 m.0.used → KnowsDraft home changes h.earlier (uses_of trips) (pruned_behind d m.0 m.1)
  pruned m x e used =
      same_uses home changes h.earlier (uses_of (h.earlier ++ h.trip ∷ []) ++ used_in m.1 m.0.used) (uses_of trips) (pruned_behind d m.0 m.1)
      (ap (λ (us : List Use). uses_of (h.earlier ++ h.trip ∷ []) ++ us) (sym (ap used_by_turn e ∙ used)) ∙ sym (uses_on h.earlier h.trip (w, k) a))
      (knows_pruned home changes h.earlier (uses_of (h.earlier ++ h.trip ∷ [])) d m.0 m.1 h.draft)

  over : (m : Walk × Cache) (x : Next (Walk × Cache) ℕ) → trip.turn ≡ x → left_by_turn x ≡ m → (e : Draft) → KnowsDraft home changes trips (uses_of trips) e → KnowsOver home changes c now e m.1
  over m x e left draft knows =
      let so : (left_by_turn trip.turn).1 ≡ m.1 = ap (λ (n : Walk × Cache). n.1) (ap left_by_turn e ∙ left) in
      record { trips = trips; walks = walks; behind = behind_last c h.earlier trip ∙ so; reads = subst (KeepsRead c now) so read; draft = knows }

  more : (e : Draft) → KnowsDraft home changes h.earlier (uses_of trips) e → KnowsDraft home changes trips (uses_of trips) e
  more e knows = knows_more home changes h.earlier (trip ∷ []) (uses_of trips) e knows

  target : (e : Draft) → KnowsDraft home changes h.earlier (uses_of trips) e → e.plan ≡ d.plan → first ≡ false → next_target e ≡ Some (w.tree, sought w)
  target e knows same change = target_same home changes h.earlier h.earlier (uses_of trips) (uses_of (h.earlier ++ h.trip ∷ [])) e d knows h.draft same ∙ h.aimed change

  stale : (m : Walk × Cache) (t : Trouble) → trip.turn ≡ Stops m t → is_stale t ≡ true → first ≡ false → (n : Noted) → target_of n ≡ (w.tree, sought w) → IsLeafOf trips n 1
  stale m t e is change n same =
      let to : ◌≡◌ {A = ℕ × List ℕ} (h.trip.tree, h.trip.key) (target_of n) = h.to ∙ sym same in
      inr (
        refl,
        record {
          place = length h.earlier;
          trip = trip;
          among = get_last h.earlier trip;
          in_tree = ap (λ (x : ℕ × List ℕ). x.0) to;
          to = ap (λ (x : ℕ × List ℕ). x.1) to;
          own = h.fresh ∙ change;
          left = m;
          trouble = t;
          stopped = e;
          stale = is;
        },
      )

  behind : (e : Draft) (b : Cache) (one : Bool) → one ≡ first → Behind d w k a one e b → KnowsOver home changes c now e b
  behind e b one same (step.at_leaf first m page ended aims) =
      let s : IsServed w a m page = end_served (w, k) m a page h.is ended in
      let in_tree : h.trip.tree ≡ m.0.tree = ap (λ (x : ℕ × List ℕ). x.0) (h.to ∙ same_target w.tree w.key m.0 aims) in
      over m (Ends m page) ended refl (leaf_noted (pruned_behind d m.0 m.1) m.0 m.1 page)
      (noted_kept home changes trips (uses_of trips) (pruned_behind d m.0 m.1) m.0.tree page (leaf_at m.1 (object_of m.0)) s.leaf s.kept (more (pruned_behind d m.0 m.1) (pruned m (Ends m page) ended refl))
      (served_got h.earlier h.trip w k a m page in_tree ended s))
  behind e b one same (step.at_stale m t stopped is) =
      let p : KnowsDraft home changes h.earlier (uses_of trips) (pruned_behind d m.0 m.1) = pruned m (Stops m t) stopped refl in
      over m (Stops m t) stopped refl (paged (pruned_behind d m.0 m.1) 1)
      (paged_by home changes trips (uses_of trips) (pruned_behind d m.0 m.1) w (more (pruned_behind d m.0 m.1) p) (target (pruned_behind d m.0 m.1) p refl (sym same)) (stale m t stopped is (sym same)))
  behind e b one same (step.passed_over m t stopped is) = over m (Stops m t) stopped refl (pruned_behind d m.0 m.1) (more (pruned_behind d m.0 m.1) (pruned m (Stops m t) stopped refl))

  on : (x : NextRun) → Comes d w k a first x → KnowsNext home changes c now x
  on x (step.goes m e is aims) =
      let p : KnowsDraft home changes h.earlier (uses_of trips) (pruned_behind d m.0 m.1) = pruned m (Goes m) e refl in
      let same = same_target w.tree w.key m.0 aims in
      hand_by home changes c now first (pruned_behind d m.0 m.1) m (record {
        earlier = h.earlier;
        trip = trip;
        walks = walks;
        fresh = h.fresh;
        goes = e;
        reads = subst (LeavesRead c now) e read;
        draft = p;
        is = is;
        to = h.to ∙ same;
        aimed = λ change. target (pruned_behind d m.0 m.1) p refl change ∙ ap Some same;
      })
  on x (step.ends m t e is other) = record {
    trips = trips;
    walks = walks;
    means = record {
      trouble = t;
      is = refl;
      left_so = ap (λ (x : Writing). x.home) (pruned m (Stops m t) e refl).writes;
      why = inl (record { earlier = h.earlier; trip = trip; are = refl; left = m; stopped = e; other = is });
    };
  }
  on x (step.lacks m e) = record { trips = trips; walks = walks; means = refl }
  on x (step.plans e b y from p) = plans_by home changes c now e b x (behind e b first refl from) p
