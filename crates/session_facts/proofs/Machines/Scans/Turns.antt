-- Where the turns of a scan lead: those of its walk, and those at right pages.
use Rattle.std.proofs.Common.{◌≡◌, ◌||◌, ◌⊎◌, inl, inr, ℕ, Bool, true, false, List, [], ◌∷◌, ◌++◌, Option, Some, None, Err, refl, sym, ap, subst, ◌∙◌, true≢false}
use Rattle.std.proofs.lemmas.Bool.{or_cases, eqb-true}
use Rattle.cloud_facts.specs.Chains.Chain.{ChainHolds}
use Rattle.cloud_facts.proofs.Chains.Pieces.{not_itself}
use Rattle.cloud_facts.specs.Meanings.Meets.{IsPassed}
use Rattle.cloud_facts.specs.Words.{IsTree, Trouble, ObjName, Leaf, Answer, Next, Goes, Ends, Stops, got_of, Link, Store, IsIn}
use Rattle.db_base.specs.declared.names.ObjName.TheVariants as object
use Rattle.page_cache.specs.Cache.{Cache, accepts}
use Rattle.page_cache.specs.Held.{leaf_at}
use Rattle.range_scan.specs.Scan.{Scan, scan_object, scan_object_at, scan_came_to, scan_next}
use Rattle.range_scan.proofs.Outcomes as step
use Rattle.range_scan.proofs.Outcomes.{IsRead, Reaches, StopsFor, Comes, comes}
use Rattle.session_facts.specs.Machines.Scans.Knows.{IsLeafLink, IsPageBehind, IsOnRight, StandsRight, KnowsScanning, ScanLeads}
use Rattle.session_facts.proofs.Machines.Scans.Rights.{none_among, among_more, seen_low, IsAtEnd, loops_never, leaves_known}
use Rattle.tree_walk.specs.Walk.{Spot, Walk, object_at, object_of, sought, is_page, is_among, came_to, walk_next}
use Rattle.session_facts.specs.Machines.Walks.Caches.{KnowsCache, IsSeenLeaf}
use Rattle.session_facts.specs.Machines.Walks.Knows.{WalkStandsAt, KnowsWalk, KnowsWalking, IsAtSeenLeaf, MayStopWalk, WalkLeads}
use Rattle.session_facts.proofs.Machines.Walks.Caches.{cache_accepts, seen_leaf}
use Rattle.session_facts.proofs.Machines.Walks.Steps.{same_low}
use Rattle.session_facts.proofs.Machines.Walks.Turns.{MayAnswer, served_by, walk_fails, walk_refuses, walk_turns}
use Rattle.tree_walk.proofs.Within.{or_right}

or_left : (a b : Bool) → a ≡ true → (a || b) ≡ true
or_left true b e = refl
or_left false b e = absurd (true≢false (sym e))

module _ (st : Store) (h : ChainHolds st) where
  -- ---- the leaf at which a walk ended

  module _ (w : Walk) (c : Cache) (page : ℕ) (k : KnowsWalk st w) (a : IsAtSeenLeaf st w c page) where
    abbrev chain : ℕ → List Link
    chain = st.book.chain w.tree

    page_of : (s : Spot) → object.Page w.tree s.page ≡ object.Page w.tree page → s.page ≡ page
    page_of s e = cc (e)

    -- all that a walk came to is behind the leaf at which it ended, or is that leaf
    walk_came : (other : ℕ) → came_to w other ≡ true → IsPassed chain 0 a.leaf.low other ⊎ (page ≡ other)
    walk_came other there = on w.spot k.stands a.in_hand there
      where
        at : (s : Spot) → WalkStandsAt chain (sought w) w.nodes w.leaves (Some s) → s.page ≡ page → (is_page other (Some s) || (is_among w.nodes other || is_among w.leaves other)) ≡ true
            → IsPassed chain 0 a.leaf.low other ⊎ (page ≡ other)
        at s way e came = spot (or_cases (is_page other (Some s)) (is_among w.nodes other || is_among w.leaves other) came)
          where
            same : (s.level ≡ 0) × (s.low ≡ a.leaf.low)
            same = (h w.tree k.tree).levels.once s.level 0 (record { low = s.low; page = s.page }) (record { low = a.leaf.low; page = page }) way.at.linked a.linked e

            moved : IsPassed chain s.level s.low other → IsPassed chain 0 a.leaf.low other
            moved p = subst (λ (low : List ℕ). IsPassed chain 0 low other) same.1 (subst (λ (level : ℕ). IsPassed chain level s.low other) same.0 p)

            passed : (is_among w.nodes other ≡ true) ⊎ (is_among w.leaves other ≡ true) → IsPassed chain 0 a.leaf.low other
            passed (inl node) = moved (way.nodes_behind other node)
            passed (inr leaf) = moved (way.leaves_behind other leaf)

            spot : (is_page other (Some s) ≡ true) ⊎ ((is_among w.nodes other || is_among w.leaves other) ≡ true) → IsPassed chain 0 a.leaf.low other ⊎ (page ≡ other)
            spot (inl here) = inr (sym e ∙ eqb-true s.page other here)
            spot (inr before) = inl (passed (or_cases (is_among w.nodes other) (is_among w.leaves other) before))

        on : (o : Option Spot) → WalkStandsAt chain (sought w) w.nodes w.leaves o → object_at w.tree o ≡ object.Page w.tree page
            → (is_page other o || (is_among w.nodes other || is_among w.leaves other)) ≡ true → IsPassed chain 0 a.leaf.low other ⊎ (page ≡ other)
        on None way e came = absurd (cc (e))
        on (Some s) way e came = at s way (page_of s e) came

  -- ---- a walk that is at a right page

  module _ (tree : ℕ) (is : IsTree tree) (p : Spot) (linked : IsLeafLink (st.book.chain tree) p) where
    -- a walk that is there
    abbrev pub there : Walk
    there = record { tree = tree; key = Some p.low; fresh = true; spot = Some (record p { level = 0 }); nodes = []; leaves = []; turned = false; used = None }

    pub there_known : KnowsWalk st there
    there_known = record {
      tree = is;
      stands = record {
        at = record { linked = linked; from = not_itself p.low };
        nodes_behind = λ page came. absurd (true≢false (sym came));
        leaves_behind = λ page came. absurd (true≢false (sym came));
      };
      used = tt;
    }

  -- ---- a turn

  -- by where its get leads a walk that has the same object in hand
  module _ (May : Trouble → Type 0) (m : Scan × Cache) (k : KnowsScanning st m.0 m.1) (a : Answer) (may : MayAnswer st (scan_object m.0) (got_of a))
      (walks : (w : Walk) → KnowsWalking st w m.1 → scan_object m.0 ≡ object_of w → WalkLeads st May (walk_next (w, m.1) a)) where
    abbrev chain_of : ℕ → List Link
    chain_of = st.book.chain m.0.walk.tree

    walked : m.0.spot ≡ None → WalkLeads st May (walk_next (m.0.walk, m.1) a)
    walked none = walks m.0.walk (record { walk = k.scan.walk; cache = k.cache }) (ap (scan_object_at m.0) none)

    none_passed : m.0.spot ≡ None → m.0.passed ≡ []
    none_passed none = subst (StandsRight chain_of m.0) none k.scan.right

    with_walk : (w : Walk) (c : Cache) → m.0.spot ≡ None → KnowsWalking st w c → KnowsScanning st (record m.0 { walk = w }) c
    with_walk w c none known = record {
      scan = record { walk = known.walk; right = subst (StandsRight (st.book.chain w.tree) (record m.0 { walk = w })) (sym none) (none_passed none) };
      cache = known.cache;
    }

    first_came : (w : Walk) (c : Cache) (page : ℕ) → m.0.spot ≡ None → KnowsWalk st w → (x : IsAtSeenLeaf st w c page) → (other : ℕ)
        → scan_came_to (record m.0 { walk = w }) other ≡ true → IsPassed (st.book.chain w.tree) 0 x.leaf.low other ⊎ (page ≡ other)
    first_came w c page none known x other there =
        on (or_cases (came_to w other) (is_among m.0.passed other)
        (subst (λ (o : Option Spot). (is_page other o || (came_to w other || is_among m.0.passed other)) ≡ true) none there))
      where
        on : (came_to w other ≡ true) ⊎ (is_among m.0.passed other ≡ true) → IsPassed (st.book.chain w.tree) 0 x.leaf.low other ⊎ (page ≡ other)
        on (inl came) = walk_came w c page known x other came
        on (inr never) = absurd (none_among m.0.passed other (none_passed none) never)

    first_ends : (w : Walk) (c : Cache) (page : ℕ) (l : Leaf) → m.0.spot ≡ None → KnowsWalking st w c → IsAtSeenLeaf st w c page
        → leaf_at c (object_of w) ≡ Some l → IsAtEnd st (record m.0 { walk = w }) c l page
    first_ends w c page l none known x kept =
        let both : Some x.leaf ≡ Some l = sym x.kept ∙ (sym (ap (leaf_at c) x.in_hand) ∙ kept) in
        let same : x.leaf ≡ l = cc (both) in
        subst (λ (leaf : Leaf). IsAtEnd st (record m.0 { walk = w }) c leaf page) same
        (record {
          known = with_walk w c none known;
          in_hand = ap (scan_object_at (record m.0 { walk = w })) none ∙ x.in_hand;
          kept = x.kept;
          linked = x.linked;
          seen = x.seen;
          came = first_came w c page none known.walk x;
        })

    -- ---- at a right page

    module _ (spot : Spot) (in_hand : m.0.spot ≡ Some spot) where
      right : IsOnRight chain_of m.0 spot
      right = subst (StandsRight chain_of m.0) in_hand k.scan.right

      object_is : scan_object m.0 ≡ object.Page m.0.walk.tree spot.page
      object_is = ap (scan_object_at m.0) in_hand

      -- a walk that is there
      abbrev at : Walk
      at = there m.0.walk.tree k.scan.walk.tree spot right.linked

      at_right : WalkLeads st May (walk_next (at, m.1) a)
      at_right = walks at (record { walk = there_known m.0.walk.tree k.scan.walk.tree spot right.linked; cache = k.cache }) object_is

      -- the scan that got the page
      abbrev gone : Scan
      gone = record m.0 { passed = m.0.passed ++ spot.page ∷ [] }

      right_behind : (page : ℕ) → (came_to m.0.walk page || is_among gone.passed page) ≡ true → IsPageBehind chain_of spot page ⊎ (spot.page ≡ page)
      right_behind page came = on (or_cases (came_to m.0.walk page) (is_among gone.passed page) came)
        where
          more : (is_among m.0.passed page ≡ true) ⊎ (spot.page ≡ page) → IsPageBehind chain_of spot page ⊎ (spot.page ≡ page)
          more (inl old) = right.behind page (or_right (came_to m.0.walk page) (is_among m.0.passed page) old)
          more (inr same) = inr same

          on : (came_to m.0.walk page ≡ true) ⊎ (is_among gone.passed page ≡ true) → IsPageBehind chain_of spot page ⊎ (spot.page ≡ page)
          on (inl walk) = right.behind page (or_left (came_to m.0.walk page) (is_among m.0.passed page) walk)
          on (inr passed) = more (among_more m.0.passed spot.page page passed)

      right_came : (page : ℕ) → scan_came_to gone page ≡ true → IsPageBehind chain_of spot page ⊎ (spot.page ≡ page)
      right_came page came = on (or_cases (is_page page m.0.spot) (came_to m.0.walk page || is_among gone.passed page) came)
        where
          on : (is_page page m.0.spot ≡ true) ⊎ ((came_to m.0.walk page || is_among gone.passed page) ≡ true) → IsPageBehind chain_of spot page ⊎ (spot.page ≡ page)
          on (inl same) = inr (eqb-true spot.page page (sym (ap (is_page page) in_hand) ∙ same))
          on (inr before) = right_behind page before

    -- the leaf that was got there landed, and begins as promised
    read_known : (spot : Spot) (c : Cache) (l : Leaf) → IsRead m a spot c l
        → KnowsCache st c × (leaf_at c (object.Page m.0.walk.tree spot.page) ≡ Some l)
        × IsSeenLeaf (st.tally.nodes m.0.walk.tree spot.page) spot.page l × (l.low ≡ spot.low)
    read_known spot c l read =
        let serves = served_by st (scan_object m.0) a read.got read.answered may in
        let cache = cache_accepts st m.1 (scan_object m.0) true read.got read.version c k.cache serves read.accepted in
        let kept = ap (leaf_at c) (sym (object_is spot read.in_hand)) ∙ read.kept in
        let seen = seen_leaf st c m.0.walk.tree spot.page l cache kept in
        (cache, kept, seen, seen_low st h m.0.walk.tree k.scan.walk.tree spot l (right spot read.in_hand).linked seen)

    -- ---- every turn

    reached : (s : Scan) (c : Cache) (l : Leaf) (page : ℕ) → Reaches m a s c l page → IsAtEnd st s c l page
    reached _ _ _ _ (step.first w page l none ends kept) =
        let leads = subst (WalkLeads st May) ends (walked none) in
        first_ends w.0 w.1 page l none leads.0 leads.1 kept
    reached _ _ _ _ (step.right spot c l read same) =
        let (cache, kept, seen, low_is) = read_known spot c l read in
        let on = right spot read.in_hand in
        record {
          known = record {
            scan = record {
              walk = k.scan.walk;
              right = subst (StandsRight chain_of (gone spot read.in_hand)) (sym read.in_hand)
                  (record { linked = on.linked; behind = right_behind spot read.in_hand });
            };
            cache = cache;
          };
          in_hand = object_is spot read.in_hand;
          kept = kept;
          linked = subst (λ (low : List ℕ). IsIn (chain_of 0) (record { low = low; page = spot.page })) (sym low_is) on.linked;
          seen = seen;
          came = λ page came. subst (λ (low : List ℕ). IsPassed chain_of 0 low page ⊎ (spot.page ≡ page)) (sym low_is) (right_came spot read.in_hand page came);
        }

    stopped : (n : Scan × Cache) (t : Trouble) → StopsFor m a n t → KnowsCache st n.1 × May t
    stopped _ _ (step.walk_stops w t none e) = let leads = subst (WalkLeads st May) e (walked none) in (leads.0.cache, leads.1)
    stopped _ _ (step.no_leaf w page none e lost) =
        let leads = subst (WalkLeads st May) e (walked none) in
        let kept = ap (leaf_at w.1) leads.1.in_hand ∙ leads.1.kept in
        absurd (cc (lost, kept))
    stopped _ _ (step.fails spot t in_hand e) = (k.cache, (subst (WalkLeads st May) (walk_fails (at spot in_hand) m.1 a t e) (at_right spot in_hand)).1)
    stopped _ _ (step.refuses spot got t in_hand answered e) =
        let refused = subst (λ (name : ObjName). accepts m.1 name true got ≡ Err t) (object_is spot in_hand) e in
        (k.cache, (subst (WalkLeads st May) (walk_refuses (at spot in_hand) m.1 a got t answered refused) (at_right spot in_hand)).1)
    stopped _ _ (step.breaks spot c l read differs) = let same = same_low l.low spot.low (read_known spot c l read).3 in absurd (cc (same, differs))
    stopped _ _ (step.loops s n c l page t at loop) = absurd (loops_never st h s c l page (reached s c l page at) n t loop)

    came : (next : Next (Scan × Cache) ℕ) → Comes m a next → ScanLeads st May next
    came (Goes n) o =
        subst (λ (s : Scan). KnowsScanning st s n.1) (sym o.is) (with_walk n.0.walk n.1 o.none (subst (WalkLeads st May) o.walk (walked o.none)))
    came (Ends n page) o = leaves_known st h o.at n.1 o.leaf o.at_page (reached o.at n.1 o.leaf o.at_page o.reached) n.0 page o.leaves
    came (Stops n t) o = stopped n t o

    pub scan_leads : ScanLeads st May (scan_next m a)
    scan_leads = came (scan_next m a) (comes m a)

  -- by what its get may have answered
  pub scan_turns : (m : Scan × Cache) → KnowsScanning st m.0 m.1 → (a : Answer) → MayAnswer st (scan_object m.0) (got_of a)
      → ScanLeads st MayStopWalk (scan_next m a)
  scan_turns m k a may =
      scan_leads MayStopWalk m k a may (λ w known same. walk_turns st h w m.1 known a (subst (λ (name : ObjName). MayAnswer st name (got_of a)) same may))
