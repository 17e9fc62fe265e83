-- Where an object leads that a walk has in hand, by any version of it that landed: on to a page that the walk did not come to before, or to its end.
use Rattle.std.proofs.Common.{◌≡◌, ◌≢◌, ◌-◌, ◌==◌, ◌||◌, ◌⊎◌, inl, inr, ℕ, suc, Bool, true, false, cond, not, List, [], ◌∷◌, ◌++◌, Option, Some, None, unwrap_or, refl, sym, ap, subst, ◌∙◌, true≢false, arith}
use Rattle.std.specs.Prelude.{slice_get}
use Rattle.std.proofs.lemmas.Bool.{or_cases, and_from, eqb-true, eqb-false, eq-eqb}
use Rattle.byte_format.specs.Order.{bytes_below, bytes_same, below_bound}
use Rattle.byte_format.proofs.OrderLemmas.{same_itself}
use Rattle.cloud_facts.specs.Decoding.Kinds.{IsNode}
use Rattle.cloud_facts.specs.Chains.Chain.{IsVersionOf, ChainHolds}
use Rattle.cloud_facts.specs.Chains.Links.{first_link, IsOfLevel}
use Rattle.cloud_facts.specs.Meanings.Meets.{IsAt, IsPassed}
use Rattle.cloud_facts.proofs.Meanings.Stale.{stale_down, stale_root, absent_root}
use Rattle.cloud_facts.proofs.Meanings.Steps.{from_root, from_none, goes_down, goes_right, not_passed, passed_right, passed_down, left_right, left_down}
use Rattle.cloud_facts.specs.Words.{IsTree, Trouble, Leaf, Inner, Tree, Link, Store, Node, Leafy, Branch, IsIn}
use Rattle.db_base.specs.declared.names.ObjName.TheVariants as object
use Rattle.leaf_view.specs.Lookup.{page_at}
use Rattle.node_codec.specs.Node.{Entry, child_of}
use Rattle.node_codec.specs.Node.{page_at as node_at}
use Rattle.node_codec.proofs.SpellingLaws.{inner_only}
use Rattle.page_cache.specs.Cache.{Cache, kept_at}
use Rattle.page_cache.specs.Held.{leaf_at, inner_at, as_inner}
use Rattle.cloud_facts.specs.Book.Premises.{IsLeafAtMost}
use Rattle.cloud_facts.specs.Book.Tally.{high_of}
use Rattle.cloud_facts.specs.Book.Tally.{right_of as node_right}
use Rattle.replay_meaning.specs.Index.{IsRightOf}
use Rattle.tree_walk.specs.Causes.{below, aside, node_link, node_link_by, HasLow}
use Rattle.tree_walk.specs.Walk.{Spot, Walk, sought, object_at, object_of, is_among, is_page, came_to, use_of, entry_for, right_of}
use Rattle.tree_walk.proofs.Outcomes.{Passes, by_root, by_node, by_leaf, Halts, loops, breaks, Links, links, Arrives, arrives, Way}
use Rattle.tree_walk.proofs.Outcomes as step
use Rattle.tree_walk.proofs.Turns.{entry_is}
use Rattle.session_facts.specs.Machines.Walks.Caches.{KnowsCache, IsSeenRoot, IsSeenLeaf}
use Rattle.session_facts.specs.Machines.Walks.Knows.{AreBehind, IsOnWay, WalkStandsAt, WasUsed, KnowsWalk, IsAtSeenLeaf}
use Rattle.session_facts.proofs.Machines.Walks.Caches.{kept_known, seen_root, seen_leaf}
use Rattle.session_facts.proofs.Machines.Scans.Rights.{none_among, among_more, right_page}

-- ---- fences

-- a turn to the right is to the page behind the high key, which is not above the key
turned : (key : List ℕ) (high : Option (List ℕ)) (page : Option ℕ) (next : ℕ × List ℕ) → right_of key high page ≡ Some next
    → (high ≡ Some next.1) × (unwrap_or page 1 ≡ next.0) × (bytes_below key next.1 ≡ false)
turned key None page next e = absurd (cc (e))
turned key (Some high) page next e = on (bytes_below key high) refl e
  where
    on : (b : Bool) → bytes_below key high ≡ b → cond {A = Option (ℕ × List ℕ)} b None (Some (unwrap_or page 1, high)) ≡ Some next
        → (Some high ≡ Some next.1) × (unwrap_or page 1 ≡ next.0) × (bytes_below key next.1 ≡ false)
    on true is f = absurd (cc (f))
    on false is f =
        let same : (unwrap_or page 1, high) ≡ next = cc (f) in
        (ap (λ (x : ℕ × List ℕ). Some x.1) same, ap (λ (x : ℕ × List ℕ). x.0) same, ap (λ (x : ℕ × List ℕ). bytes_below key x.1) (sym same) ∙ is)

-- where there is no turn the key is below the high key
not_turned : (key : List ℕ) (high : Option (List ℕ)) (page : Option ℕ) → right_of key high page ≡ None → below_bound key high ≡ true
not_turned key None page e = refl
not_turned key (Some high) page e = on (bytes_below key high) e
  where
    on : (b : Bool) → cond {A = Option (ℕ × List ℕ)} b None (Some (unwrap_or page 1, high)) ≡ None → b ≡ true
    on true f = refl
    on false f = absurd (cc (f))

-- a right page by its number
node_page : (n : ℕ) → n ≢ 0 → unwrap_or (node_at n) 1 ≡ n
node_page n some = on (n == 0) refl
  where
    on : (b : Bool) → (n == 0) ≡ b → unwrap_or (cond b None (Some n)) 1 ≡ n
    on true e = absurd (some (eqb-true n 0 e))
    on false e = refl

-- a node of level 0 is a leaf, and one of a level above an inner node
pub leaf_of_level : (level : ℕ) (node : Node) → level ≡ 0 → IsOfLevel level node → (l : Leaf) × (node ≡ Leafy l)
leaf_of_level level (Leafy l) bottom is = (l, refl)
leaf_of_level level (Branch n) bottom is = let above = is.1 in absurd (omega (arith, bottom, above))

pub inner_of_level : (level : ℕ) (node : Node) → level ≢ 0 → IsOfLevel level node → (n : Inner) × (node ≡ Branch n)
inner_of_level level (Leafy l) above is = absurd (above is)
inner_of_level level (Branch n) above is = (n, refl)

-- ---- links

-- a page that a walk is led to is on its way, and the page in hand is behind it
record IsOnto (st : Store) (w : Walk) (s : Spot) : Type 0 where
  pub tree : IsTree w.tree
  pub used : WasUsed st.book w.tree (sought w) w.used
  pub way : IsOnWay (st.book.chain w.tree) (sought w) w.nodes w.leaves s
  pub before : is_page s.page w.spot ≡ true → IsPassed (st.book.chain w.tree) s.level s.low s.page

-- a low key is the one that the link promised
pub same_low : (found low : List ℕ) → found ≡ low → bytes_same found low ≡ true
same_low found low e = ap (bytes_same found) (sym e) ∙ same_itself found

module _ (st : Store) (h : ChainHolds st) where
  -- a walk is at no page that is behind it
  not_behind : (tree : ℕ) → IsTree tree → (level page : ℕ) (low key : List ℕ) → IsAt (st.book.chain tree) level page low key → IsPassed (st.book.chain tree) level low page → ⊥
  not_behind tree is level page low key at p =
      not_passed (st.book.chain tree) (st.tally.nodes tree) (st.tally.roots tree) (st.tally.done tree) (st.tally.cursor tree 0) (h tree is) level page low key at p

  -- so it did not come before to a page that it is led to
  never_came : (w : Walk) (s : Spot) → IsOnto st w s → came_to w s.page ≡ true → ⊥
  never_came w s to e = came (or_cases (is_page s.page w.spot) (is_among w.nodes s.page || is_among w.leaves s.page) e)
    where
      never : IsPassed (st.book.chain w.tree) s.level s.low s.page → ⊥
      never p = not_behind w.tree to.tree s.level s.page s.low (sought w) to.way.at p

      passed : (is_among w.nodes s.page ≡ true) ⊎ (is_among w.leaves s.page ≡ true) → ⊥
      passed (inl there) = never (to.way.nodes_behind s.page there)
      passed (inr there) = never (to.way.leaves_behind s.page there)

      came : (is_page s.page w.spot ≡ true) ⊎ ((is_among w.nodes s.page || is_among w.leaves s.page) ≡ true) → ⊥
      came (inl there) = never (to.before there)
      came (inr there) = passed (or_cases (is_among w.nodes s.page) (is_among w.leaves s.page) there)

  -- ---- from the tree object

  -- a root that is seen has an entry for the key, which names a link of the level below
  root_meets : (tree : ℕ) → IsTree tree → (root : Tree) (key : List ℕ) → IsSeenRoot (st.tally.roots tree) root
      → (e : Entry) × (child_of key root.entries ≡ Some e) × IsAt (st.book.chain tree) (root.level - 1) e.1 e.0 key
  root_meets tree is root key (inl none) =
      let m = absent_root (st.book.chain tree) (st.tally.nodes tree) (st.tally.roots tree) (st.tally.done tree) (st.tally.cursor tree 0) (h tree is) key in
      subst (λ (r : Tree). (e : Entry) × (child_of key r.entries ≡ Some e) × IsAt (st.book.chain tree) (r.level - 1) e.1 e.0 key) (sym none)
      (m.entry, m.found, from_none (st.book.chain tree) (st.tally.nodes tree) (st.tally.roots tree) (st.tally.done tree) (st.tally.cursor tree 0) (h tree is) key m.entry m.found)
  root_meets tree is root key (inr landed) =
      let m = stale_root (st.book.chain tree) (st.tally.nodes tree) (st.tally.roots tree) (st.tally.done tree) (st.tally.cursor tree 0) (h tree is) root key landed in
      let level = m.level_is in
      let below : root.level - 1 ≡ m.below = omega (arith, level) in (
        m.entry,
        m.found,
        subst (λ (l : ℕ). IsAt (st.book.chain tree) l m.entry.1 m.entry.0 key) (sym below)
            (from_root (st.book.chain tree) (st.tally.nodes tree) (st.tally.roots tree) (st.tally.done tree) (st.tally.cursor tree 0) (h tree is) root key m.below m.entry landed level m.found),
      )

  root_onto : (w : Walk) → KnowsWalk st w → w.spot ≡ None → (root : Tree) → IsSeenRoot (st.tally.roots w.tree) root
      → IsOnto st (use_of w) (below root.level (entry_for (sought w) root.entries))
  root_onto w k none root seen =
      subst (λ (x : Entry). IsOnto st (use_of w) (below root.level x)) (sym (entry_is (sought w) root.entries m.0 m.1))
      (record {
        tree = k.tree;
        used = subst (λ (o : Option Spot). WasUsed st.book w.tree (sought w) (Some (object_at w.tree o))) (sym none) refl;
        way = record {
          at = m.2;
          nodes_behind = λ p there. absurd (none_among w.nodes p empty.0 there);
          leaves_behind = λ p there. absurd (none_among w.leaves p empty.1 there);
        };
        before = λ there. absurd (true≢false (sym there ∙ ap (is_page m.0.1) none));
      })
    where
      m : (e : Entry) × (child_of (sought w) root.entries ≡ Some e) × IsAt (st.book.chain w.tree) (root.level - 1) e.1 e.0 (sought w)
      m = root_meets w.tree k.tree root (sought w) seen

      empty : (w.nodes ≡ []) × (w.leaves ≡ [])
      empty = subst (WalkStandsAt (st.book.chain w.tree) (sought w) w.nodes w.leaves) none k.stands

  -- ---- from a page

  module _ (w : Walk) (s : Spot) (in_hand : w.spot ≡ Some s) (k : KnowsWalk st w) where
    abbrev chain : ℕ → List Link
    chain = st.book.chain w.tree

    abbrev link : Link
    link = record { low = s.low; page = s.page }

    way : IsOnWay chain (sought w) w.nodes w.leaves s
    way = subst (WalkStandsAt chain (sought w) w.nodes w.leaves) in_hand k.stands

    pub version : (node : Node) → IsIn (st.tally.nodes w.tree s.page) node → IsVersionOf (chain s.level) s.level link node
    version node landed = (h w.tree k.tree).versions s.level link node way.at.linked landed

    -- page 1 is the first leaf
    first : s.page ≡ 1 → (s.level ≡ 0) × (s.low ≡ [])
    first e =
        (h w.tree k.tree).levels.once s.level 0 link first_link way.at.linked
        (0, ap (λ (ls : List Link). slice_get ls 0) (h w.tree k.tree).levels.leaves.1) e

    -- ---- what is behind further on

    right_behind : (high : List ℕ) → bytes_below s.low high ≡ true → (pages : List ℕ) → AreBehind chain s pages → (p : ℕ) → is_among pages p ≡ true
        → IsPassed chain s.level high p
    right_behind high beyond pages old p there = passed_right chain s.level s.low high p beyond (old p there)

    left_behind : (high : List ℕ) → bytes_below s.low high ≡ true → (p : ℕ) → s.page ≡ p → IsPassed chain s.level high p
    left_behind high beyond p same = subst (IsPassed chain s.level high) same (left_right chain s.level s.page s.low high (sought w) way.at beyond)

    right_more : (high : List ℕ) → bytes_below s.low high ≡ true → (pages : List ℕ) → AreBehind chain s pages → (p : ℕ) → is_among (pages ++ s.page ∷ []) p ≡ true
        → IsPassed chain s.level high p
    right_more high beyond pages old p there = on (among_more pages s.page p there)
      where
        on : (is_among pages p ≡ true) ⊎ (s.page ≡ p) → IsPassed chain s.level high p
        on (inl before) = right_behind high beyond pages old p before
        on (inr same) = left_behind high beyond p same

    -- ---- to the right

    turns : (node : Node) (page : Option ℕ) (next : ℕ × List ℕ) → IsIn (st.tally.nodes w.tree s.page) node → (node_right node ≢ 0 → unwrap_or page 1 ≡ node_right node)
        → right_of (sought w) (high_of node) page ≡ Some next → IsAt chain s.level next.0 next.1 (sought w) × (bytes_below s.low next.1 ≡ true)
    turns node page next landed named e = (subst (λ (p : ℕ). IsAt chain s.level p next.1 (sought w)) page_is goes.0, goes.1)
      where
        t : (high_of node ≡ Some next.1) × (unwrap_or page 1 ≡ next.0) × (bytes_below (sought w) next.1 ≡ false)
        t = turned (sought w) (high_of node) page next e

        some : node_right node ≢ 0
        some none = let clash : None ≡ Some next.1 = sym ((version node landed).last none) ∙ t.0 in absurd (cc (clash))

        page_is : node_right node ≡ next.0
        page_is = sym (named some) ∙ t.1

        goes : IsAt chain s.level (node_right node) next.1 (sought w) × (bytes_below s.low next.1 ≡ true)
        goes =
            goes_right chain (st.tally.nodes w.tree) (st.tally.roots w.tree) (st.tally.done w.tree) (st.tally.cursor w.tree 0) (h w.tree k.tree)
            s.level s.page s.low next.1 (sought w) node way.at landed t.0 (subst (IsRightOf (sought w)) (sym t.0) (ap not t.2))

    page_here : (p : ℕ) → is_page p w.spot ≡ true → s.page ≡ p
    page_here p there = eqb-true s.page p (sym (ap (is_page p) in_hand) ∙ there)

    -- ---- from an inner node

    module _ (n : Inner) (landed : IsIn (st.tally.nodes w.tree s.page) (Branch n)) (turned : Bool) where
      abbrev behind_node : Walk
      behind_node = record w { nodes = w.nodes ++ s.page ∷ []; turned = turned }

      node_right_onto : (next : ℕ × List ℕ) → right_of (sought w) n.high (node_at n.right) ≡ Some next → IsOnto st behind_node (aside s.level next)
      node_right_onto next e = record {
        tree = k.tree;
        used = k.used;
        way = record {
          at = goes.0;
          nodes_behind = right_more next.1 goes.1 w.nodes way.nodes_behind;
          leaves_behind = right_behind next.1 goes.1 w.leaves way.leaves_behind;
        };
        before = λ there. left_behind next.1 goes.1 next.0 (page_here next.0 there);
      }
        where
          goes : IsAt chain s.level next.0 next.1 (sought w) × (bytes_below s.low next.1 ≡ true)
          goes = turns (Branch n) (node_at n.right) next landed (node_page n.right) e

      node_down_onto : IsOnto st behind_node (below s.level (entry_for (sought w) n.entries))
      node_down_onto =
          subst (λ (x : Entry). IsOnto st behind_node (below s.level x)) (sym (entry_is (sought w) n.entries m.0 m.1))
          (record {
            tree = k.tree;
            used = k.used;
            way = record { at = at; nodes_behind = nodes_behind; leaves_behind = λ p there. down p (way.leaves_behind p there) };
            before = λ there. here_behind m.0.1 (page_here m.0.1 there);
          })
        where
          m : (e : Entry) × (child_of (sought w) n.entries ≡ Some e)
          m =
              let d =
              stale_down chain (st.tally.nodes w.tree) (st.tally.roots w.tree) (st.tally.done w.tree) (st.tally.cursor w.tree 0) (h w.tree k.tree)
              s.level link n (sought w) way.at.linked landed way.at.from in
              (d.entry, d.found)

          height : s.level ≡ suc (s.level - 1)
          height = let some = (version (Branch n) landed).level_is.1 in omega (arith, some)

          above : IsAt chain (suc (s.level - 1)) s.page s.low (sought w)
          above = subst (λ (l : ℕ). IsAt chain l s.page s.low (sought w)) height way.at

          at : IsAt chain (s.level - 1) m.0.1 m.0.0 (sought w)
          at =
              goes_down chain (st.tally.nodes w.tree) (st.tally.roots w.tree) (st.tally.done w.tree) (st.tally.cursor w.tree 0) (h w.tree k.tree)
              (s.level - 1) s.page s.low (sought w) n m.0 above landed m.1

          down : (p : ℕ) → IsPassed chain s.level s.low p → IsPassed chain (s.level - 1) m.0.0 p
          down p old = passed_down chain (s.level - 1) s.low m.0.0 p (subst (λ (l : ℕ). IsPassed chain l s.low p) height old)

          here_behind : (p : ℕ) → s.page ≡ p → IsPassed chain (s.level - 1) m.0.0 p
          here_behind p same = subst (IsPassed chain (s.level - 1) m.0.0) same (left_down chain (s.level - 1) s.page s.low m.0.0 (sought w) above)

          nodes_behind : (p : ℕ) → is_among (w.nodes ++ s.page ∷ []) p ≡ true → IsPassed chain (s.level - 1) m.0.0 p
          nodes_behind p there = on (among_more w.nodes s.page p there)
            where
              on : (is_among w.nodes p ≡ true) ⊎ (s.page ≡ p) → IsPassed chain (s.level - 1) m.0.0 p
              on (inl old) = down p (way.nodes_behind p old)
              on (inr same) = here_behind p same

      node_onto : IsOnto st behind_node (node_link (sought w) n)
      node_onto = on (right_of (sought w) n.high (node_at n.right)) refl
        where
          level : s.level ≡ n.level
          level = sym (version (Branch n) landed).level_is.0

          on : (o : Option (ℕ × List ℕ)) → right_of (sought w) n.high (node_at n.right) ≡ o → IsOnto st behind_node (node_link_by (sought w) n o)
          on None e = subst (λ (l : ℕ). IsOnto st behind_node (below l (entry_for (sought w) n.entries))) level node_down_onto
          on (Some next) e = subst (λ (l : ℕ). IsOnto st behind_node (aside l next)) level (node_right_onto next e)

    -- ---- from a leaf

    module _ (bottom : s.level ≡ 0) (l : Leaf) (seen : IsSeenLeaf (st.tally.nodes w.tree s.page) s.page l) where
      low_is : l.low ≡ s.low
      low_is = on seen
        where
          on : IsSeenLeaf (st.tally.nodes w.tree s.page) s.page l → l.low ≡ s.low
          on (inl (page, none)) = ap (λ (x : Leaf). x.low) none ∙ sym (first page).1
          on (inr landed) = (version (Leafy l) landed).low

      linked_here : IsIn (chain 0) link
      linked_here = subst (λ (level : ℕ). IsIn (chain level) link) bottom way.at.linked

      at_most : IsLeafAtMost st.book w.tree s.page (sought w)
      at_most = record { link = link; linked = linked_here; page_is = refl; low = way.at.from }

      used_here : WasUsed st.book w.tree (sought w) (Some (object_of w))
      used_here = subst (λ (o : Option Spot). WasUsed st.book w.tree (sought w) (Some (object_at w.tree o))) (sym in_hand) (refl, at_most)

      abbrev behind_leaf : Walk
      behind_leaf = record (use_of w) { leaves = w.leaves ++ s.page ∷ []; turned = true }

      leaf_onto : (next : ℕ × List ℕ) → right_of (sought w) l.high (page_at l.right) ≡ Some next → IsOnto st behind_leaf (aside 0 next)
      leaf_onto next e =
          subst (λ (level : ℕ). IsOnto st behind_leaf (aside level next)) bottom
          (record {
            tree = k.tree;
            used = used_here;
            way = record {
              at = goes.0;
              nodes_behind = right_behind next.1 goes.1 w.nodes way.nodes_behind;
              leaves_behind = right_more next.1 goes.1 w.leaves way.leaves_behind;
            };
            before = λ there. left_behind next.1 goes.1 next.0 (page_here next.0 there);
          })
        where
          on : IsSeenLeaf (st.tally.nodes w.tree s.page) s.page l → IsAt chain s.level next.0 next.1 (sought w) × (bytes_below s.low next.1 ≡ true)
          on (inl (page, none)) =
              let t = turned (sought w) l.high (page_at l.right) next e in
              let clash : None ≡ Some next.1 = sym (ap (λ (x : Leaf). x.high) none) ∙ t.0 in
              absurd (cc (clash))
          on (inr landed) = turns (Leafy l) (page_at l.right) next landed (right_page l.right) e

          goes : IsAt chain s.level next.0 next.1 (sought w) × (bytes_below s.low next.1 ≡ true)
          goes = on seen

      leaf_ends : (c : Cache) → leaf_at c (object.Page w.tree s.page) ≡ Some l → right_of (sought w) l.high (page_at l.right) ≡ None
          → KnowsWalk st (use_of w) × IsAtSeenLeaf st (use_of w) c s.page × (is_among w.nodes s.page ≡ false)
      leaf_ends c kept e = (
        record { tree = k.tree; stands = k.stands; used = used_here },
        record {
          leaf = l;
          in_hand = ap (object_at w.tree) in_hand;
          kept = kept;
          linked = subst (λ (low : List ℕ). IsIn (chain 0) (record { low = low; page = s.page })) (sym low_is) linked_here;
          seen = seen;
          holds = and_from (not (bytes_below (sought w) l.low)) (below_bound (sought w) l.high) (ap not (ap (bytes_below (sought w)) low_is ∙ way.at.from))
              (not_turned (sought w) l.high (page_at l.right) e);
        },
        apart (is_among w.nodes s.page) refl,
      )
        where
          apart : (b : Bool) → is_among w.nodes s.page ≡ b → b ≡ false
          apart true there = absurd (not_behind w.tree k.tree s.level s.page s.low (sought w) way.at (way.nodes_behind s.page there))
          apart false there = refl

  -- ---- what a walk comes to beside a cache

  module _ (c : Cache) (cache : KnowsCache st c) where
    -- the inner node that it keeps of a page above the leaves
    seen_inner : (w : Walk) (s : Spot) → w.spot ≡ Some s → KnowsWalk st w → (s.level == 0) ≡ false → (n : Inner)
        → inner_at c (object.Page w.tree s.page) ≡ Some n → IsIn (st.tally.nodes w.tree s.page) (Branch n)
    seen_inner w s in_hand k above n e = on (kept_at c (object.Page w.tree s.page)) refl e
      where
        on : (o : Option (Option (List ℕ))) → kept_at c (object.Page w.tree s.page) ≡ o → as_inner o ≡ Some n → IsIn (st.tally.nodes w.tree s.page) (Branch n)
        on None is e = absurd (cc (e))
        on (Some None) is e = absurd (cc (e))
        on (Some (Some bytes)) is e =
            let (node, spelled, there) = kept_known st c (object.Page w.tree s.page) (Some bytes) cache is in
            let (inner, same) = inner_of_level s.level node (eqb-false s.level 0 above) (version w s in_hand k node there).level_is in
            let both : Some inner ≡ Some n = sym (inner_only bytes inner (subst (IsNode bytes) same spelled)) ∙ e in
            let one : inner ≡ n = cc (both) in
            subst (λ (x : Inner). IsIn (st.tally.nodes w.tree s.page) (Branch x)) one (subst (IsIn (st.tally.nodes w.tree s.page)) same there)

    module _ (w : Walk) (k : KnowsWalk st w) where
      -- the object in hand leads on
      onto : (v : Walk) (s : Spot) → Passes c w v s → IsOnto st v s
      onto _ _ (by_root t none kept) = root_onto w k none t (seen_root st c w.tree t cache kept)
      onto _ _ (by_node s n turned is) = node_onto w s is.in_hand k n (seen_inner w s is.in_hand k is.above n is.kept) turned
      onto _ _ (by_leaf s l next is right) =
          leaf_onto w s is.in_hand k (eqb-true s.level 0 is.bottom) l (seen_leaf st c w.tree s.page l cache is.kept) next right

      pub leads_on : (v : Walk) → Links c w v → KnowsWalk st v
      leads_on _ (links v s passes new) = let to = onto v s passes in record { tree = to.tree; stands = to.way; used = to.used }

      -- .. or the walk ends at it
      pub leads_to : (v : Walk) (page : ℕ) → Arrives c w v page → KnowsWalk st v × IsAtSeenLeaf st v c page × (is_among v.nodes page ≡ false)
      leads_to _ _ (arrives s l is right) =
          leaf_ends w s is.in_hand k (eqb-true s.level 0 is.bottom) l (seen_leaf st c w.tree s.page l cache is.kept) c is.kept right

      -- and it stops for nothing that the cache keeps
      has_low : (s : Spot) (found : List ℕ) → w.spot ≡ Some s → HasLow c w.tree s found → found ≡ s.low
      has_low s found in_hand (inl (l, bottom, kept, is)) = is ∙ low_is w s in_hand k (eqb-true s.level 0 bottom) l (seen_leaf st c w.tree s.page l cache kept)
      has_low s found in_hand (inr (n, above, kept, level, is)) = is ∙ (version w s in_hand k (Branch n) (seen_inner w s in_hand k above n kept)).low

      pub halts_never : (v : Walk) (t : Trouble) → Halts c w v t → ⊥
      halts_never _ _ (loops v s passes came) = never_came v s (onto v s passes) came
      halts_never _ _ (breaks s t in_hand (inl level)) =
          let landed = seen_inner w s in_hand k level.above level.node level.kept in
          let same = eq-eqb level.node.level s.level (version w s in_hand k (Branch level.node) landed).level_is.0 in
          let differs = level.differs in
          absurd (cc (same, differs))
      halts_never _ _ (breaks s t in_hand (inr fence)) =
          let same = same_low fence.found s.low (has_low s fence.found in_hand fence.has) in
          let differs = fence.differs in
          absurd (cc (same, differs))

    -- through all that the cache keeps on the way
    pub way_known : (w v : Walk) → Way c w v → KnowsWalk st w → KnowsWalk st v
    way_known _ _ (step.here w) k = k
    way_known _ _ (step.on w v u link way) k = way_known v u way (leads_on w k v link)
