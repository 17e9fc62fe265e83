-- A page in no chain lands, a root lands, and a root is raised: what is known of a tree holds after each.
use Rattle.std.proofs.Common.{◌≡◌, ◌≢◌, ◌+◌, ◌-◌, ◌<◌, ◌≤◌, ℕ, zero, suc, List, [], ◌∷◌, ◌++◌, length, Option, None, refl, sym, ap, subst, ◌∙◌, ◌⊎◌, inl, inr, arith}
use Rattle.std.specs.Prelude.{slice_get}
use Rattle.db_base.specs.Cursor.{number_of}
use Rattle.cloud_facts.specs.Words.{IsClient, Tree, Link, Node, Leafy, at, IsIn, StandsAt}
use Rattle.leaf_view.specs.Lookup.{empty_leaf}
use Rattle.node_codec.specs.Tree.{empty_tree}
use Rattle.cloud_facts.specs.Book.Tally.{low_of}
use Rattle.cloud_facts.specs.Book.Telling.{last_or}
use Rattle.cloud_facts.specs.Chains.Chain.{IsUnlinked, AreLevels, IsVersionOf, AreVersions, AreEntries, AreNewest, ArePages, IsCovered, AreCovered, IsChained}
use Rattle.cloud_facts.specs.Chains.Landing.{IsPiece, ArePieces, AreNew, first_or}
use Rattle.cloud_facts.specs.Chains.Links.{Ascends, first_link, newest_node, top_of, IsOfLevel, EndsBefore, NamesLinks, NamesBelow, NodeNames}
use Rattle.cloud_facts.proofs.Chains.Joining.{added, newest_other}
use Rattle.cloud_facts.proofs.Chains.Monotone.{Stay, names_stay, node_names_stay, version_stays, version_ends, ends_by, piece_in, covered_more}
use Rattle.cloud_facts.proofs.Chains.Names.{plus_one, at_same, at_either, last_added, in_single, in_added, added_none}
use Rattle.cloud_facts.proofs.Chains.Pieces.{none_in, in_both}

-- ---- a page in no chain

-- what must be known of it
pub record IsFresh (chain : ℕ → List Link) (nodes : ℕ → List Node) (next page : ℕ) (node : Node) : Type 0 where
  pub some : 1 ≤ page
  pub absent : nodes page ≡ []
  pub reserved : page < next
  pub unlinked : IsUnlinked chain page
  pub names : NodeNames chain node

pub page_keeps : (chain : ℕ → List Link) (nodes : ℕ → List Node) (roots : List Tree) (done : List ℕ → ℕ → ℕ → ℕ) (cursor : ℕ → ℕ) (page : ℕ) (node : Node)
    → IsChained chain nodes roots done cursor → IsFresh chain nodes (top_of roots).next page node → IsChained chain (added page node nodes) roots done cursor
page_keeps chain nodes roots done cursor page node c f = record {
  levels = c.levels;
  versions = λ l a n h k. version l a n h (in_added page node nodes a.page n k);
  entries = record {
    of_roots = c.entries.of_roots;
    of_nodes = λ p n k. named p n (in_added page node nodes p n k);
  };
  newest = record {
    ends = λ l place a h. ends_by _ _ _ _ (sym (newest_other nodes page node a.page (f.unlinked l a (place, h)))) refl (c.newest.ends l place a h);
    absent = λ l a h none. c.newest.absent l a h (added_none page node nodes a.page none);
  };
  pages = record {
    linked = c.pages.linked;
    landed = λ p some. at_either (λ (v : List Node). v ≢ [] → (1 ≤ p) × (p < (top_of roots).next)) page (nodes page ++ node ∷ []) nodes p
        (λ e ne. (subst (λ (n : ℕ). 1 ≤ n) (sym e) f.some, subst (λ (n : ℕ). n < (top_of roots).next) (sym e) f.reserved)) (λ ne k. c.pages.landed p k) some;
    unlinked = λ p out. at_either (λ (v : List Node). length v ≤ 1) page (nodes page ++ node ∷ []) nodes p
        (λ e. subst (λ (ns : List Node). length (ns ++ node ∷ []) ≤ 1) (sym f.absent) (omega arith)) (λ ne. c.pages.unlinked p out);
  };
  covered = record {
    leaves = λ a n h k. within a n h (in_added page node nodes a.page n k);
    cursors = c.covered.cursors;
  };
}
  where
    version : (l : ℕ) (a : Link) (n : Node) → IsIn (chain l) a → IsIn (nodes a.page) n ⊎ ((a.page ≡ page) × (node ≡ n)) → IsVersionOf (chain l) l a n
    version l a n h (inl k) = c.versions l a n h k
    version l a n h (inr p) = absurd (f.unlinked l a h p.0)

    named : (p : ℕ) (n : Node) → IsIn (nodes p) n ⊎ ((p ≡ page) × (node ≡ n)) → NodeNames chain n
    named p n (inl k) = c.entries.of_nodes p n k
    named p n (inr q) = subst (λ (x : Node). NodeNames chain x) q.1 f.names

    within : (a : Link) (n : Node) → IsIn (chain 0) a → IsIn (nodes a.page) n ⊎ ((a.page ≡ page) × (node ≡ n)) → IsCovered done n
    within a n h (inl k) = c.covered.leaves a n h k
    within a n h (inr p) = absurd (f.unlinked 0 a h p.0)

-- ---- what is done, and a cursor, that rise

pub chained_more : (chain : ℕ → List Link) (nodes : ℕ → List Node) (roots : List Tree) (done more : List ℕ → ℕ → ℕ → ℕ) (cursor further : ℕ → ℕ)
    → ((key : List ℕ) (page client : ℕ) → IsClient client → done key page client ≤ more key page client)
    → ((client : ℕ) → IsClient client → cursor client ≤ further client)
    → IsChained chain nodes roots done cursor → IsChained chain nodes roots more further
chained_more chain nodes roots done more cursor further done_rises cursor_rises c = record {
  levels = c.levels;
  versions = c.versions;
  entries = c.entries;
  newest = c.newest;
  pages = c.pages;
  covered = record {
    leaves = λ link node h k. covered_more done more done_rises node (c.covered.leaves link node h k);
    cursors = λ root h client is. omega (arith, c.covered.cursors root h client is, cursor_rises client is);
  };
}

-- ---- a root

pub top_added : (roots : List Tree) (root : Tree) → top_of (roots ++ root ∷ []) ≡ root
top_added roots root = last_added empty_tree roots root

pub pages_more : (chain : ℕ → List Link) (nodes : ℕ → List Node) (next more : ℕ) → next ≤ more → ArePages chain nodes next → ArePages chain nodes more
pages_more chain nodes next more h pg = record {
  linked = λ l a k. let old = pg.linked l a k in (old.0, omega (arith, old.1, h));
  landed = λ p k. let old = pg.landed p k in (old.0, omega (arith, old.1, h));
  unlinked = pg.unlinked;
}

-- what must be known of a root of the same level
pub record IsNextRoot (chain : ℕ → List Link) (roots : List Tree) (root : Tree) (cursor : ℕ → ℕ) : Type 0 where
  pub level : root.level ≡ (top_of roots).level
  pub next : (top_of roots).next ≤ root.next
  pub names : NamesBelow chain root.level [] root.entries
  pub rises : (client : ℕ) → IsClient client → cursor client ≤ number_of root.cursor client

pub root_keeps : (chain : ℕ → List Link) (nodes : ℕ → List Node) (roots : List Tree) (done : List ℕ → ℕ → ℕ → ℕ) (cursor : ℕ → ℕ) (root : Tree)
    → IsChained chain nodes roots done cursor → IsNextRoot chain roots root cursor
    → IsChained chain nodes (roots ++ root ∷ []) done (λ client. number_of root.cursor client)
root_keeps chain nodes roots done cursor root c r = record {
  levels = subst (λ (h : ℕ). AreLevels chain h) (sym r.level ∙ ap (λ (t : Tree). t.level) (sym (top_added roots root))) c.levels;
  versions = c.versions;
  entries = record { of_roots = λ t h. names t (in_both roots (root ∷ []) t h); of_nodes = c.entries.of_nodes };
  newest = c.newest;
  pages = subst (λ (n : ℕ). ArePages chain nodes n) (ap (λ (t : Tree). t.next) (sym (top_added roots root)))
      (pages_more chain nodes (top_of roots).next root.next r.next c.pages);
  covered = record { leaves = c.covered.leaves; cursors = λ t h client is. within t client is (in_both roots (root ∷ []) t h) };
}
  where
    names : (t : Tree) → IsIn roots t ⊎ IsIn (root ∷ []) t → NamesBelow chain t.level [] t.entries
    names t (inl h) = c.entries.of_roots t h
    names t (inr h) = subst (λ (x : Tree). NamesBelow chain x.level [] x.entries) (in_single root t h) r.names

    within : (t : Tree) (client : ℕ) → IsClient client → IsIn roots t ⊎ IsIn (root ∷ []) t → number_of t.cursor client ≤ number_of root.cursor client
    within t client is (inl h) = omega (arith, c.covered.cursors t h client is, r.rises client is)
    within t client is (inr h) =
        let same : number_of t.cursor client ≡ number_of root.cursor client = ap (λ (x : Tree). number_of x.cursor client) (sym (in_single root t h)) in
        omega (arith, same)

-- ---- a root that is raised

first_is : (pieces : List Link) → first_or None pieces ≡ slice_get pieces 0
first_is [] = refl
first_is (p ∷ pieces) = refl

-- of pieces up to the right end, the next link is the next piece
pieces_next : (nodes : ℕ → List Node) (level : ℕ) (pieces : List Link) → ArePieces nodes level pieces None → (i : ℕ) (a : Link) → StandsAt pieces i a
    → IsPiece nodes level a (slice_get pieces (suc i))
pieces_next nodes level [] are i a h = absurd (none_in a (i, h))
pieces_next nodes level (p ∷ pieces) are zero a h =
    let is : p ≡ a = cc in
    subst (λ (x : Link). IsPiece nodes level x (slice_get pieces 0)) is (subst (λ (o : Option Link). IsPiece nodes level p o) (first_is pieces) are.0)
pieces_next nodes level (p ∷ pieces) are (suc i) a h = pieces_next nodes level pieces are.1 i a h

-- what must be known of a root of the next level, over pieces of the one before
pub record IsRaised (chain : ℕ → List Link) (nodes : ℕ → List Node) (roots : List Tree) (root : Tree) (level : ℕ) (links : List Link)
    (cursor : ℕ → ℕ) : Type 0 where
  pub level_is : level ≡ (top_of roots).level
  pub height : root.level ≡ level + 1
  pub next : (top_of roots).next ≤ root.next
  pub names : NamesLinks links [] root.entries
  pub begins : (link : Link) × StandsAt links 0 link × (link.low ≡ [])
  pub ascends : Ascends links
  pub pieces_are : ArePieces nodes level links None
  pub new : AreNew chain links
  pub rises : (client : ℕ) → IsClient client → cursor client ≤ number_of root.cursor client

-- the level of the root that stands was empty
empty_level : (chain : ℕ → List Link) (height level : ℕ) → AreLevels chain height → level ≡ height → chain level ≡ []
empty_level chain height level lv e = lv.above level (omega (arith, e))

raised_stay : (chain : ℕ → List Link) (level : ℕ) (links : List Link) → chain level ≡ [] → Stay chain (at level links chain)
raised_stay chain level links none l a h =
    at_either (λ (ls : List Link). IsIn ls a) level links chain l
    (λ e. absurd (none_in a (subst (λ (ls : List Link). IsIn ls a) none (subst (λ (n : ℕ). IsIn (chain n) a) e h)))) (λ ne. h)

raised_cases : (chain : ℕ → List Link) (level : ℕ) (links : List Link) (l : ℕ) (a : Link) → IsIn (at level links chain l) a
    → IsIn (chain l) a ⊎ ((l ≡ level) × IsIn links a)
raised_cases chain level links l a h =
    at_either (λ (ls : List Link). IsIn ls a → IsIn (chain l) a ⊎ ((l ≡ level) × IsIn links a)) level links chain l (λ e k. inr (e, k)) (λ ne k. inl k) h

levels_raise : (chain : ℕ → List Link) (height level : ℕ) (links : List Link) → AreLevels chain height → level ≡ height
    → (link : Link) × StandsAt links 0 link × (link.low ≡ []) → Ascends links → AreNew chain links → AreLevels (at level links chain) (level + 1)
levels_raise chain height level links lv is begins ascends new = record {
  leaves = at_either (λ (ls : List Link). (rest : List Link) × (ls ≡ first_link ∷ rest)) level links chain 0 first (λ ne. lv.leaves);
  begins = λ l h. at_either (λ (ls : List Link). (link : Link) × StandsAt ls 0 link × (link.low ≡ [])) level links chain l
      (λ e. begins) (λ ne. lv.begins l (below l h ne));
  above = λ l h. at_either (λ (ls : List Link). ls ≡ []) level links chain l (λ e. absurd (omega (arith, e, h))) (λ ne. lv.above l (omega (arith, is, h)));
  ascends = λ l. at_either (λ (ls : List Link). Ascends ls) level links chain l (λ e. ascends) (λ ne. lv.ascends l);
  once = λ l m a b h k e. once l m a b e (raised_cases chain level links l a h) (raised_cases chain level links m b k);
}
  where
    first : 0 ≡ level → (rest : List Link) × (links ≡ first_link ∷ rest)
    first e =
        let some : chain 0 ≡ first_link ∷ lv.leaves.0 = lv.leaves.1 in
        let none : chain 0 ≡ [] = ap chain e ∙ empty_level chain height level lv is in
        absurd (cc)

    below : (l : ℕ) → l < level + 1 → l ≢ level → l < height
    below l h ne = omega (arith, is)

    once : (l m : ℕ) (a b : Link) → a.page ≡ b.page → IsIn (chain l) a ⊎ ((l ≡ level) × IsIn links a) → IsIn (chain m) b ⊎ ((m ≡ level) × IsIn links b)
        → (l ≡ m) × (a.low ≡ b.low)
    once l m a b e (inl h) (inl k) = lv.once l m a b h k e
    once l m a b e (inl h) (inr k) = absurd (new.unlinked b k.1 l a h e)
    once l m a b e (inr h) (inl k) = absurd (new.unlinked a h.1 m b k (sym e))
    once l m a b e (inr h) (inr k) = (h.0 ∙ sym k.0, new.distinct a b h.1 k.1 e)

newest_raise : (chain : ℕ → List Link) (nodes : ℕ → List Node) (level : ℕ) (links : List Link) → AreNewest chain nodes → ArePieces nodes level links None
    → AreNewest (at level links chain) nodes
newest_raise chain nodes level links nw are = record {
  ends = λ l place a h. at_either (λ (ls : List Link). StandsAt ls place a
      → EndsBefore (newest_node nodes a.page) (slice_get ls (place + 1))) level links chain l
      (λ e k. new place a (pieces_next nodes level links are place a k)) (λ ne k. nw.ends l place a k) h;
  absent = λ l a h none. absent l a none (raised_cases chain level links l a h);
}
  where
    new : (place : ℕ) (a : Link) → IsPiece nodes level a (slice_get links (suc place)) → EndsBefore (newest_node nodes a.page) (slice_get links (place + 1))
    new place a piece = ends_by _ _ _ _ (sym (ap (last_or (Leafy empty_leaf)) piece.landed)) (ap (slice_get links) (plus_one place)) piece.ends

    absent : (l : ℕ) (a : Link) → nodes a.page ≡ [] → IsIn (chain l) a ⊎ ((l ≡ level) × IsIn links a) → (l ≡ 0) × (a.page ≡ 1)
    absent l a none (inl h) = nw.absent l a h none
    absent l a none (inr q) =
        let piece = (piece_in nodes level links None are a q.1).1 in
        let some : nodes a.page ≡ piece.node ∷ [] = piece.landed in
        absurd (cc)

versions_raise : (chain : ℕ → List Link) (nodes : ℕ → List Node) (height level : ℕ) (links : List Link) → AreVersions chain nodes → chain level ≡ []
    → ArePieces nodes level links None
    → AreLevels (at level links chain) height → AreNewest (at level links chain) nodes → ((l : ℕ) (a : Link) → IsIn (at level links chain l) a → 1 ≤ a.page)
    → AreVersions (at level links chain) nodes
versions_raise chain nodes height level links vs none are after nw some l a n h k = on (raised_cases chain level links l a h)
  where
    on : IsIn (chain l) a ⊎ ((l ≡ level) × IsIn links a) → IsVersionOf (at level links chain l) l a n
    on (inl old) = version_stays (chain l) (at level links chain l) (raised_stay chain level links none l) l a n (vs l a n old k)
    on (inr q) =
        let piece = (piece_in nodes level links None are a q.1).1 in
        let is : piece.node ≡ n = in_single piece.node n (subst (λ (ns : List Node). IsIn ns n) piece.landed k) in
        let newest : newest_node nodes a.page ≡ n = ap (last_or (Leafy empty_leaf)) piece.landed ∙ is in
        let level_is : IsOfLevel l n = subst (λ (x : Node). IsOfLevel l x) is (subst (λ (m : ℕ). IsOfLevel m piece.node) (sym q.0) piece.level_is) in
        version_ends (at level links chain l) l h.0 a n (after.ascends l) (some l) h.1 level_is (ap low_of (sym is) ∙ piece.low)
        (ends_by _ _ _ _ newest refl (nw.ends l h.0 a h.1))

pages_raise : (chain : ℕ → List Link) (nodes : ℕ → List Node) (next level : ℕ) (links : List Link) → ArePages chain nodes next → chain level ≡ []
    → ArePieces nodes level links None
    → ArePages (at level links chain) nodes next
pages_raise chain nodes next level links pg none are = record {
  linked = λ l a h. on l a (raised_cases chain level links l a h);
  landed = pg.landed;
  unlinked = λ p out. pg.unlinked p (λ l a h. out l a (raised_stay chain level links none l a h));
}
  where
    on : (l : ℕ) (a : Link) → IsIn (chain l) a ⊎ ((l ≡ level) × IsIn links a) → (1 ≤ a.page) × (a.page < next)
    on l a (inl h) = pg.linked l a h
    on l a (inr q) =
        let piece = (piece_in nodes level links None are a q.1).1 in
        let there : nodes a.page ≡ piece.node ∷ [] = piece.landed in
        pg.landed a.page (λ empty. absurd (cc))

entries_raise : (chain : ℕ → List Link) (nodes : ℕ → List Node) (roots : List Tree) (root : Tree) (level : ℕ) (links : List Link)
    → AreEntries chain nodes roots → chain level ≡ []
    → root.level ≡ level + 1 → NamesLinks links [] root.entries → AreEntries (at level links chain) nodes (roots ++ root ∷ [])
entries_raise chain nodes roots root level links en none height names = record {
  of_roots = λ t h. on t (in_both roots (root ∷ []) t h);
  of_nodes = λ p n h. node_names_stay chain (at level links chain) (raised_stay chain level links none) n (en.of_nodes p n h);
}
  where
    new : NamesBelow (at level links chain) root.level [] root.entries
    new = record {
      height = omega (arith, height);
      links = subst (λ (ls : List Link). NamesLinks ls [] root.entries) (sym (at_same level links chain (root.level - 1) (omega (arith, height)))) names;
    }

    on : (t : Tree) → IsIn roots t ⊎ IsIn (root ∷ []) t → NamesBelow (at level links chain) t.level [] t.entries
    on t (inl h) = names_stay chain (at level links chain) (raised_stay chain level links none) t.level [] t.entries (en.of_roots t h)
    on t (inr h) = subst (λ (x : Tree). NamesBelow (at level links chain) x.level [] x.entries) (in_single root t h) new

covered_raise : (chain : ℕ → List Link) (nodes : ℕ → List Node) (roots : List Tree) (done : List ℕ → ℕ → ℕ → ℕ) (cursor : ℕ → ℕ) (root : Tree)
    (height level : ℕ) (links : List Link)
    → AreLevels chain height → AreCovered chain nodes roots done cursor → chain level ≡ []
    → ((client : ℕ) → IsClient client → cursor client ≤ number_of root.cursor client)
    → AreCovered (at level links chain) nodes (roots ++ root ∷ []) done (λ client. number_of root.cursor client)
covered_raise chain nodes roots done cursor root height level links lv cv none rises = record {
  leaves = λ a n h k. on a n k (raised_cases chain level links 0 a h);
  cursors = λ t h client is. within t client is (in_both roots (root ∷ []) t h);
}
  where
    on : (a : Link) (n : Node) → IsIn (nodes a.page) n → IsIn (chain 0) a ⊎ ((0 ≡ level) × IsIn links a) → IsCovered done n
    on a n k (inl h) = cv.leaves a n h k
    on a n k (inr q) =
        let some : chain 0 ≡ first_link ∷ lv.leaves.0 = lv.leaves.1 in
        let empty : chain 0 ≡ [] = ap chain q.0 ∙ none in
        absurd (cc)

    within : (t : Tree) (client : ℕ) → IsClient client → IsIn roots t ⊎ IsIn (root ∷ []) t → number_of t.cursor client ≤ number_of root.cursor client
    within t client is (inl h) = omega (arith, cv.cursors t h client is, rises client is)
    within t client is (inr h) =
        let same : number_of t.cursor client ≡ number_of root.cursor client = ap (λ (x : Tree). number_of x.cursor client) (sym (in_single root t h)) in
        omega (arith, same)

pub raise_keeps : (chain : ℕ → List Link) (nodes : ℕ → List Node) (roots : List Tree) (done : List ℕ → ℕ → ℕ → ℕ) (cursor : ℕ → ℕ) (root : Tree)
    (level : ℕ) (links : List Link)
    → IsChained chain nodes roots done cursor → IsRaised chain nodes roots root level links cursor
    → IsChained (at level links chain) nodes (roots ++ root ∷ []) done (λ client. number_of root.cursor client)
raise_keeps chain nodes roots done cursor root level links c r =
    let none : chain level ≡ [] = empty_level chain (top_of roots).level level c.levels r.level_is in
    let levels : AreLevels (at level links chain) (level + 1) = levels_raise chain
    (top_of roots).level level links c.levels r.level_is r.begins r.ascends r.new in
    let newest : AreNewest (at level links chain) nodes = newest_raise chain nodes level links c.newest r.pieces_are in
    let pages : ArePages (at level links chain) nodes (top_of roots).next = pages_raise chain nodes (top_of roots).next level links c.pages none r.pieces_are in
    let top : root ≡ top_of (roots ++ root ∷ []) = sym (top_added roots root) in
    record {
      levels = subst (λ (h : ℕ). AreLevels (at level links chain) h) (sym r.height ∙ ap (λ (t : Tree). t.level) top) levels;
      versions = versions_raise chain nodes (level + 1) level links c.versions none r.pieces_are levels newest (λ l a h. (pages.linked l a h).0);
      entries = entries_raise chain nodes roots root level links c.entries none r.height r.names;
      newest = newest;
      pages = subst (λ (n : ℕ). ArePages (at level links chain) nodes n) (ap (λ (t : Tree). t.next) top)
          (pages_more (at level links chain) nodes (top_of roots).next root.next r.next pages);
      covered = covered_raise chain nodes roots done cursor root (top_of roots).level level links c.levels c.covered none r.rises;
    }
