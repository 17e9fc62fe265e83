-- A node lands on a link's page, and pieces join its level behind it: what is known of a tree holds after it.
use Rattle.std.proofs.Common.{◌≡◌, ◌≢◌, ◌+◌, ◌<◌, ◌≤◌, ℕ, suc, List, [], ◌∷◌, ◌++◌, length, Option, Some, None, refl, sym, ap, subst, ◌∙◌, ◌⊎◌, inl, inr, Bool, true, false, cond}
use Rattle.std.specs.Prelude.{slice_get, ◌==◌}
use Rattle.byte_format.specs.Order.{bytes_below}
use Rattle.cloud_facts.specs.Words.{IsClient, Tree, Link, Node, Leafy, at, IsIn, StandsAt}
use Rattle.leaf_view.specs.Fits.{Ascend}
use Rattle.leaf_view.specs.Lookup.{empty_leaf}
use Rattle.cloud_facts.proofs.Book.GrowthLemmas.{links_stay as level_stays}
use Rattle.cloud_facts.specs.Book.Book.{with_pieces}
use Rattle.cloud_facts.specs.Book.Tally.{low_of}
use Rattle.cloud_facts.specs.Book.Telling.{last_or}
use Rattle.cloud_facts.specs.Chains.Chain.{AreLevels, IsVersionOf, AreVersions, AreEntries, AreNewest, ArePages, IsCovered, AreCovered, IsChained}
use Rattle.cloud_facts.specs.Chains.Landing.{ArePieces, AreNew, LandsOn, first_or}
use Rattle.cloud_facts.specs.Chains.Links.{link_below, Ascends, first_link, newest_node, top_of, IsOfLevel, EndsBefore, NodeNames}
use Rattle.cloud_facts.proofs.Chains.Monotone.{Stay, names_stay, node_names_stay, version_stays, version_ends, ends_by, piece_in, covered_more}
use Rattle.cloud_facts.proofs.Chains.Names.{plus_one, at_same, at_other, at_either, last_added, in_single, in_added, added_none}
use Rattle.cloud_facts.proofs.Chains.Pieces.{Apart, apart_of, one_place, joined_head, joined_cases, joined_ascends, Standing, IsOther, IsLeft, IsNew, joined_next}

-- the chains with pieces behind a page of a level, and the versions with one more of a page
abbrev pub joined : ℕ → ℕ → List Link → (ℕ → List Link) → ℕ → List Link
joined level page pieces chain = at level (with_pieces page pieces (chain level)) chain

abbrev pub added : ℕ → Node → (ℕ → List Node) → ℕ → List Node
added page node nodes = at page (nodes page ++ node ∷ []) nodes

-- ---- links

pub links_stay : (level page : ℕ) (pieces : List Link) (chain : ℕ → List Link) → Stay chain (joined level page pieces chain)
links_stay level page pieces chain l a h =
    at_either (λ (links : List Link). IsIn links a) level (with_pieces page pieces (chain level)) chain l
    (λ e. level_stays page pieces (chain level) a (subst (λ (n : ℕ). IsIn (chain n) a) e h)) (λ ne. h)

pub link_cases : (level page : ℕ) (pieces : List Link) (chain : ℕ → List Link) (l : ℕ) (a : Link) → IsIn (joined level page pieces chain l) a
    → IsIn (chain l) a ⊎ ((l ≡ level) × IsIn pieces a)
link_cases level page pieces chain l a h =
    at_either (λ (links : List Link). IsIn links a → IsIn (chain l) a ⊎ ((l ≡ level) × IsIn pieces a)) level (with_pieces page pieces (chain level)) chain l
    (λ e k. on e (joined_cases page pieces (chain level) a k)) (λ ne k. inl k) h
  where
    on : l ≡ level → IsIn (chain level) a ⊎ IsIn pieces a → IsIn (chain l) a ⊎ ((l ≡ level) × IsIn pieces a)
    on e (inl k) = inl (subst (λ (n : ℕ). IsIn (chain n) a) (sym e) k)
    on e (inr k) = inr (e, k)

pub level_apart : (chain : ℕ → List Link) (height : ℕ) → AreLevels chain height → (level : ℕ) → Apart (chain level)
level_apart chain height lv level = apart_of None (chain level) (lv.ascends level) (λ a b h k e. (lv.once level level a b h k e).1)

joined_begins : (page : ℕ) (pieces : List Link) (x : Link) (links : List Link) → (rest : List Link) × (with_pieces page pieces (x ∷ links) ≡ x ∷ rest)
joined_begins page pieces x links = on (x.page == page)
  where
    on : (b : Bool) → (rest : List Link) × (cond b (x ∷ (pieces ++ links)) (x ∷ with_pieces page pieces links) ≡ x ∷ rest)
    on true = (pieces ++ links, refl)
    on false = (with_pieces page pieces links, refl)

-- the links of a tree, with pieces that go up to the next link
record Joins (chain : ℕ → List Link) (level page : ℕ) (pieces : List Link) : Type 0 where
  place : ℕ
  link : Link
  linked : StandsAt (chain level) place link
  page_is : link.page ≡ page
  ascends : Ascend link_below (Some link) pieces
  within : (piece next : Link) → IsIn pieces piece → StandsAt (chain level) (suc place) next → bytes_below piece.low next.low ≡ true
  new : AreNew chain pieces

joins_of : (chain : ℕ → List Link) (nodes : ℕ → List Node) (level page : ℕ) (node : Node) (pieces : List Link) → LandsOn chain nodes level page node pieces
    → Joins chain level page pieces
joins_of chain nodes level page node pieces lands = record {
  place = lands.place;
  link = lands.link;
  linked = lands.linked;
  page_is = lands.page_is;
  ascends = lands.ascends;
  within = λ piece next h k. lands.within piece next h (subst (λ (n : ℕ). StandsAt (chain level) n next) (plus_one lands.place) k);
  new = lands.new;
}

levels_join : (chain : ℕ → List Link) (height level page : ℕ) (pieces : List Link) → AreLevels chain height → Joins chain level page pieces
    → AreLevels (joined level page pieces chain) height
levels_join chain height level page pieces lv j = record {
  leaves = at_either (λ (links : List Link). (rest : List Link) × (links ≡ first_link ∷ rest)) level
      (with_pieces page pieces (chain level)) chain 0 first (λ ne. lv.leaves);
  begins = λ l h. at_either (λ (links : List Link). (link : Link) × StandsAt links 0 link × (link.low ≡ [])) level
      (with_pieces page pieces (chain level)) chain l
      (λ e. front (lv.begins level (subst (λ (n : ℕ). n < height) e h))) (λ ne. lv.begins l h);
  above = λ l h. at_either (λ (links : List Link). links ≡ []) level (with_pieces page pieces (chain level)) chain l
      (λ e. ap (with_pieces page pieces) (lv.above level (subst (λ (n : ℕ). height ≤ n) e h))) (λ ne. lv.above l h);
  ascends = λ l. at_either (λ (links : List Link). Ascends links) level (with_pieces page pieces (chain level)) chain l (λ e. rising) (λ ne. lv.ascends l);
  once = λ l m a b h k e. once l m a b e (link_cases level page pieces chain l a h) (link_cases level page pieces chain m b k);
}
  where
    first : 0 ≡ level → (rest : List Link) × (with_pieces page pieces (chain level) ≡ first_link ∷ rest)
    first e =
        let old = lv.leaves in
        let is : chain level ≡ first_link ∷ old.0 = ap chain (sym e) ∙ old.1 in
        let new = joined_begins page pieces first_link old.0 in
        (new.0, ap (with_pieces page pieces) is ∙ new.1)

    front : (link : Link) × StandsAt (chain level) 0 link × (link.low ≡ [])
        → (link : Link) × StandsAt (with_pieces page pieces (chain level)) 0 link × (link.low ≡ [])
    front f = (f.0, joined_head page pieces (chain level) ∙ f.1, f.2)

    rising : Ascends (with_pieces page pieces (chain level))
    rising = joined_ascends page pieces None (chain level) j.place j.link (level_apart chain height lv level)
        (lv.ascends level) j.linked j.page_is j.ascends j.within

    once : (l m : ℕ) (a b : Link) → a.page ≡ b.page → IsIn (chain l) a ⊎ ((l ≡ level) × IsIn pieces a) → IsIn (chain m) b ⊎ ((m ≡ level) × IsIn pieces b)
        → (l ≡ m) × (a.low ≡ b.low)
    once l m a b e (inl h) (inl k) = lv.once l m a b h k e
    once l m a b e (inl h) (inr k) = absurd (j.new.unlinked b k.1 l a h e)
    once l m a b e (inr h) (inl k) = absurd (j.new.unlinked a h.1 m b k (sym e))
    once l m a b e (inr h) (inr k) = (h.0 ∙ sym k.0, j.new.distinct a b h.1 k.1 e)

-- ---- the newest versions

pub newest_other : (nodes : ℕ → List Node) (page : ℕ) (node : Node) (n : ℕ) → n ≢ page → newest_node (added page node nodes) n ≡ newest_node nodes n
newest_other nodes page node n ne = ap (last_or (Leafy empty_leaf)) (at_other page (nodes page ++ node ∷ []) nodes n ne)

newest_same : (nodes : ℕ → List Node) (page : ℕ) (node : Node) (n : ℕ) → n ≡ page → newest_node (added page node nodes) n ≡ node
newest_same nodes page node n e =
    ap (last_or (Leafy empty_leaf)) (at_same page (nodes page ++ node ∷ []) nodes n e) ∙ last_added (Leafy empty_leaf) (nodes page) node

newest_join : (chain : ℕ → List Link) (nodes : ℕ → List Node) (height level page : ℕ) (node : Node) (pieces : List Link) → AreLevels chain height
    → AreNewest chain nodes
    → LandsOn chain nodes level page node pieces → AreNewest (joined level page pieces chain) (added page node nodes)
newest_join chain nodes height level page node pieces lv nw lands = record {
  ends = λ l place a h. at_either (λ (links : List Link). StandsAt links place a
      → EndsBefore (newest_node (added page node nodes) a.page) (slice_get links (place + 1)))
      level (with_pieces page pieces (chain level)) chain l
      (λ e k. subst (λ (n : ℕ). EndsBefore (newest_node (added page node nodes) a.page) (slice_get (with_pieces page pieces (chain level)) n)) (plus_one place)
      (here a (slice_get (with_pieces page pieces (chain level)) (suc place)) (joined_next nodes level page pieces (chain level) apart are place a k)))
      (λ ne k. ends_by _ _ _ _ (sym (newest_other nodes page node a.page (elsewhere l a (place, k) ne))) refl (nw.ends l place a k)) h;
  absent = λ l a h none. absent l a none (link_cases level page pieces chain l a h);
}
  where
    apart : Apart (chain level)
    apart = level_apart chain height lv level

    linked : IsIn (chain level) lands.link
    linked = (lands.place, lands.linked)

    same_place : (place : ℕ) (a : Link) → StandsAt (chain level) place a → a.page ≡ page → lands.place ≡ place
    same_place place a h is = one_place (chain level) apart lands.place place lands.link a lands.linked h (lands.page_is ∙ sym is)

    are : (place : ℕ) (a : Link) → StandsAt (chain level) place a → a.page ≡ page → ArePieces nodes level pieces (slice_get (chain level) (suc place))
    are place a h is =
        subst (λ (n : ℕ). ArePieces nodes level pieces (slice_get (chain level) n))
        (ap (λ (n : ℕ). n + 1) (same_place place a h is) ∙ sym (plus_one place)) lands.pieces_are

    elsewhere : (l : ℕ) (a : Link) → IsIn (chain l) a → l ≢ level → a.page ≢ page
    elsewhere l a h ne is = ne (lv.once l level a lands.link h linked (is ∙ sym lands.page_is)).0

    here : (a : Link) (next : Option Link) → Standing nodes level page pieces (chain level) a next
        → EndsBefore (newest_node (added page node nodes) a.page) next
    here a next (IsOther place h ne e) =
        ends_by _ _ _ _ (sym (newest_other nodes page node a.page ne)) (ap (slice_get (chain level)) (sym (plus_one place)) ∙ sym e) (nw.ends level place a h)
    here a next (IsLeft place h is e) =
        let goes : lands.place + 1 ≡ suc place = ap (λ (n : ℕ). n + 1) (same_place place a h is) ∙ sym (plus_one place) in
        ends_by _ _ _ _ (sym (newest_same nodes page node a.page is)) (ap (λ (n : ℕ). first_or (slice_get (chain level) n) pieces) goes ∙ sym e) lands.ends
    here a next (IsNew h piece) =
        let ne : a.page ≢ page = λ is. lands.new.unlinked a h level lands.link linked (lands.page_is ∙ sym is) in
        let one : newest_node nodes a.page ≡ piece.node = ap (last_or (Leafy empty_leaf)) piece.landed in
        ends_by _ _ _ _ (sym (newest_other nodes page node a.page ne ∙ one)) refl piece.ends

    absent : (l : ℕ) (a : Link) → added page node nodes a.page ≡ [] → IsIn (chain l) a ⊎ ((l ≡ level) × IsIn pieces a) → (l ≡ 0) × (a.page ≡ 1)
    absent l a none (inl h) = nw.absent l a h (added_none page node nodes a.page none)
    absent l a none (inr k) =
        let piece = (piece_in nodes level pieces (slice_get (chain level) (lands.place + 1)) lands.pieces_are a k.1).1 in
        let some : nodes a.page ≡ piece.node ∷ [] = piece.landed in
        let empty : nodes a.page ≡ [] = added_none page node nodes a.page none in
        absurd (cc)

-- ---- all versions

versions_join : (chain : ℕ → List Link) (nodes : ℕ → List Node) (height level page : ℕ) (node : Node) (pieces : List Link)
    → AreLevels chain height → AreVersions chain nodes → LandsOn chain nodes level page node pieces
    → AreLevels (joined level page pieces chain) height → AreNewest (joined level page pieces chain) (added page node nodes)
    → ((l : ℕ) (a : Link) → IsIn (joined level page pieces chain l) a → 1 ≤ a.page)
    → AreVersions (joined level page pieces chain) (added page node nodes)
versions_join chain nodes height level page node pieces lv vs lands after nw some l a n h k =
    on h (link_cases level page pieces chain l a h) (in_added page node nodes a.page n k)
  where
    linked : IsIn (chain level) lands.link
    linked = (lands.place, lands.linked)

    ends : (h : IsIn (joined level page pieces chain l) a) → newest_node (added page node nodes) a.page ≡ n → IsOfLevel l n → low_of n ≡ a.low
        → IsVersionOf (joined level page pieces chain l) l a n
    ends h newest level_is low =
        version_ends (joined level page pieces chain l) l h.0 a n (after.ascends l) (some l) h.1 level_is low
        (ends_by _ _ _ _ newest refl (nw.ends l h.0 a h.1))

    on : IsIn (joined level page pieces chain l) a → IsIn (chain l) a ⊎ ((l ≡ level) × IsIn pieces a) → IsIn (nodes a.page) n ⊎ ((a.page ≡ page) × (node ≡ n))
        → IsVersionOf (joined level page pieces chain l) l a n
    on h (inl old) (inl k) = version_stays (chain l) (joined level page pieces chain l) (links_stay level page pieces chain l) l a n (vs l a n old k)
    on h (inl old) (inr p) =
        let same = lv.once l level a lands.link old linked (p.0 ∙ sym lands.page_is) in
        let level_is : IsOfLevel l n = subst (λ (x : Node). IsOfLevel l x) p.1 (subst (λ (m : ℕ). IsOfLevel m node) (sym same.0) lands.level_is) in
        ends h (newest_same nodes page node a.page p.0 ∙ p.1) level_is (ap low_of (sym p.1) ∙ lands.low ∙ sym same.1)
    on h (inr q) (inl k) =
        let piece = (piece_in nodes level pieces (slice_get (chain level) (lands.place + 1)) lands.pieces_are a q.1).1 in
        let is : piece.node ≡ n = in_single piece.node n (subst (λ (ns : List Node). IsIn ns n) piece.landed k) in
        let ne : a.page ≢ page = λ e. lands.new.unlinked a q.1 level lands.link linked (lands.page_is ∙ sym e) in
        let newest : newest_node (added page node nodes) a.page ≡ piece.node = newest_other nodes page node a.page ne
        ∙ ap (last_or (Leafy empty_leaf)) piece.landed in
        let level_is : IsOfLevel l n = subst (λ (x : Node). IsOfLevel l x) is (subst (λ (m : ℕ). IsOfLevel m piece.node) (sym q.0) piece.level_is) in
        ends h (newest ∙ is) level_is (ap low_of (sym is) ∙ piece.low)
    on h (inr q) (inr p) = absurd (lands.new.unlinked a q.1 level lands.link linked (lands.page_is ∙ sym p.0))

-- ---- entries, pages, tables

entries_join : (chain : ℕ → List Link) (nodes : ℕ → List Node) (roots : List Tree) (level page : ℕ) (node : Node) (pieces : List Link)
    → AreEntries chain nodes roots
    → LandsOn chain nodes level page node pieces → AreEntries (joined level page pieces chain) (added page node nodes) roots
entries_join chain nodes roots level page node pieces en lands = record {
  of_roots = λ root h. names_stay chain (joined level page pieces chain) (links_stay level page pieces chain) root.level [] root.entries (en.of_roots root h);
  of_nodes = λ p n h. node_names_stay chain (joined level page pieces chain) (links_stay level page pieces chain) n (on p n (in_added page node nodes p n h));
}
  where
    on : (p : ℕ) (n : Node) → IsIn (nodes p) n ⊎ ((p ≡ page) × (node ≡ n)) → NodeNames chain n
    on p n (inl k) = en.of_nodes p n k
    on p n (inr q) = subst (λ (x : Node). NodeNames chain x) q.1 lands.names

pages_join : (chain : ℕ → List Link) (nodes : ℕ → List Node) (next level page : ℕ) (node : Node) (pieces : List Link) → ArePages chain nodes next
    → LandsOn chain nodes level page node pieces → ArePages (joined level page pieces chain) (added page node nodes) next
pages_join chain nodes next level page node pieces pg lands = record {
  linked = λ l a h. on l a (link_cases level page pieces chain l a h);
  landed = λ p some. at_either (λ (v : List Node). v ≢ [] → (1 ≤ p) × (p < next)) page (nodes page ++ node ∷ []) nodes p (λ e ne. here p e)
      (λ ne k. pg.landed p k) some;
  unlinked = λ p out. at_either (λ (v : List Node). length v ≤ 1) page (nodes page ++ node ∷ []) nodes p
      (λ e. absurd (out level lands.link (links_stay level page pieces chain level lands.link linked) (lands.page_is ∙ sym e)))
      (λ ne. pg.unlinked p (λ l a h. out l a (links_stay level page pieces chain l a h)));
}
  where
    linked : IsIn (chain level) lands.link
    linked = (lands.place, lands.linked)

    here : (p : ℕ) → p ≡ page → (1 ≤ p) × (p < next)
    here p e = subst (λ (n : ℕ). (1 ≤ n) × (n < next)) (lands.page_is ∙ sym e) (pg.linked level lands.link linked)

    on : (l : ℕ) (a : Link) → IsIn (chain l) a ⊎ ((l ≡ level) × IsIn pieces a) → (1 ≤ a.page) × (a.page < next)
    on l a (inl h) = pg.linked l a h
    on l a (inr q) =
        let piece = (piece_in nodes level pieces (slice_get (chain level) (lands.place + 1)) lands.pieces_are a q.1).1 in
        let there : nodes a.page ≡ piece.node ∷ [] = piece.landed in
        pg.landed a.page (λ none. absurd (cc))

-- what is done does not fall; of what lands, and of its pieces, the tables say no more
pub record Covers (nodes : ℕ → List Node) (level : ℕ) (node : Node) (pieces : List Link) (done more : List ℕ → ℕ → ℕ → ℕ) : Type 0 where
  pub rises : (key : List ℕ) (page client : ℕ) → IsClient client → done key page client ≤ more key page client
  pub node_is : level ≡ 0 → IsCovered more node
  pub pieces_are : level ≡ 0 → (piece : Link) (n : Node) → IsIn pieces piece → nodes piece.page ≡ n ∷ [] → IsCovered more n

covered_join : (chain : ℕ → List Link) (nodes : ℕ → List Node) (roots : List Tree) (done more : List ℕ → ℕ → ℕ → ℕ) (cursor : ℕ → ℕ)
    (height level page : ℕ) (node : Node) (pieces : List Link)
    → AreLevels chain height → AreCovered chain nodes roots done cursor → LandsOn chain nodes level page node pieces → Covers nodes level node pieces done more
    → AreCovered (joined level page pieces chain) (added page node nodes) roots more cursor
covered_join chain nodes roots done more cursor height level page node pieces lv cv lands covers = record {
  leaves = λ a n h k. on a n (link_cases level page pieces chain 0 a h) (in_added page node nodes a.page n k);
  cursors = cv.cursors;
}
  where
    linked : IsIn (chain level) lands.link
    linked = (lands.place, lands.linked)

    on : (a : Link) (n : Node) → IsIn (chain 0) a ⊎ ((0 ≡ level) × IsIn pieces a) → IsIn (nodes a.page) n ⊎ ((a.page ≡ page) × (node ≡ n)) → IsCovered more n
    on a n (inl h) (inl k) = covered_more done more covers.rises n (cv.leaves a n h k)
    on a n (inl h) (inr p) =
        let same = lv.once 0 level a lands.link h linked (p.0 ∙ sym lands.page_is) in
        subst (λ (x : Node). IsCovered more x) p.1 (covers.node_is (sym same.0))
    on a n (inr q) (inl k) =
        let piece = (piece_in nodes level pieces (slice_get (chain level) (lands.place + 1)) lands.pieces_are a q.1).1 in
        let is : piece.node ≡ n = in_single piece.node n (subst (λ (ns : List Node). IsIn ns n) piece.landed k) in
        subst (λ (x : Node). IsCovered more x) is (covers.pieces_are (sym q.0) a piece.node q.1 piece.landed)
    on a n (inr q) (inr p) = absurd (lands.new.unlinked a q.1 level lands.link linked (lands.page_is ∙ sym p.0))

-- ---- the whole

pub lands_keeps : (chain : ℕ → List Link) (nodes : ℕ → List Node) (roots : List Tree) (done more : List ℕ → ℕ → ℕ → ℕ) (cursor : ℕ → ℕ)
    (level page : ℕ) (node : Node) (pieces : List Link)
    → IsChained chain nodes roots done cursor → LandsOn chain nodes level page node pieces → Covers nodes level node pieces done more
    → IsChained (joined level page pieces chain) (added page node nodes) roots more cursor
lands_keeps chain nodes roots done more cursor level page node pieces c lands covers =
    let levels : AreLevels (joined level page pieces chain) (top_of roots).level =
    levels_join chain (top_of roots).level level page pieces c.levels (joins_of chain nodes level page node pieces lands) in
    let newest : AreNewest (joined level page pieces chain) (added page node nodes) =
    newest_join chain nodes (top_of roots).level level page node pieces c.levels c.newest lands in
    let pages : ArePages (joined level page pieces chain) (added page node nodes) (top_of roots).next =
    pages_join chain nodes (top_of roots).next level page node pieces c.pages lands in
    record {
      levels = levels;
      versions = versions_join chain nodes (top_of roots).level level page node pieces c.levels c.versions lands levels newest
          (λ l a h. (pages.linked l a h).0);
      entries = entries_join chain nodes roots level page node pieces c.entries lands;
      newest = newest;
      pages = pages;
      covered = covered_join chain nodes roots done more cursor (top_of roots).level level page node pieces c.levels c.covered lands covers;
    }
