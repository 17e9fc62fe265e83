-- Fences nest: where a link's page begins below the high key of a version of the level above, its newest version ends there or before.
use Rattle.std.proofs.Common.{◌≡◌, ◌≢◌, ◌+◌, ◌-◌, ◌==◌, ◌⊎◌, inl, inr, ℕ, zero, suc, Bool, true, false, List, [], ◌∷◌, Option, Some, None, refl, sym, ap, subst, ◌∙◌, arith}
use Rattle.std.specs.Prelude.{slice_get}
use Rattle.std.proofs.lemmas.Bool.{eqb-true, eqb-false}
use Rattle.byte_format.specs.Order.{bytes_below, below_bound}
use Rattle.cloud_facts.proofs.Chains.Names.{plus_one}
use Rattle.cloud_facts.proofs.Chains.Newest.{IsNewestOf, newest_is, last_in}
use Rattle.cloud_facts.proofs.Chains.Pieces.{none_in, none_stands, in_cases, ascend_all, not_itself}
use Rattle.cloud_facts.specs.Words.{Inner, Tree, Link, Node, Leafy, Branch, IsIn, StandsAt}
use Rattle.cloud_facts.specs.Book.Tally.{low_of, right_of, high_of}
use Rattle.cloud_facts.specs.Chains.Chain.{IsChained, IsVersionOf, NamesRight}
use Rattle.cloud_facts.specs.Chains.Links.{link_below, link_of, newest_node, top_of, low_after, IsOfLevel, NodeNames}
use Rattle.leaf_edit.proofs.InOrder.{below_upto}
use Rattle.leaf_view.specs.Fits.{Ascend}
use Rattle.leaf_view.specs.Lookup.{empty_leaf}
use Rattle.node_codec.proofs.EntryLemmas.{below_chain}
use Rattle.node_codec.specs.Inner.{first_low_of}
use Rattle.node_codec.specs.Node.{Entry}
use Rattle.session_facts.specs.Machines.TreeCheckpoints.Nesting.{Nests}

-- ---- links in their order

never_below : (a b : List ℕ) → bytes_below a b ≡ true → bytes_below b a ≡ true → ⊥
never_below a b up down = let one : bytes_below a a ≡ true = below_chain a b a up down in let other : bytes_below a a ≡ false = not_itself a in absurd (cc)

-- what is above a link is not below the next one
next_upto : (before : Option Link) (links : List Link) (i : ℕ) (x z : Link) → Ascend link_below before links → StandsAt links i x → IsIn links z
    → bytes_below x.low z.low ≡ true → (w : Link) × (slice_get links (suc i) ≡ Some w) × (bytes_below z.low w.low ≡ false)
next_upto before [] i x z up at there above = absurd (none_stands i x at)
next_upto before (y ∷ ys) zero x z up at there above = on (in_cases y ys z there)
  where
    same : y ≡ x
    same = cc

    next : (links : List Link) → ys ≡ links → IsIn links z → (w : Link) × (slice_get ys zero ≡ Some w) × (bytes_below z.low w.low ≡ false)
    next [] e is = absurd (none_in z is)
    next (w ∷ ws) e is = (w, ap (λ (ls : List Link). slice_get ls zero) e, upto (in_cases w ws z is))
      where
        ascends : Ascend link_below (Some y) (w ∷ ws)
        ascends = subst (Ascend link_below (Some y)) e up.1

        upto : (w ≡ z) ⊎ IsIn ws z → bytes_below z.low w.low ≡ false
        upto (inl is) = ap (λ (k : Link). bytes_below z.low k.low) is ∙ not_itself z.low
        upto (inr rest) = off (bytes_below z.low w.low) refl
          where
            off : (b : Bool) → bytes_below z.low w.low ≡ b → b ≡ false
            off false f = refl
            off true f = absurd (never_below w.low z.low (ascend_all w ws z ascends.1 rest) f)

    on : (y ≡ z) ⊎ IsIn ys z → (w : Link) × (slice_get ys zero ≡ Some w) × (bytes_below z.low w.low ≡ false)
    on (inl is) = absurd (let no : bytes_below x.low x.low ≡ true = ap (λ (k : Link). bytes_below x.low k.low) (sym same ∙ is) ∙ above in
        let other : bytes_below x.low x.low ≡ false = not_itself x.low in cc)
    on (inr is) = next ys refl is
next_upto before (y ∷ ys) (suc i) x z up at there above = on (in_cases y ys z there) (λ is. next_upto (Some y) ys i x z up.1 at is above)
  where
    on : (y ≡ z) ⊎ IsIn ys z → (IsIn ys z → (w : Link) × (slice_get ys (suc i) ≡ Some w) × (bytes_below z.low w.low ≡ false))
        → (w : Link) × (slice_get ys (suc i) ≡ Some w) × (bytes_below z.low w.low ≡ false)
    on (inl is) again = absurd (never_below x.low z.low above (ap (λ (k : Link). bytes_below k.low x.low) (sym is) ∙ ascend_all y ys x up.1 (i, at)))
    on (inr is) again = again is

-- ---- a tree

first_entry : (entries : List Entry) (low : List ℕ) → first_low_of entries ≡ Some low → (e : Entry) × IsIn entries e × (e.0 ≡ low)
first_entry [] low e = absurd (cc (e))
first_entry (x ∷ xs) low e = (x, (zero, refl), cc (e))

module _ (chain : ℕ → List Link) (nodes : ℕ → List Node) (roots : List Tree) (done : List ℕ → ℕ → ℕ → ℕ) (cursor : ℕ → ℕ)
    (h : IsChained chain nodes roots done cursor) where
  -- a low key of a level above the leaves is one of the level below
  low_below : (level : ℕ) (link : Link) → IsIn (chain (suc level)) link → (z : Link) × IsIn (chain level) z × (z.low ≡ link.low)
  low_below level link linked = on (newest_node nodes link.page) refl
    where
      newest : IsNewestOf (suc level) link (newest_node nodes link.page)
      newest = newest_is chain nodes (top_of roots).level h.levels h.versions h.newest (suc level) link linked

      some : nodes link.page ≢ []
      some none = let never = (h.newest.absent (suc level) link linked none).0 in absurd (omega (arith, never))

      landed : IsIn (nodes link.page) (newest_node nodes link.page)
      landed = last_in (Leafy empty_leaf) (nodes link.page) some

      named : (n : Inner) → n.level ≡ suc level → n.low ≡ link.low → NodeNames chain (Branch n) → (z : Link) × IsIn (chain level) z × (z.low ≡ link.low)
      named n is low names =
          let e = first_entry n.entries n.low names.links.first in
          let same : n.level - 1 ≡ level = omega (arith, is) in
          (link_of e.0, subst (λ (k : ℕ). IsIn (chain k) (link_of e.0)) same (names.links.names e.0 e.1), e.2 ∙ low)

      on : (node : Node) → newest_node nodes link.page ≡ node → (z : Link) × IsIn (chain level) z × (z.low ≡ link.low)
      on (Leafy l) e = let never : suc level ≡ 0 = subst (IsOfLevel (suc level)) e newest.level_is in absurd (omega (arith, never))
      on (Branch n) e =
          named n (subst (IsOfLevel (suc level)) e newest.level_is).0 (ap low_of (sym e) ∙ newest.low)
          (subst (NodeNames chain) e (h.entries.of_nodes link.page (newest_node nodes link.page) landed))

  -- the newest version of a page ends before each high key of the level above that is above its low key
  pub nests : (level : ℕ) (x y : Link) (a : Node) → IsIn (chain level) x → IsIn (chain (suc level)) y → IsIn (nodes y.page) a
      → Nests (high_of a) (low_of (newest_node nodes x.page)) (high_of (newest_node nodes x.page))
  nests level x y a xin yin landed under key within = on (right_of a == 0) refl
    where
      version : IsVersionOf (chain (suc level)) (suc level) y a
      version = h.versions (suc level) y a yin landed

      newest : IsNewestOf level x (newest_node nodes x.page)
      newest = newest_is chain nodes (top_of roots).level h.levels h.versions h.newest level x xin

      beside : NamesRight (chain (suc level)) y a → below_bound key (high_of a) ≡ true
      beside r = ap (below_bound key) r.high_is ∙ end (low_below level r.next r.linked)
        where
          above : bytes_below x.low r.next.low ≡ true
          above = ap (λ (k : List ℕ). bytes_below k r.next.low) (sym newest.low) ∙ (ap (below_bound (low_of (newest_node nodes x.page))) (sym r.high_is) ∙ under)

          end : (z : Link) × IsIn (chain level) z × (z.low ≡ r.next.low) → bytes_below key r.next.low ≡ true
          end z =
              let n = next_upto None (chain level) xin.0 x z.0 (h.levels.ascends level) xin.1 z.1 (ap (bytes_below x.low) z.2 ∙ above) in
              let next : slice_get (chain level) (xin.0 + 1) ≡ Some n.0 = ap (slice_get (chain level)) (sym (plus_one xin.0)) ∙ n.1 in
              let high : high_of (newest_node nodes x.page) ≡ Some n.0.low = (h.newest.ends level xin.0 x xin.1).high ∙ ap low_after next in
              let less : bytes_below key n.0.low ≡ true = ap (below_bound key) (sym high) ∙ within in
              ap (bytes_below key) (sym z.2) ∙ below_upto key n.0.low z.0.low less n.2

      on : (b : Bool) → (right_of a == 0) ≡ b → below_bound key (high_of a) ≡ true
      on true e = ap (below_bound key) (version.last (eqb-true (right_of a) 0 e))
      on false e = beside (version.right (eqb-false (right_of a) 0 e))
