-- The first links of a tree's levels, and pages that come once.
use Rattle.std.proofs.Common.{◌≡◌, ◌-◌, ℕ, zero, suc, nat_lt, Bool, true, false, List, [], ◌∷◌, Some, None, refl, sym, ap, subst, ◌∙◌}
use Rattle.std.proofs.lemmas.Bool.{ltb-true, ltb-false}
use Rattle.byte_format.specs.Order.{bytes_below}
use Rattle.cloud_facts.specs.Words.{Tree, Link, Node, IsIn, StandsAt}
use Rattle.cloud_facts.specs.Chains.Chain.{IsChained}
use Rattle.cloud_facts.specs.Chains.Links.{Ascends, link_of, top_of, NamesBelow}
use Rattle.cloud_facts.proofs.Chains.Pieces.{none_stands, none_in, ascend_all, not_itself, apart_of, one_place}
use Rattle.node_codec.specs.Node.{Entry}
use Rattle.orphan_sweep.specs.Pages.{first_page}
use Rattle.orphan_sweep.specs.Sweeping.{is_among}
use Rattle.session_facts.specs.Machines.Sweeps.Places.{IsUptoPlace, AreUpto}
use Rattle.session_facts.proofs.Machines.Sweeps.Places.{among_in}

-- no other link of a level has the low key of the first one
pub first_of : (links : List Link) → Ascends links → (a b : Link) → StandsAt links 0 a → IsIn links b → a.low ≡ b.low → a ≡ b
first_of [] up a b at is e = absurd (none_stands 0 a at)
first_of (x ∷ links) up a b at (zero, there) e = let both : Some a ≡ Some b = sym at ∙ there in cc (both)
first_of (x ∷ links) up a b at (suc place, there) e =
    let is : x ≡ a = cc (at) in
    let beyond : bytes_below x.low b.low ≡ true = ascend_all x links b up.1 (place, there) in
    let here : bytes_below x.low b.low ≡ false = ap (λ (y : Link). bytes_below y.low b.low) is ∙ (ap (bytes_below a.low) (sym e) ∙ not_itself a.low) in
    let no : true ≡ false = sym beyond ∙ here in
    absurd (cc (no))

module _ (chain : ℕ → List Link) (nodes : ℕ → List Node) (roots : List Tree) (done : List ℕ → ℕ → ℕ → ℕ) (cursor : ℕ → ℕ)
    (h : IsChained chain nodes roots done cursor) where
  -- a page is that of one link, at one place
  pub one_at : (l m i j : ℕ) (a b : Link) → StandsAt (chain l) i a → StandsAt (chain m) j b → a.page ≡ b.page → (l ≡ m) × (i ≡ j)
  one_at l m i j a b there here e =
      let same = h.levels.once l m a b (i, there) (j, here) e in (
        same.0,
        one_place (chain m) (apart_of None (chain m) (h.levels.ascends m) (λ x y k n f. (h.levels.once m m x y k n f).1)) i j a b
            (subst (λ (n : ℕ). StandsAt (chain n) i a) same.0 there) here e,
      )

  -- a link behind the pages that were come to is of none of them
  pub not_come : (level place l p : ℕ) (visited : List ℕ) (link : Link) → AreUpto chain level place visited → StandsAt (chain l) p link
      → (IsUptoPlace level place l p → ⊥) → is_among visited link.page ≡ false
  not_come level place l p visited link come there beyond = on (is_among visited link.page) refl
    where
      on : (b : Bool) → is_among visited link.page ≡ b → b ≡ false
      on true e =
          let w = come.only link.page (among_in visited link.page e) in
          let same = one_at w.height l w.at p w.link link w.linked there w.page_is in
          absurd (beyond (subst (λ (n : ℕ). IsUptoPlace level place n p) same.0 (subst (λ (n : ℕ). IsUptoPlace level place w.height n) same.1 w.upto)))
      on false e = refl

  -- a level that has a link begins with the empty low key
  pub begin_of : (level : ℕ) (link : Link) → IsIn (chain level) link → (first : Link) × StandsAt (chain level) 0 first × (first.low ≡ [])
  begin_of level link is = on (nat_lt level (top_of roots).level) refl
    where
      on : (b : Bool) → nat_lt level (top_of roots).level ≡ b → (first : Link) × StandsAt (chain level) 0 first × (first.low ≡ [])
      on true e = h.levels.begins level (ltb-true level (top_of roots).level e)
      on false e = absurd (none_in link (subst (λ (ls : List Link). IsIn ls link) (h.levels.above level (ltb-false level (top_of roots).level e)) is))

  -- entries from the left end on name the first link of the level below
  pub first_below : (level : ℕ) (entries : List Entry) → NamesBelow chain level [] entries
      → StandsAt (chain (level - 1)) 0 (record { low = []; page = first_page entries })
  first_below level [] n = let no : None ≡ Some [] = n.links.first in absurd (cc (no))
  first_below level (e ∷ es) n =
      let first : Some e.0 ≡ Some [] = n.links.first in
      let low : e.0 ≡ [] = cc (first) in
      let named : IsIn (chain (level - 1)) (link_of e) = n.links.names e (zero, refl) in
      let begins = begin_of (level - 1) (link_of e) named in
      let same : begins.0 ≡ link_of e = first_of (chain (level - 1)) (h.levels.ascends (level - 1)) begins.0 (link_of e) begins.1 named (begins.2 ∙ sym low) in
      let is : begins.0 ≡ record { low = []; page = e.1 } = same ∙ (λ i. record { low = low i; page = e.1 }) in
      subst (λ (x : Link). StandsAt (chain (level - 1)) 0 x) is begins.1
