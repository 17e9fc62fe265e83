-- Where the reading goes on from the tree object, and from a page: to a page that was not come to, or behind the last leaf nowhere.
use Rattle.std.proofs.Common.{◌≡◌, ◌≢◌, ◌+◌, ◌-◌, ◌<◌, ◌==◌, ◌⊎◌, inl, inr, ℕ, zero, suc, Bool, true, false, List, [], ◌∷◌, ◌++◌, Option, Some, None, refl, sym, ap, subst, ◌∙◌, arith}
use Rattle.std.specs.Prelude.{slice_get}
use Rattle.std.proofs.lemmas.Bool.{eqb-true, eqb-false}
use Rattle.cloud_facts.specs.Words.{Tree, Link, Node, IsIn, StandsAt}
use Rattle.cloud_facts.specs.Chains.Chain.{IsChained}
use Rattle.cloud_facts.specs.Chains.Links.{first_link, link_of, top_of, NamesBelow}
use Rattle.cloud_facts.proofs.Chains.Newest.{last_in}
use Rattle.cloud_facts.proofs.Chains.Pieces.{in_first, in_cases, none_in}
use Rattle.node_codec.specs.Node.{Entry}
use Rattle.node_codec.specs.Tree.{empty_tree}
use Rattle.orphan_sweep.specs.declared.paths.Paths.{Paths}
use Rattle.orphan_sweep.specs.declared.spot.Spot.{Spot}
use Rattle.orphan_sweep.specs.Pages.{first_page, top_spot, below_by, down_to, onward_by, onward}
use Rattle.orphan_sweep.specs.Sweeping.{is_among}
use Rattle.session_facts.specs.Machines.Sweeps.Places.{IsUptoPlace, AreUpto, IsLeftmostBelow, IsReading, AreAll}
use Rattle.session_facts.proofs.Machines.Sweeps.Firsts.{begin_of, first_below, not_come}
use Rattle.session_facts.proofs.Machines.Sweeps.Places.{one_thing, come_first, come_right, come_down, all_come}
use Rattle.session_facts.proofs.Machines.Sweeps.Reads.{link_after, LeadsFurther}

-- the page that is read next was not come to, and it is the next place; where there is none, all pages were come to
abbrev pub GoesOnTo : (ℕ → List Link) → List ℕ → Option Spot → Type 0
GoesOnTo chain visited (Some spot) = IsReading chain spot (visited ++ spot.page ∷ []) × (is_among visited spot.page ≡ false)
GoesOnTo chain visited None = AreAll chain visited

-- the page that begins the level below, once a page at hand was read: none below the leaves
abbrev IsFirstBelow : (ℕ → List Link) → ℕ → Option ℕ → Type 0
IsFirstBelow chain level below =
    ((level ≡ 0) × (below ≡ None)) ⊎ ((0 < level) × ((page : ℕ) × (below ≡ Some page) × StandsAt (chain (level - 1)) 0 (record { low = []; page = page })))

above_zero : (n : ℕ) → n ≢ 0 → 0 < n
above_zero zero ne = absurd (ne refl)
above_zero (suc n) ne = omega arith

module _ (chain : ℕ → List Link) (nodes : ℕ → List Node) (roots : List Tree) (done : List ℕ → ℕ → ℕ → ℕ) (cursor : ℕ → ℕ)
    (h : IsChained chain nodes roots done cursor) where
  -- ---- from the tree object

  pub first_leaf : IsIn (chain 0) first_link
  first_leaf = subst (λ (ls : List Link). IsIn ls first_link) (sym h.levels.leaves.1) (in_first first_link h.levels.leaves.0)

  -- the newest root names links of the level below, be it absent or not
  pub top_names : NamesBelow chain (top_of roots).level [] (top_of roots).entries
  top_names = on roots refl
    where
      only : (e : Entry) → IsIn empty_tree.entries e → IsIn (chain 0) (link_of e)
      only e k = turn (in_cases ([], 1) [] e k)
        where
          turn : (([], 1) ≡ e) ⊎ IsIn {A = Entry} [] e → IsIn (chain 0) (link_of e)
          turn (inl is) = subst (λ (x : Entry). IsIn (chain 0) (link_of x)) is first_leaf
          turn (inr none) = absurd (none_in e none)

      on : (rs : List Tree) → roots ≡ rs → NamesBelow chain (top_of rs).level [] (top_of rs).entries
      on [] e = record { height = omega arith; links = record { names = λ x k. only x k; first = refl } }
      on (r ∷ rs) e =
          h.entries.of_roots (top_of (r ∷ rs)) (subst (λ (ts : List Tree). IsIn ts (top_of (r ∷ rs))) (sym e) (last_in empty_tree (r ∷ rs) (λ z. absurd (cc (z)))))

  pub begins_at : GoesOnTo chain [] (Some (top_spot (top_of roots)))
  begins_at = (record { place = 0; linked = there; come = come_first chain ((top_of roots).level - 1) link above there; below = inr refl }, refl)
    where
      link : Link
      link = record { low = []; page = first_page (top_of roots).entries }

      there : StandsAt (chain ((top_of roots).level - 1)) 0 link
      there = first_below chain nodes roots done cursor h (top_of roots).level (top_of roots).entries top_names

      above : (level : ℕ) → (top_of roots).level - 1 < level → chain level ≡ []
      above level less = h.levels.above level (omega (arith, less))

  -- ---- from a page

  module _ (spot : Spot) (visited : List ℕ) (k : IsReading chain spot visited) (paths : Paths) (l : LeadsFurther chain spot.level k.place paths) where
    abbrev below : Option ℕ
    below = below_by spot.below paths.down

    -- a first link has the empty low key
    lowest : (page : ℕ) → (link : Link) × StandsAt (chain (spot.level - 1)) 0 link × (link.page ≡ page)
        → StandsAt (chain (spot.level - 1)) 0 (record { low = []; page = page })
    lowest page (link, there, is) =
        let begins = begin_of chain nodes roots done cursor h (spot.level - 1) link (0, there) in
        let same : link ≡ begins.0 = one_thing (chain (spot.level - 1)) 0 0 link begins.0 refl there begins.1 in
        let low : link.low ≡ [] = ap (λ (x : Link). x.low) same ∙ begins.2 in
        let whole : link ≡ record { low = []; page = page } = λ i. record { low = low i; page = is i } in
        subst (λ (x : Link). StandsAt (chain (spot.level - 1)) 0 x) whole there

    below_is : IsFirstBelow chain spot.level below
    below_is = by spot.below k.below
      where
        leftmost : k.place ≡ 0 → (b : Bool) → (spot.level == 0) ≡ b → IsFirstBelow chain spot.level paths.down
        leftmost first true e = let low = eqb-true spot.level 0 e in inl (low, l.leaf low)
        leftmost first false e =
            let above = above_zero spot.level (eqb-false spot.level 0 e) in
            let d = l.down above in
            inr (above, (d.0, d.1, d.2 first))

        by : (o : Option ℕ) → IsLeftmostBelow chain spot.level k.place o → IsFirstBelow chain spot.level (below_by o paths.down)
        by None (inl low) = inl (low, l.leaf low)
        by None (inr first) = leftmost first (spot.level == 0) refl
        by (Some page) (above, further, first) = inr (above, (page, refl, lowest page first))

    -- it is known on the right too
    still_below : IsFirstBelow chain spot.level below → IsLeftmostBelow chain spot.level (k.place + 1) below
    still_below (inl (low, none)) = subst (λ (o : Option ℕ). IsLeftmostBelow chain spot.level (k.place + 1) o) (sym none) (inl low)
    still_below (inr (above, (page, is, there))) =
        subst (λ (o : Option ℕ). IsLeftmostBelow chain spot.level (k.place + 1) o) (sym is) (above, omega arith, (record { low = []; page = page }, there, refl))

    never_right : IsUptoPlace spot.level k.place spot.level (k.place + 1) → ⊥
    never_right (inl less) = omega (arith, less)
    never_right (inr s) = omega (arith, s.1)

    goes_right : (x : Link) → slice_get (chain spot.level) (k.place + 1) ≡ Some x → GoesOnTo chain visited (onward_by spot.level below (link_after (Some x)))
    goes_right x e = (
      record {
        place = k.place + 1;
        linked = e;
        come = come_right chain spot.level k.place visited x k.come e;
        below = still_below below_is;
      },
      not_come chain nodes roots done cursor h spot.level k.place spot.level (k.place + 1) visited x k.come e never_right,
    )

    never_down : 0 < spot.level → IsUptoPlace spot.level k.place (spot.level - 1) 0 → ⊥
    never_down above (inl less) = omega (arith, less)
    never_down above (inr s) = omega (arith, s.0, above)

    goes_down : slice_get (chain spot.level) (k.place + 1) ≡ None → IsFirstBelow chain spot.level below → GoesOnTo chain visited (down_to spot.level below)
    goes_down e (inl (low, none)) =
        subst (λ (o : Option ℕ). GoesOnTo chain visited (down_to spot.level o)) (sym none)
        (all_come chain k.place visited (subst (λ (n : ℕ). AreUpto chain n k.place visited) low k.come)
        (subst (λ (n : ℕ). slice_get (chain n) (k.place + 1) ≡ None) low e))
    goes_down e (inr (above, (page, is, there))) =
        let first : Link = record { low = []; page = page } in
        subst (λ (o : Option ℕ). GoesOnTo chain visited (down_to spot.level o)) (sym is) (
          record { place = 0; linked = there; come = come_down chain spot.level k.place visited first k.come e above there; below = inr refl },
          not_come chain nodes roots done cursor h spot.level k.place (spot.level - 1) 0 visited first k.come there (never_down above),
        )

    pub page_goes : GoesOnTo chain visited (onward spot paths)
    page_goes = subst (λ o. GoesOnTo chain visited (onward_by spot.level below o)) (sym l.right) (on (slice_get (chain spot.level) (k.place + 1)) refl)
      where
        on : (o : Option Link) → slice_get (chain spot.level) (k.place + 1) ≡ o → GoesOnTo chain visited (onward_by spot.level below (link_after o))
        on (Some x) e = goes_right x e
        on None e = goes_down e below_is
