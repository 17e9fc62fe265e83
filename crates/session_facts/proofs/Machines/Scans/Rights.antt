-- What is to the right of a leaf at which a scan is: a page further right, to which it has not come before.
use Rattle.std.proofs.Common.{◌≡◌, ◌≢◌, ◌==◌, ◌⊎◌, inl, inr, ℕ, zero, suc, true, false, List, [], ◌∷◌, ◌++◌, Option, Some, None, unwrap_or, refl, sym, ap, subst, ◌∙◌, true≢false}
use Rattle.std.specs.Prelude.{slice_get}
use Rattle.std.proofs.lemmas.Bool.{or_cases, eqb-true}
use Rattle.std.proofs.lemmas.List.Folds.{list_any-append}
use Rattle.byte_format.specs.Order.{bytes_below}
use Rattle.cloud_facts.specs.Chains.Chain.{NamesRight, IsVersionOf, ChainHolds}
use Rattle.cloud_facts.specs.Chains.Links.{first_link}
use Rattle.cloud_facts.proofs.Chains.Pieces.{not_itself}
use Rattle.cloud_facts.specs.Meanings.Meets.{IsPassed}
use Rattle.cloud_facts.proofs.Meanings.Steps.{not_passed, passed_right}
use Rattle.cloud_facts.specs.Words.{IsTree, Trouble, Leaf, Link, Store, Node, Leafy, IsIn}
use Rattle.db_base.specs.declared.names.ObjName.TheVariants as object
use Rattle.leaf_view.specs.Lookup.{page_at}
use Rattle.page_cache.specs.Cache.{Cache}
use Rattle.page_cache.specs.Held.{leaf_at}
use Rattle.range_scan.specs.Scan.{Scan, scan_object, scan_came_to, right_behind}
use Rattle.range_scan.proofs.Outcomes.{Leaves, Loops}
use Rattle.session_facts.specs.Machines.Scans.Knows.{IsLeafLink, IsPageBehind, StandsRight, IsFurther, LeadsRight, KnowsScanning, IsAtScannedLeaf}
use Rattle.tree_walk.specs.Walk.{Spot, is_among}
use Rattle.session_facts.specs.Machines.Walks.Caches.{IsSeenLeaf}

-- ---- lists of pages

pub none_among : (pages : List ℕ) (page : ℕ) → pages ≡ [] → is_among pages page ≡ true → ⊥
none_among [] page e there = true≢false (sym there)
none_among (p ∷ pages) page e there = absurd (cc (e))

pub among_more : (pages : List ℕ) (page other : ℕ) → is_among (pages ++ page ∷ []) other ≡ true → (is_among pages other ≡ true) ⊎ (page ≡ other)
among_more pages page other e = on (or_cases (is_among pages other) (is_among (page ∷ []) other) (sym (list_any-append (λ p. p == other) pages (page ∷ [])) ∙ e))
  where
    last : ((page == other) ≡ true) ⊎ (false ≡ true) → (is_among pages other ≡ true) ⊎ (page ≡ other)
    last (inl same) = inr (eqb-true page other same)
    last (inr never) = absurd (true≢false (sym never))

    on : (is_among pages other ≡ true) ⊎ (is_among (page ∷ []) other ≡ true) → (is_among pages other ≡ true) ⊎ (page ≡ other)
    on (inl old) = inl old
    on (inr new) = last (or_cases (page == other) false new)

-- a right page by its number
pub right_page : (n : ℕ) → n ≢ 0 → unwrap_or (page_at n) 1 ≡ n
right_page zero some = absurd (some refl)
right_page (suc n) some = refl

-- ---- a leaf of the chain

module _ (st : Store) (h : ChainHolds st) (tree : ℕ) (is : IsTree tree) where
  abbrev chain : ℕ → List Link
  chain = st.book.chain tree

  abbrev link_of : Spot → Link
  link_of p = record { low = p.low; page = p.page }

  pub version : (p : Spot) (node : Node) → IsLeafLink chain p → IsIn (st.tally.nodes tree p.page) node → IsVersionOf (chain 0) 0 (link_of p) node
  version p node linked landed = (h tree is).versions 0 (link_of p) node linked landed

  -- no page of the chain is behind itself
  never_behind : (p : Spot) → IsLeafLink chain p → IsPageBehind chain p p.page → ⊥
  never_behind p linked passed =
      not_passed chain (st.tally.nodes tree) (st.tally.roots tree) (st.tally.done tree) (st.tally.cursor tree 0) (h tree is) 0 p.page p.low p.low
      (record { linked = linked; from = not_itself p.low }) passed

  first_low : (p : Spot) → IsLeafLink chain p → p.page ≡ 1 → p.low ≡ []
  first_low p linked e = ((h tree is).levels.once 0 0 (link_of p) first_link linked (0, ap (λ (ls : List Link). slice_get ls 0) (h tree is).levels.leaves.1) e).1

  -- a leaf that is seen at a link's page has the link's low key
  pub seen_low : (p : Spot) (l : Leaf) → IsLeafLink chain p → IsSeenLeaf (st.tally.nodes tree p.page) p.page l → l.low ≡ p.low
  seen_low p l linked (inl (page, none)) = ap (λ (x : Leaf). x.low) none ∙ sym (first_low p linked page)
  seen_low p l linked (inr landed) = (version p (Leafy l) linked landed).low

  -- its right page is the page of a link further right, whose low key is its high key
  right_linked : (p : Spot) (l : Leaf) (high : List ℕ) → IsLeafLink chain p → IsSeenLeaf (st.tally.nodes tree p.page) p.page l → l.high ≡ Some high
      → IsIn (chain 0) (record { low = high; page = unwrap_or (page_at l.right) 1 }) × (bytes_below p.low high ≡ true)
  right_linked p l high linked (inl (page, none)) e = let clash : None ≡ Some high = sym (ap (λ (x : Leaf). x.high) none) ∙ e in absurd (cc (clash))
  right_linked p l high linked (inr landed) e = (subst (IsIn (chain 0)) next r.linked, ap (bytes_below p.low) low_is ∙ r.beyond)
    where
      some : l.right ≢ 0
      some none = let clash : None ≡ Some high = sym ((version p (Leafy l) linked landed).last none) ∙ e in absurd (cc (clash))

      r : NamesRight (chain 0) (link_of p) (Leafy l)
      r = (version p (Leafy l) linked landed).right some

      low_is : high ≡ r.next.low
      low_is = let both : Some high ≡ Some r.next.low = sym e ∙ r.high_is in cc

      page_is : r.next.page ≡ unwrap_or (page_at l.right) 1
      page_is = r.page_is ∙ sym (right_page l.right some)

      next : r.next ≡ record { low = high; page = unwrap_or (page_at l.right) 1 }
      next = λ i. record { low = sym low_is i; page = page_is i }

-- ---- at a leaf

-- a scan is at a leaf of the chain as it landed, and all that it came to is further left, or above, or that leaf
pub record IsAtEnd (st : Store) (s : Scan) (c : Cache) (l : Leaf) (page : ℕ) : Type 0 where
  pub known : KnowsScanning st s c
  pub in_hand : scan_object s ≡ object.Page s.walk.tree page
  pub kept : leaf_at c (object.Page s.walk.tree page) ≡ Some l
  pub linked : IsIn (st.book.chain s.walk.tree 0) (record { low = l.low; page = page })
  pub seen : IsSeenLeaf (st.tally.nodes s.walk.tree page) page l
  pub came : (other : ℕ) → scan_came_to s other ≡ true → IsPassed (st.book.chain s.walk.tree) 0 l.low other ⊎ (page ≡ other)

module _ (st : Store) (h : ChainHolds st) (s : Scan) (c : Cache) (l : Leaf) (page : ℕ) (at : IsAtEnd st s c l page) where
  abbrev links : ℕ → List Link
  links = st.book.chain s.walk.tree

  further : (high : List ℕ) → bytes_below l.low high ≡ true → (other : ℕ) → scan_came_to s other ≡ true → IsPassed links 0 high other
  further high beyond other there = on (at.came other there)
    where
      on : IsPassed links 0 l.low other ⊎ (page ≡ other) → IsPassed links 0 high other
      on (inl behind) = passed_right links 0 l.low high other beyond behind
      on (inr same) = record { height = 0; link = record { low = l.low; page = page }; linked = at.linked; page_is = same; behind = inr (refl, beyond) }

  -- the page to its right is further right than all that the scan came to
  right_further : (next : Spot) → right_behind l.high (page_at l.right) ≡ Some next → IsFurther links s next
  right_further next e = on l.high refl e
    where
      on : (high : Option (List ℕ)) → l.high ≡ high → right_behind high (page_at l.right) ≡ Some next → IsFurther links s next
      on None none f = absurd (cc (f))
      on (Some high) some f =
          let right = right_linked st h s.walk.tree at.known.scan.walk.tree (record { page = page; level = 0; low = l.low }) l high at.linked at.seen some in
          let is : record { page = unwrap_or (page_at l.right) 1; level = 0; low = high } ≡ next = cc (f) in
          subst (IsFurther links s) is (record { linked = right.0; behind = further high right.1 })

  -- so its link does not lead back
  pub loops_never : (n : Scan) (t : Trouble) → Loops s l n t → ⊥
  loops_never n t loop =
      let to = right_further loop.next loop.linked in
      never_behind st h s.walk.tree at.known.scan.walk.tree loop.next to.linked (to.behind loop.next.page loop.came)

  right_again : (next o : Option Spot) → StandsRight links s o → StandsRight links (record s { next = next }) o
  right_again next None k = k
  right_again next (Some spot) k = record { linked = k.linked; behind = k.behind }

  -- and the scan is at the leaf, with what is to its right
  pub leaves_known : (n : Scan) (p : ℕ) → Leaves s l page n p → KnowsScanning st n c × IsAtScannedLeaf st n c p
  leaves_known n p leaves =
      subst (λ (x : Scan). KnowsScanning st x c × IsAtScannedLeaf st x c p) (sym leaves.is)
      (subst (λ (q : ℕ). KnowsScanning st here c × IsAtScannedLeaf st here c q) (sym leaves.page_is) (
        record { scan = record { walk = at.known.scan.walk; right = right_again here.next s.spot at.known.scan.right }; cache = at.known.cache },
        record { leaf = l; in_hand = at.in_hand; kept = at.kept; linked = at.linked; seen = at.seen; next = on here.next refl },
      ))
    where
      here : Scan
      here = record s { next = right_behind l.high (page_at l.right) }

      on : (o : Option Spot) → right_behind l.high (page_at l.right) ≡ o → LeadsRight links here o
      on None e = tt
      on (Some next) e = let to = right_further next e in record { linked = to.linked; behind = to.behind }
