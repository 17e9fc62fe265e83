-- The tree's lease guards what is put on the way up.
use Rattle.std.proofs.Common.{◌≡◌, ◌+◌, ◌⊎◌, inl, inr, ℕ, false, List, [], ◌∷◌, ◌++◌, length, map, reverse, Option, Some, None, refl, sym, ap, subst, ◌∙◌, arith}
use Rattle.cloud_facts.specs.Chains.Cuts.{inner_node}
use Rattle.cloud_facts.specs.Chains.Links.{top_of}
use Rattle.cloud_facts.proofs.Chains.GoneLemmas.{links_kept}
use Rattle.cloud_facts.specs.Words.{Entry, CloudState, Claim, Lasts, Book, Store, nodes_of, roots_of, store_of, StandsUnder}
use Rattle.db_base.specs.declared.names.Lock.TheVariants as lock
use Rattle.cloud_facts.specs.Leases.Guards.{IsGuarded}
use Rattle.split_plan.specs.declared.put_list.PagePut.{PagePut}
use Rattle.split_plan.specs.Part.{NodePart}
use Rattle.split_plan.specs.Plan.{put_of, on_pages, node_bytes}
use Rattle.cloud_facts.specs.Book.Telling.{gone_of}
use Rattle.session_facts.proofs.Machines.TreeCheckpoints.Guards.{reserved_page}
use Rattle.session_facts.specs.Machines.Trees.Placings.{AreReserved, numbered}
use Rattle.session_facts.specs.Machines.Risings.Knows.{ReservesNodes, PutsNode, PutsCut, PutsRoot, PutsOf, KnowsRising, whole, cut}
use Rattle.cloud_facts.specs.Calls.Pages.{IsTreePage}
use Rattle.session_facts.proofs.Machines.Trees.Placings.{last_cases, puts_more}
use Rattle.session_facts.proofs.Machines.Risings.Effects.{reserving_asked, page_asked, last_asked}
use Rattle.cloud_facts.proofs.Calls.Guarding.{tree_guard}
use Rattle.tree_phases.specs.Read.{tree_held}
use Rattle.tree_phases.specs.declared.rising.Rising.{Rising}
use Rattle.tree_phases.specs.Rising.{rising_ask}

module _ (book : Book) (order : List Entry) (s : CloudState) (stands : StandsUnder book order s) (now : ℕ) (lease : Claim) (r : Rising) (ids : List ℕ)
    (lock_is : lease.lock ≡ lock.Tree r.chart.tree) (none : r.placing.reserved ≡ None) where
  abbrev st : Store
  st = store_of book order s

  abbrev tree : ℕ
  tree = r.chart.tree

  abbrev Guarded : Type 0
  Guarded = IsGuarded s now (rising_ask r lease)

  -- a page is the tree's, and was not removed
  abbrev Own : ℕ → Type 0
  Own page = (gone_of s tree page ≡ false) × IsTreePage (nodes_of s tree) page

  -- so it is while the lease lasts
  of_page : (x : PagePut) (xs : List PagePut) → r.placing.puts ≡ x ∷ xs → (Lasts now lease → Own x.page) → Guarded
  of_page x xs puts is =
      subst (IsGuarded s now) (sym (page_asked r lease x xs none puts))
      (λ lasts. let own = is lasts.0 in inl (lock_is ∙ sym (tree_guard s tree x.page stands.decodes own.0 own.1)))

  -- ---- a node

  module _ (p : PutsNode st now lease r) where
    free : (middle : List NodePart) (last : NodePart) → p.placing.middle ≡ middle ++ last ∷ [] → Lasts now lease
        → AreReserved inner_node (book.chain tree) (nodes_of s tree) (gone_of s tree) (top_of (roots_of s tree)).next (numbered p.first (middle ++ last ∷ []) p.placing.behind)
    free middle last is lasts =
        subst (λ (m : List NodePart). AreReserved inner_node (book.chain tree) (nodes_of s tree) (gone_of s tree) (top_of (roots_of s tree)).next (numbered p.first m p.placing.behind)) is
        (subst (λ (o : Option (List ℕ)). ReservesNodes st (Lasts now lease) tree (tree_held r.chart.root) (numbered p.first p.placing.middle p.placing.behind) o) none p.reserves lasts)

    node_guarded : (p.placing.middle ≡ []) ⊎ ((front : List NodePart) × (last : NodePart) × (p.placing.middle ≡ front ++ last ∷ [])) → Guarded
    node_guarded (inl is) =
        of_page (record { page = p.kept.page; bytes = node_bytes p.placing.front }) []
        (p.placing.puts_are ∙ ap (λ (m : List NodePart). reverse (map (put_of node_bytes) (on_pages p.kept.page p.first (p.placing.front ∷ m)))) is)
        (λ lasts. (
          links_kept st stands.holds.gones tree p.kept.level (record { low = p.kept.low; page = p.kept.page }) p.node.linked,
          inr (p.node.inner, p.node.newest lasts),
        ))
    node_guarded (inr (middle, last, is)) =
        of_page (record { page = p.first + length middle; bytes = node_bytes last }) (reverse (map (put_of node_bytes) (on_pages p.kept.page p.first (p.placing.front ∷ middle))))
        (p.placing.puts_are
        ∙ (ap (λ (m : List NodePart). reverse (map (put_of node_bytes) (on_pages p.kept.page p.first (p.placing.front ∷ m)))) is
        ∙ puts_more node_bytes p.kept.page p.first p.placing.front middle last))
        (λ lasts.
        reserved_page inner_node (book.chain tree) (nodes_of s tree) (gone_of s tree) (top_of (roots_of s tree)).next p.first middle last p.placing.behind (free middle last is lasts))

  -- ---- the root

  module _ (bytes : List ℕ) (last_is : r.last ≡ Some bytes) where
    at_last : r.placing.puts ≡ [] → Guarded
    at_last empty = subst (IsGuarded s now) (sym (last_asked r lease bytes none empty last_is)) (λ lasts. inl lock_is)

    module _ (c : PutsCut st now lease r bytes) where
      root_free : (middle : List NodePart) → c.middle ≡ middle → Lasts now lease
          → AreReserved inner_node (book.chain tree) (nodes_of s tree) (gone_of s tree) (top_of (roots_of s tree)).next (numbered c.first middle c.behind)
      root_free middle is lasts =
          subst (λ (m : List NodePart). AreReserved inner_node (book.chain tree) (nodes_of s tree) (gone_of s tree) (top_of (roots_of s tree)).next (numbered c.first m c.behind)) is
          (subst (ReservesNodes st (Lasts now lease) tree (tree_held r.chart.root) (numbered c.first c.middle c.behind)) none c.reserves lasts)

      at_piece : (front : List NodePart) (last : NodePart) → c.middle ≡ front ++ last ∷ [] → Guarded
      at_piece [] last is =
          of_page (record { page = c.first; bytes = node_bytes last }) [] (c.puts_are ∙ ap (λ (m : List NodePart). reverse (map (put_of node_bytes) (on_pages c.first (c.first + 1) m))) is)
          (λ lasts.
          subst Own (omega arith)
          (reserved_page inner_node (book.chain tree) (nodes_of s tree) (gone_of s tree) (top_of (roots_of s tree)).next c.first [] last c.behind (root_free (last ∷ []) is lasts)))
      at_piece (x ∷ front) last is =
          of_page (record { page = c.first + 1 + length front; bytes = node_bytes last }) (reverse (map (put_of node_bytes) (on_pages c.first (c.first + 1) (x ∷ front))))
          (c.puts_are
          ∙ (ap (λ (m : List NodePart). reverse (map (put_of node_bytes) (on_pages c.first (c.first + 1) m))) is ∙ puts_more node_bytes c.first (c.first + 1) x front last))
          (λ lasts.
          subst Own (omega arith)
          (reserved_page inner_node (book.chain tree) (nodes_of s tree) (gone_of s tree) (top_of (roots_of s tree)).next c.first (x ∷ front) last c.behind
          (root_free ((x ∷ front) ++ last ∷ []) is lasts)))

      cut_guarded : (c.middle ≡ []) ⊎ ((front : List NodePart) × (last : NodePart) × (c.middle ≡ front ++ last ∷ [])) → Guarded
      cut_guarded (inl is) = at_last (c.puts_are ∙ ap (λ (m : List NodePart). reverse (map (put_of node_bytes) (on_pages c.first (c.first + 1) m))) is)
      cut_guarded (inr (front, last, is)) = at_piece front last is

    root_guarded : PutsRoot st now lease r bytes → Guarded
    root_guarded (whole w) = at_last w.no_page
    root_guarded (cut c) = cut_guarded c (last_cases c.middle)

  pub puts_guarded : (last : Option (List ℕ)) → r.last ≡ last → PutsOf st now lease r last → Guarded
  puts_guarded None e p = node_guarded p (last_cases p.placing.middle)
  puts_guarded (Some bytes) e p = root_guarded bytes e p

pub rising_guarded : (book : Book) (order : List Entry) (s : CloudState) → StandsUnder book order s → (now : ℕ) (lease : Claim) (r : Rising) (ids : List ℕ)
    → lease.lock ≡ lock.Tree r.chart.tree → KnowsRising (store_of book order s) now lease r ids → IsGuarded s now (rising_ask r lease)
rising_guarded book order s stands now lease r ids lock_is k = on r.placing.reserved refl
  where
    on : (o : Option (List ℕ)) → r.placing.reserved ≡ o → IsGuarded s now (rising_ask r lease)
    on (Some bytes) some = subst (IsGuarded s now) (sym (reserving_asked r lease bytes some)) (λ lasts. inl lock_is)
    on None none = puts_guarded book order s stands now lease r ids lock_is none r.last refl k.puts
