-- What is planned for a node that was got: its pieces, with the links that go to it, on numbers that are reserved for the new ones.
use Rattle.std.proofs.Common.{◌≡◌, ◌+◌, ◌-◌, ◌≤◌, ◌==◌, ℕ, suc, Bool, true, false, cond, List, [], ◌∷◌, ◌++◌, length, drop, Option, Some, None, Result, Ok, Err, refl, sym, subst, ◌∙◌, arith}
use Rattle.std.specs.Prelude.{slice_get}
use Rattle.std.proofs.lemmas.Bool.{eqb-false}
use Rattle.byte_format.specs.Format.{greatest}
use Rattle.cloud_facts.specs.Chains.Cuts.{inner_node}
use Rattle.cloud_facts.specs.Chains.Links.{top_of}
use Rattle.cloud_facts.specs.Words.{Trouble, Entry, Inner, Tree, CloudState, Claim, Lasts, Book, Store, IsIn, nodes_of, roots_of, store_of, StandsUnder}
use Rattle.node_codec.specs.Inner.{HasInnerSpelling}
use Rattle.split_plan.specs.Part.{NodePart, entry_key, part_of_node}
use Rattle.split_plan.specs.Plan.{node_bytes}
use Rattle.split_plan.specs.Sizes.{count_of}
use Rattle.cloud_facts.specs.Book.Telling.{gone_of}
use Rattle.tree_phases.proofs.Reading.{inner_is}
use Rattle.tree_phases.specs.declared.kept.KeptNode.{KeptNode}
use Rattle.tree_phases.specs.declared.link.Link.{Link as Found}
use Rattle.tree_phases.specs.declared.reserve.Reserved.{Reserved}
use Rattle.tree_phases.specs.Kept.{links_at}
use Rattle.tree_phases.specs.Read.{tree_held}
use Rattle.tree_phases.specs.Reserve.{version_spent, reservation}
use Rattle.tree_phases.specs.declared.page_plan.PagePlan.{PagePlan}
use Rattle.tree_phases.specs.declared.rising.Rising.{Rising}
use Rattle.tree_phases.specs.Nodes.{touched_at, in_pieces, planned_by, planned_of, linked_by, node_plan}
use Rattle.tree_phases.specs.Rising.{next_touched, touched_node, put_node}
use Rattle.session_facts.specs.Machines.Trees.Charts.{KnowsNode}
use Rattle.session_facts.specs.Machines.Trees.Placings.{AreReserved, IsReservation, numbered}
use Rattle.session_facts.specs.Machines.Risings.Knows.{AreApart, KnowsUpward, ReservesNodes, PutsOf, RisesOn, risen_node}
use Rattle.session_facts.proofs.Machines.Folds.Reads.{Reserving, none, some, reservation_is}
use Rattle.session_facts.proofs.Machines.Trees.Placings.{none_reserved}
use Rattle.session_facts.proofs.Machines.Risings.Grounds.{in_dropped, dropped_behind, get_dropped, apart_from, link_page, found_pages}
use Rattle.session_facts.proofs.Machines.Risings.Places.{all_placed, parts_count}
use Rattle.session_facts.proofs.Machines.Risings.Spells.{risen_fits, node_pieces_fit, root_sound, root_next}

module _ (book : Book) (order : List Entry) (s : CloudState) (stands : StandsUnder book order s) (now : ℕ) (lease : Claim) (r : Rising) (ids : List ℕ)
    (k : KnowsUpward (store_of book order s) now lease r.chart r.at ids) (no_last : r.last ≡ None) where
  abbrev st : Store
  st = store_of book order s

  abbrev tree : ℕ
  tree = r.chart.tree

  abbrev root : Tree
  root = tree_held r.chart.root

  abbrev links : List Found
  links = r.chart.links

  module _ (kept : KeptNode) (here : touched_node r ≡ Some kept) where
    abbrev place : ℕ
    place = touched_at tree links (drop r.at r.chart.nodes)

    abbrev behind : List KeptNode
    behind = drop (next_touched r + 1) r.chart.nodes

    at : slice_get (drop r.at r.chart.nodes) place ≡ Some kept
    at = get_dropped r.at place r.chart.nodes kept here

    known : KnowsNode st now lease tree kept
    known = k.nodes kept (place, at)

    abbrev risen : Inner
    risen = risen_node known.inner links

    abbrev count : ℕ
    count = count_of (length risen.entries) - 1

    behind_is : behind ≡ drop (suc place) (drop r.at r.chart.nodes)
    behind_is = dropped_behind r.at place r.chart.nodes

    apart : AreApart (kept ∷ behind)
    apart = subst (λ (ks : List KeptNode). AreApart (kept ∷ ks)) (sym behind_is) (apart_from (drop r.at r.chart.nodes) place kept at k.apart)

    -- ---- the numbers of its pieces

    page : (1 ≤ kept.page) × (kept.page ≤ greatest)
    page = let p = link_page book order s stands tree k.tree kept.level kept.low kept.page known.linked in (p.0, p.2)

    page_below : kept.page ≤ (top_of (roots_of s tree)).next
    page_below = let less = (link_page book order s stands tree k.tree kept.level kept.low kept.page known.linked).1 in omega (arith, less)

    numbers : (q : Reserved) → Reserving root kept.page count q → (1 ≤ q.first) × (q.first + count ≤ greatest)
    numbers q (none e) = let most = page.1 in (page.0, omega (arith, most, e))
    numbers q (some any bytes first is room) =
        let low = (root_next root (root_sound root k.root.spelled)).0 in
        let first_is = is.first_is in
        (omega (arith, low, first_is), omega (arith, room, first_is))

    middle_count : (first : ℕ) → length (all_placed entry_key node_bytes kept.page first (part_of_node risen)).placing.middle ≡ count
    middle_count first =
        let a = (all_placed entry_key node_bytes kept.page first (part_of_node risen)).count in
        let b = parts_count entry_key first (part_of_node risen) in
        omega (arith, a, b)

    none_in : (ps : List NodePart) → length ps ≡ 0 → ps ≡ []
    none_in [] e = refl
    none_in (p ∷ ps) e = absurd (omega (arith, e))

    abbrev Free : List NodePart → List NodePart → Type 0
    Free ps qs = AreReserved inner_node (book.chain tree) (nodes_of s tree) (gone_of s tree) (top_of (roots_of s tree)).next (numbered kept.page ps qs)

    alone : (ps qs : List NodePart) → length ps ≡ 0 → qs ≡ [] → Free ps qs
    alone ps qs e g =
        subst (λ (l : List NodePart). Free l qs) (sym (none_in ps e))
        (subst (λ (l : List NodePart). Free [] l) (sym g) (none_reserved inner_node (book.chain tree) (nodes_of s tree) (gone_of s tree) (top_of (roots_of s tree)).next kept.page page_below))

    reserved : (q : Reserved) → Reserving root kept.page count q
        → ReservesNodes st (Lasts now lease) tree root (numbered q.first (all_placed entry_key node_bytes kept.page q.first (part_of_node risen)).placing.middle (all_placed entry_key node_bytes kept.page q.first (part_of_node risen)).placing.behind) q.put
    reserved q (none e) = λ lasts.
        alone (all_placed entry_key node_bytes kept.page kept.page (part_of_node risen)).placing.middle
        (all_placed entry_key node_bytes kept.page kept.page (part_of_node risen)).placing.behind (middle_count kept.page ∙ e)
        (all_placed entry_key node_bytes kept.page kept.page (part_of_node risen)).none
    reserved q (some any bytes first is room) = (
      (all_placed entry_key node_bytes kept.page first (part_of_node risen)).none,
      subst (λ (n : ℕ). IsReservation root n first bytes) (sym (middle_count first)) is,
    )

    -- ---- the plan

    abbrev Leads : Result PagePlan Trouble → Type 0
    Leads p = RisesOn st now lease ids (put_node r (next_touched r + 1) (kept.level + 1) p)

    abbrev with_plan : PagePlan → Rising
    with_plan p = record r { chart = record r.chart { links = links ++ links_at (kept.level + 1) p.entries }; at = next_touched r + 1; placing = p.placing }

    pieces_known : (q : Reserved) → Reserving root kept.page count q → HasInnerSpelling risen → Leads (Ok (in_pieces kept.page risen q))
    pieces_known q reserves spelling = record {
      tree = k.tree;
      root = k.root;
      run = record { took = k.run.took; done = k.run.done };
      puts = puts r.last no_last;
    }
      where
        puts : (o : Option (List ℕ)) → o ≡ None → PutsOf st now lease (with_plan (in_pieces kept.page risen q)) o
        puts (Some bytes) e = absurd (cc)
        puts None e = record {
          kept = kept;
          node = known;
          nodes = λ m there. k.nodes m (in_dropped (suc place) (drop r.at r.chart.nodes) m (subst (λ (ks : List KeptNode). IsIn ks m) behind_is there));
          apart = apart;
          known = links;
          found = k.links;
          first = q.first;
          links_are = refl;
          fit = let n = numbers q reserves in node_pieces_fit q.first risen n.0 n.1 spelling;
          placing = (all_placed entry_key node_bytes kept.page q.first (part_of_node risen)).placing;
          reserves = reserved q reserves;
        }

    reserving : HasInnerSpelling risen → (o : Result Reserved Trouble) → reservation root kept.page count ≡ o → Leads (planned_by kept.page risen o)
    reserving spelling (Err t) e = tt
    reserving spelling (Ok q) e = pieces_known q (reservation_is root kept.page count k.root.spelled q e) spelling

    -- where it leads
    pub node_leads : Leads (node_plan root tree kept links)
    node_leads =
        subst (λ (x : Result Inner Trouble). Leads (planned_of root kept.page (linked_by links x))) (inner_is tree kept.page kept.bytes known.inner known.spells)
        (on (known.inner.version == 18446744073709551615) refl)
      where
        on : (b : Bool) → (known.inner.version == 18446744073709551615) ≡ b → Leads (planned_of root kept.page (cond b (Err version_spent) (Ok risen)))
        on true e = tt
        on false e =
            reserving (risen_fits known.inner links known.spells.fits (eqb-false known.inner.version 18446744073709551615 e) (found_pages book order s stands tree k.tree links k.links))
            (reservation root kept.page count) refl
