-- What the held gets of a sweep bring: the newest tree object, and of a page at hand the newest version, and where they lead.
use Rattle.std.proofs.Common.{◌≡◌, ◌≢◌, ◌+◌, ◌-◌, ◌<◌, ◌≤◌, ◌==◌, ℕ, zero, suc, Bool, true, false, cond, List, [], Option, Some, None, Result, Ok, Err, refl, sym, ap, subst, ◌∙◌, arith}
use Rattle.std.specs.Prelude.{slice_get}
use Rattle.std.proofs.lemmas.Bool.{eqb-true, eqb-false, eq-eqb}
use Rattle.byte_format.proofs.OrderLemmas.{same_itself}
use Rattle.byte_format.specs.Order.{bytes_same}
use Rattle.cloud_facts.specs.Words.{IsTree, Trouble, Entry, Leaf, Inner, Tree, CloudState, newest, Book, Link, Store, Node, Leafy, Branch, IsIn, StandsAt, nodes_of, roots_of, store_of, StandsUnder}
use Rattle.cloud_facts.specs.Book.Tally.{low_of}
use Rattle.cloud_facts.specs.Book.Telling.{last_or, leaf_in, gone_of, newest_leaf, newest_root}
use Rattle.cloud_facts.specs.Chains.Chain.{IsChained}
use Rattle.cloud_facts.specs.Chains.Links.{newest_node, top_of, page_after, low_after, IsOfLevel, EndsBefore, NamesBelow}
use Rattle.cloud_facts.specs.Decoding.Kinds.{IsNode}
use Rattle.cloud_facts.proofs.Calls.Pages.{none_landed, no_root}
use Rattle.cloud_facts.proofs.Chains.GoneLemmas.{links_kept}
use Rattle.cloud_facts.proofs.Chains.Newest.{IsNewestOf, newest_is, last_in}
use Rattle.cloud_facts.proofs.Decoding.Values.{newest_page_decodes, newest_root_decodes}
use Rattle.db_base.specs.declared.names.ObjName.TheVariants as object
use Rattle.db_base.specs.declared.trouble.Trouble.TheVariants as trouble
use Rattle.leaf_view.specs.Leaf.{IsLeaf}
use Rattle.leaf_view.specs.Lookup.{empty_leaf, page_at}
use Rattle.node_codec.specs.Inner.{IsInner}
use Rattle.node_codec.specs.Node as node
use Rattle.node_codec.proofs.SpellingLaws.{tree_only}
use Rattle.orphan_sweep.specs.declared.paths.Link.{Link as Found}
use Rattle.orphan_sweep.specs.declared.paths.Paths.{Paths}
use Rattle.orphan_sweep.specs.declared.spot.Spot.{Spot}
use Rattle.orphan_sweep.specs.Pages.{root_or, root_held, first_page, link_by, leaf_paths, inner_paths, leaf_held, inner_held, fenced, leaf_at, levelled, inner_at, paths_of}
use Rattle.session_facts.specs.Machines.Sweeps.Places.{IsReading}
use Rattle.session_facts.proofs.Machines.Sweeps.Firsts.{begin_of, first_below}
use Rattle.tree_phases.proofs.Reading.{leaf_is, inner_is}
use Rattle.tree_phases.specs.Read.{damaged}

-- ---- the right page

-- a link as a page names it
abbrev pub link_after : Option Link → Option Found
link_after None = None
link_after (Some next) = Some (record { page = next.page; low = next.low })

leaf_page : (n : ℕ) → 1 ≤ n → page_at n ≡ Some n
leaf_page zero some = absurd (omega (arith, some))
leaf_page (suc n) some = refl

node_page : (n : ℕ) → 1 ≤ n → node.page_at n ≡ Some n
node_page n some = on (n == 0) refl
  where
    on : (b : Bool) → (n == 0) ≡ b → cond b None (Some n) ≡ Some n
    on true e = let none : n ≡ 0 = eqb-true n 0 e in absurd (omega (arith, none, some))
    on false e = refl

-- pages are above 0
abbrev pub IsAbove : Option Link → Type 0
IsAbove None = Unit {0}
IsAbove (Some next) = 1 ≤ next.page

-- what is at a page number leads to the next link
links_to : (at : ℕ → Option ℕ) → at 0 ≡ None → ((n : ℕ) → 1 ≤ n → at n ≡ Some n) → (right : ℕ) (high : Option (List ℕ)) (next : Option Link) → IsAbove next
    → right ≡ page_after next → high ≡ low_after next → link_by (at right) high ≡ link_after next
links_to at zero_is some_is right high None above r h =
    ap (λ (n : ℕ). link_by (at n) high) r ∙ (ap (λ (o : Option ℕ). link_by o high) zero_is ∙ ap (λ (o : Option (List ℕ)). link_by None o) h)
links_to at zero_is some_is right high (Some next) above r h =
    ap (λ (n : ℕ). link_by (at n) high) r
    ∙ (ap (λ (o : Option ℕ). link_by o high) (some_is next.page above) ∙ ap (λ (o : Option (List ℕ)). link_by (Some next.page) o) h)

-- ---- nodes of a level

leafy : (x : Node) → IsOfLevel 0 x → x ≡ Leafy (leaf_in x)
leafy (Leafy l) level = refl
leafy (Branch n) level = absurd (omega (arith, level.1))

branch_of : (level : ℕ) (x : Node) → 0 < level → IsOfLevel level x → (n : Inner) × (x ≡ Branch n) × (n.level ≡ level)
branch_of level (Leafy l) above is = absurd (omega (arith, above, is))
branch_of level (Branch n) above is = (n, refl, is.0)

-- ---- where a page leads

-- a page at a place of a level leads to the next link, where there is one, and above the leaves further down: the leftmost one to the first link below
pub record LeadsFurther (chain : ℕ → List Link) (level place : ℕ) (paths : Paths) : Type 0 where
  pub right : paths.right ≡ link_after (slice_get (chain level) (place + 1))
  pub leaf : level ≡ 0 → paths.down ≡ None
  pub down : 0 < level → (page : ℕ) × (paths.down ≡ Some page) × (place ≡ 0 → StandsAt (chain (level - 1)) 0 (record { low = []; page = page }))

-- a page with the low key that led to it
same_fence : (spot : Spot) (low : List ℕ) (paths : Paths) → low ≡ spot.low → fenced spot low paths ≡ Ok paths
same_fence spot low paths e =
    let fits : bytes_same spot.low low ≡ true = ap (bytes_same spot.low) e ∙ same_itself spot.low in
    ap (λ (b : Bool). cond b (Ok paths) (Err (trouble.BadFence spot.page spot.low low))) fits

module _ (book : Book) (order : List Entry) (s : CloudState) (stands : StandsUnder book order s) (tree : ℕ) (of_tree : IsTree tree) where
  abbrev st : Store
  st = store_of book order s

  abbrev chain : ℕ → List Link
  chain = book.chain tree

  chained : IsChained chain (nodes_of s tree) (roots_of s tree) (st.tally.done tree) (st.tally.cursor tree 0)
  chained = stands.holds.chains tree of_tree

  -- ---- the tree object

  root_seen : (got : Option (List ℕ)) → newest s (object.Tree tree) ≡ got → root_held tree got ≡ Ok (top_of (roots_of s tree))
  root_seen None e = ap (λ (t : Tree). Ok t) (sym (no_root s tree stands.decodes e))
  root_seen (Some bytes) e =
      ap (λ (o : Option Tree). root_or tree bytes o) (tree_only bytes (newest_root (roots_of s) tree) (newest_root_decodes s tree bytes stands.decodes e))

  pub root_reads : (got : Option (List ℕ)) → got ≡ newest s (object.Tree tree) → root_held tree got ≡ Ok (top_of (roots_of s tree))
  root_reads got e = root_seen got (sym e)

  -- ---- a page at hand

  module _ (spot : Spot) (visited : List ℕ) (k : IsReading chain spot visited) where
    abbrev link : Link
    link = record { low = spot.low; page = spot.page }

    abbrev next : Option Link
    next = slice_get (chain spot.level) (k.place + 1)

    linked : IsIn (chain spot.level) link
    linked = (k.place, k.linked)

    abbrev newest_version : Node
    newest_version = newest_node (nodes_of s tree) spot.page

    newest_of : IsNewestOf spot.level link newest_version
    newest_of =
        newest_is chain (nodes_of s tree) (newest_root (roots_of s) tree).level chained.levels chained.versions chained.newest spot.level link linked

    ends : EndsBefore newest_version next
    ends = chained.newest.ends spot.level k.place link k.linked

    above : IsAbove next
    above = on next refl
      where
        on : (o : Option Link) → next ≡ o → IsAbove o
        on None e = tt
        on (Some x) e = (chained.pages.linked spot.level x (k.place + 1, e)).0

    there : gone_of s tree spot.page ≡ false
    there = links_kept st stands.holds.gones tree spot.level link linked

    -- where nothing is brought the page is page 1, as the empty leaf
    nothing : newest s (object.Page tree spot.page) ≡ None → nodes_of s tree spot.page ≡ []
    nothing none = none_landed s tree spot.page stands.decodes there none

    abbrev Reads : Result Paths Trouble → Type 0
    Reads found = (paths : Paths) × (found ≡ Ok paths) × LeadsFurther chain spot.level k.place paths

    -- ---- a leaf

    module _ (low_level : spot.level ≡ 0) where
      abbrev leaf : Leaf
      leaf = newest_leaf (nodes_of s) tree spot.page

      leaf_newest : newest_version ≡ Leafy leaf
      leaf_newest = leafy newest_version (subst (λ (l : ℕ). IsOfLevel l newest_version) low_level newest_of.level_is)

      leaf_ends : EndsBefore (Leafy leaf) next
      leaf_ends = subst (λ (n : Node). EndsBefore n next) leaf_newest ends

      leaf_low : leaf.low ≡ spot.low
      leaf_low = ap low_of (sym leaf_newest) ∙ newest_of.low

      leaf_brought : (got : Option (List ℕ)) → newest s (object.Page tree spot.page) ≡ got → leaf_held tree spot.page got ≡ Ok leaf
      leaf_brought None e =
          let none = nothing e in
          let first : (spot.page == 1) ≡ true = eq-eqb spot.page 1 (chained.newest.absent spot.level link linked none).1 in
          let empty : leaf ≡ empty_leaf = ap (λ (ns : List Node). leaf_in (last_or (Leafy empty_leaf) ns)) none in
          ap (λ (b : Bool). cond b (Ok empty_leaf) (Err (trouble.Absent spot.page))) first ∙ ap (λ (l : Leaf). Ok l) (sym empty)
      leaf_brought (Some bytes) e =
          let spells : IsLeaf bytes leaf = subst (λ (n : Node). IsNode bytes n) leaf_newest (newest_page_decodes s tree spot.page bytes stands.decodes e) in
          sym (leaf_is tree spot.page bytes leaf spells)

      leaf_leads : LeadsFurther chain spot.level k.place (leaf_paths leaf)
      leaf_leads = record {
        right = links_to page_at refl leaf_page leaf.right leaf.high next above leaf_ends.right leaf_ends.high;
        leaf = λ low. refl;
        down = λ high. absurd (omega (arith, high, low_level));
      }

      leaf_reads : (got : Option (List ℕ)) → newest s (object.Page tree spot.page) ≡ got → Reads (leaf_at spot (leaf_held tree spot.page got))
      leaf_reads got e =
          (leaf_paths leaf, ap (leaf_at spot) (leaf_brought got e) ∙ same_fence spot leaf.low (leaf_paths leaf) leaf_low, leaf_leads)

    -- ---- an inner node

    module _ (high_level : 0 < spot.level) where
      inner : (n : Inner) × (newest_version ≡ Branch n) × (n.level ≡ spot.level)
      inner = branch_of spot.level newest_version high_level newest_of.level_is

      inner_ends : EndsBefore (Branch inner.0) next
      inner_ends = subst (λ (n : Node). EndsBefore n next) inner.1 ends

      inner_low : inner.0.low ≡ spot.low
      inner_low = ap low_of (sym inner.1) ∙ newest_of.low

      some : nodes_of s tree spot.page ≢ []
      some e = let level = (chained.newest.absent spot.level link linked e).0 in absurd (omega (arith, high_level, level))

      landed : IsIn (nodes_of s tree spot.page) (Branch inner.0)
      landed = subst (λ (n : Node). IsIn (nodes_of s tree spot.page) n) inner.1 (last_in (Leafy empty_leaf) (nodes_of s tree spot.page) some)

      inner_brought : (got : Option (List ℕ)) → newest s (object.Page tree spot.page) ≡ got → inner_held tree spot.page got ≡ Ok inner.0
      inner_brought None e = absurd (some (nothing e))
      inner_brought (Some bytes) e =
          let spells : IsInner bytes inner.0 = subst (λ (n : Node). IsNode bytes n) inner.1 (newest_page_decodes s tree spot.page bytes stands.decodes e) in
          sym (inner_is tree spot.page bytes inner.0 spells)

      names : NamesBelow chain spot.level spot.low inner.0.entries
      names =
          subst (λ (low : List ℕ). NamesBelow chain spot.level low inner.0.entries) inner_low
          (subst (λ (l : ℕ). NamesBelow chain l inner.0.low inner.0.entries) inner.2 (chained.entries.of_nodes spot.page (Branch inner.0) landed))

      -- the leftmost page of a level has the empty low key
      leftmost_low : k.place ≡ 0 → spot.low ≡ []
      leftmost_low first =
          let begins = begin_of chain (nodes_of s tree) (roots_of s tree) (st.tally.done tree) (st.tally.cursor tree 0) chained spot.level link linked in
          let at : StandsAt (chain spot.level) 0 link = subst (λ (n : ℕ). StandsAt (chain spot.level) n link) first k.linked in
          let both : Some link ≡ Some begins.0 = sym at ∙ begins.1 in
          let same : link ≡ begins.0 = cc (both) in
          ap (λ (l : Link). l.low) same ∙ begins.2

      first_down : k.place ≡ 0 → StandsAt (chain (spot.level - 1)) 0 (record { low = []; page = first_page inner.0.entries })
      first_down first =
          first_below chain (nodes_of s tree) (roots_of s tree) (st.tally.done tree) (st.tally.cursor tree 0) chained spot.level inner.0.entries
          (subst (λ (low : List ℕ). NamesBelow chain spot.level low inner.0.entries) (leftmost_low first) names)

      inner_leads : LeadsFurther chain spot.level k.place (inner_paths inner.0)
      inner_leads = record {
        right = links_to node.page_at refl node_page inner.0.right inner.0.high next above inner_ends.right inner_ends.high;
        leaf = λ low. absurd (omega (arith, high_level, low));
        down = λ high. (first_page inner.0.entries, refl, first_down);
      }

      on_level : levelled tree spot inner.0 ≡ fenced spot inner.0.low (inner_paths inner.0)
      on_level =
          ap (λ (b : Bool). cond b (fenced spot inner.0.low (inner_paths inner.0)) (Err (damaged tree spot.page 10))) (eq-eqb inner.0.level spot.level inner.2)

      inner_reads : (got : Option (List ℕ)) → newest s (object.Page tree spot.page) ≡ got → Reads (inner_at tree spot (inner_held tree spot.page got))
      inner_reads got e = (
        inner_paths inner.0,
        ap (inner_at tree spot) (inner_brought got e) ∙ (on_level ∙ same_fence spot inner.0.low (inner_paths inner.0) inner_low),
        inner_leads,
      )

    -- ---- either

    above_zero : (n : ℕ) → n ≢ 0 → 0 < n
    above_zero zero ne = absurd (ne refl)
    above_zero (suc n) ne = omega arith

    pub page_reads : (got : Option (List ℕ)) → got ≡ newest s (object.Page tree spot.page) → Reads (paths_of tree spot got)
    page_reads got e = on (spot.level == 0) refl
      where
        on : (b : Bool) → (spot.level == 0) ≡ b → Reads (cond b (leaf_at spot (leaf_held tree spot.page got)) (inner_at tree spot (inner_held tree spot.page got)))
        on true is = leaf_reads (eqb-true spot.level 0 is) got (sym e)
        on false is = inner_reads (above_zero spot.level (eqb-false spot.level 0 is)) got (sym e)
