-- The pieces of an inner node with the links that go up to it: each names links of the level below, and the left one lands on the node's page.
use Rattle.std.proofs.Common.{◌≡◌, ◌+◌, ◌-◌, ◌<◌, ℕ, zero, suc, List, [], ◌∷◌, length, take, drop, Some, refl, sym, subst, ◌∙◌, arith, take-append-drop}
use Rattle.std.specs.List.{AllByRecursion}
use Rattle.cloud_facts.specs.Chains.Chain.{IsChained, IsUnlinked, IsVersionOf}
use Rattle.cloud_facts.specs.Chains.Cuts.{HaveLanded, inner_node}
use Rattle.cloud_facts.specs.Chains.Landing.{LandsInner}
use Rattle.cloud_facts.specs.Chains.Links.{NamesLinks, NamesBelow, NodeNames}
use Rattle.cloud_facts.specs.Words.{IsTree, Entry as Change, Inner, CloudState, Claim, Lasts, Book, Link, Store, Branch, IsIn, nodes_of, roots_of, store_of, StandsUnder}
use Rattle.node_codec.specs.Inner.{IsInner, first_low_of}
use Rattle.node_codec.specs.Node.{Entry}
use Rattle.split_plan.proofs.Counting.{can-cuts}
use Rattle.split_plan.proofs.Cutting.{can-behind}
use Rattle.split_plan.specs.Cut.{first_key_of, cut_by, back_part}
use Rattle.split_plan.specs.Part.{NodePart, part_of_node, entry_key}
use Rattle.split_plan.specs.Sizes.{CanCut, cuts_of}
use Rattle.cloud_facts.proofs.Book.Places.{in_front, in_behind}
use Rattle.cloud_facts.proofs.Tellings.Ready.{inner_lands}
use Rattle.cloud_facts.specs.Tellings.Pieces.{right_of, node_parts, left_inner, node_links}
use Rattle.cloud_facts.specs.Tellings.Taking.{IsLinked}
use Rattle.tree_phases.specs.declared.kept.KeptNode.{KeptNode}
use Rattle.tree_phases.specs.declared.link.Link.{Link as Found}
use Rattle.tree_phases.specs.Nodes.{with_links}
use Rattle.session_facts.specs.Machines.Trees.Charts.{AreFound, KnowsNode}
use Rattle.session_facts.proofs.Machines.Trees.Names.{links_name}

-- ---- entries that are cut

in_take : (n : ℕ) (es : List Entry) (e : Entry) → IsIn (take n es) e → IsIn es e
in_take n es e there = subst (λ (l : List Entry). IsIn l e) (take-append-drop n es) (in_front (take n es) (drop n es) e there)

in_drop : (n : ℕ) (es : List Entry) (e : Entry) → IsIn (drop n es) e → IsIn es e
in_drop n es e there = subst (λ (l : List Entry). IsIn l e) (take-append-drop n es) (in_behind (take n es) (drop n es) e there)

first_taken : (n : ℕ) (es : List Entry) → 0 < n → first_low_of (take n es) ≡ first_low_of es
first_taken zero es some = absurd (omega (arith, some))
first_taken (suc n) [] some = refl
first_taken (suc n) (e ∷ es) some = refl

first_dropped : (n : ℕ) (es : List Entry) → n < length es → first_low_of (drop n es) ≡ Some (first_key_of entry_key (drop n es))
first_dropped n [] less = absurd (omega (arith, less))
first_dropped zero (e ∷ es) less = refl
first_dropped (suc n) (e ∷ es) less = first_dropped n es (omega (arith, less))

-- each piece names links, the first of them the one with its low key
pub pieces_name : (links : List Link) (sizes : List ℕ) (last free : ℕ) (p : NodePart) → CanCut sizes last (length p.items) → NamesLinks links p.low p.items
    → AllByRecursion (λ (q : NodePart). NamesLinks links q.low q.items) (cut_by entry_key sizes free p)
pieces_name links [] last free p can names = (names, tt)
pieces_name links (n ∷ sizes) last free p can names = (
  record { names = λ e there. names.names e (in_take n p.items e there); first = first_taken n p.items can.0 ∙ names.first },
  pieces_name links sizes last (free + 1) (back_part entry_key n p) (can-behind n sizes last p.items can)
      (record { names = λ e there. names.names e (in_drop n p.items e there); first = first_dropped n p.items can.1 }),
)

-- ---- a node that was got

module _ (book : Book) (order : List Change) (s : CloudState) (stands : StandsUnder book order s) (now : ℕ) (lease : Claim) (tree : ℕ) (of_tree : IsTree tree) (kept : KeptNode)
    (known : KnowsNode (store_of book order s) now lease tree kept) (lasts : Lasts now lease) (ls : List Found) (found : AreFound (book.chain tree) ls) where
  abbrev st : Store
  st = store_of book order s

  abbrev old : Inner
  old = known.inner

  -- the node as it is put: with the links that go to it
  abbrev pub risen : Inner
  risen = record old { version = old.version + 1; entries = with_links old ls old.entries }

  chained : IsChained (book.chain tree) (nodes_of s tree) (roots_of s tree) (st.tally.done tree) (st.tally.cursor tree 0)
  chained = stands.holds.chains tree of_tree

  version : IsVersionOf (book.chain tree kept.level) kept.level (record { low = kept.low; page = kept.page }) (Branch old)
  version = chained.versions kept.level (record { low = kept.low; page = kept.page }) (Branch old) known.linked known.landed

  names : NamesBelow (book.chain tree) old.level old.low risen.entries
  names = links_name (book.chain tree) old ls old.entries found (chained.entries.of_nodes kept.page (Branch old) known.landed)

  abbrev sizes : List ℕ
  sizes = cuts_of (length risen.entries)

  -- every piece names links of the level below
  pub risen_names : (free : ℕ) → AllByRecursion (λ (q : NodePart). NamesLinks (book.chain tree (old.level - 1)) q.low q.items) (node_parts sizes free risen)
  risen_names free =
      pieces_name (book.chain tree (old.level - 1)) sizes _ free (part_of_node risen) (can-cuts (length risen.entries)) names.links

  left_names : (free : ℕ) → NodeNames (book.chain tree) (Branch (left_inner sizes free risen))
  left_names free = on sizes (risen_names free)
    where
      on : (ss : List ℕ) → AllByRecursion (λ (q : NodePart). NamesLinks (book.chain tree (old.level - 1)) q.low q.items) (node_parts ss free risen)
          → NodeNames (book.chain tree) (Branch (left_inner ss free risen))
      on [] all = record { height = names.height; links = all.0 }
      on (n ∷ ss) all = record { height = names.height; links = all.0 }

  pub risen_linked : IsLinked (book.chain tree risen.level) kept.page
  risen_linked =
      subst (λ (l : ℕ). IsLinked (book.chain tree l) kept.page) (sym version.level_is.0)
      (record { place = known.linked.0; link = record { low = kept.low; page = kept.page }; linked = known.linked.1; page_is = refl })

  -- the left piece lands on the node's page once the others landed
  pub risen_lands : (free : ℕ) (bytes : List ℕ) → IsInner bytes (left_inner sizes free risen) → HaveLanded inner_node (nodes_of s tree) free (right_of (node_parts sizes free risen))
      → ((piece : Link) → IsIn (node_links sizes free risen) piece → IsUnlinked (book.chain tree) piece.page)
      → LandsInner st tree kept.page (left_inner sizes free risen) (node_links sizes free risen)
  risen_lands free bytes is landed unlinked =
      inner_lands book order s tree of_tree stands.holds.chains stands.decodes kept.page old risen sizes free bytes risen_linked (known.newest lasts)
      (record { level = refl; low = refl; right = refl; high = refl }) is landed names.height (left_names free) unlinked
