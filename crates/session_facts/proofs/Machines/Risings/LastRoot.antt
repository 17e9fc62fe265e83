-- The put of a checkpoint's last root: its cursor goes on by the run, and it names the links that go up to it.
use Rattle.std.proofs.Common.{◌≡◌, ◌+◌, ◌<◌, ◌≤◌, ◌⊎◌, inl, inr, ℕ, List, [], ◌∷◌, length, map, Option, None, refl, sym, ap, subst, ◌∙◌, arith}
use Rattle.std.specs.Prelude.{slice_get}
use Rattle.cloud_facts.specs.Chains.Chain.{IsUnlinked}
use Rattle.cloud_facts.specs.Chains.Cuts.{links_on, HaveLanded, inner_node}
use Rattle.cloud_facts.specs.Chains.Landing.{LandsRoot, Raises}
use Rattle.cloud_facts.specs.Chains.Links.{link_of, top_of}
use Rattle.cloud_facts.proofs.Chains.Pieces.{in_first, in_rest, in_cases, none_in}
use Rattle.cloud_facts.specs.Words.{IsClient, IsTree, Entry, PuItem, Tree, CloudState, Caller, Claim, PutHeld, Book, Link, Store, IsIn, nodes_of, roots_of, store_of, StandsUnder}
use Rattle.db_base.specs.Change.{key_of}
use Rattle.db_base.specs.Cursor.{number_of}
use Rattle.db_base.specs.declared.names.ObjName.TheVariants as object
use Rattle.cloud_facts.specs.Landings.Landing.{Landing, puts_root, raises_root}
use Rattle.node_codec.specs.Inner.{node_of_root, first_low_of}
use Rattle.node_codec.specs.Node.{Entry as Child}
use Rattle.node_codec.specs.Tree.{IsTree as SpellsTree}
use Rattle.run_cursor.specs.Run.{IsRun}
use Rattle.session_facts.specs.Machines.Runs.Knows.{IsCoveredBy, MayDelete}
use Rattle.session_facts.proofs.Machines.Runs.Received.{message_client}
use Rattle.split_plan.specs.Part.{NodePart, part_of_node, entry_key}
use Rattle.split_plan.specs.Plan.{on_pages, entry_of, child_of, root_pieces, root_above}
use Rattle.split_plan.specs.Sizes.{cuts_of}
use Rattle.cloud_facts.specs.Book.Effects.{after_root, after_raise}
use Rattle.cloud_facts.specs.Book.Premises.{IsItemOf, CoversApplied, AreThere}
use Rattle.cloud_facts.proofs.Tellings.Fences.{cut_links, level_pieces, level_ascends, pages_distinct}
use Rattle.cloud_facts.proofs.Tellings.Names.{at2_same}
use Rattle.cloud_facts.proofs.Tellings.Sound.{nodes_rise}
use Rattle.cloud_facts.specs.Tellings.Pieces.{right_of}
use Rattle.tree_phases.specs.Root.{new_pages}
use Rattle.session_facts.specs.Machines.Risings.Knows.{IsRaised}
use Rattle.session_facts.proofs.Machines.Risings.Covers.{covers, raised_number}

-- ---- the entries of pieces

-- what an entry says of a link
abbrev pub entry_for : Link → Child
entry_for a = (a.low, a.page)

entries_are : (page : ℕ) (ps : List NodePart) → map child_of (map entry_of (on_pages page (page + 1) ps)) ≡ map entry_for (links_on page ps)
entries_are page [] = refl
entries_are page (p ∷ ps) = ap (λ (l : List Child). (p.low, page) ∷ l) (entries_are (page + 1) ps)

entries_name : (links : List Link) (e : Child) → IsIn (map entry_for links) e → IsIn links (link_of e)
entries_name [] e is = absurd (none_in e is)
entries_name (a ∷ links) e is = on (entries_name links e) (in_cases (entry_for a) (map entry_for links) e is)
  where
    on : (IsIn (map entry_for links) e → IsIn links (link_of e)) → (entry_for a ≡ e) ⊎ IsIn (map entry_for links) e → IsIn (a ∷ links) (link_of e)
    on again (inl same) = subst (λ (x : Child). IsIn (a ∷ links) (link_of x)) same (in_first a links)
    on again (inr k) = in_rest a links (link_of e) (again k)

module _ (book : Book) (order : List Entry) (s : CloudState) (stands : StandsUnder book order s) (tree : ℕ) (of_tree : IsTree tree) (root : Tree) (newest : top_of (roots_of s tree) ≡ root)
    (cursor_top : List (ℕ × ℕ)) (last : Tree) (raised_is : IsRaised (book.chain tree) root cursor_top last) (keeps : last.next ≡ root.next) (received run : List PuItem)
    (is_run : IsRun root.cursor received run cursor_top) (items : (x : PuItem) → IsIn received x → IsItemOf (store_of book order s) tree 0 x)
    (applied : (x : PuItem) → IsIn run x → x.rec.number ≤ (store_of book order s).tally.done tree (key_of x.rec.change) 0 x.rec.client) where
  abbrev st : Store
  st = store_of book order s

  cursor_is : (client : ℕ) → number_of root.cursor client ≡ st.tally.cursor tree 0 client
  cursor_is client = ap (λ (t : Tree). number_of t.cursor client) (sym newest)

  pub last_covers : (t : Tree) → t.cursor ≡ last.cursor → CoversApplied st tree t
  last_covers t same = covers st tree stands.holds.numbers root.cursor cursor_top received run is_run cursor_is items applied t (same ∙ raised_is.cursor)

  -- no page is reserved
  top_next : last.next ≡ (top_of (roots_of s tree)).next
  top_next = keeps ∙ ap (λ (t : Tree). t.next) (sym newest)

  -- ---- it is not cut

  pub lands_root : LandsRoot st tree last
  lands_root = record {
    level = raised_is.level ∙ ap (λ (t : Tree). t.level) (sym newest);
    pages = 0;
    next = let same = top_next in omega (arith, same);
    few = inl (omega arith);
    names = raised_is.names;
  }

  abbrev pub last_landing : (who : Caller) (bytes : List ℕ) (one : Claim) (two : Option Claim) → SpellsTree bytes last → Landing who st (PutHeld (object.Tree tree) bytes one two) (after_root tree last st)
  last_landing who bytes one two spells = puts_root tree last bytes one two of_tree spells (last_covers last refl) lands_root

  -- ---- it is cut into pieces that landed, and the root above them is one level higher

  abbrev pub above : ℕ → Tree
  above first = root_above (new_pages first last) last

  abbrev pub piece_links : ℕ → List Link
  piece_links first = links_on first (root_pieces first last)

  pub raises : (first : ℕ) → HaveLanded inner_node (nodes_of s tree) first (root_pieces first last)
      → ((piece : Link) → IsIn (piece_links first) piece → IsUnlinked (book.chain tree) piece.page)
      → Raises st tree (above first) last.level (piece_links first)
  raises first landed unlinked = record {
    level_is = level_is;
    height = refl;
    next = top_next;
    names = record {
      names = λ e is. entries_name (piece_links first) e (subst (λ (es : List Child). IsIn es e) (entries_are first (root_pieces first last)) is);
      first = ap first_low_of (entries_are first (root_pieces first last)) ∙ ap (λ (l : List Link). first_low_of (map entry_for l)) links_are;
    };
    begins = (record { low = []; page = first }, ap (λ (l : List Link). slice_get l 0) links_are, refl);
    ascends =
        level_ascends entry_key (cuts_of (length last.entries)) first (first + 1) (part_of_node (node_of_root last))
        (nodes_rise s tree first (root_pieces first last) stands.decodes landed);
    pieces_are =
        level_pieces entry_key inner_node (record { low = λ p. refl; right = λ p. refl; high = λ p. refl }) (nodes_of s tree) last.level (cuts_of (length last.entries)) first
        (part_of_node (node_of_root last)) (λ q e. (e, some)) None (record { right = refl; high = refl }) landed;
    new = record { unlinked = unlinked; distinct = pages_distinct first (root_pieces first last) };
  }
    where
      level_is : last.level ≡ (top_of (roots_of s tree)).level
      level_is = raised_is.level ∙ ap (λ (t : Tree). t.level) (sym newest)

      some : 0 < last.level
      some = raised_is.names.height

      links_are : piece_links first ≡ record { low = []; page = first } ∷ links_on (first + 1) (right_of (root_pieces first last))
      links_are = cut_links entry_key (cuts_of (length last.entries)) first (first + 1) (part_of_node (node_of_root last))

  abbrev pub raise_landing : (who : Caller) (bytes : List ℕ) (one : Claim) (two : Option Claim) (first : ℕ) → HaveLanded inner_node (nodes_of s tree) first (root_pieces first last)
      → ((piece : Link) → IsIn (piece_links first) piece → IsUnlinked (book.chain tree) piece.page) → AreThere st tree (piece_links first) → SpellsTree bytes (above first)
      → Landing who st (PutHeld (object.Tree tree) bytes one two) (after_raise tree (above first) last.level (piece_links first) st)
  raise_landing who bytes one two first landed unlinked there spells =
      raises_root tree (above first) last.level (piece_links first) bytes one two of_tree spells (last_covers (above first) refl) (raises first landed unlinked) there

  -- ---- then the messages that the run covers may be deleted

  pub may_delete : (new : Tree) → new.cursor ≡ last.cursor → (ids : List ℕ) → ((id : ℕ) → IsIn ids id → IsCoveredBy (number_of cursor_top) st tree 0 id)
      → MayDelete (after_root tree new st) tree 0 ids
  may_delete new same ids covered id is =
      let c = covered id is in
      let rises = upto c.0.client (message_client (st.tally.posts tree 0) id c.0 c.1) in
      let le = c.2 in
      (c.0, c.1, omega (arith, le, rises))
    where
      upto : (client : ℕ) → IsClient client → number_of cursor_top client ≤ (after_root tree new st).tally.cursor tree 0 client
      upto client is =
          let now = ap (λ (f : ℕ → ℕ). f client) (at2_same tree 0 (λ c. number_of new.cursor c) st.tally.cursor tree 0 refl refl) in
          let then_is = ap (λ (c : List (ℕ × ℕ)). number_of c client) (same ∙ raised_is.cursor) ∙ raised_number root.cursor cursor_top client is in
          omega (arith, now, then_is)
