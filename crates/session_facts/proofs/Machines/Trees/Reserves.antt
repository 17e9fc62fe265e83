-- The put of a root that reserves numbers: it rests on nothing new, and its numbers are free behind it.
use Rattle.std.proofs.Common.{◌≡◌, ◌+◌, ◌≢◌, ◌-◌, ◌≤◌, ◌⊎◌, inl, inr, ℕ, zero, false, List, [], ◌∷◌, ◌++◌, length, Option, Some, None, refl, sym, ap, subst, ◌∙◌, arith}
use Rattle.cloud_facts.specs.Chains.Chain.{IsChained}
use Rattle.cloud_facts.specs.Chains.Landing.{LandsRoot, MayReserve}
use Rattle.cloud_facts.proofs.Chains.GoneLemmas.{absent_kept}
use Rattle.cloud_facts.specs.Chains.Links.{first_link, link_of, top_of, NamesBelow}
use Rattle.cloud_facts.proofs.Chains.Newest.{last_in}
use Rattle.cloud_facts.proofs.Chains.Pieces.{in_first, in_cases, none_in}
use Rattle.cloud_facts.proofs.Chains.Roots.{top_added}
use Rattle.cloud_facts.specs.Words.{IsTree, Entry, Tree, CloudState, Caller, Claim, PutHeld, Book, Link, Store, Node, IsIn, nodes_of, roots_of, store_of, StandsUnder}
use Rattle.db_base.specs.Cursor.{number_of}
use Rattle.db_base.specs.declared.names.ObjName.TheVariants as object
use Rattle.cloud_facts.specs.Landings.Landing.{Landing, puts_root}
use Rattle.byte_format.specs.Format.{greatest}
use Rattle.node_codec.proofs.EntryLemmas.{fits_to_last}
use Rattle.node_codec.proofs.NodeLemmas.{in_range_from, in_range_parts}
use Rattle.node_codec.proofs.TreeLemmas.{tree_fits, fit_tree}
use Rattle.node_codec.specs.Node.{Entry as Child}
use Rattle.node_codec.specs.Tree.{IsTree as SpellsTree, HasTreeSpelling, tree_bytes, empty_tree}
use Rattle.split_plan.specs.Part.{Part}
use Rattle.cloud_facts.specs.Book.Effects.{after_root}
use Rattle.cloud_facts.specs.Book.Premises.{CoversApplied}
use Rattle.cloud_facts.specs.Book.Telling.{gone_of}
use Rattle.cloud_facts.proofs.Book.Names.{at_same}
use Rattle.cloud_facts.proofs.Book.Places.{in_behind}
use Rattle.cloud_facts.proofs.Tellings.Names.{at2_same}
use Rattle.tree_phases.specs.Read.{tree_held}
use Rattle.session_facts.specs.Machines.Trees.Charts.{IsRootOf, KnowsRoot}
use Rattle.session_facts.specs.Machines.Trees.Placings.{numbered, AreReserved, reserving, IsReservation}
use Rattle.session_facts.proofs.Machines.Trees.Placings.{fresh_reserved}
use Rattle.tree_phases.proofs.Held.{held_spelled}

-- ---- roots

-- the newest root is one that landed, or that of a tree that was never put
pub newest_root_of : (roots : List Tree) → IsRootOf roots (top_of roots)
newest_root_of [] = inl refl
newest_root_of (r ∷ rs) = inr (last_in empty_tree (r ∷ rs) (λ e. never e))
  where
    never : r ∷ rs ≡ [] → ⊥
    never e = cc

-- its entries name links of the level below
pub root_names : (chain : ℕ → List Link) (nodes : ℕ → List Node) (roots : List Tree) (done : List ℕ → ℕ → ℕ → ℕ) (cursor : ℕ → ℕ) → IsChained chain nodes roots done cursor
    → (root : Tree) → IsRootOf roots root → NamesBelow chain root.level [] root.entries
root_names chain nodes roots done cursor h root (inr landed) = h.entries.of_roots root landed
root_names chain nodes roots done cursor h root (inl none) =
    subst (λ (r : Tree). NamesBelow chain r.level [] r.entries) (sym none) (record { height = omega arith; links = record { names = λ e k. only e k; first = refl } })
  where
    only : (e : Child) → IsIn empty_tree.entries e → IsIn (chain 0) (link_of e)
    only e k = on (in_cases ([], 1) [] e k)
      where
        first : IsIn (chain 0) first_link
        first = subst (λ (ls : List Link). IsIn ls first_link) (sym h.levels.leaves.1) (in_first first_link h.levels.leaves.0)

        on : (([], 1) ≡ e) ⊎ IsIn {A = Child} [] e → IsIn (chain 0) (link_of e)
        on (inl is) = subst (λ (x : Child). IsIn (chain 0) (link_of x)) is first
        on (inr none) = absurd (none_in e none)

pub spelled_root : (t : Tree) → HasTreeSpelling t → SpellsTree (tree_bytes t) t
unfolding tree_bytes
spelled_root t fits = record { fits = fits; is = refl }

-- a root with more numbers reserved has a spelling, where its version and its numbers do
pub reserving_fits : (count : ℕ) (root : Tree) → (root ≡ empty_tree) ⊎ HasTreeSpelling root → root.version ≢ greatest → root.next + count ≤ greatest → HasTreeSpelling (reserving count root)
reserving_fits count root (inl none) spare room =
    subst (λ (t : Tree). HasTreeSpelling (reserving count t)) (sym none)
    (fit_tree (reserving count empty_tree) (record {
      version = refl;
      next = let n : empty_tree.next + count ≤ greatest = subst (λ (t : Tree). t.next + count ≤ greatest) none room in in_range_from 2 greatest (2 + count) (omega arith) n;
      level = refl;
      cursor = refl;
      entries = fits_to_last [] None 1 (2 + count - 1) false None empty_tree.entries (omega arith) refl;
    }))
reserving_fits count root (inr fits) spare room =
    let f = tree_fits root fits in
    let version = in_range_parts 1 greatest root.version f.version in
    let next = in_range_parts 2 greatest root.next f.next in
    let most = version.1 in
    let least = next.0 in
    fit_tree (reserving count root) (record {
      version = in_range_from 1 greatest (root.version + 1) (omega arith) (omega (arith, most, spare));
      next = in_range_from 2 greatest (root.next + count) (omega (arith, least)) room;
      level = f.level;
      cursor = f.cursor;
      entries = fits_to_last [] None (root.next - 1) (root.next + count - 1) false None root.entries (omega arith) f.entries;
    })

-- and so has one whose version stays
pub numbered_fits : (count : ℕ) (root : Tree) → HasTreeSpelling root → root.next + count ≤ greatest → HasTreeSpelling (record root { next = root.next + count })
numbered_fits count root fits room =
    let f = tree_fits root fits in
    let least = (in_range_parts 2 greatest root.next f.next).0 in
    fit_tree (record root { next = root.next + count }) (record {
      version = f.version;
      next = in_range_from 2 greatest (root.next + count) (omega (arith, least)) room;
      level = f.level;
      cursor = f.cursor;
      entries = fits_to_last [] None (root.next - 1) (root.next + count - 1) false None root.entries (omega arith) f.entries;
    })

-- ---- a root with the newest one's cursor

module _ (book : Book) (order : List Entry) (s : CloudState) (stands : StandsUnder book order s) (tree : ℕ) (of_tree : IsTree tree) where
  abbrev st : Store
  st = store_of book order s

  abbrev top : Tree
  top = top_of (roots_of s tree)

  chained : IsChained (book.chain tree) (nodes_of s tree) (roots_of s tree) (st.tally.done tree) (st.tally.cursor tree 0)
  chained = stands.holds.chains tree of_tree

  -- what the cursor covers is applied
  pub same_covers : (root : Tree) → root.cursor ≡ top.cursor → CoversApplied st tree root
  same_covers root same = record {
    rises = λ client is. let e = at_client client in omega (arith, e);
    within = λ client is. let e = at_client client in let w = stands.holds.numbers.cursor_within tree 0 client is in omega (arith, e, w);
    applied = λ r logged tree_is page_is le.
        let e = at_client r.client in
        let under : r.number ≤ st.tally.cursor tree 0 r.client = omega (arith, le, e) in
        stands.holds.numbers.covered r logged
        (subst (λ t. r.number ≤ st.tally.cursor t r.page r.client) (sym tree_is) (subst (λ p. r.number ≤ st.tally.cursor tree p r.client) (sym page_is) under));
  }
    where
      at_client : (client : ℕ) → number_of root.cursor client ≡ st.tally.cursor tree 0 client
      at_client client = ap (λ (c : List (ℕ × ℕ)). number_of c client) same

  -- ---- the reservation

  module _ (who : Caller) (one : Claim) (two : Option Claim) (root : Tree) (newest : top ≡ root) (count first : ℕ) (bytes : List ℕ) (is : IsReservation root count first bytes) where
    abbrev next : Tree
    next = reserving count root

    pub lands_root : MayReserve st tree count → LandsRoot st tree next
    lands_root few = record {
      level = ap (λ (t : Tree). t.level) (sym newest);
      pages = count;
      next = ap (λ (t : Tree). t.next + count) (sym newest);
      few = few;
      names = root_names (book.chain tree) (nodes_of s tree) (roots_of s tree) (st.tally.done tree) (st.tally.cursor tree 0) chained root
          (subst (IsRootOf (roots_of s tree)) newest (newest_root_of (roots_of s tree)));
    }

    pub reservation_spells : SpellsTree bytes next
    reservation_spells = subst (λ (b : List ℕ). SpellsTree b next) (sym is.bytes_are) (spelled_root next is.fits)

    abbrev pub reservation_landing : MayReserve st tree count → Landing who st (PutHeld (object.Tree tree) bytes one two) (after_root tree next st)
    reservation_landing few =
        puts_root tree next bytes one two of_tree reservation_spells (same_covers next (ap (λ (t : Tree). t.cursor) (sym newest))) (lands_root few)

    pub reservation_held : tree_held (Some bytes) ≡ next
    reservation_held = ap (λ (b : List ℕ). tree_held (Some b)) is.bytes_are ∙ held_spelled next is.fits

    -- behind it the numbers are free
    pub reserved_then : {A X : Type 0} (node : Part A X → Node) (middle : List (Part A X)) → length middle ≡ count
        → AreReserved node ((after_root tree next st).book.chain tree) ((after_root tree next st).tally.nodes tree) ((after_root tree next st).tally.gone tree) (top_of ((after_root tree next st).tally.roots tree)).next (numbered first middle [])
    reserved_then {A} {X} node middle so_many =
        subst (λ (n : ℕ). AreReserved node (book.chain tree) (nodes_of s tree) (gone_of s tree) n (numbered first middle [])) (sym later)
        (subst (λ (n : ℕ). AreReserved node (book.chain tree) (nodes_of s tree) (gone_of s tree) (root.next + count) (numbered n middle [])) (sym is.first_is)
        (subst (λ (n : ℕ). AreReserved node (book.chain tree) (nodes_of s tree) (gone_of s tree) (root.next + count) (numbered n middle [])) (ap (λ (t : Tree). t.next) newest)
        (fresh_reserved node (book.chain tree) (nodes_of s tree) (gone_of s tree) top.next (root.next + count) top.level middle chained.levels chained.pages
        (λ page none. absent_kept st stands.holds.gones tree page none)
        (ap (λ (t : Tree). t.next + count) (sym newest) ∙ ap (λ (n : ℕ). top.next + n) (sym so_many)))))
      where
        later : (top_of ((after_root tree next st).tally.roots tree)).next ≡ root.next + count
        later =
            ap (λ (rs : List Tree). (top_of rs).next) (at_same tree (roots_of s tree ++ next ∷ []) (roots_of s) tree refl)
            ∙ ap (λ (t : Tree). t.next) (top_added (roots_of s tree) next)

  -- ---- a root that landed is known

  pub root_known : (now : ℕ) (lease : Claim) (root : Tree) → HasTreeSpelling root → KnowsRoot (after_root tree root st) now lease tree root
  root_known now lease root fits = record {
    spelled = inr fits;
    landed = inr (subst (λ (rs : List Tree). IsIn rs root) (sym roots) (in_behind (roots_of s tree) (root ∷ []) root (zero, refl)));
    newest = λ lasts. ap top_of roots ∙ top_added (roots_of s tree) root;
    covered = λ client is. let e = cursor client in omega (arith, e);
  }
    where
      roots : (after_root tree root st).tally.roots tree ≡ roots_of s tree ++ root ∷ []
      roots = at_same tree (roots_of s tree ++ root ∷ []) (roots_of s) tree refl

      cursor : (client : ℕ) → (after_root tree root st).tally.cursor tree 0 client ≡ number_of root.cursor client
      cursor client = ap (λ (f : ℕ → ℕ). f client) (at2_same tree 0 (λ c. number_of root.cursor c) st.tally.cursor tree 0 refl refl)
