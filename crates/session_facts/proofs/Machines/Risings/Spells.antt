-- Spellings on the way up: a node with the links that go to it, a root with the run's cursor and the links of its level, and their pieces.
use Rattle.std.proofs.Common.{◌≡◌, ◌≢◌, ◌+◌, ◌-◌, ◌<◌, ◌≤◌, ◌==◌, max, ℕ, Bool, true, false, cond, not, nat_lt, ◌&&◌, ◌⊎◌, inl, inr, List, [], ◌∷◌, length, map, take, drop, Option, Some, None, refl, sym, ap, subst, arith}
use Rattle.std.specs.Prelude.{nat_le, unwrap_or}
use Rattle.std.specs.List.{AllByRecursion}
use Rattle.std.specs.BTreeMap.{is_at}
use Rattle.std.specs.Map.{lookup}
use Rattle.std.specs.Ordering.{nat_cmp, is_eq}
use Rattle.std.proofs.lemmas.Bool.{and_parts, and_from, le-leb, leb-true, ltb-true, not-true}
use Rattle.byte_format.specs.Format.{greatest, in_range, list_fits}
use Rattle.byte_format.specs.Order.{bytes_below, below_bound}
use Rattle.cloud_facts.proofs.Chains.Pieces.{in_first, in_rest}
use Rattle.db_base.specs.Cursor.{number_of}
use Rattle.node_codec.proofs.EntryLemmas.{Cut, spelled, spelled_read, with_entry_fits, fits_to_last}
use Rattle.node_codec.proofs.InnerLemmas.{inner_fits, fit_inner, cut_node, left_parts, left_is, right_parts, right_is}
use Rattle.node_codec.proofs.NodeLemmas.{in_range_from, in_range_parts, not_below_empty, pairs_of_fit}
use Rattle.node_codec.proofs.PlainLemmas.{whole_list_read}
use Rattle.node_codec.proofs.TreeLemmas.{tree_fits, fit_tree, items_spelled}
use Rattle.cloud_facts.specs.Words.{Inner, Tree, IsIn}
use Rattle.node_codec.specs.Inner.{HasInnerSpelling, AreInnerParts, inner_in, left_node, right_node, node_of_root}
use Rattle.node_codec.specs.Node.{Entry, entry, plain_entry, least_client, client_number, with_entry, raised}
use Rattle.node_codec.specs.Plain.{items_of}
use Rattle.node_codec.specs.Tree.{HasTreeSpelling, IsSoundTree, empty_tree, raised_root, with_child}
use Rattle.split_plan.proofs.Buffers.{left-inner, right-inner}
use Rattle.split_plan.proofs.Counting.{can-cuts, length-cuts}
use Rattle.split_plan.proofs.Cutting.{can-behind}
use Rattle.split_plan.proofs.Rooting.{lows-short, named}
use Rattle.split_plan.specs.declared.entry_list.NewEntry.{NewEntry}
use Rattle.split_plan.specs.Cut.{cut_by}
use Rattle.split_plan.specs.Part.{NodePart, entry_key, part_of_node}
use Rattle.split_plan.specs.Plan.{IsNodePart, on_pages, entry_of, node_pieces, root_pieces, root_above, with_children}
use Rattle.split_plan.specs.Sizes.{CanCut, count_of, cuts_of}
use Rattle.tree_phases.specs.declared.link.Link.{Link as Found}
use Rattle.tree_phases.specs.Nodes.{goes_to, with_links}
use Rattle.tree_phases.specs.Root.{is_named, with_named, new_pages}
use Rattle.session_facts.specs.Machines.Risings.Knows.{risen_node}

-- the pages of links are numbers that may stand in an entry
abbrev pub ArePages : List Found → Type 0
ArePages ls = (l : Found) → IsIn ls l → (1 ≤ l.page) × (l.page ≤ greatest)

behind_first : (l : Found) (ls : List Found) → ArePages (l ∷ ls) → ArePages ls
behind_first l ls pages k there = pages k (in_rest l ls k there)

-- ---- a node with more entries

pub links_fit : (n : Inner) (ls : List Found) (es : List Entry) → ArePages ls → list_fits false (entry n.low n.high greatest) None es ≡ true
    → list_fits false (entry n.low n.high greatest) None (with_links n ls es) ≡ true
links_fit n [] es pages fits = fits
links_fit n (l ∷ ls) es pages fits = links_fit n ls (cond (goes_to n l) (with_entry l.low l.page es) es) (behind_first l ls pages) (on (goes_to n l) refl)
  where
    on : (b : Bool) → goes_to n l ≡ b → list_fits false (entry n.low n.high greatest) None (cond b (with_entry l.low l.page es) es) ≡ true
    on true e =
        let a = and_parts (l.level == n.level) (nat_le (length l.low) 64 && (not (bytes_below l.low n.low) && below_bound l.low n.high)) e in
        let b = and_parts (nat_le (length l.low) 64) (not (bytes_below l.low n.low) && below_bound l.low n.high) a.1 in
        let c = and_parts (not (bytes_below l.low n.low)) (below_bound l.low n.high) b.1 in
        let page = pages l (in_first l ls) in
        let some = page.0 in
        let most = page.1 in
        let short = leb-true (length l.low) 64 b.0 in
        with_entry_fits n.low n.high greatest l.low l.page es
        (record {
          short = in_range_from 0 64 (length l.low) (omega arith) short;
          bound = c.1;
          page = and_from (in_range 1 greatest l.page) (nat_le l.page greatest) (in_range_from 1 greatest l.page some most) (le-leb l.page greatest most);
        })
        (not-true (bytes_below l.low n.low) c.0) fits
    on false e = fits

pub risen_fits : (n : Inner) (ls : List Found) → HasInnerSpelling n → n.version ≢ greatest → ArePages ls → HasInnerSpelling (risen_node n ls)
risen_fits n ls spelling spare pages =
    let f = inner_fits n spelling in
    let most = (in_range_parts 1 greatest n.version f.version).1 in
    fit_inner (risen_node n ls) (record {
      version = in_range_from 1 greatest (n.version + 1) (omega arith) (omega (arith, most, spare));
      level = f.level;
      low = f.low;
      right = f.right;
      high = f.high;
      entries = links_fit n ls n.entries pages f.entries;
    })

-- ---- a node that is cut

module _ (n : Inner) (spelling : HasInnerSpelling n) where
  abbrev entries : List ℕ
  entries = spelled n.entries

  listed : list_fits false (entry n.low n.high greatest) None n.entries ≡ true
  listed = (inner_fits n spelling).entries

  items : items_of plain_entry entries ≡ n.entries
  items = items_spelled n.low n.high greatest n.entries entries listed refl

  abbrev as_read : Inner
  as_read = inner_in n.version n.level n.low n.right n.high entries

  same : as_read ≡ n
  same = ap (λ (es : List Entry). record n { entries = es }) items

  parts : AreInnerParts n.version n.level n.low n.right n.high entries
  parts = record {
    entry_list = whole_list_read plain_entry entries n.entries (spelled_read n.low n.high greatest n.entries entries listed refl);
    fits = subst HasInnerSpelling (sym same) spelling;
  }

  module _ (i : ℕ) (some : 0 < i) (less : i < length n.entries) where
    cut : Cut n.low n.high greatest i (items_of plain_entry entries)
    cut = cut_node n.version n.level n.low n.right n.high entries i parts some (subst (λ (es : List Entry). i < length es) (sym items) less)

    -- the part that keeps the page, with a right page, and the other one
    pub left_fits : (number : ℕ) → 1 ≤ number → number ≤ greatest → HasInnerSpelling (left_node i number n)
    left_fits number one most =
        subst (λ (m : Inner). HasInnerSpelling (left_node i number m)) same
        (subst HasInnerSpelling
        (left_is n.version n.level n.low n.right n.high entries i parts cut number cut.key (spelled (take i (items_of plain_entry entries))) refl refl)
        (left_parts n.version n.level n.low n.right n.high entries i parts cut number cut.key (spelled (take i (items_of plain_entry entries))) one most refl refl).fits)

    pub right_fits : HasInnerSpelling (right_node i n)
    right_fits =
        subst (λ (m : Inner). HasInnerSpelling (right_node i m)) same
        (subst HasInnerSpelling
        (right_is n.version n.level n.low n.right n.high entries i parts cut cut.key (spelled (drop i (items_of plain_entry entries))) refl refl)
        (right_parts n.version n.level n.low n.right n.high entries i parts cut cut.key (spelled (drop i (items_of plain_entry entries))) refl refl).fits)

parts_fit : (sizes : List ℕ) (last free : ℕ) (n : Inner) → CanCut sizes last (length n.entries) → 1 ≤ free → free + length sizes ≤ greatest → HasInnerSpelling n
    → AllByRecursion IsNodePart (cut_by entry_key sizes free (part_of_node n))
parts_fit [] last free n can some room spelling = (record { fits = spelling }, tt)
parts_fit (i ∷ sizes) last free n can some room spelling = (
  subst IsNodePart (left-inner i free n can.1) (record { fits = left_fits n spelling i can.0 can.1 free some (omega (arith, room)) }),
  subst (λ (p : NodePart). AllByRecursion IsNodePart (cut_by entry_key sizes (free + 1) p)) (right-inner i n)
      (parts_fit sizes last (free + 1) (right_node i n) (can-behind i sizes last n.entries can) (omega arith) (omega (arith, room)) (right_fits n spelling i can.0 can.1)),
)

-- the pieces of a node that has a spelling have spellings, where their numbers may stand in it
pub node_pieces_fit : (first : ℕ) (n : Inner) → 1 ≤ first → first + (count_of (length n.entries) - 1) ≤ greatest → HasInnerSpelling n → AllByRecursion IsNodePart (node_pieces first n)
node_pieces_fit first n some room spelling =
    let lengths = length-cuts (length n.entries) in
    parts_fit (cuts_of (length n.entries)) _ first n (can-cuts (length n.entries)) some (omega (arith, room, lengths)) spelling

-- ---- a root with more entries

child_spelled : (t : Tree) (low : List ℕ) (page : ℕ) → length low ≤ 64 → 1 ≤ page → HasTreeSpelling t → HasTreeSpelling (with_child low page t)
child_spelled t low page short some spelling = on (nat_lt page t.next) refl
  where
    on : (b : Bool) → nat_lt page t.next ≡ b → HasTreeSpelling (cond b (record t { entries = with_entry low page t.entries }) t)
    on false e = spelling
    on true e =
        let f = tree_fits t spelling in
        let less = ltb-true page t.next e in
        let most = (in_range_parts 2 greatest t.next f.next).1 in
        let within : page ≤ greatest = omega (arith, less, most) in
        let last : page ≤ t.next - 1 = omega (arith, less) in
        fit_tree (record t { entries = with_entry low page t.entries }) (record {
          version = f.version;
          next = f.next;
          level = f.level;
          cursor = f.cursor;
          entries = with_entry_fits [] None (t.next - 1) low page t.entries
              (record {
                short = in_range_from 0 64 (length low) (omega arith) short;
                bound = refl;
                page = and_from (in_range 1 greatest page) (nat_le page (t.next - 1)) (in_range_from 1 greatest page some within) (le-leb page (t.next - 1) last);
              })
              (not_below_empty low) f.entries;
        })

pub named_spelled : (level : ℕ) (ls : List Found) (t : Tree) → ArePages ls → HasTreeSpelling t → HasTreeSpelling (with_named level ls t)
named_spelled level [] t pages spelling = spelling
named_spelled level (l ∷ ls) t pages spelling =
    named_spelled level ls (cond (is_named level l) (with_child l.low l.page t) t) (behind_first l ls pages) (on (is_named level l) refl)
  where
    on : (b : Bool) → is_named level l ≡ b → HasTreeSpelling (cond b (with_child l.low l.page t) t)
    on true e =
        child_spelled t l.low l.page (leb-true (length l.low) 64 (and_parts (l.level == level) (nat_le (length l.low) 64) e).1) (pages l (in_first l ls)).0 spelling
    on false e = spelling

-- ---- numbers of clients

numbers_small : (before : Option (ℕ × ℕ)) (xs : List (ℕ × ℕ)) (c : ℕ) → list_fits true client_number before xs ≡ true → number_of xs c ≤ greatest
numbers_small before [] c fits = omega arith
numbers_small before (x ∷ xs) c fits = on (is_eq (nat_cmp c x.0)) (numbers_small (Some x) xs c a.1)
  where
    a : ((client_number before).fits x ≡ true) × (list_fits true client_number (Some x) xs ≡ true)
    a = and_parts ((client_number before).fits x) (list_fits true client_number (Some x) xs) fits

    most : x.1 ≤ greatest
    most = (in_range_parts 1 greatest x.1 (and_parts (in_range (least_client before) 64 x.0) (in_range 1 greatest x.1) a.0).1).1

    on : (b : Bool) → number_of xs c ≤ greatest → unwrap_or (cond b (Some x.1) (lookup (is_at (nat_cmp c)) xs)) 0 ≤ greatest
    on true rest = most
    on false rest = rest

-- ---- a root at its next version

-- the root of a tree that was never put has no version, and is sound all the same
pub root_sound : (t : Tree) → (t ≡ empty_tree) ⊎ HasTreeSpelling t → IsSoundTree t
root_sound t (inl e) = subst IsSoundTree (sym e) refl
root_sound t (inr spelling) =
    let f = tree_fits t spelling in
    fit_tree (record t { version = 1 }) (record { version = refl; next = f.next; level = f.level; cursor = f.cursor; entries = f.entries })

pub root_version : (t : Tree) → (t ≡ empty_tree) ⊎ HasTreeSpelling t → t.version ≤ greatest
root_version t (inl e) = let v = ap (λ (r : Tree). r.version) e in omega (arith, v)
root_version t (inr spelling) = (in_range_parts 1 greatest t.version (tree_fits t spelling).version).1

pub root_next : (t : Tree) → IsSoundTree t → (2 ≤ t.next) × (t.next ≤ greatest)
root_next t sound = in_range_parts 2 greatest t.next (tree_fits (record t { version = 1 }) sound).next

pub root_numbers : (t : Tree) (c : ℕ) → IsSoundTree t → number_of t.cursor c ≤ greatest
root_numbers t c sound = numbers_small None t.cursor c (tree_fits (record t { version = 1 }) sound).cursor

-- with a raised cursor
pub raised_spelled : (t : Tree) (top : List (ℕ × ℕ)) → IsSoundTree t → t.version ≤ greatest → t.version ≢ greatest → ((c : ℕ) → c < 65 → 1 ≤ c → number_of top c ≤ greatest)
    → HasTreeSpelling (record t { version = t.version + 1; cursor = raised t.cursor top })
unfolding raised
raised_spelled t top sound most spare small =
    let f = tree_fits (record t { version = 1 }) sound in
    fit_tree (record t { version = t.version + 1; cursor = raised t.cursor top }) (record {
      version = in_range_from 1 greatest (t.version + 1) (omega arith) (omega (arith, most, spare));
      next = f.next;
      level = f.level;
      cursor = pairs_of_fit (λ (c : ℕ). max (number_of t.cursor c) (number_of top c))
          (λ c low some. let a = root_numbers t c sound in let b = small c low some in omega (arith, a, b));
      entries = f.entries;
    })

-- ---- a root that is cut

-- its entries as a node
root_node : (t : Tree) → HasTreeSpelling t → HasInnerSpelling (node_of_root t)
root_node t spelling =
    let f = tree_fits t spelling in
    let next = (in_range_parts 2 greatest t.next f.next).1 in
    fit_inner (node_of_root t) (record {
      version = refl;
      level = f.level;
      low = refl;
      right = refl;
      high = refl;
      entries = fits_to_last [] None (t.next - 1) greatest false None t.entries (omega (arith, next)) f.entries;
    })

pub root_pieces_fit : (first : ℕ) (t : Tree) → first + count_of (length t.entries) ≤ t.next → HasTreeSpelling t → AllByRecursion IsNodePart (root_pieces first t)
root_pieces_fit first t room spelling =
    let next = (in_range_parts 2 greatest t.next (tree_fits t spelling).next).1 in
    let some : 1 ≤ count_of (length t.entries) = omega arith in
    node_pieces_fit (first + 1) (node_of_root t) (omega arith) (omega (arith, room, next, some)) (root_node t spelling)

-- a root that names one page, one level higher
lone_spelled : (t : Tree) (page : ℕ) → 1 ≤ page → page < t.next → t.level < 255 → HasTreeSpelling t → HasTreeSpelling (raised_root page t)
lone_spelled t page some less higher spelling =
    let f = tree_fits t spelling in
    let next = (in_range_parts 2 greatest t.next f.next).1 in
    let within : page ≤ greatest = omega (arith, less, next) in
    let last : page ≤ t.next - 1 = omega (arith, less) in
    fit_tree (raised_root page t) (record {
      version = f.version;
      next = f.next;
      level = in_range_from 1 255 (t.level + 1) (omega arith) (omega (arith, higher));
      cursor = f.cursor;
      entries = and_from _ _ (and_from _ _ refl (and_from _ _ (in_range_from 1 greatest page some within) (le-leb page (t.next - 1) last))) refl;
    })

children_spelled : (es : List NewEntry) (t : Tree) → AllByRecursion (λ (e : NewEntry). length e.low ≤ 64) es → AllByRecursion (λ (e : NewEntry). 1 ≤ e.page) es → HasTreeSpelling t
    → HasTreeSpelling (with_children es t)
children_spelled [] t short some spelling = spelling
children_spelled (e ∷ es) t short some spelling = children_spelled es (with_child e.low e.page t) short.1 some.1 (child_spelled t e.low e.page short.0 some.0 spelling)

pages_some : (ps : List NodePart) (page free : ℕ) → 1 ≤ page → 1 ≤ free → AllByRecursion (λ (e : NewEntry). 1 ≤ e.page) (map entry_of (on_pages page free ps))
pages_some [] page free one two = tt
pages_some (p ∷ ps) page free one two = (one, pages_some ps free (free + 1) two (omega arith))

-- the root above its pieces
pub above_spelled : (first : ℕ) (t : Tree) → 1 ≤ first → first + count_of (length t.entries) ≤ t.next → t.level < 255 → HasTreeSpelling t → HasTreeSpelling (root_above (new_pages first t) t)
above_spelled first t some room higher spelling =
    let count : 1 ≤ count_of (length t.entries) = omega arith in
    subst HasTreeSpelling (named first t (record { fits = root_node t spelling }) room)
    (children_spelled (new_pages first t) (raised_root first t) (lows-short (root_pieces first t) first (first + 1) (root_pieces_fit first t room spelling))
    (pages_some (root_pieces first t) first (first + 1) some (omega arith)) (lone_spelled t first some (omega (arith, room, count)) higher spelling))
