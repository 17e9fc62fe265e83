-- Roots are exact.
use Rattle.std.proofs.Common.{◌≡◌, ℕ, ◌-◌, ◌^◌, ◌≤◌, true, false, List, [], ◌∷◌, ◌++◌, None, Ok, refl, sym, ap, ◌∙◌, arith, length, Option, ◌<◌, ◌+◌}
use Rattle.std.specs.Prelude.{IsSome}
use Rattle.std.specs.Int.{w8, w64, to_be_bytes}
use Rattle.std.proofs.lemmas.Bool.{and_parts, and_from, le-leb, lt-ltb}
use Rattle.byte_format.specs.Format.{greatest, Format, in_range, number, behind, ◌then◌, list_of, list_fits, list_spelling}
use Rattle.byte_format.specs.Whole.{IsBytes, IsExact, whole}
use Rattle.byte_format.proofs.Fields.{wide8, number_exact}
use Rattle.byte_format.proofs.Exact.{behind_exact, then_exact, seen_as_exact}
use Rattle.byte_format.proofs.Lists.{list_exact}
use Rattle.byte_format.proofs.Wholes.{whole_found}
use Rattle.node_codec.specs.Node.{Entry, entry, plain_entry, client_number, plain_number, child_of, with_entry}
use Rattle.node_codec.specs.Plain.{items_of, IsWholeList}
use Rattle.node_codec.specs.Tree.{Tree, tree_of_fields, fields_of_tree, tree_fields, tree_format, tree_in, HasTreeSpelling, AreTreeParts, AreWrittenParts, IsTree, with_child}
use Rattle.node_codec.proofs.NodeLemmas.{entry_exact, plain_entry_exact, client_number_exact, plain_number_exact, whole_number_exact, spelling_loosened, in_range_from, in_range_parts, has_child, not_below_empty}
use Rattle.node_codec.proofs.PlainLemmas.{whole_list_read, whole_list_is, items_of-read}
use Rattle.node_codec.proofs.EntryLemmas.{spelled, spelled_read, with_entry_fits, fits_to_last}

-- the parts of the table, from its end on
abbrev numbers_format : Format (List (ℕ × ℕ))
numbers_format = list_of true client_number None

abbrev entries_format : ℕ → Format (List Entry)
entries_format next = list_of false (entry [] None (next - 1)) None

abbrev lists_format : ℕ → Format (List (ℕ × ℕ) × List Entry)
lists_format next = numbers_format then λ _. entries_format next

abbrev level_format : ℕ → Format (ℕ × (List (ℕ × ℕ) × List Entry))
level_format next = number w8 1 255 then λ _. lists_format next

lists_exact : (next : ℕ) → IsExact (lists_format next)
lists_exact next = then_exact numbers_format (λ _. entries_format next) (list_exact true client_number None client_number_exact) (λ _. list_exact false (entry [] None (next - 1)) None (entry_exact [] None (next - 1)))

level_exact : (next : ℕ) → IsExact (level_format next)
level_exact next = then_exact (number w8 1 255) (λ _. lists_format next) (number_exact w8 (2 ^ 8) wide8 1 255 (omega arith)) (λ _. lists_exact next)

tree_fields_exact : IsExact tree_fields
tree_fields_exact =
    let numbers = number w64 2 greatest then level_format in
    let inner = number w64 1 greatest then λ _. numbers in
    behind_exact 0x54 (behind 1 inner)
    (behind_exact 1 inner (then_exact (number w64 1 greatest) (λ _. numbers) (whole_number_exact 1) (λ _. then_exact (number w64 2 greatest) level_format (whole_number_exact 2) level_exact)))

pub tree_exact : IsExact tree_format
tree_exact = seen_as_exact tree_of_fields fields_of_tree tree_fields tree_fields_exact (λ x _. refl) (λ y _. refl)

-- what was read whole are the parts of a tree
pub parts_of_whole : (version next level : ℕ) (cursor entries bytes : List ℕ) → IsBytes bytes → whole tree_format bytes ≡ Ok (tree_in version next level cursor entries)
    → IsWholeList plain_number cursor → IsWholeList plain_entry entries → AreTreeParts next level cursor entries
parts_of_whole version next level cursor entries bytes fits h numbers listed =
    let s = whole_found tree_format tree_exact bytes (tree_in version next level cursor entries) fits h in
    record {
      cursor_list = numbers;
      entry_list = listed;
      fits = (and_parts _ _ s.fits).1;
    }

-- each field of a tree that has a spelling is in its range
pub record TreeFits (t : Tree) : Type 0 where
  pub version : in_range 1 greatest t.version ≡ true
  pub next : in_range 2 greatest t.next ≡ true
  pub level : in_range 1 255 t.level ≡ true
  pub cursor : list_fits true client_number None t.cursor ≡ true
  pub entries : list_fits false (entry [] None (t.next - 1)) None t.entries ≡ true

pub tree_fits : (t : Tree) → HasTreeSpelling t → TreeFits t
tree_fits t h =
    let a = and_parts (in_range 1 greatest t.version) _ h in
    let b = and_parts (in_range 2 greatest t.next) _ a.1 in
    let d = and_parts (in_range 1 255 t.level) _ b.1 in
    let e = and_parts (list_fits true client_number None t.cursor) (list_fits false (entry [] None (t.next - 1)) None t.entries) d.1 in
    record { version = a.0; next = b.0; level = d.0; cursor = e.0; entries = e.1 }

pub fit_tree : (t : Tree) → TreeFits t → HasTreeSpelling t
fit_tree t f = and_from _ _ f.version (and_from _ _ f.next (and_from _ _ f.level (and_from _ _ f.cursor f.entries)))

pub tree_has_child : (next level : ℕ) (cursor entries key : List ℕ) → AreTreeParts next level cursor entries → IsSome (child_of key (items_of plain_entry entries))
tree_has_child next level cursor entries key p =
    let f = tree_fits (tree_in 1 next level cursor entries) p.fits in
    has_child key [] None (next - 1) (items_of plain_entry entries) f.entries (not_below_empty key)

-- ---- buffers

-- a byte is spelled as itself
pub byte_is : (n : ℕ) → n ≤ 255 → to_be_bytes w8 n ≡ n ∷ []
byte_is n le = ap (λ (k : ℕ). k ∷ []) (omega arith)

-- the bytes of the fields one after another are the spelling
pub tree_written : (version next level : ℕ) (cursor entries out : List ℕ) → IsBytes cursor → IsBytes entries → AreWrittenParts version next level cursor entries
    → out ≡ (((((0x54 ∷ 1 ∷ []) ++ to_be_bytes w64 version) ++ to_be_bytes w64 next) ++ level ∷ []) ++ cursor) ++ entries → IsTree out (tree_in version next level cursor entries)
tree_written version next level cursor entries out cursor_fits entries_fit w is =
    let f = tree_fits (tree_in 1 next level cursor entries) w.parts.fits in
    let numbers : cursor ≡ list_spelling client_number None (items_of plain_number cursor) =
    whole_list_is plain_number plain_number_exact cursor cursor_fits w.parts.cursor_list ∙ sym (spelling_loosened client_number plain_number (λ _ _. refl) None None (items_of plain_number cursor)) in
    let listed : entries ≡ list_spelling (entry [] None (next - 1)) None (items_of plain_entry entries) =
    whole_list_is plain_entry plain_entry_exact entries entries_fit w.parts.entry_list ∙ sym (spelling_loosened (entry [] None (next - 1)) plain_entry (λ _ _. refl) None None (items_of plain_entry entries)) in
    record {
      fits = fit_tree (tree_in version next level cursor entries) (record { version = in_range_from 1 greatest version w.some w.most; next = f.next; level = f.level; cursor = f.cursor; entries = f.entries });
      is = is ∙ ap (λ (l : List ℕ). (((((0x54 ∷ 1 ∷ []) ++ to_be_bytes w64 version) ++ to_be_bytes w64 next) ++ l) ++ cursor) ++ entries) (sym (byte_is level (in_range_parts 1 255 level f.level).1))
          ∙ ap (λ (c : List ℕ). (((((0x54 ∷ 1 ∷ []) ++ to_be_bytes w64 version) ++ to_be_bytes w64 next) ++ to_be_bytes w8 level) ++ c) ++ entries) numbers
          ∙ ap (λ (e : List ℕ). (((((0x54 ∷ 1 ∷ []) ++ to_be_bytes w64 version) ++ to_be_bytes w64 next) ++ to_be_bytes w8 level) ++ list_spelling client_number None (items_of plain_number cursor)) ++ e) listed;
    }

-- ---- edits

-- the parts with other entries that fit
pub parts_with_entries : (version next level : ℕ) (cursor entries new : List ℕ) (xs : List Entry) → AreWrittenParts version next level cursor entries → list_fits false (entry [] None (next - 1)) None xs ≡ true → new ≡ spelled xs → AreWrittenParts version next level cursor new
parts_with_entries version next level cursor entries new xs w fits is =
    let f = tree_fits (tree_in 1 next level cursor entries) w.parts.fits in
    let reads = spelled_read [] None (next - 1) xs new fits is in
    let items = items_of-read plain_entry new xs [] reads in
    record {
      some = w.some;
      most = w.most;
      parts = record {
        cursor_list = w.parts.cursor_list;
        entry_list = whole_list_read plain_entry new xs reads;
        fits = fit_tree (tree_in 1 next level cursor new) (record { version = f.version; next = f.next; level = f.level; cursor = f.cursor; entries = ap (list_fits false (entry [] None (next - 1)) None) items ∙ fits });
      };
    }

pub one_more_fits : (version next level : ℕ) (cursor entries low : List ℕ) (page : ℕ) → AreWrittenParts version next level cursor entries → length low ≤ 64 → 1 ≤ page → page < next → list_fits false (entry [] None (next - 1)) None (with_entry low page (items_of plain_entry entries)) ≡ true
one_more_fits version next level cursor entries low page w short some below =
    let f = tree_fits (tree_in 1 next level cursor entries) w.parts.fits in
    let last : page ≤ greatest = omega (arith, in_range_parts 2 greatest next f.next) in
    with_entry_fits [] None (next - 1) low page (items_of plain_entry entries)
    (record { short = in_range_from 0 64 (length low) (omega arith) short; bound = refl; page = and_from _ _ (in_range_from 1 greatest page some last) (le-leb page (next - 1) (omega arith)) })
    (not_below_empty low) f.entries

-- what spells entries that fit has them
pub items_spelled : (low : List ℕ) (high : Option (List ℕ)) (last : ℕ) (xs : List Entry) (bytes : List ℕ) → list_fits false (entry low high last) None xs ≡ true → bytes ≡ spelled xs → items_of plain_entry bytes ≡ xs
items_spelled low high last xs bytes fits is = items_of-read plain_entry bytes xs [] (spelled_read low high last xs bytes fits is)

-- the parts with a greater number of the next page
pub parts_reserved : (version next level more : ℕ) (cursor entries : List ℕ) → AreWrittenParts version next level cursor entries → next ≤ more → more ≤ greatest → AreWrittenParts version more level cursor entries
parts_reserved version next level more cursor entries w le most =
    let f = tree_fits (tree_in 1 next level cursor entries) w.parts.fits in
    record {
      some = w.some;
      most = w.most;
      parts = record {
        cursor_list = w.parts.cursor_list;
        entry_list = w.parts.entry_list;
        fits = fit_tree (tree_in 1 more level cursor entries) (record {
          version = f.version;
          next = in_range_from 2 greatest more (omega (arith, in_range_parts 2 greatest next f.next)) most;
          level = f.level;
          cursor = f.cursor;
          entries = fits_to_last [] None (next - 1) (more - 1) false None (items_of plain_entry entries) (omega arith) f.entries;
        });
      };
    }

one_entry_fits : (next page : ℕ) → 1 ≤ page → page < next → next ≤ greatest → list_fits false (entry [] None (next - 1)) None (([], page) ∷ []) ≡ true
one_entry_fits next page some below most = and_from _ _ (and_from _ _ refl (and_from _ _ (in_range_from 1 greatest page some (omega arith)) (le-leb page (next - 1) (omega arith)))) refl

-- the parts of a root that names one page, one level higher
pub parts_lowered : (version next level page : ℕ) (cursor entries new : List ℕ) → AreWrittenParts version next level cursor entries → level < 255 → 1 ≤ page → page < next → new ≡ spelled (([], page) ∷ [])
    → AreWrittenParts version next (level + 1) cursor new × (items_of plain_entry new ≡ ([], page) ∷ [])
parts_lowered version next level page cursor entries new w higher some below is =
    let f = tree_fits (tree_in 1 next level cursor entries) w.parts.fits in
    let fits = one_entry_fits next page some below (in_range_parts 2 greatest next f.next).1 in
    let reads = spelled_read [] None (next - 1) (([], page) ∷ []) new fits is in
    let items = items_of-read plain_entry new (([], page) ∷ []) [] reads in (
      record {
        some = w.some;
        most = w.most;
        parts = record {
          cursor_list = w.parts.cursor_list;
          entry_list = whole_list_read plain_entry new (([], page) ∷ []) reads;
          fits = fit_tree (tree_in 1 next (level + 1) cursor new) (record {
            version = f.version;
            next = f.next;
            level = in_range_from 1 255 (level + 1) (omega arith) (omega arith);
            cursor = f.cursor;
            entries = ap (list_fits false (entry [] None (next - 1)) None) items ∙ fits;
          });
        };
      },
      items,
    )

-- a buffer has a spelling
pub fit_written : (version next level : ℕ) (cursor entries : List ℕ) → AreWrittenParts version next level cursor entries → HasTreeSpelling (tree_in version next level cursor entries)
fit_written version next level cursor entries w =
    let f = tree_fits (tree_in 1 next level cursor entries) w.parts.fits in
    fit_tree (tree_in version next level cursor entries) (record { version = in_range_from 1 greatest version w.some w.most; next = f.next; level = f.level; cursor = f.cursor; entries = f.entries })

pub with_child_is : (low : List ℕ) (page : ℕ) (t : Tree) → page < t.next → with_child low page t ≡ record t { entries = with_entry low page t.entries }
with_child_is low page t lt = rw (lt-ltb page t.next lt) refl
