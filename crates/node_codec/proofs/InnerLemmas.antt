-- Inner nodes are exact.
use Rattle.std.proofs.Common.{◌≡◌, ℕ, ◌-◌, ◌^◌, ◌<◌, ◌≤◌, Bool, true, false, List, [], ◌∷◌, ◌++◌, length, Option, Some, None, Ok, refl, sym, ap, subst, ◌∙◌, append_assoc, arith, take, drop}
use Rattle.std.specs.Prelude.{unwrap_or, ◌==◌, not, IsSome}
use Rattle.std.specs.Int.{w8, w64, to_be_bytes}
use Rattle.std.proofs.lemmas.Bool.{and_parts, and_from, le-leb, eqb-true}
use Rattle.byte_format.specs.Format.{greatest, Format, in_range, number, text, behind, ◌then◌, option_fits, option_spelling, list_of, list_fits, list_spelling}
use Rattle.byte_format.specs.Whole.{IsBytes, IsExact, whole}
use Rattle.byte_format.specs.Order.{bytes_below, below_bound}
use Rattle.byte_format.specs.HighKey.{key_above, high_key}
use Rattle.byte_format.proofs.Fields.{wide8, number_exact}
use Rattle.byte_format.proofs.Exact.{behind_exact, then_exact, seen_as_exact}
use Rattle.byte_format.proofs.Lists.{list_exact}
use Rattle.byte_format.proofs.HighKeys.{high_key_exact}
use Rattle.byte_format.proofs.Wholes.{whole_found}
use Rattle.node_codec.specs.Node.{Entry, entry, plain_entry, child_of, with_entry}
use Rattle.node_codec.specs.Plain.{items_of, plain_list, IsWholeList}
use Rattle.node_codec.specs.Inner.{Inner, inner_of_fields, fields_of_inner, inner_fields, inner_format, inner_in, HasInnerSpelling, AreInnerParts, IsInner, first_low_of, left_node, right_node}
use Rattle.node_codec.proofs.NodeLemmas.{entry_exact, plain_entry_exact, low_exact, whole_number_exact, spelling_loosened, in_range_from, in_range_parts, has_child}
use Rattle.node_codec.proofs.PlainLemmas.{whole_list_read, whole_list_is, items_of-read}
use Rattle.node_codec.specs.Tree.{tree_in, AreWrittenParts}
use Rattle.node_codec.proofs.TreeLemmas.{tree_fits, byte_is}
use Rattle.node_codec.proofs.EntryLemmas.{spelled, spelled_read, with_entry_fits, fits_to_last, Cut, cut_of}

-- the parts of the table, from its end on
abbrev entries_format : List ℕ → Option (List ℕ) → Format (List Entry)
entries_format low high = list_of false (entry low high greatest) None

abbrev high_on : List ℕ → ℕ → Format (Option (List ℕ) × List Entry)
high_on low right = high_key low right then entries_format low

abbrev right_on : List ℕ → Format (ℕ × (Option (List ℕ) × List Entry))
right_on low = number w64 0 greatest then high_on low

abbrev low_on : Format (List ℕ × (ℕ × (Option (List ℕ) × List Entry)))
low_on = text w8 0 64 then right_on

low_on_exact : IsExact low_on
low_on_exact =
    then_exact (text w8 0 64) right_on low_exact (λ low.
    then_exact (number w64 0 greatest) (high_on low) (whole_number_exact 0) (λ right.
    then_exact (high_key low right) (entries_format low) (high_key_exact low right) (λ high.
    list_exact false (entry low high greatest) None (entry_exact low high greatest))))

inner_fields_exact : IsExact inner_fields
inner_fields_exact =
    let levels = number w8 1 255 then λ _. low_on in
    let inner = number w64 1 greatest then λ _. levels in
    behind_exact 0x49 (behind 1 inner)
    (behind_exact 1 inner (then_exact (number w64 1 greatest) (λ _. levels) (whole_number_exact 1) (λ _. then_exact (number w8 1 255) (λ _. low_on) (number_exact w8 (2 ^ 8) wide8 1 255 (omega arith)) (λ _. low_on_exact))))

pub inner_exact : IsExact inner_format
inner_exact = seen_as_exact inner_of_fields fields_of_inner inner_fields inner_fields_exact (λ x _. refl) (λ y _. refl)

-- what was read whole are the parts of a node
pub inner_parts_of_whole : (version level : ℕ) (low : List ℕ) (right : ℕ) (high : Option (List ℕ)) (entries bytes : List ℕ) → IsBytes bytes → whole inner_format bytes ≡ Ok (inner_in version level low right high entries)
    → IsWholeList plain_entry entries → AreInnerParts version level low right high entries
inner_parts_of_whole version level low right high entries bytes fits h listed =
    record { entry_list = listed; fits = (whole_found inner_format inner_exact bytes (inner_in version level low right high entries) fits h).fits }

-- each field of a node that has a spelling is in its range
pub record InnerFits (n : Inner) : Type 0 where
  pub version : in_range 1 greatest n.version ≡ true
  pub level : in_range 1 255 n.level ≡ true
  pub low : in_range 0 64 (length n.low) ≡ true
  pub right : in_range 0 greatest n.right ≡ true
  pub high : (high_key n.low n.right).fits n.high ≡ true
  pub entries : list_fits false (entry n.low n.high greatest) None n.entries ≡ true

pub inner_fits : (n : Inner) → HasInnerSpelling n → InnerFits n
inner_fits n h =
    let a = and_parts (in_range 1 greatest n.version) _ h in
    let b = and_parts (in_range 1 255 n.level) _ a.1 in
    let d = and_parts (in_range 0 64 (length n.low)) _ b.1 in
    let e = and_parts (in_range 0 greatest n.right) _ d.1 in
    let f = and_parts ((high_key n.low n.right).fits n.high) (list_fits false (entry n.low n.high greatest) None n.entries) e.1 in
    record { version = a.0; level = b.0; low = d.0; right = e.0; high = f.0; entries = f.1 }

pub fit_inner : (n : Inner) → InnerFits n → HasInnerSpelling n
fit_inner n f = and_from _ _ f.version (and_from _ _ f.level (and_from _ _ f.low (and_from _ _ f.right (and_from _ _ f.high f.entries))))

pub inner_has_child : (version level : ℕ) (low : List ℕ) (right : ℕ) (high : Option (List ℕ)) (entries key : List ℕ) → AreInnerParts version level low right high entries → bytes_below key low ≡ false → IsSome (child_of key (items_of plain_entry entries))
inner_has_child version level low right high entries key p le =
    let f = inner_fits (inner_in version level low right high entries) p.fits in
    has_child key low high greatest (items_of plain_entry entries) f.entries le

-- ---- buffers

-- the entries of a root as a node
pub node_parts : (version next level : ℕ) (cursor entries : List ℕ) → AreWrittenParts version next level cursor entries → AreInnerParts 1 level [] 0 None entries
node_parts version next level cursor entries w =
    let f = tree_fits (tree_in 1 next level cursor entries) w.parts.fits in
    record {
      entry_list = w.parts.entry_list;
      fits = fit_inner (inner_in 1 level [] 0 None entries) (record {
        version = refl;
        level = f.level;
        low = refl;
        right = refl;
        high = refl;
        entries = fits_to_last [] None (next - 1) greatest false None (items_of plain_entry entries) (omega (arith, in_range_parts 2 greatest next f.next)) f.entries;
      });
    }

-- the parts with other entries that fit
pub inner_with_entries : (version level : ℕ) (low : List ℕ) (right : ℕ) (high : Option (List ℕ)) (entries new : List ℕ) (xs : List Entry) → AreInnerParts version level low right high entries → list_fits false (entry low high greatest) None xs ≡ true → new ≡ spelled xs → AreInnerParts version level low right high new
inner_with_entries version level low right high entries new xs p fits is =
    let f = inner_fits (inner_in version level low right high entries) p.fits in
    let reads = spelled_read low high greatest xs new fits is in
    record {
      entry_list = whole_list_read plain_entry new xs reads;
      fits = fit_inner (inner_in version level low right high new) (record { version = f.version; level = f.level; low = f.low; right = f.right; high = f.high; entries = ap (list_fits false (entry low high greatest) None) (items_of-read plain_entry new xs [] reads) ∙ fits });
    }

pub inner_one_more_fits : (version level : ℕ) (low : List ℕ) (right : ℕ) (high : Option (List ℕ)) (entries key : List ℕ) (page : ℕ) → AreInnerParts version level low right high entries → length key ≤ 64 → bytes_below key low ≡ false → below_bound key high ≡ true → 1 ≤ page → page ≤ greatest
    → list_fits false (entry low high greatest) None (with_entry key page (items_of plain_entry entries)) ≡ true
inner_one_more_fits version level low right high entries key page p short inside bound some most =
    let f = inner_fits (inner_in version level low right high entries) p.fits in
    with_entry_fits low high greatest key page (items_of plain_entry entries)
    (record { short = in_range_from 0 64 (length key) (omega arith) short; bound = bound; page = and_from _ _ (in_range_from 1 greatest page some most) (le-leb page greatest most) }) inside f.entries

-- the bytes of the fields one after another are the spelling
pub inner_written : (version level : ℕ) (low : List ℕ) (right : ℕ) (high : Option (List ℕ)) (entries out : List ℕ) → IsBytes entries → AreInnerParts version level low right high entries
    → out ≡ ((((((0x49 ∷ 1 ∷ []) ++ to_be_bytes w64 version) ++ level ∷ []) ++ (to_be_bytes w8 (length low) ++ low)) ++ to_be_bytes w64 right) ++ option_spelling (text w8 1 64) high) ++ entries → IsInner out (inner_in version level low right high entries)
inner_written version level low right high entries out entries_fit p is =
    let f = inner_fits (inner_in version level low right high entries) p.fits in
    let listed : entries ≡ list_spelling (entry low high greatest) None (items_of plain_entry entries) =
    whole_list_is plain_entry plain_entry_exact entries entries_fit p.entry_list ∙ sym (spelling_loosened (entry low high greatest) plain_entry (λ _ _. refl) None None (items_of plain_entry entries)) in
    let front : List ℕ → List ℕ = λ l. (((((0x49 ∷ 1 ∷ []) ++ to_be_bytes w64 version) ++ l) ++ (to_be_bytes w8 (length low) ++ low)) ++ to_be_bytes w64 right) ++ option_spelling (text w8 1 64) high in
    record {
      fits = p.fits;
      is = is ∙ ap (λ (l : List ℕ). front l ++ entries) (sym (byte_is level (in_range_parts 1 255 level f.level).1)) ∙ ap (λ (e : List ℕ). front (to_be_bytes w8 level) ++ e) listed
          ∙ spelled_as version level low right high (list_spelling (entry low high greatest) None (items_of plain_entry entries));
    }
  where
    spelled_as : (version level : ℕ) (low : List ℕ) (right : ℕ) (high : Option (List ℕ)) (rest : List ℕ)
        → ((((((0x49 ∷ 1 ∷ []) ++ to_be_bytes w64 version) ++ to_be_bytes w8 level) ++ (to_be_bytes w8 (length low) ++ low)) ++ to_be_bytes w64 right) ++ option_spelling (text w8 1 64) high) ++ rest
        ≡ 0x49 ∷ 1 ∷ (to_be_bytes w64 version ++ (to_be_bytes w8 level ++ ((to_be_bytes w8 (length low) ++ low) ++ (to_be_bytes w64 right ++ (option_spelling (text w8 1 64) high ++ rest)))))
    spelled_as version level low right high rest = simp append_assoc

-- ---- a cut

-- the low key that was read from the right part is that of the cut
pub cut_low : (low : List ℕ) (high : Option (List ℕ)) (n : ℕ) (xs : List Entry) (back read : List ℕ) (k : Cut low high greatest n xs) → back ≡ spelled (drop n xs) → read ≡ unwrap_or (first_low_of (items_of plain_entry back)) [] → read ≡ k.key
cut_low low high n xs back read k is e =
    let items = items_of-read plain_entry back (drop n xs) [] (spelled_read k.key high greatest (drop n xs) back k.right is) in
    e ∙ ap (λ (ys : List Entry). unwrap_or (first_low_of ys) []) items ∙ ap (λ (o : Option (List ℕ)). unwrap_or o []) k.first

there_high : (low : List ℕ) (number : ℕ) (key : List ℕ) → 1 ≤ number → in_range 1 64 (length key) ≡ true → bytes_below low key ≡ true → (high_key low number).fits (Some key) ≡ true
there_high low number key some short above = on (number == 0) refl
  where
    on : (b : Bool) → (number == 0) ≡ b → option_fits (not b) (key_above low) (Some key) ≡ true
    on true is = absurd (omega (arith, eqb-true number 0 is))
    on false is = and_from _ _ short above

-- the high key is above a key that is below it
higher : (low key : List ℕ) (right : ℕ) (high : Option (List ℕ)) → (high_key low right).fits high ≡ true → below_bound key high ≡ true → (high_key key right).fits high ≡ true
higher low key right None h bound = on (not (right == 0)) h
  where
    on : (there : Bool) → option_fits there (key_above low) None ≡ true → option_fits there (key_above key) None ≡ true
    on true h = h
    on false h = h
higher low key right (Some high) h bound = on (not (right == 0)) h
  where
    on : (there : Bool) → option_fits there (key_above low) (Some high) ≡ true → option_fits there (key_above key) (Some high) ≡ true
    on true h = and_from _ _ (and_parts (in_range 1 64 (length high)) (bytes_below low high) h).0 bound
    on false h = absurd cc

module _ (version level : ℕ) (low : List ℕ) (right : ℕ) (high : Option (List ℕ)) (entries : List ℕ) (n : ℕ) (p : AreInnerParts version level low right high entries) (k : Cut low high greatest n (items_of plain_entry entries)) where
  left_read : (front : List ℕ) → front ≡ spelled (take n (items_of plain_entry entries)) → plain_list plain_entry front ≡ Ok (take n (items_of plain_entry entries), [])
  left_read front is = spelled_read low (Some k.key) greatest (take n (items_of plain_entry entries)) front k.left is

  pub left_parts : (number : ℕ) (key front : List ℕ) → 1 ≤ number → number ≤ greatest → key ≡ k.key → front ≡ spelled (take n (items_of plain_entry entries)) → AreInnerParts version level low number (Some key) front
  left_parts number key front some most same is =
      let f = inner_fits (inner_in version level low right high entries) p.fits in
      let made : AreInnerParts version level low number (Some k.key) front = record {
        entry_list = whole_list_read plain_entry front (take n (items_of plain_entry entries)) (left_read front is);
        fits = fit_inner (inner_in version level low number (Some k.key) front) (record {
          version = f.version;
          level = f.level;
          low = f.low;
          right = in_range_from 0 greatest number (omega arith) most;
          high = there_high low number k.key some k.short k.above_low;
          entries = ap (list_fits false (entry low (Some k.key) greatest) None) (items_of-read plain_entry front (take n (items_of plain_entry entries)) [] (left_read front is)) ∙ k.left;
        });
      } in
      subst (λ (h : List ℕ). AreInnerParts version level low number (Some h) front) (sym same) made

  pub left_is : (number : ℕ) (key front : List ℕ) → key ≡ k.key → front ≡ spelled (take n (items_of plain_entry entries)) → inner_in version level low number (Some key) front ≡ left_node n number (inner_in version level low right high entries)
  left_is number key front same is =
      let old = inner_in version level low right high entries in
      let xs = items_of plain_entry entries in
      ap (λ (es : List Entry). record old { right = number; high = Some key; entries = es }) (items_of-read plain_entry front (take n xs) [] (left_read front is))
      ∙ ap (λ (h : Option (List ℕ)). record old { right = number; high = h; entries = take n xs }) (ap (λ (h : List ℕ). Some h) same ∙ sym k.first)

  right_read : (back : List ℕ) → back ≡ spelled (drop n (items_of plain_entry entries)) → plain_list plain_entry back ≡ Ok (drop n (items_of plain_entry entries), [])
  right_read back is = spelled_read k.key high greatest (drop n (items_of plain_entry entries)) back k.right is

  pub right_whole : (back : List ℕ) → back ≡ spelled (drop n (items_of plain_entry entries)) → IsWholeList plain_entry back
  right_whole back is = whole_list_read plain_entry back (drop n (items_of plain_entry entries)) (right_read back is)

  pub right_parts : (key back : List ℕ) → key ≡ k.key → back ≡ spelled (drop n (items_of plain_entry entries)) → AreInnerParts 1 level key right high back
  right_parts key back same is =
      let f = inner_fits (inner_in version level low right high entries) p.fits in
      let made : AreInnerParts 1 level k.key right high back = record {
        entry_list = right_whole back is;
        fits = fit_inner (inner_in 1 level k.key right high back) (record {
          version = refl;
          level = f.level;
          low = in_range_from 0 64 (length k.key) (omega arith) (in_range_parts 1 64 (length k.key) k.short).1;
          right = f.right;
          high = higher low k.key right high f.high k.bound;
          entries = ap (list_fits false (entry k.key high greatest) None) (items_of-read plain_entry back (drop n (items_of plain_entry entries)) [] (right_read back is)) ∙ k.right;
        });
      } in
      subst (λ (l : List ℕ). AreInnerParts 1 level l right high back) (sym same) made

  pub right_is : (key back : List ℕ) → key ≡ k.key → back ≡ spelled (drop n (items_of plain_entry entries)) → inner_in 1 level key right high back ≡ right_node n (inner_in version level low right high entries)
  right_is key back same is =
      let old = inner_in version level low right high entries in
      let xs = items_of plain_entry entries in
      ap (λ (es : List Entry). record old { version = 1; low = key; entries = es }) (items_of-read plain_entry back (drop n xs) [] (right_read back is))
      ∙ ap (λ (l : List ℕ). record old { version = 1; low = l; entries = drop n xs }) (same ∙ sym (ap (λ (o : Option (List ℕ)). unwrap_or o []) k.first))

-- the cut of a node at a place inside
pub cut_node : (version level : ℕ) (low : List ℕ) (right : ℕ) (high : Option (List ℕ)) (entries : List ℕ) (n : ℕ) → AreInnerParts version level low right high entries → 0 < n → n < length (items_of plain_entry entries) → Cut low high greatest n (items_of plain_entry entries)
cut_node version level low right high entries n p some short = cut_of low high greatest n (items_of plain_entry entries) (inner_fits (inner_in version level low right high entries) p.fits).entries some short
