-- Roots and nodes that were split at their fields: what they are where the entries were read, and where all of the bytes are known to spell one.
use Rattle.std.proofs.Common.{◌≡◌, ℕ, ◌-◌, Bool, true, false, cond, eqb, List, [], length, Option, None, Result, Ok, Err, refl, sym, ap, ◌∙◌}
use Rattle.std.proofs.lemmas.Bool.{eqb-true}
use Rattle.std.proofs.lemmas.List.{nil_from_length}
use Rattle.byte_format.specs.Format.{◌>>=◌, Format, greatest, list_at, list_of}
use Rattle.byte_format.specs.Whole.{IsBytes, whole}
use Rattle.byte_format.proofs.Steps.{bind_ok, ok_is}
use Rattle.byte_format.proofs.Wholes.{whole_only, whole_found}
use Rattle.node_codec.specs.Node.{Entry, entry, plain_entry, plain_number}
use Rattle.node_codec.specs.Plain.{items_of, plain_list, IsWholeList}
use Rattle.node_codec.specs.Tree.{Tree, IsTree, tree_format, tree_in, tree_read, AreTreeParts}
use Rattle.node_codec.specs.Inner.{Inner, IsInner, inner_format, inner_in, inner_read, AreInnerParts}
use Rattle.node_codec.proofs.PlainLemmas.{Loosens, list_loosened, items_of-read, whole_list_read}
use Rattle.node_codec.proofs.NodeLemmas.{entry_loosens}
use Rattle.node_codec.proofs.TreeLemmas.{tree_exact, parts_of_whole}
use Rattle.node_codec.proofs.InnerLemmas.{inner_exact, inner_parts_of_whole}

-- ---- a list that is all of the bytes

ended : {A : Type 0} (x : List A) (rest : List ℕ) (b : Bool) → eqb (length rest) 0 ≡ b → (xs : List A) → cond b (Ok x) (Err (length rest)) ≡ Ok xs → (x ≡ xs) × (rest ≡ [])
ended x rest true is xs h = (ok_is x xs h, nil_from_length rest (eqb-true _ _ is))
ended x rest false is xs h = absurd cc

-- it is a list without its rules
whole_loosened : {A : Type 0} (item : Option A → Format A) (f : Format A) → Loosens item f → (may_end : Bool) (bytes : List ℕ) (xs : List A) → whole (list_of may_end item None) bytes ≡ Ok xs → plain_list f bytes ≡ Ok (xs, [])
whole_loosened {A = A} item f l may_end bytes xs h =
    let a = bind_ok (list_at may_end item None bytes) (λ (x : List A × List ℕ). cond (eqb (length x.1) 0) (Ok x.0) (Err (length x.1))) xs h in
    let e = ended a.0.0 a.0.1 (eqb (length a.0.1) 0) refl xs a.2 in
    list_loosened item f l may_end bytes a.0 a.1 ∙ ap (λ (ys : List A). Ok (ys, a.0.1)) e.0 ∙ ap (λ (r : List ℕ). Ok (xs, r)) e.1

-- the entries that are all of the bytes, as they are read
entries_known : (low : List ℕ) (high : Option (List ℕ)) (last : ℕ) (bytes : List ℕ) (xs : List Entry) → whole (list_of false (entry low high last) None) bytes ≡ Ok xs → (xs ≡ items_of plain_entry bytes) × IsWholeList plain_entry bytes
entries_known low high last bytes xs h =
    let listed = whole_loosened (entry low high last) plain_entry (entry_loosens low high last) false bytes xs h in
    (sym (items_of-read plain_entry bytes xs [] listed), whole_list_read plain_entry bytes xs listed)

-- what was made of a part that was read
made : {A B : Type 0} (r : Result A ℕ) (make : A → B) (v : B) → (r >>= λ x. Ok (make x)) ≡ Ok v → (x : A) × (r ≡ Ok x)
made (Ok x) make v h = (x, refl)
made (Err left) make v h = absurd cc

-- ---- roots

module _ (version next level : ℕ) (cursor entries bytes : List ℕ) (fits : IsBytes bytes) (reads : whole tree_format bytes ≡ tree_read version next level cursor entries) (numbers : IsWholeList plain_number cursor) where
  -- the root whose entries were read
  pub tree_checked : whole (list_of false (entry [] None (next - 1)) None) entries ≡ Ok (items_of plain_entry entries) → whole tree_format bytes ≡ Ok (tree_in version next level cursor entries)
  tree_checked h = reads ∙ rw h refl

  pub tree_checked_parts : whole (list_of false (entry [] None (next - 1)) None) entries ≡ Ok (items_of plain_entry entries) → IsWholeList plain_entry entries → AreTreeParts next level cursor entries
  tree_checked_parts h listed = parts_of_whole version next level cursor entries bytes fits (tree_checked h) numbers listed

  -- the entries of bytes that spell a root
  tree_entries : (t : Tree) × IsTree bytes t → (whole (list_of false (entry [] None (next - 1)) None) entries ≡ Ok (items_of plain_entry entries)) × IsWholeList plain_entry entries
  tree_entries spelled =
      let r = whole (list_of false (entry [] None (next - 1)) None) entries in
      let make : List Entry → Tree = λ es. record { version = version; next = next; level = level; cursor = items_of plain_number cursor; entries = es } in
      let m = made r make spelled.0 (sym reads ∙ whole_only tree_format tree_exact bytes spelled.0 spelled.1) in
      let k = entries_known [] None (next - 1) entries m.0 m.1 in
      (m.1 ∙ ap (λ (es : List Entry). Ok es) k.0, k.1)

  pub tree_known_parts : (t : Tree) × IsTree bytes t → AreTreeParts next level cursor entries
  tree_known_parts spelled = let e = tree_entries spelled in tree_checked_parts e.0 e.1

  pub tree_known : (t : Tree) × IsTree bytes t → IsTree bytes (tree_in version next level cursor entries)
  tree_known spelled = whole_found tree_format tree_exact bytes (tree_in version next level cursor entries) fits (tree_checked (tree_entries spelled).0)

-- ---- nodes

module _ (version level : ℕ) (low : List ℕ) (right : ℕ) (high : Option (List ℕ)) (entries bytes : List ℕ) (fits : IsBytes bytes) (reads : whole inner_format bytes ≡ inner_read version level low right high entries) where
  -- the node whose entries were read
  pub inner_checked : whole (list_of false (entry low high greatest) None) entries ≡ Ok (items_of plain_entry entries) → whole inner_format bytes ≡ Ok (inner_in version level low right high entries)
  inner_checked h = reads ∙ rw h refl

  pub inner_checked_parts : whole (list_of false (entry low high greatest) None) entries ≡ Ok (items_of plain_entry entries) → IsWholeList plain_entry entries → AreInnerParts version level low right high entries
  inner_checked_parts h listed = inner_parts_of_whole version level low right high entries bytes fits (inner_checked h) listed

  -- the entries of bytes that spell a node
  inner_entries : (n : Inner) × IsInner bytes n → (whole (list_of false (entry low high greatest) None) entries ≡ Ok (items_of plain_entry entries)) × IsWholeList plain_entry entries
  inner_entries spelled =
      let r = whole (list_of false (entry low high greatest) None) entries in
      let make : List Entry → Inner = λ es. record { version = version; level = level; low = low; right = right; high = high; entries = es } in
      let m = made r make spelled.0 (sym reads ∙ whole_only inner_format inner_exact bytes spelled.0 spelled.1) in
      let k = entries_known low high greatest entries m.0 m.1 in
      (m.1 ∙ ap (λ (es : List Entry). Ok es) k.0, k.1)

  pub inner_known_parts : (n : Inner) × IsInner bytes n → AreInnerParts version level low right high entries
  inner_known_parts spelled = let e = inner_entries spelled in inner_checked_parts e.0 e.1

  pub inner_known : (n : Inner) × IsInner bytes n → IsInner bytes (inner_in version level low right high entries)
  inner_known spelled = whole_found inner_format inner_exact bytes (inner_in version level low right high entries) fits (inner_checked (inner_entries spelled).0)
