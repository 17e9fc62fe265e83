-- Reading a leaf step by step.
use Rattle.std.proofs.Common.{◌≡◌, ℕ, Bool, true, false, eqb, List, [], ◌∷◌, length, Option, None, Result, Ok, Err, refl, sym, ap, subst, ◌∙◌, arith, inl}
use Rattle.std.specs.Prelude.{◌&&◌}
use Rattle.std.proofs.lemmas.Bool.{and_parts, and_from, eqb-true}
use Rattle.byte_format.specs.Format.{Reading, Format, greatest, in_range, list_at, more_at}
use Rattle.byte_format.specs.Whole.{whole, IsSpelling, IsBytes}
use Rattle.byte_format.specs.Gives.{behind_it}
use Rattle.byte_format.specs.Plain.{items_in}
use Rattle.byte_format.proofs.Steps.{ok_is, never_err, IsBytes-along, IsBytes-behind}
use Rattle.byte_format.proofs.Lists.{IsWider, list_at-wider, list_exact}
use Rattle.byte_format.proofs.Wholes.{whole_found, whole_only}
use Rattle.byte_format.proofs.Plain.{listed_of}
use Rattle.leaf_view.specs.declared.done.Done.{Done}
use Rattle.leaf_view.specs.Leaf.{Entry, Head, Leaf, leaf_head, done_item, record_item, leaf, leaf_of, attribute, plain_done, plain_entry, key_stands}
use Rattle.leaf_view.specs.Fits.{IsWellFormed}
use Rattle.leaf_view.specs.Lookup.{empty_leaf}
use Rattle.leaf_view.specs.Sound.{leaf_with, IsSound}
use Rattle.leaf_view.specs.Spelled.{records_spelling}
use Rattle.leaf_view.proofs.Exact.{head_exact, done_exact, record_exact, leaf_exact, plain_done_exact, plain_entry_exact}
use Rattle.leaf_view.proofs.Spelled.{all-read}
use Rattle.leaf_view.proofs.Split.{range_from, dones_split, leaf_fits}

-- ---- the items without their ties fit too

done_wider : (b : Option Done) → IsWider (done_item b) plain_done
unfolding done_item plain_done
done_wider b = record {
  fits = λ d h.
      let is = (dones_split.apart b d h).0 in
      and_from _ _ (range_from 0 greatest d.queue (omega arith) is.queue) (and_from _ _ (range_from 1 64 d.client is.client.some is.client.most) (range_from 1 greatest d.number is.some is.most));
  alike = λ d. refl;
}

entry_wider : (format : ℕ) (low : List ℕ) (high : Option (List ℕ)) (b : Option Entry) → IsWider (record_item format low high b) (plain_entry format)
unfolding record_item plain_entry
entry_wider format low high b = record {
  fits = λ e h.
      let p = and_parts (in_range 1 64 (length e.key) && key_stands low high b e.key) (in_range 0 1024 (length e.value.payload) && (attribute format).fits e.value.attr) h in
      and_from _ _ (and_parts (in_range 1 64 (length e.key)) (key_stands low high b e.key) p.0).0 p.1;
  alike = λ e. refl;
}

-- ---- a list that was skipped

skipped : {A : Type 0} (r : Reading (List A)) (rest : List ℕ) → behind_it r ≡ Ok rest → (xs : List A) × (r ≡ Ok (xs, rest))
skipped (Ok x) rest h = (x.0, let e : x.1 ≡ rest = cc in ap (λ (t : List ℕ). Ok (x.0, t)) e)
skipped (Err d) rest h = absurd cc

not_skipped : {A : Type 0} (r : Reading (List A)) (left : ℕ) → behind_it r ≡ Err left → r ≡ Err left
not_skipped (Ok x) left h = absurd cc
not_skipped (Err d) left h = cc

-- ---- the steps

pub head_fails : (bytes : List ℕ) (left : ℕ) → leaf_head.reading bytes ≡ Err left → whole leaf bytes ≡ Err left
unfolding leaf
head_fails bytes left h = rw h refl

pub done_fails : (bytes : List ℕ) (head : Head) (done : List ℕ) (left : ℕ) → leaf_head.reading bytes ≡ Ok (head, done) → behind_it (list_at true done_item None done) ≡ Err left → whole leaf bytes ≡ Err left
unfolding leaf
done_fails bytes head done left h d = rw (h, not_skipped (list_at true done_item None done) left d) refl

pub records_fail : (bytes : List ℕ) (head : Head) (done records : List ℕ) (left : ℕ) → leaf_head.reading bytes ≡ Ok (head, done) → behind_it (list_at true done_item None done) ≡ Ok records
    → behind_it (list_at true (record_item head.format head.low head.high) None records) ≡ Err left → whole leaf bytes ≡ Err left
unfolding leaf
records_fail bytes head done records left h d r =
    let ds = skipped (list_at true done_item None done) records d in
    rw (h, ds.1, not_skipped (list_at true (record_item head.format head.low head.high) None records) left r) refl

pub goes_on : (bytes : List ℕ) (head : Head) (done records rest : List ℕ) → leaf_head.reading bytes ≡ Ok (head, done) → behind_it (list_at true done_item None done) ≡ Ok records
    → behind_it (list_at true (record_item head.format head.low head.high) None records) ≡ Ok rest → eqb (length rest) 0 ≡ false → whole leaf bytes ≡ Err (length rest)
unfolding leaf
goes_on bytes head done records rest h d r more =
    let ds = skipped (list_at true done_item None done) records d in
    let es = skipped (list_at true (record_item head.format head.low head.high) None records) rest r in
    rw (h, ds.1, es.1, more) refl

-- what was read
pub record IsRead (bytes : List ℕ) (head : Head) (done records : List ℕ) : Type 0 where
  pub sound : IsSound head done records
  pub is : whole leaf bytes ≡ Ok (leaf_with head done records)

ends_so : (bytes : List ℕ) (head : Head) (done records rest : List ℕ) (ds : List Done) (es : List Entry) → leaf_head.reading bytes ≡ Ok (head, done) → list_at true done_item None done ≡ Ok (ds, records)
    → list_at true (record_item head.format head.low head.high) None records ≡ Ok (es, rest) → eqb (length rest) 0 ≡ true → whole leaf bytes ≡ Ok (leaf_of (head, (ds, es)))
unfolding leaf
ends_so bytes head done records rest ds es h d r end = rw (h, d, r, end) refl

pub is_read : (bytes : List ℕ) (head : Head) (done records rest : List ℕ) → IsBytes bytes → leaf_head.reading bytes ≡ Ok (head, done) → behind_it (list_at true done_item None done) ≡ Ok records
    → behind_it (list_at true (record_item head.format head.low head.high) None records) ≡ Ok rest → eqb (length rest) 0 ≡ true → IsRead bytes head done records
is_read bytes head done records rest fits h d r end =
    let ds = skipped (list_at true done_item None done) records d in
    let es = skipped (list_at true (record_item head.format head.low head.high) None records) rest r in
    let done_fits = IsBytes-behind (leaf_head.spelling head) done (IsBytes-along bytes _ (head_exact.takes bytes (head, done) fits h).1 fits) in
    let records_fits = IsBytes-behind _ records (IsBytes-along done _ ((list_exact true done_item None done_exact).takes done (ds.0, records) done_fits ds.1).1 done_fits) in
    let plain_ds = list_at-wider done_item (λ _. plain_done) done_exact (λ _. plain_done_exact) done_wider true None done (ds.0, records) done_fits ds.1 in
    let plain_es = list_at-wider (record_item head.format head.low head.high) (λ _. plain_entry head.format) (record_exact head.format head.low head.high) (λ _. plain_entry_exact head.format) (entry_wider head.format head.low head.high) true None records (es.0, rest) records_fits es.1 in
    let dl = listed_of plain_done done (ds.0, records) plain_ds in
    let el = listed_of (plain_entry head.format) records (es.0, rest) plain_es in
    let all = all-read head.format records es.0 rest records_fits plain_es (eqb-true (length rest) 0 end) in
    let is : whole leaf bytes ≡ Ok (leaf_with head done records) =
    ends_so bytes head done records rest ds.0 es.0 h ds.1 es.1 end ∙ ap (λ (xs : List Done). Ok (leaf_of (head, (xs, es.0)))) (sym dl.1) ∙ ap (λ (xs : List Entry). Ok (leaf_of (head, (items_in plain_done done, xs)))) (sym el.1) in
    record {
      sound = record { done_listed = dl.0; records_listed = el.0; records_all = all; formed = (leaf_fits (leaf_with head done records) (whole_found leaf leaf_exact bytes (leaf_with head done records) fits is).fits).1 };
      is = is;
    }

-- of bytes that spell a leaf the records are read as well
pub is_known : (bytes : List ℕ) (head : Head) (done records : List ℕ) → IsBytes bytes → (l : Leaf) × IsSpelling leaf bytes l → leaf_head.reading bytes ≡ Ok (head, done)
    → behind_it (list_at true done_item None done) ≡ Ok records → IsRead bytes head done records
is_known bytes head done records fits spelled h d = known_by (behind_it (list_at true (record_item head.format head.low head.high) None records)) refl
  where
    never_fails : (left : ℕ) → whole leaf bytes ≡ Err left → ⊥
    never_fails left is = never_err spelled.0 left (sym (whole_only leaf leaf_exact bytes spelled.0 spelled.1) ∙ is)

    ends : (rest : List ℕ) → behind_it (list_at true (record_item head.format head.low head.high) None records) ≡ Ok rest → (b : Bool) → eqb (length rest) 0 ≡ b → IsRead bytes head done records
    ends rest r true is = is_read bytes head done records rest fits h d r is
    ends rest r false more = absurd (never_fails (length rest) (goes_on bytes head done records rest h d r more))

    known_by : (b : Result (List ℕ) ℕ) → behind_it (list_at true (record_item head.format head.low head.high) None records) ≡ b → IsRead bytes head done records
    known_by (Ok rest) r = ends rest r (eqb (length rest) 0) refl
    known_by (Err left) r = absurd (never_fails left (records_fail bytes head done records left h d r))

-- ---- the page that was never put

no_items : {A : Type 0} (f : Format A) → list_at true (λ _. f) None (0 ∷ []) ≡ Ok ([], [])
unfolding list_at more_at
no_items f = refl

abbrev empty_head : Head
empty_head = record { format = 2; version = 0; low = []; right = 0; high = None }

pub empty_is : leaf_with empty_head (0 ∷ []) (0 ∷ []) ≡ empty_leaf
empty_is =
    let d = (listed_of plain_done (0 ∷ []) ([], []) (no_items plain_done)).1 in
    let e = (listed_of (plain_entry 2) (0 ∷ []) ([], []) (no_items (plain_entry 2))).1 in
    ap (λ (xs : List Done). record empty_leaf { done = xs; records = items_in (plain_entry 2) (0 ∷ []) }) d ∙ ap (λ (xs : List Entry). record empty_leaf { records = xs }) e

empty_formed : IsWellFormed empty_leaf
empty_formed = record { format = inl refl; low = omega arith; right = omega arith; high = refl; done = tt; done_ascends = tt; records = tt; records_ascend = tt }

pub empty_sound : IsSound empty_head (0 ∷ []) (0 ∷ [])
empty_sound = record {
  done_listed = (listed_of plain_done (0 ∷ []) ([], []) (no_items plain_done)).0;
  records_listed = (listed_of (plain_entry 2) (0 ∷ []) ([], []) (no_items (plain_entry 2))).0;
  records_all = ap (λ (xs : List Entry). records_spelling 2 xs) (sym (listed_of (plain_entry 2) (0 ∷ []) ([], []) (no_items (plain_entry 2))).1);
  formed = subst IsWellFormed (sym empty_is) empty_formed;
}

-- ---- what `read` ensures

pub found : (bytes : List ℕ) (l : Leaf) → IsBytes bytes → whole leaf bytes ≡ Ok l → IsSpelling leaf bytes l
found bytes l fits h = whole_found leaf leaf_exact bytes l fits h

pub only : (bytes : List ℕ) (v l : Leaf) → whole leaf bytes ≡ Ok v → IsSpelling leaf bytes l → v ≡ l
only bytes v l h is = ok_is v l (sym h ∙ whole_only leaf leaf_exact bytes l is)

pub never : (bytes : List ℕ) (l : Leaf) (left : ℕ) → whole leaf bytes ≡ Err left → IsSpelling leaf bytes l → ⊥
never bytes l left h is = never_err l left (sym (whole_only leaf leaf_exact bytes l is) ∙ h)
