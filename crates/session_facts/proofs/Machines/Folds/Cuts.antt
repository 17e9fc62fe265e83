-- What is planned for a leaf that takes a run: its pieces have spellings, and their puts are those of a cut.
use Rattle.std.proofs.Common.{◌≡◌, ◌+◌, ◌-◌, ◌≤◌, ◌==◌, ℕ, zero, suc, Bool, true, false, List, [], ◌∷◌, length, map, reverse, refl, sym, ap, subst, ◌∙◌, arith}
use Rattle.std.specs.List.{AllByRecursion}
use Rattle.std.proofs.lemmas.Bool.{eqb-true, eqb-false}
use Rattle.std.proofs.lemmas.List.{append-nil, nil_from_length}
use Rattle.std.proofs.lemmas.List.Elements.{All-from_recursion}
use Rattle.byte_format.specs.Format.{greatest}
use Rattle.leaf_view.specs.Fits.{IsWellFormed, IsVersion}
use Rattle.cloud_facts.specs.Words.{PuItem, Leaf, Store, IsIn}
use Rattle.leaf_view.proofs.Split.{fits_leaf}
use Rattle.log_codec.specs.Order.{IsItem, IsOrdered}
use Rattle.log_codec.specs.Pu.{IsPuRecord}
use Rattle.log_codec.proofs.PuLaws.{pu_of-some}
use Rattle.run_cursor.specs.Run.{IsRun}
use Rattle.session_facts.proofs.Machines.Runs.Taken.{run_in}
use Rattle.split_plan.proofs.Counting.{can-cuts, length-cuts}
use Rattle.split_plan.proofs.Cutting.{pieces-are-a-cut}
use Rattle.split_plan.specs.Cut.{BeginAs, cut_by, back_part}
use Rattle.split_plan.specs.Part.{LeafPart, part_of_leaf, record_key}
use Rattle.split_plan.specs.Plan.{IsLeafPart, put_of, on_pages, leaf_bytes, leaf_pieces}
use Rattle.split_plan.specs.Sizes.{count_of, cuts_of}
use Rattle.cloud_facts.specs.Book.Premises.{IsItemOf}
use Rattle.session_facts.specs.Machines.Trees.Placings.{IsPlacing}
use Rattle.session_facts.proofs.Machines.Folds.Pieces.{put-formed, leaf_parts_fit}

-- ---- the run's items

-- a record of a queue has a spelling
item_is : (st : Store) (tree queue : ℕ) (x : PuItem) → IsItemOf st tree queue x → IsItem x
item_is st tree queue x i =
    let spelled : IsPuRecord x.rec = (pu_of-some i.sent.message.bytes x.rec i.sent.reads).0 in
    record { change = spelled.change; client = spelled.client; number = spelled.number.fits }

pub each_by : {X : Type 0} (P : X → Type 0) (xs : List X) → ((x : X) → IsIn xs x → P x) → AllByRecursion P xs
each_by P [] each = tt
each_by P (x ∷ xs) each = (each x (zero, refl), each_by P xs (λ y is. each y (suc is.0, is.1)))

pub run_ordered : (st : Store) (tree queue : ℕ) (cursor : List (ℕ × ℕ)) (received run : List PuItem) (top : List (ℕ × ℕ)) → IsRun cursor received run top
    → ((x : PuItem) → IsIn received x → IsItemOf st tree queue x) → IsOrdered run
run_ordered st tree queue cursor received run top is_run items = record {
  sorted = is_run.sorted;
  items = All-from_recursion IsItem run (each_by IsItem run (λ x is. item_is st tree queue x (items x (run_in cursor received run top is_run x is))));
}

-- ---- pieces

-- the pieces of a leaf have spellings, where their numbers do
pub pieces_fit : (first : ℕ) (l : Leaf) → ((count_of (length l.records) - 1 ≡ 0 → ⊥) → (1 ≤ first) × (first + (count_of (length l.records) - 1) ≤ greatest)) → IsVersion l.version → IsWellFormed l
    → AllByRecursion IsLeafPart (leaf_pieces first l)
pieces_fit first l numbers version formed = on (count_of (length l.records) - 1 == 0) refl
  where
    lengths : length (cuts_of (length l.records)) + 1 ≡ count_of (length l.records)
    lengths = length-cuts (length l.records)

    on : (b : Bool) → (count_of (length l.records) - 1 == 0) ≡ b → AllByRecursion IsLeafPart (leaf_pieces first l)
    on true e =
        let none : length (cuts_of (length l.records)) ≡ 0 = let is = eqb-true (count_of (length l.records) - 1) 0 e in omega (arith, lengths, is) in
        subst (λ (sizes : List ℕ). AllByRecursion IsLeafPart (cut_by record_key sizes first (part_of_leaf l))) (sym (nil_from_length (cuts_of (length l.records)) none))
        (record { fits = fits_leaf (record l { format = 2 }) version (put-formed l formed) }, tt)
    on false e =
        let n = numbers (eqb-false (count_of (length l.records) - 1) 0 e) in
        let low = n.0 in
        let high = n.1 in
        leaf_parts_fit (cuts_of (length l.records)) _ first l (can-cuts (length l.records)) low (omega (arith, high, lengths)) version formed

-- all pieces are to be put
pub record IsWhole (page first : ℕ) (ps : List LeafPart) : Type 0 where
  pub placing : IsPlacing leaf_bytes page first ps (reverse (map (put_of leaf_bytes) (on_pages page first ps)))
  pub none : placing.behind ≡ []
  pub count : length placing.middle + 1 ≡ length ps

pub pieces_placed : (page first : ℕ) (l : Leaf) → IsWhole page first (leaf_pieces first l)
pieces_placed page first l = on (leaf_pieces first l) (pieces-are-a-cut record_key first (part_of_leaf l)).begins
  where
    on : (ps : List LeafPart) → BeginAs record_key (part_of_leaf l) ps → IsWhole page first ps
    on [] begins = absurd begins
    on (p ∷ ps) begins = record {
      placing = record { front = p; middle = ps; behind = []; pieces_are = ap (λ (qs : List LeafPart). p ∷ qs) (sym (append-nil ps)); puts_are = refl };
      none = refl;
      count = omega arith;
    }

-- so many as there are numbers, and the leaf's own page
pieces_counted : (sizes : List ℕ) (free : ℕ) (p : LeafPart) → length (cut_by record_key sizes free p) ≡ length sizes + 1
pieces_counted [] free p = refl
pieces_counted (n ∷ sizes) free p = let rest = pieces_counted sizes (free + 1) (back_part record_key n p) in omega (arith, rest)

pub pieces_count : (first : ℕ) (l : Leaf) → length (leaf_pieces first l) ≡ count_of (length l.records)
pieces_count first l = pieces_counted (cuts_of (length l.records)) first (part_of_leaf l) ∙ length-cuts (length l.records)
