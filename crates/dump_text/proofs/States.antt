-- What was read of a text so far: what it is the text of, and that a dump begins so.
use Rattle.std.proofs.Common.{◌≡◌, ℕ, ◌+◌, ◌-◌, ◌<◌, ◌≤◌, ◌^◌, Bool, true, false, ◌&&◌, cond, nat_le, nat_lt, List, [], ◌∷◌, ◌++◌, length, Option, Some, None, refl, sym, ap, ◌∙◌, subst, inl, inr, arith, append_assoc, append-nil, length-append}
use Rattle.std.specs.Prelude.{IfSome}
use Rattle.std.specs.List.{AllByRecursion}
use Rattle.std.proofs.lemmas.Bool.{and_parts, leb-true, leb-false, ltb-true}
use Rattle.std.proofs.lemmas.Grind.{flat_map-append}
use Rattle.std.proofs.lemmas.Option.{same_Some}
use Rattle.db_base.specs.Ids.{IsTree}
use Rattle.db_base.specs.Key.{IsAttr}
use Rattle.leaf_view.specs.Fits.{Behind}
use Rattle.words.specs.Line.{parts_of}
use Rattle.words.proofs.Shapes.{bind_some}
use Rattle.report_types.specs.declared.stored.Stored.{Stored}
use Rattle.dump_text.specs.declared.dump.DumpedTree.{DumpedTree}
use Rattle.dump_text.specs.declared.reading.PartialTree.{PartialTree}
use Rattle.dump_text.specs.declared.reading.Reading.{Reading}
use Rattle.dump_text.specs.Dump.{IsRecord, AreRecords, IsDumpedTree, IsDumpable, stored_below, tree_below}
use Rattle.dump_text.specs.Room.{room}
use Rattle.dump_text.specs.Steps.{last_behind, is_behind, is_attr, is_record, continues, may_open, with_record, with_tree_line, with_record_line, step}
use Rattle.dump_text.specs.Text.{tree_line, record_line, record_lines, tree_text, dump_text, HasBytes, IsInRange, Begins}
use Rattle.dump_text.specs.Words.{tree_of_words, stored_of_words}
use Rattle.dump_text.proofs.Ascents.{all_both, ascend_both, behind_true, last_pushed}
use Rattle.dump_text.proofs.Filling.{IsKeyed, Filled, fill}
use Rattle.dump_text.proofs.Rooms.{too_many}
use Rattle.dump_text.proofs.WordLaws.{chosen, tree_spelled, stored_spelled}

-- ---- tests

attr_is : (attr : Option (List ℕ)) → is_attr attr ≡ true → IfSome attr IsAttr
attr_is None h = tt
attr_is (Some bytes) h =
    let p = and_parts (nat_lt 0 (length bytes)) (nat_le (length bytes) 32) h in
    record { some = ltb-true _ _ p.0; short = leb-true _ _ p.1 }

record_is : (s : Stored) → is_record s ≡ true → IsRecord s
record_is s h =
    let a = and_parts (nat_lt 0 (length s.key) && nat_le (length s.key) 64 && nat_le (length s.payload) 1024) (is_attr s.attr) h in
    let b = and_parts (nat_lt 0 (length s.key) && nat_le (length s.key) 64) (nat_le (length s.payload) 1024) a.0 in
    let d = and_parts (nat_lt 0 (length s.key)) (nat_le (length s.key) 64) b.0 in
    record {
      key = record { some = ltb-true _ _ d.0; short = leb-true _ _ d.1 };
      payload = leb-true _ _ b.1;
      attr = attr_is s.attr a.1;
    }

-- ---- what was read

-- the text of a tree of which records are missing
abbrev pub partial_text : Option PartialTree → List ℕ
partial_text None = []
partial_text (Some p) = tree_line p.tree (length p.records + p.left) ++ record_lines p.records

-- the text that was read
abbrev pub read_text : List DumpedTree → Option PartialTree → List ℕ
read_text trees partial = dump_text trees ++ partial_text partial

abbrev pub tree_alone : ℕ → DumpedTree
tree_alone tree = record { tree = tree; records = [] }

pub record IsPartial (trees : List DumpedTree) (p : PartialTree) : Type 0 where
  pub tree : IsTree p.tree
  pub behind : is_behind tree_below (last_behind None trees) (tree_alone p.tree) ≡ true
  pub records : AreRecords p.records
  pub bytes : AllByRecursion HasBytes p.records
  pub some : 1 ≤ p.left
  pub count : length p.records + p.left < 2 ^ 64
  pub fits : p.left ≤ room (last_behind None p.records)

abbrev pub MayBePartial : List DumpedTree → Option PartialTree → Type 0
MayBePartial trees None = Unit {0}
MayBePartial trees (Some p) = IsPartial trees p

pub record IsSound (trees : List DumpedTree) (p : Option PartialTree) : Type 0 where
  pub in_range : AllByRecursion IsInRange trees
  pub dumpable : IsDumpable trees
  pub partial : MayBePartial trees p

-- ---- one tree more

tree_behind : (before : Option DumpedTree) (t : DumpedTree) → is_behind tree_below before (tree_alone t.tree) ≡ true → Behind tree_below before t
tree_behind None t h = tt
tree_behind (Some b) t h = h

dumpable_more : (trees : List DumpedTree) (t : DumpedTree) → IsDumpable trees → is_behind tree_below (last_behind None trees) (tree_alone t.tree) ≡ true → IsDumpedTree t → IsDumpable (trees ++ t ∷ [])
dumpable_more trees t d behind is = record {
  each = all_both IsDumpedTree trees (t ∷ []) d.each (is, tt);
  ascending = ascend_both tree_below None trees (t ∷ []) d.ascending (tree_behind (last_behind None trees) t behind, tt);
}

range_more : (trees : List DumpedTree) (t : DumpedTree) → AllByRecursion IsInRange trees → IsInRange t → AllByRecursion IsInRange (trees ++ t ∷ [])
range_more trees t all is = all_both IsInRange trees (t ∷ []) all (is, tt)

text_more : (trees : List DumpedTree) (t : DumpedTree) → dump_text (trees ++ t ∷ []) ≡ dump_text trees ++ tree_text t
text_more trees t = flat_map-append tree_text trees (t ∷ []) ∙ ap (λ (x : List ℕ). dump_text trees ++ x) (append-nil (tree_text t))

lines_more : (records more : List Stored) → record_lines (records ++ more) ≡ record_lines records ++ record_lines more
lines_more records more = flat_map-append record_line records more

-- ---- a dump begins so

last_keyed : (before : Option Stored) (records : List Stored) → IsKeyed before → AllByRecursion IsRecord records → AllByRecursion HasBytes records → IsKeyed (last_behind before records)
last_keyed before [] k each bytes = k
last_keyed before (s ∷ records) k each bytes = last_keyed (Some s) records (record { bytes = bytes.0.key; short = each.0.key.short }) each.1 bytes.1

none_keyed : IsKeyed None
none_keyed = record { bytes = λ i. omega arith; short = omega arith }

pub begins : (trees : List DumpedTree) (partial : Option PartialTree) → IsSound trees partial → Begins (read_text trees partial)
begins trees None s = record {
  more = [];
  trees = trees;
  whole = record { in_range = s.in_range; dumpable = s.dumpable; is = simp append-nil };
}
begins trees (Some p) s =
    let is = s.partial in
    let keyed = last_keyed None p.records none_keyed is.records.each is.bytes in
    let f = fill p.left (last_behind None p.records) keyed is.fits in
    filled trees p s f
  where
    filled : (trees : List DumpedTree) (p : PartialTree) → IsSound trees (Some p) → Filled (last_behind None p.records) p.left → Begins (read_text trees (Some p))
    filled trees p s f =
        let is = s.partial in
        let t : DumpedTree = record { tree = p.tree; records = p.records ++ f.records } in
        let counted : length (p.records ++ f.records) ≡ length p.records + p.left = length-append p.records f.records ∙ ap (λ (n : ℕ). length p.records + n) f.count in
        let below = is.count in
        let some = is.some in
        record {
          more = record_lines f.records;
          trees = trees ++ t ∷ [];
          whole = record {
            in_range = range_more trees t s.in_range (record { count = rw counted below; bytes = all_both HasBytes p.records f.records is.bytes f.bytes });
            dumpable = dumpable_more trees t s.dumpable is.behind (record {
              tree = is.tree;
              some = rw counted (omega arith);
              records = record {
                each = all_both IsRecord p.records f.records is.records.each f.each;
                ascending = ascend_both stored_below None p.records f.records is.records.ascending f.ascending;
              };
            });
            is =
                append_assoc (dump_text trees) (partial_text (Some p)) (record_lines f.records)
                ∙ ap (λ (x : List ℕ). dump_text trees ++ x) (append_assoc (tree_line p.tree (length p.records + p.left)) (record_lines p.records) (record_lines f.records)
                ∙ ap (λ (x : List ℕ). tree_line p.tree (length p.records + p.left) ++ x) (sym (lines_more p.records f.records))
                ∙ ap (λ (n : ℕ). tree_line p.tree n ++ record_lines (p.records ++ f.records)) (sym counted))
                ∙ sym (text_more trees t);
          };
        }

-- ---- one line further

pub record Advanced (trees : List DumpedTree) (partial : Option PartialTree) (line : List ℕ) (r : Reading) : Type 0 where
  pub sound : IsSound r.trees r.partial
  pub text : read_text r.trees r.partial ≡ read_text trees partial ++ (line ++ 10 ∷ [])

-- the line of a tree
opened : (trees : List DumpedTree) (tree count : ℕ) (line : List ℕ) → IsSound trees None → tree < 2 ^ 64 → count < 2 ^ 64 → line ++ 10 ∷ [] ≡ tree_line tree count → may_open trees tree count ≡ true
    → Advanced trees None line (record { trees = trees; partial = Some (record { tree = tree; records = []; left = count }) })
opened trees tree count line s small fits is may =
    let a = and_parts (nat_le 1 tree && nat_le tree 16 && nat_le 1 count) (is_behind tree_below (last_behind None trees) (tree_alone tree)) may in
    let b = and_parts (nat_le 1 tree && nat_le tree 16) (nat_le 1 count) a.0 in
    let d = and_parts (nat_le 1 tree) (nat_le tree 16) b.0 in
    let all = too_many 64 (omega arith) in
    let none : 0 + count ≡ count = omega arith in
    record {
      sound = record {
        in_range = s.in_range;
        dumpable = s.dumpable;
        partial = record {
          tree = record { some = leb-true _ _ d.0; most = leb-true _ _ d.1 };
          behind = a.1;
          records = record { each = tt; ascending = tt };
          bytes = tt;
          some = leb-true _ _ b.1;
          count = omega arith;
          fits = omega arith;
        };
      };
      text =
          ap (λ (x : List ℕ). dump_text trees ++ x) (append-nil (tree_line tree (0 + count)) ∙ ap (λ (n : ℕ). tree_line tree n) none ∙ sym is)
          ∙ ap (λ (x : List ℕ). x ++ (line ++ 10 ∷ [])) (sym (append-nil (dump_text trees)));
    }

-- the text of a tree with one record more
grown_text : (trees : List DumpedTree) (tree n : ℕ) (records : List Stored) (s : Stored) (line : List ℕ) → line ++ 10 ∷ [] ≡ record_line s
    → dump_text trees ++ (tree_line tree n ++ record_lines (records ++ s ∷ [])) ≡ (dump_text trees ++ (tree_line tree n ++ record_lines records)) ++ (line ++ 10 ∷ [])
grown_text trees tree n records s line is =
    ap (λ (x : List ℕ). dump_text trees ++ x)
    (ap (λ (x : List ℕ). tree_line tree n ++ x) (lines_more records (s ∷ []) ∙ ap (λ (x : List ℕ). record_lines records ++ x) (append-nil (record_line s) ∙ sym is))
    ∙ sym (append_assoc (tree_line tree n) (record_lines records) (line ++ 10 ∷ [])))
    ∙ sym (append_assoc (dump_text trees) (tree_line tree n ++ record_lines records) (line ++ 10 ∷ []))

records_more : (records : List Stored) (s : Stored) → AreRecords records → IsRecord s → is_behind stored_below (last_behind None records) s ≡ true → AreRecords (records ++ s ∷ [])
records_more records s are is behind = record {
  each = all_both IsRecord records (s ∷ []) are.each (is, tt);
  ascending = ascend_both stored_below None records (s ∷ []) are.ascending (behind_true stored_below (last_behind None records) s behind, tt);
}

-- the last record of a tree
completed : (trees : List DumpedTree) (p : PartialTree) (s : Stored) (line : List ℕ) → IsSound trees (Some p) → HasBytes s → line ++ 10 ∷ [] ≡ record_line s → IsRecord s → is_behind stored_below (last_behind None p.records) s ≡ true → p.left ≡ 1
    → Advanced trees (Some p) line (record { trees = trees ++ (record { tree = p.tree; records = p.records ++ s ∷ [] }) ∷ []; partial = None })
completed trees p s line sound bytes is rec behind one =
    let part = sound.partial in
    let t : DumpedTree = record { tree = p.tree; records = p.records ++ s ∷ [] } in
    let counted : length (p.records ++ s ∷ []) ≡ length p.records + 1 = length-append p.records (s ∷ []) in
    let below = part.count in
    record {
      sound = record {
        in_range = range_more trees t sound.in_range (record { count = rw counted (omega arith); bytes = all_both HasBytes p.records (s ∷ []) part.bytes (bytes, tt) });
        dumpable = dumpable_more trees t sound.dumpable part.behind (record {
          tree = part.tree;
          some = rw counted (omega arith);
          records = records_more p.records s part.records rec behind;
        });
        partial = tt;
      };
      text =
          append-nil (dump_text (trees ++ t ∷ []))
          ∙ text_more trees t
          ∙ ap (λ (n : ℕ). dump_text trees ++ (tree_line p.tree n ++ record_lines (p.records ++ s ∷ []))) (counted ∙ ap (λ (n : ℕ). length p.records + n) (sym one))
          ∙ grown_text trees p.tree (length p.records + p.left) p.records s line is;
    }

-- a record behind which others are missing
continued : (trees : List DumpedTree) (p : PartialTree) (s : Stored) (line : List ℕ) → IsSound trees (Some p) → HasBytes s → line ++ 10 ∷ [] ≡ record_line s → IsRecord s → is_behind stored_below (last_behind None p.records) s ≡ true → p.left - 1 ≤ room (Some s) → 1 < p.left
    → Advanced trees (Some p) line (record { trees = trees; partial = Some (record { tree = p.tree; records = p.records ++ s ∷ []; left = p.left - 1 }) })
continued trees p s line sound bytes is rec behind fits more =
    let part = sound.partial in
    let counted : length (p.records ++ s ∷ []) ≡ length p.records + 1 = length-append p.records (s ∷ []) in
    let same : length (p.records ++ s ∷ []) + (p.left - 1) ≡ length p.records + p.left = omega arith in
    let below = part.count in
    record {
      sound = record {
        in_range = sound.in_range;
        dumpable = sound.dumpable;
        partial = record {
          tree = part.tree;
          behind = part.behind;
          records = records_more p.records s part.records rec behind;
          bytes = all_both HasBytes p.records (s ∷ []) part.bytes (bytes, tt);
          some = omega arith;
          count = omega arith;
          fits = rw (last_pushed None p.records s) fits;
        };
      };
      text =
          ap (λ (n : ℕ). dump_text trees ++ (tree_line p.tree n ++ record_lines (p.records ++ s ∷ []))) same
          ∙ grown_text trees p.tree (length p.records + p.left) p.records s line is;
    }

with_record_advances : (trees : List DumpedTree) (p : PartialTree) (s : Stored) (line : List ℕ) → IsSound trees (Some p) → HasBytes s → line ++ 10 ∷ [] ≡ record_line s → continues p s ≡ true → Advanced trees (Some p) line (with_record trees p s)
with_record_advances trees p s line sound bytes is may =
    let a = and_parts (is_record s && is_behind stored_below (last_behind None p.records) s) (nat_le (p.left - 1) (room (Some s))) may in
    let b = and_parts (is_record s) (is_behind stored_below (last_behind None p.records) s) a.0 in
    let some = sound.partial.some in
    on (nat_le p.left 1) refl (record_is s b.0) b.1 (leb-true _ _ a.1) some
  where
    on : (last : Bool) → nat_le p.left 1 ≡ last → IsRecord s → is_behind stored_below (last_behind None p.records) s ≡ true → p.left - 1 ≤ room (Some s) → 1 ≤ p.left
        → Advanced trees (Some p) line (cond last (record { trees = trees ++ (record { tree = p.tree; records = p.records ++ s ∷ [] }) ∷ []; partial = None }) (record { trees = trees; partial = Some (record { tree = p.tree; records = p.records ++ s ∷ []; left = p.left - 1 }) }))
    on true e rec behind fits some = let most = leb-true p.left 1 e in completed trees p s line sound bytes is rec behind (omega arith)
    on false e rec behind fits some = let more = leb-false p.left 1 e in continued trees p s line sound bytes is rec behind fits (omega arith)

-- a line that may stand there leads on
pub advances : (trees : List DumpedTree) (partial : Option PartialTree) (line : List ℕ) (r : Reading) → IsSound trees partial → step trees partial line ≡ Some r → Advanced trees partial line r
unfolding with_tree_line with_record_line
advances trees None line r sound e =
    let t = bind_some (tree_of_words (parts_of 32 line)) _ r e in
    let is = tree_spelled line t.0 t.1 in
    elim (chosen (may_open trees t.0.0 t.0.1) _ _ _ t.2) [
      | inl may ↦ subst (λ (x : Reading). Advanced trees None line x) (same_Some _ r may.1) (opened trees t.0.0 t.0.1 line sound is.0 is.1 is.2 may.0)
      | inr not ↦ absurd (nothing r not.1)
    ]
  where
    nothing : (r : Reading) → None ≡ Some r → ⊥
    nothing r e = absurd cc
advances trees (Some p) line r sound e =
    let t = bind_some (stored_of_words (parts_of 32 line)) _ r e in
    let is = stored_spelled line t.0 t.1 in
    elim (chosen (continues p t.0) _ _ _ t.2) [
      | inl may ↦ subst (λ (x : Reading). Advanced trees (Some p) line x) (same_Some _ r may.1) (with_record_advances trees p t.0 line sound is.0 is.1 may.0)
      | inr not ↦ absurd (nothing r not.1)
    ]
  where
    nothing : (r : Reading) → None ≡ Some r → ⊥
    nothing r e = absurd cc
