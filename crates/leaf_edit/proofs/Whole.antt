-- The bytes of an applied leaf are its spelling.
use Rattle.std.proofs.Common.{◌≡◌, ℕ, ◌+◌, ◌<◌, ◌≤◌, ◌^◌, Bool, true, false, cond, List, [], ◌∷◌, ◌++◌, refl, sym, ap, ◌∙◌, arith, append_assoc, inl}
use Rattle.std.specs.Prelude.{nat_lt}
use Rattle.std.specs.List.{AllByRecursion}
use Rattle.std.proofs.lemmas.Bool.{and_parts}
use Rattle.std.proofs.lemmas.List.Elements.{recursion_from_All}
use Rattle.db_base.specs.Change.{key_of}
use Rattle.byte_format.specs.Format.{greatest}
use Rattle.byte_format.specs.Order.{below_bound}
use Rattle.leaf_view.specs.declared.done.Done.{Done}
use Rattle.leaf_view.specs.Leaf.{Entry, Leaf, leaf_head, IsLeaf}
use Rattle.leaf_view.specs.Fits.{IsWellFormed, IsVersion, IsEntryIn}
use Rattle.leaf_view.specs.Lookup.{holds, number_of}
use Rattle.leaf_view.proofs.Split.{fits_leaf}
use Rattle.log_codec.specs.declared.record.PuItem.{PuItem}
use Rattle.log_codec.specs.Order.{IsItem, IsOrdered}
use Rattle.leaf_edit.specs.Applied.{applied}
use Rattle.leaf_edit.specs.Edited.{edited_by}
use Rattle.leaf_edit.specs.Lacked.{is_lacked, lacked}
use Rattle.leaf_edit.specs.Merging.{AreRecords, IsSized}
use Rattle.leaf_edit.specs.Raised.{raised}
use Rattle.leaf_edit.specs.Spelled.{head_bytes, dones_before, entries_bytes}
use Rattle.leaf_edit.proofs.DoneBytes.{dones_before-rest}
use Rattle.leaf_edit.proofs.Edits.{Sets, edited_by-all, edited_by-ascends}
use Rattle.leaf_edit.proofs.Spellings.{head_of, leaf-spelled}
use Rattle.leaf_edit.proofs.TableFits.{raised-all, raised-ascends}

-- the records of a leaf are in order and have spellings
pub records-are : (l : Leaf) → IsWellFormed l → AreRecords l.records
records-are l h = record { ascend = h.records_ascend; sized = each l.records h.records }
  where
    each : (es : List Entry) → AllByRecursion (IsEntryIn l.low l.high) es → AllByRecursion IsSized es
    each [] all = tt
    each (e ∷ es) all = (record { key = all.0.key; value = record { payload = all.0.payload; attr = all.0.attr } }, each es all.1)

-- a lacked item sets a record of the leaf's range
lacked-sets : (l : Leaf) (queue : ℕ) (xs : List PuItem) → AllByRecursion IsItem xs → AllByRecursion (Sets (IsEntryIn l.low l.high)) (lacked l queue xs)
lacked-sets l queue [] h = tt
lacked-sets l queue (x ∷ xs) h = on (is_lacked l queue x) refl (lacked-sets l queue xs h.1)
  where
    key : List ℕ
    key = key_of x.rec.change

    here : is_lacked l queue x ≡ true → Sets (IsEntryIn l.low l.high) x
    here e =
        let p = and_parts (holds l key) (nat_lt (number_of l.done queue x.rec.client) x.rec.number) e in
        let q = and_parts _ (below_bound key l.high) p.0 in
        record {
          change = h.0.change;
          here = λ value is. record { key = h.0.change.key; payload = is.payload; attr = is.attr; from_low = q.0; to_high = q.1 };
        }

    on : (b : Bool) → is_lacked l queue x ≡ b → AllByRecursion (Sets (IsEntryIn l.low l.high)) (lacked l queue xs)
        → AllByRecursion (Sets (IsEntryIn l.low l.high)) (cond b (x ∷ lacked l queue xs) (lacked l queue xs))
    on true e again = (here e, again)
    on false e again = again

-- an applied leaf is well formed
pub applied-formed : (l : Leaf) (queue : ℕ) (run : List PuItem) → queue ≤ greatest → IsWellFormed l → IsOrdered run → IsWellFormed (applied l queue run)
applied-formed l queue run small h ordered =
    let items : AllByRecursion IsItem run = recursion_from_All IsItem run ordered.items in
    record {
      format = inl refl;
      low = h.low;
      right = h.right;
      high = h.high;
      done = raised-all l.done queue run small h.done items;
      done_ascends = raised-ascends l.done queue run h.done_ascends;
      records = edited_by-all (IsEntryIn l.low l.high) l.records (lacked l queue run) (λ e in_leaf. record { payload = in_leaf.payload; attr = in_leaf.attr }) (lacked-sets l queue run items) h.records;
      records_ascend = edited_by-ascends l.records (lacked l queue run) h.records_ascend;
    }

pub head-is : (l : Leaf) (version : ℕ) → head_bytes l version ≡ leaf_head.spelling (head_of (record l { version = version }))
unfolding leaf_head
head-is l version = refl

-- head, table, records
pub applied-spelled : (l : Leaf) (queue : ℕ) (run : List PuItem) (a b c d : List ℕ) → queue ≤ greatest → IsWellFormed l → IsOrdered run
    → l.version + 1 < 2 ^ 64
    → a ≡ [] ++ head_bytes l (l.version + 1) → b ≡ a ++ dones_before (raised l.done queue run) [] → c ≡ b ++ 0 ∷ []
    → d ≡ c ++ entries_bytes (edited_by l.records (lacked l queue run)) → IsLeaf d (applied l queue run)
applied-spelled l queue run a b c d small h ordered room ha hb hc hd = record {
  fits = fits_leaf (applied l queue run) (record { some = omega arith; most = omega arith }) (applied-formed l queue run small h ordered);
  is = hd ∙ (ap (λ x. x ++ records) (hc ∙ ap (λ x. x ++ 0 ∷ []) (hb ∙ ap (λ x. x ++ dones_before table []) ha)) ∙ (parts ∙ sym (leaf-spelled (applied l queue run) refl)));
}
  where
    table : List Done
    table = raised l.done queue run

    records : List ℕ
    records = entries_bytes (edited_by l.records (lacked l queue run))

    parts : ((([] ++ head_bytes l (l.version + 1)) ++ dones_before table []) ++ 0 ∷ []) ++ records
        ≡ leaf_head.spelling (head_of (record l { version = l.version + 1 })) ++ dones_before table (0 ∷ records)
    parts = append_assoc (head_bytes l (l.version + 1) ++ dones_before table []) (0 ∷ []) records
        ∙ (append_assoc (head_bytes l (l.version + 1)) (dones_before table []) (0 ∷ records)
        ∙ (ap (λ x. head_bytes l (l.version + 1) ++ x) (sym (dones_before-rest table (0 ∷ records)))
        ∙ ap (λ x. x ++ dones_before table (0 ∷ records)) (head-is l (l.version + 1))))

-- the same, as the parts were handed on
pub spelled-is : (l : Leaf) (queue : ℕ) (run : List PuItem) (o a b c d : List ℕ) (version : ℕ) (rs : List Entry) (cs : List PuItem)
    → queue ≤ greatest → IsWellFormed l → IsOrdered run → l.version + 1 < 2 ^ 64
    → o ≡ [] → version ≡ l.version → rs ≡ l.records → cs ≡ lacked l queue run
    → a ≡ o ++ head_bytes l (version + 1) → b ≡ a ++ dones_before (raised l.done queue run) [] → c ≡ b ++ 0 ∷ []
    → d ≡ c ++ entries_bytes (edited_by rs cs) → IsLeaf d (applied l queue run)
spelled-is l queue run o a b c d version rs cs small h ordered room ho hversion hrs hcs ha hb hc hd =
    applied-spelled l queue run a b c d small h ordered room
    (ha ∙ (ap (λ o. o ++ head_bytes l (version + 1)) ho ∙ ap (λ v. head_bytes l (v + 1)) hversion)) hb hc
    (hd ∙ (ap (λ rs. c ++ entries_bytes (edited_by rs cs)) hrs ∙ ap (λ cs. c ++ entries_bytes (edited_by l.records cs)) hcs))

-- a leaf of its parts
pub parts-spell : (l : Leaf) (o a b c d : List ℕ) → l.format ≡ 2 → IsVersion l.version → IsWellFormed l
    → o ≡ [] → a ≡ o ++ head_bytes l l.version → b ≡ a ++ dones_before l.done [] → c ≡ b ++ 0 ∷ []
    → d ≡ c ++ entries_bytes l.records → IsLeaf d l
parts-spell l o a b c d format version h ho ha hb hc hd = record {
  fits = fits_leaf l version h;
  is = hd ∙ (ap (λ x. x ++ entries_bytes l.records) (hc ∙ ap (λ x. x ++ 0 ∷ []) (hb ∙ ap (λ x. x ++ dones_before l.done []) (ha ∙ ap (λ o. o ++ head_bytes l l.version) ho))) ∙ (parts ∙ sym (leaf-spelled l format)));
}
  where
    parts : (((([] ++ head_bytes l l.version)) ++ dones_before l.done []) ++ 0 ∷ []) ++ entries_bytes l.records
        ≡ leaf_head.spelling (head_of l) ++ dones_before l.done (0 ∷ entries_bytes l.records)
    parts = append_assoc (head_bytes l l.version ++ dones_before l.done []) (0 ∷ []) (entries_bytes l.records)
        ∙ (append_assoc (head_bytes l l.version) (dones_before l.done []) (0 ∷ entries_bytes l.records)
        ∙ (ap (λ x. head_bytes l l.version ++ x) (sym (dones_before-rest l.done (0 ∷ entries_bytes l.records)))
        ∙ ap (λ x. x ++ dones_before l.done (0 ∷ entries_bytes l.records)) (head-is l l.version)))
