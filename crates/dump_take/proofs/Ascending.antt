-- The records of a whole chain of leaves are in the order of their keys, each key once, and within the limits.
use Rattle.std.proofs.Common.{◌≡◌, ℕ, Bool, true, false, not, List, [], ◌∷◌, ◌++◌, map, Option, Some, None, Ok, refl, sym, ap, subst, ◌∙◌, arith}
use Rattle.std.specs.List.{AllByRecursion}
use Rattle.std.proofs.lemmas.List.{append_assoc, append-nil, flat_map_more}
use Rattle.db_base.specs.declared.names.ObjName.TheVariants as object
use Rattle.byte_format.specs.Order.{bytes_below, bytes_same, below_bound}
use Rattle.byte_format.proofs.OrderLemmas.{same_is}
use Rattle.cloud_trait.specs.State.{CloudState, newest}
use Rattle.dump_text.specs.Dump.{IsRecord, AreRecords, stored_below}
use Rattle.leaf_view.specs.Fits.{Ascend, IsEntryIn, IsHigh, entry_below}
use Rattle.leaf_view.specs.Leaf.{Entry, Leaf}
use Rattle.leaf_view.proofs.Split.{leaf_fits}
use Rattle.node_codec.proofs.EntryLemmas.{above, below_chain}
use Rattle.report_types.specs.declared.stored.Stored.{Stored}
use Rattle.replay_meaning.specs.Chain.{IsReadAs, IsNewestLeaf, Leads, Walked, records_of, stored_of}
use Rattle.replay_meaning.proofs.ChainLemmas.{one_leaf, leads_on, no_page, read_ascends, read_high}
use Rattle.world_audit.specs.Stop.{Meet, ChainIsWhole}

-- ---- one leaf

-- what is below a low key is below what is not
between : (a low key : List ℕ) → bytes_below a low ≡ true → not (bytes_below key low) ≡ true → bytes_below a key ≡ true
between a low key less past = on (bytes_below key low) refl (bytes_same key low) refl
  where
    on : (b : Bool) → bytes_below key low ≡ b → (same : Bool) → bytes_same key low ≡ same → bytes_below a key ≡ true
    on true e same f = absurd (let never : not true ≡ true = ap not (sym e) ∙ past in cc)
    on false e true f = subst (λ k. bytes_below a k ≡ true) (sym (same_is key low f)) less
    on false e false f = below_chain a low key less (above key low e f)

-- the record before is below a key, where there is one
abbrev IsLow : List ℕ → Option Stored → Type 0
IsLow low None = Unit {0}
IsLow low (Some p) = bytes_below p.key low ≡ true

-- behind a record of a leaf its later ones ascend, and so does what goes on from each below the high key
tail_ascends : (low : List ℕ) (high : Option (List ℕ)) (e : Entry) (es : List Entry) (behind : List Stored) → below_bound e.key high ≡ true
    → AllByRecursion (IsEntryIn low high) es → Ascend entry_below (Some e) es → ((p : Stored) → below_bound p.key high ≡ true → Ascend stored_below (Some p) behind)
    → Ascend stored_below (Some (stored_of e)) (map stored_of es ++ behind)
tail_ascends low high e [] behind within are up on = on (stored_of e) within
tail_ascends low high e (f ∷ es) behind within are up on = (up.0, tail_ascends low high f es behind are.0.to_high are.1 up.1 on)

-- and so do all of its records, behind one that is below its low key
leaf_ascends : (low : List ℕ) (high : Option (List ℕ)) (before : Option Stored) (es : List Entry) (behind : List Stored) → IsLow low before
    → AllByRecursion (IsEntryIn low high) es → Ascend entry_below None es → Ascend stored_below before behind
    → ((p : Stored) → below_bound p.key high ≡ true → Ascend stored_below (Some p) behind) → Ascend stored_below before (map stored_of es ++ behind)
leaf_ascends low high before [] behind less are up none on = none
leaf_ascends low high None (e ∷ es) behind less are up none on = (tt, tail_ascends low high e es behind are.0.to_high are.1 up.1 on)
leaf_ascends low high (Some p) (e ∷ es) behind less are up none on =
    (between p.key low e.key less are.0.from_low, tail_ascends low high e es behind are.0.to_high are.1 up.1 on)

-- the records of a leaf that was read are within its fences
read_within : (tree page : ℕ) (bytes : Option (List ℕ)) (l : Leaf) → IsReadAs tree page bytes (Ok l) → AllByRecursion (IsEntryIn l.low l.high) l.records
read_within tree page None l is = subst (λ (x : Leaf). AllByRecursion (IsEntryIn x.low x.high) x.records) (sym is.1) tt
read_within tree page (Some bytes) l is = (leaf_fits l is.fits).1.records

each_record : (low : List ℕ) (high : Option (List ℕ)) (es : List Entry) (behind : List Stored) → AllByRecursion (IsEntryIn low high) es → AllByRecursion IsRecord behind
    → AllByRecursion IsRecord (map stored_of es ++ behind)
each_record low high [] behind are later = later
each_record low high (e ∷ es) behind are later =
    (record { key = are.0.key; payload = are.0.payload; attr = are.0.attr }, each_record low high es behind are.1 later)

-- ---- leaves

low_behind : (low right : List ℕ) (before : Option Stored) → bytes_below low right ≡ true → IsLow low before → IsLow right before
low_behind low right None up less = tt
low_behind low right (Some p) up less = below_chain p.key low right less up

-- a leaf with a high key: it is above the low key
high_above : (low : List ℕ) (right : ℕ) (high : Option (List ℕ)) (to : List ℕ) → IsHigh low right high → high ≡ Some to → bytes_below low to ≡ true
high_above low right None to is e = absurd (cc)
high_above low right (Some k) to is e = let same : k ≡ to = inside k to e in subst (λ (x : List ℕ). bytes_below low x ≡ true) same is.2
  where
    inside : (a b : List ℕ) → (let o : Option (List ℕ) = Some a in o ≡ Some b) → a ≡ b
    inside a b e = cc

module _ (s : CloudState) (tree : ℕ) where
  ascend_from : (from : ℕ) (leaves : List Leaf) (to : ℕ) (low behind : List ℕ) (before : Option Stored) (rest : List Stored)
      → Leads s tree from leaves to → Meet low leaves behind → IsLow low before
      → ((p : Option Stored) → IsLow behind p → Ascend stored_below p rest) → Ascend stored_below before (records_of leaves ++ rest)
  ascend_from from [] to low behind before rest lead meet less on = on before (subst (λ (k : List ℕ). IsLow k before) meet less)
  ascend_from from (l ∷ leaves) to low behind before rest lead meet less on =
      let here : Option (List ℕ) = newest s (object.Page tree from) in
      let begins : IsLow l.low before = subst (λ (k : List ℕ). IsLow k before) (sym meet.0) less in
      let up : bytes_below l.low meet.1 ≡ true = high_above l.low l.right l.high meet.1 (read_high tree from here l lead.1) meet.2 in
      let again : (p : Option Stored) → IsLow meet.1 p → Ascend stored_below p (records_of leaves ++ rest)
      = λ p below. ascend_from l.right leaves to meet.1 behind p rest lead.2 meet.3 below on in
      subst (Ascend stored_below before) (sym (append_assoc (map stored_of l.records) (records_of leaves) rest))
      (leaf_ascends l.low l.high before l.records (records_of leaves ++ rest) begins (read_within tree from here l lead.1) (read_ascends tree from here l lead.1)
      (again before (low_behind l.low meet.1 before up begins))
      (λ p within. again (Some p) (subst (λ (h : Option (List ℕ)). below_bound p.key h ≡ true) meet.2 within)))

  each_from : (from : ℕ) (leaves : List Leaf) (to : ℕ) → Leads s tree from leaves to → AllByRecursion IsRecord (records_of leaves)
  each_from from [] to lead = tt
  each_from from (l ∷ leaves) to lead =
      each_record l.low l.high l.records (records_of leaves) (read_within tree from (newest s (object.Page tree from)) l lead.1) (each_from l.right leaves to lead.2)

  -- leaves that lead from a page to none are determined
  pub same_chain : (from : ℕ) (xs ys : List Leaf) → Leads s tree from xs 0 → Leads s tree from ys 0 → xs ≡ ys
  same_chain from [] [] a b = refl
  same_chain from [] (y ∷ ys) a b = absurd (omega (arith, a, b.0))
  same_chain from (x ∷ xs) [] a b = absurd (omega (arith, b, a.0))
  same_chain from (x ∷ xs) (y ∷ ys) a b =
      let e : x ≡ y = one_leaf tree from (newest s (object.Page tree from)) x y a.1 b.1 in
      let rest : xs ≡ ys = same_chain x.right xs ys a.2 (subst (λ (l : Leaf). Leads s tree l.right ys 0) (sym e) b.2) in
      cc

  pub are_records : (records : List Stored) → Walked s tree 0 records → ChainIsWhole s tree → AreRecords records
  are_records records w c =
      let read : IsNewestLeaf s tree c.page c.last.leaf = c.last.read in
      let all : List Leaf = c.comes.leaves ++ c.last.leaf ∷ [] in
      let lead : Leads s tree 1 all c.last.leaf.right = leads_on s tree 1 c.comes.leaves c.page c.last.leaf c.comes.lead c.is_page read in
      let ends : Leads s tree 1 all 0 = subst (Leads s tree 1 all) (no_page c.last.leaf.right c.last.right) lead in
      let same : w.leaves ≡ all = same_chain 1 w.leaves all w.lead ends in
      let of : records ≡ records_of all = w.are ∙ ap records_of same in
      let last : List Stored = map stored_of c.last.leaf.records in
      record {
        each = subst (AllByRecursion IsRecord) (sym of) (each_from 1 all 0 ends);
        ascending = subst (Ascend stored_below None) (sym (of ∙ records_end c.comes.leaves c.last.leaf))
            (ascend_from 1 c.comes.leaves c.page [] c.low None last c.comes.lead c.comes.meet tt (λ p below. last_ascends c.page c.last.leaf c.low read c.last.begins p below));
      }
    where
      records_end : (leaves : List Leaf) (l : Leaf) → records_of (leaves ++ l ∷ []) ≡ records_of leaves ++ map stored_of l.records
      records_end leaves l = sym (flat_map_more (λ (m : Leaf). map stored_of m.records) [] leaves l)

      last_ascends : (page : ℕ) (l : Leaf) (low : List ℕ) → IsNewestLeaf s tree page l → l.low ≡ low → (p : Option Stored) → IsLow low p → Ascend stored_below p (map stored_of l.records)
      last_ascends page l low read begins p below = subst (Ascend stored_below p) (append-nil (map stored_of l.records))
          (leaf_ascends l.low l.high p l.records [] (subst (λ (k : List ℕ). IsLow k p) (sym begins) below)
          (read_within tree page (newest s (object.Page tree page)) l read) (read_ascends tree page (newest s (object.Page tree page)) l read) tt (λ q within. tt))
