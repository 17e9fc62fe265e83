-- The records of a dump: each tree and key once, cut into parts of at most 200.
use Rattle.std.proofs.Common.{◌≡◌, ◌≢◌, ◌≤◌, ◌<◌, ◌+◌, ◌*◌, ◌⊎◌, inl, inr, ℕ, zero, suc, List, [], ◌∷◌, ◌++◌, length, take, drop, Option, Some, None, refl, sym, ap, subst, ◌∙◌, cond, Bool, true, false, arith, eqb-true, eq-eqb}
use Rattle.std.specs.Prelude.{◌==◌, slice_get}
use Rattle.std.specs.List.{AllByRecursion}
use Rattle.std.proofs.lemmas.List.{length-take, length-drop, take-append-drop}
use Rattle.std.proofs.lemmas.Bool.{ltb-true}
use Rattle.byte_format.specs.Order.{bytes_below}
use Rattle.cloud_facts.specs.Book.Records.{IsIn}
use Rattle.cloud_facts.proofs.Book.Places.{in_either, in_front, in_behind, get_map}
use Rattle.cloud_facts.proofs.Numbers.Lists.{map_there, take_there}
use Rattle.db_base.specs.Change.{key_of}
use Rattle.dump_text.specs.Dump.{IsDumpedTree, IsDumpable, tree_below}
use Rattle.dump_text.specs.Maps.{contents_of}
use Rattle.dump_text.specs.declared.dump.DumpedTree.{DumpedTree}
use Rattle.leaf_view.specs.Fits.{Ascend}
use Rattle.report_types.specs.declared.stored.Stored.{Stored}
use Rattle.replay_meaning.specs.Right.{stored_below}
use Rattle.txn_buffer.specs.Noted.{Noted, is_of, found_in, AreDistinct}
use Rattle.txn_buffer.proofs.NotedLemmas.{is_of-Decides}
use Rattle.load_plan.specs.Events.{Placed, placed_in, records_of, parts, transactions, parts_of}
use Rattle.schedule_run.specs.Loads.Inserts.{insert_of}
use Rattle.schedule_run.proofs.Loads.Course.{noted_of, changes_of, all_changes, AreAllParts}
use Rattle.schedule_run.proofs.Loads.Parts.{AreParts, AreOf}
use Rattle.schedule_run.proofs.Loads.SameRecords.{never, below_behind, not_above}
use Rattle.cloud_facts.proofs.Chains.Pieces.{not_itself}

-- ---- each tree and key once

-- a change of another tree or key is passed over
passed : (n : Noted) (rest : List Noted) (tree : ℕ) (key : List ℕ) → ((tree ≡ n.tree) × (key ≡ key_of n.change) → ⊥) → found_in (n ∷ rest) tree key ≡ found_in rest tree key
passed n rest tree key other = on (is_of tree key n) refl
  where
    on : (b : Bool) → is_of tree key n ≡ b → cond b (Some n.change) (found_in rest tree key) ≡ found_in rest tree key
    on true e = absurd (other ((is_of-Decides tree key n).0 e))
    on false e = refl

-- the records of another tree are
other_tree : (of : ℕ) (records : List Stored) (rest : List Placed) (tree : ℕ) (key : List ℕ) → tree ≢ of
    → found_in (changes_of (placed_in of records ++ rest)) tree key ≡ found_in (changes_of rest) tree key
other_tree of [] rest tree key other = refl
other_tree of (s ∷ records) rest tree key other =
    passed (noted_of (record { tree = of; stored = s })) (changes_of (placed_in of records ++ rest)) tree key (λ same. other same.0) ∙ other_tree of records rest tree key other

-- and so are those behind a record that is at least the key
greater_keys : (of : ℕ) (s : Stored) (records : List Stored) (rest : List Placed) (tree : ℕ) (key : List ℕ) → bytes_below s.key key ≡ false → Ascend stored_below (Some s) records
    → found_in (changes_of (placed_in of records ++ rest)) tree key ≡ found_in (changes_of rest) tree key
greater_keys of s [] rest tree key past up = refl
greater_keys of s (r ∷ records) rest tree key past up =
    let less : bytes_below key r.key ≡ true = below_behind key s.key r.key past up.0 in
    passed (noted_of (record { tree = of; stored = r })) (changes_of (placed_in of records ++ rest)) tree key
    (λ same. never (ap (λ k. bytes_below k r.key) (sym same.1) ∙ less) (not_itself r.key))
    ∙ greater_keys of r records rest tree key (not_above key r.key less) up.1

-- no record of a later tree is of an earlier one
none_later : (tree : ℕ) (key : List ℕ) (before : DumpedTree) (trees : List DumpedTree) → Ascend tree_below (Some before) trees → tree ≤ before.tree
    → found_in (changes_of (records_of trees)) tree key ≡ None
none_later tree key before [] up at_most = refl
none_later tree key before (t ∷ trees) up at_most =
    let less : before.tree < t.tree = ltb-true before.tree t.tree up.0 in
    other_tree t.tree t.records (records_of trees) tree key (λ same. absurd (omega (arith, less, same))) ∙ none_later tree key t trees up.1 (omega (arith, less))

distinct_in : (of : ℕ) (before : Option Stored) (records : List Stored) (rest : List Placed) → Ascend stored_below before records
    → ((key : List ℕ) → found_in (changes_of rest) of key ≡ None) → AreDistinct (changes_of rest) → AreDistinct (changes_of (placed_in of records ++ rest))
distinct_in of before [] rest up none distinct = distinct
distinct_in of before (s ∷ records) rest up none distinct =
    (greater_keys of s records rest of s.key (not_itself s.key) up.1 ∙ none s.key, distinct_in of (Some s) records rest up.1 none distinct)

distinct_from : (before : Option DumpedTree) (trees : List DumpedTree) → AllByRecursion IsDumpedTree trees → Ascend tree_below before trees → AreDistinct (changes_of (records_of trees))
distinct_from before [] each up = tt
distinct_from before (t ∷ trees) each up =
    distinct_in t.tree None t.records (records_of trees) each.0.records.ascending (λ key. none_later t.tree key t trees up.1 (omega arith)) (distinct_from (Some t) trees each.1 up.1)

-- ---- parts

none_taken : (n : ℕ) (ps : List Placed) (tree : ℕ) (key : List ℕ) → found_in (changes_of ps) tree key ≡ None → found_in (changes_of (take n ps)) tree key ≡ None
none_taken zero ps tree key none = refl
none_taken (suc n) [] tree key none = refl
none_taken (suc n) (p ∷ ps) tree key none = on (is_of tree key (noted_of p)) none (none_taken n ps tree key)
  where
    on : (b : Bool) → cond b (Some (noted_of p).change) (found_in (changes_of ps) tree key) ≡ None
        → (found_in (changes_of ps) tree key ≡ None → found_in (changes_of (take n ps)) tree key ≡ None)
        → cond b (Some (noted_of p).change) (found_in (changes_of (take n ps)) tree key) ≡ None
    on true h again = absurd (cc)
    on false h again = again h

distinct_taken : (n : ℕ) (ps : List Placed) → AreDistinct (changes_of ps) → AreDistinct (changes_of (take n ps))
distinct_taken zero ps distinct = tt
distinct_taken (suc n) [] distinct = tt
distinct_taken (suc n) (p ∷ ps) distinct = (none_taken n ps (noted_of p).tree (key_of (noted_of p).change) distinct.0, distinct_taken n ps distinct.1)

distinct_dropped : (n : ℕ) (ps : List Placed) → AreDistinct (changes_of ps) → AreDistinct (changes_of (drop n ps))
distinct_dropped zero ps distinct = distinct
distinct_dropped (suc n) [] distinct = tt
distinct_dropped (suc n) (p ∷ ps) distinct = distinct_dropped n ps distinct.1

are_parts : (n : ℕ) (ps : List Placed) → 200 * n < length ps + 200 → AreDistinct (changes_of ps) → AreAllParts (parts n ps)
are_parts zero ps enough distinct = tt
are_parts (suc n) ps enough distinct = (
  record { some = omega (arith, length-take 200 ps, enough); distinct = distinct_taken 200 ps distinct },
  are_parts n (drop 200 ps) (omega (arith, length-drop 200 ps, enough)) (distinct_dropped 200 ps distinct),
)

-- so many parts there are
pub parts_count : (n : ℕ) (ps : List Placed) → length (all_changes (parts n ps)) ≡ n
parts_count zero ps = refl
parts_count (suc n) ps = ap suc (parts_count n (drop 200 ps))

-- each record is in a part
in_part : (n : ℕ) (ps : List Placed) (p : Placed) → length ps ≤ 200 * n → IsIn ps p → (part : List Placed) × IsIn (parts n ps) part × IsIn part p
in_part zero [] p enough is = absurd (cc (is.1))
in_part zero (q ∷ ps) p enough is = absurd (omega (arith, enough))
in_part (suc n) ps p enough is =
    on (in_part n (drop 200 ps) p (omega (arith, length-drop 200 ps, enough))) (in_either (take 200 ps) (drop 200 ps) p (subst (λ qs. IsIn qs p) (sym (take-append-drop 200 ps)) is))
  where
    on : (IsIn (drop 200 ps) p → (part : List Placed) × IsIn (parts n (drop 200 ps)) part × IsIn part p) → IsIn (take 200 ps) p ⊎ IsIn (drop 200 ps) p
        → (part : List Placed) × IsIn (take 200 ps ∷ parts n (drop 200 ps)) part × IsIn part p
    on again (inl first) = (take 200 ps, (zero, refl), first)
    on again (inr later) = let q = again later in (q.0, (suc q.1.0, q.1.1), q.2)

-- and each part has records alone
of_part : (n : ℕ) (ps : List Placed) (part : List Placed) (p : Placed) → IsIn (parts n ps) part → IsIn part p → IsIn ps p
of_part zero ps part p at is = absurd (cc (at.1))
of_part (suc n) ps part p (zero, at) is =
    let same : take 200 ps ≡ part = cc in
    let q = subst (λ qs. IsIn qs p) (sym same) is in
    (q.0, take_there 200 ps q.0 p q.1)
of_part (suc n) ps part p (suc k, at) is =
    subst (λ qs. IsIn qs p) (take-append-drop 200 ps) (in_behind (take 200 ps) (drop 200 ps) p (of_part n (drop 200 ps) part p (k, at) is))

module _ (trees : List DumpedTree) (is : IsDumpable trees) where
  abbrev count : ℕ
  count = length (records_of trees)

  pub distinct_all : AreDistinct (changes_of (records_of trees))
  distinct_all = distinct_from None trees is.each is.ascending

  pub parts_enough : count ≤ 200 * transactions count
  parts_enough = omega arith

  -- each part may be one transaction
  pub dump_parts : AreAllParts (parts_of trees)
  dump_parts = are_parts (transactions count) (records_of trees) (omega arith) distinct_all

  -- and together they have all records
  pub dump_changes : AreParts (changes_of (records_of trees)) (all_changes (parts_of trees))
  dump_changes = record { whole = whole; within = within }
    where
      enough : count ≤ 200 * transactions count
      enough = omega arith

      whole : (n : Noted) → IsIn (changes_of (records_of trees)) n → (changes : List Noted) × IsIn (all_changes (parts_of trees)) changes × IsIn changes n
      whole n (place, at) =
          let m = map_there noted_of (records_of trees) place n at in
          let q = in_part (transactions count) (records_of trees) m.0 enough (place, m.1) in (
            changes_of q.0,
            (q.1.0, get_map changes_of (parts_of trees) q.1.0 q.0 q.1.1),
            (q.2.0, subst (λ x. slice_get (changes_of q.0) q.2.0 ≡ Some x) m.2 (get_map noted_of q.0 q.2.0 m.0 q.2.1)),
          )

      within : (changes : List Noted) (n : Noted) → IsIn (all_changes (parts_of trees)) changes → IsIn changes n → IsIn (changes_of (records_of trees)) n
      within changes n (place, at) there =
          let q = map_there changes_of (parts_of trees) place changes at in
          let own = subst (λ cs. IsIn cs n) (sym q.2) there in
          let m = map_there noted_of q.0 own.0 n own.1 in
          let p = of_part (transactions count) (records_of trees) q.0 m.0 (place, q.1) (own.0, m.1) in
          (p.0, subst (λ x. slice_get (changes_of (records_of trees)) p.0 ≡ Some x) m.2 (get_map noted_of (records_of trees) p.0 m.0 p.1))

-- ---- the records of a tree

-- where a record of a tree stands among those of the dump
placed_there : (of : ℕ) (records : List Stored) (place : ℕ) (p : Placed) → slice_get (placed_in of records) place ≡ Some p
    → (p.tree ≡ of) × (slice_get records place ≡ Some p.stored)
placed_there of [] place p at = absurd (cc)
placed_there of (s ∷ records) zero p at =
    let same : record { tree = of; stored = s } ≡ p = cc in
    (sym (ap (λ (q : Placed). q.tree) same), ap (λ (q : Placed). Some q.stored) same)
placed_there of (s ∷ records) (suc k) p at = placed_there of records k p at

placed_at : (of : ℕ) (records : List Stored) (place : ℕ) (stored : Stored) → slice_get records place ≡ Some stored
    → slice_get (placed_in of records) place ≡ Some (record { tree = of; stored = stored })
placed_at of [] place stored at = absurd (cc)
placed_at of (s ∷ records) zero stored at =
    let same : s ≡ stored = cc in
    ap (λ (x : Stored). Some (record { tree = of; stored = x })) same
placed_at of (s ∷ records) (suc k) stored at = placed_at of records k stored at

-- a record of later trees is of a greater one
later_tree : (before : DumpedTree) (trees : List DumpedTree) (p : Placed) → Ascend tree_below (Some before) trees → IsIn (records_of trees) p → before.tree < p.tree
later_tree before [] p up is = absurd (cc (is.1))
later_tree before (t ∷ trees) p up is = on (later_tree t trees p up.1) (in_either (placed_in t.tree t.records) (records_of trees) p is)
  where
    less : before.tree < t.tree
    less = ltb-true before.tree t.tree up.0

    on : (IsIn (records_of trees) p → t.tree < p.tree) → IsIn (placed_in t.tree t.records) p ⊎ IsIn (records_of trees) p → before.tree < p.tree
    on again (inl here) = let own = (placed_there t.tree t.records here.0 p here.1).0 in omega (arith, less, own)
    on again (inr later) = let more = again later in omega (arith, less, more)

record_of_tree : (tree : ℕ) (before : Option DumpedTree) (trees : List DumpedTree) (p : Placed) → Ascend tree_below before trees → IsIn (records_of trees) p → p.tree ≡ tree
    → IsIn (contents_of tree trees) p.stored
record_of_tree tree before [] p up is own = absurd (cc (is.1))
record_of_tree tree before (t ∷ trees) p up is own =
    on (record_of_tree tree (Some t) trees p up.1) (t.tree == tree) refl (in_either (placed_in t.tree t.records) (records_of trees) p is)
  where
    on : (IsIn (records_of trees) p → p.tree ≡ tree → IsIn (contents_of tree trees) p.stored) → (b : Bool) → (t.tree == tree) ≡ b
        → IsIn (placed_in t.tree t.records) p ⊎ IsIn (records_of trees) p → IsIn (cond b t.records (contents_of tree trees)) p.stored
    on again true e (inl here) = (here.0, (placed_there t.tree t.records here.0 p here.1).1)
    on again true e (inr later) =
        let more = later_tree t trees p up.1 later in
        let same : t.tree ≡ tree = eqb-true t.tree tree e in
        absurd (omega (arith, more, same, own))
    on again false e (inl here) =
        let same : t.tree == tree ≡ true = eq-eqb t.tree tree (sym (placed_there t.tree t.records here.0 p here.1).0 ∙ own) in
        absurd (never same e)
    on again false e (inr later) = again later own

tree_of_record : (tree : ℕ) (trees : List DumpedTree) (stored : Stored) → IsIn (contents_of tree trees) stored → IsIn (records_of trees) (record { tree = tree; stored = stored })
tree_of_record tree [] stored is = absurd (cc (is.1))
tree_of_record tree (t ∷ trees) stored is = on (tree_of_record tree trees stored) (t.tree == tree) refl is
  where
    one : Placed
    one = record { tree = tree; stored = stored }

    on : (IsIn (contents_of tree trees) stored → IsIn (records_of trees) one) → (b : Bool) → (t.tree == tree) ≡ b → IsIn (cond b t.records (contents_of tree trees)) stored
        → IsIn (placed_in t.tree t.records ++ records_of trees) one
    on again true e (place, at) =
        in_front (placed_in t.tree t.records) (records_of trees) one
        (place, subst (λ k. slice_get (placed_in t.tree t.records) place ≡ Some (record { tree = k; stored = stored })) (eqb-true t.tree tree e) (placed_at t.tree t.records place stored at))
    on again false e there = in_behind (placed_in t.tree t.records) (records_of trees) one (again there)

pub dump_tree : (tree : ℕ) (trees : List DumpedTree) → IsDumpable trees → AreOf tree (contents_of tree trees) (changes_of (records_of trees))
dump_tree tree trees is = record { alone = alone; each = each }
  where
    alone : (n : Noted) → IsIn (changes_of (records_of trees)) n → n.tree ≡ tree
        → (place : ℕ) × (stored : Stored) × (slice_get (contents_of tree trees) place ≡ Some stored) × (n.change ≡ insert_of stored)
    alone n (place, at) own =
        let m = map_there noted_of (records_of trees) place n at in
        let c = record_of_tree tree None trees m.0 is.ascending (place, m.1) (ap (λ (x : Noted). x.tree) m.2 ∙ own) in
        (c.0, m.0.stored, c.1, sym (ap (λ (x : Noted). x.change) m.2))

    each : (place : ℕ) (stored : Stored) → slice_get (contents_of tree trees) place ≡ Some stored
        → (n : Noted) × IsIn (changes_of (records_of trees)) n × (n.tree ≡ tree) × (n.change ≡ insert_of stored)
    each place stored at =
        let p = tree_of_record tree trees stored (place, at) in
        (noted_of (record { tree = tree; stored = stored }), (p.0, get_map noted_of (records_of trees) p.0 (record { tree = tree; stored = stored }) p.1), refl, refl)

pub contents_ascend : (tree : ℕ) (trees : List DumpedTree) → AllByRecursion IsDumpedTree trees → Ascend stored_below None (contents_of tree trees)
contents_ascend tree [] each = tt
contents_ascend tree (t ∷ trees) each = on (t.tree == tree) (contents_ascend tree trees each.1)
  where
    on : (b : Bool) → Ascend stored_below None (contents_of tree trees) → Ascend stored_below None (cond b t.records (contents_of tree trees))
    on true later = each.0.records.ascending
    on false later = later
