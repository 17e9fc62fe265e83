-- How a dump goes on behind what was read: each line that a dump has there may stand there.
use Rattle.std.proofs.Common.{◌≡◌, ℕ, suc, ◌+◌, ◌-◌, ◌<◌, ◌≤◌, ◌^◌, Bool, true, false, ◌&&◌, nat_le, nat_lt, List, [], ◌∷◌, ◌++◌, length, Option, Some, None, refl, sym, ap, ◌∙◌, subst, arith, append_assoc, append-nil}
use Rattle.std.specs.Prelude.{IfSome}
use Rattle.std.specs.List.{AllByRecursion}
use Rattle.std.proofs.lemmas.Bool.{le-leb, lt-ltb, lt-leb}
use Rattle.db_base.specs.Key.{IsAttr}
use Rattle.leaf_view.specs.Fits.{Ascend, Behind}
use Rattle.words.specs.Line.{parts_of, text_of}
use Rattle.report_types.specs.declared.stored.Stored.{Stored}
use Rattle.dump_text.specs.declared.dump.DumpedTree.{DumpedTree}
use Rattle.dump_text.specs.declared.reading.PartialTree.{PartialTree}
use Rattle.dump_text.specs.declared.reading.Reading.{Reading}
use Rattle.dump_text.specs.BadLine.{line_feeds}
use Rattle.dump_text.specs.Dump.{IsRecord, IsDumpedTree, IsDumpable, stored_below, tree_below}
use Rattle.dump_text.specs.Room.{room}
use Rattle.dump_text.specs.Steps.{last_behind, is_behind, is_attr, is_record, continues, may_open, with_record, with_tree_line, with_record_line, step}
use Rattle.dump_text.specs.Text.{tree_line, record_line, record_lines, tree_text, dump_text, HasBytes, IsInRange}
use Rattle.dump_text.specs.Words.{tree_of_words, stored_of_words}
use Rattle.dump_text.proofs.Ascents.{all_back, ascend_back, true_behind}
use Rattle.dump_text.proofs.Feeds.{feeds_both, first_is}
use Rattle.dump_text.proofs.Filling.{few}
use Rattle.dump_text.proofs.States.{tree_alone}
use Rattle.dump_text.proofs.WordLaws.{tree_words, stored_words, tree_read, stored_read, tree_feedless, stored_feedless}

-- ---- tests

both_true : (a b : Bool) → a ≡ true → b ≡ true → (a && b) ≡ true
both_true true true p q = refl
both_true true false p q = absurd cc
both_true false b p q = absurd cc

attr_so : (attr : Option (List ℕ)) → IfSome attr IsAttr → is_attr attr ≡ true
attr_so None h = refl
attr_so (Some bytes) h = both_true _ _ (lt-ltb 0 (length bytes) h.some) (le-leb (length bytes) 32 h.short)

record_so : (s : Stored) → IsRecord s → is_record s ≡ true
record_so s h =
    both_true (nat_lt 0 (length s.key) && nat_le (length s.key) 64 && nat_le (length s.payload) 1024) (is_attr s.attr)
    (both_true (nat_lt 0 (length s.key) && nat_le (length s.key) 64) (nat_le (length s.payload) 1024)
    (both_true (nat_lt 0 (length s.key)) (nat_le (length s.key) 64) (lt-ltb 0 (length s.key) h.key.some) (le-leb (length s.key) 64 h.key.short))
    (le-leb (length s.payload) 1024 h.payload))
    (attr_so s.attr h.attr)

-- ---- how it goes on

abbrev pub completed : PartialTree → List Stored → DumpedTree
completed p more = record { tree = p.tree; records = p.records ++ more }

-- behind whole trees other trees stand
pub record GoesOn (trees : List DumpedTree) (rest : List ℕ) (all : List DumpedTree) : Type 0 where
  pub others : List DumpedTree
  pub all_are : all ≡ trees ++ others
  pub rest_is : rest ≡ dump_text others

-- within a tree its missing records, and then other trees
pub record GoesOnWithin (trees : List DumpedTree) (p : PartialTree) (rest : List ℕ) (all : List DumpedTree) : Type 0 where
  pub more : List Stored
  pub others : List DumpedTree
  pub count : length more ≡ p.left
  pub all_are : all ≡ trees ++ completed p more ∷ others
  pub rest_is : rest ≡ record_lines more ++ dump_text others

abbrev pub Continues : List DumpedTree → Option PartialTree → List ℕ → List DumpedTree → Type 0
Continues trees None rest all = GoesOn trees rest all
Continues trees (Some p) rest all = GoesOnWithin trees p rest all

-- where a tree is partial, records are missing
abbrev pub MaySome : Option PartialTree → Type 0
MaySome None = Unit {0}
MaySome (Some p) = 1 ≤ p.left

-- a line that may stand there, and how the dump goes on behind it
pub record LeadsOn (trees : List DumpedTree) (partial : Option PartialTree) (line rest : List ℕ) (all : List DumpedTree) : Type 0 where
  pub next : Reading
  pub may : step trees partial line ≡ Some next
  pub on : Continues next.trees next.partial rest all

-- ---- the end

line_feed : (a : List ℕ) → 1 ≤ line_feeds (a ++ 10 ∷ [])
line_feed a =
    let b = feeds_both a (10 ∷ []) in
    let e : line_feeds (10 ∷ []) ≡ 1 = refl in
    omega arith

record_feed : (s : Stored) (rest : List ℕ) → 1 ≤ line_feeds (record_line s ++ rest)
record_feed s rest =
    let a = feeds_both (record_line s) rest in
    let b = line_feed (text_of 32 (stored_words s)) in
    omega arith

tree_feed : (tree count : ℕ) (rest : List ℕ) → 1 ≤ line_feeds (tree_line tree count ++ rest)
tree_feed tree count rest =
    let a = feeds_both (tree_line tree count) rest in
    let b = line_feed (text_of 32 (tree_words tree count)) in
    omega arith

no_trees : (others : List DumpedTree) → line_feeds (dump_text others) ≡ 0 → others ≡ []
no_trees [] h = refl
no_trees (t ∷ others) h =
    let a = feeds_both (tree_text t) (dump_text others) in
    let b = tree_feed t.tree (length t.records) (record_lines t.records) in
    absurd (omega arith)

-- behind whole trees a dump without a further line has no further tree
pub whole_ends : (trees : List DumpedTree) (rest : List ℕ) (all : List DumpedTree) → GoesOn trees rest all → line_feeds rest ≡ 0 → (rest ≡ []) × (all ≡ trees)
whole_ends trees rest all g h =
    let none : g.others ≡ [] = no_trees g.others (sym (ap line_feeds g.rest_is) ∙ h) in
    (g.rest_is ∙ ap dump_text none, g.all_are ∙ ap (λ (x : List DumpedTree). trees ++ x) none ∙ append-nil trees)

-- within a tree a dump has a further line
pub partial_goes_on : (trees : List DumpedTree) (p : PartialTree) (rest : List ℕ) (all : List DumpedTree) → 1 ≤ p.left → GoesOnWithin trees p rest all → line_feeds rest ≡ 0 → ⊥
partial_goes_on trees p rest all some g h = on g.more g.count (sym (ap line_feeds g.rest_is) ∙ h)
  where
    on : (more : List Stored) → length more ≡ p.left → line_feeds (record_lines more ++ dump_text g.others) ≡ 0 → ⊥
    on [] count h = omega arith
    on (s ∷ more) count h =
        let a = feeds_both (record_lines (s ∷ more)) (dump_text g.others) in
        let b = record_feed s (record_lines more) in
        omega arith

-- ---- one line further

-- the parts of a line and of what stands behind it
front_of : (line rest words behind : List ℕ) → line_feeds line ≡ 0 → line_feeds words ≡ 0 → line ++ 10 ∷ rest ≡ (words ++ 10 ∷ []) ++ behind → (line ≡ words) × (rest ≡ behind)
front_of line rest words behind p q e = first_is line words rest behind p q (e ∙ append_assoc words (10 ∷ []) behind)

tree_true : (before : Option DumpedTree) (t : DumpedTree) → Behind tree_below before t → is_behind tree_below before (tree_alone t.tree) ≡ true
tree_true None t h = refl
tree_true (Some b) t h = h

-- the line of the next tree
next_tree : (trees : List DumpedTree) (line rest : List ℕ) (t : DumpedTree) (others all : List DumpedTree) → AllByRecursion IsInRange all → IsDumpable all → line_feeds line ≡ 0 → all ≡ trees ++ t ∷ others → line ++ 10 ∷ rest ≡ dump_text (t ∷ others) → LeadsOn trees None line rest all
unfolding with_tree_line
next_tree trees line rest t others all range dumpable free are text =
    let here : IsDumpedTree t = (all_back IsDumpedTree trees (t ∷ others) (subst (AllByRecursion IsDumpedTree) are dumpable.each)).0 in
    let in_range : IsInRange t = (all_back IsInRange trees (t ∷ others) (subst (AllByRecursion IsInRange) are range)).0 in
    let behind : Behind tree_below (last_behind None trees) t = (ascend_back tree_below None trees (t ∷ others) (subst (Ascend tree_below None) are dumpable.ascending)).0 in
    let most = here.tree.most in
    let small : t.tree < 2 ^ 64 = omega arith in
    let parts = front_of line rest (text_of 32 (tree_words t.tree (length t.records))) (record_lines t.records ++ dump_text others) free (tree_feedless t.tree (length t.records) small in_range.count)
    (text ∙ append_assoc (tree_line t.tree (length t.records)) (record_lines t.records) (dump_text others)) in
    let read : tree_of_words (parts_of 32 line) ≡ Some (t.tree, length t.records) = ap (λ (l : List ℕ). tree_of_words (parts_of 32 l)) parts.0 ∙ tree_read t.tree (length t.records) small in_range.count in
    let may : may_open trees t.tree (length t.records) ≡ true =
    both_true (nat_le 1 t.tree && nat_le t.tree 16 && nat_le 1 (length t.records)) (is_behind tree_below (last_behind None trees) (tree_alone t.tree))
    (both_true (nat_le 1 t.tree && nat_le t.tree 16) (nat_le 1 (length t.records)) (both_true (nat_le 1 t.tree) (nat_le t.tree 16) (le-leb 1 t.tree here.tree.some) (le-leb t.tree 16 most)) (le-leb 1 (length t.records) here.some))
    (tree_true (last_behind None trees) t behind) in
    record {
      next = record { trees = trees; partial = Some (record { tree = t.tree; records = []; left = length t.records }) };
      may = rw (read, may) refl;
      on = record {
        more = t.records;
        others = others;
        count = refl;
        all_are = are;
        rest_is = parts.1;
      };
    }

-- the line of the next record, by whether it is the last one of its tree
next_record : (trees : List DumpedTree) (p : PartialTree) (line rest : List ℕ) (s : Stored) (more : List Stored) (others all : List DumpedTree) → AllByRecursion IsInRange all → IsDumpable all → line_feeds line ≡ 0 → suc (length more) ≡ p.left → all ≡ trees ++ completed p (s ∷ more) ∷ others → line ++ 10 ∷ rest ≡ record_lines (s ∷ more) ++ dump_text others → LeadsOn trees (Some p) line rest all
unfolding with_record_line
next_record trees p line rest s more others all range dumpable free count are text =
    let t : DumpedTree = completed p (s ∷ more) in
    let here : IsDumpedTree t = (all_back IsDumpedTree trees (t ∷ others) (subst (AllByRecursion IsDumpedTree) are dumpable.each)).0 in
    let in_range : IsInRange t = (all_back IsInRange trees (t ∷ others) (subst (AllByRecursion IsInRange) are range)).0 in
    let each : AllByRecursion IsRecord (s ∷ more) = all_back IsRecord p.records (s ∷ more) here.records.each in
    let bytes : AllByRecursion HasBytes (s ∷ more) = all_back HasBytes p.records (s ∷ more) in_range.bytes in
    let up : Ascend stored_below (last_behind None p.records) (s ∷ more) = ascend_back stored_below None p.records (s ∷ more) here.records.ascending in
    let fits : length more ≤ room (Some s) = few (Some s) more each.1 bytes.1 up.1 in
    let parts = front_of line rest (text_of 32 (stored_words s)) (record_lines more ++ dump_text others) free (stored_feedless s bytes.0)
    (text ∙ append_assoc (record_line s) (record_lines more) (dump_text others)) in
    let read : stored_of_words (parts_of 32 line) ≡ Some s = ap (λ (l : List ℕ). stored_of_words (parts_of 32 l)) parts.0 ∙ stored_read s bytes.0 in
    let may : continues p s ≡ true =
    both_true (is_record s && is_behind stored_below (last_behind None p.records) s) (nat_le (p.left - 1) (room (Some s)))
    (both_true (is_record s) (is_behind stored_below (last_behind None p.records) s) (record_so s each.0) (true_behind stored_below (last_behind None p.records) s up.0))
    (le-leb (p.left - 1) (room (Some s)) (omega arith)) in
    record {
      next = with_record trees p s;
      may = rw (read, may) refl;
      on = went_on more count are parts.1;
    }
  where
    went_on : (more : List Stored) → suc (length more) ≡ p.left → all ≡ trees ++ completed p (s ∷ more) ∷ others → rest ≡ record_lines more ++ dump_text others → Continues (with_record trees p s).trees (with_record trees p s).partial rest all
    went_on [] count are rest_is =
        let one : nat_le p.left 1 ≡ true = le-leb p.left 1 (omega arith) in
        rw one (record {
          others = others;
          all_are = are ∙ sym (append_assoc trees (completed p (s ∷ []) ∷ []) others);
          rest_is = rest_is;
        })
    went_on (m ∷ more) count are rest_is =
        let many : nat_le p.left 1 ≡ false = lt-leb p.left 1 (omega arith) in
        rw many (record {
          more = m ∷ more;
          others = others;
          count = omega arith;
          all_are = are ∙ ap (λ (records : List Stored). trees ++ (record { tree = p.tree; records = records }) ∷ others) (sym (append_assoc p.records (s ∷ []) (m ∷ more)));
          rest_is = rest_is;
        })

-- each line that a dump has there may stand there
pub leads_on : (trees : List DumpedTree) (partial : Option PartialTree) (line rest : List ℕ) (all : List DumpedTree) → AllByRecursion IsInRange all → IsDumpable all → line_feeds line ≡ 0 → MaySome partial → Continues trees partial (line ++ 10 ∷ rest) all → LeadsOn trees partial line rest all
leads_on trees None line rest all range dumpable free some g = on g.others g.all_are g.rest_is
  where
    on : (others : List DumpedTree) → all ≡ trees ++ others → line ++ 10 ∷ rest ≡ dump_text others → LeadsOn trees None line rest all
    on [] are text = absurd (let f = feeds_both line (10 ∷ rest) in let e : line_feeds (line ++ 10 ∷ rest) ≡ 0 = ap line_feeds text in let k : line_feeds (10 ∷ rest) ≡ 1 + line_feeds rest = refl in omega arith)
    on (t ∷ others) are text = next_tree trees line rest t others all range dumpable free are text
leads_on trees (Some p) line rest all range dumpable free some g = on g.more g.count g.all_are g.rest_is
  where
    on : (more : List Stored) → length more ≡ p.left → all ≡ trees ++ completed p more ∷ g.others → line ++ 10 ∷ rest ≡ record_lines more ++ dump_text g.others → LeadsOn trees (Some p) line rest all
    on [] count are text = absurd (omega arith)
    on (s ∷ more) count are text = next_record trees p line rest s more g.others all range dumpable free count are text
