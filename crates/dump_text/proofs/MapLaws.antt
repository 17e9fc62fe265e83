-- The dump of the records of all trees is the dump that has these records.
use Rattle.std.proofs.Common.{◌≡◌, ℕ, suc, ◌+◌, ◌<◌, ◌≤◌, Bool, true, false, cond, eqb, List, [], ◌∷◌, length, Option, Some, None, refl, sym, ap, ◌∙◌, subst, arith, get_or}
use Rattle.std.specs.List.{AllByRecursion}
use Rattle.std.proofs.lemmas.Bool.{ltb-true, eqb-true, eqb-false}
use Rattle.leaf_view.specs.Fits.{Ascend}
use Rattle.report_types.specs.declared.stored.Stored.{Stored}
use Rattle.dump_text.specs.declared.dump.DumpedTree.{DumpedTree}
use Rattle.dump_text.specs.Dump.{IsDumpedTree, IsDumpable, tree_below}
use Rattle.dump_text.specs.Maps.{trees_from, dump_of, contents_of}

-- a tree that is none of a dump has no records there
none_of : (tree : ℕ) (before : DumpedTree) (trees : List DumpedTree) → Ascend tree_below (Some before) trees → tree ≤ before.tree → contents_of tree trees ≡ []
none_of tree before [] up low = refl
none_of tree before (t ∷ trees) up low =
    let less : before.tree < t.tree = ltb-true before.tree t.tree up.0 in
    on (eqb t.tree tree) refl less (none_of tree t trees up.1 (omega arith))
  where
    on : (same : Bool) → eqb t.tree tree ≡ same → before.tree < t.tree → contents_of tree trees ≡ [] → cond same t.records (contents_of tree trees) ≡ []
    on true e less rest = let is = eqb-true t.tree tree e in absurd (omega arith)
    on false e less rest = rest

-- trees begin from a number on
abbrev IsFrom : ℕ → List DumpedTree → Type 0
IsFrom from [] = Unit {0}
IsFrom from (t ∷ trees) = from ≤ t.tree

from_behind : (t : DumpedTree) (trees : List DumpedTree) (from : ℕ) → Ascend tree_below (Some t) trees → from ≤ t.tree → IsFrom (from + 1) trees
from_behind t [] from up low = tt
from_behind t (u ∷ trees) from up low = let less : t.tree < u.tree = ltb-true t.tree u.tree up.0 in omega arith

-- trees end before a number
abbrev AreBefore : ℕ → List DumpedTree → Type 0
AreBefore end trees = AllByRecursion (λ (t : DumpedTree). t.tree < end) trees

-- contents are those that trees have from a number on
abbrev HaveFrom : ℕ → List (List Stored) → List DumpedTree → Type 0
HaveFrom from contents trees = (place : ℕ) → place < length contents → get_or contents place [] ≡ contents_of (from + place) trees

-- contents of a tree at its own number
at_own : (t : DumpedTree) (trees : List DumpedTree) (from : ℕ) → t.tree ≡ from → contents_of (from + 0) (t ∷ trees) ≡ t.records
at_own t trees from is = on (eqb t.tree (from + 0)) refl
  where
    on : (same : Bool) → eqb t.tree (from + 0) ≡ same → cond same t.records (contents_of (from + 0) trees) ≡ t.records
    on true e = refl
    on false e = absurd (eqb-false t.tree (from + 0) e (omega arith))

-- at another number
at_other : (t : DumpedTree) (trees : List DumpedTree) (tree : ℕ) → (t.tree ≡ tree → ⊥) → contents_of tree (t ∷ trees) ≡ contents_of tree trees
at_other t trees tree other = on (eqb t.tree tree) refl
  where
    on : (same : Bool) → eqb t.tree tree ≡ same → cond same t.records (contents_of tree trees) ≡ contents_of tree trees
    on true e = absurd (other (eqb-true t.tree tree e))
    on false e = refl

-- contents behind the first ones
have_behind : (from : ℕ) (records : List Stored) (contents : List (List Stored)) (trees : List DumpedTree) → HaveFrom from (records ∷ contents) trees → HaveFrom (from + 1) contents trees
have_behind from records contents trees have place short =
    let e : from + suc place ≡ (from + 1) + place = omega arith in
    have (suc place) (omega arith) ∙ ap (λ (n : ℕ). contents_of n trees) e

have_others : (from : ℕ) (contents : List (List Stored)) (t : DumpedTree) (trees : List DumpedTree) → t.tree ≡ from → HaveFrom (from + 1) contents (t ∷ trees) → HaveFrom (from + 1) contents trees
have_others from contents t trees is have place short = have place short ∙ at_other t trees ((from + 1) + place) (λ same. absurd (omega arith))

-- the trees of contents, by whether the first ones are those of the first tree
back_from : (from : ℕ) (contents : List (List Stored)) (before : Option DumpedTree) (trees : List DumpedTree) → AllByRecursion IsDumpedTree trees → Ascend tree_below before trees → IsFrom from trees → AreBefore (from + length contents) trees → HaveFrom from contents trees
    → trees_from from contents ≡ trees
back_from from [] before [] each up low high have = refl
back_from from [] before (t ∷ trees) each up low high have = let most = high.0 in absurd (omega arith)
back_from from (records ∷ contents) before [] each up low high have =
    let none : records ≡ [] = have 0 (omega arith) in
    ap (λ (r : List Stored). trees_from from (r ∷ contents)) none
    ∙ back_from (from + 1) contents None [] tt tt tt tt (have_behind from records contents [] have)
back_from from (records ∷ contents) before (t ∷ trees) each up low high have =
    on (eqb t.tree from) refl (have 0 (omega arith)) (have_behind from records contents (t ∷ trees) have)
    (λ k ours. back_from (from + 1) contents (Some t) trees each.1 up.1 (from_behind t trees from up.1 low) ours k)
    (λ a b k. back_from (from + 1) contents before (t ∷ trees) each up a b k)
  where
    whole : AreBefore ((from + 1) + length contents) (t ∷ trees)
    whole = let e : from + suc (length contents) ≡ (from + 1) + length contents = omega arith in subst (λ (n : ℕ). AreBefore n (t ∷ trees)) e high

    own : (records : List Stored) → t.tree ≡ from → records ≡ t.records → trees_from (from + 1) contents ≡ trees → trees_from from (records ∷ contents) ≡ t ∷ trees
    own [] is same rest = absurd (let some = each.0.some in let none : length t.records ≡ 0 = sym (ap length same) in omega arith)
    own (s ∷ records) is same rest =
        let first : record { tree = from; records = s ∷ records } ≡ t = ap (λ (n : ℕ). record { tree = n; records = s ∷ records }) (sym is) ∙ ap (λ (r : List Stored). record { tree = t.tree; records = r }) same in
        ap (λ (u : DumpedTree). u ∷ trees_from (from + 1) contents) first ∙ ap (λ (ts : List DumpedTree). t ∷ ts) rest

    on : (same : Bool) → eqb t.tree from ≡ same → records ≡ contents_of (from + 0) (t ∷ trees) → HaveFrom (from + 1) contents (t ∷ trees)
        → (HaveFrom (from + 1) contents trees → AreBefore ((from + 1) + length contents) trees → trees_from (from + 1) contents ≡ trees)
        → (IsFrom (from + 1) (t ∷ trees) → AreBefore ((from + 1) + length contents) (t ∷ trees) → HaveFrom (from + 1) contents (t ∷ trees) → trees_from (from + 1) contents ≡ t ∷ trees)
        → trees_from from (records ∷ contents) ≡ t ∷ trees
    on true e first behind others all =
        let is = eqb-true t.tree from e in
        own records is (first ∙ at_own t trees from is) (others (have_others from contents t trees is behind) whole.1)
    on false e first behind others all =
        let not : t.tree ≡ from → ⊥ = eqb-false t.tree from e in
        let here : contents_of (from + 0) (t ∷ trees) ≡ [] = at_other t trees (from + 0) (λ same. not (omega arith)) ∙ none_of (from + 0) t trees up.1 (omega arith) in
        ap (λ (r : List Stored). trees_from from (r ∷ contents)) (first ∙ here) ∙ all (omega arith) whole behind

trees_before : (trees : List DumpedTree) → AllByRecursion IsDumpedTree trees → AreBefore 17 trees
trees_before [] each = tt
trees_before (t ∷ trees) each = (let most = each.0.tree.most in omega arith, trees_before trees each.1)

trees_from_one : (trees : List DumpedTree) → AllByRecursion IsDumpedTree trees → IsFrom 1 trees
trees_from_one [] each = tt
trees_from_one (t ∷ trees) each = each.0.tree.some

-- where all 16 trees have the records of a dump, theirs is that dump
pub dump_back : (contents : List (List Stored)) (trees : List DumpedTree) → length contents ≡ 16 → IsDumpable trees → ((place : ℕ) → place < 16 → get_or contents place [] ≡ contents_of (1 + place) trees) → dump_of contents ≡ trees
dump_back contents trees all dumpable have =
    back_from 1 contents None trees dumpable.each dumpable.ascending (trees_from_one trees dumpable.each)
    (let e : 17 ≡ 1 + length contents = omega arith in subst (λ (n : ℕ). AreBefore n trees) e (trees_before trees dumpable.each))
    (λ place short. have place (omega arith))
