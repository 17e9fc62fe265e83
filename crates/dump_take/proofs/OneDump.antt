-- A state has one dump: that of the contents of its trees.
use Rattle.std.proofs.Common.{◌≡◌, ◌<◌, ◌≤◌, ◌+◌, ℕ, zero, suc, List, [], ◌∷◌, length, refl, sym, ap, ◌∙◌, get_or, arith}
use Rattle.cloud_trait.specs.State.{CloudState}
use Rattle.db_base.specs.Ids.{IsTree}
use Rattle.dump_text.proofs.MapLaws.{dump_back}
use Rattle.dump_text.specs.Dump.{IsDumpable}
use Rattle.dump_text.specs.Maps.{dump_of, contents_of}
use Rattle.dump_text.specs.declared.dump.DumpedTree.{DumpedTree}
use Rattle.report_types.specs.declared.stored.Stored.{Stored}
use Rattle.replay_meaning.specs.Chain.{Walked, records_of}
use Rattle.dump_take.specs.Taken.{AreContents, AreDumped}
use Rattle.dump_take.proofs.Ascending.{same_chain}

-- ---- there is no other one

one_walk : (s : CloudState) (tree : ℕ) (xs ys : List Stored) → Walked s tree 0 xs → Walked s tree 0 ys → xs ≡ ys
one_walk s tree xs ys a b = a.are ∙ ap records_of (same_chain s tree 1 a.leaves b.leaves a.lead b.lead) ∙ sym b.are

one_contents : (s : CloudState) (tree : ℕ) (xs ys : List (List Stored)) → length xs ≡ length ys → AreContents s tree xs → AreContents s tree ys → xs ≡ ys
one_contents s tree [] [] same a b = refl
one_contents s tree [] (y ∷ ys) same a b = absurd (omega (arith, same))
one_contents s tree (x ∷ xs) [] same a b = absurd (omega (arith, same))
one_contents s tree (x ∷ xs) (y ∷ ys) same a b =
    let first : x ≡ y = one_walk s tree x y a.0 b.0 in
    let rest : xs ≡ ys = one_contents s (tree + 1) xs ys (omega (arith, same)) a.1 b.1 in
    cc

pub one_dump : (s : CloudState) (trees others : List DumpedTree) → AreDumped s trees → AreDumped s others → others ≡ trees
one_dump s trees others a b = b.is ∙ ap dump_of (one_contents s 1 b.contents a.contents (b.all ∙ sym a.all) b.are a.are) ∙ sym a.is

-- ---- where each tree has the records of a dump it is that dump

-- the contents of so many trees from a number on
abbrev contents_from : List DumpedTree → ℕ → ℕ → List (List Stored)
contents_from trees tree zero = []
contents_from trees tree (suc n) = contents_of tree trees ∷ contents_from trees (tree + 1) n

from_length : (trees : List DumpedTree) (tree n : ℕ) → length (contents_from trees tree n) ≡ n
from_length trees tree zero = refl
from_length trees tree (suc n) = ap suc (from_length trees (tree + 1) n)

from_walked : (s : CloudState) (trees : List DumpedTree) (tree n : ℕ) → ((t : ℕ) → IsTree t → Walked s t 0 (contents_of t trees)) → 1 ≤ tree → tree + n ≤ 17
    → AreContents s tree (contents_from trees tree n)
from_walked s trees tree zero each some few = tt
from_walked s trees tree (suc n) each some few =
    (each tree (record { some = omega arith; most = omega (arith, few) }), from_walked s trees (tree + 1) n each (omega arith) (omega (arith, few)))

from_at : (trees : List DumpedTree) (tree n place : ℕ) → place < n → get_or (contents_from trees tree n) place [] ≡ contents_of (tree + place) trees
from_at trees tree zero place short = absurd (omega arith)
from_at trees tree (suc n) zero short = ap (λ (t : ℕ). contents_of t trees) (omega arith)
from_at trees tree (suc n) (suc place) short = from_at trees (tree + 1) n place (omega arith) ∙ ap (λ (t : ℕ). contents_of t trees) (omega arith)

pub have_dumped : (s : CloudState) (trees : List DumpedTree) → IsDumpable trees → ((t : ℕ) → IsTree t → Walked s t 0 (contents_of t trees)) → AreDumped s trees
have_dumped s trees dumpable each =
    record {
      contents = contents_from trees 1 16;
      all = from_length trees 1 16;
      are = from_walked s trees 1 16 each (omega arith) (omega arith);
      is = sym (dump_back (contents_from trees 1 16) trees (from_length trees 1 16) dumpable (λ place short. from_at trees 1 16 place short));
    }
