-- The contents of all trees, one tree further.
use Rattle.std.proofs.Common.{◌≡◌, ◌<◌, ◌≤◌, ◌+◌, ℕ, List, [], ◌∷◌, ◌++◌, length, Option, Some, None, Ok, Err, refl, sym, ap, subst, ◌∙◌, inl, inr, arith}
use Rattle.std.specs.Prelude.{◌⊎◌}
use Rattle.std.specs.List.{AllByRecursion}
use Rattle.std.proofs.lemmas.Bool.{cases_lt, lt-ltb}
use Rattle.std.proofs.lemmas.List.{length-append}
use Rattle.db_base.specs.Ids.{IsTree}
use Rattle.db_base.specs.declared.names.ObjName.TheVariants as object
use Rattle.db_base.specs.declared.trouble.Trouble.{Trouble}
use Rattle.db_base.specs.declared.trouble.Trouble.TheVariants.{Failed, Memory}
use Rattle.cloud_trait.specs.Seen.{Seen}
use Rattle.cloud_trait.specs.State.{CloudState}
use Rattle.dump_text.specs.Dump.{AreRecords, IsDumpedTree, IsDumpable, tree_below}
use Rattle.dump_text.specs.Maps.{trees_from, dump_of}
use Rattle.dump_text.specs.declared.dump.DumpedTree.{DumpedTree}
use Rattle.leaf_view.specs.Fits.{Ascend}
use Rattle.report_types.specs.declared.stored.Stored.{Stored}
use Rattle.replay_meaning.specs.Chain.{Walked}
use Rattle.world_audit.specs.Finding.{Shown, LeavesFound}
use Rattle.world_audit.specs.Stop.{SlipOr, ChainStops, ChainIsWhole}
use Rattle.dump_take.specs.Sight.{Sees, pages_to, no_queue}
use Rattle.dump_take.specs.Taken.{AreContents, ChainIsDamaged}
use Rattle.dump_take.specs.Parts.{ContentsFound}
use Rattle.dump_take.proofs.Ascending.{are_records}
use Rattle.dump_take.proofs.Sights.{sees_always, sees_so, sees_wider, sees_both, sees_pages, found, pages_of}
use Rattle.dump_take.proofs.Sets.{no_queues, pages_more, pages_within}

-- ---- lists

-- with a tree more
pub trees_more : (tree : ℕ) (contents : List (List Stored)) (records : List Stored)
    → trees_from tree (contents ++ records ∷ []) ≡ trees_from tree contents ++ trees_from (tree + length contents) (records ∷ [])
trees_more tree [] records = ap (λ (n : ℕ). trees_from n (records ∷ [])) (omega arith)
trees_more tree ([] ∷ contents) records =
    trees_more (tree + 1) contents records ∙ ap (λ (n : ℕ). trees_from (tree + 1) contents ++ trees_from n (records ∷ [])) (omega arith)
trees_more tree ((s ∷ rest) ∷ contents) records =
    ap (λ (ts : List DumpedTree). (record { tree = tree; records = s ∷ rest }) ∷ ts)
    (trees_more (tree + 1) contents records ∙ ap (λ (n : ℕ). trees_from (tree + 1) contents ++ trees_from n (records ∷ [])) (omega arith))

contents_more : (s : CloudState) (tree : ℕ) (contents : List (List Stored)) (records : List Stored) → AreContents s tree contents → Walked s (tree + length contents) 0 records
    → AreContents s tree (contents ++ records ∷ [])
contents_more s tree [] records a w = (subst (λ (n : ℕ). Walked s n 0 records) (omega arith) w, tt)
contents_more s tree (x ∷ contents) records a w = (a.0, contents_more s (tree + 1) contents records a.1 (subst (λ (n : ℕ). Walked s n 0 records) (omega arith) w))

all_more : (contents : List (List Stored)) (records : List Stored) → AllByRecursion AreRecords contents → AreRecords records → AllByRecursion AreRecords (contents ++ records ∷ [])
all_more [] records a r = (r, tt)
all_more (x ∷ contents) records a r = (a.0, all_more contents records a.1 r)

-- what is below the first number
abbrev IsBelow : Option DumpedTree → ℕ → Type 0
IsBelow None tree = Unit {0}
IsBelow (Some t) tree = t.tree < tree

below_more : (before : Option DumpedTree) (tree : ℕ) → IsBelow before tree → IsBelow before (tree + 1)
below_more None tree below = tt
below_more (Some t) tree below = omega (arith, below)

trees_ascend : (before : Option DumpedTree) (tree : ℕ) (contents : List (List Stored)) → IsBelow before tree → Ascend tree_below before (trees_from tree contents)
trees_ascend before tree [] below = tt
trees_ascend before tree ([] ∷ contents) below = trees_ascend before (tree + 1) contents (below_more before tree below)
trees_ascend None tree ((s ∷ rest) ∷ contents) below = (tt, trees_ascend (Some (record { tree = tree; records = s ∷ rest })) (tree + 1) contents (omega arith))
trees_ascend (Some t) tree ((s ∷ rest) ∷ contents) below = (lt-ltb t.tree tree below, trees_ascend (Some (record { tree = tree; records = s ∷ rest })) (tree + 1) contents (omega arith))

each_tree : (tree : ℕ) (contents : List (List Stored)) → 1 ≤ tree → tree + length contents ≤ 17 → AllByRecursion AreRecords contents → AllByRecursion IsDumpedTree (trees_from tree contents)
each_tree tree [] some most all = tt
each_tree tree ([] ∷ contents) some most all = each_tree (tree + 1) contents (omega arith) (omega (arith, most)) all.1
each_tree tree ((s ∷ rest) ∷ contents) some most all = (
  record { tree = record { some = some; most = omega (arith, most) }; some = omega arith; records = all.0 },
  each_tree (tree + 1) contents (omega arith) (omega (arith, most)) all.1,
)

-- ---- one tree further

-- the contents of the trees up to a number, and that their chains are whole
pub record HoldsUpto (s : CloudState) (n : ℕ) (contents : List (List Stored)) : Type 0 where
  pub are : AreContents s 1 contents
  pub whole : (tree : ℕ) → IsTree tree → tree < n + 1 → ChainIsWhole s tree

-- these trees are the dump of the contents of the trees up to a number
pub record Collects (before : Seen) (n : ℕ) (trees : List DumpedTree) : Type 0 where
  pub contents : List (List Stored)
  pub all : length contents ≡ n
  pub records : AllByRecursion AreRecords contents
  pub is : trees ≡ dump_of contents
  pub sees : Sees before (pages_to n) no_queue (λ s. HoldsUpto s n contents)

pub collects_none : (before : Seen) → Collects before 0 []
collects_none before = record {
  contents = [];
  all = refl;
  records = tt;
  is = refl;
  sees = sees_always before (pages_to 0) no_queue (λ s. HoldsUpto s 0 []) (λ s. record { are = tt; whole = λ tree is less. absurd (omega (arith, is.some, less)) });
}

pub contents_slip : (before : Seen) (trouble : Trouble) → (trouble ≡ Failed) ⊎ (trouble ≡ Memory) → Sees before (pages_to 16) no_queue (ContentsFound (Err trouble))
contents_slip before trouble slip = sees_always before (pages_to 16) no_queue (ContentsFound (Err trouble)) (λ s. on s slip)
  where
    on : (s : CloudState) → (trouble ≡ Failed) ⊎ (trouble ≡ Memory) → SlipOr (ChainIsDamaged s trouble) trouble
    on s (inl failed) = inl failed
    on s (inr memory) = inr (inl memory)

module _ (before : Seen) (n tree : ℕ) (is : tree ≡ n + 1) (less : n < 16) (trees : List DumpedTree) (here : Collects before n trees) where
  tree_seen : (Next : CloudState → Type 0) → Shown before (object.Page tree) Next → Sees before (pages_to (n + 1)) no_queue (λ s. HoldsUpto s n here.contents × Next s)
  tree_seen Next look = sees_both before (pages_to n) (pages_of tree) (pages_to (n + 1)) no_queue no_queue no_queue (λ s. HoldsUpto s n here.contents) Next
      (pages_more n tree is) no_queues here.sees (sees_pages before tree Next look)

  at : 1 + length here.contents ≡ tree
  at = let all : length here.contents ≡ n = here.all in omega (arith, all, is)

  chain_stops : (trouble : Trouble) (s : CloudState) → HoldsUpto s n here.contents × LeavesFound tree (Err trouble) s → SlipOr (ChainIsDamaged s trouble) trouble
  chain_stops trouble s h = on h.1
    where
      on : SlipOr (ChainStops s tree trouble) trouble → SlipOr (ChainIsDamaged s trouble) trouble
      on (inl failed) = inl failed
      on (inr (inl memory)) = inr (inl memory)
      on (inr (inr stops)) = inr (inr (record {
        tree = tree;
        is_tree = record { some = omega (arith, is); most = omega (arith, is, less) };
        stops = stops;
        earlier = λ t valid below. h.0.whole t valid (omega (arith, below, is));
      }))

  pub contents_stop : (trouble : Trouble) → Shown before (object.Page tree) (LeavesFound tree (Err trouble)) → Sees before (pages_to 16) no_queue (ContentsFound (Err trouble))
  contents_stop trouble look = sees_wider before (pages_to (n + 1)) (pages_to 16) no_queue no_queue (ContentsFound (Err trouble)) (pages_within (n + 1) 16 (omega (arith, less))) (λ q h. h)
      (sees_so before (pages_to (n + 1)) no_queue (λ s. HoldsUpto s n here.contents × LeavesFound tree (Err trouble) s) (ContentsFound (Err trouble)) (chain_stops trouble)
      (tree_seen (LeavesFound tree (Err trouble)) look))

  module _ (records : List Stored) (look : Shown before (object.Page tree) (LeavesFound tree (Ok records))) where
    records_are : AreRecords records
    records_are = let f = found before (pages_of tree) no_queue (LeavesFound tree (Ok records)) (sees_pages before tree (LeavesFound tree (Ok records)) look) in
        are_records f.state tree records f.holds.0 f.holds.1

    holds_more : (s : CloudState) → HoldsUpto s n here.contents × LeavesFound tree (Ok records) s → HoldsUpto s (n + 1) (here.contents ++ records ∷ [])
    holds_more s h = record {
      are = contents_more s 1 here.contents records h.0.are (subst (λ (t : ℕ). Walked s t 0 records) (sym at) h.1.0);
      whole = λ t valid below. on t valid below (cases_lt t (n + 1));
    }
      where
        on : (t : ℕ) → IsTree t → t < n + 1 + 1 → (t < n + 1) ⊎ (n + 1 ≤ t) → ChainIsWhole s t
        on t valid below (inl earlier) = h.0.whole t valid earlier
        on t valid below (inr late) = let same : tree ≡ t = omega (arith, below, late, is) in subst (ChainIsWhole s) same h.1.1

    pub collects_on : (more : List DumpedTree) → more ≡ trees ++ trees_from tree (records ∷ []) → Collects before (n + 1) more
    collects_on more e = record {
      contents = here.contents ++ records ∷ [];
      all = let all : length here.contents ≡ n = here.all in omega (arith, all, length-append here.contents (records ∷ []));
      records = all_more here.contents records here.records records_are;
      is = e ∙ (ap (λ (ts : List DumpedTree). ts ++ trees_from tree (records ∷ [])) here.is
          ∙ (ap (λ (t : ℕ). dump_of here.contents ++ trees_from t (records ∷ [])) (sym at) ∙ sym (trees_more 1 here.contents records)));
      sees = sees_so before (pages_to (n + 1)) no_queue (λ s. HoldsUpto s n here.contents × LeavesFound tree (Ok records) s) (λ s. HoldsUpto s (n + 1) (here.contents ++ records ∷ [])) holds_more
          (tree_seen (LeavesFound tree (Ok records)) look);
    }

module _ (before : Seen) (trees : List DumpedTree) (h : Collects before 16 trees) where
  pub contents_end : Sees before (pages_to 16) no_queue (ContentsFound (Ok trees))
  contents_end = sees_so before (pages_to 16) no_queue (λ s. HoldsUpto s 16 h.contents) (ContentsFound (Ok trees)) (λ s holds. record { contents = h.contents; all = h.all; are = holds.are; is = h.is }) h.sees

  pub dumpable : IsDumpable trees
  dumpable = subst IsDumpable (sym h.is) (record {
    each = each_tree 1 h.contents (omega arith) (let all : length h.contents ≡ 16 = h.all in omega (arith, all)) h.records;
    ascending = trees_ascend None 1 h.contents tt;
  })
