-- The pairs of a whole scan, by those of its leaves.
use Rattle.std.specs.Prelude.{ℕ, ◌≡◌, true, false, List, [], ◌∷◌, ◌++◌, map, None}
use Rattle.std.specs.List.{AllByRecursion}
use Rattle.byte_format.specs.Order.{below_bound}
use Rattle.leaf_view.specs.Leaf.{Entry, Leaf}
use Rattle.leaf_view.specs.Lookup.{holds, value_of}
use Rattle.range_scan.specs.Pairs.{Sight, IsAscending, AreItems, item_at}

-- a leaf at which a scan ended, as it is looked at, and the pairs that are listed of it
pub record Listed : Type 0 where
  pub sight : Sight
  pub pairs : List Entry

-- the leaves of a scan; here as in all that follows the newest comes first
abbrev pub leaves_in : List Listed → List Leaf
leaves_in xs = map (λ x. x.sight.leaf) xs

-- the pairs of all of them, from the first leaf on
abbrev pub all_pairs : List Listed → List Entry
all_pairs [] = []
all_pairs (x ∷ xs) = all_pairs xs ++ x.pairs

-- a leaf begins below its high key, where it has one
abbrev pub IsFenced : Leaf → Type 0
IsFenced l = below_bound l.low l.high ≡ true

-- the pairs of a leaf are those that are asked for
pub record IsListed (x : Listed) : Type 0 where
  pub items : AreItems x.sight x.pairs
  pub fenced : IsFenced x.sight.leaf

-- the range of the leaf has no such key
abbrev pub IsOutside : List ℕ → Listed → Type 0
IsOutside key x = holds x.sight.leaf key ≡ false

-- a key of the leaf's range has its pair where the leaf's own list has it
abbrev pub IsPairAmong : List Entry → List ℕ → Listed → Type 0
IsPairAmong pairs key x = holds x.sight.leaf key ≡ true → value_of key pairs ≡ item_at x.sight key

-- the pairs of a whole scan: in key order over all leaves, for each key those of the leaf whose range has it, and no other
pub record IsWhole (xs : List Listed) : Type 0 where
  pub ascending : IsAscending (all_pairs xs)
  pub each : (key : List ℕ) → AllByRecursion (IsPairAmong (all_pairs xs) key) xs
  pub no_other : (key : List ℕ) → AllByRecursion (IsOutside key) xs → value_of key (all_pairs xs) ≡ None
