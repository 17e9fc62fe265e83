-- How many calls a look-up has left.
use Rattle.std.specs.Prelude.{ℕ, zero, suc, ◌+◌, ◌*◌, ◌-◌, ◌^◌, min, length, List, [], ◌∷◌}
use Rattle.db_base.specs.Limits.{longest_key}
use Rattle.tree_walk.specs.Walk.{sought}
use Rattle.tree_walk.specs.Walk.{calls_left as walk_calls_left}
use Rattle.attr_index.specs.declared.stage.Stage.{Stage}
use Rattle.attr_index.specs.declared.stage.Stage.TheVariants.{Index, Records}
use Rattle.attr_index.specs.Look.{Look}

-- the place of a key of at most so many bytes in the order of all of them; no byte is above 255
abbrev pub rank : ℕ → List ℕ → ℕ
rank zero key = 0
rank (suc n) [] = 0
rank (suc n) (b ∷ bs) = (min b 255 + 1) * 257 ^ n + rank n bs

-- how many keys of at most 64 bytes have a place above this one, at most
abbrev pub keys_above : List ℕ → ℕ
keys_above key = 257 ^ longest_key - rank longest_key key

-- how many walks follow the one in hand at most: in the index one for each key above, and then as many as a list can name
abbrev pub walks_left : Stage → Look → ℕ
walks_left Index l = keys_above (sought l.walk) + 2 ^ 64
walks_left Records l = length l.listed

-- how many calls it has left at most: no walk makes more than these
abbrev pub calls_left : Look → ℕ
calls_left l = walks_left l.stage l * (2 ^ 66 + 1) + walk_calls_left l.walk
