-- The value of a read.
use Rattle.std.specs.Prelude.{ℕ, List, Option, Some, None}
use Rattle.db_base.specs.Value.{Value}
use Rattle.head_codec.specs.declared.head.Head.{Head}
use Rattle.leaf_view.specs.Leaf.{Leaf}
use Rattle.txn_buffer.specs.Noted.{Noted}
use Rattle.route_plan.specs.Seen.{seen}
use Rattle.page_cache.specs.Cache.{Cache}
use Rattle.page_cache.specs.Held.{leaf_at}
use Rattle.tree_walk.specs.Walk.{Walk, sought, object_of}

-- what a client sees of a key in the leaf that a cache keeps, and nothing where it keeps none
abbrev pub seen_in : Option Leaf → ℕ → List ℕ → ℕ → Head → List Noted → Option Value
seen_in None tree key client head buffer = None
seen_in (Some leaf) tree key client head buffer = seen leaf tree key client head buffer

-- the value of a read whose walk ended: what its client sees of the key in the leaf at which it ended
abbrev pub read_value : Walk → Cache → ℕ → Head → List Noted → Option Value
read_value w c client head buffer = seen_in (leaf_at c (object_of w)) w.tree (sought w) client head buffer
