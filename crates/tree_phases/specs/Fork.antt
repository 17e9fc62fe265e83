-- Where an inner node leads for a key.
use Rattle.std.specs.Prelude.{ℕ, List, [], Option, Some, None, if◌then◌else◌}
use Rattle.byte_format.specs.Order.{bytes_below}
use Rattle.db_base.specs.declared.trouble.Trouble.{Trouble}
use Rattle.db_base.specs.declared.trouble.Trouble.TheVariants as trouble
use Rattle.node_codec.specs.Inner.{Inner}
use Rattle.node_codec.specs.Node.{Entry, child_of, page_at}
use Rattle.tree_phases.specs.declared.fork.Fork.{Fork}
use Rattle.tree_phases.specs.declared.fork.Fork.TheVariants.{Right, Down}

-- a low key that differs from what led to its page
abbrev pub bad_fence : ℕ → List ℕ → List ℕ → Trouble
bad_fence page expected found = trouble.BadFence page expected found

-- to the child of the greatest entry at most the key
abbrev pub down_to : Option Entry → Fork
down_to (Some e) = Down e.0 e.1
down_to None = Down [] 1

abbrev pub down_from : List ℕ → Inner → Fork
down_from key n = down_to (child_of key n.entries)

-- to the right where there is a right page and the key is not below the high key, else down
abbrev pub fork_at : List ℕ → Fork → Option (List ℕ) → Option ℕ → Fork
fork_at key down None right = down
fork_at key down (Some high) None = down
fork_at key down (Some high) (Some right) = if bytes_below key high then down else Right high right

abbrev pub forked_on : List ℕ → Inner → Fork
forked_on key n = fork_at key (down_from key n) n.high (page_at n.right)
