-- Numbers of new pages, reserved by a put of the tree object.
use Rattle.std.specs.Prelude.{ℕ, ◌+◌, ◌==◌, nat_lt, Some, None, Result, Ok, Err, if◌then◌else◌}
use Rattle.byte_format.specs.Format.{greatest}
use Rattle.tree_phases.specs.declared.reserve.Reserved.{Reserved}
use Rattle.db_base.specs.declared.trouble.Trouble.{Trouble}
use Rattle.db_base.specs.declared.trouble.Trouble.TheVariants as trouble
use Rattle.db_base.specs.declared.trouble.Counter.TheVariants as counter
use Rattle.node_codec.specs.Tree.{Tree, tree_bytes}

abbrev pub version_spent : Trouble
version_spent = trouble.Exhausted counter.Version

abbrev pub pages_spent : Trouble
pages_spent = trouble.Exhausted counter.Pages

-- the tree object as it is put next
abbrev pub next_tree : Tree → Result Tree Trouble
next_tree t = if t.version == greatest then Err version_spent else Ok (record t { version = t.version + 1 })

-- so many numbers are reserved in a tree object, and nothing else is changed
abbrev pub reserved : ℕ → Tree → Result Reserved Trouble
reserved count t =
    if nat_lt greatest (t.next + count)
    then Err pages_spent
    else Ok (record { put = Some (tree_bytes (record t { next = t.next + count })); first = t.next })

abbrev pub reserved_by : ℕ → Result Tree Trouble → Result Reserved Trouble
reserved_by count (Ok t) = reserved count t
reserved_by count (Err f) = Err f

-- the numbers of so many new pages beside a page: from `next` on, in the tree object's next version
abbrev pub reservation : Tree → ℕ → ℕ → Result Reserved Trouble
reservation t page count = if count == 0 then Ok (record { put = None; first = page }) else reserved_by count (next_tree t)
