-- What a dump may hold.
use Rattle.std.specs.Prelude.{◌<◌, Bool, nat_lt, List, length, None, IfSome}
use Rattle.std.specs.List.{AllByRecursion}
use Rattle.byte_format.specs.Order.{bytes_below}
use Rattle.db_base.specs.Ids.{IsTree}
use Rattle.db_base.specs.Key.{IsKey, IsPayload, IsAttr}
use Rattle.leaf_view.specs.Fits.{Ascend}
use Rattle.report_types.specs.declared.stored.Stored.{Stored}
use Rattle.dump_text.specs.declared.dump.DumpedTree.{DumpedTree}

-- a record of a tree
pub record IsRecord (s : Stored) : Type 0 where
  pub key : IsKey s.key
  pub payload : IsPayload s.payload
  pub attr : IfSome s.attr IsAttr

-- a record is below another one by its key
abbrev pub stored_below : Stored → Stored → Bool
stored_below a b = bytes_below a.key b.key

-- records in the order of their keys, each key once
pub record AreRecords (records : List Stored) : Type 0 where
  pub each : AllByRecursion IsRecord records
  pub ascending : Ascend stored_below None records

-- a tree with records
pub record IsDumpedTree (t : DumpedTree) : Type 0 where
  pub tree : IsTree t.tree
  pub some : 0 < length t.records
  pub records : AreRecords t.records

abbrev pub tree_below : DumpedTree → DumpedTree → Bool
tree_below a b = nat_lt a.tree b.tree

-- trees with records, ascending
pub record IsDumpable (trees : List DumpedTree) : Type 0 where
  pub each : AllByRecursion IsDumpedTree trees
  pub ascending : Ascend tree_below None trees
