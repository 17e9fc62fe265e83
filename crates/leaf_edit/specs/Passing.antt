-- Records that stay as they are, before a change.
use Rattle.std.specs.Prelude.{◌≡◌, ℕ, ◌+◌, ◌<◌, IsTrue, List, ◌++◌, length, Option}
use Rattle.std.specs.List.{AllByRecursion}
use Rattle.std.specs.Option.{IfSome}
use Rattle.byte_format.specs.Order.{bytes_below}
use Rattle.leaf_view.specs.Leaf.{Entry}
use Rattle.log_codec.specs.declared.record.PuItem.{PuItem}
use Rattle.leaf_edit.specs.Edited.{edited_by}
use Rattle.leaf_edit.specs.Merging.{AreChanges, AreRecords, IsSized}
use Rattle.leaf_edit.specs.Spelled.{entries_bytes, entry_bytes_of}

-- of the records `es` those of `front` stand below the key, and `rest` are those behind them
pub record Passes (key : List ℕ) (es front rest : List Entry) : Type 0 where
  pub is : es ≡ front ++ rest
  pub below : AllByRecursion (λ e. IsTrue (bytes_below e.key key)) front
  pub records : AreRecords rest

-- the bytes of the records under the changes begin with those passed, and with a record that became known, or none where a change removed it
pub record Leaps (es : List Entry) (xs : List PuItem) (passed : List ℕ) (known : Option Entry) (es' : List Entry) (xs' : List PuItem) : Type 0 where
  pub is : entries_bytes (edited_by es xs) ≡ passed ++ (entry_bytes_of known ++ entries_bytes (edited_by es' xs'))
  pub sized : IfSome known IsSized
  pub records : AreRecords es'
  pub changes : AreChanges xs'
  pub shorter : length es' + length xs' < length es + length xs
