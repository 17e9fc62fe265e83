-- The order in which the records of a queue are applied.
use Rattle.std.specs.Prelude.{◌<◌, ◌^◌, List, All, IsSorted}
use Rattle.std.specs.declared.cmp.Ordering.{Ordering}
use Rattle.std.specs.Ordering.{nat_cmp, ordering_then}
use Rattle.std.specs.Cmp.Lexicographic.{slice_cmp}
use Rattle.db_base.specs.Change.{key_of, IsChange}
use Rattle.db_base.specs.Ids.{IsClient}
use Rattle.log_codec.specs.declared.record.PuItem.{PuItem}

-- by key, then client, then number
abbrev pub item_cmp : PuItem → PuItem → Ordering
item_cmp x y =
    ordering_then
    (slice_cmp nat_cmp (key_of x.rec.change) (key_of y.rec.change))
    (ordering_then (nat_cmp x.rec.client y.rec.client) (nat_cmp x.rec.number y.rec.number))

-- what every item of a queue is, by its types
pub record IsItem (x : PuItem) : Type 0 where
  pub change : IsChange x.rec.change
  pub client : IsClient x.rec.client
  pub number : x.rec.number < 2 ^ 64

-- items in the order in which a leaf takes them
pub record IsOrdered (run : List PuItem) : Type 0 where
  pub sorted : IsSorted item_cmp run
  pub items : All IsItem run
