-- What holds of a store.
use Rattle.cloud_facts.specs.Chains.Chain.{ChainHolds}
use Rattle.cloud_facts.specs.Chains.Gones.{Gones}
use Rattle.cloud_facts.specs.Copies.Copies.{Copies}
use Rattle.cloud_facts.specs.Lefts.Left.{Leaves}
use Rattle.cloud_facts.specs.Numbers.Numbers.{Numbers}
use Rattle.cloud_facts.specs.Orders.Order.{Ordered}
use Rattle.cloud_facts.specs.Pendings.Pending.{Pends}
use Rattle.cloud_facts.specs.Book.Tally.{Store}

-- committed records are numbered, applied in order, pending and waiting, they were sent on in turn, the chains of every tree
-- are whole, and what was removed is in none of them
pub record Holds (st : Store) : Type 0 where
  pub numbers : Numbers st
  pub order : Ordered st
  pub pends : Pends st
  pub leaves : Leaves st
  pub copies : Copies st
  pub chains : ChainHolds st
  pub gones : Gones st
