-- A page checkpoint at its begin.
use Rattle.std.proofs.Common.{inr, ℕ, None, Some, refl, ◌≡◌}
use Rattle.cloud_facts.specs.Words.{IsTree, Trouble, Store}
use Rattle.db_base.specs.Ids.{IsPage}
use Rattle.page_ckpt.specs.Paging.{new_paging}
use Rattle.session_facts.specs.Machines.PageCheckpoints.Knows.{MayStopPage, KnowsPaging}

-- it knows nothing but its tree and page
pub paging_begins : (st : Store) (now tree page : ℕ) → IsTree tree → IsPage page → KnowsPaging st now (new_paging tree page)
paging_begins st now tree page of_tree of_page = record { tree = of_tree; page = of_page; may = none; waits = inr refl; at = (refl, refl) }
  where
    none : (t : Trouble) → None ≡ Some t → MayStopPage page t
    none t e = absurd (cc)
