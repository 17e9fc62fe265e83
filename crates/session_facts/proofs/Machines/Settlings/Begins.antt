-- A settling at its begin, and its parts at theirs.
use Rattle.std.proofs.Common.{◌≡◌, ℕ, None, refl, subst, sym, arith}
use Rattle.db_base.specs.Ids.{IsClient, IsTree, IsPage}
use Rattle.cloud_facts.specs.Homes.Homes.{Part, Away}
use Rattle.session_facts.proofs.Machines.Openings.Begins.{opening_begins}
use Rattle.session_facts.proofs.Machines.PageCheckpoints.Begins.{paging_begins}
use Rattle.recover_run.specs.declared.stage.Aim.TheVariants as aim
use Rattle.settle_run.specs.Parts.{part_of_client, part_of_tree, part_of_page}
use Rattle.settle_run.specs.Settling.{new_settling}
use Rattle.cloud_facts.specs.Book.Tally.{Store}
use Rattle.session_facts.specs.Machines.Settlings.Knows.{KnowsAtWork, KnowsSettling}
use Rattle.session_facts.proofs.Machines.TreeCheckpoints.Begins.{making_begins}

-- a part before its first call has no client
module _ (st : Store) (now : ℕ) (part : Part) (away : part ≡ Away) where
  pub client_begins : (client : ℕ) → IsClient client → KnowsAtWork st now (part_of_client client) part
  client_begins client is =
      subst (KnowsAtWork st now (part_of_client client)) (sym away)
      (record { client_is = refl; aim_is = refl; knows = opening_begins st now client aim.Settling None is })

  pub tree_begins : (tree : ℕ) → IsTree tree → KnowsAtWork st now (part_of_tree tree) part
  tree_begins tree is = record { tree_is = refl; knows = making_begins st now tree is; away = away }

  pub page_begins : (tree page : ℕ) → IsTree tree → IsPage page → KnowsAtWork st now (part_of_page tree page) part
  page_begins tree page t g = record { tree_is = refl; page_is = refl; knows = paging_begins st now tree page t g; away = away }

-- a settling begins with the recovery of client 1, and knows nothing
pub settling_begins : (st : Store) (now : ℕ) → KnowsSettling st now new_settling Away
settling_begins st now = record { work = client_begins st now Away refl 1 (record { some = omega arith; most = omega arith }); way = tt }
