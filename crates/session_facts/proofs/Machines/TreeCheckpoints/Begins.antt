-- What a checkpoint knows before its first call.
use Rattle.std.proofs.Common.{ℕ}
use Rattle.db_base.specs.Ids.{IsTree}
use Rattle.cloud_facts.specs.Book.Tally.{Store}
use Rattle.tree_ckpt.specs.Making.{new_making}
use Rattle.session_facts.specs.Machines.TreeCheckpoints.Knows.{KnowsMaking}

pub making_begins : (st : Store) (now tree : ℕ) → IsTree tree → KnowsMaking st now (new_making tree)
making_begins st now tree is = record { tree = is; work = tt }
