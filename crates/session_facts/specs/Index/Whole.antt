-- When a look-up can find all records of a tree that have an attribute.
use Rattle.std.specs.Prelude.{ℕ, List}
use Rattle.cloud_trait.specs.State.{CloudState}
use Rattle.db_base.specs.Ids.{index_of}
use Rattle.report_types.specs.declared.entry.Entry.{Entry}
use Rattle.session_facts.specs.Index.Entries.{AreIndexed, HasNoDelete}
use Rattle.session_facts.specs.Index.NewestLeaves.{IsAllApplied}

-- all that was committed in a tree and in its index is applied; each insert with an attribute was committed with its entry, and no entry was deleted
pub record IsIndexWhole (committed : List Entry) (t : CloudState) (tree : ℕ) : Type 0 where
  pub records : IsAllApplied committed t tree
  pub index : IsAllApplied committed t (index_of tree)
  pub entries : AreIndexed committed tree
  pub undeleted : HasNoDelete committed (index_of tree)
