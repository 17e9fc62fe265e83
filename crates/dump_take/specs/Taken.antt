-- What is taken: the contents of all trees of a quiet database, or why not.
use Rattle.std.specs.Prelude.{ℕ, ◌≡◌, ◌<◌, ◌+◌, ◌⊎◌, List, [], ◌∷◌, length, Some, None, Result, Ok, Err}
use Rattle.db_base.specs.Ids.{IsTree}
use Rattle.db_base.specs.Limits.{last_tree}
use Rattle.db_base.specs.declared.trouble.Trouble.{Trouble}
use Rattle.cloud_trait.specs.Seen.{Seen, Showing}
use Rattle.cloud_trait.specs.State.{CloudState}
use Rattle.report_types.specs.declared.stored.Stored.{Stored}
use Rattle.replay_meaning.specs.Chain.{Walked}
use Rattle.dump_text.specs.declared.dump.Dump.{Dump}
use Rattle.dump_text.specs.declared.dump.DumpedTree.{DumpedTree}
use Rattle.dump_text.specs.Maps.{dump_of}
use Rattle.world_audit.specs.Finding.{IsSeenBy}
use Rattle.world_audit.specs.Stop.{HeadIsNone, RootStops, ChainStops, ChainIsWhole, SlipOr}
use Rattle.dump_take.specs.declared.stop.DumpStop.{DumpStop}
use Rattle.dump_take.specs.declared.stop.DumpStop.TheVariants as stop
use Rattle.dump_take.specs.Quiet.{HeadsRest, AllHeadsRest, TreesRest, IsQuiet, IsNotQuiet}
use Rattle.db_base.specs.Ids.{IsClient}

-- the records of the trees from a number on, each tree's along the chain of its newest leaves
abbrev pub AreContents : CloudState → ℕ → List (List Stored) → Type 0
AreContents s tree [] = Unit {0}
AreContents s tree (records ∷ contents) = Walked s tree 0 records × AreContents s (tree + 1) contents

-- trees are the dump of the contents of all 16
pub record AreDumped (s : CloudState) (trees : List DumpedTree) : Type 0 where
  pub contents : List (List Stored)
  pub all : length contents ≡ last_tree
  pub are : AreContents s 1 contents
  pub is : trees ≡ dump_of contents

-- the newest head of a client is none, and those of the clients before rest
pub record HeadIsDamaged (s : CloudState) (trouble : Trouble) : Type 0 where
  pub client : ℕ
  pub is_client : IsClient client
  pub is_none : HeadIsNone s client trouble
  pub earlier : HeadsRest s client

-- the newest root of a tree is none, and the trees before rest
pub record RootIsDamaged (s : CloudState) (trouble : Trouble) : Type 0 where
  pub tree : ℕ
  pub is_tree : IsTree tree
  pub is_none : RootStops s tree trouble
  pub earlier : TreesRest s tree

-- the chain of the newest leaves of a tree is not whole, and those of the trees before are
pub record ChainIsDamaged (s : CloudState) (trouble : Trouble) : Type 0 where
  pub tree : ℕ
  pub is_tree : IsTree tree
  pub stops : ChainStops s tree trouble
  pub earlier : (t : ℕ) → IsTree t → t < tree → ChainIsWhole s t

-- the first part that is damaged: a head; where all rest, a root; and where the database is quiet, a chain of leaves
abbrev pub FirstDamage : CloudState → Trouble → Type 0
FirstDamage s trouble =
    HeadIsDamaged s trouble
    ⊎ ((AllHeadsRest s × RootIsDamaged s trouble)
    ⊎ (IsQuiet s × ChainIsDamaged s trouble))

-- the database is quiet and this is its dump; or it is not quiet, and this the first name that shows it; or a look failed, memory
-- ran out, or a part is damaged, of which this is the first
abbrev pub IsTaken : CloudState → Result Dump DumpStop → Type 0
IsTaken s (Ok dump) = IsQuiet s × AreDumped s dump.trees
IsTaken s (Err (stop.NotQuiet name)) = IsNotQuiet s name
IsTaken s (Err (stop.Trouble trouble)) = SlipOr (FirstDamage s trouble) trouble

-- what the looks answered are the newest versions and the messages of some state: of the told one where one is told, and else, where
-- the cloud tells what looks show, of one whose newest versions are that. By that state this is what is taken
pub record Takes (before : Seen) (result : Result Dump DumpStop) : Type 0 where
  pub looks : CloudState
  pub told : (s : CloudState) → before.state ≡ Some s → looks ≡ s
  pub shown : (shown : Showing) → before.state ≡ None → before.shown ≡ Some shown → IsSeenBy shown looks
  pub taken : IsTaken looks result
