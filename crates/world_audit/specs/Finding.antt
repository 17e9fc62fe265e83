-- What a report found, by the answers of its looks.
use Rattle.std.specs.Prelude.{ℕ, ◌≡◌, ◌⊎◌, List, Option, Some, None, Result, Ok, Err}
use Rattle.db_base.specs.Limits.{last_client}
use Rattle.db_base.specs.declared.names.ObjName.{ObjName}
use Rattle.db_base.specs.declared.trouble.Trouble.{Trouble}
use Rattle.cloud_trait.specs.Seen.{Seen, Showing}
use Rattle.cloud_trait.specs.State.{CloudState, newest}
use Rattle.report_types.specs.declared.entry.Entry.{Entry}
use Rattle.report_types.specs.declared.report.Report.{Report}
use Rattle.report_types.specs.declared.stored.Stored.{Stored}
use Rattle.replay_meaning.specs.Chain.{Walked}
use Rattle.world_audit.specs.Counts.{heads_upto}
use Rattle.world_audit.specs.Stop.{SlipOr, ChainStops, ChainIsWhole, HeadStops, AllHeadsRead, RootStops, RootReads, Stopped}

-- the newest versions of a state are what looks show
abbrev pub IsSeenBy : Showing → CloudState → Type 0
IsSeenBy shown s = (name : ObjName) → newest s name ≡ shown name

-- a state is as the cloud tells: the told one, or one whose newest versions are what the cloud tells that looks show
abbrev pub IsAsTold : Seen → CloudState → Type 0
IsAsTold before s = (before.state ≡ Some s) ⊎ ((shown : Showing) × (before.shown ≡ Some shown) × IsSeenBy shown s)

-- looks at the objects of a kind show something of a state: it holds of each that is as the cloud tells, and of each whose
-- newest versions are what the looks answered
pub record Shown (before : Seen) (object : ℕ → ObjName) (Holds : CloudState → Type 0) : Type 0 where
  pub told : (s : CloudState) → IsAsTold before s → Holds s
  pub looks : ℕ → Option (List ℕ)
  pub shown : (s : CloudState) → ((number : ℕ) → newest s (object number) ≡ looks number) → Holds s

-- what looks at leaves find: the records of a whole chain, or why it is none
abbrev pub LeavesFound : ℕ → Result (List Stored) Trouble → CloudState → Type 0
LeavesFound tree (Ok records) s = Walked s tree 0 records × ChainIsWhole s tree
LeavesFound tree (Err trouble) s = SlipOr (ChainStops s tree trouble) trouble

-- what looks at heads find: how many are open with an entry of the tree, or the first that is none
abbrev pub HeadsFound : ℕ → List Entry → Result ℕ Trouble → CloudState → Type 0
HeadsFound tree committed (Ok heads) s = (heads ≡ heads_upto s tree committed last_client) × AllHeadsRead s
HeadsFound tree committed (Err trouble) s = SlipOr (HeadStops s trouble) trouble

-- what a look at the root finds: which pages have queues, or that it is none
abbrev pub RootFound : ℕ → Result ℕ Trouble → CloudState → Type 0
RootFound tree (Ok messages) s = RootReads s tree
RootFound tree (Err trouble) s = SlipOr (RootStops s tree trouble) trouble

-- a report shows a tree of which no part is damaged
pub record ShowsWhole (s : CloudState) (tree : ℕ) (r : Report) : Type 0 where
  pub contents : Walked s tree 0 r.contents
  pub heads : r.heads ≡ heads_upto s tree r.committed last_client
  pub chain : ChainIsWhole s tree
  pub read : AllHeadsRead s
  pub root : RootReads s tree

-- a report shows the tree whole, or tells why it stopped
abbrev pub IsReported : CloudState → ℕ → Result Report Trouble → Type 0
IsReported s tree (Ok r) = ShowsWhole s tree r
IsReported s tree (Err trouble) = Stopped s tree trouble

-- what the looks of a report answered are the newest versions of some state: of the told one where one is told, and else, where
-- the cloud tells what looks show, of one whose newest versions are that. By that state it shows the tree whole or tells why it stopped
pub record Finds (tree : ℕ) (before : Seen) (result : Result Report Trouble) : Type 0 where
  pub looks : CloudState
  pub told : (s : CloudState) → before.state ≡ Some s → looks ≡ s
  pub shown : (shown : Showing) → before.state ≡ None → before.shown ≡ Some shown → IsSeenBy shown looks
  pub reported : IsReported looks tree result
