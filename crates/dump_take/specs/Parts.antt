-- What the parts of a taking find.
use Rattle.std.specs.Prelude.{ℕ, ◌≡◌, ◌⊎◌, List, Option, Result, Ok, Err, IfErr}
use Rattle.db_base.specs.declared.names.ObjName.TheVariants as object
use Rattle.db_base.specs.declared.names.QueueName.{QueueName}
use Rattle.db_base.specs.declared.trouble.Trouble.{Trouble}
use Rattle.db_base.specs.declared.trouble.Trouble.TheVariants.{Failed, Memory}
use Rattle.cloud_trait.specs.Seen.{Seen}
use Rattle.cloud_trait.specs.State.{CloudState}
use Rattle.cloud_trait.specs.Weather.{Rose}
use Rattle.dump_text.specs.declared.dump.DumpedTree.{DumpedTree}
use Rattle.reply_text.specs.Name.{object_word, queue_word}
use Rattle.world_audit.specs.Stop.{SlipOr, SpellsNoHead, RootStops}
use Rattle.dump_take.specs.declared.stop.DumpStop.{DumpStop}
use Rattle.dump_take.specs.declared.stop.DumpStop.TheVariants as stop
use Rattle.dump_take.specs.Quiet.{IsOpen, AllHeadsRest, IsDrained, TreeRests, TreesRest, HeadIsFirst, QueueIsFirst, TreeIsFirst}
use Rattle.dump_take.specs.Taken.{AreDumped, HeadIsDamaged, RootIsDamaged, ChainIsDamaged}

-- it answers that a look failed only where one did
abbrev pub StopsDark : {X : Type 0} → Result X DumpStop → Seen → Seen → Type 0
StopsDark result old new = IfErr result (λ e. e ≡ stop.Trouble Failed → Rose old.counts.dark new.counts.dark)

-- a name is told, unless memory runs out
abbrev pub Names : List ℕ → DumpStop → Type 0
Names word (stop.NotQuiet name) = name ≡ word
Names word (stop.Trouble trouble) = trouble ≡ Memory

-- why a version of a client's head stops
abbrev pub StopsAtHead : Option (List ℕ) → ℕ → DumpStop → Type 0
StopsAtHead found client (stop.NotQuiet name) = IsOpen found × (name ≡ object_word (object.Head client))
StopsAtHead found client (stop.Trouble trouble) = (trouble ≡ Memory) ⊎ SpellsNoHead found client trouble

-- what looks at the heads find
abbrev pub HeadsFound : Result (Unit {0}) DumpStop → CloudState → Type 0
HeadsFound (Ok done) s = AllHeadsRest s
HeadsFound (Err (stop.NotQuiet name)) s = HeadIsFirst s name
HeadsFound (Err (stop.Trouble trouble)) s = SlipOr (HeadIsDamaged s trouble) trouble

-- what a look at a queue finds
abbrev pub QueueFound : QueueName → Result (Unit {0}) DumpStop → CloudState → Type 0
QueueFound queue (Ok done) s = IsDrained s queue
QueueFound queue (Err (stop.NotQuiet name)) s = (IsDrained s queue → ⊥) × (name ≡ queue_word queue)
QueueFound queue (Err (stop.Trouble trouble)) s = (trouble ≡ Failed) ⊎ (trouble ≡ Memory)

-- what looks at the root and the queues of a tree find
abbrev pub TreeFound : ℕ → Result (Unit {0}) DumpStop → CloudState → Type 0
TreeFound tree (Ok done) s = TreeRests s tree
TreeFound tree (Err (stop.NotQuiet name)) s = QueueIsFirst s tree name
TreeFound tree (Err (stop.Trouble trouble)) s = SlipOr (RootStops s tree trouble) trouble

-- what looks at the roots and the queues of all trees find
abbrev pub TreesFound : Result (Unit {0}) DumpStop → CloudState → Type 0
TreesFound (Ok done) s = TreesRest s 17
TreesFound (Err (stop.NotQuiet name)) s = TreeIsFirst s name
TreesFound (Err (stop.Trouble trouble)) s = SlipOr (RootIsDamaged s trouble) trouble

-- what looks at the leaves of all trees find
abbrev pub ContentsFound : Result (List DumpedTree) Trouble → CloudState → Type 0
ContentsFound (Ok trees) s = AreDumped s trees
ContentsFound (Err trouble) s = SlipOr (ChainIsDamaged s trouble) trouble
