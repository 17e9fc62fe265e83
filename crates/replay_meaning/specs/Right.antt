-- When a report is right: it shows what was committed by the lines, an order of it that is legal, and records in the order of their keys that are
-- those of the index and what this order comes to; where nothing is left the order holds all, and it goes on from the orders that were reported before; and all puts and sends
-- are of kinds that their sessions' standing allows.
use Rattle.std.specs.Prelude.{ℕ, ◌≡◌, Bool, List, [], ◌∷◌, Option, Some, None, slice_get, if◌then◌else◌}
use Rattle.byte_format.specs.Order.{bytes_below, bytes_same}
use Rattle.db_base.specs.Value.{Value}
use Rattle.cloud_trait.specs.Growth.{BeginsWith}
use Rattle.cloud_trait.specs.State.{CloudState}
use Rattle.history.specs.Fold.{fold, of_tree}
use Rattle.history.specs.Legal.{IsLegal, StandsAt}
use Rattle.leaf_view.specs.Fits.{Ascend}
use Rattle.leaf_view.specs.Leaf.{Leaf}
use Rattle.report_types.specs.declared.entry.Entry.{Entry}
use Rattle.report_types.specs.declared.report.Report.{Report}
use Rattle.report_types.specs.declared.stored.Stored.{Stored}
use Rattle.reply_text.specs.declared.reply.Reply.{Reply}
use Rattle.reply_text.specs.declared.reply.Reply.TheVariants as reply
use Rattle.replay_meaning.specs.Chain.{AreLeaves, records_of}
use Rattle.replay_meaning.specs.Standing.{Line}
use Rattle.replay_meaning.specs.Committed.{committed}
use Rattle.replay_meaning.specs.Kinds.{KeepsKinds}
use Rattle.replay_meaning.specs.Index.{Finds}

-- the value of a record that a report shows
abbrev pub value_stored : Stored → Value
value_stored stored = record { payload = stored.payload; attr = stored.attr }

-- the value that records have at a key, where they have one
abbrev pub value_at : List ℕ → List Stored → Option Value
value_at key [] = None
value_at key (stored ∷ others) = if bytes_same stored.key key then Some (value_stored stored) else value_at key others

-- a record is below another one by its key
abbrev pub stored_below : Stored → Stored → Bool
stored_below a b = bytes_below a.key b.key

-- an order holds all committed entries
abbrev pub HoldsAll : List Entry → List Entry → Type 0
HoldsAll order committed = (place : ℕ) (entry : Entry) → StandsAt committed place entry → (at : ℕ) × StandsAt order at entry

-- where a reply is a report of the tree, the order begins with the reported one
abbrev pub GoesOnFrom : ℕ → List Entry → Reply → Type 0
GoesOnFrom tree order (reply.Report r) = r.tree ≡ tree → BeginsWith r.order order
GoesOnFrom tree order reply = Unit {0}

-- a report of a tree is right for the lines so far and the state in which they left the cloud
pub record IsRight (lines : List Line) (t : CloudState) (r : Report) : Type 0 where
  pub committed : r.committed ≡ of_tree r.tree (committed lines t)
  pub leaves : List Leaf
  pub chain : AreLeaves t r.tree leaves
  pub contents : r.contents ≡ records_of leaves
  pub ascending : Ascend stored_below None r.contents
  pub found : (key : List ℕ) → Finds t r.tree key (value_at key r.contents)
  pub folded : (key : List ℕ) → value_at key r.contents ≡ fold r.order r.tree key
  pub legal : IsLegal r.order r.committed
  pub complete : r.heads ≡ 0 → r.messages ≡ 0 → HoldsAll r.order r.committed
  pub grown : (k : ℕ) (line : Line) → slice_get lines k ≡ Some line → GoesOnFrom r.tree r.order line.reply
  pub kinds : KeepsKinds lines t r.order

-- a reply that is a report is right
abbrev pub ReportIsRight : List Line → CloudState → Reply → Type 0
ReportIsRight lines t (reply.Report r) = IsRight lines t r
ReportIsRight lines t reply = Unit {0}
