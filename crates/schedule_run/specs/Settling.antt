-- What a settling writes and leaves.
use Rattle.std.specs.Prelude.{ℕ, ◌≡◌, Bool, true, false, if◌then◌else◌, List, [], ◌∷◌, ◌++◌, slice_get, Some, Result, Ok, Err}
use Rattle.cloud_facts.specs.Words.{Head, CloudState, Seen}
use Rattle.cloud_trait.specs.declared.state.Landing.{Landing}
use Rattle.db_io.specs.Writes.{AddsOne, AddsPart}
use Rattle.event_text.specs.declared.event.Event.TheVariants.{Settle}
use Rattle.db_io.specs.declared.output.OutputFault.{OutputFault}
use Rattle.db_io.specs.declared.output.OutputFault.TheVariants as output
use Rattle.replay_meaning.specs.Kinds.{LandsOpen}
use Rattle.reply_text.specs.declared.reply.Reply.{Reply}
use Rattle.reply_text.specs.declared.reply.Reply.TheVariants.{Settled}
use Rattle.schedule_run.specs.Outside.{Effects}
use Rattle.schedule_run.specs.Answered.{IsNew, IsOfRuns, SettlesSo}
use Rattle.schedule_run.specs.InPlay.{Play}
use Rattle.schedule_run.specs.declared.settling.SettleFault.{SettleFault}
use Rattle.schedule_run.specs.declared.settling.SettleFault.TheVariants.{NotSettled, WriteFault, Memory}
use Rattle.schedule_run.specs.Play.{Played, StoppedAt}
use Rattle.schedule_run.specs.Written.{NothingRan, reply_line}
use Rattle.world_core.specs.Handled.{Handled}
use Rattle.world_core.specs.World.{World}
use Rattle.world_core.specs.Span.{span_of}

-- a reply says that the settling is done
abbrev pub is_settled : Reply → Bool
is_settled (Settled calls) = true
is_settled reply = false

-- none of the rows that were added to the trace of a cloud opens a transaction
abbrev pub OpensNothing : Seen → Seen → Type 0
OpensNothing start now =
    (t u : CloudState) (added : List Landing) → start.state ≡ Some t → now.state ≡ Some u → u.trace ≡ t.trace ++ added
    → (place : ℕ) (row : Landing) (client : ℕ) (head : Head) → slice_get added place ≡ Some row → LandsOpen u row client head → ⊥

-- the one line `settle` was handled in a new world, and has this reply; over a cloud that earlier runs left, that is sound and explains itself
pub record WasSettled (reply : Reply) (start now : Seen) : Type 0 where
  pub play : Play
  pub played : Played true (record { event = Settle; reply = reply } ∷ []) start now play
  pub first : World
  pub fresh : IsNew true first
  pub handled : Handled 1 Settle (span_of start now first play.world) (Ok reply)
  pub settles : (t : CloudState) → start.state ≡ Some t → IsOfRuns t → SettlesSo [] Settle reply (span_of start now first play.world) handled
  pub opens : OpensNothing start now

-- it is written under number 1
pub record ShowsSettling (reply : Reply) (before after : Effects) : Type 0 where
  pub handled : WasSettled reply before.cloud after.cloud
  pub wrote : AddsOne before.output after.output (reply_line 1 reply)

-- the first part of it is
pub record CutsSettling (before after : Effects) : Type 0 where
  pub reply : Reply
  pub handled : WasSettled reply before.cloud after.cloud
  pub wrote : AddsPart before.output after.output (reply_line 1 reply)

-- where memory ran out: before anything, while the line was handled, or while its reply was written
pub data SettlingRanOut (before after : Effects) : Type 0 where
  out_before : NothingRan before after → SettlingRanOut before after
  out_handling : StoppedAt true Settle [] before.cloud after.cloud → after.output ≡ before.output → SettlingRanOut before after
  out_writing : CutsSettling before after → SettlingRanOut before after

-- how a settling ended: well exactly where its reply says that it is done
abbrev pub SettleEnded : Result (Unit {0}) SettleFault → Effects → Effects → Type 0
SettleEnded (Ok done) before after = (reply : Reply) × (is_settled reply ≡ true) × ShowsSettling reply before after
SettleEnded (Err NotSettled) before after = (reply : Reply) × (is_settled reply ≡ false) × ShowsSettling reply before after
SettleEnded (Err WriteFault) before after = CutsSettling before after
SettleEnded (Err Memory) before after = SettlingRanOut before after

-- the end that a reply leads to
abbrev pub settled_by : Reply → Result (Unit {0}) SettleFault
settled_by reply = if is_settled reply then Ok tt else Err NotSettled

-- by how the reply was written
abbrev pub settle_end_of : Result (Unit {0}) OutputFault → Reply → Result (Unit {0}) SettleFault
settle_end_of (Ok done) reply = settled_by reply
settle_end_of (Err output.WriteFault) reply = Err WriteFault
settle_end_of (Err output.Memory) reply = Err Memory
