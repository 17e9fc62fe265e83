-- What a line leaves of the sessions for which memory ran out.
use Rattle.std.specs.Prelude.{ℕ, ◌≡◌, ◌⊎◌, List, Result, Ok, Err}
use Rattle.cloud_trait.specs.Claim.{Claim}
use Rattle.event_text.specs.declared.event.Event.{Event}
use Rattle.reply_text.specs.declared.reply.Reply.{Reply}
use Rattle.client_work.specs.declared.shown.Shown.TheVariants.{Nothing}
use Rattle.client_work.specs.declared.work.Work.{Work}
use Rattle.client_work.specs.declared.work.Work.TheVariants.{Closed, Opening, Closing, Settling, Sweeping, Broken}
use Rattle.client_work.specs.Session.{Acting, closed_session}
use Rattle.world_core.specs.declared.asked.Asked.{Asked}
use Rattle.world_core.specs.declared.asked.Asked.TheVariants.{Session, Wait, Report, Settle, Sweep}
use Rattle.world_core.specs.declared.asked.Request.{Request}
use Rattle.world_core.specs.declared.asked.Request.TheVariants.{Begin, Note, Abort, Policy, Work as WorksDue, Step, Run, Crash}
use Rattle.world_core.specs.World.{World}
use Rattle.world_core.specs.declared.world.WorldFault.{WorldFault}
use Rattle.world_core.specs.Asked.{Asks}
use Rattle.world_core.specs.Sessions.{Changes}

-- what was opening, closing, settling or sweeping is closed, and any other client is in doubt: its lease is left
abbrev pub IsBroken : Work → Work → Type 0
IsBroken (Opening m) new = new ≡ Closed
IsBroken (Closing lease) new = new ≡ Closed
IsBroken (Settling m) new = new ≡ Closed
IsBroken (Sweeping m) new = new ≡ Closed
IsBroken old new = (lease : Claim) × (new ≡ Broken lease)

-- so is a session, and it shows nothing
pub record IsLeftShort (old new : Acting) : Type 0 where
  pub work : IsBroken old.work new.work
  pub shown : new.shown ≡ Nothing

-- the session of an operation is left so, by what it had in hand at the line's begin, and the others stay; where a change could not be noted they all
-- stay, and to drop changes takes no memory, nor does a ledger without notes
abbrev pub ServesShort : ℕ → Request → List Acting → List Acting → Type 0
ServesShort number (Begin op) old new = Changes number IsLeftShort old new
ServesShort number (Step wish) old new = Changes number IsLeftShort old new
ServesShort number WorksDue old new = Changes number IsLeftShort old new
ServesShort number (Policy role k) old new = ⊥
ServesShort number Run old new = Changes number IsLeftShort old new
ServesShort number (Crash done) old new = Changes number IsLeftShort old new
ServesShort number (Note noting) old new = new ≡ old
ServesShort number Abort old new = ⊥

-- a settler is closed, or there was none
abbrev pub SettlerShort : List Acting → List Acting → Type 0
SettlerShort old new = (new ≡ old) ⊎ Changes 0 (λ a b. b ≡ closed_session) old new

-- a line whose parts could not be read and a report change no session, and a wait takes no memory
abbrev pub AskedShort : Asked → List Acting → List Acting → Type 0
AskedShort (Session number (Ok request)) old new = ServesShort number request old new
AskedShort (Session number (Err why)) old new = new ≡ old
AskedShort (Report tree) old new = new ≡ old
AskedShort Settle old new = SettlerShort old new
AskedShort (Sweep (Ok tree)) old new = SettlerShort old new
AskedShort (Sweep (Err why)) old new = new ≡ old
AskedShort (Wait ticks) old new = ⊥

-- A line for which memory ran out leaves the sessions so: that of an operation is broken off, whether its own call found no memory, a look of the world
-- beside that, or the reply.
abbrev pub LeavesShort : Event → World → World → Result Reply WorldFault → Type 0
LeavesShort event old new (Ok reply) = Unit {0}
LeavesShort event old new (Err why) = (asked : Asked) × Asks event asked × AskedShort asked old.sessions new.sessions
