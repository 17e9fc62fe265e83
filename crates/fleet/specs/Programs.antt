-- What a session's contract says, as the part of a program in a fleet.
use Rattle.std.specs.Prelude.{ℕ, ◌≡◌, Some}
use Rattle.cloud_trait.specs.declared.answer.Answer.{Answer as Heard}
use Rattle.cloud_trait.specs.Ask.{Ask}
use Rattle.cloud_trait.specs.Seen.{Seen}
use Rattle.fleet.specs.Acts.{Deal}
use Rattle.fleet.specs.Fleet.{Fleet}
use Rattle.session_facts.specs.Sessions.Calls.{SessionStep}

-- a step of a session as a deal: its call, and what it heard
abbrev pub deal_of : ℕ → SessionStep → Ask → Heard → Deal
deal_of program x ask answer = record { program = program; old = x.old; new = x.new; ask = ask; answer = answer; turn = x.turn }

-- what is seen of a cloud is the store of a fleet
pub record Tells (seen : Seen) (f : Fleet) : Type 0 where
  pub counts : seen.counts ≡ f.counts
  pub state : seen.state ≡ Some f.state
