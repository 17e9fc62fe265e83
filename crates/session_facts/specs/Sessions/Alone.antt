-- A session that is alone: nobody else has a lease, so that its calls find their locks free.
use Rattle.std.specs.Prelude.{◌≡◌, ◌≢◌, Some}
use Rattle.cloud_trait.specs.Calm.{NamesLasting}
use Rattle.client_work.specs.Session.{ask_of_work}
use Rattle.client_work.specs.declared.answer.Answer.TheVariants as answer
use Rattle.client_work.specs.declared.work.Work.{Work}
use Rattle.cloud_trait.specs.declared.answer.Answer.TheVariants.{Memory}
use Rattle.cloud_facts.specs.Words.{Ended, CloudState, Ask}
use Rattle.db_base.specs.declared.trouble.Trouble.TheVariants as trouble
use Rattle.session_facts.specs.Sessions.Calls.{IsMade, SessionStep, reply_of}
use Rattle.session_facts.specs.Sessions.Knows.{leases_of}
use Rattle.session_facts.specs.Sessions.Untroubled.{GivesBackLasting}
use Rattle.session_facts.specs.Settling.Locks.{HoldsAlone}

-- with this in hand a session is alone: each lock is free, or it is that of one of its leases and stands as that says
abbrev pub IsAlone : Work → CloudState → Type 0
IsAlone w s = HoldsAlone (leases_of w) s

-- A step was undisturbed: no count rose in it, the leases that its call names lasted, also one that it gives back, and memory was found.
pub record StepsUndisturbed (x : SessionStep) (p : IsMade x) : Type 0 where
  pub ask : Ask
  pub hand : ask_of_work x.old.work ≡ Some ask
  pub counts : x.after.counts ≡ x.before.counts
  pub lasting : (t : CloudState) → x.after.state ≡ Some t → NamesLasting ask t.now
  pub returned : (t : CloudState) → x.after.state ≡ Some t → GivesBackLasting ask t.now
  pub heard : reply_of x p ≢ Memory
  pub found : x.turn ≢ Ended (answer.Trouble trouble.Memory)
