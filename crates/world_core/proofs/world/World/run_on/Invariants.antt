use Rattle.client_work.specs.Session.{calls_left}
use Rattle.world_core.specs.Handled.{Went}
use Rattle.world_core.specs.Quota.{SpendsQuota}
use Rattle.world_core.specs.Sessions.{IsAtWork}
use Rattle.world_core.specs.Stands.{Grows}
use Rattle.world_core.proofs.Going.{in_hand}
use Rattle.world_core.proofs.world.World.run_on.Given as goal

-- the steps so far, what they leave of earlier lines and take of the quota, and that a call is in hand
abbrev pub invariant-steps : goal.invariant-steps
invariant-steps g l =
    let seen = g.C.Cloud.seen in
    record {
      went : Went l.fn.who (seen l.fn.cloud) l.fn.self (seen l.cloud) l.self;
      grows : Grows l.fn.who.event (seen l.fn.cloud) (seen l.cloud);
      spends : SpendsQuota (seen l.fn.cloud) (seen l.cloud) l.fn.quota l.quota;
      works : IsAtWork l.fn.who.session l.self.sessions;
    }

-- the calls that are left
abbrev pub decreases-steps : goal.decreases-steps
decreases-steps g l = calls_left (in_hand l.self.sessions l.fn.who.session)
