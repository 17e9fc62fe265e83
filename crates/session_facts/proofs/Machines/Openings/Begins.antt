-- An opening begins.
use Rattle.std.proofs.Common.{ℕ, Option, Some, None, refl}
use Rattle.cloud_facts.specs.Words.{IsClient, Claim, Store}
use Rattle.cloud_facts.specs.Homes.Homes.{Away}
use Rattle.session_facts.specs.Machines.Openings.Knows.{KnowsOpening}
use Rattle.recover_run.specs.declared.stage.Aim.{Aim}
use Rattle.recover_run.specs.Recovery.{new_recovery}

-- nothing need be known before its first call
pub opening_begins : (st : Store) (now client : ℕ) (aim : Aim) (old : Option Claim) → IsClient client → KnowsOpening st now (new_recovery client aim old) Away
opening_begins st now client aim (Some l) is = record { client = is; at = (record { old = l; is = refl; none = refl }, (refl, refl)) }
opening_begins st now client aim None is = record { client = is; at = (refl, refl, (refl, refl)) }
