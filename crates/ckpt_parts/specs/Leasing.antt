-- The leases that a checkpoint holds, and how it gives them back.
use Rattle.std.specs.Prelude.{List, [], ◌∷◌, Option, Some, None}
use Rattle.cloud_trait.specs.declared.answer.Answer.{Answer}
use Rattle.cloud_trait.specs.declared.answer.Answer.TheVariants.{Given}
use Rattle.cloud_trait.specs.Ask.{Ask, Take, Release}
use Rattle.cloud_trait.specs.Claim.{Claim}
use Rattle.cloud_trait.specs.Machine.{Deed}
use Rattle.ckpt_parts.specs.declared.leases.Leases.{Leases}

-- no lease is held
abbrev pub no_leases : Leases
no_leases = record { first = None; second = None }

abbrev pub or_first : Option Claim → Option Claim → Option Claim
or_first (Some l) first = Some l
or_first None first = first

-- the newest lease
abbrev pub newest_lease : Leases → Option Claim
newest_lease held = or_first held.second held.first

abbrev pub without : Option Claim → Leases → Leases
without (Some l) held = record held { second = None }
without None held = record held { first = None }

-- the leases without the newest
abbrev pub without_newest : Leases → Leases
without_newest held = without held.second held

abbrev pub claims_over : Option Claim → List Claim → List Claim
claims_over (Some l) claims = l ∷ claims
claims_over None claims = claims

-- what is held, the newest first
abbrev pub claims_of : Leases → List Claim
claims_of held = claims_over held.second (claims_over held.first [])

-- ---- what a history leaves to be given back

-- after one more call: a lease that it was given comes first, and a lease that it gave back was the newest
abbrev pub outstanding_after : Ask → Answer → List Claim → List Claim
outstanding_after (Take lock ticks) (Given l) claims = l ∷ claims
outstanding_after (Take lock ticks) answer claims = claims
outstanding_after (Release l) answer [] = []
outstanding_after (Release l) answer (c ∷ cs) = cs
outstanding_after ask answer claims = claims

-- the leases that takes gave and that were not given back, the newest first
abbrev pub outstanding : List Deed → List Claim
outstanding [] = []
outstanding (d ∷ h) = outstanding_after d.ask d.answer (outstanding h)
