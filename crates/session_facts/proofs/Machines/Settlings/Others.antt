-- What a settling knows survives the calls of others.
use Rattle.std.proofs.Common.{◌≤◌, ℕ, sym, subst}
use Rattle.cloud_facts.specs.Calls.Acting.{HasLeaseOf}
use Rattle.cloud_facts.specs.Calls.Others.{Others}
use Rattle.cloud_facts.proofs.Calls.Guarding.{others_itself}
use Rattle.cloud_facts.specs.Homes.Homes.{Part}
use Rattle.session_facts.proofs.Machines.Openings.Others.{opening_others, opening_lease}
use Rattle.session_facts.proofs.Machines.PageCheckpoints.Others.{paging_others}
use Rattle.settle_run.specs.declared.part.Part.{Part as AtWork}
use Rattle.settle_run.specs.declared.part.Part.TheVariants.{Client, Tree, Page}
use Rattle.settle_run.specs.Settling.{Settling}
use Rattle.session_facts.proofs.Machines.Settlings.Rights.{way_stays}
use Rattle.session_facts.specs.Machines.Settlings.Knows.{KnowsAtWork, KnowsSettling, leases_at_work, leases_of_settling}
use Rattle.cloud_facts.specs.Book.Tally.{Store}
use Rattle.session_facts.proofs.Machines.TreeCheckpoints.Others.{making_others}

at_work_others : (st su : Store) (now later : ℕ) (w : AtWork) (part : Part) → now ≤ later → Others (leases_at_work w) later st su → KnowsAtWork st now w part → KnowsAtWork su later w part
at_work_others st su now later (Client client m) part after o k =
    record { client_is = k.client_is; aim_is = k.aim_is; knows = opening_others st su now later m part after o k.knows }
at_work_others st su now later (Tree tree m) part after o k =
    record { tree_is = k.tree_is; knows = making_others st su now later m after o k.knows; away = k.away }
at_work_others st su now later (Page tree page m) part after o k =
    record { tree_is = k.tree_is; page_is = k.page_is; knows = paging_others st su now later m after o k.knows; away = k.away }

-- time goes on
pub at_work_later : (st : Store) (now later : ℕ) (w : AtWork) (part : Part) → now ≤ later → KnowsAtWork st now w part → KnowsAtWork st later w part
at_work_later st now later w part after k = at_work_others st st now later w part after (others_itself (leases_at_work w) later st) k

pub settling_others : (st su : Store) (now later : ℕ) (s : Settling) (part : Part) → now ≤ later → Others (leases_of_settling s) later st su → KnowsSettling st now s part
    → KnowsSettling su later s part
settling_others st su now later s part after o k =
    record { work = at_work_others st su now later s.part part after o k.work; way = way_stays st su s.part s.visited o.passes.grows k.way }

-- ---- the lease of its part

at_work_lease : (st : Store) (now : ℕ) (w : AtWork) (part : Part) → KnowsAtWork st now w part → HasLeaseOf (leases_at_work w) part
at_work_lease st now (Client client m) part k = opening_lease st now m part k.knows
at_work_lease st now (Tree tree m) part k = subst (HasLeaseOf (leases_at_work (Tree tree m))) (sym k.away) tt
at_work_lease st now (Page tree page m) part k = subst (HasLeaseOf (leases_at_work (Page tree page m))) (sym k.away) tt

-- what a settling has of a client stands under the lease in hand
pub settling_lease : (st : Store) (now : ℕ) (s : Settling) (part : Part) → KnowsSettling st now s part → HasLeaseOf (leases_of_settling s) part
settling_lease st now s part k = at_work_lease st now s.part part k.work
