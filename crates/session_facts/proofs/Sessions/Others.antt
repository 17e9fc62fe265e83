-- What each session knows survives a call of another one, and time.
use Rattle.std.proofs.Common.{◌≡◌, ◌≤◌, ℕ, List, [], ◌∷◌, refl, sym, ap, subst, ◌∙◌}
use Rattle.client_work.specs.Session.{Acting}
use Rattle.client_work.specs.declared.work.Work.{Work}
use Rattle.client_work.specs.declared.work.Work.TheVariants.{Closed, Idle, Opening, Committing, Reading, Scanning, Looking, Folding, Paging, Closing, Renewing, Settling, Sweeping, Broken}
use Rattle.cloud_facts.specs.Calls.Acting.{HasLeaseOf}
use Rattle.cloud_facts.specs.Calls.Others.{NoneJoins, Others}
use Rattle.cloud_facts.proofs.Calls.Guarding.{others_itself, fewer_others}
use Rattle.cloud_facts.proofs.Calls.OthersLemmas.{home_others}
use Rattle.cloud_facts.specs.Words.{Claim, Store, IsIn}
use Rattle.session_facts.proofs.Machines.CommitRuns.Others.{run_others, run_part}
use Rattle.db_base.specs.declared.names.Lock.TheVariants as lock
use Rattle.cloud_facts.specs.Homes.Homes.{Part, Away}
use Rattle.session_facts.proofs.Machines.Openings.Others.{opening_others, opening_lease}
use Rattle.page_cache.specs.Cache.{Cache}
use Rattle.session_facts.specs.Machines.PageCheckpoints.Knows.{leases_of_paging}
use Rattle.session_facts.proofs.Machines.PageCheckpoints.Others.{paging_others}
use Rattle.recover_run.specs.declared.home.Home.{Home}
use Rattle.session_facts.proofs.Machines.Looks.Outcome.{look_grows}
use Rattle.session_facts.proofs.Machines.Scans.Outcome.{scan_grows}
use Rattle.session_facts.specs.Sessions.Knows.{leases_of, IsHome, KnowsWork, Knows}
use Rattle.session_facts.proofs.Sessions.Kept.{kept_grows}
use Rattle.session_facts.proofs.Machines.Settlings.Others.{settling_others, settling_lease}
use Rattle.session_facts.proofs.Machines.Sweeps.Others.{sweep_others, sweep_lease}
use Rattle.cloud_facts.proofs.Book.Places.{in_behind}
use Rattle.session_facts.specs.Machines.TreeCheckpoints.Knows.{leases_of_making}
use Rattle.session_facts.proofs.Machines.TreeCheckpoints.Others.{making_others}
use Rattle.session_facts.proofs.Machines.Walks.Outcome.{walk_grows}
use Rattle.session_facts.proofs.Machines.Openings.Counted.{counted_stay}
use Rattle.session_facts.proofs.Machines.Openings.Entries.{records_stay}

-- ---- what a session knows it knows still

home_stays : (st su : Store) (now later : ℕ) (home : Home) (part : Part) (mine : List Claim) → now ≤ later → IsIn mine home.lease → Others mine later st su → IsHome st now home part
    → IsHome su later home part
home_stays st su now later home part mine after here o k =
    record {
      at = home_others st su now later home.client home.lease home.head home.attempt part mine after here o k.at;
      trees = k.trees;
      of_records = records_stay st su home.client home.head.pending o.passes.grows k.of_records;
      counted = counted_stay st su home.client home.head.counters o.passes.grows k.counted;
    }

pub work_others : (st su : Store) (now later : ℕ) (c : Cache) (work : Work) (part : Part) → now ≤ later → Others (leases_of work) later st su → NoneJoins part st su
    → KnowsWork st now c work part → KnowsWork su later c work part
work_others st su now later c Closed part after o j k = k
work_others st su now later c (Idle home) part after o j k = home_stays st su now later home part (home.lease ∷ []) after (0, refl) o k
work_others st su now later c (Opening r) part after o j k = opening_others st su now later r part after o k
work_others st su now later c (Committing r) part after o j k = run_others st su now later part after (r, c) o j k
work_others st su now later c (Reading home w) part after o j k =
    (home_stays st su now later home part (home.lease ∷ []) after (0, refl) o k.0, walk_grows st su o.passes.grows w k.1)
work_others st su now later c (Scanning home m) part after o j k =
    (home_stays st su now later home part (home.lease ∷ []) after (0, refl) o k.0, scan_grows st su o.passes.grows m.scan k.1)
work_others st su now later c (Looking home m) part after o j k =
    (home_stays st su now later home part (home.lease ∷ []) after (0, refl) o k.0, look_grows st su o.passes.grows m k.1)
work_others st su now later c (Folding home m) part after o j k = (
  home_stays st su now later home part (leases_of (Folding home m)) after (0, refl) o k.0,
  making_others st su now later m after
      (fewer_others (leases_of_making m) (leases_of (Folding home m)) later st su (λ l is. in_behind (home.lease ∷ []) (leases_of_making m) l is) o) k.1,
)
work_others st su now later c (Paging home p) part after o j k = (
  home_stays st su now later home part (leases_of (Paging home p)) after (0, refl) o k.0,
  paging_others st su now later p after
      (fewer_others (leases_of_paging p) (leases_of (Paging home p)) later st su (λ l is. in_behind (home.lease ∷ []) (leases_of_paging p) l is) o) k.1,
)
work_others st su now later c (Closing l) part after o j k = k
work_others st su now later c (Renewing home) part after o j k = home_stays st su now later home part (home.lease ∷ []) after (0, refl) o k
work_others st su now later c (Settling m) part after o j k = settling_others st su now later m part after o k
work_others st su now later c (Sweeping m) part after o j k = sweep_others st su now later m part after o k
work_others st su now later c (Broken l) part after o j k = k

pub knows_others : (st su : Store) (now later : ℕ) (session : Acting) (part : Part) → now ≤ later → Others (leases_of session.work) later st su → NoneJoins part st su
    → Knows st now session part → Knows su later session part
knows_others st su now later session part after o j k = record {
  work = work_others st su now later session.cache session.work part after o j k.work;
  kept = kept_grows st su session.cache session.work o.passes.grows k.kept;
  buffer = k.buffer;
}

-- time alone goes on
pub knows_later : (st : Store) (now later : ℕ) (session : Acting) (part : Part) → now ≤ later → Knows st now session part → Knows st later session part
knows_later st now later session part after k = knows_others st st now later session part after (others_itself (leases_of session.work) later st) (λ r is of. is) k

-- ---- a part's lease is in hand

away_lease : (mine : List Claim) (part : Part) → part ≡ Away → HasLeaseOf mine part
away_lease mine part e = subst (HasLeaseOf mine) (sym e) tt

home_lease : (st : Store) (now : ℕ) (home : Home) (part : Part) (mine : List Claim) → IsIn mine home.lease → IsHome st now home part → HasLeaseOf mine part
home_lease st now home part mine here k =
    subst (HasLeaseOf mine) (sym k.at.part_is)
    (subst (λ l. IsIn mine l) (sym k.at.lease_is) here, ap (λ (l : Claim). l.lock) k.at.lease_is ∙ (k.at.lock_is ∙ ap (λ c. lock.Client c) (sym k.at.client_is)))

pub part_lease : (st : Store) (now : ℕ) (c : Cache) (work : Work) (part : Part) → KnowsWork st now c work part → HasLeaseOf (leases_of work) part
part_lease st now c Closed part k = away_lease [] part k
part_lease st now c (Idle home) part k = home_lease st now home part (home.lease ∷ []) (0, refl) k
part_lease st now c (Opening r) part k = opening_lease st now r part k
part_lease st now c (Committing r) part k = run_part st now (r, c) part k
part_lease st now c (Reading home w) part k = home_lease st now home part (home.lease ∷ []) (0, refl) k.0
part_lease st now c (Scanning home m) part k = home_lease st now home part (home.lease ∷ []) (0, refl) k.0
part_lease st now c (Looking home m) part k = home_lease st now home part (home.lease ∷ []) (0, refl) k.0
part_lease st now c (Folding home f) part k = home_lease st now home part (leases_of (Folding home f)) (0, refl) k.0
part_lease st now c (Paging home p) part k = home_lease st now home part (leases_of (Paging home p)) (0, refl) k.0
part_lease st now c (Closing l) part k = away_lease (l ∷ []) part k
part_lease st now c (Renewing home) part k = home_lease st now home part (home.lease ∷ []) (0, refl) k
part_lease st now c (Settling m) part k = settling_lease st now m part k
part_lease st now c (Sweeping m) part k = sweep_lease st now m part k
part_lease st now c (Broken l) part k = away_lease (l ∷ []) part k
