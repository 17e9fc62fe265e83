-- What a commit run knows survives the calls of others.
use Rattle.std.proofs.Common.{◌≡◌, ◌≤◌, ℕ, [], ◌∷◌, refl, sym, ap, subst, ◌∙◌, arith}
use Rattle.cloud_facts.specs.Calls.Acting.{HasLeaseOf}
use Rattle.cloud_facts.specs.Calls.Others.{Others, NoneJoins}
use Rattle.cloud_facts.proofs.Calls.OthersLemmas.{home_others}
use Rattle.cloud_facts.specs.Words.{Claim, Store, IsIn}
use Rattle.session_facts.proofs.Machines.Commits.Others.{commit_others, commit_lease}
use Rattle.commit_run.specs.declared.hand.Hand.{Hand}
use Rattle.commit_run.specs.declared.hand.Hand.TheVariants.{Writes, First, Change}
use Rattle.commit_run.specs.Draft.{Draft}
use Rattle.commit_run.specs.Run.{Run, home_of}
use Rattle.session_facts.specs.Machines.CommitRuns.Knows.{KnowsDraft, KnowsSeeking, KnowsHand, KnowsRun}
use Rattle.session_facts.proofs.Machines.CommitRuns.Plans.{plan_grows}
use Rattle.db_base.specs.declared.names.Lock.TheVariants as lock
use Rattle.cloud_facts.specs.Homes.Homes.{Part}
use Rattle.page_cache.specs.Cache.{Cache}
use Rattle.tree_walk.specs.Walk.{Walk}
use Rattle.session_facts.proofs.Machines.Walks.Caches.{cache_grows}
use Rattle.session_facts.proofs.Machines.Walks.Outcome.{walk_grows}
use Rattle.session_facts.proofs.Machines.Openings.Counted.{counted_stay}
use Rattle.session_facts.proofs.Machines.Openings.Entries.{records_stay}

module _ (st su : Store) (now later : ℕ) (part : Part) (after : now ≤ later) where
  draft_others : (d : Draft) → Others (d.writes.home.lease ∷ []) later st su → KnowsDraft st now d part → KnowsDraft su later d part
  draft_others d o k = record {
    taken = record {
      before = k.taken.before;
      taken = k.taken.taken;
      home = record {
        at = home_others st su now later d.writes.home.client d.writes.home.lease d.writes.home.head k.taken.before part (d.writes.home.lease ∷ []) after (0, refl) o k.taken.home.at;
        trees = k.taken.home.trees;
        of_records = records_stay st su d.writes.home.client d.writes.home.head.pending o.passes.grows k.taken.home.of_records;
        counted = counted_stay st su d.writes.home.client d.writes.home.head.counters o.passes.grows k.taken.home.counted;
      };
    };
    may = k.may;
    some = k.some;
    none = k.none;
    plan = λ lasts. plan_grows st su d.writes.changes d.plan o.passes.grows (k.plan (omega (arith, lasts, after)));
  }

  seeking_others : (d : Draft) (w : Walk) → Others (d.writes.home.lease ∷ []) later st su → KnowsSeeking st now d w part → KnowsSeeking su later d w part
  seeking_others d w o k = record { draft = draft_others d o k.draft; walk = walk_grows st su o.passes.grows w k.walk }

  pub run_others : (m : Run × Cache) → Others ((home_of m.0).lease ∷ []) later st su → NoneJoins part st su → KnowsRun st now m part → KnowsRun su later m part
  run_others m o joins k = record { hand = on m.0.hand k.hand; cache = cache_grows st su o.passes.grows m.1 k.cache }
    where
      on : (hand : Hand) → KnowsHand hand st now m.0.draft part → KnowsHand hand su later m.0.draft part
      on Writes a = commit_others st su now later m.0.draft.writes part after o joins a
      on (First w) a = seeking_others m.0.draft w o a
      on (Change w) a = seeking_others m.0.draft w o a

-- the lease of its part is in hand
draft_lease : (st : Store) (now : ℕ) (d : Draft) (part : Part) → KnowsDraft st now d part → HasLeaseOf (d.writes.home.lease ∷ []) part
draft_lease st now d part k = subst (HasLeaseOf (d.writes.home.lease ∷ [])) (sym k.taken.home.at.part_is) (in_hand, locked)
  where
    in_hand : IsIn (d.writes.home.lease ∷ []) k.taken.home.at.home.lease
    in_hand = subst (λ (l : Claim). IsIn (d.writes.home.lease ∷ []) l) (sym k.taken.home.at.lease_is) (0, refl)

    locked : k.taken.home.at.home.lease.lock ≡ lock.Client k.taken.home.at.home.client
    locked = ap (λ (l : Claim). l.lock) k.taken.home.at.lease_is ∙ (k.taken.home.at.lock_is ∙ ap (λ c. lock.Client c) (sym k.taken.home.at.client_is))

pub run_part : (st : Store) (now : ℕ) (m : Run × Cache) (part : Part) → KnowsRun st now m part → HasLeaseOf ((home_of m.0).lease ∷ []) part
run_part st now m part k = on m.0.hand k.hand
  where
    on : (hand : Hand) → KnowsHand hand st now m.0.draft part → HasLeaseOf ((home_of m.0).lease ∷ []) part
    on Writes a = commit_lease st now m.0.draft.writes part a
    on (First w) a = draft_lease st now m.0.draft part a.draft
    on (Change w) a = draft_lease st now m.0.draft part a.draft
