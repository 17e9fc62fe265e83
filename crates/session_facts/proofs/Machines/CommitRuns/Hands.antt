-- The lease of a commit run.
use Rattle.std.proofs.Common.{inl, ℕ, [], ◌∷◌}
use Rattle.cloud_facts.specs.Calls.Acting.{exchange, Handles}
use Rattle.cloud_facts.specs.Words.{Answer, CloudState, Caller, Store}
use Rattle.session_facts.proofs.Machines.Commits.Hands.{commit_handles}
use Rattle.commit_run.specs.declared.hand.Hand.{Hand}
use Rattle.commit_run.specs.declared.hand.Hand.TheVariants.{Writes, First, Change}
use Rattle.commit_run.specs.Run.{Run, home_of, ask_at, asks}
use Rattle.commit_run.specs.Sound.{IsSoundAt, IsSoundRun}
use Rattle.session_facts.specs.Machines.CommitRuns.Knows.{KnowsHand, KnowsRun}
use Rattle.cloud_facts.specs.Homes.Homes.{Part}
use Rattle.page_cache.specs.Cache.{Cache}

-- a put names the home's lease, which guards the head; the lease stays as it is
pub run_handles : (who : Caller) (s t : CloudState) (m : Run × Cache) (reply : Answer) (st : Store) (now : ℕ) (part : Part) → KnowsRun st now m part → IsSoundRun m.0
    → Handles (exchange who s t (asks m) reply) ((home_of m.0).lease ∷ []) ((home_of m.0).lease ∷ [])
run_handles who s t m reply st now part k sound = on m.0.hand k.hand sound
  where
    on : (hand : Hand) → KnowsHand hand st now m.0.draft part → IsSoundAt hand m.0.draft.writes
        → Handles (exchange who s t (ask_at hand m.0.draft.writes) reply) ((home_of m.0).lease ∷ []) ((home_of m.0).lease ∷ [])
    on Writes a is = commit_handles who s t m.0.draft.writes reply st now part a is
    on (First w) a is = record { owns = tt; guarded = tt; renewed = (home_of m.0).lease; renews = tt; own = λ x there. inl (there, tt) }
    on (Change w) a is = record { owns = tt; guarded = tt; renewed = (home_of m.0).lease; renews = tt; own = λ x there. inl (there, tt) }
