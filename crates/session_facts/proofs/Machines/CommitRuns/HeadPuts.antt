-- The puts of heads that a commit run has in hand.
use Rattle.std.proofs.Common.{◌≡◌, ◌⊎◌, inl, inr, ℕ, List, Option, None}
use Rattle.cloud_facts.specs.Words.{Claim, PutHeld, Store}
use Rattle.session_facts.specs.Machines.Commits.HeadPuts.{OpensHead, PutsHead}
use Rattle.session_facts.proofs.Machines.Commits.HeadPuts.{commit_puts}
use Rattle.commit_run.specs.declared.hand.Hand.{Hand}
use Rattle.commit_run.specs.declared.hand.Hand.TheVariants.{Writes, First, Change}
use Rattle.commit_run.specs.Draft.{Draft}
use Rattle.commit_run.specs.Run.{Run, ask_at, run_ask}
use Rattle.commit_run.specs.Sound.{IsSoundAt, IsSoundRun}
use Rattle.session_facts.specs.Machines.CommitRuns.HeadPuts.{OpensRun, PutsRun}
use Rattle.session_facts.specs.Machines.CommitRuns.Knows.{KnowsHand, KnowsRun}
use Rattle.commit_writes.specs.Writing.{opens_at}
use Rattle.db_base.specs.declared.names.ObjName.TheVariants as object
use Rattle.head_codec.specs.declared.head.Phase.TheVariants as phase
use Rattle.cloud_facts.specs.Homes.Homes.{Part}
use Rattle.page_cache.specs.Cache.{Cache}

-- what is written puts what the commit puts
writes_put : (d : Draft) (client : ℕ) (bytes : List ℕ) → PutsHead d.writes client bytes → PutsRun (record { draft = d; hand = Writes }) client bytes
writes_put d client bytes p = record { head = p.head; spells = p.spells; client_is = p.client_is; how = on p.how }
  where
    on : OpensHead d.writes p.head ⊎ ((opens_at d.writes.stage d.writes ≡ None) × (p.head.phase ≡ phase.Settled))
        → OpensRun (record { draft = d; hand = Writes }) p.head ⊎ ((opens_at d.writes.stage d.writes ≡ None) × (p.head.phase ≡ phase.Settled))
    on (inl o) = inl (record { opens = o.opens; phase_is = o.phase_is })
    on (inr settled) = inr settled

-- a walk puts nothing
pub run_puts : (st : Store) (now : ℕ) (m : Run × Cache) (client : ℕ) (bytes : List ℕ) (one : Claim) (two : Option Claim) (part : Part)
    → run_ask m.0 ≡ PutHeld (object.Head client) bytes one two → KnowsRun st now m part → IsSoundRun m.0 → PutsRun m.0 client bytes
run_puts st now m client bytes one two part e k sound = on m.0.hand k.hand sound e
  where
    on : (hand : Hand) → KnowsHand hand st now m.0.draft part → IsSoundAt hand m.0.draft.writes → ask_at hand m.0.draft.writes ≡ PutHeld (object.Head client) bytes one two
        → PutsRun (record { draft = m.0.draft; hand = hand }) client bytes
    on Writes a is put = writes_put m.0.draft client bytes (commit_puts st now m.0.draft.writes client bytes one two part put a is)
    on (First w) a is put = absurd (cc)
    on (Change w) a is put = absurd (cc)
