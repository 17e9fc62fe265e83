-- A commit run that ends before its first call commits nothing.
use Rattle.std.proofs.Common.{List, sym, subst, inl, inr}
use Rattle.cloud_trait.specs.Machine.{Goes, Ends, Stops}
use Rattle.commit_run.specs.Run.{new_run, run_ready}
use Rattle.session_facts.proofs.Machines.CommitRuns.Nexts.{RunStep}
use Rattle.commit_writes.specs.Writing.{Writing}
use Rattle.commit_run.proofs.Outcomes as step
use Rattle.commit_run.proofs.Outcomes.{NextRun, Leads, BeginsWith, taken, ready_leads}
use Rattle.db_base.specs.declared.trouble.CommitAnswer.{CommitAnswer}
use Rattle.db_base.specs.declared.trouble.CommitAnswer.TheVariants.{Committed, NotCommitted, InDoubt, CommittedOpen}
use Rattle.page_cache.specs.Cache.{Cache}
use Rattle.recover_run.specs.declared.home.Home.{Home}
use Rattle.txn_buffer.specs.Noted.{Noted}

-- nothing was committed
abbrev pub IsRefusal : CommitAnswer → Type 0
IsRefusal (Committed txn) = ⊥
IsRefusal (NotCommitted t) = Unit {0}
IsRefusal InDoubt = ⊥
IsRefusal (CommittedOpen t) = ⊥

-- so wherever a step ends
abbrev pub RefusesAtMost : RunStep → Type 0
RefusesAtMost (Goes m) = Unit {0}
RefusesAtMost (Ends m a) = IsRefusal a
RefusesAtMost (Stops m t) = Unit {0}

leads_refuses : (w : Writing) (x : NextRun) → Leads w x → RefusesAtMost x
leads_refuses w x (step.walks first e v k kept) = tt
leads_refuses w x (step.writes e k v kept paged starts) = tt
leads_refuses w x (step.refuses e k t kept other) = tt
leads_refuses w x (step.lacks e k kept) = tt

pub ready_refuses : (home : Home) (changes : List Noted) (c : Cache) → RefusesAtMost (run_ready (new_run home changes, c))
ready_refuses home changes c = on (ready_leads home changes c) where
  on : BeginsWith home changes c (run_ready (new_run home changes, c)) → RefusesAtMost (run_ready (new_run home changes, c))
  on (inl spent) = subst RefusesAtMost (sym spent.1) tt
  on (inr so) = leads_refuses (taken home changes).writes (run_ready (new_run home changes, c)) so.1
