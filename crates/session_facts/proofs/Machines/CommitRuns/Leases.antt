-- A commit run never changes its home's lease.
use Rattle.std.proofs.Common.{◌≡◌, List, refl, sym, subst, ◌∙◌, inl, inr, true, false}
use Rattle.cloud_facts.specs.Words.{CommitAnswer, Answer, Claim, Next, Goes, Ends, Stops}
use Rattle.session_facts.proofs.Machines.Commits.Leases.{LeaseStays, logs_lease, next_lease}
use Rattle.commit_run.specs.declared.hand.Hand.{Hand}
use Rattle.commit_run.specs.declared.hand.Hand.TheVariants.{Writes, First, Change}
use Rattle.commit_run.specs.Draft.{Draft}
use Rattle.commit_run.specs.Run.{Run, new_run, home_of, next_at, wrote, walked, run_ready, run_next}
use Rattle.commit_writes.proofs.Outcomes.{begins}
use Rattle.commit_writes.specs.Writing.{Writing, begun, writing_next}
use Rattle.commit_run.proofs.Outcomes as step
use Rattle.commit_run.proofs.Outcomes.{NextRun, Leads, BeginsWith, records_of, taken, walked_leads, ready_leads}
use Rattle.page_cache.specs.Cache.{Cache}
use Rattle.recover_run.specs.declared.home.Home.{Home}
use Rattle.txn_buffer.specs.Noted.{Noted}

-- the home's lease is this one where a step leads
abbrev pub RunLeaseStays : Claim → Next (Run × Cache) CommitAnswer → Type 0
RunLeaseStays l (Goes m) = (home_of m.0).lease ≡ l
RunLeaseStays l (Ends m a) = (home_of m.0).lease ≡ l
RunLeaseStays l (Stops m t) = (home_of m.0).lease ≡ l

wrote_lease : (l : Claim) (d : Draft) (c : Cache) (n : Next Writing CommitAnswer) → LeaseStays l n → RunLeaseStays l (wrote d c n)
wrote_lease l d c (Goes w) h = h
wrote_lease l d c (Ends w a) h = h
wrote_lease l d c (Stops w t) h = h

leads_lease : (l : Claim) (w : Writing) (x : NextRun) → w.home.lease ≡ l → Leads w x → RunLeaseStays l x
leads_lease l w x e (step.walks first d v k kept) = kept.lease ∙ e
leads_lease l w x e (step.writes d k v kept paged starts) = subst (LeaseStays d.writes.home.lease) starts (logs_lease (record d.writes { records = records_of d; place = 0 }) (begun d.writes (records_of d)) (begins d.writes (records_of d))) ∙ (kept.lease ∙ e)
leads_lease l w x e (step.refuses d k t kept other) = kept.lease ∙ e
leads_lease l w x e (step.lacks d k kept) = kept.lease ∙ e

-- ---- the whole

pub run_lease : (m : Run × Cache) (reply : Answer) → RunLeaseStays (home_of m.0).lease (run_next m reply)
run_lease m reply = on m.0.hand
  where
    on : (hand : Hand) → RunLeaseStays (home_of m.0).lease (next_at hand m.0.draft m.1 reply)
    on Writes = wrote_lease (home_of m.0).lease m.0.draft m.1 (writing_next m.0.draft.writes reply) (next_lease m.0.draft.writes reply)
    on (First w) = leads_lease (home_of m.0).lease m.0.draft.writes (walked true m.0.draft w m.1 reply) refl (walked_leads m.0.draft true w m.1 reply)
    on (Change w) = leads_lease (home_of m.0).lease m.0.draft.writes (walked false m.0.draft w m.1 reply) refl (walked_leads m.0.draft false w m.1 reply)

-- also where it begins
pub ready_lease : (home : Home) (changes : List Noted) (c : Cache) → RunLeaseStays home.lease (run_ready (new_run home changes, c))
ready_lease home changes c = on (ready_leads home changes c) where
  on : BeginsWith home changes c (run_ready (new_run home changes, c)) → RunLeaseStays home.lease (run_ready (new_run home changes, c))
  on (inl spent) = subst (RunLeaseStays home.lease) (sym spent.1) refl
  on (inr so) = leads_lease home.lease (taken home changes).writes (run_ready (new_run home changes, c)) refl so.1
