-- A commit never changes its home's lease.
use Rattle.std.proofs.Common.{◌≡◌, refl}
use Rattle.cloud_facts.specs.Words.{CommitAnswer, Answer, Claim, Next, Goes, Ends, Stops}
use Rattle.commit_writes.specs.Writing.{Writing, writing_next}
use Rattle.commit_writes.proofs.Outcomes as written
use Rattle.commit_writes.proofs.Outcomes.{Logs, Comes as Wrote, comes as wrote_by}

-- the home's lease is this one where a step leads
abbrev pub LeaseStays : Claim → Next Writing CommitAnswer → Type 0
LeaseStays l (Goes n) = n.home.lease ≡ l
LeaseStays l (Ends n a) = n.home.lease ≡ l
LeaseStays l (Stops n t) = n.home.lease ≡ l

pub logs_lease : (w : Writing) (x : Next Writing CommitAnswer) → Logs w x → LeaseStays w.home.lease x
logs_lease w x (written.logs r e) = refl
logs_lease w x (written.opens e) = refl

-- by each call
wrote_stays : (w : Writing) (a : Answer) (x : Next Writing CommitAnswer) → Wrote w a x → LeaseStays w.home.lease x
wrote_stays v a x (written.goes_on w id next first) = logs_lease (written.logged v id) x first
wrote_stays v a x (written.not_logged w y failed) = refl
wrote_stays v a x (written.late w end now) = refl
wrote_stays v a x (written.doubts w y failed) = refl
wrote_stays w a x (written.sends n r posts e) = refl
wrote_stays w a x (written.settles n posts e) = refl
wrote_stays w a x (written.stays_open leaves) = refl
wrote_stays w a x (written.deletes n id clears e) = refl
wrote_stays w a x (written.ends n clears e) = refl
wrote_stays w a x (written.lacks v under) = refl
wrote_stays v a x (written.waits w y) = refl
wrote_stays v a x (written.rests w y) = refl

pub next_lease : (w : Writing) (reply : Answer) → LeaseStays w.home.lease (writing_next w reply)
next_lease w reply = wrote_stays w reply (writing_next w reply) (wrote_by w reply)
