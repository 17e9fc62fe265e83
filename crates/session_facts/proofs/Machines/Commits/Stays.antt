-- The writes of a commit go on with the same changes of the same client, or end for it.
use Rattle.std.proofs.Common.{◌≡◌, ℕ, List, refl, ap, length}
use Rattle.db_base.specs.declared.trouble.Trouble.TheVariants as trouble
use Rattle.cloud_facts.specs.Words.{CommitAnswer, Answer, Next, Goes, Ends, Stops}
use Rattle.head_codec.specs.declared.head.Phase.TheVariants as phase
use Rattle.txn_buffer.specs.Noted.{Noted}
use Rattle.commit_writes.specs.Writing.{Writing, writing_next}
use Rattle.commit_writes.proofs.Outcomes as written
use Rattle.commit_writes.proofs.Outcomes.{Logs, Comes as Wrote, comes as wrote_by}
use Rattle.session_facts.specs.Lines.Running.{IsWriting}

-- where a step leads it goes on with these changes of this client, or ends for it; it stops for want of memory alone
abbrev pub WritesFor : List Noted → ℕ → Next Writing CommitAnswer → Type 0
WritesFor changes client (Goes new) = (new.changes ≡ changes) × (new.home.client ≡ client) × IsWriting new
WritesFor changes client (Ends new a) = new.home.client ≡ client
WritesFor changes client (Stops new t) = t ≡ trouble.Memory

-- ---- records go to the ATOMIC queue

pub logs_for : (w : Writing) (x : Next Writing CommitAnswer) → length w.records ≡ length w.changes → Logs w x → WritesFor w.changes w.home.client x
logs_for w x as_many (written.logs r e) = (refl, refl, as_many)
logs_for w x as_many (written.opens e) = (refl, refl, ap phase.Open as_many)

-- ---- a step

writes_for : (w : Writing) (a : Answer) (x : Next Writing CommitAnswer) → IsWriting w → Wrote w a x → WritesFor w.changes w.home.client x
writes_for v a x is (written.goes_on w id next first) = logs_for (written.logged v id) x is first
writes_for v a x is (written.not_logged w y failed) = refl
writes_for v a x is (written.late w end now) = refl
writes_for v a x is (written.doubts w y failed) = refl
writes_for w a x is (written.sends n r posts e) = (refl, refl, tt)
writes_for w a x is (written.settles n posts e) = (refl, refl, refl)
writes_for w a x is (written.stays_open leaves) = refl
writes_for w a x is (written.deletes n id clears e) = (refl, refl, tt)
writes_for w a x is (written.ends n clears e) = refl
writes_for w a x is (written.lacks v under) = refl
writes_for v a x is (written.waits w y) = absurd is
writes_for v a x is (written.rests w y) = absurd is

pub writes_on : (w : Writing) (a : Answer) → IsWriting w → WritesFor w.changes w.home.client (writing_next w a)
writes_on w a is = writes_for w a (writing_next w a) is (wrote_by w a)
