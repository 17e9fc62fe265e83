-- A commit goes on in its epoch and never comes back to a transaction that it may have opened.
use Rattle.std.proofs.Common.{◌≡◌, ◌≤◌, ◌+◌, ℕ, List, refl, sym, subst, ◌∙◌, inl, inr, true, false, arith}
use Rattle.cloud_facts.specs.Words.{CommitAnswer, Answer, Next, Goes, Ends, Stops}
use Rattle.commit_writes.specs.declared.stage.Stage.{Stage}
use Rattle.commit_writes.specs.declared.stage.Stage.TheVariants.{Waiting, Logging, Opening, Sending, Settling, Deleting, Finished}
use Rattle.commit_writes.specs.Writing.{Writing, begun, writing_next}
use Rattle.commit_run.specs.declared.hand.Hand.{Hand}
use Rattle.commit_run.specs.declared.hand.Hand.TheVariants.{Writes, First, Change}
use Rattle.commit_run.specs.Draft.{Draft}
use Rattle.commit_run.specs.Run.{Run, new_run, home_of, wrote, walked, run_ready, next_at, run_next}
use Rattle.commit_run.proofs.Outcomes as step
use Rattle.commit_run.proofs.Outcomes.{NextRun, Leads, BeginsWith, records_of, taken, walked_leads, ready_leads}
use Rattle.commit_writes.proofs.Outcomes as written
use Rattle.commit_writes.proofs.Outcomes.{Logs, Comes as Wrote, begins, comes as wrote_by}
use Rattle.page_cache.specs.Cache.{Cache}
use Rattle.recover_run.specs.declared.home.Home.{Home}
use Rattle.txn_buffer.specs.Noted.{Noted}
use Rattle.session_facts.specs.Rows.Opened.{first_at, first_of, later_at, later_of, TakesAt, TakesIn}

module _ (epoch bound : ℕ) where
  -- a home of the epoch whose last number is not below the bound
  record IsFrom (home : Home) : Type 0 where
    epoch_is : home.head.epoch ≡ epoch
    from : bound ≤ home.attempt

  -- where a step leads it goes on in the epoch and opens nothing below the bound, or ends so
  abbrev pub WritesFrom : Next Writing CommitAnswer → Type 0
  WritesFrom (Goes w) = (w.home.head.epoch ≡ epoch) × (bound ≤ first_at w.stage w) × TakesAt w.stage w
  WritesFrom (Ends w a) = (w.home.head.epoch ≡ epoch) × (bound ≤ w.home.attempt + 1)
  WritesFrom (Stops w t) = Unit {0}

  abbrev pub RunsFrom : Next (Run × Cache) CommitAnswer → Type 0
  RunsFrom (Goes m) = ((home_of m.0).head.epoch ≡ epoch) × (bound ≤ first_of m.0) × TakesIn m.0.hand m.0.draft.writes
  RunsFrom (Ends m a) = ((home_of m.0).head.epoch ≡ epoch) × (bound ≤ (home_of m.0).attempt + 1)
  RunsFrom (Stops m t) = Unit {0}

  -- ---- writes

  logs_from : (w : Writing) (x : Next Writing CommitAnswer) → IsFrom w.home → Logs w x → WritesFrom x
  logs_from w x f (written.logs r e) = (f.epoch_is, f.from, tt)
  logs_from w x f (written.opens e) = (f.epoch_is, f.from, refl)

  later_most : (stage : Stage) (w : Writing) → later_at stage w ≤ w.home.attempt + 1
  later_most Waiting w = omega arith
  later_most Logging w = omega arith
  later_most Opening w = omega arith
  later_most Sending w = omega arith
  later_most Settling w = omega arith
  later_most Deleting w = omega arith
  later_most Finished w = omega arith

  writes_on : (w : Writing) (a : Answer) (x : Next Writing CommitAnswer) → w.home.head.epoch ≡ epoch → bound ≤ later_at w.stage w → bound ≤ w.home.attempt + 1 → Wrote w a x → WritesFrom x
  writes_on v a x e b upto (written.goes_on w id next first) = logs_from (written.logged v id) x (record { epoch_is = e; from = b }) first
  writes_on v a x e b upto (written.not_logged w y failed) = (e, upto)
  writes_on v a x e b upto (written.late w end now) = (e, upto)
  writes_on v a x e b upto (written.doubts w y failed) = (e, upto)
  writes_on w a x e b upto (written.sends n r posts at) = (e, upto, tt)
  writes_on w a x e b upto (written.settles n posts at) = (e, upto, tt)
  writes_on w a x e b upto (written.stays_open leaves) = (e, upto)
  writes_on w a x e b upto (written.deletes n id clears at) = (e, upto, tt)
  writes_on w a x e b upto (written.ends n clears at) = (e, upto)
  writes_on w a x e b upto (written.lacks v under) = tt
  writes_on v a x e b upto (written.waits w y) = tt
  writes_on v a x e b upto (written.rests w y) = tt

  wrote_from : (d : Draft) (c : Cache) (n : Next Writing CommitAnswer) → WritesFrom n → RunsFrom (wrote d c n)
  wrote_from d c (Goes w) k = k
  wrote_from d c (Ends w a) k = k
  wrote_from d c (Stops w t) k = k

  -- ---- before the first write

  leads : (w : Writing) (x : NextRun) → IsFrom w.home → Leads w x → RunsFrom x
  leads w x f (step.walks true e v k kept) = (kept.epoch ∙ f.epoch_is, omega (arith, f.from, kept.attempt), tt)
  leads w x f (step.walks false e v k kept) = (kept.epoch ∙ f.epoch_is, omega (arith, f.from, kept.attempt), tt)
  leads w x f (step.writes e k v kept paged starts) =
      let so : IsFrom e.writes.home = record { epoch_is = kept.epoch ∙ f.epoch_is; from = omega (arith, f.from, kept.attempt) } in
      subst WritesFrom starts (logs_from (record e.writes { records = records_of e; place = 0 }) (begun e.writes (records_of e)) so (begins e.writes (records_of e)))
  leads w x f (step.refuses e k t kept other) = (kept.epoch ∙ f.epoch_is, omega (arith, f.from, kept.attempt))
  leads w x f (step.lacks e k kept) = tt

  -- ---- turns

  turns_on : (hand : Hand) (d : Draft) (c : Cache) (a : Answer) → d.writes.home.head.epoch ≡ epoch → bound ≤ later_of (record { draft = d; hand = hand }) → RunsFrom (next_at hand d c a)
  turns_on Writes d c a e b = wrote_from d c (writing_next d.writes a) (writes_on d.writes a (writing_next d.writes a) e b (omega (arith, b, later_most d.writes.stage d.writes)) (wrote_by d.writes a))
  turns_on (First w) d c a e b = leads d.writes (walked true d w c a) (record { epoch_is = e; from = b }) (walked_leads d true w c a)
  turns_on (Change w) d c a e b = leads d.writes (walked false d w c a) (record { epoch_is = e; from = b }) (walked_leads d false w c a)

-- a commit that begins takes a number above the last
pub run_begins_from : (home : Home) (changes : List Noted) (c : Cache) → RunsFrom home.head.epoch (home.attempt + 1) (run_ready (new_run home changes, c))
run_begins_from home changes c = on (ready_leads home changes c) where
  on : BeginsWith home changes c (run_ready (new_run home changes, c)) → RunsFrom home.head.epoch (home.attempt + 1) (run_ready (new_run home changes, c))
  on (inl spent) = subst (RunsFrom home.head.epoch (home.attempt + 1)) (sym spent.1) (refl, omega arith)
  on (inr so) = leads home.head.epoch (home.attempt + 1) (taken home changes).writes (run_ready (new_run home changes, c)) (record { epoch_is = refl; from = omega arith }) so.1

-- a turn goes on from there, with what its call may have opened
pub run_goes_from : (m : Run × Cache) (a : Answer) → RunsFrom (home_of m.0).head.epoch (later_of m.0) (run_next m a)
run_goes_from m a = turns_on (home_of m.0).head.epoch (later_of m.0) m.0.hand m.0.draft m.1 a refl (omega arith)
