-- A commit is of its home's epoch and of the number that it took, from its begin to its end.
use Rattle.std.proofs.Common.{◌≡◌, ◌+◌, ◌≤◌, ℕ, List, refl, sym, subst, ◌∙◌, inl, inr, true, false, arith}
use Rattle.cloud_facts.specs.Words.{CommitAnswer, Answer, Next, Goes, Ends, Stops}
use Rattle.commit_writes.specs.Writing.{Writing, begun, writing_next}
use Rattle.commit_run.specs.declared.hand.Hand.{Hand}
use Rattle.commit_run.specs.declared.hand.Hand.TheVariants.{Writes, First, Change}
use Rattle.commit_run.specs.Draft.{Draft}
use Rattle.commit_run.specs.Run.{Run, new_run, home_of, wrote, walked, run_ready, next_at, run_next}
use Rattle.commit_run.proofs.Outcomes as step
use Rattle.commit_run.proofs.Outcomes.{NextRun, Leads, BeginsWith, records_of, taken, walked_leads, ready_leads}
use Rattle.commit_writes.proofs.Outcomes as written
use Rattle.commit_writes.proofs.Outcomes.{Logs, Comes as Wrote, begins, comes as wrote_by}
use Rattle.db_base.specs.declared.trouble.CommitAnswer.TheVariants.{Committed}
use Rattle.page_cache.specs.Cache.{Cache}
use Rattle.recover_run.specs.declared.home.Home.{Home}
use Rattle.txn_buffer.specs.Noted.{Noted}

module _ (epoch number : ℕ) where
  -- a home of the epoch whose last number is this
  record IsAt (home : Home) : Type 0 where
    epoch_is : home.head.epoch ≡ epoch
    number_is : home.attempt ≡ number

  -- the answer that it committed tells the number
  abbrev pub TellsNumber : CommitAnswer → Type 0
  TellsNumber (Committed txn) = txn ≡ number
  TellsNumber a = Unit {0}

  -- where a step leads it goes on so, or ends so
  abbrev pub WritesAt : Next Writing CommitAnswer → Type 0
  WritesAt (Goes w) = (w.home.head.epoch ≡ epoch) × (w.home.attempt ≡ number)
  WritesAt (Ends w a) = (w.home.head.epoch ≡ epoch) × (w.home.attempt ≡ number) × TellsNumber a
  WritesAt (Stops w t) = Unit {0}

  abbrev pub RunsAt : Next (Run × Cache) CommitAnswer → Type 0
  RunsAt (Goes m) = ((home_of m.0).head.epoch ≡ epoch) × ((home_of m.0).attempt ≡ number)
  RunsAt (Ends m a) = ((home_of m.0).head.epoch ≡ epoch) × ((home_of m.0).attempt ≡ number) × TellsNumber a
  RunsAt (Stops m t) = Unit {0}

  -- ---- writes

  logs_at : (w : Writing) (x : Next Writing CommitAnswer) → IsAt w.home → Logs w x → WritesAt x
  logs_at w x f (written.logs r e) = (f.epoch_is, f.number_is)
  logs_at w x f (written.opens e) = (f.epoch_is, f.number_is)

  writes_on : (w : Writing) (a : Answer) (x : Next Writing CommitAnswer) → IsAt w.home → Wrote w a x → WritesAt x
  writes_on v a x f (written.goes_on w id next first) = logs_at (written.logged v id) x f first
  writes_on v a x f (written.not_logged w y failed) = (f.epoch_is, f.number_is, tt)
  writes_on v a x f (written.late w end now) = (f.epoch_is, f.number_is, tt)
  writes_on v a x f (written.doubts w y failed) = (f.epoch_is, f.number_is, tt)
  writes_on w a x f (written.sends n r posts at) = (f.epoch_is, f.number_is)
  writes_on w a x f (written.settles n posts at) = (f.epoch_is, f.number_is)
  writes_on w a x f (written.stays_open leaves) = (f.epoch_is, f.number_is, tt)
  writes_on w a x f (written.deletes n id clears at) = (f.epoch_is, f.number_is)
  writes_on w a x f (written.ends n clears at) = (f.epoch_is, f.number_is, f.number_is)
  writes_on w a x f (written.lacks v under) = tt
  writes_on v a x f (written.waits w y) = tt
  writes_on v a x f (written.rests w y) = tt

  wrote_at : (d : Draft) (c : Cache) (n : Next Writing CommitAnswer) → WritesAt n → RunsAt (wrote d c n)
  wrote_at d c (Goes w) k = k
  wrote_at d c (Ends w a) k = k
  wrote_at d c (Stops w t) k = k

  -- ---- before the first write

  leads : (w : Writing) (x : NextRun) → IsAt w.home → Leads w x → RunsAt x
  leads w x f (step.walks first e v k kept) = (kept.epoch ∙ f.epoch_is, kept.attempt ∙ f.number_is)
  leads w x f (step.writes e k v kept paged starts) =
      let so : IsAt e.writes.home = record { epoch_is = kept.epoch ∙ f.epoch_is; number_is = kept.attempt ∙ f.number_is } in
      subst WritesAt starts (logs_at (record e.writes { records = records_of e; place = 0 }) (begun e.writes (records_of e)) so (begins e.writes (records_of e)))
  leads w x f (step.refuses e k t kept other) = (kept.epoch ∙ f.epoch_is, kept.attempt ∙ f.number_is, tt)
  leads w x f (step.lacks e k kept) = tt

  -- ---- turns

  turns_on : (hand : Hand) (d : Draft) (c : Cache) (a : Answer) → IsAt d.writes.home → RunsAt (next_at hand d c a)
  turns_on Writes d c a f = wrote_at d c (writing_next d.writes a) (writes_on d.writes a (writing_next d.writes a) f (wrote_by d.writes a))
  turns_on (First w) d c a f = leads d.writes (walked true d w c a) f (walked_leads d true w c a)
  turns_on (Change w) d c a f = leads d.writes (walked false d w c a) f (walked_leads d false w c a)

-- a commit that begins takes the next number
abbrev pub BeginsAt : ℕ → ℕ → Next (Run × Cache) CommitAnswer → Type 0
BeginsAt epoch number (Goes m) = RunsAt epoch number (Goes m)
BeginsAt epoch number next = Unit {0}

goes_so : (epoch number : ℕ) (next : Next (Run × Cache) CommitAnswer) → RunsAt epoch number next → BeginsAt epoch number next
goes_so epoch number (Goes m) h = h
goes_so epoch number (Ends m a) h = tt
goes_so epoch number (Stops m t) h = tt

pub run_begins_at : (home : Home) (changes : List Noted) (c : Cache) → BeginsAt home.head.epoch (home.attempt + 1) (run_ready (new_run home changes, c))
run_begins_at home changes c = on (ready_leads home changes c) where
  on : BeginsWith home changes c (run_ready (new_run home changes, c)) → BeginsAt home.head.epoch (home.attempt + 1) (run_ready (new_run home changes, c))
  on (inl spent) = subst (BeginsAt home.head.epoch (home.attempt + 1)) (sym spent.1) tt
  on (inr so) =
      goes_so home.head.epoch (home.attempt + 1) _
      (leads home.head.epoch (home.attempt + 1) (taken home changes).writes (run_ready (new_run home changes, c)) (record { epoch_is = refl; number_is = refl }) so.1)

-- and keeps it
pub run_goes_at : (m : Run × Cache) (a : Answer) → RunsAt (home_of m.0).head.epoch (home_of m.0).attempt (run_next m a)
run_goes_at m a = turns_on (home_of m.0).head.epoch (home_of m.0).attempt m.0.hand m.0.draft m.1 a (record { epoch_is = refl; number_is = refl })

-- a commit that is answered at its begin has taken that number at most
abbrev EndsWithin : ℕ → Next (Run × Cache) CommitAnswer → Type 0
EndsWithin number (Ends m a) = (home_of m.0).attempt ≤ number
EndsWithin number next = Unit {0}

within_so : (epoch number : ℕ) (next : Next (Run × Cache) CommitAnswer) → RunsAt epoch number next → EndsWithin number next
within_so epoch number (Goes m) h = tt
within_so epoch number (Ends m a) h = let is = h.1 in omega (arith, is)
within_so epoch number (Stops m t) h = tt

pub run_ends_within : (home : Home) (changes : List Noted) (c : Cache) (n : Run × Cache) (a : CommitAnswer) → run_ready (new_run home changes, c) ≡ Ends n a → (home_of n.0).attempt ≤ home.attempt + 1
run_ends_within home changes c n a e = subst (EndsWithin (home.attempt + 1)) e (on (ready_leads home changes c)) where
  on : BeginsWith home changes c (run_ready (new_run home changes, c)) → EndsWithin (home.attempt + 1) (run_ready (new_run home changes, c))
  on (inl spent) = subst (EndsWithin (home.attempt + 1)) (sym spent.1) (omega arith)
  on (inr so) =
      within_so home.head.epoch (home.attempt + 1) _
      (leads home.head.epoch (home.attempt + 1) (taken home changes).writes (run_ready (new_run home changes, c)) (record { epoch_is = refl; number_is = refl }) so.1)
