-- A commit whose transaction is open: it came there by the put that commits, and it is answered as committed from there alone.
use Rattle.std.proofs.Common.{◌≡◌, ◌⊎◌, inl, inr, ℕ, Bool, true, false, List, refl, sym, subst}
use Rattle.cloud_facts.specs.Words.{Answer as Reply, CommitAnswer, Next, Goes, Ends, Stops}
use Rattle.cloud_trait.specs.declared.answer.Answer.TheVariants as heard
use Rattle.commit_run.proofs.Outcomes as step
use Rattle.commit_run.proofs.Outcomes.{NextRun, Leads, HasKept, records_of, walked_leads, ready_leads}
use Rattle.commit_run.specs.Draft.{Draft}
use Rattle.commit_run.specs.Run.{Run, home_of, new_run, run_ready, wrote, walked, next_at, run_next}
use Rattle.commit_run.specs.declared.hand.Hand.{Hand}
use Rattle.commit_run.specs.declared.hand.Hand.TheVariants.{Writes, First, Change}
use Rattle.commit_writes.proofs.Outcomes as written
use Rattle.commit_writes.proofs.Outcomes.{Logs, Posts, Clears, Comes as Wrote, comes as wrote_by, begins}
use Rattle.commit_writes.specs.Writing.{Writing, begun, writing_next}
use Rattle.commit_writes.specs.declared.stage.Stage.{Stage}
use Rattle.commit_writes.specs.declared.stage.Stage.TheVariants.{Waiting, Logging, Opening, Sending, Settling, Deleting, Finished}
use Rattle.db_base.specs.declared.trouble.CommitAnswer.TheVariants.{Committed, NotCommitted, InDoubt, CommittedOpen}
use Rattle.page_cache.specs.Cache.{Cache}
use Rattle.recover_run.specs.declared.home.Home.{Home}
use Rattle.txn_buffer.specs.Noted.{Noted}

-- ---- which commits are open

abbrev pub is_open_at : Stage → Bool
is_open_at Waiting = false
is_open_at Logging = false
is_open_at Opening = false
is_open_at Sending = true
is_open_at Settling = true
is_open_at Deleting = true
is_open_at Finished = false

abbrev pub is_open_in : Hand → Stage → Bool
is_open_in Writes stage = is_open_at stage
is_open_in (First walk) stage = false
is_open_in (Change walk) stage = false

-- the put that commits was done, and the commit goes on behind it
abbrev pub IsOpen : Run → Type 0
IsOpen r = is_open_in r.hand r.draft.writes.stage ≡ true

-- the put that commits is in hand
pub record Opens (r : Run) (a : Reply) : Type 0 where
  pub hand : r.hand ≡ Writes
  pub stage : r.draft.writes.stage ≡ Opening
  pub done : a ≡ heard.Done

-- the transaction is the same
pub record IsSame (v w : Writing) : Type 0 where
  pub changes : w.changes ≡ v.changes
  pub client : w.home.client ≡ v.home.client
  pub epoch : w.home.head.epoch ≡ v.home.head.epoch
  pub attempt : w.home.attempt ≡ v.home.attempt

-- ---- a write

-- the put that commits was done now, or before
abbrev Came : Stage → Reply → Type 0
Came stage a = ((stage ≡ Opening) × (a ≡ heard.Done)) ⊎ (is_open_at stage ≡ true)

abbrev EndsOpen : Writing → CommitAnswer → Type 0
EndsOpen v (Committed txn) = (is_open_at v.stage ≡ true) × (txn ≡ v.home.attempt)
EndsOpen v (CommittedOpen t) = is_open_at v.stage ≡ true
EndsOpen v (NotCommitted t) = Unit {0}
EndsOpen v InDoubt = Unit {0}

-- where a write leads the transaction is open only if it came so
abbrev Writ : Writing → Reply → Next Writing CommitAnswer → Type 0
Writ v a (Goes w) = is_open_at w.stage ≡ true → IsSame v w × Came v.stage a
Writ v a (Ends w k) = EndsOpen v k
Writ v a (Stops w t) = Unit {0}

posted : (v : Writing) (a : Reply) (n : ℕ) → Posts v a n → Came v.stage a
posted v a n (written.opened w) = inl (refl, refl)
posted v a n (written.one_sent w id) = inr refl

cleared : (v : Writing) (a : Reply) (n : ℕ) → Clears v a n → is_open_at v.stage ≡ true
cleared v a n (written.settled w) = refl
cleared v a n (written.one_tried w x found) = refl

again : (w : Writing) → IsSame w w
again w = record { changes = refl; client = refl; epoch = refl; attempt = refl }

writ : (v : Writing) (a : Reply) (x : Next Writing CommitAnswer) → Wrote v a x → Writ v a x
writ v a x (written.goes_on w id next (written.logs r e)) = λ never. absurd (cc (never))
writ v a x (written.goes_on w id next (written.opens e)) = λ never. absurd (cc (never))
writ v a x (written.not_logged w y failed) = tt
writ v a x (written.late w end now) = tt
writ v a x (written.doubts w y failed) = tt
writ v a x (written.sends n r posts e) = λ so. (record { changes = refl; client = refl; epoch = refl; attempt = refl }, posted v a n posts)
writ v a x (written.settles n posts e) = λ so. (record { changes = refl; client = refl; epoch = refl; attempt = refl }, posted v a n posts)
writ v a x (written.stays_open (written.not_sent w y failed)) = refl
writ v a x (written.stays_open (written.not_settled w y failed)) = refl
writ v a x (written.deletes n id clears e) = λ so. (record { changes = refl; client = refl; epoch = refl; attempt = refl }, inr (cleared v a n clears))
writ v a x (written.ends n clears e) = (cleared v a n clears, refl)
writ v a x (written.lacks w under) = tt
writ v a x (written.waits w y) = tt
writ v a x (written.rests w y) = tt

-- ---- a run

-- so it is of a run; while it walks nothing is open
abbrev pub EndsRun : Run → CommitAnswer → Type 0
EndsRun r (Committed txn) = IsOpen r × (txn ≡ (home_of r).attempt)
EndsRun r (CommittedOpen t) = IsOpen r
EndsRun r (NotCommitted t) = Unit {0}
EndsRun r InDoubt = Unit {0}

abbrev pub Ran : Run → Reply → Next (Run × Cache) CommitAnswer → Type 0
Ran r a (Goes m) = IsOpen m.0 → IsSame r.draft.writes m.0.draft.writes × (Opens r a ⊎ IsOpen r)
Ran r a (Ends m k) = EndsRun r k
Ran r a (Stops m t) = Unit {0}

-- the first write opens nothing
abbrev Early : Next Writing CommitAnswer → Type 0
Early (Goes w) = is_open_at w.stage ≡ false
Early (Ends w k) = Unit {0}
Early (Stops w t) = Unit {0}

early : (w : Writing) (x : Next Writing CommitAnswer) → Logs w x → Early x
early w x (written.logs r e) = refl
early w x (written.opens e) = refl

not_open : (w : Writing) (x : Next Writing CommitAnswer) (v : Writing) → Logs w x → x ≡ Goes v → is_open_at v.stage ≡ false
not_open w x v l is = subst Early is (early w x l)

-- local work opens nothing, and ends with no more than a refusal
abbrev Walked : NextRun → Type 0
Walked (Goes m) = IsOpen m.0 → ⊥
Walked (Ends m k) = (r : Run) → EndsRun r k
Walked (Stops m t) = Unit {0}

led : (w : Writing) (x : NextRun) → Leads w x → Walked x
led w x (step.walks true e v k kept) = λ so. absurd (cc (so))
led w x (step.walks false e v k kept) = λ so. absurd (cc (so))
led w x (step.writes e k v kept paged starts) = λ so. false_true (not_open _ (begun e.writes (records_of e)) v (begins e.writes (records_of e)) starts) so
  where
    false_true : is_open_at v.stage ≡ false → is_open_at v.stage ≡ true → ⊥
    false_true one two = cc
led w x (step.refuses e k t kept other) = λ r. tt
led w x (step.lacks e k kept) = tt

walked_ran : (r : Run) (a : Reply) (x : NextRun) → Walked x → Ran r a x
walked_ran r a (Goes m) none = λ so. absurd (none so)
walked_ran r a (Ends m k) none = none r
walked_ran r a (Stops m t) none = tt

wrote_ran : (d : Draft) (c : Cache) (a : Reply) (x : Next Writing CommitAnswer) → Writ d.writes a x → Ran (record { draft = d; hand = Writes }) a (wrote d c x)
wrote_ran d c a (Goes w) k = λ so. ((k so).0, on (k so).1)
  where
    on : Came d.writes.stage a → Opens (record { draft = d; hand = Writes }) a ⊎ IsOpen (record { draft = d; hand = Writes })
    on (inl (stage, done)) = inl (record { hand = refl; stage = stage; done = done })
    on (inr so) = inr so
wrote_ran d c a (Ends w (Committed txn)) k = k
wrote_ran d c a (Ends w (CommittedOpen t)) k = k
wrote_ran d c a (Ends w (NotCommitted t)) k = tt
wrote_ran d c a (Ends w InDoubt) k = tt
wrote_ran d c a (Stops w t) k = tt

hand_ran : (hand : Hand) (d : Draft) (c : Cache) (a : Reply) → Ran (record { draft = d; hand = hand }) a (next_at hand d c a)
hand_ran Writes d c a = wrote_ran d c a (writing_next d.writes a) (writ d.writes a (writing_next d.writes a) (wrote_by d.writes a))
hand_ran (First w) d c a = walked_ran (record { draft = d; hand = First w }) a (walked true d w c a) (led d.writes (walked true d w c a) (walked_leads d true w c a))
hand_ran (Change w) d c a = walked_ran (record { draft = d; hand = Change w }) a (walked false d w c a) (led d.writes (walked false d w c a) (walked_leads d false w c a))

pub ran : (r : Run) (c : Cache) (a : Reply) → Ran r a (run_next (r, c) a)
ran r c a = hand_ran r.hand r.draft c a

-- a commit begins with nothing open
pub begins_walked : (home : Home) (changes : List Noted) (c : Cache) (m : Run × Cache) → run_ready (new_run home changes, c) ≡ Goes m → IsOpen m.0 → ⊥
begins_walked home changes c m is = subst Walked is (on (ready_leads home changes c))
  where
    on : step.BeginsWith home changes c (run_ready (new_run home changes, c)) → Walked (run_ready (new_run home changes, c))
    on (inl spent) = subst Walked (sym spent.1) (λ r. tt)
    on (inr so) = led (step.taken home changes).writes (run_ready (new_run home changes, c)) so.1
