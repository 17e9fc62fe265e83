-- What a step of a commit's writes comes to, whatever branches led there.
use Rattle.std.proofs.Common.{◌≡◌, ◌≢◌, ◌+◌, ℕ, List, [], ◌∷◌, ◌++◌, Option, Some, None, Result, Err, refl, subst, inl, inr}
use Rattle.std.specs.Prelude.{slice_get}
use Rattle.db_base.specs.declared.names.ObjName.{ObjName}
use Rattle.db_base.specs.declared.names.QueueName.{QueueName}
use Rattle.commit_writes.proofs.Words.{Delete, PutHeld, Ends, Stops, trouble_of, Fits, Answer, Stage, Deleting, Finished, Logging, Opening, Sending, Settling, Waiting, CommitAnswer, Committed, Trouble, AtomicRec}
use Rattle.db_base.specs.declared.trouble.Trouble.TheVariants as trouble
use Rattle.db_base.specs.declared.trouble.CommitAnswer.TheVariants.{InDoubt}
use Rattle.cloud_trait.specs.declared.answer.Answer.TheVariants as call
use Rattle.cloud_trait.specs.Ask.{Send}
use Rattle.cloud_trait.specs.Claim.{Claim}
use Rattle.cloud_trait.specs.Machine.{Next}
use Rattle.cloud_trait.specs.Views.{sent_of, done_of}
use Rattle.commit_writes.specs.Meaning.{WasTried, Refuses}
use Rattle.commit_writes.specs.Writing.{Writing, finished, not_committed, left_open, closed_again, log_or_open, begun, send_or_settle, send_at, delete_or_end, delete_at, logged_by, opened_by, sent_by, settled_by, deleted_by, next_at, writing_next}

abbrev pub Step : Type 0
Step = Next Writing CommitAnswer

-- ---- local work between the call and where the step ends

abbrev pub at : Writing → Stage → Writing
at w stage = record w { stage = stage }

-- one record more is in the ATOMIC queue, by the id of its message
abbrev pub logged : Writing → ℕ → Writing
logged w id = record w { ids = w.ids ++ id ∷ []; place = w.place + 1 }

abbrev pub placed : Writing → ℕ → Writing
placed w n = record w { place = n }

-- the call brought nothing, and not for want of memory
pub record Fails {X : Type 0} (view : Answer → Result X Trouble) (a : Answer) : Type 0 where
  pub shows : view a ≡ Err (trouble_of a)
  pub found : a ≢ call.Memory

-- The next record goes to the ATOMIC queue, or all are there and the head that commits is put.
pub data Logs (w : Writing) : Step → Type 0 where
  logs : (r : AtomicRec) → slice_get w.records w.place ≡ Some r → Logs w (log_or_open w (Some r))
  opens : slice_get w.records w.place ≡ None → Logs w (log_or_open w None)

-- So many records are in their pending update queues: none once the head that commits landed, or one more.
pub data Posts : Writing → Answer → ℕ → Type 0 where
  opened : (w : Writing) → Posts (at w Opening) call.Done 0
  one_sent : (w : Writing) (id : ℕ) → Posts (at w Sending) (call.Sent id) (w.place + 1)

-- The deletions of so many ATOMIC messages were tried: of none once the head that settles landed, or of one more.
pub data Clears : Writing → Answer → ℕ → Type 0 where
  settled : (w : Writing) → Clears (at w Settling) call.Done 0
  one_tried : (w : Writing) (a : Answer) → a ≢ call.Memory → Clears (at w Deleting) a (w.place + 1)

-- A call behind the put that commits did not do it.
pub data Leaves : Writing → Answer → Type 0 where
  not_sent : (w : Writing) (a : Answer) → Fails sent_of a → Leaves (at w Sending) a
  not_settled : (w : Writing) (a : Answer) → Fails done_of a → Leaves (at w Settling) a

-- ---- where it ends

-- a call is in hand
abbrev pub IsUnderWay : Stage → Type 0
IsUnderWay Waiting = ⊥
IsUnderWay Finished = ⊥
IsUnderWay stage = Unit {0}

pub data Comes : Writing → Answer → Step → Type 0 where
  goes_on : (w : Writing) (id : ℕ) (next : Step) → Logs (logged (at w Logging) id) next → Comes (at w Logging) (call.Sent id) next
  not_logged : (w : Writing) (a : Answer) → Fails sent_of a → Comes (at w Logging) a (not_committed w (trouble_of a))
  late : (w : Writing) (end now : ℕ) → Comes (at w Opening) (call.Late end now) (not_committed (closed_again w) (trouble.Late end now))
  doubts : (w : Writing) (a : Answer) → done_of a ≡ Err trouble.Failed → Comes (at w Opening) a (Ends (finished w) InDoubt)
  sends : {w : Writing} {a : Answer} (n : ℕ) (r : AtomicRec) → Posts w a n → slice_get w.records n ≡ Some r → Comes w a (send_or_settle (placed w n) (Some r))
  settles : {w : Writing} {a : Answer} (n : ℕ) → Posts w a n → slice_get w.records n ≡ None → Comes w a (send_or_settle (placed w n) None)
  stays_open : {w : Writing} {a : Answer} → Leaves w a → Comes w a (left_open w (trouble_of a))
  deletes : {w : Writing} {a : Answer} (n id : ℕ) → Clears w a n → slice_get w.ids n ≡ Some id → Comes w a (delete_or_end (placed w n) (Some id))
  ends : {w : Writing} {a : Answer} (n : ℕ) → Clears w a n → slice_get w.ids n ≡ None → Comes w a (Ends (finished (placed w n)) (Committed w.home.attempt))
  lacks : (w : Writing) → IsUnderWay w.stage → Comes w call.Memory (Stops w trouble.Memory)
  waits : (w : Writing) (a : Answer) → Comes (at w Waiting) a (Stops (at w Waiting) trouble.Failed)
  rests : (w : Writing) (a : Answer) → Comes (at w Finished) a (Stops (at w Finished) trouble.Failed)

-- ---- a step, taken apart

logs_next : (w : Writing) (o : Option AtomicRec) → slice_get w.records w.place ≡ o → Logs w (log_or_open w o)
logs_next w (Some r) e = logs r e
logs_next w None e = opens e

-- .. and a begin
pub begins : (w : Writing) (records : List AtomicRec) → Logs (record w { records = records; place = 0 }) (begun w records)
begins w records = logs_next (record w { records = records; place = 0 }) (slice_get records 0) refl

posts_next : {w : Writing} {a : Answer} (n : ℕ) → Posts w a n → Comes w a (send_at w n)
posts_next {w = w} {a = a} n p = on (slice_get w.records n) refl where
  on : (o : Option AtomicRec) → slice_get w.records n ≡ o → Comes w a (send_or_settle (placed w n) o)
  on (Some r) e = sends n r p e
  on None e = settles n p e

clears_next : {w : Writing} {a : Answer} (n : ℕ) → Clears w a n → Comes w a (delete_at w n)
clears_next {w = w} {a = a} n c = on (slice_get w.ids n) refl where
  on : (o : Option ℕ) → slice_get w.ids n ≡ o → Comes w a (delete_or_end (placed w n) o)
  on (Some id) e = deletes n id c e
  on None e = ends n c e

logged_comes : (w : Writing) (a : Answer) → Comes (at w Logging) a (logged_by (at w Logging) (sent_of a))
logged_comes w (call.Sent id) = goes_on w id _ (logs_next (logged (at w Logging) id) (slice_get w.records (w.place + 1)) refl)
logged_comes w call.Memory = lacks (at w Logging) tt
logged_comes w a = not_logged w a (record { shows = refl; found = λ memory. cc })

opened_comes : (w : Writing) (a : Answer) → Comes (at w Opening) a (opened_by (at w Opening) (done_of a))
opened_comes w call.Done = posts_next 0 (opened w)
opened_comes w (call.Late end now) = late w end now
opened_comes w call.Memory = lacks (at w Opening) tt
opened_comes w a = doubts w a refl

sent_comes : (w : Writing) (a : Answer) → Comes (at w Sending) a (sent_by (at w Sending) (sent_of a))
sent_comes w (call.Sent id) = posts_next (w.place + 1) (one_sent w id)
sent_comes w call.Memory = lacks (at w Sending) tt
sent_comes w a = stays_open (not_sent w a (record { shows = refl; found = λ memory. cc }))

settled_comes : (w : Writing) (a : Answer) → Comes (at w Settling) a (settled_by (at w Settling) (done_of a))
settled_comes w call.Done = clears_next 0 (settled w)
settled_comes w call.Memory = lacks (at w Settling) tt
settled_comes w a = stays_open (not_settled w a (record { shows = refl; found = λ memory. cc }))

deleted_comes : (w : Writing) (a : Answer) → Comes (at w Deleting) a (deleted_by (at w Deleting) (done_of a))
deleted_comes w call.Memory = lacks (at w Deleting) tt
deleted_comes w a = clears_next (w.place + 1) (one_tried w a (λ memory. cc))

comes_at : (stage : Stage) (w : Writing) (a : Answer) → Comes (at w stage) a (next_at stage (at w stage) a)
comes_at Waiting w a = waits w a
comes_at Logging w a = logged_comes w a
comes_at Opening w a = opened_comes w a
comes_at Sending w a = sent_comes w a
comes_at Settling w a = settled_comes w a
comes_at Deleting w a = deleted_comes w a
comes_at Finished w a = rests w a

pub comes : (w : Writing) (a : Answer) → Comes w a (writing_next w a)
comes w a = comes_at w.stage w a

-- .. where it leads
pub comes_to : (w : Writing) (a : Answer) (next : Step) → writing_next w a ≡ next → Comes w a next
comes_to w a next leads = subst (Comes w a) leads (comes w a)

-- ---- where the answer fits the call

pub data WasNotSent : Answer → Trouble → Type 0 where
  failed : WasNotSent call.Failed trouble.Failed

pub was_not_sent : (q : QueueName) (bytes : List ℕ) (a : Answer) → Fits (Send q bytes) a → Fails sent_of a → WasNotSent a (trouble_of a)
was_not_sent q bytes call.Failed fits f = failed
was_not_sent q bytes call.Memory fits f = absurd (f.found refl)
was_not_sent q bytes (call.Sent id) fits f = let shows = f.shows in absurd (cc (shows))
was_not_sent q bytes a fits f = absurd fits

pub was_not_put : (name : ObjName) (bytes : List ℕ) (one : Claim) (two : Option Claim) (a : Answer) → Fits (PutHeld name bytes one two) a → Fails done_of a → Refuses (trouble_of a) a
was_not_put name bytes one two call.Failed fits f = inl (refl, refl)
was_not_put name bytes one two (call.Late end now) fits f = inr (end, now, refl, refl)
was_not_put name bytes one two call.Memory fits f = absurd (f.found refl)
was_not_put name bytes one two call.Done fits f = let shows = f.shows in absurd (cc (shows))
was_not_put name bytes one two a fits f = absurd fits

pub put_failed : (name : ObjName) (bytes : List ℕ) (one : Claim) (two : Option Claim) (a : Answer) → Fits (PutHeld name bytes one two) a → done_of a ≡ Err trouble.Failed → a ≡ call.Failed
put_failed name bytes one two call.Failed fits e = refl
put_failed name bytes one two (call.Late end now) fits e = absurd (cc (e))
put_failed name bytes one two call.Memory fits e = absurd (cc (e))
put_failed name bytes one two call.Done fits e = absurd (cc (e))
put_failed name bytes one two a fits e = absurd fits

pub was_tried : (q : QueueName) (id : ℕ) (a : Answer) → Fits (Delete q id) a → a ≢ call.Memory → WasTried a
was_tried q id call.Done fits found = inl refl
was_tried q id call.Failed fits found = inr refl
was_tried q id call.Memory fits found = absurd (found refl)
was_tried q id a fits found = absurd fits
