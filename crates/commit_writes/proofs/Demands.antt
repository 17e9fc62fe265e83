-- Which answer each call of a commit's writes demands, what it names, and that it ends well where it is calm.
use Rattle.std.proofs.Common.{◌≡◌, ◌≢◌, ◌≤◌, ◌<◌, ◌+◌, ℕ, List, [], ◌∷◌, ◌++◌, length, Option, Some, None, refl, ap, sym, subst, ◌∙◌, inl, inr, arith}
use Rattle.std.specs.Prelude.{slice_get}
use Rattle.std.proofs.lemmas.Option.{slice_get_within}
use Rattle.route_plan.proofs.Places.{past_none}
use Rattle.commit_writes.proofs.Words.{Ask, Delete, Deed, Ends, Goes, LeadsBy, Stops, Took, trouble_of, Fits, Answer, Done, Failed, Memory, Turn, More, Stage, Deleting, Finished, Logging, Opening, Sending, Settling, Waiting, CommitAnswer, Committed, Trouble, AtomicRec, Home}
use Rattle.db_base.specs.declared.trouble.Trouble.TheVariants as trouble
use Rattle.db_base.specs.declared.trouble.CommitAnswer.TheVariants.{NotCommitted, InDoubt, CommittedOpen}
use Rattle.db_base.specs.declared.names.ObjName.TheVariants as object
use Rattle.db_base.specs.declared.names.QueueName.TheVariants as queue
use Rattle.cloud_trait.specs.declared.answer.Answer.TheVariants.{Sent, Late}
use Rattle.cloud_trait.specs.declared.turn.Turn.TheVariants.{Ended, Stopped}
use Rattle.cloud_trait.specs.Caller.{Caller}
use Rattle.cloud_trait.specs.Seen.{Seen}
use Rattle.cloud_trait.specs.Weather.{Makes}
use Rattle.cloud_trait.specs.Calm.{GoesWell}
use Rattle.cloud_trait.proofs.CalmLemmas.{goes_well}
use Rattle.route_plan.specs.Queue.{queue_name}
use Rattle.commit_writes.specs.Writing.{Writing, writing_ask, writing_next, ask_at, head_ask, log_ask, send_ask, delete_ask, finished, not_committed, left_open, closed_again, KeepsHome}
use Rattle.commit_writes.specs.Calls.{Calls, told, logged_calls}
use Rattle.commit_writes.specs.Meaning.{Refuses, MeansTurn}
use Rattle.commit_writes.specs.Demands.{IsDeletion, NonePut, WasOpened, DemandsNot, Demands, Exactly, IsAmple}
use Rattle.commit_writes.specs.Leases.{IsOwnCall}
use Rattle.commit_writes.specs.Stepped.{deed_of, Stepped}
use Rattle.commit_writes.specs.Calm.{IsWell, EndsWell}
use Rattle.commit_writes.specs.Within.{Went}
use Rattle.commit_writes.proofs.Outcomes as step
use Rattle.commit_writes.proofs.Outcomes.{Step, Posts, Leaves, Comes, WasNotSent, comes, was_not_sent, was_not_put, put_failed}
use Rattle.commit_writes.proofs.Knows.{KnowsDeleting, KnowsAt, Knows}
use Rattle.commit_writes.proofs.Meaning.{fits_post, went_knows, only_memory, came_means}
use Rattle.commit_writes.proofs.Deletions.{went_gone}
use Rattle.commit_writes.proofs.Marks.{went_marked}
use Rattle.commit_writes.proofs.Within.{none_logged, opened_put, opened_posted, opened_settled, opened_more, deleted_before}

-- a step that ends shows what demands its answer
abbrev pub Shown : (CommitAnswer → Type 0) → Step → Type 0
Shown why (Goes m) = Unit {0}
Shown why (Ends m x) = why x
Shown why (Stops m t) = Unit {0}

-- a step ends with this answer
abbrev pub EndsSo : CommitAnswer → Step → Type 0
EndsSo x (Goes m) = ⊥
EndsSo x (Ends m y) = y ≡ x
EndsSo x (Stops m t) = ⊥

-- the step ends with an answer exactly where that is demanded
abbrev pub Decides : (CommitAnswer → Type 0) → Step → Type 0
Decides why x = Shown why x × ((y : CommitAnswer) → why y → EndsSo y x)

-- ---- what goes well demands no answer, but for a deletion

not_demanded : (records attempt : ℕ) (cs : Calls) (ask : Ask) (a : Answer) (u : Trouble) → GoesWell a → DemandsNot cs ask a u → ⊥
not_demanded records attempt cs ask a trouble.Failed goes d = subst GoesWell d.2 goes
not_demanded records attempt cs ask a (trouble.Late end now) goes d = subst GoesWell d.2 goes
not_demanded records attempt cs ask a u goes d = d

not_refused : (a : Answer) (u : Trouble) → GoesWell a → Refuses u a → ⊥
not_refused a u goes (inl both) = subst GoesWell both.1 goes
not_refused a u goes (inr (end, now, is, late)) = subst GoesWell late goes

demands_well : (records attempt : ℕ) (cs : Calls) (ask : Ask) (a : Answer) (x : CommitAnswer) → GoesWell a → Demands records attempt cs ask a x → IsWell x
demands_well records attempt cs ask a (Committed y) goes d = tt
demands_well records attempt cs ask a (NotCommitted u) goes d = not_demanded records attempt cs ask a u goes d
demands_well records attempt cs ask a InDoubt goes d = subst GoesWell d.2 goes
demands_well records attempt cs ask a (CommittedOpen u) goes d = not_refused a u goes d.2

demands_none : (n t : ℕ) (cs : Calls) (ask : Ask) (a : Answer) → GoesWell a → (IsDeletion ask → ⊥) → (x : CommitAnswer) → Demands n t cs ask a x → ⊥
demands_none n t cs ask a goes other (Committed y) d = other d.1
demands_none n t cs ask a goes other x d = demands_well n t cs ask a x goes d

no_deletion : (w : Writing) (o : Option AtomicRec) → IsDeletion (send_ask w o) → ⊥
no_deletion w (Some r) is = is
no_deletion w None is = is

posts_none : (k t : ℕ) (cs : Calls) (w : Writing) (a : Answer) (n : ℕ) → Posts w a n → (x : CommitAnswer) → Demands k t cs (writing_ask w) a x → ⊥
posts_none k t cs v a n (step.opened w) = demands_none k t cs (head_ask w) Done tt (λ is. is)
posts_none k t cs v a n (step.one_sent w id) = demands_none k t cs (send_ask w (slice_get w.records w.place)) (Sent id) tt (no_deletion w (slice_get w.records w.place))

-- ---- before the put that commits

log_failed : (n t : ℕ) (cs : Calls) (w : Writing) (a : Answer) (u : Trouble) → NonePut cs → WasNotSent a u → Decides (Demands n t cs (log_ask w) a) (not_committed w u)
log_failed n t cs w a u none step.failed = ((none, tt, refl), demanded) where
  demanded : (x : CommitAnswer) → Demands n t cs (log_ask w) Failed x → EndsSo x (not_committed w trouble.Failed)
  demanded (Committed y) d = absurd d.1
  demanded (NotCommitted trouble.Failed) d = refl
  demanded (NotCommitted (trouble.Late end now)) d = absurd d.1
  demanded (NotCommitted v) d = absurd d
  demanded InDoubt d = absurd d.1
  demanded (CommittedOpen v) d = absurd (opened_put cs d.0 none)

open_late : (n t : ℕ) (cs : Calls) (w : Writing) (end now : ℕ) → NonePut cs → Decides (Demands n t cs (head_ask w) (Late end now)) (not_committed (closed_again w) (trouble.Late end now))
open_late n t cs w end now none = ((none, tt, refl), demanded) where
  demanded : (x : CommitAnswer) → Demands n t cs (head_ask w) (Late end now) x → EndsSo x (not_committed (closed_again w) (trouble.Late end now))
  demanded (Committed y) d = absurd d.1
  demanded (NotCommitted trouble.Failed) d = absurd d.1
  demanded (NotCommitted (trouble.Late e m)) d = let is = d.2 in cc (is)
  demanded (NotCommitted v) d = absurd d
  demanded InDoubt d = let is = d.2 in absurd (cc (is))
  demanded (CommittedOpen v) d = absurd (opened_put cs d.0 none)

open_failed : (n t : ℕ) (cs : Calls) (w : Writing) → NonePut cs → Decides (Demands n t cs (head_ask w) Failed) (Ends (finished w) InDoubt)
open_failed n t cs w none = ((none, tt, refl), demanded) where
  demanded : (x : CommitAnswer) → Demands n t cs (head_ask w) Failed x → EndsSo x (Ends (finished w) InDoubt)
  demanded (Committed y) d = absurd d.1
  demanded (NotCommitted trouble.Failed) d = absurd d.1
  demanded (NotCommitted (trouble.Late end now)) d = let is = d.2 in absurd (cc (is))
  demanded (NotCommitted v) d = absurd d
  demanded InDoubt d = refl
  demanded (CommittedOpen v) d = absurd (opened_put cs d.0 none)

-- ---- behind it only a refusal leaves the head open

-- nothing else is demanded there
not_before : (n t : ℕ) (cs : Calls) (ask : Ask) (a : Answer) (u : Trouble) → WasOpened cs → DemandsNot cs ask a u → ⊥
not_before n t cs ask a trouble.Failed opened d = opened_put cs opened d.0
not_before n t cs ask a (trouble.Late end now) opened d = opened_put cs opened d.0
not_before n t cs ask a u opened d = d

same_refusal : (a : Answer) (u v : Trouble) → Refuses u a → Refuses v a → u ≡ v
same_refusal a u v (inl (is, failed)) (inl (was, again)) = is ∙ sym was
same_refusal a u v (inl (is, failed)) (inr (end, now, was, late)) = absurd (cc (failed, late))
same_refusal a u v (inr (end, now, is, late)) (inl (was, failed)) = absurd (cc (late, failed))
same_refusal a u v (inr (end, now, is, late)) (inr (e, m, was, again)) = cc (is, late, was, again)

refusal_stays : (n t : ℕ) (cs : Calls) (ask : Ask) (a : Answer) (w : Writing) (u : Trouble) → WasOpened cs → (IsDeletion ask → ⊥) → Refuses u a → Decides (Demands n t cs ask a) (left_open w u)
refusal_stays n t cs ask a w u opened other refuses = ((opened, other, refuses), demanded) where
  demanded : (x : CommitAnswer) → Demands n t cs ask a x → EndsSo x (left_open w u)
  demanded (Committed y) d = absurd (other d.1)
  demanded (NotCommitted v) d = absurd (not_before n t cs ask a v opened d)
  demanded InDoubt d = absurd (opened_put cs opened d.0)
  demanded (CommittedOpen v) d = ap CommittedOpen (same_refusal a u v refuses d.2)

not_sent_refuses : (a : Answer) (u : Trouble) → WasNotSent a u → Refuses u a
not_sent_refuses a u step.failed = inl (refl, refl)

leaves_open : (h : Home) (cs : Calls) (w : Writing) (a : Answer) → KnowsAt w.stage h cs w → Fits (writing_ask w) a → Leaves w a
    → Decides (Demands (length w.records) h.attempt cs (writing_ask w) a) (left_open w (trouble_of a))
leaves_open h cs v a k fits (step.not_sent w b failed) =
    let opened : WasOpened cs = subst WasOpened (sym k.calls) (opened_posted h w.records w.ids _ k.posts) in
    refusal_stays (length w.records) h.attempt cs (writing_ask v) a v (trouble_of a) opened (no_deletion w (slice_get w.records w.place))
    (not_sent_refuses a (trouble_of a) (was_not_sent (queue_name k.r.tree k.r.page) w.out a (fits_post w (slice_get w.records w.place) k.r a k.here fits) failed))
leaves_open h cs v a k fits (step.not_settled w b failed) =
    let opened : WasOpened cs = subst WasOpened (sym k.calls) (opened_posted h w.records w.ids w.records k.posts) in
    refusal_stays (length w.records) h.attempt cs (writing_ask v) a v (trouble_of a) opened (λ is. is) (was_not_put (object.Head w.home.client) w.out w.home.lease None a fits failed)

-- ---- the deletion in hand demands that it is committed, where it is the last

deletion_asked : (h : Home) (cs : Calls) (w : Writing) (k : KnowsDeleting h cs w) → delete_ask w (slice_get w.ids w.place) ≡ Delete (queue.Atomic w.home.client) k.id
deletion_asked h cs w k = ap (λ (o : Option ℕ). delete_ask w o) k.here

deletion_demands : (h : Home) (cs : Calls) (w : Writing) (a : Answer) → KnowsDeleting h cs w → (x : CommitAnswer) → Demands (length w.records) h.attempt cs (delete_ask w (slice_get w.ids w.place)) a x
    → (x ≡ Committed w.home.attempt) × (w.place + 1 ≡ length w.ids)
deletion_demands h cs w a k x d = on x (subst (λ (q : Ask). Demands (length w.records) h.attempt cs q a x) (deletion_asked h cs w k) d) where
  asked : Ask
  asked = Delete (queue.Atomic w.home.client) k.id

  opened : WasOpened cs
  opened = subst WasOpened (sym k.calls) (opened_more _ _ (opened_settled h w.records w.ids k.posts))

  on : (y : CommitAnswer) → Demands (length w.records) h.attempt cs asked a y → (y ≡ Committed w.home.attempt) × (w.place + 1 ≡ length w.ids)
  on (Committed y) e = (ap Committed (e.0 ∙ sym (ap (λ (z : Home). z.attempt) k.home)), omega (arith, e.2, k.logged, deleted_before h cs w k))
  on (NotCommitted u) e = absurd (not_before (length w.records) h.attempt cs asked a u opened e)
  on InDoubt e = absurd e.1
  on (CommittedOpen u) e = absurd (e.1 tt)

deletes_none : (h : Home) (cs : Calls) (w : Writing) (a : Answer) (id : ℕ) → KnowsDeleting h cs w → slice_get w.ids (w.place + 1) ≡ Some id → (x : CommitAnswer)
    → Demands (length w.records) h.attempt cs (delete_ask w (slice_get w.ids w.place)) a x → ⊥
deletes_none h cs w a id k e x d =
    let within : w.place + 1 < length w.ids = slice_get_within w.ids (w.place + 1) id e in
    let last : w.place + 1 ≡ length w.ids = (deletion_demands h cs w a k x d).1 in
    omega (arith, within, last)

deletes_last : (h : Home) (cs : Calls) (w : Writing) (a : Answer) (m : Writing) → KnowsDeleting h cs w → slice_get w.ids (w.place + 1) ≡ None
    → Decides (Demands (length w.records) h.attempt cs (delete_ask w (slice_get w.ids w.place)) a) (Ends m (Committed w.home.attempt))
deletes_last h cs w a m k e =
    let within : w.place < length w.ids = slice_get_within w.ids w.place k.id k.here in
    let past : length w.ids ≤ w.place + 1 = past_none w.ids (w.place + 1) e in (
      subst (λ (q : Ask). Demands (length w.records) h.attempt cs q a (Committed w.home.attempt)) (sym (deletion_asked h cs w k))
          (ap (λ (z : Home). z.attempt) k.home, tt, omega (arith, within, past, k.logged, deleted_before h cs w k)),
      λ x d. sym (deletion_demands h cs w a k x d).0,
    )

-- ---- a step

none_yet : (h : Home) (cs : Calls) (rs : List AtomicRec) (ids : List ℕ) → cs ≡ logged_calls h.client rs ids → NonePut cs
none_yet h cs rs ids calls = subst NonePut (sym calls) (none_logged h.client rs ids)

none_left : (w : Writing) → length w.ids ≡ length w.records → 1 ≤ length w.records → slice_get w.ids 0 ≡ None → ⊥
none_left w logged some e = let past = past_none w.ids 0 e in omega (arith, past, logged, some)

decides : (h : Home) (cs : Calls) (w : Writing) (a : Answer) (x : Step) → KnowsAt w.stage h cs w → 1 ≤ length w.records → Fits (writing_ask w) a → a ≢ Memory → Comes w a x
    → Decides (Demands (length w.records) h.attempt cs (writing_ask w) a) x
decides h cs v a x k some fits ample (step.goes_on w id next (step.logs r e)) = (tt, demands_none (length w.records) h.attempt cs (log_ask w) a tt (λ is. is))
decides h cs v a x k some fits ample (step.goes_on w id next (step.opens e)) = (tt, demands_none (length w.records) h.attempt cs (log_ask w) a tt (λ is. is))
decides h cs v a x k some fits ample (step.not_logged w b failed) =
    log_failed (length w.records) h.attempt cs w a (trouble_of a) (none_yet h cs _ w.ids k.calls) (was_not_sent (queue.Atomic w.home.client) w.out a fits failed)
decides h cs v a x k some fits ample (step.late w end now) = open_late (length w.records) h.attempt cs w end now (none_yet h cs _ w.ids k.calls)
decides h cs v a x k some fits ample (step.doubts w b failed) =
    subst (λ (y : Answer). Decides (Demands (length w.records) h.attempt cs (head_ask w) y) (Ends (finished w) InDoubt)) (sym (put_failed (object.Head w.home.client) w.out w.home.lease None a fits failed))
    (open_failed (length w.records) h.attempt cs w (none_yet h cs _ w.ids k.calls))
decides h cs w a x k some fits ample (step.sends n r posts e) = (tt, posts_none (length w.records) h.attempt cs w a n posts)
decides h cs w a x k some fits ample (step.settles n posts e) = (tt, posts_none (length w.records) h.attempt cs w a n posts)
decides h cs w a x k some fits ample (step.stays_open leaves) = leaves_open h cs w a k fits leaves
decides h cs v a x k some fits ample (step.deletes n id (step.settled w) e) = (tt, demands_none (length w.records) h.attempt cs (head_ask w) a tt (λ is. is))
decides h cs v a x k some fits ample (step.deletes n id (step.one_tried w b found) e) = (tt, deletes_none h cs v a id k e)
decides h cs v a x k some fits ample (step.ends n (step.settled w) e) = absurd (none_left w k.logged some e)
decides h cs v a x k some fits ample (step.ends n (step.one_tried w b found) e) = deletes_last h cs v a (finished v) k e
decides h cs w a x k some fits ample (step.lacks v under) = absurd (ample refl)
decides h cs v a x k some fits ample (step.waits w b) = absurd k
decides h cs v a x k some fits ample (step.rests w b) = absurd k

-- ---- a step of the code

pub the_answer : (x y : CommitAnswer) → ◌≡◌ {A = Turn CommitAnswer} (Ended x) (Ended y) → x ≡ y
the_answer x y e = cc (e)

pub stopped_not : (t : Trouble) (x : CommitAnswer) → ◌≡◌ {A = Turn CommitAnswer} (Stopped t) (Ended x) → ⊥
stopped_not t x e = absurd (cc (e))

pub more_not : (x : CommitAnswer) → ◌≡◌ {A = Turn CommitAnswer} More (Ended x) → ⊥
more_not x e = absurd (cc (e))

took_exactly : (why : CommitAnswer → Type 0) (old new : Writing) (a : Answer) (turn : Turn CommitAnswer) → Decides why (writing_next old a) → Took (LeadsBy writing_next) KeepsHome old a new turn → (x : CommitAnswer)
    → Exactly (why x) x turn
took_exactly why old new a More decides took x = record {
  only = λ e. absurd (more_not x e);
  always = λ y. absurd (subst (EndsSo x) took (decides.1 x y));
}
took_exactly why old new a (Ended z) decides took x = record {
  only = λ e. subst why (the_answer z x e) (subst (Shown why) took decides.0);
  always = λ y. inl (ap Ended (subst (EndsSo x) took (decides.1 x y)));
}
took_exactly why old new a (Stopped t) decides took x = record {
  only = λ e. absurd (stopped_not t x e);
  always = λ y. inr (ap Stopped (only_memory t (λ other. absurd (subst (EndsSo x) (took.0 other) (decides.1 x y)))));
}

memory_exactly : (why : Type 0) (turn : Turn CommitAnswer) → turn ≡ Stopped trouble.Memory → (x : CommitAnswer) → Exactly why x turn
memory_exactly why turn stopped x = record { only = λ e. absurd (stopped_not trouble.Memory x (sym stopped ∙ e)); always = λ y. inr stopped }

step_exactly : (h : Home) (cs : Calls) (old new : Writing) (a : Answer) (turn : Turn CommitAnswer) → KnowsAt old.stage h cs old → 1 ≤ length old.records → Fits (writing_ask old) a
    → (a ≡ Memory → turn ≡ Stopped trouble.Memory) → Took (LeadsBy writing_next) KeepsHome old a new turn → (x : CommitAnswer) → Exactly (Demands (length old.records) h.attempt cs (writing_ask old) a x) x turn
step_exactly h cs old new Memory turn k some fits stops took x = memory_exactly (Demands (length old.records) h.attempt cs (writing_ask old) Memory x) turn (stops refl) x
step_exactly h cs old new a turn k some fits stops took x =
    took_exactly (Demands (length old.records) h.attempt cs (writing_ask old) a) old new a turn (decides h cs old a (writing_next old a) k some fits (λ e. cc) (comes old a)) took x

pub went_exactly : (old new : Writing) (a : Answer) (turn : Turn CommitAnswer) → Fits (writing_ask old) a → (a ≡ Memory → turn ≡ Stopped trouble.Memory) → Took (LeadsBy writing_next) KeepsHome old a new turn
    → (home : Home) (records : List AtomicRec) (h : List Deed) → Went home records h old → (x : CommitAnswer) → Exactly (Demands (length records) home.attempt (told h) (writing_ask old) a x) x turn
went_exactly old new a turn fits stops took home records h went x =
    let k : Knows home records (told h) old = went_knows home records h old went in
    subst (λ (rs : List AtomicRec). Exactly (Demands (length rs) home.attempt (told h) (writing_ask old) a x) x turn) k.0
    (step_exactly home (told h) old new a turn k.1 (subst (λ (rs : List AtomicRec). 1 ≤ length rs) (sym k.0) went.0) fits stops took x)

-- ---- what calls name

pub names_at : (stage : Stage) (w : Writing) → IsOwnCall w.home (ask_at stage w)
names_at Waiting w = (refl, refl, refl)
names_at Logging w = inl refl
names_at Opening w = (refl, refl, refl)
names_at Sending w = on (slice_get w.records w.place) where
  on : (o : Option AtomicRec) → IsOwnCall w.home (send_ask w o)
  on (Some r) = inr (r.tree, r.page, refl)
  on None = (refl, refl, refl)
names_at Settling w = (refl, refl, refl)
names_at Deleting w = on (slice_get w.ids w.place) where
  on : (o : Option ℕ) → IsOwnCall w.home (delete_ask w o)
  on (Some id) = refl
  on None = (refl, refl, refl)
names_at Finished w = (refl, refl, refl)

-- ---- calm calls

pub ends_well : (records attempt : ℕ) (cs : Calls) (ask : Ask) (a : Answer) (turn : Turn CommitAnswer) → GoesWell a → ((t : Trouble) → turn ≡ Stopped t → t ≡ trouble.Memory)
    → ((x : CommitAnswer) → Exactly (Demands records attempt cs ask a x) x turn) → EndsWell turn
ends_well records attempt cs ask a More goes stops exact = tt
ends_well records attempt cs ask a (Ended x) goes stops exact = demands_well records attempt cs ask a x goes ((exact x).only refl)
ends_well records attempt cs ask a (Stopped t) goes stops exact = stops t refl

means_memory : (home : Home) (records : List AtomicRec) (cs : Calls) (left : Home) (turn : Turn CommitAnswer) → MeansTurn home records cs left turn → (t : Trouble) → turn ≡ Stopped t → t ≡ trouble.Memory
means_memory home records cs left turn means t e = subst (MeansTurn home records cs left) e means

-- ---- a step of the code

pub went_stepped : (who : Caller) (before after : Seen) (old new : Writing) (a : Answer) (turn : Turn CommitAnswer) → Makes who (writing_ask old) a before after → (a ≡ Memory → turn ≡ Stopped trouble.Memory)
    → IsAmple (writing_ask old) a turn → Took (LeadsBy writing_next) KeepsHome old a new turn → Stepped who before after old new turn
went_stepped who before after old new a turn made stops ample took = record {
  answer = a;
  made = made;
  took = took;
  means = came_means old new a turn made.fits took;
  exact = went_exactly old new a turn made.fits stops took;
  ample = ample;
  well = λ home records h went calm.
      ends_well (length records) home.attempt (told h) (writing_ask old) a turn (goes_well call made calm)
      (means_memory home records (told h ++ (writing_ask old, a) ∷ []) new.home turn
      (came_means old new a turn made.fits took home went.1 records went.2 h went.3 went.4))
      (went_exactly old new a turn made.fits stops took home records h went);
  marks = λ home records h went calm alone x ended s left.
      went_marked home records h old call x s went calm alone refl made (found x ended)
      ((went_exactly old new a turn made.fits stops took home records h went (Committed x)).only ended) left;
  clears = λ home records h went none x ended.
      went_gone home records h old call x went none refl made (found x ended)
      ((went_exactly old new a turn made.fits stops took home records h went (Committed x)).only ended);
} where
  call : Deed
  call = deed_of who (writing_ask old) a before after

  found : (x : ℕ) → turn ≡ Ended (Committed x) → a ≢ Memory
  found x ended memory = stopped_not trouble.Memory (Committed x) (sym (stops memory) ∙ ended)
