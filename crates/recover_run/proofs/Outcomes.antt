-- What a step of a recovery comes to, whatever branches led there.
use Rattle.std.proofs.Common.{◌≡◌, ◌≢◌, ◌+◌, ◌-◌, ◌^◌, ◌++◌, ℕ, Bool, true, false, cond, List, [], ◌∷◌, length, Option, Some, None, Result, Ok, Err, refl, sym, subst, arith}
use Rattle.std.specs.Prelude.{◌==◌, slice_get}
use Rattle.std.proofs.lemmas.Bool.Decides.{nat_tests}
use Rattle.db_base.specs.declared.names.Lock.TheVariants as lock
use Rattle.db_base.specs.declared.names.ObjName.TheVariants as object
use Rattle.db_base.specs.declared.names.Place.TheVariants as place
use Rattle.db_base.specs.declared.trouble.Trouble.TheVariants as trouble
use Rattle.db_base.specs.declared.trouble.Counter.TheVariants as counter
use Rattle.head_codec.specs.declared.head.Phase.{Phase}
use Rattle.head_codec.specs.declared.head.Phase.TheVariants.{Settled, Open}
use Rattle.head_codec.specs.Head.{empty_head}
use Rattle.head_codec.specs.Spelling.{head_of, head_offset}
use Rattle.log_codec.specs.Pu.{pu_bytes}
use Rattle.route_plan.specs.Record.{pu_record_of}
use Rattle.cloud_trait.specs.declared.answer.Answer.TheVariants as call
use Rattle.cloud_trait.proofs.ViewLemmas.{given_of-ok, got_of-ok, sent_of-ok, received_of-ok, done_of-ok}
use Rattle.recover_run.specs.Gathering.{gathered_with, lost_now, past_ids}
use Rattle.recover_run.specs.Ids.{new_ids, rest_of}
use Rattle.recover_run.specs.Items.{items_of}
use Rattle.recover_run.specs.Recovery.{goes_to, releasing, stopping, damaged_message, taken_by, putting, send_or_put, send_at, phase_read, behind, bytes_read, none_read, got_by, deleting, gathered_by, received_by, deleted_by, with_pending, sent_by, clearing, kept_ids, put_by, opened, sweeping, swept_with, swept_by, ended, next_at}
use Rattle.recover_run.proofs.Words.{Trouble, Head, Answer, Message, Claim, Goes, Ends, Stops, given_of, got_of, sent_of, received_of, done_of, AtomicItem, Aim, Opening, Settling, Stage, ReleasingOld, Taking, Getting, Receiving, Deleting, Sending, Putting, Clearing, Sweeping, Releasing, Finished, RecoverAnswer, Opened, Nothing, Recovery, Step, recovery_next}

-- ---- local work between the call and where the step ends

-- at a stage
abbrev pub at : Recovery → Stage → Recovery
at r stage = record r { stage = stage }

-- the next ids to be deleted
abbrev pub listed : Recovery → List ℕ → Recovery
listed r ids = record r { ids = ids }

-- with what a receive brought
abbrev pub gathered : Recovery → List AtomicItem → Recovery
gathered r items = record r { gathered = gathered_with r.wanted r.gathered items }

-- The head was read: the bytes of an object spell it, or it is the empty one where the object is absent, and it is not of the last epoch.
pub data Reads : Recovery → Answer → Head → Type 0 where
  spelled : (r : Recovery) (bytes : List ℕ) (h : Head) → head_of bytes ≡ Some h → h.epoch ≢ 2 ^ 64 - 1 → Reads (at r Getting) (call.Got (Some bytes)) h
  absent : (r : Recovery) → r.aim ≡ Opening → Reads (at r Getting) (call.Got None) empty_head

-- These ids of lost records are to be deleted: those of a receive, or what is left of them behind a deletion.
pub data Loses : Recovery → Answer → Recovery → List ℕ → Type 0 where
  received : (r : Recovery) (ms : List Message) (items : List AtomicItem) → items_of ms ≡ Ok items
      → Loses (at r Receiving) (call.Received ms) (gathered (at r Receiving) items) (lost_now r.wanted r.gathered items)
  one_gone : (r : Recovery) → Loses (at r Deleting) call.Done (at r Deleting) (rest_of r.ids)

-- The record at this place is sent next, where there is one: all are kept, or one was sent.
pub data Readies : Recovery → Answer → Recovery → ℕ → Type 0 where
  whole : {r : Recovery} {a : Answer} (q : Recovery) → Loses r a q [] → length q.gathered.kept ≡ q.wanted.count → Readies r a (listed q []) 0
  one_sent : (r : Recovery) (id : ℕ) → Readies (at r Sending) (call.Sent id) (with_pending (at r Sending) (slice_get r.gathered.kept r.sent)) (r.sent + 1)

-- These ids are to be deleted behind the put: those of the kept records, or what is left behind a deletion.
pub data Clears : Recovery → Answer → Recovery → List ℕ → Type 0 where
  head_put : (r : Recovery) → Clears (at r Putting) call.Done (record (at r Putting) { swept = kept_ids r }) (kept_ids r)
  one_tried : (r : Recovery) (a : Answer) → Clears (at r Clearing) a (at r Clearing) (rest_of r.ids)

-- Those of the records of past epochs that a receive behind the put brought.
abbrev pub swept : Recovery → List AtomicItem → List ℕ
swept r items = new_ids r.swept (past_ids r.wanted items)

-- A trouble stops it: the call brought none of what it asked for, what it brought is wrong, the epoch is the last, or records are missing.
pub data Fails : Recovery → Answer → Recovery → Trouble → Type 0 where
  no_head : (r : Recovery) (a : Answer) (t : Trouble) → got_of a ≡ Err t → Fails (at r Getting) a (at r Getting) t
  no_messages : (r : Recovery) (a : Answer) (t : Trouble) → received_of a ≡ Err t → Fails (at r Receiving) a (at r Receiving) t
  not_deleted : (r : Recovery) (a : Answer) (t : Trouble) → done_of a ≡ Err t → Fails (at r Deleting) a (at r Deleting) t
  not_sent : (r : Recovery) (a : Answer) (t : Trouble) → sent_of a ≡ Err t → Fails (at r Sending) a (at r Sending) t
  not_put : (r : Recovery) (a : Answer) (t : Trouble) → done_of a ≡ Err t → Fails (at r Putting) a (at r Putting) t
  not_swept : (r : Recovery) (a : Answer) (t : Trouble) → received_of a ≡ Err t → Fails (at r Sweeping) a (at r Sweeping) t
  bad_head : (r : Recovery) (bytes : List ℕ) → head_of bytes ≡ None
      → Fails (at r Getting) (call.Got (Some bytes)) (at r Getting) (trouble.Damaged (place.Object (object.Head r.client)) (head_offset bytes))
  last_epoch : (r : Recovery) (bytes : List ℕ) (h : Head) → head_of bytes ≡ Some h → h.epoch ≡ 2 ^ 64 - 1
      → Fails (at r Getting) (call.Got (Some bytes)) (at r Getting) (trouble.Exhausted counter.Epoch)
  bad_message : (r : Recovery) (ms : List Message) (m : Message) → items_of ms ≡ Err m
      → Fails (at r Receiving) (call.Received ms) (at r Receiving) (damaged_message r m)
  bad_swept : (r : Recovery) (ms : List Message) (m : Message) → items_of ms ≡ Err m
      → Fails (at r Sweeping) (call.Received ms) (at r Sweeping) (damaged_message r m)
  waits : {r : Recovery} {a : Answer} (q : Recovery) → Loses r a q [] → length q.gathered.kept ≢ q.wanted.count → q.gathered.fresh ≡ false
      → Fails r a (listed q []) (trouble.Waiting (length q.gathered.kept) q.wanted.count)

-- ---- where it ends

pub data Comes : Recovery → Answer → Step → Type 0 where
  gives_old : (r : Recovery) (a : Answer) → Comes (at r ReleasingOld) a (Goes (record (at r Taking) { former = None }))
  takes : (r : Recovery) (l : Claim) → Comes (at r Taking) (call.Given l) (Goes (record (at r Getting) { lease = Some l }))
  refused : (r : Recovery) (a : Answer) (t : Trouble) → given_of (lock.Client r.client) a ≡ Err t → Comes (at r Taking) a (Stops (at r Taking) t)
  stops : {r : Recovery} {a : Answer} (q : Recovery) (t : Trouble) → Fails r a q t → Comes r a (stopping q t)
  finds_none : (r : Recovery) → r.aim ≡ Settling → Comes (at r Getting) (call.Got None) (releasing (at r Getting) (Ok Nothing))
  reads_settled : {r : Recovery} {a : Answer} (h : Head) → Reads r a h → h.phase ≡ Settled → Comes r a (putting (behind r h))
  reads_open : {r : Recovery} {a : Answer} (h : Head) (count : ℕ) → Reads r a h → h.phase ≡ Open count → Comes r a (goes_to Receiving (behind r h))
  deletes : {r : Recovery} {a : Answer} (q : Recovery) (id : ℕ) (ids : List ℕ) → Loses r a q (id ∷ ids) → Comes r a (goes_to Deleting (listed q (id ∷ ids)))
  receives : {r : Recovery} {a : Answer} (q : Recovery) → Loses r a q [] → length q.gathered.kept ≢ q.wanted.count → q.gathered.fresh ≡ true
      → Comes r a (goes_to Receiving (listed q []))
  sends : {r : Recovery} {a : Answer} (q : Recovery) (place : ℕ) (x : AtomicItem) → Readies r a q place → slice_get q.gathered.kept place ≡ Some x
      → Comes r a (Goes (record q { stage = Sending; sent = place; out = pu_bytes (pu_record_of x.rec) }))
  puts : {r : Recovery} {a : Answer} (q : Recovery) (place : ℕ) → Readies r a q place → slice_get q.gathered.kept place ≡ None
      → Comes r a (putting (record q { sent = place }))
  clears : {r : Recovery} {a : Answer} (q : Recovery) (id : ℕ) (ids : List ℕ) → Clears r a q (id ∷ ids) → Comes r a (goes_to Clearing (listed q (id ∷ ids)))
  sweeps : {r : Recovery} {a : Answer} (q : Recovery) → Clears r a q [] → Comes r a (goes_to Sweeping (listed q []))
  clears_past : (r : Recovery) (ms : List Message) (items : List AtomicItem) (id : ℕ) (ids : List ℕ) → items_of ms ≡ Ok items → swept r items ≡ id ∷ ids
      → Comes (at r Sweeping) (call.Received ms) (Goes (record (at r Clearing) { swept = r.swept ++ id ∷ ids; ids = id ∷ ids }))
  opens : (r : Recovery) (ms : List Message) (items : List AtomicItem) → items_of ms ≡ Ok items → swept r items ≡ [] → r.aim ≡ Opening
      → Comes (at r Sweeping) (call.Received ms) (Ends (record (at r Finished) { swept = r.swept ++ []; ids = [] }) (Opened r.head.epoch))
  closes : (r : Recovery) (ms : List Message) (items : List AtomicItem) → items_of ms ≡ Ok items → swept r items ≡ [] → r.aim ≡ Settling
      → Comes (at r Sweeping) (call.Received ms) (releasing (record (at r Sweeping) { swept = r.swept ++ []; ids = [] }) (Ok (Opened r.head.epoch)))
  ends : (r : Recovery) (a : Answer) (answer : RecoverAnswer) → r.ending ≡ Some (Ok answer)
      → Comes (at r Releasing) a (Ends (record (at r Finished) { lease = None; ending = None }) answer)
  stopped : (r : Recovery) (a : Answer) (t : Trouble) → r.ending ≡ Some (Err t)
      → Comes (at r Releasing) a (Stops (record (at r Finished) { lease = None; ending = None }) t)
  astray : (r : Recovery) (a : Answer) → r.ending ≡ None
      → Comes (at r Releasing) a (Stops (record (at r Finished) { lease = None; ending = None }) trouble.Failed)
  nothing : (r : Recovery) (a : Answer) → Comes (at r Finished) a (Stops (at r Finished) trouble.Failed)

-- ---- a step, taken apart

by_answer : {r : Recovery} {next : Step} (a given : Answer) → a ≡ given → Comes r given next → Comes r a next
by_answer {r = r} {next = next} a given e c = subst (λ (x : Answer). Comes r x next) (sym e) c

nat_eq_true : (a b : ℕ) → (a == b) ≡ true → a ≡ b
nat_eq_true a b e = grind (arith, nat_tests)

nat_eq_false : (a b : ℕ) → (a == b) ≡ false → a ≢ b
nat_eq_false a b e = grind (arith, nat_tests)

lease_taken : (r : Recovery) (a : Answer) (g : Result Claim Trouble) → given_of (lock.Client r.client) a ≡ g → Comes (at r Taking) a (taken_by (at r Taking) g)
lease_taken r a (Ok l) e = by_answer a _ (given_of-ok (lock.Client r.client) a l e) (takes r l)
lease_taken r a (Err t) e = refused r a t e

by_phase : {r : Recovery} {a : Answer} (h : Head) (p : Phase) → h.phase ≡ p → Reads r a h → Comes r a (phase_read p (behind r h))
by_phase h Settled e reads = reads_settled h reads e
by_phase h (Open count) e reads = reads_open h count reads e

by_epoch : (r : Recovery) (bytes : List ℕ) (h : Head) (b : Bool) → (h.epoch == 2 ^ 64 - 1) ≡ b → head_of bytes ≡ Some h
    → Comes (at r Getting) (call.Got (Some bytes)) (cond b (stopping (at r Getting) (trouble.Exhausted counter.Epoch)) (phase_read h.phase (behind (at r Getting) h)))
by_epoch r bytes h true e is = stops (at r Getting) (trouble.Exhausted counter.Epoch) (last_epoch r bytes h is (nat_eq_true h.epoch (2 ^ 64 - 1) e))
by_epoch r bytes h false e is = by_phase h h.phase refl (Reads.spelled r bytes h is (nat_eq_false h.epoch (2 ^ 64 - 1) e))

by_bytes : (r : Recovery) (bytes : List ℕ) (o : Option Head) → head_of bytes ≡ o → Comes (at r Getting) (call.Got (Some bytes)) (bytes_read (at r Getting) bytes o)
by_bytes r bytes (Some h) e = by_epoch r bytes h (h.epoch == 2 ^ 64 - 1) refl e
by_bytes r bytes None e = stops (at r Getting) _ (bad_head r bytes e)

by_none : (r : Recovery) (aim : Aim) → r.aim ≡ aim → Comes (at r Getting) (call.Got None) (none_read aim (at r Getting))
by_none r Opening e = by_phase empty_head Settled refl (absent r e)
by_none r Settling e = finds_none r e

by_got : (r : Recovery) (a : Answer) (g : Result (Option (List ℕ)) Trouble) → got_of a ≡ g → Comes (at r Getting) a (got_by (at r Getting) g)
by_got r a (Ok None) e = by_answer a _ (got_of-ok a None e) (by_none r r.aim refl)
by_got r a (Ok (Some bytes)) e = by_answer a _ (got_of-ok a (Some bytes) e) (by_bytes r bytes (head_of bytes) refl)
by_got r a (Err t) e = stops (at r Getting) t (no_head r a t e)

readied : {r : Recovery} {a : Answer} (q : Recovery) (place : ℕ) (o : Option AtomicItem) → slice_get q.gathered.kept place ≡ o → Readies r a q place
    → Comes r a (send_or_put (record q { sent = place }) o)
readied q place (Some x) e ready = sends q place x ready e
readied q place None e ready = puts q place ready e

decides : {r : Recovery} {a : Answer} (q : Recovery) (whole fresh : Bool) → (length q.gathered.kept == q.wanted.count) ≡ whole → q.gathered.fresh ≡ fresh → Loses r a q []
    → Comes r a (cond whole (send_at (listed q []) 0) (cond fresh (goes_to Receiving (listed q [])) (stopping (listed q []) (trouble.Waiting (length q.gathered.kept) q.wanted.count))))
decides q true fresh e new loses = readied (listed q []) 0 (slice_get q.gathered.kept 0) refl (whole q loses (nat_eq_true _ _ e))
decides q false true e new loses = receives q loses (nat_eq_false _ _ e) new
decides q false false e new loses = stops (listed q []) _ (waits q loses (nat_eq_false _ _ e) new)

by_lost : {r : Recovery} {a : Answer} (q : Recovery) (ids : List ℕ) → Loses r a q ids → Comes r a (deleting q ids)
by_lost q (id ∷ ids) loses = deletes q id ids loses
by_lost q [] loses = decides q (length q.gathered.kept == q.wanted.count) q.gathered.fresh refl refl loses

by_items : (r : Recovery) (ms : List Message) (o : Result (List AtomicItem) Message) → items_of ms ≡ o
    → Comes (at r Receiving) (call.Received ms) (gathered_by (at r Receiving) o)
by_items r ms (Ok items) e = by_lost (gathered (at r Receiving) items) (lost_now r.wanted r.gathered items) (received r ms items e)
by_items r ms (Err m) e = stops (at r Receiving) _ (bad_message r ms m e)

by_received : (r : Recovery) (a : Answer) (g : Result (List Message) Trouble) → received_of a ≡ g → Comes (at r Receiving) a (received_by (at r Receiving) g)
by_received r a (Ok ms) e = by_answer a _ (received_of-ok a ms e) (by_items r ms (items_of ms) refl)
by_received r a (Err t) e = stops (at r Receiving) t (no_messages r a t e)

by_deleted : (r : Recovery) (a : Answer) (g : Result (Unit {0}) Trouble) → done_of a ≡ g → Comes (at r Deleting) a (deleted_by (at r Deleting) g)
by_deleted r a (Ok x) e = by_answer a _ (done_of-ok a e) (by_lost (at r Deleting) (rest_of r.ids) (one_gone r))
by_deleted r a (Err t) e = stops (at r Deleting) t (not_deleted r a t e)

sent_on : (r : Recovery) (id : ℕ) (o : Option AtomicItem) → slice_get r.gathered.kept r.sent ≡ o
    → Readies (at r Sending) (call.Sent id) (with_pending (at r Sending) o) (r.sent + 1)
    → Comes (at r Sending) (call.Sent id) (send_at (with_pending (at r Sending) o) (r.sent + 1))
sent_on r id (Some x) e ready = readied (with_pending (at r Sending) (Some x)) (r.sent + 1) (slice_get r.gathered.kept (r.sent + 1)) refl ready
sent_on r id None e ready = readied (with_pending (at r Sending) None) (r.sent + 1) (slice_get r.gathered.kept (r.sent + 1)) refl ready

by_sent : (r : Recovery) (a : Answer) (g : Result ℕ Trouble) → sent_of a ≡ g → Comes (at r Sending) a (sent_by (at r Sending) g)
by_sent r a (Ok id) e =
    let sent : (o : Option AtomicItem) → slice_get r.gathered.kept r.sent ≡ o → Comes (at r Sending) (call.Sent id) (send_at (with_pending (at r Sending) o) (r.sent + 1)) =
    λ o is. sent_on r id o is (subst (λ (p : Option AtomicItem). Readies (at r Sending) (call.Sent id) (with_pending (at r Sending) p) (r.sent + 1)) is (one_sent r id)) in
    by_answer a _ (sent_of-ok a id e) (sent (slice_get r.gathered.kept r.sent) refl)
by_sent r a (Err t) e = stops (at r Sending) t (not_sent r a t e)

by_cleared : {r : Recovery} {a : Answer} (q : Recovery) (ids : List ℕ) → Clears r a q ids → Comes r a (clearing q ids)
by_cleared q (id ∷ ids) c = clears q id ids c
by_cleared q [] c = sweeps q c

by_put : (r : Recovery) (a : Answer) (g : Result (Unit {0}) Trouble) → done_of a ≡ g → Comes (at r Putting) a (put_by (at r Putting) g)
by_put r a (Ok x) e = by_answer a _ (done_of-ok a e) (by_cleared (record (at r Putting) { swept = kept_ids r }) (kept_ids r) (head_put r))
by_put r a (Err t) e = stops (at r Putting) t (not_put r a t e)

by_opened : (r : Recovery) (ms : List Message) (items : List AtomicItem) (aim : Aim) → items_of ms ≡ Ok items → swept r items ≡ [] → r.aim ≡ aim
    → Comes (at r Sweeping) (call.Received ms) (opened aim (record (at r Sweeping) { swept = r.swept ++ []; ids = [] }))
by_opened r ms items Opening e none is = opens r ms items e none is
by_opened r ms items Settling e none is = closes r ms items e none is

by_past : (r : Recovery) (ms : List Message) (items : List AtomicItem) (ids : List ℕ) → items_of ms ≡ Ok items → swept r items ≡ ids
    → Comes (at r Sweeping) (call.Received ms) (sweeping (at r Sweeping) ids)
by_past r ms items (id ∷ ids) e are = clears_past r ms items id ids e are
by_past r ms items [] e are = by_opened r ms items r.aim e are refl

by_swept_items : (r : Recovery) (ms : List Message) (o : Result (List AtomicItem) Message) → items_of ms ≡ o
    → Comes (at r Sweeping) (call.Received ms) (swept_with (at r Sweeping) o)
by_swept_items r ms (Ok items) e = by_past r ms items (swept r items) e refl
by_swept_items r ms (Err m) e = stops (at r Sweeping) _ (bad_swept r ms m e)

by_swept : (r : Recovery) (a : Answer) (g : Result (List Message) Trouble) → received_of a ≡ g → Comes (at r Sweeping) a (swept_by (at r Sweeping) g)
by_swept r a (Ok ms) e = by_answer a _ (received_of-ok a ms e) (by_swept_items r ms (items_of ms) refl)
by_swept r a (Err t) e = stops (at r Sweeping) t (not_swept r a t e)

by_ending : (r : Recovery) (a : Answer) (o : Option (Result RecoverAnswer Trouble)) → r.ending ≡ o
    → Comes (at r Releasing) a (ended (record (at r Finished) { lease = None; ending = None }) o)
by_ending r a (Some (Ok answer)) e = ends r a answer e
by_ending r a (Some (Err t)) e = stopped r a t e
by_ending r a None e = astray r a e

comes_at : (stage : Stage) (r : Recovery) (a : Answer) → Comes (at r stage) a (next_at stage (at r stage) a)
comes_at ReleasingOld r a = gives_old r a
comes_at Taking r a = lease_taken r a (given_of (lock.Client r.client) a) refl
comes_at Getting r a = by_got r a (got_of a) refl
comes_at Receiving r a = by_received r a (received_of a) refl
comes_at Deleting r a = by_deleted r a (done_of a) refl
comes_at Sending r a = by_sent r a (sent_of a) refl
comes_at Putting r a = by_put r a (done_of a) refl
comes_at Clearing r a = by_cleared (at r Clearing) (rest_of r.ids) (one_tried r a)
comes_at Sweeping r a = by_swept r a (received_of a) refl
comes_at Releasing r a = by_ending r a r.ending refl
comes_at Finished r a = nothing r a

pub comes : (r : Recovery) (a : Answer) → Comes r a (recovery_next r a)
comes r a = comes_at r.stage r a

-- .. where it leads
pub comes_to : (r : Recovery) (a : Answer) (next : Step) → recovery_next r a ≡ next → Comes r a next
comes_to r a next leads = subst (Comes r a) leads (comes r a)
