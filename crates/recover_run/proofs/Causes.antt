-- Why a recovery stops: each trouble is shown by the answer of the step that brings it.
use Rattle.std.proofs.Common.{◌≡◌, ◌≢◌, ◌≤◌, ℕ, List, [], ◌∷◌, length, Bool, Option, Some, None, Result, Ok, Err, inl, inr, refl, ap, sym, subst, ◌∙◌, arith}
use Rattle.std.specs.Prelude.{slice_get}
use Rattle.std.specs.List.{AllByRecursion}
use Rattle.db_base.specs.declared.names.Lock.TheVariants as lock
use Rattle.db_base.specs.declared.names.ObjName.{ObjName}
use Rattle.db_base.specs.declared.names.ObjName.TheVariants as object
use Rattle.db_base.specs.declared.names.QueueName.{QueueName}
use Rattle.db_base.specs.declared.names.QueueName.TheVariants as queue
use Rattle.db_base.specs.declared.trouble.Trouble.TheVariants as trouble
use Rattle.route_plan.specs.Queue.{queue_name}
use Rattle.cloud_trait.specs.declared.answer.Answer.TheVariants as call
use Rattle.recover_run.specs.Calls.{Brought, HoldsItem}
use Rattle.recover_run.specs.Causes.{NothingNew, Counts, IsSifted, Shows, IsShown, Tells}
use Rattle.recover_run.specs.Counting.{known_indices}
use Rattle.recover_run.specs.Gathering.{kept_with}
use Rattle.recover_run.specs.Items.{items_of}
use Rattle.recover_run.specs.Recovery.{under, receive_next, delete_next, send_next}
use Rattle.recover_run.proofs.Heard.{FreshIs, HeardAt, AscendAt, loses_heard, went_heard, went_ascend}
use Rattle.recover_run.proofs.KeptRecords.{all_so, all_held, kept_more, kept_all, kept_rising, rising_room}
use Rattle.recover_run.proofs.Knows.{KnowsAt, Gathering, KnowsTaken}
use Rattle.recover_run.proofs.Meaning.{came_known}
use Rattle.recover_run.proofs.Outcomes.{at, Reads, Loses, Readies, Clears, Fails, Comes, comes_to}
use Rattle.recover_run.proofs.Outcomes as step
use Rattle.recover_run.proofs.Turns.{loses_works, readies_works, clears_works}
use Rattle.recover_run.proofs.Leases.{KeepsEnding, stands_ends, went_stands}
use Rattle.recover_run.proofs.Words.{Trouble, Answer, Message, Turn, More, Ended, Stopped, Ask, GetHeld, PutHeld, Send, Receive, Delete, Take, Claim, Goes, Ends, Stops, LeadsBy, Took, Deed, calls_of, given_of, got_of, sent_of, received_of, done_of, Fits, AtomicItem, Aim, Taking, Getting, Receiving, Deleting, Sending, Putting, Sweeping, RecoverAnswer, Calls, Recovery, Step, recovery_ask, recovery_next, KeepsLeases, Went}

-- ---- calls that brought nothing

err_is : {A : Type 0} (t u : Trouble) → ◌≡◌ {A = Result A Trouble} (Err t) (Err u) → t ≡ u
err_is t u e = cc (e)

take_missed : (r : Recovery) (calls : Calls) (a : Answer) (t : Trouble) → Fits (Take (lock.Client r.client) 600) a → given_of (lock.Client r.client) a ≡ Err t
    → Shows (at r Taking) a calls t
take_missed r calls call.Failed t fits e = subst (Shows (at r Taking) call.Failed calls) (err_is trouble.Failed t e) (tt, refl)
take_missed r calls call.Memory t fits e = subst (Shows (at r Taking) call.Memory calls) (err_is trouble.Memory t e) tt
take_missed r calls (call.Held until) t fits e =
    subst (Shows (at r Taking) (call.Held until) calls) (err_is (trouble.Busy (lock.Client r.client) until) t e) (refl, refl, refl)
take_missed r calls (call.Given l) t fits e = absurd (cc (e))
take_missed r calls a t fits e = absurd fits

get_missed : (r : Recovery) (calls : Calls) (name : ObjName) (l : Claim) (a : Answer) (t : Trouble) → Counts r.stage → Fits (GetHeld name l) a → got_of a ≡ Err t → Shows r a calls t
get_missed r calls name l call.Failed t counts fits e = subst (Shows r call.Failed calls) (err_is trouble.Failed t e) (counts, refl)
get_missed r calls name l call.Memory t counts fits e = subst (Shows r call.Memory calls) (err_is trouble.Memory t e) tt
get_missed r calls name l (call.Late end now) t counts fits e = subst (Shows r (call.Late end now) calls) (err_is (trouble.Late end now) t e) refl
get_missed r calls name l (call.Got v) t counts fits e = absurd (cc (e))
get_missed r calls name l a t counts fits e = absurd fits

receive_missed : (r : Recovery) (calls : Calls) (queue : QueueName) (a : Answer) (t : Trouble) → Counts r.stage → Fits (Receive queue 256) a → received_of a ≡ Err t → Shows r a calls t
receive_missed r calls queue call.Failed t counts fits e = subst (Shows r call.Failed calls) (err_is trouble.Failed t e) (counts, refl)
receive_missed r calls queue call.Memory t counts fits e = subst (Shows r call.Memory calls) (err_is trouble.Memory t e) tt
receive_missed r calls queue (call.Received ms) t counts fits e = absurd (cc (e))
receive_missed r calls queue a t counts fits e = absurd fits

send_missed : (r : Recovery) (calls : Calls) (queue : QueueName) (bytes : List ℕ) (a : Answer) (t : Trouble) → Counts r.stage → Fits (Send queue bytes) a → sent_of a ≡ Err t
    → Shows r a calls t
send_missed r calls queue bytes call.Failed t counts fits e = subst (Shows r call.Failed calls) (err_is trouble.Failed t e) (counts, refl)
send_missed r calls queue bytes call.Memory t counts fits e = subst (Shows r call.Memory calls) (err_is trouble.Memory t e) tt
send_missed r calls queue bytes (call.Sent id) t counts fits e = absurd (cc (e))
send_missed r calls queue bytes a t counts fits e = absurd fits

delete_missed : (r : Recovery) (calls : Calls) (queue : QueueName) (id : ℕ) (a : Answer) (t : Trouble) → Counts r.stage → Fits (Delete queue id) a → done_of a ≡ Err t → Shows r a calls t
delete_missed r calls queue id call.Failed t counts fits e = subst (Shows r call.Failed calls) (err_is trouble.Failed t e) (counts, refl)
delete_missed r calls queue id call.Memory t counts fits e = subst (Shows r call.Memory calls) (err_is trouble.Memory t e) tt
delete_missed r calls queue id call.Done t counts fits e = absurd (cc (e))
delete_missed r calls queue id a t counts fits e = absurd fits

put_missed : (r : Recovery) (calls : Calls) (name : ObjName) (bytes : List ℕ) (one : Claim) (two : Option Claim) (a : Answer) (t : Trouble) → Counts r.stage
    → Fits (PutHeld name bytes one two) a → done_of a ≡ Err t → Shows r a calls t
put_missed r calls name bytes one two call.Failed t counts fits e = subst (Shows r call.Failed calls) (err_is trouble.Failed t e) (counts, refl)
put_missed r calls name bytes one two call.Memory t counts fits e = subst (Shows r call.Memory calls) (err_is trouble.Memory t e) tt
put_missed r calls name bytes one two (call.Late end now) t counts fits e = subst (Shows r (call.Late end now) calls) (err_is (trouble.Late end now) t e) refl
put_missed r calls name bytes one two call.Done t counts fits e = absurd (cc (e))
put_missed r calls name bytes one two a t counts fits e = absurd fits

-- ---- the call in hand is what its stage asks

pub held_fits : (r : Recovery) (o : Option Claim) (l : Claim) (ask : Claim → Ask) (a : Answer) → o ≡ Some l → Fits (under r o ask) a → Fits (ask l) a
held_fits r o l ask a e fits = subst (λ (p : Option Claim). Fits (under r p ask) a) e fits

pub delete_fits : (r : Recovery) (ids : List ℕ) (a : Answer) → 1 ≤ length ids → Fits (delete_next r ids) a → (id : ℕ) × Fits (Delete (queue.Atomic r.client) id) a
delete_fits r [] a some fits = absurd (omega (arith, some))
delete_fits r (id ∷ ids) a some fits = (id, fits)

pub send_fits : (r : Recovery) (o : Option AtomicItem) (x : AtomicItem) (a : Answer) → o ≡ Some x → Fits (send_next r o) a
    → (to : QueueName) × ((bytes : List ℕ) × Fits (Send to bytes) a)
send_fits r (Some y) x a e fits = (queue_name y.rec.tree y.rec.page, (r.out, fits))
send_fits r None x a e fits = absurd (cc (e))

pub lease_taken : (old : Option Claim) (cs : Calls) (r : Recovery) (k : KnowsTaken old cs r) → r.lease ≡ Some k.lease
lease_taken old cs r k = ap (λ (m : Recovery). m.lease) k.is

-- ---- records that are missing

-- no more records are kept than the head counts
kept_few : (r : Recovery) (old : Option Claim) (cs : Calls) → Gathering old cs r → length r.gathered.kept ≤ r.wanted.count
kept_few r old cs k = omega (arith, rising_room r.wanted k.known.gathers 1 r.gathered.kept k.known.rising k.known.brought (omega arith))

received_few : (r : Recovery) (old : Option Claim) (cs : Calls) (ms : List Message) (items : List AtomicItem) → Gathering old cs r → items_of ms ≡ Ok items
    → length (kept_with r.wanted r.gathered.kept items) ≤ r.wanted.count
received_few r old cs ms items k e =
    let c : Ask × Answer = (receive_next r, call.Received ms) in
    let now : Calls = c ∷ k.known.gathers in
    let brought : AllByRecursion (λ (x : AtomicItem). Brought x now) items =
    all_so (λ (x : AtomicItem). HoldsItem x ms) (λ (x : AtomicItem). Brought x now) (λ x h. inl (ms, refl, h)) items (all_held ms items e) in
    let rising = kept_rising r.wanted now r.gathered.kept items k.known.rising brought in
    let kept = kept_all r.wanted now r.gathered.kept items (kept_more r.wanted c k.known.gathers r.gathered.kept k.known.brought) brought in
    omega (arith, rising_room r.wanted now 1 (kept_with r.wanted r.gathered.kept items) rising kept (omega arith))

pub loses_few : {r : Recovery} {a : Answer} (q : Recovery) (ids : List ℕ) (old : Option Claim) (cs : Calls) → KnowsAt r.stage old cs r → Loses r a q ids
    → length q.gathered.kept ≤ q.wanted.count
loses_few q ids old cs k (step.received r ms items e) = received_few (at r Receiving) old cs ms items k e
loses_few q ids old cs k (step.one_gone r) = kept_few (at r Deleting) old cs k.so_far

loses_sifted : {r : Recovery} {a : Answer} (q : Recovery) (ids : List ℕ) → ids ≡ [] → Loses r a q ids → IsSifted r a
loses_sifted q ids none (step.received r ms items e) = inl (refl, (ms, (items, refl, e, none)))
loses_sifted q ids none (step.one_gone r) = inr (refl, refl, none)

-- ---- a step

abbrev NextTells : Recovery → Answer → Calls → Step → Type 0
NextTells r a calls (Goes n) = (t : Trouble) → n.ending ≡ Some (Err t) → IsShown r a calls t
NextTells r a calls (Ends n x) = (t : Trouble) → r.ending ≢ Some (Err t)
NextTells r a calls (Stops n t) = t ≢ trouble.Memory → IsShown r a calls t

-- the trouble of a stop is shown
fails_shown : {r : Recovery} {a : Answer} (q : Recovery) (t : Trouble) (old : Option Claim) (cs : Calls) → KnowsAt r.stage old cs r → HeardAt r.stage cs r
    → AscendAt r.stage r → Fits (recovery_ask r) a → Fails r a q t → Shows r a ((recovery_ask r, a) ∷ cs) t
fails_shown q t old cs k heard up fits (step.no_head r a u e) =
    get_missed (at r Getting) _ (object.Head r.client) k.lease a u tt
    (held_fits (at r Getting) r.lease k.lease (λ l. GetHeld (object.Head r.client) l) a (lease_taken old cs (at r Getting) k) fits) e
fails_shown q t old cs k heard up fits (step.no_messages r a u e) = receive_missed (at r Receiving) _ (queue.Atomic r.client) a u tt fits e
fails_shown q t old cs k heard up fits (step.not_deleted r a u e) =
    let one = delete_fits (at r Deleting) r.ids a k.some fits in
    delete_missed (at r Deleting) _ (queue.Atomic r.client) one.0 a u tt one.1 e
fails_shown q t old cs k heard up fits (step.not_sent r a u e) =
    let one = send_fits (at r Sending) (slice_get r.gathered.kept r.sent) k.item a k.here fits in
    send_missed (at r Sending) _ one.0 one.1.0 a u tt one.1.1 e
fails_shown q t old cs k heard up fits (step.not_put r a u e) =
    put_missed (at r Putting) _ (object.Head r.client) r.out k.0.known.reading.lease None a u tt
    (held_fits (at r Putting) r.lease k.0.known.reading.lease (λ l. PutHeld (object.Head r.client) r.out l None) a k.0.known.lease_is fits) e
fails_shown q t old cs k heard up fits (step.not_swept r a u e) = receive_missed (at r Sweeping) _ (queue.Atomic r.client) a u tt fits e
fails_shown q t old cs k heard up fits (step.bad_head r bytes e) = inl (refl, (bytes, refl, e, refl, refl))
fails_shown q t old cs k heard up fits (step.last_epoch r bytes h e last) = (refl, (refl, (Some bytes, (h, refl, e, last))))
fails_shown q t old cs k heard up fits (step.bad_message r ms m e) = inr (inl refl, (ms, (m, refl, e, refl, refl)))
fails_shown q t old cs k heard up fits (step.bad_swept r ms m e) = inr (inr refl, (ms, (m, refl, e, refl, refl)))
fails_shown {r = r} {a = a} q t old cs k heard up fits (step.waits d loses other stale) =
    let is = loses_heard cs d [] heard up loses in
    let few : length d.gathered.kept ≤ d.wanted.count = loses_few d [] old cs k loses in
    record {
      sifted = loses_sifted d [] refl loses;
      none = subst (λ (b : Bool). FreshIs b (NothingNew ((recovery_ask r, a) ∷ cs))) stale is.1;
      have_is = is.0.kept.many ∙ ap (λ w. length (known_indices w ((recovery_ask r, a) ∷ cs))) is.0.wanted;
      need_is = ap (λ w. w.count) is.0.wanted;
      fewer = omega (arith, other, few);
    }

none_kept : {A : Type 0} (o : Option (Result A Trouble)) (t : Trouble) → o ≡ None → o ≡ Some (Err t) → ⊥
none_kept o t none e = cc (none, e)

tells_after : {r : Recovery} {a : Answer} {next : Step} (old : Option Claim) (cs : Calls) → KnowsAt r.stage old cs r → HeardAt r.stage cs r → AscendAt r.stage r
    → KeepsEnding r.stage r.ending → Fits (recovery_ask r) a → Comes r a next → NextTells r a ((recovery_ask r, a) ∷ cs) next
tells_after old cs k heard up none fits (step.gives_old r a) = λ t e. inl e
tells_after old cs k heard up none fits (step.takes r l) = λ t e. inl e
tells_after old cs k heard up none fits (step.refused r a t e) = λ other. inr (take_missed r _ a t fits e)
tells_after {r = r} {a = a} old cs k heard up none fits (step.stops q t f) = λ u e.
    let same : t ≡ u = cc (e) in
    inr (subst (Shows r a ((recovery_ask r, a) ∷ cs)) same (fails_shown q t old cs k heard up fits f))
tells_after old cs k heard up none fits (step.finds_none r aims) = λ t e. absurd (cc (e))
tells_after old cs k heard up none fits (step.reads_settled h reads e) = λ t kept. inl kept
tells_after old cs k heard up none fits (step.reads_open h count reads e) = λ t kept. inl kept
tells_after old cs k heard up none fits (step.deletes q id ids loses) = λ t e. inl (sym (loses_works loses).ending ∙ e)
tells_after old cs k heard up none fits (step.receives q loses other new) = λ t e. inl (sym (loses_works loses).ending ∙ e)
tells_after old cs k heard up none fits (step.sends q place x ready is) = λ t e. inl (sym (readies_works ready).ending ∙ e)
tells_after old cs k heard up none fits (step.puts q place ready is) = λ t e. inl (sym (readies_works ready).ending ∙ e)
tells_after old cs k heard up none fits (step.clears q id ids c) = λ t e. inl (sym (clears_works c).ending ∙ e)
tells_after old cs k heard up none fits (step.sweeps q c) = λ t e. inl (sym (clears_works c).ending ∙ e)
tells_after old cs k heard up none fits (step.clears_past r ms items id ids e are) = λ t kept. inl kept
tells_after old cs k heard up none fits (step.opens r ms items e past is) = λ t kept. none_kept r.ending t none kept
tells_after old cs k heard up none fits (step.closes r ms items e past is) = λ t kept. absurd (cc (kept))
tells_after old cs k heard up none fits (step.ends r a answer e) = λ t kept. absurd (cc (e, kept))
tells_after old cs k heard up none fits (step.stopped r a t e) = λ other. inl e
tells_after old cs k heard up none fits (step.astray r a e) = absurd (none e)
tells_after old cs k heard up none fits (step.nothing r a) = absurd none

pub took_tells : (client : ℕ) (aim : Aim) (old : Option Claim) (h : List Deed) (r n : Recovery) (a : Answer) (turn : Turn RecoverAnswer) → Went client aim old h r
    → Fits (recovery_ask r) a → Took (LeadsBy recovery_next) KeepsLeases r a n turn → Tells r a ((recovery_ask r, a) ∷ calls_of h) n turn
took_tells client aim old h r n a turn went fits took = on turn took where
  there : (next : Step) → recovery_next r a ≡ next → NextTells r a ((recovery_ask r, a) ∷ calls_of h) next
  there next leads =
      tells_after old (calls_of h) (came_known client aim old h r went).at (went_heard client aim old h r went) (went_ascend client aim old h r went)
      (stands_ends r.stage client aim old h r (went_stands client aim old h r went)) fits (comes_to r a next leads)

  on : (turn : Turn RecoverAnswer) → Took (LeadsBy recovery_next) KeepsLeases r a n turn → Tells r a ((recovery_ask r, a) ∷ calls_of h) n turn
  on More took = there (Goes n) took
  on (Ended x) took = there (Ends n x) took
  on (Stopped t) took = λ k. there (Stops n t) (took.0 k) k
