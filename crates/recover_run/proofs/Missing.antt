-- A calm recovery with which nobody else acts waits for no record where none is missing.
use Rattle.std.proofs.Common.{◌≡◌, ◌≤◌, ℕ, List, [], ◌∷◌, length, false, Option, Some, None, Result, Ok, Err, refl, ap, sym, subst, ◌∙◌, arith}
use Rattle.std.specs.List.{AllByRecursion}
use Rattle.db_base.specs.declared.names.Lock.{Lock}
use Rattle.db_base.specs.declared.names.Lock.TheVariants as lock
use Rattle.db_base.specs.declared.names.ObjName.{ObjName}
use Rattle.db_base.specs.declared.names.ObjName.TheVariants as object
use Rattle.db_base.specs.declared.names.QueueName.{QueueName}
use Rattle.db_base.specs.declared.names.QueueName.TheVariants as queue
use Rattle.db_base.specs.declared.trouble.Trouble.{Trouble}
use Rattle.db_base.specs.declared.trouble.Trouble.TheVariants as trouble
use Rattle.head_codec.specs.declared.head.Head.{Head}
use Rattle.cloud_trait.specs.declared.answer.Answer.{Answer}
use Rattle.cloud_trait.specs.declared.answer.Answer.TheVariants.{Got, Sent, Received, Done, Given, Held, Late, Memory}
use Rattle.cloud_trait.specs.declared.state.Posted.{Posted}
use Rattle.cloud_trait.specs.declared.state.Version.{Version}
use Rattle.cloud_trait.specs.declared.turn.Turn.{Turn}
use Rattle.cloud_trait.specs.declared.turn.Turn.TheVariants.{More, Ended, Stopped}
use Rattle.cloud_trait.specs.Ask.{Ask, GetHeld, Release, PutsNothing, TouchesNoMessage}
use Rattle.cloud_trait.specs.Caller.{Caller}
use Rattle.cloud_trait.specs.Claim.{Claim}
use Rattle.cloud_trait.specs.Machine.{Goes, Ends, Stops, LeadsBy, Came, Deed, Took, calls_of}
use Rattle.cloud_trait.specs.Seen.{Seen}
use Rattle.cloud_trait.specs.State.{CloudState, Counts, newest, newest_of, called}
use Rattle.cloud_trait.specs.Views.{given_of, got_of, sent_of, received_of, done_of, trouble_of}
use Rattle.cloud_trait.specs.Weather.{counted, Weather, Makes}
use Rattle.cloud_trait.proofs.RowLemmas.{row_messages, row_versions}
use Rattle.cloud_trait.specs.Calm.{IsCalm, AreCalm, AreAlone}
use Rattle.recover_run.specs.declared.stage.Aim.{Aim}
use Rattle.recover_run.specs.declared.stage.Stage.{Stage}
use Rattle.recover_run.specs.declared.stage.Stage.TheVariants.{ReleasingOld, Taking, Getting, Receiving, Deleting, Releasing}
use Rattle.recover_run.specs.declared.stage.RecoverAnswer.{RecoverAnswer}
use Rattle.recover_run.specs.Calls.{Calls, head_in}
use Rattle.recover_run.specs.Emptying.{IsBeginning, deed_of}
use Rattle.recover_run.specs.Gathering.{nothing_gathered, lost_now, wanted_of}
use Rattle.recover_run.specs.Ids.{has_some, rest_of}
use Rattle.recover_run.specs.Meaning.{IsKeptRecord}
use Rattle.recover_run.specs.Missing.{IsComplete, NoneMissing, IsNoWaiting, WaitsForNone}
use Rattle.recover_run.specs.Recovery.{Recovery, Step, new_recovery, recovery_ask, recovery_next, ask_at, under, delete_next, receive_next, KeepsLeases}
use Rattle.recover_run.proofs.Outcomes.{gathered, Loses, Fails, Comes, comes}
use Rattle.recover_run.proofs.Outcomes as step
use Rattle.recover_run.proofs.CalmCalls.{Moves, along}
use Rattle.recover_run.proofs.Emptying.{delete_marks, row_at, receive_delivers}
use Rattle.recover_run.proofs.Calm.{memory_or}
use Rattle.recover_run.proofs.Knows.{KnowsAt, IsRising}
use Rattle.recover_run.proofs.Meaning.{Knows, came_known}
use Rattle.recover_run.proofs.Sifting.{HasSeen, deleted_complete, deleted_seen, received_seen, seen_whole}
use Rattle.recover_run.proofs.Sweeping.{Deletes, Delivers}

-- ---- what is known

-- the head is the newest, no record of it is missing, and nothing was gathered yet
abbrev Before : Head → Option (List ℕ) → List Posted → Recovery → Type 0
Before h v ms r = (head_in v ≡ Some h) × IsComplete (wanted_of h) ms × (r.gathered ≡ nothing_gathered)

abbrev NoWaitingEnding : Option (Result RecoverAnswer Trouble) → Type 0
NoWaitingEnding (Some (Ok a)) = Unit {0}
NoWaitingEnding (Some (Err t)) = IsNoWaiting t
NoWaitingEnding None = Unit {0}

abbrev MissAt : Stage → Head → Option (List ℕ) → List Posted → Recovery → Type 0
MissAt ReleasingOld h v ms r = Before h v ms r
MissAt Taking h v ms r = Before h v ms r
MissAt Getting h v ms r = Before h v ms r
MissAt Receiving h v ms r = IsComplete r.wanted ms × HasSeen r.wanted ms [] r.gathered
MissAt Deleting h v ms r = IsComplete r.wanted ms × HasSeen r.wanted ms r.ids r.gathered × (r.gathered.fresh ≡ false → length r.gathered.kept ≡ r.wanted.count)
MissAt Releasing h v ms r = NoWaitingEnding r.ending
MissAt st h v ms r = Unit {0}

abbrev MissNext : Head → Option (List ℕ) → List Posted → Step → Type 0
MissNext h v ms (Goes m) = MissAt m.stage h v ms m
MissNext h v ms (Ends m a) = Unit {0}
MissNext h v ms (Stops m t) = IsNoWaiting t

-- what a calm call up to the put did to the queue and heard of it and of the head
abbrev Reads : Answer → Option (List ℕ) → Type 0
Reads (Got u) v = u ≡ v
Reads a v = Unit {0}

abbrev DeletesDone : Answer → List ℕ → List Posted → List Posted → Type 0
DeletesDone Done ids ms ns = Deletes ids ms ns
DeletesDone a ids ms ns = Unit {0}

abbrev HeardAt : Stage → Recovery → Answer → Option (List ℕ) → Option (List ℕ) → List Posted → List Posted → Type 0
HeardAt ReleasingOld r a v u ms ns = (u ≡ v) × (ns ≡ ms)
HeardAt Taking r a v u ms ns = (u ≡ v) × (ns ≡ ms)
HeardAt Getting r a v u ms ns = (ns ≡ ms) × Reads a v
HeardAt Receiving r a v u ms ns = (ns ≡ ms) × Delivers a ms × ((cs : Calls) × AllByRecursion (IsKeptRecord r.wanted cs) r.gathered.kept × IsRising 1 r.gathered.kept)
HeardAt Deleting r a v u ms ns = DeletesDone a r.ids ms ns
HeardAt st r a v u ms ns = Unit {0}

-- ---- the troubles of answers

trouble_other : (a : Answer) → IsNoWaiting (trouble_of a)
trouble_other (Late e n) = tt
trouble_other Memory = tt
trouble_other a = tt

no_waiting : (a : Answer) (t : Trouble) → trouble_of a ≡ t → IsNoWaiting t
no_waiting a t e = subst IsNoWaiting e (trouble_other a)

got_other : (a : Answer) (t : Trouble) → got_of a ≡ Err t → IsNoWaiting t
got_other (Got v) t e = absurd (cc)
got_other a t e = no_waiting a t (cc)

received_other : (a : Answer) (t : Trouble) → received_of a ≡ Err t → IsNoWaiting t
received_other (Received ms) t e = absurd (cc)
received_other a t e = no_waiting a t (cc)

sent_other : (a : Answer) (t : Trouble) → sent_of a ≡ Err t → IsNoWaiting t
sent_other (Sent id) t e = absurd (cc)
sent_other a t e = no_waiting a t (cc)

done_other : (a : Answer) (t : Trouble) → done_of a ≡ Err t → IsNoWaiting t
done_other Done t e = absurd (cc)
done_other a t e = no_waiting a t (cc)

given_other : (k : Lock) (a : Answer) (t : Trouble) → given_of k a ≡ Err t → IsNoWaiting t
given_other k (Given l) t e = absurd (cc)
given_other k (Held until) t e = let same : trouble.Busy k until ≡ t = cc in subst IsNoWaiting same tt
given_other k a t e = no_waiting a t (cc)

-- ---- what is gathered

-- the head that was read is the one that is known
read_is : {r : Recovery} {a : Answer} {k : Head} → step.Reads r a k → (v : Option (List ℕ)) → Reads a v → head_in v ≡ Some k
read_is (step.spelled r bytes k e other) v heard = ap head_in (sym heard) ∙ e
read_is (step.absent r aims) v heard = ap head_in (sym heard)

read_at : {r : Recovery} {a : Answer} {k : Head} → step.Reads r a k → (v u : Option (List ℕ)) (ms ns : List Posted) → HeardAt r.stage r a v u ms ns → (ns ≡ ms) × Reads a v
read_at (step.spelled r bytes k e other) v u ms ns heard = heard
read_at (step.absent r aims) v u ms ns heard = heard

before_at : {r : Recovery} {a : Answer} {k : Head} → step.Reads r a k → (h : Head) (v : Option (List ℕ)) (ms : List Posted) → MissAt r.stage h v ms r → Before h v ms r
before_at (step.spelled r bytes k e other) h v ms is = is
before_at (step.absent r aims) h v ms is = is

none_some : (ids : List ℕ) → has_some ids ≡ false → ids ≡ []
none_some [] e = refl
none_some (id ∷ ids) e = absurd (cc)

-- these ids of lost records are still to be deleted
abbrev Sifts : List Posted → Recovery → List ℕ → Type 0
Sifts ms r ids = IsComplete r.wanted ms × HasSeen r.wanted ms ids r.gathered × (r.gathered.fresh ≡ false → length r.gathered.kept ≡ r.wanted.count)

one_deleted : (ms ns : List Posted) (r : Recovery) (ids : List ℕ) → Deletes ids ms ns → Sifts ms r ids → Sifts ns r (rest_of ids)
one_deleted ms ns r [] e is = absurd e
one_deleted ms ns r (id ∷ ids) e (c, k, whole) =
    subst (λ l. Sifts l r ids) (sym e) (deleted_complete r.wanted ms id k.named.0 c, deleted_seen r.wanted ms id ids r.gathered k, whole)

loses_misses : {r q : Recovery} {a : Answer} {ids : List ℕ} → Loses r a q ids → (h : Head) (v u : Option (List ℕ)) (ms ns : List Posted) → HeardAt r.stage r a v u ms ns
    → MissAt r.stage h v ms r → Sifts ns q ids
loses_misses (step.received r answer items e) h v u ms ns (same, delivers, (cs, kept, up)) (c, k) =
    subst (λ l. Sifts l (gathered r items) (lost_now r.wanted r.gathered items)) (sym same)
    (c, received_seen r.wanted ms r.gathered answer items e delivers c k, λ stale. seen_whole r.wanted ms r.gathered answer items cs (receive_next r) e delivers c k kept up (none_some _ stale))
loses_misses (step.one_gone r) h v u ms ns heard is = one_deleted ms ns r r.ids heard is

-- ---- each step

fails_misses : {r q : Recovery} {a : Answer} {t : Trouble} → Fails r a q t → (h : Head) (v u : Option (List ℕ)) (ms ns : List Posted) → HeardAt r.stage r a v u ms ns
    → MissAt r.stage h v ms r → IsNoWaiting t
fails_misses (step.no_head r a t e) h v u ms ns heard is = got_other a t e
fails_misses (step.no_messages r a t e) h v u ms ns heard is = received_other a t e
fails_misses (step.not_deleted r a t e) h v u ms ns heard is = done_other a t e
fails_misses (step.not_sent r a t e) h v u ms ns heard is = sent_other a t e
fails_misses (step.not_put r a t e) h v u ms ns heard is = done_other a t e
fails_misses (step.not_swept r a t e) h v u ms ns heard is = received_other a t e
fails_misses (step.waits q loses other stale) h v u ms ns heard is = absurd (other ((loses_misses loses h v u ms ns heard is).2 stale))
fails_misses f h v u ms ns heard is = tt

before_so : (h : Head) (v u : Option (List ℕ)) (ms ns : List Posted) (r : Recovery) → u ≡ v → ns ≡ ms → Before h v ms r → Before h u ns r
before_so h v u ms ns r e f is = subst (λ l. Before h u l r) (sym f) (subst (λ o. Before h o ms r) (sym e) is)

misses : {r : Recovery} {a : Answer} {next : Step} → Comes r a next → (h : Head) (v u : Option (List ℕ)) (ms ns : List Posted) → HeardAt r.stage r a v u ms ns
    → MissAt r.stage h v ms r → MissNext h u ns next
misses (step.gives_old r a) h v u ms ns heard is = before_so h v u ms ns r heard.0 heard.1 is
misses (step.takes r l) h v u ms ns heard is = before_so h v u ms ns r heard.0 heard.1 is
misses (step.refused r a t e) h v u ms ns heard is = given_other (lock.Client r.client) a t e
misses (step.stops q t f) h v u ms ns heard is = fails_misses f h v u ms ns heard is
misses {r = r} (step.reads_open k count reads e) h v u ms ns heard is =
    let was = before_at reads h v ms is in
    let both : Some h ≡ Some k = sym was.0 ∙ read_is reads v (read_at reads v u ms ns heard).1 in
    let same : h ≡ k = cc (both) in (
      subst (λ l. IsComplete (wanted_of k) l) (sym (read_at reads v u ms ns heard).0) (subst (λ x. IsComplete (wanted_of x) ms) same was.1),
      subst (λ g. HasSeen (wanted_of k) ns [] g) (sym was.2) (record { handled = tt; seen = tt; named = tt }),
    )
misses (step.deletes q id ids loses) h v u ms ns heard is = loses_misses loses h v u ms ns heard is
misses (step.receives q loses other new) h v u ms ns heard is = let k = loses_misses loses h v u ms ns heard is in (k.0, k.1)
misses (step.stopped r a t e) h v u ms ns heard is = subst NoWaitingEnding e is
misses c h v u ms ns heard is = tt

-- ---- what a calm call did and heard

under_puts : (r : Recovery) (o : Option Claim) → PutsNothing (under r o Release)
under_puts r (Some l) = tt
under_puts r None = tt

under_touches : (r : Recovery) (o : Option Claim) → TouchesNoMessage (under r o Release)
under_touches r (Some l) = tt
under_touches r None = tt

held_newest : (who : Caller) (name : ObjName) (l : Claim) (a : Answer) (c d : Counts) (b t : CloudState) → Weather who (GetHeld name l) a (counted c b) (counted d t) → Reads a (newest b name)
held_newest who name l (Got v) c d b t row = row.2
held_newest who name l a c d b t row = tt

delete_done : (who : Caller) (r : Recovery) (ids : List ℕ) (a : Answer) (c d : Counts) (b t : CloudState) → 1 ≤ length ids → Weather who (delete_next r ids) a (counted c b) (counted d t)
    → DeletesDone a ids (b.messages (queue.Atomic r.client)) (t.messages (queue.Atomic r.client))
delete_done who r [] Done c d b t some row = absurd (omega (arith, some))
delete_done who r (id ∷ ids) Done c d b t some row = delete_marks who (queue.Atomic r.client) id Done c d b t row tt (λ e. absurd (cc))
delete_done who r ids a c d b t some row = tt

same_messages : (from : Recovery) (ask : Ask) (d : Deed) (b t : CloudState) → Weather d.who ask d.answer (counted d.before.counts (called d.who t.now b)) (counted d.after.counts t) → TouchesNoMessage ask
    → t.messages (queue.Atomic from.client) ≡ b.messages (queue.Atomic from.client)
same_messages from ask d b t row touches =
    ap (λ (f : QueueName → List Posted). f (queue.Atomic from.client)) (row_messages d.who ask d.answer d.before.counts d.after.counts (called d.who t.now b) t row touches)

same_newest : (from : Recovery) (ask : Ask) (d : Deed) (b t : CloudState) → Weather d.who ask d.answer (counted d.before.counts (called d.who t.now b)) (counted d.after.counts t) → PutsNothing ask
    → newest t (object.Head from.client) ≡ newest b (object.Head from.client)
same_newest from ask d b t row puts =
    ap (λ (f : ObjName → List Version). newest_of (f (object.Head from.client))) (row_versions d.who ask d.answer d.before.counts d.after.counts (called d.who t.now b) t row puts)

heard_at : (st : Stage) (from : Recovery) (d : Deed) (b t : CloudState) (old : Option Claim) (cs : Calls) → from.stage ≡ st → Moves from d b t → KnowsAt st old cs from
    → HeardAt st from d.answer (newest b (object.Head from.client)) (newest t (object.Head from.client)) (b.messages (queue.Atomic from.client)) (t.messages (queue.Atomic from.client))
heard_at ReleasingOld from d b t old cs at m k =
    let row = row_at ReleasingOld from d b t at m in
    (same_newest from (ask_at ReleasingOld from) d b t row (under_puts from from.former), same_messages from (ask_at ReleasingOld from) d b t row (under_touches from from.former))
heard_at Taking from d b t old cs at m k =
    let row = row_at Taking from d b t at m in
    (same_newest from (ask_at Taking from) d b t row tt, same_messages from (ask_at Taking from) d b t row tt)
heard_at Getting from d b t old cs at m k =
    let row : Weather d.who (GetHeld (object.Head from.client) k.lease) d.answer (counted d.before.counts (called d.who t.now b)) (counted d.after.counts t) =
    subst (λ ask. Weather d.who ask d.answer (counted d.before.counts (called d.who t.now b)) (counted d.after.counts t)) (ap (λ n. ask_at Getting n) k.is) (row_at Getting from d b t at m) in (
      same_messages from (GetHeld (object.Head from.client) k.lease) d b t row tt,
      held_newest d.who (object.Head from.client) k.lease d.answer d.before.counts d.after.counts (called d.who t.now b) t row,
    )
heard_at Receiving from d b t old cs at m k = (
  same_messages from (ask_at Receiving from) d b t (row_at Receiving from d b t at m) tt,
  receive_delivers from d b t m (ap (λ s. ask_at s from) at) d.answer refl,
  (k.known.gathers, k.known.brought, k.known.rising),
)
heard_at Deleting from d b t old cs at m k =
    delete_done d.who from from.ids d.answer d.before.counts d.after.counts (called d.who t.now b) t k.some (row_at Deleting from d b t at m)
heard_at st from d b t old cs at m k = tt

-- ---- the whole run

-- what is known, by a state
abbrev MissIn : ℕ → Head → Recovery → CloudState → Type 0
MissIn client h r s = MissAt r.stage h (newest s (object.Head client)) (s.messages (queue.Atomic client)) r

step_misses : (client : ℕ) (aim : Aim) (old : Option Claim) (h : Head) (cs : Calls) (from : Recovery) (d : Deed) (b t : CloudState) → Knows client aim old cs from → Moves from d b t
    → MissIn client h from b → MissNext h (newest t (object.Head client)) (t.messages (queue.Atomic client)) (recovery_next from d.answer)
step_misses client aim old h cs from d b t k m is =
    subst (λ c. MissNext h (newest t (object.Head c)) (t.messages (queue.Atomic c)) (recovery_next from d.answer)) k.client_is
    (misses (comes from d.answer) h (newest b (object.Head from.client)) (newest t (object.Head from.client)) (b.messages (queue.Atomic from.client))
    (t.messages (queue.Atomic from.client)) (heard_at from.stage from d b t old cs refl m k.at) (subst (λ c. MissIn c h from b) (sym k.client_is) is))

start_misses : (client : ℕ) (aim : Aim) (old : Option Claim) (first : CloudState) (n : NoneMissing client first) → MissIn client n.head (new_recovery client aim old) first
start_misses client aim None first n = (n.reads, n.complete, refl)
start_misses client aim (Some l) first n = (n.reads, n.complete, refl)

all_unit : (xs : List Deed) → AllByRecursion (λ (x : Deed). Unit {0}) xs
all_unit [] = tt
all_unit (x ∷ xs) = (tt, all_unit xs)

came_misses : (client : ℕ) (aim : Aim) (old : Option Claim) (first : CloudState) (n : NoneMissing client first) (h : List Deed) (d : Deed) (r : Recovery)
    → Came recovery_ask (LeadsBy recovery_next) (new_recovery client aim old) h r → AreCalm h → AreAlone (d ∷ h) → IsBeginning (d ∷ h) first
    → (now : CloudState) → d.before.state ≡ Some now → MissIn client n.head r now
came_misses client aim old first n h d r came calm alone begins now at =
    along (MissIn client n.head) (λ c. Unit {0}) client aim old first (start_misses client aim old first n)
    (λ cs from m c b t k moves any goes is.
    subst (MissNext n.head (newest t (object.Head client)) (t.messages (queue.Atomic client))) goes (step_misses client aim old n.head cs from c b t k moves is))
    h d r came (all_unit h) calm alone begins now at

last_misses : (client : ℕ) (aim : Aim) (old : Option Claim) (first : CloudState) (n : NoneMissing client first) (h : List Deed) (d : Deed) (r new : Recovery) (t : Trouble)
    → Came recovery_ask (LeadsBy recovery_next) (new_recovery client aim old) h r → d.ask ≡ recovery_ask r → Makes d.who d.ask d.answer d.before d.after
    → recovery_next r d.answer ≡ Stops new t → AreCalm (d ∷ h) → AreAlone (d ∷ h) → IsBeginning (d ∷ h) first → IsNoWaiting t
last_misses client aim old first n h d r new t came asks made stops calm alone begins =
    let c : IsCalm d = calm.0 in
    let m : Moves r d c.before c.after = record { asks = asks; made = made; calm = c; before = c.told; after = c.left } in
    subst (MissNext n.head (newest c.after (object.Head client)) (c.after.messages (queue.Atomic client))) stops
    (step_misses client aim old n.head (calls_of h) r d c.before c.after (came_known client aim old h r came) m
    (came_misses client aim old first n h d r came calm.1 alone begins c.before c.told))

pub came_waits : (who : Caller) (before after : Seen) (old new : Recovery) (a : Answer) (turn : Turn RecoverAnswer) → Makes who (recovery_ask old) a before after
    → Took (LeadsBy recovery_next) KeepsLeases old a new turn → (client : ℕ) (aim : Aim) (former : Option Claim) (h : List Deed)
    → Came recovery_ask (LeadsBy recovery_next) (new_recovery client aim former) h old → AreCalm (deed_of who old a before after ∷ h)
    → AreAlone (deed_of who old a before after ∷ h) → (first : CloudState) → IsBeginning (deed_of who old a before after ∷ h) first → NoneMissing client first → WaitsForNone turn
came_waits who before after old new a More made took client aim former h came calm alone first begins n = tt
came_waits who before after old new a (Ended answer) made took client aim former h came calm alone first begins n = tt
came_waits who before after old new a (Stopped t) made took client aim former h came calm alone first begins n =
    memory_or IsNoWaiting t tt (λ other. last_misses client aim former first n h (deed_of who old a before after) old new t came refl made (took.0 other) calm alone begins)
