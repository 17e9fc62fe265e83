-- A calm recovery with which nobody else acts leaves no message of past epochs in its queue.
use Rattle.std.proofs.Common.{◌≡◌, ◌≢◌, ◌≤◌, ◌+◌, ℕ, List, [], ◌∷◌, length, Option, Some, None, refl, ap, sym, subst, ◌∙◌, arith}
use Rattle.db_base.specs.declared.names.QueueName.{QueueName}
use Rattle.db_base.specs.declared.names.QueueName.TheVariants as queue
use Rattle.head_codec.specs.declared.head.Head.{Head}
use Rattle.cloud_trait.specs.declared.answer.Answer.{Answer}
use Rattle.cloud_trait.specs.declared.answer.Answer.TheVariants.{Received, Done, Failed, Memory}
use Rattle.cloud_trait.specs.declared.state.Posted.{Posted}
use Rattle.cloud_trait.specs.declared.turn.Turn.{Turn}
use Rattle.cloud_trait.specs.declared.turn.Turn.TheVariants.{More, Ended, Stopped}
use Rattle.cloud_trait.specs.Ask.{Receive, Delete, Release, TouchesNoMessage}
use Rattle.cloud_trait.specs.Caller.{Caller}
use Rattle.cloud_trait.specs.Claim.{Claim}
use Rattle.cloud_trait.specs.Delivery.{unmarked}
use Rattle.cloud_trait.specs.Machine.{Ends, LeadsBy, Came, Deed, Took, calls_of}
use Rattle.cloud_trait.specs.Names.{queue_cmp}
use Rattle.cloud_trait.specs.Seen.{Seen}
use Rattle.cloud_trait.specs.State.{CloudState, Counts, called, marked}
use Rattle.cloud_trait.specs.Weather.{counted, Weather, Makes}
use Rattle.cloud_trait.proofs.NameLemmas.{queue_cmp-total}
use Rattle.cloud_trait.proofs.RowLemmas.{row_messages}
use Rattle.cloud_trait.proofs.StateLemmas.{put_at_same}
use Rattle.cloud_trait.specs.Calm.{GoesWell, IsCalm, AreCalm, AreAlone}
use Rattle.cloud_trait.proofs.CalmLemmas.{goes_well, delivers}
use Rattle.recover_run.specs.declared.stage.Aim.{Aim}
use Rattle.recover_run.specs.declared.stage.Stage.{Stage}
use Rattle.recover_run.specs.declared.stage.Stage.TheVariants.{Clearing, Sweeping, Releasing}
use Rattle.recover_run.specs.declared.stage.RecoverAnswer.{RecoverAnswer}
use Rattle.recover_run.specs.declared.stage.RecoverAnswer.TheVariants.{Opened, Nothing}
use Rattle.recover_run.specs.declared.wanted.Wanted.{Wanted}
use Rattle.recover_run.specs.Calls.{Calls}
use Rattle.recover_run.specs.Emptying.{IsBeginning, HadMemory, HasNoLater, IsUptoEpoch, LeavesNone, deed_of}
use Rattle.recover_run.specs.Recovery.{Recovery, Step, new_recovery, recovery_ask, recovery_next, ask_at, under, delete_next, KeepsLeases}
use Rattle.recover_run.proofs.CalmCalls.{Moves, Shrunk, along, row_of_move, move_shrinks, shrunk_all, unmarked_since}
use Rattle.recover_run.proofs.Knows.{KnowsAt, Put}
use Rattle.recover_run.proofs.Meaning.{Knows, came_known}
use Rattle.recover_run.proofs.Sweeping.{SweptAt, SweptNext, Delivers, Deletes, HeardAt, swept}
use Rattle.recover_run.proofs.Outcomes.{Comes, comes, comes_to}
use Rattle.recover_run.proofs.Outcomes as step

-- ---- what a calm call did to the queue

pub delete_marks : (who : Caller) (q : QueueName) (id : ℕ) (a : Answer) (c d : Counts) (b t : CloudState) → Weather who (Delete q id) a (counted c b) (counted d t) → GoesWell a → a ≢ Memory
    → t.messages q ≡ marked (b.messages q) id
delete_marks who q id Done c d b t row well other =
    ap (λ (u : CloudState). u.messages q) row.0 ∙ put_at_same queue_cmp queue_cmp-total b.messages q (marked (b.messages q) id)
delete_marks who q id Failed c d b t row well other = absurd well
delete_marks who q id Memory c d b t row well other = absurd (other refl)
delete_marks who q id a c d b t row well other = absurd row

deletes_heard : (who : Caller) (r : Recovery) (ids : List ℕ) (a : Answer) (c d : Counts) (b t : CloudState) → 1 ≤ length ids → Weather who (delete_next r ids) a (counted c b) (counted d t)
    → GoesWell a → a ≢ Memory → Deletes ids (b.messages (queue.Atomic r.client)) (t.messages (queue.Atomic r.client))
deletes_heard who r [] a c d b t some row well other = absurd (omega (arith, some))
deletes_heard who r (id ∷ ids) a c d b t some row well other = delete_marks who (queue.Atomic r.client) id a c d b t row well other

pub receive_delivers : (from : Recovery) (d : Deed) (b t : CloudState) → Moves from d b t → recovery_ask from ≡ Receive (queue.Atomic from.client) 256
    → (a : Answer) → d.answer ≡ a → Delivers a (b.messages (queue.Atomic from.client))
receive_delivers from d b t m asks (Received ms) e = delivers d (queue.Atomic from.client) 256 ms b m.made m.calm (m.asks ∙ asks) e m.before
receive_delivers from d b t m asks a e = tt

release_touches : (r : Recovery) (o : Option Claim) → TouchesNoMessage (under r o Release)
release_touches r (Some l) = tt
release_touches r None = tt

-- behind the put the head is of the epoch behind the one that was read
put_epoch : (old : Option Claim) (cs : Calls) (r : Recovery) → Put old cs r → r.head.epoch ≡ r.wanted.epoch + 1
put_epoch old cs r k = ap (λ (h : Head). h.epoch) k.head_is ∙ sym (ap (λ (w : Wanted). w.epoch + 1) k.known.wanted_is)

pub row_at : (st : Stage) (from : Recovery) (d : Deed) (b t : CloudState) → from.stage ≡ st → Moves from d b t
    → Weather d.who (ask_at st from) d.answer (counted d.before.counts (called d.who t.now b)) (counted d.after.counts t)
row_at st from d b t at m =
    subst (λ s. Weather d.who (ask_at s from) d.answer (counted d.before.counts (called d.who t.now b)) (counted d.after.counts t)) at (row_of_move from d b t m)

-- by the stage; only of a deletion it matters whether memory ran out
heard_at : (st : Stage) (from : Recovery) (d : Deed) (b t : CloudState) (old : Option Claim) (cs : Calls) → from.stage ≡ st → Moves from d b t → KnowsAt st old cs from
    → (st ≡ Clearing → d.answer ≢ Memory) → HeardAt st from d.answer (b.messages (queue.Atomic from.client)) (t.messages (queue.Atomic from.client))
heard_at Clearing from d b t old cs at m k other =
    deletes_heard d.who from from.ids d.answer d.before.counts d.after.counts (called d.who t.now b) t k.some (row_at Clearing from d b t at m)
    (goes_well d m.made m.calm) (other refl)
heard_at Sweeping from d b t old cs at m k other = (
  ap (λ (f : QueueName → List Posted). f (queue.Atomic from.client))
      (row_messages d.who (ask_at Sweeping from) d.answer d.before.counts d.after.counts (called d.who t.now b) t (row_at Sweeping from d b t at m) tt),
  receive_delivers from d b t m (ap (λ s. ask_at s from) at) d.answer refl,
  put_epoch old cs from k,
)
heard_at Releasing from d b t old cs at m k other =
    ap (λ (f : QueueName → List Posted). f (queue.Atomic from.client))
    (row_messages d.who (ask_at Releasing from) d.answer d.before.counts d.after.counts (called d.who t.now b) t (row_at Releasing from d b t at m)
    (release_touches from from.lease))
heard_at st from d b t old cs at m k other = tt

-- ---- the whole run

step_swept : (client : ℕ) (aim : Aim) (old : Option Claim) (cs : Calls) (from : Recovery) (d : Deed) (b t : CloudState) → Knows client aim old cs from → Moves from d b t
    → (from.stage ≡ Clearing → d.answer ≢ Memory) → SweptAt from.stage (b.messages (queue.Atomic client)) from
    → SweptNext (t.messages (queue.Atomic client)) (recovery_next from d.answer)
step_swept client aim old cs from d b t k m other is =
    subst (λ c. SweptNext (t.messages (queue.Atomic c)) (recovery_next from d.answer)) k.client_is
    (swept (comes from d.answer) (b.messages (queue.Atomic from.client)) (t.messages (queue.Atomic from.client))
    (heard_at from.stage from d b t old cs refl m k.at other)
    (subst (λ c. SweptAt from.stage (b.messages (queue.Atomic c)) from) (sym k.client_is) is))

start_swept : (client : ℕ) (aim : Aim) (old : Option Claim) (ms : List Posted) → SweptAt (new_recovery client aim old).stage ms (new_recovery client aim old)
start_swept client aim None ms = tt
start_swept client aim (Some l) ms = tt

came_swept : (client : ℕ) (aim : Aim) (old : Option Claim) (first : CloudState) (h : List Deed) (d : Deed) (r : Recovery)
    → Came recovery_ask (LeadsBy recovery_next) (new_recovery client aim old) h r → HadMemory h → AreCalm h → AreAlone (d ∷ h) → IsBeginning (d ∷ h) first
    → (now : CloudState) → d.before.state ≡ Some now → SweptAt r.stage (now.messages (queue.Atomic client)) r
came_swept client aim old first h d r came memory calm alone begins now at =
    along (λ m s. SweptAt m.stage (s.messages (queue.Atomic client)) m) (λ (c : Deed). c.answer ≢ Memory) client aim old first
    (start_swept client aim old (first.messages (queue.Atomic client)))
    (λ cs from m c b t k moves other goes is.
    subst (SweptNext (t.messages (queue.Atomic client))) goes (step_swept client aim old cs from c b t k moves (λ e. other) is))
    h d r came memory calm alone begins now at

-- a deletion behind the put ends nothing
abbrev NoEnd : Stage → Step → Type 0
NoEnd stage (Ends n x) = stage ≡ Clearing → ⊥
NoEnd stage next = Unit {0}

ends_elsewhere : {r : Recovery} {a : Answer} {next : Step} → Comes r a next → NoEnd r.stage next
ends_elsewhere (step.opens r ms items e none is) = λ at. absurd (cc (at))
ends_elsewhere (step.ends r a answer e) = λ at. absurd (cc (at))
ends_elsewhere c = tt

last_empty : (client : ℕ) (aim : Aim) (old : Option Claim) (first : CloudState) (h : List Deed) (d : Deed) (r new : Recovery) (epoch past : ℕ)
    → Came recovery_ask (LeadsBy recovery_next) (new_recovery client aim old) h r → d.ask ≡ recovery_ask r → Makes d.who d.ask d.answer d.before d.after
    → recovery_next r d.answer ≡ Ends new (Opened epoch) → HadMemory h → AreCalm (d ∷ h) → AreAlone (d ∷ h) → IsBeginning (d ∷ h) first
    → epoch ≡ past + 1 → HasNoLater past (first.messages (queue.Atomic client)) → (last : CloudState) → d.after.state ≡ Some last
    → unmarked (last.messages (queue.Atomic client)) ≡ []
last_empty client aim old first h d r new epoch past came asks made ends memory calm alone begins next upto last at =
    let c : IsCalm d = calm.0 in
    let m : Moves r d c.before last = record { asks = asks; made = made; calm = c; before = c.told; after = at } in
    let k : Knows client aim old (calls_of h) r = came_known client aim old h r came in
    let now : SweptAt r.stage (c.before.messages (queue.Atomic client)) r = came_swept client aim old first h d r came memory calm.1 alone begins c.before c.told in
    let is : SweptNext (last.messages (queue.Atomic client)) (Ends new (Opened epoch)) =
    subst (SweptNext (last.messages (queue.Atomic client))) ends
    (step_swept client aim old (calls_of h) r d c.before last k m (λ e. absurd (ends_elsewhere (comes_to r d.answer (Ends new (Opened epoch)) ends) e)) now) in
    let same : past ≡ new.wanted.epoch = omega (arith, next, is.0) in
    let here : HasNoLater past (c.before.messages (queue.Atomic client)) =
    unmarked_since (IsUptoEpoch past) client aim old first upto h d r came calm.1 alone begins c.before c.told in
    let there : HasNoLater past (last.messages (queue.Atomic client)) =
    shrunk_all (IsUptoEpoch past) (c.before.messages (queue.Atomic client)) (last.messages (queue.Atomic client))
    (subst (λ n. Shrunk (c.before.messages (queue.Atomic n)) (last.messages (queue.Atomic n))) k.client_is (move_shrinks r d c.before last m)) here in
    is.1 (subst (λ e. HasNoLater e (last.messages (queue.Atomic client))) same there)

pub came_empties : (who : Caller) (before after : Seen) (old new : Recovery) (a : Answer) (turn : Turn RecoverAnswer) → Makes who (recovery_ask old) a before after
    → Took (LeadsBy recovery_next) KeepsLeases old a new turn → (client : ℕ) (aim : Aim) (former : Option Claim) (h : List Deed)
    → Came recovery_ask (LeadsBy recovery_next) (new_recovery client aim former) h old → HadMemory h → AreCalm (deed_of who old a before after ∷ h)
    → AreAlone (deed_of who old a before after ∷ h) → (first : CloudState) → IsBeginning (deed_of who old a before after ∷ h) first → LeavesNone client first after turn
came_empties who before after old new a More made took client aim former h came memory calm alone first begins = tt
came_empties who before after old new a (Ended (Opened epoch)) made took client aim former h came memory calm alone first begins =
    λ past next upto last at.
    last_empty client aim former first h (deed_of who old a before after) old new epoch past came refl made took memory calm alone begins next upto last at
came_empties who before after old new a (Ended Nothing) made took client aim former h came memory calm alone first begins = tt
came_empties who before after old new a (Stopped t) made took client aim former h came memory calm alone first begins = tt
