-- How a calm recovery goes from call to call where nobody else acts, and what its calls do to its client's ATOMIC queue.
use Rattle.std.proofs.Common.{◌≡◌, ◌⊎◌, ℕ, List, [], ◌∷◌, Bool, true, false, cond, Option, Some, None, inl, inr, refl, ap, sym, subst, ◌∙◌}
use Rattle.std.specs.Prelude.{◌==◌, slice_get}
use Rattle.std.specs.List.{AllByRecursion}
use Rattle.std.specs.Ordering.{is_eq}
use Rattle.db_base.specs.declared.names.QueueName.{QueueName}
use Rattle.db_base.specs.declared.names.QueueName.TheVariants as queue
use Rattle.db_base.specs.declared.names.QueueName.TheVariants.{TreePu, PagePu}
use Rattle.cloud_trait.specs.declared.answer.Answer.{Answer}
use Rattle.cloud_trait.specs.declared.message.Message.{Message}
use Rattle.cloud_trait.specs.declared.state.Posted.{Posted}
use Rattle.cloud_trait.specs.Ask.{Ask, Send, Delete, Release, effect}
use Rattle.cloud_trait.specs.Caller.{Caller}
use Rattle.cloud_trait.specs.Claim.{Claim}
use Rattle.cloud_trait.specs.Delivery.{unmarked}
use Rattle.cloud_trait.specs.Machine.{Goes, LeadsBy, Came, Deed, IsMade, calls_of}
use Rattle.cloud_trait.specs.Names.{queue_cmp}
use Rattle.cloud_trait.specs.State.{CloudState, Counts, called, marked}
use Rattle.cloud_trait.specs.Weather.{counted, Weather, Leaves}
use Rattle.cloud_trait.proofs.EffectLemmas.{effect_messages}
use Rattle.cloud_trait.proofs.NameLemmas.{queue_cmp-equal}
use Rattle.cloud_trait.proofs.RowLemmas.{row_by}
use Rattle.cloud_trait.proofs.StateLemmas.{put_at_other, put_at_by}
use Rattle.cloud_trait.specs.Calm.{IsCalm, AreCalm, AreAlone}
use Rattle.recover_run.specs.declared.items.AtomicItem.{AtomicItem}
use Rattle.recover_run.specs.declared.stage.Aim.{Aim}
use Rattle.recover_run.specs.declared.stage.Stage.{Stage}
use Rattle.recover_run.specs.declared.stage.Stage.TheVariants.{ReleasingOld, Taking, Getting, Receiving, Deleting, Sending, Putting, Clearing, Sweeping, Releasing, Finished}
use Rattle.recover_run.specs.Calls.{Calls}
use Rattle.recover_run.specs.Emptying.{IsBeginning}
use Rattle.recover_run.specs.Recovery.{Recovery, new_recovery, recovery_ask, recovery_next, ask_at, under, delete_next, send_next}
use Rattle.recover_run.proofs.Marks.{marked_all}
use Rattle.recover_run.proofs.Meaning.{Knows, came_known}

-- ---- from call to call

-- a calm call of a recovery, with the states before and behind it
pub record Moves (from : Recovery) (d : Deed) (b t : CloudState) : Type 0 where
  pub asks : d.ask ≡ recovery_ask from
  pub made : IsMade d
  pub calm : IsCalm d
  pub before : d.before.state ≡ Some b
  pub after : d.after.state ≡ Some t

state_is : (s t : CloudState) → Some s ≡ Some t → s ≡ t
state_is s t e = cc

-- what holds at the beginning, and is kept by each call, holds of the recovery and the state before any call
pub along : (I : Recovery → CloudState → Type 0) (Q : Deed → Type 0) (client : ℕ) (aim : Aim) (old : Option Claim) (first : CloudState)
    → I (new_recovery client aim old) first
    → ((cs : Calls) (from r : Recovery) (d : Deed) (b t : CloudState) → Knows client aim old cs from → Moves from d b t → Q d
    → recovery_next from d.answer ≡ Goes r → I from b → I r t)
    → (h : List Deed) (d : Deed) (r : Recovery) → Came recovery_ask (LeadsBy recovery_next) (new_recovery client aim old) h r
    → AllByRecursion Q h → AreCalm h → AreAlone (d ∷ h) → IsBeginning (d ∷ h) first → (now : CloudState) → d.before.state ≡ Some now → I r now
along I Q client aim old first start step [] d r came qs calm alone begins now at =
    let same : first ≡ now = state_is first now (sym begins ∙ at) in
    subst (λ s. I r s) same (subst (λ m. I m first) (sym came) start)
along I Q client aim old first start step (last ∷ h) d r (from, came, asks, made, leads, follows) qs calm alone begins now at =
    let c : IsCalm last = calm.0 in
    let before : I from c.before = along I Q client aim old first start step h last from came qs.1 calm.1 alone.1 begins c.before c.told in
    step (calls_of h) from r last c.before now (came_known client aim old h from came)
    (record { asks = asks; made = made; calm = c; before = c.told; after = sym alone.0 ∙ at }) qs.0 leads before

-- the row of the table
pub row_of_move : (from : Recovery) (d : Deed) (b t : CloudState) → Moves from d b t
    → Weather d.who (recovery_ask from) d.answer (counted d.before.counts (called d.who t.now b)) (counted d.after.counts t)
row_of_move from d b t m =
    let l : Leaves d.who d.ask d.answer (counted d.before.counts b) d.after.counts d.after.state = m.made.state b m.before in
    let same : l.after ≡ t = state_is l.after t (sym l.told ∙ m.after) in
    subst (λ (ask : Ask). Weather d.who ask d.answer (counted d.before.counts (called d.who t.now b)) (counted d.after.counts t)) m.asks
    (subst (λ (u : CloudState). Weather d.who d.ask d.answer (counted d.before.counts (called d.who u.now b)) (counted d.after.counts u)) same l.row)

-- ---- the queue

-- the queue is as it was, or a message of it is marked
abbrev pub Shrunk : List Posted → List Posted → Type 0
Shrunk ms ns = (ns ≡ ms) ⊎ ((id : ℕ) × (ns ≡ marked ms id))

abbrev SendsNot : QueueName → Ask → Type 0
SendsNot q (Send other bytes) = is_eq (queue_cmp other q) ≡ false
SendsNot q ask = Unit {0}

effect_shrinks : (who : Caller) (ask : Ask) (s : CloudState) (q : QueueName) → SendsNot q ask → Shrunk (s.messages q) ((effect who ask s).messages q)
effect_shrinks who (Send other bytes) s q h = inl (put_at_other queue_cmp s.messages other _ q h)
effect_shrinks who (Delete other id) s q h =
    put_at_by (λ k v. Shrunk (s.messages k) v) queue_cmp queue_cmp-equal s.messages other (marked (s.messages other) id) (inr (id, refl)) (λ k. inl refl) q
effect_shrinks who ask s q h = inl (ap (λ (f : QueueName → List Posted). f q) (effect_messages who ask s tt))

row_shrinks : (who : Caller) (ask : Ask) (a : Answer) (c d : Counts) (b t : CloudState) (q : QueueName) → Weather who ask a (counted c b) (counted d t) → SendsNot q ask
    → Shrunk (b.messages q) (t.messages q)
row_shrinks who ask a c d b t q row h = row_by (λ u. Shrunk (b.messages q) (u.messages q)) who ask a c d b t row (inl refl) (λ permits. effect_shrinks who ask b q h)

under_not : (q : QueueName) (r : Recovery) (o : Option Claim) (ask : Claim → Ask) → ((l : Claim) → SendsNot q (ask l)) → SendsNot q (under r o ask)
under_not q r (Some l) ask f = f l
under_not q r None ask f = tt

delete_not : (q : QueueName) (r : Recovery) (ids : List ℕ) → SendsNot q (delete_next r ids)
delete_not q r [] = tt
delete_not q r (id ∷ ids) = tt

send_not : (r : Recovery) (o : Option AtomicItem) → SendsNot (queue.Atomic r.client) (send_next r o)
send_not r None = tt
send_not r (Some x) = on (x.rec.page == 0) where
  on : (b : Bool) → is_eq (queue_cmp (cond b (TreePu x.rec.tree) (PagePu x.rec.tree x.rec.page)) (queue.Atomic r.client)) ≡ false
  on true = refl
  on false = refl

sends_not : (st : Stage) (r : Recovery) → SendsNot (queue.Atomic r.client) (ask_at st r)
sends_not ReleasingOld r = under_not (queue.Atomic r.client) r r.former Release (λ l. tt)
sends_not Taking r = tt
sends_not Getting r = under_not (queue.Atomic r.client) r r.lease _ (λ l. tt)
sends_not Receiving r = tt
sends_not Deleting r = delete_not (queue.Atomic r.client) r r.ids
sends_not Sending r = send_not r (slice_get r.gathered.kept r.sent)
sends_not Putting r = under_not (queue.Atomic r.client) r r.lease _ (λ l. tt)
sends_not Clearing r = delete_not (queue.Atomic r.client) r r.ids
sends_not Sweeping r = tt
sends_not Releasing r = under_not (queue.Atomic r.client) r r.lease Release (λ l. tt)
sends_not Finished r = tt

pub move_shrinks : (from : Recovery) (d : Deed) (b t : CloudState) → Moves from d b t → Shrunk (b.messages (queue.Atomic from.client)) (t.messages (queue.Atomic from.client))
move_shrinks from d b t m =
    row_shrinks d.who (recovery_ask from) d.answer d.before.counts d.after.counts (called d.who t.now b) t (queue.Atomic from.client) (row_of_move from d b t m)
    (sends_not from.stage from)

-- what holds of every message that is not deleted holds of them behind the call
pub shrunk_all : (P : Message → Type 0) (ms ns : List Posted) → Shrunk ms ns → AllByRecursion P (unmarked ms) → AllByRecursion P (unmarked ns)
shrunk_all P ms ns (inl e) all = subst (λ l. AllByRecursion P (unmarked l)) (sym e) all
shrunk_all P ms ns (inr (id, e)) all = subst (λ l. AllByRecursion P (unmarked l)) (sym e) (marked_all P ms id all)

-- of the messages of the beginning too
pub unmarked_since : (P : Message → Type 0) (client : ℕ) (aim : Aim) (old : Option Claim) (first : CloudState) → AllByRecursion P (unmarked (first.messages (queue.Atomic client)))
    → (h : List Deed) (d : Deed) (r : Recovery) → Came recovery_ask (LeadsBy recovery_next) (new_recovery client aim old) h r
    → AreCalm h → AreAlone (d ∷ h) → IsBeginning (d ∷ h) first → (now : CloudState) → d.before.state ≡ Some now
    → AllByRecursion P (unmarked (now.messages (queue.Atomic client)))
unmarked_since P client aim old first start h d r came calm alone begins now at =
    along (λ m s. AllByRecursion P (unmarked (s.messages (queue.Atomic client)))) (λ d. Unit {0}) client aim old first start step h d r came (all_unit h) calm alone begins now at
  where
    all_unit : (xs : List Deed) → AllByRecursion (λ (x : Deed). Unit {0}) xs
    all_unit [] = tt
    all_unit (x ∷ xs) = (tt, all_unit xs)

    step : (cs : Calls) (from m : Recovery) (c : Deed) (b t : CloudState) → Knows client aim old cs from → Moves from c b t → Unit {0}
        → recovery_next from c.answer ≡ Goes m → AllByRecursion P (unmarked (b.messages (queue.Atomic client))) → AllByRecursion P (unmarked (t.messages (queue.Atomic client)))
    step cs from m c b t knows moves q goes all =
        let shrunk : Shrunk (b.messages (queue.Atomic client)) (t.messages (queue.Atomic client)) =
        subst (λ k. Shrunk (b.messages (queue.Atomic k)) (t.messages (queue.Atomic k))) knows.client_is (move_shrinks from c b t moves) in
        shrunk_all P _ _ shrunk all
