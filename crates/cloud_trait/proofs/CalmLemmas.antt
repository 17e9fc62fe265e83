-- What a calm call is answered.
use Rattle.std.proofs.Common.{◌≡◌, ◌≤◌, ◌<◌, ◌⊎◌, inl, inr, ℕ, List, Option, Some, None, refl, sym, ap, subst, ◌∙◌, arith}
use Rattle.db_base.specs.declared.names.ObjName.{ObjName}
use Rattle.db_base.specs.declared.names.QueueName.{QueueName}
use Rattle.cloud_trait.specs.declared.answer.Answer.{Answer}
use Rattle.cloud_trait.specs.declared.answer.Answer.TheVariants.{Got, Sent, Received, Listed, Done, Given, Held, Renewed, Late, Failed, Memory}
use Rattle.cloud_trait.specs.declared.message.Message.{Message}
use Rattle.cloud_trait.specs.Ask.{Ask, Get, GetHeld, PutHeld, ListHeld, RemoveHeld, Send, Receive, Delete, Take, Renew, Release}
use Rattle.cloud_trait.specs.Caller.{Caller}
use Rattle.cloud_trait.specs.Claim.{Claim, Lasts, IsOver}
use Rattle.cloud_trait.specs.Machine.{Deed, IsMade}
use Rattle.cloud_trait.specs.State.{CloudState, Counts, newest, called}
use Rattle.cloud_trait.specs.Delivery.{IsDelivering}
use Rattle.cloud_trait.specs.Weather.{counted, Weather, FirstOver, Leaves, Rose}
use Rattle.cloud_trait.specs.Calm.{GoesWell, NamesLasting, TakesFree, IsCalm}

-- a lease that lasts is not over
not_over : (now : ℕ) (l : Claim) → Lasts now l → IsOver now l → ⊥
not_over now l lasts over = omega (arith, lasts, over)

none_over : (now : ℕ) (one : Claim) (two : Option Claim) (name : ObjName) (bytes : List ℕ) (e : ℕ) → NamesLasting (PutHeld name bytes one two) now
    → FirstOver now one two e → ⊥
none_over now one None name bytes e lasts (inl over) = not_over now one lasts over.0
none_over now one None name bytes e lasts (inr over) = over.1
none_over now one (Some two) name bytes e lasts (inl over) = not_over now one lasts.0 over.0
none_over now one (Some two) name bytes e lasts (inr over) = not_over now two lasts.1 over.1.0

-- a lock that is free is held until no later moment
not_held : (now end until p q : ℕ) → end ≤ now → q ≡ p → (((until ≡ end) × (now < until)) ⊎ Rose p q) → ⊥
not_held now end until p q free same (inl held) = omega (arith, free, held.0, held.1)
not_held now end until p q free same (inr rose) = omega (arith, same, rose)

-- of a row of the table: with no count rising, free locks and lasting leases it is done, or memory ran out
row_well : (who : Caller) (ask : Ask) (a : Answer) (c d : Counts) (s t : CloudState) (now : ℕ) → d ≡ c → TakesFree ask s now
    → NamesLasting ask now → (a ≡ Failed → Rose c.faults d.faults) → Weather who ask a (counted c (called who now s)) (counted d t) → GoesWell a
row_well who ask Failed c d s t now same free lasting failed row = omega (arith, failed refl, ap (λ (x : Counts). x.faults) same)
row_well who (GetHeld name l) (Late e n) c d s t now same free lasting failed row = not_over now l lasting row.1
row_well who (PutHeld name bytes one two) (Late e n) c d s t now same free lasting failed row = none_over now one two name bytes e lasting row.1
row_well who (ListHeld tree l) (Late e n) c d s t now same free lasting failed row = not_over now l lasting row.1
row_well who (RemoveHeld name l) (Late e n) c d s t now same free lasting failed row = not_over now l lasting row.1
row_well who (Renew l ticks) (Late e n) c d s t now same free lasting failed row = not_over now l lasting row.1
row_well who (Take lock ticks) (Held until) c d s t now same free lasting failed row =
    not_held now (s.locks lock).until until c.withheld d.withheld free (ap (λ (x : Counts). x.withheld) same) row.1
row_well who (Get name) (Late e n) c d s t now same free lasting failed row = row
row_well who (Send queue bytes) (Late e n) c d s t now same free lasting failed row = row
row_well who (Receive queue most) (Late e n) c d s t now same free lasting failed row = row
row_well who (Delete queue id) (Late e n) c d s t now same free lasting failed row = row
row_well who (Take lock ticks) (Late e n) c d s t now same free lasting failed row = row
row_well who (Release l) (Late e n) c d s t now same free lasting failed row = row
row_well who (Get name) (Held until) c d s t now same free lasting failed row = row
row_well who (GetHeld name l) (Held until) c d s t now same free lasting failed row = row
row_well who (PutHeld name bytes one two) (Held until) c d s t now same free lasting failed row = row
row_well who (ListHeld tree l) (Held until) c d s t now same free lasting failed row = row
row_well who (RemoveHeld name l) (Held until) c d s t now same free lasting failed row = row
row_well who (Send queue bytes) (Held until) c d s t now same free lasting failed row = row
row_well who (Receive queue most) (Held until) c d s t now same free lasting failed row = row
row_well who (Delete queue id) (Held until) c d s t now same free lasting failed row = row
row_well who (Renew l ticks) (Held until) c d s t now same free lasting failed row = row
row_well who (Release l) (Held until) c d s t now same free lasting failed row = row
row_well who ask (Got v) c d s t now same free lasting failed row = tt
row_well who ask (Sent id) c d s t now same free lasting failed row = tt
row_well who ask (Received ms) c d s t now same free lasting failed row = tt
row_well who ask (Listed ps) c d s t now same free lasting failed row = tt
row_well who ask Done c d s t now same free lasting failed row = tt
row_well who ask (Given l) c d s t now same free lasting failed row = tt
row_well who ask (Renewed e) c d s t now same free lasting failed row = tt
row_well who ask Memory c d s t now same free lasting failed row = tt

-- the row of a calm call, from the state before it in which the clock and the newest call are those that it left
record Row (d : Deed) (s : CloudState) : Type 0 where
  after : CloudState
  left : d.after.state ≡ Some after
  row : Weather d.who d.ask d.answer (counted d.before.counts (called d.who after.now s)) (counted d.after.counts after)

row_of : (d : Deed) (s : CloudState) → IsMade d → d.before.state ≡ Some s → Row d s
row_of d s made told = let l : Leaves d.who d.ask d.answer (counted d.before.counts s) d.after.counts d.after.state = made.state s told in
    record { after = l.after; left = l.told; row = l.row }

state_is : (s t : CloudState) → Some s ≡ Some t → s ≡ t
state_is s t e = cc

-- a calm call is done, or memory ran out
pub goes_well : (d : Deed) → IsMade d → IsCalm d → GoesWell d.answer
goes_well d made calm = well calm.before calm.after calm.told calm.left calm.free calm.lasting
  where
    well : (s t : CloudState) → d.before.state ≡ Some s → d.after.state ≡ Some t → TakesFree d.ask s t.now → NamesLasting d.ask t.now → GoesWell d.answer
    well s t told left free lasting =
        let r : Row d s = row_of d s made told in
        on r.after r.row (state_is t r.after (sym left ∙ r.left))
      where
        on : (u : CloudState) → Weather d.who d.ask d.answer (counted d.before.counts (called d.who u.now s)) (counted d.after.counts u) → t ≡ u → GoesWell d.answer
        on u row e = row_well d.who d.ask d.answer d.before.counts d.after.counts s u u.now calm.counts
            (subst (λ (x : CloudState). TakesFree d.ask s x.now) e free) (subst (λ (x : CloudState). NamesLasting d.ask x.now) e lasting) made.failed row

-- no count of it rose
steady : (d : Deed) → IsCalm d → (count : Counts → ℕ) → Rose (count d.before.counts) (count d.after.counts) → ⊥
steady d calm count rose = omega (arith, rose, ap count calm.counts)

-- a calm receive answers the first of the messages that are not deleted, each once
pub delivers : (d : Deed) (queue : QueueName) (most : ℕ) (ms : List Message) (s : CloudState) → IsMade d → IsCalm d → d.ask ≡ Receive queue most
    → d.answer ≡ Received ms → d.before.state ≡ Some s → IsDelivering (s.messages queue) most ms
delivers d queue most ms s made calm asks answers told =
    let r : Row d s = row_of d s made told in
    on r.after (subst (λ (a : Answer). Weather d.who (Receive queue most) a (counted d.before.counts (called d.who r.after.now s)) (counted d.after.counts r.after)) answers
    (subst (λ (ask : Ask). Weather d.who ask d.answer (counted d.before.counts (called d.who r.after.now s)) (counted d.after.counts r.after)) asks r.row))
  where
    on : (u : CloudState) → Weather d.who (Receive queue most) (Received ms) (counted d.before.counts (called d.who u.now s)) (counted d.after.counts u)
        → IsDelivering (s.messages queue) most ms
    on u row = elim row.2 [ inl here ↦ here | inr rose ↦ absurd (steady d calm (λ (c : Counts). c.withheld) rose) ]

-- a calm get answers the newest version
pub reads_newest : (d : Deed) (name : ObjName) (v : Option (List ℕ)) (s : CloudState) → IsMade d → IsCalm d → d.ask ≡ Get name → d.answer ≡ Got v
    → d.before.state ≡ Some s → v ≡ newest s name
reads_newest d name v s made calm asks answers told =
    let r : Row d s = row_of d s made told in
    on r.after (subst (λ (a : Answer). Weather d.who (Get name) a (counted d.before.counts (called d.who r.after.now s)) (counted d.after.counts r.after)) answers
    (subst (λ (ask : Ask). Weather d.who ask d.answer (counted d.before.counts (called d.who r.after.now s)) (counted d.after.counts r.after)) asks r.row))
  where
    on : (u : CloudState) → Weather d.who (Get name) (Got v) (counted d.before.counts (called d.who u.now s)) (counted d.after.counts u) → v ≡ newest s name
    on u row = elim row.2 [ inl here ↦ here | inr rose ↦ absurd (steady d calm (λ (c : Counts). c.stale) rose) ]
