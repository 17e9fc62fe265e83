-- A service call between two told states.
use Rattle.std.proofs.Common.{◌≡◌, ◌⊎◌, inl, inr, ℕ, List, Option, Some, None, Ok, Err, sym, subst, ◌∙◌, arith}
use Rattle.cloud_facts.specs.Words.{ObjName, QueueName, Answer, CloudState, called, Caller, Seen, Claim, Lasts, Ask, PutHeld, Send, Delete, done_of, sent_of, IsCall}
use Rattle.db_base.specs.declared.trouble.Trouble.TheVariants as trouble
use Rattle.cloud_trait.specs.declared.answer.Answer.TheVariants.{Got, Sent, Received, Listed, Done, Given, Held, Renewed, Late, Failed, Memory}
use Rattle.cloud_trait.specs.Ask.{Permits, Lands}
use Rattle.cloud_trait.specs.Weather.{counted, FirstOver, Leaves, Makes}
use Rattle.cloud_trait.proofs.RowLemmas.{lands_or_not}

state_is : (s t : CloudState) → Some s ≡ Some t → s ≡ t
state_is s t e = cc

pub call_of : (who : Caller) (ask : Ask) (answer : Answer) (before after : Seen) (s t : CloudState) → Makes who ask answer before after → before.state ≡ Some s → after.state ≡ Some t
    → IsCall who ask answer s t
call_of who ask answer before after s t made e f = on (made.state s e)
  where
    on : Leaves who ask answer (counted before.counts s) after.counts after.state → IsCall who ask answer s t
    on l = subst (IsCall who ask answer s) (state_is l.after t (sym l.told ∙ f)) (record { before = before.counts; after = after.counts; later = l.later; row = l.row })

pub landed_or_not : (who : Caller) (ask : Ask) (answer : Answer) (s t : CloudState) → (c : IsCall who ask answer s t) → (t ≡ called who t.now s) ⊎ Lands who ask (called who t.now s) t
landed_or_not who ask answer s t c = lands_or_not who ask answer c.before c.after (called who t.now s) t c.row

-- a put landed, or it did not and was not done
pub put_cases : (who : Caller) (name : ObjName) (bytes : List ℕ) (one : Claim) (two : Option Claim) (answer : Answer) (s t : CloudState) → IsCall who (PutHeld name bytes one two) answer s t
    → ((t ≡ called who t.now s) × (done_of answer ≡ Ok tt → ⊥)) ⊎ Lands who (PutHeld name bytes one two) (called who t.now s) t
put_cases who name bytes one two Done s t c = inr c.row
put_cases who name bytes one two (Late e n) s t c = inl (c.row.0, λ done. cc)
put_cases who name bytes one two Memory s t c = inl (c.row, λ done. cc)
put_cases who name bytes one two Failed s t c = on c.row
  where
    on : (t ≡ called who t.now s) ⊎ Lands who (PutHeld name bytes one two) (called who t.now s) t
        → ((t ≡ called who t.now s) × (done_of Failed ≡ Ok tt → ⊥)) ⊎ Lands who (PutHeld name bytes one two) (called who t.now s) t
    on (inl e) = inl (e, λ done. cc)
    on (inr lands) = inr lands
put_cases who name bytes one two (Got v) s t c = absurd c.row
put_cases who name bytes one two (Sent id) s t c = absurd c.row
put_cases who name bytes one two (Received ms) s t c = absurd c.row
put_cases who name bytes one two (Listed ps) s t c = absurd c.row
put_cases who name bytes one two (Given l) s t c = absurd c.row
put_cases who name bytes one two (Held until) s t c = absurd c.row
put_cases who name bytes one two (Renewed e) s t c = absurd c.row

-- a send landed, or it did not and was not done
pub send_cases : (who : Caller) (queue : QueueName) (bytes : List ℕ) (answer : Answer) (s t : CloudState) → IsCall who (Send queue bytes) answer s t
    → ((t ≡ called who t.now s) × ((id : ℕ) → sent_of answer ≡ Ok id → ⊥)) ⊎ Lands who (Send queue bytes) (called who t.now s) t
send_cases who queue bytes (Sent id) s t c = inr c.row.0
send_cases who queue bytes Memory s t c = inl (c.row, λ id done. cc)
send_cases who queue bytes Failed s t c = on c.row
  where
    on : (t ≡ called who t.now s) ⊎ Lands who (Send queue bytes) (called who t.now s) t
        → ((t ≡ called who t.now s) × ((id : ℕ) → sent_of Failed ≡ Ok id → ⊥)) ⊎ Lands who (Send queue bytes) (called who t.now s) t
    on (inl e) = inl (e, λ id done. cc)
    on (inr lands) = inr lands
send_cases who queue bytes Done s t c = absurd c.row
send_cases who queue bytes (Late e n) s t c = absurd c.row
send_cases who queue bytes (Got v) s t c = absurd c.row
send_cases who queue bytes (Received ms) s t c = absurd c.row
send_cases who queue bytes (Listed ps) s t c = absurd c.row
send_cases who queue bytes (Given l) s t c = absurd c.row
send_cases who queue bytes (Held until) s t c = absurd c.row
send_cases who queue bytes (Renewed e) s t c = absurd c.row

-- a late put found its lease over
pub put_late : (who : Caller) (name : ObjName) (bytes : List ℕ) (one : Claim) (answer : Answer) (s t : CloudState) → IsCall who (PutHeld name bytes one None) answer s t → (end now : ℕ)
    → done_of answer ≡ Err (trouble.Late end now) → Lasts t.now one → ⊥
put_late who name bytes one (Late e n) s t c end now is lasts = on c.row.1
  where
    on : FirstOver t.now one None e → ⊥
    on (inl p) = omega (arith, p.0, lasts)
    on (inr p) = absurd p.1
put_late who name bytes one Done s t c end now is lasts = cc
put_late who name bytes one answer s t c end now is lasts = cc

-- a call that landed was permitted
pub permitted : (who : Caller) (ask : Ask) (b t : CloudState) → Lands who ask b t → Permits ask b
permitted who ask b t lands = lands.1

pub put_lasts : (who : Caller) (name : ObjName) (bytes : List ℕ) (one : Claim) (two : Option Claim) (b t : CloudState) → Lands who (PutHeld name bytes one two) b t → Lasts b.now one
put_lasts who name bytes one two b t lands = both (permitted who (PutHeld name bytes one two) b t lands)
  where
    both : Permits (PutHeld name bytes one two) b → Lasts b.now one
    both p = p.0

-- a deletion landed, or it did not and was not done
pub delete_cases : (who : Caller) (queue : QueueName) (id : ℕ) (answer : Answer) (s t : CloudState) → IsCall who (Delete queue id) answer s t
    → ((t ≡ called who t.now s) × (done_of answer ≡ Ok tt → ⊥)) ⊎ Lands who (Delete queue id) (called who t.now s) t
delete_cases who queue id Done s t c = inr c.row
delete_cases who queue id Memory s t c = inl (c.row, λ done. cc)
delete_cases who queue id Failed s t c = on c.row
  where
    on : (t ≡ called who t.now s) ⊎ Lands who (Delete queue id) (called who t.now s) t
        → ((t ≡ called who t.now s) × (done_of Failed ≡ Ok tt → ⊥)) ⊎ Lands who (Delete queue id) (called who t.now s) t
    on (inl e) = inl (e, λ done. cc)
    on (inr lands) = inr lands
delete_cases who queue id (Late e n) s t c = absurd c.row
delete_cases who queue id (Got v) s t c = absurd c.row
delete_cases who queue id (Sent i) s t c = absurd c.row
delete_cases who queue id (Received ms) s t c = absurd c.row
delete_cases who queue id (Listed ps) s t c = absurd c.row
delete_cases who queue id (Given l) s t c = absurd c.row
delete_cases who queue id (Held until) s t c = absurd c.row
delete_cases who queue id (Renewed e) s t c = absurd c.row
