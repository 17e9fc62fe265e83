-- A step of a recovery keeps no want of memory, and a refused call brings no value.
use Rattle.std.proofs.Common.{◌≡◌, ◌≢◌, ℕ, List, Option, Some, None, Result, Ok, Err, refl, ap, sym, subst, ◌∙◌}
use Rattle.std.specs.Prelude.{IfErr}
use Rattle.db_base.specs.declared.names.Lock.{Lock}
use Rattle.db_base.specs.declared.names.Lock.TheVariants as lock
use Rattle.db_base.specs.declared.trouble.Trouble.TheVariants as trouble
use Rattle.cloud_trait.specs.declared.answer.Answer.TheVariants as call
use Rattle.cloud_trait.specs.declared.message.Message.{Message}
use Rattle.recover_run.specs.Ample.{IsAmple, IsRefusal, NeedsNone}
use Rattle.recover_run.specs.Recovery.{handed_at, handed_over}
use Rattle.recover_run.proofs.Outcomes.{Fails, Comes, comes_to}
use Rattle.recover_run.proofs.Outcomes as step
use Rattle.recover_run.proofs.Turns.{loses_works, readies_works, clears_works}
use Rattle.recover_run.proofs.Words.{Trouble, Answer, Turn, More, Ended, Stopped, Goes, Ends, Stops, LeadsBy, Took, given_of, got_of, sent_of, received_of, done_of, Stage, ReleasingOld, Taking, Getting, Receiving, Deleting, Sending, Putting, Clearing, Sweeping, Releasing, Finished, RecoverAnswer, Nothing, Recovery, Step, recovery_next, KeepsLeases}

-- ---- a refused call brings no value

pub refused_sent : (a : Answer) (id : ℕ) → sent_of a ≡ Ok id → IsRefusal a → ⊥
refused_sent (call.Sent n) id e refused = refused
refused_sent call.Failed id e refused = cc (e)
refused_sent (call.Late end now) id e refused = cc (e)
refused_sent (call.Held until) id e refused = cc (e)
refused_sent a id e refused = refused

pub refused_received : (a : Answer) (ms : List Message) → received_of a ≡ Ok ms → IsRefusal a → ⊥
refused_received (call.Received n) ms e refused = refused
refused_received call.Failed ms e refused = cc (e)
refused_received (call.Late end now) ms e refused = cc (e)
refused_received (call.Held until) ms e refused = cc (e)
refused_received a ms e refused = refused

pub refused_done : (a : Answer) → done_of a ≡ Ok tt → IsRefusal a → ⊥
refused_done call.Done e refused = refused
refused_done call.Failed e refused = cc (e)
refused_done (call.Late end now) e refused = cc (e)
refused_done (call.Held until) e refused = cc (e)
refused_done a e refused = refused

pub refused_got : (a : Answer) (turn : Turn RecoverAnswer) → IfErr (got_of a) (λ t. turn ≡ More) → IsRefusal a → turn ≡ More
refused_got call.Failed turn goes refused = goes
refused_got (call.Late end now) turn goes refused = goes
refused_got (call.Held until) turn goes refused = goes
refused_got a turn goes refused = absurd refused

pub refused_given : (own : Lock) (a : Answer) (turn : Turn RecoverAnswer) → IfErr (given_of own a) (λ t. turn ≡ Stopped t) → IsRefusal a → turn ≢ Stopped trouble.Memory
refused_given own call.Failed turn stops refused = λ e. cc (stops, e)
refused_given own (call.Late end now) turn stops refused = λ e. cc (stops, e)
refused_given own (call.Held until) turn stops refused = λ e. cc (stops, e)
refused_given own a turn stops refused = absurd refused

-- ---- no other answer is want of memory

got_other : (a : Answer) → a ≢ call.Memory → got_of a ≡ Err trouble.Memory → ⊥
got_other call.Memory other e = other refl
got_other (call.Late end now) other e = cc (e)
got_other (call.Got v) other e = cc (e)
got_other a other e = cc (e)

sent_other : (a : Answer) → a ≢ call.Memory → sent_of a ≡ Err trouble.Memory → ⊥
sent_other call.Memory other e = other refl
sent_other (call.Late end now) other e = cc (e)
sent_other (call.Sent id) other e = cc (e)
sent_other a other e = cc (e)

received_other : (a : Answer) → a ≢ call.Memory → received_of a ≡ Err trouble.Memory → ⊥
received_other call.Memory other e = other refl
received_other (call.Late end now) other e = cc (e)
received_other (call.Received ms) other e = cc (e)
received_other a other e = cc (e)

done_other : (a : Answer) → a ≢ call.Memory → done_of a ≡ Err trouble.Memory → ⊥
done_other call.Memory other e = other refl
done_other (call.Late end now) other e = cc (e)
done_other call.Done other e = cc (e)
done_other a other e = cc (e)

fails_other : {r q : Recovery} {a : Answer} {t : Trouble} → a ≢ call.Memory → Fails r a q t → t ≡ trouble.Memory → ⊥
fails_other other (step.no_head r a t e) same = got_other a other (subst (λ (u : Trouble). got_of a ≡ Err u) same e)
fails_other other (step.no_messages r a t e) same = received_other a other (subst (λ (u : Trouble). received_of a ≡ Err u) same e)
fails_other other (step.not_deleted r a t e) same = done_other a other (subst (λ (u : Trouble). done_of a ≡ Err u) same e)
fails_other other (step.not_sent r a t e) same = sent_other a other (subst (λ (u : Trouble). sent_of a ≡ Err u) same e)
fails_other other (step.not_put r a t e) same = done_other a other (subst (λ (u : Trouble). done_of a ≡ Err u) same e)
fails_other other (step.not_swept r a t e) same = received_other a other (subst (λ (u : Trouble). received_of a ≡ Err u) same e)
fails_other other (step.bad_head r bytes e) same = cc (same)
fails_other other (step.last_epoch r bytes h e last) same = cc (same)
fails_other other (step.bad_message r ms m e) same = cc (same)
fails_other other (step.bad_swept r ms m e) same = cc (same)
fails_other other (step.waits q loses fewer stale) same = cc (same)

-- ---- so it is not kept

abbrev KeepsNone : Recovery → Step → Type 0
KeepsNone r (Goes n) = n.ending ≡ Some (Err trouble.Memory) → r.ending ≡ Some (Err trouble.Memory)
KeepsNone r (Ends n x) = Unit {0}
KeepsNone r (Stops n t) = Unit {0}

keeps_none : {r : Recovery} {a : Answer} {next : Step} → a ≢ call.Memory → Comes r a next → KeepsNone r next
keeps_none other (step.gives_old r a) = λ k. k
keeps_none other (step.takes r l) = λ k. k
keeps_none other (step.refused r a t e) = tt
keeps_none other (step.stops q t fails) = λ k. absurd (fails_other other fails (let same : t ≡ trouble.Memory = cc (k) in same))
keeps_none other (step.finds_none r settles) = λ k. absurd (cc (k))
keeps_none other (step.reads_settled h reads e) = λ k. k
keeps_none other (step.reads_open h count reads e) = λ k. k
keeps_none other (step.deletes q id ids loses) = λ k. sym (loses_works loses).ending ∙ k
keeps_none other (step.receives q loses fewer new) = λ k. sym (loses_works loses).ending ∙ k
keeps_none other (step.sends q place x ready there) = λ k. sym (readies_works ready).ending ∙ k
keeps_none other (step.puts q place ready past) = λ k. sym (readies_works ready).ending ∙ k
keeps_none other (step.clears q id ids c) = λ k. sym (clears_works c).ending ∙ k
keeps_none other (step.sweeps q c) = λ k. sym (clears_works c).ending ∙ k
keeps_none other (step.clears_past r ms items id ids e are) = λ k. k
keeps_none other (step.opens r ms items e none is) = tt
keeps_none other (step.closes r ms items e none is) = λ k. absurd (cc (k))
keeps_none other (step.ends r a answer e) = tt
keeps_none other (step.stopped r a t e) = tt
keeps_none other (step.astray r a e) = tt
keeps_none other (step.nothing r a) = tt

-- a lease that leaves the machine leaves what is kept as it is
ending_at : (st : Stage) (r : Recovery) → (handed_at st r).ending ≡ r.ending
ending_at ReleasingOld r = refl
ending_at Taking r = refl
ending_at Getting r = refl
ending_at Receiving r = refl
ending_at Deleting r = refl
ending_at Sending r = refl
ending_at Putting r = refl
ending_at Clearing r = refl
ending_at Sweeping r = refl
ending_at Releasing r = refl
ending_at Finished r = refl

pub handed_ample : (old mid : Recovery) (a : Answer) (turn : Turn RecoverAnswer) → mid ≡ handed_over old
    → (IsRefusal a → turn ≡ Stopped trouble.Memory → mid.ending ≡ Some (Err trouble.Memory))
    → IsRefusal a → turn ≡ Stopped trouble.Memory → old.ending ≡ Some (Err trouble.Memory)
handed_ample old mid a turn left ample refused is = sym (ap (λ (r : Recovery). r.ending) left ∙ ending_at old.stage old) ∙ ample refused is

stage_at : (st : Stage) (r : Recovery) → NeedsNone st → NeedsNone (handed_at st (record r { stage = st })).stage
stage_at ReleasingOld r needs = needs
stage_at Taking r needs = needs
stage_at Clearing r needs = needs
stage_at Releasing r needs = needs
stage_at Finished r needs = needs
stage_at st r needs = absurd needs

pub handed_spared : (old mid : Recovery) (a : Answer) (turn : Turn RecoverAnswer) → mid ≡ handed_over old
    → (NeedsNone mid.stage → a ≢ call.Memory → turn ≡ Stopped trouble.Memory → mid.ending ≡ Some (Err trouble.Memory))
    → NeedsNone old.stage → a ≢ call.Memory → turn ≡ Stopped trouble.Memory → old.ending ≡ Some (Err trouble.Memory)
handed_spared old mid a turn left spared needs other is =
    let there : NeedsNone mid.stage = subst (λ (r : Recovery). NeedsNone r.stage) (sym left) (stage_at old.stage old needs) in
    sym (ap (λ (r : Recovery). r.ending) left ∙ ending_at old.stage old) ∙ spared there other is

pub took_ample : (r n : Recovery) (a : Answer) (turn : Turn RecoverAnswer) → Took (LeadsBy recovery_next) KeepsLeases r a n turn
    → (IsRefusal a → turn ≡ Stopped trouble.Memory → r.ending ≡ Some (Err trouble.Memory))
    → (NeedsNone r.stage → a ≢ call.Memory → turn ≡ Stopped trouble.Memory → r.ending ≡ Some (Err trouble.Memory)) → IsAmple a r n turn
took_ample r n a turn took refused spared = record { refused = refused; spared = spared; kept = λ other more. on turn took more other } where
  on : (t : Turn RecoverAnswer) → Took (LeadsBy recovery_next) KeepsLeases r a n t → t ≡ More → a ≢ call.Memory
      → n.ending ≡ Some (Err trouble.Memory) → r.ending ≡ Some (Err trouble.Memory)
  on More leads e other = keeps_none other (comes_to r a (Goes n) leads)
  on (Ended x) leads e other = absurd (cc (e))
  on (Stopped t) leads e other = absurd (cc (e))
