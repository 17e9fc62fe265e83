-- From what a step comes to back to the step: what fails so stops it.
use Rattle.std.proofs.Common.{◌≡◌, ◌≢◌, ◌-◌, ◌^◌, ℕ, Bool, true, false, cond, List, [], length, None, Ok, Err, refl, ap, ◌∙◌, arith}
use Rattle.std.specs.Prelude.{◌==◌}
use Rattle.std.proofs.lemmas.Bool.Decides.{nat_tests}
use Rattle.db_base.specs.declared.names.Lock.TheVariants as lock
use Rattle.db_base.specs.declared.trouble.Trouble.TheVariants as trouble
use Rattle.db_base.specs.declared.trouble.Counter.TheVariants as counter
use Rattle.cloud_trait.specs.declared.answer.Answer.TheVariants as call
use Rattle.recover_run.specs.Recovery.{goes_to, releasing, stopping, taken_by, send_at, phase_read, behind, bytes_read, none_read, got_by, deleting, gathered_by, received_by, deleted_by, sent_by, put_by, swept_with, swept_by}
use Rattle.recover_run.proofs.Outcomes.{at, listed, Loses, Fails}
use Rattle.recover_run.proofs.Outcomes as step
use Rattle.recover_run.proofs.Words.{Trouble, Answer, Stops, given_of, Aim, Settling, Taking, Getting, Receiving, Deleting, Sending, Putting, Sweeping, Nothing, Recovery, Step, recovery_next}

loses_lead : {r q : Recovery} {a : Answer} {ids : List ℕ} → Loses r a q ids → recovery_next r a ≡ deleting q ids
loses_lead (step.received r ms items e) = ap (gathered_by (at r Receiving)) e
loses_lead (step.one_gone r) = refl

nat_eq_same : (a b : ℕ) → a ≡ b → (a == b) ≡ true
nat_eq_same a b e = grind (arith, nat_tests)

nat_eq_other : (a b : ℕ) → a ≢ b → (a == b) ≡ false
nat_eq_other a b e = grind (arith, nat_tests)

pub fails_lead : {r q : Recovery} {a : Answer} {t : Trouble} → Fails r a q t → recovery_next r a ≡ stopping q t
fails_lead (step.no_head r a t e) = ap (got_by (at r Getting)) e
fails_lead (step.no_messages r a t e) = ap (received_by (at r Receiving)) e
fails_lead (step.not_deleted r a t e) = ap (deleted_by (at r Deleting)) e
fails_lead (step.not_sent r a t e) = ap (sent_by (at r Sending)) e
fails_lead (step.not_put r a t e) = ap (put_by (at r Putting)) e
fails_lead (step.not_swept r a t e) = ap (swept_by (at r Sweeping)) e
fails_lead (step.bad_head r bytes e) = ap (bytes_read (at r Getting) bytes) e
fails_lead (step.last_epoch r bytes h e last) =
    ap (bytes_read (at r Getting) bytes) e
    ∙ ap (λ (b : Bool). cond b (stopping (at r Getting) (trouble.Exhausted counter.Epoch)) (phase_read h.phase (behind (at r Getting) h))) (nat_eq_same h.epoch (2 ^ 64 - 1) last)
fails_lead (step.bad_message r ms m e) = ap (gathered_by (at r Receiving)) e
fails_lead (step.bad_swept r ms m e) = ap (swept_with (at r Sweeping)) e
fails_lead (step.waits q loses other stale) =
    let waiting : Step = stopping (listed q []) (trouble.Waiting (length q.gathered.kept) q.wanted.count) in
    loses_lead loses
    ∙ (ap (λ (b : Bool). cond b (send_at (listed q []) 0) (cond q.gathered.fresh (goes_to Receiving (listed q [])) waiting)) (nat_eq_other (length q.gathered.kept) q.wanted.count other)
    ∙ ap (λ (b : Bool). cond b (goes_to Receiving (listed q [])) waiting) stale)

pub refusal_leads : (r : Recovery) (a : Answer) (t : Trouble) → given_of (lock.Client r.client) a ≡ Err t → recovery_next (at r Taking) a ≡ Stops (at r Taking) t
refusal_leads r a t e = ap (taken_by (at r Taking)) e

pub none_leads : (r : Recovery) → r.aim ≡ Settling → recovery_next (at r Getting) (call.Got None) ≡ releasing (at r Getting) (Ok Nothing)
none_leads r e = ap (λ (aim : Aim). none_read aim (at r Getting)) e
